use Rattle.std.proofs.Common.{◌≡◌, ◌-◌, ℕ, length, take, drop, ap, ◌∙◌, append_assoc, arith}
use Rattle.std.specs.Prelude.{replicate}
use Rattle.image_reader.specs.Layout.{spelled}
use Rattle.image_reader.specs.Spelling.{function_layout, function_numbers}
use Rattle.std.proofs.lemmas.List.{drop-replicate, take_all, length-replicate}
use Rattle.session_image.proofs.nodes.padded_record.Goals as goal

pub returns : goal.returns
returns c =
    let n : ℕ = length c.args.bytes.now in
    let zeros : take {A = ℕ} (16 - n) (drop n (replicate 16 0)) ≡ replicate (16 - n) 0 = ap (take (16 - n)) (drop-replicate n 16 0) ∙ take_all (16 - n) (replicate (16 - n) 0) (omega (arith, length-replicate {A = ℕ} (16 - n) 0)) in
    rw (c.push-2.ensures.bytes, c.push.ensures.bytes, c.function_fields-record.ensures.value, zeros) (append_assoc (spelled function_layout (function_numbers c.args.depth c.args.len c.args.code c.args.size)) c.args.bytes.now (replicate (16 - n) 0))
