-- The beginnings of runs and of what lies side by side.
use Rattle.std.proofs.Common.{◌≡◌, ℕ, ◌≤◌, List, [], map, length, take, sym, ap, ◌∙◌, arith}
use Rattle.std.specs.List.{range_with_len}
use Rattle.std.proofs.lemmas.List.{take-take, take-map, get_or_past}
use Rattle.rope_node.proofs.Parts.{span-range_with_len}
use Rattle.image_reader.specs.Value.{ImageValue}
use Rattle.byte_origins.specs.declared.run.Origin.{Origin}
use Rattle.byte_origins.specs.Origins.{origins_at, run_origins}
use Rattle.byte_origins.specs.Behind.{origin_behind}
use Rattle.byte_origins.proofs.Lengths.{all_origins, length-all_origins}

pub shorter : (n m : ℕ) (xs ys : List Origin) → take m xs ≡ take m ys → n ≤ m → take n xs ≡ take n ys
shorter n m xs ys same le = sym (take-take n m xs le) ∙ ap (take n) same ∙ take-take n m ys le

pub take-run : (n len : ℕ) (first : Origin) → n ≤ len → take n (run_origins (record { first = first; len = len })) ≡ run_origins (record { first = first; len = n })
take-run n len first le = take-map (origin_behind first) n (range_with_len 0 len) ∙ ap (map (origin_behind first)) (span-range_with_len n 0 0 len (omega (arith, le)))

-- past the last revision there are no origins
pub none_past : (v : ImageValue) (k : ℕ) → length v.revisions ≤ k → length (origins_at v k) ≡ 0
none_past v k past = ap (λ (os : List Origin). length os) (get_or_past (all_origins v) k [] (omega (arith, past, length-all_origins v)))
