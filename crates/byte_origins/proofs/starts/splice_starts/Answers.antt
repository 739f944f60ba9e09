use Rattle.std.proofs.Common.{arith, ◌∷◌, [], ◌++◌, ◌∙◌, ℕ, List, map, ap, sym}
use Rattle.std.specs.List.{range_with_len}
use Rattle.std.proofs.lemmas.List.FromFn.{map-range_with_len_more}
use Rattle.image_reader.specs.Accepted.{splices_before}
use Rattle.byte_origins.proofs.starts.splice_starts.Goals as goal

pub loop-r-preserved : goal.loop-r-preserved
loop-r-preserved g c =
    let v = g.H.History.image c.args.history in
    let r = c.loop-r.r in
    let starts = map (splices_before v) (range_with_len 0 r) in
    let more = map-range_with_len_more (splices_before v) 0 r r (omega arith) in
    let items =
    c.in_ok-push.ensures.items ∙ ap (λ (xs : List ℕ). xs ++ c.loop-r.first ∷ []) c.loop-r.invariant.0
    ∙ ap (λ (n : ℕ). starts ++ n ∷ []) c.loop-r.invariant.1 ∙ sym more in
    (items, c.next_start-first.ensures)
