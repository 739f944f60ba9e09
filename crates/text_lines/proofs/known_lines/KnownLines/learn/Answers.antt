use Rattle.std.proofs.Common.{◌≡◌, ◌<◌, ◌∙◌, true, false, [], ◌∷◌, ◌++◌, List, length, get_or, sym, ap, subst, take_all}
use Rattle.text_lines.specs.declared.known.KnownLine.{KnownLine}
use Rattle.text_lines.specs.declared.known_lines.TheConstants.{MOST_LINES}
use Rattle.text_lines.specs.KnownLines.{known_lines, learnt}
use Rattle.text_lines.proofs.LearntLines.{learnt_past, learnt_with, learnt_without}
use Rattle.text_lines.proofs.known_lines.KnownLines.learn.Goals.{then-stays_beside+then-has_room, else-stays_beside, else-stays_beside-via-then-stays_beside+else-has_room, else-stays_beside-via-else-stays_beside}
use Rattle.text_lines.proofs.known_lines.KnownLines.learn.Goals as goal

pub loop-other-preserved : goal.loop-other-preserved
loop-other-preserved c =
    let known = c.lines-other-items.result.now in
    let k = c.loop-other.other-index in
    let d : KnownLine = record { start = 0; end = 0 } in
    let so_far = c.loop-other.invariant in
    elim c.if-stays_beside.branch [
      | then-stays_beside+then-has_room w ↦
          ap known_lines w.later-is ∙ w.push-then-has_room.ensures ∙ ap (λ (xs : List KnownLine). xs ++ get_or known k d ∷ []) so_far
          ∙ learnt_with c.args.line known k d c.loop-other-test.true (sym c.stays_beside.ensures ∙ w.if-stays_beside.true) (subst (λ (xs : List KnownLine). length xs < MOST_LINES) so_far (w.has_room.ensures.0 w.if-has_room.true))
      | else-stays_beside w ↦ ap known_lines w.later-is ∙ so_far ∙ elim w.else-stays_beside.branch [
        | else-stays_beside-via-then-stays_beside+else-has_room v ↦
            learnt_past c.args.line known k d c.loop-other-test.true (sym c.stays_beside.ensures ∙ v.if-stays_beside.true)
            (λ room. let told : true ≡ false = sym (v.has_room.ensures.1 (subst (λ (xs : List KnownLine). length xs < MOST_LINES) (sym so_far) room)) ∙ v.if-has_room.false in cc)
        | else-stays_beside-via-else-stays_beside v ↦ learnt_without c.args.line known k d c.loop-other-test.true (sym c.stays_beside.ensures ∙ v.if-stays_beside.false)
      ]
    ]

pub returns-clause-long : goal.returns-clause-long
returns-clause-long c is_long = c.loop-other.invariant ∙ ap (learnt c.args.line) (take_all c.loop-other.other-index c.lines-other-items.result.now c.loop-other-test.false ∙ c.lines-other-items.ensures.lines)
