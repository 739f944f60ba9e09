use Rattle.std.proofs.Common.{◌≡◌, ℕ, ◌-◌, ◌<◌, ◌≤◌, ◌∷◌, [], length, refl, sym, subst, ◌∙◌, arith}
use Rattle.rope_node.specs.Denotes.{rope_cells, text}
use Rattle.cord_search.specs.declared.runs.TheConstants.{PIECE}
use Rattle.cord_search.proofs.Fetches.{text_length}
use Rattle.text_lines.specs.declared.known_lines.KnownLines.{KnownLines}
use Rattle.text_lines.specs.HeldBytes.{HoldsText}
use Rattle.text_lines.specs.KnownLines.{IsKnownIn}
use Rattle.text_lines.specs.Lines.{line_start}
use Rattle.text_lines.proofs.HeldLaws.{none_before, not_told}
use Rattle.text_lines.proofs.KnownLaws.{known_start}
use Rattle.text_lines.proofs.LineLaws.{not_there}
use Rattle.text_lines.proofs.ToldLater.{told_then}
use Rattle.text_lines.proofs.WindowLaws.{same_start}
use Rattle.text_lines.proofs.borders.near_start.Goals as goal

pub returns-in-Some-clause-is : goal.returns-in-Some-clause-is
returns-in-Some-clause-is g c source agrees stated =
    let u = text source (rope_cells (g.S.NodeSpace.table c.args.space.now) c.args.rope) in
    let held = c.requires.held.told source agrees stated in
    known_start u c.known.result.now c.args.place c.in-Some.line c.in-Some.ensures.holds (subst (λ (o : KnownLines). IsKnownIn o u) (sym c.known.ensures) held.known)

pub returns-in-Some-start_among-clause-is : goal.returns-in-Some-start_among-clause-is
returns-in-Some-start_among-clause-is g c source agrees stated =
    let t = g.S.NodeSpace.table c.args.space.now in
    let same : HoldsText t (g.T.Sources.reading c.args.sources.now) c.args.rope c.is_straight-straight.new.self = rw c.is_straight-straight.ensures.same c.requires.held in
    c.in-Some-start_among.ensures.is (text source (rope_cells t c.args.rope)) (same.told source agrees stated)

pub returns-in-Some-start_among-2-clause-is : goal.returns-in-Some-start_among-2-clause-is
returns-in-Some-start_among-2-clause-is g c source agrees stated =
    c.in-Some-start_among-2.ensures.is (text source (rope_cells (g.S.NodeSpace.table c.args.space.now) c.args.rope)) (c.in_ok-hold_before.ensures.held.told source agrees stated)

pub returns-clause-is : goal.returns-clause-is
returns-clause-is g c source agrees stated =
    let t = g.S.NodeSpace.table c.args.space.now in
    let u = text source (rope_cells t c.args.rope) in
    let place = c.args.place in
    let back = c.clear_behind-back.result in
    let held = c.in_ok-hold_before.ensures.held.told source agrees stated in
    let inside : place ≤ length u = omega (arith, text_length t c.args.rope source, c.rope_len.ensures.cells, c.rope_len.ensures.exact, c.requires.place) in
    let from : c.saturating_sub-from.result ≡ place - PIECE = c.saturating_sub-from.ensures in
    let span = c.in_ok-hold_before.ensures.span in
    let untold = not_told c.start_among-2.result c.start_among-2.ensures.told c.in_default-start_among-2.is in
    let none = λ (k : ℕ) (above : place - PIECE ≤ k) (below : k < place). none_before u c.hold_before.new.self place (place - PIECE) k held span.0 span.1 untold above below in
    let clear = c.clear_behind-back.ensures.clear source (0x0A ∷ []) refl (λ k above below. none k (omega (arith, above, from)) (omega (arith, below, from))) in
    let start = told_then t (g.T.Sources.reading c.args.sources.now) (g.T.Sources.reading c.hold_before.new.sources) c.args.rope (λ v. c.in_ok-start.start ≡ line_start v back) c.in_ok-hold_before.ensures.reads c.in_ok-start.ensures.is source agrees stated in
    start ∙ same_start u back place (omega (arith, c.clear_behind-back.ensures.before, from)) inside (λ k above below. not_there u k (omega (arith, below, inside)) (clear k above (omega (arith, below, from))))
