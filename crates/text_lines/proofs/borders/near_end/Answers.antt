use Rattle.std.proofs.Common.{◌≡◌, ◌+◌, length, sym, subst, ◌∙◌, arith}
use Rattle.rope_node.specs.Denotes.{rope_cells, text}
use Rattle.cord_search.specs.declared.runs.TheConstants.{PIECE}
use Rattle.cord_search.proofs.Fetches.{text_length}
use Rattle.text_lines.specs.declared.known_lines.KnownLines.{KnownLines}
use Rattle.text_lines.specs.HeldBytes.{HoldsText}
use Rattle.text_lines.specs.KnownLines.{IsKnownIn}
use Rattle.text_lines.specs.Lines.{line_end}
use Rattle.text_lines.proofs.HeldLaws.{end_behind, not_told, ok_any}
use Rattle.text_lines.proofs.KnownLaws.{known_end}
use Rattle.text_lines.proofs.ToldLater.{told_then}
use Rattle.text_lines.proofs.borders.near_end.Goals.{in-Some-end_among+else-tells, in_default-end_among}
use Rattle.text_lines.proofs.borders.near_end.Goals as goal

pub returns-in-Some-clause-is : goal.returns-in-Some-clause-is
returns-in-Some-clause-is g c source agrees stated =
    let t = g.S.NodeSpace.table c.args.space.now in
    let u = text source (rope_cells t c.args.rope) in
    let long : length u ≡ c.rope_len-len.result = text_length t c.args.rope source ∙ sym c.rope_len-len.ensures.cells in
    let held = c.requires.held.told source agrees stated in
    let end = known_end u c.known.result.now c.args.start c.in-Some.line c.in-Some.ensures.holds (subst (λ (o : KnownLines). IsKnownIn o u) (sym c.known.ensures) held.known) in
    omega (arith, c.min.ensures, end.0, end.1, long)

pub returns-then-leaf_left-clause-held : goal.returns-then-leaf_left-clause-held
returns-then-leaf_left-clause-held g c =
    let same : c.leaf_left.new.self ≡ c.args.held.now =
    c.leaf_left.ensures.same
    ∙ elim c.match-end_among.branch [ in-Some-end_among+else-tells w ↦ w.held-is ∙ w.tells.ensures | in_default-end_among w ↦ w.held-is ] in
    ok_any (HoldsText (g.S.NodeSpace.table c.args.space.now) (g.T.Sources.reading c.args.sources.now) c.args.rope c.leaf_left.new.self) c.line_end_with.result (rw same c.requires.held)

pub returns-in-Some-end_among-2-clause-is : goal.returns-in-Some-end_among-2-clause-is
returns-in-Some-end_among-2-clause-is g c source agrees stated =
    let t = g.S.NodeSpace.table c.args.space.now in
    c.in-Some-end_among-2.ensures.is (text source (rope_cells t c.args.rope)) (c.in_ok-hold_before.ensures.held.told source agrees stated) (c.rope_len-len.ensures.cells ∙ sym (text_length t c.args.rope source))

pub returns-clause-is : goal.returns-clause-is
returns-clause-is g c source agrees stated =
    let t = g.S.NodeSpace.table c.args.space.now in
    let u = text source (rope_cells t c.args.rope) in
    let start = c.args.start in
    let read = c.in_ok-hold_before.ensures in
    told_then t (g.T.Sources.reading c.args.sources.now) (g.T.Sources.reading c.hold_before.new.sources) c.args.rope (λ v. c.in_ok-end.end ≡ line_end v (start + PIECE)) read.reads c.in_ok-end.ensures.is source agrees stated
    ∙ end_behind u c.hold_before.new.self start PIECE (read.held.told source agrees stated) (omega (arith, read.span.0)) (omega (arith, read.span.1)) (not_told c.end_among-2.result c.end_among-2.ensures.told c.in_default-end_among-2.is)

pub returns-clause-held : goal.returns-clause-held
returns-clause-held g c = c.in_ok-hold_before.ensures.held
