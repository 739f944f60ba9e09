use Rattle.std.proofs.Common.{◌≡◌, ◌+◌, ℕ, List, Option, Some, length, take, drop, refl, sym, subst, ap, ◌∙◌, arith}
use Rattle.std.specs.Prelude.{Ok, Err, IfOk}
use Rattle.std.proofs.lemmas.List.{length-drop, length-map, length-take}
use Rattle.std.proofs.lemmas.Result.{err_from_is_err_and}
use Rattle.lazy_file.proofs.LaterReads.{same_stated}
use Rattle.rope_node.specs.Table.{view_at, len_at, literal_bytes, IsLeaf, IsLiteral}
use Rattle.rope_node.specs.Denotes.{Byte, cells}
use Rattle.cord_position.specs.Fetched.{leaf_part}
use Rattle.cord_position.specs.Runs.{AreBytesOf}
use Rattle.cord_position.proofs.LeafParts.{bytes_of_bytes, literal_part}
use Rattle.cord_search.specs.Pieces.{IsPiece}
use Rattle.cord_search.specs.Seeking.{IsSeeking, IsSought}
use Rattle.cord_search.proofs.Looks.{leaf_period, same_part}
use Rattle.cord_search.proofs.NodePieces.{leaf_piece, piece_of_same, reads_in_span}
use Rattle.cord_search.proofs.look.+look_in.Goals as goal

pub returns-in-Below-clause-sought : goal.returns-in-Below-clause-sought
returns-in-Below-clause-sought g t c x begin whole seeking =
    let s = g.S.NodeSpace.table c.args.space.now in
    let span = c.args.span in
    let below = c.in-Below.below in
    let cells = c.in-Below.ensures.cells in
    let place = c.args.seeker.now.place in
    c.look_in.ensures.sought x begin (same_part s x span.node below.node place span.start below.start span.len 0 below.len place span.start whole (omega (arith, cells.few)) (omega arith) (omega arith) cells.same) seeking

pub returns-in-Below-clause-reads : goal.returns-in-Below-clause-reads
returns-in-Below-clause-reads g t c =
    let cells = c.in-Below.ensures.cells in
    reads_in_span (g.T.Sources.reading c.args.sources.now) (g.T.Sources.reading c.args.sources.now) (g.T.Sources.reading c.look_in.new.sources) (g.S.NodeSpace.table c.args.space.now) c.args.span c.in-Below.below c.args.span.start c.look_in.result
    refl cells.same (omega arith) (omega (arith, cells.few)) c.look_in.ensures.reads

pub returns-in_err-found-in-Across-clause-reads : goal.returns-in_err-found-in-Across-clause-reads
returns-in_err-found-in-Across-clause-reads g t c =
    let p = err_from_is_err_and c.from_residual.result c.from_residual.ensures.1 in
    let cells = c.in-Across.ensures.cells in
    rw (p.1, p.2) (reads_in_span {X = Option ℕ} (g.T.Sources.reading c.args.sources.now) (g.T.Sources.reading c.args.sources.now) (g.T.Sources.reading c.look_in-in-Across.new.sources) (g.S.NodeSpace.table c.args.space.now) c.args.span c.in-Across.first c.args.span.start
    (Err c.in_err-found-in-Across.field-0.0) refl cells.same (omega arith) (omega (arith, cells.few)) c.in_err-found-in-Across.ensures.reads)

pub look_in_leaf-requires-in-Fun-clause-repeats : goal.look_in_leaf-requires-in-Fun-clause-repeats
look_in_leaf-requires-in-Fun-clause-repeats g t c =
    leaf_period (g.S.NodeSpace.table c.args.space.now) c.node-view.ensures.sound c.args.span.node c.requires.span.there (sym c.node-view.ensures.view ∙ c.in-Fun.is) c.period-period.result c.period-period.ensures

pub returns-in-Some-clause-sought : goal.returns-in-Some-clause-sought
returns-in-Some-clause-sought g t c x begin whole seeking =
    let s = g.S.NodeSpace.table c.args.space.now in
    let span = c.args.span in
    let first = c.in-Across.first in
    let cells = c.in-Across.ensures.cells in
    let place = c.args.seeker.now.place in
    let part = same_part s x span.node first.node place span.start first.start span.len 0 first.len place span.start whole (omega (arith, cells.few)) (omega arith) (omega arith) cells.same in
    subst (λ (f : Option ℕ). IsSought s (g.T.Sources.reading c.args.sources.now).stated (Some x) begin c.look_in-in-Across.new.seeker f) c.in-Some.is (c.in_ok-found-in-Across.ensures.sought x begin part seeking)

pub returns-in_default-clause-sought : goal.returns-in_default-clause-sought
returns-in_default-clause-sought g t c x begin whole seeking =
    let s = g.S.NodeSpace.table c.args.space.now in
    let st = (g.T.Sources.reading c.args.sources.now).stated in
    let span = c.args.span in
    let first = c.in-Across.first in
    let others = c.in-Across.others in
    let across = c.in-Across.ensures in
    let place = c.args.seeker.now.place in
    let mid = c.look_in-in-Across.new.seeker in
    let last = c.look_in-in-Across-2 in
    let part = same_part s x span.node first.node place span.start first.start span.len 0 first.len place span.start whole (omega (arith, across.all)) (omega arith) (omega arith) across.cells.same in
    let passed : IsSeeking s st (Some x) begin mid = subst (λ (f : Option ℕ). IsSought s st (Some x) begin mid f) c.in_default.is (c.in_ok-found-in-Across.ensures.sought x begin part seeking) in
    let rest = same_part s x span.node others.node place span.start others.start span.len first.len others.len mid.place (span.start + first.len) whole (omega (arith, across.all))
    (c.in_ok-found-in-Across.ensures.place (ap Ok c.in_default.is)) (omega arith) across.other_cells.same in
    let stay = same_stated c.in_ok-found-in-Across.ensures.reads in
    subst (λ u. IfOk last.result (IsSought s u (Some x) begin last.new.seeker)) stay (last.ensures.sought x begin rest (subst (λ u. IsSeeking s u (Some x) begin mid) (sym stay) passed))

pub returns-in_default-clause-reads : goal.returns-in_default-clause-reads
returns-in_default-clause-reads g t c =
    let across = c.in-Across.ensures in
    let last = c.look_in-in-Across-2 in
    reads_in_span (g.T.Sources.reading c.args.sources.now) (g.T.Sources.reading c.look_in-in-Across.new.sources) (g.T.Sources.reading last.new.sources) (g.S.NodeSpace.table c.args.space.now) c.args.span c.in-Across.others (c.args.span.start + c.in-Across.first.len) last.result
    c.in_ok-found-in-Across.ensures.reads across.other_cells.same (omega arith) (omega (arith, across.all)) last.ensures.reads

pub returns-in-Lit-clause-sought : goal.returns-in-Lit-clause-sought
returns-in-Lit-clause-sought g t c x begin whole seeking =
    let s = g.S.NodeSpace.table c.args.space.now in
    let st = (g.T.Sources.reading c.args.sources.now).stated in
    let id = c.args.span.node.0 in
    let n = c.args.span.len in
    let place = c.args.seeker.now.place in
    let literal : IsLiteral (view_at s id) = subst IsLiteral (sym c.in-Lit.is ∙ c.node-view.ensures.view) tt in
    let leaf : IsLeaf (view_at s id) = subst IsLeaf (sym c.in-Lit.is ∙ c.node-view.ensures.view) tt in
    let part = literal_part s c.node-view.ensures.sound id c.args.span.start n c.requires.span.there c.requires.span.inside (view_at s id) refl literal in
    let run : List ℕ = take n (literal_bytes s c.args.span.start (len_at s id) (view_at s id)) in
    let here : AreBytesOf st (leaf_part s c.args.span.node c.args.span.start n) run = subst (λ cs. AreBytesOf st cs run) (sym part) (bytes_of_bytes st run) in
    let long : length run ≡ n = omega (arith, ap length part, length-take n (drop c.args.span.start (cells s id)), length-drop c.args.span.start (cells s id), whole.there, length-map run Byte) in
    let piece = piece_of_same s st x c.args.span.node place c.args.span.start n run whole long (leaf_piece s st c.args.span.node c.args.span.start n run c.requires.span.there leaf c.requires.span.some c.requires.span.inside long here) in
    let read : take n c.literal.result.now ≡ run = ap (take n) c.literal.ensures in
    c.take.ensures.sought s st (Some x) begin seeking (subst (IsPiece s st (Some x) place) (sym read) piece) (omega (arith, ap length read, long, whole.here))
