use Rattle.rope_node.specs.declared.node.Span.{Span}
use Rattle.span_certificate.proofs.RowEnds.{leaves_end, both_stand}
use Rattle.span_certificate.proofs.Walks.{reached_same, row_through}
use Rattle.span_certificate.proofs.walk.ends_row.Goals as goal

pub leaf_row-requires-clause-x : goal.leaf_row-requires-clause-x
leaf_row-requires-clause-x g c =
    (both_stand (g.S.CountedSpace.table c.args.space.now) c.requires.sound c.requires.true_records c.args.x c.args.y c.args.a c.args.b c.min-len.result c.requires.len c.requires.a c.requires.b c.min-len.ensures).reached.first.is_span

pub leaf_row-requires-clause-y : goal.leaf_row-requires-clause-y
leaf_row-requires-clause-y g c =
    (both_stand (g.S.CountedSpace.table c.args.space.now) c.requires.sound c.requires.true_records c.args.x c.args.y c.args.a c.args.b c.min-len.result c.requires.len c.requires.a c.requires.b c.min-len.ensures).reached.second.is_span

pub leaf_row-requires-clause-same : goal.leaf_row-requires-clause-same
leaf_row-requires-clause-same g c =
    let t = g.S.CountedSpace.table c.args.space.now in
    let walked = both_stand t c.requires.sound c.requires.true_records c.args.x c.args.y c.args.a c.args.b c.min-len.result c.requires.len c.requires.a c.requires.b c.min-len.ensures in
    let first : Span = record { node = c.args.a.node; start = c.args.a.start; len = c.min-len.result } in
    let second : Span = record { node = c.args.b.node; start = c.args.b.start; len = c.min-len.result } in
    reached_same t c.requires.sound c.requires.true_records c.args.x c.args.y first second c.requires.x c.requires.y walked.reached c.requires.same

pub returns : goal.returns
returns g c =
    let t = g.S.CountedSpace.table c.args.space.now in
    let walked = both_stand t c.requires.sound c.requires.true_records c.args.x c.args.y c.args.a c.args.b c.min-len.result c.requires.len c.requires.a c.requires.b c.min-len.ensures in
    let first : Span = record { node = c.args.a.node; start = c.args.a.start; len = c.min-len.result } in
    let second : Span = record { node = c.args.b.node; start = c.args.b.start; len = c.min-len.result } in
    record {
      row = row_through t c.requires.sound c.requires.true_records (g.S.CountedSpace.coded c.args.space.now) c.args.x c.args.y first second c.leaf_row.result c.requires.y walked.reached c.leaf_row.ensures.row;
      longest = leaves_end t c.requires.sound c.requires.true_records c.args.x c.args.y first second c.requires.x c.requires.y walked c.leaf_row.result.len c.leaf_row.result.kind c.leaf_row.ensures.ends;
    }
