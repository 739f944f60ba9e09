use Rattle.std.proofs.Common.{sym}
use Rattle.span_certificate.proofs.Walks.{described_row_fits}
use Rattle.span_certificate.proofs.walk.next_leaf.Goals as goal

pub returns-clause-row : goal.returns-clause-row
returns-clause-row g c =
    described_row_fits (g.S.CountedSpace.table c.args.space.now) c.requires.way.sound c.requires.way.true_records (g.S.CountedSpace.coded c.args.space.now) c.args.d c.in-Some.e c.args.y c.first_leaf-z.result.span
    (record {
      is_y = c.requires.y;
      reached = c.first_leaf-z.ensures.leaf.reached;
      leaf = rw (← c.first_leaf-z.ensures.leaf.view) c.first_leaf-z.ensures.leaf.leaf;
      cells = c.requires.same;
      of_z = rw (← c.first_leaf-z.ensures.leaf.view) (sym c.in-Some.ensures.value);
    })
    c.described_row.result c.described_row.ensures.leaf c.described_row.ensures.bytes c.described_row.ensures.kind
