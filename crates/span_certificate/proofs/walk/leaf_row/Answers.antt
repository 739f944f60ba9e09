use Rattle.std.proofs.Common.{sym}
use Rattle.span_certificate.proofs.Walks.{row_at_leaves}
use Rattle.span_certificate.proofs.walk.leaf_row.Goals as goal

pub returns-clause-row : goal.returns-clause-row
returns-clause-row g c =
    row_at_leaves (g.S.CountedSpace.table c.args.space.now) c.requires.sound (g.S.CountedSpace.coded c.args.space.now) c.args.x c.args.y c.in-Some-Some.d c.in-Some-Some.e
    (record {
      is_x = c.requires.x;
      is_y = c.requires.y;
      len = c.requires.len;
      leaf_x = rw (← c.requires.of_x) c.requires.leaf_x;
      leaf_y = rw (← c.requires.of_y) c.requires.leaf_y;
      same = c.requires.same;
      of_x = rw (← c.requires.of_x) (sym c.in-Some-Some.ensures.value);
      of_y = rw (← c.requires.of_y) (sym c.in-Some-Some.ensures'.value);
    })
    c.described_row.result c.described_row.ensures.leaf c.described_row.ensures.bytes c.described_row.ensures.kind
