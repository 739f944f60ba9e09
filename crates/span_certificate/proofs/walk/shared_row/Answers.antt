use Rattle.std.proofs.Common.{ap}
use Rattle.rope_node.specs.declared.node.NodeId.{NodeId}
use Rattle.span_certificate.proofs.RowEnds.{shared_ends}
use Rattle.span_certificate.proofs.RowEnds.{both_stand}
use Rattle.span_certificate.proofs.walk.shared_row.Goals as goal

pub returns : goal.returns
returns g c =
    let t = g.S.CountedSpace.table c.args.space.now in
    let walked = both_stand t c.requires.sound c.requires.true_records c.args.x c.args.y c.args.a c.args.b c.min.result c.requires.len c.requires.a c.requires.b c.min.ensures in
    record {
      row = record {
        some = walked.reached.first.is_span.some;
        few = walked.reached.first.few;
        fits = (walked.reached.first.leads, rw (c.requires.same_node, c.requires.same_place) walked.reached.second.leads);
      };
      longest = λ short stay.
          shared_ends t c.requires.sound c.requires.true_records c.args.x c.args.y (record { node = c.args.a.node; start = c.args.a.start; len = c.min.result }) (record { node = c.args.b.node; start = c.args.b.start; len = c.min.result })
          walked (ap (λ (k : NodeId). k.0) c.requires.same_node) short stay;
    }
