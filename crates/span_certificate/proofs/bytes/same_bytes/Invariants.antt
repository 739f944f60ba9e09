use Rattle.std.proofs.Common.{◌≡◌, ◌-◌, ◌+◌, ◌*◌, ◌≤◌}
use Rattle.span_certificate.specs.declared.looks.TheConstants.{LOOKS_LIMIT}
use Rattle.span_descent.specs.Trails.{AreWays}
use Rattle.span_certificate.proofs.RunLaws.{IsComparing}
use Rattle.span_certificate.proofs.bytes.same_bytes.Given as goal

abbrev pub invariant-loop-done : goal.invariant-loop-done
invariant-loop-done g l = record {
  comparing : IsComparing (g.S.CountedSpace.table l.space) (g.T.Sources.reading l.fn.sources).stated l.part l.off l.other l.place l.len l.done;
  looks : l.count ≤ l.fn.count + LOOKS_LIMIT * l.done;
  ways : AreWays g.W.Way.is_way (g.S.CountedSpace.table l.space) l.ways;
  reads : g.T.Sources.reading l.sources ≡ g.T.Sources.reading l.fn.sources;
}

abbrev pub decreases-loop-done : goal.decreases-loop-done
decreases-loop-done g l = l.len - l.done
