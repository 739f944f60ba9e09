use Rattle.std.proofs.Common.{◌≡◌, map}
use Rattle.std.specs.List.{range_with_len}
use Rattle.image_reader.specs.Accepted.{splices_before}
use Rattle.byte_origins.proofs.starts.splice_starts.Given as goal

abbrev pub invariant-loop-r : goal.invariant-loop-r
invariant-loop-r g l = (l.starts.items ≡ map (splices_before (g.H.History.image l.fn.history)) (range_with_len 0 l.r)) × (l.first ≡ splices_before (g.H.History.image l.fn.history) l.r)
