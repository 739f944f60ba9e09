use Rattle.std.proofs.Common.{◌≡◌, length}
use Rattle.image_reader.specs.Accepted.{splices_before}
use Rattle.byte_origins.specs.OriginTexts.{NameTexts}
use Rattle.byte_origins.proofs.ropes.extend.Given as goal

abbrev pub invariant-loop-k : goal.invariant-loop-k
invariant-loop-k l = NameTexts l.fn.image l.texts l.roots.items × (length l.roots.items ≡ l.k) × (l.first ≡ splices_before l.fn.image l.k)
