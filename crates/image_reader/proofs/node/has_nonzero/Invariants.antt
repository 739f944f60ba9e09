use Rattle.std.proofs.Common.{◌≡◌, drop}
use Rattle.image_reader.specs.Reading.{any_nonzero}
use Rattle.image_reader.proofs.node.has_nonzero.Given as goal

abbrev pub invariant-loop-byte : goal.invariant-loop-byte
invariant-loop-byte l = any_nonzero (drop l.byte-index l.bytes) ≡ any_nonzero l.bytes
