-- Which revision of an image is wanted.
use Rattle.std.specs.Prelude.{ℕ, ◌-◌}
use Rattle.session_checker.specs.declared.wanted.WantedRevision.{WantedRevision}
use Rattle.session_checker.specs.declared.wanted.WantedRevision.TheVariants.{Number, Last}

-- the number of a wanted revision among so many; where there are none it is 0, which is no revision's
abbrev pub wanted_number : WantedRevision → ℕ → ℕ
wanted_number (Number k) count = k
wanted_number Last count = count - 1
