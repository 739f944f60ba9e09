-- The versions of the format.
use Rattle.std.specs.Prelude.{ℕ, Bool, true, false, ◌==◌, if◌then◌else◌}
use Rattle.command_parts.specs.declared.codes.TheConstants.{BALANCE, MANY}
use Rattle.image_reader.specs.declared.version.FormatVersion.{FormatVersion}
use Rattle.image_reader.specs.declared.version.FormatVersion.TheVariants.{One, Two}
use Rattle.image_reader.specs.declared.version.TheConstants.{VERSION_ONE, VERSION_TWO}

-- the number of a version
abbrev pub version_number : FormatVersion → ℕ
version_number One = VERSION_ONE
version_number Two = VERSION_TWO

-- the version of a number; one that stands for none is read as version 1
abbrev pub version_by : ℕ → FormatVersion
version_by n = if n == VERSION_TWO then Two else One

-- whether it is version 2, which has splices
abbrev pub is_two : FormatVersion → Bool
is_two One = false
is_two Two = true

-- the highest code of its commands
abbrev pub last_code : FormatVersion → ℕ
last_code One = BALANCE
last_code Two = MANY
