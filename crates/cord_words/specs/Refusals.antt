-- How a command line is refused.
use Rattle.std.specs.Prelude.{◌≡◌, ◌≢◌, ⊤}
use Rattle.clap.specs.Words.{IsAmong, Kinds, kind_of}
use Rattle.clap.specs.declared.error.Error.{Error}
use Rattle.clap.specs.declared.error.kind.ErrorKind.{ErrorKind}
use Rattle.clap.specs.declared.error.kind.ErrorKind.TheVariants.{DisplayVersion, OutOfMemory}
use Rattle.cord_words.specs.declared.fault.WordsFault.{WordsFault}
use Rattle.cord_words.specs.declared.fault.WordsFault.TheVariants.{Usage, Version, Memory}

abbrev pub fault_of_kind : ErrorKind → Error → WordsFault
fault_of_kind OutOfMemory e = Memory
fault_of_kind DisplayVersion e = Version e
fault_of_kind _ e = Usage e

-- what an error of `clap` comes to
abbrev pub fault_from : Error → WordsFault
fault_from e = fault_of_kind (kind_of e) e

-- memory ran out, or the error for the user has one of these kinds; one that has the version is told apart
abbrev pub FailsAs : Kinds → WordsFault → Type 0
FailsAs kinds Memory = ⊤
FailsAs kinds (Version e) = (kind_of e ≡ DisplayVersion) × IsAmong (kind_of e) kinds
FailsAs kinds (Usage e) = (kind_of e ≢ DisplayVersion) × IsAmong (kind_of e) kinds
