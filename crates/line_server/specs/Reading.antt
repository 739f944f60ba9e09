-- A line that is read.
use Rattle.std.specs.Prelude.{◌≡◌, ◌⊎◌, ℕ, Bool, true, false, List, Option, Result, Ok, Err}
use Rattle.std.specs.Io.KnownBytes.{Consumes}
use Rattle.line_server.specs.declared.fault.ServeFault.{ServeFault}
use Rattle.line_server.specs.declared.fault.ServeFault.TheVariants.{Read, Memory}
use Rattle.line_server.specs.Turns.{EndsThere, HasNoEnd, ended}

-- A line is read to its end, and stands in the room without it; or there is no such line, and the room has what is left;
-- or what was read of it is lost.
abbrev pub ReadsLine : Option (List ℕ) → Option (List ℕ) → List ℕ → Result Bool ServeFault → Type 0
ReadsLine before left room (Ok true) = HasNoEnd room × Consumes before left (ended room)
ReadsLine before left room (Ok false) = HasNoEnd room × Consumes before left room × EndsThere before left
ReadsLine before left room (Err fault) =
    (rest : List ℕ) × Consumes before left rest × ((fault ≡ Read) ⊎ (fault ≡ Memory))
