-- Bytes on their way to a writer: some were sent, and others are held.
use Rattle.std.specs.Prelude.{◌≡◌, ℕ, List, ◌++◌, Option, Result, OnOk, OnErr}
use Rattle.std.specs.Io.KnownBytes.{Appends}
use Rattle.std.specs.Borrow.{GName}
use Rattle.byte_output.specs.Prefix.{AppendsPrefix}
use Rattle.byte_output.specs.declared.writing.WriteFault.{WriteFault}
use Rattle.session_image.specs.declared.gathered.Gathered.{Gathered}

-- which writer it is, what is known of its bytes, and what is held for it
pub record Output : Type 0 where
  pub name : GName
  pub known : Option (List ℕ)
  pub held : List ℕ

-- that of a writer and the bytes that it is to take next
abbrev pub output : {W : Type 0} {n : ℕ} → (W → Option (List ℕ)) → Gathered W n → Output
output contents g = record { name = g.writer.ghost_name; known = contents g.writer.now; held = g.held }

-- what was held and then the bytes are what was sent and then what is held now
pub record SendsAndHolds (old new : Output) (bytes : List ℕ) : Type 0 where
  pub same : new.name ≡ old.name
  pub sent : List ℕ
  pub all : old.held ++ bytes ≡ sent ++ new.held
  pub grows : Appends old.known new.known sent

-- a prefix of what was held and then the bytes was sent
pub record SendsPrefix (old new : Output) (bytes : List ℕ) : Type 0 where
  pub same : new.name ≡ old.name
  pub grows : AppendsPrefix old.known new.known (old.held ++ bytes)

-- the bytes are sent or held, or a prefix was sent where the writer failed
pub record WritesGathered (old new : Output) (bytes : List ℕ) (result : Result (Unit {0}) WriteFault) : Type 0 where
  pub ok : OnOk result (SendsAndHolds old new bytes)
  pub err : OnErr result (SendsPrefix old new bytes)

-- what was held is sent, or a prefix of it where the writer failed
pub record Flushes (old new : Output) (result : Result (Unit {0}) WriteFault) : Type 0 where
  pub same : new.name ≡ old.name
  pub ok : OnOk result (Appends old.known new.known old.held)
  pub err : OnErr result (AppendsPrefix old.known new.known old.held)
