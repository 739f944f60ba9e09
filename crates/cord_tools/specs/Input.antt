-- What is read of a reader's bytes.
use Rattle.std.specs.Prelude.{◌≡◌, ℕ, ◌<◌, ◌≤◌, List, ◌++◌, length, Option}
use Rattle.std.specs.Io.KnownBytes.{Consumes, IsAtEnd}

-- more bytes were read, and lie behind those that were there
pub record ReadsBehind (left left_after : Option (List ℕ)) (old new : List ℕ) : Type 0 where
  pub more : List ℕ
  pub read : Consumes left left_after more
  pub behind : new ≡ old ++ more

-- so until they were so many, or the reader ended
pub record ReadsUpTo (limit : ℕ) (left left_after : Option (List ℕ)) (old new : List ℕ) : Type 0 where
  pub bytes : ReadsBehind left left_after old new
  pub few : length new ≤ limit
  pub all : length new < limit → IsAtEnd left_after
