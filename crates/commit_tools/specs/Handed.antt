-- Changes as a session takes them.
use Rattle.std.specs.Prelude.{◌≡◌, ℕ, ◌+◌, ◌-◌, List, [], ◌∷◌, map, take, drop, slice_range}
use Rattle.std.specs.List.{flat_map}
use Rattle.command_parts.specs.Commands.{replaced}
use Rattle.edit_commands.specs.declared.command.Change as Session
use Rattle.line_changes.specs.declared.change.Change as Line
use Rattle.commit_tools.specs.declared.batches.Batch.{Batch}
use Rattle.commit_tools.specs.declared.found.Found.{Found}
use Rattle.commit_tools.specs.Found.{file_middle}

-- a change behind the `front` bytes that both texts have in common
abbrev pub shifted : ℕ → Line.Change → Session.Change
shifted front c = record { p = front + c.from; m = c.to - c.from; n = c.put_to - c.put_from }

-- the bytes that changes put in, one behind the other
abbrev pub bytes_put : List ℕ → List Line.Change → List ℕ
bytes_put new changes = flat_map (λ (c : Line.Change). slice_range new c.put_from c.put_to) changes

-- a text with changes made that take these bytes one behind the other: the last one first
abbrev pub with_handed : List ℕ → List Session.Change → List ℕ → List ℕ
with_handed t [] bytes = t
with_handed t (c ∷ changes) bytes = replaced (with_handed t changes (drop c.n bytes)) c.p c.m (take c.n bytes)

-- a batch hands in these changes
pub record IsHandedBatch (found : Found) (file : List ℕ) (changes : List Line.Change) (batch : Batch) : Type 0 where
  pub changes_are : batch.changes.items ≡ map (shifted found.front) changes
  pub bytes_are : batch.bytes.items ≡ bytes_put (file_middle found file) changes
