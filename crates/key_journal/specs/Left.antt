-- What a reader whose bytes are kept has left, and what is kept.
use Rattle.std.specs.Prelude.{◌≡◌, ℕ, IsTrue, List, [], ◌∷◌, Option, Some, None, option_to_list}
use Rattle.std.specs.Io.KnownBytes.{Consumes, IsAtEnd, prepend_known}
use Rattle.key_journal.specs.Keys.{goes_on}
use Rattle.key_journal.specs.declared.kept.Kept.{Kept}
use Rattle.key_journal.specs.declared.kept.KeepFault.{KeepFault}
use Rattle.key_journal.specs.declared.kept.KeepFault.TheVariants.{Read, Write}

-- the byte that was read and not given, and what the inner reader has left
abbrev pub keys_left : {R W : Type 0} → (R → Option (List ℕ)) → Kept R W → Option (List ℕ)
keys_left remaining k = prepend_known (option_to_list k.held) (remaining k.inner)

-- the bytes of the journal
abbrev pub keys_kept : {R W : Type 0} → (W → Option (List ℕ)) → Kept R W → Option (List ℕ)
keys_kept contents k = contents k.journal

-- the next byte is the first, or there is none
abbrev pub IsNextByte : Option (List ℕ) → Option (List ℕ) → Option ℕ → Type 0
IsNextByte old new (Some b) = Consumes old new (b ∷ [])
IsNextByte old new None = Consumes old new [] × IsAtEnd new

-- why no key was given: none could be read, and none is held; or one that goes on is held, and could not be kept
abbrev pub IsKeepFault : {R W : Type 0} → Kept R W → KeepFault → Type 0
IsKeepFault k Read = k.held ≡ None
IsKeepFault k Write = (b : ℕ) × (k.held ≡ Some b) × IsTrue (goes_on b)
