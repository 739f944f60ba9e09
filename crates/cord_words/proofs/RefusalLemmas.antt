-- What an error of `clap` comes to.
use Rattle.std.proofs.Common.{◌≡◌, ◌⊎◌, ap, sym, subst, refl, inl, inr, [], ◌∷◌}
use Rattle.clap.specs.Kinds.{or_else}
use Rattle.clap.specs.Words.{HasKind, IsAmong, Kinds, kind_of}
use Rattle.clap.specs.declared.error.Error.{Error}
use Rattle.clap.specs.declared.error.kind.ErrorKind.{ErrorKind}
use Rattle.clap.specs.declared.error.kind.ErrorKind.TheVariants.{DisplayVersion, OutOfMemory}
use Rattle.cord_words.specs.declared.fault.WordsFault.{WordsFault}
use Rattle.cord_words.specs.declared.fault.WordsFault.TheVariants.{Memory, Usage, Version}
use Rattle.cord_words.specs.Refusals.{FailsAs, fault_from, fault_of_kind}

pub memory_from : (e : Error) → kind_of e ≡ OutOfMemory → fault_from e ≡ Memory
memory_from e out = ap (λ k. fault_of_kind k e) out

pub fails_from : (kinds : Kinds) (e : Error) → HasKind kinds e → FailsAs kinds (fault_from e)
fails_from kinds e has = go (kind_of e) refl has
  where
    go : (k : ErrorKind) → kind_of e ≡ k → (k ≡ OutOfMemory) ⊎ IsAmong k kinds → FailsAs kinds (fault_of_kind k e)
    go OutOfMemory at h = tt
    go _ at (inl h) = absurd cc
    go DisplayVersion at (inr h) = (at, subst (λ x. IsAmong x kinds) (sym at) h)
    go _ at (inr h) = ((λ version. absurd cc), subst (λ x. IsAmong x kinds) (sym at) h)

pub fails_first : (first second : Kinds) (f : WordsFault) → FailsAs first f → FailsAs (or_else first second) f
fails_first first second Memory h = tt
fails_first [] second (Usage e) h = absurd h.1
fails_first (k ∷ ks) second (Usage e) h = h
fails_first [] second (Version e) h = absurd h.1
fails_first (k ∷ ks) second (Version e) h = h
