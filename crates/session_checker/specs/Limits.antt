-- What a check answers whose looks at nodes have a limit.
use Rattle.std.specs.Prelude.{◌≡◌, ℕ, ◌+◌, ◌<◌, ◌≤◌, ◌⊎◌, ◌↔◌, List, Option, None, IfSome, IsSomeAnd, Result, Err, IfOk, IfErr, IsOk}
use Rattle.lazy_file.specs.SourceTexts.{Stated}
use Rattle.lazy_file.specs.Readings.{Reading, Reads}
use Rattle.image_reader.specs.Value.{ImageValue, IsImage, image_table}
use Rattle.image_reader.specs.Spelling.{spelling}
use Rattle.image_reader.specs.Looks.{looks_bound}
use Rattle.image_reader.specs.Accepted.{HasSources}
use Rattle.session_checker.specs.declared.fault.CheckFault.{CheckFault}
use Rattle.session_checker.specs.declared.fault.CheckFault.TheVariants.{Looks}
use Rattle.session_checker.specs.SourceRules.{IsFirstSourceFault}
use Rattle.session_checker.specs.NodeRules.{IsFirstNodeFault}
use Rattle.session_checker.specs.RevisionRules.{source_fault, source_fault_in}
use Rattle.session_checker.specs.Accepted.{IsAccepted, IsFirstFault, IsExact, NeedsNoRead, Accepts, BytesAsk}
use Rattle.session_checker.specs.Faithful.{IsFaithful}

-- the looks that an image's check may take are at most the limit, where there is one
abbrev pub AreLooksWithin : Option ℕ → ImageValue → Type 0
AreLooksWithin at_most v = IfSome at_most (λ most. looks_bound v ≤ most)

-- they are more
abbrev pub IsBeyond : Option ℕ → ImageValue → Type 0
IsBeyond at_most v = IsSomeAnd at_most (λ most. most < looks_bound v)

-- the bytes spell an image that has these sources, and whose check may take more looks than the limit: so many
pub record IsDear (at_most : Option ℕ) (sizes bytes : List ℕ) (bound : ℕ) : Type 0 where
  pub v : ImageValue
  pub image : IsImage v
  pub spelled : bytes ≡ spelling v
  pub sources : HasSources v sizes
  pub beyond : IsBeyond at_most v
  pub bound_is : bound ≡ looks_bound v

-- they spell no such image
abbrev pub IsNotDear : Option ℕ → List ℕ → List ℕ → Type 0
IsNotDear at_most sizes bytes = (bound : ℕ) → IsDear at_most sizes bytes bound → ⊥

-- the first fault of sources and nodes, where that of the looks stands between them
abbrev pub IsFirstTableFaultWithin : Option ℕ → ImageValue → List ℕ → CheckFault → Type 0
IsFirstTableFaultWithin at_most v sizes f =
    IsFirstSourceFault v sizes f
    ⊎ (HasSources v sizes × ((IsBeyond at_most v × (f ≡ Looks (looks_bound v)))
    ⊎ (AreLooksWithin at_most v × IsFirstNodeFault (image_table v) f)))

-- the first fault of bytes that are not accepted, where that of the looks stands before those of the nodes
abbrev pub IsFirstFaultWithin : Option ℕ → Stated → List ℕ → CheckFault → Type 0
IsFirstFaultWithin at_most st bytes f =
    ((bound : ℕ) × IsDear at_most st.sizes bytes bound × (f ≡ Looks bound))
    ⊎ (IsNotDear at_most st.sizes bytes × IsFirstFault st bytes f)

-- What a check with a limit answers: a dear image is refused with its bound, and of what is not dear all is answered as
-- without a limit.
pub record ChecksWithin (at_most : Option ℕ) (old new : Reading) (bytes : List ℕ) (r : Result ImageValue CheckFault)
    : Type 0 where
  pub faithful : IfOk r (λ v. IsFaithful v old.stated)
  pub image : IfOk r (λ v. IsImage v × (bytes ≡ spelling v))
  pub sources : IfOk r (λ v. HasSources v old.stated.sizes)
  pub accepted : IsOk r → IsAccepted bytes old.stated
  pub within : IfOk r (AreLooksWithin at_most)
  pub dear : (bound : ℕ) → ((r ≡ Err (Looks bound)) ↔ IsDear at_most old.stated.sizes bytes bound)
  pub refused : IfErr r (λ f. source_fault f ≡ None → IsFirstFaultWithin at_most old.stated bytes f)
  pub reads : Reads old new (BytesAsk old.stated bytes) (source_fault_in r)
  pub exact : IsNotDear at_most old.stated.sizes bytes → IsExact old.stated bytes r
  pub always : IsNotDear at_most old.stated.sizes bytes → (n : NeedsNoRead bytes old.stated.sizes) → Accepts r n.v

-- the looks that such a check takes: no more than the image's bound, no more than the limit, and none at what is dear
-- or no image
pub record TakesLooks (at_most : Option ℕ) (sizes bytes : List ℕ) (before after : ℕ) : Type 0 where
  pub bound : (v : ImageValue) → IsImage v → bytes ≡ spelling v → after ≤ before + looks_bound v
  pub limit : IfSome at_most (λ most. after ≤ before + most)
  pub none : (bound : ℕ) → IsDear at_most sizes bytes bound → after ≡ before
  pub no_image : ((v : ImageValue) → IsImage v → bytes ≡ spelling v → ⊥) → after ≡ before
