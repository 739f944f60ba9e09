-- How the sources handed in differ from an image's.
use Rattle.std.specs.Prelude.{◌≡◌, ℕ, ◌<◌, List, length, get_or}
use Rattle.image_reader.specs.Value.{ImageValue}
use Rattle.session_checker.specs.declared.fault.CheckFault.{CheckFault}
use Rattle.session_checker.specs.declared.fault.CheckFault.TheVariants.{SourceCount, SourceLength}

-- source s is the first that is not as long as the image says
pub record IsFirstOtherLength (lengths sizes : List ℕ) (s : ℕ) : Type 0 where
  pub there : s < length lengths
  pub earlier : (r : ℕ) → r < s → get_or lengths r 0 ≡ get_or sizes r 0
  pub other : ¬ (get_or lengths s 0 ≡ get_or sizes s 0)

-- there are more or fewer of them, or else one is not as long as the image says, this one first
pub data IsFirstSourceFault (v : ImageValue) (sizes : List ℕ) : CheckFault → Type 0 where
  count : {f : CheckFault} → ¬ (length v.sources ≡ length sizes) → f ≡ SourceCount → IsFirstSourceFault v sizes f
  other_length : {f : CheckFault} (s : ℕ) → length v.sources ≡ length sizes → IsFirstOtherLength v.sources sizes s
      → f ≡ SourceLength s → IsFirstSourceFault v sizes f
