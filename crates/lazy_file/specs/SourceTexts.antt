-- What sources state: their sizes, and the texts of those that state one.
use Rattle.std.specs.Prelude.{◌≡◌, ℕ, ◌+◌, ◌<◌, ◌≤◌, Bool, ◌&&◌, nat_lt, nat_le, true, List, Option, Some, None, length, map, slice_index, All}
use Rattle.std.specs.List.{slice_index_or}
use Rattle.lazy_file.specs.declared.sources.TheConstants.{COUNT_LIMIT, SOURCE_LIMIT}

-- what sources state: the size of each, the text of each that states one, and whether no read of
-- what is there ever fails
pub record Stated : Type 0 where
  pub sizes : List ℕ
  pub texts : List (Option (List ℕ))
  pub never_fails : Bool

-- texts in memory: each its whole text, of its own length
abbrev pub stated_in_memory : List (List ℕ) → Stated
stated_in_memory xs = record { sizes = map length xs; texts = map Some xs; never_fails = true }

-- the sizes of the sources that there may be
pub record AreSizes (sizes : List ℕ) : Type 0 where
  pub count : length sizes ≤ COUNT_LIMIT
  pub each : All (λ n. n ≤ SOURCE_LIMIT) sizes

-- source s is there, and n bytes from off on lie inside its size
abbrev pub holds_span : Stated → ℕ → ℕ → ℕ → Bool
holds_span st s off n = nat_lt s (length st.sizes) && nat_le (off + n) (slice_index st.sizes s)

-- the text that source s states
abbrev pub text_at : Stated → ℕ → Option (List ℕ)
text_at st s = slice_index_or st.texts s None

-- one reading of what the sources state: each text, continued by any bytes
abbrev pub Agrees : Stated → (ℕ → ℕ → ℕ) → Type 0
Agrees st source = (s p : ℕ) (t : List ℕ) → text_at st s ≡ Some t → p < length t → source s p ≡ slice_index t p
