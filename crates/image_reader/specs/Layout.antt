-- Records of fixed size: their fields one after the other, each a big-endian number of one, two, four or eight bytes.
use Rattle.std.specs.Prelude.{ℕ, zero, suc, ◌<◌, List, [], ◌∷◌, ◌++◌, take, drop, get_or}
use Rattle.std.specs.Int.{Width, byte_len, to_be_bytes, from_be_bytes}

-- each is a byte
abbrev pub IsBytes : List ℕ → Type 0
IsBytes bytes = (i : ℕ) → get_or bytes i 0 < 256

-- numbers spelled at these widths
unfoldable pub spelled : List Width → List ℕ → List ℕ
spelled [] ns = []
spelled (w ∷ ws) [] = []
spelled (w ∷ ws) (n ∷ ns) = to_be_bytes w n ++ spelled ws ns

-- the number of this width that stands at a place
unfoldable pub number_in : Width → ℕ → List ℕ → ℕ
number_in w at bytes = from_be_bytes w (take (byte_len w) (drop at bytes))

-- the records of a section, each of so many bytes
unfoldable pub records : ℕ → ℕ → List ℕ → List (List ℕ)
records size zero bytes = []
records size (suc n) bytes = take size bytes ∷ records size n (drop size bytes)
