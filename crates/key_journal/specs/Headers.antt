-- The header of a journal.
use Rattle.std.specs.Prelude.{◌≡◌, ◌<◌, ℕ, ◌-◌, List, [], ◌∷◌, ◌++◌, length, take, drop, get_or, nat_le, if◌then◌else◌, Option, IfSome}
use Rattle.std.specs.Int.{w64, to_be_bytes}
use Rattle.sha2.specs.declared.Sha256.{Sha256}
use Rattle.sha2.specs.Hashers.{Holds256}
use Rattle.sha2.specs.Sha256.{sha256}
use Rattle.lazy_file.specs.SourceTexts.{Stated, text_at}
use Rattle.key_journal.specs.declared.headers.TheConstants.{END_SIZE, FROM_SOURCES, ONTO_IMAGE, WHOLE_LIMIT}

-- CORDKEYS, the format's number, how many sources, the size of the first one, and a digest
abbrev pub header_of : ℕ → ℕ → ℕ → List ℕ → List ℕ
header_of number sources size digest =
    0x43 ∷ 0x4F ∷ 0x52 ∷ 0x44 ∷ 0x4B ∷ 0x45 ∷ 0x59 ∷ 0x53 ∷ 0 ∷ 0 ∷ 0 ∷ number ∷ 0 ∷ 0 ∷ 0 ∷ sources
    ∷ to_be_bytes w64 size ++ digest

-- what a header over sources of these sizes begins with, up to its digest
abbrev pub front_over : ℕ → List ℕ → List ℕ
front_over number [] = header_of number 0 0 []
front_over number (size ∷ sizes) = header_of number (length (size ∷ sizes)) size []

-- the bytes of a text of this size that are digested: all of them, or both of its ends
abbrev pub digested : ℕ → List ℕ → List ℕ
digested size text =
    if nat_le size WHOLE_LIMIT then take size text
    else (take END_SIZE text ++ take END_SIZE (drop (size - END_SIZE) text))

-- the header over no sources, or over these, of which the first has this text, where that is known
abbrev pub heads : List ℕ → Option (List ℕ) → List ℕ → Type 0
heads [] first header = header ≡ header_of FROM_SOURCES 0 0 (sha256 [])
heads (size ∷ sizes) first header =
    IfSome first (λ text. header ≡ header_of FROM_SOURCES (length (size ∷ sizes)) size (sha256 (digested size text)))

-- that over an image, and no sources or these: its digest is of the image and of the first source's text
abbrev pub heads_onto : List ℕ → List ℕ → Option (List ℕ) → List ℕ → Type 0
heads_onto image [] first header = header ≡ header_of ONTO_IMAGE 0 0 (sha256 (digested (length image) image))
heads_onto image (size ∷ sizes) first header =
    IfSome first (λ text. header ≡ header_of ONTO_IMAGE (length (size ∷ sizes)) size
    (sha256 (digested (length image) image ++ digested size text)))

-- The header of the journal of a session over these sources.
abbrev pub IsHeader : Stated → List ℕ → Type 0
IsHeader st header = heads st.sizes (text_at st 0) header

-- The header of the journal of a session that goes on from this image over these sources.
abbrev pub IsHeaderOnto : List ℕ → Stated → List ℕ → Type 0
IsHeaderOnto image st header = heads_onto image st.sizes (text_at st 0) header

-- a place inside the first of sources of these sizes
abbrev pub IsOfFirst : List ℕ → ℕ → ℕ → Type 0
IsOfFirst sizes s p = (s ≡ 0) × (p < get_or sizes 0 0)

-- a digest that n bytes of a text are taken into, from this place on
abbrev pub TakesIn : List ℕ → ℕ → ℕ → Sha256 → Sha256 → Type 0
TakesIn text off n old new = (m : List ℕ) → Holds256 old m → Holds256 new (m ++ take n (drop off text))

-- a digest that a text of this size is taken into: all of it, or both of its ends
abbrev pub TakesDigested : List ℕ → ℕ → Sha256 → Sha256 → Type 0
TakesDigested text size old new = (m : List ℕ) → Holds256 old m → Holds256 new (m ++ digested size text)
