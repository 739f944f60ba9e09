-- Where a byte comes from, and which bytes tell that it is stated.
use Rattle.std.specs.Prelude.{◌≡◌, ◌⊎◌, ℕ, ◌+◌, ◌<◌, ◌≤◌, Option, Some, None}
use Rattle.rope_node.specs.Denotes.{Byte, Cell, Place}
use Rattle.lazy_file.specs.SourceTexts.{Stated}
use Rattle.cord_position.specs.Fetched.{IsStated}

-- the source of a cell, if it has one
abbrev pub cell_source : Cell → Option ℕ
cell_source (Byte b) = None
cell_source (Place s p) = Some s

-- the cells, count of them from this place on, have one source, or none has one
abbrev pub HaveOneSource : (ℕ → Cell) → ℕ → ℕ → Type 0
HaveOneSource cell place count =
    (k : ℕ) → place ≤ k → k < place + count → cell_source (cell k) ≡ cell_source (cell place)

-- of `len` cells the `count` from this place on are stated where all others are, whatever the sources state
abbrev pub AreToldByOthers : (ℕ → Cell) → ℕ → ℕ → ℕ → Type 0
AreToldByOthers cell len place count =
    (st : Stated) → ((k : ℕ) → k < len → (k < place) ⊎ (place + count ≤ k) → IsStated st (cell k))
    → (k : ℕ) → place ≤ k → k < place + count → IsStated st (cell k)
