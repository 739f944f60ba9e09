-- Bytes that lie together, of a rope's text.
use Rattle.std.specs.Prelude.{◌≡◌, ℕ, ◌+◌, ◌<◌, List, length, Option, slice_get}
use Rattle.rope_node.specs.declared.node.NodeId.{NodeId}
use Rattle.rope_node.specs.Table.{Table}
use Rattle.rope_node.specs.Denotes.{rope_cells, text}
use Rattle.lazy_file.specs.SourceTexts.{Agrees, Stated}
use Rattle.cord_position.specs.Fetched.{IsStated, rope_cell}
use Rattle.cord_position.specs.Position.{Position}

-- these bytes are the rope's from place i on: each whose cell is stated is the text's
abbrev pub IsPiece : Table → Stated → Option NodeId → ℕ → List ℕ → Type 0
IsPiece t st rope i bytes =
    (source : ℕ → ℕ → ℕ) → Agrees st source → (k : ℕ) → k < length bytes → IsStated st (rope_cell t rope (i + k))
    → slice_get bytes k ≡ slice_get (text source (rope_cells t rope)) (i + k)

-- the same from a position on
abbrev pub IsPieceHere : {S : Type 0} → (S → Table) → Stated → Position S → List ℕ → Type 0
IsPieceHere table st here bytes = IsPiece (table here.space) st here.rope here.index bytes
