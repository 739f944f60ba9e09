-- A position in a rope's text.
use Rattle.std.specs.Prelude.{ℕ, ◌<◌, ◌≤◌, List, Option}
use Rattle.rope_node.specs.declared.limits.TheConstants.{TEXT_LIMIT}
use Rattle.rope_node.specs.declared.node.NodeId.{NodeId}
use Rattle.rope_node.specs.Table.{Table}
use Rattle.rope_node.specs.Denotes.{Cell, rope_len, IsRope}
use Rattle.cord_position.specs.Fetched.{rope_cell, rope_part}
use Rattle.cord_position.specs.Runs.{run_left, run_bytes}

-- a rope of a space, and a place of its text; the place behind its last byte is its length
pub record Position (S : Type 0) : Type 0 where
  pub space : S
  pub rope : Option NodeId
  pub index : ℕ

-- how long the text is
abbrev pub text_len : {S : Type 0} → (S → Table) → Position S → ℕ
text_len table here = rope_len (table here.space) here.rope

-- the cell at each place
abbrev pub cell_of : {S : Type 0} → (S → Table) → Position S → ℕ → Cell
cell_of table here = rope_cell (table here.space) here.rope

-- n cells from here on
abbrev pub cells_here : {S : Type 0} → (S → Table) → Position S → ℕ → List Cell
cells_here table here n = rope_part (table here.space) here.rope here.index n

-- how many bytes there are from here to the end of the present leaf's span
abbrev pub left_here : {S : Type 0} → (S → Table) → Position S → ℕ
left_here table here = run_left (table here.space) here.rope here.index

-- the bytes from here to the end of the present leaf's span, where the leaf is a literal
abbrev pub bytes_here : {S : Type 0} → (S → Table) → Position S → List ℕ
bytes_here table here = run_bytes (table here.space) here.rope here.index

-- the rope is one of the table, and the place is not past its end
pub record IsPosition (t : Table) (root : Option NodeId) (i : ℕ) : Type 0 where
  pub rope : IsRope t root
  pub inside : i ≤ rope_len t root
  pub limit : i < TEXT_LIMIT
