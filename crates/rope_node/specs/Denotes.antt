-- What a node denotes: a list of cells, each of them a byte or a place of a source.
use Rattle.std.specs.Prelude.{ℕ, zero, suc, ◌+◌, ◌<◌, List, [], length, ◌++◌, map, take, drop, slice_range, get_or, Option, Some, None}
use Rattle.std.specs.List.{range_with_len}
use Rattle.rope_node.specs.declared.node.NodeId.{NodeId}
use Rattle.rope_node.specs.declared.node.NodeView.{NodeView}
use Rattle.rope_node.specs.declared.node.NodeView.TheVariants.{Lit, Src, Fun, Cat, Sub}
use Rattle.rope_node.specs.Table.{Table, view_at, len_at, depth_at}

-- a byte, or a place of a source: the source, and the place in it
pub data Cell : Type 0 where
  Byte : ℕ → Cell
  Place : ℕ → ℕ → Cell

-- the cells of a node of length n, where below gives its children's
abbrev pub node_cells : Table → (ℕ → List Cell) → ℕ → ℕ → NodeView → List Cell
node_cells t below id n (Lit a) = map Byte (slice_range t.pool a (a + n))
node_cells t below id n (Src s a) = map (Place s) (range_with_len a n)
node_cells t below id n Fun = map (λ k. Byte (t.answer id k)) (range_with_len 0 n)
node_cells t below id n (Cat l r) = below l.0 ++ below r.0
node_cells t below id n (Sub b i) = take n (drop i (below b.0))

-- the cells of a node, found in at most `steps` steps down; an empty list where these are used up
abbrev pub cells_in : Table → ℕ → ℕ → List Cell
cells_in t zero id = []
cells_in t (suc steps) id = node_cells t (cells_in t steps) id (len_at t id) (view_at t id)

-- the cells of a node: its children are earlier nodes, so no way down takes more steps than its number and one
abbrev pub cells : Table → ℕ → List Cell
cells t id = cells_in t (suc id) id

-- the cell at a place
abbrev pub cell_at : Table → ℕ → ℕ → Cell
cell_at t id i = get_or (cells t id) i (Byte 0)

-- the cells of a rope: its root's, and none for nil
abbrev pub rope_cells : Table → Option NodeId → List Cell
rope_cells t None = []
rope_cells t (Some id) = cells t id.0

-- the recorded length of a rope's root; 0 for nil
abbrev pub rope_len : Table → Option NodeId → ℕ
rope_len t None = 0
rope_len t (Some id) = len_at t id.0

-- the recorded depth of a rope's root; 0 for nil
abbrev pub rope_depth : Table → Option NodeId → ℕ
rope_depth t None = 0
rope_depth t (Some id) = depth_at t id.0

-- a rope is nil or a node of the table
abbrev pub IsRope : Table → Option NodeId → Type 0
IsRope t None = Unit {0}
IsRope t (Some id) = id.0 < length t.nodes

-- the byte that a cell stands for, where source gives each source's byte at each place
abbrev pub cell_byte : (ℕ → ℕ → ℕ) → Cell → ℕ
cell_byte source (Byte b) = b
cell_byte source (Place s p) = source s p

-- the bytes of cells
abbrev pub text : (ℕ → ℕ → ℕ) → List Cell → List ℕ
text source cs = map (cell_byte source) cs
