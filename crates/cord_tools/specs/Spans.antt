-- A store of sources alone, and the rope of a part of one.
use Rattle.std.specs.Prelude.{◌≡◌, ℕ, ◌-◌, ◌<◌, min, List, [], length, get_or, Option, Some, None}
use Rattle.rope_node.specs.declared.node.NodeId.{NodeId}
use Rattle.rope_node.specs.declared.node.NodeView.TheVariants.{Src}
use Rattle.rope_node.specs.Table.{Node, Table, node_at}

-- the leaf of n bytes of source s from a on
abbrev pub source_leaf : ℕ → ℕ → ℕ → Node
source_leaf s a n = record { view = Src s a; len = n; depth = 0 }

-- the rope is the n bytes of source s from a on: nil for none of them, else one leaf
abbrev pub IsSourceSpan : Table → ℕ → ℕ → ℕ → Option NodeId → Type 0
IsSourceSpan t s a n None = n ≡ 0
IsSourceSpan t s a n (Some id) = (id.0 < length t.nodes) × (node_at t id.0 ≡ source_leaf s a n)

-- the rope is at most count bytes of source s, of the table's, from start on
abbrev pub IsSourcePart : Table → ℕ → ℕ → ℕ → Option NodeId → Type 0
IsSourcePart t s start count rope =
    IsSourceSpan t s (min start (get_or t.sources s 0))
    (min count (get_or t.sources s 0 - min start (get_or t.sources s 0))) rope
