-- The length of its left part, which is stored with each concatenation.
use Rattle.std.specs.Prelude.{◌≡◌, ℕ, ◌+◌, ◌<◌, List, [], ◌∷◌, All, length, get_or, map}
use Rattle.rope_node.specs.declared.node.NodeId.{NodeId}
use Rattle.rope_node.specs.Table.{Node, no_node, IsLeftPart}
use Rattle.node_table.specs.declared.entry.Entry.{Entry}
use Rattle.node_table.specs.declared.entry.EntryKind.{EntryKind}
use Rattle.node_table.specs.declared.entry.EntryKind.TheVariants.{Literal, Source, Function, Concatenation, Part}
use Rattle.node_table.specs.declared.record.Record.{Record}
use Rattle.node_table.specs.Entries.{record_of}
use Rattle.node_table.specs.Held.{node_of}

-- the nodes that are stored
abbrev pub nodes_in : {F : Type 0} → List (Entry F) → List Node
nodes_in entries = map node_of (map record_of entries)

-- what is stored of a concatenation says of its left part, one of these nodes, how long it is
abbrev pub KeepsLeft : {F : Type 0} → List Node → EntryKind F → Type 0
KeepsLeft nodes (Literal a) = Unit {0}
KeepsLeft nodes (Source s a) = Unit {0}
KeepsLeft nodes (Function f) = Unit {0}
KeepsLeft nodes (Concatenation l d r n) = (l.0 < length nodes) × (n ≡ (get_or nodes l.0 no_node).len)
KeepsLeft nodes (Part b d i) = Unit {0}

-- so it is for all that is stored
abbrev pub KeepLefts : {F : Type 0} → List (Entry F) → Type 0
KeepLefts entries = All (λ e. KeepsLeft (nodes_in entries) e.kind) entries

-- the left part of each concatenation among these nodes, the first of which has this number, is a node before it
abbrev pub HaveLeftsBefore : {F : Type 0} → ℕ → List (Record F) → Type 0
HaveLeftsBefore number [] = Unit {0}
HaveLeftsBefore number (r ∷ rs) = ((l : NodeId) → IsLeftPart r.view l → l.0 < number) × HaveLeftsBefore (number + 1) rs
