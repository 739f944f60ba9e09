-- A table of nodes: what each node is, which tables are sound, and which records are true.
use Rattle.std.specs.Prelude.{◌≡◌, ℕ, ◌+◌, ◌<◌, ◌≤◌, max, List, [], length, get_or, slice_range}
use Rattle.leaf_buffer.specs.declared.pool.TheConstants.{POOL_LIMIT}
use Rattle.rope_node.specs.declared.limits.TheConstants.{MOST_DEPTH, TEXT_LIMIT}
use Rattle.rope_node.specs.declared.node.NodeId.{NodeId}
use Rattle.rope_node.specs.declared.node.NodeView.{NodeView}
use Rattle.rope_node.specs.declared.node.NodeView.TheVariants.{Lit, Src, Fun, Cat, Sub}

-- a node with the length and the depth that are recorded with it
pub record Node : Type 0 where
  pub view : NodeView
  pub len : ℕ
  pub depth : ℕ

-- the nodes in their order, the pool that literals lie in, the sources' lengths, and what the function at a node
-- answers at a place
pub record Table : Type 0 where
  pub nodes : List Node
  pub pool : List ℕ
  pub sources : List ℕ
  pub answer : ℕ → ℕ → ℕ

-- what is read past the end
abbrev pub no_node : Node
no_node = record { view = Fun; len = 0; depth = 0 }

-- the node of a number
abbrev pub node_at : Table → ℕ → Node
node_at t id = get_or t.nodes id no_node

-- what the node of a number is
abbrev pub view_at : Table → ℕ → NodeView
view_at t id = (node_at t id).view

-- the length that is recorded with it
abbrev pub len_at : Table → ℕ → ℕ
len_at t id = (node_at t id).len

-- the depth that is recorded with it
abbrev pub depth_at : Table → ℕ → ℕ
depth_at t id = (node_at t id).depth

-- each child is an earlier node, and each source is there
abbrev pub HasGoodReferences : Table → ℕ → NodeView → Type 0
HasGoodReferences t id (Lit a) = Unit {0}
HasGoodReferences t id (Src s a) = s < length t.sources
HasGoodReferences t id Fun = Unit {0}
HasGoodReferences t id (Cat l r) = (l.0 < id) × (r.0 < id)
HasGoodReferences t id (Sub b i) = b.0 < id

-- a span lies inside its pool, its source or its base
abbrev pub HasSpanInside : Table → ℕ → NodeView → Type 0
HasSpanInside t n (Lit a) = a + n ≤ length t.pool
HasSpanInside t n (Src s a) = a + n ≤ get_or t.sources s 0
HasSpanInside t n Fun = Unit {0}
HasSpanInside t n (Cat l r) = Unit {0}
HasSpanInside t n (Sub b i) = i + n ≤ len_at t b.0

-- A node's children are earlier ones and its source is there; it is not empty, not too long and not too deep, and its
-- span lies inside.
pub record IsSoundNode (t : Table) (id : ℕ) (n : Node) : Type 0 where
  pub references : HasGoodReferences t id n.view
  pub not_empty : 1 ≤ n.len
  pub not_long : n.len < TEXT_LIMIT
  pub not_deep : n.depth ≤ MOST_DEPTH
  pub span : HasSpanInside t n.len n.view

-- a table whose every node is so, with a pool and sources that are not too long
pub record IsSound (t : Table) : Type 0 where
  pub nodes : (id : ℕ) → id < length t.nodes → IsSoundNode t id (node_at t id)
  pub pool : length t.pool < POOL_LIMIT
  pub sources : (s : ℕ) → get_or t.sources s 0 < TEXT_LIMIT

-- a concatenation is as long as its children together
abbrev pub HasTrueLength : Table → ℕ → NodeView → Type 0
HasTrueLength t n (Lit a) = Unit {0}
HasTrueLength t n (Src s a) = Unit {0}
HasTrueLength t n Fun = Unit {0}
HasTrueLength t n (Cat l r) = n ≡ len_at t l.0 + len_at t r.0
HasTrueLength t n (Sub b i) = Unit {0}

-- a leaf has depth 0, every other node one more than its deepest child
abbrev pub depth_of : Table → NodeView → ℕ
depth_of t (Lit a) = 0
depth_of t (Src s a) = 0
depth_of t Fun = 0
depth_of t (Cat l r) = 1 + max (depth_at t l.0) (depth_at t r.0)
depth_of t (Sub b i) = 1 + depth_at t b.0

-- the recorded length is right where the children tell it, and the recorded depth is what follows from them
pub record IsTrueNode (t : Table) (n : Node) : Type 0 where
  pub len : HasTrueLength t n.len n.view
  pub depth : n.depth ≡ depth_of t n.view

-- the left part of a concatenation
abbrev pub IsLeftPart : NodeView → NodeId → Type 0
IsLeftPart (Lit a) part = ⊥
IsLeftPart (Src s a) part = ⊥
IsLeftPart Fun part = ⊥
IsLeftPart (Cat l r) part = part ≡ l
IsLeftPart (Sub b i) part = ⊥

-- a table whose records are all true
pub record HasTrueRecords (t : Table) : Type 0 where
  pub nodes : (id : ℕ) → id < length t.nodes → IsTrueNode t (node_at t id)

-- a node that is a literal
abbrev pub IsLiteral : NodeView → Type 0
IsLiteral (Lit a) = Unit {0}
IsLiteral (Src s a) = ⊥
IsLiteral Fun = ⊥
IsLiteral (Cat l r) = ⊥
IsLiteral (Sub b i) = ⊥

-- the bytes of a literal of length n from its byte off on
abbrev pub literal_bytes : Table → ℕ → ℕ → NodeView → List ℕ
literal_bytes t off n (Lit a) = slice_range t.pool (a + off) (a + n)
literal_bytes t off n (Src s a) = []
literal_bytes t off n Fun = []
literal_bytes t off n (Cat l r) = []
literal_bytes t off n (Sub b i) = []

-- the bytes of a literal from its byte off on
abbrev pub literal_from : Table → ℕ → ℕ → List ℕ
literal_from t id off = literal_bytes t off (len_at t id) (view_at t id)

-- a node that is a function
abbrev pub IsFunction : NodeView → Type 0
IsFunction (Lit a) = ⊥
IsFunction (Src s a) = ⊥
IsFunction Fun = Unit {0}
IsFunction (Cat l r) = ⊥
IsFunction (Sub b i) = ⊥

-- a node without children: a literal, a part of a source or a function
abbrev pub IsLeaf : NodeView → Type 0
IsLeaf (Lit a) = Unit {0}
IsLeaf (Src s a) = Unit {0}
IsLeaf Fun = Unit {0}
IsLeaf (Cat l r) = ⊥
IsLeaf (Sub b i) = ⊥
