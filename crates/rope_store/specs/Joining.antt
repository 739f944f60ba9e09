-- What two ropes put together add, and bytes put behind a rope.
use Rattle.std.specs.Prelude.{◌≡◌, ℕ, ◌+◌, ◌<◌, ◌≤◌, false, if◌then◌else◌, nat_le, List, [], ◌∷◌, ◌++◌, length, Option, Some, None}
use Rattle.rope_node.specs.declared.limits.TheConstants.{MOST_DEPTH}
use Rattle.rope_node.specs.declared.node.NodeId.{NodeId}
use Rattle.rope_node.specs.declared.node.NodeView.{NodeView}
use Rattle.rope_node.specs.declared.node.NodeView.TheVariants.{Lit, Src, Fun, Cat, Sub}
use Rattle.rope_node.specs.Table.{Table, view_at, len_at, depth_at, literal_bytes, IsLiteral}
use Rattle.rope_node.specs.Denotes.{cells, rope_cells, rope_len, rope_depth, IsRope}
use Rattle.rope_store.specs.declared.endings.TheConstants.{MOST_MERGED}
use Rattle.rope_store.specs.declared.endings.Ending.{Ending}
use Rattle.node_table.specs.Records.{literal_record, concatenation_record}
use Rattle.rope_store.specs.Additions.{Addition, new_node, nothing, one_literal, concatenated}

-- the literal that a node ends with, and what stands before it
abbrev pub right_ending : NodeId → NodeId → NodeView → Option Ending
right_ending l r (Lit a) = Some (record { before = Some l; literal = r })
right_ending l r (Src s a) = None
right_ending l r Fun = None
right_ending l r (Cat x y) = None
right_ending l r (Sub b i) = None

abbrev pub view_ending : Table → NodeId → NodeView → Option Ending
view_ending t x (Lit a) = Some (record { before = None; literal = x })
view_ending t x (Src s a) = None
view_ending t x Fun = None
view_ending t x (Cat l r) = right_ending l r (view_at t r.0)
view_ending t x (Sub b i) = None

abbrev pub ending_of : Table → NodeId → Option Ending
ending_of t x = view_ending t x (view_at t x.0)

-- an ending that takes n bytes more and stays short
abbrev pub short_ending : Table → ℕ → Option Ending → Option Ending
short_ending t n None = None
short_ending t n (Some e) = if nat_le (len_at t e.literal.0 + n) MOST_MERGED then Some e else None

-- the ending that takes a literal's bytes
abbrev pub ending_for : Table → NodeId → NodeId → NodeView → Option Ending
ending_for t l r (Lit a) = short_ending t (len_at t r.0) (ending_of t l)
ending_for t l r (Src s a) = None
ending_for t l r Fun = None
ending_for t l r (Cat x y) = None
ending_for t l r (Sub b i) = None

-- the ending of l that takes the bytes of r
abbrev pub ending_taking : Table → NodeId → NodeId → Option Ending
ending_taking t l r = ending_for t l r (view_at t r.0)

-- the ending of a node, where it takes n bytes more and stays short
abbrev pub ending_with : Table → NodeId → ℕ → Option Ending
ending_with t x n = short_ending t n (ending_of t x)

-- a literal's bytes
abbrev pub piece : Table → NodeId → List ℕ
piece t x = literal_bytes t 0 (len_at t x.0) (view_at t x.0)

-- bytes as one literal behind what stands before them
abbrev pub merged : {F : Type 0} → Table → Option NodeId → List ℕ → Addition F
merged t None bytes = one_literal t bytes
merged t (Some l) bytes = record {
  bytes = bytes;
  in_place = false;
  records = literal_record (length t.pool) (length bytes)
      ∷ concatenation_record l (new_node t 0) (len_at t l.0 + length bytes) (1 + depth_at t l.0) ∷ [];
  rope = Some (new_node t 1);
}

abbrev pub nodes_joined : {F : Type 0} → Table → NodeId → NodeId → Option Ending → Addition F
nodes_joined t l r None = concatenated t l r
nodes_joined t l r (Some e) = merged t e.before (piece t e.literal ++ piece t r)

abbrev pub joined : {F : Type 0} → Table → Option NodeId → Option NodeId → Addition F
joined t None r = nothing r
joined t (Some l) None = nothing (Some l)
joined t (Some l) (Some r) = nodes_joined t l r (ending_taking t l r)

-- this literal ends the node's text, and with n bytes more it stays short
pub record IsShortEnding (t : Table) (x : NodeId) (n : ℕ) (e : Ending) : Type 0 where
  pub there : e.literal.0 < length t.nodes
  pub is_literal : IsLiteral (view_at t e.literal.0)
  pub is_before : IsRope t e.before
  pub shallow : 1 + rope_depth t e.before ≤ MOST_DEPTH
  pub text : cells t x.0 ≡ rope_cells t e.before ++ cells t e.literal.0
  pub len : len_at t x.0 ≡ rope_len t e.before + len_at t e.literal.0
  pub short : len_at t e.literal.0 + n ≤ MOST_MERGED

-- this literal ends the text of l, and with the bytes of r more it stays short
abbrev pub TakesLiteral : Table → NodeId → NodeId → Ending → Type 0
TakesLiteral t l r = IsShortEnding t l (len_at t r.0)
