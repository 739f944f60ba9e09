-- Where the span of a node leads to, and what a span of a leaf is.
use Rattle.std.specs.Prelude.{◌≡◌, ℕ, ◌+◌, ◌-◌, ◌%◌, ◌^◌, ◌<◌, ◌≤◌, List, length, map, take, drop, Option, Some, None}
use Rattle.std.specs.List.{range_with_len}
use Rattle.function_leaf.specs.declared.coded.Coded.{Coded}
use Rattle.function_leaf.specs.declared.coded.Coded.TheVariants as Function
use Rattle.function_leaf.specs.Coded.{coded_byte}
use Rattle.rope_node.specs.declared.node.NodeId.{NodeId}
use Rattle.rope_node.specs.declared.node.NodeView.{NodeView}
use Rattle.rope_node.specs.declared.node.NodeView.TheVariants.{Lit, Src, Fun, Cat, Sub}
use Rattle.rope_node.specs.Table.{Table, view_at, len_at, IsLeaf}
use Rattle.rope_node.specs.Denotes.{Cell, Byte, Place, cells}
use Rattle.rope_node.specs.Coded.{AnswersCoded}
use Rattle.span_descent.specs.declared.description.Description.{Description}
use Rattle.span_descent.specs.declared.description.Description.TheVariants.{Pooled, Sourced, Computed}

-- The span of n bytes of node x from p on leads to offset o of node k: it stands there; or it lies in one child of a
-- concatenation, or in the base of a substring, and that span leads there.
pub data Leads (t : Table) (n k o : ℕ) : ℕ → ℕ → Type 0 where
  here : {x p : ℕ} → x ≡ k → p ≡ o → Leads t n k o x p
  in_left : {x p : ℕ} (l r : NodeId) → view_at t x ≡ Cat l r → p + n ≤ len_at t l.0 → Leads t n k o l.0 p
      → Leads t n k o x p
  in_right : {x p : ℕ} (l r : NodeId) → view_at t x ≡ Cat l r → len_at t l.0 ≤ p → Leads t n k o r.0 (p - len_at t l.0)
      → Leads t n k o x p
  in_base : {x p : ℕ} (b : NodeId) (i : ℕ) → view_at t x ≡ Sub b i → Leads t n k o b.0 (p + i) → Leads t n k o x p

abbrev pub LeadsToLeaf : Table → ℕ → ℕ → ℕ → ℕ → ℕ → Type 0
LeadsToLeaf t n k o x p = Leads t n k o x p × IsLeaf (view_at t k)

-- What a function is from its place o on: a fill its byte, a ramp one that begins with the byte there, a cycle its
-- pattern from the place in it.
abbrev pub coded_description : ℕ → Coded → Description
coded_description o (Function.Fill c) = Computed (Function.Fill c) 0
coded_description o (Function.Ramp c) = Computed (Function.Ramp ((c + o) % 256)) 0
coded_description o (Function.Cycle pattern) = Computed (Function.Cycle pattern) (o % length pattern)

-- what the span of a leaf from o on is, told apart from the leaf; f is its function, where it is one
abbrev pub leaf_description : Coded → ℕ → NodeView → Option Description
leaf_description f o (Lit a) = Some (Pooled (a + o))
leaf_description f o (Src s a) = Some (Sourced s (a + o))
leaf_description f o Fun = Some (coded_description o f)
leaf_description f o (Cat l r) = None
leaf_description f o (Sub b i) = None

-- the span of n bytes of node x from p on leads to a leaf span of this description
abbrev pub HasDescription : Table → (ℕ → Coded) → ℕ → ℕ → ℕ → Description → Type 0
HasDescription t coded n x p d =
    (k : ℕ) × (o : ℕ) × LeadsToLeaf t n k o x p × (leaf_description (coded k) o (view_at t k) ≡ Some d)

-- what a description of n bytes denotes
abbrev pub described_cells : Table → ℕ → Description → List Cell
described_cells t n (Pooled a) = map Byte (take n (drop a t.pool))
described_cells t n (Sourced s a) = map (Place s) (range_with_len a n)
described_cells t n (Computed f i) = map (λ k. Byte (coded_byte f k)) (range_with_len i n)

-- n bytes of a description lie in the pool, and their places fit 64 bits
abbrev pub HasRoom : Table → ℕ → Description → Type 0
HasRoom t n (Pooled a) = a + n ≤ length t.pool
HasRoom t n (Sourced s a) = a + n < 2 ^ 64
HasRoom t n (Computed f i) = i + n < 2 ^ 64

-- the functions at the nodes answer as they are coded
abbrev pub AreAnswered : Table → (ℕ → Coded) → Type 0
AreAnswered t coded = (k : ℕ) → AnswersCoded t k (coded k)

-- what describing a leaf tells of each of its spans from there on
pub record Describes (t : Table) (k o : ℕ) (d : Description) : Type 0 where
  pub cells : (n : ℕ) → o + n ≤ len_at t k → take n (drop o (cells t k)) ≡ described_cells t n d
  pub room : (n : ℕ) → o + n ≤ len_at t k → HasRoom t n d
