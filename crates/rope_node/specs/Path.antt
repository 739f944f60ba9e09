-- The path from a node to the leaf that holds a place: how many nodes it has, and the span of the leaf that it leads
-- to.
use Rattle.std.specs.Prelude.{◌≡◌, ℕ, zero, suc, ◌+◌, ◌-◌, min, nat_lt, if◌then◌else◌, Option, Some, None}
use Rattle.rope_node.specs.declared.node.NodeId.{NodeId}
use Rattle.rope_node.specs.declared.node.LeafSpan.{LeafSpan}
use Rattle.rope_node.specs.declared.node.NodeView.{NodeView}
use Rattle.rope_node.specs.declared.node.NodeView.TheVariants.{Lit, Src, Fun, Cat, Sub}
use Rattle.rope_node.specs.declared.path.LeafPlace.{LeafPlace}
use Rattle.rope_node.specs.Table.{Table, view_at, len_at}

-- the visits from a node on, where below gives those from a child on at a place
abbrev pub node_visits : Table → (ℕ → ℕ → ℕ) → ℕ → NodeView → ℕ
node_visits t below i (Lit a) = 1
node_visits t below i (Src s a) = 1
node_visits t below i Fun = 1
node_visits t below i (Cat l r) = 1 + (if nat_lt i (len_at t l.0) then below l.0 i else below r.0 (i - len_at t l.0))
node_visits t below i (Sub b start) = 1 + below b.0 (start + i)

abbrev pub visits_in : Table → ℕ → ℕ → ℕ → ℕ
visits_in t zero id i = 0
visits_in t (suc steps) id i = node_visits t (visits_in t steps) i (view_at t id)

-- how many nodes the path from a node to the leaf that holds place i has, with both ends
abbrev pub visits : Table → ℕ → ℕ → ℕ
visits t id i = visits_in t (suc id) id i

-- the visits from a rope's root on; past its end there are none
abbrev pub rope_visits : Table → Option NodeId → ℕ → ℕ
rope_visits t None i = 0
rope_visits t (Some id) i = if nat_lt i (len_at t id.0) then visits t id.0 i else 0

-- at most n bytes of a span
abbrev pub shortened : ℕ → LeafSpan → LeafSpan
shortened n span = record span { len = min n span.len }

-- what is left of a leaf of length n
abbrev pub rest_of : ℕ → ℕ → ℕ → LeafSpan
rest_of id i n = record { leaf = record { 0 = id }; start = i; len = n - i }

-- the leaf span that the n bytes of a node begin with at place i, where below gives that of a child
abbrev pub node_span : Table → (ℕ → ℕ → LeafSpan) → ℕ → ℕ → ℕ → NodeView → LeafSpan
node_span t below id i n (Lit a) = rest_of id i n
node_span t below id i n (Src s a) = rest_of id i n
node_span t below id i n Fun = rest_of id i n
node_span t below id i n (Cat l r) = if nat_lt i (len_at t l.0) then below l.0 i else below r.0 (i - len_at t l.0)
node_span t below id i n (Sub b start) = shortened (n - i) (below b.0 (start + i))

abbrev pub span_in : Table → ℕ → ℕ → ℕ → LeafSpan
span_in t zero id i = rest_of id i 0
span_in t (suc steps) id i = node_span t (span_in t steps) id i (len_at t id) (view_at t id)

abbrev pub span_at : Table → ℕ → ℕ → LeafSpan
span_at t id i = span_in t (suc id) id i

-- the leaf, and the place in it, at which the path from place i of a node ends
pub record IsPlaceOf (t : Table) (id i : ℕ) (x : LeafPlace) : Type 0 where
  pub leaf : x.leaf ≡ (span_at t id i).leaf
  pub start : x.start ≡ (span_at t id i).start
