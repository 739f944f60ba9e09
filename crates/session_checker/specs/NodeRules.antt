-- The rules that each node of an image has to keep, in their order, and which one it breaks first.
use Rattle.std.specs.Prelude.{◌≡◌, ℕ, ◌<◌, ◌≤◌, length}
use Rattle.rope_node.specs.declared.limits.TheConstants.{MOST_DEPTH, TEXT_LIMIT}
use Rattle.rope_node.specs.declared.node.NodeView.{NodeView}
use Rattle.rope_node.specs.Table.{Node, Table, node_at, HasGoodReferences, HasTrueLength, HasSpanInside, depth_of}
use Rattle.image_reader.specs.Accepted.{IsAcceptedNode}
use Rattle.session_checker.specs.declared.fault.CheckFault.{CheckFault}
use Rattle.session_checker.specs.declared.fault.CheckFault.TheVariants as faults
use Rattle.session_checker.specs.declared.node_rules.NodeRule.{NodeRule}
use Rattle.session_checker.specs.declared.node_rules.NodeRule.TheVariants.{Reference, Length, Depth, Span}

-- the length is not 0, not over the limit, and a concatenation's is its children's together
pub record HasGoodLength (t : Table) (n : ℕ) (v : NodeView) : Type 0 where
  pub not_empty : 1 ≤ n
  pub not_long : n < TEXT_LIMIT
  pub sum : HasTrueLength t n v

-- the depth follows from the children's, and is at most 64
pub record HasGoodDepth (t : Table) (d : ℕ) (v : NodeView) : Type 0 where
  pub follows : d ≡ depth_of t v
  pub not_deep : d ≤ MOST_DEPTH

-- the first rule that node id breaks
abbrev pub Breaks : Table → ℕ → Node → NodeRule → Type 0
Breaks t id n Reference = ¬ HasGoodReferences t id n.view
Breaks t id n Length = HasGoodReferences t id n.view × ¬ HasGoodLength t n.len n.view
Breaks t id n Depth = HasGoodReferences t id n.view × HasGoodLength t n.len n.view × ¬ HasGoodDepth t n.depth n.view
Breaks t id n Span =
    HasGoodReferences t id n.view × HasGoodLength t n.len n.view × HasGoodDepth t n.depth n.view
    × ¬ HasSpanInside t n.len n.view

abbrev pub BreaksFirst : Table → ℕ → NodeRule → Type 0
BreaksFirst t id rule = Breaks t id (node_at t id) rule

abbrev pub fault_at : NodeRule → ℕ → CheckFault
fault_at Reference id = faults.Reference id
fault_at Length id = faults.Length id
fault_at Depth id = faults.Depth id
fault_at Span id = faults.Span id

-- the first node that breaks a rule, and the first rule that it breaks
pub record IsFirstNodeFault (t : Table) (f : CheckFault) : Type 0 where
  pub id : ℕ
  pub there : id < length t.nodes
  pub earlier : (c : ℕ) → c < id → IsAcceptedNode t c
  pub rule : NodeRule
  pub breaks : BreaksFirst t id rule
  pub is : f ≡ fault_at rule id
