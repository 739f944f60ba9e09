-- The steps from a rope's root down to the leaf that holds a place, and the forks on that path.
use Rattle.std.specs.Prelude.{◌≡◌, ℕ, ◌+◌, ◌-◌, ◌<◌, ◌≤◌, min, map, List, length, Option, Some, slice_get}
use Rattle.rope_node.specs.declared.limits.TheConstants.{MOST_DEPTH}
use Rattle.leaf_buffer.specs.Progress.{Progress, leaf_of}
use Rattle.smallvec.specs.SmallVec.{SmallVec}
use Rattle.rope_node.specs.declared.node.NodeId.{NodeId}
use Rattle.rope_node.specs.declared.node.LeafSpan.{LeafSpan}
use Rattle.rope_node.specs.declared.node.NodeView.TheVariants.{Cat}
use Rattle.rope_node.specs.Table.{Table, view_at, len_at, depth_at, IsLeaf, IsSound, HasTrueRecords}
use Rattle.rope_node.specs.Denotes.{Byte, rope_len, IsRope}
use Rattle.rope_node.specs.Path.{shortened, span_at}
use Rattle.cord_position.specs.declared.path.Step.{Step}
use Rattle.cord_position.specs.declared.path.Fork.{Fork}
use Rattle.cord_position.specs.Fetched.{leaf_part}
use Rattle.cord_position.specs.Position.{IsPosition}
use Rattle.cord_position.specs.Runs.{rope_span, span_bytes, IsSpanBorder}

-- the place is one of the step's bytes
abbrev pub StepHolds : Step → ℕ → Type 0
StepHolds x i = (x.first ≤ i) × (i < x.first + x.len)

-- the rope's bytes from place first on, len of them, are the node's from its byte skipped on, leaf span by leaf span;
-- and place first is a border between the rope's leaf spans
pub record IsStepOfRope (t : Table) (rope : Option NodeId) (x : Step) : Type 0 where
  pub there : x.node.0 < length t.nodes
  pub in_node : x.skipped + x.len ≤ len_at t x.node.0
  pub in_rope : x.first + x.len ≤ rope_len t rope
  pub spans : (i : ℕ) → StepHolds x i
      → rope_span t rope i ≡ Some (shortened ((x.first + x.len) - i) (span_at t x.node.0 (x.skipped + (i - x.first))))
  pub border : IsSpanBorder t rope x.first

-- a step with n forks above it
pub record IsStepAt (t : Table) (rope : Option NodeId) (n : ℕ) (x : Step) : Type 0 where
  pub step : IsStepOfRope t rope x
  pub deep : depth_at t x.node.0 + n ≤ MOST_DEPTH

-- a step to a concatenation with n forks above it: its children, and how many bytes the left one has
pub record IsForkAt (t : Table) (rope : Option NodeId) (n : ℕ) (x : Fork) : Type 0 where
  pub at : IsStepAt t rope n x.step
  pub view : view_at t x.step.node.0 ≡ Cat x.l x.r
  pub left : x.left ≡ len_at t x.l.0

-- the forks of a path, from the root on
abbrev pub AreForks : Table → Option NodeId → List Fork → Type 0
AreForks t rope forks = (n : ℕ) (x : Fork) → slice_get forks n ≡ Some x → IsForkAt t rope n x

-- a path, with room for the longest one
pub record IsPath (t : Table) (rope : Option NodeId) (path : SmallVec Fork) : Type 0 where
  pub forks : AreForks t rope path.items
  pub room : path.capacity ≡ MOST_DEPTH + 1

-- a step to a leaf
pub record IsLeafStep (t : Table) (rope : Option NodeId) (x : Step) : Type 0 where
  pub step : IsStepOfRope t rope x
  pub leaf : IsLeaf (view_at t x.node.0)

-- the parts of a step to a concatenation that its children have, where the left one has so many bytes
abbrev pub left_step : Step → NodeId → ℕ → Step
left_step x l left = record x { node = l; len = min x.len (left - x.skipped) }

abbrev pub right_step : Step → NodeId → ℕ → Step
right_step x r left = let cut = left - x.skipped in
    record { node = r; first = x.first + cut; skipped = x.skipped - left; len = x.len - cut }

-- the part of a step to a substring that its base has, which begins so many bytes before it
abbrev pub base_step : Step → NodeId → ℕ → Step
base_step x b i = record x { node = b; skipped = x.skipped + i }

-- what is left of a step from a place on, as a span of its node
abbrev pub span_from : Step → ℕ → LeafSpan
span_from x i = record { leaf = x.node; start = x.skipped + (i - x.first); len = x.len - (i - x.first) }

-- the step is empty or leads to a leaf, and holds the place where that is before the rope's end
pub record IsHere (t : Table) (rope : Option NodeId) (i : ℕ) (x : Step) : Type 0 where
  pub sound : IsSound t
  pub true_records : HasTrueRecords t
  pub root : IsRope t rope
  pub begun : x.first ≤ i
  pub held : i < rope_len t rope → i < x.first + x.len
  pub leaf : 1 ≤ x.len → IsLeafStep t rope x

-- the bytes of a step to a literal; of any other step, none
pub record AreStepBytes (t : Table) (x : Step) (bytes : List ℕ) : Type 0 where
  pub exact : bytes ≡ span_bytes t (Some (span_from x x.first))
  pub cells : 1 ≤ length bytes → map Byte bytes ≡ leaf_part t x.node x.skipped x.len

-- a cursor in the bytes of a step to a literal, as far on as place i, or at their end; in none for any other step
pub record IsRunAt (t : Table) (x : Step) (i : ℕ) (run : Progress) : Type 0 where
  pub bytes : AreStepBytes t x (leaf_of run)
  pub passed : length run.passed ≡ min (i - x.first) (length (leaf_of run))

-- a place of a rope, with the step to its leaf, a cursor there and the path to it
pub record IsReachedPlace (t : Table) (rope : Option NodeId) (i : ℕ) (x : Step) (run : Progress) (path : SmallVec Fork)
    : Type 0 where
  pub position : IsPosition t rope i
  pub here : IsHere t rope i x
  pub literal : IsRunAt t x i run
  pub way : IsPath t rope path
