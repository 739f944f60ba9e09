-- The run of a rope's bytes from a place to the end of its leaf's span.
use Rattle.std.specs.Prelude.{◌≡◌, ℕ, ◌+◌, ◌<◌, ◌≤◌, nat_lt, if◌then◌else◌, List, [], length, take, Option, Some, None}
use Rattle.rope_node.specs.declared.node.NodeId.{NodeId}
use Rattle.rope_node.specs.declared.node.LeafSpan.{LeafSpan}
use Rattle.rope_node.specs.Table.{Table, view_at, len_at, literal_bytes, IsLeaf}
use Rattle.rope_node.specs.Denotes.{Cell, rope_len, text}
use Rattle.rope_node.specs.Path.{span_at}
use Rattle.lazy_file.specs.SourceTexts.{Agrees, Stated}
use Rattle.cord_position.specs.Fetched.{AreStated, leaf_part, rope_cell, rope_part}

-- the leaf span that a rope's bytes from place i on begin with; at the end and past it, none
abbrev pub rope_span : Table → Option NodeId → ℕ → Option LeafSpan
rope_span t None i = None
rope_span t (Some id) i = if nat_lt i (len_at t id.0) then Some (span_at t id.0 i) else None

abbrev pub span_len : Option LeafSpan → ℕ
span_len None = 0
span_len (Some x) = x.len

-- how many bytes there are from place i of a rope to the end of its leaf's span
abbrev pub run_left : Table → Option NodeId → ℕ → ℕ
run_left t rope i = span_len (rope_span t rope i)

-- no leaf span that begins before place i of a rope reaches past it
abbrev pub IsSpanBorder : Table → Option NodeId → ℕ → Type 0
IsSpanBorder t rope i = (k : ℕ) → k < i → k + run_left t rope k ≤ i

-- where the leaf span that holds place i of a rope begins; at the end, the end
pub record IsRunStart (t : Table) (rope : Option NodeId) (i start : ℕ) : Type 0 where
  pub before : start ≤ i
  pub same_end : start + run_left t rope start ≡ i + run_left t rope i
  pub border : IsSpanBorder t rope start
  pub at_end : rope_len t rope ≤ i → start ≡ i

-- the bytes of a span of a literal; of any other leaf, none
abbrev pub span_bytes : Table → Option LeafSpan → List ℕ
span_bytes t None = []
span_bytes t (Some x) = take x.len (literal_bytes t x.start (len_at t x.leaf.0) (view_at t x.leaf.0))

-- the bytes from place i of a rope to the end of its leaf's span, where the leaf is a literal
abbrev pub run_bytes : Table → Option NodeId → ℕ → List ℕ
run_bytes t rope i = span_bytes t (rope_span t rope i)

-- this span of a leaf is what a rope's cells begin with at place i
pub record IsLeafRun (t : Table) (rope : Option NodeId) (i : ℕ) (x : LeafSpan) : Type 0 where
  pub there : x.leaf.0 < length t.nodes
  pub leaf : IsLeaf (view_at t x.leaf.0)
  pub some : 1 ≤ x.len
  pub in_leaf : x.start + x.len ≤ len_at t x.leaf.0
  pub in_rope : i + x.len ≤ rope_len t rope
  pub cells : rope_part t rope i x.len ≡ leaf_part t x.leaf x.start x.len

-- the bytes that stated cells stand for, whatever bytes the sources have that agree with what they state
abbrev pub AreBytesOf : Stated → List Cell → List ℕ → Type 0
AreBytesOf st cs bytes = (source : ℕ → ℕ → ℕ) → Agrees st source → AreStated st cs → bytes ≡ text source cs

-- the cells from place i of a rope to the end of their leaf's span are the same again after p of them
pub record IsRunPeriod (t : Table) (rope : Option NodeId) (i p : ℕ) : Type 0 where
  pub some : 1 ≤ p
  pub same : (k : ℕ) → k + p < run_left t rope i → rope_cell t rope (i + (k + p)) ≡ rope_cell t rope (i + k)
