-- Where a run of a text's bytes stands, as numbers.
use Rattle.std.specs.Prelude.{◌≡◌, ℕ, ◌+◌, ◌≤◌, List, [], ◌∷◌, length, replicate, Option, Some, None}
use Rattle.function_leaf.specs.declared.coded.Coded.{Coded}
use Rattle.function_leaf.specs.declared.coded.Coded.TheVariants.{Fill, Ramp, Cycle}
use Rattle.function_leaf.specs.declared.pattern.TheConstants.{PATTERN_LIMIT}
use Rattle.function_leaf.specs.Pattern.{padded}
use Rattle.rope_node.specs.declared.node.LeafSpan.{LeafSpan}
use Rattle.rope_node.specs.declared.node.NodeId.{NodeId}
use Rattle.rope_node.specs.Table.{Table, view_at}
use Rattle.rope_node.specs.Denotes.{rope_len}
use Rattle.cord_position.specs.Fetched.{rope_part}
use Rattle.cord_position.specs.Runs.{rope_span, run_left}
use Rattle.span_descent.specs.declared.description.Description.{Description}
use Rattle.span_descent.specs.declared.description.Description.TheVariants.{Pooled, Sourced, Computed}
use Rattle.span_descent.specs.Leads.{described_cells, leaf_description}
use Rattle.image_reader.specs.declared.codes.TheConstants.{CYCLE, FILL, RAMP}
use Rattle.cord_types.specs.declared.run.CordRun.{CordRun}
use Rattle.cord_types.specs.declared.run.TheConstants.{COMPUTED, POOLED, SOURCED}

-- the numbers of a run of n bytes of the pool or of a source
abbrev pub placed_run : ℕ → ℕ → ℕ → ℕ → CordRun
placed_run kind s a n = record {
  kind = kind;
  source = s;
  function = 0;
  pattern_len = 0;
  start = a;
  len = n;
  pattern = replicate PATTERN_LIMIT 0;
}

-- and of what a function answers from its place i on
abbrev pub computed_run : ℕ → List ℕ → ℕ → ℕ → CordRun
computed_run function pattern i n = record {
  kind = COMPUTED;
  source = 0;
  function = function;
  pattern_len = length pattern;
  start = i;
  len = n;
  pattern = padded pattern;
}

-- the numbers of n bytes of a description
abbrev pub run_told : Description → ℕ → CordRun
run_told (Pooled a) n = placed_run POOLED 0 a n
run_told (Sourced s a) n = placed_run SOURCED s a n
run_told (Computed (Fill c) i) n = computed_run FILL (c ∷ []) i n
run_told (Computed (Ramp c) i) n = computed_run RAMP (c ∷ []) i n
run_told (Computed (Cycle pattern) i) n = computed_run CYCLE pattern i n

-- what a span of a leaf is: the pool or a source from the leaf's place there and the span's in the leaf on, or the
-- leaf's function from there on
abbrev pub leaf_span_description : Table → (ℕ → Coded) → Option LeafSpan → Option Description
leaf_span_description t coded None = None
leaf_span_description t coded (Some x) = leaf_description (coded x.leaf.0) x.start (view_at t x.leaf.0)

-- The numbers are those of the run that a rope has from this place on, where a function stands at each node of
-- functions: bytes of one description, which is that of the leaf span that holds them, up to its end.
pub record IsToldRun (t : Table) (coded : ℕ → Coded) (rope : Option NodeId) (place : ℕ) (x : CordRun) : Type 0 where
  pub longest : x.len ≡ run_left t rope place
  pub some : 1 ≤ x.len
  pub inside : place + x.len ≤ rope_len t rope
  pub what : Description
  pub stands : leaf_span_description t coded (rope_span t rope place) ≡ Some what
  pub cells : (m : ℕ) → m ≤ x.len → rope_part t rope place m ≡ described_cells t m what
  pub told : x ≡ run_told what x.len
