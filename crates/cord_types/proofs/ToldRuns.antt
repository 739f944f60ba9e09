-- The run of a rope's bytes that is told.
use Rattle.std.proofs.Common.{◌≡◌, ℕ, ◌<◌, ◌≤◌, length, refl, sym, ap, subst, ◌∙◌, arith}
use Rattle.std.specs.Prelude.{Option, Some}
use Rattle.function_leaf.specs.declared.coded.Coded.{Coded}
use Rattle.function_leaf.specs.declared.coded.Coded.TheVariants.{Fill, Ramp, Cycle}
use Rattle.rope_node.specs.declared.node.LeafSpan.{LeafSpan}
use Rattle.rope_node.specs.declared.node.NodeId.{NodeId}
use Rattle.rope_node.specs.Table.{Table, len_at, view_at, IsSound, HasTrueRecords}
use Rattle.rope_node.specs.Path.{span_at}
use Rattle.rope_node.proofs.LeafSpans.{begins}
use Rattle.cord_position.specs.Runs.{IsLeafRun, rope_span, span_len}
use Rattle.cord_position.proofs.LeafParts.{run_part}
use Rattle.span_descent.specs.declared.description.Description.{Description}
use Rattle.span_descent.specs.declared.description.Description.TheVariants.{Pooled, Sourced, Computed}
use Rattle.span_descent.specs.Leads.{leaf_description, Describes}
use Rattle.cord_types.specs.declared.run.CordRun.{CordRun}
use Rattle.cord_types.specs.ToldRuns.{IsToldRun, leaf_span_description, run_told}

-- the leaf span at a place of a rope is its run
pub span_run : (t : Table) → IsSound t → HasTrueRecords t → (rope : Option NodeId) (node : NodeId) (i : ℕ) (x : LeafSpan) → rope ≡ Some node → node.0 < length t.nodes → i < len_at t node.0 → x ≡ span_at t node.0 i → IsLeafRun t rope i x
span_run t s h rope node i x is there inside same =
    let all = begins t s h node.0 i there inside in
    subst (λ (r : Option NodeId). IsLeafRun t r i x) (sym is) (subst (IsLeafRun t (Some node) i) (sym same) (record {
      there = all.there;
      leaf = all.leaf;
      some = all.some;
      in_leaf = all.in_leaf;
      in_rope = all.in_node;
      cells = all.cells;
    }))

-- the numbers of a run tell its length
told_len : (what : Description) (n : ℕ) → (run_told what n).len ≡ n
told_len (Pooled a) n = refl
told_len (Sourced s a) n = refl
told_len (Computed (Fill c) i) n = refl
told_len (Computed (Ramp c) i) n = refl
told_len (Computed (Cycle pattern) i) n = refl

-- a run that was found and described
pub told_run : (t : Table) (coded : ℕ → Coded) (rope : Option NodeId) (place : ℕ) (x : LeafSpan) (what : Description) (run : CordRun) → Some x ≡ rope_span t rope place → IsLeafRun t rope place x
    → leaf_description (coded x.leaf.0) x.start (view_at t x.leaf.0) ≡ Some what → Describes t x.leaf.0 x.start what → run ≡ run_told what x.len → IsToldRun t coded rope place run
told_run t coded rope place x what run is found value describes told =
    let len : run.len ≡ x.len = ap (λ (r : CordRun). r.len) told ∙ told_len what x.len in
    record {
      longest = len ∙ ap span_len is;
      some = omega (arith, len, found.some);
      inside = omega (arith, len, found.in_rope);
      what = what;
      stands = ap (leaf_span_description t coded) (sym is) ∙ value;
      cells = λ m le.
          let few : m ≤ x.len = omega (arith, le, len) in
          run_part t rope place m x found few ∙ describes.cells m (omega (arith, few, found.in_leaf));
      told = told ∙ ap (run_told what) (sym len);
    }
