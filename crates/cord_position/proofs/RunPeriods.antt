-- Runs of a function repeat as it does.
use Rattle.std.proofs.Common.{◌≡◌, ℕ, ◌+◌, ◌<◌, Option, Some, None, sym, ap, ◌∙◌, arith}
use Rattle.std.specs.Prelude.{IfSome}
use Rattle.function_leaf.specs.Repeating.{Repeats}
use Rattle.rope_node.specs.declared.node.LeafSpan.{LeafSpan}
use Rattle.rope_node.specs.declared.node.NodeId.{NodeId}
use Rattle.rope_node.specs.declared.node.NodeView.TheVariants.{Fun}
use Rattle.rope_node.specs.Table.{Table, view_at, IsSound}
use Rattle.rope_node.specs.Denotes.{Byte}
use Rattle.cord_position.specs.Runs.{rope_span, span_len, IsLeafRun, IsRunPeriod}
use Rattle.cord_position.proofs.LeafCells.{function_cell}
use Rattle.cord_position.proofs.LeafParts.{run_cells}

pub period_of_run : (t : Table) → IsSound t → (rope : Option NodeId) (i : ℕ) (x : LeafSpan) → Some x ≡ rope_span t rope i → IsLeafRun t rope i x → view_at t x.leaf.0 ≡ Fun
    → (found : Option ℕ) → IfSome found (Repeats (t.answer x.leaf.0)) → IfSome found (IsRunPeriod t rope i)
period_of_run t s rope i x span run e None h = tt
period_of_run t s rope i x span run e (Some p) h = record {
  some = h.some;
  same = λ k lt.
      let inside : k + p < x.len = omega (arith, lt, ap span_len span) in
      let there : x.start + (k + p) ≡ (x.start + k) + p = omega arith in
      run_cells t rope i x run (k + p) inside
      ∙ function_cell t s x.leaf.0 (x.start + (k + p)) run.there (omega (arith, inside, run.in_leaf)) e
      ∙ ap Byte (ap (t.answer x.leaf.0) there ∙ h.same (x.start + k))
      ∙ sym (function_cell t s x.leaf.0 (x.start + k) run.there (omega (arith, inside, run.in_leaf)) e)
      ∙ sym (run_cells t rope i x run k (omega (arith, inside)));
}
