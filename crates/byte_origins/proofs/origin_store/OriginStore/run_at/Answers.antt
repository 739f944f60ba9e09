use Rattle.std.proofs.Common.{◌≡◌, ℕ, ◌<◌, Option, Some, ap, ◌∙◌, subst, arith}
use Rattle.function_leaf.specs.Coded.{coded_byte}
use Rattle.rope_node.specs.declared.node.LeafSpan.{LeafSpan}
use Rattle.rope_node.specs.declared.node.NodeId.{NodeId}
use Rattle.rope_node.specs.Table.{Table, IsSound, HasTrueRecords}
use Rattle.rope_node.specs.Denotes.{rope_len, IsRope}
use Rattle.rope_node.specs.Path.{span_at}
use Rattle.rope_node.proofs.LeafSpans.{BeginsWith}
use Rattle.node_table.specs.Held.{table_of}
use Rattle.byte_origins.specs.OriginTexts.{OriginTexts, ropes_table}
use Rattle.byte_origins.proofs.RopeRuns.{names_run, span_found}
use Rattle.byte_origins.proofs.origin_store.OriginStore.run_at.Goals as goal

-- the leaf span that is found
found : (t : Table) → IsSound t → HasTrueRecords t → (text : Option NodeId) (node : NodeId) (place len : ℕ) (span : LeafSpan) → IsRope t text → text ≡ Some node → len ≡ rope_len t text → place < len → span ≡ span_at t node.0 place → BeginsWith t node.0 place span
found t s h text node place len span rope is long inside at =
    let there : IsRope t (Some node) = subst (IsRope t) is rope in
    let len_is : len ≡ rope_len t (Some node) = long ∙ ap (rope_len t) is in
    span_found t s h node.0 place there (omega (arith, len_is, inside)) span at

pub place_of-requires-clause-there : goal.place_of-requires-clause-there
place_of-requires-clause-there c =
    let k = c.count-count.ensures in
    (found (table_of coded_byte c.self.inside.ropes) k.sound k.true_records c.args.text c.in_ok-node.node c.args.place c.len.result c.leaf_span-span.result (rw (← c.self.view_is) at c.requires) c.in_ok-node.was c.len.ensures.exact (omega (arith, c.if-place-len.false)) c.leaf_span-span.ensures).there

pub place_of-requires-clause-some : goal.place_of-requires-clause-some
place_of-requires-clause-some c =
    let k = c.count-count.ensures in
    (found (table_of coded_byte c.self.inside.ropes) k.sound k.true_records c.args.text c.in_ok-node.node c.args.place c.len.result c.leaf_span-span.result (rw (← c.self.view_is) at c.requires) c.in_ok-node.was c.len.ensures.exact (omega (arith, c.if-place-len.false)) c.leaf_span-span.ensures).some

pub place_of-requires-clause-inside : goal.place_of-requires-clause-inside
place_of-requires-clause-inside c =
    let k = c.count-count.ensures in
    (found (table_of coded_byte c.self.inside.ropes) k.sound k.true_records c.args.text c.in_ok-node.node c.args.place c.len.result c.leaf_span-span.result (rw (← c.self.view_is) at c.requires) c.in_ok-node.was c.len.ensures.exact (omega (arith, c.if-place-len.false)) c.leaf_span-span.ensures).in_leaf

pub returns : goal.returns
returns c = λ origins names.
    let k = c.count-count.ensures in
    let x : OriginTexts = record { held = c.self.inside.ropes; brought = c.self.inside.brought } in
    let text = c.in_ok-node.was in
    let begin = found (ropes_table x) k.sound k.true_records c.args.text c.in_ok-node.node c.args.place c.len.result c.leaf_span-span.result (rw (← c.self.view_is) at c.requires) text c.len.ensures.exact (omega (arith, c.if-place-len.false)) c.leaf_span-span.ensures in
    names_run x c.in_ok-node.node c.args.place c.leaf_span-span.result c.in_ok-brought.brought c.in_ok-run.run' c.min-len.result origins begin c.in_ok-brought.ensures c.in_ok-run.ensures c.min-len.ensures (rw (text, ← c.self.view_is) at names)
