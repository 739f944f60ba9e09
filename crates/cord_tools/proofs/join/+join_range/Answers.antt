use Rattle.std.proofs.Common.{◌≡◌, ℕ, ◌+◌, ◌-◌, ◌/◌, ◌≤◌, ◌^◌, ◌++◌, ◌∙◌, List, Err, length, ap, sym, arith}
use Rattle.std.specs.Prelude.{IfOk}
use Rattle.std.proofs.lemmas.Result.{err_from_is_err_and}
use Rattle.function_leaf.specs.Coded.{coded_byte}
use Rattle.rope_node.specs.Denotes.{rope_cells, rope_len, rope_depth, IsRope}
use Rattle.rope_node.proofs.Ropes.{extends_through, rope_kept}
use Rattle.node_table.specs.Held.{table_of}
use Rattle.rebalance.proofs.AnyLaws.{rope_depth_kept}
use Rattle.rebalance.proofs.StepLaws.{ok_map}
use Rattle.cord_tools.specs.Files.{cells_of_sources}
use Rattle.cord_tools.proofs.Halves.{JoinsHalves, half_levels, halves_joined, halves_refused, on_ok}
use Rattle.cord_tools.proofs.Joined.{length_of_one, length_of_two, two_ranges}
use Rattle.cord_tools.proofs.join.+join_range.Goals as goal

pub returns-then-count-eq1-clause-short : goal.returns-then-count-eq1-clause-short
returns-then-count-eq1-clause-short t c =
    let sizes = c.args.store.now.sources in
    omega (arith, ap (λ (k : ℕ). length (cells_of_sources sizes c.args.first k)) c.if-count-eq1.true, length_of_one sizes c.args.first, c.source_len-len.ensures.value, c.source_len-len.ensures.limit)

pub returns-in_err-left-clause-too_long : goal.returns-in_err-left-clause-too_long
returns-in_err-left-clause-too_long t c is =
    let p = err_from_is_err_and c.from_residual-in_err-left.result c.from_residual-in_err-left.ensures.1 in
    let half = c.args.count / 2 in
    omega (arith, c.in_err-left.ensures.too_long (ap Err (sym p.2) ∙ sym p.1 ∙ is), length_of_two c.args.store.now.sources c.args.first half (c.args.count - half) c.args.count (omega arith))

pub returns-in_err-right-clause-too_long : goal.returns-in_err-right-clause-too_long
returns-in_err-right-clause-too_long t c is =
    let p = err_from_is_err_and c.from_residual-in_err-right.result c.from_residual-in_err-right.ensures.1 in
    let half = c.args.count / 2 in
    let own = ap (λ (ns : List ℕ). length (cells_of_sources ns (c.args.first + half) (c.args.count - half))) c.in_ok-left.ensures.sources in
    omega (arith, own, c.in_err-right.ensures.too_long (ap Err (sym p.2) ∙ sym p.1 ∙ is), length_of_two c.args.store.now.sources c.args.first half (c.args.count - half) c.args.count (omega arith))

pub returns-in_err-right-clause-kept : goal.returns-in_err-right-clause-kept
returns-in_err-right-clause-kept t c =
    extends_through (table_of coded_byte c.args.store.now) (table_of coded_byte c.join_range.new.store) (table_of coded_byte c.join_range-2.new.store) c.in_ok-left.ensures.kept c.in_err-right.ensures.kept

-- the left rope where the right one stands
left_there : (t : ℕ) (c : goal.After-cat_any t) → IsRope (table_of coded_byte c.join_range-2.new.store) c.in_ok-left.left
left_there t c = rope_kept (table_of coded_byte c.join_range.new.store) (table_of coded_byte c.join_range-2.new.store) c.in_ok-right.ensures.kept c.in_ok-left.left c.in_ok-left.ensures.is_rope

left_depth : (t : ℕ) (c : goal.After-cat_any t) (levels : ℕ) → c.args.count / 2 ≤ 2 ^ levels → rope_depth (table_of coded_byte c.join_range-2.new.store) c.in_ok-left.left ≤ levels
left_depth t c levels le =
    omega (arith, rope_depth_kept (table_of coded_byte c.join_range.new.store) (table_of coded_byte c.join_range-2.new.store) c.in_ok-right.ensures.kept c.in_ok-left.left c.in_ok-left.ensures.is_rope, c.in_ok-left.ensures.depth levels le)

left_shallow : (t : ℕ) (c : goal.After-cat_any t) → rope_depth (table_of coded_byte c.join_range-2.new.store) c.in_ok-left.left ≤ 63
left_shallow t c = omega (arith, left_depth t c 8 (omega (arith, c.requires.there, c.requires.few)))

right_shallow : (t : ℕ) (c : goal.After-cat_any t) → rope_depth (table_of coded_byte c.join_range-2.new.store) c.in_ok-right.right ≤ 63
right_shallow t c = omega (arith, c.in_ok-right.ensures.depth 8 (omega (arith, c.requires.there, c.requires.few)))

whole : (t : ℕ) (c : goal.After-cat_any t) → IfOk c.cat_any.result (λ rope. JoinsHalves c.join_range-2.new.store c.in_ok-left.left c.in_ok-right.right rope c.cat_any.new.store)
whole t c = halves_joined c.join_range-2.new.store c.cat_any.new.store c.in_ok-left.left c.in_ok-right.right _ _ _ c.cat_any.result c.count-count-3.ensures.sound c.count-count-3.ensures.true_records (left_there t c) c.in_ok-right.ensures.is_rope
    (left_shallow t c) (right_shallow t c) c.cat_any.ensures

both : (t : ℕ) (c : goal.After-cat_any t)
    → (rope_cells (table_of coded_byte c.join_range-2.new.store) c.in_ok-left.left ++ rope_cells (table_of coded_byte c.join_range-2.new.store) c.in_ok-right.right ≡ cells_of_sources c.args.store.now.sources c.args.first c.args.count)
    × (rope_len (table_of coded_byte c.join_range-2.new.store) c.in_ok-left.left + rope_len (table_of coded_byte c.join_range-2.new.store) c.in_ok-right.right ≡ length (cells_of_sources c.args.store.now.sources c.args.first c.args.count))
both t c =
    let half = c.args.count / 2 in
    two_ranges (table_of coded_byte c.join_range.new.store) (table_of coded_byte c.join_range-2.new.store) c.args.store.now.sources c.args.first half (c.args.count - half) c.args.count c.in_ok-left.left c.in_ok-right.right
    c.count-count-2.ensures.sound c.count-count-3.ensures.sound c.count-count-3.ensures.true_records c.in_ok-right.ensures.kept (omega arith) c.in_ok-left.ensures.is_rope c.in_ok-left.ensures.text c.in_ok-right.ensures.is_rope
    (c.in_ok-right.ensures.text ∙ ap (λ (ns : List ℕ). cells_of_sources ns (c.args.first + half) (c.args.count - half)) c.in_ok-left.ensures.sources)

pub returns-clause-text : goal.returns-clause-text
returns-clause-text t c = ok_map c.cat_any.result (λ rope is. is ∙ (both t c).0) c.cat_any.ensures.gives.text

pub returns-clause-depth : goal.returns-clause-depth
returns-clause-depth t c levels le =
    let h = half_levels c.args.count levels (omega (arith, c.requires.some, c.if-count-eq1.false)) le in
    ok_map c.cat_any.result (λ rope joins. omega (arith, h.1, joins.depth h.0 (left_depth t c h.0 h.2) (c.in_ok-right.ensures.depth h.0 h.3))) (whole t c)

pub returns-clause-nodes : goal.returns-clause-nodes
returns-clause-nodes t c = on_ok c.cat_any.result (λ rope joins. omega (arith, joins.nodes, c.in_ok-left.ensures.nodes, c.in_ok-right.ensures.nodes)) (whole t c)

pub returns-clause-bytes : goal.returns-clause-bytes
returns-clause-bytes t c = on_ok c.cat_any.result (λ rope joins. omega (arith, joins.bytes, c.in_ok-left.ensures.bytes, c.in_ok-right.ensures.bytes)) (whole t c)

pub returns-clause-too_long : goal.returns-clause-too_long
returns-clause-too_long t c is = omega (arith, (both t c).1, c.cat_any.ensures.too_long.0 is)

pub returns-clause-fault : goal.returns-clause-fault
returns-clause-fault t c =
    halves_refused c.join_range-2.new.store c.cat_any.new.store c.in_ok-left.left c.in_ok-right.right _ _ _ c.cat_any.result c.count-count-3.ensures.sound c.count-count-3.ensures.true_records (left_there t c) c.in_ok-right.ensures.is_rope
    (left_shallow t c) (right_shallow t c) (omega (arith, c.requires, c.in_ok-left.ensures.nodes, c.in_ok-right.ensures.nodes)) (omega (arith, c.requires, c.in_ok-left.ensures.bytes, c.in_ok-right.ensures.bytes)) c.cat_any.ensures

pub returns-clause-kept : goal.returns-clause-kept
returns-clause-kept t c =
    let a = table_of coded_byte c.args.store.now in
    let m = table_of coded_byte c.join_range-2.new.store in
    extends_through a m (table_of coded_byte c.cat_any.new.store) (extends_through a (table_of coded_byte c.join_range.new.store) m c.in_ok-left.ensures.kept c.in_ok-right.ensures.kept) c.cat_any.ensures.gives.grows.kept

pub returns-clause-short : goal.returns-clause-short
returns-clause-short t c = on_ok c.cat_any.result (λ rope joins. omega (arith, joins.short, (both t c).1)) (whole t c)
