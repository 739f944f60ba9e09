-- Slots that are filled with the pieces of spans.
use Rattle.std.proofs.Common.{◌≡◌, ℕ, ◌+◌, ◌*◌, ◌^◌, ◌<◌, ◌≤◌, Bool, List, [], ◌++◌, length, take, drop, Option, None, Result, Ok, Err, refl, sym, ap, ◌∙◌, arith, zero, suc, get_or, replicate, length-append}
use Rattle.std.proofs.lemmas.List.{append_assoc, length-take, length-drop}
use Rattle.std.proofs.Math.Seq.{take-length}
use Rattle.std.specs.Prelude.{IfOk}
use Rattle.rope_store.specs.declared.endings.TheConstants.{MOST_MERGED}
use Rattle.rope_node.specs.declared.limits.TheConstants.{TEXT_LIMIT}
use Rattle.rope_node.specs.declared.node.NodeId.{NodeId}
use Rattle.rope_node.specs.Table.{Table, len_at, IsSound, HasTrueRecords}
use Rattle.rope_node.specs.Denotes.{Cell, cells, rope_cells}
use Rattle.rope_node.proofs.Cells.{cells_length}
use Rattle.node_table.specs.declared.fault.NodeFault.{NodeFault}
use Rattle.node_table.specs.Held.{Held, table_of}
use Rattle.rope_node.specs.declared.node.Span.{Span}
use Rattle.rebalance.specs.Balancing.{text_with, Fills, FillsSpan}
use Rattle.rebalance.specs.Pieces.{cells_in_span, span_pieces, IsOfBase, IsOfChildren}
use Rattle.rebalance.specs.Slots.{full_slots, slots_cells, AreSlots, Inserts, IsSpread}
use Rattle.rebalance.specs.Steps.{AddsNodes, Grows, Steps}
use Rattle.rebalance.proofs.Gathered.{spread_text}
use Rattle.rebalance.proofs.SlotLists.{cells_stay}
use Rattle.rebalance.proofs.Splits.{span_cells_kept, span_pieces_kept}
use Rattle.rebalance.proofs.StepLaws.{grows_itself, ok_map, refused_through, steps_after}
use Rattle.rebalance.specs.declared.slots.TheConstants.{SLOTS}

-- the slots are the same text in other words
spread_is : {t : Table} {most most' : ℕ} {text text' : List Cell} {m : ℕ} {slots : List (Option NodeId)} → IsSpread t most text m slots None → text ≡ text' → most ≤ most' → IsSpread t most' text' m slots None
spread_is spread same more = record {
  are = spread.are;
  empty = spread.empty;
  is_rope = tt;
  whole = spread.whole ∙ same;
  nodes = omega (arith, spread.nodes, more);
}

-- no bytes
pub fills_nothing : {F A : Type 0} (meaning : F → ℕ → ℕ) (h : Held F) (keep : Bool) (slots : List (Option NodeId)) (p : Span) (a : A) → p.len ≡ 0 → AreSlots (table_of meaning h) slots → FillsSpan meaning h keep slots p (Ok a) slots h
fills_nothing meaning h keep slots p a none are =
    let t = table_of meaning h in
    let text : cells_in_span t p ≡ [] = rw none refl in
    record {
      steps = record { grows = grows_itself meaning h _ _ (omega arith) (omega arith); fault = tt; full = tt };
      spread = record {
        are = are;
        empty = λ i lt. absurd (omega (arith, lt));
        is_rope = tt;
        whole = ap (λ cs. slots_cells t slots ++ cs) (sym text);
        nodes = omega arith;
      };
    }

-- what is refused at first
pub fills_refused : {F A B : Type 0} (meaning : F → ℕ → ℕ) (old new : Held F) (slots after : List (Option NodeId)) (p n b : ℕ) (text : List Cell) (e : NodeFault) → Steps {A = A} meaning old n b (Err e) new → n ≤ length old.nodes + (full_slots slots + 2 * p) → b ≤ length old.pool.bytes + MOST_MERGED * p → Fills {A = B} meaning old slots p text (Err e) after new
fills_refused meaning old new slots after p n b text e steps nodes bytes = record {
  steps = refused_through e (grows_itself meaning old (length old.nodes) (length old.pool.bytes) (omega arith) (omega arith)) steps nodes bytes;
  spread = tt;
}

-- one piece
pub piece_text : {F : Type 0} (meaning : F → ℕ → ℕ) (old mid : Held F) (slots : List (Option NodeId)) (rope : Option NodeId) (text : List Cell) (nodes bytes : ℕ) → IsSound (table_of meaning old) → AreSlots (table_of meaning old) slots → Grows meaning old nodes bytes mid → rope_cells (table_of meaning mid) rope ≡ text
    → slots_cells (table_of meaning mid) slots ++ rope_cells (table_of meaning mid) rope ≡ slots_cells (table_of meaning old) slots ++ text
piece_text meaning old mid slots rope text nodes bytes s are grows same = rw (same, cells_stay (table_of meaning old) (table_of meaning mid) s grows.kept slots are) refl

pub fills_piece : {F A : Type 0} (meaning : F → ℕ → ℕ) (old mid new : Held F) (slots after : List (Option NodeId)) (rope : Option NodeId) (text : List Cell) (result : Result A NodeFault) → IsSound (table_of meaning old) → AreSlots (table_of meaning old) slots
    → Grows meaning old (length old.nodes + 1) (length old.pool.bytes + MOST_MERGED) mid → rope_cells (table_of meaning mid) rope ≡ text → AddsNodes meaning mid (full_slots slots + 1) result new → IfOk result (λ _. Inserts meaning mid slots rope after new) → Fills meaning old slots 1 text result after new
fills_piece meaning old mid new slots after rope text result s are first same steps spread =
    let whole = piece_text meaning old mid slots rope text _ _ s are first same in
    record {
      steps = steps_after result first steps (omega (arith, first.few_nodes)) (omega (arith, first.few_bytes));
      spread = ok_map result (λ a to. spread_is to whole (omega (arith, first.few_nodes))) spread;
    }

-- one span behind another
pub fills_both : {F A B : Type 0} (meaning : F → ℕ → ℕ) (old mid new : Held F) (slots between after : List (Option NodeId)) (p q : ℕ) (xs ys : List Cell) (a : A) (result : Result B NodeFault) → Fills meaning old slots p xs (Ok a) between mid → Fills meaning mid between q ys result after new → Fills meaning old slots (p + q) (xs ++ ys) result after new
fills_both meaning old mid new slots between after p q xs ys a result first second =
    let grows = first.steps.grows in
    let text : slots_cells (table_of meaning mid) between ++ ys ≡ slots_cells (table_of meaning old) slots ++ (xs ++ ys) =
    ap (λ cs. cs ++ ys) (spread_text (table_of meaning mid) _ _ 0 between first.spread) ∙ append_assoc (slots_cells (table_of meaning old) slots) xs ys in
    record {
      steps = steps_after result grows second.steps (omega (arith, first.spread.nodes)) (omega (arith, grows.few_bytes));
      spread = ok_map result (λ b to. spread_is to text (omega (arith, first.spread.nodes))) second.spread;
    }

-- ---- a span one step down

pub fills_base : {F A : Type 0} (meaning : F → ℕ → ℕ) (old new : Held F) (keep : Bool) (slots after : List (Option NodeId)) (p base : Span) (result : Result A NodeFault) → IsOfBase keep (table_of meaning old) p base → FillsSpan meaning old keep slots base result after new → FillsSpan meaning old keep slots p result after new
fills_base meaning old new keep slots after p base result of fills = rw (of.count, of.cells) fills

pub fills_left : {F A B : Type 0} (meaning : F → ℕ → ℕ) (old mid : Held F) (keep : Bool) (slots between : List (Option NodeId)) (p left right : Span) (e : NodeFault) → IsOfChildren keep (table_of meaning old) p left right → FillsSpan {A = A} meaning old keep slots left (Err e) between mid → FillsSpan {A = B} meaning old keep slots p (Err e) between mid
fills_left meaning old mid keep slots between p left right e of fills = fills_refused meaning old mid slots between _ _ _ _ e fills.steps (omega (arith, of.count)) (omega (arith, of.count))

pub fills_children : {F A B : Type 0} (meaning : F → ℕ → ℕ) (old mid new : Held F) (keep : Bool) (slots between after : List (Option NodeId)) (p left right : Span) (a : A) (result : Result B NodeFault) → IsSound (table_of meaning old) → IsOfChildren keep (table_of meaning old) p left right
    → FillsSpan meaning old keep slots left (Ok a) between mid → FillsSpan meaning mid keep between right result after new → FillsSpan meaning old keep slots p result after new
fills_children meaning old mid new keep slots between after p left right a result s of first second =
    let t = table_of meaning old in
    let kept = first.steps.grows.kept in
    let count = span_pieces_kept keep t (table_of meaning mid) s kept right of.right_below.span in
    let cells = span_cells_kept t (table_of meaning mid) s kept right of.right_below.span in
    let second' = rw (count, cells) at second in
    rw (of.count, of.cells) (fills_both meaning old mid new slots between after (span_pieces keep t left) (span_pieces keep t right) (cells_in_span t left) (cells_in_span t right) a result first second')

-- the left span leaves the text short, and then the right one makes it whole
pub left_short : (keep : Bool) (t : Table) (slots : List (Option NodeId)) (p left right : Span) → IsOfChildren keep t p left right → length (text_with t slots p) < TEXT_LIMIT → length (text_with t slots left) < TEXT_LIMIT
left_short keep t slots p left right of short =
    let text = slots_cells t slots in
    omega (arith, short, length-append text (cells_in_span t p), length-append text (cells_in_span t left), length-append (cells_in_span t left) (cells_in_span t right), ap length of.cells)

pub right_text : {F A : Type 0} (meaning : F → ℕ → ℕ) (old mid : Held F) (keep : Bool) (slots between : List (Option NodeId)) (p left right : Span) (a : A) → IsSound (table_of meaning old) → IsOfChildren keep (table_of meaning old) p left right → FillsSpan meaning old keep slots left (Ok a) between mid
    → text_with (table_of meaning mid) between right ≡ text_with (table_of meaning old) slots p
right_text meaning old mid keep slots between p left right a s of first =
    let t = table_of meaning old in
    let t1 = table_of meaning mid in
    let cells = span_cells_kept t t1 s first.steps.grows.kept right of.right_below.span in
    rw (of.cells, cells, spread_text t1 _ _ 0 between first.spread) (append_assoc (slots_cells t slots) (cells_in_span t left) (cells_in_span t right))

-- ---- all of a text

-- a part of a node's text is short
pub part_short : (t : Table) → IsSound t → HasTrueRecords t → (node start n : ℕ) → node < length t.nodes → length (take n (drop start (cells t node))) < 2 ^ 40
part_short t s h node start n there =
    let few = length-take n (drop start (cells t node)) in
    let rest = length-drop start (cells t node) in
    let len = cells_length t s h node there in
    let short = (s.nodes node there).not_long in
    omega (arith, few, rest, len, short)

pub whole_text : (t : Table) → IsSound t → HasTrueRecords t → (node n : ℕ) → node < length t.nodes → n ≡ len_at t node → take n (drop 0 (cells t node)) ≡ cells t node
whole_text t s h node n there all =
    let len : n ≡ length (cells t node) = all ∙ sym (cells_length t s h node there) in
    ap (λ (k : ℕ). take k (cells t node)) len ∙ take-length (cells t node)

-- no rope in any slot
pub none_at : (n m : ℕ) → get_or {A = Option NodeId} (replicate n None) m None ≡ None
none_at zero m = refl
none_at (suc n) zero = refl
none_at (suc n) (suc m) = none_at n m

pub no_slots : (t : Table) → AreSlots t (replicate SLOTS None)
no_slots t = record { size = refl; each = λ m. rw (none_at SLOTS m) tt }
