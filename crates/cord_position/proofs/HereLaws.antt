-- What the step to the present leaf says of a place: its leaf span, its run, its byte and the bytes from it on.
use Rattle.std.proofs.Common.{◌≡◌, ℕ, ◌+◌, ◌-◌, ◌<◌, ◌≤◌, List, [], inl, inr, min, map, length, take, drop, get_or, refl, sym, ap, subst, ◌∙◌, arith, Option, Some, None}
use Rattle.std.proofs.lemmas.Bool.{cases_lt, lt-ltb, le-ltb}
use Rattle.std.proofs.lemmas.List.{length-take, drop-take, drop-drop, drop-map, drop_all, take_all, get_or-map, get_or-take, get_or-drop}
use Rattle.rope_node.specs.declared.node.NodeId.{NodeId}
use Rattle.rope_node.specs.declared.node.LeafSpan.{LeafSpan}
use Rattle.rope_node.specs.declared.node.NodeView.{NodeView}
use Rattle.rope_node.specs.declared.node.NodeView.TheVariants.{Lit, Src, Fun, Cat, Sub}
use Rattle.rope_node.specs.Table.{Table, view_at, len_at, literal_bytes, IsSound, HasTrueRecords}
use Rattle.rope_node.specs.Denotes.{Byte, cell_at, cells, rope_len, IsRope}
use Rattle.rope_node.specs.Path.{span_at, shortened}
use Rattle.rope_node.proofs.LeafSpans.{begins, rest_at}
use Rattle.lazy_file.specs.SourceTexts.{Stated}
use Rattle.cord_position.specs.declared.path.Step.{Step}
use Rattle.cord_position.specs.Fetched.{IsByteOf, IsFetched, rope_cell, rope_part}
use Rattle.cord_position.specs.Runs.{rope_span, run_bytes, run_left, span_bytes, span_len, IsLeafRun, IsRunStart, IsSpanBorder}
use Rattle.cord_position.specs.Steps.{AreStepBytes, IsHere, IsLeafStep, StepHolds, span_from}
use Rattle.cord_position.proofs.LeafParts.{run_cells}
use Rattle.cord_position.proofs.RopeBytes.{fetched_inside, fetched_past}

-- the leaf span at a place is what is left of the step that holds it
pub leaf_span : (t : Table) → IsSound t → (rope : Option NodeId) (i : ℕ) (x : Step) → IsLeafStep t rope x → StepHolds x i → rope_span t rope i ≡ Some (span_from x i)
leaf_span t s rope i x here held =
    let q = x.skipped + (i - x.first) in
    let rest = rest_at t s x.node.0 q here.step.there (view_at t x.node.0) refl here.leaf in
    let found = span_from x i in
    let many : min ((x.first + x.len) - i) (len_at t x.node.0 - q) ≡ x.len - (i - x.first) = omega (arith, here.step.in_node, held.0, held.1) in
    here.step.spans i held ∙ ap Some (ap (shortened ((x.first + x.len) - i)) rest ∙ ap (λ (m : ℕ). record found { len = m }) many)

run_of_span : (t : Table) → IsSound t → HasTrueRecords t → (rope : Option NodeId) (i : ℕ) (x : LeafSpan) → IsRope t rope → i < rope_len t rope → rope_span t rope i ≡ Some x → IsLeafRun t rope i x
run_of_span t s h None i x root inside e = absurd cc
run_of_span t s h (Some id) i x root inside e =
    let same : Some (span_at t id.0 i) ≡ Some x = rw (lt-ltb i (len_at t id.0) inside) at e in
    let is : span_at t id.0 i ≡ x = cc in
    let all = begins t s h id.0 i root inside in
    subst (IsLeafRun t (Some id) i) is (record {
      there = all.there;
      leaf = all.leaf;
      some = all.some;
      in_leaf = all.in_leaf;
      in_rope = all.in_node;
      cells = all.cells;
    })

pub here_span : (t : Table) (rope : Option NodeId) (i : ℕ) (x : Step) → IsHere t rope i x → i - x.first < x.len → rope_span t rope i ≡ Some (span_from x i)
here_span t rope i x here lt = leaf_span t here.sound rope i x (here.leaf (omega (arith, lt))) (here.begun, omega (arith, here.begun, lt))

pub here_run : (t : Table) (rope : Option NodeId) (i : ℕ) (x : Step) → IsHere t rope i x → i - x.first < x.len → IsLeafRun t rope i (span_from x i)
here_run t rope i x here lt =
    let inside : i < rope_len t rope = omega (arith, (here.leaf (omega (arith, lt))).step.in_rope, here.begun, lt) in
    run_of_span t here.sound here.true_records rope i (span_from x i) here.root inside (here_span t rope i x here lt)

-- past the step there is no run
past_end : (t : Table) (rope : Option NodeId) (i : ℕ) (x : Step) → IsHere t rope i x → x.len ≤ i - x.first → rope_len t rope ≤ i
past_end t rope i x here past =
    elim (cases_lt i (rope_len t rope)) [
      | inl inside ↦ absurd (omega (arith, here.held inside, here.begun, past))
      | inr end ↦ end
    ]

past_rope : (t : Table) (rope : Option NodeId) (i : ℕ) → rope_len t rope ≤ i → rope_span t rope i ≡ None
past_rope t None i past = refl
past_rope t (Some id) i past = rw (le-ltb i (len_at t id.0) past) refl

pub past_here : (t : Table) (rope : Option NodeId) (i : ℕ) (x : Step) → IsHere t rope i x → x.len ≤ i - x.first → rope_span t rope i ≡ None
past_here t rope i x here past = past_rope t rope i (past_end t rope i x here past)

-- where the leaf span at a place begins, by the step that holds it
pub starts_here : (t : Table) (rope : Option NodeId) (i : ℕ) (x : Step) → IsHere t rope i x → StepHolds x i → IsRunStart t rope i x.first
starts_here t rope i x here held =
    let leaf = here.leaf (omega (arith, held.0, held.1)) in
    let first = ap span_len (leaf_span t here.sound rope x.first x leaf (omega arith, omega (arith, held.0, held.1))) in
    let last = ap span_len (leaf_span t here.sound rope i x leaf held) in
    record {
      before = held.0;
      same_end = omega (arith, first, last, held.0, held.1);
      border = leaf.step.border;
      at_end = λ end. absurd (omega (arith, end, held.1, leaf.step.in_rope));
    }

-- at the end no leaf span goes on
end_border : (t : Table) → IsSound t → HasTrueRecords t → (rope : Option NodeId) (i : ℕ) → IsRope t rope → rope_len t rope ≤ i → IsSpanBorder t rope i
end_border t s h None i root end k lt = omega (arith, lt)
end_border t s h (Some id) i root end k lt =
    elim (cases_lt k (len_at t id.0)) [
      | inl inside ↦
          let span : rope_span t (Some id) k ≡ Some (span_at t id.0 k) = rw (lt-ltb k (len_at t id.0) inside) refl in
          omega (arith, end, ap span_len span, (begins t s h id.0 k root inside).in_node)
      | inr past ↦ omega (arith, lt, ap span_len (past_rope t (Some id) k past))
    ]

pub starts_there : (t : Table) (rope : Option NodeId) (i : ℕ) (x : Step) → IsHere t rope i x → (StepHolds x i → ⊥) → IsRunStart t rope i i
starts_there t rope i x here away =
    let end : rope_len t rope ≤ i = elim (cases_lt i (rope_len t rope)) [
      | inl inside ↦ absurd (away (here.begun, here.held inside))
      | inr past ↦ past
    ] in
    record {
      before = omega arith;
      same_end = refl;
      border = end_border t here.sound here.true_records rope i here.root end;
      at_end = λ past. refl;
    }

-- the bytes of a step from a place on
take-nil : (n : ℕ) → ◌≡◌ {A = List ℕ} (take n []) []
take-nil n = take_all n [] (omega arith)

drop_literal : (t : Table) (v : NodeView) (len n start k : ℕ) → k ≤ len → start + len ≤ n
    → drop k (take len (literal_bytes t start n v)) ≡ take (len - k) (literal_bytes t (start + k) n v)
drop_literal t (Lit a) len n start k le fits =
    let m = (a + n) - (a + start) in
    let here = drop (a + start) t.pool in
    let split : len ≡ k + (len - k) = omega arith in
    let inner : m ≡ k + (m - k) = omega arith in
    let rest : drop k (take m here) ≡ take (m - k) (drop k here) = ap (λ (j : ℕ). drop k (take j here)) inner ∙ drop-take k (m - k) here in
    let room : m - k ≡ (a + n) - (a + (start + k)) = omega arith in
    let from : (a + start) + k ≡ a + (start + k) = omega arith in
    ap (λ (j : ℕ). drop k (take j (take m here))) split
    ∙ drop-take k (len - k) (take m here)
    ∙ ap (take (len - k)) (rest ∙ ap (λ (j : ℕ). take j (drop k here)) room ∙ ap (take ((a + n) - (a + (start + k)))) (drop-drop k (a + start) t.pool ∙ ap (λ (j : ℕ). drop j t.pool) from))
drop_literal t (Src s' a) len n start k le fits = ap (drop k) (take-nil len) ∙ drop_all k [] (omega arith) ∙ sym (take-nil (len - k))
drop_literal t Fun len n start k le fits = ap (drop k) (take-nil len) ∙ drop_all k [] (omega arith) ∙ sym (take-nil (len - k))
drop_literal t (Cat l r) len n start k le fits = ap (drop k) (take-nil len) ∙ drop_all k [] (omega arith) ∙ sym (take-nil (len - k))
drop_literal t (Sub b i) len n start k le fits = ap (drop k) (take-nil len) ∙ drop_all k [] (omega arith) ∙ sym (take-nil (len - k))

pub few_bytes : (t : Table) (x : Step) (bytes : List ℕ) → AreStepBytes t x bytes → length bytes ≤ x.len
few_bytes t x bytes are =
    let all = literal_bytes t (x.skipped + (x.first - x.first)) (len_at t x.node.0) (view_at t x.node.0) in
    omega (arith, ap length are.exact, length-take (x.len - (x.first - x.first)) all)

pub bytes_from : (t : Table) (rope : Option NodeId) (i : ℕ) (x : Step) (bytes : List ℕ) → IsHere t rope i x → AreStepBytes t x bytes → drop (i - x.first) bytes ≡ run_bytes t rope i
bytes_from t rope i x bytes here are =
    let k = i - x.first in
    elim (cases_lt k x.len) [
      | inl lt ↦
          let leaf = here.leaf (omega (arith, lt)) in
          let many : x.len - (x.first - x.first) ≡ x.len = omega arith in
          let start : x.skipped + (x.first - x.first) ≡ x.skipped = omega arith in
          let whole : bytes ≡ take x.len (literal_bytes t x.skipped (len_at t x.node.0) (view_at t x.node.0)) =
          are.exact ∙ ap (λ (j : ℕ). take j (literal_bytes t (x.skipped + (x.first - x.first)) (len_at t x.node.0) (view_at t x.node.0))) many
          ∙ ap (λ (j : ℕ). take x.len (literal_bytes t j (len_at t x.node.0) (view_at t x.node.0))) start in
          ap (drop k) whole ∙ drop_literal t (view_at t x.node.0) x.len (len_at t x.node.0) x.skipped k (omega (arith, lt)) leaf.step.in_node ∙ sym (ap (span_bytes t) (here_span t rope i x here lt))
      | inr past ↦ drop_all k bytes (omega (arith, few_bytes t x bytes are, past)) ∙ sym (ap (span_bytes t) (past_here t rope i x here past))
    ]

pub cells_from : (t : Table) (rope : Option NodeId) (i : ℕ) (x : Step) (bytes : List ℕ) → IsHere t rope i x → AreStepBytes t x bytes → i - x.first < length bytes
    → map Byte (drop (i - x.first) bytes) ≡ rope_part t rope i (run_left t rope i)
cells_from t rope i x bytes here are some =
    let k = i - x.first in
    let few = few_bytes t x bytes are in
    let lt : k < x.len = omega (arith, some, few) in
    let leaf = cells t x.node.0 in
    let split : x.len ≡ k + (x.len - k) = omega (arith, lt) in
    sym (drop-map Byte k bytes)
    ∙ ap (drop k) (are.cells (omega (arith, some)))
    ∙ ap (λ (j : ℕ). drop k (take j (drop x.skipped leaf))) split
    ∙ drop-take k (x.len - k) (drop x.skipped leaf)
    ∙ ap (take (x.len - k)) (drop-drop k x.skipped leaf)
    ∙ sym (here_run t rope i x here lt).cells
    ∙ ap (rope_part t rope i) (sym (ap span_len (here_span t rope i x here lt)))

-- the byte at a place
fetched_by : (t : Table) → IsSound t → HasTrueRecords t → (st : Stated) (rope : Option NodeId) (i b : ℕ) → IsRope t rope → i < rope_len t rope → IsByteOf st (rope_cell t rope i) b → IsFetched t st rope i (Some b)
fetched_by t s h st None i b root inside byte = absurd (omega arith)
fetched_by t s h st (Some id) i b root inside byte = fetched_inside t s h st id i b root inside byte

pub here_cell : (t : Table) (rope : Option NodeId) (i : ℕ) (x : Step) → IsHere t rope i x → i - x.first < x.len → rope_cell t rope i ≡ cell_at t x.node.0 (x.skipped + (i - x.first))
here_cell t rope i x here lt =
    let start = x.skipped + (i - x.first) in
    let same : i ≡ i + 0 = omega arith in
    let first : start + 0 ≡ start = omega arith in
    ap (rope_cell t rope) same ∙ run_cells t rope i (span_from x i) (here_run t rope i x here lt) 0 (omega (arith, lt)) ∙ ap (cell_at t x.node.0) first

pub fetched_here : (t : Table) (st : Stated) (rope : Option NodeId) (i b : ℕ) (x : Step) → IsHere t rope i x → i - x.first < x.len → IsByteOf st (cell_at t x.node.0 (x.skipped + (i - x.first))) b → IsFetched t st rope i (Some b)
fetched_here t st rope i b x here lt byte =
    let inside : i < rope_len t rope = omega (arith, (here.leaf (omega (arith, lt))).step.in_rope, here.begun, lt) in
    fetched_by t here.sound here.true_records st rope i b here.root inside (subst (λ cell. IsByteOf st cell b) (sym (here_cell t rope i x here lt)) byte)

pub fetched_literal : (t : Table) (st : Stated) (rope : Option NodeId) (i : ℕ) (x : Step) (bytes : List ℕ) → IsHere t rope i x → AreStepBytes t x bytes → i - x.first < length bytes
    → IsFetched t st rope i (Some (get_or bytes (i - x.first) 0))
fetched_literal t st rope i x bytes here are some =
    let k = i - x.first in
    let few = few_bytes t x bytes are in
    let lt : k < x.len = omega (arith, some, few) in
    let cs = cells t x.node.0 in
    let cell : Byte (get_or bytes k 0) ≡ cell_at t x.node.0 (x.skipped + k) =
    sym (get_or-map Byte bytes k 0 (Byte 0) some) ∙ ap (λ ys. get_or ys k (Byte 0)) (are.cells (omega (arith, some)))
    ∙ get_or-take x.len (drop x.skipped cs) k (Byte 0) lt ∙ get_or-drop x.skipped cs k (Byte 0) in
    fetched_here t st rope i (get_or bytes k 0) x here lt (subst (λ cell. IsByteOf st cell (get_or bytes k 0)) cell (λ source agrees stated. refl))

pub fetched_none : (t : Table) (st : Stated) (rope : Option NodeId) (i : ℕ) (x : Step) → IsHere t rope i x → x.len ≤ i - x.first → IsFetched t st rope i None
fetched_none t st rope i x here past = by_rope rope here.root (past_end t rope i x here past)
  where
    by_rope : (rope : Option NodeId) → IsRope t rope → rope_len t rope ≤ i → IsFetched t st rope i None
    by_rope None root end = λ source agrees stated. refl
    by_rope (Some id) root end = fetched_past t here.sound here.true_records st id i root end
