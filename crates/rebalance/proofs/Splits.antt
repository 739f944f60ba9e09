-- Spans one step down, and spans of a table that goes on.
use Rattle.std.proofs.Common.{◌≡◌, ℕ, zero, suc, ◌+◌, ◌-◌, ◌<◌, ◌≤◌, min, Bool, true, false, inl, inr, ⊎_elim, List, [], ◌∷◌, ◌++◌, length, take, drop, refl, sym, ap, ◌∙◌, arith}
use Rattle.std.proofs.lemmas.Bool.{cases_lt}
use Rattle.std.proofs.lemmas.List.{length-drop, drop_all}
use Rattle.rope_node.specs.declared.node.NodeId.{NodeId}
use Rattle.rope_node.specs.declared.node.NodeView.TheVariants.{Cat, Sub}
use Rattle.rope_node.specs.Table.{Table, view_at, len_at, IsLeaf, IsSound, HasTrueRecords}
use Rattle.rope_node.specs.Denotes.{cells}
use Rattle.rope_node.specs.Extends.{Extends}
use Rattle.rope_node.proofs.Cells.{cells_at, cells_length}
use Rattle.rope_node.proofs.Extensions.{cells_kept, len_kept}
use Rattle.rope_store.proofs.PartTexts.{take_least}
use Rattle.rope_node.specs.declared.node.Span.{Span}
use Rattle.rebalance.specs.Pieces.{is_kept, piece_count, cells_in_span, span_pieces, IsOfBase, IsOfChildren, IsPieceSpan, IsInsideNode}
use Rattle.rebalance.proofs.PieceCounts.{cat_pieces, kept_is, one_kept, one_leaf, pieces_kept, sub_pieces}
use Rattle.rebalance.proofs.PieceWays.{cells_below}

-- ---- a span of two lists put together

take_both : {C : Type 0} (n : ℕ) (xs ys : List C) → take n (xs ++ ys) ≡ take n xs ++ take (n - length xs) ys
take_both zero xs ys =
    let none : 0 - length xs ≡ 0 = omega arith in
    rw none refl
take_both (suc n) [] ys =
    let all : suc n - 0 ≡ suc n = omega arith in
    rw all refl
take_both (suc n) (x ∷ xs) ys =
    let less : suc n - length (x ∷ xs) ≡ n - length xs = omega arith in
    rw less (ap (λ cs. x ∷ cs) (take_both n xs ys))

drop_both : {C : Type 0} (p : ℕ) (xs ys : List C) → drop p (xs ++ ys) ≡ drop p xs ++ drop (p - length xs) ys
drop_both zero xs ys =
    let none : 0 - length xs ≡ 0 = omega arith in
    rw none refl
drop_both (suc p) [] ys =
    let all : suc p - 0 ≡ suc p = omega arith in
    rw all refl
drop_both (suc p) (x ∷ xs) ys =
    let less : suc p - length (x ∷ xs) ≡ p - length xs = omega arith in
    rw less (drop_both p xs ys)

drop_most : {C : Type 0} (p : ℕ) (xs : List C) → drop (min p (length xs)) xs ≡ drop p xs
drop_most p xs =
    ⊎_elim (λ (before : p < length xs). ap (λ (j : ℕ). drop j xs) (omega (arith, before)))
    (λ (past : length xs ≤ p). drop_all (min p (length xs)) xs (omega (arith, past)) ∙ sym (drop_all p xs past)) (cases_lt p (length xs))

span_both : {C : Type 0} (n p k : ℕ) (xs ys : List C) → length xs ≡ k → take n (drop p (xs ++ ys)) ≡ take (min n (k - min p k)) (drop (min p k) xs) ++ take (n - min n (k - min p k)) (drop (p - min p k) ys)
span_both n p k xs ys len =
    let first : take (min n (k - min p k)) (drop (min p k) xs) ≡ take n (drop p xs) =
    take_least xs (min p k) n k len ∙ ap (λ (j : ℕ). take n (drop (min p j) xs)) (sym len) ∙ ap (take n) (drop_most p xs) in
    let rest : n - length (drop p xs) ≡ n - min n (k - min p k) = omega (arith, length-drop p xs, len) in
    let place : p - length xs ≡ p - min p k = omega (arith, len) in
    ap (take n) (drop_both p xs ys) ∙ take_both n (drop p xs) (drop (p - length xs) ys) ∙ rw (rest, place, first) refl

-- ---- one step down

pub split_kept : (keep : Bool) (t : Table) (p : Span) → 1 ≤ p.len → is_kept keep t p.node.0 p.start p.len ≡ true → IsPieceSpan t p × (span_pieces keep t p ≡ 1)
split_kept keep t p some is =
    let all = kept_is keep t p.node.0 p.start p.len is in
    (inr (all.1, all.2), one_kept keep t p.node.0 p.start p.len some is)

pub split_leaf : (keep : Bool) (t : Table) (p : Span) → 1 ≤ p.len → IsLeaf (view_at t p.node.0) → IsPieceSpan t p × (span_pieces keep t p ≡ 1)
split_leaf keep t p some leaf = (inl leaf, one_leaf keep t p.node.0 p.start p.len some leaf)

pub split_base : (keep : Bool) (t : Table) → IsSound t → (p : Span) (b : NodeId) (i : ℕ) → IsInsideNode t p → view_at t p.node.0 ≡ Sub b i → is_kept keep t p.node.0 p.start p.len ≡ false → IsOfBase keep t p (record { node = b; start = p.start + i; len = p.len })
split_base keep t s p b i is e free =
    let first = rw e at (s.nodes p.node.0 is.there).references in
    let held = rw e at (s.nodes p.node.0 is.there).span in
    let swap : i + p.start ≡ p.start + i = omega arith in
    record {
      below = record {
        span = record { there = omega (arith, first, is.there); inside = omega (arith, held, is.inside) };
        earlier = first;
      };
      cells = cells_below t s p.node.0 p.start p.len b i is.there e is.inside;
      count = rw swap at (sub_pieces keep t s p.node.0 p.start p.len is.there b i e free);
    }

-- the left child's pieces, from a place inside it
left_pieces : (keep : Bool) (t : Table) (id i n k : ℕ) → piece_count keep t id (min i k) (min n (k - min i k)) ≡ piece_count keep t id i (min n (k - i))
left_pieces keep t id i n k =
    ⊎_elim (λ (before : i < k). ap (λ (j : ℕ). piece_count keep t id j (min n (k - j))) (omega (arith, before)))
    (λ (past : k ≤ i).
    let none : min n (k - min i k) ≡ 0 = omega (arith, past) in
    let none' : min n (k - i) ≡ 0 = omega (arith, past) in
    rw (none, none') refl) (cases_lt i k)

pub split_children : (keep : Bool) (t : Table) → IsSound t → HasTrueRecords t → (p : Span) (l r : NodeId) (k : ℕ) → IsInsideNode t p → view_at t p.node.0 ≡ Cat l r → is_kept keep t p.node.0 p.start p.len ≡ false → k ≡ len_at t l.0
    → IsOfChildren keep t p (record { node = l; start = min p.start k; len = min p.len (k - min p.start k) }) (record { node = r; start = p.start - min p.start k; len = p.len - min p.len (k - min p.start k) })
split_children keep t s h p l r k is e free own =
    let first = rw e at (s.nodes p.node.0 is.there).references in
    let len = rw e at (h.nodes p.node.0 is.there).len in
    let left : length (cells t l.0) ≡ k = cells_length t s h l.0 (omega (arith, first.0, is.there)) ∙ sym own in
    let past : p.start - k ≡ p.start - min p.start k = omega arith in
    let rest : p.len - (k - p.start) ≡ p.len - min p.len (k - min p.start k) = omega arith in
    let same : len_at t l.0 ≡ k = sym own in
    let here = rw same at (cat_pieces keep t s p.node.0 p.start p.len is.there l r e free) in
    let count = rw (past, rest) at here in
    record {
      left_below = record {
        span = record { there = omega (arith, first.0, is.there); inside = omega (arith, own) };
        earlier = first.0;
      };
      right_below = record {
        span = record { there = omega (arith, first.1, is.there); inside = omega (arith, own, len, is.inside) };
        earlier = first.1;
      };
      cells = ap (λ cs. take p.len (drop p.start cs)) (cells_at t s p.node.0 is.there (Cat l r) e) ∙ span_both p.len p.start k (cells t l.0) (cells t r.0) left;
      count = omega (arith, count, left_pieces keep t l.0 p.start p.len k);
    }

-- ---- a table that goes on

pub span_stays : (old new : Table) → Extends old new → (p : Span) → IsInsideNode old p → IsInsideNode new p
span_stays old new x p is = record { there = omega (arith, is.there, x.more_nodes); inside = omega (arith, is.inside, len_kept old new x p.node.0 is.there) }

pub span_cells_kept : (old new : Table) → IsSound old → Extends old new → (p : Span) → IsInsideNode old p → cells_in_span new p ≡ cells_in_span old p
span_cells_kept old new s x p is = ap (λ cs. take p.len (drop p.start cs)) (cells_kept old new s x p.node.0 is.there)

pub span_pieces_kept : (keep : Bool) (old new : Table) → IsSound old → Extends old new → (p : Span) → IsInsideNode old p → span_pieces keep new p ≡ span_pieces keep old p
span_pieces_kept keep old new s x p is = pieces_kept keep old new s x p.node.0 p.start p.len is.there
