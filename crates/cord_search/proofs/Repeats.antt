-- Where a pattern stands in a leaf that repeats.
use Rattle.std.proofs.Common.{◌≡◌, ℕ, zero, suc, ◌+◌, ◌-◌, ◌<◌, ◌≤◌, List, length, Option, Some, None, inl, inr, sym, subst, ap, ◌∙◌, arith}
use Rattle.std.specs.Prelude.{slice_get}
use Rattle.std.proofs.lemmas.Bool.{cases_lt}
use Rattle.std.proofs.lemmas.List.{take_all}
use Rattle.std.proofs.lemmas.Option.{slice_get-get_or}
use Rattle.rope_node.specs.declared.node.NodeId.{NodeId}
use Rattle.rope_node.specs.Table.{Table}
use Rattle.rope_node.specs.Denotes.{cell_byte, rope_cells, rope_len, text}
use Rattle.cord_position.specs.Fetched.{rope_cell}
use Rattle.cord_position.specs.Position.{Position, left_here, text_len}
use Rattle.cord_position.specs.Runs.{run_left, IsRunPeriod}
use Rattle.cord_search.specs.Places.{StandsAt}
use Rattle.cord_search.specs.Reached.{StandsAtPlace}
use Rattle.cord_search.specs.Seeking.{RepeatsFrom}
use Rattle.cord_search.specs.Skipped.{IsClearAlso}
use Rattle.cord_search.proofs.Fetches.{text_length}
use Rattle.cord_search.proofs.Pieces.{byte_of_cell, first_bytes}
use Rattle.cord_search.proofs.Standing.{pattern_byte}

-- where the cells are the same, so are the bytes
same_byte : (t : Table) (x : Option NodeId) (source : ℕ → ℕ → ℕ) (a b : ℕ) → a < length (rope_cells t x) → b < length (rope_cells t x) → rope_cell t x a ≡ rope_cell t x b
    → slice_get (text source (rope_cells t x)) a ≡ slice_get (text source (rope_cells t x)) b
same_byte t None source a b left right same = absurd (omega (arith, left))
same_byte t (Some id) source a b left right same = byte_of_cell t id.0 source a left ∙ ap (λ cell. Some (cell_byte source cell)) same ∙ sym (byte_of_cell t id.0 source b right)

stands_alike : (t : Table) (x : Option NodeId) (source : ℕ → ℕ → ℕ) (s : List ℕ) (a b : ℕ) → b + length s ≤ length (rope_cells t x)
    → ((d : ℕ) → d < length s → rope_cell t x (b + d) ≡ rope_cell t x (a + d)) → StandsAt s (text source (rope_cells t x)) a → StandsAt s (text source (rope_cells t x)) b
stands_alike t x source s a b fits same stands = record {
  inside = omega (arith, fits, text_length t x source);
  same = sym (first_bytes s (text source (rope_cells t x)) b (length s) (omega arith) byte) ∙ take_all (length s) s (omega arith);
}
  where
    byte : (d : ℕ) → d < length s → slice_get s d ≡ slice_get (text source (rope_cells t x)) (b + d)
    byte d lt =
        slice_get-get_or s d 0 lt ∙ sym (pattern_byte (text source (rope_cells t x)) s a d stands.same lt)
        ∙ sym (same_byte t x source (b + d) (a + d) (omega (arith, lt, fits)) (omega (arith, lt, stands.inside, text_length t x source)) (same d lt))

-- what stands nowhere in the first places of a run that repeats within them stands nowhere in the run
pub clear_repeats : (t : Table) (x : Option NodeId) (i len p count reach n : ℕ) → RepeatsFrom t x i len p → p ≤ count → reach + n ≤ len + 1 → IsClearAlso t x n i (i + count) i (i + reach)
clear_repeats t x i len p count reach n period few inside source s many clear j above below stands =
    let at : j ≡ i + (j - i) = omega (arith, above) in
    none (suc (j - i)) (j - i) (omega arith) (omega (arith, above, below)) (subst (StandsAt s (text source (rope_cells t x))) at stands)
  where
    none : (fuel k : ℕ) → k < fuel → k < reach → ¬ StandsAt s (text source (rope_cells t x)) (i + k)
    none zero k lt held stands = absurd (omega (arith, lt))
    none (suc m) k lt held stands =
        elim (cases_lt k count) [
          | inl first ↦ clear (i + k) (omega arith) (omega (arith, first)) stands
          | inr past ↦
              let back : k ≡ (k - p) + p = omega (arith, past, few) in
              let same : (d : ℕ) → d < length s → rope_cell t x ((i + (k - p)) + d) ≡ rope_cell t x ((i + k) + d) = λ d below.
              ap (rope_cell t x) (omega arith) ∙ sym (period.same ((k - p) + d) (omega (arith, back, below, many, held, inside))) ∙ ap (rope_cell t x) (omega (arith, back)) in
              none m (k - p) (omega (arith, lt, back, period.some)) (omega (arith, held))
              (stands_alike t x source s (i + k) (i + (k - p)) (omega (arith, stands.inside, text_length t x source)) same stands)
        ]

pub clear_run : (t : Table) (x : Option NodeId) (i p count reach n : ℕ) → IsRunPeriod t x i p → p ≤ count → reach + n ≤ run_left t x i + 1 → IsClearAlso t x n i (i + count) i (i + reach)
clear_run t x i p count reach n period few inside = clear_repeats t x i (run_left t x i) p count reach n (record { some = period.some; same = period.same }) few inside

-- a byte that stands nowhere in some places of a run that repeats within them stands nowhere in the run before them
pub clear_before : (t : Table) (x : Option NodeId) (start p from end : ℕ) → IsRunPeriod t x start p → from + p ≤ end → from + p ≤ start + run_left t x start → start + run_left t x start ≤ length (rope_cells t x)
    → IsClearAlso t x 1 from end start end
clear_before t x start p from end period few inside fits source s many clear j above below stands = none (suc (end - j)) j (omega arith) above below stands
  where
    none : (fuel k : ℕ) → end - k < fuel → start ≤ k → k < end → ¬ StandsAt s (text source (rope_cells t x)) k
    none zero k lt low high stands = absurd (omega (arith, lt))
    none (suc m) k lt low high stands =
        elim (cases_lt k from) [
          | inl first ↦
              let same : (d : ℕ) → d < length s → rope_cell t x ((k + p) + d) ≡ rope_cell t x (k + d) = λ d below.
              ap (rope_cell t x) (omega (arith, low)) ∙ period.same ((k - start) + d) (omega (arith, below, many, first, low, inside)) ∙ ap (rope_cell t x) (omega (arith, low)) in
              none m (k + p) (omega (arith, lt, high, period.some)) (omega (arith, low)) (omega (arith, first, few))
              (stands_alike t x source s k (k + p) (omega (arith, many, first, inside, fits)) same stands)
          | inr past ↦ clear k past high stands
        ]

pub clear_from : {S : Type 0} (table : S → Table) (here start : Position S) (s : S) (x : Option NodeId) (first p count : ℕ) → here.space ≡ s → here.rope ≡ x → StandsAtPlace table start s x first → first ≤ here.index
    → length (rope_cells (table s) x) ≡ rope_len (table s) x → first + run_left (table here.space) here.rope first ≡ here.index + left_here table here → here.index + left_here table here ≤ text_len table here
    → IsRunPeriod (table start.space) start.rope start.index p → p ≤ count → p ≤ left_here table here → IsClearAlso (table s) x 1 here.index (here.index + count) first (here.index + count)
clear_from table here start s x first p count space rope at before long same_end inside period few held =
    let len : text_len table here ≡ rope_len (table s) x = ap (λ z. rope_len (table z) here.rope) space ∙ ap (rope_len (table s)) rope in
    let span : run_left (table here.space) here.rope first ≡ run_left (table s) x first = ap (λ z. run_left (table z) here.rope first) space ∙ ap (λ y. run_left (table s) y first) rope in
    let index : start.index ≡ first = omega (arith, at.index, before, inside, len) in
    let in_space = subst (λ z. IsRunPeriod (table z) start.rope start.index p) at.space period in
    let in_rope = subst (λ y. IsRunPeriod (table s) y start.index p) at.rope in_space in
    let there = subst (λ (q : ℕ). IsRunPeriod (table s) x q p) index in_rope in
    clear_before (table s) x first p here.index (here.index + count) there (omega (arith, few)) (omega (arith, span, same_end, held)) (omega (arith, span, same_end, inside, len, long))

-- what is told of places from a position on is told of them from its place on
pub clear_there : {S : Type 0} (table : S → Table) (here : Position S) (s : S) (x : Option NodeId) (p n a b : ℕ) → StandsAtPlace table here s x p → p < rope_len (table s) x
    → IsClearAlso (table here.space) here.rope n here.index (here.index + a) here.index (here.index + b) → IsClearAlso (table s) x n p (p + a) p (p + b)
clear_there table here s x p n a b at inside told =
    let index : here.index ≡ p = omega (arith, at.index, inside) in
    let in_space = subst (λ z. IsClearAlso (table z) here.rope n here.index (here.index + a) here.index (here.index + b)) at.space told in
    let in_rope = subst (λ y. IsClearAlso (table s) y n here.index (here.index + a) here.index (here.index + b)) at.rope in_space in
    subst (λ (q : ℕ). IsClearAlso (table s) x n q (q + a) q (q + b)) index in_rope
