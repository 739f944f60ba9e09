-- Parts joined: their length, the part that holds a place, and where rows stand.
use Rattle.std.proofs.Common.{◌≡◌, ℕ, ◌+◌, ◌-◌, ◌<◌, ◌≤◌, ltb, List, [], ◌∷◌, length, take, drop, Option, Some, None, refl, sym, ap, ◌∙◌, arith, inl, inr}
use Rattle.std.proofs.lemmas.Bool.{ltb-true, ltb-false, cases_Bool, cond-true, cond-false}
use Rattle.std.proofs.lemmas.List.{length-append, length-take, length-drop, length-map, length-replicate, take_all}
use Rattle.std.proofs.lemmas.List.FromFn.{length-map-range_with_len}
use Rattle.std.proofs.lemmas.List.Sums.{sum_by-cons, sum_by_more}
use Rattle.std.proofs.lemmas.Option.{some_pair_parts}
use Rattle.rope_node.specs.Table.{Table, IsSound, HasTrueRecords}
use Rattle.rope_node.specs.Denotes.{Byte, Place, rope_cells}
use Rattle.rope_node.proofs.Parts.{span_left, span_right}
use Rattle.command_parts.specs.declared.part.Part.{Part}
use Rattle.command_parts.specs.declared.part.Part.TheVariants.{Old, Pool, Source, Fill}
use Rattle.span_certificate.specs.declared.row.Row.{Row}
use Rattle.command_parts.specs.Parts.{part_len, parts_len, part_cells, parts_cells, IsPart, AreParts, part_at}
use Rattle.span_certificate.specs.Covers.{row_at, no_row, rows_len, place_of}
use Rattle.rope_node.proofs.Ropes.{rope_length}

pub length-part_cells : (t : Table) → IsSound t → HasTrueRecords t → (part : Part) → IsPart t part → length (part_cells t part) ≡ part_len part
length-part_cells t s h (Old rope i n) is = let len = rope_length t s h rope is.1.0 in omega (arith, length-take n (drop i (rope_cells t rope)), length-drop i (rope_cells t rope), len, is.1.1)
length-part_cells t s h (Pool a n) is = omega (arith, length-map (take n (drop a t.pool)) Byte, length-take n (drop a t.pool), length-drop a t.pool, is.1)
length-part_cells t s h (Source r n) is = length-map-range_with_len (Place r) 0 n
length-part_cells t s h (Fill c n) is = length-replicate n (Byte c)

pub length-parts_cells : (t : Table) → IsSound t → HasTrueRecords t → (parts : List Part) → AreParts t parts → length (parts_cells t parts) ≡ parts_len parts
length-parts_cells t s h [] is = refl
length-parts_cells t s h (x ∷ xs) is =
    length-append (part_cells t x) (parts_cells t xs)
    ∙ rw (sum_by-cons part_len x xs, length-part_cells t s h x is.0, length-parts_cells t s h xs is.1) refl

-- a place that a part holds, and the cells there
pub record HoldsPlace (t : Table) (parts : List Part) (place : ℕ) (part : Part) (off : ℕ) : Type 0 where
  pub is_part : IsPart t part
  pub before_end : off < part_len part
  pub inside : place + part_len part ≤ parts_len parts + off
  pub same : (n : ℕ) → off + n ≤ part_len part → take n (drop place (parts_cells t parts)) ≡ take n (drop off (part_cells t part))

pub holds_place : (t : Table) → IsSound t → HasTrueRecords t → (parts : List Part) (place : ℕ) (part : Part) (off : ℕ) → AreParts t parts → part_at parts place ≡ Some (part, off) → HoldsPlace t parts place part off
holds_place t s h [] place part off is e = absurd cc
holds_place t s h (x ∷ xs) place part off is e =
    elim (cases_Bool (ltb place (part_len x))) [
      | inl before ↦
          let found : ◌≡◌ {A = Option (Part × ℕ)} (Some (x, place)) (Some (part, off)) = sym (cond-true (ltb place (part_len x)) (Some (x, place)) (part_at xs (place - part_len x)) before) ∙ e in
          let same = some_pair_parts x part place off found in
          rw (← same.0, ← same.1) (record {
            is_part = is.0;
            before_end = ltb-true _ _ before;
            inside = rw (sum_by-cons part_len x xs) (omega arith);
            same = λ n fits. span_left n place (part_cells t x) (parts_cells t xs) (omega (arith, length-part_cells t s h x is.0));
          })
      | inr behind ↦
          let past : part_len x ≤ place = ltb-false _ _ behind in
          let rest : part_at xs (place - part_len x) ≡ Some (part, off) = sym (cond-false (ltb place (part_len x)) (Some (x, place)) (part_at xs (place - part_len x)) behind) ∙ e in
          let tail = holds_place t s h xs (place - part_len x) part off is.1 rest in
          let len = length-part_cells t s h x is.0 in
          record {
            is_part = tail.is_part;
            before_end = tail.before_end;
            inside = rw (sum_by-cons part_len x xs) (omega (arith, tail.inside, past));
            same = λ n fits. span_right n place (part_cells t x) (parts_cells t xs) (omega (arith, len, past)) ∙ ap (λ (j : ℕ). take n (drop j (parts_cells t xs))) (omega (arith, len)) ∙ tail.same n fits;
          }
    ]

-- no part holds a place from the end on
pub no_part : (parts : List Part) (place : ℕ) → part_at parts place ≡ None → parts_len parts ≤ place
no_part [] place e = omega arith
no_part (x ∷ xs) place e =
    elim (cases_Bool (ltb place (part_len x))) [
      | inl before ↦ let bad : ◌≡◌ {A = Option (Part × ℕ)} (Some (x, place)) None = sym (cond-true (ltb place (part_len x)) (Some (x, place)) (part_at xs (place - part_len x)) before) ∙ e in absurd cc
      | inr behind ↦
          let past : part_len x ≤ place = ltb-false _ _ behind in
          let tail = no_part xs (place - part_len x) (sym (cond-false (ltb place (part_len x)) (Some (x, place)) (part_at xs (place - part_len x)) behind) ∙ e) in
          rw (sum_by-cons part_len x xs) (omega (arith, tail, past))
    ]

pub place_of_more : (rows : List Row) (j : ℕ) → j < length rows → place_of rows (j + 1) ≡ place_of rows j + (row_at rows j).len
place_of_more rows j lt = sum_by_more (λ (r : Row). r.len) rows j no_row lt

pub place_of_all : (rows : List Row) → place_of rows (length rows) ≡ rows_len rows
place_of_all rows = ap rows_len (take_all (length rows) rows (omega arith))
