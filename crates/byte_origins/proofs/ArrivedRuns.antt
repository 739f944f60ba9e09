-- The list of all that commands brought: where each run of it begins, and what stands at a place.
use Rattle.std.proofs.Common.{◌≡◌, ℕ, zero, suc, ◌+◌, ◌-◌, ◌<◌, ◌≤◌, List, [], ◌∷◌, ◌++◌, map, length, take, drop, get_or, sym, ap, ◌∙◌, arith, append_assoc}
use Rattle.std.specs.List.{range_with_len}
use Rattle.std.proofs.lemmas.List.{length-append, append-nil}
use Rattle.rope_node.proofs.Parts.{span_left, span_right, span-map, span-range_with_len}
use Rattle.byte_origins.specs.declared.run.Origin.{Origin}
use Rattle.byte_origins.specs.declared.run.OriginRun.{OriginRun}
use Rattle.byte_origins.specs.declared.arrivals.Arrival.{Arrival}
use Rattle.byte_origins.specs.Arrivals.{AreArrivals, arrived}
use Rattle.byte_origins.specs.Behind.{origin_behind, FitsNumbers}
use Rattle.byte_origins.specs.Origins.{run_origins}
use Rattle.byte_origins.proofs.RunOrigins.{length-run, origins_from_place}

-- ---- where runs begin

above : (before : ℕ) (xs : List Arrival) (j : ℕ) (d : Arrival) → AreArrivals before xs → j < length xs → before ≤ (get_or xs j d).before
above before [] j d is lt = absurd (omega arith)
above before (x ∷ xs) zero d is lt = omega (arith, is.0)
above before (x ∷ xs) (suc j) d is lt = omega (arith, above (before + x.run.len) xs j d is.2 (omega (arith, lt)))

pub starts_rise : (before : ℕ) (xs : List Arrival) (i j : ℕ) (d : Arrival) → AreArrivals before xs → i ≤ j → j < length xs → (get_or xs i d).before ≤ (get_or xs j d).before
starts_rise before [] i j d is le lt = absurd (omega arith)
starts_rise before (x ∷ xs) zero j d is le lt = omega (arith, is.0, above before (x ∷ xs) j d is lt)
starts_rise before (x ∷ xs) (suc i) zero d is le lt = absurd (omega arith)
starts_rise before (x ∷ xs) (suc i) (suc j) d is le lt = starts_rise (before + x.run.len) xs i j d is.2 (omega (arith, le)) (omega (arith, lt))

-- ---- one more

pub push_arrived : (xs : List Arrival) (x : Arrival) → arrived (xs ++ x ∷ []) ≡ arrived xs ++ run_origins x.run
push_arrived [] x = append-nil (run_origins x.run)
push_arrived (y ∷ xs) x = ap (λ (os : List Origin). run_origins y.run ++ os) (push_arrived xs x) ∙ sym (append_assoc (run_origins y.run) (arrived xs) (run_origins x.run))

pub push_arrival : (before : ℕ) (xs : List Arrival) (x : Arrival) → AreArrivals before xs → x.before ≡ before + length (arrived xs) → FitsNumbers x.run → AreArrivals before (xs ++ x ∷ [])
push_arrival before [] x is at fits = (omega (arith, at), fits, tt)
push_arrival before (y ∷ xs) x is at fits =
    let longer : length (run_origins y.run ++ arrived xs) ≡ y.run.len + length (arrived xs) = length-append (run_origins y.run) (arrived xs) ∙ ap (λ (n : ℕ). n + length (arrived xs)) (length-run y.run) in
    (is.0, is.1, push_arrival (before + y.run.len) xs x is.2 (omega (arith, at, longer)) fits)

-- ---- what stands at a place

-- the m origins of a run from the off-th on
pub part_of_run : (first : Origin) (len off m : ℕ) → off + m ≤ len → take m (drop off (run_origins (record { first = first; len = len }))) ≡ run_origins (record { first = origin_behind first off; len = m })
part_of_run first len off m fits =
    let start : 0 + off ≡ off = omega arith in
    span-map (origin_behind first) m off (range_with_len 0 len)
    ∙ ap (map (origin_behind first)) (span-range_with_len m off 0 len fits)
    ∙ ap (λ (a : ℕ). map (origin_behind first) (range_with_len a m)) start
    ∙ origins_from_place first off m

-- what is left of an arrival at a place
abbrev pub rest_at : Arrival → ℕ → OriginRun
rest_at x place = record { first = origin_behind x.run.first (place - x.before); len = x.run.len - (place - x.before) }

-- the last arrival that begins at the place or before it holds it
pub record HoldsRun (before : ℕ) (xs : List Arrival) (place : ℕ) (x : Arrival) : Type 0 where
  pub above : before ≤ x.before
  pub begun : x.before ≤ place
  pub inside : place - x.before < x.run.len
  pub fits : FitsNumbers x.run
  pub stands : take (x.run.len - (place - x.before)) (drop (place - before) (arrived xs)) ≡ run_origins (rest_at x place)

first_ends : (before : ℕ) (x : Arrival) (xs : List Arrival) (d : Arrival) (place : ℕ) → AreArrivals before (x ∷ xs) → (1 < length (x ∷ xs) → place < (get_or (x ∷ xs) 1 d).before) → place < before + length (arrived (x ∷ xs)) → place < before + x.run.len
first_ends before x [] d place is next inside =
    let all : length (run_origins x.run ++ []) ≡ x.run.len = ap (λ (os : List Origin). length os) (append-nil (run_origins x.run)) ∙ length-run x.run in
    omega (arith, inside, all)
first_ends before x (y ∷ xs) d place is next inside =
    let behind : place < y.before = next (omega arith) in
    omega (arith, is.2.0, behind)

pub run_found : (before : ℕ) (xs : List Arrival) (k : ℕ) (d : Arrival) (place : ℕ) → AreArrivals before xs → k < length xs → (get_or xs k d).before ≤ place → (suc k < length xs → place < (get_or xs (suc k) d).before) → place < before + length (arrived xs)
    → HoldsRun before xs place (get_or xs k d)
run_found before [] k d place is lt begun next inside = absurd (omega arith)
run_found before (x ∷ xs) zero d place is lt begun next inside =
    let ends = first_ends before x xs d place is next inside in
    let off = place - x.before in
    let m = x.run.len - off in
    let in_run : off < x.run.len = omega (arith, ends, is.0, begun) in
    let here : place - before ≡ off = omega (arith, is.0) in
    record {
      above = omega (arith, is.0);
      begun = begun;
      inside = in_run;
      fits = is.1;
      stands = ap (λ (j : ℕ). take m (drop j (run_origins x.run ++ arrived xs))) here
          ∙ span_left m off (run_origins x.run) (arrived xs) (omega (arith, in_run, length-run x.run))
          ∙ part_of_run x.run.first x.run.len off m (omega (arith, in_run));
    }
run_found before (x ∷ xs) (suc k) d place is lt begun next inside =
    let longer : length (run_origins x.run ++ arrived xs) ≡ x.run.len + length (arrived xs) = length-append (run_origins x.run) (arrived xs) ∙ ap (λ (n : ℕ). n + length (arrived xs)) (length-run x.run) in
    let rest = run_found (before + x.run.len) xs k d place is.2 (omega (arith, lt)) begun (λ more. next (omega (arith, more))) (omega (arith, inside, longer)) in
    let y = get_or xs k d in
    let m = y.run.len - (place - y.before) in
    let past : x.run.len ≤ place - before = omega (arith, rest.above, rest.begun) in
    let here : place - before - length (run_origins x.run) ≡ place - (before + x.run.len) = omega (arith, length-run x.run) in
    record {
      above = omega (arith, rest.above);
      begun = rest.begun;
      inside = rest.inside;
      fits = rest.fits;
      stands = span_right m (place - before) (run_origins x.run) (arrived xs) (omega (arith, length-run x.run, past))
          ∙ ap (λ (j : ℕ). take m (drop j (arrived xs))) here
          ∙ rest.stands;
    }
