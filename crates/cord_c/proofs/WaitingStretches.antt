-- Stretches that wait in a room: put in front of others, and told from the first on.
use Rattle.std.proofs.Common.{◌≡◌, ℕ, zero, suc, ◌+◌, ◌*◌, ◌-◌, ◌<◌, ◌≤◌, min, ltb, List, [], ◌∷◌, ◌++◌, length, map, take, drop, get_or, set, Some, refl, sym, ap, ◌∙◌, subst, arith, inl, inr}
use Rattle.std.specs.Prelude.{◌⊎◌}
use Rattle.std.specs.List.{sum_by}
use Rattle.std.proofs.lemmas.Bool.{cases_Bool, cases_lt, lt-ltb, le-ltb, ltb-true, ltb-false, cond-true, cond-false}
use Rattle.std.proofs.lemmas.List.{length-append, length-drop, length-map, length-set, length-take, take_all, take-take, take-map, take_more_set, take-set-le, drop_all, drop-set, drop-set-lt, drop_more, take-append-le}
use Rattle.std.proofs.lemmas.List.Edits.{take-paste}
use Rattle.std.proofs.lemmas.List.Sums.{sum_by-cons}
use Rattle.std.proofs.Math.Seq.{paste}
use Rattle.image_reader.specs.Value.{ImageValue}
use Rattle.image_reader.specs.Accepted.{splices_before}
use Rattle.session_checker.specs.Faithful.{HasTrueRecordsOf}
use Rattle.byte_origins.specs.declared.run.Brought.{Brought}
use Rattle.byte_origins.specs.declared.run.Brought.TheVariants.{Pool, Source, Fill}
use Rattle.byte_origins.specs.declared.run.OriginRun.{OriginRun}
use Rattle.byte_origins.specs.declared.stretch.Stretch.{Stretch}
use Rattle.byte_origins.specs.declared.taking.CameFrom.TheVariants.{FromText, Run}
use Rattle.byte_origins.specs.Origins.{origins_at}
use Rattle.byte_origins.specs.StepsBack.{IsBrought, IsFromText, step_back}
use Rattle.byte_origins.specs.Stretches.{IsStretch, StandsFor, stretch_behind}
use Rattle.byte_origins.specs.EarlierTexts.{len_of_text}
use Rattle.byte_origins.proofs.Lengths.{as_long}
use Rattle.byte_origins.proofs.Standing.{stands_begins, stands_behind, stands_ends, stands_more}
use Rattle.cord_types.specs.declared.origins.CordOrigin.{CordOrigin}
use Rattle.cord_types.specs.ToldOrigins.{IsToldOrigin, origin_numbers}
use Rattle.cord_c.specs.OriginRooms.{AreToldOrigins, AreWaiting, FreesSlot, PutsInFront, StandInOrder, TellsFirst, TellsRuns, behind_of, stretch_of, told_end, waiting_numbers, waits}

-- ---- those that wait in a room

pub length-waits : (room : List CordOrigin) (left : ℕ) → length (waits room left) ≡ length room - left
length-waits room left = length-map (drop left room) stretch_of ∙ length-drop left room

-- a slot was free
pub slot_free : (room : List CordOrigin) (from left : ℕ) → from < left → left ≤ length room → FreesSlot room from left room left
slot_free room from left free inside = record {
  order = omega (arith, free);
  inside = inside;
  len = refl;
  front = refl;
  these = sym (take_all (length room - left) (waits room left) (omega (arith, length-waits room left)));
  free = inl free;
  room = inl refl;
}

-- the first n of those that wait are copied to the end
pub slot_freed : (old new : List CordOrigin) (from left kept at : ℕ) → from ≤ left → left ≤ length old → left ≤ from → 2 * kept ≤ length old - left → length old - left ≤ 2 * kept + 1 → at ≡ length old - kept → new ≡ paste old at (drop left old) kept → length new ≡ length old
    → FreesSlot old from left new at
slot_freed old new from left kept at order inside none few half is copied len =
    let fits : kept ≤ length old - left = omega (arith, few) in
    let past : left ≤ at = omega (arith, is, fits, inside) in
    let within : at ≤ length old = omega (arith, is) in
    let end : at + kept ≡ length old = omega (arith, is, fits, inside) in
    let all : new ≡ take at old ++ take kept (drop left old) =
    sym (take_all (at + kept) new (omega (arith, end, len))) ∙ ap (take (at + kept)) copied ∙ take-paste old at (drop left old) kept within (omega (arith, length-drop left old, fits)) in
    let front_len : length (take at old) ≡ at = omega (arith, length-take at old, within) in
    let behind : drop at new ≡ take kept (drop left old) =
    ap (drop at) all ∙ ap (λ (n : ℕ). drop n (take at old ++ take kept (drop left old))) (sym front_len) ∙ drop_front (take at old) (take kept (drop left old)) in
    let many : length old - at ≡ kept = omega (arith, is, fits, inside) in
    record {
      order = omega (arith, order, past);
      inside = within;
      len = len;
      front = ap (take from) all ∙ take-append-le from (take at old) (take kept (drop left old)) (omega (arith, front_len, order, past)) ∙ take-take from at old (omega (arith, order, past));
      these = ap (map stretch_of) behind ∙ sym (take-map stretch_of kept (drop left old)) ∙ ap (λ (n : ℕ). take n (waits old left)) (sym many);
      free = elim (cases_lt left (length old)) [
        | inl some ↦ inl (omega (arith, some, few, is, order))
        | inr none_wait ↦ inr (omega (arith, none_wait, few, is))
      ];
      room = inr (omega (arith, half, many, order, none));
    }
  where
    drop_front : (xs ys : List CordOrigin) → drop (length xs) (xs ++ ys) ≡ ys
    drop_front [] ys = refl
    drop_front (x ∷ xs) ys = drop_front xs ys

-- ---- put in front

pub put_nothing : (room : List CordOrigin) (from left n : ℕ) (x : Stretch) → from ≤ left → left ≤ length room → x.len ≤ n → PutsInFront (behind_of x n) room from left room left
put_nothing room from left n x order inside none =
    let nothing : behind_of x n ≡ [] = cond-false (ltb n x.len) (stretch_behind x n ∷ []) [] (le-ltb n x.len none) in
    subst (λ (xs : List Stretch). PutsInFront xs room from left room left) (sym nothing) record {
      order = order;
      inside = inside;
      len = refl;
      front = refl;
      these = sym (take_all (length room - left) (waits room left) (omega (arith, length-waits room left)));
      room = inl (omega arith);
    }

-- where no slot is there at all, it goes too
pub put_dropped : (old new : List CordOrigin) (from left at n : ℕ) (x : Stretch) → left ≤ length old → FreesSlot old from left new at → at ≡ from → PutsInFront (behind_of x n) old from left new at
put_dropped old new from left at n x inside frees same =
    let nothing : length old - at ≡ 0 = by_free frees.free in
    let order = frees.order in
    let within = frees.inside in
    record {
      order = order;
      inside = within;
      len = frees.len;
      front = frees.front;
      these = frees.these ∙ ap (λ (m : ℕ). take m (waits old left)) nothing ∙ ap (λ (m : ℕ). take m (behind_of x n ++ waits old left)) (sym nothing);
      room = inr (omega (arith, nothing, within, same));
    }
  where
    by_free : (from < at) ⊎ (at ≡ length old) → length old - at ≡ 0
    by_free (inl free) = absurd (omega (arith, free, same))
    by_free (inr end) = omega (arith, end)

pub put_in_slot : (old new now : List CordOrigin) (from left at n : ℕ) (x : Stretch) → left ≤ length old → n < x.len → FreesSlot old from left new at → from < at → now ≡ set new (at - 1) (waiting_numbers (stretch_behind x n))
    → PutsInFront (behind_of x n) old from left now (at - 1)
put_in_slot old new now from left at n x inside some frees free put =
    let xs = stretch_behind x n ∷ [] in
    let one : behind_of x n ≡ xs = cond-true (ltb n x.len) xs [] (lt-ltb n x.len some) in
    let within = frees.inside in
    let slot : at - 1 < length new = let len = frees.len in omega (arith, free, within, len) in
    let next : at - 1 + 1 ≡ at = omega (arith, free) in
    let more : length old - (at - 1) ≡ suc (length old - at) = omega (arith, free, within) in
    let behind : drop (at - 1) now ≡ waiting_numbers (stretch_behind x n) ∷ drop at new =
    ap (drop (at - 1)) put ∙ drop-set new (at - 1) (waiting_numbers (stretch_behind x n)) slot ∙ ap (λ (m : ℕ). waiting_numbers (stretch_behind x n) ∷ drop m new) next in
    subst (λ (ys : List Stretch). PutsInFront ys old from left now (at - 1)) (sym one) record {
      order = omega (arith, free);
      inside = omega (arith, within);
      len = ap (λ (l : List CordOrigin). length l) put ∙ length-set new (at - 1) (waiting_numbers (stretch_behind x n)) ∙ frees.len;
      front = ap (take from) put ∙ take-set-le from new (at - 1) (waiting_numbers (stretch_behind x n)) (omega (arith, free)) ∙ frees.front;
      these = ap (map stretch_of) behind
          ∙ ap (λ (ys : List Stretch). stretch_behind x n ∷ ys) frees.these
          ∙ ap (λ (m : ℕ). take m (xs ++ waits old left)) (sym more);
      room = by_room frees.room;
    }
  where
    by_room : (at ≡ left) ⊎ (length old ≤ from + 2 * (length old - at) + 1) → (at - 1 + 1 ≡ left) ⊎ (length old ≤ from + 2 * (length old - (at - 1)))
    by_room (inl same) = inl (omega (arith, free, same))
    by_room (inr half) = let within = frees.inside in inr (omega (arith, half, free, within))

-- ---- stretches in their order

abbrev all_len : List Stretch → ℕ
all_len xs = sum_by (λ (x : Stretch). x.len) xs

pub order_front : (v : ImageValue) (k place n : ℕ) (xs : List Stretch) → StandInOrder v k place xs → StandInOrder v k place (take n xs)
order_front v k place zero xs all = tt
order_front v k place (suc n) [] all = tt
order_front v k place (suc n) (x ∷ xs) all = (all.0, order_front v k (place + x.len) n xs all.1)

module _ (v : ImageValue) (k place : ℕ) (x : Stretch) where
  -- what lies behind the first n bytes of one, in front of those behind it
  behind_in_order : (n : ℕ) (xs : List Stretch) → StandsFor v k place x → n ≤ x.len → StandInOrder v k (place + x.len) xs → StandInOrder v k (place + n) (behind_of x n ++ xs)
  behind_in_order n xs stands le all =
      let rest = stretch_behind x n in
      elim (cases_Bool (ltb n x.len)) [
        | inl more ↦
            let lt : n < x.len = ltb-true n x.len more in
            let end : place + x.len ≡ place + n + (x.len - n) = omega (arith, lt) in
            subst (λ (ys : List Stretch). StandInOrder v k (place + n) (ys ++ xs)) (sym (cond-true (ltb n x.len) (rest ∷ []) [] more))
            (stands_behind v k place x n lt stands, subst (λ (p : ℕ). StandInOrder v k p xs) end all)
        | inr none ↦
            let past : x.len ≤ n = ltb-false n x.len none in
            let end : place + x.len ≡ place + n = omega (arith, past, le) in
            subst (λ (ys : List Stretch). StandInOrder v k (place + n) (ys ++ xs)) (sym (cond-false (ltb n x.len) (rest ∷ []) [] none))
            (subst (λ (p : ℕ). StandInOrder v k p xs) end all)
      ]

  behind_len : (n : ℕ) (xs : List Stretch) → n ≤ x.len → n + all_len (behind_of x n ++ xs) ≡ x.len + all_len xs
  behind_len n xs le =
      let rest = stretch_behind x n in
      elim (cases_Bool (ltb n x.len)) [
        | inl more ↦
            ap (λ (ys : List Stretch). n + all_len (ys ++ xs)) (cond-true (ltb n x.len) (rest ∷ []) [] more)
            ∙ (let cut : all_len (rest ∷ xs) ≡ (x.len - n) + all_len xs = sum_by-cons (λ (y : Stretch). y.len) rest xs in omega (arith, cut, le))
        | inr none ↦
            let past : x.len ≤ n = ltb-false n x.len none in
            ap (λ (ys : List Stretch). n + all_len (ys ++ xs)) (cond-false (ltb n x.len) (rest ∷ []) [] none)
            ∙ (let same : n ≡ x.len = omega (arith, past, le) in ap (λ (m : ℕ). m + all_len xs) same)
      ]

  -- those that wait when what lies behind its first n bytes is put in front of them
  pub waiting_more : (old new : List CordOrigin) (from left at n m : ℕ) → StandsFor v k place x → n ≡ min x.len m → left ≤ length old → PutsInFront (behind_of x m) old from left new at
      → AreWaiting v k (place + x.len) (waits old left) from (length old) → AreWaiting v k (place + n) (waits new at) from (length old)
  waiting_more old new from left at n m stands least inside puts wait =
      let le : n ≤ x.len = omega (arith, least) in
      let ys = behind_of x n ++ waits old left in
      let these : waits new at ≡ take (length old - at) ys = puts.these ∙ ap (λ (zs : List Stretch). take (length old - at) (zs ++ waits old left)) same_behind in
      let within = puts.inside in
      let count : length (waits new at) ≡ length old - at = let len = puts.len in omega (arith, length-waits new at, len) in
      record {
        each = subst (StandInOrder v k (place + n)) (sym these) (order_front v k (place + n) (length old - at) ys (behind_in_order n (waits old left) stands le wait.each));
        enough = by_room puts.room wait.enough;
      }
    where
      same_behind : behind_of x m ≡ behind_of x n
      same_behind = elim (cases_Bool (ltb m x.len)) [
        | inl more ↦ let lt : m < x.len = ltb-true m x.len more in let same : m ≡ n = omega (arith, least, lt) in ap (behind_of x) same
        | inr none ↦
            let past : x.len ≤ m = ltb-false m x.len none in
            let all : x.len ≤ n = omega (arith, least, past) in
            cond-false (ltb m x.len) (stretch_behind x m ∷ []) [] none ∙ sym (cond-false (ltb n x.len) (stretch_behind x n ∷ []) [] (le-ltb n x.len all))
      ]

      count_is : length (waits new at) ≡ length old - at
      count_is = let len = puts.len in omega (arith, length-waits new at, len)

      by_room : (at + length (behind_of x m) ≡ left) ⊎ (length old ≤ from + 2 * (length old - at))
          → (place + x.len + all_len (waits old left) ≡ length (origins_at v k)) ⊎ (length old ≤ 2 * (from + length (waits old left)))
          → (place + n + all_len (waits new at) ≡ length (origins_at v k)) ⊎ (length old ≤ 2 * (from + length (waits new at)))
      by_room (inr half) enough = inr (omega (arith, half, count_is))
      by_room (inl all) (inr enough) = inr (omega (arith, enough, count_is, all, length-waits old left, inside))
      by_room (inl all) (inl enough) =
          let le : n ≤ x.len = omega (arith, least) in
          let ys = behind_of x m ++ waits old left in
          let many : length ys ≤ length old - at = omega (arith, length-append (behind_of x m) (waits old left), length-waits old left, all, inside) in
          let whole : waits new at ≡ behind_of x n ++ waits old left = puts.these ∙ take_all (length old - at) ys many ∙ ap (λ (zs : List Stretch). zs ++ waits old left) same_behind in
          let len : all_len (waits new at) ≡ all_len (behind_of x n ++ waits old left) = ap all_len whole in
          inl (omega (arith, enough, len, behind_len n (waits old left) le))

-- ---- one run

-- the way back from a stretch, wherever it stands
pub record IsGoingOn (v : ImageValue) (x : Stretch) (old : List CordOrigin) (from left : ℕ) (new : List CordOrigin) (top : Stretch) (at : ℕ) : Type 0 where
  pub is : IsStretch v top
  pub order : from ≤ at
  pub inside : at ≤ length old
  pub len : length new ≡ length old
  pub front : take from new ≡ take from old
  pub on : (k place : ℕ) → StandsFor v k place x → AreWaiting v k (place + x.len) (waits old left) from (length old)
      → StandsFor v k place top × AreWaiting v k (place + top.len) (waits new at) from (length old)

pub going_begins : (v : ImageValue) (x : Stretch) (room : List CordOrigin) (from left : ℕ) → IsStretch v x → from ≤ left → left ≤ length room → IsGoingOn v x room from left room x left
going_begins v x room from left is order inside = record { is = is; order = order; inside = inside; len = refl; front = refl; on = λ k place stands wait. (stands, wait) }

module _ (v : ImageValue) (x : Stretch) (old room new : List CordOrigin) (from left next at n : ℕ) (top : Stretch) (going : IsGoingOn v x old from left room top at) (puts : PutsInFront (behind_of top n) room from at new next) where
  same_len : length new ≡ length old
  same_len = puts.len ∙ going.len

  wait_more : (k place m : ℕ) → m ≡ min top.len n → StandsFor v k place top → AreWaiting v k (place + top.len) (waits room at) from (length old) → AreWaiting v k (place + m) (waits new next) from (length old)
  wait_more k place m least stands wait =
      let len = going.len in
      let within : at ≤ length room = let inside = going.inside in omega (arith, inside, len) in
      subst (AreWaiting v k (place + m) (waits new next) from) len
      (waiting_more v k place top room new from at next m n stands least within puts (subst (AreWaiting v k (place + top.len) (waits room at) from) (sym len) wait))

  pub going_more : (later : Stretch) → IsFromText v top.revision top.place later.revision later.place n → step_back v top.revision top.place ≡ Some (FromText later.revision later.place n) → later.len ≡ min top.len n → later.first ≡ splices_before v later.revision
      → IsGoingOn v x old from left new later next
  going_more later step exact least first =
      let there = going.is.there in
      let some = going.is.some in
      let len = going.len in
      let within = puts.inside in
      record {
        is = record { there = omega (arith, step.earlier, there); some = omega (arith, least, some, step.some); inside = omega (arith, least, step.inside); first = first };
        order = puts.order;
        inside = omega (arith, within, len);
        len = same_len;
        front = puts.front ∙ going.front;
        on = λ k place stands wait.
            let before = going.on k place stands wait in
            (stands_more v k place top later n before.0 step exact least first, wait_more k place later.len least before.0 before.1);
      }

  pub going_ends : (run : OriginRun) (len : ℕ) → IsBrought v top.revision top.place run → step_back v top.revision top.place ≡ Some (Run run) → n ≡ run.len → len ≡ min top.len run.len
      → TellsFirst v x old from left new (record { first = run.first; len = len }) next
  going_ends run len end exact is least =
      let same = going.len in
      let within = puts.inside in
      record {
        order = puts.order;
        inside = omega (arith, within, same);
        len = same_len;
        front = puts.front ∙ going.front;
        tells = λ k place stands wait.
            let before = going.on k place stands wait in
            (stands_ends v k place top run len before.0 end exact least, wait_more k place len (omega (arith, least, is)) before.0 before.1);
      }

-- ---- runs, one behind the other

told_more : (v : ImageValue) (k place : ℕ) (xs : List CordOrigin) (y : CordOrigin) → AreToldOrigins v k place xs → IsToldOrigin v k (told_end place xs) y → AreToldOrigins v k place (xs ++ y ∷ [])
told_more v k place [] y all is = (is, tt)
told_more v k place (x ∷ xs) y all is = (all.0, told_more v k (place + x.len) xs y all.1 is)

end_more : (place : ℕ) (xs : List CordOrigin) (y : CordOrigin) → told_end place (xs ++ y ∷ []) ≡ told_end place xs + y.len
end_more place [] y = refl
end_more place (x ∷ xs) y = end_more (place + x.len) xs y

-- some are told, one is looked at, and others wait
pub record IsTelling (v : ImageValue) (k place : ℕ) (room : List CordOrigin) (done left : ℕ) (top : Stretch) : Type 0 where
  pub order : done < left
  pub inside : left ≤ length room
  pub told : AreToldOrigins v k place (take done room)
  pub stands : StandsFor v k (told_end place (take done room)) top
  pub wait : AreWaiting v k (told_end place (take done room) + top.len) (waits room left) (done + 1) (length room)

pub telling_begins : (v : ImageValue) → HasTrueRecordsOf v → (room : List CordOrigin) (left : ℕ) (rest : Stretch) → 1 ≤ length room → left ≡ length room → IsStretch v rest → rest.place + rest.len ≡ len_of_text v rest.revision → IsTelling v rest.revision rest.place room 0 left rest
telling_begins v is room left rest some at stretch whole =
    let there = stretch.there in
    let all = as_long v is is.rules rest.revision there in
    let none : waits room left ≡ [] = ap (map stretch_of) (drop_all left room (omega (arith, at))) in
    record {
      order = omega (arith, some, at);
      inside = omega (arith, at);
      told = tt;
      stands = stands_begins v is is.rules rest stretch whole;
      wait = subst (λ (xs : List Stretch). AreWaiting v rest.revision (rest.place + rest.len) xs (0 + 1) (length room)) (sym none)
          (record { each = tt; enough = inl (omega (arith, whole, all)) });
    }

numbers_len : (b : Brought) (k place n : ℕ) → (origin_numbers b k place n).len ≡ n
numbers_len (Pool a) k place n = refl
numbers_len (Source s p) k place n = refl
numbers_len (Fill c) k place n = refl

-- one more is told, and others wait
pub record IsToldMore (v : ImageValue) (k place : ℕ) (room : List CordOrigin) (done at all : ℕ) : Type 0 where
  pub order : done ≤ at
  pub inside : at ≤ all
  pub len : length room ≡ all
  pub told : AreToldOrigins v k place (take done room)
  pub wait : AreWaiting v k (told_end place (take done room)) (waits room at) done all

pub told_one : (v : ImageValue) (k place : ℕ) (room new now : List CordOrigin) (done left at : ℕ) (top : Stretch) (run : OriginRun) (y : CordOrigin) → IsTelling v k place room done left top → TellsFirst v top room (done + 1) left new run at
    → y ≡ origin_numbers run.first.brought run.first.revision run.first.place run.len → now ≡ set new done y → IsToldMore v k place now (done + 1) at (length room)
told_one v k place room new now done left at top run y telling first numbers put =
    let order = first.order in
    let inside = first.inside in
    let same = first.len in
    let next = first.tells k (told_end place (take done room)) telling.stands telling.wait in
    let front : take done new ≡ take done room =
    sym (take-take done (done + 1) new (omega arith)) ∙ ap (take done) first.front ∙ take-take done (done + 1) room (omega arith) in
    let more : take (done + 1) now ≡ take done room ++ y ∷ [] =
    ap (take (done + 1)) put ∙ take_more_set new done y (omega (arith, order, inside, same)) ∙ ap (λ (xs : List CordOrigin). xs ++ y ∷ []) front in
    let len : y.len ≡ run.len = ap (λ (x : CordOrigin). x.len) numbers ∙ numbers_len run.first.brought run.first.revision run.first.place run.len in
    let end : told_end place (take done room) + run.len ≡ told_end place (take (done + 1) now) =
    ap (λ (n : ℕ). told_end place (take done room) + n) (sym len) ∙ sym (end_more place (take done room) y) ∙ ap (told_end place) (sym more) in
    let still : waits new at ≡ waits now at = ap (map stretch_of) (sym (ap (drop at) put ∙ drop-set-lt at new done y (omega (arith, order)))) in
    record {
      order = order;
      inside = inside;
      len = ap (λ (l : List CordOrigin). length l) put ∙ length-set new done y ∙ same;
      told = subst (AreToldOrigins v k place) (sym more) (told_more v k place (take done room) y telling.told (record { run = run; stands = next.0; told = numbers }));
      wait = subst (λ (xs : List Stretch). AreWaiting v k (told_end place (take (done + 1) now)) xs (done + 1) (length room)) still
          (subst (λ (p : ℕ). AreWaiting v k p (waits new at) (done + 1) (length room)) end next.1);
    }

-- none wait any more
pub telling_ends : (v : ImageValue) (k place : ℕ) (room : List CordOrigin) (done at all : ℕ) → IsToldMore v k place room done at all → at ≡ all → TellsRuns v k place room done
telling_ends v k place room done at all told end =
    let order = told.order in
    let len = told.len in
    let none : waits room at ≡ [] = ap (map stretch_of) (drop_all at room (omega (arith, end, len))) in
    record {
      inside = omega (arith, order, end, len);
      runs = told.told;
      most = by_enough (waits room at) none told.wait.enough;
    }
  where
    by_enough : (xs : List Stretch) → xs ≡ [] → (told_end place (take done room) + all_len xs ≡ length (origins_at v k)) ⊎ (all ≤ 2 * (done + length xs))
        → (told_end place (take done room) ≡ length (origins_at v k)) ⊎ (length room ≤ 2 * done)
    by_enough [] e (inl whole) = inl (omega (arith, whole))
    by_enough [] e (inr half) = let len = told.len in inr (omega (arith, half, len))
    by_enough (x ∷ xs) e enough = absurd cc

-- the next one is looked at
pub telling_goes : (v : ImageValue) (k place : ℕ) (room : List CordOrigin) (done at left all : ℕ) (top : Stretch) (x : CordOrigin) → IsToldMore v k place room done at all → at < all → left ≡ at + 1 → top ≡ stretch_of (get_or room at x) → IsTelling v k place room done left top
telling_goes v k place room done at left all top x told more next from =
    let order = told.order in
    let len = told.len in
    let split : waits room at ≡ stretch_of (get_or room at x) ∷ waits room (at + 1) = ap (map stretch_of) (drop_more room at x (omega (arith, more, len))) in
    let top_is : stretch_of (get_or room at x) ≡ top = sym from in
    let wait : AreWaiting v k (told_end place (take done room)) (top ∷ waits room left) done all =
    subst (λ (n : ℕ). AreWaiting v k (told_end place (take done room)) (top ∷ waits room n) done all) (sym next)
    (subst (λ (y : Stretch). AreWaiting v k (told_end place (take done room)) (y ∷ waits room (at + 1)) done all) top_is
    (subst (λ (xs : List Stretch). AreWaiting v k (told_end place (take done room)) xs done all) split told.wait)) in
    record {
      order = omega (arith, order, next);
      inside = omega (arith, more, len, next);
      told = told.told;
      stands = wait.each.0;
      wait = record { each = wait.each.1; enough = by_enough wait.enough };
    }
  where
    by_enough : (told_end place (take done room) + all_len (top ∷ waits room left) ≡ length (origins_at v k)) ⊎ (all ≤ 2 * (done + length (top ∷ waits room left)))
        → (told_end place (take done room) + top.len + all_len (waits room left) ≡ length (origins_at v k)) ⊎ (length room ≤ 2 * (done + 1 + length (waits room left)))
    by_enough (inl whole) =
        let cut : all_len (top ∷ waits room left) ≡ top.len + all_len (waits room left) = sum_by-cons (λ (y : Stretch). y.len) top (waits room left) in
        inl (omega (arith, whole, cut))
    by_enough (inr half) = let len = told.len in inr (omega (arith, half, len))

-- ---- all of them

pub tells_none : (v : ImageValue) (k place : ℕ) (room : List CordOrigin) → length room ≡ 0 → TellsRuns v k place room 0
tells_none v k place room none = record { inside = omega arith; runs = tt; most = inr (omega (arith, none)) }
