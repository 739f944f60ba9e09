-- How the stretches that are left change while the next run is looked for.
use Rattle.std.proofs.Common.{◌≡◌, ℕ, ◌+◌, ◌-◌, ◌<◌, ◌≤◌, min, ltb, List, [], ◌∷◌, ◌++◌, take, drop, sym, ap, ◌∙◌, subst, arith, inl, inr, append_assoc}
use Rattle.std.specs.List.{AllByRecursion}
use Rattle.std.proofs.lemmas.Bool.{cases_Bool, ltb-true, ltb-false, cond-true, cond-false}
use Rattle.std.proofs.lemmas.List.{length-take, take-take, take-append-drop, drop-take, drop-drop, drop_all, append-nil}
use Rattle.rope_node.proofs.Ropes.{rope_short}
use Rattle.image_reader.specs.Value.{ImageValue, image_table}
use Rattle.image_reader.specs.Accepted.{revision_at, splices_before}
use Rattle.session_checker.specs.Faithful.{HasTrueRecordsOf}
use Rattle.byte_origins.specs.declared.run.Origin.{Origin}
use Rattle.byte_origins.specs.declared.run.OriginRun.{OriginRun}
use Rattle.byte_origins.specs.declared.stretch.Stretch.{Stretch}
use Rattle.byte_origins.specs.Origins.{origins_at, run_origins}
use Rattle.byte_origins.specs.StepsBack.{IsFromText, IsBrought}
use Rattle.byte_origins.specs.Stretches.{IsStretch, stretch_origins, left_origins, put_back}
use Rattle.byte_origins.proofs.StepsTaken.{shorter, take-run}

module _ (v : ImageValue) where
  -- a stretch put on top comes first
  pub left_push : (xs : List Stretch) (x : Stretch) → left_origins v (xs ++ x ∷ []) ≡ stretch_origins v x ++ left_origins v xs
  left_push [] x = sym (append-nil (stretch_origins v x))
  left_push (y ∷ xs) x = ap (λ (os : List Origin). os ++ stretch_origins v y) (left_push xs x) ∙ append_assoc (stretch_origins v x) (left_origins v xs) (stretch_origins v y)

  pub all_push : (xs : List Stretch) (x : Stretch) → AllByRecursion (IsStretch v) xs → IsStretch v x → AllByRecursion (IsStretch v) (xs ++ x ∷ [])
  all_push [] x all is = (is, tt)
  all_push (y ∷ xs) x all is = (all.0, all_push xs x all.1 is)

  pub all_popped : (xs : List Stretch) (x : Stretch) → AllByRecursion (IsStretch v) (xs ++ x ∷ []) → AllByRecursion (IsStretch v) xs × IsStretch v x
  all_popped [] x all = (tt, all.0)
  all_popped (y ∷ xs) x all = let rest = all_popped xs x all.1 in ((all.0, rest.0), rest.1)

  -- what is put back is what lies behind
  pub back_all : (xs : List Stretch) (x : Stretch) (n : ℕ) → AllByRecursion (IsStretch v) xs → IsStretch v x → AllByRecursion (IsStretch v) (put_back xs x n)
  back_all xs x n all is =
      let rest : Stretch = record { revision = x.revision; place = x.place + n; len = x.len - n; first = x.first } in
      elim (cases_Bool (ltb n x.len)) [
        | inl more ↦
            let lt : n < x.len = ltb-true n x.len more in
            subst (AllByRecursion (IsStretch v)) (sym (cond-true (ltb n x.len) (xs ++ rest ∷ []) xs more))
            (all_push xs rest all record { there = is.there; some = omega (arith, lt); inside = omega (arith, lt, is.inside); first = is.first })
        | inr none ↦ subst (AllByRecursion (IsStretch v)) (sym (cond-false (ltb n x.len) (xs ++ rest ∷ []) xs none)) all
      ]

  pub back_left : (xs : List Stretch) (x : Stretch) (n : ℕ) → n ≤ x.len → left_origins v (put_back xs x n) ≡ drop n (stretch_origins v x) ++ left_origins v xs
  back_left xs x n le =
      let rest : Stretch = record { revision = x.revision; place = x.place + n; len = x.len - n; first = x.first } in
      let os = origins_at v x.revision in
      elim (cases_Bool (ltb n x.len)) [
        | inl more ↦
            let split : n + (x.len - n) ≡ x.len = omega (arith, le) in
            let behind : drop n (stretch_origins v x) ≡ stretch_origins v rest =
            ap (λ (m : ℕ). drop n (take m (drop x.place os))) (sym split) ∙ drop-take n (x.len - n) (drop x.place os) ∙ ap (take (x.len - n)) (drop-drop n x.place os) in
            ap (left_origins v) (cond-true (ltb n x.len) (xs ++ rest ∷ []) xs more) ∙ left_push xs rest ∙ ap (λ (l : List Origin). l ++ left_origins v xs) (sym behind)
        | inr none ↦
            let past : x.len ≤ n = ltb-false n x.len none in
            let nothing : drop n (stretch_origins v x) ≡ [] = drop_all n (stretch_origins v x) (omega (arith, past, length-take x.len (drop x.place os))) in
            ap (left_origins v) (cond-false (ltb n x.len) (xs ++ rest ∷ []) xs none) ∙ ap (λ (l : List Origin). l ++ left_origins v xs) (sym nothing)
      ]

  -- the origins that were left: the present stretch's, and behind them those of the others
  pub record IsGoingBack (old : List Origin) (top : Stretch) (left : List Stretch) : Type 0 where
    pub is : IsStretch v top
    pub each : AllByRecursion (IsStretch v) left
    pub same : old ≡ stretch_origins v top ++ left_origins v left

  pub back_begins : (old left : List Stretch) (top : Stretch) → AllByRecursion (IsStretch v) old → old ≡ left ++ top ∷ [] → IsGoingBack (left_origins v old) top left
  back_begins old left top all popped =
      let split = all_popped left top (subst (AllByRecursion (IsStretch v)) popped all) in
      record { is = split.1; each = split.0; same = ap (left_origins v) popped ∙ left_push left top }

  -- cut in two
  cut : (old : List Origin) (top : Stretch) (left : List Stretch) (n : ℕ) → n ≤ top.len → IsGoingBack old top left → old ≡ take n (stretch_origins v top) ++ left_origins v (put_back left top n)
  cut old top left n le is =
      is.same
      ∙ ap (λ (l : List Origin). l ++ left_origins v left) (sym (take-append-drop n (stretch_origins v top)))
      ∙ append_assoc (take n (stretch_origins v top)) (drop n (stretch_origins v top)) (left_origins v left)
      ∙ ap (λ (l : List Origin). take n (stretch_origins v top) ++ l) (sym (back_left left top n le))

  pub back_more : (old : List Origin) (top next : Stretch) (left : List Stretch) (n : ℕ) → IsGoingBack old top left → IsFromText v top.revision top.place next.revision next.place n → next.len ≡ min top.len n → next.first ≡ splices_before v next.revision
      → IsGoingBack old next (put_back left top next.len)
  back_more old top next left n is step least first =
      let from = drop top.place (origins_at v top.revision) in
      let le : next.len ≤ top.len = omega (arith, least) in
      record {
        is = record { there = let there = is.is.there in omega (arith, step.earlier, there); some = let some = is.is.some in omega (arith, least, some, step.some); inside = omega (arith, least, step.inside); first = first };
        each = back_all left top next.len is.each is.is;
        same = cut old top left next.len le is
            ∙ ap (λ (l : List Origin). l ++ left_origins v (put_back left top next.len))
            (take-take next.len top.len from le ∙ shorter next.len n from (drop next.place (origins_at v next.revision)) step.same (omega (arith, least)));
      }

  pub back_ends : (old : List Origin) (top : Stretch) (left : List Stretch) (run : OriginRun) (n : ℕ) → IsGoingBack old top left → IsBrought v top.revision top.place run → n ≡ min top.len run.len
      → (1 ≤ n) × (old ≡ run_origins (record { first = run.first; len = n }) ++ left_origins v (put_back left top n))
  back_ends old top left run n is end least =
      let from = drop top.place (origins_at v top.revision) in
      let le : n ≤ top.len = omega (arith, least) in
      let few : n ≤ run.len = omega (arith, least) in
      let some = is.is.some in (
        omega (arith, least, some, end.is_run.some),
        cut old top left n le is
            ∙ ap (λ (l : List Origin). l ++ left_origins v (put_back left top n))
            (take-take n top.len from le ∙ sym (take-take n run.len from few) ∙ ap (take n) end.is_run.stands ∙ take-run n run.len run.first few),
      )

-- a stretch ends below 2^64
pub stretch_fits : (v : ImageValue) → HasTrueRecordsOf v → (x : Stretch) → IsStretch v x → x.place + x.len < 18446744073709551616
stretch_fits v is x s =
    let short = rope_short (image_table v) is.sound (revision_at v x.revision).root (is.roots x.revision s.there) in
    omega (arith, short, s.inside)

-- put together again, the stretches have the same origins
pub back_stays : (v : ImageValue) (old : List Origin) (top : Stretch) (left : List Stretch) → IsGoingBack v old top left → left_origins v (left ++ top ∷ []) ≡ old
back_stays v old top left is = left_push v left top ∙ sym is.same

pub all_stay : (v : ImageValue) (old : List Origin) (top : Stretch) (left : List Stretch) → IsGoingBack v old top left → AllByRecursion (IsStretch v) (left ++ top ∷ [])
all_stay v old top left is = all_push v left top is.each is.is
