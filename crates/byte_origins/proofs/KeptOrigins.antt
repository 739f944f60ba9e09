-- The origins at the ends of a text, behind a command with splices between two places of an earlier one.
use Rattle.std.proofs.Common.{◌≡◌, ℕ, suc, ◌+◌, ◌-◌, ◌<◌, ◌≤◌, Bool, true, false, List, [], ◌∷◌, ◌++◌, map, length, take, drop, get_or, Option, Some, None, refl, sym, ap, ◌∙◌, subst, arith, append_assoc, inl, inr}
use Rattle.std.specs.Prelude.{if◌then◌else◌, slice_get}
use Rattle.std.specs.Option.{option_map, unwrap_or}
use Rattle.std.specs.List.{take-map, drop-map}
use Rattle.std.proofs.lemmas.Bool.{cases_lt}
use Rattle.std.proofs.lemmas.List.{drop-drop, length-map, length-take, take-append-drop, get_or-take}
use Rattle.std.proofs.lemmas.Option.{same_Some, none-some, slice_get-map, slice_get-get_or, slice_get_past}
use Rattle.command_parts.specs.declared.edit.Splice.{Splice}
use Rattle.command_parts.specs.Commands.{◌>>=◌, Back, Givens, Many, bounded, can_splice, replaced_each, result_of}
use Rattle.command_parts.specs.Parts.{Follow}
use Rattle.command_parts.proofs.SplicedTexts.{replaced_from, spliced_from}
use Rattle.image_reader.specs.Value.{ImageValue}
use Rattle.image_reader.specs.Accepted.{KeepsRules, command_at}
use Rattle.session_checker.specs.Faithful.{EachRevision, HasTrueRecordsOf}
use Rattle.byte_origins.specs.declared.run.Origin.{Origin}
use Rattle.byte_origins.specs.KeptEnds.{KeepsOrigins}
use Rattle.byte_origins.specs.Origins.{Traced, Earlier, Outside, settled, origins_at, traced_givens}
use Rattle.byte_origins.proofs.Lengths.{all_origins, origins_step, result_there, traced_result}
use Rattle.byte_origins.proofs.TakenParts.{settled-earlier}

-- ---- what a command gives

bound : {A B : Type 0} (o : Option A) (f : A → Option B) (y : B) → (o >>= f) ≡ Some y → (x : A) × (o ≡ Some x) × (f x ≡ Some y)
bound None f y e = absurd (none-some y e)
bound (Some x) f y e = (x, refl, e)

chosen : {X : Type 0} (b : Bool) (o : Option X) (y : X) → (if b then o else None) ≡ Some y → o ≡ Some y
chosen true o y e = e
chosen false o y e = absurd (none-some y e)

-- the splices' things in an earlier text
spliced_text : {C : Type 0} (g : Givens C) (texts : List (List C)) (r : ℕ) (splices : List Splice) (x : List C) → result_of g texts (Many r splices) ≡ Some x
    → (t : List C) × (slice_get texts r ≡ Some t) × (replaced_each g.pool t splices ≡ x)
spliced_text g texts r splices x e =
    let t = bound (slice_get texts r) (λ t. if can_splice (length g.pool) (length t) splices then bounded (replaced_each g.pool t splices) else None) x e in
    let short = chosen (can_splice (length g.pool) (length t.0) splices) (bounded (replaced_each g.pool t.0 splices)) x t.2 in
    (t.0, t.1, same_Some (replaced_each g.pool t.0 splices) x (chosen _ (Some (replaced_each g.pool t.0 splices)) x short))

-- ---- splices between two places

follow_wider : (end len k : ℕ) (splices : List Splice) → end ≤ len → Follow end k splices → Follow len k splices
follow_wider end len k [] le f = omega (arith, le, f)
follow_wider end len k (s ∷ splices) le f = (f.0, follow_wider end len (s.p + s.m) splices le f.1)

-- what stands behind the second place stands at the end
spliced_behind : {C : Type 0} (pool t : List C) (end k : ℕ) (splices : List Splice) → Follow end k splices → (ys : List C) × (spliced_from pool t k splices ≡ ys ++ drop end t)
spliced_behind pool t end k [] f =
    let whole : k + (end - k) ≡ end = omega (arith, f) in
    (take (end - k) (drop k t), sym (take-append-drop (end - k) (drop k t)) ∙ ap (λ (r : List _). take (end - k) (drop k t) ++ r) (drop-drop (end - k) k t ∙ ap (λ (j : ℕ). drop j t) whole))
spliced_behind pool t end k (s ∷ splices) f =
    let rest = spliced_behind pool t end (s.p + s.m) splices f.1 in
    let before = take (s.p - k) (drop k t) in
    let put = take s.n (drop s.a pool) in
    (before ++ (put ++ rest.0), ap (λ (r : List _). before ++ (put ++ r)) rest.1 ∙ simp append_assoc)

-- ---- origins

settled_append : (k p : ℕ) (xs ys : List Traced) → settled k p (xs ++ ys) ≡ settled k p xs ++ settled k (p + length xs) ys
settled_append k p [] ys = let same : p ≡ p + 0 = omega arith in ap (λ (j : ℕ). settled k j ys) same
settled_append k p (Earlier o ∷ xs) ys =
    let same : (p + 1) + length xs ≡ p + suc (length xs) = omega arith in
    ap (λ (l : List Origin). o ∷ l) (settled_append k (p + 1) xs ys ∙ ap (λ (j : ℕ). settled k (p + 1) xs ++ settled k j ys) same)
settled_append k p (Outside b ∷ xs) ys =
    let same : (p + 1) + length xs ≡ p + suc (length xs) = omega arith in
    ap (λ (l : List Origin). record { revision = k; place = p; brought = b } ∷ l) (settled_append k (p + 1) xs ys ∙ ap (λ (j : ℕ). settled k (p + 1) xs ++ settled k j ys) same)

kept_of : (k front end : ℕ) (os : List Origin) (pool : List Traced) (splices : List Splice) (xs : List Traced) → Follow end front splices → end ≤ length os → replaced_each pool (map Earlier os) splices ≡ xs
    → KeepsOrigins front end os (settled k 0 xs)
kept_of k front end os pool splices xs follow inside e =
    let t = map Earlier os in
    let long : length t ≡ length os = length-map os Earlier in
    let first = take front os in
    let rest = spliced_behind pool t end front splices follow in
    let n : ℕ = 0 + length (map Earlier first) in
    let is : xs ≡ map Earlier first ++ (rest.0 ++ map Earlier (drop end os)) =
    sym e ∙ replaced_from pool t (length t) front splices refl (follow_wider end (length t) front splices (omega (arith, inside, long)) follow)
    ∙ ap (λ (r : List Traced). take front t ++ r) rest.1
    ∙ ap (λ (r : List Traced). r ++ (rest.0 ++ drop end t)) (take-map Earlier front os)
    ∙ ap (λ (r : List Traced). map Earlier first ++ (rest.0 ++ r)) (drop-map Earlier end os) in
    record {
      between = settled k n rest.0;
      whole = ap (settled k 0) is
          ∙ settled_append k 0 (map Earlier first) (rest.0 ++ map Earlier (drop end os))
          ∙ ap (λ (l : List Origin). l ++ settled k n (rest.0 ++ map Earlier (drop end os))) (settled-earlier k 0 first)
          ∙ ap (λ (l : List Origin). first ++ l) (settled_append k n rest.0 (map Earlier (drop end os)) ∙ ap (λ (l : List Origin). settled k n rest.0 ++ l) (settled-earlier k (n + length rest.0) (drop end os)));
    }

-- ---- a revision's origins

module _ (v : ImageValue) (true_records : HasTrueRecordsOf v) (rules : EachRevision v (KeepsRules v)) where
  abbrev texts_before : ℕ → List (List Traced)
  texts_before k = map (map Earlier) (take k (all_origins v))

  -- an earlier text, by its origins
  text_before : (k r : ℕ) (t : List Traced) → slice_get (texts_before k) r ≡ Some t → t ≡ map Earlier (origins_at v r)
  text_before k r t e =
      let found : option_map (map Earlier) (slice_get (take k (all_origins v)) r) ≡ Some t = sym (slice_get-map (map Earlier) (take k (all_origins v)) r) ∙ e in
      elim (cases_lt r (length (take k (all_origins v)))) [
        | inl there ↦
            sym (same_Some (map Earlier (get_or (take k (all_origins v)) r [])) t (sym (ap (option_map (map Earlier)) (slice_get-get_or (take k (all_origins v)) r [] there)) ∙ found))
            ∙ ap (map Earlier) (get_or-take k (all_origins v) r [] (omega (arith, there, length-take k (all_origins v))))
        | inr past ↦ absurd (none-some t (sym (ap (option_map (map Earlier)) (slice_get_past (take k (all_origins v)) r past)) ∙ found))
      ]

  origins_given : (k : ℕ) (xs : List Traced) → k < length v.revisions → traced_result v k ≡ Some xs → origins_at v k ≡ settled (length (take k (all_origins v))) 0 xs
  origins_given k xs lt e = origins_step v k lt ∙ ap (λ (o : Option (List Traced)). settled (length (take k (all_origins v))) 0 (unwrap_or o [])) e

  pub ends_kept : (k r front end : ℕ) (splices : List Splice) → k < length v.revisions → command_at v k ≡ Many r splices → Follow end front splices → end ≤ length (origins_at v r)
      → KeepsOrigins front end (origins_at v r) (origins_at v k)
  ends_kept k r front end splices lt is follow inside =
      let there = result_there v true_records rules k lt in
      let g = traced_givens (length v.pool) v.sources in
      let t = spliced_text g (texts_before k) r splices there.0 (ap (result_of g (texts_before k)) (sym is) ∙ there.1) in
      let same : t.0 ≡ map Earlier (origins_at v r) = text_before k r t.0 t.1 in
      let gives : replaced_each g.pool (map Earlier (origins_at v r)) splices ≡ there.0 = ap (λ (u : List Traced). replaced_each g.pool u splices) (sym same) ∙ t.2 in
      subst (KeepsOrigins front end (origins_at v r)) (sym (origins_given k there.0 lt there.1)) (kept_of (length (take k (all_origins v))) front end (origins_at v r) g.pool splices there.0 follow inside gives)

  pub back_kept : (k r : ℕ) → k < length v.revisions → command_at v k ≡ Back r → origins_at v k ≡ origins_at v r
  back_kept k r lt is =
      let there = result_there v true_records rules k lt in
      let g = traced_givens (length v.pool) v.sources in
      let same : there.0 ≡ map Earlier (origins_at v r) = text_before k r there.0 (ap (result_of g (texts_before k)) (sym is) ∙ there.1) in
      origins_given k there.0 lt there.1 ∙ ap (settled (length (take k (all_origins v))) 0) same ∙ settled-earlier (length (take k (all_origins v))) 0 (origins_at v r)
