-- Each origin is that of a byte which stood there: it came in there, by that revision's command.
use Rattle.std.proofs.Common.{◌≡◌, ◌⊎◌, ℕ, zero, suc, ◌+◌, ◌<◌, ◌≤◌, List, [], ◌∷◌, ◌++◌, map, length, take, get_or, Option, Some, None, refl, sym, ap, ◌∙◌, subst, arith, take-suc, inl, inr}
use Rattle.std.specs.Prelude.{slice_get}
use Rattle.std.specs.Option.{option_map, unwrap_or}
use Rattle.std.specs.List.{range_with_len}
use Rattle.std.proofs.lemmas.List.{length-take}
use Rattle.std.proofs.lemmas.Option.{same_Some, none-some}
use Rattle.command_parts.specs.Commands.{FullEdit, Givens, result_of}
use Rattle.command_parts.proofs.MappedResults.{mapped_givens, result_mapped}
use Rattle.image_reader.specs.Value.{ImageValue}
use Rattle.image_reader.specs.Accepted.{command_at}
use Rattle.session_checker.specs.Faithful.{EachRevision}
use Rattle.byte_origins.specs.declared.run.Brought.TheVariants.{Pool, Source}
use Rattle.byte_origins.specs.declared.run.Origin.{Origin}
use Rattle.byte_origins.specs.Origins.{Traced, Earlier, Outside, traced_givens, settled, origins_at, traced_at}
use Rattle.byte_origins.proofs.Lengths.{all_origins, traced_result, origins_step, length-all_origins}

-- ---- what holds of each thing that is handed in holds of each thing of a result

abbrev EachOf : {C : Type 0} → (C → Type 0) → List C → Type 0
EachOf {C} P xs = (i : ℕ) (x : C) → slice_get xs i ≡ Some x → P x

each_append : {C : Type 0} (P : C → Type 0) (xs : List C) (y : C) → EachOf P xs → P y → EachOf P (xs ++ y ∷ [])
each_append P [] y h p zero x e = subst P (same_Some y x e) p
each_append P [] y h p (suc i) x e = absurd (none-some x e)
each_append P (z ∷ xs) y h p zero x e = h zero x e
each_append P (z ∷ xs) y h p (suc i) x e = each_append P xs y (λ j w g. h (suc j) w g) p i x e

each_mapped : {X C : Type 0} (P : C → Type 0) (f : X → C) → ((a : X) → P (f a)) → (xs : List X) → EachOf P (map f xs)
each_mapped P f h [] i x e = absurd (none-some x e)
each_mapped P f h (a ∷ xs) zero x e = subst P (same_Some (f a) x e) (h a)
each_mapped P f h (a ∷ xs) (suc i) x e = each_mapped P f h xs i x e

each_under : {X C : Type 0} (Q : X → Type 0) (P : C → Type 0) (f : X → C) → ((a : X) → Q a → P (f a)) → (xs : List X) → EachOf Q xs → EachOf P (map f xs)
each_under Q P f h [] all i x e = absurd (none-some x e)
each_under Q P f h (a ∷ xs) all zero x e = subst P (same_Some (f a) x e) (h a (all zero a refl))
each_under Q P f h (a ∷ xs) all (suc i) x e = each_under Q P f h xs (λ j y g. all (suc j) y g) i x e

module _ {C : Type 0} (P : C → Type 0) where
  abbrev Proved : Type 0
  Proved = (x : C) × P x

  abbrev thing : Proved → C
  thing p = p.0

  proved : (xs : List C) → EachOf P xs → List Proved
  proved [] h = []
  proved (x ∷ xs) h = (x, h zero x refl) ∷ proved xs (λ i y e. h (suc i) y e)

  proved_are : (xs : List C) (h : EachOf P xs) → map thing (proved xs h) ≡ xs
  unfolding proved
  proved_are [] h = refl
  proved_are (x ∷ xs) h = ap (λ (l : List C). x ∷ l) (proved_are xs (λ i y e. h (suc i) y e))

  all_proved : (xss : List (List C)) → EachOf (EachOf P) xss → List (List Proved)
  all_proved [] h = []
  all_proved (xs ∷ xss) h = proved xs (h zero xs refl) ∷ all_proved xss (λ i y e. h (suc i) y e)

  all_proved_are : (xss : List (List C)) (h : EachOf (EachOf P) xss) → map (map thing) (all_proved xss h) ≡ xss
  unfolding all_proved
  all_proved_are [] h = refl
  all_proved_are (xs ∷ xss) h = rw (proved_are xs (h zero xs refl), all_proved_are xss (λ i y e. h (suc i) y e)) refl

  of_proved : (o : Option (List Proved)) (xs : List C) → option_map (map thing) o ≡ Some xs → EachOf P xs
  of_proved None xs e = absurd (none-some xs e)
  of_proved (Some ps) xs e = subst (EachOf P) (same_Some (map thing ps) xs e) (each_mapped P thing (λ p. p.1) ps)

  pub result_each : (g : Givens C) (texts : List (List C)) (e : FullEdit) → EachOf P g.pool → EachOf (EachOf P) g.sources → ((b : ℕ) → P (g.byte b)) → EachOf (EachOf P) texts → (xs : List C) → result_of g texts e ≡ Some xs → EachOf P xs
  result_each g texts e pool sources byte each xs is =
      let h : Givens Proved = record { pool = proved g.pool pool; sources = all_proved g.sources sources; byte = λ b. (g.byte b, byte b) } in
      let given : mapped_givens thing h ≡ g =
      ap (λ (x : List C). record { pool = x; sources = map (map thing) (all_proved g.sources sources); byte = g.byte }) (proved_are g.pool pool)
      ∙ ap (λ (x : List (List C)). record { pool = g.pool; sources = x; byte = g.byte }) (all_proved_are g.sources sources) in
      of_proved (result_of h (all_proved texts each) e) xs
      (sym (result_mapped thing h (all_proved texts each) e)
      ∙ ap (λ (x : Givens C). result_of x (map (map thing) (all_proved texts each)) e) given
      ∙ ap (λ (x : List (List C)). result_of g x e) (all_proved_are texts each)
      ∙ is)

-- ---- what stands at a place of a text

-- it is of an earlier text, or it came in there
abbrev IsSettled : ℕ → ℕ → List Traced → ℕ → Origin → Type 0
IsSettled k p xs i o = (slice_get xs i ≡ Some (Earlier o)) ⊎ ((slice_get xs i ≡ Some (Outside o.brought)) × (o.revision ≡ k) × (o.place ≡ p + i))

settled_at : (k p : ℕ) (xs : List Traced) (i : ℕ) (o : Origin) → slice_get (settled k p xs) i ≡ Some o → IsSettled k p xs i o
settled_at k p [] i o e = absurd (none-some o e)
settled_at k p (Earlier x ∷ xs) zero o e = inl (ap (λ (y : Origin). Some (Earlier y)) (same_Some x o e))
settled_at k p (Outside b ∷ xs) zero o e =
    let same = same_Some (record { revision = k; place = p; brought = b }) o e in
    inr (ap (λ (y : Origin). Some (Outside y.brought)) same, sym (ap (λ (y : Origin). y.revision) same), sym (ap (λ (y : Origin). y.place) same) ∙ omega arith)
settled_at k p (Earlier x ∷ xs) (suc i) o e = next k p xs i o (settled_at k (p + 1) xs i o e)
  where
    next : (k p : ℕ) (xs : List Traced) (i : ℕ) (o : Origin) → IsSettled k (p + 1) xs i o → IsSettled k p (Earlier x ∷ xs) (suc i) o
    next k p xs i o (inl h) = inl h
    next k p xs i o (inr h) = inr (h.0, h.1, omega (arith, h.2))
settled_at k p (Outside b ∷ xs) (suc i) o e = next k p xs i o (settled_at k (p + 1) xs i o e)
  where
    next : (k p : ℕ) (xs : List Traced) (i : ℕ) (o : Origin) → IsSettled k (p + 1) xs i o → IsSettled k p (Outside b ∷ xs) (suc i) o
    next k p xs i o (inl h) = inl h
    next k p xs i o (inr h) = inr (h.0, h.1, omega (arith, h.2))

module _ (v : ImageValue) where
  -- the byte stood there, in a text before k
  Stood : ℕ → Origin → Type 0
  Stood k o = (o.revision < k) × (slice_get (get_or (all_origins v) o.revision []) o.place ≡ Some o)

  StoodTraced : ℕ → Traced → Type 0
  StoodTraced k (Earlier o) = Stood k o
  StoodTraced k (Outside b) = Unit {0}

  traced_stood : (k : ℕ) → EachOf (EachOf (Stood k)) (take k (all_origins v)) → EachOf (StoodTraced k) (traced_at v k)
  unfolding StoodTraced
  traced_stood k before i x e = of_result (traced_result v k) refl i x e
    where
      of_result : (o : Option (List Traced)) → traced_result v k ≡ o → EachOf (StoodTraced k) (unwrap_or o [])
      of_result None is i x e = absurd (none-some x e)
      of_result (Some xs) is i x e =
          result_each (StoodTraced k) (traced_givens (length v.pool) v.sources) (map (map Earlier) (take k (all_origins v))) (command_at v k)
          (each_mapped (StoodTraced k) (λ a. Outside (Pool a)) (λ a. tt) (range_with_len 0 (length v.pool)))
          (each_mapped (EachOf (StoodTraced k)) (λ s. map (λ p. Outside (Source s p)) (range_with_len 0 (get_or v.sources s 0))) (λ s. each_mapped (StoodTraced k) (λ p. Outside (Source s p)) (λ p. tt) (range_with_len 0 (get_or v.sources s 0))) (range_with_len 0 (length v.sources)))
          (λ b. tt)
          (each_under (EachOf (Stood k)) (EachOf (StoodTraced k)) (map Earlier) (λ os h. each_under (Stood k) (StoodTraced k) Earlier (λ o s. s) os h) (take k (all_origins v)) before)
          xs is i x e

  origins_are : (k : ℕ) → k < length v.revisions → origins_at v k ≡ settled k 0 (traced_at v k)
  origins_are k lt =
      let few : length (take k (all_origins v)) ≡ k = omega (arith, length-take k (all_origins v), length-all_origins v, lt) in
      origins_step v k lt ∙ ap (λ (n : ℕ). settled n 0 (traced_at v k)) few

  next_stood : (k : ℕ) → k < length v.revisions → EachOf (EachOf (Stood k)) (take k (all_origins v)) → EachOf (Stood (k + 1)) (origins_at v k)
  unfolding Stood StoodTraced
  next_stood k lt before i o at = told (settled_at k 0 (traced_at v k) i o (ap (λ (os : List Origin). slice_get os i) (sym (origins_are k lt)) ∙ at))
    where
      told : IsSettled k 0 (traced_at v k) i o → Stood (k + 1) o
      told (inl h) = let s = traced_stood k before i (Earlier o) h in (let b : o.revision < k = s.0 in omega (arith, b), s.1)
      told (inr h) = (
        omega (arith, h.1),
        ap (λ (n : ℕ). slice_get (get_or (all_origins v) n []) o.place) h.1
            ∙ ap (λ (n : ℕ). slice_get (get_or (all_origins v) k []) n) (h.2 ∙ omega arith)
            ∙ at,
      )

  later : (k : ℕ) (xss : List (List Origin)) → EachOf (EachOf (Stood k)) xss → EachOf (EachOf (Stood (k + 1))) xss
  unfolding Stood
  later k xss h j os e i o at = let s = h j os e i o at in (let b : o.revision < k = s.0 in omega (arith, b), s.1)

  before_stood : (k : ℕ) → k ≤ length v.revisions → EachOf (EachOf (Stood k)) (take k (all_origins v))
  before_stood zero le = λ j os e. absurd (none-some os e)
  before_stood (suc k) le =
      let lt : k < length v.revisions = omega (arith, le) in
      let before = before_stood k (omega (arith, le)) in
      let one : k + 1 ≡ suc k = omega arith in
      subst (λ (n : ℕ). EachOf (EachOf (Stood n)) (take (suc k) (all_origins v))) one
      (subst (EachOf (EachOf (Stood (k + 1)))) (sym (take-suc (all_origins v) k [] (omega (arith, lt, length-all_origins v))))
      (each_append (EachOf (Stood (k + 1))) (take k (all_origins v)) (origins_at v k) (later k (take k (all_origins v)) before) (next_stood k lt before)))

  -- the byte stood there, and it is its own origin there
  pub stood : EachRevision v (λ k. (i : ℕ) (o : Origin) → slice_get (origins_at v k) i ≡ Some o → (o.revision ≤ k) × (slice_get (origins_at v o.revision) o.place ≡ Some o))
  unfolding Stood
  stood k lt i o at = let s = next_stood k lt (before_stood k (omega (arith, lt))) i o at in (let b : o.revision < k + 1 = s.0 in omega (arith, b), s.1)

  -- and it came in there
  pub came_in : EachRevision v (λ k. (i : ℕ) (o : Origin) → slice_get (origins_at v k) i ≡ Some o → slice_get (traced_at v o.revision) o.place ≡ Some (Outside o.brought))
  unfolding Stood StoodTraced
  came_in k lt i o at =
      let s = stood k lt i o at in
      let there : o.revision < length v.revisions = omega (arith, s.0, lt) in
      told there (settled_at o.revision 0 (traced_at v o.revision) o.place o (ap (λ (os : List Origin). slice_get os o.place) (sym (origins_are o.revision there)) ∙ s.1))
    where
      told : o.revision < length v.revisions → IsSettled o.revision 0 (traced_at v o.revision) o.place o → slice_get (traced_at v o.revision) o.place ≡ Some (Outside o.brought)
      told there (inl h) =
          let t = traced_stood o.revision (before_stood o.revision (omega (arith, there))) o.place (Earlier o) h in
          let b : o.revision < o.revision = t.0 in
          absurd (omega (arith, b))
      told there (inr h) = h.0
