-- What one step back from a place tells.
use Rattle.std.proofs.Common.{◌≡◌, ℕ, zero, suc, ◌+◌, ◌-◌, ◌<◌, ◌≤◌, List, [], ◌∷◌, map, length, take, drop, get_or, replicate, Some, None, refl, sym, ap, ◌∙◌, arith, inl, inr}
use Rattle.std.specs.List.{flat_map, range_with_len}
use Rattle.std.proofs.lemmas.Bool.{cases_lt}
use Rattle.std.proofs.lemmas.List.{length-map, take_all}
use Rattle.std.proofs.lemmas.List.FromFn.{length-range_with_len, get_or-map-range_with_len}
use Rattle.rope_node.specs.declared.node.NodeId.{NodeId}
use Rattle.rope_node.proofs.Parts.{span_within, span-map, span-range_with_len}
use Rattle.command_parts.specs.declared.part.Part.{Part}
use Rattle.command_parts.specs.Parts.{part_len, part_things, part_at}
use Rattle.span_certificate.proofs.Covering.{HoldsPlace, holds_place, no_part}
use Rattle.image_reader.specs.Value.{ImageValue}
use Rattle.image_reader.specs.Accepted.{KeepsRules}
use Rattle.session_checker.specs.Faithful.{HasTrueRecordsOf, EachRevision}
use Rattle.byte_origins.specs.declared.run.Brought.{Brought}
use Rattle.byte_origins.specs.declared.run.Brought.TheVariants.{Pool, Source, Fill}
use Rattle.byte_origins.specs.declared.run.Origin.{Origin}
use Rattle.byte_origins.specs.Origins.{Traced, Earlier, Outside, settled, origins_at, run_origins}
use Rattle.byte_origins.specs.EarlierTexts.{len_of_text, texts_table, texts_parts}
use Rattle.byte_origins.specs.StepsBack.{IsBrought, IsStepBack, taken_of}
use Rattle.byte_origins.proofs.Lengths.{all_origins}
use Rattle.byte_origins.proofs.EarlierTexts.{count_is, len_is, texts_sound, texts_true}
use Rattle.byte_origins.proofs.StepBack.{traced, traced_text, padded, padded_some, traced_lengths, long, as_long_as_leaves, same_things, texts_are_parts, origins_are, parts_long}

-- ---- settling

drop-settled : (k p n : ℕ) (xs : List Traced) → drop n (settled k p xs) ≡ settled k (p + n) (drop n xs)
drop-settled k p zero xs = ap (λ (q : ℕ). settled k q xs) (omega arith)
drop-settled k p (suc n) [] = refl
drop-settled k p (suc n) (Earlier o ∷ xs) = drop-settled k (p + 1) n xs ∙ ap (λ (q : ℕ). settled k q (drop n xs)) (omega arith)
drop-settled k p (suc n) (Outside b ∷ xs) = drop-settled k (p + 1) n xs ∙ ap (λ (q : ℕ). settled k q (drop n xs)) (omega arith)

take-settled : (k p n : ℕ) (xs : List Traced) → take n (settled k p xs) ≡ settled k p (take n xs)
take-settled k p zero xs = refl
take-settled k p (suc n) [] = refl
take-settled k p (suc n) (Earlier o ∷ xs) = ap (λ (os : List Origin). o ∷ os) (take-settled k (p + 1) n xs)
take-settled k p (suc n) (Outside b ∷ xs) = ap (λ (os : List Origin). record { revision = k; place = p; brought = b } ∷ os) (take-settled k (p + 1) n xs)

-- what is of earlier texts keeps its origins
pub settled-earlier : (k p : ℕ) (os : List Origin) → settled k p (map Earlier os) ≡ os
settled-earlier k p [] = refl
settled-earlier k p (o ∷ os) = ap (λ (l : List Origin). o ∷ l) (settled-earlier k (p + 1) os)

-- what comes from outside side by side is one run
settled_from : (k p b o m : ℕ) (h : ℕ → Brought) → settled k (p + o) (map (λ a. Outside (h a)) (range_with_len (b + o) m)) ≡ map (λ j. record { revision = k; place = p + j; brought = h (b + j) }) (range_with_len o m)
settled_from k p b o zero h = refl
settled_from k p b o (suc m) h =
    let first : Origin = record { revision = k; place = p + o; brought = h (b + o) } in
    let next : p + o + 1 ≡ p + (o + 1) = omega arith in
    let from : b + o + 1 ≡ b + (o + 1) = omega arith in
    ap (λ (q : ℕ). first ∷ settled k q (map (λ a. Outside (h a)) (range_with_len (b + o + 1) m))) next
    ∙ ap (λ (q : ℕ). first ∷ settled k (p + (o + 1)) (map (λ a. Outside (h a)) (range_with_len q m))) from
    ∙ ap (λ (l : List Origin). first ∷ l) (settled_from k p b (o + 1) m h)

settled_run : (k p b m : ℕ) (h : ℕ → Brought) → settled k p (map (λ a. Outside (h a)) (range_with_len b m)) ≡ map (λ j. record { revision = k; place = p + j; brought = h (b + j) }) (range_with_len 0 m)
settled_run k p b m h =
    let p0 : p ≡ p + 0 = omega arith in
    let b0 : b ≡ b + 0 = omega arith in
    ap (λ (q : ℕ). settled k q (map (λ a. Outside (h a)) (range_with_len b m))) p0
    ∙ ap (λ (q : ℕ). settled k (p + 0) (map (λ a. Outside (h a)) (range_with_len q m))) b0
    ∙ settled_from k p b 0 m h

-- a span of what lies side by side outside
settled_span : (k p i n off m len : ℕ) (h : ℕ → Brought) → off + m ≤ n → i + n ≤ len → settled k p (take m (drop off (take n (drop i (map (λ a. Outside (h a)) (range_with_len 0 len)))))) ≡ map (λ j. record { revision = k; place = p + j; brought = h (i + off + j) }) (range_with_len 0 m)
settled_span k p i n off m len h fits inside =
    let xs = map (λ a. Outside (h a)) (range_with_len 0 len) in
    let place : 0 + (off + i) ≡ i + off = omega arith in
    ap (settled k p) (span_within m off n i xs fits ∙ span-map (λ a. Outside (h a)) m (off + i) (range_with_len 0 len))
    ∙ ap (λ (l : List ℕ). settled k p (map (λ a. Outside (h a)) l)) (span-range_with_len m (off + i) 0 len (omega (arith, fits, inside)) ∙ ap (λ (q : ℕ). range_with_len q m) place)
    ∙ settled_run k p (i + off) m h

to_range : {X : Type 0} (o n : ℕ) (x : X) → replicate n x ≡ map (λ (j : ℕ). x) (range_with_len o n)
to_range o zero x = refl
to_range {X} o (suc n) x = ap (λ (l : List X). x ∷ l) (to_range (o + 1) n x)

-- ---- what stands at a place

module _ (v : ImageValue) (is : HasTrueRecordsOf v) (rules : EachRevision v (KeepsRules v)) (k : ℕ) (there : k < length v.revisions) where
  pub held_place : (place : ℕ) (part : Part) (off : ℕ) → part_at (texts_parts v k) place ≡ Some (part, off) → HoldsPlace (texts_table v k) (texts_parts v k) place part off
  held_place place part off at =
      let inside : k ≤ length v.revisions = omega (arith, there) in
      holds_place (texts_table v k) (texts_sound v k inside is) (texts_true v k inside is) (texts_parts v k) place part off (texts_are_parts v is rules k there) at

  stands : (x : Traced) (place : ℕ) (part : Part) (off : ℕ) → part_at (texts_parts v k) place ≡ Some (part, off) → (n : ℕ) → off + n ≤ part_len part
      → take n (drop place (origins_at v k)) ≡ settled k place (take n (drop off (part_things (traced v) (traced_text v x) part)))
  stands x place part off at n fits =
      let xs = flat_map (part_things (traced v) (traced_text v x)) (texts_parts v k) in
      let same = same_things (texts_table v k) (traced v) (traced_lengths v k) (traced_text v x) (as_long_as_leaves v is rules k there x) (texts_parts v k) place part off (texts_are_parts v is rules k there) at n fits in
      let p0 : 0 + place ≡ place = omega arith in
      ap (λ (os : List Origin). take n (drop place os)) (origins_are v is rules k there x)
      ∙ ap (take n) (drop-settled k 0 place xs)
      ∙ ap (λ (q : ℕ). take n (settled k q (drop place xs))) p0
      ∙ take-settled k place n (drop place xs)
      ∙ ap (settled k place) same

  -- no part is of an empty text: its leaf's byte could be any
  not_empty : (place : ℕ) (j : NodeId) (i n off : ℕ) → part_at (texts_parts v k) place ≡ Some (Part.Old (Some j) i n, off) → 0 < len_of_text v j.0
  not_empty place j i n off at =
      let holds = held_place place (Part.Old (Some j) i n) off at in
      let lt : j.0 < k = omega (arith, holds.is_part.1.0, count_is v k) in
      let len = len_is v k j.0 lt in
      elim (cases_lt 0 (len_of_text v j.0)) [
        | inl some ↦ some
        | inr none ↦
            let zero-len : len_of_text v j.0 ≡ 0 = omega (arith, none) in
            let one : n ≡ 1 = omega (arith, holds.is_part.0, holds.is_part.1.1, len, zero-len) in
            let first : i ≡ 0 = omega (arith, holds.is_part.0, holds.is_part.1.1, len, zero-len) in
            let start : off ≡ 0 = omega (arith, holds.before_end, one) in
            let empty : get_or (all_origins v) j.0 [] ≡ [] = nothing (get_or (all_origins v) j.0 []) (long v is rules k there j.0 lt ∙ zero-len) in
            let any : (o : Origin) → take 1 (drop place (origins_at v k)) ≡ o ∷ [] = λ o.
            stands (Earlier o) place (Part.Old (Some j) i n) off at 1 (omega (arith, one, start))
            ∙ ap (λ (q : ℕ). settled k place (take 1 (drop q (take n (drop i (padded (Earlier o) (get_or (all_origins v) j.0 []))))))) start
            ∙ ap (λ (q : ℕ). settled k place (take 1 (drop 0 (take q (drop i (padded (Earlier o) (get_or (all_origins v) j.0 []))))))) one
            ∙ ap (λ (q : ℕ). settled k place (take 1 (drop 0 (take 1 (drop q (padded (Earlier o) (get_or (all_origins v) j.0 []))))))) first
            ∙ ap (λ (os : List Origin). settled k place (take 1 (drop 0 (take 1 (drop 0 (padded (Earlier o) os)))))) empty in
            let a : Origin = record { revision = 0; place = 0; brought = Fill 0 } in
            let b : Origin = record { revision = 1; place = 0; brought = Fill 0 } in
            let bad : 0 ≡ 1 = ap (λ (os : List Origin). (get_or os 0 a).revision) (sym (any a) ∙ any b) in
            absurd (omega (arith, bad))
      ]
    where
      nothing : (os : List Origin) → length os ≡ 0 → os ≡ []
      nothing [] e = refl
      nothing (o ∷ os) e = absurd (omega (arith, e))

  -- a run that the command brought, where its part lies side by side outside
  brought : (place : ℕ) (part : Part) (off : ℕ) → part_at (texts_parts v k) place ≡ Some (part, off) → (i len : ℕ) (h : ℕ → Brought)
      → part_things (traced v) (traced_text v (Outside (Fill 0))) part ≡ take (part_len part) (drop i (map (λ a. Outside (h a)) (range_with_len 0 len))) → i + part_len part ≤ len
      → (b : Brought) → run_origins (record { first = record { revision = k; place = place; brought = b }; len = part_len part - off }) ≡ map (λ j. record { revision = k; place = place + j; brought = h (i + off + j) }) (range_with_len 0 (part_len part - off))
      → IsBrought v k place (record { first = record { revision = k; place = place; brought = b }; len = part_len part - off })
  brought place part off at i len h things inside b run =
      let holds = held_place place part off at in
      let m = part_len part - off in
      let fits : off + m ≤ part_len part = omega (arith, holds.before_end) in
      record {
        fits = omega (arith, holds.inside, holds.before_end, parts_long v is rules k there);
        is_run = record {
          some = omega (arith, holds.before_end);
          stands = stands (Outside (Fill 0)) place part off at m fits
              ∙ ap (λ (xs : List Traced). settled k place (take m (drop off xs))) things
              ∙ settled_span k place i (part_len part) off m len h fits inside
              ∙ sym run;
        };
      }

  pub taken_is : (place : ℕ) (part : Part) (off : ℕ) → part_at (texts_parts v k) place ≡ Some (part, off) → IsStepBack v k place (taken_of k place part off)
  taken_is place (Part.Old None i n) off at =
      let holds = held_place place (Part.Old None i n) off at in
      absurd (omega (arith, holds.is_part.0, holds.is_part.1.1))
  taken_is place (Part.Old (Some j) i n) off at =
      let holds = held_place place (Part.Old (Some j) i n) off at in
      let lt : j.0 < k = omega (arith, holds.is_part.1.0, count_is v k) in
      let some = not_empty place j i n off at in
      let len = len_is v k j.0 lt in
      let os = get_or (all_origins v) j.0 [] in
      let m = n - off in
      let fits : off + m ≤ n = omega (arith, holds.before_end) in
      let x = Outside (Fill 0) in
      let place_is : off + i ≡ i + off = omega arith in
      record {
        earlier = lt;
        some = omega (arith, holds.before_end);
        inside = omega (arith, holds.is_part.1.1, len, fits, some);
        fits = omega (arith, holds.inside, holds.before_end, parts_long v is rules k there);
        same = stands x place (Part.Old (Some j) i n) off at m fits
            ∙ ap (λ (xs : List Traced). settled k place (take m (drop off (take n (drop i xs))))) (padded_some x os (omega (arith, some, long v is rules k there j.0 lt)))
            ∙ ap (settled k place) (span_within m off n i (map Earlier os) fits ∙ span-map Earlier m (off + i) os)
            ∙ settled-earlier k place (take m (drop (off + i) os))
            ∙ ap (λ (q : ℕ). take m (drop q os)) place_is;
      }
  taken_is place (Part.Pool a n) off at =
      let holds = held_place place (Part.Pool a n) off at in
      brought place (Part.Pool a n) off at a (length v.pool) (λ b. Pool b) refl holds.is_part.1 (Pool (a + off)) refl
  taken_is place (Part.Source s n) off at =
      let holds = held_place place (Part.Source s n) off at in
      let all = get_or-map-range_with_len (λ r. map (λ p. Outside (Source r p)) (range_with_len 0 (get_or v.sources r 0))) 0 (length v.sources) s s [] holds.is_part.1.0 (omega arith) in
      let start : off ≡ 0 + off = omega arith in
      brought place (Part.Source s n) off at 0 (get_or v.sources s 0) (λ p. Source s p) (ap (take n) all) (omega (arith, holds.is_part.1.1)) (Source s off)
      (ap (λ (q : ℕ). run_origins (record { first = record { revision = k; place = place; brought = Source s q }; len = n - off })) start)
  taken_is place (Part.Fill c n) off at =
      brought place (Part.Fill c n) off at 0 n (λ j. Fill c) (sym (take_all n (map (λ (j : ℕ). Outside (Fill c)) (range_with_len 0 n)) (omega (arith, length-map (range_with_len 0 n) (λ (j : ℕ). Outside (Fill c)), length-range_with_len 0 n)) ∙ sym (to_range 0 n (Outside (Fill c))))) (omega arith) (Fill c) refl

  -- and a place of the text is held
  pub held_there : (place : ℕ) → place < len_of_text v k → part_at (texts_parts v k) place ≡ None → ⊥
  held_there place lt none = omega (arith, no_part (texts_parts v k) place none, parts_long v is rules k there, lt)
