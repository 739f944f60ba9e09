-- The origins of a text are those of its command's parts over the texts before it, each of which is one leaf.
use Rattle.std.proofs.Common.{◌≡◌, ℕ, ◌+◌, ◌-◌, ◌<◌, ◌≤◌, max, ltb, List, [], ◌∷◌, map, length, take, drop, get_or, Option, Some, None, refl, sym, ap, ◌∙◌, arith, inl, inr}
use Rattle.std.specs.Prelude.{IsSome}
use Rattle.std.specs.Option.{option_map, unwrap_or}
use Rattle.std.specs.List.{flat_map, range_with_len}
use Rattle.std.proofs.lemmas.Bool.{cases_Bool, ltb-true, ltb-false, cond-true, cond-false}
use Rattle.std.proofs.lemmas.List.{length-append, length-map, length-take, length-drop, length-replicate, get_or-map, get_or-take, ext_get_or}
use Rattle.std.proofs.lemmas.List.FromFn.{length-range_with_len, get_or-map-range_with_len}
use Rattle.std.proofs.lemmas.List.Sums.{sum_by-cons}
use Rattle.std.proofs.lemmas.Option.{some_pair_parts}
use Rattle.rope_node.specs.declared.node.NodeId.{NodeId}
use Rattle.rope_node.specs.Table.{Table}
use Rattle.rope_node.specs.Denotes.{rope_cells, rope_len, IsRope}
use Rattle.rope_node.proofs.Parts.{span_left, span_right}
use Rattle.command_parts.specs.declared.part.Part.{Part}
use Rattle.command_parts.specs.Commands.{Givens, result_of}
use Rattle.command_parts.specs.Parts.{part_len, parts_len, part_things, HasLengths, root_at, IsPart, AreParts, IsInRange, givens_of, part_at}
use Rattle.command_parts.proofs.InRange.{in_range}
use Rattle.command_parts.proofs.PartsInRange.{parts_in_range}
use Rattle.command_parts.proofs.JoinedThings.{things_joined}
use Rattle.command_parts.proofs.AlikeLengths.{lengths_alike}
use Rattle.image_reader.specs.declared.revision.Revision.{Revision}
use Rattle.image_reader.specs.Value.{ImageValue, image_table}
use Rattle.image_reader.specs.Accepted.{command_at, roots_before, KeepsRules}
use Rattle.session_checker.specs.Faithful.{HasTrueRecordsOf, EachRevision}
use Rattle.session_checker.proofs.EarlierRevisions.{earlier_ropes, root_before}
use Rattle.byte_origins.specs.declared.run.Brought.TheVariants.{Pool, Source, Fill}
use Rattle.byte_origins.specs.declared.run.Origin.{Origin}
use Rattle.byte_origins.specs.Origins.{Traced, Earlier, Outside, traced_givens, settled, origins_at}
use Rattle.byte_origins.specs.EarlierTexts.{len_of_text, texts_table, root_of_text, texts_roots, texts_parts}
use Rattle.byte_origins.proofs.Steps.{length-settled}
use Rattle.byte_origins.proofs.Lengths.{all_origins, traced_result, origins_step, length-all_origins, root_lens, as_long}
use Rattle.byte_origins.proofs.EarlierTexts.{count_is, roots_count, root_is, root_some, root_none, root_long, len_is, texts_ropes, texts_sound, texts_true}

-- ---- the place that a part holds

module _ {C : Type 0} (t : Table) (g : Givens C) (lengths : HasLengths t g) (of : Option NodeId → List C) (long : (rope : Option NodeId) → IsRope t rope → length (of rope) ≡ rope_len t rope) where
  pub length-part_things : (part : Part) → IsPart t part → length (part_things g of part) ≡ part_len part
  length-part_things (Part.Old rope i n) is = omega (arith, length-take n (drop i (of rope)), length-drop i (of rope), long rope is.1.0, is.1.1)
  length-part_things (Part.Pool a n) is = omega (arith, length-take n (drop a g.pool), length-drop a g.pool, lengths.pool, is.1)
  length-part_things (Part.Source s n) is = omega (arith, length-take n (get_or g.sources s []), lengths.sources s is.1.0, is.1.1)
  length-part_things (Part.Fill c n) is = length-replicate n (g.byte c)

  pub length-parts_things : (parts : List Part) → AreParts t parts → length (flat_map (part_things g of) parts) ≡ parts_len parts
  length-parts_things [] is = refl
  length-parts_things (x ∷ xs) is =
      length-append (part_things g of x) (flat_map (part_things g of) xs)
      ∙ rw (sum_by-cons part_len x xs, length-part_things x is.0, length-parts_things xs is.1) refl

  -- what stands there is what the part stands for
  pub same_things : (parts : List Part) (place : ℕ) (part : Part) (off : ℕ) → AreParts t parts → part_at parts place ≡ Some (part, off)
      → (n : ℕ) → off + n ≤ part_len part → take n (drop place (flat_map (part_things g of) parts)) ≡ take n (drop off (part_things g of part))
  same_things [] place part off is e n fits = absurd cc
  same_things (x ∷ xs) place part off is e n fits =
      elim (cases_Bool (ltb place (part_len x))) [
        | inl before ↦
            let found : ◌≡◌ {A = Option (Part × ℕ)} (Some (x, place)) (Some (part, off)) = sym (cond-true (ltb place (part_len x)) (Some (x, place)) (part_at xs (place - part_len x)) before) ∙ e in
            let same = some_pair_parts x part place off found in
            let room : place + n ≤ part_len x = rw (same.0, same.1) fits in
            span_left n place (part_things g of x) (flat_map (part_things g of) xs) (omega (arith, length-part_things x is.0, room))
            ∙ ap (λ (j : ℕ). take n (drop j (part_things g of x))) same.1
            ∙ ap (λ (y : Part). take n (drop off (part_things g of y))) same.0
        | inr behind ↦
            let past : part_len x ≤ place = ltb-false _ _ behind in
            let rest : part_at xs (place - part_len x) ≡ Some (part, off) = sym (cond-false (ltb place (part_len x)) (Some (x, place)) (part_at xs (place - part_len x)) behind) ∙ e in
            let len = length-part_things x is.0 in
            span_right n place (part_things g of x) (flat_map (part_things g of) xs) (omega (arith, len, past))
            ∙ ap (λ (j : ℕ). take n (drop j (flat_map (part_things g of) xs))) (omega (arith, len))
            ∙ same_things xs (place - part_len x) part off is.1 rest n fits
      ]

-- ---- what stands for the texts before a revision

-- the origins of a text, or this one thing where there are none: so a leaf of one byte has one
abbrev pub padded : Traced → List Origin → List Traced
padded x [] = x ∷ []
padded x (o ∷ os) = map Earlier (o ∷ os)

length-padded : (x : Traced) (os : List Origin) → length (padded x os) ≡ max 1 (length os)
length-padded x [] = refl
length-padded x (o ∷ os) = omega (arith, length-map os Earlier)

pub padded_some : (x : Traced) (os : List Origin) → 0 < length os → padded x os ≡ map Earlier os
padded_some x [] some = absurd (omega (arith, some))
padded_some x (o ∷ os) some = refl

none_of : {X : Type 0} (os : List X) → length os ≡ 0 → [] ≡ os
none_of [] e = refl
none_of (o ∷ os) e = absurd (omega (arith, e))

abbrev pub traced_text : ImageValue → Traced → Option NodeId → List Traced
traced_text v x None = []
traced_text v x (Some j) = padded x (get_or (all_origins v) j.0 [])

abbrev pub traced : ImageValue → Givens Traced
traced v = traced_givens (length v.pool) v.sources

is_some_by : {A B : Type 0} (o : Option (List A)) (p : Option (List B)) → option_map (λ (l : List A). length l) o ≡ option_map (λ (l : List B). length l) p → IsSome o → IsSome p
is_some_by None p e some = absurd cc
is_some_by (Some x) None e some = absurd cc
is_some_by (Some x) (Some y) e some = refl

pub traced_lengths : (v : ImageValue) (k : ℕ) → HasLengths (texts_table v k) (traced v)
traced_lengths v k = record {
  pool = length-map (range_with_len 0 (length v.pool)) (λ a. Outside (Pool a)) ∙ length-range_with_len 0 (length v.pool);
  source_count = length-map (range_with_len 0 (length v.sources)) (λ s. map (λ p. Outside (Source s p)) (range_with_len 0 (get_or v.sources s 0))) ∙ length-range_with_len 0 (length v.sources);
  sources = λ s lt.
      ap (λ (l : List Traced). length l) (get_or-map-range_with_len (λ s. map (λ p. Outside (Source s p)) (range_with_len 0 (get_or v.sources s 0))) 0 (length v.sources) s s [] lt (omega arith))
      ∙ length-map (range_with_len 0 (get_or v.sources s 0)) (λ p. Outside (Source s p)) ∙ length-range_with_len 0 (get_or v.sources s 0);
}

module _ (v : ImageValue) (is : HasTrueRecordsOf v) (rules : EachRevision v (KeepsRules v)) (k : ℕ) (there : k < length v.revisions) where
  inside : k ≤ length v.revisions
  inside = omega (arith, there)

  pub long : (j : ℕ) → j < k → length (get_or (all_origins v) j []) ≡ len_of_text v j
  long j lt = as_long v is rules j (omega (arith, lt, there))

  -- each leaf has as many things as it is long
  pub as_long_as_leaves : (x : Traced) (rope : Option NodeId) → IsRope (texts_table v k) rope → length (traced_text v x rope) ≡ rope_len (texts_table v k) rope
  as_long_as_leaves x None rope = refl
  as_long_as_leaves x (Some j) rope =
      let lt : j.0 < k = omega (arith, rope, count_is v k) in
      omega (arith, length-padded x (get_or (all_origins v) j.0 []), long j.0 lt, len_is v k j.0 lt)

  text_is : (x : Traced) (j : ℕ) → j < k → traced_text v x (root_of_text v j) ≡ map Earlier (get_or (all_origins v) j [])
  text_is x j lt =
      let os = get_or (all_origins v) j [] in
      elim (cases_Bool (ltb 0 (len_of_text v j))) [
        | inl some ↦
            let some : 0 < len_of_text v j = ltb-true 0 (len_of_text v j) some in
            ap (traced_text v x) (sym (root_some v j some)) ∙ padded_some x os (omega (arith, long j lt, some))
        | inr none ↦
            let none : len_of_text v j ≡ 0 = omega (arith, ltb-false 0 (len_of_text v j) none) in
            ap (traced_text v x) (sym (root_none v j none)) ∙ ap (map Earlier) (none_of os (omega (arith, long j lt, none)))
      ]

  -- the roots stand for the origins of the texts before k
  pub texts_are : (x : Traced) → map (traced_text v x) (texts_roots v k) ≡ map (map Earlier) (take k (all_origins v))
  texts_are x =
      let all = all_origins v in
      let few : length (take k all) ≡ k = omega (arith, length-take k all, length-all_origins v, there) in
      let left : length (map (traced_text v x) (texts_roots v k)) ≡ k = length-map (texts_roots v k) (traced_text v x) ∙ sym (roots_count v k) in
      let right : length (map (map Earlier) (take k all)) ≡ k = length-map (take k all) (map Earlier) ∙ few in
      ext_get_or [] (map (traced_text v x) (texts_roots v k)) (map (map Earlier) (take k all)) (left ∙ sym right)
      (λ i lt.
      let lt : i < k = omega (arith, lt, left) in
      get_or-map (traced_text v x) (texts_roots v k) i None [] (omega (arith, lt, roots_count v k))
      ∙ ap (traced_text v x) (sym (root_is v k i lt))
      ∙ text_is x i lt
      ∙ ap (map Earlier) (sym (get_or-take k all i [] lt))
      ∙ sym (get_or-map (map Earlier) (take k all) i [] [] (omega (arith, lt, few))))

  -- roots and leaves are of the same lengths
  lens_alike : map (rope_len (image_table v)) (roots_before v k) ≡ map (rope_len (texts_table v k)) (texts_roots v k)
  lens_alike =
      let count : length (roots_before v k) ≡ k = omega (arith, length-map (take k v.revisions) (λ (r : Revision). r.root), length-take k v.revisions, there) in
      let left : length (map (rope_len (image_table v)) (roots_before v k)) ≡ k = length-map (roots_before v k) (rope_len (image_table v)) ∙ count in
      let right : length (map (rope_len (texts_table v k)) (texts_roots v k)) ≡ k = length-map (texts_roots v k) (rope_len (texts_table v k)) ∙ sym (roots_count v k) in
      ext_get_or 0 (map (rope_len (image_table v)) (roots_before v k)) (map (rope_len (texts_table v k)) (texts_roots v k)) (left ∙ sym right)
      (λ i lt.
      let lt : i < k = omega (arith, lt, left) in
      get_or-map (rope_len (image_table v)) (roots_before v k) i None 0 (omega (arith, lt, count))
      ∙ ap (rope_len (image_table v)) (root_before v k i lt)
      ∙ sym (root_long v k i lt)
      ∙ sym (get_or-map (rope_len (texts_table v k)) (texts_roots v k) i None 0 (omega (arith, lt, roots_count v k))))

  -- the command is in range over the leaves
  pub texts_in_range : IsInRange (texts_table v k) (texts_roots v k) (command_at v k)
  texts_in_range =
      let t = image_table v in
      let u = texts_table v k in
      let s = texts_sound v k inside is in
      let h = texts_true v k inside is in
      let ropes = texts_ropes v k in
      let before = earlier_ropes v k (λ c lt. is.roots c (omega (arith, lt, there))) in
      let some = (in_range t is.sound is.true_records (roots_before v k) (command_at v k) before).0 (rules k there).command in
      let alike = lengths_alike (givens_of t) (givens_of u) (map (rope_cells t) (roots_before v k)) (map (rope_cells u) (texts_roots v k)) (command_at v k) record {
        pool = refl;
        sources = refl;
        texts = root_lens t is.sound is.true_records (roots_before v k) before ∙ lens_alike ∙ sym (root_lens u s h (texts_roots v k) ropes);
      } in
      (in_range u s h (texts_roots v k) (command_at v k) ropes).1 (is_some_by (result_of (givens_of t) (map (rope_cells t) (roots_before v k)) (command_at v k)) (result_of (givens_of u) (map (rope_cells u) (texts_roots v k)) (command_at v k)) alike some)

  pub texts_are_parts : AreParts (texts_table v k) (texts_parts v k)
  texts_are_parts = parts_in_range (texts_table v k) (texts_roots v k) (command_at v k) (texts_ropes v k) texts_in_range

  -- what the command gives over origins is its parts joined
  pub result_is : (x : Traced) → traced_result v k ≡ Some (flat_map (part_things (traced v) (traced_text v x)) (texts_parts v k))
  result_is x =
      ap (λ (xss : List (List Traced)). result_of (traced v) xss (command_at v k)) (sym (texts_are x))
      ∙ things_joined (traced v) (traced_text v x) (texts_table v k) (texts_sound v k inside is) (traced_lengths v k) (texts_roots v k) (command_at v k) record {
        ropes = texts_ropes v k;
        long = λ r lt. as_long_as_leaves x (root_at (texts_roots v k) r) (texts_ropes v k r lt);
      } texts_in_range

  -- so the origins are those, settled
  pub origins_are : (x : Traced) → origins_at v k ≡ settled k 0 (flat_map (part_things (traced v) (traced_text v x)) (texts_parts v k))
  origins_are x =
      let few : length (take k (all_origins v)) ≡ k = omega (arith, length-take k (all_origins v), length-all_origins v, there) in
      origins_step v k there
      ∙ ap (λ (n : ℕ). settled n 0 (unwrap_or (traced_result v k) [])) few
      ∙ ap (λ (o : Option (List Traced)). settled k 0 (unwrap_or o [])) (result_is x)

  -- the parts are as long as the text
  pub parts_long : parts_len (texts_parts v k) ≡ len_of_text v k
  parts_long =
      let x = Outside (Fill 0) in
      sym (length-parts_things (texts_table v k) (traced v) (traced_lengths v k) (traced_text v x) (as_long_as_leaves x) (texts_parts v k) texts_are_parts)
      ∙ sym (length-settled k 0 (flat_map (part_things (traced v) (traced_text v x)) (texts_parts v k)))
      ∙ ap (λ (l : List Origin). length l) (sym (origins_are x))
      ∙ as_long v is rules k there
