-- A text's rope is put together from the parts of its command.
use Rattle.std.proofs.Common.{◌≡◌, ℕ, ◌+◌, ◌-◌, ◌<◌, ◌≤◌, ltb, List, [], ◌∷◌, ◌++◌, length, take, drop, get_or, Option, Some, None, refl, sym, ap, ◌∙◌, subst, arith, take-add, inl, inr}
use Rattle.std.proofs.lemmas.Bool.{cases_lt, lt-ltb, le-ltb, cond-true, cond-false}
use Rattle.std.proofs.lemmas.List.{length-append, take_all, get_or_append_left}
use Rattle.std.proofs.lemmas.List.Sums.{sum_by-cons}
use Rattle.std.proofs.Math.Seq.{get_or-append_seam}
use Rattle.rope_node.specs.declared.node.NodeId.{NodeId}
use Rattle.rope_node.specs.Table.{IsSound}
use Rattle.rope_node.proofs.Ropes.{rope_short}
use Rattle.command_parts.specs.declared.part.Part.{Part}
use Rattle.command_parts.specs.Parts.{part_len, parts_len, part_at, IsPart, AreParts, AreRopes}
use Rattle.image_reader.specs.Value.{ImageValue, image_table}
use Rattle.image_reader.specs.Accepted.{revision_at, KeepsRules}
use Rattle.session_checker.specs.Faithful.{HasTrueRecordsOf, EachRevision}
use Rattle.byte_origins.specs.EarlierTexts.{len_of_text, texts_table, texts_parts}
use Rattle.byte_origins.specs.Origins.{origins_at}
use Rattle.byte_origins.specs.OriginTexts.{OriginTexts, ropes_table, CanBePut, KeepsTexts, Names, NameTexts}
use Rattle.byte_origins.specs.StepsBack.{came_len, IsStepBack, taken_of}
use Rattle.byte_origins.proofs.Lengths.{as_long}
use Rattle.byte_origins.proofs.NamedOrigins.{keeps_itself, keeps_through, names_kept}
use Rattle.byte_origins.proofs.StepBack.{texts_are_parts, parts_long}
use Rattle.byte_origins.proofs.TakenParts.{taken_is}

-- ---- one piece

pub came_len_is : (k place : ℕ) (part : Part) → came_len (taken_of k place part 0) ≡ part_len part
came_len_is k place (Part.Old None i n) = omega arith
came_len_is k place (Part.Old (Some j) i n) = omega arith
came_len_is k place (Part.Pool a n) = omega arith
came_len_is k place (Part.Source s n) = omega arith
came_len_is k place (Part.Fill c n) = omega arith

-- the rope so far names the origins of text k up to a place, and these parts are those from there on
pub record IsWeaving (v : ImageValue) (k : ℕ) (old x : OriginTexts) (built : Option NodeId) (place : ℕ) (rest : List Part) : Type 0 where
  pub kept : KeepsTexts old x
  pub built_names : Names x built (take place (origins_at v k))
  pub ahead : (off : ℕ) → part_at rest off ≡ part_at (texts_parts v k) (place + off)
  pub sum : place + parts_len rest ≡ len_of_text v k
  pub parts : AreParts (texts_table v k) rest

module _ (v : ImageValue) (is : HasTrueRecordsOf v) (rules : EachRevision v (KeepsRules v)) (k : ℕ) (there : k < length v.revisions) where
  pub text_short : len_of_text v k < 1099511627776
  text_short = rope_short (image_table v) is.sound (revision_at v k).root (is.roots k there)

  pub can_be_put : (place : ℕ) (part : Part) → IsPart (texts_table v k) part → IsStepBack v k place (taken_of k place part 0) → CanBePut k (taken_of k place part 0)
  can_be_put place (Part.Old None i n) part step = let e : 0 < k = step.earlier in e
  can_be_put place (Part.Old (Some j) i n) part step = step.earlier
  can_be_put place (Part.Pool a n) part step = record { place = omega (arith, step.fits, text_short); brought = omega (arith, part.1, is.sound.pool) }
  can_be_put place (Part.Source s n) part step = record { place = omega (arith, step.fits, text_short); brought = omega (arith, part.1.1, is.sound.sources s) }
  can_be_put place (Part.Fill c n) part step = record { place = omega (arith, step.fits, text_short); brought = omega arith }

  -- ---- the loop

  pub weave_begins : (old : OriginTexts) (rest : List Part) → IsSound (ropes_table old) → rest ≡ texts_parts v k → IsWeaving v k old old None 0 rest
  weave_begins old rest sound same = record {
    kept = keeps_itself old sound;
    built_names = record { there = tt; same = refl };
    ahead = λ off. ap (λ (xs : List Part). part_at xs off) same ∙ ap (part_at (texts_parts v k)) (omega arith);
    sum = omega (arith, ap parts_len same, parts_long v is rules k there);
    parts = subst (AreParts (texts_table v k)) (sym same) (texts_are_parts v is rules k there);
  }

  module _ (old x : OriginTexts) (built : Option NodeId) (place : ℕ) (part : Part) (rest : List Part) (weaving : IsWeaving v k old x built place (part ∷ rest)) where
    here : part_at (texts_parts v k) place ≡ Some (part, 0)
    here =
        let some : 0 < part_len part = omega (arith, weaving.parts.0.0) in
        let at : place + 0 ≡ place = omega arith in
        ap (part_at (texts_parts v k)) (sym at) ∙ sym (weaving.ahead 0) ∙ cond-true (ltb 0 (part_len part)) (Some (part, 0)) (part_at rest (0 - part_len part)) (lt-ltb 0 (part_len part) some)

    pub weave_is : IsStepBack v k place (taken_of k place part 0)
    weave_is = taken_is v is rules k there place part 0 here

    pub weave_inside : place + part_len part ≤ len_of_text v k
    weave_inside = omega (arith, weaving.sum, sum_by-cons part_len part rest)

    pub weave_more : (y z : OriginTexts) (next whole : Option NodeId) → KeepsTexts x y → KeepsTexts y z → Names z whole (take place (origins_at v k) ++ take (came_len (taken_of k place part 0)) (drop place (origins_at v k)))
        → IsWeaving v k old z whole (place + part_len part) rest
    weave_more y z next whole kept more names = record {
      kept = keeps_through old y z (keeps_through old x y weaving.kept kept) more;
      built_names =
          subst (Names z whole)
          (ap (λ (n : ℕ). take place (origins_at v k) ++ take n (drop place (origins_at v k))) (came_len_is k place part)
          ∙ sym (take-add place (part_len part) (origins_at v k)))
          names;
      ahead = λ off.
          let past : part_len part ≤ part_len part + off = omega arith in
          let here : part_len part + off - part_len part ≡ off = omega arith in
          let behind : place + (part_len part + off) ≡ place + part_len part + off = omega arith in
          ap (part_at rest) (sym here)
          ∙ sym (cond-false (ltb (part_len part + off) (part_len part)) (Some (part, part_len part + off)) (part_at rest (part_len part + off - part_len part)) (le-ltb (part_len part + off) (part_len part) past))
          ∙ weaving.ahead (part_len part + off)
          ∙ ap (part_at (texts_parts v k)) behind;
      sum = omega (arith, weaving.sum, sum_by-cons part_len part rest);
      parts = weaving.parts.1;
    }

  pub weave_ends : (old x : OriginTexts) (built : Option NodeId) (place : ℕ) → IsWeaving v k old x built place [] → Names x built (origins_at v k)
  weave_ends old x built place weaving =
      let long = as_long v is rules k there in
      let end : length (origins_at v k) ≤ place = omega (arith, weaving.sum, long) in
      subst (Names x built) (take_all place (origins_at v k) end) weaving.built_names

-- ---- one text more

pub are_ropes : (v : ImageValue) (x : OriginTexts) (roots : List (Option NodeId)) → NameTexts v x roots → AreRopes (ropes_table x) roots
are_ropes v x roots names r lt = (names.each r lt).there

pub texts_kept : (v : ImageValue) (x y : OriginTexts) (roots : List (Option NodeId)) → KeepsTexts x y → NameTexts v x roots → NameTexts v y roots
texts_kept v x y roots kept names = record {
  few = names.few;
  each = λ j lt. names_kept x y kept (get_or roots j None) (origins_at v j) (names.each j lt);
}

pub texts_more : (v : ImageValue) (x y : OriginTexts) (roots : List (Option NodeId)) (rope : Option NodeId) → KeepsTexts x y → NameTexts v x roots → length roots < length v.revisions → Names y rope (origins_at v (length roots)) → NameTexts v y (roots ++ rope ∷ [])
texts_more v x y roots rope kept names room more = record {
  few = omega (arith, length-append roots (rope ∷ []), room);
  each = λ j lt.
      elim (cases_lt j (length roots)) [
        | inl before ↦
            subst (λ (r : Option NodeId). Names y r (origins_at v j)) (sym (get_or_append_left roots (rope ∷ []) None j before))
            (names_kept x y kept (get_or roots j None) (origins_at v j) (names.each j before))
        | inr last ↦
            let at : length roots ≡ j = omega (arith, last, lt, length-append roots (rope ∷ [])) in
            subst (λ (i : ℕ). Names y (get_or (roots ++ rope ∷ []) i None) (origins_at v i)) at
            (subst (λ (r : Option NodeId). Names y r (origins_at v (length roots))) (sym (get_or-append_seam roots rope [] None)) more)
      ];
}
