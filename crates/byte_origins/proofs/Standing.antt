-- A stretch that stands for bytes of a text, while it goes back step by step.
use Rattle.std.proofs.Common.{◌≡◌, ℕ, ◌+◌, ◌-◌, ◌<◌, ◌≤◌, min, ltb, List, [], ◌∷◌, take, drop, Option, Some, None, refl, sym, ap, ◌∙◌, subst, arith, inl, inr}
use Rattle.std.specs.Option.{option_map}
use Rattle.std.proofs.lemmas.Bool.{cases_Bool, lt-ltb, le-ltb, ltb-false, cond-true, cond-false}
use Rattle.std.proofs.lemmas.List.{take-take, drop-take, drop-drop}
use Rattle.std.proofs.lemmas.Option.{same_Some, some_pair_parts}
use Rattle.command_parts.specs.declared.part.Part.{Part}
use Rattle.command_parts.specs.Parts.{part_at, part_len}
use Rattle.image_reader.specs.Value.{ImageValue}
use Rattle.image_reader.specs.Accepted.{splices_before, KeepsRules}
use Rattle.session_checker.specs.Faithful.{HasTrueRecordsOf, EachRevision}
use Rattle.byte_origins.specs.declared.run.Origin.{Origin}
use Rattle.byte_origins.specs.declared.run.OriginRun.{OriginRun}
use Rattle.byte_origins.specs.declared.stretch.Stretch.{Stretch}
use Rattle.byte_origins.specs.declared.taking.CameFrom.{CameFrom}
use Rattle.byte_origins.specs.declared.taking.CameFrom.TheVariants.{FromText, Run}
use Rattle.byte_origins.specs.EarlierTexts.{len_of_text, texts_parts}
use Rattle.byte_origins.specs.Origins.{origins_at}
use Rattle.byte_origins.specs.StepsBack.{CameTogether, in_run, in_text, IsBrought, IsFromText, IsOriginAt, came_len, step_back, taken_of}
use Rattle.byte_origins.specs.Stretches.{IsStretch, StandsFor, stretch_behind}
use Rattle.byte_origins.proofs.StepsTaken.{shorter, take-run}
use Rattle.byte_origins.proofs.Together.{together_fits, together_in_run, together_in_text}

-- ---- a place further on in the same part

part_shifts : (parts : List Part) (place off i : ℕ) (part : Part) → part_at parts place ≡ Some (part, off) → off + i < part_len part → part_at parts (place + i) ≡ Some (part, off + i)
part_shifts [] place off i part e lt = absurd cc
part_shifts (x ∷ xs) place off i part e lt =
    elim (cases_Bool (ltb place (part_len x))) [
      | inl before ↦
          let found : ◌≡◌ {A = Option (Part × ℕ)} (Some (x, place)) (Some (part, off)) = sym (cond-true (ltb place (part_len x)) (Some (x, place)) (part_at xs (place - part_len x)) before) ∙ e in
          let same = some_pair_parts x part place off found in
          let len : part_len x ≡ part_len part = ap part_len same.0 in
          let room : place + i < part_len x = omega (arith, lt, same.1, len) in
          cond-true (ltb (place + i) (part_len x)) (Some (x, place + i)) (part_at xs (place + i - part_len x)) (lt-ltb (place + i) (part_len x) room)
          ∙ ap (λ (y : Part). Some (y, place + i)) same.0
          ∙ ap (λ (j : ℕ). Some (part, j + i)) same.1
      | inr behind ↦
          let past : part_len x ≤ place = ltb-false place (part_len x) behind in
          let rest : part_at xs (place - part_len x) ≡ Some (part, off) = sym (cond-false (ltb place (part_len x)) (Some (x, place)) (part_at xs (place - part_len x)) behind) ∙ e in
          let further : place + i - part_len x ≡ place - part_len x + i = omega (arith, past) in
          let also : part_len x ≤ place + i = omega (arith, past) in
          cond-false (ltb (place + i) (part_len x)) (Some (x, place + i)) (part_at xs (place + i - part_len x)) (le-ltb (place + i) (part_len x) also)
          ∙ ap (part_at xs) further
          ∙ part_shifts xs (place - part_len x) off i part rest lt
    ]

came_parts : (a b c j p n : ℕ) → FromText a b c ≡ FromText j p n → (a ≡ j) × (b ≡ p) × (c ≡ n)
came_parts a b c j p n e = (cc, cc, cc)

came_same : (a b c j p n : ℕ) → a ≡ j → b ≡ p → c ≡ n → FromText a b c ≡ FromText j p n
came_same a b c j p n e f g = ap (λ (x : ℕ). FromText x b c) e ∙ ap (λ (x : ℕ). FromText j x c) f ∙ ap (λ (x : ℕ). FromText j p x) g

taken_len : (k place : ℕ) (part : Part) (off : ℕ) → came_len (taken_of k place part off) ≡ part_len part - off
taken_len k place (Part.Old None a m) off = refl
taken_len k place (Part.Old (Some x) a m) off = refl
taken_len k place (Part.Pool a m) off = refl
taken_len k place (Part.Source s m) off = refl
taken_len k place (Part.Fill c m) off = refl

taken_shifts : (k place i : ℕ) (part : Part) (off j p n : ℕ) → taken_of k place part off ≡ FromText j p n → taken_of k (place + i) part (off + i) ≡ FromText j (p + i) (n - i)
taken_shifts k place i (Part.Old None a m) off j p n e =
    let same = came_parts 0 (a + off) (m - off) j p n e in
    came_same 0 (a + (off + i)) (m - (off + i)) j (p + i) (n - i) same.0 (omega (arith, same.1)) (omega (arith, same.2))
taken_shifts k place i (Part.Old (Some x) a m) off j p n e =
    let same = came_parts x.0 (a + off) (m - off) j p n e in
    came_same x.0 (a + (off + i)) (m - (off + i)) j (p + i) (n - i) same.0 (omega (arith, same.1)) (omega (arith, same.2))
taken_shifts k place i (Part.Pool a m) off j p n e = absurd cc
taken_shifts k place i (Part.Source s m) off j p n e = absurd cc
taken_shifts k place i (Part.Fill c m) off j p n e = absurd cc

-- a step back from there leads as much further on
pub step_shifts : (v : ImageValue) (k place i j p n : ℕ) → step_back v k place ≡ Some (FromText j p n) → i < n → step_back v k (place + i) ≡ Some (FromText j (p + i) (n - i))
step_shifts v k place i j p n exact lt = by_part (part_at (texts_parts v k) place) refl exact
  where
    by_part : (o : Option (Part × ℕ)) → part_at (texts_parts v k) place ≡ o → option_map (λ (x : Part × ℕ). taken_of k place x.0 x.1) o ≡ Some (FromText j p n) → step_back v k (place + i) ≡ Some (FromText j (p + i) (n - i))
    by_part None at e = absurd cc
    by_part (Some (part, off)) at e =
        let is : taken_of k place part off ≡ FromText j p n = same_Some (taken_of k place part off) (FromText j p n) e in
        let long : part_len part - off ≡ n = sym (taken_len k place part off) ∙ ap came_len is in
        ap (option_map (λ (x : Part × ℕ). taken_of k (place + i) x.0 x.1)) (part_shifts (texts_parts v k) place off i part at (omega (arith, long, lt)))
        ∙ ap (λ (x : CameFrom). Some x) (taken_shifts k place i part off j p n is)

-- ---- stretches

pub stands_begins : (v : ImageValue) → HasTrueRecordsOf v → EachRevision v (KeepsRules v) → (x : Stretch) → IsStretch v x → x.place + x.len ≡ len_of_text v x.revision → StandsFor v x.revision x.place x
stands_begins v is rules x stretch whole = record {
  is = stretch;
  same = refl;
  forth = λ i n lt together. let fits = together_fits v is rules stretch.there together in (omega (arith, fits, whole), together);
  back = λ i n lt le together. together;
}

-- one step back
pub stands_more : (v : ImageValue) (k place : ℕ) (x next : Stretch) (n : ℕ) → StandsFor v k place x → IsFromText v x.revision x.place next.revision next.place n → step_back v x.revision x.place ≡ Some (FromText next.revision next.place n) → next.len ≡ min x.len n → next.first ≡ splices_before v next.revision
    → StandsFor v k place next
stands_more v k place x next n stands step exact least first =
    let some = stands.is.some in
    let there = stands.is.there in
    record {
      is = record { there = omega (arith, step.earlier, there); some = omega (arith, least, some, step.some); inside = omega (arith, least, step.inside); first = first };
      same = shorter next.len x.len (drop place (origins_at v k)) (drop x.place (origins_at v x.revision)) stands.same (omega (arith, least))
          ∙ shorter next.len n (drop x.place (origins_at v x.revision)) (drop next.place (origins_at v next.revision)) step.same (omega (arith, least));
      forth = λ i m lt together.
          let on = stands.forth i m (omega (arith, lt, least)) together in
          let further = together_in_text next.revision (next.place + i) (n - i) on.1 (step_shifts v x.revision x.place i next.revision next.place n exact (omega (arith, lt, least))) in
          (omega (arith, on.0, further.0, least, lt), further.1);
      back = λ i m lt le together.
          stands.back i m (omega (arith, lt, least)) (omega (arith, le, least))
          (in_text next.revision (next.place + i) (n - i) (step_shifts v x.revision x.place i next.revision next.place n exact (omega (arith, lt, least))) (omega (arith, le, least, lt)) together);
    }

-- what lies behind its first bytes
pub stands_behind : (v : ImageValue) (k place : ℕ) (x : Stretch) (n : ℕ) → n < x.len → StandsFor v k place x → StandsFor v k (place + n) (stretch_behind x n)
stands_behind v k place x n lt stands =
    let inside = stands.is.inside in
    let split : n + (x.len - n) ≡ x.len = omega (arith, lt) in
    let cut : (os : List Origin) (p : ℕ) → drop n (take x.len (drop p os)) ≡ take (x.len - n) (drop (p + n) os) = λ os p.
    ap (λ (m : ℕ). drop n (take m (drop p os))) (sym split) ∙ drop-take n (x.len - n) (drop p os) ∙ ap (take (x.len - n)) (drop-drop n p os) in
    record {
      is = record { there = stands.is.there; some = omega (arith, lt); inside = omega (arith, lt, inside); first = stands.is.first };
      same = sym (cut (origins_at v k) place) ∙ ap (drop n) stands.same ∙ cut (origins_at v x.revision) x.place;
      forth = λ i m less together.
          let at : place + n + i ≡ place + (n + i) = omega arith in
          let from : x.place + (n + i) ≡ x.place + n + i = omega arith in
          let on = stands.forth (n + i) m (omega (arith, less, lt)) (subst (λ (j : ℕ). CameTogether v m k j) at together) in
          (omega (arith, on.0, lt), subst (λ (j : ℕ). CameTogether v m x.revision j) from on.1);
      back = λ i m less le together.
          let at : place + (n + i) ≡ place + n + i = omega arith in
          let from : x.place + n + i ≡ x.place + (n + i) = omega arith in
          subst (λ (j : ℕ). CameTogether v m k j) at (stands.back (n + i) m (omega (arith, less, lt)) (omega (arith, le, lt, less)) (subst (λ (j : ℕ). CameTogether v m x.revision j) from together));
    }

-- the run that its first bytes are
pub stands_ends : (v : ImageValue) (k place : ℕ) (x : Stretch) (run : OriginRun) (len : ℕ) → StandsFor v k place x → IsBrought v x.revision x.place run → step_back v x.revision x.place ≡ Some (Run run) → len ≡ min x.len run.len → IsOriginAt v k place (record { first = run.first; len = len })
stands_ends v k place x run len stands end exact least =
    let few : len ≤ run.len = omega (arith, least) in
    let some = stands.is.some in
    let any = end.is_run.some in
    let at : place ≡ place + 0 = omega arith in
    let from : x.place ≡ x.place + 0 = omega arith in
    record {
      is_run = record {
        some = omega (arith, least, some, any);
        stands = shorter len x.len (drop place (origins_at v k)) (drop x.place (origins_at v x.revision)) stands.same (omega (arith, least))
            ∙ sym (take-take len run.len (drop x.place (origins_at v x.revision)) few)
            ∙ ap (take len) end.is_run.stands
            ∙ take-run len run.len run.first few;
      };
      together = subst (λ (j : ℕ). CameTogether v len k j) (sym at)
          (stands.back 0 len (omega (arith, some)) (omega (arith, least)) (subst (λ (j : ℕ). CameTogether v len x.revision j) from (in_run run exact few)));
      longest = λ n together.
          let on = stands.forth 0 n (omega (arith, some)) (subst (λ (j : ℕ). CameTogether v n k j) at together) in
          let ends = together_in_run run (subst (λ (j : ℕ). CameTogether v n x.revision j) (sym from) on.1) exact in
          omega (arith, on.0, ends, least);
    }
