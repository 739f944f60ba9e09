-- All the places of a pattern: those that lead on from one place to a later one, and those in a part of a text.
use Rattle.std.proofs.Common.{◌≡◌, ℕ, zero, suc, ◌+◌, ◌-◌, ◌<◌, ◌≤◌, List, [], ◌∷◌, ◌++◌, length, take, drop, get_or, Some, None, inl, inr, sym, ap, subst, ◌∙◌, append_assoc, arith}
use Rattle.std.proofs.lemmas.Bool.{cases_Bool, cases_lt, false≢true}
use Rattle.std.proofs.lemmas.List.{append-nil, get_or-drop, get_or-take, length-drop, length-take, take_all}
use Rattle.memchr.specs.Find.{FindsNeedle, OccursAt, occurs_at}
use Rattle.memchr.proofs.lemmas.MatchLemmas.{OccursAt-from_part, OccursAt-part, OccursAt-true, occurs_at-true}
use Rattle.cord_search.specs.Places.{IsFirst, IsFirstPlace, StandsAt}
use Rattle.cord_tools.specs.AllPlaces.{AreAllPlaces, AreFirstPlaces, LeadTo, behind}

-- ---- where a pattern stands

stands_of : (s t : List ℕ) (k : ℕ) → OccursAt t s k → StandsAt s t k
stands_of s t k occurs = record { inside = occurs.fits; same = OccursAt-part t s k occurs }

occurs_of : (s t : List ℕ) (k : ℕ) → StandsAt s t k → OccursAt t s k
occurs_of s t k stands = OccursAt-from_part t s k stands.inside stands.same

-- the bytes of a part of a text
byte_of_part : (part t : List ℕ) (first p q : ℕ) → StandsAt part t first → p < length part → q ≡ first + p → get_or part p 0 ≡ get_or t q 0
byte_of_part part t first p q there lt is =
    ap (λ (xs : List ℕ). get_or xs p 0) (sym there.same) ∙ get_or-take (length part) (drop first t) p 0 lt ∙ get_or-drop first t p 0 ∙ ap (λ (n : ℕ). get_or t n 0) (sym is)

-- a pattern that occurs in a part of a text occurs in the text
pub occurs_there : (s part t : List ℕ) (first k : ℕ) → StandsAt part t first → OccursAt part s k → OccursAt t s (first + k)
occurs_there s part t first k there occurs = record {
  fits = omega (arith, occurs.fits, there.inside);
  reads = λ j lt. sym (byte_of_part part t first (k + j) ((first + k) + j) there (omega (arith, lt, occurs.fits)) (omega arith)) ∙ occurs.reads j lt;
}

-- and in the part, where it ends inside it
pub occurs_here : (s part t : List ℕ) (first k q : ℕ) → StandsAt part t first → q ≡ first + k → OccursAt t s q → k + length s ≤ length part → OccursAt part s k
occurs_here s part t first k q there is occurs fits = record {
  fits = fits;
  reads = λ j lt. byte_of_part part t first (k + j) (q + j) there (omega (arith, lt, fits)) (omega (arith, is)) ∙ occurs.reads j lt;
}

-- ---- the next place in bytes

rest_stands : (t : List ℕ) (at : ℕ) → at ≤ length t → StandsAt (take (length t - at) (drop at t)) t at
rest_stands t at inside =
    let all : take (length t - at) (drop at t) ≡ drop at t = take_all (length t - at) (drop at t) (omega (arith, length-drop at t)) in
    subst (λ (xs : List ℕ). StandsAt xs t at) (sym all) (record {
      inside = omega (arith, length-drop at t, inside);
      same = take_all (length (drop at t)) (drop at t) (omega arith);
    })

pub next_found : (t s : List ℕ) (at k : ℕ) → at ≤ length t → FindsNeedle (take (length t - at) (drop at t)) s 0 (Some k) → FindsNeedle t s at (Some (at + k))
next_found t s at k inside found =
    let rest = take (length t - at) (drop at t) in
    let there = rest_stands t at inside in
    let occurs = occurs_there s rest t at k there found.1 in (
      record {
        low = omega arith;
        high = omega (arith, occurs.fits);
        before = λ j above below other.
            found.0.before (j - at) (omega arith) (omega (arith, above, below)) (occurs_here s rest t at (j - at) j there (omega (arith, above)) other (omega (arith, above, below, found.1.fits)));
      },
      occurs,
    )

pub next_none : (t s : List ℕ) (at : ℕ) → at ≤ length t → FindsNeedle (take (length t - at) (drop at t)) s 0 None → FindsNeedle t s at None
next_none t s at inside none j above below other =
    let rest = take (length t - at) (drop at t) in
    let long : length rest ≡ length t - at = omega (arith, length-take (length t - at) (drop at t), length-drop at t) in
    none (j - at) (omega arith) (omega (arith, above, other.fits, long)) (occurs_here s rest t at (j - at) j (rest_stands t at inside) (omega (arith, above)) other (omega (arith, above, other.fits, long)))

-- ---- the next place in a part of a text

pub first_in : (s part t : List ℕ) (first at k : ℕ) → StandsAt part t first → FindsNeedle part s at (Some k) → IsFirstPlace s t (first + at) (first + k)
first_in s part t first at k there found = record {
  from = omega (arith, found.0.low);
  stands = stands_of s t (first + k) (occurs_there s part t first k there found.1);
  none_before = λ j above below other.
      found.0.before (j - first) (omega (arith, above)) (omega (arith, above, below))
      (occurs_here s part t first (j - first) j there (omega (arith, above)) (occurs_of s t j other) (omega (arith, above, below, found.1.fits)));
}

pub none_in : (s part t : List ℕ) (first at : ℕ) → StandsAt part t first → FindsNeedle part s at None → (j : ℕ) → first + at ≤ j → j + length s ≤ first + length part → ¬ StandsAt s t j
none_in s part t first at there none j above fits other =
    none (j - first) (omega (arith, above)) (omega (arith, above, fits)) (occurs_here s part t first (j - first) j there (omega (arith, above)) (occurs_of s t j other) (omega (arith, above, fits)))

-- ---- places that lead on

-- all the places from a later place on are all those from an earlier one on, where there is none between
all_earlier : (s t : List ℕ) (from next : ℕ) (places : List ℕ) → from ≤ next → ((j : ℕ) → from ≤ j → j < next → ¬ StandsAt s t j) → AreAllPlaces s t next places → AreAllPlaces s t from places
all_earlier s t from next [] le none all = λ j above stands.
    elim (cases_lt j next) [
      | inl below ↦ none j above below stands
      | inr past ↦ all j past stands
    ]
all_earlier s t from next (k ∷ ks) le none all = (
  record {
    from = omega (arith, le, all.0.from);
    stands = all.0.stands;
    none_before = λ j above below stands.
        elim (cases_lt j next) [
          | inl short ↦ none j above short stands
          | inr past ↦ all.0.none_before j past below stands
        ];
  },
  all.1,
)

pub lead_nowhere : (s t : List ℕ) (start next : ℕ) → start ≡ next → LeadTo s t start [] next
lead_nowhere s t start next is rest all = subst (λ (p : ℕ). AreAllPlaces s t p rest) (sym is) all

pub lead_to_place : (s t : List ℕ) (start from k next : ℕ) (places : List ℕ) → LeadTo s t start places from → IsFirstPlace s t from k → next ≡ behind s k → LeadTo s t start (places ++ (k ∷ [])) next
lead_to_place s t start from k next places lead first is rest all =
    subst (AreAllPlaces s t start) (sym (append_assoc places (k ∷ []) rest)) (lead (k ∷ rest) (first, subst (λ (p : ℕ). AreAllPlaces s t p rest) is all))

pub lead_past : (s t : List ℕ) (start from next : ℕ) (places : List ℕ) → LeadTo s t start places from → from ≤ next → ((j : ℕ) → from ≤ j → j < next → ¬ StandsAt s t j) → LeadTo s t start places next
lead_past s t start from next places lead le none rest all = lead rest (all_earlier s t from next rest le none all)

pub lead_both : (s t : List ℕ) (start from next : ℕ) (places more : List ℕ) → LeadTo s t start places from → LeadTo s t from more next → LeadTo s t start (places ++ more) next
lead_both s t start from next places more first second rest all = subst (AreAllPlaces s t start) (sym (append_assoc places more rest)) (first (more ++ rest) (second rest all))

-- the last of them are all there are
pub lead_to_all : (s t : List ℕ) (start from : ℕ) (places : List ℕ) → LeadTo s t start places from → IsFirst s t from None → AreAllPlaces s t start places
lead_to_all s t start from places lead none = subst (AreAllPlaces s t start) (append-nil places) (lead [] none)

-- there are all the places, in any text
all_there : (s t : List ℕ) (n start : ℕ) → length t < start + n → (places : List ℕ) × AreAllPlaces s t start places
all_there s t zero start short = ([], λ j above stands. absurd (omega (arith, stands.inside, above, short)))
all_there s t (suc n) start short =
    elim (cases_Bool (occurs_at t s start)) [
      | inl here ↦
          let more = all_there s t n (behind s start) (omega (arith, short)) in (
            start ∷ more.0,
            (
              record {
                from = omega arith;
                stands = stands_of s t start (OccursAt-true t s start here);
                none_before = λ j above below stands. absurd (omega (arith, above, below));
              },
              more.1,
            ),
          )
      | inr not_here ↦
          let more = all_there s t n (start + 1) (omega (arith, short)) in
          let none : (j : ℕ) → start ≤ j → j < start + 1 → ¬ StandsAt s t j = λ j above below stands.
          let same : j ≡ start = omega (arith, above, below) in
          false≢true (sym not_here ∙ occurs_at-true t s start (occurs_of s t start (subst (StandsAt s t) same stands))) in
          (more.0, all_earlier s t start (start + 1) more.0 (omega arith) none more.1)
    ]

-- so places that lead on are the first of all
pub lead_as_first : (s t : List ℕ) (start from : ℕ) (places : List ℕ) → LeadTo s t start places from → AreFirstPlaces s t start places
lead_as_first s t start from places lead =
    let rest = all_there s t (suc (length t)) from (omega arith) in
    (rest.0, lead rest.0 rest.1)
