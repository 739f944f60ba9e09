-- The longest runs of some origins, one behind the other.
use Rattle.std.proofs.Common.{◌≡◌, ◌≢◌, ℕ, zero, suc, ◌+◌, ◌≤◌, List, [], ◌∷◌, ◌++◌, length, map, Option, Some, None, refl, sym, ap, subst, ◌∙◌, append_assoc, arith, inl, inr}
use Rattle.std.specs.Prelude.{slice_get, ◌⊎◌, ◌<◌, ◌^◌, MatchOption}
use Rattle.std.specs.List.{AllByRecursion, flat_map, range_with_len}
use Rattle.std.proofs.lemmas.Bool.{cases_eq}
use Rattle.std.proofs.lemmas.List.{length-append}
use Rattle.std.proofs.lemmas.Option.{same_Some}
use Rattle.byte_origins.specs.declared.run.Brought.{Brought}
use Rattle.byte_origins.specs.declared.run.Brought.TheVariants.{Pool, Source, Fill}
use Rattle.byte_origins.specs.declared.run.Origin.{Origin}
use Rattle.byte_origins.specs.declared.run.OriginRun.{OriginRun}
use Rattle.byte_origins.specs.Behind.{origin_behind}
use Rattle.byte_origins.specs.Origins.{AreApart, AreRuns, run_origins}
use Rattle.byte_origins.proofs.RunOrigins.{behind_none, behind_twice, runs_joined}
use Rattle.byte_origins.proofs.JoinedRuns.{run_begins}

-- ---- runs, one behind the other

pub no_runs : AreRuns [] []
no_runs = record { whole = refl; some = tt; apart = tt }

pub run_and_more : (os rest : List Origin) (run : OriginRun) (later : List OriginRun) → 1 ≤ run.len → os ≡ run_origins run ++ rest → slice_get rest 0 ≢ Some (origin_behind run.first run.len) → AreRuns rest later → AreRuns os (run ∷ later)
run_and_more os rest run later some split apart are =
    record {
      whole = ap (λ (xs : List Origin). run_origins run ++ xs) are.whole ∙ sym split;
      some = (some, are.some);
      apart = all_apart later are.whole are.some are.apart;
    }
  where
    all_apart : (later : List OriginRun) → flat_map run_origins later ≡ rest → AllByRecursion (λ (x : OriginRun). 1 ≤ x.len) later → AreApart later → AreApart (run ∷ later)
    all_apart [] whole all a = tt
    all_apart (y ∷ ys) whole all a =
        let head : slice_get rest 0 ≡ Some y.first = ap (λ (xs : List Origin). slice_get xs 0) (sym whole) ∙ run_begins y (flat_map run_origins ys) all.0 in
        (λ e. apart (head ∙ ap (λ (o : Origin). Some o) (sym e)), a)

-- ---- there are such runs

brought_same : (b c : Brought) → (b ≡ c) ⊎ (b ≢ c)
brought_same (Pool a) (Pool b) = elim (cases_eq a b) [
  | inl e ↦ inl (ap (λ (i : ℕ). Pool i) e)
  | inr other ↦ inr (λ e. other cc)
]
brought_same (Source s p) (Source t q) = elim (cases_eq s t) [
  | inl e ↦ elim (cases_eq p q) [
    | inl f ↦ inl (ap (λ (i : ℕ). Source i p) e ∙ ap (λ (i : ℕ). Source t i) f)
    | inr other ↦ inr (λ e. other cc)
  ]
  | inr other ↦ inr (λ e. other cc)
]
brought_same (Fill c) (Fill d) = elim (cases_eq c d) [
  | inl e ↦ inl (ap (λ (i : ℕ). Fill i) e)
  | inr other ↦ inr (λ e. other cc)
]
brought_same (Pool a) (Source t q) = inr (λ e. absurd cc)
brought_same (Pool a) (Fill d) = inr (λ e. absurd cc)
brought_same (Source s p) (Pool b) = inr (λ e. absurd cc)
brought_same (Source s p) (Fill d) = inr (λ e. absurd cc)
brought_same (Fill c) (Pool b) = inr (λ e. absurd cc)
brought_same (Fill c) (Source t q) = inr (λ e. absurd cc)

origin_same : (o p : Origin) → (o ≡ p) ⊎ (o ≢ p)
origin_same o p =
    elim (cases_eq o.revision p.revision) [
      | inr other ↦ inr (λ e. other (ap (λ (x : Origin). x.revision) e))
      | inl r ↦ elim (cases_eq o.place p.place) [
        | inr other ↦ inr (λ e. other (ap (λ (x : Origin). x.place) e))
        | inl q ↦ elim (brought_same o.brought p.brought) [
          | inr other ↦ inr (λ e. other (ap (λ (x : Origin). x.brought) e))
          | inl b ↦ inl (ap (λ (i : ℕ). record { revision = i; place = o.place; brought = o.brought }) r
              ∙ ap (λ (i : ℕ). record { revision = p.revision; place = i; brought = o.brought }) q
              ∙ ap (λ (c : Brought). record { revision = p.revision; place = p.place; brought = c }) b)
        ]
      ]
    ]

front_longer : (o : Origin) (x : OriginRun) (xs : List OriginRun) → origin_behind o 1 ≡ x.first → AreApart (x ∷ xs) → AreApart (record { first = o; len = 1 + x.len } ∷ xs)
front_longer o x [] on apart = tt
front_longer o x (y ∷ ys) on apart = (λ e. apart.0 (ap (λ (p : Origin). origin_behind p x.len) (sym on) ∙ behind_twice o 1 x.len ∙ e), apart.1)

-- an origin in front of runs
one_more : (o : Origin) (os : List Origin) (runs : List OriginRun) → AreRuns os runs → (more : List OriginRun) × AreRuns (o ∷ os) more
one_more o os runs are = by_head runs are.whole are.some are.apart
  where
    alone : OriginRun
    alone = record { first = o; len = 1 }

    alone_is : run_origins alone ≡ o ∷ []
    alone_is = ap (λ (x : Origin). x ∷ []) (behind_none o)

    by_head : (runs : List OriginRun) → flat_map run_origins runs ≡ os → AllByRecursion (λ (x : OriginRun). 1 ≤ x.len) runs → AreApart runs → (more : List OriginRun) × AreRuns (o ∷ os) more
    by_head [] whole some apart =
        (alone ∷ [], record { whole = ap (λ (xs : List Origin). xs ++ []) alone_is ∙ ap (λ (xs : List Origin). o ∷ xs) whole; some = (omega arith, tt); apart = tt })
    by_head (x ∷ xs) whole some apart =
        elim (origin_same (origin_behind o 1) x.first) [
          | inr off ↦ (alone ∷ x ∷ xs, record { whole = ap (λ (ys : List Origin). ys ++ flat_map run_origins (x ∷ xs)) alone_is ∙ ap (λ (ys : List Origin). o ∷ ys) whole; some = (omega arith, some); apart = (off, apart) })
          | inl on ↦
              let longer : OriginRun = record { first = o; len = 1 + x.len } in
              let joined : run_origins longer ≡ o ∷ run_origins x =
              runs_joined o 1 x.len ∙ ap (λ (ys : List Origin). ys ++ run_origins (record { first = origin_behind o 1; len = x.len })) alone_is
              ∙ ap (λ (p : Origin). o ∷ run_origins (record { first = p; len = x.len })) on in (
                longer ∷ xs,
                record {
                  whole = ap (λ (ys : List Origin). ys ++ flat_map run_origins xs) joined ∙ ap (λ (ys : List Origin). o ∷ ys) whole;
                  some = (omega arith, some.1);
                  apart = front_longer o x xs on apart;
                },
              )
        ]

pub has_runs : (os : List Origin) → (runs : List OriginRun) × AreRuns os runs
has_runs [] = ([], no_runs)
has_runs (o ∷ os) = let rest = has_runs os in one_more o os rest.0 rest.1
