use Rattle.std.proofs.Common.{◌≡◌, ℕ, suc, ◌-◌, ◌<◌, ◌≤◌, List, length, take, drop, get_or, sym, ap, ◌∙◌, subst, arith}
use Rattle.std.specs.List.{AllWithin}
use Rattle.byte_origins.specs.declared.run.Origin.{Origin}
use Rattle.byte_origins.specs.declared.run.OriginRun.{OriginRun}
use Rattle.byte_origins.specs.declared.arrivals.Arrival.{Arrival}
use Rattle.byte_origins.specs.Arrivals.{AreArrivals, arrived}
use Rattle.byte_origins.specs.Behind.{origin_behind}
use Rattle.byte_origins.specs.Origins.{IsOriginRun, run_origins}
use Rattle.byte_origins.proofs.ArrivedRuns.{HoldsRun, rest_at, run_found}
use Rattle.byte_origins.proofs.arrivals.Arrivals.run_at.Goals as goal

held : (xs list : List Arrival) (begun last place count : ℕ) (found : Arrival) → list ≡ xs → AreArrivals 0 xs → count ≡ length (arrived xs) → place < count → begun ≤ length list → AllWithin (λ (x : Arrival). x.before ≤ place) list 0 begun → AllWithin (λ (x : Arrival). place < x.before) list begun (length list)
    → 1 ≤ begun → last ≡ begun - 1 → found ≡ get_or xs last found → HoldsRun 0 xs place found
held xs list begun last place count found same are many inside within before behind some at is =
    let before : AllWithin (λ (x : Arrival). x.before ≤ place) xs 0 begun = subst (λ (l : List Arrival). AllWithin (λ (x : Arrival). x.before ≤ place) l 0 begun) same before in
    let behind : AllWithin (λ (x : Arrival). place < x.before) xs begun (length xs) = subst (λ (l : List Arrival). AllWithin (λ (x : Arrival). place < x.before) l begun (length l)) same behind in
    let few : begun ≤ length xs = subst (λ (l : List Arrival). begun ≤ length l) same within in
    subst (HoldsRun 0 xs place) (sym is)
    (run_found 0 xs last found place are (omega (arith, few, some, at)) (before last found (omega arith) (omega (arith, some, at))) (λ more. behind (suc last) found (omega (arith, some, at)) more) (omega (arith, inside, many)))

-- what is left of it is a run there
rest_is : (xs : List Arrival) (place : ℕ) (x : Arrival) (rest : OriginRun) → HoldsRun 0 xs place x → rest.first ≡ origin_behind x.run.first (place - x.before) → rest.len ≡ x.run.len - (place - x.before) → IsOriginRun (arrived xs) place rest
rest_is xs place x rest is first len =
    let here : place - 0 ≡ place = omega arith in
    let stands : take (x.run.len - (place - x.before)) (drop place (arrived xs)) ≡ run_origins (rest_at x place) =
    ap (λ (i : ℕ). take (x.run.len - (place - x.before)) (drop i (arrived xs))) (sym here) ∙ is.stands in
    record {
      some = omega (arith, len, is.inside);
      stands = ap (λ (n : ℕ). take n (drop place (arrived xs))) len
          ∙ stands
          ∙ ap (λ (o : Origin). run_origins (record { first = o; len = x.run.len - (place - x.before) })) (sym first)
          ∙ ap (λ (n : ℕ). run_origins (record { first = rest.first; len = n })) (sym len);
    }

pub rest_from-requires-clause-fits : goal.rest_from-requires-clause-fits
rest_from-requires-clause-fits c =
    (held c.self.inside.list.items c.deref.result.now c.count_begun.result c.in_ok-last.last c.args.place c.self.inside.count c.index-found.result.now c.deref.ensures.value c.self.invariant.0 c.self.invariant.1 (omega (arith, c.if-place-self.false)) c.count_begun.ensures.within
    c.count_begun.ensures.begun c.count_begun.ensures.behind c.in_ok-last.ensures.0 c.in_ok-last.ensures.1 c.index-found.ensures).fits

pub rest_from-requires-clause-inside : goal.rest_from-requires-clause-inside
rest_from-requires-clause-inside c =
    let is = held c.self.inside.list.items c.deref.result.now c.count_begun.result c.in_ok-last.last c.args.place c.self.inside.count c.index-found.result.now c.deref.ensures.value c.self.invariant.0 c.self.invariant.1 (omega (arith, c.if-place-self.false)) c.count_begun.ensures.within
    c.count_begun.ensures.begun c.count_begun.ensures.behind c.in_ok-last.ensures.0 c.in_ok-last.ensures.1 c.index-found.ensures in
    omega (arith, is.inside)

pub returns : goal.returns
returns c =
    let is = held c.self.inside.list.items c.deref.result.now c.count_begun.result c.in_ok-last.last c.args.place c.self.inside.count c.index-found.result.now c.deref.ensures.value c.self.invariant.0 c.self.invariant.1 (omega (arith, c.if-place-self.false)) c.count_begun.ensures.within
    c.count_begun.ensures.begun c.count_begun.ensures.behind c.in_ok-last.ensures.0 c.in_ok-last.ensures.1 c.index-found.ensures in
    rw (← c.self.view_is) (rest_is c.self.inside.list.items c.args.place c.index-found.result.now c.rest_from.result is c.rest_from.ensures.first c.rest_from.ensures.len)
