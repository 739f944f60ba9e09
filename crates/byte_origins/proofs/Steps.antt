-- The origins of a text are those that its command gives over the origins of the texts before it.
use Rattle.std.proofs.Common.{◌≡◌, ℕ, zero, suc, ◌+◌, ◌≤◌, List, [], ◌∷◌, ◌++◌, length, take, get_or, Some, refl, sym, ap, ◌∙◌, arith, add-zero}
use Rattle.std.specs.Prelude.{slice_get}
use Rattle.std.proofs.lemmas.List.{length-append, take-append-le, take_all, get_or-take}
use Rattle.std.proofs.lemmas.Option.{none-some, same_Some}
use Rattle.command_parts.specs.Commands.{FullEdit}
use Rattle.byte_origins.specs.declared.run.Origin.{Origin}
use Rattle.byte_origins.specs.Origins.{Traced, Earlier, Outside, settled, origins_of, origins_from}

pub length-settled : (k p : ℕ) (xs : List Traced) → length (settled k p xs) ≡ length xs
length-settled k p [] = refl
length-settled k p (Earlier o ∷ xs) = ap suc (length-settled k (p + 1) xs)
length-settled k p (Outside b ∷ xs) = ap suc (length-settled k (p + 1) xs)

at_push : {X : Type 0} (xs : List X) (x d : X) → get_or (xs ++ x ∷ []) (length xs) d ≡ x
at_push [] x d = refl
at_push (y ∷ xs) x d = at_push xs x d

module _ (pool_len : ℕ) (sources : List ℕ) where
  -- one list for each command, behind those that there were
  pub length-origins_from : (earlier : List (List Origin)) (es : List FullEdit) → length (origins_from pool_len sources earlier es) ≡ length earlier + length es
  length-origins_from earlier [] = sym (add-zero (length earlier))
  length-origins_from earlier (e ∷ es) =
      let next = origins_of pool_len sources earlier e in
      length-origins_from (earlier ++ next ∷ []) es ∙ omega (arith, length-append earlier (next ∷ []))

  -- those that there were stay
  pub front_kept : (n : ℕ) (earlier : List (List Origin)) (es : List FullEdit) → n ≤ length earlier → take n (origins_from pool_len sources earlier es) ≡ take n earlier
  front_kept n earlier [] le = refl
  front_kept n earlier (e ∷ es) le =
      let next = origins_of pool_len sources earlier e in
      front_kept n (earlier ++ next ∷ []) es (omega (arith, length-append earlier (next ∷ []), le)) ∙ take-append-le n earlier (next ∷ []) le

  -- the list of a command is what it gives over those before it
  pub from_at : (earlier : List (List Origin)) (es : List FullEdit) (k : ℕ) (e : FullEdit) → slice_get es k ≡ Some e
      → get_or (origins_from pool_len sources earlier es) (length earlier + k) [] ≡ origins_of pool_len sources (take (length earlier + k) (origins_from pool_len sources earlier es)) e
  from_at earlier [] k e at = absurd (none-some e at)
  from_at earlier (x ∷ es) zero e at =
      let next = origins_of pool_len sources earlier x in
      let all = origins_from pool_len sources (earlier ++ next ∷ []) es in
      let more : length (earlier ++ next ∷ []) ≡ length earlier + 1 = length-append earlier (next ∷ []) in
      let front : take (length earlier) all ≡ earlier = front_kept (length earlier) earlier (x ∷ es) (omega arith) ∙ take_all (length earlier) earlier (omega arith) in
      let whole : take (length earlier + 1) all ≡ earlier ++ next ∷ [] = front_kept (length earlier + 1) (earlier ++ next ∷ []) es (omega (arith, more)) ∙ take_all (length earlier + 1) (earlier ++ next ∷ []) (omega (arith, more)) in
      ap (λ (j : ℕ). get_or all j []) (add-zero (length earlier))
      ∙ sym (get_or-take (length earlier + 1) all (length earlier) [] (omega arith))
      ∙ ap (λ (xs : List (List Origin)). get_or xs (length earlier) []) whole
      ∙ at_push earlier next []
      ∙ ap (origins_of pool_len sources earlier) (same_Some x e at)
      ∙ ap (λ (xs : List (List Origin)). origins_of pool_len sources xs e) (sym front)
      ∙ ap (λ (j : ℕ). origins_of pool_len sources (take j all) e) (sym (add-zero (length earlier)))
  from_at earlier (x ∷ es) (suc k) e at =
      let next = origins_of pool_len sources earlier x in
      let all = origins_from pool_len sources (earlier ++ next ∷ []) es in
      let place : length (earlier ++ next ∷ []) + k ≡ length earlier + suc k = omega (arith, length-append earlier (next ∷ [])) in
      ap (λ (j : ℕ). get_or all j []) (sym place)
      ∙ from_at (earlier ++ next ∷ []) es k e at
      ∙ ap (λ (j : ℕ). origins_of pool_len sources (take j all) e) place
