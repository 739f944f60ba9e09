-- How long a command's result is follows from the lengths of the texts and of what is given, lists of anything.
use Rattle.std.proofs.Common.{◌≡◌, ℕ, List, [], ◌∷◌, map, length, replicate, Option, Some, None, refl, sym, ap, ◌∙◌}
use Rattle.std.specs.Option.{option_map}
use Rattle.std.proofs.lemmas.List.{length-map}
use Rattle.command_parts.specs.Commands.{FullEdit, Givens, result_of}
use Rattle.command_parts.proofs.MappedResults.{mapped_givens, result_mapped}

-- a list of n zeros
abbrev units : ℕ → List ℕ
units n = replicate n 0

abbrev unit_givens : ℕ → List ℕ → Givens ℕ
unit_givens pool_len sources = record { pool = units pool_len; sources = map units sources; byte = λ b. 0 }

module _ {C : Type 0} where
  to_units : (xs : List C) → map (λ (x : C). 0) xs ≡ units (length xs)
  to_units [] = refl
  to_units (x ∷ xs) = ap (λ (l : List ℕ). 0 ∷ l) (to_units xs)

  all_to_units : (xss : List (List C)) → map (map (λ (x : C). 0)) xss ≡ map units (map length xss)
  all_to_units [] = refl
  all_to_units (xs ∷ xss) = rw (to_units xs, all_to_units xss) refl

  lengths_kept : (o : Option (List C)) → option_map (λ (l : List ℕ). length l) (option_map (map (λ (x : C). 0)) o) ≡ option_map (λ (l : List C). length l) o
  lengths_kept None = refl
  lengths_kept (Some xs) = ap Some (length-map xs (λ (x : C). 0))

  by_units : (g : Givens C) (texts : List (List C)) (e : FullEdit) → option_map length (result_of g texts e) ≡ option_map length (result_of (unit_givens (length g.pool) (map length g.sources)) (map units (map length texts)) e)
  by_units g texts e =
      let unit : C → ℕ = λ x. 0 in
      let given : mapped_givens unit g ≡ unit_givens (length g.pool) (map length g.sources) = rw (to_units g.pool, all_to_units g.sources) refl in
      sym (lengths_kept (result_of g texts e))
      ∙ ap (option_map length) (sym (result_mapped unit g texts e))
      ∙ ap (λ (x : Givens ℕ). option_map length (result_of x (map (map unit) texts) e)) given
      ∙ ap (λ (x : List (List ℕ)). option_map length (result_of (unit_givens (length g.pool) (map length g.sources)) x e)) (all_to_units texts)

-- what is given, and texts, of the same lengths
pub record AreAsLong {C D : Type 0} (g : Givens C) (h : Givens D) (xss : List (List C)) (yss : List (List D)) : Type 0 where
  pub pool : length g.pool ≡ length h.pool
  pub sources : map length g.sources ≡ map length h.sources
  pub texts : map length xss ≡ map length yss

pub lengths_alike : {C D : Type 0} (g : Givens C) (h : Givens D) (xss : List (List C)) (yss : List (List D)) (e : FullEdit) → AreAsLong g h xss yss → option_map length (result_of g xss e) ≡ option_map length (result_of h yss e)
lengths_alike g h xss yss e same =
    by_units g xss e
    ∙ ap (λ n. option_map length (result_of (unit_givens n (map length g.sources)) (map units (map length xss)) e)) same.pool
    ∙ ap (λ s. option_map length (result_of (unit_givens (length h.pool) s) (map units (map length xss)) e)) same.sources
    ∙ ap (λ t. option_map length (result_of (unit_givens (length h.pool) (map length h.sources)) (map units t) e)) same.texts
    ∙ sym (by_units h yss e)
