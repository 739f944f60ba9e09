-- What a command gives, it gives where the pool has more.
use Rattle.std.proofs.Common.{◌≡◌, ℕ, ◌+◌, ◌≤◌, true, List, [], ◌∷◌, ◌++◌, length, take, drop, Option, Some, None, refl, ap, ◌∙◌, arith, nat_le}
use Rattle.std.specs.Prelude.{if◌then◌else◌, slice_get}
use Rattle.std.proofs.lemmas.Bool.{leb-true, le-leb}
use Rattle.std.proofs.lemmas.List.{drop-append-le, take-append-le, length-append, length-drop}
use Rattle.command_parts.specs.declared.edit.Splice.{Splice}
use Rattle.command_parts.specs.Commands.{FullEdit, Insert, Many, Replace}
use Rattle.command_parts.specs.Commands.{Givens, ◌>>=◌, bounded, can_splice, replaced, replaced_each, result_of, span, spliced}
use Rattle.command_parts.proofs.SplicedTexts.{ArePooled, are_splices, can_splice_kept}
use Rattle.commit_tools.proofs.Results.{bound, chosen}

bound_grown : {A B : Type 0} (o u : Option A) (f h : A → Option B) (y : B) → ((x : A) → o ≡ Some x → u ≡ Some x) → ((x : A) → f x ≡ Some y → h x ≡ Some y) → (o >>= f) ≡ Some y → (u >>= h) ≡ Some y
bound_grown o u f h y there gives e = let b = bound o f y e in rw (there b.0 b.1) (gives b.0 b.2)

module _ {C : Type 0} (g : Givens C) (more : List C) where
  abbrev pub grown : Givens C
  grown = record { pool = g.pool ++ more; sources = g.sources; byte = g.byte }

  part_grown : (a n : ℕ) → a + n ≤ length g.pool → take n (drop a (g.pool ++ more)) ≡ take n (drop a g.pool)
  part_grown a n inside = ap (take n) (drop-append-le a g.pool more (omega (arith, inside))) ∙ take-append-le n (drop a g.pool) more (omega (arith, inside, length-drop a g.pool))

  span_grown : (a n : ℕ) (x : List C) → span g.pool a n ≡ Some x → span (g.pool ++ more) a n ≡ Some x
  span_grown a n x e =
      let c = chosen (nat_le (a + n) (length g.pool)) (Some (take n (drop a g.pool))) x e in
      let inside : a + n ≤ length g.pool = leb-true _ _ c.0 in
      let test : nat_le (a + n) (length (g.pool ++ more)) ≡ true = le-leb (a + n) (length (g.pool ++ more)) (omega (arith, inside, length-append g.pool more)) in
      rw test (ap Some (part_grown a n inside) ∙ c.1)

  each_grown : (t : List C) (splices : List Splice) → ArePooled (length g.pool) splices → replaced_each (g.pool ++ more) t splices ≡ replaced_each g.pool t splices
  each_grown t [] pooled = refl
  each_grown t (s ∷ splices) pooled =
      ap (λ (u : List C). replaced u s.p s.m (take s.n (drop s.a (g.pool ++ more)))) (each_grown t splices pooled.1)
      ∙ ap (λ (x : List C). replaced (replaced_each g.pool t splices) s.p s.m x) (part_grown s.a s.n pooled.0)

  many_grown : (t : List C) (splices : List Splice) (x : List C) → (if can_splice (length g.pool) (length t) splices then bounded (replaced_each g.pool t splices) else None) ≡ Some x
      → (if can_splice (length (g.pool ++ more)) (length t) splices then bounded (replaced_each (g.pool ++ more) t splices) else None) ≡ Some x
  many_grown t splices x e =
      let c = chosen (can_splice (length g.pool) (length t) splices) (bounded (replaced_each g.pool t splices)) x e in
      let can : can_splice (length (g.pool ++ more)) (length t) splices ≡ true =
      can_splice_kept (length g.pool) (length (g.pool ++ more)) (length t) splices (omega (arith, length-append g.pool more)) c.0 in
      rw can (ap bounded (each_grown t splices (are_splices (length g.pool) (length t) splices c.0).pooled) ∙ c.1)

  pub result_grown : (texts : List (List C)) (e : FullEdit) (x : List C) → result_of g texts e ≡ Some x → result_of grown texts e ≡ Some x
  result_grown texts (Insert r p a n) x e =
      bound_grown (slice_get texts r) (slice_get texts r) (λ t. span g.pool a n >>= (λ u. if nat_le 1 n then spliced t p 0 u else None)) (λ t. span (g.pool ++ more) a n >>= (λ u. if nat_le 1 n then spliced t p 0 u else None)) x (λ t there. there)
      (λ t. bound_grown (span g.pool a n) (span (g.pool ++ more) a n) (λ u. if nat_le 1 n then spliced t p 0 u else None) (λ u. if nat_le 1 n then spliced t p 0 u else None) x (span_grown a n) (λ u gives. gives)) e
  result_grown texts (Replace r p m a n) x e =
      bound_grown (slice_get texts r) (slice_get texts r) (λ t. span g.pool a n >>= (λ u. if nat_le 1 n then spliced t p m u else None)) (λ t. span (g.pool ++ more) a n >>= (λ u. if nat_le 1 n then spliced t p m u else None)) x (λ t there. there)
      (λ t. bound_grown (span g.pool a n) (span (g.pool ++ more) a n) (λ u. if nat_le 1 n then spliced t p m u else None) (λ u. if nat_le 1 n then spliced t p m u else None) x (span_grown a n) (λ u gives. gives)) e
  result_grown texts (Many r splices) x e =
      bound_grown (slice_get texts r) (slice_get texts r) (λ t. if can_splice (length g.pool) (length t) splices then bounded (replaced_each g.pool t splices) else None)
      (λ t. if can_splice (length (g.pool ++ more)) (length t) splices then bounded (replaced_each (g.pool ++ more) t splices) else None) x (λ t there. there) (λ t. many_grown t splices x) e
  result_grown texts other x e = e
