-- What a command gives of mapped texts is what it gives of the texts, mapped. So what holds of cells holds of the bytes
-- they stand for.
use Rattle.std.proofs.Common.{◌≡◌, ℕ, zero, suc, ◌+◌, ◌^◌, List, [], ◌∷◌, ◌++◌, length, map, take, drop, replicate, Option, Some, None, Bool, true, false, refl, sym, ap, ◌∙◌, nat_le, nat_lt}
use Rattle.std.specs.Prelude.{slice_get, if◌then◌else◌}
use Rattle.std.specs.Option.{option_map}
use Rattle.std.proofs.lemmas.List.{map-append, length-map}
use Rattle.std.proofs.lemmas.Option.{slice_get-map}
use Rattle.std.specs.List.{take-map, drop-map}
use Rattle.command_parts.specs.declared.edit.Splice.{Splice}
use Rattle.command_parts.specs.Commands.{FullEdit, New, Open, Insert, Delete, Replace, Paste, Join, Cut, Fill, Back, Balance, Many}
use Rattle.command_parts.specs.Commands.{Givens, ◌>>=◌, can_splice, span, bounded, replaced, replaced_each, spliced, result_of, IsHistory}

module _ {C D : Type 0} (f : C → D) where
  -- the givens, each thing mapped
  abbrev pub mapped_givens : Givens C → Givens D
  mapped_givens g = record { pool = map f g.pool; sources = map (map f) g.sources; byte = λ b. f (g.byte b) }

  chosen : {A B : Type 0} (h : A → B) (b : Bool) (x : Option A) → (if b then option_map h x else None) ≡ option_map h (if b then x else None)
  chosen h true x = refl
  chosen h false x = refl

  bound : {A B A' B' : Type 0} (h : A → A') (h' : B → B') (k : A → Option B) (k' : A' → Option B') (o : Option A) → ((a : A) → k' (h a) ≡ option_map h' (k a)) → (option_map h o >>= k') ≡ option_map h' (o >>= k)
  bound h h' k k' None e = refl
  bound h h' k k' (Some a) e = e a

  span_mapped : (t : List C) (i n : ℕ) → span (map f t) i n ≡ option_map (map f) (span t i n)
  span_mapped t i n = rw (length-map t f, drop-map f i t, take-map f n (drop i t)) (chosen (map f) (nat_le (i + n) (length t)) (Some (take n (drop i t))))

  bounded_mapped : (t : List C) → bounded (map f t) ≡ option_map (map f) (bounded t)
  bounded_mapped t = rw (length-map t f) (chosen (map f) (nat_lt (length t) (2 ^ 40)) (Some t))

  pub replaced_mapped : (t : List C) (p m : ℕ) (x : List C) → replaced (map f t) p m (map f x) ≡ map f (replaced t p m x)
  replaced_mapped t p m x = rw (take-map f p t, drop-map f (p + m) t, map-append f (take p t ++ x) (drop (p + m) t), map-append f (take p t) x) refl

  spliced_mapped : (t : List C) (p m : ℕ) (x : List C) → spliced (map f t) p m (map f x) ≡ option_map (map f) (spliced t p m x)
  spliced_mapped t p m x =
      rw (length-map t f, replaced_mapped t p m x, bounded_mapped (replaced t p m x)) (chosen (map f) (nat_le (p + m) (length t)) (bounded (replaced t p m x)))

  replaced_each_mapped : (pool t : List C) (splices : List Splice) → replaced_each (map f pool) (map f t) splices ≡ map f (replaced_each pool t splices)
  replaced_each_mapped pool t [] = refl
  replaced_each_mapped pool t (s ∷ splices) =
      rw (replaced_each_mapped pool t splices, drop-map f s.a pool, take-map f s.n (drop s.a pool)) (replaced_mapped (replaced_each pool t splices) s.p s.m (take s.n (drop s.a pool)))

  pub map-replicate : (n : ℕ) (c : C) → replicate n (f c) ≡ map f (replicate n c)
  map-replicate zero c = refl
  map-replicate (suc n) c = ap (λ l. f c ∷ l) (map-replicate n c)

  pub result_mapped : (g : Givens C) (texts : List (List C)) (command : FullEdit) → result_of (mapped_givens g) (map (map f) texts) command ≡ option_map (map f) (result_of g texts command)
  result_mapped g texts New = refl
  result_mapped g texts (Open s) = slice_get-map (map f) g.sources s
  result_mapped g texts (Insert r p a n) = rw (slice_get-map (map f) texts r, span_mapped g.pool a n)
      (bound (map f) (map f) _ _ (slice_get texts r) (λ t. bound (map f) (map f) _ _ (span g.pool a n) (λ x. rw (spliced_mapped t p 0 x) (chosen (map f) (nat_le 1 n) (spliced t p 0 x)))))
  result_mapped g texts (Delete r p n) = rw (slice_get-map (map f) texts r) (bound (map f) (map f) _ _ (slice_get texts r) (λ t. spliced_mapped t p n []))
  result_mapped g texts (Replace r p m a n) = rw (slice_get-map (map f) texts r, span_mapped g.pool a n)
      (bound (map f) (map f) _ _ (slice_get texts r) (λ t. bound (map f) (map f) _ _ (span g.pool a n) (λ x. rw (spliced_mapped t p m x) (chosen (map f) (nat_le 1 n) (spliced t p m x)))))
  result_mapped g texts (Paste r p q i n) = rw (slice_get-map (map f) texts r, slice_get-map (map f) texts q)
      (bound (map f) (map f) _ _ (slice_get texts r) (λ t. bound (map f) (map f) _ _ (slice_get texts q) (λ u. rw (span_mapped u i n) (bound (map f) (map f) _ _ (span u i n) (λ x. spliced_mapped t p 0 x)))))
  result_mapped g texts (Join r q) = rw (slice_get-map (map f) texts r, slice_get-map (map f) texts q)
      (bound (map f) (map f) _ _ (slice_get texts r) (λ t. bound (map f) (map f) _ _ (slice_get texts q) (λ u. rw (sym (map-append f t u)) (bounded_mapped (t ++ u)))))
  result_mapped g texts (Cut r i n) = rw (slice_get-map (map f) texts r) (bound (map f) (map f) _ _ (slice_get texts r) (λ t. span_mapped t i n))
  result_mapped g texts (Fill r p c n) = rw (slice_get-map (map f) texts r)
      (bound (map f) (map f) _ _ (slice_get texts r) (λ t. rw (map-replicate n (g.byte c), spliced_mapped t p 0 (replicate n (g.byte c))) (chosen (map f) (nat_le c 255) (spliced t p 0 (replicate n (g.byte c))))))
  result_mapped g texts (Back r) = slice_get-map (map f) texts r
  result_mapped g texts (Balance r) = slice_get-map (map f) texts r
  result_mapped g texts (Many r splices) = rw (slice_get-map (map f) texts r, length-map g.pool f)
      (bound (map f) (map f) _ _ (slice_get texts r) (λ t. rw (length-map t f, replaced_each_mapped g.pool t splices, bounded_mapped (replaced_each g.pool t splices)) (chosen (map f) (can_splice (length g.pool) (length t) splices) (bounded (replaced_each g.pool t splices)))))

  -- a history mapped is a history
  pub history_mapped : (g : Givens C) (commands : List FullEdit) (texts : List (List C)) → IsHistory g commands texts → IsHistory (mapped_givens g) commands (map (map f) texts)
  history_mapped g commands texts h = record {
    whole = length-map texts (map f) ∙ h.whole;
    each = λ k command e. rw (slice_get-map (map f) texts k, take-map (map f) k texts, result_mapped g (take k texts) command) (ap (option_map (map f)) (h.each k command e));
  }
