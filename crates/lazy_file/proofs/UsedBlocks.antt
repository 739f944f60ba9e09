-- The order of use of blocks that are kept.
use Rattle.std.proofs.Common.{◌≡◌, ℕ, zero, suc, ◌+◌, ◌-◌, ◌*◌, ◌/◌, ◌%◌, ◌⊎◌, inl, inr, ◌<◌, ◌≤◌, Bool, true, false, not, List, [], ◌∷◌, Vec, filter, length, map, take, arith, ap, refl, sym, subst, ◌∙◌, take_all, take-take, length-take}
use Rattle.std.specs.Prelude.{Option, Some, None, Result, Ok, Err, max, option_map}
use Rattle.std.specs.List.{AllByRecursion, IsDistinct}
use Rattle.std.specs.Option.{option_map_or}
use Rattle.std.specs.Map.{keys_of, lookup, lookup_entry, remove_entry}
use Rattle.std.proofs.lemmas.Bool.{cases_lt}
use Rattle.lru.specs.LruCache.{LruCache, promoted, put_entries}
use Rattle.lru.proofs.CallerLemmas.{Contains-lookup_entry}
use Rattle.lru.proofs.Pairs.{lookup-lookup_entry}
use Rattle.lazy_file.specs.KeptBlocks.{AreWithin, KeepsBlock, Kept, UsesBlock, UsesBlocks, but_block, is_same_block, used_block, used_for}
use Rattle.lazy_file.specs.declared.kept_blocks.TheConstants.{BLOCK_SIZE}
use Rattle.lazy_file.proofs.KeptLists.{found_block, is_same_block-refl, key_of_kept, same_key}

-- none of these is the block under key
abbrev AreOthers : ℕ × ℕ → List (ℕ × ℕ) → Type 0
AreOthers key keys = AllByRecursion (λ k. is_same_block key k ≡ false) keys

but_of_others : (key : ℕ × ℕ) (keys : List (ℕ × ℕ)) → AreOthers key keys → but_block key keys ≡ keys
but_of_others key [] h = refl
but_of_others key (k ∷ keys) h = rw h.0 (ap (λ l. k ∷ l) (but_of_others key keys h.1))

others_but : (key : ℕ × ℕ) (keys : List (ℕ × ℕ)) → AreOthers key (but_block key keys)
others_but key [] = tt
others_but key (k ∷ keys) = (elim (is_same_block key k) as (λ y. is_same_block key k ≡ y → AreOthers key (but_block key (k ∷ keys))) [
  | true ↦ λ t. rw t (others_but key keys)
  | false ↦ λ t. rw t (t, others_but key keys)
]) refl

all_but : (P : ℕ × ℕ → Type 0) (key : ℕ × ℕ) (keys : List (ℕ × ℕ)) → AllByRecursion P keys → AllByRecursion P (but_block key keys)
all_but P key [] h = tt
all_but P key (k ∷ keys) h = (elim (is_same_block key k) as (λ y. is_same_block key k ≡ y → AllByRecursion P (but_block key (k ∷ keys))) [
  | true ↦ λ t. rw t (all_but P key keys h.1)
  | false ↦ λ t. rw t (h.0, all_but P key keys h.1)
]) refl

pub all_take : {X : Type 0} (P : X → Type 0) (n : ℕ) (xs : List X) → AllByRecursion P xs → AllByRecursion P (take n xs)
all_take P zero xs h = tt
all_take P (suc n) [] h = tt
all_take P (suc n) (x ∷ xs) h = (h.0, all_take P n xs h.1)

different_but : (key : ℕ × ℕ) (keys : List (ℕ × ℕ)) → IsDistinct is_same_block keys → IsDistinct is_same_block (but_block key keys)
unfolding IsDistinct
different_but key [] h = tt
different_but key (k ∷ keys) h = (elim (is_same_block key k) as (λ y. is_same_block key k ≡ y → IsDistinct is_same_block (but_block key (k ∷ keys))) [
  | true ↦ λ t. rw t (different_but key keys h.1)
  | false ↦ λ t. rw t (all_but (λ other. is_same_block k other ≡ false) key keys h.0, different_but key keys h.1)
]) refl

different_take : (n : ℕ) (keys : List (ℕ × ℕ)) → IsDistinct is_same_block keys → IsDistinct is_same_block (take n keys)
unfolding IsDistinct
different_take zero keys h = tt
different_take (suc n) [] h = tt
different_take (suc n) (k ∷ keys) h = (all_take (λ other. is_same_block k other ≡ false) n keys h.0, different_take n keys h.1)

different_cons : (key : ℕ × ℕ) (keys : List (ℕ × ℕ)) → AreOthers key keys → IsDistinct is_same_block keys → IsDistinct is_same_block (key ∷ keys)
unfolding IsDistinct
different_cons key keys h rest = (h, rest)

different_tail : (key : ℕ × ℕ) (keys : List (ℕ × ℕ)) → IsDistinct is_same_block (key ∷ keys) → AreOthers key keys × IsDistinct is_same_block keys
unfolding IsDistinct
different_tail key keys h = h

-- blocks of which one was used are different ones still, and no more than there may be
pub within_used : (most : ℕ) (keys : List (ℕ × ℕ)) (key : ℕ × ℕ) → AreWithin most keys → AreWithin most (used_block most keys key)
within_used most keys key h = record {
  some = h.some;
  fit = omega (arith, length-take most (key ∷ but_block key keys));
  different = different_take most (key ∷ but_block key keys) (different_cons key (but_block key keys) (others_but key keys) (different_but key keys h.different));
}

take_first : {X : Type 0} (n : ℕ) (x : X) (xs : List X) → 0 < n → take n (x ∷ xs) ≡ x ∷ take (n - 1) xs
take_first zero x xs some = absurd (omega arith)
take_first (suc n) x xs some = let less : suc n - 1 ≡ n = omega arith in ap (λ k. x ∷ take k xs) (sym less)

-- a block that is used once more is the last used already
pub used_again : (most : ℕ) (keys : List (ℕ × ℕ)) (key : ℕ × ℕ) → used_block most (used_block most keys key) key ≡ used_block most keys key
used_again zero keys key = refl
used_again (suc n) keys key =
    let rest = but_block key keys in
    let first : is_same_block key key ≡ true = is_same_block-refl key in
    let others : but_block key (take n rest) ≡ take n rest = but_of_others key (take n rest) (all_take (λ k. is_same_block key k ≡ false) n rest (others_but key keys)) in
    rw (first, others, take-take n n rest (omega arith)) refl

module _ {A : Type 0} where
  -- the keys but for one, where that is there
  removed_keys : (key : ℕ × ℕ) (kept : Kept A) → IsDistinct is_same_block (keys_of kept) → keys_of (remove_entry (is_same_block key) kept) ≡ but_block key (keys_of kept)
  removed_keys key [] h = refl
  removed_keys key (e ∷ es) h =
      let rest = different_tail e.0 (keys_of es) h in
      (elim (is_same_block key e.0) as (λ y. is_same_block key e.0 ≡ y → keys_of (remove_entry (is_same_block key) (e ∷ es)) ≡ but_block key (keys_of (e ∷ es))) [
        | true ↦ λ t. rw t (sym (but_of_others key (keys_of es) (subst (λ k. AreOthers k (keys_of es)) (sym (same_key key e.0 t)) rest.0)))
        | false ↦ λ t. rw t (ap (λ l. e.0 ∷ l) (removed_keys key es rest.1))
      ]) refl

  removed_fewer : (key : ℕ × ℕ) (kept : Kept A) (e : (ℕ × ℕ) × Vec ℕ A) → lookup_entry (is_same_block key) kept ≡ Some e → length (keys_of (remove_entry (is_same_block key) kept)) < length (keys_of kept)
  removed_fewer key [] e h = absurd cc
  removed_fewer key (f ∷ es) e h = (elim (is_same_block key f.0) as (λ y. is_same_block key f.0 ≡ y → length (keys_of (remove_entry (is_same_block key) (f ∷ es))) < length (keys_of (f ∷ es))) [
    | true ↦ λ t. rw t (omega arith)
    | false ↦ λ t. let fewer = removed_fewer key es e (rw t at h) in rw t (omega (arith, fewer))
  ]) refl

  missing : (key : ℕ × ℕ) (kept : Kept A) → lookup_entry (is_same_block key) kept ≡ None → AreOthers key (keys_of kept)
  missing key [] h = tt
  missing key (e ∷ es) h = (elim (is_same_block key e.0) as (λ y. is_same_block key e.0 ≡ y → AreOthers key (keys_of (e ∷ es))) [
    | true ↦ λ t. let h' = rw t at h in absurd cc
    | false ↦ λ t. (t, missing key es (rw t at h))
  ]) refl

  keys_take : (n : ℕ) (kept : Kept A) → keys_of (take n kept) ≡ take n (keys_of kept)
  keys_take zero kept = refl
  keys_take (suc n) [] = refl
  keys_take (suc n) (e ∷ es) = ap (λ l. e.0 ∷ l) (keys_take n es)

  -- an entry that was found comes first, and the others stay
  found_used : (most : ℕ) (key : ℕ × ℕ) (kept : Kept A) (e : (ℕ × ℕ) × Vec ℕ A) → AreWithin most (keys_of kept) → lookup_entry (is_same_block key) kept ≡ Some e
      → e.0 ∷ keys_of (remove_entry (is_same_block key) kept) ≡ used_block most (keys_of kept) key
  found_used most key kept e h found =
      let rest = keys_of (remove_entry (is_same_block key) kept) in
      let is : e.0 ≡ key = sym (same_key key e.0 (Contains-lookup_entry (is_same_block key) kept e found).1) in
      let but : rest ≡ but_block key (keys_of kept) = removed_keys key kept h.different in
      let all : take (most - 1) rest ≡ rest = take_all (most - 1) rest (omega (arith, removed_fewer key kept e found, h.fit)) in
      let first : take most (key ∷ rest) ≡ key ∷ take (most - 1) rest = take_first most key rest h.some in
      ap (λ k. k ∷ rest) is ∙ ap (λ l. key ∷ l) (sym all) ∙ sym first ∙ ap (λ l. take most (key ∷ l)) but

  put_used_by : (old : LruCache (ℕ × ℕ) (Vec ℕ A)) (key : ℕ × ℕ) (block : Vec ℕ A) (o : Option ((ℕ × ℕ) × Vec ℕ A)) → AreWithin old.cap (keys_of old.entries)
      → lookup_entry (is_same_block key) old.entries ≡ o
      → keys_of (option_map_or (λ e. (e.0, block) ∷ remove_entry (is_same_block key) old.entries) o ((key, block) ∷ take (old.cap - 1) old.entries)) ≡ used_block old.cap (keys_of old.entries) key
  put_used_by old key block None h none =
      let but : but_block key (keys_of old.entries) ≡ keys_of old.entries = but_of_others key (keys_of old.entries) (missing key old.entries none) in
      let first : take old.cap (key ∷ keys_of old.entries) ≡ key ∷ take (old.cap - 1) (keys_of old.entries) = take_first old.cap key (keys_of old.entries) h.some in
      ap (λ l. key ∷ l) (keys_take (old.cap - 1) old.entries) ∙ sym first ∙ ap (λ l. take old.cap (key ∷ l)) (sym but)
  put_used_by old key block (Some e) h found = found_used old.cap key old.entries e h found

  -- a block that is put is used
  pub put_used : (old : LruCache (ℕ × ℕ) (Vec ℕ A)) (key : ℕ × ℕ) (block : Vec ℕ A) → AreWithin old.cap (keys_of old.entries)
      → keys_of (put_entries is_same_block old key block) ≡ used_block old.cap (keys_of old.entries) key
  put_used old key block h = put_used_by old key block (lookup_entry (is_same_block key) old.entries) h refl

  found_none : (key : ℕ × ℕ) (kept : Kept A) (block : Vec ℕ A) → lookup_entry (is_same_block key) kept ≡ None → lookup (is_same_block key) kept ≡ Some block → ⊥
  found_none key kept block none found = let both = lookup-lookup_entry (is_same_block key) kept in let none' = rw none at both in absurd cc

  promoted_by : (most : ℕ) (key : ℕ × ℕ) (kept : Kept A) (block : Vec ℕ A) (o : Option ((ℕ × ℕ) × Vec ℕ A)) → AreWithin most (keys_of kept) → lookup_entry (is_same_block key) kept ≡ o
      → lookup (is_same_block key) kept ≡ Some block
      → keys_of (option_map_or (λ e. e ∷ remove_entry (is_same_block key) kept) o kept) ≡ used_block most (keys_of kept) key
  promoted_by most key kept block None h none found = absurd (found_none key kept block none found)
  promoted_by most key kept block (Some e) h there found = found_used most key kept e h there

  -- a block that is found is used
  pub promoted_used : (most : ℕ) (key : ℕ × ℕ) (kept : Kept A) (block : Vec ℕ A) → AreWithin most (keys_of kept) → lookup (is_same_block key) kept ≡ Some block
      → keys_of (promoted (is_same_block key) kept) ≡ used_block most (keys_of kept) key
  promoted_used most key kept block h found = promoted_by most key kept block (lookup_entry (is_same_block key) kept) h refl found

  same_by : (key : ℕ × ℕ) (kept : Kept A) (o : Option ((ℕ × ℕ) × Vec ℕ A)) → option_map (λ e. e.1) o ≡ None → option_map_or (λ e. e ∷ remove_entry (is_same_block key) kept) o kept ≡ kept
  same_by key kept None none = refl
  same_by key kept (Some e) none = absurd cc

  -- the blocks stay in their order where none is found
  pub promoted_none : (key : ℕ × ℕ) (kept : Kept A) → lookup (is_same_block key) kept ≡ None → promoted (is_same_block key) kept ≡ kept
  promoted_none key kept none = same_by key kept (lookup_entry (is_same_block key) kept) (lookup-lookup_entry (is_same_block key) kept ∙ none)

  -- the blocks stay in their order where this one is not kept
  pub promoted_unkept : (key : ℕ × ℕ) (kept : Kept A) (block : Vec ℕ A) → lookup (is_same_block key) kept ≡ Some block → KeepsBlock kept key
  promoted_unkept key kept block found = key_of_kept kept key block (found_block kept key block found)

-- blocks of n places that lie in one block, where there is a place
module _ (most : ℕ) (keys : List (ℕ × ℕ)) (s off m block : ℕ) where
  used_one : (n k : ℕ) → k ≡ n + m → (off + m) / BLOCK_SIZE ≡ block → (off + k) / BLOCK_SIZE ≡ block
      → used_for most keys s off (suc k) ≡ used_block most (used_for most keys s off m) (s, block)
  used_one zero k is first last =
      let same : k ≡ m = omega (arith, is) in
      (λ i. used_block most (used_for most keys s off (same i)) (s, last i))
  used_one (suc n) k is first last =
      let before : (off + (n + m)) / BLOCK_SIZE ≡ block = omega (arith, first, last, is) in
      let less : k ≡ suc (n + m) = omega (arith, is) in
      (λ i. used_block most (used_for most keys s off (less i)) (s, last i))
      ∙ ap (λ ks. used_block most ks (s, block)) (used_one n (n + m) refl first before)
      ∙ used_again most (used_for most keys s off m) (s, block)

  -- the block of n places behind m is used once
  pub used_part : (n : ℕ) → 1 ≤ n → (off + m) / BLOCK_SIZE ≡ block → (off + m + (n - 1)) / BLOCK_SIZE ≡ block
      → used_for most keys s off (m + n) ≡ used_block most (used_for most keys s off m) (s, block)
  used_part n some first last =
      let same : m + n ≡ suc (n - 1 + m) = omega (arith, some) in
      let end : (off + (n - 1 + m)) / BLOCK_SIZE ≡ block = omega (arith, last) in
      ap (used_for most keys s off) same ∙ used_one (n - 1) (n - 1 + m) refl first end

-- blocks that were used are different ones still, and no more than there may be
within_used_for : (most : ℕ) (keys : List (ℕ × ℕ)) (s off n : ℕ) → AreWithin most keys → AreWithin most (used_for most keys s off n)
within_used_for most keys s off zero h = h
within_used_for most keys s off (suc n) h = within_used most (used_for most keys s off n) (s, (off + n) / BLOCK_SIZE) (within_used_for most keys s off n h)

module _ {X E : Type 0} (most : ℕ) (old : List (ℕ × ℕ)) where
  pub within_block : (new : List (ℕ × ℕ)) (key : ℕ × ℕ) (r : Result X E) → AreWithin most old → UsesBlock most old new key r → AreWithin most new
  within_block new key (Ok x) h uses = subst (AreWithin most) (sym uses.ok) (within_used most old key h)
  within_block new key (Err e) h uses = subst (AreWithin most) (sym uses.err) h

  within_blocks : (new : List (ℕ × ℕ)) (s off n : ℕ) (r : Result X E) → AreWithin most old → UsesBlocks most old new s off n r → AreWithin most new
  within_blocks new s off n (Ok x) h uses = subst (AreWithin most) (sym uses.ok) (within_used_for most old s off n h)
  within_blocks new s off n (Err e) h uses = subst (AreWithin most) (sym uses.err.3) (within_used_for most old s off uses.err.0 h)

  -- and after a read by blocks or straight from the device
  pub within_read : (new : List (ℕ × ℕ)) (s off n : ℕ) (r : Result X E) → AreWithin most old → (n < BLOCK_SIZE → UsesBlocks most old new s off n r) → (BLOCK_SIZE ≤ n → new ≡ old) → AreWithin most new
  within_read new s off n r h uses straight = elim (cases_lt n BLOCK_SIZE) [
    | inl short ↦ within_blocks new s off n r h (uses short)
    | inr long ↦ subst (AreWithin most) (sym (straight long)) h
  ]

  -- the block of the last places, after those of the first m were used
  pub uses_last : (mid new : List (ℕ × ℕ)) (s off n m block : ℕ) (r : Result X E) → m < n → m ≡ 0 ⊎ (off + m) % BLOCK_SIZE ≡ 0
      → (off + m) / BLOCK_SIZE ≡ block → (off + (n - 1)) / BLOCK_SIZE ≡ block
      → mid ≡ used_for most old s off m → UsesBlock most mid new (s, block) r → UsesBlocks most old new s off n r
  uses_last mid new s off n m block (Ok x) more start first last before uses =
      let end : (off + m + (n - m - 1)) / BLOCK_SIZE ≡ block = omega (arith, last, more) in
      let whole : m + (n - m) ≡ n = omega (arith, more) in
      record {
        ok = uses.ok ∙ ap (λ ks. used_block most ks (s, block)) before ∙ sym (used_part most old s off m block (n - m) (omega (arith, more)) first end) ∙ ap (used_for most old s off) whole;
        err = tt;
      }
  uses_last mid new s off n m block (Err e) more start first last before uses = record {
    ok = tt;
    err = (m, omega (arith, more), start, uses.err ∙ before);
  }

  -- no block was used, and the read failed
  pub uses_none : (new : List (ℕ × ℕ)) (s off n : ℕ) (e : E) → new ≡ old → UsesBlocks {X = X} most old new s off n (Err e)
  uses_none new s off n e same = record { ok = tt; err = (0, omega arith, inl refl, same) }
