-- What is in a list of kept blocks after a copy, and after one more is kept.
use Rattle.std.proofs.Common.{◌≡◌, ℕ, ◌+◌, ◌-◌, ◌≤◌, Bool, true, false, IsTrue, List, [], ◌∷◌, Contains, Vec, drop, length, nat_eq, take, inl, inr, refl, sym, subst, ap}
use Rattle.std.specs.Prelude.{Option, Some, None}
use Rattle.std.specs.Option.{option_map_or}
use Rattle.std.specs.Map.{keys_of, lookup, lookup_entry, remove_entry}
use Rattle.std.proofs.lemmas.Bool.{eqb-true, eq-eqb, and_parts}
use Rattle.lru.specs.LruCache.{LruCache, promoted, put_entries}
use Rattle.lru.proofs.CallerLemmas.{Contains-lookup, Contains-lookup_entry, Contains-promoted, Contains-put_entries}
use Rattle.lru.proofs.Splits.{Contains-cons, Contains-head, Contains-nil, Contains-tail}
use Rattle.lazy_file.specs.KeptBlocks.{CopiesKept, KeepsBlock, Kept, KeepsOne, is_same_block}

-- keys that compare equal are one
pub same_key : (x y : ℕ × ℕ) → is_same_block x y ≡ true → x ≡ y
same_key x y h =
    let parts = and_parts (nat_eq x.0 y.0) (nat_eq x.1 y.1) h in
    let first : x.0 ≡ y.0 = eqb-true x.0 y.0 parts.0 in
    let second : x.1 ≡ y.1 = eqb-true x.1 y.1 parts.1 in
    λ i. (first i, second i)

pub is_same_block-refl : (x : ℕ × ℕ) → is_same_block x x ≡ true
is_same_block-refl x = rw (eq-eqb x.0 x.0 refl, eq-eqb x.1 x.1 refl) refl

-- a block that is kept is found
pub kept_found : {A : Type 0} (kept : Kept A) (key : ℕ × ℕ) → KeepsBlock kept key → lookup (is_same_block key) kept ≡ None → ⊥
kept_found [] key there none = Contains-nil key there
kept_found (e ∷ es) key there none =
    elim (Contains-cons e.0 (keys_of es) key there) [
      | inl same ↦ let found : is_same_block key e.0 ≡ true = rw same (is_same_block-refl key) in let none' = rw found at none in absurd cc
      | inr rest ↦ (elim (is_same_block key e.0) as (λ y. is_same_block key e.0 ≡ y → ⊥) [
        | true ↦ λ t. let none' = rw t at none in absurd cc
        | false ↦ λ t. kept_found es key rest (rw t at none)
      ]) refl
    ]

-- a key that is not the one that is removed stays
stays_removed : {A : Type 0} (test : ℕ × ℕ → Bool) (kept : Kept A) (e : (ℕ × ℕ) × Vec ℕ A) (other : ℕ × ℕ) → lookup_entry test kept ≡ Some e → KeepsBlock kept other → Contains (e.0 ∷ keys_of (remove_entry test kept)) other
stays_removed test [] e other found there = absurd (Contains-nil other there)
stays_removed test (f ∷ es) e other found there = (elim (test f.0) as (λ y. test f.0 ≡ y → Contains (e.0 ∷ keys_of (remove_entry test (f ∷ es))) other) [
  | true ↦ λ t.
      let found' = rw t at found in
      let same : f ≡ e = cc in
      rw (t, ← same) there
  | false ↦ λ t.
      let found' : lookup_entry test es ≡ Some e = rw t at found in
      rw t (elim (Contains-cons f.0 (keys_of es) other there) [
        | inl is ↦ Contains-tail e.0 (f.0 ∷ keys_of (remove_entry test es)) other (subst (Contains (f.0 ∷ keys_of (remove_entry test es))) is (Contains-head f.0 (keys_of (remove_entry test es))))
        | inr rest ↦ elim (Contains-cons e.0 (keys_of (remove_entry test es)) other (stays_removed test es e other found' rest)) [
          | inl is ↦ subst (Contains (e.0 ∷ f.0 ∷ keys_of (remove_entry test es))) is (Contains-head e.0 (f.0 ∷ keys_of (remove_entry test es)))
          | inr more ↦ Contains-tail e.0 (f.0 ∷ keys_of (remove_entry test es)) other (Contains-tail f.0 (keys_of (remove_entry test es)) other more)
        ]
      ])
]) refl

stays_by : {A : Type 0} (test : ℕ × ℕ → Bool) (kept : Kept A) (other : ℕ × ℕ) (o : Option ((ℕ × ℕ) × Vec ℕ A)) → lookup_entry test kept ≡ o → KeepsBlock kept other
    → KeepsBlock (option_map_or (λ e. e ∷ remove_entry test kept) o kept) other
stays_by test kept other None found there = there
stays_by test kept other (Some e) found there = stays_removed test kept e other found there

pub stays_promoted : {A : Type 0} (test : ℕ × ℕ → Bool) (kept : Kept A) (other : ℕ × ℕ) → KeepsBlock kept other → KeepsBlock (promoted test kept) other
stays_promoted test kept other there = stays_by test kept other (lookup_entry test kept) refl there

-- what was put is kept
put_by : {A : Type 0} (old : LruCache (ℕ × ℕ) (Vec ℕ A)) (key : ℕ × ℕ) (block : Vec ℕ A) (o : Option ((ℕ × ℕ) × Vec ℕ A)) → lookup_entry (is_same_block key) old.entries ≡ o
    → KeepsBlock (option_map_or (λ e. (e.0, block) ∷ remove_entry (is_same_block key) old.entries) o ((key, block) ∷ take (old.cap - 1) old.entries)) key
put_by old key block None found = Contains-head key (keys_of (take (old.cap - 1) old.entries))
put_by old key block (Some e) found =
    let is : e.0 ≡ key = sym (same_key key e.0 (Contains-lookup_entry (is_same_block key) old.entries e found).1) in
    subst (Contains (e.0 ∷ keys_of (remove_entry (is_same_block key) old.entries))) is (Contains-head e.0 (keys_of (remove_entry (is_same_block key) old.entries)))

pub put_kept : {A : Type 0} (old : LruCache (ℕ × ℕ) (Vec ℕ A)) (key : ℕ × ℕ) (block : Vec ℕ A) → KeepsBlock (put_entries is_same_block old key block) key
put_kept old key block = put_by old key block (lookup_entry (is_same_block key) old.entries) refl

-- a look-up found a block
pub found_block : {A : Type 0} (kept : Kept A) (key : ℕ × ℕ) (block : Vec ℕ A) → lookup (is_same_block key) kept ≡ Some block → Contains kept (key, block)
found_block kept key block h =
    let found = Contains-lookup (is_same_block key) kept block h in
    subst (λ k. Contains kept (k, block)) (sym (same_key key found.0 found.2)) found.1

-- a kept block's key is among the keys
pub key_of_kept : {A : Type 0} (kept : Kept A) (key : ℕ × ℕ) (block : Vec ℕ A) → Contains kept (key, block) → KeepsBlock kept key
key_of_kept [] key block there = absurd (Contains-nil (key, block) there)
key_of_kept (e ∷ es) key block there = elim (Contains-cons e es (key, block) there) [
  | inl same ↦ let is : e.0 ≡ key = ap (λ x. x.0) same in subst (Contains (e.0 ∷ keys_of es)) is (Contains-head e.0 (keys_of es))
  | inr rest ↦ Contains-tail e.0 (keys_of es) key (key_of_kept es key block rest)
]

-- a part of the block that was found is copied
pub copied_part : {A : Type 0} (old new : Kept A) (key : ℕ × ℕ) (from : ℕ) (part : List ℕ) (copied : Bool) (block : Vec ℕ A)
    → new ≡ promoted (is_same_block key) old → lookup (is_same_block key) old ≡ Some block
    → (IsTrue copied → part ≡ take (length part) (drop from block.items)) → (from + length part ≤ length block.items → IsTrue copied) → CopiesKept old new key from part copied
copied_part old new key from part copied block moved h is inside = record {
  found = λ yes. (block, found_block old key block h, is yes);
  copied_if = λ there each. inside (each block (found_block old key block h));
  stays = λ other there. subst (λ es. KeepsBlock es other) (sym moved) (stays_promoted (is_same_block key) old other there);
  kept = λ other bytes there. Contains-promoted (is_same_block key) old (other, bytes) (subst (λ es. Contains es (other, bytes)) moved there);
}

-- no block is kept there
pub nothing_copied : {A : Type 0} (old new : Kept A) (key : ℕ × ℕ) (from : ℕ) (part : List ℕ)
    → new ≡ promoted (is_same_block key) old → lookup (is_same_block key) old ≡ None → CopiesKept old new key from part false
nothing_copied old new key from part moved none = record {
  found = λ yes. absurd cc;
  copied_if = λ there each. absurd (kept_found old key there none);
  stays = λ other there. subst (λ es. KeepsBlock es other) (sym moved) (stays_promoted (is_same_block key) old other there);
  kept = λ other bytes there. Contains-promoted (is_same_block key) old (other, bytes) (subst (λ es. Contains es (other, bytes)) moved there);
}

-- one more block is kept
pub one_kept : {A : Type 0} (old : LruCache (ℕ × ℕ) (Vec ℕ A)) (new : Kept A) (key : ℕ × ℕ) (block : Vec ℕ A)
    → new ≡ put_entries is_same_block old key block → KeepsOne old.entries new key block
one_kept old new key block put other bytes there =
    let now : Contains (put_entries is_same_block old key block) (other, bytes) = subst (λ es. Contains es (other, bytes)) put there in
    elim (Contains-put_entries is_same_block old key block (other, bytes) now) [
      | inl was ↦ inl was
      | inr is ↦ inr (
        elim is.1 [
          | inl same ↦ same
          | inr equal ↦ sym (same_key key other equal.2)
        ],
        is.0,
      )
    ]
