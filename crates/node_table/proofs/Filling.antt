-- Items in blocks: where one stands, and one more.
use Rattle.std.proofs.Common.{◌≡◌, ℕ, zero, suc, ◌+◌, ◌-◌, ◌*◌, ◌/◌, ◌%◌, ◌<◌, ◌≤◌, inl, inr, List, [], ◌∷◌, ◌++◌, length, get_or, slice_set, refl, sym, ap, ◌∙◌, arith}
use Rattle.std.proofs.Math.Nat.{div-add-mod, mod-lt}
use Rattle.std.proofs.lemmas.List.{length-append, append-nil, append_assoc, get_or_append_left, get_or-append_right}
use Rattle.node_table.specs.declared.block.TheConstants.{ITEMS_IN_BLOCK}
use Rattle.node_table.specs.Blocks.{all_items, AreFilled}

-- blocks take what they hold
pub filled_fits : {T : Type 0} (bs : List (List T)) → AreFilled bs → length (all_items bs) ≤ length bs * ITEMS_IN_BLOCK
filled_fits [] f = omega arith
filled_fits (b ∷ bs) f = omega (arith, length-append b (all_items bs), f.0, filled_fits bs f.2)

-- ---- where an item stands

-- the block q, or e where there is none, has as its item r what stands after q full blocks and r items
pub record Stands {T : Type 0} (bs : List (List T)) (q r : ℕ) (e : List T) : Type 0 where
  pub block : q < length bs
  pub inside : r < length (get_or bs q e)
  pub item : (d : T) → get_or (all_items bs) (q * ITEMS_IN_BLOCK + r) d ≡ get_or (get_or bs q e) r d

stands_first : {T : Type 0} (b : List T) (bs : List (List T)) (r : ℕ) (e : List T) → r < length b → Stands (b ∷ bs) 0 r e
stands_first b bs r e inside = record {
  block = omega arith;
  inside = inside;
  item = λ d. ap (λ (k : ℕ). get_or (b ++ all_items bs) k d) (omega arith) ∙ get_or_append_left b (all_items bs) d r inside;
}

stands_behind : {T : Type 0} (b : List T) (bs : List (List T)) (q r : ℕ) (e : List T) → length b ≡ ITEMS_IN_BLOCK → Stands bs q r e → Stands (b ∷ bs) (suc q) r e
stands_behind {T} b bs q r e full s = record {
  block = omega (arith, s.block);
  inside = s.inside;
  item = λ d.
      get_or-append_right b (all_items bs) ITEMS_IN_BLOCK (suc q * ITEMS_IN_BLOCK + r) d full (omega arith)
      ∙ ap (λ (k : ℕ). get_or (all_items bs) k d) (omega arith)
      ∙ s.item d;
}

pub stands : {T : Type 0} (bs : List (List T)) (q r : ℕ) (e : List T) → AreFilled bs → r < ITEMS_IN_BLOCK → q * ITEMS_IN_BLOCK + r < length (all_items bs) → Stands bs q r e
stands [] q r e f short inside = absurd (omega (arith, inside))
stands (b ∷ bs) zero r e f short inside =
    elim f.1 [
      | inl full ↦ stands_first b bs r e (omega (arith, full, short))
      | inr none ↦ stands_first b bs r e (omega (arith, inside, length-append b (all_items bs), ap length none))
    ]
stands (b ∷ bs) (suc q) r e f short inside =
    elim f.1 [
      | inl full ↦ stands_behind b bs q r e full (stands bs q r e f.2 short (omega (arith, inside, full, length-append b (all_items bs))))
      | inr none ↦ absurd (omega (arith, f.0, inside, length-append b (all_items bs), ap length none))
    ]

-- the place of item i
pub stands_at : {T : Type 0} (bs : List (List T)) (i : ℕ) (e : List T) → AreFilled bs → i < length (all_items bs) → Stands bs (i / ITEMS_IN_BLOCK) (i % ITEMS_IN_BLOCK) e
stands_at bs i e f inside = stands bs (i / ITEMS_IN_BLOCK) (i % ITEMS_IN_BLOCK) e f (mod-lt i (omega arith)) (omega (arith, inside, div-add-mod i ITEMS_IN_BLOCK))

pub item_at : {T : Type 0} (bs : List (List T)) (i : ℕ) (e : List T) (d : T) → Stands bs (i / ITEMS_IN_BLOCK) (i % ITEMS_IN_BLOCK) e → get_or (get_or bs (i / ITEMS_IN_BLOCK) e) (i % ITEMS_IN_BLOCK) d ≡ get_or (all_items bs) i d
item_at bs i e d s = sym (s.item d) ∙ ap (λ (k : ℕ). get_or (all_items bs) k d) (omega (arith, div-add-mod i ITEMS_IN_BLOCK))

-- ---- one more item

-- the block q holds r items, and with x behind them the blocks hold x behind all items
pub record IsPushed {T : Type 0} (bs : List (List T)) (q r : ℕ) (b : List T) (x : T) : Type 0 where
  pub before : length b ≡ r
  pub items : all_items (slice_set bs q (b ++ x ∷ [])) ≡ all_items bs ++ x ∷ []
  pub filled : AreFilled (slice_set bs q (b ++ x ∷ []))

pushed_first : {T : Type 0} (b : List T) (bs : List (List T)) (r : ℕ) (x : T) → AreFilled bs → r < ITEMS_IN_BLOCK → length b ≡ r → all_items bs ≡ [] → IsPushed (b ∷ bs) 0 r b x
pushed_first b bs r x f short len none = record {
  before = len;
  items = rw none (append-nil (b ++ x ∷ []) ∙ ap (λ ys. ys ++ x ∷ []) (sym (append-nil b)));
  filled = (omega (arith, len, length-append b (x ∷ [])), inr none, f);
}

pushed_behind : {T : Type 0} (a : List T) (bs : List (List T)) (q r : ℕ) (b : List T) (x : T) → length a ≡ ITEMS_IN_BLOCK → IsPushed bs q r b x → IsPushed (a ∷ bs) (suc q) r b x
pushed_behind a bs q r b x full p = record {
  before = p.before;
  items = ap (λ ys. a ++ ys) p.items ∙ sym (append_assoc a (all_items bs) (x ∷ []));
  filled = (omega (arith, full), inl full, p.filled);
}

pub pushed : {T : Type 0} (bs : List (List T)) (q r : ℕ) (e : List T) (x : T) → AreFilled bs → r < ITEMS_IN_BLOCK → length (all_items bs) ≡ q * ITEMS_IN_BLOCK + r → q < length bs → IsPushed bs q r (get_or bs q e) x
pushed [] q r e x f short len there = absurd (omega (arith, there))
pushed (b ∷ bs) zero r e x f short len there =
    elim f.1 [
      | inl full ↦ absurd (omega (arith, full, short, len, length-append b (all_items bs)))
      | inr none ↦ pushed_first b bs r x f.2 short (omega (arith, len, length-append b (all_items bs), ap length none)) none
    ]
pushed (b ∷ bs) (suc q) r e x f short len there =
    let full : length b ≡ ITEMS_IN_BLOCK = elim f.1 [
      | inl full ↦ full
      | inr none ↦ omega (arith, f.0, len, length-append b (all_items bs), ap length none)
    ] in
    pushed_behind b bs q r (get_or bs q e) x full (pushed bs q r e x f.2 short (omega (arith, full, len, length-append b (all_items bs))) (omega (arith, there)))

-- where there is room, behind the last of len items
pub pushed_last : {T : Type 0} (bs : List (List T)) (len : ℕ) (e : List T) (x : T) → AreFilled bs → length (all_items bs) ≡ len → 1 ≤ length bs * ITEMS_IN_BLOCK - length (all_items bs) → IsPushed bs (len / ITEMS_IN_BLOCK) (len % ITEMS_IN_BLOCK) (get_or bs (len / ITEMS_IN_BLOCK) e) x
pushed_last bs len e x f is room =
    let whole : len ≡ len / ITEMS_IN_BLOCK * ITEMS_IN_BLOCK + len % ITEMS_IN_BLOCK = omega (arith, div-add-mod len ITEMS_IN_BLOCK) in
    pushed bs (len / ITEMS_IN_BLOCK) (len % ITEMS_IN_BLOCK) e x f (mod-lt len (omega arith)) (is ∙ whole) (omega (arith, whole, is, room))

-- ---- one more block

pub items_more : {T : Type 0} (bs : List (List T)) → all_items (bs ++ [] ∷ []) ≡ all_items bs
items_more [] = refl
items_more (b ∷ bs) = ap (λ ys. b ++ ys) (items_more bs)

pub filled_more : {T : Type 0} (bs : List (List T)) → AreFilled bs → AreFilled (bs ++ [] ∷ [])
filled_more [] f = (omega arith, inr refl, tt)
filled_more (b ∷ bs) f =
    (f.0, elim f.1 [ inl full ↦ inl full | inr none ↦ inr (items_more bs ∙ none) ], filled_more bs f.2)
