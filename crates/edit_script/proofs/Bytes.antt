-- Bytes in quotes, one after the other.
use Rattle.std.proofs.Common.{◌≡◌, ℕ, zero, suc, ◌+◌, ◌*◌, ◌-◌, ◌<◌, ◌≤◌, true, false, cond, ltb, eqb, List, [], ◌∷◌, ◌++◌, length, get_or, take, drop, Option, Some, None, refl, sym, ap, subst, ◌∙◌, append_assoc, length-append, arith, inl, inr}
use Rattle.std.specs.Char.{digit_value}
use Rattle.std.proofs.lemmas.Bool.{eq-eqb, ne_eqb, eqb-true, ltb-true, lt-ltb, cases_Bool, false≢true}
use Rattle.std.proofs.lemmas.List.{append-nil, take_all}
use Rattle.edit_script.specs.declared.fault.LineFault.{LineFault}
use Rattle.edit_script.specs.declared.fault.LineFault.TheVariants.{NoCommand, Memory}
use Rattle.edit_script.specs.Words.{SpellsByte, plain, short, hex, is_plain, escape_of}
use Rattle.edit_script.specs.Reading.{Fails, hex_digit, hex_at, escape_at, byte_at, unquoted}
use Rattle.command_parts.specs.Commands.{◌>>=◌}
use Rattle.edit_script.proofs.Choices.{chosen, passed, bind_some, bind_same, some_is}

abbrev Stands : ℕ × List ℕ → List ℕ → Type 0
Stands x t = (text : List ℕ) × SpellsByte x.0 text × (t ≡ text ++ x.1)

hex_back : (t : List ℕ) (x : ℕ × List ℕ) → hex_at t ≡ Some x → Stands x (92 ∷ 120 ∷ t)
hex_back [] x e = absurd cc
hex_back (h ∷ []) x e = absurd cc
hex_back (h ∷ l ∷ t) x e =
    let a = bind_some (hex_digit h) (λ a. hex_digit l >>= λ b. Some (a * 16 + b, t)) x e in
    let b = bind_some (hex_digit l) (λ b. Some (a.0 * 16 + b, t)) x a.2 in
    let high = passed (ltb (digit_value h) 16) (digit_value h) a.0 a.1 in
    let low = passed (ltb (digit_value l) 16) (digit_value l) b.0 b.1 in
    let value : a.0 * 16 + b.0 ≡ digit_value h * 16 + digit_value l = omega (arith, high.1, low.1) in
    let made : ℕ × List ℕ = (a.0 * 16 + b.0, t) in
    subst (λ (y : ℕ × List ℕ). Stands y (92 ∷ 120 ∷ h ∷ l ∷ t)) (some_is made x b.2)
    (92 ∷ 120 ∷ h ∷ l ∷ [], hex h l (ltb-true _ _ high.0) (ltb-true _ _ low.0) value refl, refl)

escape_back : (t : List ℕ) (x : ℕ × List ℕ) → escape_at t ≡ Some x → Stands x (92 ∷ t)
escape_back [] x e = absurd cc
escape_back (c ∷ t) x e =
    elim (chosen (eqb c 120) (hex_at t) (escape_of c >>= λ b. Some (b, t)) (Some x) e) [
      | inl p ↦ subst (λ (d : ℕ). Stands x (92 ∷ d ∷ t)) (sym (eqb-true c 120 p.0)) (hex_back t x p.1)
      | inr p ↦
          let b = bind_some (escape_of c) (λ b. Some (b, t)) x p.1 in
          let made : ℕ × List ℕ = (b.0, t) in
          subst (λ (y : ℕ × List ℕ). Stands y (92 ∷ c ∷ t)) (some_is made x b.2) (92 ∷ c ∷ [], short c b.1 refl, refl)
    ]

-- what is read at the front is written there
pub byte_back : (t : List ℕ) (x : ℕ × List ℕ) → byte_at t ≡ Some x → (text : List ℕ) × SpellsByte x.0 text × (t ≡ text ++ x.1)
byte_back [] x e = absurd cc
byte_back (c ∷ t) x e =
    elim (chosen (eqb c 92) (escape_at t) (cond (is_plain c) (Some (c, t)) None) (Some x) e) [
      | inl p ↦ subst (λ (d : ℕ). Stands x (d ∷ t)) (sym (eqb-true c 92 p.0)) (escape_back t x p.1)
      | inr p ↦
          let made : ℕ × List ℕ = (c, t) in
          let q = passed (is_plain c) made x p.1 in
          subst (λ (y : ℕ × List ℕ). Stands y (c ∷ t)) q.1 (c ∷ [], plain q.0 refl, refl)
    ]

plain_is_no_backslash : (b : ℕ) → is_plain b ≡ true → eqb b 92 ≡ false
plain_is_no_backslash b h =
    elim (cases_Bool (eqb b 92)) [
      | inl e ↦ absurd (false≢true (subst (λ (c : ℕ). is_plain c ≡ true) (eqb-true b 92 e) h))
      | inr e ↦ e
    ]

short_is_no_hex : (e b : ℕ) → escape_of e ≡ Some b → eqb e 120 ≡ false
short_is_no_hex e b h =
    elim (cases_Bool (eqb e 120)) [
      | inl is ↦ let none : None ≡ Some b = subst (λ (c : ℕ). escape_of c ≡ Some b) (eqb-true e 120 is) h in absurd cc
      | inr is ↦ is
    ]

-- what is written at the front is read there
pub byte_again : (b : ℕ) (text rest : List ℕ) → SpellsByte b text → byte_at (text ++ rest) ≡ Some (b, rest)
byte_again b text rest (plain is e) = rw (e, is, plain_is_no_backslash b is) refl
byte_again b text rest (short c is e) = rw (e, short_is_no_hex c b is, is) refl
byte_again b text rest (hex h l high low is e) = rw (e, lt-ltb _ _ high, lt-ltb _ _ low, is) refl

pub spelled_is_some : (b : ℕ) (text : List ℕ) → SpellsByte b text → 0 < length text
spelled_is_some b text (plain is e) = rw e (omega arith)
spelled_is_some b text (short c is e) = rw e (omega arith)
spelled_is_some b text (hex h l high low is e) = rw e (omega arith)

pub byte_shrinks : (t : List ℕ) (x : ℕ × List ℕ) → byte_at t ≡ Some x → length x.1 < length t
byte_shrinks t x e =
    let s = byte_back t x e in
    omega (arith, spelled_is_some x.0 s.0 s.1, ap length s.2, length-append s.0 x.1)

-- more steps than bytes change nothing
enough : (k m : ℕ) (t : List ℕ) → length t ≤ k → length t ≤ m → unquoted k t ≡ unquoted m t
unfolding unquoted
enough zero zero t a b = refl
enough zero (suc m) [] a b = refl
enough zero (suc m) (c ∷ t) a b = absurd (omega arith)
enough (suc k) zero [] a b = refl
enough (suc k) zero (c ∷ t) a b = absurd (omega arith)
enough (suc k) (suc m) [] a b = refl
enough (suc k) (suc m) (c ∷ t) a b =
    ap (λ (r : Option (List ℕ × List ℕ)). cond (eqb c 34) (Some ([], t)) r)
    (bind_same (byte_at (c ∷ t)) (λ x. unquoted k x.1 >>= λ y. Some (x.0 ∷ y.0, y.1)) (λ x. unquoted m x.1 >>= λ y. Some (x.0 ∷ y.0, y.1))
    (λ x e. ap (λ (r : Option (List ℕ × List ℕ)). r >>= λ y. Some (x.0 ∷ y.0, y.1))
    (enough k m x.1 (omega (arith, byte_shrinks (c ∷ t) x e)) (omega (arith, byte_shrinks (c ∷ t) x e)))))

-- ---- as a loop reads them

-- what was read before, and what is still read
abbrev pub with_front : List ℕ → Option (List ℕ × List ℕ) → Option (List ℕ × List ℕ)
with_front bytes read = read >>= λ y. Some (bytes ++ y.0, y.1)

regroup : (bytes : List ℕ) (b : ℕ) (read : Option (List ℕ × List ℕ)) → with_front bytes (read >>= λ y. Some (b ∷ y.0, y.1)) ≡ with_front (bytes ++ b ∷ []) read
regroup bytes b (Some y) = ap (λ (bs : List ℕ). Some (bs, y.1)) (sym (append_assoc bytes (b ∷ []) y.0))
regroup bytes b None = refl

pub goes_on : (bytes t : List ℕ) (c b : ℕ) (after : List ℕ) → eqb c 34 ≡ false → byte_at (c ∷ t) ≡ Some (b, after)
    → with_front (bytes ++ b ∷ []) (unquoted (length after) after) ≡ with_front bytes (unquoted (length (c ∷ t)) (c ∷ t))
unfolding unquoted
goes_on bytes t c b after ne read =
    let shorter = byte_shrinks (c ∷ t) (b, after) read in
    let same : unquoted (length t) after ≡ unquoted (length after) after = enough (length t) (length after) after (omega arith) (omega arith) in
    sym (regroup bytes b (unquoted (length after) after)) ∙ rw (read, ne, same) refl

pub fails_on : (bytes t : List ℕ) (c : ℕ) → eqb c 34 ≡ false → byte_at (c ∷ t) ≡ None → with_front bytes (unquoted (length (c ∷ t)) (c ∷ t)) ≡ None
unfolding unquoted
fails_on bytes t c ne read = rw (read, ne) refl

pub ends_on : (bytes t : List ℕ) (c : ℕ) → eqb c 34 ≡ true → with_front bytes (unquoted (length (c ∷ t)) (c ∷ t)) ≡ Some (bytes ++ [], t)
unfolding unquoted
ends_on bytes t c e = rw e refl

pub none_on : (bytes : List ℕ) → with_front bytes (unquoted 0 []) ≡ None
unfolding unquoted
none_on bytes = refl

-- ---- at the slices of the loop

pub ends_at : (bytes t : List ℕ) (total : Option (List ℕ × List ℕ)) → 1 ≤ length t → get_or t 0 0 ≡ 34
    → with_front bytes (unquoted (length t) t) ≡ total → total ≡ Some (bytes, take (length t - 1) (drop 1 t))
ends_at bytes [] total some is so_far = absurd (omega arith)
ends_at bytes (c ∷ t) total some is so_far =
    let rest : take (length (c ∷ t) - 1) t ≡ t = take_all (length (c ∷ t) - 1) t (omega arith) in
    sym so_far ∙ ends_on bytes t c (eq-eqb c 34 is) ∙ ap (λ (x : List ℕ × List ℕ). Some x) (ap (λ (bs : List ℕ). (bs, t)) (append-nil bytes) ∙ ap (λ (r : List ℕ). (bytes, r)) (sym rest))

pub fails_at : (e : LineFault) (bytes t : List ℕ) (total : Option (List ℕ × List ℕ)) → 1 ≤ length t → (get_or t 0 0 ≡ 34 → ⊥)
    → Fails e (byte_at t) → with_front bytes (unquoted (length t) t) ≡ total → Fails e total
fails_at e bytes [] total some ne read so_far = absurd (omega arith)
fails_at NoCommand bytes (c ∷ t) total some ne read so_far = sym so_far ∙ fails_on bytes t c (ne_eqb c 34 ne) read
fails_at Memory bytes (c ∷ t) total some ne read so_far = tt

pub goes_at : (bytes t : List ℕ) (b : ℕ) (after : List ℕ) (total : Option (List ℕ × List ℕ)) → 1 ≤ length t → (get_or t 0 0 ≡ 34 → ⊥)
    → byte_at t ≡ Some (b, after) → with_front bytes (unquoted (length t) t) ≡ total
    → with_front (bytes ++ b ∷ []) (unquoted (length after) after) ≡ total
goes_at bytes [] b after total some ne read so_far = absurd (omega arith)
goes_at bytes (c ∷ t) b after total some ne read so_far = goes_on bytes t c b after (ne_eqb c 34 ne) read ∙ so_far

pub none_at : (bytes t : List ℕ) (total : Option (List ℕ × List ℕ)) → length t < 1
    → with_front bytes (unquoted (length t) t) ≡ total → total ≡ None
none_at bytes [] total none so_far = sym so_far ∙ none_on bytes
none_at bytes (c ∷ t) total none so_far = absurd (omega arith)
