-- Bytes in quotes are read just where they stand.
use Rattle.std.proofs.Common.{◌≡◌, ℕ, zero, suc, ◌<◌, true, false, cond, eqb, List, [], ◌∷◌, ◌++◌, length, Some, None, refl, sym, ap, subst, ◌∙◌, append_assoc, length-append, arith, inl, inr}
use Rattle.std.proofs.lemmas.Bool.{cases_Bool, eqb-true, false≢true}
use Rattle.edit_script.specs.Words.{Quoted, BeginsWith, IsBehindWord, SpellsByte, plain, short, hex, SpellsBytes, is_plain, behind_blanks}
use Rattle.edit_script.specs.Reading.{byte_at, unquoted, is_behind_word, opened, quoted_at}
use Rattle.command_parts.specs.Commands.{◌>>=◌}
use Rattle.edit_script.proofs.Choices.{chosen, passed, bind_some, some_is}
use Rattle.edit_script.proofs.Bytes.{byte_back, byte_again, spelled_is_some}

abbrev Closes : List ℕ × List ℕ → List ℕ → Type 0
Closes x t = (inner : List ℕ) × SpellsBytes x.0 inner × (t ≡ inner ++ 34 ∷ x.1)

unquoted_back : (k : ℕ) (t : List ℕ) (x : List ℕ × List ℕ) → unquoted k t ≡ Some x → Closes x t
unfolding unquoted
unquoted_back zero t x e = absurd cc
unquoted_back (suc k) [] x e = absurd cc
unquoted_back (suc k) (c ∷ t) x e =
    elim (chosen (eqb c 34) (Some ([], t)) (byte_at (c ∷ t) >>= λ x. unquoted k x.1 >>= λ y. Some (x.0 ∷ y.0, y.1)) (Some x) e) [
      | inl p ↦
          let made : List ℕ × List ℕ = ([], t) in
          subst (λ (y : List ℕ × List ℕ). Closes y (c ∷ t)) (some_is made x p.1) ([], refl, ap (λ (d : ℕ). d ∷ t) (eqb-true c 34 p.0))
      | inr p ↦
          let first = bind_some (byte_at (c ∷ t)) (λ x. unquoted k x.1 >>= λ y. Some (x.0 ∷ y.0, y.1)) x p.1 in
          let others = bind_some (unquoted k first.0.1) (λ y. Some (first.0.0 ∷ y.0, y.1)) x first.2 in
          let b = byte_back (c ∷ t) first.0 first.1 in
          let bs = unquoted_back k first.0.1 others.0 others.1 in
          let made : List ℕ × List ℕ = (first.0.0 ∷ others.0.0, others.0.1) in
          subst (λ (y : List ℕ × List ℕ). Closes y (c ∷ t)) (some_is made x others.2)
          (b.0 ++ bs.0, (b.0, bs.0, b.1, bs.1, refl), b.2 ∙ ap (λ (r : List ℕ). b.0 ++ r) bs.2 ∙ sym (append_assoc b.0 bs.0 (34 ∷ others.0.1)))
    ]

plain_is_no_quote : (b : ℕ) → is_plain b ≡ true → eqb b 34 ≡ false
plain_is_no_quote b h =
    elim (cases_Bool (eqb b 34)) [
      | inl e ↦ absurd (false≢true (subst (λ (c : ℕ). is_plain c ≡ true) (eqb-true b 34 e) h))
      | inr e ↦ e
    ]

abbrev head_is_no_quote : List ℕ → Type 0
head_is_no_quote [] = ⊥
head_is_no_quote (c ∷ t) = eqb c 34 ≡ false

begins_with_no_quote : (b : ℕ) (text : List ℕ) → SpellsByte b text → head_is_no_quote text
begins_with_no_quote b text (plain is e) = rw e (plain_is_no_quote b is)
begins_with_no_quote b text (short c is e) = rw e refl
begins_with_no_quote b text (hex h l high low is e) = rw e refl

-- one step at bytes that stand there
step_is : (k b : ℕ) (first rest : List ℕ) → SpellsByte b first → unquoted (suc k) (first ++ rest) ≡ (unquoted k rest >>= λ y. Some (b ∷ y.0, y.1))
unfolding unquoted
step_is k b [] rest h = absurd (begins_with_no_quote b [] h)
step_is k b (c ∷ first) rest h = rw (byte_again b (c ∷ first) rest h, begins_with_no_quote b (c ∷ first) h) refl

end_is : (k : ℕ) (rest : List ℕ) → unquoted (suc k) (34 ∷ rest) ≡ Some ([], rest)
unfolding unquoted
end_is k rest = refl

unquoted_again : (k : ℕ) (bytes inner rest : List ℕ) → SpellsBytes bytes inner → length inner < k → unquoted k (inner ++ 34 ∷ rest) ≡ Some (bytes, rest)
unquoted_again zero bytes inner rest h few = absurd (omega arith)
unquoted_again (suc k) [] inner rest h few = rw h (end_is k rest)
unquoted_again (suc k) (b ∷ bytes) inner rest h few =
    let first = h.0 in
    let more = h.1 in
    let some = spelled_is_some b first h.2 in
    let regrouped : inner ++ 34 ∷ rest ≡ first ++ (more ++ 34 ∷ rest) = ap (λ (t : List ℕ). t ++ 34 ∷ rest) h.4 ∙ append_assoc first more (34 ∷ rest) in
    let shorter : length more < k = omega (arith, ap length h.4, length-append first more) in
    ap (unquoted (suc k)) regrouped ∙ step_is k b first (more ++ 34 ∷ rest) h.2 ∙ rw (unquoted_again k bytes more rest h.3 shorter) refl

behind_word : (t : List ℕ) → is_behind_word t ≡ true → IsBehindWord t
behind_word [] h = tt
behind_word (b ∷ t) h = h

is_behind : (t : List ℕ) → IsBehindWord t → is_behind_word t ≡ true
is_behind [] h = refl
is_behind (b ∷ t) h = h

opened_back : (t : List ℕ) (x : List ℕ × List ℕ) → opened t ≡ Some x → (inner : List ℕ) × SpellsBytes x.0 inner × (t ≡ 34 ∷ inner ++ 34 ∷ x.1)
opened_back [] x e = absurd cc
opened_back (b ∷ t) x e =
    elim (chosen (eqb b 34) (unquoted (length t) t) None (Some x) e) [
      | inl p ↦
          let c = unquoted_back (length t) t x p.1 in
          (c.0, c.1, ap (λ (d : ℕ). d ∷ t) (eqb-true b 34 p.0) ∙ ap (λ (r : List ℕ). 34 ∷ r) c.2)
      | inr p ↦ let none : None ≡ Some x = p.1 in absurd cc
    ]

-- bytes in quotes that are read stand there
pub quoted_back : (line : List ℕ) (x : List ℕ × List ℕ) → quoted_at line ≡ Some x → BeginsWith line (Quoted x.0) x.1
quoted_back line x e =
    let y = bind_some (opened (behind_blanks line)) (λ y. cond (is_behind_word y.1) (Some y) None) x e in
    let p = passed (is_behind_word y.0.1) y.0 x y.2 in
    let c = opened_back (behind_blanks line) y.0 y.1 in
    subst (λ (z : List ℕ × List ℕ). BeginsWith line (Quoted z.0) z.1) p.1
    (record {
      text = 34 ∷ c.0 ++ 34 ∷ [];
      spelled = (c.0, c.1, refl);
      parts = c.2 ∙ ap (λ (r : List ℕ). 34 ∷ r) (sym (append_assoc c.0 (34 ∷ []) y.0.1));
      ends = behind_word y.0.1 p.0;
    })

-- bytes in quotes that stand there are read
pub quoted_again : (line bytes rest : List ℕ) → BeginsWith line (Quoted bytes) rest → quoted_at line ≡ Some (bytes, rest)
quoted_again line bytes rest b =
    let inner = b.spelled.0 in
    let parts : behind_blanks line ≡ 34 ∷ (inner ++ 34 ∷ rest) =
    b.parts ∙ ap (λ (t : List ℕ). t ++ rest) b.spelled.2 ∙ ap (λ (r : List ℕ). 34 ∷ r) (append_assoc inner (34 ∷ []) rest) in
    let few : length inner < length (inner ++ 34 ∷ rest) = omega (arith, length-append inner (34 ∷ rest)) in
    let read : opened (behind_blanks line) ≡ Some (bytes, rest) = ap opened parts ∙ unquoted_again (length (inner ++ 34 ∷ rest)) bytes inner rest b.spelled.1 few in
    rw (read, is_behind rest b.ends) refl
