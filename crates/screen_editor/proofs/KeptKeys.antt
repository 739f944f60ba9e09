-- Which keys a journal keeps.
use Rattle.std.proofs.Common.{◌≡◌, ℕ, List, [], ◌∷◌, ◌++◌, Bool, true, false, not, ◌&&◌, ◌||◌, ◌==◌, nat_le, if◌then◌else◌, inl, inr, ◌⊎◌, refl, sym, ap, subst, ◌∙◌, append-nil}
use borrow.Author.Tests.{eqb-true}
use Rattle.std.proofs.lemmas.List.Elements.{All-head, All-tail}
use Rattle.key_journal.specs.Keys.{goes_on, kept_of}
use Rattle.screen_editor.specs.declared.key.Key.{Key}
use Rattle.screen_editor.specs.declared.key.Key.TheVariants.{Typed}
use Rattle.screen_editor.specs.declared.key.Step.{Step}
use Rattle.screen_editor.specs.Keys.{answer_to, key_in, key_of, key_table}
use Rattle.screen_editor.specs.Playing.{EndsRun}
use Rattle.screen_editor.specs.Runs.{NoKeyEndsRun}
use Rattle.screen_editor.proofs.Playing.{kept_append}

abbrev Continues : ℕ → Type 0
Continues b = answer_to (key_of b) ≡ Step.Going

abbrev is_going : Step → Bool
is_going Step.Going = true
is_going _ = false

going_is : (step : Step) → is_going step ≡ true → step ≡ Step.Going
going_is Step.Going h = refl
going_is Step.Save h = absurd cc
going_is Step.Leave h = absurd cc

-- each byte of the rows that is kept ends no run
abbrev are_rows_kept : List (ℕ × Key) → Bool
are_rows_kept [] = true
are_rows_kept (row ∷ rows) = (not (goes_on row.0) || is_going (answer_to row.1)) && are_rows_kept rows

both : (x y : Bool) → (x && y) ≡ true → (x ≡ true) × (y ≡ true)
both true y h = (refl, h)
both false y h = absurd cc

going_row : (is_kept goes : Bool) → is_kept ≡ true → (not is_kept || goes) ≡ true → goes ≡ true
going_row true goes kept h = h
going_row false goes kept h = absurd cc

by_row : (test : Bool) (b : ℕ) (row : ℕ × Key) (other : Key) → (b == row.0) ≡ test → goes_on b ≡ true
    → (not (goes_on row.0) || is_going (answer_to row.1)) ≡ true → answer_to other ≡ Step.Going → answer_to (if test then row.1 else other) ≡ Step.Going
by_row true b row other is kept h k = going_is (answer_to row.1) (going_row (goes_on row.0) (is_going (answer_to row.1)) (subst (λ (n : ℕ). goes_on n ≡ true) (eqb-true b row.0 is) kept) h)
by_row false b row other is kept h k = k

kept_in : (rows : List (ℕ × Key)) (b : ℕ) → are_rows_kept rows ≡ true → goes_on b ≡ true → answer_to (key_in rows b) ≡ Step.Going
kept_in [] b h kept = refl
kept_in (row ∷ rows) b h kept =
    let each = both (not (goes_on row.0) || is_going (answer_to row.1)) (are_rows_kept rows) h in
    by_row (b == row.0) b row (key_in rows b) refl kept each.0 (kept_in rows b each.1 kept)

printed : (test : Bool) (b : ℕ) (other : Key) → answer_to other ≡ Step.Going → answer_to (if test then Typed b else other) ≡ Step.Going
printed true b other h = refl
printed false b other h = h

-- a key that is kept ends no run
kept_continues : (b : ℕ) → goes_on b ≡ true → Continues b
kept_continues b kept = printed (nat_le 0x20 b && nat_le b 0x7E) b (key_in key_table b) (kept_in key_table b refl kept)

not_kept : (save leave : Bool) → (not save && not leave) ≡ false → (save ≡ true) ⊎ (leave ≡ true)
not_kept true leave h = inl refl
not_kept false true h = inr refl
not_kept false false h = absurd cc

not_both : (b : ℕ) → goes_on b ≡ false → EndsRun b
not_both b h going = elim (not_kept (b == 0x18) (b == 0x03) h) [
  | inl e ↦ (let is : b ≡ 0x18 = eqb-true b 0x18 e in let save : Step.Save ≡ Step.Going = ap (λ (n : ℕ). answer_to (key_of n)) (sym is) ∙ going in absurd cc)
  | inr e ↦ (let is : b ≡ 0x03 = eqb-true b 0x03 e in let leave : Step.Leave ≡ Step.Going = ap (λ (n : ℕ). answer_to (key_of n)) (sym is) ∙ going in absurd cc)
]

-- by cases of a test, with its value
kept_first : (test : Bool) (b : ℕ) → goes_on b ≡ test → Continues b → goes_on b ≡ true
kept_first true b is h = is
kept_first false b is h = absurd (not_both b is h)

pub going_kept : (keys : List ℕ) → NoKeyEndsRun keys → kept_of keys ≡ keys
going_kept [] h = refl
going_kept (b ∷ bs) h =
    let first : goes_on b ≡ true = kept_first (goes_on b) b refl (All-head Continues b bs h) in
    rw first (ap (λ (l : List ℕ). b ∷ l) (going_kept bs (All-tail Continues b bs h)))

not_last : (test : Bool) (b : ℕ) → goes_on b ≡ test → EndsRun b → kept_of (b ∷ []) ≡ []
not_last true b is h = absurd (h (kept_continues b is))
not_last false b is h = rw is refl

pub ended_kept : (before : List ℕ) (last : ℕ) → NoKeyEndsRun before → EndsRun last → kept_of (before ++ last ∷ []) ≡ before
ended_kept before last h ends =
    kept_append before (last ∷ []) ∙ ap (λ (l : List ℕ). kept_of before ++ l) (not_last (goes_on last) last refl ends) ∙ append-nil (kept_of before) ∙ going_kept before h
