-- Laws of what is pasted.
use Rattle.std.proofs.Common.{◌≡◌, ◌≢◌, ℕ, List, [], ◌∷◌, ◌++◌, Bool, true, false, not, ◌&&◌, ◌==◌, if◌then◌else◌, IsTrue, refl, ap, ◌∙◌, arith}
use Rattle.std.specs.List.{All}
use Rattle.std.proofs.lemmas.List.Elements.{All-head, All-nil, All-cons, All-tail}
use Rattle.terminal_keys.specs.declared.mode.Mode.{Mode}
use Rattle.terminal_keys.specs.declared.mode.Mode.TheVariants.{Typed, Pasted, Returned}
use Rattle.terminal_keys.specs.declared.mode.TheConstants.{NO_KEY}
use Rattle.terminal_keys.specs.Keys.{as_text, is_text, keys_in, keys_of, mode_after, passed}
use Rattle.terminal_keys.specs.Pastes.{is_harmless, pasted_text, PastesText}

pub ended : (m : Mode) (rest : List ℕ) → keys_in m (0x1B ∷ 0x5B ∷ 0x32 ∷ 0x30 ∷ 0x31 ∷ 0x7E ∷ rest) ≡ keys_of rest
ended Typed rest = refl
ended Pasted rest = refl
ended Returned rest = refl

no_escape : (b : ℕ) → b ≢ 0x1B → (b == 0x1B) ≡ false
no_escape b other = grind arith

pub plain_in : (m : Mode) (b : ℕ) (rest : List ℕ) → b ≢ 0x1B → keys_in m (b ∷ rest) ≡ passed m b ++ keys_in (mode_after m b) rest
plain_in m b rest other = rw (no_escape b other) refl

-- how a byte is read behind this one
abbrev mode_of : ℕ → Mode
mode_of before = if before == 0x0D then Returned else Pasted

abbrev passed_by : Bool → Bool → ℕ → List ℕ
passed_by true feed b = if feed then [] else as_text b ∷ []
passed_by false feed b = as_text b ∷ []

by_mode : (returned feed : Bool) (b : ℕ) → passed_by returned feed b ≡ (if returned && feed then [] else as_text b ∷ [])
by_mode true true b = refl
by_mode true false b = refl
by_mode false true b = refl
by_mode false false b = refl

passes : (returned : Bool) (b : ℕ) → passed (if returned then Returned else Pasted) b ≡ passed_by returned (b == 0x0A) b
passes true b = refl
passes false b = refl

follows : (returned : Bool) (b : ℕ) → mode_after (if returned then Returned else Pasted) b ≡ mode_of b
follows true b = refl
follows false b = refl

put_before : (test : Bool) (k : ℕ) (xs ys : List ℕ) → (if test then [] else k ∷ []) ++ (xs ++ ys) ≡ (if test then xs else k ∷ xs) ++ ys
put_before true k xs ys = refl
put_before false k xs ys = refl

pasted_from : (before : ℕ) (bytes rest : List ℕ) → All (λ b. b ≢ 0x1B) bytes
    → keys_in (mode_of before) (bytes ++ 0x1B ∷ 0x5B ∷ 0x32 ∷ 0x30 ∷ 0x31 ∷ 0x7E ∷ rest) ≡ pasted_text before bytes ++ keys_of rest
pasted_from before [] rest h = ended (mode_of before) rest
pasted_from before (b ∷ bs) rest h =
    let returned = before == 0x0D in
    let behind : List ℕ = bs ++ 0x1B ∷ 0x5B ∷ 0x32 ∷ 0x30 ∷ 0x31 ∷ 0x7E ∷ rest in
    let test = returned && b == 0x0A in
    let key : passed (mode_of before) b ≡ (if test then [] else as_text b ∷ []) = passes returned b ∙ by_mode returned (b == 0x0A) b in
    plain_in (mode_of before) b behind (All-head (λ x. x ≢ 0x1B) b bs h)
    ∙ ap (λ (l : List ℕ). l ++ keys_in (mode_after (mode_of before) b) behind) key
    ∙ ap (λ (m : Mode). (if test then [] else as_text b ∷ []) ++ keys_in m behind) (follows returned b)
    ∙ ap (λ (l : List ℕ). (if test then [] else as_text b ∷ []) ++ l) (pasted_from b bs rest (All-tail (λ x. x ≢ 0x1B) b bs h))
    ∙ put_before test (as_text b) (pasted_text b bs) (keys_of rest)

pub text_between_marks : (bytes : List ℕ) → All (λ b. b ≢ 0x1B) bytes → PastesText bytes
text_between_marks bytes h = λ rest. pasted_from 0 bytes rest h

-- what is put down is text, or no key
abbrev IsHarmless : ℕ → Type 0
IsHarmless b = IsTrue (is_harmless b)

harmless : (text : Bool) (b : ℕ) → is_text b ≡ text → IsHarmless (if text then b else NO_KEY)
harmless true b is = rw is refl
harmless false b is = refl

only_harmless : (test : Bool) (b : ℕ) (xs : List ℕ) → All IsHarmless xs → All IsHarmless (if test then xs else as_text b ∷ xs)
only_harmless true b xs h = h
only_harmless false b xs h = All-cons IsHarmless (as_text b) xs (harmless (is_text b) b refl) h

pub text_is : (before : ℕ) (bytes : List ℕ) → All IsHarmless (pasted_text before bytes)
text_is before [] = All-nil IsHarmless
text_is before (b ∷ bs) = only_harmless (before == 0x0D && b == 0x0A) b (pasted_text b bs) (text_is b bs)
