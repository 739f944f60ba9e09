-- The payloads of functions: bytes in front, and zeros behind them.
use Rattle.std.proofs.Common.{◌≡◌, ℕ, zero, suc, ◌+◌, ◌-◌, ◌<◌, ◌≤◌, false, not, eqb, ◌||◌, List, [], ◌∷◌, ◌++◌, length, get_or, take, drop, refl, sym, ap, ◌∙◌, arith}
use Rattle.std.specs.Prelude.{replicate}
use Rattle.std.proofs.lemmas.List.{at_drop_more, length-append, length-replicate, length-take-le, length-drop, take-append-drop, drop_at, take_at}
use Rattle.function_leaf.specs.Pattern.{padded}
use Rattle.image_reader.specs.Reading.{any_nonzero}
use Rattle.image_reader.proofs.Faults.{zero_first}

-- one byte further on
pub any_nonzero_after : (xs : List ℕ) (i : ℕ) → i < length xs → any_nonzero (drop i xs) ≡ (not (eqb (get_or xs i 0) 0) || any_nonzero (drop (i + 1) xs))
any_nonzero_after xs i lt = at_drop_more any_nonzero xs i 0 lt

-- what has nothing but zeros is zeros
zeros_back : (xs : List ℕ) → any_nonzero xs ≡ false → xs ≡ replicate (length xs) 0
zeros_back [] e = refl
zeros_back (x ∷ xs) e =
    let parts = zero_first x xs e in
    let others : xs ≡ replicate (length xs) 0 = zeros_back xs parts.1 in
    rw parts.0 (ap (λ (ys : List ℕ). 0 ∷ ys) others)

pub zeros_again : (n : ℕ) → any_nonzero (replicate n 0) ≡ false
zeros_again zero = refl
zeros_again (suc n) = zeros_again n

-- the bytes in front, padded again, are all of them
pub padded_back : (xs : List ℕ) (n : ℕ) → length xs ≡ 16 → n ≤ 16 → any_nonzero (drop n xs) ≡ false → padded (take n xs) ≡ xs
padded_back xs n len le none =
    let front : length (take n xs) ≡ n = length-take-le n xs (omega arith) in
    let behind : length (drop n xs) ≡ 16 - n = omega (arith, length-drop n xs) in
    let zeros : replicate (16 - n) 0 ≡ drop n xs = ap (λ (k : ℕ). replicate k 0) (sym behind) ∙ sym (zeros_back (drop n xs) none) in
    ap (λ (k : ℕ). take n xs ++ replicate (16 - k) 0) front ∙ ap (λ (ys : List ℕ). take n xs ++ ys) zeros ∙ take-append-drop n xs

pub length-padded : (xs : List ℕ) → length xs ≤ 16 → length (padded xs) ≡ 16
length-padded xs le = omega (arith, length-append xs (replicate (16 - length xs) 0), length-replicate {A = ℕ} (16 - length xs) 0)

pub take-padded : (xs : List ℕ) → take (length xs) (padded xs) ≡ xs
take-padded xs = take_at xs (replicate (16 - length xs) 0) (length xs) refl

pub drop-padded : (xs : List ℕ) → any_nonzero (drop (length xs) (padded xs)) ≡ false
drop-padded xs = ap any_nonzero (drop_at xs (replicate (16 - length xs) 0) (length xs) refl) ∙ zeros_again (16 - length xs)
