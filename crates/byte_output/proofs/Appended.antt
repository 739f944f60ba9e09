-- What is known of bytes written one piece after the other.
use Rattle.std.proofs.Common.{◌≡◌, ℕ, zero, suc, ◌+◌, List, [], ◌∷◌, ◌++◌, take, drop, Option, Some, None, refl, sym, ap, subst, ◌∙◌, append_assoc}
use Rattle.std.specs.Io.KnownBytes.{Appends}
use Rattle.std.proofs.Math.Seq.{take-add}
use Rattle.byte_output.specs.Prefix.{AppendsPrefix}

-- two pieces, one after the other
pub Appends-then : (a b c : Option (List ℕ)) (n m : ℕ) (bs : List ℕ) → Appends a b (take n bs) → Appends b c (take m (drop n bs)) → Appends a c (take (n + m) bs)
Appends-then None b c n m bs h k = tt
Appends-then (Some xs) None c n m bs h k = absurd h
Appends-then (Some xs) (Some ys) None n m bs h k = absurd k
Appends-then (Some xs) (Some ys) (Some zs) n m bs h k =
    k ∙ ap (λ (v : List ℕ). v ++ take m (drop n bs)) h ∙ append_assoc xs (take n bs) (take m (drop n bs)) ∙ ap (λ (v : List ℕ). xs ++ v) (sym (take-add n m bs))

-- a prefix of a prefix is one
prefix_of_prefix : (k m : ℕ) (bs : List ℕ) → (j : ℕ) × (take k (take m bs) ≡ take j bs)
prefix_of_prefix zero m bs = (0, refl)
prefix_of_prefix (suc k) zero bs = (0, refl)
prefix_of_prefix (suc k) (suc m) [] = (0, refl)
prefix_of_prefix (suc k) (suc m) (x ∷ xs) = let p = prefix_of_prefix k m xs in (suc p.0, ap (λ (ys : List ℕ). x ∷ ys) p.1)

-- a piece, and then a prefix of the next
pub Appends-then_prefix : (a b c : Option (List ℕ)) (n m : ℕ) (bs : List ℕ) → Appends a b (take n bs) → AppendsPrefix b c (take m (drop n bs)) → AppendsPrefix a c bs
Appends-then_prefix a b c n m bs h (k, more) =
    let p = prefix_of_prefix k m (drop n bs) in
    (n + p.0, Appends-then a b c n p.0 bs h (subst (λ (v : List ℕ). Appends b c v) p.1 more))
