-- The rest of a literal in a pool.
use Rattle.std.proofs.Common.{◌≡◌, ℕ, ◌+◌, ◌-◌, ◌≤◌, List, length, take, drop, slice_range, ap, sym, ◌∙◌, arith}
use Rattle.std.proofs.lemmas.List.{drop-drop, drop-take, take_rest}

-- the bytes of a literal of length n from its byte off on
pub literal_rest : (pool : List ℕ) (a n off : ℕ) (bytes : List ℕ) → off ≤ n → bytes ≡ slice_range pool a (a + n) → take (length bytes - off) (drop off bytes) ≡ slice_range pool (a + off) (a + n)
literal_rest pool a n off bytes le is =
    let whole : (a + n) - a ≡ off + (n - off) = omega arith in
    let left : (a + n) - (a + off) ≡ n - off = omega arith in
    take_rest bytes off
    ∙ ap (drop off) (is ∙ ap (λ (k : ℕ). take k (drop a pool)) whole)
    ∙ drop-take off (n - off) (drop a pool)
    ∙ ap (take (n - off)) (drop-drop off a pool)
    ∙ ap (λ (k : ℕ). take k (drop (a + off) pool)) (sym left)
