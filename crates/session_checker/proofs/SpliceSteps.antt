-- The splices of a command tested one behind the other.
use Rattle.std.proofs.Common.{◌≡◌, ℕ, ◌+◌, ◌-◌, ◌^◌, ◌<◌, ◌≤◌, Bool, true, false, List, [], ◌∷◌, take, drop, Some, refl, ap, ◌∙◌, arith}
use Rattle.std.specs.Prelude.{◌↔◌, min, nat_le, nat_lt, ◌&&◌, slice_get}
use Rattle.std.specs.List.{list_all, sum_by}
use Rattle.std.proofs.lemmas.List.Sums.{sum_by-cons}
use Rattle.rope_node.specs.declared.limits.TheConstants.{TEXT_LIMIT}
use Rattle.command_parts.specs.declared.edit.Splice.{Splice}
use Rattle.command_parts.specs.Commands.{are_apart, is_splice}
use Rattle.command_parts.proofs.Cutting.{left_of}

-- the next splice, and those behind it
pub next_left : (all : List Splice) (first count i : ℕ) (s : Splice) → i < count → slice_get all (first + i) ≡ Some s → take (count - i) (drop (first + i) all) ≡ s ∷ take (count - (i + 1)) (drop (first + (i + 1)) all)
next_left all first count i s lt is =
    let fewer : (count - i) - 1 ≡ count - (i + 1) = omega arith in
    let later : (first + i) + 1 ≡ first + (i + 1) = omega arith in
    left_of all (first + i) (count - i) s (omega (arith, lt)) is
    ∙ ap (λ (n : ℕ). s ∷ take n (drop ((first + i) + 1) all)) fewer
    ∙ ap (λ (n : ℕ). s ∷ take (count - (i + 1)) (drop n all)) later

-- from the first on
pub all_left : (all : List Splice) (first count : ℕ) → take count (drop first all) ≡ take (count - 0) (drop (first + 0) all)
all_left all first count =
    let same : count ≡ count - 0 = omega arith in
    let same' : first ≡ first + 0 = omega arith in
    ap (λ (n : ℕ). take n (drop first all)) same ∙ ap (λ (n : ℕ). take (count - 0) (drop n all)) same'

pub none_left : (all : List Splice) (first count i : ℕ) → count ≤ i → take (count - i) (drop (first + i) all) ≡ []
none_left all first count i past = let none : count - i ≡ 0 = omega (arith, past) in ap (λ (n : ℕ). take n (drop (first + i) all)) none

-- ---- each a splice

pub next_is : (pool_len len : ℕ) (all : List Splice) (first count i : ℕ) (s : Splice) → i < count → slice_get all (first + i) ≡ Some s → is_splice pool_len len s ≡ true
    → list_all (is_splice pool_len len) (take (count - i) (drop (first + i) all)) ≡ list_all (is_splice pool_len len) (take (count - (i + 1)) (drop (first + (i + 1)) all))
next_is pool_len len all first count i s lt is good = rw (next_left all first count i s lt is, good) refl

pub next_is_not : (pool_len len : ℕ) (all : List Splice) (first count i : ℕ) (s : Splice) → i < count → slice_get all (first + i) ≡ Some s → is_splice pool_len len s ≡ false → list_all (is_splice pool_len len) (take (count - i) (drop (first + i) all)) ≡ false
next_is_not pool_len len all first count i s lt is bad = rw (next_left all first count i s lt is, bad) refl

-- ---- apart

pub first_apart : (all : List Splice) (first count : ℕ) (s : Splice) → 1 ≤ count → slice_get all first ≡ Some s → are_apart (take count (drop first all)) ≡ are_apart (s ∷ take (count - 1) (drop (first + 1) all))
first_apart all first count s some is = ap are_apart (left_of all first count s some is)

pub next_apart : (all : List Splice) (first count i : ℕ) (before s : Splice) → i < count → slice_get all (first + i) ≡ Some s → nat_lt before.p s.p ≡ true → nat_le (before.p + before.m) s.p ≡ true
    → are_apart (before ∷ take (count - i) (drop (first + i) all)) ≡ are_apart (s ∷ take (count - (i + 1)) (drop (first + (i + 1)) all))
next_apart all first count i before s lt is above behind = rw (next_left all first count i s lt is, above, behind) refl

pub and_false : (a b : Bool) → b ≡ false → (a && b) ≡ false
and_false true b e = e
and_false false b e = refl

pub next_touches : (all : List Splice) (first count i : ℕ) (before s : Splice) → i < count → slice_get all (first + i) ≡ Some s → (nat_lt before.p s.p && nat_le (before.p + before.m) s.p) ≡ false
    → are_apart (before ∷ take (count - i) (drop (first + i) all)) ≡ false
next_touches all first count i before s lt is bad = rw (next_left all first count i s lt is, bad) refl

-- ---- sums

pub sum_next : (f : Splice → ℕ) (all : List Splice) (first count i so_far more : ℕ) (s : Splice) → i < count → slice_get all (first + i) ≡ Some s → more ≡ min (so_far + f s) (2 ^ 64 - 1)
    → min (so_far + sum_by f (take (count - i) (drop (first + i) all))) (2 ^ 64 - 1) ≡ min (more + sum_by f (take (count - (i + 1)) (drop (first + (i + 1)) all))) (2 ^ 64 - 1)
sum_next f all first count i so_far more s lt is add =
    let rest = take (count - (i + 1)) (drop (first + (i + 1)) all) in
    let sum : sum_by f (take (count - i) (drop (first + i) all)) ≡ f s + sum_by f rest = ap (sum_by f) (next_left all first count i s lt is) ∙ sum_by-cons f s rest in
    omega (arith, sum, add)

pub sum_done : (f : Splice → ℕ) (all : List Splice) (first count i so_far : ℕ) → count ≤ i → so_far ≤ 2 ^ 64 - 1 → min (so_far + sum_by f (take (count - i) (drop (first + i) all))) (2 ^ 64 - 1) ≡ so_far
sum_done f all first count i so_far past small =
    let sum : sum_by f (take (count - i) (drop (first + i) all)) ≡ 0 = ap (sum_by f) (none_left all first count i past) in
    omega (arith, sum, small)

-- and what comes of it is not too long
pub short_so : (len m n taken put : ℕ) → m ≤ len → len < TEXT_LIMIT → taken ≡ min m (2 ^ 64 - 1) → put ≡ min n (2 ^ 64 - 1) → ((taken ≤ len) × (put < TEXT_LIMIT) × ((len - taken) + put < TEXT_LIMIT)) ↔ (len + n < TEXT_LIMIT + m)
short_so len m n taken put inside short is_taken is_put =
    let whole : taken ≡ m = omega (arith, inside, short, is_taken) in (
      λ t. omega (arith, t.1, t.2, whole, is_put, inside),
      λ t. (omega (arith, whole, inside), omega (arith, t, is_put, inside), omega (arith, t, is_put, whole, inside)),
    )
