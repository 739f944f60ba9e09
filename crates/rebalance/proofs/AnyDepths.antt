-- How deep the rope of a call is that is handed nearly balanced ropes.
use Rattle.std.proofs.Common.{◌≡◌, ℕ, ◌+◌, ◌≤◌, inl, inr, max, List, [], ◌∷◌, Option, Some, None, Result, Ok, Err, refl, ap, subst, ◌∙◌, arith}
use Rattle.std.specs.Prelude.{IfOk}
use Rattle.std.proofs.lemmas.Bool.{cases_lt}
use Rattle.rope_node.specs.declared.node.NodeId.{NodeId}
use Rattle.rope_node.specs.Balance.{fibonacci}
use Rattle.rope_node.specs.Table.{Table, len_at, depth_at, IsSound, HasTrueRecords}
use Rattle.rope_node.specs.Denotes.{Cell, rope_depth, IsRope}
use Rattle.rope_node.specs.Extends.{Extends}
use Rattle.rope_node.proofs.Extensions.{depth_kept, len_kept}
use Rattle.node_table.specs.declared.fault.NodeFault.{NodeFault}
use Rattle.node_table.specs.Held.{Held, table_of}
use Rattle.rope_store.specs.Additions.{Addition, Makes}
use Rattle.rope_store.specs.Appending.{IsAppend}
use Rattle.rope_store.specs.Joining.{joined}
use Rattle.rope_store.proofs.CallDepths.{IsLow, appended_low, joined_low, literal_low}
use Rattle.rebalance.specs.Balancing.{IsNearlyBalanced, IsRoughlyBalanced}
use Rattle.rebalance.proofs.AnyLaws.{nearly_roughly}
use Rattle.rebalance.proofs.Fibonacci.{fibonacci_up}

-- a nearly balanced rope stays one where the table goes on
pub nearly_kept : (old new : Table) → Extends old new → (rope : Option NodeId) → IsRope old rope → IsNearlyBalanced old rope → IsNearlyBalanced new rope
nearly_kept old new x None there near = tt
nearly_kept old new x (Some id) there near = rw (depth_kept old new x id.0 there, len_kept old new x id.0 there) near

none_at_nil : fibonacci 0 ≡ 0
unfolding fibonacci
none_at_nil = refl

-- a rope that is low and long enough
low_roughly : (t : Table) (rope : Option NodeId) (d n : ℕ) → IsLow t rope d n → fibonacci d ≤ n → IsRoughlyBalanced t rope
low_roughly t rope d n low enough = let up = fibonacci_up (rope_depth t rope) d low.shallow in omega (arith, up, enough, low.long)

-- a call that answers a rope of the table
kept_roughly : {F : Type 0} (meaning : F → ℕ → ℕ) (old new : Held F) (a : Addition F) (wanted : List Cell) (rope answer : Option NodeId) → a.rope ≡ rope → IsRope (table_of meaning old) rope → IsNearlyBalanced (table_of meaning old) rope → Makes meaning old a wanted (Ok answer) new
    → IsRoughlyBalanced (table_of meaning new) answer
kept_roughly meaning old new a wanted rope answer is there near made =
    let same : answer ≡ rope = made.rope ∙ is in
    rw same (nearly_roughly (table_of meaning new) rope (nearly_kept (table_of meaning old) (table_of meaning new) made.kept rope there near))

one_deeper : (d n : ℕ) → fibonacci (d + 1) ≤ n → fibonacci (1 + d) ≤ n
one_deeper d n near = let same : 1 + d ≡ d + 1 = omega arith in rw same near

over_two : (a b m n : ℕ) → fibonacci (a + 1) ≤ m → fibonacci (b + 1) ≤ n → fibonacci (1 + max a b) ≤ m + n
over_two a b m n left right =
    elim (cases_lt a b) [
      | inl lt ↦ let at : 1 + max a b ≡ b + 1 = omega (arith, lt) in rw at (omega (arith, right))
      | inr le ↦ let at : 1 + max a b ≡ a + 1 = omega (arith, le) in rw at (omega (arith, left))
    ]

-- two nearly balanced ropes, one behind the other
pub joined_roughly : {F : Type 0} (meaning : F → ℕ → ℕ) (old new : Held F) (wanted : List Cell) (l r : Option NodeId) → IsSound (table_of meaning old) → HasTrueRecords (table_of meaning old) → IsRope (table_of meaning old) l → IsRope (table_of meaning old) r → IsNearlyBalanced (table_of meaning old) l → IsNearlyBalanced (table_of meaning old) r
    → (plain : Result (Option NodeId) NodeFault) → Makes meaning old (joined (table_of meaning old) l r) wanted plain new → IfOk plain (λ answer. IsRoughlyBalanced (table_of meaning new) answer)
joined_roughly meaning old new wanted l r s h there also left right (Err e) made = tt
joined_roughly meaning old new wanted None r s h there also left right (Ok answer) made = kept_roughly meaning old new (joined (table_of meaning old) None r) wanted r answer refl also right made
joined_roughly meaning old new wanted (Some l) None s h there also left right (Ok answer) made = kept_roughly meaning old new (joined (table_of meaning old) (Some l) None) wanted (Some l) answer refl there left made
joined_roughly meaning old new wanted (Some l) (Some r) s h there also left right (Ok answer) made =
    let t = table_of meaning old in
    let low = joined_low meaning old new wanted answer l r s h there also made in
    low_roughly (table_of meaning new) answer _ _ low (over_two (depth_at t l.0) (depth_at t r.0) (len_at t l.0) (len_at t r.0) left right)

-- bytes behind a nearly balanced rope
pub append_roughly : {F : Type 0} (meaning : F → ℕ → ℕ) (old new : Held F) (wanted : List Cell) (x : Option NodeId) (bytes : List ℕ) (a : Addition F) → IsSound (table_of meaning old) → HasTrueRecords (table_of meaning old) → IsRope (table_of meaning old) x → IsNearlyBalanced (table_of meaning old) x
    → IsAppend old.pool (table_of meaning old) x bytes a → (plain : Result (Option NodeId) NodeFault) → Makes meaning old a wanted plain new → IfOk plain (λ answer. IsRoughlyBalanced (table_of meaning new) answer)
append_roughly meaning old new wanted x bytes a s h there near is (Err e) made = tt
append_roughly {F = F} meaning old new wanted x [] a s h there near is (Ok answer) made =
    kept_roughly meaning old new a wanted x answer (ap (λ (k : Addition F). k.rope) is) there near made
append_roughly {F = F} meaning old new wanted None (b ∷ bs) a s h there near is (Ok answer) made =
    let low = literal_low meaning old new wanted answer (b ∷ bs) (subst (λ (k : Addition F). Makes meaning old k wanted (Ok answer) new) is made) in
    low_roughly (table_of meaning new) answer _ _ low (omega (arith, none_at_nil))
append_roughly meaning old new wanted (Some x) (b ∷ bs) a s h there near is (Ok answer) made =
    let t = table_of meaning old in
    let low = appended_low meaning old new wanted answer x (b ∷ bs) a s h there is made in
    let deeper = one_deeper (depth_at t x.0) (len_at t x.0) near in
    low_roughly (table_of meaning new) answer _ _ low (omega (arith, deeper))
