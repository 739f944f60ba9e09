-- Each call by which roots are built, as a step of building.
use Rattle.std.proofs.Common.{◌≡◌, ℕ, zero, suc, ◌+◌, ◌-◌, ◌<◌, ◌≤◌, ◌⊎◌, ⊎_elim, List, [], ◌∷◌, ◌++◌, length, map, take, drop, Option, Result, Ok, Err, refl, sym, ap, subst, ◌∙◌, arith}
use Rattle.std.specs.Prelude.{get_or, replicate, slice_range}
use Rattle.std.specs.List.{range_with_len}
use Rattle.std.proofs.lemmas.List.{length-take, length-drop}
use Rattle.std.specs.Prelude.{IfOk, IfErr, IsErrOf}
use Rattle.leaf_buffer.specs.declared.block.TheConstants.{BLOCK_SIZE}
use Rattle.function_leaf.specs.declared.coded.Coded.{Coded}
use Rattle.function_leaf.specs.declared.coded.Coded.TheVariants.{Fill}
use Rattle.function_leaf.specs.Coded.{coded_byte}
use Rattle.rope_node.specs.declared.limits.TheConstants.{TEXT_LIMIT}
use Rattle.rope_node.specs.declared.node.NodeId.{NodeId}
use Rattle.rope_node.specs.Denotes.{Cell, Byte, Place, rope_cells, rope_len, IsRope}
use Rattle.node_table.specs.declared.fault.NodeFault.{NodeFault}
use Rattle.node_table.specs.declared.fault.NodeFault.TheVariants.{TooLong, TooDeep, TableFull, PoolFull, BadSpan, TooManySources, Memory}
use Rattle.node_table.specs.Held.{Held, table_of}
use Rattle.rope_store.specs.Additions.{Addition, function_added, source_added}
use Rattle.rope_store.specs.Appending.{AppendsTooLong}
use Rattle.rope_store.specs.Calls.{Adds, MakesFunction, MakesSource}
use Rattle.rope_store.specs.Refusals.{IsTooDeep}
use Rattle.rebalance.specs.declared.fault.BalanceFault.{BalanceFault}
use Rattle.rebalance.specs.declared.fault.BalanceFault.TheVariants.{TooManyPieces, Node}
use Rattle.rebalance.specs.AnyForms.{AnyForm, Growth, AppendsAny, CatsAny, IsPlaced, PartsAny, StandInPool, lifted, place_in_pool}
use Rattle.rebalance.specs.Balancing.{Rebalances}
use Rattle.rebalance.specs.Steps.{Grows}
use Rattle.rebalance.proofs.AnyCalls.{IsRight}
use Rattle.rebalance.proofs.AnyLaws.{lifted_err, lifted_ok}
use Rattle.rebalance.proofs.StoreCalls.{made_grows}
use Rattle.edit_commands.specs.Building.{GoesOn, IsMetFault, Builds}
use Rattle.edit_commands.proofs.GoingOn.{HasText, builds_later, goes_on_itself, text_len}

pub grows_on : {old new : Held Coded} {nodes bytes : ℕ} → Grows coded_byte old nodes bytes new → GoesOn old new
grows_on grows = record { kept = grows.kept; functions = grows.functions; sources = grows.sources }

-- what a call may be refused for, once these faults are left out
fault_met : (result : Result (Option NodeId) BalanceFault) → ¬ IsErrOf result (Node TooLong) → ¬ IsErrOf result (Node TooDeep) → ¬ IsErrOf result (Node BadSpan) → ¬ IsErrOf result (Node TooManySources) → IfErr result IsMetFault
fault_met (Ok rope) long deep bad many = tt
fault_met (Err TooManyPieces) long deep bad many = tt
fault_met (Err (Node TooLong)) long deep bad many = absurd (long refl)
fault_met (Err (Node TooDeep)) long deep bad many = absurd (deep refl)
fault_met (Err (Node TableFull)) long deep bad many = tt
fault_met (Err (Node PoolFull)) long deep bad many = tt
fault_met (Err (Node BadSpan)) long deep bad many = absurd (bad refl)
fault_met (Err (Node TooManySources)) long deep bad many = absurd (many refl)
fault_met (Err (Node Memory)) long deep bad many = tt

any_step : {old new : Held Coded} {a : Addition Coded} {wanted : List Cell} {IsLong : Type 0} {most : Growth} (result : Result (Option NodeId) BalanceFault) → ¬ IsLong → AnyForm coded_byte old a wanted IsLong most result new
    → Builds old wanted result new
any_step result short any = record {
  is_rope = any.gives.is_rope;
  text = any.gives.text;
  goes_on = grows_on any.gives.grows;
  fault = fault_met result (λ e. short (any.too_long.0 e)) any.not_deep any.no_bad_span any.no_source;
}

-- a part of a rope
pub part_step : {start old new : Held Coded} {rope : Option NodeId} {cells : List Cell} (i n : ℕ) (result : Result (Option NodeId) BalanceFault) → GoesOn start old → HasText old rope cells → PartsAny coded_byte old rope i n result new → Builds start (take n (drop i cells)) result new
part_step {rope = rope} i n result x has part =
    builds_later result x (any_step result (λ long. long) part.any) (ap (λ cs. take n (drop i cs)) has.text)

-- two ropes, one behind the other
pub both_step : {start old new : Held Coded} {l r : Option NodeId} {before behind : List Cell} (result : Result (Option NodeId) BalanceFault) → GoesOn start old → IsRight Coded coded_byte old → HasText old l before → HasText old r behind → length before + length behind < TEXT_LIMIT → CatsAny coded_byte old l r result new
    → Builds start (before ++ behind) result new
both_step {old = old} {l = l} {r = r} {before = before} result x k left right short cats =
    let t = table_of coded_byte old in
    let not_long : ¬ (TEXT_LIMIT ≤ rope_len t l + rope_len t r) = λ long. omega (arith, long, short, text_len k left, text_len k right) in
    builds_later result x (any_step result not_long cats) (ap (λ cs. cs ++ rope_cells t r) left.text ∙ ap (λ cs. before ++ cs) right.text)

-- bytes put behind a rope
pub bytes_step : {start old new : Held Coded} {rope : Option NodeId} {cells : List Cell} (bytes : List ℕ) (result : Result (Option NodeId) BalanceFault) → GoesOn start old → IsRight Coded coded_byte old → HasText old rope cells → length bytes ≤ BLOCK_SIZE → length cells + length bytes < TEXT_LIMIT
    → AppendsAny coded_byte old rope bytes result new → Builds start (cells ++ map Byte bytes) result new
bytes_step {old = old} {rope = rope} bytes result x k has few short appends =
    let t = table_of coded_byte old in
    let not_long : ¬ AppendsTooLong t rope bytes = λ long. ⊎_elim (λ (many : BLOCK_SIZE < length bytes). omega (arith, many, few)) (λ (far : TEXT_LIMIT ≤ rope_len t rope + length bytes). omega (arith, far, short, text_len k has)) long in
    builds_later result x (any_step result not_long appends.any) (ap (λ cs. cs ++ map Byte bytes) has.text)

-- a rope balanced
pub balance_step : {old new : Held Coded} (rope : Option NodeId) (result : Result (Option NodeId) BalanceFault) → Rebalances coded_byte old rope result new → Builds old (rope_cells (table_of coded_byte old) rope) result new
balance_step rope result r = record {
  is_rope = r.is_rope;
  text = r.text;
  goes_on = record { kept = r.kept; functions = r.functions; sources = r.sources };
  fault = fault_met result r.not_long r.not_deep r.no_bad_span r.no_source;
}

-- a leaf
pub leaf_step : {old new : Held Coded} {a : Addition Coded} {wanted : List Cell} {IsBad IsLong : Type 0} (plain : Result (Option NodeId) NodeFault) → ¬ IsBad → ¬ IsLong → ¬ IsTooDeep a → Adds coded_byte old a wanted IsBad IsLong plain new
    → Builds old wanted (lifted plain) new
leaf_step {old} {new} {a = a} {wanted = wanted} plain fine short shallow adds =
    let grows : Grows coded_byte old (length old.nodes + length a.records) (length old.pool.bytes + length a.bytes) new = made_grows plain _ _ adds.makes (omega arith) (omega arith) in
    record {
      is_rope = lifted_ok (λ r. IsRope (table_of coded_byte new) r) plain adds.makes.is_rope;
      text = lifted_ok (λ r. rope_cells (table_of coded_byte new) r ≡ wanted) plain adds.makes.text;
      goes_on = grows_on grows;
      fault = fault_met (lifted plain)
          (λ e. short (adds.refuses.too_long.0 (lifted_err plain TooLong e)).1)
          (λ e. shallow (adds.refuses.too_deep.0 (lifted_err plain TooDeep e)).2)
          (λ e. fine (adds.refuses.bad_span.0 (lifted_err plain BadSpan e)))
          (λ e. adds.refuses.no_other (lifted_err plain TooManySources e));
    }

-- what was there is kept, and what is answered is a rope
pub record IsMade (old : Held Coded) (result : Result (Option NodeId) BalanceFault) (new : Held Coded) : Type 0 where
  pub goes_on : GoesOn old new
  pub is_rope : IfOk result (λ r. IsRope (table_of coded_byte new) r)

pub leaf_made : {old new : Held Coded} {a : Addition Coded} {wanted : List Cell} {IsBad IsLong : Type 0} {result : Result (Option NodeId) BalanceFault} (plain : Result (Option NodeId) NodeFault) → result ≡ lifted plain → Adds coded_byte old a wanted IsBad IsLong plain new → IsMade old result new
leaf_made {old} {new} {a = a} plain told adds =
    let grows : Grows coded_byte old (length old.nodes + length a.records) (length old.pool.bytes + length a.bytes) new = made_grows plain _ _ adds.makes (omega arith) (omega arith) in
    let made : IsMade old (lifted plain) new = record { goes_on = grows_on grows; is_rope = lifted_ok (λ r. IsRope (table_of coded_byte new) r) plain adds.makes.is_rope } in
    subst (λ (r : Result (Option NodeId) BalanceFault). IsMade old r new) (sym told) made

-- all of a source
pub source_built : {old new : Held Coded} (s n : ℕ) (plain : Result (Option NodeId) NodeFault) → s < length old.sources → n ≡ get_or old.sources s 0 → MakesSource coded_byte old s 0 n plain new → Builds old (map (Place s) (range_with_len 0 (get_or old.sources s 0))) (lifted plain) new
source_built {old} s n plain there all makes =
    let fine : ¬ ((length old.sources ≤ s) ⊎ (get_or old.sources s 0 < 0 + n)) = λ bad. ⊎_elim (λ (past : length old.sources ≤ s). omega (arith, past, there)) (λ (over : get_or old.sources s 0 < 0 + n). omega (arith, over, all)) bad in
    builds_later (lifted plain) (goes_on_itself old)
    (leaf_step plain fine (λ long. long) (shallow n) makes)
    (ap (λ (k : ℕ). map (Place s) (range_with_len 0 k)) all)
  where
    shallow : (m : ℕ) → ¬ IsTooDeep {F = Coded} (source_added (table_of coded_byte old) s 0 m)
    shallow zero deep = omega (arith, deep)
    shallow (suc m) deep = omega (arith, deep)

-- bytes c
pub chars_built : {old new : Held Coded} (c n : ℕ) (plain : Result (Option NodeId) NodeFault) → n < TEXT_LIMIT → MakesFunction coded_byte old (Fill c) n plain new → Builds old (replicate n (Byte c)) (lifted plain) new
chars_built {old} c n plain short makes =
    builds_later (lifted plain) (goes_on_itself old)
    (leaf_step plain (λ bad. bad) (λ long. omega (arith, long, short)) (shallow n) makes)
    (same 0 n)
  where
    shallow : (m : ℕ) → ¬ IsTooDeep {F = Coded} (function_added (table_of coded_byte old) (Fill c) m)
    shallow zero deep = omega (arith, deep)
    shallow (suc m) deep = omega (arith, deep)

    same : (a m : ℕ) → map (λ k. Byte (coded_byte (Fill c) k)) (range_with_len a m) ≡ replicate m (Byte c)
    same a zero = refl
    same a (suc m) = ap (λ cs. Byte c ∷ cs) (same (a + 1) m)

-- ---- bytes in the pool

-- bytes that stand in a pool lie inside it
pub stand_inside : (pool : List ℕ) (place : ℕ) (bytes : List ℕ) → 1 ≤ length bytes → StandInPool pool place bytes → place + length bytes ≤ length pool
stand_inside pool place bytes some stands =
    let many : (place + length bytes) - place ≡ length bytes = omega arith in
    let len : length (slice_range pool place (place + length bytes)) ≡ length bytes = ap length stands in
    omega (arith, some, len, many, length-take ((place + length bytes) - place) (drop place pool), length-drop place pool)

-- and still do where the table goes on
pub stands_later : {a b : Held Coded} (place : ℕ) (bytes : List ℕ) → 1 ≤ length bytes → GoesOn a b → StandInPool a.pool.bytes place bytes → StandInPool b.pool.bytes place bytes
stands_later {a} {b} place bytes some x stands = x.kept.pool place (length bytes) (stand_inside a.pool.bytes place bytes some stands) ∙ stands

put_place : (pool bytes : List ℕ) → 1 ≤ length bytes → place_in_pool pool bytes ≡ length pool
put_place pool [] some = absurd (omega (arith, some))
put_place pool (b ∷ bs) some = refl

pub stand_new : {old mid end new : Held Coded} (front text : Option NodeId) (bytes : List ℕ) (place : ℕ) → 1 ≤ length bytes → GoesOn old mid → IsPlaced coded_byte mid front bytes (text, place) end → GoesOn end new → (length old.pool.bytes ≤ place) × StandInPool new.pool.bytes place bytes
stand_new front text bytes place some x placed y =
    let put = placed.put in
    (omega (arith, x.kept.more_pool, put.kept.more_pool, put.place, put_place put.before.pool.bytes bytes some), stands_later place bytes some y put.stands)
