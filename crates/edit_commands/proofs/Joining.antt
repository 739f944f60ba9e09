-- The loop over the terms.
use Rattle.std.proofs.Common.{◌≡◌, ℕ, ◌+◌, List, [], ◌∷◌, ◌++◌, length, take, Option, Some, None, Result, Ok, Err, refl, sym, ap, subst, ◌∙◌, arith, append-nil, append_assoc}
use Rattle.std.specs.Prelude.{IfOk}
use Rattle.std.proofs.lemmas.List.{take_all}
use Rattle.function_leaf.specs.declared.coded.Coded.{Coded}
use Rattle.function_leaf.specs.Coded.{coded_byte}
use Rattle.rope_node.specs.declared.node.NodeId.{NodeId}
use Rattle.rope_node.specs.Denotes.{IsRope}
use Rattle.node_table.specs.Held.{Held, table_of}
use Rattle.rebalance.specs.declared.fault.BalanceFault.{BalanceFault}
use Rattle.edit_commands.specs.Building.{GoesOn}
use Rattle.edit_commands.specs.Terms.{Term, handed, with_place, so_far, AreTerms, Taken, Handed, IsTerm, PutsTerm, IsRightStore, JoinsTerms, Chain, done, next, refused}
use Rattle.edit_commands.proofs.Chains.{puts_made, term_later}
use Rattle.edit_commands.proofs.GoingOn.{goes_on_itself, goes_on_through}

-- some terms are put, and what the chain of those that are left comes to is what that of all comes to; the first places
-- are written
pub record IsJoining (start : Held Coded) (terms : List Term) (now : Held Coded) (built : Option (Option NodeId)) (left : List Term) (count : ℕ) (places : List ℕ) : Type 0 where
  pub goes_on : GoesOn start now
  pub there : IsRope (table_of coded_byte now) (so_far built)
  pub are : AreTerms (table_of coded_byte start) left
  pub room : count + length (handed left) ≡ length places
  pub chain : (placed : List ℕ) (result : Result (Option NodeId) BalanceFault) (new : Held Coded) → Chain left now built placed result new → Chain terms start None (take count places ++ placed) result new

pub joining_nothing : (start : Held Coded) (terms : List Term) (places : List ℕ) → AreTerms (table_of coded_byte start) terms → length places ≡ length (handed terms) → IsJoining start terms start None terms 0 places
joining_nothing start terms places are room = record { goes_on = goes_on_itself start; there = tt; are = are; room = omega (arith, room); chain = λ placed result new chain. chain }

-- a place that was found, before others
places_behind : (place : Option ℕ) (places : List ℕ) → with_place place places ≡ with_place place [] ++ places
places_behind None places = refl
places_behind (Some a) places = refl

-- a term has at most one
places_left : (now mid : Held Coded) (built : Option (Option NodeId)) (term : Term) (left : List Term) (rope : Option NodeId) (place : Option ℕ) → PutsTerm now built term (Ok (rope, place)) mid → length (handed (term ∷ left)) ≡ length (with_place place []) + length (handed left)
places_left now mid built (Taken piece) left rope place puts = rw puts.1 (omega arith)
places_left now mid built (Handed bytes) left rope place puts = let (a, one, placed) = puts.1 in rw one (omega arith)

module _ (start now : Held Coded) (terms : List Term) (built : Option (Option NodeId)) (count : ℕ) (places : List ℕ) where
  module _ (term : Term) (left all : List Term) (is : all ≡ term ∷ left) (j : IsJoining start terms now built all count places) where
    pub term_there : IsTerm (table_of coded_byte now) term
    term_there = let are : AreTerms (table_of coded_byte start) (term ∷ left) = subst (AreTerms (table_of coded_byte start)) is j.are in term_later j.goes_on term are.0

    room_there : (mid : Held Coded) (rope : Option NodeId) (place : Option ℕ) → PutsTerm now built term (Ok (rope, place)) mid → count + length (with_place place []) + length (handed left) ≡ length places
    room_there mid rope place puts = omega (arith, j.room, ap (λ (xs : List Term). length (handed xs)) is, places_left now mid built term left rope place puts)

    pub joining_more : (rope : Option NodeId) (place : Option ℕ) (mid : Held Coded) (more : List ℕ) (more_count : ℕ) → PutsTerm now built term (Ok (rope, place)) mid → IsRightStore mid → more_count ≡ count + length (with_place place []) → take more_count more ≡ take count places ++ with_place place [] → length more ≡ length places
        → IsJoining start terms mid (Some rope) left more_count more
    joining_more rope place mid more more_count puts right counts noted many =
        let made = puts_made built term (Ok (rope, place)) term_there puts in
        let are : AreTerms (table_of coded_byte start) (term ∷ left) = subst (AreTerms (table_of coded_byte start)) is j.are in
        record {
          goes_on = goes_on_through j.goes_on made.goes_on;
          there = made.is_rope;
          are = are.1;
          room = omega (arith, room_there mid rope place puts, counts, many);
          chain = λ placed result new rest.
              let after = j.chain (with_place place placed) result new (subst (λ (xs : List Term). Chain xs now built (with_place place placed) result new) (sym is) (next place puts right rest refl)) in
              let written : take more_count more ++ placed ≡ take count places ++ with_place place placed =
              ap (λ (ps : List ℕ). ps ++ placed) noted ∙ append_assoc (take count places) (with_place place []) placed ∙ ap (λ (ps : List ℕ). take count places ++ ps) (sym (places_behind place placed)) in
              subst (λ (ps : List ℕ). Chain terms start None ps result new) (sym written) after;
        }

    pub joining_refused : (result : Result (Option NodeId) BalanceFault) (fault : BalanceFault) (new : Held Coded) → PutsTerm now built term (Err fault) new → result ≡ Err fault → JoinsTerms start terms result places new
    joining_refused result fault new puts end = record {
      placed = take count places ++ [];
      chain = j.chain [] result new (subst (λ (xs : List Term). Chain xs now built [] result new) (sym is) (refused puts end));
      written = subst (λ (r : Result (Option NodeId) BalanceFault). IfOk r (λ _. take count places ++ [] ≡ places)) (sym end) tt;
    }

  pub joining_done : (left : List Term) (result : Result (Option NodeId) BalanceFault) → IsJoining start terms now built left count places → left ≡ [] → result ≡ Ok (so_far built) → JoinsTerms start terms result places now
  joining_done left result j none is =
      let whole : count ≡ length places = omega (arith, j.room, ap (λ (xs : List Term). length (handed xs)) none) in
      record {
        placed = take count places ++ [];
        chain = j.chain [] result now (subst (λ (xs : List Term). Chain xs now built [] result now) (sym none) (done is refl));
        written = subst (λ (r : Result (Option NodeId) BalanceFault). IfOk r (λ _. take count places ++ [] ≡ places)) (sym is) (append-nil (take count places) ∙ take_all count places (omega (arith, whole)));
      }
