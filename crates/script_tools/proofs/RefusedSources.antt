-- Sources are added one by one, up to the first that is refused.
use Rattle.std.proofs.Common.{◌≡◌, ℕ, ◌<◌, ◌≤◌, inl, inr, List, length, get_or, take, Err, Ok, Result, sym, ap, subst, arith, ◌∙◌}
use Rattle.std.proofs.lemmas.List.{length-take-le}
use Rattle.function_leaf.specs.Coded.{coded_byte}
use Rattle.rope_node.specs.declared.limits.TheConstants.{MOST_SOURCES, TEXT_LIMIT}
use Rattle.node_table.specs.declared.fault.NodeFault.{NodeFault}
use Rattle.node_table.specs.declared.node_table.TheConstants.{FEW_SOURCES}
use Rattle.node_table.specs.Puts.{AddsSource}
use Rattle.edit_commands.specs.declared.fault.EditFault.{EditFault}
use Rattle.edit_commands.specs.Applying.{AddsSourceOrNot}
use Rattle.edit_commands.specs.Codes.{node_fault, told}
use Rattle.edit_commands.specs.Session.{SessionValue}
use Rattle.script_tools.specs.Applied.{AreRefused, IsSourceFault}

-- why a source is not added behind n others
refused_source : (old new : SessionValue) (n len : ℕ) (f : EditFault) → length old.held.sources ≡ n → AddsSourceOrNot old len (Err f) new → IsSourceFault n len f
refused_source old new n len f many h = of_plain h.plain h.told h.adds
  where
    of_plain : (plain : Result ℕ NodeFault) → Err f ≡ told plain → AddsSource coded_byte old.held len plain new.held → IsSourceFault n len f
    of_plain (Ok s) e adds = absurd cc
    of_plain (Err fault) e adds =
        let is : f ≡ node_fault fault = cc in
        elim adds.faults [
          | inl full ↦ subst (IsSourceFault n len) (sym (is ∙ ap node_fault full)) (sym many ∙ adds.too_many.0 (ap Err full))
          | inr (inl long) ↦ (let found = adds.too_long.0 (ap Err long) in subst (IsSourceFault n len) (sym (is ∙ ap node_fault long)) (subst (λ (k : ℕ). k < MOST_SOURCES) many found.0, found.1))
          | inr (inr memory) ↦ subst (IsSourceFault n len) (sym (is ∙ ap node_fault memory)) (subst (λ (k : ℕ). FEW_SOURCES ≤ k) many (adds.memory (ap Err memory)))
        ]

pub first_refused : (old new : SessionValue) (lens : List ℕ) (n : ℕ) (f : EditFault) → n < length lens → old.held.sources ≡ take n lens
    → ((k : ℕ) → k < n → get_or lens k 0 < TEXT_LIMIT) → AddsSourceOrNot old (get_or lens n 0) (Err f) new → AreRefused lens f
first_refused old new lens n f there sources short h = record {
  number = n;
  there = there;
  earlier = short;
  is = refused_source old new n (get_or lens n 0) f (ap length sources ∙ length-take-le n lens (omega (arith, there))) h;
}
