-- What the calls answer that make ropes.
use Rattle.std.specs.Prelude.{◌≡◌, ℕ, ◌==◌, ◌&&◌, nat_le, if◌then◌else◌, List, length, slice_get, Option, None, Some, Result}
use Rattle.std.specs.Option.{option_map}
use Rattle.function_leaf.specs.declared.coded.Coded.{Coded}
use Rattle.function_leaf.specs.declared.coded.Coded.TheVariants.{Fill, Ramp, Cycle}
use Rattle.function_leaf.specs.Coded.{coded_byte}
use Rattle.function_leaf.specs.declared.pattern.TheConstants.{PATTERN_LIMIT}
use Rattle.rope_node.specs.declared.node.NodeId.{NodeId}
use Rattle.node_table.specs.declared.fault.NodeFault.{NodeFault}
use Rattle.node_table.specs.Held.{Held}
use Rattle.node_table.specs.Puts.{AddsSource}
use Rattle.rope_store.specs.Calls.{MakesBytes, MakesFunction, MakesSource}
use Rattle.rebalance.specs.declared.fault.BalanceFault.{BalanceFault}
use Rattle.rebalance.specs.AnyForms.{AppendsAny, CatsAny, PartsAny}
use Rattle.rebalance.specs.Balancing.{Rebalances}
use Rattle.image_reader.specs.declared.codes.TheConstants.{CYCLE, FILL, RAMP}
use Rattle.cord_store.specs.declared.codes.TheConstants.{NO_COMMAND, NO_ROPE}
use Rattle.cord_store.specs.Numbers.{node_after, node_outcome, rope_after, rope_outcome, rope_told, source_after, source_outcome}

-- nothing is changed, for this reason
pub record IsToldRefused (old new : Held Coded) (reason outcome before after : ℕ) : Type 0 where
  pub told : outcome ≡ reason
  pub same : new ≡ old
  pub kept : after ≡ before

-- a source more, or not, as `Store::add_source` says
pub record AddsSourceTold (old new : Held Coded) (len outcome before after : ℕ) : Type 0 where
  pub result : Result ℕ NodeFault
  pub adds : AddsSource coded_byte old len result new
  pub outcome_is : outcome ≡ source_outcome result
  pub number : after ≡ source_after result before

-- these bytes, as `Store::from_bytes` says
pub record MakesBytesTold (old new : Held Coded) (bytes : List ℕ) (outcome before after : ℕ) : Type 0 where
  pub result : Result (Option NodeId) NodeFault
  pub makes : MakesBytes coded_byte old bytes result new
  pub outcome_is : outcome ≡ node_outcome result
  pub number : after ≡ node_after result before

-- bytes of a source, as `Store::from_source` says
pub record MakesSourceTold (old new : Held Coded) (s i n outcome before after : ℕ) : Type 0 where
  pub result : Result (Option NodeId) NodeFault
  pub makes : MakesSource coded_byte old s i n result new
  pub outcome_is : outcome ≡ node_outcome result
  pub number : after ≡ node_after result before

-- the function that these numbers name
abbrev pub named_function : ℕ → List ℕ → Option Coded
named_function n pattern =
    if n == FILL then option_map Fill (slice_get pattern 0)
    else if n == RAMP then option_map Ramp (slice_get pattern 0)
    else if n == CYCLE && (nat_le 1 (length pattern) && nat_le (length pattern) PATTERN_LIMIT) then Some (Cycle pattern)
    else None

-- bytes that a function gives, as `Store::from_fn` says
pub record MakesFunctionTold (old new : Held Coded) (function : ℕ) (pattern : List ℕ) (n outcome before after : ℕ)
    : Type 0 where
  pub none : named_function function pattern ≡ None → IsToldRefused old new NO_COMMAND outcome before after
  pub made : (f : Coded) → named_function function pattern ≡ Some f
      → (result : Result (Option NodeId) NodeFault) × MakesFunction coded_byte old f n result new
      × (outcome ≡ node_outcome result) × (after ≡ node_after result before)

-- two ropes, one behind the other, as `cat_any` says
pub record CatsTold (old new : Held Coded) (x y outcome before after : ℕ) : Type 0 where
  pub no_left : rope_told old x ≡ None → IsToldRefused old new NO_ROPE outcome before after
  pub no_right : rope_told old y ≡ None → IsToldRefused old new NO_ROPE outcome before after
  pub made : (l r : Option NodeId) → rope_told old x ≡ Some l → rope_told old y ≡ Some r
      → (result : Result (Option NodeId) BalanceFault) × CatsAny coded_byte old l r result new
      × (outcome ≡ rope_outcome result) × (after ≡ rope_after result before)

-- at most n bytes of a rope from i on, as `substr_any` says
pub record PartsTold (old new : Held Coded) (x i n outcome before after : ℕ) : Type 0 where
  pub no_rope : rope_told old x ≡ None → IsToldRefused old new NO_ROPE outcome before after
  pub made : (rope : Option NodeId) → rope_told old x ≡ Some rope
      → (result : Result (Option NodeId) BalanceFault) × PartsAny coded_byte old rope i n result new
      × (outcome ≡ rope_outcome result) × (after ≡ rope_after result before)

-- the same text by a balanced rope, as `balance` says
pub record BalancesTold (old new : Held Coded) (x outcome before after : ℕ) : Type 0 where
  pub no_rope : rope_told old x ≡ None → IsToldRefused old new NO_ROPE outcome before after
  pub made : (rope : Option NodeId) → rope_told old x ≡ Some rope
      → (result : Result (Option NodeId) BalanceFault) × Rebalances coded_byte old rope result new
      × (outcome ≡ rope_outcome result) × (after ≡ rope_after result before)

-- bytes behind a rope, as `append_any` says
pub record AppendsTold (old new : Held Coded) (x : ℕ) (bytes : List ℕ) (outcome before after : ℕ) : Type 0 where
  pub no_rope : rope_told old x ≡ None → IsToldRefused old new NO_ROPE outcome before after
  pub made : (rope : Option NodeId) → rope_told old x ≡ Some rope
      → (result : Result (Option NodeId) BalanceFault) × AppendsAny coded_byte old rope bytes result new
      × (outcome ≡ rope_outcome result) × (after ≡ rope_after result before)
