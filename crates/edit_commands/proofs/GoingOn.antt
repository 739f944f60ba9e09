-- Steps of building one behind the other, and the texts that they leave.
use Rattle.std.proofs.Common.{◌≡◌, List, length, Option, Result, Ok, Err, refl, sym, ap, ◌∙◌}
use Rattle.function_leaf.specs.declared.coded.Coded.{Coded}
use Rattle.function_leaf.specs.Coded.{coded_byte}
use Rattle.rope_node.specs.declared.node.NodeId.{NodeId}
use Rattle.rope_node.specs.Denotes.{Cell, rope_cells, rope_len, IsRope}
use Rattle.rope_node.proofs.Ropes.{extends_itself, extends_through, rope_cells_kept, rope_kept, rope_length}
use Rattle.node_table.specs.Held.{Held, table_of}
use Rattle.rebalance.specs.declared.fault.BalanceFault.{BalanceFault}
use Rattle.rebalance.proofs.AnyCalls.{IsRight}
use Rattle.rebalance.proofs.StepLaws.{functions_itself, functions_through}
use Rattle.edit_commands.specs.Applying.{Keeps}
use Rattle.edit_commands.specs.Building.{GoesOn, Builds}
use Rattle.edit_commands.specs.Session.{SessionValue}

pub goes_on_itself : (h : Held Coded) → GoesOn h h
goes_on_itself h = record { kept = extends_itself (table_of coded_byte h); functions = functions_itself h; sources = refl }

pub keeps_itself : (v : SessionValue) → Keeps v v
keeps_itself v = record { goes_on = goes_on_itself v.held; cells = refl }

pub goes_on_through : {a b c : Held Coded} → GoesOn a b → GoesOn b c → GoesOn a c
goes_on_through {a} {b} {c} x y = record {
  kept = extends_through (table_of coded_byte a) (table_of coded_byte b) (table_of coded_byte c) x.kept y.kept;
  functions = functions_through x.functions y.functions;
  sources = y.sources ∙ x.sources;
}

-- a step behind what was done before it, its text said otherwise
pub builds_later : {a b c : Held Coded} {cells wanted : List Cell} (result : Result (Option NodeId) BalanceFault) → GoesOn a b → Builds b cells result c → cells ≡ wanted → Builds a wanted result c
builds_later (Ok rope) x step same = record { is_rope = step.is_rope; text = step.text ∙ same; goes_on = goes_on_through x step.goes_on; fault = tt }
builds_later (Err fault) x step same = record { is_rope = tt; text = tt; goes_on = goes_on_through x step.goes_on; fault = step.fault }

-- a refused step builds nothing, whatever was wanted
pub refused_for : {a b : Held Coded} {cells : List Cell} (wanted : List Cell) (fault : BalanceFault) → Builds a cells (Err fault) b → Builds a wanted (Err fault) b
refused_for wanted fault step = record { is_rope = tt; text = tt; goes_on = step.goes_on; fault = step.fault }

-- ---- texts

-- a rope of the table, with these cells
pub record HasText (h : Held Coded) (rope : Option NodeId) (cells : List Cell) : Type 0 where
  pub is_rope : IsRope (table_of coded_byte h) rope
  pub text : rope_cells (table_of coded_byte h) rope ≡ cells

pub own_text : (h : Held Coded) (rope : Option NodeId) → IsRope (table_of coded_byte h) rope → HasText h rope (rope_cells (table_of coded_byte h) rope)
own_text h rope there = record { is_rope = there; text = refl }

pub built_text : {old new : Held Coded} {cells : List Cell} (rope : Option NodeId) → Builds old cells (Ok rope) new → HasText new rope cells
built_text rope step = record { is_rope = step.is_rope; text = step.text }

-- a rope keeps its text where the table goes on
pub text_later : {a b : Held Coded} {rope : Option NodeId} {cells : List Cell} → IsRight Coded coded_byte a → GoesOn a b → HasText a rope cells → HasText b rope cells
text_later {a} {b} {rope} k x has =
    let ta = table_of coded_byte a in
    let tb = table_of coded_byte b in
    record {
      is_rope = rope_kept ta tb x.kept rope has.is_rope;
      text = rope_cells_kept ta tb k.sound x.kept rope has.is_rope ∙ has.text;
    }

pub text_len : {h : Held Coded} {rope : Option NodeId} {cells : List Cell} → IsRight Coded coded_byte h → HasText h rope cells → rope_len (table_of coded_byte h) rope ≡ length cells
text_len {h} {rope} k has = sym (rope_length (table_of coded_byte h) k.sound k.true_records rope has.is_rope) ∙ ap length has.text
