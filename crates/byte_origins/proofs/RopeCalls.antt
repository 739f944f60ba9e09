-- What the store's calls make of ropes that name origins.
use Rattle.std.proofs.Common.{◌≡◌, ℕ, List, ◌++◌, map, length, take, drop, Option, sym, ap, ◌∙◌}
use Rattle.std.specs.List.{range_with_len}
use Rattle.function_leaf.specs.declared.coded.Coded.{Coded}
use Rattle.function_leaf.specs.Coded.{coded_byte}
use Rattle.rope_node.specs.declared.node.NodeId.{NodeId}
use Rattle.rope_node.specs.Denotes.{Place, rope_cells, IsRope}
use Rattle.node_table.specs.Held.{Held, table_of}
use Rattle.byte_origins.specs.declared.run.Origin.{Origin}
use Rattle.byte_origins.specs.declared.run.OriginRun.{OriginRun}
use Rattle.byte_origins.specs.Origins.{run_origins}
use Rattle.byte_origins.specs.OriginTexts.{named, Names}
use Rattle.byte_origins.proofs.NamedOrigins.{named_now, named_part, named_joined}
use Rattle.byte_origins.proofs.RunOrigins.{length-run}

-- the places of a source leaf behind what was brought name what is brought now
pub names_now : (held : Held Coded) (before brought : List Origin) (run : OriginRun) (a : ℕ) (rope : Option NodeId) → IsRope (table_of coded_byte held) rope → rope_cells (table_of coded_byte held) rope ≡ map (Place 0) (range_with_len a run.len) → a ≡ length before → brought ≡ before ++ run_origins run
    → Names (record { held = held; brought = brought }) rope (run_origins run)
names_now held before brought run a rope there cells at more = record {
  there = there;
  same = ap (λ (os : List Origin). map (named os) (rope_cells (table_of coded_byte held) rope)) more
      ∙ ap (map (named (before ++ run_origins run))) cells
      ∙ ap (λ (i : ℕ). map (named (before ++ run_origins run)) (map (Place 0) (range_with_len i run.len))) at
      ∙ ap (λ (n : ℕ). map (named (before ++ run_origins run)) (map (Place 0) (range_with_len (length before) n))) (sym (length-run run))
      ∙ named_now before (run_origins run) 0;
}

pub names_part : (old new : Held Coded) (brought : List Origin) (text rope : Option NodeId) (i n : ℕ) (os : List Origin) → IsRope (table_of coded_byte new) rope → rope_cells (table_of coded_byte new) rope ≡ take n (drop i (rope_cells (table_of coded_byte old) text))
    → Names (record { held = old; brought = brought }) text os → Names (record { held = new; brought = brought }) rope (take n (drop i os))
names_part old new brought text rope i n os there cells names = record {
  there = there;
  same = ap (map (named brought)) cells ∙ named_part brought (rope_cells (table_of coded_byte old) text) os n i names.same;
}

pub names_joined : (old new : Held Coded) (brought : List Origin) (left right rope : Option NodeId) (os ps : List Origin) → IsRope (table_of coded_byte new) rope → rope_cells (table_of coded_byte new) rope ≡ rope_cells (table_of coded_byte old) left ++ rope_cells (table_of coded_byte old) right
    → Names (record { held = old; brought = brought }) left os → Names (record { held = old; brought = brought }) right ps → Names (record { held = new; brought = brought }) rope (os ++ ps)
names_joined old new brought left right rope os ps there cells first second = record {
  there = there;
  same = ap (map (named brought)) cells ∙ named_joined brought (rope_cells (table_of coded_byte old) left) (rope_cells (table_of coded_byte old) right) os ps first.same second.same;
}
