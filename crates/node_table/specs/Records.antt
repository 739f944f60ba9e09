-- The records of each kind of node.
use Rattle.std.specs.Prelude.{ℕ, Some, None}
use Rattle.rope_node.specs.declared.node.NodeId.{NodeId}
use Rattle.rope_node.specs.declared.node.NodeView.TheVariants.{Lit, Src, Fun, Cat, Sub}
use Rattle.node_table.specs.declared.record.Record.{Record}

-- the record of the n bytes of the pool from a on
abbrev pub literal_record : {F : Type 0} → ℕ → ℕ → Record F
literal_record a n = record { view = Lit a; len = n; depth = 0; function = None }

-- that of the n bytes of source s from a on
abbrev pub source_record : {F : Type 0} → ℕ → ℕ → ℕ → Record F
source_record s a n = record { view = Src s a; len = n; depth = 0; function = None }

-- that of the bytes of f at 0 to n - 1
abbrev pub function_record : {F : Type 0} → F → ℕ → Record F
function_record f n = record { view = Fun; len = n; depth = 0; function = Some f }

-- that of l followed by r, with the length and the depth that both give
abbrev pub concatenation_record : {F : Type 0} → NodeId → NodeId → ℕ → ℕ → Record F
concatenation_record l r n d = record { view = Cat l r; len = n; depth = d; function = None }

-- that of the n bytes of b from i on
abbrev pub part_record : {F : Type 0} → NodeId → ℕ → ℕ → ℕ → Record F
part_record b i n d = record { view = Sub b i; len = n; depth = d; function = None }
