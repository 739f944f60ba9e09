-- The nodes that one call makes, in their order.
use Rattle.std.specs.Prelude.{List, [], ◌∷◌}
use Rattle.node_table.specs.declared.record.Record.{Record}
use Rattle.node_table.specs.declared.new_nodes.NewNodes.{NewNodes}
use Rattle.node_table.specs.declared.new_nodes.NewNodes.TheVariants.{One, Two, Three}

-- the one to three nodes of a call in their order
abbrev pub listed : {F : Type 0} → NewNodes F → List (Record F)
listed (One a) = a ∷ []
listed (Two a b) = a ∷ b ∷ []
listed (Three a b c) = a ∷ b ∷ c ∷ []
