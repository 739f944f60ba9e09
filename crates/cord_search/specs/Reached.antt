-- Where a position stands.
use Rattle.std.specs.Prelude.{◌≡◌, ℕ, min, Option}
use Rattle.rope_node.specs.declared.node.NodeId.{NodeId}
use Rattle.rope_node.specs.Table.{Table}
use Rattle.rope_node.specs.Denotes.{rope_len}
use Rattle.cord_position.specs.Position.{Position}

-- the position is the place p of the rope x of the space s, or its end where p is past it
pub record StandsAtPlace {S : Type 0} (table : S → Table) (here : Position S) (s : S) (x : Option NodeId) (p : ℕ)
    : Type 0 where
  pub space : here.space ≡ s
  pub rope : here.rope ≡ x
  pub index : here.index ≡ min p (rope_len (table s) x)
