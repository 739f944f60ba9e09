-- The tables of the worked examples.
use Rattle.std.specs.Prelude.{ℕ, List, [], ◌∷◌, ◌-◌, ◌^◌, length, codes}
use Rattle.rope_node.specs.declared.node.NodeId.{NodeId}
use Rattle.rope_node.specs.declared.node.NodeView.{NodeView}
use Rattle.rope_node.specs.declared.node.NodeView.TheVariants.{Lit, Src, Fun, Cat, Sub}
use Rattle.rope_node.specs.Table.{Node, Table}

abbrev pub stated_node : NodeView → ℕ → ℕ → Node
stated_node view len depth = record { view = view; len = len; depth = depth }

abbrev pub number : ℕ → NodeId
number n = record { 0 = n }

-- a left chain of four literals of one byte each; its root is node 6
abbrev pub chain_of_four : Table
chain_of_four = record {
  nodes = stated_node (Lit 0) 1 0
      ∷ stated_node (Lit 1) 1 0
      ∷ stated_node (Cat (number 0) (number 1)) 2 1
      ∷ stated_node (Lit 2) 1 0
      ∷ stated_node (Cat (number 2) (number 3)) 3 2
      ∷ stated_node (Lit 3) 1 0
      ∷ stated_node (Cat (number 4) (number 5)) 4 3
      ∷ [];
  pool = codes "abcd";
  sources = [];
  answer = λ id i. 0;
}

-- a literal of these bytes
abbrev pub literal_of : List ℕ → Table
literal_of bytes = record {
  nodes = stated_node (Lit 0) (length bytes) 0 ∷ [];
  pool = bytes;
  sources = [];
  answer = λ id i. 0;
}

-- the literal `abc`
abbrev pub abc_literal : Table
abc_literal = literal_of (codes "abc")

-- the last two bytes of the last three of `abcd`, with this depth recorded
abbrev pub part_of_a_part_recorded : ℕ → Table
part_of_a_part_recorded depth = record {
  nodes = stated_node (Lit 0) 2 0
      ∷ stated_node (Lit 2) 2 0
      ∷ stated_node (Cat (number 0) (number 1)) 4 1
      ∷ stated_node (Sub (number 2) 1) 3 2
      ∷ stated_node (Sub (number 3) 1) 2 depth
      ∷ [];
  pool = codes "abcd";
  sources = [];
  answer = λ id i. 0;
}

-- the same with the depth that it has
abbrev pub part_of_a_part : Table
part_of_a_part = part_of_a_part_recorded 3

-- the literal `ab`, and behind it the middle three of a source's five bytes
abbrev pub part_of_a_source : Table
part_of_a_source = record {
  nodes = stated_node (Lit 0) 2 0
      ∷ stated_node (Src 0 0) 5 0
      ∷ stated_node (Sub (number 1) 1) 3 1
      ∷ stated_node (Cat (number 0) (number 2)) 5 2
      ∷ [];
  pool = codes "ab";
  sources = 5 ∷ [];
  answer = λ id i. 0;
}

-- two functions as long as a text may be, and both together
abbrev pub too_long_together : Table
too_long_together = record {
  nodes = stated_node Fun (2 ^ 40 - 1) 0
      ∷ stated_node Fun (2 ^ 40 - 1) 0
      ∷ stated_node (Cat (number 0) (number 1)) (2 ^ 41 - 2) 1
      ∷ [];
  pool = [];
  sources = [];
  answer = λ id i. 97;
}

-- a literal, and a concatenation of itself with it
abbrev pub child_not_earlier : Table
child_not_earlier = record {
  nodes = stated_node (Lit 0) 1 0 ∷ stated_node (Cat (number 1) (number 0)) 2 1 ∷ [];
  pool = codes "a";
  sources = [];
  answer = λ id i. 0;
}
