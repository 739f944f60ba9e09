-- Functions that an image can hold, at the nodes of a table.
use Rattle.std.specs.Prelude.{◌≡◌, ℕ, Option, Some, None, refl}
use Rattle.function_leaf.specs.declared.coded.Coded.{Coded}
use Rattle.function_leaf.specs.Coded.{coded_byte}
use Rattle.function_leaf.specs.Optional.{answer_of, or_fill}
use Rattle.rope_node.specs.Table.{Table}

-- what the table answers at a node is what this function gives
abbrev pub AnswersCoded : Table → ℕ → Coded → Type 0
AnswersCoded t id f = (i : ℕ) → t.answer id i ≡ coded_byte f i

-- a function that may be missing answers as the one that is put in its place
pub answers_as_filled : (f : Option Coded) (i : ℕ) → answer_of coded_byte f i ≡ coded_byte (or_fill f) i
answers_as_filled None i = refl
answers_as_filled (Some f) i = refl
