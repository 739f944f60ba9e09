-- The texts before a revision as a table in which each is one leaf of its length, so that its number tells which text it is.
use Rattle.std.specs.Prelude.{ℕ, max, List, map, Option, Some, None, nat_lt, if◌then◌else◌}
use Rattle.std.specs.List.{range_with_len}
use Rattle.rope_node.specs.declared.node.NodeId.{NodeId}
use Rattle.rope_node.specs.declared.node.NodeView.TheVariants.{Fun}
use Rattle.rope_node.specs.Table.{Node, Table}
use Rattle.rope_node.specs.Denotes.{rope_len}
use Rattle.image_reader.specs.Value.{ImageValue, image_table}
use Rattle.command_parts.specs.declared.part.Part.{Part}
use Rattle.command_parts.specs.Parts.{parts_of}
use Rattle.image_reader.specs.Accepted.{revision_at, command_at}

-- how long the text of revision j is
abbrev pub len_of_text : ImageValue → ℕ → ℕ
len_of_text v j = rope_len (image_table v) (revision_at v j).root

-- text j as a node: one leaf of its length, of one byte where it is empty
abbrev pub text_node : ImageValue → ℕ → Node
text_node v j = record { view = Fun; len = max 1 (len_of_text v j); depth = 0 }

-- the texts before revision k, each as one node
abbrev pub texts_table : ImageValue → ℕ → Table
texts_table v k = record {
  nodes = map (text_node v) (range_with_len 0 k);
  pool = v.pool;
  sources = v.sources;
  answer = λ id p. 0;
}

-- text j as a rope: nil where it is empty
abbrev pub root_of_text : ImageValue → ℕ → Option NodeId
root_of_text v j = if nat_lt 0 (len_of_text v j) then Some (record { 0 = j }) else None

-- the texts before revision k as ropes
abbrev pub texts_roots : ImageValue → ℕ → List (Option NodeId)
texts_roots v k = map (root_of_text v) (range_with_len 0 k)

-- the parts of revision k's command over the texts before it
abbrev pub texts_parts : ImageValue → ℕ → List Part
texts_parts v k = parts_of (texts_table v k) (texts_roots v k) (command_at v k)
