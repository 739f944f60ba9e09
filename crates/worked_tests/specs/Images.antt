-- The images of the worked examples: an empty text, and `abc` or a chain of four literals inserted into it.
use Rattle.std.specs.Prelude.{Bool, true, false, List, [], ◌∷◌, length, map, Some, None, codes}
use Rattle.rope_node.specs.declared.node.NodeView.TheVariants.{Lit}
use Rattle.rope_node.specs.Table.{Node}
use Rattle.worked_tests.specs.Tables.{stated_node, number, chain_of_four}
use Rattle.command_parts.specs.declared.edit.Edit.TheVariants.{New, Insert}
use Rattle.span_certificate.specs.declared.row.Row.{Row}
use Rattle.worked_tests.specs.Commands.{leaf_row}
use Rattle.image_reader.specs.declared.revision.Revision.{Revision}
use Rattle.image_reader.specs.Value.{ImageNode, ImageValue}
use Rattle.image_reader.specs.declared.version.FormatVersion.TheVariants.{One}
use Rattle.lazy_file.specs.SourceTexts.{stated_in_memory}
use Rattle.session_checker.specs.declared.fault.CheckFault.{CheckFault}
use Rattle.session_checker.specs.RevisionRules.{IsFirstRevisionFault}

abbrev pub literal : ImageNode
literal = record { node = stated_node (Lit 0) 3 0; function = None }

abbrev pub empty_text : Revision
empty_text = record { edit = New; mark = false; root = None; rows = 0 }

abbrev pub insertion : Revision
insertion = record { edit = Insert 0 0 0 3; mark = true; root = Some (number 0); rows = 1 }

-- with these rows, which are the insertion's
abbrev pub one_insert_by : List Row → ImageValue
one_insert_by rows = record {
  version = One;
  sources = [];
  nodes = literal ∷ [];
  revisions = empty_text ∷ record insertion { rows = length rows } ∷ [];
  splices = [];
  rows = rows;
  pool = codes "abc";
}

abbrev pub one_insert : ImageValue
one_insert = one_insert_by (leaf_row 3 ∷ [])

-- a node that is no function
abbrev pub plain : Node → ImageNode
plain n = record { node = n; function = None }

-- an empty text, and `abcd` inserted into it, with this mark
abbrev pub inserted_chain : Bool → ImageValue
inserted_chain mark = record {
  version = One;
  sources = [];
  nodes = map plain chain_of_four.nodes;
  revisions = empty_text ∷ record { edit = Insert 0 0 0 4; mark = mark; root = Some (number 6); rows = 4 } ∷ [];
  splices = [];
  rows = leaf_row 1 ∷ leaf_row 1 ∷ leaf_row 1 ∷ leaf_row 1 ∷ [];
  pool = codes "abcd";
}

-- this is the first fault of its revisions, with no sources
abbrev pub IsFirstFaultAlone : ImageValue → CheckFault → Type 0
IsFirstFaultAlone v fault = IsFirstRevisionFault (stated_in_memory []) v fault
