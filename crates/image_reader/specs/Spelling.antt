-- The one spelling of each image.
use Rattle.std.specs.Prelude.{ℕ, Bool, true, false, List, [], ◌∷◌, ◌++◌, length, Option, Some, None}
use Rattle.std.specs.List.{flat_map}
use Rattle.std.specs.Int.{Width, w8, w16, w32, w64}
use Rattle.rope_node.specs.declared.node.NodeId.{NodeId}
use Rattle.rope_node.specs.declared.node.NodeView.{NodeView}
use Rattle.rope_node.specs.declared.node.NodeView.TheVariants.{Lit, Src, Fun, Cat, Sub}
use Rattle.function_leaf.specs.declared.coded.Coded.{Coded}
use Rattle.function_leaf.specs.declared.coded.Coded.TheVariants.{Fill, Ramp, Cycle}
use Rattle.function_leaf.specs.Pattern.{padded}
use Rattle.command_parts.specs.Fields.{recorded, numbers_of}
use Rattle.command_parts.specs.declared.numbers.Numbers.{Numbers}
use Rattle.span_certificate.specs.declared.row.Row.{Row}
use Rattle.span_certificate.specs.declared.row.RowKind.{RowKind}
use Rattle.span_certificate.specs.declared.row.RowKind.TheVariants.{Shared, Leaf, Bytes}
use Rattle.image_reader.specs.declared.revision.Revision.{Revision}
use Rattle.image_reader.specs.Layout.{spelled}
use Rattle.image_reader.specs.declared.codes.TheConstants.{BYTES_ROW, CONCATENATION, CYCLE, FILL, FUNCTION, LEAF_ROW, LITERAL, RAMP, SHARED_ROW, SOURCE_SPAN, SUBSTRING}
use Rattle.image_reader.specs.declared.decode.TheConstants.{NIL_ROOT}
use Rattle.command_parts.specs.declared.edit.Splice.{Splice}
use Rattle.image_reader.specs.declared.header.TheConstants.{MAGIC}
use Rattle.image_reader.specs.Versions.{version_number}
use Rattle.image_reader.specs.Value.{ImageNode, ImageValue}

-- the magic number, the version, the numbers of sources, nodes, revisions, rows and splices, the pool's length;
-- version 1 has no splices, and 0 for their number
abbrev pub header_layout : List Width
header_layout = w64 ∷ w32 ∷ w32 ∷ w32 ∷ w32 ∷ w32 ∷ w32 ∷ w64 ∷ []

abbrev pub header_numbers : ImageValue → List ℕ
header_numbers v =
    MAGIC ∷ version_number v.version ∷ length v.sources ∷ length v.nodes ∷ length v.revisions ∷ length v.rows
    ∷ length v.splices ∷ length v.pool ∷ []

-- its length
abbrev pub source_layout : List Width
source_layout = w64 ∷ []

-- the bytes of a source's record
unfoldable pub source_spelling : ℕ → List ℕ
source_spelling n = spelled source_layout (n ∷ [])

-- kind, depth, function code, pattern length, x, length, a start, zeros
abbrev pub span_layout : List Width
span_layout = w8 ∷ w8 ∷ w8 ∷ w8 ∷ w32 ∷ w64 ∷ w64 ∷ w64 ∷ []

abbrev pub span_numbers : ℕ → ℕ → ℕ → ℕ → ℕ → List ℕ
span_numbers kind depth x len start = kind ∷ depth ∷ 0 ∷ 0 ∷ x ∷ len ∷ start ∷ 0 ∷ []

-- the same up to the length, and behind it the second child and zeros
abbrev pub concatenation_layout : List Width
concatenation_layout = w8 ∷ w8 ∷ w8 ∷ w8 ∷ w32 ∷ w64 ∷ w32 ∷ w32 ∷ w64 ∷ []

abbrev pub concatenation_numbers : ℕ → ℕ → ℕ → ℕ → List ℕ
concatenation_numbers depth len l r = CONCATENATION ∷ depth ∷ 0 ∷ 0 ∷ l ∷ len ∷ r ∷ 0 ∷ 0 ∷ []

-- the same up to the length, in front of a function's payload
abbrev pub function_layout : List Width
function_layout = w8 ∷ w8 ∷ w8 ∷ w8 ∷ w32 ∷ w64 ∷ []

abbrev pub function_code : Coded → ℕ
function_code (Fill c) = FILL
function_code (Ramp c) = RAMP
function_code (Cycle pattern) = CYCLE

-- the pattern length, 0 where there is no pattern
abbrev pub pattern_size : Coded → ℕ
pattern_size (Fill c) = 0
pattern_size (Ramp c) = 0
pattern_size (Cycle pattern) = length pattern

-- the bytes of the payload in front of its zeros
abbrev pub payload : Coded → List ℕ
payload (Fill c) = c ∷ []
payload (Ramp c) = c ∷ []
payload (Cycle pattern) = pattern

abbrev pub function_numbers : ℕ → ℕ → ℕ → ℕ → List ℕ
function_numbers depth len code size = FUNCTION ∷ depth ∷ code ∷ size ∷ 0 ∷ len ∷ []

unfoldable pub function_spelling : ℕ → ℕ → Coded → List ℕ
function_spelling depth len c =
    spelled function_layout (function_numbers depth len (function_code c) (pattern_size c)) ++ padded (payload c)

-- a node that is a function and holds none has no spelling
unfoldable pub view_spelling : ℕ → ℕ → NodeView → Option Coded → List ℕ
view_spelling depth len (Lit a) function = spelled span_layout (span_numbers LITERAL depth 0 len a)
view_spelling depth len (Src s a) function = spelled span_layout (span_numbers SOURCE_SPAN depth s len a)
view_spelling depth len Fun None = []
view_spelling depth len Fun (Some c) = function_spelling depth len c
view_spelling depth len (Cat l r) function = spelled concatenation_layout (concatenation_numbers depth len l.0 r.0)
view_spelling depth len (Sub b i) function = spelled span_layout (span_numbers SUBSTRING depth b.0 len i)

abbrev pub node_spelling : ImageNode → List ℕ
node_spelling n = view_spelling n.node.depth n.node.len n.node.view n.function

abbrev pub mark_number : Bool → ℕ
mark_number false = 0
mark_number true = 1

abbrev pub root_number : Option NodeId → ℕ
root_number None = NIL_ROOT
root_number (Some id) = id.0

-- code, mark, zero, root, r, q, p, m, a, n, the number of its rows, zero
abbrev pub revision_layout : List Width
revision_layout = w8 ∷ w8 ∷ w16 ∷ w32 ∷ w32 ∷ w32 ∷ w64 ∷ w64 ∷ w64 ∷ w64 ∷ w32 ∷ w32 ∷ []

abbrev pub revision_numbers : ℕ → Numbers → ℕ → ℕ → ℕ → List ℕ
revision_numbers code x mark root rows = code ∷ mark ∷ 0 ∷ root ∷ x.r ∷ x.q ∷ x.p ∷ x.m ∷ x.a ∷ x.n ∷ rows ∷ 0 ∷ []

-- the bytes of a revision's record
unfoldable pub revision_spelling : Revision → List ℕ
revision_spelling r =
    spelled revision_layout (revision_numbers (recorded r.edit).code (numbers_of r.edit) (mark_number r.mark)
    (root_number r.root) r.rows)

-- p, m, a, n
abbrev pub splice_layout : List Width
splice_layout = w64 ∷ w64 ∷ w64 ∷ w64 ∷ []

-- the bytes of a splice's record
unfoldable pub splice_spelling : Splice → List ℕ
splice_spelling x = spelled splice_layout (x.p ∷ x.m ∷ x.a ∷ x.n ∷ [])

-- tag, zeros, node, length, offset
abbrev pub row_layout : List Width
row_layout = w8 ∷ w8 ∷ w16 ∷ w32 ∷ w64 ∷ w64 ∷ []

abbrev pub row_numbers : ℕ → RowKind → List ℕ
row_numbers len (Shared k o) = SHARED_ROW ∷ 0 ∷ 0 ∷ k.0 ∷ len ∷ o ∷ []
row_numbers len Leaf = LEAF_ROW ∷ 0 ∷ 0 ∷ 0 ∷ len ∷ 0 ∷ []
row_numbers len Bytes = BYTES_ROW ∷ 0 ∷ 0 ∷ 0 ∷ len ∷ 0 ∷ []

-- the bytes of a row's record
unfoldable pub row_spelling : Row → List ℕ
row_spelling r = spelled row_layout (row_numbers r.len r.kind)

-- the records of each section behind those of the sections before it
abbrev pub records_spelling : ImageValue → List ℕ
records_spelling v =
    flat_map source_spelling v.sources
    ++ (flat_map node_spelling v.nodes
    ++ (flat_map revision_spelling v.revisions
    ++ (flat_map splice_spelling v.splices
    ++ flat_map row_spelling v.rows)))

-- the bytes of an image: header, sources, nodes, revisions, splices, rows, and the pool
unfoldable pub spelling : ImageValue → List ℕ
spelling v =
    spelled header_layout (header_numbers v)
    ++ (flat_map source_spelling v.sources
    ++ (flat_map node_spelling v.nodes
    ++ (flat_map revision_spelling v.revisions
    ++ (flat_map splice_spelling v.splices
    ++ (flat_map row_spelling v.rows
    ++ v.pool)))))
