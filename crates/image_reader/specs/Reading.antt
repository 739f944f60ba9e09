-- What bytes say when they are read by fixed places, and which fault they have first.
use Rattle.std.specs.Prelude.{◌≡◌, ℕ, ◌+◌, ◌*◌, ◌≤◌, Bool, false, not, ◌||◌, ◌&&◌, ◌==◌, nat_lt, List, [], ◌∷◌, ◌++◌, length, map, take, drop, Option, Some, None, if◌then◌else◌, codes}
use Rattle.std.specs.List.{sum_by}
use Rattle.std.specs.Int.{w8, w16, w32, w64}
use Rattle.rope_node.specs.declared.node.NodeId.{NodeId}
use Rattle.rope_node.specs.declared.node.NodeView.{NodeView}
use Rattle.rope_node.specs.declared.node.NodeView.TheVariants.{Lit, Src, Fun, Cat, Sub}
use Rattle.function_leaf.specs.declared.coded.Coded.{Coded}
use Rattle.function_leaf.specs.declared.coded.Coded.TheVariants.{Fill, Ramp, Cycle}
use Rattle.function_leaf.specs.declared.pattern.TheConstants.{PATTERN_LIMIT}
use Rattle.command_parts.specs.declared.edit.Edit.{Edit}
use Rattle.command_parts.specs.declared.edit.Splice.{Splice}
use Rattle.span_certificate.specs.declared.row.Row.{Row}
use Rattle.span_certificate.specs.declared.row.RowKind.{RowKind}
use Rattle.span_certificate.specs.declared.row.RowKind.TheVariants.{Shared, Leaf, Bytes}
use Rattle.command_parts.specs.Fields.{edit_by, field_of, unused}
use Rattle.command_parts.specs.declared.numbers.Numbers.{Numbers}
use Rattle.image_reader.specs.declared.fault.ReadFault.{ReadFault}
use Rattle.image_reader.specs.declared.fault.ReadFault.TheVariants.{Truncated, Trailing, Magic, Version, Count, NonZeroPad, Kind}
use Rattle.image_reader.specs.declared.header.Header.{Header}
use Rattle.image_reader.specs.declared.section.Sections.{Sections}
use Rattle.image_reader.specs.declared.revision.Revision.{Revision}
use Rattle.image_reader.specs.declared.version.FormatVersion.{FormatVersion}
use Rattle.image_reader.specs.Layout.{number_in, records}
use Rattle.image_reader.specs.Versions.{version_by, last_code, is_two}
use Rattle.command_parts.specs.declared.codes.TheConstants.{MANY, NEW}
use Rattle.command_parts.specs.declared.edit.TheConstants.{MOST_REVISIONS, SPLICES_LIMIT}
use Rattle.image_reader.specs.declared.header.TheConstants.{MAGIC, MOST_POOL}
use Rattle.image_reader.specs.declared.version.TheConstants.{VERSION_ONE, VERSION_TWO}
use Rattle.image_reader.specs.declared.codes.TheConstants.{BYTES_ROW, CONCATENATION, CYCLE, FILL, FUNCTION, LEAF_ROW, LITERAL, RAMP, SHARED_ROW, SOURCE_SPAN, SUBSTRING}
use Rattle.image_reader.specs.declared.layout.TheConstants.{HEADER_SIZE, NODE_SIZE, REVISION_SIZE, ROW_SIZE, SOURCE_SIZE, SPLICE_SIZE}
use Rattle.span_certificate.specs.declared.making.TheConstants.{ROWS_LIMIT}
use Rattle.image_reader.specs.declared.decode.TheConstants.{NIL_ROOT}
use Rattle.rope_node.specs.declared.limits.TheConstants.{MOST_NODES, MOST_SOURCES, TEXT_LIMIT}
use Rattle.image_reader.specs.Spelling.{records_spelling}
use Rattle.image_reader.specs.Value.{ImageNode, ImageValue, IsImage}

-- ---- what each record says

unfoldable pub source_of : List ℕ → ℕ
source_of bytes = number_in w64 0 bytes

abbrev pub id_of : ℕ → NodeId
id_of n = record { 0 = n }

-- what a node is
abbrev pub kind_in : List ℕ → ℕ
kind_in bytes = number_in w8 0 bytes

-- which function it is
abbrev pub function_code_in : List ℕ → ℕ
function_code_in bytes = number_in w8 2 bytes

abbrev pub pattern_size_in : List ℕ → ℕ
pattern_size_in bytes = number_in w8 3 bytes

unfoldable pub view_of : List ℕ → NodeView
view_of bytes =
    if kind_in bytes == LITERAL then Lit (number_in w64 16 bytes)
    else (if kind_in bytes == SOURCE_SPAN then Src (number_in w32 4 bytes) (number_in w64 16 bytes)
    else (if kind_in bytes == CONCATENATION then Cat (id_of (number_in w32 4 bytes)) (id_of (number_in w32 16 bytes))
    else (if kind_in bytes == SUBSTRING then Sub (id_of (number_in w32 4 bytes)) (number_in w64 16 bytes) else Fun)))

-- the pattern of a cycle
abbrev pub pattern_of : List ℕ → List ℕ
pattern_of bytes = take (pattern_size_in bytes) (drop 16 bytes)

unfoldable pub coded_of : List ℕ → Coded
coded_of bytes =
    if function_code_in bytes == FILL then Fill (number_in w8 16 bytes)
    else (if function_code_in bytes == RAMP then Ramp (number_in w8 16 bytes) else Cycle (pattern_of bytes))

unfoldable pub function_of : List ℕ → Option Coded
function_of bytes = if kind_in bytes == FUNCTION then Some (coded_of bytes) else None

abbrev pub image_node : List ℕ → ImageNode
image_node bytes = record {
  node = record { view = view_of bytes; len = number_in w64 8 bytes; depth = number_in w8 1 bytes };
  function = function_of bytes;
}

-- the code of a command, and the numbers that are a command's
abbrev pub command_code_in : List ℕ → ℕ
command_code_in bytes = number_in w8 0 bytes

abbrev pub numbers_in : List ℕ → Numbers
numbers_in bytes = record {
  r = number_in w32 8 bytes;
  q = number_in w32 12 bytes;
  p = number_in w64 16 bytes;
  m = number_in w64 24 bytes;
  a = number_in w64 32 bytes;
  n = number_in w64 40 bytes;
}

-- the command of a revision, where the revisions before it have so many splices
abbrev pub edit_in_bytes : ℕ → List ℕ → Edit
edit_in_bytes first bytes = edit_by first (command_code_in bytes) (field_of (numbers_in bytes))

abbrev pub root_by_number : ℕ → Option NodeId
root_by_number n = if n == NIL_ROOT then None else Some (id_of n)

abbrev pub root_in : List ℕ → Option NodeId
root_in bytes = root_by_number (number_in w32 4 bytes)

abbrev pub is_marked : List ℕ → Bool
is_marked bytes = number_in w8 1 bytes == 1

-- how many rows it has
abbrev pub row_count_in : List ℕ → ℕ
row_count_in bytes = number_in w32 48 bytes

-- how many splices it has
abbrev pub splice_count_in : List ℕ → ℕ
splice_count_in bytes = if command_code_in bytes == MANY then number_in w32 12 bytes else 0

unfoldable pub revision_of : ℕ → List ℕ → Revision
revision_of first bytes = record {
  edit = edit_in_bytes first bytes;
  mark = is_marked bytes;
  root = root_in bytes;
  rows = row_count_in bytes;
}

-- the revisions of some records, each of which knows how many splices those before it have
unfoldable pub revisions_of : ℕ → List (List ℕ) → List Revision
revisions_of first [] = []
revisions_of first (x ∷ xs) = revision_of first x ∷ revisions_of (first + splice_count_in x) xs

unfoldable pub splice_of : List ℕ → Splice
splice_of bytes = record {
  p = number_in w64 0 bytes;
  m = number_in w64 8 bytes;
  a = number_in w64 16 bytes;
  n = number_in w64 24 bytes;
}

-- what a row is
abbrev pub tag_in : List ℕ → ℕ
tag_in bytes = number_in w8 0 bytes

abbrev pub row_kind_of : List ℕ → RowKind
row_kind_of bytes =
    if tag_in bytes == SHARED_ROW then Shared (id_of (number_in w32 4 bytes)) (number_in w64 16 bytes)
    else (if tag_in bytes == LEAF_ROW then Leaf else Bytes)

unfoldable pub row_of : List ℕ → Row
row_of bytes = record { len = number_in w64 8 bytes; kind = row_kind_of bytes }

-- ---- the numbers of the header

abbrev pub version_in : List ℕ → FormatVersion
version_in bytes = version_by (number_in w32 8 bytes)

abbrev pub source_count : List ℕ → ℕ
source_count bytes = number_in w32 12 bytes

abbrev pub node_count : List ℕ → ℕ
node_count bytes = number_in w32 16 bytes

abbrev pub revision_count : List ℕ → ℕ
revision_count bytes = number_in w32 20 bytes

abbrev pub row_count : List ℕ → ℕ
row_count bytes = number_in w32 24 bytes

abbrev pub splice_count : List ℕ → ℕ
splice_count bytes = number_in w32 28 bytes

abbrev pub pool_len : List ℕ → ℕ
pool_len bytes = number_in w64 32 bytes

-- the whole length that the header states
unfoldable pub stated_len : List ℕ → ℕ
stated_len bytes =
    HEADER_SIZE + SOURCE_SIZE * source_count bytes + NODE_SIZE * node_count bytes + REVISION_SIZE * revision_count bytes
    + SPLICE_SIZE * splice_count bytes + ROW_SIZE * row_count bytes + pool_len bytes

-- the same length by the numbers of a header
abbrev pub whole_len : Header → ℕ
whole_len h =
    HEADER_SIZE + SOURCE_SIZE * h.sources + NODE_SIZE * h.nodes + REVISION_SIZE * h.revisions + SPLICE_SIZE * h.splices
    + ROW_SIZE * h.rows + h.pool

-- a header holds the numbers of these bytes
pub record HasHeader (bytes : List ℕ) (h : Header) : Type 0 where
  pub version : h.version ≡ version_in bytes
  pub sources : h.sources ≡ source_count bytes
  pub nodes : h.nodes ≡ node_count bytes
  pub revisions : h.revisions ≡ revision_count bytes
  pub splices : h.splices ≡ splice_count bytes
  pub rows : h.rows ≡ row_count bytes
  pub pool : h.pool ≡ pool_len bytes

-- ---- where each section begins, and what is from there on

abbrev pub from_sources : List ℕ → List ℕ
from_sources bytes = drop HEADER_SIZE bytes

abbrev pub from_nodes : List ℕ → List ℕ
from_nodes bytes = drop (SOURCE_SIZE * source_count bytes) (from_sources bytes)

abbrev pub from_revisions : List ℕ → List ℕ
from_revisions bytes = drop (NODE_SIZE * node_count bytes) (from_nodes bytes)

abbrev pub from_splices : List ℕ → List ℕ
from_splices bytes = drop (REVISION_SIZE * revision_count bytes) (from_revisions bytes)

abbrev pub from_rows : List ℕ → List ℕ
from_rows bytes = drop (SPLICE_SIZE * splice_count bytes) (from_splices bytes)

abbrev pub from_pool : List ℕ → List ℕ
from_pool bytes = drop (ROW_SIZE * row_count bytes) (from_rows bytes)

-- the bytes from each section on are enough for its records
pub record HasEnoughBytes (h : Header) (x : Sections) : Type 0 where
  pub for_sources : SOURCE_SIZE * h.sources ≤ length x.sources.now
  pub for_nodes : NODE_SIZE * h.nodes ≤ length x.nodes.now
  pub for_revisions : REVISION_SIZE * h.revisions ≤ length x.revisions.now
  pub for_splices : SPLICE_SIZE * h.splices ≤ length x.splices.now
  pub for_rows : ROW_SIZE * h.rows ≤ length x.rows.now

-- these are the bytes from each section on, by the numbers of a header
pub record AreSections (h : Header) (bytes : List ℕ) (x : Sections) : Type 0 where
  pub sources : x.sources.now ≡ drop HEADER_SIZE bytes
  pub nodes : x.nodes.now ≡ drop (SOURCE_SIZE * h.sources) x.sources.now
  pub revisions : x.revisions.now ≡ drop (NODE_SIZE * h.nodes) x.nodes.now
  pub splices : x.splices.now ≡ drop (REVISION_SIZE * h.revisions) x.revisions.now
  pub rows : x.rows.now ≡ drop (SPLICE_SIZE * h.splices) x.splices.now
  pub pool : x.pool.now ≡ drop (ROW_SIZE * h.rows) x.rows.now

-- what an image of this version, with these records in its sections, says
unfoldable pub records_value : FormatVersion → List (List ℕ) → List (List ℕ) → List (List ℕ) → List (List ℕ) → List (List ℕ) → List ℕ
    → ImageValue
records_value version sources nodes revisions splices rows pool = record {
  version = version;
  sources = map source_of sources;
  nodes = map image_node nodes;
  revisions = revisions_of 0 revisions;
  splices = map splice_of splices;
  rows = map row_of rows;
  pool = pool;
}

-- what sections say
abbrev pub sections_value : Header → Sections → ImageValue
sections_value h x =
    records_value h.version (records SOURCE_SIZE h.sources x.sources.now) (records NODE_SIZE h.nodes x.nodes.now)
    (records REVISION_SIZE h.revisions x.revisions.now) (records SPLICE_SIZE h.splices x.splices.now)
    (records ROW_SIZE h.rows x.rows.now) x.pool.now

-- what bytes say
abbrev pub image_in : List ℕ → ImageValue
image_in bytes =
    records_value (version_in bytes) (records SOURCE_SIZE (source_count bytes) (from_sources bytes))
    (records NODE_SIZE (node_count bytes) (from_nodes bytes))
    (records REVISION_SIZE (revision_count bytes) (from_revisions bytes))
    (records SPLICE_SIZE (splice_count bytes) (from_splices bytes))
    (records ROW_SIZE (row_count bytes) (from_rows bytes)) (from_pool bytes)

-- ---- faults

-- a fault, or else what comes after it
infixr 10 ◌else◌
abbrev pub ◌else◌ : Option ReadFault → Option ReadFault → Option ReadFault
None else later = later
(Some fault) else later = Some fault

-- a fault where a test holds
abbrev pub fault_if : Bool → ReadFault → Option ReadFault
fault_if b fault = if b then Some fault else None

-- the first fault of some records
unfoldable pub first_fault : (List ℕ → Option ReadFault) → List (List ℕ) → Option ReadFault
first_fault fault [] = None
first_fault fault (x ∷ xs) = fault x else first_fault fault xs

abbrev pub any_nonzero : List ℕ → Bool
any_nonzero [] = false
any_nonzero (n ∷ ns) = not (n == 0) || any_nonzero ns

abbrev pub is_over_limit : List ℕ → Bool
is_over_limit bytes =
    nat_lt MOST_SOURCES (source_count bytes)
    || (nat_lt MOST_NODES (node_count bytes)
    || (nat_lt MOST_REVISIONS (revision_count bytes)
    || (nat_lt ROWS_LIMIT (row_count bytes)
    || ((is_two (version_in bytes) && nat_lt SPLICES_LIMIT (splice_count bytes))
    || nat_lt MOST_POOL (pool_len bytes)))))

abbrev pub is_unknown_version : List ℕ → Bool
is_unknown_version bytes = not (number_in w32 8 bytes == VERSION_ONE) && not (number_in w32 8 bytes == VERSION_TWO)

-- version 1 has zero where version 2 has the number of its splices
abbrev pub has_header_pad : List ℕ → Bool
has_header_pad bytes = not (is_two (version_in bytes)) && not (splice_count bytes == 0)

-- the fault that a header has by itself, whatever stands behind it
unfoldable pub front_fault : List ℕ → Option ReadFault
front_fault bytes =
    fault_if (not (number_in w64 0 bytes == MAGIC)) Magic
    else fault_if (is_unknown_version bytes) Version
    else fault_if (is_over_limit bytes) Count
    else fault_if (has_header_pad bytes) NonZeroPad

unfoldable pub header_fault : List ℕ → Option ReadFault
header_fault bytes =
    fault_if (nat_lt (length bytes) HEADER_SIZE) Truncated
    else front_fault bytes
    else fault_if (nat_lt (length bytes) (stated_len bytes)) Truncated
    else fault_if (nat_lt (stated_len bytes) (length bytes)) Trailing

unfoldable pub source_record_fault : List ℕ → Option ReadFault
source_record_fault bytes = fault_if (not (nat_lt (number_in w64 0 bytes) TEXT_LIMIT)) Count

-- a function code that stands for none, or a pattern of a length that none may have
abbrev pub is_unknown_function : List ℕ → Bool
is_unknown_function bytes =
    nat_lt (function_code_in bytes) FILL || (nat_lt CYCLE (function_code_in bytes)
    || (function_code_in bytes == CYCLE && (nat_lt (pattern_size_in bytes) 1
    || nat_lt PATTERN_LIMIT (pattern_size_in bytes))))

abbrev pub is_unknown_node : List ℕ → Bool
is_unknown_node bytes =
    nat_lt (kind_in bytes) LITERAL || (nat_lt SUBSTRING (kind_in bytes)
    || (kind_in bytes == FUNCTION && is_unknown_function bytes))

-- the fields that a function of this code does not use
abbrev pub unused_in_function : List ℕ → List ℕ
unused_in_function bytes =
    number_in w32 4 bytes ∷ (if function_code_in bytes == CYCLE then drop (pattern_size_in bytes) (drop 16 bytes)
    else pattern_size_in bytes ∷ drop 1 (drop 16 bytes))

abbrev pub unused_in_concatenation : List ℕ → List ℕ
unused_in_concatenation bytes =
    number_in w8 2 bytes ∷ number_in w8 3 bytes ∷ number_in w32 20 bytes ∷ number_in w64 24 bytes ∷ []

-- those of a literal, of a span of a source and of a substring
abbrev pub unused_in_span : List ℕ → List ℕ
unused_in_span bytes = number_in w8 2 bytes ∷ number_in w8 3 bytes ∷ number_in w64 24 bytes ∷ []

-- the fields that a node of this kind does not use
abbrev pub unused_in_node : List ℕ → List ℕ
unused_in_node bytes =
    if kind_in bytes == FUNCTION then unused_in_function bytes
    else (if kind_in bytes == CONCATENATION then unused_in_concatenation bytes
    else (if kind_in bytes == LITERAL then number_in w32 4 bytes ∷ unused_in_span bytes else unused_in_span bytes))

unfoldable pub node_record_fault : List ℕ → Option ReadFault
node_record_fault bytes =
    fault_if (is_unknown_node bytes) Kind
    else fault_if (any_nonzero (unused_in_node bytes)) NonZeroPad

-- the fields that no revision uses, and those that a command does not use
abbrev pub unused_in_revision : List ℕ → List ℕ
unused_in_revision bytes =
    number_in w16 2 bytes ∷ number_in w32 52 bytes ∷ unused (edit_in_bytes 0 bytes) (field_of (numbers_in bytes))

-- where `last` is the highest code of a command
abbrev pub is_unknown_revision : ℕ → List ℕ → Bool
is_unknown_revision last bytes =
    nat_lt (command_code_in bytes) NEW || (nat_lt last (command_code_in bytes) || nat_lt 1 (number_in w8 1 bytes))

unfoldable pub revision_record_fault : ℕ → List ℕ → Option ReadFault
revision_record_fault last bytes =
    fault_if (is_unknown_revision last bytes) Kind
    else fault_if (any_nonzero (unused_in_revision bytes)) NonZeroPad

-- the fields that no row uses, and those that a row without a node does not use
abbrev pub unused_in_row : List ℕ → List ℕ
unused_in_row bytes =
    number_in w8 1 bytes ∷ number_in w16 2 bytes
    ∷ (if tag_in bytes == SHARED_ROW then [] else number_in w32 4 bytes ∷ number_in w64 16 bytes ∷ [])

unfoldable pub row_record_fault : List ℕ → Option ReadFault
row_record_fault bytes =
    fault_if (nat_lt (tag_in bytes) SHARED_ROW || nat_lt BYTES_ROW (tag_in bytes)) Kind
    else fault_if (any_nonzero (unused_in_row bytes)) NonZeroPad

-- the rows that revisions have in all
unfoldable pub counted_rows : ℕ → List ℕ → ℕ
counted_rows count revisions = sum_by row_count_in (records REVISION_SIZE count revisions)

-- and the splices
unfoldable pub counted_splices : ℕ → List ℕ → ℕ
counted_splices count revisions = sum_by splice_count_in (records REVISION_SIZE count revisions)

-- the first fault of sections, each given with its number of records and with the bytes from it on
unfoldable pub sections_fault : FormatVersion → ℕ → List ℕ → ℕ → List ℕ → ℕ → List ℕ → ℕ → ℕ → List ℕ → Option ReadFault
sections_fault version source_count sources node_count nodes revision_count revisions splice_count row_count rows =
    first_fault source_record_fault (records SOURCE_SIZE source_count sources)
    else first_fault node_record_fault (records NODE_SIZE node_count nodes)
    else first_fault (revision_record_fault (last_code version)) (records REVISION_SIZE revision_count revisions)
    else fault_if (not (counted_rows revision_count revisions == row_count)) Count
    else fault_if (not (counted_splices revision_count revisions == splice_count)) Count
    else first_fault row_record_fault (records ROW_SIZE row_count rows)

-- the first fault of bytes that are no image
unfoldable pub fault_of : List ℕ → Option ReadFault
fault_of bytes =
    header_fault bytes
    else sections_fault (version_in bytes) (source_count bytes) (from_sources bytes) (node_count bytes)
    (from_nodes bytes) (revision_count bytes) (from_revisions bytes) (splice_count bytes) (row_count bytes)
    (from_rows bytes)

-- ---- how many bytes tell the first fault

abbrev pub judged_by : Option ReadFault → ℕ → ℕ
judged_by None stated = stated + 1
judged_by (Some fault) stated = HEADER_SIZE

-- how many bytes are judged: those of the header, where that has a fault by itself, else one more than it states
unfoldable pub judged_len : List ℕ → ℕ
judged_len bytes = judged_by (front_fault bytes) (stated_len bytes)

-- A header's own fault is the first fault of all bytes that begin with it. So many of these have the first fault of
-- them all, whatever stands behind the header; and where there is none, they are all.
pub record JudgesAll (n : ℕ) (header : List ℕ) : Type 0 where
  pub own : (f : ReadFault) → front_fault header ≡ Some f → (rest : List ℕ) → fault_of (header ++ rest) ≡ Some f
  pub fault : (rest : List ℕ) → fault_of (take n (header ++ rest)) ≡ fault_of (header ++ rest)
  pub whole : (rest : List ℕ) → fault_of (header ++ rest) ≡ None → take n (header ++ rest) ≡ header ++ rest

-- the code that the program prints
abbrev pub read_fault_code : ReadFault → List ℕ
read_fault_code Truncated = codes "I1"
read_fault_code Trailing = codes "I2"
read_fault_code Magic = codes "I3"
read_fault_code Version = codes "I4"
read_fault_code Count = codes "I5"
read_fault_code NonZeroPad = codes "I6"
read_fault_code Kind = codes "I7"

-- ---- an image over its bytes

-- the sections are whole, say an image, hold no node with a fault, and these bytes are its records as they are spelled
pub record SaysImage (h : Header) (x : Sections) (bytes : List ℕ) : Type 0 where
  pub enough : HasEnoughBytes h x
  pub image : IsImage (sections_value h x)
  pub nodes : first_fault node_record_fault (records NODE_SIZE h.nodes x.nodes.now) ≡ None
  pub recorded : bytes ≡ records_spelling (sections_value h x)
