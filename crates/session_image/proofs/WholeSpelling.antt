-- The sections of an image, one behind the other.
use Rattle.std.proofs.Common.{◌≡◌, ℕ, List, ◌++◌, Option, refl, ap, subst, ◌∙◌, append_assoc}
use Rattle.std.specs.Io.KnownBytes.{Appends}
use Rattle.std.specs.List.{flat_map}
use Rattle.byte_output.specs.Prefix.{AppendsPrefix}
use Rattle.image_reader.specs.Layout.{spelled}
use Rattle.image_reader.specs.Spelling.{records_spelling, header_layout, header_numbers, source_spelling, node_spelling, revision_spelling, splice_spelling, row_spelling, spelling}
use Rattle.image_reader.specs.Value.{ImageValue}
use Rattle.std.proofs.Common.{[], length}
use Rattle.std.proofs.lemmas.List.{append-nil}
use Rattle.std.specs.Prelude.{Result, Ok, Err, OnOk}
use Rattle.std.specs.List.{AllByRecursion}
use Rattle.byte_output.specs.declared.writing.WriteFault.{WriteFault}
use Rattle.edit_commands.specs.Session.{SessionValue}
use Rattle.image_reader.specs.Layout.{IsBytes}
use Rattle.image_reader.specs.Value.{FitsRow, FitsSplice}
use Rattle.session_image.specs.Written.{Writes, HoldsFit, EditsFit, SectionsFit, rows_in, splices_in}
use Rattle.session_image.proofs.Sections.{appends_then, prefix_then}

-- what stands in front of the sources, the nodes, the revisions, the splices, the rows and the pool
abbrev pub header_of : ImageValue → List ℕ
header_of v = spelled header_layout (header_numbers v)

abbrev pub to_sources : ImageValue → List ℕ
to_sources v = header_of v ++ flat_map source_spelling v.sources

abbrev pub to_nodes : ImageValue → List ℕ
to_nodes v = to_sources v ++ flat_map node_spelling v.nodes

abbrev pub to_revisions : ImageValue → List ℕ
to_revisions v = to_nodes v ++ flat_map revision_spelling v.revisions

abbrev pub to_splices : ImageValue → List ℕ
to_splices v = to_revisions v ++ flat_map splice_spelling v.splices

abbrev pub to_rows : ImageValue → List ℕ
to_rows v = to_splices v ++ flat_map row_spelling v.rows

pub from_sources : (v : ImageValue) → header_of v ++ (flat_map source_spelling v.sources ++ (flat_map node_spelling v.nodes ++ (flat_map revision_spelling v.revisions ++ (flat_map splice_spelling v.splices ++ (flat_map row_spelling v.rows ++ v.pool))))) ≡ spelling v
unfolding spelling
from_sources v = refl

pub from_nodes : (v : ImageValue) → to_sources v ++ (flat_map node_spelling v.nodes ++ (flat_map revision_spelling v.revisions ++ (flat_map splice_spelling v.splices ++ (flat_map row_spelling v.rows ++ v.pool)))) ≡ spelling v
from_nodes v = append_assoc (header_of v) (flat_map source_spelling v.sources) (flat_map node_spelling v.nodes ++ (flat_map revision_spelling v.revisions ++ (flat_map splice_spelling v.splices ++ (flat_map row_spelling v.rows ++ v.pool)))) ∙ from_sources v

pub from_revisions : (v : ImageValue) → to_nodes v ++ (flat_map revision_spelling v.revisions ++ (flat_map splice_spelling v.splices ++ (flat_map row_spelling v.rows ++ v.pool))) ≡ spelling v
from_revisions v = append_assoc (to_sources v) (flat_map node_spelling v.nodes) (flat_map revision_spelling v.revisions ++ (flat_map splice_spelling v.splices ++ (flat_map row_spelling v.rows ++ v.pool))) ∙ from_nodes v

pub from_splices : (v : ImageValue) → to_revisions v ++ (flat_map splice_spelling v.splices ++ (flat_map row_spelling v.rows ++ v.pool)) ≡ spelling v
from_splices v = append_assoc (to_nodes v) (flat_map revision_spelling v.revisions) (flat_map splice_spelling v.splices ++ (flat_map row_spelling v.rows ++ v.pool)) ∙ from_revisions v

pub from_rows : (v : ImageValue) → to_splices v ++ (flat_map row_spelling v.rows ++ v.pool) ≡ spelling v
from_rows v = append_assoc (to_revisions v) (flat_map splice_spelling v.splices) (flat_map row_spelling v.rows ++ v.pool) ∙ from_splices v

pub from_pool : (v : ImageValue) → to_rows v ++ v.pool ≡ spelling v
from_pool v = append_assoc (to_splices v) (flat_map row_spelling v.rows) v.pool ∙ from_rows v

-- the last piece
pub last_written : (a b c : Option (List ℕ)) (front piece whole : List ℕ) (result : Result (Unit {0}) WriteFault) → front ++ piece ≡ whole → Appends a b front → Writes b c piece result → Writes a c whole result
last_written a b c front piece whole (Ok x) e h w = record { ok = subst (λ (v : List ℕ). Appends a c v) e (appends_then a b c front piece h w.ok); err = tt }
last_written a b c front piece whole (Err x) e h w =
    let all : front ++ (piece ++ []) ≡ whole = ap (λ (v : List ℕ). front ++ v) (append-nil piece) ∙ e in
    record { ok = tt; err = subst (λ (v : List ℕ). AppendsPrefix a c v) all (prefix_then a b c front piece [] h w.err) }

pub all_fit : (v : SessionValue) (result : Result (Unit {0}) WriteFault) → HoldsFit v.held (length v.held.nodes) → EditsFit v.revisions (length v.revisions) → AllByRecursion FitsSplice (splices_in v.revisions) → AllByRecursion FitsRow (rows_in v.revisions) → OnOk result (IsBytes v.held.pool.bytes) → OnOk result (SectionsFit v)
all_fit v (Ok x) functions edits splices rows pool = record { functions = functions; edits = edits; splices = splices; rows = rows; pool = pool }
all_fit v (Err x) functions edits splices rows pool = tt

-- a header, the records and the pool
pub from_records : (v : ImageValue) → header_of v ++ (records_spelling v ++ v.pool) ≡ spelling v
unfolding spelling
from_records v =
    let whole : records_spelling v ++ v.pool ≡ flat_map source_spelling v.sources ++ (flat_map node_spelling v.nodes ++ (flat_map revision_spelling v.revisions ++ (flat_map splice_spelling v.splices ++ (flat_map row_spelling v.rows ++ v.pool)))) = simp append_assoc in
    ap (λ (xs : List ℕ). header_of v ++ xs) whole

pub joined : (v : ImageValue) → (header_of v ++ records_spelling v) ++ v.pool ≡ spelling v
joined v = append_assoc (header_of v) (records_spelling v) v.pool ∙ from_records v
