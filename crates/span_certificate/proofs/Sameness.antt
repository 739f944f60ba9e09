-- Rows that cover show that both sides have one text; and where no row of bytes is over a source, the same cells.
use Rattle.std.proofs.Common.{◌≡◌, ℕ, zero, suc, ◌+◌, ◌<◌, ◌≤◌, List, map, length, take, drop, Option, Some, None, refl, subst, sym, ap, ◌∙◌, arith, add-one}
use Rattle.std.proofs.lemmas.List.{take_all, length-map, map-id}
use Rattle.std.proofs.lemmas.Simd.{map-map}
use Rattle.std.proofs.Math.Seq.{take-add}
use Rattle.function_leaf.specs.declared.coded.Coded.{Coded}
use Rattle.function_leaf.specs.declared.coded.Coded.TheVariants as Function
use Rattle.rope_node.specs.declared.node.NodeId.{NodeId}
use Rattle.rope_node.specs.Table.{Table, view_at, IsSound, HasTrueRecords}
use Rattle.rope_node.specs.Denotes.{Cell, Byte, cells, cell_byte, rope_cells, rope_len, IsRope, text}
use Rattle.rope_node.proofs.Parts.{span_within, span-map}
use Rattle.span_certificate.specs.declared.content.Content.TheVariants.{Described}
use Rattle.span_descent.specs.declared.description.Description.{Description}
use Rattle.span_descent.specs.declared.description.Description.TheVariants.{Pooled, Sourced, Computed}
use Rattle.command_parts.specs.declared.part.Part.{Part}
use Rattle.command_parts.specs.declared.part.Part.TheVariants.{Old, Pool, Source, Fill}
use Rattle.span_certificate.specs.declared.row.Row.{Row}
use Rattle.span_certificate.specs.declared.row.RowKind.{RowKind}
use Rattle.span_certificate.specs.declared.row.RowKind.TheVariants.{Shared, Leaf, Bytes}
use Rattle.command_parts.specs.Parts.{part_len, part_cells, parts_cells, IsPart, AreParts}
use Rattle.span_certificate.specs.PartLeads.{RopeLeads, PartLeads, RopeHasDescription, PartHasDescription}
use Rattle.span_descent.specs.Leads.{described_cells, AreAnswered}
use Rattle.span_certificate.specs.Covers.{row_at, rows_len, place_of, HaveOneDescription, HaveSameBytes, IsByte, KindFitsBy, Covers, CoversBy, MeetsNoSource, SameOver}
use Rattle.span_certificate.specs.SpanRows.{AreBytes}
use Rattle.span_certificate.proofs.ComparedCells.{bytes_of_each, compared_all}
use Rattle.span_descent.proofs.Cells.{leads_cells, leads_inside}
use Rattle.span_descent.proofs.Describing.{leaf_cells}
use Rattle.span_certificate.proofs.Covering.{holds_place, length-parts_cells, place_of_more, place_of_all}
use Rattle.span_certificate.proofs.Contents.{part_content}
use Rattle.rope_node.proofs.Ropes.{rope_length}

-- ---- one row

pub rope_leads_cells : (t : Table) → IsSound t → HasTrueRecords t → (n k o : ℕ) (rope : Option NodeId) (p : ℕ) → 1 ≤ n → IsRope t rope → p + n ≤ rope_len t rope → RopeLeads t n k o rope p → take n (drop p (rope_cells t rope)) ≡ take n (drop o (cells t k))
rope_leads_cells t s h n k o None p some there inside lead = absurd lead
rope_leads_cells t s h n k o (Some x) p some there inside lead = leads_cells t s h some lead there inside

rope_described : (t : Table) → IsSound t → HasTrueRecords t → (coded : ℕ → Coded) → AreAnswered t coded → (n : ℕ) (rope : Option NodeId) (p : ℕ) (d : Description) → 1 ≤ n → IsRope t rope → p + n ≤ rope_len t rope → RopeHasDescription t coded n rope p d
    → take n (drop p (rope_cells t rope)) ≡ described_cells t n d
rope_described t s h coded answers n None p d some there inside is = absurd is
rope_described t s h coded answers n (Some x) p d some there inside (k, o, lead, is) =
    let end = leads_inside t s h some lead.0 there inside in
    leads_cells t s h some lead.0 there inside ∙ leaf_cells t s (coded k) k o n end.0 end.1 (view_at t k) refl (answers k) d is

-- a span of an old part is one of its rope
old_cells : (t : Table) (rope : Option NodeId) (i m off n : ℕ) → off + n ≤ m → take n (drop off (part_cells t (Old rope i m))) ≡ take n (drop (i + off) (rope_cells t rope))
old_cells t rope i m off n fits = span_within n off m i (rope_cells t rope) fits ∙ ap (λ (j : ℕ). take n (drop j (rope_cells t rope))) (omega arith)

pub part_leads_cells : (t : Table) → IsSound t → HasTrueRecords t → (n k o : ℕ) (part : Part) (off : ℕ) → 1 ≤ n → IsPart t part → off + n ≤ part_len part → PartLeads t n k o part off → take n (drop off (part_cells t part)) ≡ take n (drop o (cells t k))
part_leads_cells t s h n k o (Old rope i m) off some is fits lead = old_cells t rope i m off n fits ∙ rope_leads_cells t s h n k o rope (i + off) some is.1.0 (omega (arith, is.1.1, fits)) lead
part_leads_cells t s h n k o (Pool a m) off some is fits lead = absurd lead
part_leads_cells t s h n k o (Source r m) off some is fits lead = absurd lead
part_leads_cells t s h n k o (Fill c m) off some is fits lead = absurd lead

part_described : (t : Table) → IsSound t → HasTrueRecords t → (coded : ℕ → Coded) → AreAnswered t coded → (n : ℕ) (part : Part) (off : ℕ) (d : Description) → 1 ≤ n → IsPart t part → off + n ≤ part_len part → PartHasDescription t coded n part off d
    → take n (drop off (part_cells t part)) ≡ described_cells t n d
part_described t s h coded answers n (Old rope i m) off d some is fits of_part = old_cells t rope i m off n fits ∙ rope_described t s h coded answers n rope (i + off) d some is.1.0 (omega (arith, is.1.1, fits)) of_part
part_described t s h coded answers n (Pool a m) off d some is fits of_part = part_content t (Pool a m) off n (Described (Pooled (a + off))) refl fits ∙ ap (described_cells t n) of_part
part_described t s h coded answers n (Source r m) off d some is fits of_part = part_content t (Source r m) off n (Described (Sourced r off)) refl fits ∙ ap (described_cells t n) of_part
part_described t s h coded answers n (Fill c m) off d some is fits of_part = part_content t (Fill c m) off n (Described (Computed (Function.Fill c) 0)) refl fits ∙ ap (described_cells t n) of_part

-- spans of parts that have one description have the same cells
pub one_description_cells : (t : Table) → IsSound t → HasTrueRecords t → (coded : ℕ → Coded) → AreAnswered t coded → (n : ℕ) (part : Part) (off : ℕ) (other : Part) (place : ℕ)
    → 1 ≤ n → IsPart t part → off + n ≤ part_len part → IsPart t other → place + n ≤ part_len other → HaveOneDescription t coded n part off other place
    → take n (drop off (part_cells t part)) ≡ take n (drop place (part_cells t other))
one_description_cells t s h coded answers n part off other place some is fits is_other fits_other (d, of_part, of_other) =
    part_described t s h coded answers n part off d some is fits of_part ∙ sym (part_described t s h coded answers n other place d some is_other fits_other of_other)

module _ (t : Table) (s : IsSound t) (h : HasTrueRecords t) (coded : ℕ → Coded) (answers : AreAnswered t coded) (Same : List Cell → List Cell → Type 0) (n : ℕ) (part : Part) (off : ℕ) (root : Option NodeId) (place : ℕ) (some : 1 ≤ n) (is : IsPart t part) (in_part : off + n ≤ part_len part) (there : IsRope t root) (in_root : place + n ≤ rope_len t root) where
  kind_cells : (kind : RowKind) → (kind ≡ Bytes → take n (drop off (part_cells t part)) ≡ take n (drop place (rope_cells t root)))
      → KindFitsBy t coded Same n part off root place kind → take n (drop off (part_cells t part)) ≡ take n (drop place (rope_cells t root))
  kind_cells (Shared k o) bytes fits =
      part_leads_cells t s h n k.0 o part off some is in_part fits.0 ∙ sym (rope_leads_cells t s h n k.0 o root place some there in_root fits.1)
  kind_cells Leaf bytes (d, of_part, of_root) =
      part_described t s h coded answers n part off d some is in_part of_part ∙ sym (rope_described t s h coded answers n root place d some there in_root of_root)
  kind_cells Bytes bytes fits = bytes refl

  kind_text : (source : ℕ → ℕ → ℕ) (kind : RowKind) → (kind ≡ Bytes → text source (take n (drop off (part_cells t part))) ≡ text source (take n (drop place (rope_cells t root))))
      → KindFitsBy t coded Same n part off root place kind → text source (take n (drop off (part_cells t part))) ≡ text source (take n (drop place (rope_cells t root)))
  kind_text source (Shared k o) bytes fits = ap (text source) (kind_cells (Shared k o) (λ e. absurd cc) fits)
  kind_text source Leaf bytes fits = ap (text source) (kind_cells Leaf (λ e. absurd cc) fits)
  kind_text source Bytes bytes fits = bytes refl

-- bytes of one text are one list of cells
bytes_same : (source : ℕ → ℕ → ℕ) (xs ys : List Cell) → AreBytes xs → AreBytes ys → text source xs ≡ text source ys → xs ≡ ys
bytes_same source xs ys (av, e) (bs, f) same =
    let of_as : text source xs ≡ av = ap (text source) e ∙ map-map (cell_byte source) Byte av ∙ map-id av in
    let of_bs : text source ys ≡ bs = ap (text source) f ∙ map-map (cell_byte source) Byte bs ∙ map-id bs in
    e ∙ ap (map Byte) (sym of_as ∙ same ∙ of_bs) ∙ sym f

-- ---- all rows

same_before : {X : Type 0} (xs ys : List X) (rows : List Row) → ((i : ℕ) → i < length rows → take (row_at rows i).len (drop (place_of rows i) xs) ≡ take (row_at rows i).len (drop (place_of rows i) ys)) → (j : ℕ) → j ≤ length rows
    → take (place_of rows j) xs ≡ take (place_of rows j) ys
same_before xs ys rows each zero le = refl
same_before xs ys rows each (suc j) le =
    let lt : j < length rows = omega arith in
    let step : place_of rows (suc j) ≡ place_of rows j + (row_at rows j).len = rw (← add-one j) (place_of_more rows j lt) in
    rw (step, take-add (place_of rows j) (row_at rows j).len xs, take-add (place_of rows j) (row_at rows j).len ys)
    (rw (same_before xs ys rows each j (omega arith), each j lt) refl)

same_whole : {X : Type 0} (xs ys : List X) (rows : List Row) → ((i : ℕ) → i < length rows → take (row_at rows i).len (drop (place_of rows i) xs) ≡ take (row_at rows i).len (drop (place_of rows i) ys)) → length xs ≡ rows_len rows → length ys ≡ rows_len rows → xs ≡ ys
same_whole xs ys rows each a b =
    let whole = place_of_all rows in
    sym (take_all (place_of rows (length rows)) xs (omega (arith, a, whole))) ∙ same_before xs ys rows each (length rows) (omega arith) ∙ take_all (place_of rows (length rows)) ys (omega (arith, b, whole))

-- what rows of bytes that cover are over is the same
pub covered_bytes : (t : Table) → IsSound t → HasTrueRecords t → (coded : ℕ → Coded) (Same : List Cell → List Cell → Type 0) (parts : List Part) (root : Option NodeId) (rows : List Row) → AreParts t parts → CoversBy t coded Same parts root rows
    → HaveSameBytes Same t parts root rows
covered_bytes t s h coded Same parts root rows are c j lt is =
    let fits = c.fit j lt in
    let held = holds_place t s h parts (place_of rows j) fits.part fits.off are fits.at_part in
    let kind : KindFitsBy t coded Same (row_at rows j).len fits.part fits.off root (place_of rows j) Bytes = rw is at fits.kind in
    subst (λ (cs : List Cell). Same cs (take (row_at rows j).len (drop (place_of rows j) (rope_cells t root)))) (sym (held.same (row_at rows j).len fits.inside_part)) kind.1

-- Rows that cover show that both sides have one text over any bytes of the sources over which each row of bytes has the
-- same bytes on both sides,
pub covered_text : (t : Table) → IsSound t → HasTrueRecords t → (coded : ℕ → Coded) → AreAnswered t coded → (Same : List Cell → List Cell → Type 0) (source : ℕ → ℕ → ℕ) (parts : List Part) (root : Option NodeId) (rows : List Row) → AreParts t parts → IsRope t root
    → CoversBy t coded Same parts root rows → HaveSameBytes (SameOver source) t parts root rows → text source (parts_cells t parts) ≡ text source (rope_cells t root)
covered_text t s h coded answers Same source parts root rows are there c bytes =
    let len_p : length (text source (parts_cells t parts)) ≡ rows_len rows = length-map (parts_cells t parts) (cell_byte source) ∙ length-parts_cells t s h parts are ∙ sym c.whole_parts in
    let len_r : length (text source (rope_cells t root)) ≡ rows_len rows = length-map (rope_cells t root) (cell_byte source) ∙ rope_length t s h root there ∙ sym c.whole_root in
    same_whole (text source (parts_cells t parts)) (text source (rope_cells t root)) rows
    (λ i lt.
    let fits = c.fit i lt in
    let held = holds_place t s h parts (place_of rows i) fits.part fits.off are fits.at_part in
    let same = held.same (row_at rows i).len fits.inside_part in
    span-map (cell_byte source) (row_at rows i).len (place_of rows i) (parts_cells t parts)
    ∙ ap (text source) same
    ∙ kind_text t s h coded answers Same (row_at rows i).len fits.part fits.off root (place_of rows i) fits.not_empty held.is_part fits.inside_part there fits.inside_root source (row_at rows i).kind
    (λ is. ap (text source) (sym same) ∙ bytes i lt is) fits.kind
    ∙ sym (span-map (cell_byte source) (row_at rows i).len (place_of rows i) (rope_cells t root)))
    len_p len_r

-- and that both have the same cells, where the cells of each row of bytes are
pub covered_cells_by : (t : Table) → IsSound t → HasTrueRecords t → (coded : ℕ → Coded) → AreAnswered t coded → (Same : List Cell → List Cell → Type 0) (parts : List Part) (root : Option NodeId) (rows : List Row) → AreParts t parts → IsRope t root
    → CoversBy t coded Same parts root rows → HaveSameBytes (λ cells others. cells ≡ others) t parts root rows → parts_cells t parts ≡ rope_cells t root
covered_cells_by t s h coded answers Same parts root rows are there c bytes =
    same_whole (parts_cells t parts) (rope_cells t root) rows
    (λ i lt.
    let fits = c.fit i lt in
    let held = holds_place t s h parts (place_of rows i) fits.part fits.off are fits.at_part in
    let same = held.same (row_at rows i).len fits.inside_part in
    same
    ∙ kind_cells t s h coded answers Same (row_at rows i).len fits.part fits.off root (place_of rows i) fits.not_empty held.is_part fits.inside_part there fits.inside_root (row_at rows i).kind
    (λ is. sym same ∙ bytes i lt is) fits.kind)
    (length-parts_cells t s h parts are ∙ sym c.whole_parts) (rope_length t s h root there ∙ sym c.whole_root)

-- as they are where none is over a source, and they are the same over some bytes of the sources
pub bytes_are_cells : (t : Table) (source : ℕ → ℕ → ℕ) (parts : List Part) (root : Option NodeId) (rows : List Row) → MeetsNoSource t parts root rows → HaveSameBytes (SameOver source) t parts root rows
    → HaveSameBytes (λ cells others. cells ≡ others) t parts root rows
bytes_are_cells t source parts root rows none bytes i lt is =
    let xs = take (row_at rows i).len (drop (place_of rows i) (parts_cells t parts)) in
    let ys = take (row_at rows i).len (drop (place_of rows i) (rope_cells t root)) in
    let both = compared_all IsByte (row_at rows i).kind xs ys is (none i lt) in
    bytes_same source xs ys (bytes_of_each xs both.0) (bytes_of_each ys both.1) (bytes i lt is)

pub covered_cells : (t : Table) → IsSound t → HasTrueRecords t → (coded : ℕ → Coded) → AreAnswered t coded → (source : ℕ → ℕ → ℕ) (parts : List Part) (root : Option NodeId) (rows : List Row) → AreParts t parts → IsRope t root → Covers t coded source parts root rows
    → MeetsNoSource t parts root rows → parts_cells t parts ≡ rope_cells t root
covered_cells t s h coded answers source parts root rows are there c none =
    covered_cells_by t s h coded answers (SameOver source) parts root rows are there c
    (bytes_are_cells t source parts root rows none (covered_bytes t s h coded (SameOver source) parts root rows are c))
