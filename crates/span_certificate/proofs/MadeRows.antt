-- What rows that were made and rows that were found good show, and when rows can be read.
use Rattle.std.proofs.Common.{◌≡◌, ℕ, ◌+◌, ◌≤◌, List, [], ◌∷◌, ◌++◌, inl, inr, length, take, drop, get_or, Option, Some, None, Result, Ok, Err, refl, ap, ◌∙◌, arith}
use Rattle.std.specs.Prelude.{All, IfOk, slice_index}
use Rattle.std.specs.List.{range_with_len}
use Rattle.std.proofs.lemmas.Bool.{cases_order, lt-ltb, le-leb}
use Rattle.std.proofs.lemmas.List.Elements.{All-append, All-drop, All-from_get_or, All-map, All-nil, All-replicate, All-take, All-weaker}
use Rattle.std.proofs.lemmas.List.FromFn.{get_or-range_with_len, length-range_with_len}
use Rattle.function_leaf.specs.declared.coded.Coded.{Coded}
use Rattle.rope_node.specs.declared.node.NodeId.{NodeId}
use Rattle.rope_node.specs.Table.{Table, IsSound, HasTrueRecords}
use Rattle.rope_node.specs.Denotes.{Cell, Byte, Place, rope_cells, IsRope}
use Rattle.lazy_file.specs.SourceTexts.{Agrees, Stated, text_at}
use Rattle.lazy_file.specs.declared.faults.SourceFault.{SourceFault}
use Rattle.cord_position.specs.Fetched.{AreOwn, AreStated, IsReadable, IsStated}
use Rattle.cord_position.proofs.Spans.{own_readable}
use Rattle.span_certificate.specs.declared.cover.Verdict.{Verdict}
use Rattle.span_certificate.specs.declared.cover.Verdict.TheVariants.{Good, Bad}
use Rattle.command_parts.specs.declared.part.Part.{Part}
use Rattle.command_parts.specs.declared.part.Part.TheVariants.{Old, Pool, Source, Fill}
use Rattle.span_certificate.specs.declared.row.Row.{Row}
use Rattle.command_parts.specs.Parts.{part_at, part_len, part_cells, parts_cells, IsPart, AreParts}
use Rattle.span_certificate.specs.declared.row.RowKind.{RowKind}
use Rattle.span_certificate.specs.declared.row.RowKind.TheVariants.{Shared, Leaf, Bytes}
use Rattle.span_certificate.specs.Covers.{row_at, place_of, row_compares, CoversAlways, CoversBy, Fits, FitsBy, HaveSameBytes, IsByte, KindFits, KindFitsBy, MeetsNoSource, SameOver}
use Rattle.span_certificate.specs.Verdicts.{CanBeSame, IsAskedFor, SameStated, ShowsSame, TellsRows}
use Rattle.span_descent.specs.Leads.{AreAnswered}
use Rattle.span_certificate.proofs.Sameness.{bytes_are_cells, covered_bytes, covered_cells_by, covered_text}
use Rattle.span_certificate.proofs.Covering.{holds_place}
use Rattle.span_certificate.proofs.Verdicts.{AreReadableRows, AreStatedRows, kind_of_fits, MayFit, rows_read}
use Rattle.lazy_file.specs.Readings.{fault_in, Reading, Reads}
use Rattle.span_certificate.proofs.ComparedCells.{all_compared}

-- ---- over no source

byte_stated : (st : Stated) (cell : Cell) → IsByte cell → IsStated st cell
byte_stated st (Byte b) is = tt
byte_stated st (Place s p) is = absurd is

byte_readable : (st : Stated) (cell : Cell) → IsByte cell → IsReadable st cell
byte_readable st (Byte b) is = tt
byte_readable st (Place s p) is = absurd is

-- rows over no source are over stated cells, which are read without a fault, whatever the sources are
pub no_source_stated : (t : Table) (st : Stated) (parts : List Part) (root : Option NodeId) (rows : List Row) → MeetsNoSource t parts root rows → AreStatedRows t st parts root rows
no_source_stated t st parts root rows none j lt = All-weaker IsByte (IsStated st) (byte_stated st) (row_compares t parts root (place_of rows j) (row_at rows j)) (none j lt)

pub no_source_readable : (t : Table) (st : Stated) (parts : List Part) (root : Option NodeId) (rows : List Row) → MeetsNoSource t parts root rows → AreReadableRows t st parts root rows
no_source_readable t st parts root rows none j lt = All-weaker IsByte (IsReadable st) (byte_readable st) (row_compares t parts root (place_of rows j) (row_at rows j)) (none j lt)

-- some bytes agree with what sources state
abbrev stated_byte : Option (List ℕ) → ℕ → ℕ
stated_byte None p = 0
stated_byte (Some t) p = slice_index t p

pub agreeing : (st : Stated) → (source : ℕ → ℕ → ℕ) × Agrees st source
agreeing st = (λ s p. stated_byte (text_at st s) p, λ s p t is inside. ap (λ o. stated_byte o p) is)

-- over rows of bytes that are over no source, what is the same over every reading is over one, and may be
pub none_over : (t : Table) (st : Stated) (source : ℕ → ℕ → ℕ) (parts : List Part) (root : Option NodeId) (rows : List Row) → Agrees st source → AreStatedRows t st parts root rows → HaveSameBytes (SameStated st) t parts root rows → HaveSameBytes (SameOver source) t parts root rows
none_over t st source parts root rows agrees stated bytes j lt is =
    bytes j lt is source agrees (rw is at (stated j lt))

-- over bytes that agree with what the sources state, a row that compares stated cells fits where it fits over all such
-- bytes; where it fits over them, it may fit
module _ (t : Table) (coded : ℕ → Coded) (st : Stated) (source : ℕ → ℕ → ℕ) (agrees : Agrees st source) where
  kind_over : (n : ℕ) (part : Part) (off : ℕ) (root : Option NodeId) (place : ℕ) (kind : RowKind) → (kind ≡ Bytes → AreStated st (take n (drop off (part_cells t part)) ++ take n (drop place (rope_cells t root))))
      → KindFitsBy t coded (SameStated st) n part off root place kind → KindFits t coded source n part off root place kind
  kind_over n part off root place (Shared k o) stated fits = fits
  kind_over n part off root place Leaf stated fits = fits
  kind_over n part off root place Bytes stated fits = (fits.0, fits.1 source agrees (stated refl))

  kind_may : (n : ℕ) (part : Part) (off : ℕ) (root : Option NodeId) (place : ℕ) (kind : RowKind) → (kind ≡ Bytes → AreStated st (take n (drop off (part_cells t part)) ++ take n (drop place (rope_cells t root))))
      → KindFits t coded source n part off root place kind → KindFitsBy t coded (CanBeSame st) n part off root place kind
  kind_may n part off root place (Shared k o) stated fits = fits
  kind_may n part off root place Leaf stated fits = fits
  kind_may n part off root place Bytes stated fits = (fits.0, (stated refl, (source, agrees, fits.1)))

  module _ (s : IsSound t) (h : HasTrueRecords t) (parts : List Part) (are : AreParts t parts) (root : Option NodeId) (place : ℕ) (row : Row) (stated : AreStated st (row_compares t parts root place row)) where
    compares_stated : (part : Part) (off : ℕ) → part_at parts place ≡ Some (part, off) → off + row.len ≤ part_len part → row.kind ≡ Bytes
        → AreStated st (take row.len (drop off (part_cells t part)) ++ take row.len (drop place (rope_cells t root)))
    compares_stated part off at in_part is =
        let held = holds_place t s h parts place part off are at in
        let joined : AreStated st (take row.len (drop place (parts_cells t parts)) ++ take row.len (drop place (rope_cells t root))) = rw is at stated in
        rw (held.same row.len in_part) at joined

    pub row_over : FitsBy t coded (SameStated st) parts root place row → Fits t coded source parts root place row
    row_over fits = record {
      part = fits.part;
      off = fits.off;
      at_part = fits.at_part;
      not_empty = fits.not_empty;
      inside_part = fits.inside_part;
      inside_root = fits.inside_root;
      kind = kind_over row.len fits.part fits.off root place row.kind (compares_stated fits.part fits.off fits.at_part fits.inside_part) fits.kind;
    }

    pub row_may : Fits t coded source parts root place row → FitsBy t coded (CanBeSame st) parts root place row
    row_may fits = record {
      part = fits.part;
      off = fits.off;
      at_part = fits.at_part;
      not_empty = fits.not_empty;
      inside_part = fits.inside_part;
      inside_root = fits.inside_root;
      kind = kind_may row.len fits.part fits.off root place row.kind (compares_stated fits.part fits.off fits.at_part fits.inside_part) fits.kind;
    }

-- rows that cover whatever the sources hold cover as far as they state it
pub always_stated : (t : Table) (coded : ℕ → Coded) (st : Stated) (parts : List Part) (root : Option NodeId) (rows : List Row) → CoversAlways t coded parts root rows → CoversBy t coded (SameStated st) parts root rows
always_stated t coded st parts root rows covers =
    let none = covers (λ s p. 0) in
    record {
      fit = λ j lt.
          let f = none.fit j lt in
          record {
            part = f.part;
            off = f.off;
            at_part = f.at_part;
            not_empty = f.not_empty;
            inside_part = f.inside_part;
            inside_root = f.inside_root;
            kind = always_kind t coded st (row_at rows j).len f.part f.off root (place_of rows j) (row_at rows j).kind
                (λ source. kind_of_fits t coded (SameOver source) parts root (place_of rows j) f.off f.part (row_at rows j) f.at_part ((covers source).fit j lt));
          };
      whole_root = none.whole_root;
      whole_parts = none.whole_parts;
    }
  where
    always_kind : (t : Table) (coded : ℕ → Coded) (st : Stated) (n : ℕ) (part : Part) (off : ℕ) (root : Option NodeId) (place : ℕ) (kind : RowKind) → ((source : ℕ → ℕ → ℕ) → KindFits t coded source n part off root place kind) → KindFitsBy t coded (SameStated st) n part off root place kind
    always_kind t coded st n part off root place (Shared k o) fits = fits (λ s p. 0)
    always_kind t coded st n part off root place Leaf fits = fits (λ s p. 0)
    always_kind t coded st n part off root place Bytes fits = ((fits (λ s p. 0)).0, λ source agrees stated. (fits source).1)

-- so rows that compare what the sources state may fit by it where they fit by it
pub stated_may : (t : Table) → IsSound t → HasTrueRecords t → (coded : ℕ → Coded) (st : Stated) (parts : List Part) (root : Option NodeId) (rows : List Row) → AreParts t parts → AreStatedRows t st parts root rows → (n : ℕ)
    → MayFit t coded (SameStated st) (CanBeSame st) parts root rows n
stated_may t s h coded st parts root rows are stated n i below lt fits =
    let some = agreeing st in
    let here = stated i lt in
    row_may t coded st some.0 some.1 s h parts are root (place_of rows i) (row_at rows i) here
    (row_over t coded st some.0 some.1 s h parts are root (place_of rows i) (row_at rows i) here fits)

-- rows that cover whatever the sources hold, and over none, are found good over any sources
pub made_good : (old new : Reading) (t : Table) → IsSound t → HasTrueRecords t → (coded : ℕ → Coded) (parts : List Part) (root : Option NodeId) (rows : List Row) (outcome : Result Verdict SourceFault)
    → AreParts t parts → MeetsNoSource t parts root rows → CoversAlways t coded parts root rows → Reads old new (IsAskedFor t coded old.stated parts root rows) (fault_in outcome) → IfOk outcome (TellsRows t coded old.stated parts root rows) → outcome ≡ Ok Good
made_good old new t s h coded parts root rows (Ok Good) are none covers reads tells = refl
made_good old new t s h coded parts root rows (Ok (Bad j)) are none covers reads tells =
    let some = agreeing old.stated in
    let c = covers some.0 in
    elim (cases_order j (length rows)) [
      | inl e ↦ absurd (tells.uncovered e (c.whole_root, c.whole_parts))
      | inr (inl lt) ↦ absurd (tells.unfit lt (row_may t coded old.stated some.0 some.1 s h parts are root (place_of rows j) (row_at rows j) (no_source_stated t old.stated parts root rows none j lt) (c.fit j lt)))
      | inr (inr gt) ↦ absurd (omega (arith, tells.at_most))
    ]
made_good old new t s h coded parts root rows (Err e) are none covers reads tells =
    let ok = rows_read old new t coded parts root rows (Err e) reads (no_source_readable t old.stated parts root rows none) in absurd cc

-- ---- over sources that are as many and as long as the table says, and never fail

rope_readable : (t : Table) → IsSound t → (st : Stated) → AreOwn st t → (rope : Option NodeId) → IsRope t rope → All (IsReadable st) (rope_cells t rope)
rope_readable t s st own None there = All-nil (IsReadable st)
rope_readable t s st own (Some id) there = All-from_get_or (IsReadable st) (rope_cells t (Some id)) (Byte 0) (λ p lt. own_readable t s st own (Some id) there p)

part_readable : (t : Table) → IsSound t → (st : Stated) → AreOwn st t → (part : Part) → IsPart t part → All (IsReadable st) (part_cells t part)
part_readable t s st own (Old rope i n) is =
    All-take (IsReadable st) n (drop i (rope_cells t rope)) (All-drop (IsReadable st) i (rope_cells t rope) (rope_readable t s st own rope is.1.0))
part_readable t s st own (Pool a n) is = All-map (IsReadable st) Byte (take n (drop a t.pool)) (λ k d lt. tt)
part_readable t s st own (Source r n) is =
    All-map (IsReadable st) (Place r) (range_with_len 0 n)
    (All-from_get_or (λ p. IsReadable st (Place r p)) (range_with_len 0 n) 0
    (λ k lt.
    let at : get_or (range_with_len 0 n) k 0 ≡ k = get_or-range_with_len 0 n k 0 (rw length-range_with_len at lt) ∙ omega arith in
    rw at (own.never_fails, rw (own.sizes, lt-ltb r (length t.sources) is.1.0, le-leb (k + 1) (slice_index t.sources r) (omega (arith, is.1.1, length-range_with_len 0 n))) refl)))
part_readable t s st own (Fill c n) is = All-replicate (IsReadable st) n (Byte c) tt

parts_readable : (t : Table) → IsSound t → (st : Stated) → AreOwn st t → (parts : List Part) → AreParts t parts → All (IsReadable st) (parts_cells t parts)
parts_readable t s st own [] are = All-nil (IsReadable st)
parts_readable t s st own (x ∷ xs) are = All-append (IsReadable st) (part_cells t x) (parts_cells t xs) (part_readable t s st own x are.0) (parts_readable t s st own xs are.1)

pub own_rows_readable : (t : Table) → IsSound t → (st : Stated) → AreOwn st t → (parts : List Part) (root : Option NodeId) (rows : List Row) → AreParts t parts → IsRope t root → AreReadableRows t st parts root rows
own_rows_readable t s st own parts root rows are there j lt =
    let row = row_at rows j in
    let place = place_of rows j in
    all_compared (IsReadable st) row.kind _ _
    (λ is. (
      All-take (IsReadable st) row.len (drop place (parts_cells t parts)) (All-drop (IsReadable st) place (parts_cells t parts) (parts_readable t s st own parts are)),
      All-take (IsReadable st) row.len (drop place (rope_cells t root)) (All-drop (IsReadable st) place (rope_cells t root) (rope_readable t s st own root there)),
    ))

-- rows that were found good show that both sides have one text
pub shows_same : (t : Table) → IsSound t → HasTrueRecords t → (coded : ℕ → Coded) → AreAnswered t coded → (st : Stated) (parts : List Part) (root : Option NodeId) (rows : List Row) → AreParts t parts → IsRope t root
    → CoversBy t coded (SameStated st) parts root rows → ShowsSame t parts root rows
shows_same t s h coded answers st parts root rows are there covers = record {
  same_text = λ source bytes. covered_text t s h coded answers (SameStated st) source parts root rows are there covers bytes;
  same_cells = λ none.
      let some = agreeing st in
      let bytes = none_over t st some.0 parts root rows some.1 (no_source_stated t st parts root rows none) (covered_bytes t s h coded (SameStated st) parts root rows are covers) in
      covered_cells_by t s h coded answers (SameStated st) parts root rows are there covers (bytes_are_cells t some.0 parts root rows none bytes);
}
