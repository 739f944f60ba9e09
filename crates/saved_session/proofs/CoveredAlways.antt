-- Rows of which those of bytes are over no source cover whatever the sources hold, where they cover over what some state.
use Rattle.std.proofs.Common.{◌≡◌, ℕ, List, take, drop, Option, refl, sym, ap, ◌∙◌}
use Rattle.function_leaf.specs.declared.coded.Coded.{Coded}
use Rattle.rope_node.specs.declared.node.NodeId.{NodeId}
use Rattle.rope_node.specs.Table.{Table, IsSound, HasTrueRecords}
use Rattle.rope_node.specs.Denotes.{Cell, rope_cells, text}
use Rattle.lazy_file.specs.SourceTexts.{Stated}
use Rattle.command_parts.specs.declared.part.Part.{Part}
use Rattle.span_certificate.specs.declared.row.Row.{Row}
use Rattle.span_certificate.specs.declared.row.RowKind.{RowKind}
use Rattle.span_certificate.specs.declared.row.RowKind.TheVariants.{Shared, Leaf, Bytes}
use Rattle.command_parts.specs.Parts.{AreParts, part_cells}
use Rattle.span_certificate.specs.Covers.{CoversAlways, CoversAnyhow, CoversBy, HaveSameBytes, KindFits, KindFitsBy, MeetsNoSource, place_of, row_at}
use Rattle.span_certificate.specs.Verdicts.{SameStated}
use Rattle.span_certificate.proofs.Covering.{holds_place}
use Rattle.span_certificate.proofs.MadeRows.{agreeing, no_source_stated, none_over}
use Rattle.span_certificate.proofs.Sameness.{bytes_are_cells, covered_bytes}
use Rattle.edit_commands.proofs.KnownRows.{kind_anyhow}

kind_always : (t : Table) (coded : ℕ → Coded) (st : Stated) (source : ℕ → ℕ → ℕ) (n : ℕ) (part : Part) (off : ℕ) (root : Option NodeId) (place : ℕ) (kind : RowKind)
    → (kind ≡ Bytes → take n (drop off (part_cells t part)) ≡ take n (drop place (rope_cells t root)))
    → KindFitsBy t coded (SameStated st) n part off root place kind → KindFits t coded source n part off root place kind
kind_always t coded st source n part off root place (Shared k o) same fits = fits
kind_always t coded st source n part off root place Leaf same fits = fits
kind_always t coded st source n part off root place Bytes same fits = (fits.0, ap (text source) (same refl))

-- they are over what their kinds say
pub covers_anyhow : (t : Table) (coded : ℕ → Coded) (Same : List Cell → List Cell → Type 0) (parts : List Part) (root : Option NodeId) (rows : List Row) → CoversBy t coded Same parts root rows → CoversAnyhow t coded parts root rows
covers_anyhow t coded Same parts root rows c = record {
  fit = λ j lt.
      let f = c.fit j lt in
      record {
        part = f.part;
        off = f.off;
        at_part = f.at_part;
        not_empty = f.not_empty;
        inside_part = f.inside_part;
        inside_root = f.inside_root;
        kind = kind_anyhow t coded Same (row_at rows j).len f.part f.off root (place_of rows j) (row_at rows j).kind f.kind;
      };
  whole_root = c.whole_root;
  whole_parts = c.whole_parts;
}

pub covers_always : (t : Table) → IsSound t → HasTrueRecords t → (coded : ℕ → Coded) (st : Stated) (parts : List Part) (root : Option NodeId) (rows : List Row) → AreParts t parts → MeetsNoSource t parts root rows
    → CoversBy t coded (SameStated st) parts root rows → CoversAlways t coded parts root rows
covers_always t s h coded st parts root rows are none c source =
    let some = agreeing st in
    let bytes = none_over t st some.0 parts root rows some.1 (no_source_stated t st parts root rows none) (covered_bytes t s h coded (SameStated st) parts root rows are c) in
    let cells : HaveSameBytes (λ cells others. cells ≡ others) t parts root rows = bytes_are_cells t some.0 parts root rows none bytes in
    record {
      fit = λ j lt.
          let f = c.fit j lt in
          let held = holds_place t s h parts (place_of rows j) f.part f.off are f.at_part in
          record {
            part = f.part;
            off = f.off;
            at_part = f.at_part;
            not_empty = f.not_empty;
            inside_part = f.inside_part;
            inside_root = f.inside_root;
            kind = kind_always t coded st source (row_at rows j).len f.part f.off root (place_of rows j) (row_at rows j).kind
                (λ is. sym (held.same (row_at rows j).len f.inside_part) ∙ cells j lt is) f.kind;
          };
      whole_root = c.whole_root;
      whole_parts = c.whole_parts;
    }
