-- The rows of a revision that is known already.
use Rattle.std.proofs.Common.{◌≡◌, ◌+◌, ◌<◌, ℕ, List, [], ◌∷◌, ◌++◌, length, Option, Result, Ok, Err, refl, ap, subst, arith}
use Rattle.std.specs.Prelude.{IfOk, OnOk}
use Rattle.edit_commands.specs.declared.fault.EditFault.{EditFault}
use Rattle.span_certificate.specs.declared.making.TheConstants.{ROWS_LIMIT}
use Rattle.edit_commands.specs.Applying.{PutsKnown, KnownRowsPass}
use Rattle.span_certificate.specs.Longest.{AreLongest}
use Rattle.std.specs.Global.{Vec}
use Rattle.span_certificate.specs.declared.making.MakeFault.{MakeFault}
use Rattle.function_leaf.specs.declared.coded.Coded.{Coded}
use Rattle.function_leaf.specs.Coded.{coded_byte}
use Rattle.rope_node.specs.declared.node.NodeId.{NodeId}
use Rattle.rope_node.specs.Table.{Table, IsSound, HasTrueRecords}
use Rattle.rope_node.specs.Denotes.{Cell, rope_cells}
use Rattle.node_table.specs.Held.{Held, table_of, held_coded}
use Rattle.command_parts.specs.declared.edit.Edit.{Edit}
use Rattle.command_parts.specs.declared.edit.Splice.{Splice}
use Rattle.command_parts.specs.declared.part.Part.{Part}
use Rattle.span_certificate.specs.declared.row.Row.{Row}
use Rattle.span_certificate.specs.declared.row.RowKind.{RowKind}
use Rattle.span_certificate.specs.declared.row.RowKind.TheVariants.{Shared, Leaf, Bytes}
use Rattle.command_parts.specs.Commands.{with_splices}
use Rattle.span_certificate.specs.Covers.{CoversAlways, CoversAnyhow, MeetsNoSource, KindFitsBy, SameOver, place_of, row_at}
use Rattle.command_parts.specs.Parts.{parts_of, parts_cells, AreRopes}
use Rattle.command_parts.proofs.PartsInRange.{parts_in_range}
use Rattle.span_certificate.proofs.Sameness.{covered_cells}
use Rattle.edit_commands.specs.declared.revision.Revision.{Revision}
use Rattle.edit_commands.specs.Session.{SessionValue, roots_of, IsCertified, rows_held}
use Rattle.edit_commands.proofs.Histories.{answered}

pub kind_anyhow : (t : Table) (coded : ℕ → Coded) (Same : List Cell → List Cell → Type 0) (n : ℕ) (part : Part) (off : ℕ) (root : Option NodeId) (place : ℕ) (kind : RowKind) → KindFitsBy t coded Same n part off root place kind → KindFitsBy t coded (λ cells others. Unit {0}) n part off root place kind
kind_anyhow t coded Same n part off root place (Shared k o) fits = fits
kind_anyhow t coded Same n part off root place Leaf fits = fits
kind_anyhow t coded Same n part off root place Bytes fits = (fits.0, tt)

-- rows that cover over some bytes cover whatever bytes are the same
pub covers_anyhow : (t : Table) (coded : ℕ → Coded) (parts : List Part) (root : Option NodeId) (rows : List Row) → CoversAlways t coded parts root rows → CoversAnyhow t coded parts root rows
covers_anyhow t coded parts root rows always =
    let covers = always (λ s p. 0) in
    record {
      fit = λ j lt.
          let fits = covers.fit j lt in
          record {
            part = fits.part;
            off = fits.off;
            at_part = fits.at_part;
            not_empty = fits.not_empty;
            inside_part = fits.inside_part;
            inside_root = fits.inside_root;
            kind = kind_anyhow t coded (SameOver (λ s p. 0)) (row_at rows j).len fits.part fits.off root (place_of rows j) (row_at rows j).kind fits.kind;
          };
      whole_root = covers.whole_root;
      whole_parts = covers.whole_parts;
    }

-- the parts of a command whose rows are certified are its root
pub certified_cells : (h : Held Coded) → IsSound (table_of coded_byte h) → HasTrueRecords (table_of coded_byte h) → (before : List Revision) (edit : Edit) (splices : List Splice) (root : Option NodeId) (rows : List Row) → AreRopes (table_of coded_byte h) (roots_of before) → IsCertified h before edit splices root rows
    → parts_cells (table_of coded_byte h) (parts_of (table_of coded_byte h) (roots_of before) (with_splices splices edit)) ≡ rope_cells (table_of coded_byte h) root
certified_cells h s true_records before edit splices root rows ropes c =
    let t = table_of coded_byte h in
    let command = with_splices splices edit in
    covered_cells t s true_records (held_coded h) (answered h) (λ k p. 0) (parts_of t (roots_of before) command) root rows (parts_in_range t (roots_of before) command ropes c.range) c.root (c.rows (λ k p. 0)) c.no_source

-- rows that are made for them are certified too
pub certified_so : (h : Held Coded) (before : List Revision) (edit : Edit) (splices : List Splice) (root : Option NodeId) (rows : List Row) (parts : List Part) (result : Result (Vec Row) MakeFault) → IsCertified h before edit splices root rows
    → parts ≡ parts_of (table_of coded_byte h) (roots_of before) (with_splices splices edit) → IfOk result (λ made. CoversAlways (table_of coded_byte h) (held_coded h) parts root made.items) → IfOk result (λ made. MeetsNoSource (table_of coded_byte h) parts root made.items)
    → IfOk result (λ made. IsCertified h before edit splices root made.items)
certified_so h before edit splices root rows parts (Ok made) c is covers none = record {
  range = c.range;
  names = c.names;
  root = c.root;
  rows = subst (λ (ps : List Part). CoversAlways (table_of coded_byte h) (held_coded h) ps root made.items) is covers;
  no_source = subst (λ (ps : List Part). MeetsNoSource (table_of coded_byte h) ps root made.items) is none;
}
certified_so h before edit splices root rows parts (Err fault) c is covers none = tt

-- a revision that was put behind the others
pub puts_known : (old : SessionValue) (splices : List Splice) (rows : List Row) (made : Revision) (result : Result ℕ EditFault) (new : SessionValue) → made.splices.items ≡ splices
    → (AreLongest (table_of coded_byte old.held) (parts_of (table_of coded_byte old.held) (roots_of old.revisions) (with_splices splices made.edit)) made.root rows → made.rows.items ≡ rows)
    → IfOk result (λ k. k ≡ length old.revisions) → OnOk result (new ≡ record { held = old.held; revisions = old.revisions ++ made ∷ [] }) → IfOk result (PutsKnown old made.edit splices made.root rows new)
puts_known old splices rows made (Ok k) new its_splices kept number ok = record {
  number = number;
  made = made;
  held = ap (λ (v : SessionValue). v.held) ok;
  revisions = ap (λ (v : SessionValue). v.revisions) ok;
  its_edit = refl;
  its_splices = its_splices;
  its_root = refl;
  its_rows = kept;
}
puts_known old splices rows made (Err fault) new its_splices kept number ok = tt

-- rows that are certified and the longest, and more than there is room for
pub known_pass : (old : SessionValue) (edit : Edit) (splices : List Splice) (root : Option NodeId) (rows : List Row) → IsCertified old.held old.revisions edit splices root rows
    → AreLongest (table_of coded_byte old.held) (parts_of (table_of coded_byte old.held) (roots_of old.revisions) (with_splices splices edit)) root rows → ROWS_LIMIT < rows_held old.revisions + length rows → KnownRowsPass old edit splices root
known_pass old edit splices root rows c longest many =
    let whole = (c.rows (λ s p. 0)).whole_root in
    record {
      rows = rows;
      made = record { fit = λ source j lt. (c.rows source).fit j lt; no_source = c.no_source; longest = longest; in_root = omega (arith, whole) };
      full = omega (arith, many);
      left = λ same. absurd (omega (arith, many, same));
    }
