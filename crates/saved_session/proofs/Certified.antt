-- A revision of a checked image is certified behind those before it, once they are taken up.
use Rattle.std.proofs.Common.{◌≡◌, ℕ, ◌+◌, ◌<◌, List, length, drop, Option, refl, sym, subst, arith}
use Rattle.std.proofs.lemmas.List.{length-take, length-drop}
use Rattle.function_leaf.specs.declared.coded.Coded.{Coded}
use Rattle.function_leaf.specs.Coded.{coded_byte}
use Rattle.rope_node.specs.declared.node.NodeId.{NodeId}
use Rattle.rope_node.specs.Table.{Table}
use Rattle.rope_node.specs.Denotes.{IsRope}
use Rattle.lazy_file.specs.SourceTexts.{Stated}
use Rattle.node_table.specs.Held.{Held, table_of, held_coded}
use Rattle.command_parts.specs.declared.edit.Edit.{Edit}
use Rattle.command_parts.specs.declared.edit.Edit.TheVariants.{Many}
use Rattle.command_parts.specs.declared.edit.Splice.{Splice}
use Rattle.span_certificate.specs.declared.row.Row.{Row}
use Rattle.command_parts.specs.Commands.{named_splices, with_splices, NamesSplices}
use Rattle.span_certificate.specs.Covers.{CoversAlways, MeetsNoSource}
use Rattle.command_parts.specs.Fields.{IsPlacedAt}
use Rattle.command_parts.specs.Parts.{parts_of, IsInRange}
use Rattle.edit_commands.specs.declared.revision.Revision as Kept
use Rattle.edit_commands.specs.Session.{IsCertified, NamesThese, roots_of, splices_held}
use Rattle.image_reader.specs.Value.{ImageValue, IsImage, image_table, coded_at}
use Rattle.image_reader.specs.Accepted.{parts_at, revision_at, roots_before, rows_at, splices_before}
use Rattle.session_checker.specs.Faithful.{HasTrueRecordsOf}
use Rattle.session_checker.specs.RevisionRules.{AreGoodOver, HasRowsOverNoSource}
use Rattle.session_checker.proofs.EarlierRevisions.{names_there, placed_at}
use Rattle.session_checker.proofs.FaithfulImages.{ready_of}
use Rattle.saved_session.specs.TakenUp.{HoldsImage}
use Rattle.saved_session.proofs.CoveredAlways.{covers_always}

-- a command that names splices of all names those that it has, behind those of the commands before it
names_these : (place : ℕ) (all : List Splice) (edit : Edit) → IsPlacedAt place edit → NamesSplices all edit → NamesThese place (named_splices all edit) edit
names_these place all (Many r first count) is there = (is, omega (arith, there.0, length-take count (drop first all), length-drop first all))
names_these place all other is there = refl

-- what certifies a revision, over a table, its functions, the roots before it and the number of their splices
record Certifies (t : Table) (coded : ℕ → Coded) (roots : List (Option NodeId)) (place : ℕ) (splices : List Splice) (edit : Edit) (root : Option NodeId) (rows : List Row) : Type 0 where
  range : IsInRange t roots (with_splices splices edit)
  names : NamesThese place splices edit
  rope : IsRope t root
  covers : CoversAlways t coded (parts_of t roots (with_splices splices edit)) root rows
  none : MeetsNoSource t (parts_of t roots (with_splices splices edit)) root rows

module _ (v : ImageValue) (is : IsImage v) (true_records : HasTrueRecordsOf v) (st : Stated) (good : AreGoodOver v st) (k : ℕ) (lt : k < length v.revisions) where
  own_splices : List Splice
  own_splices = named_splices v.splices (revision_at v k).edit

  pub place_is : IsPlacedAt (splices_before v k) (revision_at v k).edit
  place_is = let none : 0 + splices_before v k ≡ splices_before v k = omega arith in
      subst (λ (n : ℕ). IsPlacedAt n (revision_at v k).edit) none (placed_at 0 v.revisions k is.placed lt)

  in_image : HasRowsOverNoSource v k → Certifies (image_table v) (coded_at v) (roots_before v k) (splices_before v k) (named_splices v.splices (revision_at v k).edit) (revision_at v k).edit (revision_at v k).root (rows_at v k)
  in_image over = record {
    range = (good k lt).rules.command;
    names = names_these (splices_before v k) v.splices (revision_at v k).edit place_is (names_there v is k lt);
    rope = (good k lt).rules.root.0;
    covers = covers_always (image_table v) true_records.sound true_records.true_records (coded_at v) st (parts_at v k) (revision_at v k).root (rows_at v k) (ready_of v st good k lt).parts over (good k lt).rows;
    none = over;
  }

  module _ (h : Held Coded) (holds : HoldsImage v h) (before : List Kept.Revision) (roots : roots_of before ≡ roots_before v k) (earlier : splices_held before ≡ splices_before v k) where
    pub certified : HasRowsOverNoSource v k → IsCertified h before (revision_at v k).edit (named_splices v.splices (revision_at v k).edit) (revision_at v k).root (rows_at v k)
    certified over =
        let edit = (revision_at v k).edit in
        let own = named_splices v.splices edit in
        let root = (revision_at v k).root in
        let rows = rows_at v k in
        let first = subst (λ (t : Table). Certifies t (coded_at v) (roots_before v k) (splices_before v k) own edit root rows) (sym holds.table) (in_image over) in
        let second = subst (λ (c : ℕ → Coded). Certifies (table_of coded_byte h) c (roots_before v k) (splices_before v k) own edit root rows) (sym holds.coded) first in
        let third = subst (λ (rs : List (Option NodeId)). Certifies (table_of coded_byte h) (held_coded h) rs (splices_before v k) own edit root rows) (sym roots) second in
        let all = subst (λ (n : ℕ). Certifies (table_of coded_byte h) (held_coded h) (roots_of before) n own edit root rows) (sym earlier) third in
        record { range = all.range; names = all.names; root = all.rope; rows = all.covers; no_source = all.none }
