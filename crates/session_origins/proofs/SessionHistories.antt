-- The image of a session as a history: its records are true, and its commands are the session's.
use Rattle.std.proofs.Common.{◌≡◌, ℕ, suc, ◌+◌, ◌<◌, ◌≤◌, List, [], length, map, take, get_or, Option, Some, None, refl, sym, ap, subst, ◌∙◌, arith, inl, inr}
use Rattle.std.specs.Prelude.{slice_get}
use Rattle.std.specs.Option.{option_map}
use Rattle.std.proofs.lemmas.Bool.{cases_lt}
use Rattle.std.proofs.lemmas.List.{get_or_past, length-map}
use Rattle.std.proofs.lemmas.List.Sums.{sum_by_more_le}
use Rattle.std.proofs.lemmas.Option.{none-some, same_Some, get_or_from_slice_get}
use Rattle.function_leaf.specs.Coded.{coded_byte}
use Rattle.function_leaf.specs.Optional.{answer_of}
use Rattle.rope_node.specs.declared.node.NodeId.{NodeId}
use Rattle.rope_node.specs.Table.{Table, IsSound, HasTrueRecords}
use Rattle.rope_node.specs.Denotes.{rope_len}
use Rattle.rope_node.proofs.Cells.{cells_length}
use Rattle.node_table.specs.Held.{IsKept}
use Rattle.command_parts.specs.declared.edit.Edit.{Edit}
use Rattle.command_parts.specs.declared.edit.Edit.TheVariants.{New, Many}
use Rattle.command_parts.specs.declared.edit.Splice.{Splice}
use Rattle.command_parts.specs.declared.edit.TheConstants.{SPLICES_LIMIT}
use Rattle.command_parts.specs.Commands.{full_edit, with_splices}
use Rattle.command_parts.specs.Fields.{splices_of}
use Rattle.edit_commands.specs.declared.revision.Revision as Kept
use Rattle.edit_commands.specs.Session.{SessionValue, IsSession, NamesThese, edit_of, length_at, roots_of, session_table, splices_held}
use Rattle.edit_commands.proofs.RevisionLists as Lists
use Rattle.edit_commands.proofs.RevisionLists.{there_is}
use Rattle.edit_commands.proofs.RevisionSplices.{says_over_all}
use Rattle.image_reader.specs.declared.revision.Revision.{Revision}
use Rattle.image_reader.specs.Value.{image_table}
use Rattle.image_reader.specs.Accepted.{command_at, revision_at}
use Rattle.session_checker.specs.Faithful.{HasTrueRecordsOf}
use Rattle.byte_origins.specs.Histories.{splices_together}
use Rattle.byte_origins.specs.Origins.{origins_at}
use Rattle.byte_origins.proofs.Lengths.{as_long}
use Rattle.byte_origins.proofs.StepsTaken.{none_past}
use Rattle.session_image.specs.Written.{image_of, recorded_revision, splices_in}
use Rattle.session_image.proofs.SameSections.{same_nodes}
use Rattle.session_image.proofs.SameTables.{same_function, same_revision}
use Rattle.session_image.proofs.SpliceLists.{found_splices, name_own, placed_so}
use Rattle.session_image.proofs.Trusted.{trusted}
use Rattle.session_origins.specs.SessionHistories.{own_splices}

-- the image's table is the session's
table_is : (v : SessionValue) → IsKept coded_byte v.held → image_table (image_of v) ≡ session_table v
table_is v kept = λ i. record { nodes = same_nodes v.held i; pool = v.held.pool.bytes; sources = v.held.sources; answer = λ id k. answer_of coded_byte (same_function v.held kept id i) k }

pub same_table : (v : SessionValue) → IsKept coded_byte v.held → session_table v ≡ image_table (image_of v)
same_table v kept = sym (table_is v kept)

-- each record of the image is true
pub true_records_of : (v : SessionValue) → IsKept coded_byte v.held → IsSession v → IsSound (session_table v) → HasTrueRecords (session_table v) → HasTrueRecordsOf (image_of v)
true_records_of v kept session sound true_records =
    let good = (trusted v kept session.each sound true_records).accepted (λ s p. 0) in
    let t = image_table (image_of v) in
    let s : IsSound t = subst IsSound (same_table v kept) sound in
    let h : HasTrueRecords t = subst HasTrueRecords (same_table v kept) true_records in
    record {
      sound = s;
      true_records = h;
      lengths = λ id lt. cells_length t s h id lt;
      roots = λ k lt. (good.revisions k lt).rules.root.0;
      marks = λ k lt. (good.revisions k lt).rules.mark;
      rules = λ k lt. (good.revisions k lt).rules;
    }

-- ---- splices

module _ (v : SessionValue) (session : IsSession v) where
  -- all of them are those of the session
  pub all_splices : splices_together (image_of v) ≡ splices_held v.revisions
  all_splices = (placed_so 0 v.revisions (name_own [] v.revisions (λ k r at. (session.each k r at).certified.names))).1

  -- and not too many
  pub few_splices : splices_together (image_of v) ≤ SPLICES_LIMIT
  few_splices = let few = session.few_splices in omega (arith, all_splices, few)

-- a command has as many splices as it names
counted_own : (earlier : ℕ) (own : List Splice) (e : Edit) → NamesThese earlier own e → length own ≡ splices_of e
counted_own earlier own (Many r first count) is = sym is.1
counted_own earlier own New is = rw is refl
counted_own earlier own _ is = rw is refl

-- ---- revision k of the image, where there is one

module _ (v : SessionValue) (session : IsSession v) (k : ℕ) (there : k < length (image_of v).revisions) where
  found : (r : Kept.Revision) × (slice_get v.revisions k ≡ Some r)
  found = there_is v.revisions k (omega (arith, there, length-map v.revisions recorded_revision))

  own_is : own_splices v k ≡ found.0.splices.items
  own_is = found_splices v.revisions k found.0 found.1

  recorded_is : revision_at (image_of v) k ≡ recorded_revision found.0
  recorded_is = same_revision v.revisions k found.0 found.1

  names_these : NamesThese (splices_held (take k v.revisions)) found.0.splices.items found.0.edit
  names_these = (session.each k found.0 found.1).certified.names

  -- its root is the session's
  pub root_is : get_or (roots_of v.revisions) k None ≡ (revision_at (image_of v) k).root
  root_is = Lists.root_is v.revisions k found.0 found.1 ∙ sym (ap (λ (r : Revision). r.root) recorded_is)

  -- so is its command, which the session has
  edit_is : (edit : Edit) (o : Option Edit) → o ≡ edit_of v k → o ≡ Some edit → found.0.edit ≡ edit
  edit_is edit o is some = same_Some found.0.edit edit (sym (ap (option_map (λ (r : Kept.Revision). r.edit)) found.1) ∙ sym is ∙ some)

  pub edit_there : (o : Option Edit) → o ≡ edit_of v k → o ≡ None → ⊥
  edit_there o is none = none-some found.0.edit (sym none ∙ is ∙ ap (option_map (λ (r : Kept.Revision). r.edit)) found.1)

  -- it names its own splices, and says among them what the image's says
  pub names_own : (edit : Edit) (o : Option Edit) → o ≡ edit_of v k → o ≡ Some edit → NamesThese (splices_held (take k v.revisions)) (own_splices v k) edit
  names_own edit o is some =
      subst (NamesThese (splices_held (take k v.revisions)) (own_splices v k)) (edit_is edit o is some)
      (subst (λ (ss : List Splice). NamesThese (splices_held (take k v.revisions)) ss found.0.edit) (sym own_is) names_these)

  pub says_own : (edit : Edit) (o : Option Edit) → o ≡ edit_of v k → o ≡ Some edit → with_splices (own_splices v k) edit ≡ command_at (image_of v) k
  says_own edit o is some =
      ap (with_splices (own_splices v k)) (sym (edit_is edit o is some))
      ∙ ap (λ (ss : List Splice). with_splices ss found.0.edit) own_is
      ∙ sym (says_over_all v.revisions k found.0 found.1 names_these)
      ∙ sym (ap (λ (r : Revision). full_edit (splices_in v.revisions) r.edit) recorded_is)

  -- they are no more than all together
  pub own_few : length (own_splices v k) ≤ SPLICES_LIMIT
  own_few =
      let at = get_or_from_slice_get v.revisions k found.0 found.0 found.1 in
      let within = sum_by_more_le (λ (r : Kept.Revision). length r.splices.items) v.revisions k found.0 (omega (arith, there, length-map v.revisions recorded_revision)) in
      let own = ap (λ (r : Kept.Revision). length r.splices.items) at in
      let few = session.few_splices in
      omega (arith, within, own, few, ap length own_is)

  pub own_counted : length (own_splices v k) ≡ splices_of (revision_at (image_of v) k).edit
  own_counted =
      ap length own_is
      ∙ counted_own (splices_held (take k v.revisions)) found.0.splices.items found.0.edit names_these
      ∙ sym (ap (λ (r : Revision). splices_of r.edit) recorded_is)

-- ---- origins

-- a text of the image has as many origins as the session's text is long
pub origins_long : (v : SessionValue) → IsKept coded_byte v.held → IsSession v → HasTrueRecordsOf (image_of v) → (k : ℕ) → length (origins_at (image_of v) k) ≡ length_at v k
origins_long v kept session true_records k =
    elim (cases_lt k (length (image_of v).revisions)) [
      | inl there ↦
          as_long (image_of v) true_records true_records.rules k there
          ∙ ap (λ (t : Table). rope_len t (revision_at (image_of v) k).root) (sym (same_table v kept))
          ∙ ap (rope_len (session_table v)) (sym (root_is v session k there))
      | inr past ↦
          let none = get_or_past (roots_of v.revisions) k None (omega (arith, past, length-map v.revisions recorded_revision, length-map v.revisions (λ (r : Kept.Revision). r.root))) in
          none_past (image_of v) k past ∙ sym (ap (rope_len (session_table v)) none)
    ]
