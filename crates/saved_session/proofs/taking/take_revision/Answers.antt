use Rattle.std.proofs.Common.{◌≡◌, ◌<◌, length, ap, ◌∙◌, rules, Err}
use Rattle.edit_commands.specs.declared.fault.EditFault.{EditFault}
use Rattle.command_parts.specs.Commands.{named_splices}
use Rattle.span_certificate.specs.Covers.{MeetsNoSource}
use Rattle.span_certificate.specs.Verdicts.{SameStated}
use Rattle.image_reader.specs.declared.revision.Revision.{Revision}
use Rattle.image_reader.specs.Value.{IsImage, coded_at, image_table}
use Rattle.image_reader.specs.Accepted.{parts_at, revision_at, rows_at}
use Rattle.session_checker.specs.Faithful.{HasTrueRecordsOf}
use Rattle.session_checker.specs.RevisionRules.{HasRowsOverNoSource}
use Rattle.session_checker.proofs.EarlierRevisions.{names_there}
use Rattle.session_checker.proofs.FaithfulImages.{ready_of}
use Rattle.saved_session.proofs.Certified.{certified, place_is}
use Rattle.saved_session.proofs.CoveredAlways.{covers_anyhow}
use Rattle.saved_session.proofs.TakenRevisions.{first_rows, not_as_made, pass_of, splices_so_far, takes_more}
use Rattle.saved_session.specs.TakenUp.{each_rows}
use Rattle.saved_session.proofs.Turns.{parts_are, revision_is, rows_are, splices_are, splices_few}
use Rattle.saved_session.proofs.taking.take_revision.Goals as goal

pub parts-known-requires-clause-ropes : goal.parts-known-requires-clause-ropes
parts-known-requires-clause-ropes c =
    let v = c.args.checked.now in
    let k = c.args.k in
    let is : IsImage v = rw c.requires.same at c.count-revisions.ensures.image in
    let true_records : HasTrueRecordsOf v = c.revisions-count.ensures.true_records in
    let st = c.requires.checked.0 in
    let good = c.requires.checked.1 in
    let lt : k < length v.revisions = c.requires.there in
    let place = place_is v is true_records st good k lt in
    rw (c.earlier-roots.ensures.image, c.earlier-roots.ensures.k, c.requires.same) (ready_of v st good k lt).ropes

pub parts-known-requires-clause-named : goal.parts-known-requires-clause-named
parts-known-requires-clause-named c =
    let v = c.args.checked.now in
    let k = c.args.k in
    let is : IsImage v = rw c.requires.same at c.count-revisions.ensures.image in
    let true_records : HasTrueRecordsOf v = c.revisions-count.ensures.true_records in
    let st = c.requires.checked.0 in
    let good = c.requires.checked.1 in
    let lt : k < length v.revisions = c.requires.there in
    let place = place_is v is true_records st good k lt in
    rw (c.revision-revision.ensures.at, c.requires.same) (names_there v is k lt)

pub meets_no_source-requires-clause-covers : goal.meets_no_source-requires-clause-covers
meets_no_source-requires-clause-covers c =
    let v = c.args.checked.now in
    let k = c.args.k in
    let is : IsImage v = rw c.requires.same at c.count-revisions.ensures.image in
    let true_records : HasTrueRecordsOf v = c.revisions-count.ensures.true_records in
    let st = c.requires.checked.0 in
    let good = c.requires.checked.1 in
    let lt : k < length v.revisions = c.requires.there in
    let place = place_is v is true_records st good k lt in
    let rev : c.revision-revision.result ≡ revision_at v k = revision_is v k c.args.revisions.now c.requires.same c.revision-revision.result c.revision-revision.ensures.at in
    let edit : c.revision-revision.result.edit ≡ (revision_at v k).edit = ap (λ (r : Revision). r.edit) rev in
    let root : c.revision-revision.result.root ≡ (revision_at v k).root = ap (λ (r : Revision). r.root) rev in
    let rows : c.in-Ok.rows.items ≡ rows_at v k = rows_are v k c.args.revisions.now c.requires.same c.revision-revision.result c.revision-revision.ensures.at c.in-Ok.rows.items c.rows.result.image.now c.rows.result.from c.rows.result.count c.in-Ok.ensures c.rows.ensures.image (c.rows.ensures.from ∙ c.requires.from) c.rows.ensures.count in
    let parts : c.parts-known.result ≡ parts_at v k = parts_are v k c.args.revisions.now c.requires.same c.revision-revision.result c.revision-revision.ensures.at c.parts-known.result c.earlier-roots.result.image.now c.earlier-roots.result.k c.parts-known.ensures.exact c.earlier-roots.ensures.image c.earlier-roots.ensures.k in
    let slice : c.deref.result.now ≡ rows_at v k = c.deref.ensures.value ∙ rows in
    let whole = covers_anyhow (image_table v) (coded_at v) (SameStated st) (parts_at v k) (revision_at v k).root (rows_at v k) (good k lt).rows in
    rw (parts, root, slice) whole

pub returns-then-not-meets_no_source-clause-fault : goal.returns-then-not-meets_no_source-clause-fault
returns-then-not-meets_no_source-clause-fault c =
    let v = c.args.checked.now in
    let k = c.args.k in
    let is : IsImage v = rw c.requires.same at c.count-revisions.ensures.image in
    let true_records : HasTrueRecordsOf v = c.revisions-count.ensures.true_records in
    let st = c.requires.checked.0 in
    let good = c.requires.checked.1 in
    let lt : k < length v.revisions = c.requires.there in
    let place = place_is v is true_records st good k lt in
    let rev : c.revision-revision.result ≡ revision_at v k = revision_is v k c.args.revisions.now c.requires.same c.revision-revision.result c.revision-revision.ensures.at in
    let edit : c.revision-revision.result.edit ≡ (revision_at v k).edit = ap (λ (r : Revision). r.edit) rev in
    let root : c.revision-revision.result.root ≡ (revision_at v k).root = ap (λ (r : Revision). r.root) rev in
    let rows : c.in-Ok.rows.items ≡ rows_at v k = rows_are v k c.args.revisions.now c.requires.same c.revision-revision.result c.revision-revision.ensures.at c.in-Ok.rows.items c.rows.result.image.now c.rows.result.from c.rows.result.count c.in-Ok.ensures c.rows.ensures.image (c.rows.ensures.from ∙ c.requires.from) c.rows.ensures.count in
    let parts : c.parts-known.result ≡ parts_at v k = parts_are v k c.args.revisions.now c.requires.same c.revision-revision.result c.revision-revision.ensures.at c.parts-known.result c.earlier-roots.result.image.now c.earlier-roots.result.k c.parts-known.ensures.exact c.earlier-roots.ensures.image c.earlier-roots.ensures.k in
    let slice : c.deref.result.now ≡ rows_at v k = c.deref.ensures.value ∙ rows in
    let no : ¬ HasRowsOverNoSource v k = λ over.
    let met : MeetsNoSource (image_table v) c.parts-known.result c.revision-revision.result.root c.deref.result.now = rw (parts, root, slice) over in
    absurd (let yes = c.meets_no_source.ensures.1 met in search rules) in
    (lt, no, (each_rows c.args.session.now.revisions, first_rows v is k lt place c.args.session.now c.requires.takes c.count-held.ensures.session))

pub splices_named-requires : goal.splices_named-requires
splices_named-requires c =
    let v = c.args.checked.now in
    let k = c.args.k in
    let is : IsImage v = rw c.requires.same at c.count-revisions.ensures.image in
    let true_records : HasTrueRecordsOf v = c.revisions-count.ensures.true_records in
    let st = c.requires.checked.0 in
    let good = c.requires.checked.1 in
    let lt : k < length v.revisions = c.requires.there in
    let place = place_is v is true_records st good k lt in
    rw (c.revision-revision.ensures.at, c.requires.same) (names_there v is k lt)

pub put_known-requires-clause-certified : goal.put_known-requires-clause-certified
put_known-requires-clause-certified c =
    let v = c.args.checked.now in
    let k = c.args.k in
    let is : IsImage v = rw c.requires.same at c.count-revisions.ensures.image in
    let true_records : HasTrueRecordsOf v = c.revisions-count.ensures.true_records in
    let st = c.requires.checked.0 in
    let good = c.requires.checked.1 in
    let lt : k < length v.revisions = c.requires.there in
    let place = place_is v is true_records st good k lt in
    let rev : c.revision-revision.result ≡ revision_at v k = revision_is v k c.args.revisions.now c.requires.same c.revision-revision.result c.revision-revision.ensures.at in
    let edit : c.revision-revision.result.edit ≡ (revision_at v k).edit = ap (λ (r : Revision). r.edit) rev in
    let root : c.revision-revision.result.root ≡ (revision_at v k).root = ap (λ (r : Revision). r.root) rev in
    let rows : c.in-Ok.rows.items ≡ rows_at v k = rows_are v k c.args.revisions.now c.requires.same c.revision-revision.result c.revision-revision.ensures.at c.in-Ok.rows.items c.rows.result.image.now c.rows.result.from c.rows.result.count c.in-Ok.ensures c.rows.ensures.image (c.rows.ensures.from ∙ c.requires.from) c.rows.ensures.count in
    let parts : c.parts-known.result ≡ parts_at v k = parts_are v k c.args.revisions.now c.requires.same c.revision-revision.result c.revision-revision.ensures.at c.parts-known.result c.earlier-roots.result.image.now c.earlier-roots.result.k c.parts-known.ensures.exact c.earlier-roots.ensures.image c.earlier-roots.ensures.k in
    let slice : c.deref.result.now ≡ rows_at v k = c.deref.ensures.value ∙ rows in
    let met : MeetsNoSource (image_table v) c.parts-known.result c.revision-revision.result.root c.deref.result.now = c.meets_no_source.ensures.0 (search rules) in
    let over : HasRowsOverNoSource v k = rw (parts, root, slice) at met in
    let splices : c.in-Ok-splices_named.splices.items ≡ named_splices v.splices (revision_at v k).edit = splices_are v k c.args.revisions.now c.requires.same c.revision-revision.result c.revision-revision.ensures.at c.in-Ok-splices_named.splices.items c.in-Ok-splices_named.ensures in
    let old = c.args.session.now in
    let takes = c.requires.takes in
    rw (edit, root, splices, rows) (certified v is true_records st good k lt old.held takes.holds old.revisions takes.roots (splices_so_far v is k lt place old takes) over)

pub put_known-requires-clause-splices : goal.put_known-requires-clause-splices
put_known-requires-clause-splices c =
    let v = c.args.checked.now in
    let k = c.args.k in
    let is : IsImage v = rw c.requires.same at c.count-revisions.ensures.image in
    let true_records : HasTrueRecordsOf v = c.revisions-count.ensures.true_records in
    let st = c.requires.checked.0 in
    let good = c.requires.checked.1 in
    let lt : k < length v.revisions = c.requires.there in
    let place = place_is v is true_records st good k lt in
    let splices : c.in-Ok-splices_named.splices.items ≡ named_splices v.splices (revision_at v k).edit = splices_are v k c.args.revisions.now c.requires.same c.revision-revision.result c.revision-revision.ensures.at c.in-Ok-splices_named.splices.items c.in-Ok-splices_named.ensures in
    let old = c.args.session.now in
    let takes = c.requires.takes in
    splices_few v is k lt place old takes c.in-Ok-splices_named.splices.items splices

pub returns-in-Ok-put_known-clause-taken : goal.returns-in-Ok-put_known-clause-taken
returns-in-Ok-put_known-clause-taken c =
    let v = c.args.checked.now in
    let k = c.args.k in
    let is : IsImage v = rw c.requires.same at c.count-revisions.ensures.image in
    let true_records : HasTrueRecordsOf v = c.revisions-count.ensures.true_records in
    let st = c.requires.checked.0 in
    let good = c.requires.checked.1 in
    let lt : k < length v.revisions = c.requires.there in
    let place = place_is v is true_records st good k lt in
    let rev : c.revision-revision.result ≡ revision_at v k = revision_is v k c.args.revisions.now c.requires.same c.revision-revision.result c.revision-revision.ensures.at in
    let edit : c.revision-revision.result.edit ≡ (revision_at v k).edit = ap (λ (r : Revision). r.edit) rev in
    let root : c.revision-revision.result.root ≡ (revision_at v k).root = ap (λ (r : Revision). r.root) rev in
    let rows : c.in-Ok.rows.items ≡ rows_at v k = rows_are v k c.args.revisions.now c.requires.same c.revision-revision.result c.revision-revision.ensures.at c.in-Ok.rows.items c.rows.result.image.now c.rows.result.from c.rows.result.count c.in-Ok.ensures c.rows.ensures.image (c.rows.ensures.from ∙ c.requires.from) c.rows.ensures.count in
    let parts : c.parts-known.result ≡ parts_at v k = parts_are v k c.args.revisions.now c.requires.same c.revision-revision.result c.revision-revision.ensures.at c.parts-known.result c.earlier-roots.result.image.now c.earlier-roots.result.k c.parts-known.ensures.exact c.earlier-roots.ensures.image c.earlier-roots.ensures.k in
    let slice : c.deref.result.now ≡ rows_at v k = c.deref.ensures.value ∙ rows in
    let met : MeetsNoSource (image_table v) c.parts-known.result c.revision-revision.result.root c.deref.result.now = c.meets_no_source.ensures.0 (search rules) in
    let over : HasRowsOverNoSource v k = rw (parts, root, slice) at met in
    let splices : c.in-Ok-splices_named.splices.items ≡ named_splices v.splices (revision_at v k).edit = splices_are v k c.args.revisions.now c.requires.same c.revision-revision.result c.revision-revision.ensures.at c.in-Ok-splices_named.splices.items c.in-Ok-splices_named.ensures in
    let old = c.args.session.now in
    let takes = c.requires.takes in
    let puts = rw (edit, root, splices, rows) at c.in-Ok-put_known.ensures.put in
    takes_more v is k lt place old takes c.put_known.new.self c.in-Ok-put_known.field-0 over c.count-held_now.ensures.session puts

pub returns-in-Err-TooManyRows-clause-fault : goal.returns-in-Err-TooManyRows-clause-fault
returns-in-Err-TooManyRows-clause-fault c =
    let v = c.args.checked.now in
    let k = c.args.k in
    let is : IsImage v = rw c.requires.same at c.count-revisions.ensures.image in
    let true_records : HasTrueRecordsOf v = c.revisions-count.ensures.true_records in
    let st = c.requires.checked.0 in
    let good = c.requires.checked.1 in
    let lt : k < length v.revisions = c.requires.there in
    let place = place_is v is true_records st good k lt in
    let rev : c.revision-revision.result ≡ revision_at v k = revision_is v k c.args.revisions.now c.requires.same c.revision-revision.result c.revision-revision.ensures.at in
    let edit : c.revision-revision.result.edit ≡ (revision_at v k).edit = ap (λ (r : Revision). r.edit) rev in
    let root : c.revision-revision.result.root ≡ (revision_at v k).root = ap (λ (r : Revision). r.root) rev in
    let rows : c.in-Ok.rows.items ≡ rows_at v k = rows_are v k c.args.revisions.now c.requires.same c.revision-revision.result c.revision-revision.ensures.at c.in-Ok.rows.items c.rows.result.image.now c.rows.result.from c.rows.result.count c.in-Ok.ensures c.rows.ensures.image (c.rows.ensures.from ∙ c.requires.from) c.rows.ensures.count in
    let parts : c.parts-known.result ≡ parts_at v k = parts_are v k c.args.revisions.now c.requires.same c.revision-revision.result c.revision-revision.ensures.at c.parts-known.result c.earlier-roots.result.image.now c.earlier-roots.result.k c.parts-known.ensures.exact c.earlier-roots.ensures.image c.earlier-roots.ensures.k in
    let slice : c.deref.result.now ≡ rows_at v k = c.deref.ensures.value ∙ rows in
    let met : MeetsNoSource (image_table v) c.parts-known.result c.revision-revision.result.root c.deref.result.now = c.meets_no_source.ensures.0 (search rules) in
    let over : HasRowsOverNoSource v k = rw (parts, root, slice) at met in
    let splices : c.in-Ok-splices_named.splices.items ≡ named_splices v.splices (revision_at v k).edit = splices_are v k c.args.revisions.now c.requires.same c.revision-revision.result c.revision-revision.ensures.at c.in-Ok-splices_named.splices.items c.in-Ok-splices_named.ensures in
    let old = c.args.session.now in
    let takes = c.requires.takes in
    let pass = rw (edit, root, splices, rows) at (c.in-Err-TooManyRows.ensures.too_many (ap (λ (e : EditFault). Err e) c.in-Err-TooManyRows.field-0-is)) in
    let passed = rw (edit, root, splices) at (c.in-Err-TooManyRows.ensures.pass (ap (λ (e : EditFault). Err e) c.in-Err-TooManyRows.field-0-is)) in
    (pass_of v is k lt place old takes c.count-held.ensures.session over passed, not_as_made v is k lt place old takes pass)
