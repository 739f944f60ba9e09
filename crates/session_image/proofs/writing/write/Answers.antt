use Rattle.std.proofs.Common.{subst, Result, Ok, Err}
use Rattle.std.specs.Prelude.{OnOk}
use Rattle.function_leaf.specs.declared.coded.Coded.{Coded}
use Rattle.function_leaf.specs.Coded.{coded_byte}
use Rattle.rope_node.specs.Table.{IsSound, HasTrueRecords}
use Rattle.node_table.specs.Held.{Held, IsKept, table_of}
use Rattle.edit_commands.specs.Session.{SessionValue, IsSession}
use Rattle.image_reader.specs.Value.{IsImage}
use Rattle.session_image.specs.Written.{SectionsFit, image_of}
use Rattle.session_image.proofs.Images.{is_image}
use Rattle.session_image.proofs.Trusted.{as_made, trusted}
use Rattle.session_image.proofs.writing.write.Goals as goal

pub returns-clause-trusted : goal.returns-clause-trusted
returns-clause-trusted g c =
    let same = c.space.ensures.store in
    let nodes = c.count-nodes.ensures in
    trusted c.args.session.now (subst (λ (h : Held Coded). IsKept coded_byte h) same nodes.kept) c.count-count.ensures.session.each
    (subst (λ (h : Held Coded). IsSound (table_of coded_byte h)) same nodes.sound) (subst (λ (h : Held Coded). HasTrueRecords (table_of coded_byte h)) same nodes.true_records)

pub returns-clause-as_made : goal.returns-clause-as_made
returns-clause-as_made g c = as_made c.args.session.now (subst (λ (h : Held Coded). IsKept coded_byte h) c.space.ensures.store c.count-nodes.ensures.kept) c.count-count.ensures.session.each

written_image : {T E : Type 0} (v : SessionValue) (result : Result T E) → IsKept coded_byte v.held → IsSession v → OnOk result (SectionsFit v) → OnOk result (IsImage (image_of v))
written_image v (Ok x) kept session fits = is_image v kept session fits
written_image v (Err e) kept session fits = tt

pub returns-clause-image : goal.returns-clause-image
returns-clause-image g c =
    written_image c.args.session.now c.write_by_size.result (subst (λ (h : Held Coded). IsKept coded_byte h) c.space.ensures.store c.count-nodes.ensures.kept) c.count-count.ensures.session c.write_by_size.ensures.fits
