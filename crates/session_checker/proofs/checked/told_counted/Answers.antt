use Rattle.std.proofs.Common.{◌≡◌, ℕ, List, Option, None, Ok, Err, refl, sym, subst, inl, inr}
use Rattle.lazy_file.proofs.LaterReads.{reads_weaker}
use Rattle.lazy_file.specs.Readings.{Reading, Reads}
use Rattle.lazy_file.specs.SourceTexts.{Stated}
use Rattle.lazy_file.specs.declared.faults.SourceFault.{SourceFault}
use Rattle.std.proofs.lemmas.Result.{err_from_is_err_and}
use Rattle.image_reader.specs.Value.{ImageValue, IsImage}
use Rattle.image_reader.specs.Spelling.{spelling}
use Rattle.session_checker.specs.declared.fault.CheckFault.{CheckFault}
use Rattle.session_checker.specs.declared.fault.CheckFault.TheVariants.{Read}
use Rattle.session_checker.specs.Accepted.{BytesAsk, HasGoodTables, IsFirstFault}
use Rattle.session_checker.specs.RevisionRules.{AreGoodOver, ImageAsks, IsFirstRevisionFault, source_fault}
use Rattle.session_checker.proofs.FaithfulImages.{true_records_of, faithful}
use Rattle.session_checker.proofs.Limits.{checks_within, tables_refused, unread_not_dear, within_not_dear}
use Rattle.session_checker.proofs.checked.told_counted.Goals as goal

-- the first fault of the revisions
revision_refused : (st : Stated) (v : ImageValue) (bytes : List ℕ) (f : CheckFault) → IsImage v × (bytes ≡ spelling v) → HasGoodTables v st.sizes → IsFirstRevisionFault st v f → IsFirstFault st bytes f
revision_refused st v bytes f found tables fault = inr (record { v = v; image = found.0; spelled = found.1; fault = inr (tables, fault) })

-- the places that the image of these bytes asks for
image_reads : (old new : Reading) (v w : ImageValue) (bytes : List ℕ) (fault : Option SourceFault) → w ≡ v → IsImage v × (bytes ≡ spelling v) → HasGoodTables v old.stated.sizes → Reads old new (ImageAsks old.stated w) fault → Reads old new (BytesAsk old.stated bytes) fault
image_reads old new v w bytes fault same found tables reads =
    let here : Reads old new (ImageAsks old.stated v) fault = subst (λ (x : ImageValue). Reads old new (ImageAsks old.stated x) fault) same reads in
    reads_weaker old new (ImageAsks old.stated v) (BytesAsk old.stated bytes) fault (λ s p asks. record { v = v; image = found.0; spelled = found.1; tables = tables; asks = asks }) here

pub returns-in-Err-clause-answer : goal.returns-in-Err-clause-answer
returns-in-Err-clause-answer g c =
    let r = g.S.Sources.reading c.args.sources.now in
    let fault = sym c.in-Err.ensures.fault in
    checks_within c.args.at_most r r c.args.bytes.now (Err (Read c.in-Err.fault)) (unread_not_dear c.args.at_most r.stated.sizes c.args.bytes.now c.in-Err.fault fault)
    tt tt tt (λ ok. absurd cc) tt (λ _. inl (c.in-Err.fault, fault, refl)) refl

pub returns-in_err-tables_within-clause-answer : goal.returns-in_err-tables_within-clause-answer
returns-in_err-tables_within-clause-answer g c =
    let p = err_from_is_err_and c.from_residual.result c.from_residual.ensures.1 in
    rw (p.1, p.2) (tables_refused c.args.at_most (g.S.Sources.reading c.args.sources.now) c.args.bytes.now c.in-Ok.image c.in_err-tables_within.field-0.0 c.in-Ok.ensures.found c.in_err-tables_within.ensures.err)

pub returns-in_err-revisions_told-clause-answer : goal.returns-in_err-revisions_told-clause-answer
returns-in_err-revisions_told-clause-answer g c =
    let p = err_from_is_err_and c.from_residual-in_err-revisions_told.result c.from_residual-in_err-revisions_told.ensures.1 in
    let old = g.S.Sources.reading c.args.sources.now in
    let new = g.S.Sources.reading c.revisions_told.new.sources in
    let v = c.in-Ok.image in
    let bytes = c.args.bytes.now in
    let f = c.in_err-revisions_told.field-0.0 in
    let tables = c.in_ok-tables_within.ensures.ok refl in
    rw (p.1, p.2) (checks_within c.args.at_most old new bytes (Err f) (within_not_dear c.args.at_most old.stated.sizes bytes v c.in-Ok.ensures.found tables.1) tt tt tt (λ ok. absurd cc) tt
    (λ none. revision_refused old.stated v bytes f c.in-Ok.ensures.found tables.0 (subst (λ (w : ImageValue). IsFirstRevisionFault old.stated w f) c.over.ensures (c.in_err-revisions_told.ensures.err none)))
    (image_reads old new v _ bytes (source_fault f) c.over.ensures c.in-Ok.ensures.found tables.0 c.in_err-revisions_told.ensures.reads))

pub invariant_of-result : goal.invariant_of-result
invariant_of-result g c =
    let st = (g.S.Sources.reading c.args.sources.now).stated in
    let revisions : AreGoodOver c.in-Ok.image st = subst (λ (w : ImageValue). AreGoodOver w st) c.over.ensures (c.in_ok-revisions_told.ensures.ok refl) in
    let is = c.in-Ok.ensures.found.0 in
    let tables = c.in_ok-tables_within.ensures.ok refl in
    rw c.passed-tables.ensures.value (is, true_records_of c.in-Ok.image st is tables.0.1 revisions)

pub returns-clause-answer : goal.returns-clause-answer
returns-clause-answer g c =
    let old = g.S.Sources.reading c.args.sources.now in
    let new = g.S.Sources.reading c.revisions_told.new.sources in
    let v = c.in-Ok.image in
    let bytes = c.args.bytes.now in
    let found = c.in-Ok.ensures.found in
    let tables = c.in_ok-tables_within.ensures.ok refl in
    let revisions : AreGoodOver v old.stated = subst (λ (w : ImageValue). AreGoodOver w old.stated) c.over.ensures (c.in_ok-revisions_told.ensures.ok refl) in
    rw c.passed-tables.ensures.value (checks_within c.args.at_most old new bytes (Ok v) (within_not_dear c.args.at_most old.stated.sizes bytes v found tables.1)
    (faithful v old.stated found.0 tables.0.1 revisions) found tables.0.0 (λ _. record { v = v; image = found.0; spelled = found.1; tables = tables.0; revisions = revisions }) tables.1 tt
    (image_reads old new v _ bytes None c.over.ensures found tables.0 c.in_ok-revisions_told.ensures.reads))
