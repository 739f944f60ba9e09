use Rattle.std.proofs.Common.{Some, sym, subst}
use Rattle.lazy_file.specs.Readings.{Reading, fault_by}
use Rattle.lazy_file.proofs.LaterReads.{reads_then}
use Rattle.commit_tools.specs.Earlier.{FindsLatest, FindsNone}
use Rattle.commit_tools.specs.Put.{GoesOnToText}
use Rattle.commit_tools.specs.Texts.{InReadTexts, read_fault_of}
use Rattle.commit_tools.proofs.CommittedTexts.{back_reads, reads_compared, went_back}
use Rattle.commit_tools.proofs.texts.commit_behind.Goals as goal

pub returns-in-Err-clause-reads : goal.returns-in-Err-clause-reads
returns-in-Err-clause-reads g c =
    reads_compared c.args.session.now c.args.file.now (g.T.Sources.reading c.args.sources.now) (g.T.Sources.reading c.latest_same.new.sources) (Some c.in-Err.fault) c.in-Err.ensures.reads

pub go_back-requires : goal.go_back-requires
go_back-requires g c =
    let latest = subst (FindsLatest (g.T.Sources.reading c.args.sources.now).stated c.args.session.now c.args.file.now) c.in-Some.is c.in-Ok.ensures.latest in
    latest.there

pub returns-in-Some-clause-text : goal.returns-in-Some-clause-text
returns-in-Some-clause-text g c =
    let st = (g.T.Sources.reading c.args.sources.now).stated in
    let v = c.args.session.now in
    let latest = subst (FindsLatest st v c.args.file.now) c.in-Some.is c.in-Ok.ensures.latest in
    went_back st v c.go_back.new.session c.args.file.now c.in-Some.r c.go_back.result latest c.go_back.ensures.text

pub returns-in-Some-clause-reads : goal.returns-in-Some-clause-reads
returns-in-Some-clause-reads g c =
    back_reads c.args.session.now c.go_back.new.session c.args.file.now c.in-Some.r (g.T.Sources.reading c.args.sources.now) (g.T.Sources.reading c.latest_same.new.sources) c.go_back.result
    c.in-Ok.ensures.reads c.go_back.ensures.text

pub commit_changes-requires-clause-none : goal.commit_changes-requires-clause-none
commit_changes-requires-clause-none g c =
    let st = (g.T.Sources.reading c.args.sources.now).stated in
    let none = subst (FindsLatest st c.args.session.now c.args.file.now) c.in-None.is c.in-Ok.ensures.latest in
    subst (λ (x : Reading). FindsNone x.stated c.args.session.now c.args.file.now) (sym c.in-Ok.ensures.reads) none

pub returns-in-None-clause-text : goal.returns-in-None-clause-text
returns-in-None-clause-text g c =
    subst (λ (x : Reading). GoesOnToText x.stated c.args.session.now c.args.file.now c.commit_changes.result c.commit_changes.new.session) c.in-Ok.ensures.reads c.commit_changes.ensures.text

pub returns-in-None-clause-reads : goal.returns-in-None-clause-reads
returns-in-None-clause-reads g c =
    reads_then (g.T.Sources.reading c.args.sources.now) (g.T.Sources.reading c.latest_same.new.sources) (g.T.Sources.reading c.commit_changes.new.sources) (InReadTexts c.args.session.now c.args.file.now)
    (fault_by read_fault_of c.commit_changes.result) c.in-Ok.ensures.reads c.commit_changes.ensures.reads
