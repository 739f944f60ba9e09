use Rattle.std.proofs.Common.{◌∙◌, refl, subst, sym}
use Rattle.std.specs.Io.KnownBytes.{Appends}
use Rattle.std.proofs.lemmas.Result.{err_from_is_err_and}
use Rattle.byte_output.specs.Prefix.{AppendsPrefix}
use Rattle.image_reader.specs.Spelling.{spelling}
use Rattle.image_reader.specs.Value.{ImageValue, in_version_two}
use Rattle.session_checker.specs.Accepted.{SpellsFaithful}
use Rattle.cord_tools.specs.Faults.{check_fault}
use Rattle.cord_tools.proofs.Migrating.{migrates_none, migrates_to}
use Rattle.cord_tools.proofs.ToolFaults.{check_refused, image_reads}
use Rattle.cord_tools.proofs.UnreadCells.{not_read_at}
use Rattle.cord_tools.proofs.migrate.run_migrate_told.Goals as goal

pub returns-in_err-image : goal.returns-in_err-image
returns-in_err-image g c =
    let p = err_from_is_err_and c.from_residual-in_err-image.result c.from_residual-in_err-image.ensures.1 in
    let f = c.in_err-image.field-0.0 in
    let remaining = g.R.Read.remaining c.args.reader in
    let contents = g.W.Write.contents c.args.writer.now in
    rw (p.1, p.2) (record {
      reads = image_reads (g.S.Sources.reading c.args.sources.now) (g.S.Sources.reading c.check_told.new.sources) remaining c.in_ok-bytes.bytes.items f c.in_ok-bytes.ensures.ok
          (rw c.deref.ensures.value at c.in_err-image.ensures.reads);
      answer = migrates_none c.args.at_most g.S.Sources.reading c.args.sources.now c.check_told.new.sources remaining contents contents (check_fault f)
          (check_refused c.args.at_most g.S.Sources.reading c.args.sources.now c.check_told.new.sources remaining contents c.in_ok-bytes.bytes.items f c.in_ok-bytes.ensures.ok
          (rw c.deref.ensures.value at c.in_err-image.ensures.refused) (rw c.deref.ensures.value at c.in_err-image.ensures.reads));
    })

pub returns-in_err-restate : goal.returns-in_err-restate
returns-in_err-restate g c =
    let p = err_from_is_err_and c.from_residual-in_err-restate.result c.from_residual-in_err-restate.ensures.1 in
    let st = (g.S.Sources.reading c.args.sources.now).stated in
    let v = c.in_ok-image.image in
    let P = AppendsPrefix (g.W.Write.contents c.args.writer.now) (g.W.Write.contents c.restate.new.writer) in
    let spelled : SpellsFaithful c.in_ok-bytes.bytes.items st v = record {
      accepted = rw c.deref.ensures.value at (c.in_ok-image.ensures.accepted refl);
      image = c.in_ok-image.ensures.image.0;
      spelled = sym c.deref.ensures.value ∙ c.in_ok-image.ensures.image.1;
      sources = c.in_ok-image.ensures.sources;
      faithful = c.in_ok-image.ensures.faithful;
    } in
    rw (p.1, p.2) (record {
      reads = not_read_at (g.S.Sources.reading c.args.sources.now) (g.S.Sources.reading c.check_told.new.sources) _ _ c.in_ok-image.ensures.reads;
      answer = (
        v,
        migrates_to c.args.at_most (g.R.Read.remaining c.args.reader) st c.in_ok-bytes.bytes.items v P c.in_ok-bytes.ensures.ok spelled c.in_ok-image.ensures.within
            (subst (λ (w : ImageValue). P (spelling (in_version_two w))) c.image.ensures c.in_err-restate.ensures.written.err),
      );
    })

pub returns : goal.returns
returns g c =
    let st = (g.S.Sources.reading c.args.sources.now).stated in
    let v = c.in_ok-image.image in
    let P = Appends (g.W.Write.contents c.args.writer.now) (g.W.Write.contents c.restate.new.writer) in
    let spelled : SpellsFaithful c.in_ok-bytes.bytes.items st v = record {
      accepted = rw c.deref.ensures.value at (c.in_ok-image.ensures.accepted refl);
      image = c.in_ok-image.ensures.image.0;
      spelled = sym c.deref.ensures.value ∙ c.in_ok-image.ensures.image.1;
      sources = c.in_ok-image.ensures.sources;
      faithful = c.in_ok-image.ensures.faithful;
    } in
    record {
      reads = not_read_at (g.S.Sources.reading c.args.sources.now) (g.S.Sources.reading c.check_told.new.sources) _ _ c.in_ok-image.ensures.reads;
      answer = (
        v,
        migrates_to c.args.at_most (g.R.Read.remaining c.args.reader) st c.in_ok-bytes.bytes.items v P c.in_ok-bytes.ensures.ok spelled c.in_ok-image.ensures.within
            (subst (λ (w : ImageValue). P (spelling (in_version_two w))) c.image.ensures c.in_ok-restate.ensures.written.ok),
      );
    }
