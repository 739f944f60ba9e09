use Rattle.std.proofs.Common.{rules, ◌+◌, IfSome}
use Rattle.lazy_file.specs.SourceTexts.{text_at}
use Rattle.key_journal.specs.Headers.{TakesIn}
use Rattle.key_journal.proofs.Digests.{takes_on}
use Rattle.key_journal.proofs.headers.digest_span.Goals as goal

pub loop-done-preserved : goal.loop-done-preserved
loop-done-preserved g c =
    let text = text_at (g.S.Sources.reading c.args.sources.now).stated 0 in
    let run : IfSome text (λ t. TakesIn t (c.args.off + c.loop-done.done) c.min-size.result c.loop-done.hasher c.digest_run.new.hasher) = search rules in
    record {
      inside = search rules;
      taken = takes_on text c.args.off c.loop-done.done c.min-size.result c.args.hasher.now c.loop-done.hasher c.digest_run.new.hasher c.loop-done.invariant.taken run;
      reads = search rules;
    }
