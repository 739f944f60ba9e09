use Rattle.std.proofs.Common.{sym}
use Rattle.session_checker.proofs.RevisionTexts.{fetched_text}
use Rattle.session_checker.proofs.checked.Checked.fetch.Goals as goal

pub returns-in-Some-clause-byte : goal.returns-in-Some-clause-byte
returns-in-Some-clause-byte g c =
    rw (sym c.self.view_is) (fetched_text c.self.inside.tables (g.S.Sources.reading c.args.sources.now).stated c.args.k c.args.i c.in-Some.root c.fetch.result (rw (sym c.self.view_is) at c.in-Some.ensures.there.1) c.fetch.ensures.byte)

pub returns-in-Some-clause-reads : goal.returns-in-Some-clause-reads
returns-in-Some-clause-reads g c =
    rw (sym c.self.view_is) (rw (rw (sym c.self.view_is) at c.in-Some.ensures.there.1) at c.fetch.ensures.reads)
