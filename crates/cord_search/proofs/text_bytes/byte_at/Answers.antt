use Rattle.std.proofs.Common.{sym, ◌∙◌}
use Rattle.cord_search.proofs.Reaching.{fetched_there, inside_there, reads_there}
use Rattle.cord_search.proofs.text_bytes.byte_at.Goals as goal

pub returns-clause-byte : goal.returns-clause-byte
returns-clause-byte g c =
    fetched_there g.S.NodeSpace.table c.args.pos.now c.args.space.now c.args.rope c.args.place (g.T.Sources.reading c.args.sources.now).stated c.fetch.result c.requires.here
    (sym c.rope_len-len.ensures.cells ∙ c.rope_len-len.ensures.exact) c.fetch.ensures.byte

pub returns-clause-inside : goal.returns-clause-inside
returns-clause-inside g c = inside_there g.S.NodeSpace.table c.args.pos.now c.args.space.now c.args.rope c.args.place c.fetch.result c.requires.here c.fetch.ensures.inside

pub returns-clause-reads : goal.returns-clause-reads
returns-clause-reads g c =
    reads_there (g.T.Sources.reading c.args.sources.now) (g.T.Sources.reading c.fetch.new.sources) g.S.NodeSpace.table c.args.pos.now c.args.space.now c.args.rope c.args.place 1 c.fetch.result c.requires.here
    (sym c.rope_len-len.ensures.cells ∙ c.rope_len-len.ensures.exact) c.fetch.ensures.reads
