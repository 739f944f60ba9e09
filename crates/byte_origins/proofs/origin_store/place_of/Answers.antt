use Rattle.std.proofs.Common.{sym}
use Rattle.function_leaf.specs.Coded.{coded_byte}
use Rattle.node_table.specs.Held.{table_of}
use Rattle.byte_origins.proofs.RopeRuns.{source_places}
use Rattle.byte_origins.proofs.origin_store.place_of.Goals as goal

pub returns-in-Src : goal.returns-in-Src
returns-in-Src c = source_places (table_of coded_byte c.args.ropes.now) c.node.ensures.sound c.args.span c.in-Src.s c.in-Src.a c.requires.there c.requires.inside (sym c.in-Src.ensures.view)
