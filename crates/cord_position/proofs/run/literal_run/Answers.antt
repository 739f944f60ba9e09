use Rattle.std.proofs.Common.{ap, map, sym, ◌∙◌, length, arith}
use Rattle.rope_node.specs.Denotes.{Byte}
use Rattle.leaf_buffer.specs.Progress.{leaf_of}
use Rattle.cord_position.proofs.HereLaws.{bytes_from, cells_from}
use Rattle.cord_position.proofs.RunLaws.{rest_here, some_here}
use Rattle.cord_position.proofs.run.literal_run.Goals as goal

pub returns-clause-exact : goal.returns-clause-exact
returns-clause-exact g c =
    let t = g.S.NodeSpace.table c.args.space.now in
    let run = c.args.run.now in
    c.rest.ensures ∙ sym (rest_here t c.args.here c.args.place run c.requires.run) ∙ bytes_from t c.args.rope c.args.place c.args.here (leaf_of run) c.requires.here c.requires.run.bytes

pub returns-clause-cells : goal.returns-clause-cells
returns-clause-cells g c some =
    let t = g.S.NodeSpace.table c.args.space.now in
    let run = c.args.run.now in
    ap (map Byte) (c.rest.ensures ∙ sym (rest_here t c.args.here c.args.place run c.requires.run))
    ∙ cells_from t c.args.rope c.args.place c.args.here (leaf_of run) c.requires.here c.requires.run.bytes (some_here t c.args.here c.args.place run c.requires.run (omega (arith, some, ap length c.rest.ensures)))
