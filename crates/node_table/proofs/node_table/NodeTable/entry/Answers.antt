use Rattle.std.proofs.Common.{◌<◌, map, length, sym, subst}
use Rattle.std.proofs.lemmas.List.{length-map}
use Rattle.node_table.specs.Entries.{record_of}
use Rattle.node_table.specs.Held.{Held, node_of}
use Rattle.node_table.proofs.Growing.{node_of_entry, function_of_entry}
use Rattle.node_table.proofs.LeftLengths.{left_of_entry}
use Rattle.node_table.proofs.node_table.NodeTable.entry.Goals as goal

pub returns : goal.returns
returns g c =
    let entries = c.self.inside.entries.items in
    let inside : c.args.id.0 < length (map node_of (map record_of entries)) = subst (λ (h : Held _). c.args.id.0 < length h.nodes) (sym c.self.view_is) c.requires in
    let there : c.args.id.0 < length entries = rw (length-map, length-map) at inside in
    rw (← c.self.view_is) (record {
      node = node_of_entry entries c.args.id.0 c.at.result.now there c.at.ensures;
      function = function_of_entry entries c.args.id.0 c.at.result.now there c.at.ensures;
      left = left_of_entry entries c.args.id.0 c.at.result.now there c.at.ensures c.self.invariant.1;
      held = c.self.invariant.0;
    })
