use Rattle.std.proofs.Common.{◌≡◌, ◌<◌, length, map, not, Ok, ap, ◌∙◌, arith}
use Rattle.std.specs.Result.{is_ok}
use Rattle.rope_node.specs.declared.limits.TheConstants.{MOST_SOURCES}
use Rattle.node_table.specs.Entries.{record_of}
use Rattle.node_table.specs.Held.{Held}
use Rattle.node_table.proofs.Growing.{held_push, kept_push, pushed_items, source_extends}
use Rattle.node_table.proofs.node_table.NodeTable.add_source.Goals as goal

pub invariant_of-self-2 : goal.invariant_of-self-2
invariant_of-self-2 g c =
    let items = pushed_items c.push.result c.self.inside.sources c.push.new.self c.args.len c.push.ensures.ok c.push.ensures.err in
    let few : length c.self.inside.sources.items < MOST_SOURCES = omega (arith, c.len-number.ensures) in (
      kept_push g.F.LeafFn.meaning (map record_of c.self.inside.entries.items) c.self.inside.pool c.self.inside.sources.items c.args.len (is_ok c.push.result) c.push.new.self.items c.self.invariant.0 few (omega arith) items,
      c.self.invariant.1,
      omega (arith, c.self.invariant.2, c.push.ensures.capacity),
    )

pub returns : goal.returns
returns g c =
    let h = c.args.self.now in
    let items = pushed_items c.push.result c.self.inside.sources c.push.new.self c.args.len c.push.ensures.ok c.push.ensures.err in
    let ok = held_push h (map record_of c.self.inside.entries.items) c.self.inside.pool c.self.inside.sources.items c.push.new.self.items c.args.len (is_ok c.push.result) c.self.view_is (c.is_err.ensures.negation ∙ ap not c.if-is_err.false) items in
    let number : c.len-number.result ≡ length h.sources = omega (arith, c.len-number.ensures, ap (λ (k : Held _). length k.sources) c.self.view_is) in
    record {
      number = number;
      ok = ok;
      kept = source_extends g.F.LeafFn.meaning h c.args.len (Ok c.len-number.result) _ ok tt;
      held = (invariant_of-self-2 g c).0;
      too_many = (λ e. absurd cc, λ full. absurd (omega (arith, full, number, c.if-number.false)));
      too_long = (λ e. absurd cc, λ long. absurd (omega (arith, long.1, c.if-len-ge-TEXT_LIMIT.false)));
      memory = (λ e. absurd cc);
      faults = tt;
      err = tt;
    }
