use Rattle.std.proofs.Common.{◌≡◌, ◌+◌, ◌<◌, ◌≤◌, length, map, sym, ap, subst, ◌∙◌, arith}
use Rattle.std.proofs.lemmas.List.{length-map}
use Rattle.leaf_buffer.specs.declared.pool.TheConstants.{POOL_LIMIT}
use Rattle.leaf_buffer.specs.Contents.{Contents, appended}
use Rattle.leaf_buffer.proofs.Appending.{length-appended}
use Rattle.leaf_buffer.proofs.PoolGrowth.{PoolGrows, grows_appended}
use Rattle.rope_node.specs.declared.limits.TheConstants.{MOST_NODES}
use Rattle.node_table.specs.Entries.{record_of}
use Rattle.node_table.specs.Held.{Held, CanHold, node_of}
use Rattle.node_table.specs.NodeLists.{listed}
use Rattle.node_table.proofs.Growing.{all_storable, kept_put, held_put, last_put}
use Rattle.node_table.proofs.LeftLengths.{lefts_before}
use Rattle.node_table.proofs.node_table.NodeTable.put.Goals as goal

pub invariant_of-self-2 : goal.invariant_of-self-2
invariant_of-self-2 g c =
    let h = c.args.self.now in
    let old = c.self.inside.pool in
    let bytes = c.args.bytes.now in
    let pool = c.append.new.pool in
    let new = listed c.args.nodes in
    let before = map record_of c.self.inside.entries.items in
    let entries : length before ≡ length c.self.inside.entries.items = length-map c.self.inside.entries.items record_of in
    let nodes : length h.nodes ≡ length before = sym (ap (λ (k : Held _). length k.nodes) c.self.view_is) ∙ length-map before node_of in
    let few : length before + length new ≤ MOST_NODES = omega (arith, nodes, c.count-count.ensures.exact, c.has_room.ensures.0 c.if-not-has_room.false) in
    let grown : pool ≡ appended old bytes = c.in_ok-append.ensures.ok in
    let len : length pool.bytes ≡ length old.bytes + length bytes = rw grown (length-appended old bytes) in
    let grows : PoolGrows old pool = rw grown (grows_appended old bytes c.self.invariant.0.borders) in
    let short : length pool.bytes < POOL_LIMIT = omega (arith, len, sym (ap (λ (k : Held _). length k.pool.bytes) c.self.view_is), c.has_pool_room.ensures.0 c.if-not-has_pool_room.false) in
    let can = subst (λ (p : Contents). CanHold g.F.LeafFn.meaning h p new) (ap (λ (p : Contents). appended p bytes) (sym (ap (λ (k : Held _). k.pool) c.self.view_is)) ∙ sym grown) c.requires.nodes in (
      kept_put g.F.LeafFn.meaning h before old pool c.self.inside.sources.items new (map record_of c.reserve.new.self.items) (map record_of c.put_behind.new.entries.items) c.self.view_is c.self.invariant.0 can grows short few (ap (λ xs. map record_of xs) c.reserve.ensures.items) c.put_behind.ensures.items,
      c.put_behind.ensures.lefts,
      c.self.invariant.2,
    )

pub returns : goal.returns
returns g c =
    let h = c.args.self.now in
    let new = listed c.args.nodes in
    let before = map record_of c.self.inside.entries.items in
    let entries : length before ≡ length c.self.inside.entries.items = length-map c.self.inside.entries.items record_of in
    let nodes : length h.nodes ≡ length before = sym (ap (λ (k : Held _). length k.nodes) c.self.view_is) ∙ length-map before node_of in
    let pool : c.append.new.pool ≡ appended h.pool c.args.bytes.now = c.in_ok-append.ensures.ok ∙ ap (λ (k : Held _). appended k.pool c.args.bytes.now) c.self.view_is in
    let few : length h.nodes + length new ≤ MOST_NODES = omega (arith, c.count-count.ensures.exact, c.has_room.ensures.0 c.if-not-has_room.false) in
    let short : length h.pool.bytes + length c.args.bytes.now < POOL_LIMIT = c.has_pool_room.ensures.0 c.if-not-has_pool_room.false in
    record {
      ok = rw (← pool) (held_put h before c.self.inside.pool c.append.new.pool c.self.inside.sources.items new (map record_of c.reserve.new.self.items) (map record_of c.put_behind.new.entries.items) c.self.view_is (ap (λ xs. map record_of xs) c.reserve.ensures.items) c.put_behind.ensures.items);
      rope = last_put h new _ (omega (arith, entries, nodes, c.len-first.ensures, c.count-count.ensures.exact));
      held = (invariant_of-self-2 g c).0;
      table_full = (λ e. absurd cc, λ full. absurd (omega (arith, full, few)));
      pool_full = (λ e. absurd cc, λ full. absurd (omega (arith, full.1, short)));
      faults = tt;
      err = tt;
    }

pub put_behind-requires-clause-storable : goal.put_behind-requires-clause-storable
put_behind-requires-clause-storable g c = all_storable g.F.LeafFn.meaning c.args.self.now (appended c.args.self.now.pool c.args.bytes.now) (listed c.args.nodes) (subst (λ (h : Held _). length h.functions ≡ length h.nodes) c.self.view_is c.self.invariant.0.functions) c.requires.nodes

pub put_behind-requires-clause-before : goal.put_behind-requires-clause-before
put_behind-requires-clause-before g c =
    let h = c.args.self.now in
    rw c.reserve.ensures.items (lefts_before g.F.LeafFn.meaning h (appended h.pool c.args.bytes.now) (listed c.args.nodes) c.self.inside.entries.items (ap (λ (k : Held _). k.nodes) c.self.view_is) c.requires.nodes)
