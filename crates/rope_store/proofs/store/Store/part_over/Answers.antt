use Rattle.std.proofs.Common.{◌≡◌, ◌+◌, ◌<◌, [], ◌∷◌, take, drop, subst, refl, arith}
use Rattle.rope_node.specs.Table.{depth_at}
use Rattle.rope_node.specs.Denotes.{cells}
use Rattle.node_table.specs.declared.fault.NodeFault.TheVariants.{TooDeep}
use Rattle.node_table.specs.Held.{table_of}
use Rattle.node_table.specs.Held.{IsKept}
use Rattle.node_table.specs.Records.{part_record}
use Rattle.rope_store.specs.Additions.{one_node}
use Rattle.rope_store.proofs.Made.{put_makes, makes_none, refuses_depth, one_refuses, one_deep}
use Rattle.rope_store.proofs.PartTexts.{over_good}
use Rattle.rope_store.proofs.store.Store.part_over.Goals as goal

pub returns : goal.returns
returns g c = record {
  makes =
      let h = c.args.self.now in
      let t = table_of g.F.LeafFn.meaning h in
      let store = subst (λ k. IsKept g.F.LeafFn.meaning k) c.self.view_is c.self.invariant in
      let depth : c.depth-depth.result ≡ depth_at t c.args.b.0 = rw c.self.view_is at c.depth-depth.ensures.value in
      put_makes g.F.LeafFn.meaning h _ _ [] (part_record c.args.b c.args.i c.args.n (1 + depth_at t c.args.b.0) ∷ []) (c.part.result ∷ []) store refl
      (over_good g.F.LeafFn.meaning h store c.args.b c.args.i c.args.n c.requires.there c.requires.inside c.requires.some (omega (arith, depth)))
      (rw (c.part.ensures, depth) refl) c.make.result c.make.new.self c.make.ensures.ok c.make.ensures.rope c.make.ensures.held c.make.ensures.err;
  refuses =
      let t = table_of g.F.LeafFn.meaning c.args.self.now in
      let depth : c.depth-depth.result ≡ depth_at t c.args.b.0 = rw c.self.view_is at c.depth-depth.ensures.value in
      one_refuses c.args.self.now (one_node t (part_record c.args.b c.args.i c.args.n (1 + depth_at t c.args.b.0))) [] (part_record c.args.b c.args.i c.args.n (1 + depth_at t c.args.b.0)) c.part.result ⊥ ⊥ refl (λ bad. bad) (λ long. long) (omega (arith, depth))
      (rw (c.part.ensures, depth) refl) c.make.result c.make.ensures.table_full c.make.ensures.pool_full c.make.ensures.faults;
}

pub returns-then-depth-gt-MOST_DEPTH : goal.returns-then-depth-gt-MOST_DEPTH
returns-then-depth-gt-MOST_DEPTH g c = record {
  makes =
      let t = table_of g.F.LeafFn.meaning c.args.self.now in
      makes_none g.F.LeafFn.meaning c.args.self.now (one_node t (part_record c.args.b c.args.i c.args.n (1 + depth_at t c.args.b.0))) (take c.args.n (drop c.args.i (cells t c.args.b.0))) TooDeep;
  refuses =
      let t = table_of g.F.LeafFn.meaning c.args.self.now in
      let depth : c.depth-depth.result ≡ depth_at t c.args.b.0 = rw c.self.view_is at c.depth-depth.ensures.value in
      let deep : 64 < 1 + depth_at t c.args.b.0 = rw depth at c.if-depth-gt-MOST_DEPTH.true in
      refuses_depth c.args.self.now (one_node t (part_record c.args.b c.args.i c.args.n (1 + depth_at t c.args.b.0))) ⊥ ⊥ (λ bad. bad) (λ long. long) (one_deep {F = g.row.F.Denot} (part_record c.args.b c.args.i c.args.n (1 + depth_at t c.args.b.0)) deep);
}
