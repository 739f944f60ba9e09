use Rattle.std.proofs.Common.{◌+◌, ◌<◌, ◌≤◌, [], ◌∷◌, length, get_or, subst, refl, arith, ⊎_elim}
use Rattle.node_table.specs.Held.{table_of}
use Rattle.node_table.specs.Held.{IsKept}
use Rattle.node_table.specs.Records.{source_record}
use Rattle.rope_store.proofs.Made.{put_makes, put_refuses}
use Rattle.rope_store.proofs.LeafTexts.{some_source, src_good}
use Rattle.rope_store.proofs.store.Store.from_source.Goals as goal

there : (g : _) (c : goal.After-make g) → c.args.s < length c.args.self.now.sources
there g c = omega (arith, rw c.self.view_is at c.source_count.ensures)

inside : (g : _) (c : goal.After-make g) → c.args.a + c.args.n ≤ get_or c.args.self.now.sources c.args.s 0
inside g c = omega (arith, rw c.self.view_is at c.source_len-len.ensures.value)

pub returns : goal.returns
returns g c = record {
  makes =
      let store = subst (λ k. IsKept g.F.LeafFn.meaning k) c.self.view_is c.self.invariant in
      let t = table_of g.F.LeafFn.meaning c.args.self.now in
      put_makes g.F.LeafFn.meaning c.args.self.now _ _ [] (source_record c.args.s c.args.a c.args.n ∷ []) (c.source.result ∷ []) store
      (some_source t c.args.s c.args.a c.args.n (omega arith)) (src_good g.F.LeafFn.meaning c.args.self.now store c.args.s c.args.a c.args.n (there g c) (inside g c) (omega arith))
      (rw c.source.ensures refl) c.make.result c.make.new.self c.make.ensures.ok c.make.ensures.rope c.make.ensures.held c.make.ensures.err;
  refuses =
      let t = table_of g.F.LeafFn.meaning c.args.self.now in
      put_refuses c.args.self.now _ [] (source_record c.args.s c.args.a c.args.n ∷ []) (c.source.result ∷ []) _ _ (some_source t c.args.s c.args.a c.args.n (omega arith))
      (λ bad. ⊎_elim (λ b. absurd (omega (arith, b, there g c))) (λ b. absurd (omega (arith, b, inside g c))) bad) (λ long. long) (omega arith) (omega arith) (rw c.source.ensures refl) c.make.result c.make.ensures.table_full c.make.ensures.pool_full c.make.ensures.faults;
}
