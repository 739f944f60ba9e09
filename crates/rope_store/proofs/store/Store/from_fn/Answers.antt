use Rattle.std.proofs.Common.{[], ◌∷◌, subst, refl, arith}
use Rattle.node_table.specs.Held.{table_of}
use Rattle.node_table.specs.Held.{IsKept}
use Rattle.node_table.specs.Records.{function_record}
use Rattle.rope_store.proofs.Made.{put_makes, put_refuses}
use Rattle.rope_store.proofs.LeafTexts.{some_function, fun_good, makes_no_function, refuses_no_function}
use Rattle.rope_store.proofs.store.Store.from_fn.Goals as goal

pub returns : goal.returns
returns g c = record {
  makes =
      let store = subst (λ k. IsKept g.F.LeafFn.meaning k) c.self.view_is c.self.invariant in
      let t = table_of g.F.LeafFn.meaning c.args.self.now in
      put_makes g.F.LeafFn.meaning c.args.self.now _ _ [] (function_record c.args.f c.args.n ∷ []) (c.function.result ∷ []) store
      (some_function t c.args.f c.args.n (omega arith)) (fun_good g.F.LeafFn.meaning c.args.self.now store c.args.f c.args.n (omega arith) (omega arith))
      (rw c.function.ensures refl) c.make.result c.make.new.self c.make.ensures.ok c.make.ensures.rope c.make.ensures.held c.make.ensures.err;
  refuses =
      let t = table_of g.F.LeafFn.meaning c.args.self.now in
      put_refuses c.args.self.now _ [] (function_record c.args.f c.args.n ∷ []) (c.function.result ∷ []) _ _ (some_function t c.args.f c.args.n (omega arith)) (λ bad. bad) (λ long. absurd (omega (arith, long)))
      (omega arith) (omega arith) (rw c.function.ensures refl) c.make.result c.make.ensures.table_full c.make.ensures.pool_full c.make.ensures.faults;
}

pub returns-then-n-eq0 : goal.returns-then-n-eq0
returns-then-n-eq0 g c = record {
  makes = makes_no_function g.F.LeafFn.meaning c.args.self.now c.args.f c.args.n c.if-n-eq0.true;
  refuses = refuses_no_function g.F.LeafFn.meaning c.args.self.now (subst (λ k. IsKept g.F.LeafFn.meaning k) c.self.view_is c.self.invariant) c.args.f c.args.n c.if-n-eq0.true;
}
