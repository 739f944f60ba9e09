use Rattle.std.proofs.Common.{◌≡◌, ◌+◌, [], ◌∷◌, sym, subst, refl, rules}
use Rattle.rope_node.specs.declared.node.NodeView.TheVariants.{Lit, Src, Sub}
use Rattle.rope_node.specs.Table.{view_at}
use Rattle.node_table.specs.Held.{table_of}
use Rattle.node_table.specs.Held.{IsKept}
use Rattle.node_table.specs.Records.{literal_record, source_record}
use Rattle.rope_store.specs.Additions.{inner_part}
use Rattle.rope_store.proofs.Made.{put_makes, makes_as, refuses_as, one_refuses, leaf_shallow}
use Rattle.rope_store.proofs.PartTexts.{literal_part_good, source_part_good, literal_part_is, source_part_is, part_part_is, base_text}
use Rattle.rope_store.proofs.store.Store.inner_part.Goals as goal

pub make-requires-clause-nodes : goal.make-requires-clause-nodes
make-requires-clause-nodes g c =
    let h = c.args.self.now in
    let store = subst (λ k. IsKept g.F.LeafFn.meaning k) c.self.view_is c.self.invariant in
    let is : Lit c.in-Lit.a ≡ view_at (table_of g.F.LeafFn.meaning h) c.args.x.0 = rw c.self.view_is at c.in-Lit.ensures.view in
    rw c.literal.ensures (literal_part_good g.F.LeafFn.meaning h store c.args.x c.in-Lit.a c.args.i c.args.n c.requires.there (sym is) c.requires.some c.requires.inside).can

pub make-requires-in-Src-clause-nodes : goal.make-requires-in-Src-clause-nodes
make-requires-in-Src-clause-nodes g c =
    let h = c.args.self.now in
    let store = subst (λ k. IsKept g.F.LeafFn.meaning k) c.self.view_is c.self.invariant in
    let is : Src c.in-Src.s c.in-Src.a ≡ view_at (table_of g.F.LeafFn.meaning h) c.args.x.0 = rw c.self.view_is at c.in-Src.ensures.view in
    rw c.source.ensures (source_part_good g.F.LeafFn.meaning h store c.args.x c.in-Src.s c.in-Src.a c.args.i c.args.n c.requires.there (sym is) c.requires.some c.requires.inside).can

pub returns-in-Lit : goal.returns-in-Lit
returns-in-Lit g c = record {
  makes =
      let h = c.args.self.now in
      let t = table_of g.F.LeafFn.meaning h in
      let store = subst (λ k. IsKept g.F.LeafFn.meaning k) c.self.view_is c.self.invariant in
      let is : Lit c.in-Lit.a ≡ view_at t c.args.x.0 = rw c.self.view_is at c.in-Lit.ensures.view in
      put_makes g.F.LeafFn.meaning h _ _ [] (literal_record (c.in-Lit.a + c.args.i) c.args.n ∷ []) (c.literal.result ∷ []) store (literal_part_is t c.args.x c.args.i c.args.n c.in-Lit.a (sym is))
      (literal_part_good g.F.LeafFn.meaning h store c.args.x c.in-Lit.a c.args.i c.args.n c.requires.there (sym is) c.requires.some c.requires.inside)
      (rw c.literal.ensures refl) c.make.result c.make.new.self c.make.ensures.ok c.make.ensures.rope c.make.ensures.held c.make.ensures.err;
  refuses = search rules;
}

pub returns-in-Src : goal.returns-in-Src
returns-in-Src g c = record {
  makes =
      let h = c.args.self.now in
      let t = table_of g.F.LeafFn.meaning h in
      let store = subst (λ k. IsKept g.F.LeafFn.meaning k) c.self.view_is c.self.invariant in
      let is : Src c.in-Src.s c.in-Src.a ≡ view_at t c.args.x.0 = rw c.self.view_is at c.in-Src.ensures.view in
      put_makes g.F.LeafFn.meaning h _ _ [] (source_record c.in-Src.s (c.in-Src.a + c.args.i) c.args.n ∷ []) (c.source.result ∷ []) store (source_part_is t c.args.x c.args.i c.args.n c.in-Src.s c.in-Src.a (sym is))
      (source_part_good g.F.LeafFn.meaning h store c.args.x c.in-Src.s c.in-Src.a c.args.i c.args.n c.requires.there (sym is) c.requires.some c.requires.inside)
      (rw c.source.ensures refl) c.make-in-Src.result c.make-in-Src.new.self c.make-in-Src.ensures.ok c.make-in-Src.ensures.rope c.make-in-Src.ensures.held c.make-in-Src.ensures.err;
  refuses =
      let t = table_of g.F.LeafFn.meaning c.args.self.now in
      let is : Src c.in-Src.s c.in-Src.a ≡ view_at t c.args.x.0 = rw c.self.view_is at c.in-Src.ensures.view in
      refuses_as (source_part_is t c.args.x c.args.i c.args.n c.in-Src.s c.in-Src.a (sym is))
      (one_refuses c.args.self.now (inner_part t c.args.x c.args.i c.args.n (Src c.in-Src.s c.in-Src.a)) [] (source_record c.in-Src.s (c.in-Src.a + c.args.i) c.args.n) c.source.result ⊥ ⊥ refl (λ bad. bad) (λ long. long) leaf_shallow c.source.ensures
      c.make-in-Src.result c.make-in-Src.ensures.table_full c.make-in-Src.ensures.pool_full c.make-in-Src.ensures.faults);
}

pub returns-in-Sub : goal.returns-in-Sub
returns-in-Sub g c = record {
  makes =
      let h = c.args.self.now in
      let t = table_of g.F.LeafFn.meaning h in
      let store = subst (λ k. IsKept g.F.LeafFn.meaning k) c.self.view_is c.self.invariant in
      let is : Sub c.in-Sub.b c.in-Sub.start ≡ view_at t c.args.x.0 = rw c.self.view_is at c.in-Sub.ensures.view in
      let text = base_text g.F.LeafFn.meaning h store c.args.x c.in-Sub.b c.in-Sub.start c.args.i c.args.n c.requires.there (sym is) c.requires.inside in
      makes_as (part_part_is t c.args.x c.in-Sub.b c.args.i c.args.n c.in-Sub.start (sym is)) text c.part_over.ensures.makes;
  refuses =
      let t = table_of g.F.LeafFn.meaning c.args.self.now in
      let is : Sub c.in-Sub.b c.in-Sub.start ≡ view_at t c.args.x.0 = rw c.self.view_is at c.in-Sub.ensures.view in
      refuses_as (part_part_is t c.args.x c.in-Sub.b c.args.i c.args.n c.in-Sub.start (sym is)) c.part_over.ensures.refuses;
}
