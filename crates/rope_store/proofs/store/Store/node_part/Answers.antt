use Rattle.std.proofs.Common.{◌≡◌, Some, refl, sym, subst, arith}
use Rattle.rope_node.specs.Table.{len_at}
use Rattle.rope_node.specs.Denotes.{cells}
use Rattle.rope_node.proofs.Cells.{cells_length}
use Rattle.node_table.specs.Held.{table_of}
use Rattle.node_table.specs.Held.{IsKept}
use Rattle.rope_store.proofs.Growth.{holds_of, sound_of, true_of}
use Rattle.rope_store.proofs.Made.{makes_nothing, makes_as, refuses_none, refuses_as}
use Rattle.rope_store.proofs.PartTexts.{whole_part, some_part, take_whole}
use Rattle.rope_store.proofs.store.Store.node_part.Goals as goal

pub returns-then-n-len : goal.returns-then-n-len
returns-then-n-len g c = record {
  makes =
      let h = c.args.self.now in
      let m = g.F.LeafFn.meaning in
      let t = table_of m h in
      let store = subst (λ k. IsKept g.F.LeafFn.meaning k) c.self.view_is c.self.invariant in
      let holds = holds_of g.F.LeafFn.meaning h store in
      let len : c.len-len.result ≡ len_at t c.args.x.0 = rw c.self.view_is at c.len-len.ensures.value in
      let many = cells_length t (sound_of g.F.LeafFn.meaning h holds store.pool) (true_of g.F.LeafFn.meaning h holds) c.args.x.0 c.requires.there in
      let text = take_whole (cells t c.args.x.0) c.args.i c.args.n (omega (arith, many)) (omega (arith, many, len)) (omega arith) in
      makes_as (whole_part t c.args.x c.args.i c.args.n (omega arith) (omega (arith, len))) (sym text) (makes_nothing g.F.LeafFn.meaning h (Some c.args.x) (cells t c.args.x.0) c.requires.there refl);
  refuses =
      let h = c.args.self.now in
      let t = table_of g.F.LeafFn.meaning h in
      let store = subst (λ k. IsKept g.F.LeafFn.meaning k) c.self.view_is c.self.invariant in
      let len : c.len-len.result ≡ len_at t c.args.x.0 = rw c.self.view_is at c.len-len.ensures.value in
      refuses_as (whole_part t c.args.x c.args.i c.args.n (omega arith) (omega (arith, len))) (refuses_none h ⊥ ⊥ (Some c.args.x) store.few store.pool (λ bad. bad) (λ long. long));
}

pub returns : goal.returns
returns g c = record {
  makes =
      let t = table_of g.F.LeafFn.meaning c.args.self.now in
      let len : c.len-len.result ≡ len_at t c.args.x.0 = rw c.self.view_is at c.len-len.ensures.value in
      makes_as (some_part t c.args.x c.args.i c.args.n (omega arith) (λ e. absurd (omega (arith, e, len)))) refl c.inner_part.ensures.makes;
  refuses =
      let t = table_of g.F.LeafFn.meaning c.args.self.now in
      let len : c.len-len.result ≡ len_at t c.args.x.0 = rw c.self.view_is at c.len-len.ensures.value in
      refuses_as (some_part t c.args.x c.args.i c.args.n (omega arith) (λ e. absurd (omega (arith, e, len)))) c.inner_part.ensures.refuses;
}
