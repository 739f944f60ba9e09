use Rattle.std.proofs.Common.{◌≡◌, ℕ, ◌-◌, min, List, take, drop, Option, None, refl, ap, ◌∙◌, sym, subst, rules}
use Rattle.rope_node.specs.Table.{len_at}
use Rattle.rope_node.specs.declared.node.NodeId.{NodeId}
use Rattle.rope_node.specs.Denotes.{Cell, cells, rope_cells, IsRope}
use Rattle.rope_node.proofs.Cells.{cells_length}
use Rattle.node_table.specs.Held.{table_of}
use Rattle.node_table.specs.Held.{IsKept}
use Rattle.rope_store.specs.Additions.{Addition, node_part, part_added}
use Rattle.rope_store.proofs.Growth.{holds_of, sound_of, true_of}
use Rattle.rope_store.proofs.Made.{makes_as, refuses_as, refuses_none}
use Rattle.rope_store.proofs.PartTexts.{take_least}
use Rattle.rope_store.proofs.store.Store.substr.Goals as goal

pub returns-in-None : goal.returns-in-None
returns-in-None g c = record {
  makes = search rules;
  refuses =
      let store = subst (λ k. IsKept g.F.LeafFn.meaning k) c.self.view_is c.self.invariant in
      let t = table_of g.F.LeafFn.meaning c.args.self.now in
      let none : (x : Option NodeId) → Addition g.row.F.Denot = λ x. part_added t x c.args.i c.args.n in
      refuses_as (ap none c.in-None.is) (refuses_none c.args.self.now _ _ None store.few store.pool (λ bad. bad) (λ long. long));
}

pub returns-in-Some : goal.returns-in-Some
returns-in-Some g c = record {
  makes =
      let h = c.args.self.now in
      let t = table_of g.F.LeafFn.meaning h in
      let store = subst (λ k. IsKept g.F.LeafFn.meaning k) c.self.view_is c.self.invariant in
      let holds = holds_of g.F.LeafFn.meaning h store in
      let len : c.len.result ≡ len_at t c.in-Some.node.0 = rw c.self.view_is at c.len.ensures.value in
      let there = subst (λ x. IsRope t x) c.in-Some.is c.requires in
      let rest : c.min.result ≡ min c.args.n (len_at t c.in-Some.node.0 - c.args.i) = rw (c.min.ensures, c.saturating_sub-rest.ensures, len) refl in
      let many = cells_length t (sound_of g.F.LeafFn.meaning h holds store.pool) (true_of g.F.LeafFn.meaning h holds) c.in-Some.node.0 there in
      let text = take_least (cells t c.in-Some.node.0) c.args.i c.args.n (len_at t c.in-Some.node.0) many in
      let part : (n : ℕ) → Addition g.row.F.Denot = λ n. node_part t c.in-Some.node c.args.i n in
      let whole : (x : Option NodeId) → Addition g.row.F.Denot = λ x. part_added t x c.args.i c.args.n in
      let read : (x : Option NodeId) → List Cell = λ x. take c.args.n (drop c.args.i (rope_cells t x)) in
      makes_as (ap whole c.in-Some.is ∙ ap part (sym rest)) (ap (λ k. take k (drop c.args.i (cells t c.in-Some.node.0))) rest ∙ text ∙ ap read (sym c.in-Some.is)) c.node_part.ensures.makes;
  refuses = search rules;
}
