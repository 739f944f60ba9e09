use Rattle.std.proofs.Common.{◌≡◌, Some, sym, subst, ◌∙◌, arith}
use Rattle.rope_node.specs.Table.{len_at}
use Rattle.node_table.specs.Held.{table_of}
use Rattle.node_table.specs.Held.{IsKept}
use Rattle.rope_store.specs.Joining.{ending_of}
use Rattle.rope_store.proofs.Growth.{holds_of, sound_of, true_of}
use Rattle.rope_store.proofs.LastLiterals.{short_found}
use Rattle.rope_store.proofs.store.Store.short_ending.Goals as goal

pub returns-then-len-count-clause-sound : goal.returns-then-len-count-clause-sound
returns-then-len-count-clause-sound g c =
    let h = c.args.self.now in
    let t = table_of g.F.LeafFn.meaning h in
    let store = subst (λ k. IsKept g.F.LeafFn.meaning k) c.self.view_is c.self.invariant in
    let holds = holds_of g.F.LeafFn.meaning h store in
    let len : c.len.result ≡ len_at t c.in-Some.ending.literal.0 = rw c.self.view_is at c.len.ensures.value in
    let found : ending_of t c.args.x ≡ Some c.in-Some.ending = sym c.ending.ensures ∙ c.in-Some.is in
    short_found t (sound_of g.F.LeafFn.meaning h holds store.pool) (true_of g.F.LeafFn.meaning h holds) c.args.x c.args.count c.requires.there c.in-Some.ending found (omega (arith, len))
