use Rattle.std.proofs.Common.{refl, sym, ap, subst, ◌∙◌, arith}
use Rattle.std.proofs.lemmas.Option.{same_Some}
use Rattle.rope_node.specs.Table.{len_at, view_at}
use Rattle.node_table.specs.Held.{table_of}
use Rattle.rope_store.specs.declared.endings.Ending.{Ending}
use Rattle.node_table.specs.Held.{IsKept}
use Rattle.rope_store.specs.Additions.{Addition}
use Rattle.rope_store.specs.Appending.{grown, literal_place}
use Rattle.rope_store.proofs.Growth.{holds_of, sound_of, true_of}
use Rattle.rope_store.proofs.Made.{makes_as}
use Rattle.rope_store.proofs.LastLiterals.{ending_found, longer_text}
use Rattle.rope_store.proofs.store.Store.append_to.Goals as goal

pub grow-requires-clause-before : goal.grow-requires-clause-before
grow-requires-clause-before g c =
    let h = c.args.self.now in
    let t = table_of g.F.LeafFn.meaning h in
    let e = c.in-Some.ending in
    let store = subst (λ k. IsKept g.F.LeafFn.meaning k) c.self.view_is c.self.invariant in
    let holds = holds_of g.F.LeafFn.meaning h store in
    let sound = sound_of g.F.LeafFn.meaning h holds store.pool in
    let ending = ending_found t sound (true_of g.F.LeafFn.meaning h holds) c.args.x c.requires.there e c.in-Some.ensures.some.ending in
    ending.is_before

pub grow-requires-clause-short : goal.grow-requires-clause-short
grow-requires-clause-short g c =
    let h = c.args.self.now in
    let t = table_of g.F.LeafFn.meaning h in
    let e = c.in-Some.ending in
    let store = subst (λ k. IsKept g.F.LeafFn.meaning k) c.self.view_is c.self.invariant in
    let holds = holds_of g.F.LeafFn.meaning h store in
    let sound = sound_of g.F.LeafFn.meaning h holds store.pool in
    let ending = ending_found t sound (true_of g.F.LeafFn.meaning h holds) c.args.x c.requires.there e c.in-Some.ensures.some.ending in
    omega (arith, ending.len, c.requires.short)

pub grow-requires-clause-shallow : goal.grow-requires-clause-shallow
grow-requires-clause-shallow g c =
    let h = c.args.self.now in
    let t = table_of g.F.LeafFn.meaning h in
    let e = c.in-Some.ending in
    let store = subst (λ k. IsKept g.F.LeafFn.meaning k) c.self.view_is c.self.invariant in
    let holds = holds_of g.F.LeafFn.meaning h store in
    let sound = sound_of g.F.LeafFn.meaning h holds store.pool in
    let ending = ending_found t sound (true_of g.F.LeafFn.meaning h holds) c.args.x c.requires.there e c.in-Some.ensures.some.ending in
    ending.shallow

pub returns-in-Some : goal.returns-in-Some
returns-in-Some g c =
    let h = c.args.self.now in
    let t = table_of g.F.LeafFn.meaning h in
    let e = c.in-Some.ending in
    let store = subst (λ k. IsKept g.F.LeafFn.meaning k) c.self.view_is c.self.invariant in
    let holds = holds_of g.F.LeafFn.meaning h store in
    let sound = sound_of g.F.LeafFn.meaning h holds store.pool in
    let ending = ending_found t sound (true_of g.F.LeafFn.meaning h holds) c.args.x c.requires.there e c.in-Some.ensures.some.ending in
    let bytes = c.args.bytes.now in
    let longer : Ending → Addition g.row.F.Denot = λ k. grown t k.before (literal_place (view_at t k.literal.0)) (len_at t k.literal.0) bytes in
    record {
      addition = longer e;
      is = record {
        in_place = λ k found grows. ap longer (same_Some e k (sym c.in-Some.ensures.some.ending ∙ found));
        copied = λ none. absurd (none e c.in-Some.ensures.some.ending c.in-Some.ensures.some.grows);
      };
      makes = makes_as refl (longer_text t sound c.args.x e bytes ending.there ending.is_literal ending.text) c.grow.ensures.makes;
      refuses = c.grow.ensures.refuses;
    }
