use Rattle.std.proofs.Common.{◌≡◌, ◌+◌, ℕ, subst, arith}
use Rattle.cord_search.specs.Skipped.{IsClearAlso}
use Rattle.cord_search.proofs.skips.clear_behind.Goals as goal

pub returns-clause-clear : goal.returns-clause-clear
returns-clause-clear g c =
    let at : c.set-pos.result.index ≡ c.args.from = omega (arith, c.set-pos.ensures.index, c.if-from-rope_len.false, c.rope_len.ensures.exact) in
    subst (λ (p : ℕ). IsClearAlso (g.S.NodeSpace.table c.args.space.now) c.args.x 1 p (p + c.args.count) c.clear_behind_position.result (p + c.args.count)) at c.clear_behind_position.ensures.clear
