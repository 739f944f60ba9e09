use Rattle.std.proofs.Common.{Some, ◌≡◌, ℕ, length, ◌-◌, ◌<◌, ap, subst, sym, arith, rules}
use Rattle.std.proofs.lemmas.List.{length-take}
use Rattle.cord_position.specs.declared.path.Step.{Step}
use Rattle.cord_position.specs.Steps.{IsStepAt}
use Rattle.cord_position.proofs.StepLaws.{fork_popped, root_step, way_to_side}
use Rattle.cord_position.proofs.path.climb.Goals as goal

pub push_reserved-requires : goal.push_reserved-requires
push_reserved-requires g c =
    let popped = fork_popped (g.S.NodeSpace.table c.args.space.now) (Some c.args.root) c.up.path c.pop.new.self c.in-Some.fork c.in-Some.ensures.items c.in-Some.ensures.capacity c.up.invariant in
    (omega arith, omega (arith, popped.0.room, popped.1.at.deep))

pub side_of-requires-clause-limit : goal.side_of-requires-clause-limit
side_of-requires-clause-limit g c =
    let popped = fork_popped (g.S.NodeSpace.table c.args.space.now) (Some c.args.root) c.up.path c.pop.new.self c.in-Some.fork c.in-Some.ensures.items c.in-Some.ensures.capacity c.up.invariant in
    let step = popped.1.at.step in
    omega (arith, step.in_node, (c.count-count.ensures.sound.nodes c.in-Some.fork.step.node.0 step.there).not_long)

pub returns-then-holds : goal.returns-then-holds
returns-then-holds g c =
    let t = g.S.NodeSpace.table c.args.space.now in
    let popped = fork_popped t (Some c.args.root) c.up.path c.pop.new.self c.in-Some.fork c.in-Some.ensures.items c.in-Some.ensures.capacity c.up.invariant in
    let on = way_to_side t c.count-count.ensures.sound c.count-count.ensures.true_records (Some c.args.root) c.pop.new.self c.push_reserved.new.self c.in-Some.fork c.side_of.result c.args.place
    c.push_reserved.ensures.items c.push_reserved.ensures.capacity c.side_of.ensures.left c.side_of.ensures.right popped.0 popped.1 (search rules) in
    record { path = on.way; step = on.at; holds = on.held }

pub up-preserved : goal.up-preserved
up-preserved g c =
    (fork_popped (g.S.NodeSpace.table c.args.space.now) (Some c.args.root) c.up.path c.pop.new.self c.in-Some.fork c.in-Some.ensures.items c.in-Some.ensures.capacity c.up.invariant).0

pub returns-clause-step : goal.returns-clause-step
returns-clause-step g c =
    let t = g.S.NodeSpace.table c.args.space.now in
    let empty : 0 < length c.up.path.items → ⊥ = λ some. let is = c.in_default.ensures.variant.1 some in absurd cc in
    let none : length c.pop.new.self.items ≡ 0 = omega (arith, empty, ap length c.in_default.ensures.rest, length-take (length c.up.path.items - 1) c.up.path.items) in
    let whole : Step = record { node = c.args.root; first = 0; skipped = 0; len = c.len.result } in
    subst (λ (n : ℕ). IsStepAt t (Some c.args.root) n whole) (sym none) (root_step t c.len.ensures.sound c.len.ensures.true_records c.args.root c.len.result c.requires.there c.len.ensures.value)
