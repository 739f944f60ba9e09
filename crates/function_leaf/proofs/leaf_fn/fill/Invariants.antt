use Rattle.std.proofs.Common.{◌≡◌, map, take}
use Rattle.std.specs.List.{range_with_len}
use Rattle.function_leaf.proofs.leaf_fn.fill.Given as goal

abbrev pub invariant-loop-k : goal.invariant-loop-k
invariant-loop-k g l = take l.k l.out ≡ map (g.F.LeafFn.meaning l.f) (range_with_len l.from l.k)
