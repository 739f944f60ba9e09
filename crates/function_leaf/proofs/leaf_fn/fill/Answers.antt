use Rattle.std.proofs.Common.{arith}
use Rattle.std.proofs.lemmas.Grind.{common_steps}
use Rattle.std.proofs.lemmas.List.FromFn.{map-range_with_len_more}
use Rattle.function_leaf.proofs.leaf_fn.fill.Goals as goal

pub loop-k-preserved : goal.loop-k-preserved
loop-k-preserved g c = grind (arith, common_steps, map-range_with_len_more)
