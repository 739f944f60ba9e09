-- From the rules of each node to the whole table.
use Rattle.std.proofs.Common.{ℕ, zero, suc, ◌^◌, ◌<◌, List, [], ◌∷◌, get_or, arith}
use Rattle.std.specs.List.{AllByRecursion}
use Rattle.rope_node.specs.Table.{IsSound, HasTrueRecords}
use Rattle.image_reader.specs.Value.{ImageValue, IsImage, FitsSource, image_table}
use Rattle.image_reader.specs.Accepted.{AreGoodNodes}

sources_short : (xs : List ℕ) → AllByRecursion FitsSource xs → (s : ℕ) → get_or xs s 0 < 2 ^ 40
sources_short [] fits s = omega arith
sources_short (x ∷ xs) fits zero = fits.0
sources_short (x ∷ xs) fits (suc s) = sources_short xs fits.1 s

pub sound_table : (v : ImageValue) → IsImage v → AreGoodNodes (image_table v) → IsSound (image_table v)
sound_table v is good = record { nodes = λ id lt. (good id lt).0; pool = omega (arith, is.small_pool); sources = sources_short v.sources is.sources }

pub true_table : (v : ImageValue) → AreGoodNodes (image_table v) → HasTrueRecords (image_table v)
true_table v good = record { nodes = λ id lt. (good id lt).1 }
