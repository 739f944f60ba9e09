-- The pools of the worked examples.
use Rattle.std.specs.Prelude.{ℕ, List, [], ◌∷◌, ◌++◌, codes}
use Rattle.leaf_buffer.specs.Contents.{Contents}

-- a new pool
abbrev pub no_bytes : Contents
no_bytes = record { bytes = []; borders = []; room = 0 }

-- three bytes, and two behind them, in one block
abbrev pub three_bytes : Contents
three_bytes = record { bytes = codes "abc"; borders = 0 ∷ []; room = 65533 }

abbrev pub five_bytes : Contents
five_bytes = record { bytes = codes "abcde"; borders = 0 ∷ []; room = 65531 }

-- these five, and a full block
abbrev pub two_blocks : List ℕ → Contents
two_blocks block = record { bytes = codes "abcde" ++ block; borders = 0 ∷ 5 ∷ []; room = 0 }
