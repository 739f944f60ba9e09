-- The commands and rows of the worked examples.
use Rattle.std.specs.Prelude.{ℕ, List, [], ◌∷◌, Option, codes}
use Rattle.command_parts.specs.declared.edit.Splice.{Splice}
use Rattle.span_certificate.specs.declared.row.Row.{Row}
use Rattle.span_certificate.specs.declared.row.RowKind.TheVariants.{Leaf}
use Rattle.command_parts.specs.Commands.{Givens, Many, result_of}

-- a pool of these bytes, and no sources
abbrev pub pool_of : List ℕ → Givens ℕ
pool_of bytes = record { pool = bytes; sources = []; byte = λ c. c }

abbrev pub splice : ℕ → ℕ → ℕ → ℕ → Splice
splice p m a n = record { p = p; m = m; a = a; n = n }

-- `bc` of `abcdef` replaced by `X`, `YZ` put in front of `e`, and `f` taken out
abbrev pub three_splices : List Splice
three_splices = splice 1 2 6 1 ∷ splice 4 0 12 2 ∷ splice 5 1 0 0 ∷ []

-- what these splices make of `abcdef`, whose pool has `X` at 6 and `YZ` at 12
abbrev pub replaced_in_abcdef : List Splice → Option (List ℕ)
replaced_in_abcdef splices =
    result_of (pool_of (codes "abcdefXaXaXdYZaXdYZe")) ([] ∷ codes "abcdef" ∷ []) (Many 1 splices)

-- a row of so many bytes that lie in one leaf
abbrev pub leaf_row : ℕ → Row
leaf_row len = record { len = len; kind = Leaf }
