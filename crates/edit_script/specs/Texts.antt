-- Commands that say the same, whatever pools their bytes stand in.
use Rattle.std.specs.Prelude.{◌≡◌, ℕ, List, length, map, All}
use Rattle.command_parts.specs.Commands.{FullEdit, Givens}
use Rattle.edit_script.specs.Commands.{words_of, StandsInside}

-- the words are the same, the bytes that are named stand in the pools, and the sources are the same
pub record SayTheSame (g h : Givens ℕ) (es fs : List FullEdit) : Type 0 where
  pub words : map (words_of g.pool) es ≡ map (words_of h.pool) fs
  pub inside : All (StandsInside (length g.pool)) es
  pub others_inside : All (StandsInside (length h.pool)) fs
  pub sources : g.sources ≡ h.sources
  pub byte : g.byte ≡ h.byte
