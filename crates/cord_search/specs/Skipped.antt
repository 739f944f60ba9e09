-- Places at which no pattern stands, told by other places.
use Rattle.std.specs.Prelude.{◌≡◌, ℕ, ◌<◌, ◌≤◌, List, length, Option}
use Rattle.rope_node.specs.declared.node.NodeId.{NodeId}
use Rattle.rope_node.specs.Table.{Table}
use Rattle.rope_node.specs.Denotes.{rope_cells, text}
use Rattle.cord_search.specs.Places.{StandsAt}

-- s stands at no place of t from i up to j
abbrev pub IsClear : List ℕ → List ℕ → ℕ → ℕ → Type 0
IsClear s t i j = (k : ℕ) → i ≤ k → k < j → ¬ StandsAt s t k

-- whatever bytes the sources have, each pattern of n bytes that stands nowhere in the rope's text from i up to j stands
-- nowhere from k up to l
abbrev pub IsClearAlso : Table → Option NodeId → ℕ → ℕ → ℕ → ℕ → ℕ → Type 0
IsClearAlso t rope n i j k l = (source : ℕ → ℕ → ℕ) (s : List ℕ) → length s ≡ n
    → IsClear s (text source (rope_cells t rope)) i j → IsClear s (text source (rope_cells t rope)) k l
