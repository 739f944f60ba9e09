use Rattle.std.proofs.Common.{◌≡◌, ◌+◌, ◌-◌, ◌≤◌, ℕ}
use Rattle.rope_node.specs.Denotes.{rope_cells, text}
use Rattle.lazy_file.specs.SourceTexts.{Agrees}
use Rattle.cord_position.specs.Fetched.{EachCell, IsStated, rope_cell}
use Rattle.cord_search.specs.Reached.{StandsAtPlace}
use Rattle.cord_search.proofs.Orders.{IsOrderOfRest}
use Rattle.cord_search.proofs.compare.ncmp.Given as goal

-- the sources are as they were, and no read of them has failed
abbrev pub invariant-loop-k : goal.invariant-loop-k
invariant-loop-k g l =
    let t = g.S.NodeSpace.table l.space in
    let st = (g.T.Sources.reading l.initial.sources).stated in
    record {
      reads : g.T.Sources.reading l.sources ≡ g.T.Sources.reading l.initial.sources;
      inside : l.k ≤ l.n;
      at_first : StandsAtPlace g.S.NodeSpace.table l.first l.space l.fn.x (l.fn.i + l.k);
      at_second : StandsAtPlace g.S.NodeSpace.table l.second l.space l.fn.y (l.fn.j + l.k);
      told : (source : ℕ → ℕ → ℕ) → Agrees st source → (m : ℕ) → m ≤ l.n
          → EachCell (rope_cell t l.fn.x) l.fn.i (l.fn.i + m) (IsStated st) → EachCell (rope_cell t l.fn.y) l.fn.j (l.fn.j + m) (IsStated st)
          → IsOrderOfRest l.fn.i l.fn.j m l.k (text source (rope_cells t l.fn.x)) (text source (rope_cells t l.fn.y));
    }

abbrev pub decreases-loop-k : goal.decreases-loop-k
decreases-loop-k g l = l.n - l.k
