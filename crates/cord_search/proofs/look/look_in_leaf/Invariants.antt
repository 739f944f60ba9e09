use Rattle.std.proofs.Common.{◌≡◌, ◌+◌, ◌-◌, ◌≤◌, ℕ, Some}
use Rattle.rope_node.specs.declared.node.NodeId.{NodeId}
use Rattle.cord_search.specs.Seeking.{IsSeeker, IsSeeking}
use Rattle.rope_node.specs.Steps.{SameCells}
use Rattle.cord_search.proofs.look.look_in_leaf.Given as goal

-- the sources are as they were, and no read of them has failed
abbrev pub invariant-leaf : goal.invariant-leaf
invariant-leaf g l =
    let t = g.S.NodeSpace.table l.space in
    let st = (g.T.Sources.reading l.initial.sources).stated in
    record {
      reads : g.T.Sources.reading l.sources ≡ g.T.Sources.reading l.initial.sources;
      kept : IsSeeker l.seeker;
      pattern : l.seeker.finder ≡ l.initial.seeker.finder;
      inside : l.done ≤ l.fn.len;
      place : l.seeker.place ≡ l.first + l.done;
      begun : l.first ≡ l.initial.seeker.place;
      sought : (x : NodeId) (begin : ℕ) → SameCells t x l.fn.leaf l.first l.fn.start l.fn.len → IsSeeking t st (Some x) begin l.initial.seeker → IsSeeking t st (Some x) begin l.seeker;
    }

abbrev pub decreases-leaf : goal.decreases-leaf
decreases-leaf g l = l.fn.len - l.done
