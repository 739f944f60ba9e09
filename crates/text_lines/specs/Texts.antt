-- What calls answer that look through a rope's text, and what they read.
use Rattle.std.specs.Prelude.{◌≡◌, ℕ, List, Option, Result, IfOk}
use Rattle.rope_node.specs.declared.node.NodeId.{NodeId}
use Rattle.rope_node.specs.Table.{Table}
use Rattle.rope_node.specs.Denotes.{rope_len}
use Rattle.lazy_file.specs.Readings.{Reading}
use Rattle.lazy_file.specs.declared.faults.SourceFault.{SourceFault}
use Rattle.cord_position.specs.Fetched.{ReadsSpan, rope_cell}
use Rattle.cord_search.specs.Stated.{OfText}

-- what a call does that may read the cells of a rope
abbrev pub ReadsText : {X : Type 0} → Table → Option NodeId → Reading → Reading → Result X SourceFault → Type 0
ReadsText t rope before after outcome = ReadsSpan before after (rope_cell t rope) 0 (rope_len t rope) outcome

-- where a place is answered, it is this one of the rope's text, whatever bytes the sources have that agree with what
-- they state, where each cell is stated
abbrev pub IsTextPlace : Table → Option NodeId → Reading → (List ℕ → ℕ) → Result ℕ SourceFault → Type 0
IsTextPlace t rope sources place outcome = IfOk outcome (λ p. OfText t sources.stated rope (λ u. p ≡ place u))
