-- What is read to show a text, and why it is not shown.
use Rattle.std.specs.Prelude.{ℕ, Option, Some, None, Result}
use Rattle.rope_node.specs.Denotes.{Cell}
use Rattle.lazy_file.specs.Readings.{Reading, Reads, fault_by}
use Rattle.lazy_file.specs.declared.faults.SourceFault.{SourceFault}
use Rattle.cord_position.specs.Fetched.{InCells}
use Rattle.text_lines.specs.declared.fault.FrameFault.{FrameFault}
use Rattle.text_lines.specs.declared.fault.FrameFault.TheVariants as Frame

-- the source's fault that a fault is, if it is one
abbrev pub frame_source_fault : FrameFault → Option SourceFault
frame_source_fault (Frame.Source fault) = Some fault
frame_source_fault Frame.Memory = None

-- what a call does that may read these cells, and takes memory
abbrev pub ReadsToShow : {X : Type 0} → Reading → Reading → (ℕ → Cell) → ℕ → Result X FrameFault → Type 0
ReadsToShow before after cell len outcome =
    Reads before after (InCells cell 0 len) (fault_by frame_source_fault outcome)
