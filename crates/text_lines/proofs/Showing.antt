-- Faults that end the showing of a text.
use Rattle.std.proofs.Common.{◌≡◌, ℕ, ◌≤◌, arith, Result, Ok, Err, IsErrAnd}
use Rattle.rope_node.specs.Denotes.{Cell}
use Rattle.lazy_file.specs.Readings.{Reading}
use Rattle.lazy_file.specs.declared.faults.SourceFault.{SourceFault}
use Rattle.lazy_file.proofs.LaterReads.{reads_then}
use Rattle.cord_position.specs.Fetched.{InCells, ReadsSpan}
use Rattle.cord_position.proofs.Spans.{failed_in}
use Rattle.text_lines.specs.declared.fault.FrameFault.{FrameFault}
use Rattle.text_lines.specs.declared.fault.FrameFault.TheVariants as Frame
use Rattle.text_lines.specs.Showing.{ReadsToShow, frame_source_fault}

-- a read failed
pub failed_read : {X : Type 0} (old mid new : Reading) (cell : ℕ → Cell) (len k l : ℕ) (e : SourceFault) (r : Result X FrameFault) → IsErrAnd r (λ f. f ≡ Frame.Source e) → mid ≡ old → ReadsSpan {X = Unit {0}} mid new cell k l (Err e) → l ≤ len → ReadsToShow old new cell len r
failed_read old mid new cell len k l e (Ok x) is before h until = absurd is
failed_read old mid new cell len k l e (Err f) is before h until = rw is (failed_in {X = Unit {0}} old mid new cell 0 len k l (Err e) before h (omega arith) until)

-- a part could not be shown
pub failed_part : {X : Type 0} (old mid new : Reading) (cell : ℕ → Cell) (len : ℕ) (e : FrameFault) (r : Result X FrameFault) → IsErrAnd r (λ f. f ≡ e) → mid ≡ old → ReadsToShow {X = Unit {0}} mid new cell len (Err e) → ReadsToShow old new cell len r
failed_part old mid new cell len e (Ok x) is before h = absurd is
failed_part old mid new cell len e (Err f) is before h = rw is (reads_then old mid new (InCells cell 0 len) (frame_source_fault e) before h)
