-- A read of one of two ropes' cells.
use Rattle.std.proofs.Common.{ℕ, ◌+◌, inl, inr}
use Rattle.std.specs.Prelude.{Result, ◌⊎◌}
use Rattle.rope_node.specs.Denotes.{Cell}
use Rattle.lazy_file.specs.Readings.{fault_in, Reading}
use Rattle.lazy_file.specs.declared.faults.SourceFault.{SourceFault}
use Rattle.lazy_file.proofs.LaterReads.{reads_weaker}
use Rattle.cord_position.specs.Fetched.{InCells, ReadsSpan}
use Rattle.cord_search.specs.Stated.{ReadsTwoSpans}

module _ {X : Type 0} (old new : Reading) (cell : ℕ → Cell) (i : ℕ) (other : ℕ → Cell) (j n : ℕ) (r : Result X SourceFault) where
  pub first_read : ReadsSpan old new cell i (i + n) r → ReadsTwoSpans old new cell i other j n r
  first_read h = reads_weaker old new (InCells cell i (i + n)) (λ s p. InCells cell i (i + n) s p ⊎ InCells other j (j + n) s p) (fault_in r) (λ s p asked. inl asked) h

  pub second_read : ReadsSpan old new other j (j + n) r → ReadsTwoSpans old new cell i other j n r
  second_read h = reads_weaker old new (InCells other j (j + n)) (λ s p. InCells cell i (i + n) s p ⊎ InCells other j (j + n) s p) (fault_in r) (λ s p asked. inr asked) h
