-- Reads of a rope's cells, one after the other.
use Rattle.std.proofs.Common.{◌≡◌, ℕ, ◌+◌, ◌≤◌, length, refl, Option, Some, None, inl, inr, sym, subst, arith}
use Rattle.std.specs.Prelude.{All, Result, Ok, Err, IsOk, slice_index}
use Rattle.rope_node.specs.declared.node.NodeId.{NodeId}
use Rattle.rope_node.specs.Table.{Table, IsSound}
use Rattle.rope_node.specs.Denotes.{Cell, Byte, Place, IsRope, cell_at, cells, rope_cells}
use Rattle.rope_node.proofs.HeldCells.{IsHeldCell, cell_held}
use Rattle.std.proofs.lemmas.Bool.{cases_lt, lt-ltb, le-leb}
use Rattle.std.proofs.lemmas.List.{get_or_past}
use Rattle.lazy_file.specs.SourceTexts.{Stated}
use Rattle.lazy_file.specs.Readings.{fault_in, Reading}
use Rattle.lazy_file.specs.declared.faults.SourceFault.{SourceFault}
use Rattle.lazy_file.proofs.LaterReads.{reads_then, reads_weaker}
use Rattle.cord_position.specs.Fetched.{AreOwn, EachCell, InCells, IsReadable, ReadsSpan, rope_cell}

-- a call that reads some of the cells, behind calls that answered no fault
pub failed_in : {X : Type 0} (old mid new : Reading) (cell : ℕ → Cell) (i j k l : ℕ) (r : Result X SourceFault)
    → mid ≡ old → ReadsSpan mid new cell k l r → i ≤ k → l ≤ j → ReadsSpan old new cell i j r
failed_in old mid new cell i j k l r before h from until =
    reads_then old mid new (InCells cell i j) (fault_in r) before
    (reads_weaker mid new (InCells cell k l) (InCells cell i j) (fault_in r) (λ s p asked. (asked.0, omega (arith, from, asked.1), omega (arith, until, asked.2), asked.3)) h)

-- where each cell is readable there is no fault
pub span_read : {X : Type 0} (old new : Reading) (cell : ℕ → Cell) (i j : ℕ) (r : Result X SourceFault) → ReadsSpan old new cell i j r → EachCell cell i j (IsReadable old.stated) → IsOk r
span_read old new cell i j (Ok x) h readable = refl
span_read old new cell i j (Err e) h readable =
    let (k, from, until, is) = h.asked in
    let here : IsReadable old.stated (Place h.s h.p) = subst (IsReadable old.stated) is (readable k from until) in
    let bad = h.at.bad_source (h.at.unfailing here.0) in
    let there = here.1 in
    absurd cc

-- what holds of each of a rope's cells, and of bytes, holds from any place up to any
pub each_cell : (t : Table) (rope : Option NodeId) (P : Cell → Type 0) → P (Byte 0) → All P (rope_cells t rope) → (i j : ℕ) → EachCell (rope_cell t rope) i j P
each_cell t None P byte all i j p above below = byte
each_cell t (Some id) P byte all i j p above below =
    elim (cases_lt p (length (cells t id.0))) [
      | inl lt ↦ all p (Byte 0) lt
      | inr past ↦ subst P (sym (get_or_past (cells t id.0) p (Byte 0) past)) byte
    ]

-- over sources that are the table's own each cell is readable
pub own_readable : (t : Table) → IsSound t → (st : Stated) → AreOwn st t → (rope : Option NodeId) → IsRope t rope → (p : ℕ) → IsReadable st (rope_cell t rope p)
own_readable t s st own None there p = tt
own_readable t s st own (Some id) there p = of_cell (cell_at t id.0 p) (cell_held t s id.0 p there)
  where
    of_cell : (cell : Cell) → IsHeldCell t cell → IsReadable st cell
    of_cell (Byte b) held = tt
    of_cell (Place s' q) held =
        (own.never_fails, rw (own.sizes, lt-ltb s' (length t.sources) held.0, le-leb (q + 1) (slice_index t.sources s') (omega (arith, held.1))) refl)
