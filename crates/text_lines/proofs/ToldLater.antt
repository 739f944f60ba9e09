-- Behind calls that answered no fault: what is told of a rope's text, and a fault that a later call answers.
use Rattle.std.proofs.Common.{◌≡◌, ◌≤◌, ℕ, List, Option, subst, Result, Ok, Err, IsErrAnd}
use Rattle.rope_node.specs.declared.node.NodeId.{NodeId}
use Rattle.rope_node.specs.Table.{Table}
use Rattle.rope_node.specs.Denotes.{Cell, rope_len}
use Rattle.lazy_file.specs.Readings.{Reading}
use Rattle.lazy_file.specs.declared.faults.SourceFault.{SourceFault}
use Rattle.lazy_file.proofs.LaterReads.{same_stated}
use Rattle.cord_position.specs.Fetched.{ReadsSpan}
use Rattle.cord_position.proofs.Spans.{failed_in}
use Rattle.cord_search.specs.Stated.{OfText}
use Rattle.cord_search.proofs.Fetches.{told_before}
use Rattle.text_lines.specs.HeldBytes.{HeldPart, HoldsText}

pub told_then : (t : Table) (a b : Reading) (rope : Option NodeId) (P : List ℕ → Type 0) → b ≡ a → OfText t b.stated rope P → OfText t a.stated rope P
told_then t a b rope P same told = told_before t a.stated b.stated rope 0 (rope_len t rope) P (same_stated same) told

-- bytes of it that are held
pub held_then : {t : Table} {a b : Reading} {rope : Option NodeId} {held : HeldPart} → b ≡ a → HoldsText t b rope held → HoldsText t a rope held
held_then {t = t} {rope = rope} {held = held} same holds = subst (λ (r : Reading). HoldsText t r rope held) same holds

-- a fault of a read of these cells, or of some of them
pub failed_then : {X : Type 0} (a mid b : Reading) (cell : ℕ → Cell) (i j k l : ℕ) (e : SourceFault) (r : Result X SourceFault) → IsErrAnd r (λ f. f ≡ e) → mid ≡ a → ReadsSpan {X = Unit {0}} mid b cell k l (Err e) → i ≤ k → l ≤ j
    → ReadsSpan a b cell i j r
failed_then a mid b cell i j k l e (Ok x) is same reads from until = absurd is
failed_then a mid b cell i j k l e (Err f) is same reads from until = rw is (failed_in {X = Unit {0}} a mid b cell i j k l (Err e) same reads from until)
