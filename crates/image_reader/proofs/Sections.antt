-- Sections of records, one record after the other.
use Rattle.std.proofs.Common.{◌≡◌, ℕ, suc, ◌+◌, ◌-◌, ◌*◌, ◌<◌, ◌≤◌, List, length, take, drop, Option, Some, None, refl, sym, ◌∙◌, arith}
use Rattle.image_reader.specs.declared.fault.ReadFault.{ReadFault}
use Rattle.image_reader.specs.Layout.{records}
use Rattle.image_reader.specs.Reading.{◌else◌, first_fault}
use Rattle.std.proofs.lemmas.List.{length-drop}
use Rattle.std.proofs.Math.Nat.{sub-zero, mul-suc}

-- what is left of a section after its first records: enough bytes, and the fault that is still to be met
pub record IsReadTo (size : ℕ) (fault : List ℕ → Option ReadFault) (count i : ℕ) (rest : List ℕ) (bytes : List ℕ) : Type 0 where
  pub enough : size * (count - i) ≤ length rest
  pub same : first_fault fault (records size (count - i) rest) ≡ first_fault fault (records size count bytes)

pub read_to_none : (size : ℕ) (fault : List ℕ → Option ReadFault) (count : ℕ) (bytes : List ℕ) → size * count ≤ length bytes → IsReadTo size fault count 0 bytes bytes
read_to_none size fault count bytes enough = record { enough = rw (sub-zero count) enough; same = rw (sub-zero count) refl }

pub first_fault-records : (size : ℕ) (fault : List ℕ → Option ReadFault) (count i : ℕ) (rest : List ℕ) → i < count
    → first_fault fault (records size (count - i) rest) ≡ (fault (take size rest) else first_fault fault (records size (count - (i + 1)) (drop size rest)))
unfolding records first_fault
first_fault-records size fault count i rest lt =
    let split : count - i ≡ suc (count - (i + 1)) = omega arith in
    rw split refl

pub room_for_one : (size count i : ℕ) (rest : List ℕ) → i < count → size * (count - i) ≤ length rest → size ≤ length rest
room_for_one size count i rest lt enough =
    let split : count - i ≡ suc (count - (i + 1)) = omega arith in
    let whole = rw (split, mul-suc) at enough in
    omega arith

pub read_to_more : (size : ℕ) (fault : List ℕ → Option ReadFault) (count i : ℕ) (rest bytes : List ℕ) → i < count → fault (take size rest) ≡ None → IsReadTo size fault count i rest bytes → IsReadTo size fault count (i + 1) (drop size rest) bytes
read_to_more size fault count i rest bytes lt none so_far =
    let split : count - i ≡ suc (count - (i + 1)) = omega arith in
    let enough = rw (split, mul-suc) at so_far.enough in
    record {
      enough = omega (arith, length-drop size rest);
      same = (let step = first_fault-records size fault count i rest lt in rw none at (sym step)) ∙ so_far.same;
    }

pub read_to_fault : (size : ℕ) (fault : List ℕ → Option ReadFault) (count i : ℕ) (rest bytes : List ℕ) (f : ReadFault) → i < count → fault (take size rest) ≡ Some f → IsReadTo size fault count i rest bytes → Some f ≡ first_fault fault (records size count bytes)
read_to_fault size fault count i rest bytes f lt some so_far =
    (let step = first_fault-records size fault count i rest lt in rw some at (sym step)) ∙ so_far.same

pub read_to_end : (size : ℕ) (fault : List ℕ → Option ReadFault) (count i : ℕ) (rest bytes : List ℕ) → count ≤ i → IsReadTo size fault count i rest bytes → None ≡ first_fault fault (records size count bytes)
unfolding records first_fault
read_to_end size fault count i rest bytes le so_far =
    let none : count - i ≡ 0 = omega arith in
    let step : first_fault fault (records size (count - i) rest) ≡ None = rw none refl in
    sym step ∙ so_far.same
