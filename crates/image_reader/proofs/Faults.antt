-- Where there is no fault, and what that says of each test.
use Rattle.std.proofs.Common.{◌≡◌, ℕ, Bool, true, false, not, eqb, List, [], ◌∷◌, Option, Some, None, refl}
use Rattle.std.proofs.lemmas.Bool.{or_parts, not-false, eqb-true}
use Rattle.command_parts.proofs.RecordedNumbers.{AreZero}
use Rattle.image_reader.specs.declared.fault.ReadFault.{ReadFault}
use Rattle.image_reader.specs.Reading.{◌else◌, fault_if, any_nonzero}

pub else_none : (a b : Option ReadFault) → (a else b) ≡ None → (a ≡ None) × (b ≡ None)
else_none None b e = (refl, e)
else_none (Some f) b e = absurd cc

pub fault_if_none : (b : Bool) (f : ReadFault) → fault_if b f ≡ None → b ≡ false
fault_if_none true f e = absurd cc
fault_if_none false f e = refl

pub zero_first : (n : ℕ) (ns : List ℕ) → any_nonzero (n ∷ ns) ≡ false → (n ≡ 0) × (any_nonzero ns ≡ false)
zero_first n ns e =
    let parts = or_parts (not (eqb n 0)) (any_nonzero ns) e in
    (eqb-true n 0 (not-false (eqb n 0) parts.0), parts.1)

pub are_zero : (ns : List ℕ) → any_nonzero ns ≡ false → AreZero ns
are_zero [] e = tt
are_zero (n ∷ ns) e =
    let parts = zero_first n ns e in
    (parts.0, are_zero ns parts.1)
