-- The numbers of a command that are not its own: there are none in what is spelled, nor in what is read without a fault.
use Rattle.std.proofs.Common.{◌≡◌, ℕ, ◌≤◌, false, refl, sym}
use Rattle.command_parts.specs.declared.codes.TheConstants.{MANY}
use Rattle.command_parts.specs.declared.edit.Edit.{Edit}
use Rattle.command_parts.specs.declared.edit.Edit.TheVariants.{New}
use Rattle.command_parts.specs.declared.numbers.Numbers.{Numbers}
use Rattle.command_parts.specs.Fields.{field_of, recorded, edit_by, numbers_of, unused}
use Rattle.command_parts.proofs.RecordedNumbers.{code_again, own_numbers}
use Rattle.image_reader.specs.Reading.{any_nonzero}
use Rattle.image_reader.proofs.Faults.{are_zero}

pub unused_again : (e : Edit) → any_nonzero (unused (edit_by 0 (recorded e).code (field_of (numbers_of e))) (field_of (numbers_of e))) ≡ false
unused_again New = refl
unused_again other = refl

none_unused : (e : Edit) → any_nonzero (unused e (field_of (numbers_of e))) ≡ false
none_unused New = refl
none_unused other = refl

-- numbers that are a command's own
pub own_unused : (e : Edit) (x : Numbers) → x ≡ numbers_of e → any_nonzero (unused e (field_of x)) ≡ false
own_unused e x same = rw same (none_unused e)

pub unused_own : (code : ℕ) (x : Numbers) → any_nonzero (unused (edit_by 0 code (field_of x)) (field_of x)) ≡ false → x ≡ numbers_of (edit_by 0 code (field_of x))
unused_own code x none = sym (own_numbers 0 code x (are_zero _ none))

-- numbers of which a command of this code uses all that are not 0
pub record IsOfCode (first code : ℕ) (x : Numbers) : Type 0 where
  pub code_is : (recorded (edit_by first code (field_of x))).code ≡ code
  pub numbers : numbers_of (edit_by first code (field_of x)) ≡ x

pub is_of_code : (first code : ℕ) (x : Numbers) → 1 ≤ code → code ≤ MANY → any_nonzero (unused (edit_by 0 code (field_of x)) (field_of x)) ≡ false → IsOfCode first code x
is_of_code first code x low high none = record { code_is = code_again first code (field_of x) low high; numbers = own_numbers first code x (are_zero _ none) }
