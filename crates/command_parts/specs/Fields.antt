-- How a revision's record holds its command: a code, and the numbers that a command of this code uses.
use Rattle.std.specs.Prelude.{◌≡◌, ℕ, ◌^◌, ◌<◌, Bool, false, not, ◌||◌, ◌==◌, nat_lt, List, [], ◌∷◌, map, filter, get_or, if◌then◌else◌}
use Rattle.std.specs.List.{AllByRecursion}
use Rattle.command_parts.specs.declared.codes.TheConstants.{BACK, BALANCE, CUT, DELETE, FILL, INSERT, JOIN, MANY, NEW, OPEN, PASTE, REPLACE}
use Rattle.command_parts.specs.declared.edit.Edit.{Edit}
use Rattle.command_parts.specs.declared.numbers.Numbers.{Numbers}
use Rattle.command_parts.specs.declared.edit.Edit.TheVariants.{New, Open, Insert, Delete, Replace, Paste, Join, Cut, Fill, Back, Balance, Many}

-- the fields of a revision's record for its command's numbers
pub data Field : Type 0 where
  R : Field
  Q : Field
  P : Field
  M : Field
  A : Field
  N : Field

-- in the order of the record
abbrev pub fields : List Field
fields = R ∷ Q ∷ P ∷ M ∷ A ∷ N ∷ []

abbrev pub place_in_record : Field → ℕ
place_in_record R = 0
place_in_record Q = 1
place_in_record P = 2
place_in_record M = 3
place_in_record A = 4
place_in_record N = 5

-- a revision's number has 32 bits, a place or length 64
abbrev pub number_limit : ℕ → ℕ
number_limit place = if nat_lt place 2 then 2 ^ 32 else 2 ^ 64

-- a code, and the fields that are used, each with its number
pub record Recorded : Type 0 where
  pub code : ℕ
  pub uses : List (Field × ℕ)

-- the number of a field
abbrev pub field_of : Numbers → Field → ℕ
field_of x R = x.r
field_of x Q = x.q
field_of x P = x.p
field_of x M = x.m
field_of x A = x.a
field_of x N = x.n

-- what each command is recorded as; of its splices only their number
abbrev pub recorded : Edit → Recorded
recorded New = record { code = NEW; uses = [] }
recorded (Open s) = record { code = OPEN; uses = (Q, s) ∷ [] }
recorded (Insert r p a n) = record { code = INSERT; uses = (R, r) ∷ (P, p) ∷ (A, a) ∷ (N, n) ∷ [] }
recorded (Delete r p n) = record { code = DELETE; uses = (R, r) ∷ (P, p) ∷ (N, n) ∷ [] }
recorded (Replace r p m a n) = record { code = REPLACE; uses = (R, r) ∷ (P, p) ∷ (M, m) ∷ (A, a) ∷ (N, n) ∷ [] }
recorded (Paste r p q i n) = record { code = PASTE; uses = (R, r) ∷ (Q, q) ∷ (P, p) ∷ (A, i) ∷ (N, n) ∷ [] }
recorded (Join r q) = record { code = JOIN; uses = (R, r) ∷ (Q, q) ∷ [] }
recorded (Cut r i n) = record { code = CUT; uses = (R, r) ∷ (A, i) ∷ (N, n) ∷ [] }
recorded (Fill r p c n) = record { code = FILL; uses = (R, r) ∷ (P, p) ∷ (A, c) ∷ (N, n) ∷ [] }
recorded (Back r) = record { code = BACK; uses = (R, r) ∷ [] }
recorded (Balance r) = record { code = BALANCE; uses = (R, r) ∷ [] }
recorded (Many r first count) = record { code = MANY; uses = (R, r) ∷ (Q, count) ∷ [] }

-- the command of each code, over what the fields hold, where the commands before it have `first` splices in all; none
-- has code 0
abbrev pub edits : ℕ → (Field → ℕ) → List Edit
edits first f =
    New
    ∷ New
    ∷ Open (f Q)
    ∷ Insert (f R) (f P) (f A) (f N)
    ∷ Delete (f R) (f P) (f N)
    ∷ Replace (f R) (f P) (f M) (f A) (f N)
    ∷ Paste (f R) (f P) (f Q) (f A) (f N)
    ∷ Join (f R) (f Q)
    ∷ Cut (f R) (f A) (f N)
    ∷ Fill (f R) (f P) (f A) (f N)
    ∷ Back (f R)
    ∷ Balance (f R)
    ∷ Many (f R) first (f Q)
    ∷ []

abbrev pub edit_by : ℕ → ℕ → (Field → ℕ) → Edit
edit_by first code f = get_or (edits first f) code New

-- how many splices a command has
abbrev pub splices_of : Edit → ℕ
splices_of (Many r first count) = count
splices_of other = 0

-- its splices begin behind those of the commands before it
abbrev pub IsPlacedAt : ℕ → Edit → Type 0
IsPlacedAt place (Many r first count) = first ≡ place
IsPlacedAt place other = Unit {0}

abbrev pub is_in_field : Field → Field × ℕ → Bool
is_in_field f x = place_in_record x.0 == place_in_record f

-- what stands in a field: 0 where it is not used
abbrev pub number_for : List (Field × ℕ) → Field → ℕ
number_for [] f = 0
number_for (x ∷ xs) f = if is_in_field f x then x.1 else number_for xs f

-- the numbers of a command: what it does not use is 0
abbrev pub number_of : Edit → Field → ℕ
number_of edit f = number_for (recorded edit).uses f

abbrev pub numbers_of : Edit → Numbers
numbers_of e = record {
  r = number_of e R;
  q = number_of e Q;
  p = number_of e P;
  m = number_of e M;
  a = number_of e A;
  n = number_of e N;
}

abbrev pub is_used : List (Field × ℕ) → Field → Bool
is_used [] f = false
is_used (x ∷ xs) f = is_in_field f x || is_used xs f

-- what stands in the fields that a command does not use
abbrev pub unused : Edit → (Field → ℕ) → List ℕ
unused edit f = map f (filter (λ x. not (is_used (recorded edit).uses x)) fields)

-- each number of a command fits its field
abbrev pub FitsField : Field × ℕ → Type 0
FitsField x = x.1 < number_limit (place_in_record x.0)

-- so do all numbers of the command
abbrev pub FitsRecord : Edit → Type 0
FitsRecord edit = AllByRecursion FitsField (recorded edit).uses
