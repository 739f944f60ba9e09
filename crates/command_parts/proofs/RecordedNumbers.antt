-- A command's numbers: what is recorded is read again, and what is read with no other number than its own is recorded so.
use Rattle.std.proofs.Common.{◌≡◌, ℕ, zero, suc, ◌+◌, ◌<◌, ◌≤◌, eqb, if◌then◌else◌, List, [], ◌∷◌, ◌++◌, map, get_or, replicate, refl, sym, ap, ◌∙◌, subst, arith, lit<, inl, inr}
use Rattle.std.proofs.lemmas.List.FromFn.{get_or-range_with_len}
use Rattle.std.specs.List.{AllByRecursion}
use Rattle.std.proofs.lemmas.Bool.{cases_Bool, eqb-true}
use Rattle.std.proofs.Math.Dec.{eqb-suc-zero, eqb-zero-suc, eqb-suc-suc}
use Rattle.command_parts.specs.declared.codes.TheConstants.{BALANCE, MANY}
use Rattle.command_parts.specs.declared.edit.Edit.{Edit}
use Rattle.command_parts.specs.declared.edit.Edit.TheVariants.{New, Open, Insert, Delete, Replace, Paste, Join, Cut, Fill, Back, Balance, Many}
use Rattle.command_parts.specs.declared.numbers.Numbers.{Numbers}
use Rattle.command_parts.specs.Fields.{Field, R, Q, P, M, A, N, place_in_record, number_limit, field_of, recorded, edits, edit_by, splices_of, is_in_field, number_for, numbers_of, unused, FitsField, FitsRecord, IsPlacedAt}

-- ---- the command of each code

each_of : (Has : Edit → Type 0) (es : List Edit) → AllByRecursion Has es → Has New → (code : ℕ) → Has (get_or es code New)
each_of Has [] each new code = new
each_of Has (e ∷ es) each new zero = each.0
each_of Has (e ∷ es) each new (suc code) = each_of Has es each.1 new code

-- what holds of the command of each code holds of that of any number
each_code : (Has : Edit → Type 0) (first : ℕ) (f : Field → ℕ) → AllByRecursion Has (edits first f) → (code : ℕ) → Has (edit_by first code f)
each_code Has first f each code = each_of Has (edits first f) each each.0 code

-- a command read from numbers that fit has numbers that fit
pub edit_fits : (first code : ℕ) (f : Field → ℕ) → ((x : Field) → f x < number_limit (place_in_record x)) → FitsRecord (edit_by first code f)
edit_fits first code f small =
    let r = small R in
    let q = small Q in
    let p = small P in
    let a = small A in
    let n = small N in
    each_code FitsRecord first f (tt, (tt, ((q, tt), ((r, (p, (a, (n, tt)))), ((r, (p, (n, tt))), ((r, (p, (small M, (a, (n, tt))))), ((r, (q, (p, (a, (n, tt))))), ((r, (q, tt)), ((r, (a, (n, tt))), ((r, (p, (a, (n, tt)))), ((r, tt), ((r, tt), ((r, (q, tt)), tt))))))))))))) code

-- its splices begin where they are said to
pub placed_by : (first code : ℕ) (f : Field → ℕ) → IsPlacedAt first (edit_by first code f)
placed_by first code f = each_code (IsPlacedAt first) first f (tt, (tt, (tt, (tt, (tt, (tt, (tt, (tt, (tt, (tt, (tt, (tt, (refl, tt))))))))))))) code

-- what is asked of the command of a code is asked of each
mapped : {X : Type 0} (ask : Edit → X) (es : List Edit) (code : ℕ) → ask (get_or es code New) ≡ get_or (map ask es) code (ask New)
mapped ask [] code = refl
mapped ask (e ∷ es) zero = refl
mapped ask (e ∷ es) (suc code) = mapped ask es code

at_end : (n x code : ℕ) → get_or (replicate n 0 ++ x ∷ []) code 0 ≡ (if eqb code n then x else 0)
at_end zero x zero = refl
at_end zero x (suc code) = rw eqb-suc-zero refl
at_end (suc n) x zero = rw eqb-zero-suc refl
at_end (suc n) x (suc code) = rw eqb-suc-suc (at_end n x code)

-- and are as many as the record says
pub splices_by : (first code : ℕ) (f : Field → ℕ) → splices_of (edit_by first code f) ≡ (if eqb code MANY then f Q else 0)
splices_by first code f = mapped splices_of (edits first f) code ∙ at_end MANY (f Q) code

-- the commands of version 1 have none
pub splices_none : (e : Edit) → (recorded e).code ≤ BALANCE → splices_of e ≡ 0
splices_none (Many r first count) low = absurd (omega arith)
splices_none other low = refl

-- ---- what is read again

pub edit_again : (first : ℕ) (e : Edit) → IsPlacedAt first e → edit_by first (recorded e).code (field_of (numbers_of e)) ≡ e
edit_again first (Many r k count) placed = ap (λ (place : ℕ). Many r place count) (sym placed)
edit_again first other placed = refl

pub code_small : (e : Edit) → (1 ≤ (recorded e).code) × ((recorded e).code ≤ MANY)
code_small New = (omega arith, omega arith)
code_small other = (omega arith, omega arith)

-- a command's numbers fit their fields
pub number_fits : (uses : List (Field × ℕ)) → AllByRecursion FitsField uses → (f : Field) → number_for uses f < number_limit (place_in_record f)
number_fits [] fits R = lit< tt
number_fits [] fits other = lit< tt
number_fits (x ∷ xs) fits f =
    elim (cases_Bool (is_in_field f x)) [
      | inl is ↦
          let same : place_in_record x.0 ≡ place_in_record f = eqb-true _ _ is in
          rw is (subst (λ (k : ℕ). x.1 < number_limit k) same fits.0)
      | inr isnt ↦ rw isnt (number_fits xs fits.1 f)
    ]

-- ---- what is read

abbrev pub AreZero : List ℕ → Type 0
AreZero = AllByRecursion (λ (n : ℕ). n ≡ 0)

abbrev numbers : ℕ → ℕ → ℕ → ℕ → ℕ → ℕ → Numbers
numbers r q p m a n = record { r = r; q = q; p = p; m = m; a = a; n = n }

abbrev HasOnly : Numbers → Edit → Type 0
HasOnly x e = AreZero (unused e (field_of x)) → numbers_of e ≡ x

own : (first code r q p m a n : ℕ) → HasOnly (numbers r q p m a n) (edit_by first code (field_of (numbers r q p m a n)))
own first code r q p m a n =
    let x = numbers r q p m a n in
    let none : HasOnly x New = λ z. rw (z.0, z.1.0, z.1.1.0, z.1.1.1.0, z.1.1.1.1.0, z.1.1.1.1.1.0) refl in
    let opened : HasOnly x (Open q) = λ z. rw (z.0, z.1.0, z.1.1.0, z.1.1.1.0, z.1.1.1.1.0) refl in
    let inserted : HasOnly x (Insert r p a n) = λ z. rw (z.0, z.1.0) refl in
    let deleted : HasOnly x (Delete r p n) = λ z. rw (z.0, z.1.0, z.1.1.0) refl in
    let replaced : HasOnly x (Replace r p m a n) = λ z. rw z.0 refl in
    let pasted : HasOnly x (Paste r p q a n) = λ z. rw z.0 refl in
    let joined : HasOnly x (Join r q) = λ z. rw (z.0, z.1.0, z.1.1.0, z.1.1.1.0) refl in
    let cut : HasOnly x (Cut r a n) = λ z. rw (z.0, z.1.0, z.1.1.0) refl in
    let filled : HasOnly x (Fill r p a n) = λ z. rw (z.0, z.1.0) refl in
    let back : HasOnly x (Back r) = λ z. rw (z.0, z.1.0, z.1.1.0, z.1.1.1.0, z.1.1.1.1.0) refl in
    let balanced : HasOnly x (Balance r) = λ z. rw (z.0, z.1.0, z.1.1.0, z.1.1.1.0, z.1.1.1.1.0) refl in
    let many : HasOnly x (Many r first q) = λ z. rw (z.0, z.1.0, z.1.1.0, z.1.1.1.0) refl in
    each_code (HasOnly x) first (field_of x) (none, (none, (opened, (inserted, (deleted, (replaced, (pasted, (joined, (cut, (filled, (back, (balanced, (many, tt))))))))))))) code

-- where the commands before it have more splices, it uses the same fields
unused_first : (first code : ℕ) (f : Field → ℕ) → unused (edit_by first code f) f ≡ unused (edit_by 0 code f) f
unused_first first code f = mapped (λ (e : Edit). unused e f) (edits first f) code ∙ sym (mapped (λ (e : Edit). unused e f) (edits 0 f) code)

-- numbers of which the command of a code uses all that are not 0 are its own
pub own_numbers : (first code : ℕ) (x : Numbers) → AreZero (unused (edit_by 0 code (field_of x)) (field_of x)) → numbers_of (edit_by first code (field_of x)) ≡ x
own_numbers first code x zeros = own first code x.r x.q x.p x.m x.a x.n (subst AreZero (sym (unused_first first code (field_of x))) zeros)

-- the command of a code has it
pub code_again : (first code : ℕ) (f : Field → ℕ) → 1 ≤ code → code ≤ MANY → (recorded (edit_by first code f)).code ≡ code
code_again first zero f low high = absurd (omega arith)
code_again first (suc k) f low high =
    let step : 1 + k ≡ suc k = omega arith in
    mapped (λ (e : Edit). (recorded e).code) (edits first f) (suc k) ∙ get_or-range_with_len 1 12 k 1 (omega arith) ∙ step
