-- A journal's front is a line without words.
use Rattle.std.proofs.Common.{◌≢◌, ℕ, ◌/◌, ◌%◌, false, ltb, List, [], ◌∷◌, ◌++◌, refl, sym, subst, arith, inl, inr}
use Rattle.std.specs.Prelude.{codes}
use Rattle.std.specs.Fmt.{digit_glyph}
use Rattle.std.specs.List.{flat_map}
use Rattle.std.proofs.lemmas.Bool.{cases_Bool}
use Rattle.std.proofs.lemmas.List.Elements.{All-append, All-from_recursion, All-nil}
use Rattle.edit_script.specs.Scripts.{ReadsScript}
use Rattle.line_server.specs.Turns.{HasNoEnd}
use Rattle.session_server.specs.Fronts.{SaysBehindFront, hex_pair}
use Rattle.session_server.proofs.Lines.{IsInside, line_split}

-- a digit is no line end
digit_inside : (d : ℕ) → digit_glyph false d ≢ 10
digit_inside d =
    elim (cases_Bool (ltb d 10)) [
      | inl small ↦ rw small (λ e. omega (arith, e))
      | inr large ↦ rw large (λ e. omega (arith, e))
    ]

digits_inside : (header : List ℕ) → HasNoEnd (flat_map hex_pair header)
digits_inside [] = All-nil IsInside
digits_inside (b ∷ header) =
    All-append IsInside (hex_pair b) (flat_map hex_pair header)
    (All-from_recursion IsInside (hex_pair b) (digit_inside (b / 16), (digit_inside (b % 16), tt)))
    (digits_inside header)

abbrev front_line : List ℕ → List ℕ
front_line header = codes "# cordkit lines " ++ flat_map hex_pair header

no_end : (header : List ℕ) → HasNoEnd (front_line header)
no_end header =
    All-append IsInside (codes "# cordkit lines ") (flat_map hex_pair header)
    (All-from_recursion IsInside (codes "# cordkit lines ") (search arith))
    (digits_inside header)

pub says_behind : (header text : List ℕ) → SaysBehindFront header text
says_behind header text = λ commands reads.
    subst (λ (ls : List (List ℕ)). ReadsScript ls commands) (sym (line_split (front_line header) text (no_end header)))
    (inl (refl, reads))
