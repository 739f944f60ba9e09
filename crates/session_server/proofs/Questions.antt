-- What a line asks for is read just as its words stand there, and no command's words ask.
use Rattle.std.proofs.Common.{◌≡◌, ℕ, Bool, true, false, List, [], ◌∷◌, Option, Some, None, Result, Ok, Err, refl, sym, subst, inl, inr}
use Rattle.std.specs.Prelude.{IfOk}
use Rattle.std.specs.List.{list_all}
use Rattle.std.specs.Option.{is_none}
use Rattle.std.specs.Str.{bytes_eq}
use Rattle.std.proofs.lemmas.Bool.{and_parts}
use Rattle.std.proofs.lemmas.Slice.Eq.{bytes_eq-Decides}
use Rattle.command_parts.specs.Commands.{◌>>=◌}
use Rattle.edit_script.specs.declared.fault.LineFault.{LineFault}
use Rattle.edit_script.specs.Words.{Word, Name, Number, Quoted, HasWords, behind_blanks}
use Rattle.edit_script.specs.Commands.{IsLine, Shape, shape_in, shape_of, shapes}
use Rattle.edit_script.specs.Reading.{IsReadAs, again_at, behind_front, front_word, is_comment, words_at}
use Rattle.edit_script.proofs.Choices.{bind_some, chosen}
use Rattle.edit_script.proofs.Laws.{comment_again, named_again, named_back}
use Rattle.session_server.specs.declared.question.Question.{Question}
use Rattle.session_server.specs.Questions.{AsksBy, IsQuestion, asked_words, question_at, question_shapes}

pub is_found : (line room : List ℕ) (r : Result Question LineFault) → IsReadAs (asked_words room) r (question_at line)
    → IfOk r (λ q. AsksBy line (asked_words room q))
is_found line room (Ok q) read =
    let h = named_back question_shapes line (asked_words room q) read in
    record { known = h.0; stand = h.1 }
is_found line room (Err e) read = tt

question_again : (line : List ℕ) (words : List Word) → IsQuestion words → HasWords line words
    → (is_comment (behind_blanks line) ≡ false) × (question_at line ≡ Some words)
question_again line words known stands = named_again question_shapes line words refl known stands

pub is_only : (line room : List ℕ) (r : Result Question LineFault) → IsReadAs (asked_words room) r (question_at line)
    → (words : List Word) → IsQuestion words → HasWords line words → IsReadAs (asked_words room) r (Some words)
is_only line room r read words known stands =
    subst (λ (o : Option (List Word)). IsReadAs (asked_words room) r o) (question_again line words known stands).1 read

-- ---- names of questions are none of commands

abbrev none_named : List (List ℕ × Shape) → Bool
none_named table = list_all (λ (x : List ℕ × Shape). is_none (shape_of x.0)) table

none_is : {A : Type 0} (o : Option A) → is_none o ≡ true → o ≡ None
none_is None h = refl
none_is (Some x) h = absurd cc

other_name : (table : List (List ℕ × Shape)) (name : List ℕ) (shape : Shape) → none_named table ≡ true → shape_in table name ≡ Some shape
    → shape_of name ≡ None
other_name [] name shape h e = absurd cc
other_name (x ∷ table) name shape h e =
    let p = and_parts (is_none (shape_of x.0)) (none_named table) h in
    elim (chosen (bytes_eq name x.0) (Some x.1) (shape_in table name) (Some shape) e) [
      | inl q ↦ subst (λ (n : List ℕ). shape_of n ≡ None) (sym ((bytes_eq-Decides name x.0).0 q.0)) (none_is (shape_of x.0) p.0)
      | inr q ↦ other_name table name shape p.1 q.1
    ]

-- the name that a line begins with, where a table's words stand in it
named : (table : List (List ℕ × Shape)) (line : List ℕ) (words : List Word)
    → (shape_in table (front_word (behind_blanks line)) >>= λ shape. words_at (again_at shape.again) shape.once (behind_front (behind_blanks line)) >>= λ ws. Some (Name (front_word (behind_blanks line)) ∷ ws)) ≡ Some words
    → (shape : Shape) × (shape_in table (front_word (behind_blanks line)) ≡ Some shape)
named table line words e =
    let t = behind_blanks line in
    let s = bind_some (shape_in table (front_word t)) (λ shape. words_at (again_at shape.again) shape.once (behind_front t) >>= λ ws. Some (Name (front_word t) ∷ ws)) words e in
    (s.0, s.1)

pub never_both : (line : List ℕ) (words asked : List Word) → IsLine words → HasWords line words → IsQuestion asked → HasWords line asked → ⊥
never_both line [] asked known stands q h =
    let comment = comment_again (behind_blanks line) stands in
    let none = (question_again line asked q h).0 in
    absurd cc
never_both line (Number n ∷ words) asked known stands q h = absurd cc
never_both line (Quoted b ∷ words) asked known stands q h = absurd cc
never_both line (Name name ∷ words) asked known stands q h =
    let command = named shapes line (Name name ∷ words) (named_again shapes line (Name name ∷ words) refl known stands).1 in
    let question = named question_shapes line asked (question_again line asked q h).1 in
    let other = other_name question_shapes (front_word (behind_blanks line)) question.0 refl question.1 in
    absurd cc
