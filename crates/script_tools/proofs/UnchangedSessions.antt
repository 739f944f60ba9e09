-- A session that takes a script without a command is as it was.
use Rattle.std.proofs.Common.{◌≡◌, ℕ, ◌+◌, List, [], ◌∷◌, ◌++◌, length, map, Result, Ok, Err, refl, sym, ap, ◌∙◌, inl, inr, arith}
use Rattle.std.proofs.lemmas.List.{append-nil, length-append, length-map}
use Rattle.edit_commands.specs.declared.revision.Revision as Kept
use Rattle.edit_commands.specs.Session.{SessionValue, command_of, commands_of}
use Rattle.edit_script.specs.declared.fault.Stopped.{Stopped}
use Rattle.edit_script.specs.Commands.{words_of}
use Rattle.edit_script.specs.Applied.{TakesLines, lines_of}
use Rattle.edit_script.specs.Scripts.{ReadsScript, words_held}
use Rattle.image_reader.specs.declared.revision.Revision.{Revision}
use Rattle.image_reader.specs.Value.{ImageValue}
use Rattle.session_checker.specs.Faithful.{commands}
use Rattle.session_image.specs.Written.{AreAsMade, image_of}
use Rattle.saved_session.specs.GoneFurther.{GoesFurther}
use Rattle.script_tools.specs.Onto.{IsMadeOnto}
use Rattle.script_tools.proofs.FurtherLines.{lines_go_further}

more_revisions : {old new : SessionValue} (x : GoesFurther old new) → length new.revisions ≡ length old.revisions + length x.more
more_revisions {old} x = ap length x.revisions ∙ length-append old.revisions x.more

-- each command makes a revision: without one more there was none
unchanged : (old : SessionValue) (k : ℕ) (lines : List (List ℕ)) (result : Result (Unit {0}) Stopped) (new : SessionValue)
    → result ≡ Ok tt → TakesLines old k lines result new → length new.revisions ≡ length old.revisions → new ≡ old
unchanged old k [] result new ok t same = t.1
unchanged old k (line ∷ lines) result new ok (inr t) same = let no : Ok tt ≡ Err (record { line = k + 1; why = t.0 }) = sym ok ∙ t.2 in absurd cc
unchanged old k (line ∷ lines) result new ok (inl (mid, inl blank, rest)) same =
    let count : length new.revisions ≡ length mid.revisions = same ∙ ap (λ (v : SessionValue). length v.revisions) (sym blank.1) in
    unchanged mid (k + 1) lines result new ok rest count ∙ blank.1
unchanged old k (line ∷ lines) result new ok (inl (mid, inr t, rest)) same =
    let made = t.3.applies in
    let one : length mid.revisions ≡ length old.revisions + 1 = ap length made.revisions ∙ length-append old.revisions (made.made ∷ []) in
    let others = more_revisions (lines_go_further mid (k + 1) lines result new ok rest) in
    absurd (omega (arith, same, one, others))

-- it says as many commands as the image has
as_many : (v : ImageValue) (made : SessionValue) (script : List ℕ) → IsMadeOnto v script made → ReadsScript (lines_of script) [] → length made.revisions ≡ length v.revisions
as_many v made script m reads =
    let said : words_held made ≡ map (words_of v.pool) (commands v) ++ [] = (m.says [] reads).0 in
    sym (length-map (commands_of made.revisions) (words_of made.held.pool.bytes) ∙ length-map made.revisions command_of)
    ∙ ap length (said ∙ append-nil (map (words_of v.pool) (commands v)))
    ∙ length-map (commands v) (words_of v.pool)
    ∙ length-map v.revisions _

pub image_again : (x made : SessionValue) (script : List ℕ) → AreAsMade (image_of x) → IsMadeOnto (image_of x) script made
    → ReadsScript (lines_of script) [] → image_of made ≡ image_of x
image_again x made script as_made m reads =
    let v = image_of x in
    let begun_as_many : length v.revisions ≡ length m.begun.revisions =
    sym (length-map v.revisions (λ (r : Revision). r.edit)) ∙ sym (ap length m.from_image.takes.edits)
    ∙ length-map m.begun.revisions (λ (r : Kept.Revision). r.edit) in
    let same : made ≡ m.begun = unchanged m.begun 0 (lines_of script) (Ok tt) made refl m.takes (as_many v made script m reads ∙ begun_as_many) in
    ap image_of same ∙ m.from_image.takes.as_made as_made
