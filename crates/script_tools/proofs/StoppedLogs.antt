-- The log of an accepted image is stopped at a limit alone.
use Rattle.std.proofs.Common.{◌≡◌, ℕ, ◌+◌, ◌<◌, List, [], ◌∷◌, ◌++◌, length, map, take, Result, Ok, Err, refl, sym, ap, subst, ◌∙◌, append_assoc, arith, inl, inr}
use Rattle.std.specs.Prelude.{get_or}
use Rattle.std.proofs.lemmas.List.{length-append, length-map, take_at, get_or_at, get_or-map}
use Rattle.command_parts.specs.Commands.{FullEdit, New, full_edit}
use Rattle.edit_commands.specs.declared.fault.EditFault.{EditFault}
use Rattle.edit_commands.specs.Applying.{AppliesOrNot}
use Rattle.edit_commands.specs.Session.{SessionValue, IsSession, command_of, commands_of, new_session}
use Rattle.edit_commands.specs.Building.{command_with}
use Rattle.edit_commands.specs.declared.command.Command.{Command}
use Rattle.edit_script.specs.declared.fault.Stop.{Stop}
use Rattle.edit_script.specs.declared.fault.Stop.TheVariants.{NoCommand, Refused, Memory}
use Rattle.edit_script.specs.declared.fault.Stopped.{Stopped}
use Rattle.edit_script.specs.Words.{Word}
use Rattle.edit_script.specs.Commands.{words_of}
use Rattle.edit_script.specs.Applied.{RefusesWords, StopsLine, TakesLine, TakesLines}
use Rattle.edit_script.specs.Scripts.{AreInside, SaysEach, SaysFirst, words_held}
use Rattle.edit_script.specs.Handed.{bytes_handed, places_handed}
use Rattle.edit_script.proofs.Laws.{one_command}
use Rattle.edit_script.proofs.Sessions.{says_script}
use Rattle.image_reader.specs.declared.revision.Revision.{Revision}
use Rattle.image_reader.specs.Value.{ImageValue}
use Rattle.image_reader.specs.Accepted.{command_at, no_revision}
use Rattle.session_checker.specs.Faithful.{commands}
use Rattle.script_tools.specs.Refused.{IsNextOf, MeetsLimit, StopsAtLimit}
use Rattle.script_tools.proofs.LoggedScripts.{some_words}
use Rattle.script_tools.proofs.FurtherLines.{lines_go_further}
use Rattle.script_tools.proofs.NextCommands.{unchanged_or_met}

-- what a session says that took the first k lines of an image's log, and what is left of that
pub record IsBefore (w : ImageValue) (v : SessionValue) (k : ℕ) (left : List (List Word)) : Type 0 where
  pub inside : AreInside v
  pub sources : v.held.sources ≡ w.sources
  pub many : length (words_held v) ≡ k
  pub words : words_held v ++ left ≡ map (words_of w.pool) (commands w)

-- a line that is taken
line_taken : (w : ImageValue) (old : SessionValue) (k : ℕ) (line : List ℕ) (mid : SessionValue) (ws : List Word) (left : List (List Word))
    → TakesLine old line mid → SaysFirst line (ws ∷ left) left → IsBefore w old k (ws ∷ left) → IsBefore w mid (k + 1) left
line_taken w old k line mid ws left takes says before =
    let lines : TakesLines old k (line ∷ []) (Ok tt) mid = inl (mid, takes, (refl, refl)) in
    let one : SaysFirst line (says.first ∷ []) [] = record { first = says.first; some = says.some; known = says.known; words = says.words; all = refl } in
    let grows = says_script old k (line ∷ []) (Ok tt) mid (says.first ∷ []) before.inside refl lines (inr ([], one, refl)) in
    record {
      inside = grows.1;
      sources = (lines_go_further old k (line ∷ []) (Ok tt) mid refl lines).keeps.goes_on.sources ∙ before.sources;
      many = ap length grows.0 ∙ length-append (words_held old) (says.first ∷ []) ∙ omega (arith, before.many);
      words = ap (λ (vs : List (List Word)). vs ++ left) grows.0 ∙ append_assoc (words_held old) (says.first ∷ []) left
          ∙ ap (λ (vs : List (List Word)). words_held old ++ vs) (sym says.all) ∙ before.words;
    }

-- what is said of each next command of the image
abbrev pub NextMeets : ImageValue → Type 0
NextMeets w =
    (v after : SessionValue) (command : Command) (fault : EditFault) → IsNextOf w v command → AppliesOrNot v command (Err fault) after
    → MeetsLimit (command_at w (length v.revisions)) fault

-- a command of the log that is refused
command_stops : (w : ImageValue) → NextMeets w → (old new : SessionValue) (ws : List Word) (left : List (List Word)) (k : ℕ) (fault : EditFault)
    → IsSession new → IsBefore w old k (ws ∷ left) → RefusesWords old ws fault new → StopsAtLimit w (k + 1) (Refused fault)
command_stops w meets old new ws left k fault session before refuses =
    let n = length old.revisions in
    let said = words_held old in
    let many : length said ≡ n = length-map (commands_of old.revisions) (words_of old.held.pool.bytes) ∙ length-map old.revisions command_of in
    let all = map (words_of w.pool) (commands w) in
    let command_of_revision : Revision → FullEdit = λ (r : Revision). full_edit w.splices r.edit in
    let as_many : length all ≡ length w.revisions = length-map (commands w) (words_of w.pool) ∙ length-map w.revisions command_of_revision in
    let there : n < length w.revisions = omega (arith, many, as_many, ap length before.words, length-append said (ws ∷ left)) in
    let there' : n < length (commands w) = omega (arith, there, length-map w.revisions command_of_revision) in
    let here : get_or all n [] ≡ ws = ap (λ (xs : List (List Word)). get_or xs n []) (sym before.words) ∙ get_or_at said ws left [] n many in
    let words : ws ≡ words_of w.pool (command_at w n) =
    sym here ∙ get_or-map (words_of w.pool) (commands w) n New [] there' ∙ ap (words_of w.pool) (get_or-map command_of_revision w.revisions n no_revision New there) in
    let earlier : said ≡ take n all = sym (take_at said (ws ∷ left) n many) ∙ ap (take n) before.words in
    let next : IsSession old → IsNextOf w old refuses.command = λ is. record {
      session = is;
      sources = before.sources;
      inside = before.inside;
      earlier = earlier;
      there = there;
      takes = refuses.takes;
      words = refuses.words ∙ words;
    } in
    let meets_limit : MeetsLimit (command_at w n) fault =
    elim (unchanged_or_met old new refuses.command fault refuses.refused) [
      | inl same ↦ meets old new refuses.command fault (next (subst IsSession same session)) refuses.refused
      | inr met ↦ met (command_at w n)
    ] in
    let line : k + 1 ≡ n + 1 = omega (arith, many, before.many) in
    (n, line, there, meets_limit)

-- a line that stops the log
line_stops : (w : ImageValue) → NextMeets w → (old new : SessionValue) (k : ℕ) (line : List ℕ) (lines : List (List ℕ)) (left : List (List Word)) (why : Stop)
    → IsSession new → IsBefore w old k left → SaysEach (line ∷ lines) left → StopsLine old line why new → StopsAtLimit w (k + 1) why
line_stops w meets old new k line lines left Memory session before says stops = tt
line_stops w meets old new k line lines [] NoCommand session before says stops = absurd (stops.1 [] refl says.0)
line_stops w meets old new k line lines (ws ∷ left) NoCommand session before says stops = absurd (stops.1 says.0.first says.0.known says.0.words)
line_stops w meets old new k line lines [] (Refused fault) session before says (no_memory, (vs, known, has, refuses)) =
    let none : vs ≡ [] = one_command line vs [] known refl has says.0 in
    let command = refuses.command in
    absurd (omega (arith, some_words (bytes_handed command) (command_with (places_handed command) command), ap length refuses.words, ap length none))
line_stops w meets old new k line lines (ws ∷ left) (Refused fault) session before says (no_memory, (vs, known, has, refuses)) =
    let first = says.0 in
    let same : vs ≡ first.first = one_command line vs first.first known first.known has first.words in
    let next : ws ∷ left ≡ vs ∷ left = first.all ∙ ap (λ (us : List Word). us ∷ left) (sym same) in
    command_stops w meets old new vs left k fault session (subst (IsBefore w old k) next before) refuses

-- the lines of the log, one after the other
pub log_stops : (w : ImageValue) → NextMeets w → (old : SessionValue) (k : ℕ) (lines : List (List ℕ)) (left : List (List Word)) (at : Stopped) (result : Result (Unit {0}) Stopped) (new : SessionValue)
    → result ≡ Err at → IsSession new → IsBefore w old k left → SaysEach lines left → TakesLines old k lines result new → StopsAtLimit w at.line at.why
log_stops w meets old k [] left at result new is session before says t = absurd says
log_stops w meets old k (line ∷ lines) left at result new is session before says (inr (why, stops, stopped)) =
    let same : record { line = k + 1; why = why } ≡ at = cc in
    subst (λ (s : Stopped). StopsAtLimit w s.line s.why) same (line_stops w meets old new k line lines left why session before says stops)
log_stops w meets old k (line ∷ lines) [] at result new is session before says (inl (mid, takes, later)) =
    let ended : TakesLines mid (k + 1) [] result new = subst (λ (ls : List (List ℕ)). TakesLines mid (k + 1) ls result new) says.1 later in
    let no : Ok tt ≡ Err at = sym ended.0 ∙ is in
    absurd cc
log_stops w meets old k (line ∷ lines) (ws ∷ left) at result new is session before says (inl (mid, takes, later)) =
    log_stops w meets mid (k + 1) lines left at result new is session (line_taken w old k line mid ws left takes says.0 before) says.1 later

-- a session without revisions has said nothing of it
pub first_line : (w : ImageValue) → IsBefore w (new_session w.sources) 0 (map (words_of w.pool) (commands w))
first_line w = record { inside = tt; sources = refl; many = refl; words = refl }
