-- A script that is read is stopped at no line for want of a command.
use Rattle.std.proofs.Common.{◌≡◌, ◌≢◌, ℕ, ◌+◌, List, [], ◌∷◌, Result, Ok, Err, refl, sym, ap, subst, ◌∙◌, inl, inr}
use Rattle.edit_commands.specs.Session.{SessionValue}
use Rattle.edit_script.specs.declared.fault.Stop.{Stop}
use Rattle.edit_script.specs.declared.fault.Stop.TheVariants.{NoCommand, Refused, Memory}
use Rattle.edit_script.specs.declared.fault.Stopped.{Stopped}
use Rattle.edit_script.specs.Words.{Word, HasWords}
use Rattle.edit_script.specs.Commands.{IsLine}
use Rattle.edit_script.specs.Applied.{StopsLine, TakesLines}
use Rattle.edit_script.specs.Scripts.{ReadsScript}

-- the words of a script's first line
first_words : (line : List ℕ) (lines : List (List ℕ)) (commands : List (List Word)) → ReadsScript (line ∷ lines) commands → (ws : List Word) × IsLine ws × HasWords line ws
first_words line lines commands (inl (blank, rest)) = ([], refl, blank)
first_words line lines commands (inr (others, first, rest)) = (first.first, first.known, first.words)

-- the commands of the others
later_commands : (line : List ℕ) (lines : List (List ℕ)) (commands : List (List Word)) → ReadsScript (line ∷ lines) commands → (others : List (List Word)) × ReadsScript lines others
later_commands line lines commands (inl (blank, rest)) = (commands, rest)
later_commands line lines commands (inr (others, first, rest)) = (others, rest)

stops_read : (old : SessionValue) (line : List ℕ) (why : Stop) (new : SessionValue) (ws : List Word) → IsLine ws → HasWords line ws → StopsLine old line why new → why ≢ NoCommand
stops_read old line NoCommand new ws known words stops = absurd (stops.1 ws known words)
stops_read old line (Refused fault) new ws known words stops = λ e. absurd cc
stops_read old line Memory new ws known words stops = λ e. absurd cc

abbrev why_of : Result (Unit {0}) Stopped → Stop
why_of (Ok u) = NoCommand
why_of (Err at) = at.why

pub never_unread : (old : SessionValue) (k : ℕ) (lines : List (List ℕ)) (commands : List (List Word)) (at : Stopped) (new : SessionValue) (result : Result (Unit {0}) Stopped)
    → result ≡ Err at → ReadsScript lines commands → TakesLines old k lines result new → at.why ≢ NoCommand
never_unread old k [] commands at new result is reads t = let no : Ok tt ≡ Err at = sym t.0 ∙ is in absurd cc
never_unread old k (line ∷ lines) commands at new result is reads (inl (mid, takes, rest)) =
    let later = later_commands line lines commands reads in
    never_unread mid (k + 1) lines later.0 at new result is later.1 rest
never_unread old k (line ∷ lines) commands at new result is reads (inr (why, stops, stopped)) =
    let first = first_words line lines commands reads in
    let same : at.why ≡ why = ap why_of (sym is ∙ stopped) in
    subst (λ (w : Stop). w ≢ NoCommand) (sym same) (stops_read old line why new first.0 first.1 first.2 stops)
