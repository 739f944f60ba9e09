-- What a line that is no question comes to in a session, and what it is answered.
use Rattle.std.specs.Prelude.{◌≡◌, ℕ, Bool, true, false, List, [], ◌∷◌, ◌++◌, length, codes}
use Rattle.edit_commands.specs.Codes.{edit_fault_code}
use Rattle.edit_commands.specs.Session.{SessionValue, length_at}
use Rattle.edit_script.specs.declared.fault.Stop.{Stop}
use Rattle.edit_script.specs.declared.fault.Stop.TheVariants as S
use Rattle.edit_script.specs.Words.{Word, Number, HasWords, line_of}
use Rattle.edit_script.specs.Commands.{IsLine}
use Rattle.edit_script.specs.Applied.{StopsLine, TakesWords}
use Rattle.session_server.specs.declared.outcome.Outcome.{Outcome}
use Rattle.session_server.specs.declared.outcome.Outcome.TheVariants.{Made, Nothing, Stopped}

-- A line's command makes the next revision; or it has no words, and changes nothing; or it is not taken, as a script's.
abbrev pub ComesTo : SessionValue → List ℕ → Outcome → SessionValue → Type 0
ComesTo old line (Made k) new =
    (k ≡ length old.revisions) × ((ws : List Word) × IsLine ws × HasWords line ws × TakesWords old ws new)
ComesTo old line Nothing new = HasWords line [] × (new ≡ old)
ComesTo old line (Stopped why) new = StopsLine old line why new

-- a line that made a revision is kept
abbrev pub makes_revision : Outcome → Bool
makes_revision (Made k) = true
makes_revision other = false

-- why a line was not taken, as it is told
abbrev pub stop_code : Stop → List ℕ
stop_code S.NoCommand = codes "P"
stop_code (S.Refused fault) = edit_fault_code fault
stop_code S.Memory = codes "memory"

-- the number of the revision that was made, and how long its text is; or none; or why the line was not taken
abbrev pub outcome_answer : SessionValue → Outcome → List ℕ
outcome_answer new (Made k) = line_of (Number k ∷ Number (length_at new k) ∷ [])
outcome_answer new Nothing = codes "none"
outcome_answer new (Stopped why) = codes "refused " ++ stop_code why

-- what a line does to a session, whether it is kept, and its answer
abbrev pub ServesLine : SessionValue → List ℕ → Bool → List ℕ → SessionValue → Type 0
ServesLine old line kept answer new =
    (outcome : Outcome) × ComesTo old line outcome new × (kept ≡ makes_revision outcome) × (answer ≡ outcome_answer new outcome)
