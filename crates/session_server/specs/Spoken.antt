-- What a line does to a session with sources: a command or a question.
use Rattle.std.specs.Prelude.{◌≡◌, ◌⊎◌, ℕ, Bool, false, List, codes}
use Rattle.lazy_file.specs.Readings.{Reading}
use Rattle.edit_commands.specs.Session.{SessionValue}
use Rattle.session_server.specs.declared.question.Question.{Question}
use Rattle.session_server.specs.declared.question.Question.TheVariants.{Sync, Save, Quit}
use Rattle.session_server.specs.Outcomes.{ServesLine}
use Rattle.session_server.specs.Questions.{AsksBy, AsksNothing, asked_words}
use Rattle.session_server.specs.Answers.{IsAnswer}

-- a session, and what is known of its sources
pub record Spoken : Type 0 where
  pub session : SessionValue
  pub reading : Reading

-- the questions at which a run hands back
abbrev pub IsLeave : Question → Type 0
IsLeave Sync = Unit {0}
IsLeave Save = Unit {0}
IsLeave Quit = Unit {0}
IsLeave other = ⊥

abbrev pub IsLeaving : List ℕ → Type 0
IsLeaving line = (pattern : List ℕ) × (question : Question) × AsksBy line (asked_words pattern question) × IsLeave question

-- a line that asks for nothing, as a line of a script; no source is read
pub record SaysLine (old : Spoken) (line : List ℕ) (kept : Bool) (answer : List ℕ) (new : Spoken) : Type 0 where
  pub asks_nothing : AsksNothing line
  pub serves : ServesLine old.session line kept answer new.session
  pub unread : new.reading ≡ old.reading

-- a question, which changes no revision
pub record AsksLine (old : Spoken) (line : List ℕ) (kept : Bool) (answer : List ℕ) (new : Spoken) : Type 0 where
  pub pattern : List ℕ
  pub question : Question
  pub asked : AsksBy line (asked_words pattern question)
  pub answers : IsAnswer old.session old.reading pattern question answer new.reading
  pub not_kept : kept ≡ false
  pub same : new.session ≡ old.session

-- memory was refused to what a line asks by
pub record LacksRoom (old : Spoken) (kept : Bool) (answer : List ℕ) (new : Spoken) : Type 0 where
  pub told : answer ≡ codes "refused memory"
  pub not_kept : kept ≡ false
  pub same : new ≡ old

-- what a line does, whether it is kept, and its answer
abbrev pub Speaks : Spoken → List ℕ → Bool → List ℕ → Spoken → Type 0
Speaks old line kept answer new =
    SaysLine old line kept answer new ⊎ (AsksLine old line kept answer new ⊎ LacksRoom old kept answer new)
