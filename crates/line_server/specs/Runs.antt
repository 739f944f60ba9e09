-- What a run does: batches, one after the other, and how it ends.
use Rattle.std.specs.Prelude.{ℕ, List, [], ◌++◌, take, Option, Some, None, Result, Ok, Err}
use Rattle.line_server.specs.declared.fault.End.{End}
use Rattle.line_server.specs.declared.fault.End.TheVariants.{Asked, Input}
use Rattle.line_server.specs.declared.fault.ServeFault.{ServeFault}
use Rattle.line_server.specs.declared.fault.ServeFault.TheVariants.{Read, Keep, Write, Memory}
use Rattle.line_server.specs.Turns.{EndsThere, HasNoEnd, Pass, Step, ServeStreams, ended}
use Rattle.line_server.specs.Batches.{Serves, ended_all}

-- lines were served, and then so many bytes more were read, kept and told
pub record Serving {T : Type 0} (step : Step T) (old new : T) (before now : ServeStreams) (read kept told : List ℕ) : Type 0 where
  pub lines : List (List ℕ)
  pub their_kept : List ℕ
  pub their_told : List ℕ
  pub served : Serves step old lines their_kept their_told new
  pub pass : Pass before now (ended_all lines ++ read) (their_kept ++ kept) (their_told ++ told)

-- lines that were taken and are not told to their end: what is kept of them, and their answers
pub record Untold {T : Type 0} (step : Step T) (old : T) : Type 0 where
  pub new : T
  pub lines : List (List ℕ)
  pub kept : List ℕ
  pub told : List ℕ
  pub served : Serves step old lines kept told new

-- What a run comes to. All lines are kept and answered but those that were in hand together when a write failed. Of these
-- a beginning is in the journal, and nothing is told; or they are all in the journal, and a beginning of their answers is told.
abbrev pub IsServed : {T : Type 0} → Step T → (List ℕ → Type 0) → T → ServeStreams → Result End ServeFault → T → ServeStreams → Type 0
IsServed step ends old before (Ok Input) new now =
    (rest : List ℕ) × HasNoEnd rest × EndsThere before.requests now.requests × Serving step old new before now rest [] []
IsServed step ends old before (Ok Asked) new now =
    (line : List ℕ) × ends line × Serving step old new before now (ended line) [] []
IsServed step ends old before (Err Read) new now = (rest : List ℕ) × Serving step old new before now rest [] []
IsServed step ends old before (Err Memory) new now = (last : _) × (rest : List ℕ) × Serving step old last before now rest [] []
IsServed step ends old before (Err Keep) new now =
    (last : _) × (u : Untold step last) × (rest : List ℕ) × (m : ℕ)
    × Serving step old last before now (ended_all u.lines ++ rest) (take m u.kept) []
IsServed step ends old before (Err Write) new now =
    (last : _) × (u : Untold step last) × (rest : List ℕ) × (m : ℕ)
    × Serving step old last before now (ended_all u.lines ++ rest) u.kept (take m u.told)

-- what one batch comes to: the run goes on behind it, or ends
abbrev pub RunsOn : {T : Type 0} → Step T → (List ℕ → Type 0) → T → ServeStreams → Result (Option End) ServeFault → T → ServeStreams → Type 0
RunsOn step ends old before (Ok None) new now = Serving step old new before now [] [] []
RunsOn step ends old before (Ok (Some end)) new now = IsServed step ends old before (Ok end) new now
RunsOn step ends old before (Err fault) new now = IsServed step ends old before (Err fault) new now
