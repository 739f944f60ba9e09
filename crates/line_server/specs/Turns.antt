-- What one line does.
use Rattle.std.specs.Prelude.{◌≡◌, ◌≢◌, ℕ, Bool, true, false, List, [], ◌∷◌, ◌++◌, Option, Some, None, Result, Ok, Err, IfSome}
use Rattle.std.specs.List.{All}
use Rattle.std.specs.Io.KnownBytes.{Appends, Consumes, IsAtEnd}
use Rattle.line_server.specs.declared.fault.End.{End}
use Rattle.line_server.specs.declared.fault.End.TheVariants.{Asked, Input}
use Rattle.line_server.specs.declared.fault.ServeFault.{ServeFault}
use Rattle.line_server.specs.declared.fault.ServeFault.TheVariants.{Read, Memory}
use Rattle.line_server.specs.declared.taking.Next.{Next}
use Rattle.line_server.specs.declared.taking.Next.TheVariants as N

-- what a line does: a value, the line, whether it is kept, its answer, and the value behind
abbrev pub Step : Type 0 → Type 1
Step T = T → List ℕ → Bool → List ℕ → T → Type 0

-- known bytes are read to their end
abbrev pub EndsThere : Option (List ℕ) → Option (List ℕ) → Type 0
EndsThere before left = IfSome before (λ _. IsAtEnd left)

-- a line is kept or not, and answered; or it ends the run, and changes nothing
abbrev pub TakesNext : {T : Type 0} → Step T → (List ℕ → Type 0) → T → List ℕ → Next → List ℕ → T → Type 0
TakesNext step ends old line N.Keep answer new = step old line true answer new
TakesNext step ends old line N.Answer answer new = step old line false answer new
TakesNext step ends old line N.End answer new = ends line × (new ≡ old)

-- whether a line is kept, where it does not end the run
abbrev pub TakesOrEnds : {T : Type 0} → Step T → (List ℕ → Type 0) → T → List ℕ → Option Bool → List ℕ → T → Type 0
TakesOrEnds step ends old line None answer new = ends line × (new ≡ old)
TakesOrEnds step ends old line (Some kept) answer new = step old line kept answer new

-- no line ends in it
abbrev pub HasNoEnd : List ℕ → Type 0
HasNoEnd text = All (λ b. b ≢ 10) text

-- a line with its end
abbrev pub ended : List ℕ → List ℕ
ended line = line ++ 10 ∷ []

-- what is kept of a line
abbrev pub kept_line : Bool → List ℕ → List ℕ
kept_line true line = ended line
kept_line false line = []

-- what is known of the three streams of a run: what is left of the requests, the journal, the answers
pub record ServeStreams : Type 0 where
  pub requests : Option (List ℕ)
  pub journal : Option (List ℕ)
  pub answers : Option (List ℕ)

abbrev pub streams : Option (List ℕ) → Option (List ℕ) → Option (List ℕ) → ServeStreams
streams requests journal answers = record { requests = requests; journal = journal; answers = answers }

-- these bytes are read, kept and told
pub record Pass (old new : ServeStreams) (read kept told : List ℕ) : Type 0 where
  pub requests : Consumes old.requests new.requests read
  pub journal : Appends old.journal new.journal kept
  pub answers : Appends old.answers new.answers told

-- a line that was taken, whether it is kept, and its answer
pub record Turn {T : Type 0} (step : Step T) (old new : T) : Type 0 where
  pub line : List ℕ
  pub kept : Bool
  pub answer : List ℕ
  pub one : HasNoEnd line
  pub takes : step old line kept answer new

-- What a turn comes to, where these bytes are to be kept and these to be told already: a line is taken, and so are what
-- is kept of it and its answer put behind them; or there is none, or it ends the run; or it is not read or taken whole.
abbrev pub IsLineTurn : {T : Type 0} → Step T → (List ℕ → Type 0) → T → Option (List ℕ) → List ℕ → List ℕ
    → Result (Option End) ServeFault → T → Option (List ℕ) → List ℕ → List ℕ → Type 0
IsLineTurn step ends old from kept told (Ok None) new left kept' told' =
    (t : Turn step old new) × Consumes from left (ended t.line)
    × (kept' ≡ kept ++ kept_line t.kept t.line) × (told' ≡ told ++ ended t.answer)
IsLineTurn step ends old from kept told (Ok (Some Input)) new left kept' told' =
    (rest : List ℕ) × HasNoEnd rest × Consumes from left rest × EndsThere from left × (new ≡ old) × (kept' ≡ kept) × (told' ≡ told)
IsLineTurn step ends old from kept told (Ok (Some Asked)) new left kept' told' =
    (line : List ℕ) × ends line × Consumes from left (ended line) × (new ≡ old) × (kept' ≡ kept) × (told' ≡ told)
IsLineTurn step ends old from kept told (Err Read) new left kept' told' =
    (rest : List ℕ) × Consumes from left rest × (new ≡ old) × (kept' ≡ kept) × (told' ≡ told)
IsLineTurn step ends old from kept told (Err Memory) new left kept' told' =
    (rest : List ℕ) × Consumes from left rest × (kept' ≡ kept) × (told' ≡ told)
IsLineTurn step ends old from kept told (Err _) new left kept' told' = ⊥
