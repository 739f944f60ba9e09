-- What becomes of lines that are in hand together.
use Rattle.std.specs.Prelude.{◌≡◌, ℕ, Bool, List, [], ◌∷◌, ◌++◌, Option, Some, None, Result, Ok, Err}
use Rattle.std.specs.Io.KnownBytes.{Appends, Consumes, Keeps}
use Rattle.byte_output.specs.Prefix.{AppendsPrefix}
use Rattle.line_server.specs.declared.fault.End.{End}
use Rattle.line_server.specs.declared.fault.End.TheVariants.{Asked, Input}
use Rattle.line_server.specs.declared.fault.ServeFault.{ServeFault}
use Rattle.line_server.specs.declared.fault.ServeFault.TheVariants.{Read, Keep, Write, Memory}
use Rattle.line_server.specs.Turns.{EndsThere, HasNoEnd, Step, ended, kept_line}

-- the lines of a text, each with its end
abbrev pub ended_all : List (List ℕ) → List ℕ
ended_all [] = []
ended_all (line ∷ lines) = ended line ++ ended_all lines

-- lines are taken one after the other: what is kept of them, and what they are answered
abbrev pub Serves : {T : Type 0} → Step T → T → List (List ℕ) → List ℕ → List ℕ → T → Type 0
Serves step old [] kept told new = (kept ≡ []) × (told ≡ []) × (new ≡ old)
Serves step old (line ∷ lines) kept told new =
    (mid : _) × (is_kept : Bool) × (answer ks ts : List ℕ) × HasNoEnd line × step old line is_kept answer mid
    × Serves step mid lines ks ts new × (kept ≡ kept_line is_kept line ++ ks) × (told ≡ ended answer ++ ts)

-- lines that were read and taken, what is to be kept of them and to be told of them, and what was read behind them
pub record Batch {T : Type 0} (step : Step T) (old new : T) (from left : Option (List ℕ)) (rest kept told : List ℕ) : Type 0 where
  pub lines : List (List ℕ)
  pub served : Serves step old lines kept told new
  pub read : Consumes from left (ended_all lines ++ rest)

-- how the reading of a batch ends: by lines that are not in hand, by the end of the input, by a line that ends the run,
-- or by a line that is not read or not taken whole
abbrev pub IsBatch : {T : Type 0} → Step T → (List ℕ → Type 0) → T → Option (List ℕ) → Result (Option End) ServeFault → T
    → Option (List ℕ) → List ℕ → List ℕ → Type 0
IsBatch step ends old from (Ok None) new left kept told = Batch step old new from left [] kept told
IsBatch step ends old from (Ok (Some Input)) new left kept told =
    (rest : List ℕ) × HasNoEnd rest × EndsThere from left × Batch step old new from left rest kept told
IsBatch step ends old from (Ok (Some Asked)) new left kept told =
    (line : List ℕ) × ends line × Batch step old new from left (ended line) kept told
IsBatch step ends old from (Err Read) new left kept told = (rest : List ℕ) × Batch step old new from left rest kept told
IsBatch step ends old from (Err Memory) new left kept told =
    (last : _) × (rest : List ℕ) × Batch step old last from left rest kept told
IsBatch step ends old from (Err _) new left kept told = ⊥

-- bytes are kept, and then others are told; or which of both failed
abbrev pub Tells : Option (List ℕ) → Option (List ℕ) → Option (List ℕ) → Option (List ℕ) → List ℕ → List ℕ
    → Result (Unit {0}) ServeFault → Type 0
Tells j j' w w' kept told (Ok _) = Appends j j' kept × Appends w w' told
Tells j j' w w' kept told (Err Keep) = AppendsPrefix j j' kept × Keeps w w'
Tells j j' w w' kept told (Err Write) = Appends j j' kept × AppendsPrefix w w' told
Tells j j' w w' kept told (Err _) = ⊥
