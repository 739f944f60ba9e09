-- A run of a value that has a session, as one of its session.
use Rattle.std.proofs.Common.{ℕ, List, [], ◌∷◌, Result, Ok, Err, ap}
use Rattle.line_server.specs.declared.fault.End.{End}
use Rattle.line_server.specs.declared.fault.End.TheVariants.{Asked, Input}
use Rattle.line_server.specs.declared.fault.ServeFault.{ServeFault}
use Rattle.line_server.specs.declared.fault.ServeFault.TheVariants as Fault
use Rattle.line_server.specs.Turns.{Step, ServeStreams}
use Rattle.line_server.specs.Batches.{Serves}
use Rattle.line_server.specs.Runs.{IsServed, Serving, Untold}

module _ {T S : Type 0} (view : T → S) (step : Step S) where
  abbrev pub Seen : Step T
  Seen old line kept answer new = step (view old) line kept answer (view new)

  serves_seen : (old new : T) (lines : List (List ℕ)) (kept told : List ℕ) → Serves Seen old lines kept told new → Serves step (view old) lines kept told (view new)
  serves_seen old new [] kept told h = (h.0, h.1, ap view h.2)
  serves_seen old new (line ∷ lines) kept told h =
      (view h.0, h.1, h.2, h.3, h.4, h.5, h.6, serves_seen h.0 new lines h.3 h.4 h.7, h.8, h.9)

  serving_seen : (old new : T) (a b : ServeStreams) (r k t : List ℕ) → Serving Seen old new a b r k t → Serving step (view old) (view new) a b r k t
  serving_seen old new a b r k t s = record {
    lines = s.lines;
    their_kept = s.their_kept;
    their_told = s.their_told;
    served = serves_seen old new s.lines s.their_kept s.their_told s.served;
    pass = s.pass;
  }

  abbrev untold_seen : (old : T) → Untold Seen old → Untold step (view old)
  untold_seen old u = record { new = view u.new; lines = u.lines; kept = u.kept; told = u.told; served = serves_seen old u.new u.lines u.kept u.told u.served }

  pub run_seen : (ends : List ℕ → Type 0) (old new : T) (a b : ServeStreams) (r : Result End ServeFault)
      → IsServed Seen ends old a r new b → IsServed step ends (view old) a r (view new) b
  run_seen ends old new a b (Ok Input) h = (h.0, h.1, h.2, serving_seen old new a b h.0 [] [] h.3)
  run_seen ends old new a b (Ok Asked) h = (h.0, h.1, serving_seen old new a b _ [] [] h.2)
  run_seen ends old new a b (Err Fault.Read) h = (h.0, serving_seen old new a b h.0 [] [] h.1)
  run_seen ends old new a b (Err Fault.Memory) h = (view h.0, h.1, serving_seen old h.0 a b h.1 [] [] h.2)
  run_seen ends old new a b (Err Fault.Keep) h = (view h.0, untold_seen h.0 h.1, h.2, h.3, serving_seen old h.0 a b _ _ [] h.4)
  run_seen ends old new a b (Err Fault.Write) h = (view h.0, untold_seen h.0 h.1, h.2, h.3, serving_seen old h.0 a b _ _ _ h.4)
