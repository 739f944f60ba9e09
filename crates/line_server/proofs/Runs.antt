-- Batches, one after the other.
use Rattle.std.proofs.Common.{◌≡◌, ℕ, List, [], ◌++◌, take, Option, Some, None, Result, Ok, Err, refl, sym, ap, subst, ◌∙◌, append_assoc, append-nil}
use Rattle.std.specs.Io.KnownBytes.{Appends, Consumes, Keeps}
use Rattle.std.proofs.KnownBytes.{Appends-nil, Appends-trans, Consumes-nil, Consumes-trans}
use Rattle.line_server.specs.declared.fault.End.{End}
use Rattle.line_server.specs.declared.fault.End.TheVariants.{Asked, Input}
use Rattle.line_server.specs.declared.fault.ServeFault.{ServeFault}
use Rattle.line_server.specs.declared.fault.ServeFault.TheVariants as Fault
use Rattle.line_server.specs.Turns.{Pass, Step, ServeStreams, ended}
use Rattle.line_server.specs.Batches.{Batch, IsBatch, Tells, ended_all}
use Rattle.line_server.specs.Runs.{RunsOn, IsServed, Serving, Untold}
use Rattle.line_server.proofs.Batches.{ended_both, ends_before, serves_both}

-- ---- streams

pub appends_none : (a b : Option (List ℕ)) → Keeps a b → Appends a b []
appends_none None b h = tt
appends_none (Some xs) None h = absurd h
appends_none (Some xs) (Some ys) h = h ∙ sym (append-nil xs)

-- so many bytes more
pass_both : (a b c : ServeStreams) (x y z r k t : List ℕ) → Pass a b (x ++ []) (y ++ []) (z ++ []) → Pass b c r k t
    → Pass a c (x ++ r) (y ++ k) (z ++ t)
pass_both a b c x y z r k t p q = record {
  requests = Consumes-trans a.requests b.requests c.requests x r
      (subst (Consumes a.requests b.requests) (append-nil x) p.requests) q.requests;
  journal = Appends-trans a.journal b.journal c.journal y k
      (subst (Appends a.journal b.journal) (append-nil y) p.journal) q.journal;
  answers = Appends-trans a.answers b.answers c.answers z t
      (subst (Appends a.answers b.answers) (append-nil z) p.answers) q.answers;
}

-- ---- a batch, told

pub serving_none : {T : Type 0} (step : Step T) (old : T) (a : ServeStreams) → Serving step old old a a [] [] []
serving_none step old a = record {
  lines = [];
  their_kept = [];
  their_told = [];
  served = (refl, refl, refl);
  pass = record { requests = Consumes-nil a.requests; journal = Appends-nil a.journal; answers = Appends-nil a.answers };
}

-- its lines are served
batch_serves : {T : Type 0} (step : Step T) (old new : T) (a b : ServeStreams) (rest kept told : List ℕ)
    → Batch step old new a.requests b.requests rest kept told → Appends a.journal b.journal kept
    → Appends a.answers b.answers told → Serving step old new a b rest [] []
batch_serves step old new a b rest kept told s journal answers = record {
  lines = s.lines;
  their_kept = kept;
  their_told = told;
  served = s.served;
  pass = record {
    requests = s.read;
    journal = subst (Appends a.journal b.journal) (sym (append-nil kept)) journal;
    answers = subst (Appends a.answers b.answers) (sym (append-nil told)) answers;
  };
}

-- nothing is served, and they are not told
batch_untold : {T : Type 0} (step : Step T) (old new : T) (a b : ServeStreams) (rest kept told k t : List ℕ)
    → (s : Batch step old new a.requests b.requests rest kept told) → Appends a.journal b.journal k
    → Appends a.answers b.answers t → Serving step old old a b (ended_all s.lines ++ rest) k t
batch_untold step old new a b rest kept told k t s journal answers = record {
  lines = [];
  their_kept = [];
  their_told = [];
  served = (refl, refl, refl);
  pass = record { requests = s.read; journal = journal; answers = answers };
}

abbrev untold_of : {T : Type 0} (step : Step T) (old new : T) (from left : Option (List ℕ)) (rest kept told : List ℕ)
    → Batch step old new from left rest kept told → Untold step old
untold_of step old new from left rest kept told s = record { new = new; lines = s.lines; kept = kept; told = told; served = s.served }

-- a batch that was kept and told
pub told_batch : {T : Type 0} (step : Step T) (ends : List ℕ → Type 0) (old new : T) (a b : ServeStreams) (r : Result (Option End) ServeFault)
    (kept told : List ℕ) → IsBatch step ends old a.requests r new b.requests kept told → Appends a.journal b.journal kept
    → Appends a.answers b.answers told → RunsOn step ends old a r new b
told_batch step ends old new a b (Ok None) kept told h j w = batch_serves step old new a b [] kept told h j w
told_batch step ends old new a b (Ok (Some Input)) kept told h j w =
    (h.0, h.1, h.2, batch_serves step old new a b h.0 kept told h.3 j w)
told_batch step ends old new a b (Ok (Some Asked)) kept told h j w =
    (h.0, h.1, batch_serves step old new a b (ended h.0) kept told h.2 j w)
told_batch step ends old new a b (Err Fault.Read) kept told h j w = (h.0, batch_serves step old new a b h.0 kept told h.1 j w)
told_batch step ends old new a b (Err Fault.Memory) kept told h j w =
    (h.0, h.1, batch_serves step old h.0 a b h.1 kept told h.2 j w)
told_batch step ends old new a b (Err Fault.Keep) kept told h j w = absurd h
told_batch step ends old new a b (Err Fault.Write) kept told h j w = absurd h

-- some batch was read, however its reading ended
record Read {T : Type 0} (step : Step T) (old : T) (from left : Option (List ℕ)) (kept told : List ℕ) : Type 0 where
  new : T
  rest : List ℕ
  batch : Batch step old new from left rest kept told

was_read : {T : Type 0} (step : Step T) (ends : List ℕ → Type 0) (old new : T) (from left : Option (List ℕ))
    (r : Result (Option End) ServeFault) (kept told : List ℕ) → IsBatch step ends old from r new left kept told
    → Read step old from left kept told
was_read step ends old new from left (Ok None) kept told h = record { new = new; rest = []; batch = h }
was_read step ends old new from left (Ok (Some Input)) kept told h = record { new = new; rest = h.0; batch = h.3 }
was_read step ends old new from left (Ok (Some Asked)) kept told h = record { new = new; rest = ended h.0; batch = h.2 }
was_read step ends old new from left (Err Fault.Read) kept told h = record { new = new; rest = h.0; batch = h.1 }
was_read step ends old new from left (Err Fault.Memory) kept told h = record { new = h.0; rest = h.1; batch = h.2 }
was_read step ends old new from left (Err Fault.Keep) kept told h = absurd h
was_read step ends old new from left (Err Fault.Write) kept told h = absurd h

-- a batch that was not kept, or not told
pub untold_batch : {T : Type 0} (step : Step T) (ends : List ℕ → Type 0) (old new : T) (a b : ServeStreams) (r : Result (Option End) ServeFault)
    (kept told : List ℕ) (fault : ServeFault) → IsBatch step ends old a.requests r new b.requests kept told
    → Tells a.journal b.journal a.answers b.answers kept told (Err fault) → RunsOn step ends old a (Err fault) new b
untold_batch step ends old new a b r kept told Fault.Keep h t =
    let s = was_read step ends old new a.requests b.requests r kept told h in (
      old,
      untold_of step old s.new a.requests b.requests s.rest kept told s.batch,
      s.rest,
      t.0.0,
      batch_untold step old s.new a b s.rest kept told (take t.0.0 kept) [] s.batch t.0.1 (appends_none a.answers b.answers t.1),
    )
untold_batch step ends old new a b r kept told Fault.Write h t =
    let s = was_read step ends old new a.requests b.requests r kept told h in (
      old,
      untold_of step old s.new a.requests b.requests s.rest kept told s.batch,
      s.rest,
      t.1.0,
      batch_untold step old s.new a b s.rest kept told kept (take t.1.0 told) s.batch t.0 t.1.1,
    )
untold_batch step ends old new a b r kept told Fault.Read h t = absurd t
untold_batch step ends old new a b r kept told Fault.Memory h t = absurd t

pub tells_same : (j j' w w' : Option (List ℕ)) (a b c d : List ℕ) (r : Result (Unit {0}) ServeFault)
    → a ≡ b → c ≡ d → Tells j j' w w' a c r → Tells j j' w w' b d r
tells_same j j' w w' a b c d r p q h =
    subst (λ (x : List ℕ). Tells j j' w w' x d r) p (subst (λ (x : List ℕ). Tells j j' w w' a x r) q h)

-- ---- runs

-- lines were served, and then others
pub serving_both : {T : Type 0} (step : Step T) (old mid new : T) (a b c : ServeStreams) (r k t : List ℕ)
    → Serving step old mid a b [] [] [] → Serving step mid new b c r k t → Serving step old new a c r k t
serving_both step old mid new a b c r k t s then =
    let read = ended_all then.lines ++ r in
    let all = pass_both a b c (ended_all s.lines) s.their_kept s.their_told read (then.their_kept ++ k) (then.their_told ++ t) s.pass then.pass in
    let same_read : ended_all s.lines ++ read ≡ ended_all (s.lines ++ then.lines) ++ r =
    sym (append_assoc (ended_all s.lines) (ended_all then.lines) r)
    ∙ ap (λ (x : List ℕ). x ++ r) (sym (ended_both s.lines then.lines)) in
    record {
      lines = s.lines ++ then.lines;
      their_kept = s.their_kept ++ then.their_kept;
      their_told = s.their_told ++ then.their_told;
      served = serves_both step old mid new s.lines then.lines s.their_kept s.their_told then.their_kept then.their_told s.served then.served;
      pass = record {
        requests = subst (Consumes a.requests c.requests) same_read all.requests;
        journal = subst (Appends a.journal c.journal) (sym (append_assoc s.their_kept then.their_kept k)) all.journal;
        answers = subst (Appends a.answers c.answers) (sym (append_assoc s.their_told then.their_told t)) all.answers;
      };
    }

pub ends_run : {T : Type 0} (step : Step T) (ends : List ℕ → Type 0) (old mid new : T) (a b c : ServeStreams) (end : End)
    → Serving step old mid a b [] [] [] → RunsOn step ends mid b (Ok (Some end)) new c → IsServed step ends old a (Ok end) new c
ends_run step ends old mid new a b c Input s h = (
  h.0,
  h.1,
  ends_before a.requests b.requests c.requests (ended_all s.lines ++ []) s.pass.requests h.2,
  serving_both step old mid new a b c h.0 [] [] s h.3,
)
ends_run step ends old mid new a b c Asked s h = (h.0, h.1, serving_both step old mid new a b c (ended h.0) [] [] s h.2)

pub fails_run : {T : Type 0} (step : Step T) (ends : List ℕ → Type 0) (old mid new : T) (a b c : ServeStreams) (fault : ServeFault)
    → Serving step old mid a b [] [] [] → RunsOn step ends mid b (Err fault) new c → IsServed step ends old a (Err fault) new c
fails_run step ends old mid new a b c Fault.Read s h = (h.0, serving_both step old mid new a b c h.0 [] [] s h.1)
fails_run step ends old mid new a b c Fault.Memory s h = (h.0, h.1, serving_both step old mid h.0 a b c h.1 [] [] s h.2)
fails_run step ends old mid new a b c Fault.Keep s h =
    (h.0, h.1, h.2, h.3, serving_both step old mid h.0 a b c (ended_all h.1.lines ++ h.2) (take h.3 h.1.kept) [] s h.4)
fails_run step ends old mid new a b c Fault.Write s h =
    (h.0, h.1, h.2, h.3, serving_both step old mid h.0 a b c (ended_all h.1.lines ++ h.2) h.1.kept (take h.3 h.1.told) s h.4)

-- a run that is not asked to end
pub unended : {T : Type 0} (step : Step T) (ends : List ℕ → Type 0) (old mid : T) (a b : ServeStreams)
    → Serving step old mid a b [] [] [] → IsServed step ends old a (Err Fault.Read) mid b
unended step ends old mid a b s = ([], s)
