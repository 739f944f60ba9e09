-- A batch that is handed in, and batches one behind the other.
use Rattle.std.proofs.Common.{◌≡◌, ℕ, suc, ◌+◌, ◌-◌, ◌<◌, ◌≤◌, List, [], ◌∷◌, ◌++◌, length, map, take, drop, get_or, Result, Ok, Err, sym, ap, subst, ◌∙◌, arith}
use Rattle.std.specs.Prelude.{slice_range}
use Rattle.std.specs.List.{sum_by}
use Rattle.std.proofs.lemmas.List.{length-take-le, length_push}
use Rattle.std.proofs.Math.Seq.{drop-cons}
use Rattle.command_parts.specs.declared.edit.TheConstants.{MOST_SPLICES}
use Rattle.edit_commands.specs.declared.command.Change as Session
use Rattle.edit_commands.specs.declared.command.Command.{Command}
use Rattle.edit_commands.specs.Applying.{Applies}
use Rattle.edit_commands.specs.Session.{SessionValue}
use Rattle.line_changes.specs.declared.change.Change.{Change}
use Rattle.line_changes.specs.Turns.{Turns, with_changes}
use Rattle.saved_session.proofs.FurtherSessions.{further_applied, further_through}
use Rattle.commit_tools.specs.declared.batches.Batch.{Batch}
use Rattle.commit_tools.specs.declared.fault.CommitFault.{CommitFault}
use Rattle.commit_tools.specs.declared.fault.CommitFault.TheVariants.{Check, TakeUp, Read, Edit, Memory, Write}
use Rattle.commit_tools.specs.declared.found.Found.{Found}
use Rattle.commit_tools.specs.Found.{IsBeside, file_middle, text_from}
use Rattle.commit_tools.specs.Handed.{IsHandedBatch, shifted, with_handed}
use Rattle.commit_tools.specs.Put.{BeginsEmpty, GoesOnTo, PutsAll, PutsBatch, TakesBatch, TakesCommand}
use Rattle.commit_tools.specs.Stops.{EndApart, EndsBefore, HandsBatch, IsLongestBatch, IsManyAt, IsNew, LeadsTo}
use Rattle.commit_tools.proofs.AppliedTexts.{applied_text, empty_root}
use Rattle.commit_tools.proofs.HandedBatches.{batch_made, batch_takes, batch_then, turns_from}

-- the changes of a batch and those behind it turn one middle into the other from some places on
turns_batch : (found : Found) (file : List ℕ) (first left : ℕ) → IsBeside found file → first ≤ left
    → (u : ℕ) × (v : ℕ) × Turns found.middle.items (file_middle found file) u v (slice_range found.changes.items first left ++ drop left found.changes.items) (length found.middle.items) (length (file_middle found file))
turns_batch found file first left is order =
    let y = length found.middle.items in
    let z = length (file_middle found file) in
    let from = turns_from found.middle.items (file_middle found file) 0 0 first found.changes.items y z is.turns in
    (from.0, from.1, subst (λ (cs : List Change). Turns found.middle.items (file_middle found file) from.0 from.1 cs y z) (sym (batch_then found.changes.items first left order)) from.2)

pub put_takes : (found : Found) (file : List ℕ) (first left : ℕ) (batch : Batch) → IsBeside found file → first ≤ left → IsHandedBatch found file (slice_range found.changes.items first left) batch
    → sum_by (λ (c : Session.Change). c.n) batch.changes.items ≡ length batch.bytes.items
put_takes found file first left batch is order handed =
    let slice = slice_range found.changes.items first left in
    let from = turns_batch found file first left is order in
    ap (sum_by (λ (c : Session.Change). c.n)) handed.changes_are
    ∙ batch_takes found.middle.items (file_middle found file) found.front slice (drop left found.changes.items) from.0 from.1 (length found.middle.items) (length (file_middle found file)) from.2
    ∙ ap length (sym handed.bytes_are)

pub put_applied : (found : Found) (file : List ℕ) (first left : ℕ) (batch : Batch) (old new : SessionValue) (k : ℕ) (command : Command) → IsBeside found file → first ≤ left
    → IsHandedBatch found file (slice_range found.changes.items first left) batch → 1 ≤ length old.revisions
    → IsManyAt (length old.revisions - 1) batch.changes.items batch.bytes.items command → Applies old command k new → GoesOnTo found file first left old new
put_applied found file first left batch old new k command is order handed some many applies =
    let slice = slice_range found.changes.items first left in
    let after = drop left found.changes.items in
    let middle = file_middle found file in
    let from = turns_batch found file first left is order in
    let long : length (take found.front file) ≡ found.front = length-take-le found.front file (omega (arith, is.order, is.inside)) in
    let fits : sum_by (λ (c : Session.Change). c.n) batch.changes.items ≤ length batch.bytes.items = omega (arith, put_takes found file first left batch is order handed) in
    record {
      further = further_applied applies;
      some = omega (arith, ap length applies.revisions, length_push old.revisions applies.made);
      text = λ source e.
          applied_text source old new k command batch.changes.items batch.bytes.items some applies many fits
          ∙ ap (λ (t : List ℕ). with_handed t batch.changes.items batch.bytes.items) e
          ∙ ap (λ (cs : List Session.Change). with_handed (text_from found file left) cs batch.bytes.items) handed.changes_are
          ∙ ap (with_handed (text_from found file left) (map (shifted found.front) slice)) handed.bytes_are
          ∙ batch_made found.middle.items middle (take found.front file) (drop found.end file) found.front long slice after from.0 from.1 from.2
          ∙ ap (λ (cs : List Change). take found.front file ++ (with_changes middle found.middle.items cs ++ drop found.end file)) (batch_then found.changes.items first left order);
    }

-- ---- one behind the other

pub goes_through : {found : Found} {file : List ℕ} {first left end : ℕ} {a b c : SessionValue} → GoesOnTo found file left end a b → GoesOnTo found file first left b c → GoesOnTo found file first end a c
goes_through x y = record {
  further = further_through x.further y.further;
  some = y.some;
  text = λ source e. y.text source (x.text source e);
}

-- batches that lead on to one more
abbrev pub Leads : Found → List ℕ → SessionValue → ℕ → SessionValue → Type 0
Leads found file begun left last = (ends : List ℕ) × LeadsTo found file begun ends left last

pub leads_on : (found : Found) (file : List ℕ) (first left : ℕ) (begun before last : SessionValue) → Leads found file begun left before → TakesBatch found file first left before last → Leads found file begun first last
leads_on found file first left begun before last leads takes = (left ∷ leads.0, (before, takes.command, takes.k, leads.1, takes.hands, takes.applies))

pub fails_later : (found : Found) (file : List ℕ) (first left : ℕ) (begun last new : SessionValue) (fault : CommitFault) → Leads found file begun left last → PutsBatch found file first left last (Err fault) new → PutsAll found file begun (Err fault) new
fails_later found file first left begun last new (Edit fault) leads stops = record {
  ends = leads.0;
  left = left;
  last = last;
  leads = leads.1;
  first = first;
  command = stops.command;
  hands = stops.hands;
  no_memory = stops.no_memory;
  after = new;
  stops = stops.stops;
}
fails_later found file first left begun last new Memory leads stops = tt
fails_later found file first left begun last new (Check fault) leads stops = absurd stops
fails_later found file first left begun last new (TakeUp fault) leads stops = absurd stops
fails_later found file first left begun last new (Read fault) leads stops = absurd stops
fails_later found file first left begun last new Write leads stops = absurd stops

-- ---- what was made of a command

-- a batch that was handed in is one of what was found
batch_hands : (found : Found) (file : List ℕ) (first left : ℕ) (batch : Batch) (old : SessionValue) (command : Command) → first < left → left ≤ first + MOST_SPLICES → EndApart (slice_range found.changes.items first left)
    → IsLongestBatch found.changes.items first left
    → IsHandedBatch found file (slice_range found.changes.items first left) batch → IsManyAt (length old.revisions - 1) batch.changes.items batch.bytes.items command → HandsBatch found file first left old command
batch_hands found file first left batch old command order few apart longest handed many = record {
  some = order;
  few = few;
  apart = apart;
  longest = longest;
  is = subst (λ (bs : List ℕ). IsManyAt (length old.revisions - 1) (map (shifted found.front) (slice_range found.changes.items first left)) bs command) handed.bytes_are
      (subst (λ (cs : List Session.Change). IsManyAt (length old.revisions - 1) cs batch.bytes.items command) handed.changes_are many);
}

pub put_made : (found : Found) (file : List ℕ) (first left : ℕ) (batch : Batch) (old new : SessionValue) (command : Command) (result : Result (Unit {0}) CommitFault) → IsBeside found file → first < left
    → left ≤ first + MOST_SPLICES → EndApart (slice_range found.changes.items first left)
    → IsLongestBatch found.changes.items first left
    → IsHandedBatch found file (slice_range found.changes.items first left) batch → 1 ≤ length old.revisions
    → IsManyAt (length old.revisions - 1) batch.changes.items batch.bytes.items command → TakesCommand old command result new → PutsBatch found file first left old result new
put_made found file first left batch old new command (Ok u) is order few apart longest handed some many makes = record {
  command = command;
  hands = batch_hands found file first left batch old command order few apart longest handed many;
  k = makes.0;
  applies = makes.1;
  goes = put_applied found file first left batch old new makes.0 command is (omega (arith, order)) handed some many makes.1;
}
put_made found file first left batch old new command (Err (Edit fault)) is order few apart longest handed some many makes = record {
  command = command;
  hands = batch_hands found file first left batch old command order few apart longest handed many;
  no_memory = makes.0;
  stops = makes.1;
}
put_made found file first left batch old new command (Err Memory) is order few apart longest handed some many makes = tt
put_made found file first left batch old new command (Err (Check fault)) is order few apart longest handed some many makes = absurd makes
put_made found file first left batch old new command (Err (TakeUp fault)) is order few apart longest handed some many makes = absurd makes
put_made found file first left batch old new command (Err (Read fault)) is order few apart longest handed some many makes = absurd makes
put_made found file first left batch old new command (Err Write) is order few apart longest handed some many makes = absurd makes

pub begun_empty : (old new : SessionValue) (command : Command) (result : Result (Unit {0}) CommitFault) → old.revisions ≡ [] → IsNew command → TakesCommand old command result new → BeginsEmpty old result new
begun_empty old new command (Ok u) none is makes =
    let applies = makes.1 in (
      record { none = none; command = command; is = is; k = makes.0; applies = applies },
      further_applied applies,
      omega (arith, ap length applies.revisions, length_push old.revisions applies.made, ap length none),
      empty_root old new makes.0 command is applies,
    )
begun_empty old new command (Err (Edit fault)) none is makes = record { command = command; is = is; no_memory = makes.0; after = new; stops = makes.1 }
begun_empty old new command (Err Memory) none is makes = tt
begun_empty old new command (Err (Check fault)) none is makes = absurd makes
begun_empty old new command (Err (TakeUp fault)) none is makes = absurd makes
begun_empty old new command (Err (Read fault)) none is makes = absurd makes
begun_empty old new command (Err Write) none is makes = absurd makes

-- ---- a batch's changes end apart

range_more : (xs : List Change) (first left : ℕ) (d : Change) → first < left → left ≤ length xs → slice_range xs first left ≡ get_or xs first d ∷ slice_range xs (suc first) left
range_more xs first left d order inside =
    let more : left - first ≡ suc (left - suc first) = omega (arith, order) in
    ap (λ (n : ℕ). take n (drop first xs)) more ∙ ap (take (suc (left - suc first))) (drop-cons xs first d (omega (arith, order, inside)))

pub apart_one : (xs : List Change) (left : ℕ) (d : Change) → 1 ≤ left → left ≤ length xs → EndApart (slice_range xs (left - 1) left)
apart_one xs left d some inside =
    let none : left - suc (left - 1) ≡ 0 = omega (arith, some) in
    let one : slice_range xs (left - 1) left ≡ get_or xs (left - 1) d ∷ [] =
    range_more xs (left - 1) left d (omega (arith, some)) inside ∙ ap (λ (n : ℕ). get_or xs (left - 1) d ∷ take n (drop (suc (left - 1)) xs)) none in
    subst EndApart (sym one) (tt, tt)

pub apart_more : (xs : List Change) (first left : ℕ) (d : Change) → 1 ≤ first → first < left → left ≤ length xs → (get_or xs (first - 1) d).to < (get_or xs first d).from → EndApart (slice_range xs first left)
    → EndApart (slice_range xs (first - 1) left)
apart_more xs first left d some order inside before apart =
    let at : suc (first - 1) ≡ first = omega (arith, some) in
    let here : slice_range xs (first - 1) left ≡ get_or xs (first - 1) d ∷ slice_range xs first left =
    range_more xs (first - 1) left d (omega (arith, order)) inside ∙ ap (λ (n : ℕ). get_or xs (first - 1) d ∷ slice_range xs n left) at in
    let next = range_more xs first left d order inside in
    subst EndApart (sym here) (subst (EndsBefore (get_or xs (first - 1) d)) (sym next) before, apart)
