-- A session that goes on to a file's text.
use Rattle.std.proofs.Common.{◌≡◌, ℕ, ◌+◌, ◌-◌, ◌<◌, ◌≤◌, Bool, true, false, List, [], length, Option, None, Result, Ok, Err, refl, sym, ap, subst, ◌∙◌, arith}
use Rattle.std.specs.Prelude.{◌≢◌}
use Rattle.std.proofs.lemmas.List.{length_push}
use Rattle.function_leaf.specs.declared.coded.Coded.{Coded}
use Rattle.function_leaf.specs.Coded.{coded_byte}
use Rattle.lazy_file.specs.SourceTexts.{Stated}
use Rattle.lazy_file.specs.Readings.{Reading, Reads, fault_by}
use Rattle.lazy_file.specs.declared.faults.SourceFault.{SourceFault}
use Rattle.lazy_file.proofs.LaterReads.{reads_weaker}
use Rattle.rope_node.specs.declared.node.NodeId.{NodeId}
use Rattle.rope_node.specs.Denotes.{rope_len}
use Rattle.node_table.specs.Held.{Held, table_of}
use Rattle.cord_position.specs.Fetched.{EachCell, InCells, IsStated, rope_cell}
use Rattle.cord_search.specs.Stated.{OfText}
use Rattle.edit_commands.specs.declared.command.Command.{Command}
use Rattle.edit_commands.specs.Session.{SessionValue, length_at, session_table}
use Rattle.saved_session.specs.GoneFurther.{GoesFurther}
use Rattle.saved_session.proofs.FurtherSessions.{further_applied, further_itself, further_through}
use Rattle.commit_tools.specs.declared.answer.Commit.TheVariants.{Same, Added}
use Rattle.commit_tools.specs.declared.fault.CommitFault.{CommitFault}
use Rattle.commit_tools.specs.declared.fault.CommitFault.TheVariants.{Check, TakeUp, Read, Edit, Memory, Write}
use Rattle.commit_tools.specs.declared.found.Found.{Found}
use Rattle.commit_tools.specs.Earlier.{FindsNone, IsLatest}
use Rattle.commit_tools.specs.Found.{FrontsEndBefore, IsBeside, text_before, text_from}
use Rattle.commit_tools.specs.Put.{BeginsEmpty, GoesBack, GoesOnToText, PutsAll, TakesCommand}
use Rattle.commit_tools.specs.Stops.{BeginsWithNew, FindsChanges, IsBackTo, at_new, behind, behind_new, stops_at_back, stops_at_changes, takes_back, takes_batches, takes_behind, takes_behind_new, takes_nothing}
use Rattle.commit_tools.specs.Commits.{CommitsText}
use Rattle.commit_tools.specs.Texts.{InReadTexts, InTextsAsLong, OverLast, OverRevision, last_root, last_text, read_fault_of, revision_root, text_in}
use Rattle.commit_tools.proofs.AppliedTexts.{back_text}
use Rattle.commit_tools.proofs.FoundTexts.{all_made, only_same, same_text}
use Rattle.commit_tools.proofs.LastRoots.{root_of_one}

-- ---- the last text

-- what is found of the last root in the session's store is found of the last text
pub over_found : (v : SessionValue) (h : Held Coded) (rope : Option NodeId) (st : Stated) (found : Found) (file : List ℕ) (n : ℕ) → h ≡ v.held → rope ≡ last_root v
    → OfText (table_of coded_byte h) st rope (λ u. u ≡ text_from found file n) → OverLast st v (λ source. last_text source v ≡ text_from found file n)
over_found v h rope st found file n held root of =
    let here : OfText (table_of coded_byte v.held) st rope (λ u. u ≡ text_from found file n) =
    subst (λ (k : Held Coded). OfText (table_of coded_byte k) st rope (λ u. u ≡ text_from found file n)) held of in
    subst (λ (r : Option NodeId). OfText (table_of coded_byte v.held) st r (λ u. u ≡ text_from found file n)) root here

pub reads_last : (v : SessionValue) (h : Held Coded) (rope : Option NodeId) (file : List ℕ) (before after : Reading) (fault : Option SourceFault) → h ≡ v.held → rope ≡ last_root v
    → Reads before after (InCells (rope_cell (table_of coded_byte h) rope) 0 (rope_len (table_of coded_byte h) rope)) fault
    → Reads before after (InReadTexts v file) fault
reads_last v h rope file before after fault held root reads =
    let here : Reads before after (InCells (rope_cell (table_of coded_byte v.held) rope) 0 (rope_len (table_of coded_byte v.held) rope)) fault =
    subst (λ (k : Held Coded). Reads before after (InCells (rope_cell (table_of coded_byte k) rope) 0 (rope_len (table_of coded_byte k) rope)) fault) held reads in
    let there : Reads before after (InCells (rope_cell (session_table v) (last_root v)) 0 (rope_len (session_table v) (last_root v))) fault =
    subst (λ (r : Option NodeId). Reads before after (InCells (rope_cell (table_of coded_byte v.held) r) 0 (rope_len (table_of coded_byte v.held) r)) fault) root here in
    reads_weaker before after (InCells (rope_cell (session_table v) (last_root v)) 0 (rope_len (session_table v) (last_root v))) (InReadTexts v file) fault
    (λ s p asked. (length v.revisions - 1, (λ other. refl), asked)) there

pub reads_compared : (v : SessionValue) (file : List ℕ) (before after : Reading) (fault : Option SourceFault) → Reads before after (InTextsAsLong v file) fault → Reads before after (InReadTexts v file) fault
reads_compared v file before after fault reads =
    reads_weaker before after (InTextsAsLong v file) (InReadTexts v file) fault (λ s p asked. (asked.0, (λ other. absurd (other asked.1)), asked.2)) reads

-- no cell of one text that is empty is read, so none of those of no text
pub reads_none : (begun middle : SessionValue) (file : List ℕ) (before after : Reading) (fault : Option SourceFault) → length middle.revisions ≡ 1 → last_root middle ≡ None
    → Reads before after (InReadTexts middle file) fault → Reads before after (InReadTexts begun file) fault
reads_none begun middle file before after fault one empty reads =
    reads_weaker before after (InReadTexts middle file) (InReadTexts begun file) fault
    (λ s p asked. absurd (omega (arith, asked.2.2, ap (rope_len (session_table middle)) (root_of_one middle asked.0 one empty)))) reads

-- ---- behind a revision

-- what is found of the last root in the session's store turns its last text into the file's
pub finds_changes : (st : Stated) (v : SessionValue) (h : Held Coded) (rope : Option NodeId) (found : Found) (file : List ℕ) → h ≡ v.held → rope ≡ last_root v → IsBeside found file
    → OfText (table_of coded_byte h) st rope (λ u. u ≡ text_before found file) → rope_len (table_of coded_byte h) rope ≡ length (text_before found file)
    → OfText (table_of coded_byte h) st rope (λ u. FrontsEndBefore (rope_len (table_of coded_byte h) rope) u file (length file - found.end)) → FindsChanges st v file found
finds_changes st v h rope found file held root is of len apart = record {
  beside = is;
  len = subst (λ (r : Option NodeId). rope_len (table_of coded_byte v.held) r ≡ length (text_before found file)) root
      (subst (λ (k : Held Coded). rope_len (table_of coded_byte k) rope ≡ length (text_before found file)) held len);
  text = over_found v h rope st found file (length found.changes.items) held root of;
  apart = subst (λ (r : Option NodeId). OfText (table_of coded_byte v.held) st r (λ u. FrontsEndBefore (rope_len (table_of coded_byte v.held) r) u file (length file - found.end))) root
      (subst (λ (k : Held Coded). OfText (table_of coded_byte k) st rope (λ u. FrontsEndBefore (rope_len (table_of coded_byte k) rope) u file (length file - found.end))) held apart);
}

pub stays_there : (st : Stated) (v : SessionValue) (found : Found) (file : List ℕ) → FindsChanges st v file found → found.changes.items ≡ [] → GoesOnToText st v file (Ok false) v
stays_there st v found file finds none = (refl, λ source agrees stated. finds.text source agrees stated ∙ same_text found file finds.beside none)

pub goes_there : (st : Stated) (old new : SessionValue) (found : Found) (file : List ℕ) → FindsNone st old file → FindsChanges st old file found → found.changes.items ≢ [] → PutsAll found file old (Ok tt) new
    → GoesOnToText st old file (Ok true) new
goes_there st old new found file none finds some puts = (
  (
    length old.revisions - 1,
    record {
      further = puts.0.further;
      some = puts.0.some;
      text = λ source agrees stated. puts.0.text source (finds.text source agrees stated) ∙ all_made found file finds.beside;
      takes = takes_batches refl none (record { found = found; finds = finds; ends = puts.1.0; leads = puts.1.1 });
    },
  ),
  λ source agrees stated same. some (only_same found file finds.beside (sym (finds.text source agrees stated) ∙ same)),
)

-- ---- back to a revision

pub back_fails : (old new : SessionValue) (r : ℕ) (command : Command) (fault : CommitFault) → r < length old.revisions - 1 → IsBackTo r command → TakesCommand old command (Err fault) new → GoesBack old r (Err fault) new
back_fails old new r command (Edit fault) earlier is takes = (earlier, (command, is, takes.0, takes.1))
back_fails old new r command Memory earlier is takes = tt
back_fails old new r command (Read fault) earlier is takes = absurd takes
back_fails old new r command (Check fault) earlier is takes = absurd takes
back_fails old new r command (TakeUp fault) earlier is takes = absurd takes
back_fails old new r command Write earlier is takes = absurd takes

pub went_back : (st : Stated) (old new : SessionValue) (file : List ℕ) (r : ℕ) (result : Result Bool CommitFault) → IsLatest st old file r → GoesBack old r result new → GoesOnToText st old file result new
went_back st old new file r (Ok true) latest goes =
    let command = goes.1.0 in
    let applies = goes.1.2.1 in (
      (
        r,
        record {
          further = further_applied applies;
          some = omega (arith, ap length applies.revisions, length_push old.revisions applies.made);
          text = λ source agrees stated. back_text source old new goes.1.2.0 r command applies goes.1.1 latest.there ∙ latest.same source agrees stated;
          takes = takes_back (record { latest = latest; earlier = goes.0; command = command; is = goes.1.1; k = goes.1.2.0; applies = applies });
        },
      ),
      latest.later (length old.revisions - 1) (omega (arith, goes.0)) (omega (arith, goes.0)),
    )
went_back st old new file r (Ok false) latest goes =
    (goes.1, subst (λ (k : ℕ). OverRevision st old k (λ source. text_in source old k ≡ file)) goes.0 latest.same)
went_back st old new file r (Err (Edit fault)) latest goes =
    stops_at_back (record { r = r; latest = latest; earlier = goes.0; command = goes.1.0; is = goes.1.1; no_memory = goes.1.2; after = new; stops = goes.1.3 })
went_back st old new file r (Err Memory) latest goes = tt
went_back st old new file r (Err (Read fault)) latest goes = absurd goes
went_back st old new file r (Err (Check fault)) latest goes = absurd goes
went_back st old new file r (Err (TakeUp fault)) latest goes = absurd goes
went_back st old new file r (Err Write) latest goes = absurd goes

-- and reads nothing
pub back_reads : (old new : SessionValue) (file : List ℕ) (r : ℕ) (before after : Reading) (result : Result Bool CommitFault) → after ≡ before → GoesBack old r result new → Reads before after (InReadTexts old file) (fault_by read_fault_of result)
back_reads old new file r before after (Ok b) unread goes = unread
back_reads old new file r before after (Err (Edit fault)) unread goes = unread
back_reads old new file r before after (Err Memory) unread goes = unread
back_reads old new file r before after (Err (Read fault)) unread goes = absurd goes
back_reads old new file r before after (Err (Check fault)) unread goes = absurd goes
back_reads old new file r before after (Err (TakeUp fault)) unread goes = absurd goes
back_reads old new file r before after (Err Write) unread goes = absurd goes

-- ---- a commit

-- over a text without cells all holds that holds of some sources
pub no_cells : (st : Stated) (v : SessionValue) (r : ℕ) → revision_root v r ≡ None → EachCell (rope_cell (session_table v) (revision_root v r)) 0 (length_at v r) (IsStated st)
no_cells st v r none =
    subst (λ (x : Option NodeId). EachCell (rope_cell (session_table v) x) 0 (rope_len (session_table v) x) (IsStated st)) (sym none) (λ p le lt. absurd (omega (arith, lt)))

pub first_text : (st : Stated) (begun middle made : SessionValue) (file : List ℕ) (added : Bool) (revision : ℕ) → BeginsWithNew begun middle → GoesFurther begun middle → length middle.revisions ≡ 1 → last_root middle ≡ None
    → GoesOnToText st middle file (Ok added) made → length made.revisions ≡ revision + 1 → CommitsText st begun file (Ok (Added revision)) made
first_text st begun middle made file true revision begins further one empty goes last =
    let from : ℕ = goes.0.0 in
    let g = goes.0.1 in (
      record {
        further = further_through further g.further;
        last = last;
        from = from;
        text = λ source agrees stated. g.text source agrees (no_cells st middle from (root_of_one middle from one empty));
        by = takes_behind_new middle begins g.takes;
      },
      λ some. absurd (omega (arith, some, ap length begins.none)),
    )
first_text st begun middle made file false revision begins further one empty goes last = (
  record {
    further = subst (GoesFurther begun) (sym goes.0) further;
    last = last;
    from = length middle.revisions - 1;
    text = λ source agrees stated. ap (last_text source) goes.0 ∙ goes.1 source agrees (no_cells st middle (length middle.revisions - 1) empty);
    by = takes_behind_new middle begins (takes_nothing refl goes.1 goes.0);
  },
  λ some. absurd (omega (arith, some, ap length begins.none)),
)

pub later_text : (st : Stated) (begun made : SessionValue) (file : List ℕ) (revision : ℕ) → 1 ≤ length begun.revisions → GoesOnToText st begun file (Ok true) made → length made.revisions ≡ revision + 1
    → CommitsText st begun file (Ok (Added revision)) made
later_text st begun made file revision some goes last =
    let g = goes.0.1 in
    (record { further = g.further; last = last; from = goes.0.0; text = g.text; by = takes_behind some g.takes }, λ there. goes.1)

pub kept_text : (st : Stated) (begun made : SessionValue) (file : List ℕ) (revision : ℕ) → 1 ≤ length begun.revisions → GoesOnToText st begun file (Ok false) made → length made.revisions ≡ revision + 1
    → CommitsText st begun file (Ok (Same revision)) made
kept_text st begun made file revision some goes last = (
  goes.0,
  record {
    further = further_itself begun;
    last = subst (λ (v : SessionValue). length v.revisions ≡ revision + 1) goes.0 last;
    from = length begun.revisions - 1;
    text = goes.1;
    by = takes_behind some (takes_nothing refl goes.1 refl);
  },
)

pub failed_text : (st : Stated) (begun middle made : SessionValue) (file : List ℕ) (fault : CommitFault) → BeginsWithNew begun middle → GoesOnToText st middle file (Err fault) made → CommitsText st begun file (Err fault) made
failed_text st begun middle made file (Edit fault) begins goes = behind_new middle begins goes
failed_text st begun middle made file (Read fault) begins goes = tt
failed_text st begun middle made file Memory begins goes = tt
failed_text st begun middle made file (Check fault) begins goes = absurd goes
failed_text st begun middle made file (TakeUp fault) begins goes = absurd goes
failed_text st begun middle made file Write begins goes = absurd goes

pub failed_later : (st : Stated) (begun made : SessionValue) (file : List ℕ) (fault : CommitFault) → 1 ≤ length begun.revisions → GoesOnToText st begun file (Err fault) made → CommitsText st begun file (Err fault) made
failed_later st begun made file (Edit fault) some goes = behind some goes
failed_later st begun made file (Read fault) some goes = tt
failed_later st begun made file Memory some goes = tt
failed_later st begun made file (Check fault) some goes = absurd goes
failed_later st begun made file (TakeUp fault) some goes = absurd goes
failed_later st begun made file Write some goes = absurd goes

pub failed_new : (st : Stated) (begun made : SessionValue) (file : List ℕ) (fault : CommitFault) → begun.revisions ≡ [] → BeginsEmpty begun (Err fault) made → CommitsText st begun file (Err fault) made
failed_new st begun made file (Edit fault) none stops = at_new none stops
failed_new st begun made file (Read fault) none stops = absurd stops
failed_new st begun made file Memory none stops = tt
failed_new st begun made file (Check fault) none stops = absurd stops
failed_new st begun made file (TakeUp fault) none stops = absurd stops
failed_new st begun made file Write none stops = absurd stops

-- what is found, and a batch of it that is not taken
pub stops_behind : (st : Stated) (old new : SessionValue) (found : Found) (file : List ℕ) (fault : CommitFault) → FindsNone st old file → FindsChanges st old file found → PutsAll found file old (Err fault) new
    → GoesOnToText st old file (Err fault) new
stops_behind st old new found file (Edit fault) none finds stops = stops_at_changes (record { none = none; found = found; finds = finds; stops = stops })
stops_behind st old new found file Memory none finds stops = tt
stops_behind st old new found file (Read fault) none finds stops = absurd stops
stops_behind st old new found file (Check fault) none finds stops = absurd stops
stops_behind st old new found file (TakeUp fault) none finds stops = absurd stops
stops_behind st old new found file Write none finds stops = absurd stops
