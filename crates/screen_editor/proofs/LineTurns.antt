-- Keys that look for line breaks.
use Rattle.std.proofs.Common.{◌≡◌, ℕ, ◌-◌, List, [], get_or, Result, Ok, Err, Option, Some, None, true, false, refl, sym, ap, subst, ◌∙◌}
use Rattle.std.specs.Prelude.{IsTrue, IfErr, OnOk, IsErrOf}
use Rattle.std.proofs.Math.ListN.{get_or-map}
use Rattle.std.proofs.lemmas.Option.{same_Some}
use Rattle.rope_node.specs.declared.node.NodeId.{NodeId}
use Rattle.function_leaf.specs.declared.coded.Coded.{Coded}
use Rattle.function_leaf.specs.Coded.{coded_byte}
use Rattle.node_table.specs.Held.{Held, table_of}
use Rattle.rope_node.specs.Denotes.{rope_cells, rope_len, text}
use Rattle.lazy_file.specs.SourceTexts.{Agrees, Stated}
use Rattle.lazy_file.specs.Readings.{Reading, Reads, fault_by}
use Rattle.lazy_file.proofs.LaterReads.{reads_weaker}
use Rattle.lazy_file.specs.declared.faults.SourceFault.{SourceFault}
use Rattle.cord_position.specs.Fetched.{InCells, IsStated, ReadsSpan, rope_cell}
use Rattle.edit_commands.specs.Session.{HoldsHistory, SessionValue, cells_of, roots_of, session_table, texts_of}
use Rattle.edit_commands.proofs.GoingOn.{keeps_itself}
use Rattle.screen_editor.specs.declared.fault.KeyFault.{KeyFault}
use Rattle.screen_editor.specs.declared.fault.KeyFault.TheVariants as Fault
use Rattle.screen_editor.specs.declared.key.Key.{Key}
use Rattle.screen_editor.specs.declared.key.Key.TheVariants.{LineStart, LineEnd, Up, Down}
use Rattle.screen_editor.specs.Editing.{Editing, EachCurrent, IsEditing, current_cell, current_len, current_root, last_of, state_of}
use Rattle.screen_editor.specs.Keys.{looks_for_lines}
use Rattle.screen_editor.specs.LineKeys.{DoesStated, IsLinePlace, Takes, line_place}
use Rattle.screen_editor.specs.Machine.{done, edit_by_key, moved}
use Rattle.screen_editor.specs.Refusals.{IsPlainFault, KeyAsks, key_source_fault}
use Rattle.screen_editor.specs.Revising.{AppliesCommand}
use Rattle.screen_editor.specs.State.{EditorState, current}
use Rattle.screen_editor.specs.Taking.{CarriesOut}
use Rattle.screen_editor.proofs.KeyPlans.{makes_none, no_source, stays_short}
use Rattle.screen_editor.proofs.NewTexts.{count_texts}

-- the current text's cells, by the store and the root that the workspace hands out
pub failed_in_current : (before now : Reading) (e : Editing) (session : SessionValue) (held : Held Coded) (root : Option NodeId) (f : SourceFault) → session ≡ e.session → held ≡ session.held → root ≡ current_root e
    → ReadsSpan {X = Unit {0}} before now (rope_cell (table_of coded_byte held) root) 0 (rope_len (table_of coded_byte held) root) (Err f)
    → ReadsSpan {X = Unit {0}} before now (current_cell e) 0 (current_len e) (Err f)
failed_in_current before now e session held root f is_session is_held is_root h =
    let same : held ≡ e.session.held = is_held ∙ ap (λ (v : SessionValue). v.held) is_session in
    subst (λ (r : Option NodeId). ReadsSpan {X = Unit {0}} before now (rope_cell (table_of coded_byte e.session.held) r) 0 (rope_len (table_of coded_byte e.session.held) r) (Err f)) is_root
    (subst (λ (x : Held Coded). ReadsSpan {X = Unit {0}} before now (rope_cell (table_of coded_byte x) root) 0 (rope_len (table_of coded_byte x) root) (Err f)) same h)

-- ---- the current text

pub current_text : (source : ℕ → ℕ → ℕ) (e : Editing) → current (state_of source e) ≡ text source (rope_cells (session_table e.session) (current_root e))
current_text source e =
    ap (λ (n : ℕ). get_or (texts_of source e.session) (n - 1) []) (count_texts e.session source)
    ∙ get_or-map (text source) (cells_of e.session) (last_of e) []
    ∙ ap (text source) (get_or-map (rope_cells (session_table e.session)) (roots_of e.session.revisions) (last_of e) None)

-- ---- such a key moves the place alone

moves_there : (key : Key) (s : EditorState) (p : ℕ) → line_place key (current s) s.place ≡ Some p → done key s ≡ moved s p
moves_there LineStart s p e = ap (moved s) (same_Some _ p e)
moves_there LineEnd s p e = ap (moved s) (same_Some _ p e)
moves_there Up s p e = ap (moved s) (same_Some _ p e)
moves_there Down s p e = ap (moved s) (same_Some _ p e)
moves_there _ s p e = absurd cc

no_edit : (key : Key) (a : ℕ) (s : EditorState) → looks_for_lines key ≡ true → edit_by_key a key s ≡ None
no_edit LineStart a s e = refl
no_edit LineEnd a s e = refl
no_edit Up a s e = refl
no_edit Down a s e = refl
no_edit _ a s e = absurd cc

same_texts : (key : Key) (s : EditorState) → looks_for_lines key ≡ true → (done key s).texts ≡ s.texts
same_texts LineStart s e = refl
same_texts LineEnd s e = refl
same_texts Up s e = refl
same_texts Down s e = refl
same_texts _ s e = absurd cc

-- ---- what taking such a key does

taken_is_taken : (f : KeyFault) → IsErrOf {T = Unit {0}} (Ok tt) f → ⊥
taken_is_taken f e = absurd cc

other_fault : (f : SourceFault) → IsErrOf {T = Unit {0}} (Err (Fault.Source f)) Fault.TooLong → ⊥
other_fault f e = absurd cc

moved_state : (source : ℕ → ℕ → ℕ) (st : Stated) (key : Key) (old : Editing) (p : ℕ) → IsLinePlace st key old p → Agrees st source → EachCurrent old (IsStated st) → state_of source (record old { place = p }) ≡ done key (state_of source old)
moved_state source st key old p h agrees stated =
    sym (moves_there key (state_of source old) p (subst (λ (t : List ℕ). line_place key t old.place ≡ Some p) (sym (current_text source old)) (h.is source agrees stated)))

pub moved_takes : (key : Key) (before now : Reading) (old new : Editing) (p : ℕ) → IsEditing old → HoldsHistory old.session
    → IsLinePlace before.stated key old p → new ≡ record old { place = p } → now ≡ before → Takes key before old (Ok tt) now new
moved_takes key before now old new p is history h e same =
    subst (λ (x : Editing). Takes key before old (Ok tt) now x) (sym e) (record {
      done = λ source agrees told. moved_state source before.stated key old p h agrees (told h.looks);
      command = AppliesCommand.none (λ a source. no_edit key a (state_of source old) h.looks) refl;
      moves = λ _. refl;
      kept = tt;
      too_long = ((λ told. absurd (taken_is_taken Fault.TooLong told)), (λ grows. absurd (stays_short key old is history (same_texts key (state_of no_source old) h.looks) grows)));
      too_many = λ makes _ _. absurd (makes_none key old (same_texts key (state_of no_source old) h.looks) makes);
      fault = tt;
      unchanged = tt;
      reads = same;
      sources = refl;
    })

some_fault : (f : SourceFault) → key_source_fault (Fault.Source f) ≡ None → ⊥
some_fault f e = absurd cc

pub failed_takes : (key : Key) (before now : Reading) (old : Editing) (f : SourceFault) → IsEditing old → HoldsHistory old.session
    → IsTrue (looks_for_lines key) → ReadsSpan {X = Unit {0}} before now (current_cell old) 0 (current_len old) (Err f) → Takes key before old (Err (Fault.Source f)) now old
failed_takes key before now old f is history looks h = record {
  done = tt;
  command = tt;
  moves = tt;
  kept = record { keeps = keeps_itself old.session; revisions = refl; rest = refl };
  too_long = ((λ told. absurd (other_fault f told)), (λ grows. absurd (stays_short key old is history (same_texts key (state_of no_source old) looks) grows)));
  too_many = λ makes _ _. absurd (makes_none key old (same_texts key (state_of no_source old) looks) makes);
  fault = λ none. absurd (some_fault f none);
  unchanged = λ _. refl;
  reads = reads_weaker before now (InCells (current_cell old) 0 (current_len old)) (KeyAsks key old) (Some f) (λ s p asked. (looks, asked)) h;
  sources = refl;
}

-- ---- all other keys

any_fault : (key : Key) (old new : Editing) (result : Result (Unit {0}) KeyFault) → IfErr result (λ f. IsPlainFault key old f new) → IfErr result (λ f. key_source_fault f ≡ None → IsPlainFault key old f new)
any_fault key old new (Ok u) h = tt
any_fault key old new (Err f) h = λ none. h

no_source_fault : (key : Key) (old : Editing) (f : KeyFault) (new : Editing) → IsPlainFault key old f new → key_source_fault f ≡ None
no_source_fault key old Fault.TooLong new h = refl
no_source_fault key old (Fault.Edit f) new h = refl
no_source_fault key old (Fault.Source f) new h = absurd h

plain_reads : (before now : Reading) (key : Key) (old new : Editing) (result : Result (Unit {0}) KeyFault) → IfErr result (λ f. IsPlainFault key old f new) → now ≡ before → Reads before now (KeyAsks key old) (fault_by key_source_fault result)
plain_reads before now key old new (Ok u) h same = same
plain_reads before now key old new (Err f) h same = rw (no_source_fault key old f new h) same

on_ok : {E : Type 0} (P Q : Type 0) (result : Result (Unit {0}) E) → (P → Q) → OnOk result P → OnOk result Q
on_ok P Q (Ok u) f h = f h
on_ok P Q (Err e) f h = tt

not_by_lines : (key : Key) → looks_for_lines key ≡ false → IsTrue (looks_for_lines key) → ⊥
not_by_lines key looks moves = let same : true ≡ false = sym moves ∙ looks in absurd cc

on_any : {E : Type 0} (Q : Type 0) (result : Result (Unit {0}) E) → Q → OnOk result Q
on_any Q (Ok u) q = q
on_any Q (Err e) q = tt

pub plain_takes : (key : Key) (before now : Reading) (old new : Editing) (result : Result (Unit {0}) KeyFault) → looks_for_lines key ≡ false
    → CarriesOut key old result new → now ≡ before → Takes key before old result now new
plain_takes key before now old new result looks h same = record {
  done = on_ok _ (DoesStated before.stated key old new) result (λ does source agrees told. does source) h.done;
  command = h.command;
  moves = on_any (IsTrue (looks_for_lines key) → new ≡ record old { place = new.place }) result (λ moves. absurd (not_by_lines key looks moves));
  kept = h.kept;
  too_long = h.too_long;
  too_many = h.too_many;
  fault = any_fault key old new result h.fault;
  unchanged = h.unchanged;
  reads = plain_reads before now key old new result h.fault same;
  sources = h.sources;
}
