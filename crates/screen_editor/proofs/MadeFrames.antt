-- The frame of the current text.
use Rattle.std.proofs.Common.{◌≡◌, ℕ, ◌-◌, List, Result, Ok, Err, Option, refl, sym, ap, subst, ◌∙◌}
use Rattle.std.specs.Prelude.{IfOk}
use Rattle.std.specs.Global.{Vec}
use Rattle.std.specs.Option.{option_map}
use Rattle.function_leaf.specs.declared.coded.Coded.{Coded}
use Rattle.function_leaf.specs.Coded.{coded_byte}
use Rattle.node_table.specs.Held.{Held, table_of}
use Rattle.rope_node.specs.declared.node.NodeId.{NodeId}
use Rattle.rope_node.specs.Denotes.{rope_len}
use Rattle.lazy_file.specs.SourceTexts.{Stated}
use Rattle.lazy_file.specs.Readings.{Reading}
use Rattle.cord_position.specs.Fetched.{rope_cell}
use Rattle.cord_search.specs.Stated.{OfText}
use Rattle.edit_commands.specs.Session.{SessionValue}
use Rattle.text_lines.specs.declared.fault.FrameFault.{FrameFault}
use Rattle.screen_editor.specs.Editing.{Editing, EditorValue, current_root, key_code, last_of, state_of}
use Rattle.text_lines.specs.Screen.{screen_of}
use Rattle.text_lines.specs.Showing.{ReadsToShow}
use Rattle.screen_editor.specs.Runs.{IsFrame, MakesFrame}
use Rattle.screen_editor.specs.State.{current}
use Rattle.screen_editor.specs.Watched.{IsNotedFrame, MakesNoted}
use Rattle.screen_editor.proofs.LineTurns.{current_text}
use Rattle.screen_editor.proofs.NewTexts.{count_texts}

-- what is told of a frame about a place of a rope
pub record IsTold (before now : Reading) (result : Result (Vec ℕ) FrameFault) (held : Held Coded) (root : Option NodeId) (place last : ℕ) (code : Option (List ℕ)) : Type 0 where
  pub bytes : IfOk result (λ v. OfText (table_of coded_byte held) before.stated root (λ t. v.items ≡ screen_of t place last code))
  pub reads : ReadsToShow before now (rope_cell (table_of coded_byte held) root) (rope_len (table_of coded_byte held) root) result

-- the rope and the place are those of a workspace
told_of : (before now : Reading) (result : Result (Vec ℕ) FrameFault) (e : Editing) (held : Held Coded) (root : Option NodeId) (place last : ℕ) (line : Option (List ℕ))
    → held ≡ e.session.held → root ≡ current_root e → place ≡ e.place → last ≡ last_of e
    → IsTold before now result held root place last line → IsTold before now result e.session.held (current_root e) e.place (last_of e) line
told_of before now result e held root place last line is_held is_root is_place is_last h =
    subst (λ (k : ℕ). IsTold before now result e.session.held (current_root e) e.place k line) is_last
    (subst (λ (p : ℕ). IsTold before now result e.session.held (current_root e) p last line) is_place
    (subst (λ (r : Option NodeId). IsTold before now result e.session.held r place last line) is_root
    (subst (λ (x : Held Coded). IsTold before now result x root place last line) is_held h)))

shown : (st : Stated) (e : Editing) (line : Option (List ℕ)) (result : Result (Vec ℕ) FrameFault) → IfOk result (λ v. OfText (table_of coded_byte e.session.held) st (current_root e) (λ t. v.items ≡ screen_of t e.place (last_of e) line))
    → IfOk result (λ v. IsNotedFrame st e line v.items)
shown st e line (Err f) h = tt
shown st e line (Ok v) h = λ source agrees stated.
    h source agrees stated
    ∙ ap (λ (t : List ℕ). screen_of t e.place (last_of e) line) (sym (current_text source e))
    ∙ ap (λ (n : ℕ). screen_of (current (state_of source e)) e.place (n - 1) line) (sym (count_texts e.session source))

pub noted_made : (before now : Reading) (result : Result (Vec ℕ) FrameFault) (e : Editing) (session : SessionValue) (held : Held Coded) (root : Option NodeId) (place last : ℕ) (line : Option (List ℕ))
    → session ≡ e.session → held ≡ session.held → root ≡ current_root e → place ≡ e.place → last ≡ last_of e
    → IsTold before now result held root place last line → MakesNoted line (record { sources = before; editing = e }) result (record { sources = now; editing = e })
noted_made before now result e session held root place last line is_session is_held is_root is_place is_last h =
    let told = told_of before now result e held root place last line (is_held ∙ ap (λ (v : SessionValue). v.held) is_session) is_root is_place is_last h in
    record {
      bytes = shown before.stated e line result told.bytes;
      reads = told.reads;
      kept = refl;
    }

-- by another name of the line
pub noted_as : (line other : Option (List ℕ)) (old : EditorValue Reading) (result : Result (Vec ℕ) FrameFault) (new : EditorValue Reading) → line ≡ other → MakesNoted line old result new → MakesNoted other old result new
noted_as line other old result new same h = subst (λ (m : Option (List ℕ)). MakesNoted m old result new) same h

own_shown : (st : Stated) (e : Editing) (result : Result (Vec ℕ) FrameFault) → IfOk result (λ v. IsNotedFrame st e (option_map key_code e.message) v.items) → IfOk result (λ v. IsFrame st e v.items)
own_shown st e (Err f) h = tt
own_shown st e (Ok v) h = h

-- where the line is the message
pub own_frame : (line : Option (List ℕ)) (old : EditorValue Reading) (result : Result (Vec ℕ) FrameFault) (new : EditorValue Reading) → line ≡ option_map key_code old.editing.message → MakesNoted line old result new → MakesFrame old result new
own_frame line old result new same h =
    let own = noted_as line (option_map key_code old.editing.message) old result new same h in
    record { bytes = own_shown old.sources.stated old.editing result own.bytes; reads = own.reads; kept = own.kept }
