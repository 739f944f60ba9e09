-- Deletions that took out no line break, so that none comes back with what they took out.
use Rattle.std.proofs.Common.{◌≡◌, ◌⊎◌, ℕ, ◌-◌, ◌<◌, ◌≤◌, true, List, [], ◌∷◌, ◌++◌, length, take, drop, get_or, Option, Some, None, inl, inr, refl, sym, ap, subst, ◌∙◌, arith, slice_get, option_map, is_some, IfSome}
use Rattle.std.proofs.lemmas.Bool.{cases_lt}
use Rattle.std.proofs.lemmas.List.{get_or_append_left, length-map}
use Rattle.std.proofs.lemmas.List.Elements.{All-nil, All-same}
use Rattle.std.proofs.Math.ListN.{get_or-map}
use Rattle.std.proofs.lemmas.Option.{slice_get-map, slice_get_within}
use Rattle.circular_buffer.proofs.Places.{slice_get-append_left, slice_get-append_right}
use Rattle.rope_node.specs.Denotes.{Byte, Cell, rope_cells, text}
use Rattle.lazy_file.specs.SourceTexts.{Agrees, Stated}
use Rattle.cord_position.specs.Fetched.{AreStated, IsStated}
use Rattle.command_parts.specs.declared.edit.Edit.{Edit}
use Rattle.command_parts.specs.declared.edit.Edit.TheVariants as Recorded
use Rattle.edit_commands.specs.declared.command.Command.{Command}
use Rattle.edit_commands.specs.declared.revision.Revision.{Revision}
use Rattle.edit_commands.specs.Applying.{Applies}
use Rattle.edit_commands.specs.Session.{HoldsHistory, SessionValue, cells_of, edit_of, roots_of, session_table, edits_of}
use Rattle.screen_editor.specs.declared.cut_span.CutSpan.{CutSpan}
use Rattle.screen_editor.specs.declared.key.Key.{Key}
use Rattle.screen_editor.specs.declared.known.KnownText.{KnownText}
use Rattle.screen_editor.specs.Editing.{Editing, current_root, last_of, state_of}
use Rattle.screen_editor.specs.KnownTexts.{IsKnownText, IsKnownLine, PlainBehind, TakeNoBreak, TakesSpan}
use Rattle.screen_editor.specs.Machine.{edit_by_key}
use Rattle.screen_editor.specs.Recorded.{HandsNoChanges, edit_at}
use Rattle.screen_editor.specs.Revising.{AppliesCommand, KeepsAll, none, one}
use Rattle.screen_editor.proofs.KeyPlans.{no_source}
use Rattle.screen_editor.proofs.NewTexts.{cells_more, edits_more}
use Rattle.screen_editor.proofs.StatedTexts.{cell_in, cells_long}
use Rattle.screen_editor.proofs.UndoneTexts.{delete_earlier}
use Rattle.text_lines.specs.declared.known.KnownLine.{KnownLine}
use Rattle.text_lines.specs.declared.known_lines.KnownLines.{KnownLines}
use Rattle.text_lines.specs.Lines.{HasBreak}
use Rattle.text_lines.specs.KnownLines.{HoldsPart, IsKnownIn, IsLineOf, known_lines}
use Rattle.text_lines.proofs.KnownLaws.{plain_part}

-- ---- the commands and the cells, where there is one revision more

edit_there : (v : SessionValue) (k : ℕ) (e : Edit) → edit_of v k ≡ Some e → slice_get (edits_of v.revisions) k ≡ Some e
edit_there v k e at = slice_get-map (λ (r : Revision). r.edit) v.revisions k ∙ at

edit_behind : (old : SessionValue) (command : Command) (new : SessionValue) → HandsNoChanges command → (a : Applies old command (length old.revisions) new) → (k : ℕ) (e : Edit) → edit_of new k ≡ Some e
    → ((k < length old.revisions) × (edit_of old k ≡ Some e)) ⊎ ((k ≡ length old.revisions) × (edit_at (get_or a.is.places 0 0) command ≡ e))
edit_behind old command new plain a k e at =
    let before = edits_of old.revisions in
    let made = edit_at (get_or a.is.places 0 0) command in
    let count : length before ≡ length old.revisions = length-map old.revisions (λ (r : Revision). r.edit) in
    let there : slice_get (before ++ made ∷ []) k ≡ Some e = ap (λ (es : List Edit). slice_get es k) (sym (edits_more old command new plain a)) ∙ edit_there new k e at in
    elim (cases_lt k (length before)) [
      | inl lt ↦ inl (omega (arith, lt, count), sym (slice_get-map (λ (r : Revision). r.edit) old.revisions k) ∙ sym (slice_get-append_left before (made ∷ []) k lt) ∙ there)
      | inr le ↦
          let j = k - length before in
          let last : slice_get (made ∷ []) j ≡ Some e = sym (slice_get-append_right before (made ∷ []) k j (omega (arith, le))) ∙ there in
          let none : j ≡ 0 = omega (arith, slice_get_within (made ∷ []) j e last) in
          let here : Some made ≡ Some e = ap (slice_get (made ∷ [])) (sym none) ∙ last in
          inr (omega (arith, none, le, count), cc)
    ]

cells_kept : (old : SessionValue) (command : Command) (new : SessionValue) → Applies old command (length old.revisions) new → (r : ℕ) → r < length old.revisions → get_or (cells_of new) r [] ≡ get_or (cells_of old) r []
cells_kept old command new a r lt =
    let count : length (cells_of old) ≡ length old.revisions = length-map (roots_of old.revisions) (rope_cells (session_table old)) ∙ length-map old.revisions (λ (x : Revision). x.root) in
    ap (λ (cs : List (List Cell)). get_or cs r []) (cells_more old command new a) ∙ get_or_append_left (cells_of old) (rope_cells (session_table new) a.made.root ∷ []) [] r (omega (arith, lt, count))

-- ---- what is so of a key's deletion is so of all from there on

abbrev PlainCells : Stated → SessionValue → ℕ → ℕ → ℕ → Type 0
PlainCells st v r p n = (source : ℕ → ℕ → ℕ) → Agrees st source → AreStated st (get_or (cells_of v) r []) → ¬ HasBreak (take n (drop p (text source (get_or (cells_of v) r []))))

lines_told : (st : Stated) (old : Editing) (known : KnownLines) → HoldsHistory old.session → IsKnownLine st old known → (source : ℕ → ℕ → ℕ) → Agrees st source → AreStated st (get_or (cells_of old.session) (last_of old) [])
    → IsKnownIn known (text source (get_or (cells_of old.session) (last_of old) []))
lines_told st old known h is source agrees stated =
    let t = session_table old.session in
    let root = current_root old in
    let same : get_or (cells_of old.session) (last_of old) [] ≡ rope_cells t root = get_or-map (rope_cells t) (roots_of old.session.revisions) (last_of old) None in
    let long = cells_long old h in
    subst (λ (cs : List Cell). IsKnownIn known (text source cs)) (sym same)
    (is source agrees (λ k _ lt. let inside : k < length (rope_cells t root) = omega (arith, lt, long) in subst (IsStated st) (cell_in t root k inside) (subst (AreStated st) same stated k (Byte 0) inside)))

-- what has to be so of the deletion that a key makes
abbrev IsPlainDeletion : Stated → Key → Editing → Type 0
IsPlainDeletion st key old =
    (a r p n : ℕ) → ((source : ℕ → ℕ → ℕ) → edit_by_key a key (state_of source old) ≡ Some (Recorded.Delete r p n)) → PlainCells st old.session r p n

plain_by : (st : Stated) (key : Key) (old : Editing) (new : SessionValue) (from later : ℕ) → HoldsHistory new → AppliesCommand key old new → from ≤ later → TakeNoBreak st old.session from → (later ≤ length old.session.revisions → IsPlainDeletion st key old)
    → TakeNoBreak st new later
plain_by st key old new from later hn (none edit same) le before made = subst (λ (v : SessionValue). TakeNoBreak st v later) (sym same) (λ k r p n above at. before k r p n (omega (arith, le, above)) at)
plain_by st key old new from later hn (one command plain does applies) le before made = λ k r p n above at source agrees.
    let place = get_or applies.is.places 0 0 in
    let earlier = delete_earlier new hn k r p n at in
    let kept = λ (lt : r < length old.session.revisions) (was : PlainCells st old.session r p n).
    subst (λ (cs : List Cell). AreStated st cs → ¬ HasBreak (take n (drop p (text source cs)))) (sym (cells_kept old.session command new applies r lt)) (was source agrees) in
    elim (edit_behind old.session command new plain applies k (Recorded.Delete r p n) at) [
      | inl earlier_one ↦ kept (omega (arith, earlier, earlier_one.0)) (before k r p n (omega (arith, le, above)) earlier_one.1)
      | inr last ↦ kept (omega (arith, earlier, last.0)) (made (omega (arith, above, last.0)) place r p n (λ other. does place other ∙ ap Some last.1))
    ]

-- it makes none
pub plain_kept : (key : Key) (old : Editing) (known : KnownText) → TakesSpan key old None → PlainBehind key old known known.plain_from
plain_kept key old known nothing before now new takes hn is =
    plain_by before.stated key old new.session known.plain_from known.plain_from hn takes.command (omega arith) is.1 (λ _ a r p n deletes. absurd (nothing a r p n no_source (deletes no_source)))

-- what it takes out stands in a line that is known
pub plain_cut : (key : Key) (old : Editing) (known : KnownText) (out : CutSpan) (line : KnownLine) → HoldsHistory old.session → TakesSpan key old (Some out) → HoldsPart known.lines out.start out.len line → PlainBehind key old known known.plain_from
plain_cut key old known out line h span holds before now new takes hn is =
    plain_by before.stated key old new.session known.plain_from known.plain_from hn takes.command (omega arith) is.1
    (λ _ a r p n deletes source agrees stated.
    let same : Some (Recorded.Delete r p n) ≡ Some (Recorded.Delete (last_of old) out.start out.len) = sym (deletes source) ∙ span.1 a source in
    let at : r ≡ last_of old = cc in
    let from : p ≡ out.start = cc in
    let many : n ≡ out.len = cc in
    rw (at, from, many) (λ has. plain_part (text source (get_or (cells_of old.session) (last_of old) [])) known.lines out.start out.len line holds (lines_told before.stated old known.lines h is.0 source agrees (rw (← at) stated)) has))

-- whatever it takes out
pub plain_ended : (key : Key) (old : Editing) (known : KnownText) (later : ℕ) → known.plain_from ≤ later → length old.session.revisions < later → PlainBehind key old known later
plain_ended key old known later le past before now new takes hn is =
    plain_by before.stated key old new.session known.plain_from later hn takes.command le is.1 (λ room. absurd (omega (arith, room, past)))

-- ---- what a key takes out

none_taken : (key : Key) (old : Editing) (o : Option CutSpan) → TakesSpan key old o → ((out : CutSpan) → o ≡ Some out → ⊥) → TakesSpan key old None
none_taken key old None takes nothing = takes
none_taken key old (Some out) takes nothing = absurd (nothing out refl)

pub plain_left : (key : Key) (old : Editing) (known : KnownText) (o : Option CutSpan) → TakesSpan key old o → ((out : CutSpan) → o ≡ Some out → ⊥) → PlainBehind key old known known.plain_from
plain_left key old known o takes nothing = plain_kept key old known (none_taken key old o takes nothing)

pub plain_line : (key : Key) (old : Editing) (known : KnownText) (out : CutSpan) (o : Option KnownLine) → HoldsHistory old.session → TakesSpan key old (Some out) → IfSome o (HoldsPart known.lines out.start out.len) → is_some o ≡ true → PlainBehind key old known known.plain_from
plain_line key old known out None h span holds there = absurd cc
plain_line key old known out (Some line) h span holds there = plain_cut key old known out line h span holds

-- ---- nothing is known

pub none_known : (st : Stated) (e : Editing) (known : KnownText) → known_lines known.lines ≡ [] → length e.session.revisions ≤ known.plain_from → IsKnownText st e known
none_known st e known nothing past = (
  λ source agrees stated. record { each = All-same (IsLineOf _) (known_lines known.lines) [] nothing (All-nil (IsLineOf _)) },
  λ k r p n above at.
      absurd (let inside = slice_get_within (edits_of e.session.revisions) k (Recorded.Delete r p n) (edit_there e.session k (Recorded.Delete r p n) at) in omega (arith, inside, above, past, length-map e.session.revisions (λ (x : Revision). x.edit))),
)

-- ---- a refused key

pub plain_refused : (st : Stated) (old new : Editing) (from : ℕ) → KeepsAll old new → TakeNoBreak st old.session from → TakeNoBreak st new.session from
plain_refused st old new from h plain k r p n above at source agrees =
    let same : cells_of new.session ≡ cells_of old.session = ap (λ (rs : List Revision). cells_of (record { held = new.session.held; revisions = rs })) h.revisions ∙ h.keeps.cells in
    let was : edit_of old.session k ≡ Some (Recorded.Delete r p n) = ap (λ (rs : List Revision). option_map (λ (x : Revision). x.edit) (slice_get rs k)) (sym h.revisions) ∙ at in
    subst (λ (cs : List (List Cell)). AreStated st (get_or cs r []) → ¬ HasBreak (take n (drop p (text source (get_or cs r []))))) (sym same) (plain k r p n above was source agrees)
