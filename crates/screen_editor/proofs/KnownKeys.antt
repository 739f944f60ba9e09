-- What is known of lines of the current text, behind a key.
use Rattle.std.proofs.Common.{◌≡◌, ◌⊎◌, ℕ, ◌+◌, ◌-◌, ◌<◌, ◌≤◌, true, false, List, [], ◌∷◌, ◌++◌, length, take, drop, get_or, Option, Some, inl, inr, None, refl, sym, ap, subst, ◌∙◌, arith, nat_lt}
use Rattle.std.specs.Prelude.{IsTrue, min, max, slice_get, if◌then◌else◌}
use Rattle.std.proofs.lemmas.Bool.{cases_lt, eq-eqb, ne_eqb, le-ltb, lt-ltb}
use Rattle.std.proofs.lemmas.List.{length-append}
use Rattle.std.proofs.lemmas.List.Elements.{All-nil, All-same}
use Rattle.std.proofs.Math.Seq.{get_or-append_seam}
use Rattle.function_leaf.specs.declared.coded.Coded.{Coded}
use Rattle.function_leaf.specs.Coded.{coded_byte}
use Rattle.node_table.specs.Held.{Held, table_of}
use Rattle.rope_node.specs.declared.node.NodeId.{NodeId}
use Rattle.rope_node.specs.Denotes.{rope_len}
use Rattle.lazy_file.specs.SourceTexts.{Agrees, Stated}
use Rattle.cord_position.specs.Fetched.{IsStated, rope_cell}
use Rattle.cord_search.specs.Stated.{OfText}
use Rattle.command_parts.specs.Commands.{replaced}
use Rattle.command_parts.specs.declared.edit.Edit.TheVariants as Recorded
use Rattle.edit_commands.specs.Session.{HoldsHistory, SessionValue, edit_of}
use Rattle.screen_editor.specs.declared.cut_span.CutSpan.{CutSpan}
use Rattle.screen_editor.specs.declared.fault.KeyFault.{KeyFault}
use Rattle.screen_editor.specs.declared.key.Key.{Key}
use Rattle.screen_editor.specs.declared.known.KnownText.{KnownText}
use Rattle.screen_editor.specs.declared.key.Key.TheVariants.{Typed, EraseBefore, EraseAt, Left, Right, LineStart, LineEnd, Up, Down, Mark, Cut, Paste, DropCut, Undo, Balance, Save, Leave, Nothing}
use Rattle.text_lines.specs.declared.known.KnownLine.{KnownLine}
use Rattle.text_lines.specs.declared.known_lines.KnownLines.{KnownLines}
use Rattle.screen_editor.specs.Editing.{Editing, EachCurrent, IsCutSpan, current_cell, current_len, current_root, state_of}
use Rattle.screen_editor.specs.Keys.{looks_for_lines}
use Rattle.text_lines.specs.Lines.{HasBreak}
use Rattle.text_lines.specs.KnownLines.{IsKnownIn, IsLineOf, known_lines}
use Rattle.text_lines.specs.StatedCells.{AreToldByOthers}
use Rattle.screen_editor.specs.KnownTexts.{IsKnownLine, LinesBehind, LinesStay}
use Rattle.screen_editor.specs.LineKeys.{DoesStated}
use Rattle.screen_editor.specs.Machine.{cut_out, cut_to, done, edited, pasted, revised}
use Rattle.screen_editor.specs.Revising.{KeepsAll}
use Rattle.screen_editor.specs.State.{EditorState, current, last_revision}
use Rattle.screen_editor.proofs.KeyPlans.{current_text_len}
use Rattle.screen_editor.proofs.KeySteps.{first_is, put_in, put_long}
use Rattle.text_lines.proofs.KnownLaws.{before_replaced, behind_replaced}
use Rattle.screen_editor.proofs.LineTurns.{current_text}
use Rattle.screen_editor.proofs.NewTexts.{revision_is}
use Rattle.screen_editor.proofs.StatedTexts.{Becomes, stated_before, stated_revision}
use Rattle.screen_editor.proofs.ToldKeys.{kept_texts}
use Rattle.screen_editor.proofs.UndoneTexts.{PutsBack, TakesOut, bytes_back}

-- ---- a text that became another

-- where all cells of the text that it became are stated, so are its own, and what is known of it is known of that
known_of : (st : Stated) (old new : Editing) (f : (ℕ → ℕ → ℕ) → List ℕ → List ℕ) (known later : KnownLines) → HoldsHistory old.session → Becomes st old new f
    → ((source : ℕ → ℕ → ℕ) → Agrees st source → EachCurrent new (IsStated st) → EachCurrent old (IsStated st))
    → ((source : ℕ → ℕ → ℕ) → Agrees st source → EachCurrent new (IsStated st) → (t : List ℕ) → length t ≡ current_len old → IsKnownIn known t → IsKnownIn later (f source t))
    → IsKnownLine st old known → IsKnownLine st new later
known_of st old new f known later h becomes each more is source agrees stated =
    let before : IsKnownIn known (current (state_of source old)) = subst (IsKnownIn known) (sym (current_text source old)) (is source agrees (each source agrees stated)) in
    subst (IsKnownIn later) (sym (becomes source agrees) ∙ current_text source new) (more source agrees stated (current (state_of source old)) (current_text_len old h source) before)

-- lines that are known stay so where the text stays
known_kept : (st : Stated) (old new : Editing) (known : KnownLines) → HoldsHistory old.session → HoldsHistory new.session → Becomes st old new (λ source t. t) → IsKnownLine st old known → IsKnownLine st new known
known_kept st old new known h hn becomes is =
    known_of st old new (λ source t. t) known known h becomes
    (λ source agrees stated k _ lt. stated_before st old new (λ source t. t) h hn becomes source agrees stated k k lt (λ source t _. refl))
    (λ source agrees stated t _ known. known) is

-- n bytes are put in at p
known_put : (st : Stated) (old new : Editing) (p n : ℕ) (x : (ℕ → ℕ → ℕ) → List ℕ) (known later : KnownLines) → HoldsHistory old.session → HoldsHistory new.session → p ≤ current_len old
    → ((source : ℕ → ℕ → ℕ) → length (x source) ≡ n) → Becomes st old new (λ source t. replaced t p 0 (x source))
    → ((source : ℕ → ℕ → ℕ) → Agrees st source → EachCurrent new (IsStated st) → (t : List ℕ) → p ≤ length t → IsKnownIn known t → IsKnownIn later (replaced t p 0 (x source)))
    → IsKnownLine st old known → IsKnownLine st new later
known_put st old new p n x known later h hn inside width becomes law is =
    let f = λ (source : ℕ → ℕ → ℕ) (t : List ℕ). replaced t p 0 (x source) in
    known_of st old new f known later h becomes
    (λ source agrees stated k _ lt. elim (cases_lt k p) [
      | inl before ↦ stated_before st old new f h hn becomes source agrees stated k k lt (λ other t long. before_replaced t p 0 (x other) k (omega (arith, inside, long)) before)
      | inr behind ↦
          stated_before st old new f h hn becomes source agrees stated k (k + n) lt
          (λ other t long. behind_replaced t p 0 (x other) (k + n) k (omega (arith, inside, long)) (omega (arith, width other, behind)) (omega (arith, width other)))
    ])
    (λ source agrees stated t long known. law source agrees stated t (omega (arith, inside, long)) known) is

-- the bytes of these places are stated where all others are; lines of a text without these bytes
abbrev pub ToldFrom : Editing → ℕ → ℕ → Type 0
ToldFrom e p m = AreToldByOthers (current_cell e) (current_len e) p m

abbrev pub WithoutLines : ℕ → ℕ → KnownLines → KnownLines → Type 0
WithoutLines p m known later = (t : List ℕ) → p + m ≤ length t → IsKnownIn known t → IsKnownIn later (replaced t p m [])

-- m bytes are taken out at p, whose cells are stated where all others are
known_without : (st : Stated) (old new : Editing) (p m : ℕ) (known later : KnownLines) → HoldsHistory old.session → HoldsHistory new.session → p + m ≤ current_len old → ToldFrom old p m
    → Becomes st old new (λ source t. replaced t p m []) → WithoutLines p m known later → IsKnownLine st old known → IsKnownLine st new later
known_without st old new p m known later h hn inside told becomes law is =
    let f = λ (source : ℕ → ℕ → ℕ) (t : List ℕ). replaced t p m [] in
    known_of st old new f known later h becomes
    (λ source agrees stated.
    let others : (k : ℕ) → k < current_len old → (k < p) ⊎ (p + m ≤ k) → IsStated st (current_cell old k) = λ k lt apart. elim apart [
      | inl before ↦ stated_before st old new f h hn becomes source agrees stated k k lt (λ other t long. before_replaced t p m [] k (omega (arith, inside, long)) before)
      | inr behind ↦ stated_before st old new f h hn becomes source agrees stated k (k - m) lt (λ other t long. behind_replaced t p m [] (k - m) k (omega (arith, inside, long)) (omega (arith, behind)) (omega (arith, behind)))
    ] in
    λ k _ lt. elim (cases_lt k p) [
      | inl before ↦ others k lt (inl before)
      | inr from ↦ elim (cases_lt k (p + m)) [ inl within ↦ told st others k from within | inr behind ↦ others k lt (inr behind) ]
    ])
    (λ source agrees stated t long known. law t (omega (arith, inside, long)) known) is

-- ---- what keys make of the text

revised_text : (s : EditorState) (t : List ℕ) (prior : Option ℕ) (q : ℕ) → current (revised s t prior q) ≡ t
revised_text s t prior q =
    let last : length (s.texts ++ t ∷ []) - 1 ≡ length s.texts = omega (arith, length-append s.texts (t ∷ [])) in
    ap (λ (n : ℕ). get_or (s.texts ++ t ∷ []) n []) last ∙ get_or-append_seam s.texts t [] []

-- what such a key does, over any sources
plain_does : (st : Stated) (key : Key) (old new : Editing) → looks_for_lines key ≡ false → DoesStated st key old new → (source : ℕ → ℕ → ℕ) → Agrees st source → state_of source new ≡ done key (state_of source old)
plain_does st key old new plain does source agrees = does source agrees (λ looks. absurd (let same : true ≡ false = sym looks ∙ plain in cc))

becomes_as : (st : Stated) (key : Key) (old new : Editing) (f : (ℕ → ℕ → ℕ) → List ℕ → List ℕ) → looks_for_lines key ≡ false → DoesStated st key old new
    → ((source : ℕ → ℕ → ℕ) → current (done key (state_of source old)) ≡ f source (current (state_of source old))) → Becomes st old new f
becomes_as st key old new f plain does is source agrees = ap current (plain_does st key old new plain does source agrees) ∙ is source

pub chosen : {A : Type 0} (x y : A) (i j : ℕ) → i < j → (if nat_lt i j then x else y) ≡ x
chosen x y i j lt = rw (lt-ltb i j lt) refl

pub not_chosen : {A : Type 0} (x y : A) (i j : ℕ) → j ≤ i → (if nat_lt i j then x else y) ≡ y
not_chosen x y i j le = rw (le-ltb i j le) refl

-- ---- what is known behind a key

-- lines of a text with a byte more at this place, and with a byte less
abbrev pub TypedLines : ℕ → ℕ → KnownLines → KnownLines → Type 0
TypedLines p b known later = (t : List ℕ) → p ≤ length t → IsKnownIn known t → IsKnownIn later (replaced t p 0 (b ∷ []))

abbrev pub PastedLines : ℕ → ℕ → KnownLines → KnownLines → Type 0
PastedLines p n known later = (t bytes : List ℕ) → p ≤ length t → length bytes ≡ n → IsKnownIn known t → IsKnownIn later (replaced t p 0 bytes)

pub by_lines : (key : Key) (old : Editing) (known : KnownText) (later : KnownLines) → LinesStay key old known.lines later → LinesBehind key old known later
by_lines key old known later stays before now new takes hn is = stays before now new takes hn is.0

pub none_stays : (key : Key) (old : Editing) (known later : KnownLines) → known_lines later ≡ [] → LinesStay key old known later
none_stays key old known later none before now new takes hn is source agrees stated = record { each = All-same (IsLineOf _) (known_lines later) [] none (All-nil (IsLineOf _)) }

-- none stays known, or the byte that goes out is told by others
stays_told : (key : Key) (old : Editing) (known later : KnownLines) (Told : Type 0) (lines : List KnownLine) → known_lines later ≡ lines → (0 < length (known_lines later) → Told) → (Told → LinesStay key old known later) → LinesStay key old known later
stays_told key old known later Told [] is told stays = none_stays key old known later is
stays_told key old known later Told (x ∷ xs) is told stays = stays (told (omega (arith, ap length is)))

pub stays_typed : (old : Editing) (p b : ℕ) (known later : KnownLines) → HoldsHistory old.session → p ≡ old.place → p ≤ current_len old → TypedLines p b known later → LinesStay (Typed b) old known later
stays_typed old p b known later h at inside law before now new takes hn is =
    known_put before.stated old new old.place 1 (λ source. b ∷ []) known later h hn (subst (λ (q : ℕ). q ≤ current_len old) at inside) (λ source. refl)
    (becomes_as before.stated (Typed b) old new (λ source t. replaced t old.place 0 (b ∷ [])) refl takes.done (λ source. revised_text (state_of source old) (replaced (current (state_of source old)) old.place 0 (b ∷ [])) (Some (last_revision (state_of source old))) (old.place + 1)))
    (λ source agrees stated. subst (λ (q : ℕ). TypedLines q b known later) at law) is

pub stays_pasted : (old : Editing) (p : ℕ) (c : CutSpan) (known later : KnownLines) → HoldsHistory old.session → slice_get old.cuts 0 ≡ Some c → IsCutSpan old.session c → p ≡ old.place → p ≤ current_len old → PastedLines p c.len known later
    → LinesStay Paste old known later
stays_pasted old p c known later h first span at inside law before now new takes hn is =
    let width = put_long old c h span in
    known_put before.stated old new old.place c.len (λ source. put_in source old c) known later h hn (subst (λ (q : ℕ). q ≤ current_len old) at inside) width
    (becomes_as before.stated Paste old new (λ source t. replaced t old.place 0 (put_in source old c)) refl takes.done
    (λ source. ap (λ (cs : List CutSpan). current (pasted cs (state_of source old))) (first_is old.cuts c first)
    ∙ revised_text (state_of source old) (replaced (current (state_of source old)) old.place 0 (put_in source old c)) (Some (last_revision (state_of source old))) (old.place + c.len)))
    (λ source agrees stated t within lines. subst (λ (q : ℕ). PastedLines q c.len known later) at law t (put_in source old c) within (width source) lines) is

erased_before : (old : Editing) (known later : KnownLines) → HoldsHistory old.session → 0 < old.place → old.place ≤ current_len old → ToldFrom old (old.place - 1) 1 → WithoutLines (old.place - 1) 1 known later → LinesStay EraseBefore old known later
erased_before old known later h some inside told law before now new takes hn is =
    let p = old.place - 1 in
    known_without before.stated old new p 1 known later h hn (omega (arith, some, inside)) told
    (becomes_as before.stated EraseBefore old new (λ source t. replaced t p 1 []) refl takes.done
    (λ source. ap current (chosen (edited (state_of source old) p 1 [] p) (state_of source old) 0 old.place some) ∙ revised_text (state_of source old) (replaced (current (state_of source old)) p 1 []) (Some (last_revision (state_of source old))) p)) law is

pub stays_erased_before : (old : Editing) (p : ℕ) (known later : KnownLines) → HoldsHistory old.session → p ≡ old.place → 0 < p → p ≤ current_len old → (0 < length (known_lines later) → ToldFrom old (p - 1) 1) → WithoutLines (p - 1) 1 known later
    → LinesStay EraseBefore old known later
stays_erased_before old p known later h at some inside told law =
    stays_told EraseBefore old known later (ToldFrom old (p - 1) 1) (known_lines later) refl told
    (λ here. erased_before old known later h (omega (arith, some, at)) (omega (arith, inside, at)) (subst (λ (q : ℕ). ToldFrom old (q - 1) 1) at here) (subst (λ (q : ℕ). WithoutLines (q - 1) 1 known later) at law))

erased_at : (old : Editing) (known later : KnownLines) → HoldsHistory old.session → old.place < current_len old → ToldFrom old old.place 1 → WithoutLines old.place 1 known later → LinesStay EraseAt old known later
erased_at old known later h inside told law before now new takes hn is =
    let p = old.place in
    known_without before.stated old new p 1 known later h hn (omega (arith, inside)) told
    (becomes_as before.stated EraseAt old new (λ source t. replaced t p 1 []) refl takes.done
    (λ source. ap current (chosen (edited (state_of source old) p 1 [] p) (state_of source old) p (length (current (state_of source old))) (omega (arith, inside, current_text_len old h source))) ∙ revised_text (state_of source old) (replaced (current (state_of source old)) p 1 []) (Some (last_revision (state_of source old))) p)) law is

pub stays_erased_at : (old : Editing) (p : ℕ) (known later : KnownLines) → HoldsHistory old.session → p ≡ old.place → p < current_len old → (0 < length (known_lines later) → ToldFrom old p 1) → WithoutLines p 1 known later
    → LinesStay EraseAt old known later
stays_erased_at old p known later h at inside told law =
    stays_told EraseAt old known later (ToldFrom old p 1) (known_lines later) refl told
    (λ here. erased_at old known later h (omega (arith, inside, at)) (subst (λ (q : ℕ). ToldFrom old q 1) at here) (subst (λ (q : ℕ). WithoutLines q 1 known later) at law))

-- the bytes from a up to b, the mark and the place in their order
cut_from : (old : Editing) (m a b : ℕ) (known later : KnownLines) → HoldsHistory old.session → old.mark ≡ Some m → (m ≡ old.place → ⊥) → a ≡ min m old.place → b ≡ max m old.place → a + (b - a) ≤ current_len old → ToldFrom old a (b - a)
    → WithoutLines a (b - a) known later → LinesStay Cut old known later
cut_from old m a b known later h mark other low high inside told law before now new takes hn is =
    known_without before.stated old new a (b - a) known later h hn inside told
    (becomes_as before.stated Cut old new (λ source t. replaced t a (b - a) []) refl takes.done
    (λ source.
    let s = state_of source old in
    let out : cut_to old.mark s ≡ cut_out s (min m old.place) (max m old.place) = ap (λ (o : Option ℕ). cut_to o s) mark ∙ (rw (ne_eqb m old.place other) refl) in
    ap current out ∙ revised_text s (replaced (current s) (min m old.place) (max m old.place - min m old.place) []) (Some (last_revision s)) (min m old.place)
    ∙ ap (λ (i : ℕ). replaced (current s) i (max m old.place - i) []) (sym low) ∙ ap (λ (j : ℕ). replaced (current s) a (j - a) []) (sym high))) law is

pub stays_cut : (old : Editing) (m a b : ℕ) (known later : KnownLines) → HoldsHistory old.session → old.mark ≡ Some m → (m ≡ old.place → ⊥) → a ≡ min m old.place → b ≡ max m old.place → a + (b - a) ≤ current_len old
    → (0 < length (known_lines later) → ToldFrom old a (b - a)) → WithoutLines a (b - a) known later → LinesStay Cut old known later
stays_cut old m a b known later h mark other low high inside told law =
    stays_told Cut old known later (ToldFrom old a (b - a)) (known_lines later) refl told (λ here. cut_from old m a b known later h mark other low high inside here law)

-- the command that made the text is taken back: what it put in goes out, or as many bytes as it took out come back
pub stays_taken_out : (old : Editing) (p n : ℕ) (known later : KnownLines) → HoldsHistory old.session → TakesOut old p n → (0 < length (known_lines later) → ToldFrom old p n) → WithoutLines p n known later → LinesStay Undo old known later
stays_taken_out old p n known later h out told law =
    stays_told Undo old known later (ToldFrom old p n) (known_lines later) refl told
    (λ here before now new takes hn is. known_without before.stated old new p n known later h hn out.inside here (becomes_as before.stated Undo old new (λ source t. replaced t p n []) refl takes.done out.text) law is)

-- the text with as many bytes more as went out; it may be known that none of them is a break
abbrev pub WidenedLines : ℕ → ℕ → KnownLines → KnownLines → Type 0
WidenedLines p n known later = (t bytes : List ℕ) → p ≤ length t → length bytes ≡ n → ¬ HasBreak bytes → IsKnownIn known t → IsKnownIn later (replaced t p 0 bytes)

pub stays_put_back : (old : Editing) (r p n : ℕ) (known later : KnownLines) → HoldsHistory old.session → PutsBack old r p n → PastedLines p n known later → LinesStay Undo old known later
stays_put_back old r p n known later h back law before now new takes hn is =
    known_put before.stated old new p n (λ source. bytes_back source old r p n) known later h hn back.inside back.long (becomes_as before.stated Undo old new (λ source t. replaced t p 0 (bytes_back source old r p n)) refl takes.done back.text)
    (λ source agrees stated t within lines. law t (bytes_back source old r p n) within (back.long source) lines) is

pub stays_put_plain : (old : Editing) (k r p n : ℕ) (known : KnownText) (later : KnownLines) → HoldsHistory old.session → PutsBack old r p n → edit_of old.session k ≡ Some (Recorded.Delete r p n) → known.plain_from ≤ k → WidenedLines p n known.lines later
    → LinesBehind Undo old known later
stays_put_plain old k r p n known later h back at from law before now new takes hn is =
    known_put before.stated old new p n (λ source. bytes_back source old r p n) known.lines later h hn back.inside back.long (becomes_as before.stated Undo old new (λ source t. replaced t p 0 (bytes_back source old r p n)) refl takes.done back.text)
    (λ source agrees stated t within lines.
    let whole = λ (other : ℕ → ℕ → ℕ) (other_agrees : Agrees before.stated other). ap current (plain_does before.stated Undo old new refl takes.done other other_agrees) ∙ back.whole other in
    let plain = is.1 k r p n from at source agrees (stated_revision before.stated old new r hn whole source agrees stated) in
    law t (bytes_back source old r p n) within (back.long source) (subst (λ (u : List ℕ). ¬ HasBreak (take n (drop p u))) (sym (revision_is source old.session r)) plain) lines) is.0

-- a key that leaves the text as it is
stays_same : (key : Key) (old : Editing) (known : KnownLines) → HoldsHistory old.session → looks_for_lines key ≡ false → ((source : ℕ → ℕ → ℕ) → current (done key (state_of source old)) ≡ current (state_of source old))
    → LinesStay key old known known
stays_same key old known h plain same before now new takes hn is = known_kept before.stated old new known h hn (becomes_as before.stated key old new (λ source t. t) plain takes.done same) is

pub stays_at_start : (old : Editing) (known : KnownLines) → HoldsHistory old.session → old.place ≡ 0 → LinesStay EraseBefore old known known
stays_at_start old known h none = stays_same EraseBefore old known h refl (λ source. ap current (not_chosen (edited (state_of source old) (old.place - 1) 1 [] (old.place - 1)) (state_of source old) 0 old.place (omega (arith, none))))

pub stays_at_end : (old : Editing) (known : KnownLines) → HoldsHistory old.session → current_len old ≤ old.place → LinesStay EraseAt old known known
stays_at_end old known h past = stays_same EraseAt old known h refl (λ source. ap current (not_chosen (edited (state_of source old) old.place 1 [] old.place) (state_of source old) old.place (length (current (state_of source old))) (omega (arith, past, current_text_len old h source))))

pub stays_none_cut : (old : Editing) (known : KnownLines) → HoldsHistory old.session → old.cuts ≡ [] → LinesStay Paste old known known
stays_none_cut old known h none = stays_same Paste old known h refl (λ source. ap (λ (cs : List CutSpan). current (pasted cs (state_of source old))) none)

pub stays_undone : (old : Editing) (known : KnownLines) → HoldsHistory old.session → ((source : ℕ → ℕ → ℕ) → current (done Undo (state_of source old)) ≡ current (state_of source old)) → LinesStay Undo old known known
stays_undone old known h same = stays_same Undo old known h refl same

pub stays_unmarked : (old : Editing) (known : KnownLines) → HoldsHistory old.session → ((m : ℕ) → old.mark ≡ Some m → m ≡ old.place) → LinesStay Cut old known known
stays_unmarked old known h here = stays_same Cut old known h refl (λ source. cut_none source old.mark here)
  where
    cut_none : (source : ℕ → ℕ → ℕ) (mark : Option ℕ) → ((m : ℕ) → mark ≡ Some m → m ≡ old.place) → current (cut_to mark (state_of source old)) ≡ current (state_of source old)
    cut_none source None here = refl
    cut_none source (Some m) here = rw (eq-eqb m old.place (here m refl)) refl

-- the place alone
stays_moved : (key : Key) (old : Editing) (known : KnownLines) → IsTrue (looks_for_lines key) → LinesStay key old known known
stays_moved key old known looks before now new takes hn is = subst (λ (e : Editing). IsKnownLine before.stated e known) (sym (takes.moves looks)) is

either_text : (s : EditorState) (i j q : ℕ) → current (if nat_lt i j then record s { place = q } else s) ≡ current s
either_text s i j q = elim (cases_lt i j) [
  | inl lt ↦ ap current (chosen (record s { place = q }) s i j lt)
  | inr le ↦ ap current (not_chosen (record s { place = q }) s i j le)
]

pub stays : (key : Key) (old : Editing) (known : KnownLines) → HoldsHistory old.session
    → ((b : ℕ) → key ≡ Typed b → ⊥) → (key ≡ EraseBefore → ⊥) → (key ≡ EraseAt → ⊥) → (key ≡ Cut → ⊥) → (key ≡ Paste → ⊥) → (key ≡ Undo → ⊥) → LinesStay key old known known
stays (Typed b) old known h typed before at cut paste undo = absurd (typed b refl)
stays EraseBefore old known h typed before at cut paste undo = absurd (before refl)
stays EraseAt old known h typed before at cut paste undo = absurd (at refl)
stays Cut old known h typed before at cut paste undo = absurd (cut refl)
stays Paste old known h typed before at cut paste undo = absurd (paste refl)
stays Undo old known h typed before at cut paste undo = absurd (undo refl)
stays LineStart old known h typed before at cut paste undo = stays_moved LineStart old known refl
stays LineEnd old known h typed before at cut paste undo = stays_moved LineEnd old known refl
stays Up old known h typed before at cut paste undo = stays_moved Up old known refl
stays Down old known h typed before at cut paste undo = stays_moved Down old known refl
stays Left old known h typed before at cut paste undo = stays_same Left old known h refl (λ source. either_text (state_of source old) 0 old.place (old.place - 1))
stays Right old known h typed before at cut paste undo = stays_same Right old known h refl (λ source. either_text (state_of source old) old.place (length (current (state_of source old))) (old.place + 1))
stays Mark old known h typed before at cut paste undo = stays_same Mark old known h refl (λ source. refl)
stays DropCut old known h typed before at cut paste undo = stays_same DropCut old known h refl (λ source. refl)
stays Save old known h typed before at cut paste undo = stays_same Save old known h refl (λ source. refl)
stays Leave old known h typed before at cut paste undo = stays_same Leave old known h refl (λ source. refl)
stays Nothing old known h typed before at cut paste undo = stays_same Nothing old known h refl (λ source. refl)
stays Balance old known h typed before at cut paste undo = stays_same Balance old known h refl (λ source. revised_text (state_of source old) (current (state_of source old)) (Some (last_revision (state_of source old))) old.place)

-- ---- a refused key

pub refused_known : (st : Stated) (old new : Editing) (known : KnownLines) (m : Option KeyFault) → HoldsHistory old.session → HoldsHistory new.session → KeepsAll old new → IsKnownLine st old known → IsKnownLine st (record new { message = m }) known
refused_known st old new known m h hn keeps is =
    known_kept st old new known h hn (λ source agrees. ap (λ (ts : List (List ℕ)). get_or ts (length ts - 1) []) (kept_texts old new keeps source)) is

-- ---- the cells of the current text, by the store and the root that the workspace hands out

pub told_in_current : (e : Editing) (session : SessionValue) (held : Held Coded) (root : Option NodeId) (p m : ℕ) → session ≡ e.session → held ≡ session.held → root ≡ current_root e
    → AreToldByOthers (rope_cell (table_of coded_byte held) root) (rope_len (table_of coded_byte held) root) p m → ToldFrom e p m
told_in_current e session held root p m is_session is_held is_root h =
    let same : held ≡ e.session.held = is_held ∙ ap (λ (v : SessionValue). v.held) is_session in
    subst (λ (r : Option NodeId). AreToldByOthers (rope_cell (table_of coded_byte e.session.held) r) (rope_len (table_of coded_byte e.session.held) r) p m) is_root
    (subst (λ (x : Held Coded). AreToldByOthers (rope_cell (table_of coded_byte x) root) (rope_len (table_of coded_byte x) root) p m) same h)

pub known_in_current : (st : Stated) (e : Editing) (session : SessionValue) (held : Held Coded) (root : Option NodeId) (known : KnownLines) → session ≡ e.session → held ≡ session.held → root ≡ current_root e
    → IsKnownLine st e known → OfText (table_of coded_byte held) st root (IsKnownIn known)
known_in_current st e session held root known is_session is_held is_root h =
    let same : held ≡ e.session.held = is_held ∙ ap (λ (v : SessionValue). v.held) is_session in
    subst (λ (r : Option NodeId). OfText (table_of coded_byte held) st r (IsKnownIn known)) (sym is_root)
    (subst (λ (x : Held Coded). OfText (table_of coded_byte x) st (current_root e) (IsKnownIn known)) (sym same) h)

pub current_known : (st : Stated) (e : Editing) (session : SessionValue) (held : Held Coded) (root : Option NodeId) (known : KnownLines) → session ≡ e.session → held ≡ session.held → root ≡ current_root e
    → OfText (table_of coded_byte held) st root (IsKnownIn known) → IsKnownLine st e known
current_known st e session held root known is_session is_held is_root h =
    let same : held ≡ e.session.held = is_held ∙ ap (λ (v : SessionValue). v.held) is_session in
    subst (λ (r : Option NodeId). OfText (table_of coded_byte e.session.held) st r (IsKnownIn known)) is_root
    (subst (λ (x : Held Coded). OfText (table_of coded_byte x) st root (IsKnownIn known)) same h)
