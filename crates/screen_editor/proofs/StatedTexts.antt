-- Which cells of the current text are stated: those whose bytes are the same over two kinds of sources that agree with
-- what is stated.
use Rattle.std.proofs.Common.{◌≡◌, ℕ, suc, ◌<◌, List, [], length, get_or, Option, Some, None, inl, inr, refl, sym, ap, ◌∙◌, arith}
use Rattle.std.specs.Prelude.{IsSome}
use Rattle.std.proofs.lemmas.Bool.{cases_lt}
use Rattle.std.proofs.lemmas.List.{get_or-map, get_or_past, length-map}
use Rattle.rope_node.specs.declared.node.NodeId.{NodeId}
use Rattle.rope_node.specs.Table.{Table}
use Rattle.rope_node.specs.Denotes.{Cell, Byte, Place, cell_byte, rope_cells}
use Rattle.lazy_file.specs.SourceTexts.{Agrees, Stated, text_at}
use Rattle.cord_position.specs.Fetched.{AreStated, IsStated, rope_cell}
use Rattle.edit_commands.specs.Session.{HoldsHistory, cells_of, session_table, texts_of}
use Rattle.screen_editor.specs.Editing.{Editing, EachCurrent, current_cell, current_len, current_root, state_of}
use Rattle.screen_editor.specs.State.{current}
use Rattle.screen_editor.proofs.KeyPlans.{current_text_len, no_source}
use Rattle.screen_editor.proofs.LineTurns.{current_text}
use Rattle.screen_editor.proofs.NewTexts.{revision_is}

-- ---- another byte where none is stated

abbrev other_where : Option (List ℕ) → ℕ → ℕ
other_where (Some t) b = b
other_where None b = suc b

abbrev other : Stated → (ℕ → ℕ → ℕ) → ℕ → ℕ → ℕ
other st source s p = other_where (text_at st s) (source s p)

other_agrees : (st : Stated) (source : ℕ → ℕ → ℕ) → Agrees st source → Agrees st (other st source)
other_agrees st source agrees s p t is lt = ap (λ (o : Option (List ℕ)). other_where o (source s p)) is ∙ agrees s p t is lt

same_where : (o : Option (List ℕ)) (b : ℕ) → IsSome o → b ≡ other_where o b
same_where (Some t) b some = refl
same_where None b some = absurd cc

some_where : (o : Option (List ℕ)) (b : ℕ) → b ≡ other_where o b → IsSome o
some_where (Some t) b same = refl
some_where None b same = absurd (omega (arith, same))

stated_alike : (st : Stated) (source : ℕ → ℕ → ℕ) (c : Cell) → IsStated st c → cell_byte source c ≡ cell_byte (other st source) c
stated_alike st source (Byte b) h = refl
stated_alike st source (Place s p) h = same_where (text_at st s) (source s p) h

alike_stated : (st : Stated) (source : ℕ → ℕ → ℕ) (c : Cell) → cell_byte source c ≡ cell_byte (other st source) c → IsStated st c
alike_stated st source (Byte b) e = tt
alike_stated st source (Place s p) e = some_where (text_at st s) (source s p) e

-- ---- the bytes of the current text

pub cell_in : (t : Table) (root : Option NodeId) (k : ℕ) → k < length (rope_cells t root) → get_or (rope_cells t root) k (Byte 0) ≡ rope_cell t root k
cell_in t None k lt = absurd (omega (arith, lt))
cell_in t (Some id) k lt = refl

pub cells_long : (e : Editing) → HoldsHistory e.session → length (rope_cells (session_table e.session) (current_root e)) ≡ current_len e
cells_long e h =
    let cells = rope_cells (session_table e.session) (current_root e) in
    sym (length-map cells (cell_byte no_source)) ∙ ap length (sym (current_text no_source e)) ∙ current_text_len e h no_source

byte_is : (source : ℕ → ℕ → ℕ) (e : Editing) → HoldsHistory e.session → (k : ℕ) → k < current_len e → get_or (current (state_of source e)) k 0 ≡ cell_byte source (current_cell e k)
byte_is source e h k lt =
    let cells = rope_cells (session_table e.session) (current_root e) in
    let inside : k < length cells = rw (cells_long e h) lt in
    ap (λ (t : List ℕ). get_or t k 0) (current_text source e) ∙ get_or-map (cell_byte source) cells k (Byte 0) 0 inside ∙ ap (cell_byte source) (cell_in (session_table e.session) (current_root e) k inside)

-- where all its cells are stated, each byte is the same
bytes_alike : (st : Stated) (source : ℕ → ℕ → ℕ) (e : Editing) → HoldsHistory e.session → EachCurrent e (IsStated st) → (k : ℕ) → get_or (current (state_of source e)) k 0 ≡ get_or (current (state_of (other st source) e)) k 0
bytes_alike st source e h each k =
    elim (cases_lt k (current_len e)) [
      | inl lt ↦ byte_is source e h k lt ∙ stated_alike st source (current_cell e k) (each k (omega arith) lt) ∙ sym (byte_is (other st source) e h k lt)
      | inr past ↦
          get_or_past (current (state_of source e)) k 0 (omega (arith, past, current_text_len e h source))
          ∙ sym (get_or_past (current (state_of (other st source) e)) k 0 (omega (arith, past, current_text_len e h (other st source))))
    ]

-- ---- a text that became another

-- the current text became f of it, whatever bytes the sources have that agree with what they state
abbrev pub Becomes : Stated → Editing → Editing → ((ℕ → ℕ → ℕ) → List ℕ → List ℕ) → Type 0
Becomes st old new f = (source : ℕ → ℕ → ℕ) → Agrees st source → current (state_of source new) ≡ f source (current (state_of source old))

-- a byte of it stands in the other: then its cell is stated, where all those of the other are
pub stated_before : (st : Stated) (old new : Editing) (f : (ℕ → ℕ → ℕ) → List ℕ → List ℕ) → HoldsHistory old.session → HoldsHistory new.session → Becomes st old new f
    → (source : ℕ → ℕ → ℕ) → Agrees st source → EachCurrent new (IsStated st) → (k j : ℕ) → k < current_len old
    → ((source : ℕ → ℕ → ℕ) (t : List ℕ) → length t ≡ current_len old → get_or (f source t) j 0 ≡ get_or t k 0) → IsStated st (current_cell old k)
stated_before st old new f h hn becomes source agrees each k j lt kept =
    let more = other st source in
    let here = kept source (current (state_of source old)) (current_text_len old h source) in
    let there = kept more (current (state_of more old)) (current_text_len old h more) in
    let same : get_or (current (state_of source old)) k 0 ≡ get_or (current (state_of more old)) k 0 =
    sym here ∙ ap (λ (t : List ℕ). get_or t j 0) (sym (becomes source agrees)) ∙ bytes_alike st source new hn each j ∙ ap (λ (t : List ℕ). get_or t j 0) (becomes more (other_agrees st source agrees)) ∙ there in
    alike_stated st source (current_cell old k) (sym (byte_is source old h k lt) ∙ same ∙ byte_is more old h k lt)

-- ---- the text of an earlier revision

-- where the current text is that of an earlier revision over any sources, and all its cells are stated, so are those
pub stated_revision : (st : Stated) (old new : Editing) (r : ℕ) → HoldsHistory new.session → ((source : ℕ → ℕ → ℕ) → Agrees st source → current (state_of source new) ≡ get_or (texts_of source old.session) r [])
    → (source : ℕ → ℕ → ℕ) → Agrees st source → EachCurrent new (IsStated st) → AreStated st (get_or (cells_of old.session) r [])
stated_revision st old new r hn same source agrees each i d lt =
    let cells = get_or (cells_of old.session) r [] in
    let byte = λ (from : ℕ → ℕ → ℕ) (from_agrees : Agrees st from).
    sym (get_or-map (cell_byte from) cells i d 0 lt) ∙ ap (λ (t : List ℕ). get_or t i 0) (sym (revision_is from old.session r) ∙ sym (same from from_agrees)) in
    let more = other st source in
    alike_stated st source (get_or cells i d) (byte source agrees ∙ bytes_alike st source new hn each i ∙ sym (byte more (other_agrees st source agrees)))
