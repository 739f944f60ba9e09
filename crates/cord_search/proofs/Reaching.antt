-- Positions that go through a text: where they stand next, and what is read there.
use Rattle.std.proofs.Common.{◌≡◌, Bool, true, ℕ, ◌+◌, ◌<◌, ◌≤◌, min, length, take, drop, Option, Some, None, refl, inl, inr, sym, subst, ap, ◌∙◌, List, arith}
use Rattle.std.specs.Prelude.{◌↔◌, Result, Ok, Err, IfOk, IsSome, slice_get}
use Rattle.std.proofs.lemmas.Bool.{cases_lt}
use Rattle.std.proofs.lemmas.List.{get_or_past, length-map}
use Rattle.std.proofs.lemmas.Option.{slice_get_past}
use Rattle.rope_node.specs.declared.node.NodeId.{NodeId}
use Rattle.rope_node.specs.Table.{Table}
use Rattle.rope_node.specs.Denotes.{Cell, Byte, cell_byte, cells, rope_cells, rope_len, text}
use Rattle.lazy_file.specs.SourceTexts.{Agrees, Stated}
use Rattle.lazy_file.specs.Readings.{fault_in, Reading}
use Rattle.lazy_file.proofs.LaterReads.{reads_weaker}
use Rattle.cord_position.proofs.Spans.{failed_in}
use Rattle.lazy_file.specs.declared.faults.SourceFault.{SourceFault}
use Rattle.cord_position.specs.Fetched.{EachCell, InCells, IsFetched, IsStated, ReadsSpan, rope_cell}
use Rattle.cord_position.specs.Position.{Position, text_len}
use Rattle.cord_search.specs.Reached.{StandsAtPlace}
use Rattle.cord_search.specs.Pieces.{IsPiece, IsPieceHere}
use Rattle.cord_search.proofs.Pieces.{piece_all, piece_first}

-- the text of a position is as long as its rope's
pub there_len : {S : Type 0} (table : S → Table) (here : Position S) (s : S) (x : Option NodeId) (p : ℕ) → StandsAtPlace table here s x p → text_len table here ≡ rope_len (table s) x
there_len table here s x p at = ap (λ y. rope_len (table y) here.rope) at.space ∙ ap (rope_len (table s)) at.rope

-- a position that was set to a place stands there
pub set_there : {S : Type 0} (table : S → Table) (here : Position S) (s : S) (x : Option NodeId) (p : ℕ) → here.space ≡ s → here.rope ≡ x → here.index ≡ min p (rope_len (table s) x) → StandsAtPlace table here s x p
set_there table here s x p space rope index = record { space = space; rope = rope; index = index }

-- n places on
pub later_place : {S : Type 0} (table : S → Table) (old new : Position S) (s : S) (x : Option NodeId) (p n : ℕ)
    → new.space ≡ old.space → new.rope ≡ old.rope → new.index ≡ min (old.index + n) (text_len table old) → StandsAtPlace table old s x p → StandsAtPlace table new s x (p + n)
later_place table old new s x p n space rope index at =
    let len = there_len table old s x p at in
    record {
      space = space ∙ at.space;
      rope = rope ∙ at.rope;
      index = omega (arith, index, len, at.index);
    }

-- one place on
pub next_place : {S : Type 0} (table : S → Table) (old new : Position S) (s : S) (x : Option NodeId) (p q : ℕ) → q ≡ p + 1
    → new.space ≡ old.space → new.rope ≡ old.rope → new.index ≡ min (old.index + 1) (text_len table old) → StandsAtPlace table old s x p → StandsAtPlace table new s x q
next_place table old new s x p q is space rope index at =
    let len : text_len table old ≡ rope_len (table s) x = ap (λ y. rope_len (table y) old.rope) at.space ∙ ap (rope_len (table s)) at.rope in
    record {
      space = space ∙ at.space;
      rope = rope ∙ at.rope;
      index = omega (arith, is, index, len, at.index);
    }

-- past the end there is no source's cell
pub cell_past : (t : Table) (x : Option NodeId) (p : ℕ) → length (rope_cells t x) ≤ p → rope_cell t x p ≡ Byte 0
cell_past t None p past = refl
cell_past t (Some id) p past = get_or_past (cells t id.0) p (Byte 0) past

pub stated_past : (t : Table) (st : Stated) (x : Option NodeId) (i end : ℕ) → EachCell (rope_cell t x) i (length (rope_cells t x)) (IsStated st) → EachCell (rope_cell t x) i end (IsStated st)
stated_past t st x i end stated p above below =
    elim (cases_lt p (length (rope_cells t x))) [
      | inl lt ↦ stated p above lt
      | inr past ↦ subst (IsStated st) (sym (cell_past t x p past)) tt
    ]

-- a byte at the end is one at any place past it
pub fetched_past_end : (t : Table) (st : Stated) (x : Option NodeId) (p : ℕ) (found : Option ℕ) → length (rope_cells t x) ≡ rope_len t x → IsFetched t st x (min p (rope_len t x)) found → IsFetched t st x p found
fetched_past_end t st x p found long h =
    elim (cases_lt p (rope_len t x)) [
      | inl lt ↦ let same : min p (rope_len t x) ≡ p = omega (arith, lt) in subst (λ (q : ℕ). IsFetched t st x q found) same h
      | inr past ↦ λ source agrees stated.
          let end : min p (rope_len t x) ≡ rope_len t x = omega (arith, past) in
          let u = text source (rope_cells t x) in
          let whole : length u ≡ rope_len t x = length-map (rope_cells t x) (cell_byte source) ∙ long in
          let at = subst (λ (q : ℕ). IsFetched t st x q found) end h in
          at source agrees (subst (IsStated st) (sym (cell_past t x (rope_len t x) (omega (arith, long)))) tt)
          ∙ slice_get_past u (rope_len t x) (omega (arith, whole)) ∙ sym (slice_get_past u p (omega (arith, whole, past)))
    ]

-- the same of a read of it
reads_past_end : {X : Type 0} (old new : Reading) (t : Table) (x : Option NodeId) (p n : ℕ) (r : Result X SourceFault) → length (rope_cells t x) ≡ rope_len t x
    → ReadsSpan old new (rope_cell t x) (min p (rope_len t x)) (min p (rope_len t x) + n) r → ReadsSpan old new (rope_cell t x) p (p + n) r
reads_past_end old new t x p n r long h =
    elim (cases_lt p (rope_len t x)) [
      | inl lt ↦ let same : min p (rope_len t x) ≡ p = omega (arith, lt) in subst (λ (q : ℕ). ReadsSpan old new (rope_cell t x) q (q + n) r) same h
      | inr past ↦
          let q = min p (rope_len t x) in
          let end : length (rope_cells t x) ≤ q = omega (arith, past, long) in
          reads_weaker old new (InCells (rope_cell t x) q (q + n)) (InCells (rope_cell t x) p (p + n)) (fault_in r)
          (λ s' o asked. let no = sym (cell_past t x asked.0 (omega (arith, end, asked.1))) ∙ asked.3 in absurd cc) h
    ]

-- what a position reads is the byte of the place
pub fetched_there : {S : Type 0} (table : S → Table) (here : Position S) (s : S) (x : Option NodeId) (p : ℕ) (st : Stated) (r : Result (Option ℕ) SourceFault)
    → StandsAtPlace table here s x p → length (rope_cells (table s) x) ≡ rope_len (table s) x
    → IfOk r (IsFetched (table here.space) st here.rope here.index) → IfOk r (IsFetched (table s) st x p)
fetched_there table here s x p st (Err e) at long h = tt
fetched_there table here s x p st (Ok found) at long h =
    let in_space = subst (λ z. IsFetched (table z) st here.rope here.index found) at.space h in
    let in_rope = subst (λ y. IsFetched (table s) st y here.index found) at.rope in_space in
    fetched_past_end (table s) st x p found long (subst (λ (q : ℕ). IsFetched (table s) st x q found) at.index in_rope)

-- there is one exactly where the place is inside the text
pub inside_there : {S : Type 0} (table : S → Table) (here : Position S) (s : S) (x : Option NodeId) (p : ℕ) (r : Result (Option ℕ) SourceFault) → StandsAtPlace table here s x p
    → IfOk r (λ found. IsSome found ↔ here.index < text_len table here) → IfOk r (λ found. IsSome found ↔ p < rope_len (table s) x)
inside_there table here s x p (Err e) at h = tt
inside_there table here s x p (Ok found) at h =
    let len : text_len table here ≡ rope_len (table s) x = ap (λ y. rope_len (table y) here.rope) at.space ∙ ap (rope_len (table s)) at.rope in
    (λ some. omega (arith, h.0 some, at.index, len), λ below. h.1 (omega (arith, below, at.index, len)))

pub reads_there : {X S : Type 0} (old new : Reading) (table : S → Table) (here : Position S) (s : S) (x : Option NodeId) (p n : ℕ) (r : Result X SourceFault)
    → StandsAtPlace table here s x p → length (rope_cells (table s) x) ≡ rope_len (table s) x
    → ReadsSpan old new (rope_cell (table here.space) here.rope) here.index (here.index + n) r → ReadsSpan old new (rope_cell (table s) x) p (p + n) r
reads_there old new table here s x p n r at long h =
    let in_space = subst (λ z. ReadsSpan old new (rope_cell (table z) here.rope) here.index (here.index + n) r) at.space h in
    let in_rope = subst (λ y. ReadsSpan old new (rope_cell (table s) y) here.index (here.index + n) r) at.rope in_space in
    reads_past_end old new (table s) x p n r long (subst (λ (q : ℕ). ReadsSpan old new (rope_cell (table s) x) q (q + n) r) at.index in_rope)

-- where a read from a position on failed
pub failed_there : {S : Type 0} (old mid new : Reading) (table : S → Table) (here : Position S) (s : S) (x : Option NodeId) (i j p n : ℕ) (e : SourceFault)
    → mid ≡ old → StandsAtPlace table here s x p → length (rope_cells (table s) x) ≡ rope_len (table s) x
    → ReadsSpan {X = Unit {0}} mid new (rope_cell (table here.space) here.rope) here.index (here.index + n) (Err e) → i ≤ p → p + n ≤ j
    → ReadsSpan {X = Unit {0}} old new (rope_cell (table s) x) i j (Err e)
failed_there old mid new table here s x i j p n e before at long h from until =
    let there = reads_there {X = Unit {0}} mid new table here s x p n (Err e) at long h in
    failed_in {X = Unit {0}} old mid new (rope_cell (table s) x) i j p (p + n) (Err e) before there from until

-- the bytes from a position on are those from its place on
pub piece_there : {S : Type 0} (table : S → Table) (here : Position S) (s : S) (x : Option NodeId) (p : ℕ) (st : Stated) (bytes : List ℕ) → StandsAtPlace table here s x p
    → here.index + length bytes ≤ text_len table here → IsPieceHere table st here bytes → IsPiece (table s) st x p bytes
piece_there table here s x p st bytes at inside piece =
    let in_space = subst (λ z. IsPiece (table z) st here.rope here.index bytes) at.space piece in
    let in_rope = subst (λ y. IsPiece (table s) st y here.index bytes) at.rope in_space in
    elim (cases_lt 0 (length bytes)) [
      | inl some ↦ let same : here.index ≡ p = omega (arith, some, inside, there_len table here s x p at, at.index) in subst (λ (q : ℕ). IsPiece (table s) st x q bytes) same in_rope
      | inr none ↦ λ source agrees k lt. absurd (omega (arith, none, lt))
    ]

-- they are the text's where their cells are stated, over later sources too
pub bytes_there : {S : Type 0} (table : S → Table) (here : Position S) (s : S) (x : Option NodeId) (p : ℕ) (old new : Stated) (bytes : List ℕ) (source : ℕ → ℕ → ℕ) → StandsAtPlace table here s x p
    → here.index + length bytes ≤ text_len table here → IsPieceHere table new here bytes → new ≡ old → Agrees old source → EachCell (rope_cell (table s) x) p (p + length bytes) (IsStated old)
    → bytes ≡ take (length bytes) (drop p (text source (rope_cells (table s) x)))
bytes_there table here s x p old new bytes source at inside piece same agrees stated =
    piece_all (table s) old new x p bytes source same agrees (piece_there table here s x p new bytes at inside piece) stated

pub first_there : {S : Type 0} (table : S → Table) (here : Position S) (s : S) (x : Option NodeId) (p q : ℕ) (old new : Stated) (bytes : List ℕ) (source : ℕ → ℕ → ℕ) → StandsAtPlace table here s x p
    → here.index + length bytes ≤ text_len table here → IsPieceHere table new here bytes → new ≡ old → Agrees old source → q ≤ length bytes → EachCell (rope_cell (table s) x) p (p + q) (IsStated old)
    → take q bytes ≡ take q (drop p (text source (rope_cells (table s) x)))
first_there table here s x p q old new bytes source at inside piece same agrees le stated =
    piece_first (table s) old new x p q bytes source same agrees (piece_there table here s x p new bytes at inside piece) le stated

pub byte_there : {S : Type 0} (table : S → Table) (here : Position S) (s : S) (x : Option NodeId) (p k : ℕ) (old new : Stated) (bytes : List ℕ) (source : ℕ → ℕ → ℕ) → StandsAtPlace table here s x p
    → here.index + length bytes ≤ text_len table here → IsPieceHere table new here bytes → new ≡ old → Agrees old source → k < length bytes → IsStated old (rope_cell (table s) x (p + k))
    → slice_get bytes k ≡ slice_get (text source (rope_cells (table s) x)) (p + k)
byte_there table here s x p k old new bytes source at inside piece same agrees lt stated =
    let there = subst (λ st. IsPiece (table s) st x p bytes) same (piece_there table here s x p new bytes at inside piece) in
    there source agrees k lt stated

-- the same of the whole piece
pub piece_at : {S : Type 0} (table : S → Table) (here : Position S) (s : S) (x : Option NodeId) (p : ℕ) (old new : Stated) (bytes : List ℕ) → StandsAtPlace table here s x p
    → here.index + length bytes ≤ text_len table here → IsPieceHere table new here bytes → new ≡ old → IsPiece (table s) old x p bytes
piece_at table here s x p old new bytes at inside piece same = subst (λ st. IsPiece (table s) st x p bytes) same (piece_there table here s x p new bytes at inside piece)

-- whether bytes are left there
pub valid_there : {S : Type 0} (table : S → Table) (here : Position S) (s : S) (x : Option NodeId) (p : ℕ) (valid : Bool) → StandsAtPlace table here s x p
    → (valid ≡ true) ↔ (here.index < text_len table here) → (valid ≡ true) ↔ (p < rope_len (table s) x)
valid_there table here s x p valid at is =
    let len = there_len table here s x p at in
    (λ yes. omega (arith, is.0 yes, len, at.index), λ below. is.1 (omega (arith, below, len, at.index)))

-- the bytes from a place on are those from its position on, and so is a read
pub piece_back : {S : Type 0} (table : S → Table) (here : Position S) (s : S) (x : Option NodeId) (p : ℕ) (st : Stated) (bytes : List ℕ) → here.space ≡ s → here.rope ≡ x → p ≡ here.index
    → IsPiece (table s) st x p bytes → IsPieceHere table st here bytes
piece_back table here s x p st bytes space rope index piece =
    let in_space = subst (λ z. IsPiece (table z) st x p bytes) (sym space) piece in
    let in_rope = subst (λ y. IsPiece (table here.space) st y p bytes) (sym rope) in_space in
    subst (λ (q : ℕ). IsPiece (table here.space) st here.rope q bytes) index in_rope

pub reads_back : {X S : Type 0} (old new : Reading) (table : S → Table) (here : Position S) (s : S) (x : Option NodeId) (p n : ℕ) (r : Result X SourceFault) → here.space ≡ s → here.rope ≡ x → p ≡ here.index
    → ReadsSpan old new (rope_cell (table s) x) p (p + n) r → ReadsSpan old new (rope_cell (table here.space) here.rope) here.index (here.index + n) r
reads_back old new table here s x p n r space rope index h =
    let in_space = subst (λ z. ReadsSpan old new (rope_cell (table z) x) p (p + n) r) (sym space) h in
    let in_rope = subst (λ y. ReadsSpan old new (rope_cell (table here.space) y) p (p + n) r) (sym rope) in_space in
    subst (λ (q : ℕ). ReadsSpan old new (rope_cell (table here.space) here.rope) q (q + n) r) index in_rope

-- a call that reads some of the cells reads no others
pub reads_more : {X : Type 0} (old new : Reading) (cell : ℕ → Cell) (i j k : ℕ) (r : Result X SourceFault) → k ≤ j → ReadsSpan old new cell i k r → ReadsSpan old new cell i j r
reads_more old new cell i j k r le h = failed_in old old new cell i j i k r refl h (omega arith) le
