-- Cells among others, and reads of them.
use Rattle.std.proofs.Common.{◌≡◌, ℕ, ◌+◌, ◌-◌, ◌<◌, List, [], ◌∷◌, ◌++◌, map, length, take, drop, refl, sym, ap, subst, ◌∙◌, arith, inl, inr}
use Rattle.std.specs.Prelude.{All, Result}
use Rattle.std.specs.List.{range_with_len}
use Rattle.std.proofs.lemmas.Bool.{cases_lt}
use Rattle.std.proofs.lemmas.List.{get_or_append_left, get_or-append-add, get_or-take, get_or-drop, get_or-map, length-append, length-take, length-drop}
use Rattle.std.proofs.lemmas.List.Elements.{All-get_or, All-from_get_or, All-map, All-nil, All-append, All-head, All-tail}
use Rattle.std.proofs.lemmas.List.FromFn.{length-map-range_with_len, get_or-range_with_len, length-range_with_len}
use Rattle.rope_node.specs.Denotes.{Cell, Byte, Place}
use Rattle.lazy_file.specs.Readings.{fault_in, Reading}
use Rattle.lazy_file.specs.declared.faults.SourceFault.{SourceFault}
use Rattle.cord_position.specs.Fetched.{EachCell, InCells, ReadsSpan}
use Rattle.lazy_file.proofs.LaterReads.{reads_then, reads_weaker}
use Rattle.span_certificate.specs.declared.row.RowKind.{RowKind}
use Rattle.span_certificate.specs.declared.row.RowKind.TheVariants.{Shared, Leaf, Bytes}
use Rattle.span_certificate.specs.Covers.{IsByte, compared}
use Rattle.span_certificate.specs.SpanRows.{AreBytes}
use Rattle.span_certificate.specs.Runs.{AmongCells, listed_cell, ReadsCells}

-- each of these cells is one of the others
abbrev pub AreAmong : List Cell → List Cell → Type 0
AreAmong xs ys = (k : ℕ) → k < length xs → (m : ℕ) × (m < length ys) × (listed_cell ys m ≡ listed_cell xs k)

pub among_first : (xs ys : List Cell) → AreAmong xs (xs ++ ys)
among_first xs ys k lt = (k, omega (arith, length-append xs ys), get_or_append_left xs ys (Byte 0) k lt)

pub among_second : (xs ys : List Cell) → AreAmong ys (xs ++ ys)
among_second xs ys k lt = (length xs + k, omega (arith, length-append xs ys), get_or-append-add xs ys k (Byte 0))

-- a span of cells is among them
pub among_span : (n o : ℕ) (xs : List Cell) → AreAmong (take n (drop o xs)) xs
among_span n o xs k lt =
    let len = length-take n (drop o xs) in
    let short : k < n = omega arith in
    (o + k, omega (arith, length-drop o xs), sym (get_or-take n (drop o xs) k (Byte 0) short ∙ get_or-drop o xs k (Byte 0)))

pub among_through : (xs ys zs : List Cell) → AreAmong xs ys → AreAmong ys zs → AreAmong xs zs
among_through xs ys zs first second k lt =
    let (m, inside, is) = first k lt in
    let (l, inside', is') = second m inside in
    (l, inside', is' ∙ is)

pub among_both : (xs ys zs : List Cell) → AreAmong xs zs → AreAmong ys zs → AreAmong (xs ++ ys) zs
among_both xs ys zs first second k lt =
    elim (cases_lt k (length xs)) [
      | inl before ↦ let found = first k before in (found.0, found.1, found.2 ∙ sym (get_or_append_left xs ys (Byte 0) k before))
      | inr past ↦
          let at : length xs + (k - length xs) ≡ k = omega (arith, past) in
          let found = second (k - length xs) (omega (arith, past, length-append xs ys)) in
          (found.0, found.1, found.2 ∙ sym (get_or-append-add xs ys (k - length xs) (Byte 0)) ∙ ap (listed_cell (xs ++ ys)) at)
    ]

pub all_among : (P : Cell → Type 0) (xs ys : List Cell) → AreAmong xs ys → All P ys → All P xs
all_among P xs ys among all = All-from_get_or P xs (Byte 0) (λ k lt. let found = among k lt in subst P found.2 (All-get_or P ys found.0 (Byte 0) found.1 all))

-- what holds of all cells of a list, by their places
pub each_listed : (P : Cell → Type 0) (xs : List Cell) → All P xs → EachCell (listed_cell xs) 0 (length xs) P
each_listed P xs all p above below = All-get_or P xs p (Byte 0) below all

-- what a call does that reads cells among these, behind calls that answered no fault
pub cells_among : {X : Type 0} (old mid new : Reading) (xs ys : List Cell) (r : Result X SourceFault) → mid ≡ old → ReadsCells mid new xs r → AreAmong xs ys → ReadsCells old new ys r
cells_among old mid new xs ys r before h among =
    reads_then old mid new (AmongCells ys) (fault_in r) before
    (reads_weaker mid new (AmongCells xs) (AmongCells ys) (fault_in r) (λ s p asked. let found = among asked.0 asked.2 in (found.0, omega arith, found.1, found.2 ∙ asked.3)) h)

-- a read of a span of a source is one of its places
pub read_places : {X : Type 0} (old new : Reading) (s p n : ℕ) (r : Result X SourceFault) → ReadsSpan old new (Place s) p (p + n) r → ReadsCells old new (map (Place s) (range_with_len p n)) r
read_places old new s p n r h =
    reads_weaker old new (InCells (Place s) p (p + n)) (AmongCells (map (Place s) (range_with_len p n))) (fault_in r)
    (λ q o asked.
    let (k, from, until, is) = asked in
    let lt : k - p < n = omega (arith, from, until) in
    let at : p + (k - p) ≡ k = omega (arith, from) in
    let end : k - p < length (map (Place s) (range_with_len p n)) = rw length-map-range_with_len lt in
    (k - p, omega arith, end, get_or-map (Place s) (range_with_len p n) (k - p) 0 (Byte 0) (rw length-range_with_len lt) ∙ ap (Place s) (get_or-range_with_len p n (k - p) 0 lt ∙ at) ∙ is))
    h

-- bytes, told of each cell
pub each_byte : (cs : List Cell) → AreBytes cs → All IsByte cs
each_byte cs (bytes, is) = rw is (All-map IsByte Byte bytes (λ k d lt. tt))

pub bytes_of_each : (cs : List Cell) → All IsByte cs → AreBytes cs
bytes_of_each [] all = ([], refl)
bytes_of_each (Byte b ∷ cs) all = let rest = bytes_of_each cs (All-tail IsByte (Byte b) cs all) in (b ∷ rest.0, ap (λ xs. Byte b ∷ xs) rest.1)
bytes_of_each (Place s p ∷ cs) all = absurd (All-head IsByte (Place s p) cs all)

-- P holds of all that a row compares, if it holds of both sides wherever the row is one of bytes
pub all_compared : (P : Cell → Type 0) (kind : RowKind) (xs ys : List Cell) → (kind ≡ Bytes → All P xs × All P ys) → All P (compared kind xs ys)
all_compared P (Shared k o) xs ys both = All-nil P
all_compared P Leaf xs ys both = All-nil P
all_compared P Bytes xs ys both = let held = both refl in All-append P xs ys held.0 held.1

pub compared_all : (P : Cell → Type 0) (kind : RowKind) (xs ys : List Cell) → kind ≡ Bytes → All P (compared kind xs ys) → All P xs × All P ys
compared_all P kind xs ys is all =
    let whole : All P (xs ++ ys) = rw is at all in
    (all_among P xs (xs ++ ys) (among_first xs ys) whole, all_among P ys (xs ++ ys) (among_second xs ys) whole)
