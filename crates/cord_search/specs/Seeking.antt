-- A search that takes a text run by run: what it has found so far.
use Rattle.std.specs.Prelude.{◌≡◌, ℕ, ◌+◌, ◌-◌, ◌*◌, ◌<◌, ◌≤◌, max, List, length, slice_index, Option, Some, None}
use Rattle.rope_node.specs.declared.node.NodeId.{NodeId}
use Rattle.rope_node.specs.Table.{Table, len_at}
use Rattle.rope_node.specs.Denotes.{cell_at, cells, rope_cells}
use Rattle.lazy_file.specs.SourceTexts.{Stated}
use Rattle.memchr.specs.Find.{Nowhere}
use Rattle.cord_position.specs.Fetched.{rope_cell}
use Rattle.cord_search.specs.Pieces.{IsPiece}
use Rattle.cord_search.specs.Places.{IsFromOn}
use Rattle.cord_search.specs.Skipped.{IsClear}
use Rattle.cord_search.specs.Stated.{FindsFirst, OfSpan}
use Rattle.cord_search.specs.declared.seeker.Seeker.{Seeker}

-- s may begin at place k of these bytes: as far as both go, they are the same from there on
abbrev pub MayBegin : List ℕ → List ℕ → ℕ → Type 0
MayBegin s bytes k = (j : ℕ) → j < length s → k + j < length bytes → slice_index bytes (k + j) ≡ slice_index s j

-- it begins at none of the first n places
abbrev pub CannotBegin : List ℕ → List ℕ → ℕ → Type 0
CannotBegin s bytes n = Nowhere (MayBegin s bytes) 0 n

-- the pattern has some bytes, and the ring has room for twice as many
pub record IsSeeker (s : Seeker) : Type 0 where
  pub some : 1 ≤ length s.finder
  pub capacity : s.ring.capacity ≡ 2 * length s.finder
  pub room : length s.ring.items ≤ s.ring.capacity
  pub taken : length s.ring.items ≤ s.place

-- s stands at no place of the rope's text from place start up to place k; it rests on the cells from start up to the end of
-- what could stand at the last of these
abbrev pub IsClearTo : Table → Stated → Option NodeId → List ℕ → ℕ → ℕ → Type 0
IsClearTo t st rope s start k = (end : ℕ) → k + length s ≤ end + 1 → OfSpan t st rope start end (λ u. IsClear s u start k)

-- a search of the rope's text from place start on has come to its place: the ring holds the text's bytes before that place,
-- and the pattern stands nowhere before these
pub record IsSeeking (t : Table) (st : Stated) (rope : Option NodeId) (start : ℕ) (s : Seeker) : Type 0 where
  pub from : start + length s.ring.items ≤ s.place
  pub inside : s.place ≤ max start (length (rope_cells t rope))
  pub bytes : IsPiece t st rope (s.place - length s.ring.items) s.ring.items
  pub clear : IsClearTo t st rope s.finder start (s.place - length s.ring.items)

-- it found the first place of the pattern, or it goes on
abbrev pub IsSought : Table → Stated → Option NodeId → ℕ → Seeker → Option ℕ → Type 0
IsSought t st rope start s (Some k) = FindsFirst t st rope s.finder start (Some k)
    × IsFromOn s.finder start (length (rope_cells t rope)) (Some k)
IsSought t st rope start s None = IsSeeking t st rope start s

-- a leaf's cells are the same again after p of them
pub record IsLeafPeriod (t : Table) (leaf : NodeId) (p : ℕ) : Type 0 where
  pub some : 1 ≤ p
  pub same : (k : ℕ) → k + p < len_at t leaf.0 → cell_at t leaf.0 (k + p) ≡ cell_at t leaf.0 k

-- so are len cells of a rope from place i on
pub record RepeatsFrom (t : Table) (rope : Option NodeId) (i len p : ℕ) : Type 0 where
  pub some : 1 ≤ p
  pub same : (k : ℕ) → k + p < len → rope_cell t rope (i + (k + p)) ≡ rope_cell t rope (i + k)
