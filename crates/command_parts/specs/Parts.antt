-- The parts of a command's text, and what they denote.
use Rattle.std.specs.Prelude.{◌≡◌, ℕ, Bool, true, false, IsTrue, ◌+◌, ◌-◌, ◌^◌, ◌<◌, ◌≤◌, List, [], ◌∷◌, length, map, take, drop, replicate, get_or, filter, Option, Some, None, nat_lt, if◌then◌else◌}
use Rattle.std.specs.List.{flat_map, sum_by, AllByRecursion, range_with_len}
use Rattle.rope_node.specs.declared.limits.TheConstants.{TEXT_LIMIT}
use Rattle.rope_node.specs.declared.node.NodeId.{NodeId}
use Rattle.rope_node.specs.Table.{Table}
use Rattle.rope_node.specs.Denotes.{Cell, Byte, Place, rope_cells, rope_len, IsRope}
use Rattle.command_parts.specs.Commands as Command
use Rattle.command_parts.specs.Commands.{Givens, FullEdit, can_splice}
use Rattle.command_parts.specs.declared.edit.Splice.{Splice}
use Rattle.command_parts.specs.declared.part.Part.{Part}
use Rattle.command_parts.specs.declared.part.Part.TheVariants.{Old, Pool, Source, Fill}

-- how many bytes a part has
abbrev pub part_len : Part → ℕ
part_len (Old rope i n) = n
part_len (Pool a n) = n
part_len (Source s n) = n
part_len (Fill c n) = n

abbrev pub parts_len : List Part → ℕ
parts_len parts = sum_by part_len parts

-- the cells that a part stands for: of an earlier text, of the pool, of a source from its first byte on, or a fill
abbrev pub part_cells : Table → Part → List Cell
part_cells t (Old rope i n) = take n (drop i (rope_cells t rope))
part_cells t (Pool a n) = map Byte (take n (drop a t.pool))
part_cells t (Source s n) = map (Place s) (range_with_len 0 n)
part_cells t (Fill c n) = replicate n (Byte c)

-- the things that a part stands for, where its own are given from outside and each rope stands for a list of them
abbrev pub part_things : {C : Type 0} → Givens C → (Option NodeId → List C) → Part → List C
part_things g of (Old rope i n) = take n (drop i (of rope))
part_things g of (Pool a n) = take n (drop a g.pool)
part_things g of (Source s n) = take n (get_or g.sources s [])
part_things g of (Fill c n) = replicate n (g.byte c)

-- what is given from outside is as long as a table's pool and sources
pub record HasLengths {C : Type 0} (t : Table) (g : Givens C) : Type 0 where
  pub pool : length g.pool ≡ length t.pool
  pub source_count : length g.sources ≡ length t.sources
  pub sources : (s : ℕ) → s < length t.sources → length (get_or g.sources s []) ≡ get_or t.sources s 0

-- what the parts denote, joined
abbrev pub parts_cells : Table → List Part → List Cell
parts_cells t parts = flat_map (part_cells t) parts

-- the span of a part lies inside what it is taken from
abbrev pub IsInside : Table → Part → Type 0
IsInside t (Old rope i n) = IsRope t rope × (i + n ≤ rope_len t rope)
IsInside t (Pool a n) = a + n ≤ length t.pool
IsInside t (Source s n) = (s < length t.sources) × (n ≤ get_or t.sources s 0)
IsInside t (Fill c n) = Unit {0}

-- a part is not empty, and its span lies inside what it is taken from
abbrev pub IsPart : Table → Part → Type 0
IsPart t part = (1 ≤ part_len part) × IsInside t part

-- each of them is such a part
abbrev pub AreParts : Table → List Part → Type 0
AreParts t parts = AllByRecursion (IsPart t) parts

-- the part that holds a place of the parts joined, and the place inside it
abbrev pub part_at : List Part → ℕ → Option (Part × ℕ)
part_at [] place = None
part_at (x ∷ xs) place = if nat_lt place (part_len x) then Some (x, place) else part_at xs (place - part_len x)

-- the root of an earlier revision
abbrev pub root_at : List (Option NodeId) → ℕ → Option NodeId
root_at roots r = get_or roots r None

-- a rope up to place p
abbrev pub front : Option NodeId → ℕ → Part
front rope p = Old rope 0 p

-- a rope from place p on
abbrev pub rest : Table → Option NodeId → ℕ → Part
rest t rope p = Old rope p (rope_len t rope - p)

-- all of a rope
abbrev pub whole : Table → Option NodeId → Part
whole t rope = Old rope 0 (rope_len t rope)

-- the parts of a rope of length len from place k on: what stands before each splice, the bytes that it puts in, and at
-- the end the rest
abbrev pub pieces : Option NodeId → ℕ → ℕ → List Splice → List Part
pieces rope len k [] = Old rope k (len - k) ∷ []
pieces rope len k (s ∷ splices) = Old rope k (s.p - k) ∷ Pool s.a s.n ∷ pieces rope len (s.p + s.m) splices

-- the splices stand one behind the other in a text of length len, from k on
abbrev pub Follow : ℕ → ℕ → List Splice → Type 0
Follow len k [] = k ≤ len
Follow len k (s ∷ splices) = (k ≤ s.p) × Follow len (s.p + s.m) splices

-- the terms of a command's text in their order
abbrev pub terms_of : Table → List (Option NodeId) → FullEdit → List Part
terms_of t roots Command.New = []
terms_of t roots (Command.Open s) = Source s (get_or t.sources s 0) ∷ []
terms_of t roots (Command.Insert r p a n) = front (root_at roots r) p ∷ Pool a n ∷ rest t (root_at roots r) p ∷ []
terms_of t roots (Command.Delete r p n) = front (root_at roots r) p ∷ rest t (root_at roots r) (p + n) ∷ []
terms_of t roots (Command.Replace r p m a n) =
    front (root_at roots r) p ∷ Pool a n ∷ rest t (root_at roots r) (p + m) ∷ []
terms_of t roots (Command.Paste r p q i n) =
    front (root_at roots r) p ∷ Old (root_at roots q) i n ∷ rest t (root_at roots r) p ∷ []
terms_of t roots (Command.Join r q) = whole t (root_at roots r) ∷ whole t (root_at roots q) ∷ []
terms_of t roots (Command.Cut r i n) = Old (root_at roots r) i n ∷ []
terms_of t roots (Command.Fill r p c n) = front (root_at roots r) p ∷ Fill c n ∷ rest t (root_at roots r) p ∷ []
terms_of t roots (Command.Back r) = whole t (root_at roots r) ∷ []
terms_of t roots (Command.Balance r) = whole t (root_at roots r) ∷ []
terms_of t roots (Command.Many r splices) = pieces (root_at roots r) (rope_len t (root_at roots r)) 0 splices

-- the parts that have a byte
abbrev pub nonempty : List Part → List Part
nonempty parts = filter (λ part. nat_lt 0 (part_len part)) parts

-- the parts of a command: its terms that are not empty
abbrev pub parts_of : Table → List (Option NodeId) → FullEdit → List Part
parts_of t roots edit = nonempty (terms_of t roots edit)

-- each root is nil or a node of the table
abbrev pub AreRopes : Table → List (Option NodeId) → Type 0
AreRopes t roots = (r : ℕ) → r < length roots → IsRope t (root_at roots r)

-- the length of an earlier text is its root's
abbrev pub len_of : Table → List (Option NodeId) → ℕ → ℕ
len_of t roots r = rope_len t (root_at roots r)

-- a command is in range over the lengths of the earlier texts, the pool and the sources
abbrev pub IsInRange : Table → List (Option NodeId) → FullEdit → Type 0
IsInRange t roots Command.New = Unit {0}
IsInRange t roots (Command.Open s) = s < length t.sources
IsInRange t roots (Command.Insert r p a n) =
    (r < length roots) × (p ≤ len_of t roots r) × (1 ≤ n) × (a + n ≤ length t.pool)
    × (len_of t roots r + n < TEXT_LIMIT)
IsInRange t roots (Command.Delete r p n) = (r < length roots) × (p + n ≤ len_of t roots r)
IsInRange t roots (Command.Replace r p m a n) =
    (r < length roots) × (p + m ≤ len_of t roots r) × (1 ≤ n) × (a + n ≤ length t.pool)
    × (len_of t roots r + n < TEXT_LIMIT + m)
IsInRange t roots (Command.Paste r p q i n) =
    (r < length roots) × (p ≤ len_of t roots r) × (q < length roots) × (i + n ≤ len_of t roots q)
    × (len_of t roots r + n < TEXT_LIMIT)
IsInRange t roots (Command.Join r q) =
    (r < length roots) × (q < length roots) × (len_of t roots r + len_of t roots q < TEXT_LIMIT)
IsInRange t roots (Command.Cut r i n) = (r < length roots) × (i + n ≤ len_of t roots r)
IsInRange t roots (Command.Fill r p c n) =
    (r < length roots) × (p ≤ len_of t roots r) × (c ≤ 255) × (len_of t roots r + n < TEXT_LIMIT)
IsInRange t roots (Command.Back r) = r < length roots
IsInRange t roots (Command.Balance r) = r < length roots
IsInRange t roots (Command.Many r splices) =
    (r < length roots) × IsTrue (can_splice (length t.pool) (len_of t roots r) splices)
    × (len_of t roots r + sum_by (λ s. s.n) splices < TEXT_LIMIT + sum_by (λ s. s.m) splices)

-- what a command takes its cells from
abbrev pub givens_of : Table → Givens Cell
givens_of t = record {
  pool = map Byte t.pool;
  sources = map (λ s. map (Place s) (range_with_len 0 (get_or t.sources s 0))) (range_with_len 0 (length t.sources));
  byte = Byte;
}

-- ---- parts one behind the other

-- the pieces that are left, while the last one is to come
abbrev pub pieces_left : Bool → Option NodeId → ℕ → ℕ → List Splice → List Part
pieces_left true rope len k splices = pieces rope len k splices
pieces_left false rope len k splices = []

-- the splices that are left of all, from place next on, and how far the rope is cut
pub record IsCutting (all : List Splice) (len k next left : ℕ) : Type 0 where
  pub there : next + left ≤ length all
  pub fit : next + left < 2 ^ 32
  pub follow : Follow len k (take left (drop next all))
