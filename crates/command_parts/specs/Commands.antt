-- What each command makes of the texts before it, and what a history is. A text is a list of any things, so that this
-- serves bytes and cells alike.
use Rattle.std.specs.Prelude.{◌≡◌, ℕ, ◌+◌, ◌^◌, ◌<◌, ◌≤◌, List, [], ◌∷◌, ◌++◌, length, take, drop, replicate, slice_get, Option, Some, None, Bool, true, ◌&&◌, ◌||◌, ◌==◌, nat_le, nat_lt, if◌then◌else◌}
use Rattle.std.specs.List.{list_all}
use Rattle.rope_node.specs.declared.limits.TheConstants.{TEXT_LIMIT}
use Rattle.command_parts.specs.declared.edit.Edit.{Edit}
use Rattle.command_parts.specs.declared.edit.Edit.TheVariants as Recorded
use Rattle.command_parts.specs.declared.edit.Splice.{Splice}
use Rattle.command_parts.specs.declared.edit.TheConstants.{MOST_SPLICES}

-- ---- commands

-- a command, with the splices themselves in place of their places
pub data FullEdit : Type 0 where
  New : FullEdit
  Open : (s : ℕ) → FullEdit
  Insert : (r p a n : ℕ) → FullEdit
  Delete : (r p n : ℕ) → FullEdit
  Replace : (r p m a n : ℕ) → FullEdit
  Paste : (r p q i n : ℕ) → FullEdit
  Join : (r q : ℕ) → FullEdit
  Cut : (r i n : ℕ) → FullEdit
  Fill : (r p c n : ℕ) → FullEdit
  Back : (r : ℕ) → FullEdit
  Balance : (r : ℕ) → FullEdit
  Many : (r : ℕ) (splices : List Splice) → FullEdit

-- what a recorded command says, where these are the splices that it names
abbrev pub with_splices : List Splice → Edit → FullEdit
with_splices splices Recorded.New = New
with_splices splices (Recorded.Open s) = Open s
with_splices splices (Recorded.Insert r p a n) = Insert r p a n
with_splices splices (Recorded.Delete r p n) = Delete r p n
with_splices splices (Recorded.Replace r p m a n) = Replace r p m a n
with_splices splices (Recorded.Paste r p q i n) = Paste r p q i n
with_splices splices (Recorded.Join r q) = Join r q
with_splices splices (Recorded.Cut r i n) = Cut r i n
with_splices splices (Recorded.Fill r p c n) = Fill r p c n
with_splices splices (Recorded.Back r) = Back r
with_splices splices (Recorded.Balance r) = Balance r
with_splices splices (Recorded.Many r first count) = Many r splices

-- the splices that a recorded command names, where these are all splices
abbrev pub named_splices : List Splice → Edit → List Splice
named_splices all (Recorded.Many r first count) = take count (drop first all)
named_splices all _ = []

-- what a recorded command says, where these are all splices
abbrev pub full_edit : List Splice → Edit → FullEdit
full_edit all edit = with_splices (named_splices all edit) edit

-- the places of the splices that a recorded command names are places of that list, and fit 32 bits
abbrev pub NamesSplices : List Splice → Edit → Type 0
NamesSplices all (Recorded.Many r first count) = (first + count ≤ length all) × (first + count < 2 ^ 32)
NamesSplices all _ = Unit {0}

-- ---- results

-- what a command may take from outside the earlier texts: the pool, the sources, and what stands for a byte
pub record Givens (C : Type 0) : Type 0 where
  pub pool : List C
  pub sources : List (List C)
  pub byte : ℕ → C

-- what f gives of what is there, and nothing where there is none; `do` stands for a chain of these
infixl 10 ◌>>=◌
abbrev pub ◌>>=◌ : {A B : Type 0} → Option A → (A → Option B) → Option B
None >>= f = None
(Some x) >>= f = f x

-- the n things of t from i on, where they lie inside
abbrev pub span : {C : Type 0} → List C → ℕ → ℕ → Option (List C)
span t i n = if nat_le (i + n) (length t) then Some (take n (drop i t)) else None

-- t, where it is not too long
abbrev pub bounded : {C : Type 0} → List C → Option (List C)
bounded t = if nat_lt (length t) TEXT_LIMIT then Some t else None

-- t with its m things from p on replaced by x
abbrev pub replaced : {C : Type 0} → List C → ℕ → ℕ → List C → List C
replaced t p m x = take p t ++ x ++ drop (p + m) t

-- t with its m things from p on replaced by x, where those lie in t and the whole is not too long
abbrev pub spliced : {C : Type 0} → List C → ℕ → ℕ → List C → Option (List C)
spliced t p m x = if nat_le (p + m) (length t) then bounded (replaced t p m x) else None

-- a splice names things of a text and of a pool of these lengths, and takes away or puts in at least one; where it puts
-- in none, its place in the pool is 0
abbrev pub is_splice : ℕ → ℕ → Splice → Bool
is_splice pool_len len s =
    nat_le (s.p + s.m) len && nat_le (s.a + s.n) pool_len && nat_le 1 (s.m + s.n) && (nat_le 1 s.n || s.a == 0)

-- the next splice, where there is one, stands above this one, and at its end or behind it
abbrev pub stands_before : Splice → List Splice → Bool
stands_before s [] = true
stands_before s (u ∷ splices) = nat_lt s.p u.p && nat_le (s.p + s.m) u.p

-- each splice stands so before the next
abbrev pub are_apart : List Splice → Bool
are_apart [] = true
are_apart (s ∷ splices) = stands_before s splices && are_apart splices

-- at least one splice, and not too many, each of this text and this pool, in order and apart
abbrev pub can_splice : ℕ → ℕ → List Splice → Bool
can_splice pool_len len splices =
    nat_le 1 (length splices) && nat_le (length splices) MOST_SPLICES
    && list_all (is_splice pool_len len) splices && are_apart splices

-- t with what each splice names replaced by its things of the pool: the last one first, so that every place is one of t
abbrev pub replaced_each : {C : Type 0} → List C → List C → List Splice → List C
replaced_each pool t [] = t
replaced_each pool t (s ∷ splices) = replaced (replaced_each pool t splices) s.p s.m (take s.n (drop s.a pool))

-- the text that a command gives, or nothing where it is out of range
abbrev pub result_of : {C : Type 0} → Givens C → List (List C) → FullEdit → Option (List C)
result_of g texts New = Some []
result_of g texts (Open s) = slice_get g.sources s
result_of g texts (Insert r p a n) = do
  t ← slice_get texts r
  x ← span g.pool a n
  if nat_le 1 n then spliced t p 0 x else None
result_of g texts (Delete r p n) = do
  t ← slice_get texts r
  spliced t p n []
result_of g texts (Replace r p m a n) = do
  t ← slice_get texts r
  x ← span g.pool a n
  if nat_le 1 n then spliced t p m x else None
result_of g texts (Paste r p q i n) = do
  t ← slice_get texts r
  u ← slice_get texts q
  x ← span u i n
  spliced t p 0 x
result_of g texts (Join r q) = do
  t ← slice_get texts r
  u ← slice_get texts q
  bounded (t ++ u)
result_of g texts (Cut r i n) = do
  t ← slice_get texts r
  span t i n
result_of g texts (Fill r p c n) = do
  t ← slice_get texts r
  if nat_le c 255 then spliced t p 0 (replicate n (g.byte c)) else None
result_of g texts (Back r) = slice_get texts r
result_of g texts (Balance r) = slice_get texts r
result_of g texts (Many r splices) = do
  t ← slice_get texts r
  if can_splice (length g.pool) (length t) splices then bounded (replaced_each g.pool t splices) else None

-- each text is what its command gives of the texts before it
pub record IsHistory {C : Type 0} (g : Givens C) (commands : List FullEdit) (texts : List (List C)) : Type 0 where
  pub whole : length texts ≡ length commands
  pub each : (k : ℕ) (command : FullEdit) → slice_get commands k ≡ Some command
      → slice_get texts k ≡ result_of g (take k texts) command
