-- The terms of which a command makes its text, and how a root is built from them, from left to right.
use Rattle.std.specs.Prelude.{◌≡◌, ℕ, ◌+◌, ◌-◌, ◌<◌, ◌≤◌, true, false, List, [], ◌∷◌, length, map, take, drop, replicate, get_or, Option, Some, None, Result, Ok, Err, IfOk}
use Rattle.std.specs.List.{flat_map, list_any, sum_by, AllByRecursion, range_with_len}
use Rattle.function_leaf.specs.declared.coded.Coded.{Coded}
use Rattle.function_leaf.specs.declared.coded.Coded.TheVariants.{Fill}
use Rattle.function_leaf.specs.Coded.{coded_byte}
use Rattle.leaf_buffer.specs.declared.block.TheConstants.{BLOCK_SIZE}
use Rattle.rope_node.specs.declared.node.NodeId.{NodeId}
use Rattle.rope_node.specs.declared.limits.TheConstants.{TEXT_LIMIT}
use Rattle.rope_node.specs.Table.{Table, IsSound, HasTrueRecords}
use Rattle.rope_node.specs.Denotes.{Cell, Byte, Place, rope_cells, rope_len, IsRope}
use Rattle.node_table.specs.declared.fault.NodeFault.{NodeFault}
use Rattle.node_table.specs.Held.{Held, table_of}
use Rattle.rope_store.specs.Calls.{MakesFunction, MakesSource}
use Rattle.rebalance.specs.declared.fault.BalanceFault.{BalanceFault}
use Rattle.rebalance.specs.AnyForms.{lifted, CatsAny, PartsAny, AppendsAny, IsPlaced}
use Rattle.rebalance.specs.Balancing.{Rebalances}
use Rattle.command_parts.specs.declared.edit.TheConstants.{MOST_SPLICES}
use Rattle.command_parts.specs.Commands.{are_apart}
use Rattle.command_parts.specs.Parts.{root_at, len_of}
use Rattle.edit_commands.specs.declared.command.Change.{Change}
use Rattle.edit_commands.specs.declared.command.Command.{Command}
use Rattle.edit_commands.specs.declared.term.Piece.{Piece}
use Rattle.edit_commands.specs.declared.term.Piece.TheVariants.{Whole, Span, Balanced, Source, Chars}
use Rattle.edit_commands.specs.declared.term.NextTerm.{NextTerm}
use Rattle.edit_commands.specs.Refusals.{changes_nothing, unplaced}

-- ---- the terms

-- a piece of what is there, or bytes that are handed in
pub data Term : Type 0 where
  Taken : (piece : Piece) → Term
  Handed : (bytes : List ℕ) → Term

-- what the next of them is
abbrev pub term_of : NextTerm → Term
term_of (NextTerm.Taken piece) = Taken piece
term_of (NextTerm.Handed bytes) = Handed bytes.now

-- one that may be there
abbrev pub ready : Option NextTerm → List Term
ready None = []
ready (Some term) = term_of term ∷ []

-- a root up to place p, and from place p on
abbrev pub front_term : Option NodeId → ℕ → Term
front_term rope p = Taken (Span rope 0 p)

abbrev pub rest_term : Table → Option NodeId → ℕ → Term
rest_term t rope p = Taken (Span rope p (rope_len t rope - p))

-- where the next change stands, or a length where there is none
abbrev pub next_place : ℕ → List Change → ℕ
next_place len [] = len
next_place len (c ∷ changes) = c.p

-- the bytes of each change, and behind them a rope of this length up to the next change, or to its end
abbrev pub changed_terms : Option NodeId → ℕ → List Change → List ℕ → List Term
changed_terms rope len [] bytes = []
changed_terms rope len (c ∷ changes) bytes =
    Handed (take c.n bytes) ∷ Taken (Span rope (c.p + c.m) (next_place len changes - (c.p + c.m)))
    ∷ changed_terms rope len changes (drop c.n bytes)

-- each change ends where the next one stands, or before it, the last one at this length or before it
abbrev pub AreInOrder : ℕ → List Change → Type 0
AreInOrder len [] = Unit {0}
AreInOrder len (c ∷ changes) = (c.p + c.m ≤ next_place len changes) × AreInOrder len changes

-- the terms of a command in their order
abbrev pub command_terms : Table → List (Option NodeId) → Command → List Term
command_terms t roots Command.New = []
command_terms t roots (Command.Open s) = Taken (Source s) ∷ []
command_terms t roots (Command.Insert r p bytes) =
    front_term (root_at roots r) p ∷ Handed bytes.now ∷ rest_term t (root_at roots r) p ∷ []
command_terms t roots (Command.Delete r p n) =
    front_term (root_at roots r) p ∷ rest_term t (root_at roots r) (p + n) ∷ []
command_terms t roots (Command.Replace r p m bytes) =
    front_term (root_at roots r) p ∷ Handed bytes.now ∷ rest_term t (root_at roots r) (p + m) ∷ []
command_terms t roots (Command.Paste r p q i n) =
    front_term (root_at roots r) p ∷ Taken (Span (root_at roots q) i n) ∷ rest_term t (root_at roots r) p ∷ []
command_terms t roots (Command.Join r q) = Taken (Whole (root_at roots r)) ∷ Taken (Whole (root_at roots q)) ∷ []
command_terms t roots (Command.Cut r i n) = Taken (Span (root_at roots r) i n) ∷ []
command_terms t roots (Command.Fill r p c n) =
    front_term (root_at roots r) p ∷ Taken (Chars c n) ∷ rest_term t (root_at roots r) p ∷ []
command_terms t roots (Command.Back r) = Taken (Whole (root_at roots r)) ∷ []
command_terms t roots (Command.Balance r) = Taken (Balanced (root_at roots r)) ∷ []
command_terms t roots (Command.Many r changes bytes) =
    front_term (root_at roots r) (next_place (len_of t roots r) changes.now)
    ∷ changed_terms (root_at roots r) (len_of t roots r) changes.now bytes.now

-- what they denote
abbrev pub piece_cells : Table → Piece → List Cell
piece_cells t (Whole rope) = rope_cells t rope
piece_cells t (Span rope i n) = take n (drop i (rope_cells t rope))
piece_cells t (Balanced rope) = rope_cells t rope
piece_cells t (Source s) = map (Place s) (range_with_len 0 (get_or t.sources s 0))
piece_cells t (Chars c n) = replicate n (Byte c)

abbrev pub term_cells : Table → Term → List Cell
term_cells t (Taken piece) = piece_cells t piece
term_cells t (Handed bytes) = map Byte bytes

abbrev pub terms_cells : Table → List Term → List Cell
terms_cells t terms = flat_map (term_cells t) terms

-- the bytes that terms hand in
abbrev pub handed : List Term → List (List ℕ)
handed [] = []
handed (Taken piece ∷ terms) = handed terms
handed (Handed bytes ∷ terms) = bytes ∷ handed terms

-- how many times a command hands in bytes
abbrev pub times_handed : Command → ℕ
times_handed (Command.Insert r p bytes) = 1
times_handed (Command.Replace r p m bytes) = 1
times_handed (Command.Many r changes bytes) = length changes.now
times_handed _ = 0

-- a piece is taken from what is there; not too many bytes are handed in
abbrev pub IsThere : Table → Piece → Type 0
IsThere t (Whole rope) = IsRope t rope
IsThere t (Span rope i n) = IsRope t rope
IsThere t (Balanced rope) = IsRope t rope
IsThere t (Source s) = s < length t.sources
IsThere t (Chars c n) = Unit {0}

abbrev pub IsTerm : Table → Term → Type 0
IsTerm t (Taken piece) = IsThere t piece
IsTerm t (Handed bytes) = length bytes ≤ BLOCK_SIZE

abbrev pub AreTerms : Table → List Term → Type 0
AreTerms t terms = AllByRecursion (IsTerm t) terms

-- each change ends inside a text of this length
abbrev pub EndInside : ℕ → List Change → Type 0
EndInside len changes = AllByRecursion (λ (c : Change). c.p + c.m ≤ len) changes

-- These changes can be made to a text of this length: there are some, and not too many; each is inside it and above
-- and behind the one before it, and changes something; they take these bytes, none of them too many; what comes of it
-- is not too long.
pub record CanChange (len : ℕ) (changes : List Change) (bytes : List ℕ) : Type 0 where
  pub some : 1 ≤ length changes
  pub few : length changes ≤ MOST_SPLICES
  pub inside : EndInside len changes
  pub apart : are_apart (map unplaced changes) ≡ true
  pub something : list_any changes_nothing changes ≡ false
  pub takes : sum_by (λ (c : Change). c.n) changes ≡ length bytes
  pub each : AllByRecursion (λ (c : Change). c.n ≤ BLOCK_SIZE) changes
  pub short : len + length bytes < TEXT_LIMIT + sum_by (λ (c : Change). c.m) changes

-- a command is in range over the lengths of the earlier texts and the sources
abbrev pub IsCommandInRange : Table → List (Option NodeId) → Command → Type 0
IsCommandInRange t roots Command.New = Unit {0}
IsCommandInRange t roots (Command.Open s) = s < length t.sources
IsCommandInRange t roots (Command.Insert r p bytes) =
    (r < length roots) × (p ≤ len_of t roots r) × (1 ≤ length bytes.now) × (length bytes.now ≤ BLOCK_SIZE)
    × (len_of t roots r + length bytes.now < TEXT_LIMIT)
IsCommandInRange t roots (Command.Delete r p n) = (r < length roots) × (p + n ≤ len_of t roots r)
IsCommandInRange t roots (Command.Replace r p m bytes) =
    (r < length roots) × (p + m ≤ len_of t roots r) × (1 ≤ length bytes.now) × (length bytes.now ≤ BLOCK_SIZE)
    × (len_of t roots r + length bytes.now < TEXT_LIMIT + m)
IsCommandInRange t roots (Command.Paste r p q i n) =
    (r < length roots) × (p ≤ len_of t roots r) × (q < length roots) × (i + n ≤ len_of t roots q)
    × (len_of t roots r + n < TEXT_LIMIT)
IsCommandInRange t roots (Command.Join r q) =
    (r < length roots) × (q < length roots) × (len_of t roots r + len_of t roots q < TEXT_LIMIT)
IsCommandInRange t roots (Command.Cut r i n) = (r < length roots) × (i + n ≤ len_of t roots r)
IsCommandInRange t roots (Command.Fill r p c n) =
    (r < length roots) × (p ≤ len_of t roots r) × (len_of t roots r + n < TEXT_LIMIT)
IsCommandInRange t roots (Command.Back r) = r < length roots
IsCommandInRange t roots (Command.Balance r) = r < length roots
IsCommandInRange t roots (Command.Many r changes bytes) =
    (r < length roots) × CanChange (len_of t roots r) changes.now bytes.now

-- a fill is of bytes
abbrev pub FillsBytes : Command → Type 0
FillsBytes (Command.Fill r p c n) = c ≤ 255
FillsBytes _ = Unit {0}

-- ---- one term

-- what a call of the store says of its result, where it is told as one of the calls for any ropes
pub record IsTold (Says : Result (Option NodeId) NodeFault → Type 0) (result : Result (Option NodeId) BalanceFault)
    : Type 0 where
  pub plain : Result (Option NodeId) NodeFault
  pub says : Says plain
  pub told : result ≡ lifted plain

-- the rope of a piece is made
abbrev pub MakesPiece : Held Coded → Piece → Result (Option NodeId) BalanceFault → Held Coded → Type 0
MakesPiece old (Whole rope) result new = (result ≡ Ok rope) × (new ≡ old)
MakesPiece old (Span rope i n) result new = PartsAny coded_byte old rope i n result new
MakesPiece old (Balanced rope) result new = Rebalances coded_byte old rope result new
MakesPiece old (Source s) result new =
    IsTold (λ plain. MakesSource coded_byte old s 0 (get_or old.sources s 0) plain new) result
MakesPiece old (Chars c n) result new = IsTold (λ plain. MakesFunction coded_byte old (Fill c) n plain new) result

-- a store with sound nodes and true records
pub record IsRightStore (h : Held Coded) : Type 0 where
  pub sound : IsSound (table_of coded_byte h)
  pub true_records : HasTrueRecords (table_of coded_byte h)

-- the rope of what is built; before the first term it is nil
abbrev pub so_far : Option (Option NodeId) → Option NodeId
so_far None = None
so_far (Some rope) = rope

-- the rope that was made is put behind what is built; before the first term it is what is built
abbrev pub GoesBehind : Held Coded → Option (Option NodeId) → Result (Option NodeId) BalanceFault
    → Result (Option NodeId) BalanceFault → Held Coded → Type 0
GoesBehind old built (Err fault) result new = (result ≡ Err fault) × (new ≡ old)
GoesBehind old None (Ok rope) result new = (result ≡ Ok rope) × (new ≡ old)
GoesBehind old (Some text) (Ok rope) result new = CatsAny coded_byte old text rope result new

pub record PutsPiece (old : Held Coded) (built : Option (Option NodeId)) (piece : Piece)
    (result : Result (Option NodeId) BalanceFault) (new : Held Coded) : Type 0 where
  pub made : Result (Option NodeId) BalanceFault
  pub between : Held Coded
  pub takes : MakesPiece old piece made between
  pub right : IsRightStore between
  pub behind : GoesBehind between built made result new

-- the rope alone
abbrev pub rope_alone : {A : Type 0} → Result (Option NodeId × A) BalanceFault → Result (Option NodeId) BalanceFault
rope_alone (Ok put) = Ok put.0
rope_alone (Err fault) = Err fault

-- a term is put behind what is built; bytes that are handed in have a place, a piece has none
abbrev pub PutsTerm : Held Coded → Option (Option NodeId) → Term → Result (Option NodeId × Option ℕ) BalanceFault
    → Held Coded → Type 0
PutsTerm old built (Taken piece) result new =
    PutsPiece old built piece (rope_alone result) new × IfOk result (λ put. put.1 ≡ None)
PutsTerm old built (Handed bytes) result new =
    AppendsAny coded_byte old (so_far built) bytes (rope_alone result) new
    × IfOk result (λ put. (place : ℕ) × (put.1 ≡ Some place)
    × IsPlaced coded_byte old (so_far built) bytes (put.0, place) new)

-- ---- the chain

-- a place before others, where there is one
abbrev pub with_place : Option ℕ → List ℕ → List ℕ
with_place None places = places
with_place (Some place) places = place ∷ places

-- The terms are put behind what is built one by one, each on the table that the one before it left, until one is
-- refused, which is the answer. The places are those of the bytes that were handed in.
pub data Chain : List Term → Held Coded → Option (Option NodeId) → List ℕ → Result (Option NodeId) BalanceFault
    → Held Coded → Type 0 where
  done : {old new : Held Coded} {built : Option (Option NodeId)} {result : Result (Option NodeId) BalanceFault}
      → result ≡ Ok (so_far built) → new ≡ old → Chain [] old built [] result new
  next : {term : Term} {terms : List Term} {old mid new : Held Coded} {built : Option (Option NodeId)}
      {rope : Option NodeId} {places all : List ℕ} {result : Result (Option NodeId) BalanceFault} (place : Option ℕ)
      → PutsTerm old built term (Ok (rope, place)) mid → IsRightStore mid
      → Chain terms mid (Some rope) places result new
      → all ≡ with_place place places → Chain (term ∷ terms) old built all result new
  refused : {term : Term} {terms : List Term} {old new : Held Coded} {built : Option (Option NodeId)}
      {fault : BalanceFault} {result : Result (Option NodeId) BalanceFault}
      → PutsTerm old built term (Err fault) new → result ≡ Err fault → Chain (term ∷ terms) old built [] result new

-- the chain of these terms from nothing; where it gives a rope, these are its places
pub record JoinsTerms (old : Held Coded) (terms : List Term) (result : Result (Option NodeId) BalanceFault)
    (places : List ℕ) (new : Held Coded) : Type 0 where
  pub placed : List ℕ
  pub chain : Chain terms old None placed result new
  pub written : IfOk result (λ _. placed ≡ places)
