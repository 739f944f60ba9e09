-- The pieces that a text goes through: spans of leaves and, where nodes are kept, whole nodes that are longer than
-- their depth asks for.
use Rattle.std.specs.Prelude.{◌≡◌, ◌⊎◌, ℕ, zero, suc, ◌+◌, ◌-◌, ◌<◌, ◌≤◌, min, Bool, true, false, ◌&&◌, nat_eq, nat_le, if◌then◌else◌, List, ◌++◌, length, map, take, drop, Option, Some, None}
use Rattle.std.specs.List.{range_with_len}
use Rattle.rope_node.specs.declared.node.NodeId.{NodeId}
use Rattle.rope_node.specs.declared.node.NodeView.{NodeView}
use Rattle.rope_node.specs.declared.node.NodeView.TheVariants.{Lit, Src, Fun, Cat, Sub}
use Rattle.rope_node.specs.Balance.{fibonacci}
use Rattle.rope_node.specs.Table.{Table, view_at, len_at, depth_at, IsLeaf}
use Rattle.rope_node.specs.Denotes.{Cell, cells, rope_len}
use Rattle.rope_node.specs.declared.node.Span.{Span}
use Rattle.rebalance.specs.declared.pieces.Split.{Split}
use Rattle.rebalance.specs.declared.pieces.Split.TheVariants.{Piece, Base, Children}
use Rattle.rebalance.specs.declared.pieces.Tally.{Tally}
use Rattle.rebalance.specs.declared.pieces.Tally.TheVariants.{So, Few, Many}
use Rattle.rebalance.specs.declared.pieces.TheConstants.{MOST_PIECES}

-- whether the n bytes of a node from i on are a piece: where nodes are kept, all of one whose length is at least the
-- Fibonacci number at its depth and three
abbrev pub is_kept : Bool → Table → ℕ → ℕ → ℕ → Bool
is_kept keep t id i n = keep && (nat_eq i 0 && (nat_eq n (len_at t id) && nat_le (fibonacci (depth_at t id + 3)) n))

-- how many pieces the n bytes of a node from i on go through, where below counts those of a child
abbrev pub node_pieces : Table → (ℕ → ℕ → ℕ → ℕ) → ℕ → ℕ → NodeView → ℕ
node_pieces t below i n (Lit a) = 1
node_pieces t below i n (Src s a) = 1
node_pieces t below i n Fun = 1
node_pieces t below i n (Cat l r) =
    below l.0 i (min n (len_at t l.0 - i)) + below r.0 (i - len_at t l.0) (n - (len_at t l.0 - i))
node_pieces t below i n (Sub b start) = below b.0 (start + i) n

abbrev pub pieces_in : Bool → Table → ℕ → ℕ → ℕ → ℕ → ℕ
pieces_in keep t zero id i n = 0
pieces_in keep t (suc steps) id i zero = 0
pieces_in keep t (suc steps) id i (suc n) =
    if is_kept keep t id i (suc n) then 1 else node_pieces t (pieces_in keep t steps) i (suc n) (view_at t id)

abbrev pub piece_count : Bool → Table → ℕ → ℕ → ℕ → ℕ
piece_count keep t id i n = pieces_in keep t (suc id) id i n

-- all of a rope's
abbrev pub all_pieces : Bool → Table → Option NodeId → ℕ
all_pieces keep t None = 0
all_pieces keep t (Some id) = piece_count keep t id.0 0 (len_at t id.0)

-- a rope's leaf spans
abbrev pub rope_pieces : Table → Option NodeId → ℕ
rope_pieces t rope = all_pieces false t rope

-- a rope's pieces where nodes are kept, and those of its bytes from i on, at most n
abbrev pub kept_pieces : Table → Option NodeId → ℕ
kept_pieces t rope = all_pieces true t rope

abbrev pub part_pieces : Table → Option NodeId → ℕ → ℕ → ℕ
part_pieces t None i n = 0
part_pieces t (Some id) i n = piece_count true t id.0 i (min n (len_at t id.0 - i))

-- how many bytes a rope has from i on, at most n
abbrev pub part_count : Table → Option NodeId → ℕ → ℕ → ℕ
part_count t rope i n = min n (rope_len t rope - i)

-- n bytes from start on of the function at a leaf
abbrev pub answered_bytes : Table → NodeId → ℕ → ℕ → List ℕ
answered_bytes t leaf start n = map (λ k. t.answer leaf.0 (start + k)) (range_with_len 0 n)

-- a rope goes through no more pieces than that, where nodes are kept
abbrev pub HasFewPieces : Table → Option NodeId → Type 0
HasFewPieces t rope = kept_pieces t rope ≤ MOST_PIECES

abbrev pub HaveFewPieces : Table → Option NodeId → Option NodeId → Type 0
HaveFewPieces t l r = HasFewPieces t l × HasFewPieces t r

-- all of a node whose length is at least the Fibonacci number at its depth and three, or a span of a leaf
abbrev pub IsWhole : Table → Span → Type 0
IsWhole t p = (p.len ≡ len_at t p.node.0) × (fibonacci (depth_at t p.node.0 + 3) ≤ p.len)

abbrev pub IsPieceSpan : Table → Span → Type 0
IsPieceSpan t p = IsLeaf (view_at t p.node.0) ⊎ IsWhole t p

-- the cells of a span, and how many pieces it goes through
abbrev pub cells_in_span : Table → Span → List Cell
cells_in_span t p = take p.len (drop p.start (cells t p.node.0))

abbrev pub span_pieces : Bool → Table → Span → ℕ
span_pieces keep t p = piece_count keep t p.node.0 p.start p.len

-- its bytes are there
pub record IsInsideNode (t : Table) (p : Span) : Type 0 where
  pub there : p.node.0 < length t.nodes
  pub inside : p.start + p.len ≤ len_at t p.node.0

-- it is a span of an earlier node
pub record IsEarlierSpan (t : Table) (p below : Span) : Type 0 where
  pub span : IsInsideNode t below
  pub earlier : below.node.0 < p.node.0

-- it has the cells and the pieces of a span below it, or of two, one behind the other
pub record IsOfBase (keep : Bool) (t : Table) (p base : Span) : Type 0 where
  pub below : IsEarlierSpan t p base
  pub cells : cells_in_span t p ≡ cells_in_span t base
  pub count : span_pieces keep t p ≡ span_pieces keep t base

pub record IsOfChildren (keep : Bool) (t : Table) (p left right : Span) : Type 0 where
  pub left_below : IsEarlierSpan t p left
  pub right_below : IsEarlierSpan t p right
  pub cells : cells_in_span t p ≡ cells_in_span t left ++ cells_in_span t right
  pub count : span_pieces keep t p ≡ span_pieces keep t left + span_pieces keep t right

-- what a span is, one step down
abbrev pub IsSplit : Bool → Table → Span → Split → Type 0
IsSplit keep t p Piece = IsPieceSpan t p × (span_pieces keep t p ≡ 1)
IsSplit keep t p (Base base) = IsOfBase keep t p base
IsSplit keep t p (Children left right) = IsOfChildren keep t p left right

-- what is told of a span's p pieces behind `count` others, where `behind` bytes more are to be counted
abbrev pub Tallies : ℕ → ℕ → ℕ → Tally → Type 0
Tallies p count behind (So c) = (c ≡ count + p) × (c ≤ MOST_PIECES)
Tallies p count behind Few = count + p + behind ≤ MOST_PIECES
Tallies p count behind Many = MOST_PIECES < count + p

-- the n bytes from i on of a node of this view lie in one child of it
abbrev pub LiesInChild : Table → ℕ → ℕ → NodeView → Type 0
LiesInChild t i n (Lit a) = ⊥
LiesInChild t i n (Src s a) = ⊥
LiesInChild t i n Fun = ⊥
LiesInChild t i n (Cat l r) = (i + n ≤ len_at t l.0) ⊎ (len_at t l.0 ≤ i)
LiesInChild t i n (Sub b start) = Unit {0}

-- The n bytes of node x from p on lead down to node k from o on: they stand there; or they are not all of x and lie in
-- one child of a concatenation, or in the base of a substring, and from there they lead down.
pub data LeadsDown (t : Table) (n k o : ℕ) : ℕ → ℕ → Type 0 where
  here : {x p : ℕ} → x ≡ k → p ≡ o → LeadsDown t n k o x p
  in_left : {x p : ℕ} (l r : NodeId) → view_at t x ≡ Cat l r → n < len_at t x → p + n ≤ len_at t l.0
      → LeadsDown t n k o l.0 p → LeadsDown t n k o x p
  in_right : {x p : ℕ} (l r : NodeId) → view_at t x ≡ Cat l r → n < len_at t x → len_at t l.0 ≤ p
      → LeadsDown t n k o r.0 (p - len_at t l.0) → LeadsDown t n k o x p
  in_base : {x p : ℕ} (b : NodeId) (i : ℕ) → view_at t x ≡ Sub b i → n < len_at t x
      → LeadsDown t n k o b.0 (p + i) → LeadsDown t n k o x p

-- the same of ropes
abbrev pub RopeLeadsDown : Table → ℕ → Option NodeId → ℕ → Option NodeId → ℕ → Type 0
RopeLeadsDown t n None o None p = p ≡ o
RopeLeadsDown t n (Some k) o None p = ⊥
RopeLeadsDown t n None o (Some x) p = ⊥
RopeLeadsDown t n (Some k) o (Some x) p = LeadsDown t n k.0 o x.0 p

-- The n bytes of a node from i on lead down to these: no child holds them, and where one held those, this node is less
-- deep.
pub record LeadsWithin (t : Table) (id i n : ℕ) (p : Span) : Type 0 where
  pub leads : LeadsDown t n p.node.0 p.start id i
  pub there : p.node.0 < length t.nodes
  pub inside : p.start + p.len ≤ len_at t p.node.0
  pub len : p.len ≡ n
  pub cells : take n (drop i (cells t id)) ≡ take n (drop p.start (cells t p.node.0))
  pub shallow : depth_at t p.node.0 ≤ depth_at t id
  pub lowest : n < len_at t p.node.0 → ¬ LiesInChild t p.start n (view_at t p.node.0)
  pub below : n < len_at t id → LiesInChild t i n (view_at t id) → depth_at t p.node.0 < depth_at t id
