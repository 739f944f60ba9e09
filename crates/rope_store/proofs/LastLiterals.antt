-- Literals that texts end with.
use Rattle.std.proofs.Common.{◌≡◌, ℕ, ◌+◌, ◌<◌, ◌≤◌, List, ◌++◌, length, map, Some, None, refl, sym, ap, subst, ◌∙◌, arith, add-zero}
use Rattle.std.specs.List.{slice_range}
use Rattle.std.proofs.lemmas.List.{length-map, map-append, append_assoc}
use Rattle.std.proofs.lemmas.Option.{same_Some}
use Rattle.rope_store.specs.declared.endings.TheConstants.{MOST_MERGED}
use Rattle.rope_node.specs.declared.node.NodeId.{NodeId}
use Rattle.rope_node.specs.declared.node.NodeView.{NodeView}
use Rattle.rope_node.specs.declared.node.NodeView.TheVariants.{Lit, Src, Fun, Cat, Sub}
use Rattle.rope_node.specs.Table.{Table, view_at, len_at, IsSound, HasTrueRecords, IsLiteral, literal_bytes}
use Rattle.rope_node.specs.Denotes.{Cell, Byte, cells, rope_cells, rope_len, rope_depth, IsRope}
use Rattle.rope_node.proofs.Cells.{cells_at, cells_length}
use Rattle.rope_store.specs.declared.endings.Ending.{Ending}
use Rattle.rope_store.specs.Joining.{right_ending, view_ending, ending_of, piece, IsShortEnding}

-- this literal ends the node's text
pub record IsEnding (t : Table) (x : NodeId) (e : Ending) : Type 0 where
  pub there : e.literal.0 < length t.nodes
  pub is_literal : IsLiteral (view_at t e.literal.0)
  pub is_before : IsRope t e.before
  pub shallow : 1 + rope_depth t e.before ≤ 64
  pub text : cells t x.0 ≡ rope_cells t e.before ++ cells t e.literal.0
  pub len : len_at t x.0 ≡ rope_len t e.before + len_at t e.literal.0

right_by : (t : Table) → IsSound t → HasTrueRecords t → (x l r : NodeId) → x.0 < length t.nodes → view_at t x.0 ≡ Cat l r → (w : NodeView) → view_at t r.0 ≡ w → (e : Ending) → right_ending l r w ≡ Some e → IsEnding t x e
right_by t s h x l r there is (Lit a) right e found =
    let below = rw is at (s.nodes x.0 there).references in
    let len = rw is at (h.nodes x.0 there).len in
    let depth = rw is at (h.nodes x.0 there).depth in
    let ending : Ending = record { before = Some l; literal = r } in
    let first : l.0 < length t.nodes = omega (arith, below.0) in
    let second : r.0 < length t.nodes = omega (arith, below.1) in
    let here : IsEnding t x ending = record {
      there = second;
      is_literal = rw right tt;
      is_before = first;
      shallow = omega (arith, depth, (s.nodes x.0 there).not_deep);
      text = cells_at t s x.0 there (Cat l r) is;
      len = len;
    } in
    subst (λ (k : Ending). IsEnding t x k) (same_Some ending e found) here
right_by t s h x l r there is (Src s' a) right e found = absurd cc
right_by t s h x l r there is Fun right e found = absurd cc
right_by t s h x l r there is (Cat y z) right e found = absurd cc
right_by t s h x l r there is (Sub b i) right e found = absurd cc

ending_by : (t : Table) → IsSound t → HasTrueRecords t → (x : NodeId) → x.0 < length t.nodes → (v : NodeView) → view_at t x.0 ≡ v → (e : Ending) → view_ending t x v ≡ Some e → IsEnding t x e
ending_by t s h x there (Lit a) is e found =
    let ending : Ending = record { before = None; literal = x } in
    let here : IsEnding t x ending = record { there = there; is_literal = rw is tt; is_before = tt; shallow = omega arith; text = refl; len = omega arith } in
    subst (λ (k : Ending). IsEnding t x k) (same_Some ending e found) here
ending_by t s h x there (Src s' a) is e found = absurd cc
ending_by t s h x there Fun is e found = absurd cc
ending_by t s h x there (Cat l r) is e found = right_by t s h x l r there is (view_at t r.0) refl e found
ending_by t s h x there (Sub b i) is e found = absurd cc

-- a literal's cells are its bytes
piece_by : (t : Table) → IsSound t → (x : NodeId) → x.0 < length t.nodes → (v : NodeView) → view_at t x.0 ≡ v → IsLiteral v → cells t x.0 ≡ map Byte (literal_bytes t 0 (len_at t x.0) v)
piece_by t s x there (Lit a) is literal =
    cells_at t s x.0 there (Lit a) is ∙ ap (λ (k : ℕ). map Byte (slice_range t.pool k (a + len_at t x.0))) (sym (add-zero a))
piece_by t s x there (Src s' a) is literal = absurd literal
piece_by t s x there Fun is literal = absurd literal
piece_by t s x there (Cat l r) is literal = absurd literal
piece_by t s x there (Sub b i) is literal = absurd literal

pub piece_text : (t : Table) → IsSound t → (x : NodeId) → x.0 < length t.nodes → IsLiteral (view_at t x.0) → cells t x.0 ≡ map Byte (piece t x)
piece_text t s x there literal = piece_by t s x there (view_at t x.0) refl literal

pub piece_length : (t : Table) → IsSound t → HasTrueRecords t → (x : NodeId) → x.0 < length t.nodes → IsLiteral (view_at t x.0) → length (piece t x) ≡ len_at t x.0
piece_length t s h x there literal = sym (length-map (piece t x) Byte) ∙ ap (length {A = Cell}) (sym (piece_text t s x there literal)) ∙ cells_length t s h x.0 there

-- a text and a literal behind it, where that becomes one with the text's own
pub merged_text : (t : Table) → IsSound t → (x r : NodeId) (n : ℕ) (e : Ending) → IsShortEnding t x n e → r.0 < length t.nodes → IsLiteral (view_at t r.0) → rope_cells t e.before ++ map Byte (piece t e.literal ++ piece t r) ≡ cells t x.0 ++ cells t r.0
merged_text t s x r n e ending there literal =
    ap (λ (cs : List Cell). rope_cells t e.before ++ cs) (map-append Byte (piece t e.literal) (piece t r))
    ∙ sym (append_assoc (rope_cells t e.before) (map Byte (piece t e.literal)) (map Byte (piece t r)))
    ∙ ap (λ (cs : List Cell). (rope_cells t e.before ++ cs) ++ map Byte (piece t r)) (sym (piece_text t s e.literal ending.there ending.is_literal))
    ∙ ap (λ (cs : List Cell). cs ++ map Byte (piece t r)) (sym ending.text) ∙ ap (λ (cs : List Cell). cells t x.0 ++ cs) (sym (piece_text t s r there literal))

-- an ending that is found, and short
pub short_found : (t : Table) → IsSound t → HasTrueRecords t → (x : NodeId) (n : ℕ) → x.0 < length t.nodes → (e : Ending) → ending_of t x ≡ Some e → len_at t e.literal.0 + n ≤ MOST_MERGED → IsShortEnding t x n e
short_found t s h x n there e found short =
    let k = ending_by t s h x there (view_at t x.0) refl e found in
    record { there = k.there; is_literal = k.is_literal; is_before = k.is_before; shallow = k.shallow; text = k.text; len = k.len; short = short }

pub ending_found : (t : Table) → IsSound t → HasTrueRecords t → (x : NodeId) → x.0 < length t.nodes → (e : Ending) → ending_of t x ≡ Some e → IsEnding t x e
ending_found t s h x there e found = ending_by t s h x there (view_at t x.0) refl e found

pub longer_text : (t : Table) → IsSound t → (x : NodeId) (e : Ending) (bytes : List ℕ) → e.literal.0 < length t.nodes → IsLiteral (view_at t e.literal.0) → cells t x.0 ≡ rope_cells t e.before ++ cells t e.literal.0 → rope_cells t e.before ++ map Byte (piece t e.literal ++ bytes) ≡ cells t x.0 ++ map Byte bytes
longer_text t s x e bytes there literal text =
    ap (λ (cs : List Cell). rope_cells t e.before ++ cs) (map-append Byte (piece t e.literal) bytes)
    ∙ sym (append_assoc (rope_cells t e.before) (map Byte (piece t e.literal)) (map Byte bytes))
    ∙ ap (λ (cs : List Cell). (rope_cells t e.before ++ cs) ++ map Byte bytes) (sym (piece_text t s e.literal there literal)) ∙ ap (λ (cs : List Cell). cs ++ map Byte bytes) (sym text)

-- a text and bytes behind it, where they become one literal with the text's own
pub appended_text : (t : Table) → IsSound t → (x : NodeId) (n : ℕ) (e : Ending) (bytes : List ℕ) → IsShortEnding t x n e → rope_cells t e.before ++ map Byte (piece t e.literal ++ bytes) ≡ cells t x.0 ++ map Byte bytes
appended_text t s x n e bytes ending = longer_text t s x e bytes ending.there ending.is_literal ending.text
