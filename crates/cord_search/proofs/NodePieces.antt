-- The bytes of a node, by those of its children and of a leaf.
use Rattle.std.proofs.Common.{◌≡◌, ℕ, ◌+◌, ◌-◌, ◌<◌, ◌≤◌, List, ◌++◌, length, take, drop, Some, refl, sym, ap, subst, ◌∙◌, arith}
use Rattle.std.specs.Prelude.{Result, Ok, Err, OnOk}
use Rattle.std.proofs.lemmas.List.{length-append, length-drop, length-take, take_all, take_at}
use Rattle.std.proofs.lemmas.Slice.{take-put_mid}
use borrow.Rule.Slice.PartMut.{post_of, put_mid}
use Rattle.rope_node.specs.declared.node.NodeId.{NodeId}
use Rattle.rope_node.specs.declared.node.LeafSpan.{LeafSpan}
use Rattle.rope_node.specs.declared.node.Span.{Span}
use Rattle.rope_node.specs.Table.{Table, view_at, len_at, IsLeaf}
use Rattle.rope_node.specs.Denotes.{cell_at, cell_byte}
use Rattle.rope_node.specs.Steps.{SameCells}
use Rattle.lazy_file.specs.SourceTexts.{Stated}
use Rattle.lazy_file.specs.declared.faults.SourceFault.{SourceFault}
use Rattle.lazy_file.specs.Readings.{Reading}
use Rattle.cord_position.specs.Fetched.{IsStated, ReadsSpan, leaf_part}
use Rattle.cord_position.specs.Runs.{AreBytesOf}
use Rattle.cord_position.proofs.LeafParts.{moved}
use Rattle.cord_position.proofs.Spans.{failed_in}
use Rattle.cord_search.specs.Pieces.{IsPiece}
use Rattle.cord_search.proofs.Pieces.{byte_of_cell, filled_piece, piece_after}

-- so their bytes are the same, and so is a read of them
pub piece_of_same : (t : Table) (st : Stated) (x y : NodeId) (i j n : ℕ) (bytes : List ℕ) → SameCells t x y i j n → length bytes ≡ n → IsPiece t st (Some y) j bytes → IsPiece t st (Some x) i bytes
piece_of_same t st x y i j n bytes same long piece source agrees k lt stated =
    let each = same.each k (omega (arith, lt, long)) in
    piece source agrees k lt (subst (IsStated st) each stated)
    ∙ byte_of_cell t y.0 source (j + k) (omega (arith, lt, long, same.there))
    ∙ ap (λ cell. Some (cell_byte source cell)) (sym each)
    ∙ sym (byte_of_cell t x.0 source (i + k) (omega (arith, lt, long, same.here)))

-- a read of a part of a span's bytes, as bytes of another node, is one of the span's
pub reads_in_span : {X : Type 0} (old mid new : Reading) (t : Table) (x z : Span) (i : ℕ) (r : Result X SourceFault) → mid ≡ old → SameCells t x.node z.node i z.start z.len → x.start ≤ i → i + z.len ≤ x.start + x.len
    → ReadsSpan mid new (cell_at t z.node.0) z.start (z.start + z.len) r → ReadsSpan old new (cell_at t x.node.0) x.start (x.start + x.len) r
reads_in_span old mid new t x z i r stay same from within reads =
    failed_in old mid new (cell_at t x.node.0) x.start (x.start + x.len) i (i + z.len) r stay (moved mid new (cell_at t x.node.0) (cell_at t z.node.0) i z.start z.len r same.each reads) from within

-- the bytes of a leaf
pub leaf_piece : (t : Table) (st : Stated) (leaf : NodeId) (start n : ℕ) (bytes : List ℕ) → leaf.0 < length t.nodes → IsLeaf (view_at t leaf.0) → 1 ≤ n → start + n ≤ len_at t leaf.0
    → length bytes ≡ n → AreBytesOf st (leaf_part t leaf start n) bytes → IsPiece t st (Some leaf) start bytes
leaf_piece t st leaf start n bytes there is some fits long are =
    let span : LeafSpan = record { leaf = leaf; start = start; len = n } in
    filled_piece t st (Some leaf) start n (Some span) bytes (record { there = there; leaf = is; some = some; in_leaf = fits; in_rope = fits; cells = refl }) (omega arith) (omega (arith, long)) are

-- the same of what a call answered
pub answered_of_same : {X : Type 0} (r : Result X SourceFault) (t : Table) (st : Stated) (x y : NodeId) (i j n : ℕ) (bytes : List ℕ) → SameCells t x y i j n → length bytes ≡ n → OnOk r (IsPiece t st (Some y) j bytes) → OnOk r (IsPiece t st (Some x) i bytes)
answered_of_same (Ok v) t st x y i j n bytes same long piece = piece_of_same t st x y i j n bytes same long piece
answered_of_same (Err e) t st x y i j n bytes same long piece = tt

pub leaf_answered : {X : Type 0} (r : Result X SourceFault) (t : Table) (st : Stated) (leaf : NodeId) (start n : ℕ) (bytes : List ℕ) → leaf.0 < length t.nodes → IsLeaf (view_at t leaf.0) → 1 ≤ n → start + n ≤ len_at t leaf.0
    → length bytes ≡ n → OnOk r (AreBytesOf st (leaf_part t leaf start n) bytes) → OnOk r (IsPiece t st (Some leaf) start bytes)
leaf_answered (Ok v) t st leaf start n bytes there is some fits long are = leaf_piece t st leaf start n bytes there is some fits long are
leaf_answered (Err e) t st leaf start n bytes there is some fits long are = tt

-- a buffer whose front was written, and then the rest
both_written : (xs ys zs : List ℕ) (d : ℕ) → length xs ≡ d → length zs ≡ length ys → put_mid d (length (xs ++ ys) - d) (xs ++ ys) zs ≡ xs ++ zs
both_written xs ys zs d front rest =
    let all = xs ++ ys in
    let long : length all ≡ d + length ys = omega (arith, length-append xs ys, front) in
    let whole = put_mid d (length all - d) all zs in
    let post = length-drop (length all - d) (drop d all) in
    let few : length whole ≤ d + length zs = omega (arith, length-append (take d all) (zs ++ post_of d (length all - d) all), length-append zs (post_of d (length all - d) all), post, length-drop d all, length-take d all, long) in
    sym (take_all (d + length zs) whole few) ∙ take-put_mid d (length all - d) all zs (d + length zs) refl (omega (arith, long)) ∙ ap (λ ws. ws ++ zs) (take_at xs ys d front)

pub both_answered : {X : Type 0} (r : Result X SourceFault) (t : Table) (st mid : Stated) (x l r' : NodeId) (i p q d : ℕ) (xs ys zs : List ℕ) → mid ≡ st → SameCells t x l i p d → SameCells t x r' (i + d) q (length ys) → length xs ≡ d → length zs ≡ length ys
    → IsPiece t st (Some l) p xs → OnOk r (IsPiece t mid (Some r') q zs) → OnOk r (IsPiece t st (Some x) i (put_mid d (length (xs ++ ys) - d) (xs ++ ys) zs))
both_answered (Ok v) t st mid x l r' i p q d xs ys zs same left right front rest first second =
    let here = piece_of_same t st x l i p d xs left front first in
    let later = piece_of_same t st x r' (i + d) q (length ys) zs right rest (subst (λ s. IsPiece t s (Some r') q zs) same second) in
    subst (IsPiece t st (Some x) i) (sym (both_written xs ys zs d front rest)) (piece_after t st (Some x) i d xs zs front here later)
both_answered (Err e) t st mid x l r' i p q d xs ys zs same left right front rest first second = tt
