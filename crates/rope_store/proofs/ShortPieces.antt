-- Short literals that are read, and the bytes that are made of them.
use Rattle.std.proofs.Common.{◌≡◌, ℕ, ◌+◌, ◌-◌, ◌<◌, ◌≤◌, List, ◌++◌, length, take, Fits, w64, ap, ◌∙◌, arith, length-append, length-take}
use Rattle.leaf_buffer.specs.declared.block.TheConstants.{BLOCK_SIZE}
use Rattle.rope_node.specs.declared.limits.TheConstants.{TEXT_LIMIT}
use Rattle.rope_node.specs.declared.node.NodeId.{NodeId}
use Rattle.rope_node.specs.Table.{view_at, len_at, IsLiteral}
use Rattle.node_table.specs.Held.{Held, table_of}
use Rattle.node_table.specs.Held.{IsKept}
use Rattle.rope_store.specs.Joining.{piece}
use Rattle.rope_store.proofs.Growth.{holds_of, sound_of, true_of}
use Rattle.rope_store.proofs.LastLiterals.{piece_length}

-- a literal's bytes are as many as its node says, and not none
pub literal_size : {F : Type 0} (meaning : F → ℕ → ℕ) (h : Held F) → IsKept meaning h → (x : NodeId) (bytes : List ℕ) → x.0 < length h.nodes → IsLiteral (view_at (table_of meaning h) x.0) → bytes ≡ piece (table_of meaning h) x → length bytes ≡ len_at (table_of meaning h) x.0
literal_size meaning h store x bytes there literal is =
    let holds = holds_of meaning h store in
    ap length is ∙ piece_length (table_of meaning h) (sound_of meaning h holds store.pool) (true_of meaning h holds) x there literal

pub literal_some : {F : Type 0} (meaning : F → ℕ → ℕ) (h : Held F) → IsKept meaning h → (x : NodeId) → x.0 < length h.nodes → 1 ≤ len_at (table_of meaning h) x.0
literal_some meaning h store x there = (store.nodes x.0 there).sound.not_empty

pub fits_short : (n : ℕ) → n ≤ 31 → Fits w64 n
fits_short n le = omega arith

-- the first n bytes are n where they are so many
pub taken_inside : (n : ℕ) (xs : List ℕ) → length (take n xs) ≡ n → n ≤ length xs
taken_inside n xs is = omega (arith, length-take n xs)

-- two pieces, one behind the other
pub both_size : (xs ys zs : List ℕ) → zs ≡ xs ++ ys → length zs ≡ length xs + length ys
both_size xs ys zs is = ap length is ∙ length-append xs ys

pub both_are : (xs ys vs ws zs : List ℕ) → zs ≡ xs ++ ys → xs ≡ vs → ys ≡ ws → zs ≡ vs ++ ws
both_are xs ys vs ws zs is first second = rw (← first, ← second) is

pub both_some : (m n size : ℕ) → size ≡ m + n → 1 ≤ m → 1 ≤ size
both_some m n size is some = omega arith

pub both_short : (m n size : ℕ) → size ≡ m + n → m + n ≤ 31 → size ≤ BLOCK_SIZE
both_short m n size is short = omega arith

pub both_behind : (before e n x size : ℕ) → x ≡ before + e → size ≡ e + n → x + n < TEXT_LIMIT → before + size < TEXT_LIMIT
both_behind before e n x size len is short = omega arith

-- lengths that are found, and their sum
pub sum_below : (m n found more : ℕ) → found ≡ m → more ≡ n → found + more < TEXT_LIMIT → m + n < TEXT_LIMIT
sum_below m n found more is_found is_more short = rw (← is_found, ← is_more) short

pub sum_over : (m n found more : ℕ) → found ≡ m → more ≡ n → TEXT_LIMIT ≤ found + more → TEXT_LIMIT ≤ m + n
sum_over m n found more is_found is_more long = rw (← is_found, ← is_more) long

pub not_over : (n : ℕ) → n < TEXT_LIMIT → ¬ (TEXT_LIMIT ≤ n)
not_over n short long = omega (arith, short, long)

pub fits_sum : (m n : ℕ) → m < TEXT_LIMIT → n < TEXT_LIMIT → Fits w64 (m + n)
fits_sum m n first second = omega arith

-- bytes, a piece and the bytes again
pub twice_size : (bytes piece zs : List ℕ) → zs ≡ bytes ++ (piece ++ bytes) → length zs ≡ length bytes + (length piece + length bytes)
twice_size bytes piece zs is = both_size bytes (piece ++ bytes) zs is ∙ ap (λ (n : ℕ). length bytes + n) (length-append piece bytes)

pub twice_are : (bytes piece vs zs : List ℕ) → zs ≡ bytes ++ (piece ++ bytes) → piece ≡ vs → zs ≡ bytes ++ (vs ++ bytes)
twice_are bytes piece vs zs is same = rw (← same) is

pub twice_fits : (b p : ℕ) → p + b ≤ 31 → Fits w64 (b + (p + b))
twice_fits b p le = omega arith

pub twice_more : (b p size : ℕ) → size ≡ b + (p + b) → 1 ≤ b → b < size
twice_more b p size is some = omega arith

pub twice_short : (b p size : ℕ) → size ≡ b + (p + b) → p + b ≤ 31 → size ≤ BLOCK_SIZE
twice_short b p size is short = omega arith

pub twice_behind : (b p size before x : ℕ) → size ≡ b + (p + b) → x ≡ before + p → x + b < TEXT_LIMIT → before + (size - b) < TEXT_LIMIT
twice_behind b p size before x is len short = omega arith
