-- What stays of a pool that grows, and where new bytes lie.
use Rattle.std.proofs.Common.{◌≡◌, ℕ, ◌+◌, ◌-◌, ◌<◌, ◌≤◌, leb, List, [], ◌++◌, length, take, drop, slice_range, refl, sym, ap, ◌∙◌, arith, length-append, length-drop}
use Rattle.std.specs.Prelude.{All}
use Rattle.std.proofs.lemmas.Bool.{cond_both, leb-false}
use Rattle.std.proofs.lemmas.List.{append-nil, drop-append-le}
use Rattle.std.proofs.lemmas.List.Elements.{All-push}
use Rattle.std.proofs.Math.Seq.{take-append_seam, drop-append_seam, take-append-add}
use Rattle.leaf_buffer.specs.Contents.{Contents, IsInOneBlock, IsLastPiece, KeepsPieces, extended, with_block, appended}
use Rattle.leaf_buffer.proofs.Pieces.{KeepsPieces-extended, KeepsPieces-with_block}

-- no block of the pool is empty
abbrev pub HasFullBlocks : Contents → Type 0
HasFullBlocks pool = All (λ border. border < length pool.bytes) pool.borders

-- what is true of a pool and of one that grew out of it
pub record PoolGrows (old new : Contents) : Type 0 where
  pub pieces : KeepsPieces old new
  pub longer : length old.bytes ≤ length new.bytes
  pub borders : HasFullBlocks new

pub grows_itself : (pool : Contents) → HasFullBlocks pool → PoolGrows pool pool
grows_itself pool full = record {
  pieces = record { in_one_block = λ a n h. h; bytes = λ a n h. refl };
  longer = omega arith;
  borders = full;
}

pub grows_extended : (pool : Contents) (bytes : List ℕ) → HasFullBlocks pool → PoolGrows pool (extended pool bytes)
grows_extended pool bytes full = record {
  pieces = KeepsPieces-extended pool bytes;
  longer = omega (arith, length-append pool.bytes bytes);
  borders = λ k d there. omega (arith, full k d there, length-append pool.bytes bytes);
}

grows_with_block : (pool : Contents) (bytes : List ℕ) → HasFullBlocks pool → 0 < length bytes → PoolGrows pool (with_block pool bytes)
grows_with_block pool bytes full some = record {
  pieces = KeepsPieces-with_block pool bytes;
  longer = omega (arith, length-append pool.bytes bytes);
  borders =
      All-push (λ border. border < length (pool.bytes ++ bytes)) pool.borders (length pool.bytes)
      (λ k d there. omega (arith, full k d there, length-append pool.bytes bytes)) (omega (arith, length-append pool.bytes bytes));
}

pub grows_appended : (pool : Contents) (bytes : List ℕ) → HasFullBlocks pool → PoolGrows pool (appended pool bytes)
grows_appended pool bytes full =
    cond_both (leb (length bytes) pool.room) (extended pool bytes) (with_block pool bytes) (λ new. PoolGrows pool new) (λ e. grows_extended pool bytes full)
    (λ e. let over : pool.room < length bytes = leb-false (length bytes) pool.room e in grows_with_block pool bytes full (omega (arith, over)))

-- the last piece, and the bytes by which it grew
pub in_one_block_grown : (pool : Contents) (a n : ℕ) (bytes : List ℕ) → HasFullBlocks pool → IsLastPiece pool a n → IsInOneBlock (extended pool bytes) a (n + length bytes)
in_one_block_grown pool a n bytes full last = record {
  inside = omega (arith, last.last, length-append pool.bytes bytes);
  unbroken = λ k d there over. absurd (omega (arith, full k d there, last.in_one_block.unbroken k d there, last.last, over));
}

-- a span of bytes among others
pub slice_between : (xs ys zs : List ℕ) (a n : ℕ) → a ≡ length xs → n ≡ length ys → slice_range (xs ++ (ys ++ zs)) a (a + n) ≡ ys
slice_between xs ys zs a n from many =
    let size : a + n - a ≡ length ys = omega arith in
    rw (size, from, drop-append_seam xs (ys ++ zs)) (take-append_seam ys zs)

pub slice_at_end : (xs ys : List ℕ) (a n : ℕ) → a ≡ length xs → n ≡ length ys → slice_range (xs ++ ys) a (a + n) ≡ ys
slice_at_end xs ys a n from many = ap (λ (zs : List ℕ). slice_range (xs ++ zs) a (a + n)) (sym (append-nil ys)) ∙ slice_between xs ys [] a n from many

pub slice_grown : (xs ys : List ℕ) (a n : ℕ) → a + n ≡ length xs → slice_range (xs ++ ys) a (a + (n + length ys)) ≡ slice_range xs a (a + n) ++ ys
slice_grown xs ys a n end =
    let size : a + (n + length ys) - a ≡ n + length ys = omega arith in
    let rest : length (drop a xs) ≡ n = omega (arith, length-drop a xs) in
    let less : a + n - a ≡ n = omega arith in
    rw (size, less, drop-append-le a xs ys (omega arith), ← rest, take-append-add (drop a xs) ys (length ys)) (ap (λ (zs : List ℕ). drop a xs ++ zs) (take_whole ys) ∙ ap (λ (zs : List ℕ). zs ++ ys) (sym (take_whole (drop a xs))))
  where
    take_whole : (zs : List ℕ) → take (length zs) zs ≡ zs
    take_whole zs = ap (λ (us : List ℕ). take (length zs) us) (sym (append-nil zs)) ∙ take-append_seam zs []
