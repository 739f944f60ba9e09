-- Whether rows of bytes stand over no source.
use Rattle.std.proofs.Common.{◌≡◌, ℕ, ◌+◌, ◌-◌, ◌<◌, List, [], ◌++◌, length, take, drop, ap, subst, ◌∙◌, arith}
use Rattle.std.specs.Prelude.{All}
use Rattle.std.specs.List.{range_with_len}
use Rattle.std.proofs.Math.Seq.{take-add, take-take, drop-drop, take-append_seam, drop-append_seam}
use Rattle.std.proofs.lemmas.List.{drop-take}
use Rattle.std.proofs.lemmas.List.Elements.{All-append, All-drop, All-head, All-map, All-take}
use Rattle.function_leaf.specs.Coded.{coded_byte}
use Rattle.rope_node.specs.Table.{Table}
use Rattle.rope_node.specs.Denotes.{Cell, Byte, Place}
use Rattle.span_descent.specs.declared.description.Description.{Description}
use Rattle.span_descent.specs.declared.description.Description.TheVariants.{Pooled, Sourced, Computed}
use Rattle.span_certificate.specs.Covers.{IsByte}
use Rattle.span_descent.specs.Leads.{described_cells}
use Rattle.span_certificate.specs.Runs.{IsSourced}

-- bytes of a description that is no source's are bytes
pub described_bytes : (t : Table) (n : ℕ) (what : Description) → ¬ IsSourced what → All IsByte (described_cells t n what)
described_bytes t n (Pooled a) none = All-map IsByte Byte (take n (drop a t.pool)) (λ k d lt. tt)
described_bytes t n (Sourced s a) none = absurd (none tt)
described_bytes t n (Computed f i) none = All-map IsByte (λ k. Byte (coded_byte f k)) (range_with_len i n) (λ k d lt. tt)

-- and those of a source are none
pub described_places : (t : Table) (what : Description) → IsSourced what → ¬ All IsByte (described_cells t 1 what)
described_places t (Pooled a) is = absurd is
described_places t (Sourced s a) is = λ all. All-head IsByte (Place s a) [] all
described_places t (Computed f i) is = absurd is

-- a run more
pub bytes_more : (cells : List Cell) (off done n : ℕ) → All IsByte (take done (drop off cells)) → All IsByte (take n (drop (off + done) cells)) → All IsByte (take (done + n) (drop off cells))
bytes_more cells off done n before here =
    rw (take-add done n (drop off cells), drop-drop done off cells) (All-append IsByte (take done (drop off cells)) (take n (drop (off + done) cells)) before here)

-- its first byte is among them
pub first_of_run : (cells : List Cell) (off done len : ℕ) → done < len → All IsByte (take len (drop off cells)) → All IsByte (take 1 (drop (off + done) cells))
first_of_run cells off done len lt all =
    let m = len - done in
    let size : len ≡ done + m = omega arith in
    let behind : drop done (take len (drop off cells)) ≡ take m (drop (off + done) cells) = ap (λ k. drop done (take k (drop off cells))) size ∙ drop-take done m (drop off cells) ∙ ap (take m) (drop-drop done off cells) in
    subst (All IsByte) (take-take 1 m (drop (off + done) cells) (omega arith)) (All-take IsByte 1 (take m (drop (off + done) cells)) (subst (All IsByte) behind (All-drop IsByte done (take len (drop off cells)) all)))

pub appended_bytes : (xs ys : List Cell) → All IsByte (xs ++ ys) → All IsByte xs × All IsByte ys
appended_bytes xs ys all = (
  subst (All IsByte) (take-append_seam xs ys) (All-take IsByte (length xs) (xs ++ ys) all),
  subst (All IsByte) (drop-append_seam xs ys) (All-drop IsByte (length xs) (xs ++ ys) all),
)
