-- An image's commands have lines.
use Rattle.std.proofs.Common.{ℕ, zero, suc, ◌<◌, List, [], ◌∷◌, take, drop, Option, refl, arith}
use Rattle.std.specs.List.{AllByRecursion}
use Rattle.rope_node.specs.declared.node.NodeId.{NodeId}
use Rattle.rope_node.specs.Table.{Table}
use Rattle.command_parts.specs.declared.edit.Edit.{Edit}
use Rattle.command_parts.specs.declared.edit.Edit.TheVariants.{New, Open, Insert, Delete, Replace, Paste, Join, Cut, Fill, Back, Balance, Many}
use Rattle.command_parts.specs.declared.edit.Splice.{Splice}
use Rattle.command_parts.specs.Commands.{full_edit}
use Rattle.command_parts.specs.Fields.{FitsRecord}
use Rattle.command_parts.specs.Parts.{IsInRange}
use Rattle.image_reader.specs.Layout.{IsBytes}
use Rattle.image_reader.specs.Value.{FitsSplice}
use Rattle.edit_script.specs.Commands.{Revision, Place, Byte, Text, only, splice_kinds, splice_words, words_of, HasKinds, HasBytes, IsPrintable}
use Rattle.lazy_file.proofs.UsedBlocks.{all_take}

pub all_drop : {X : Type 0} (P : X → Type 0) (n : ℕ) (xs : List X) → AllByRecursion P xs → AllByRecursion P (drop n xs)
all_drop P zero xs h = h
all_drop P (suc n) [] h = tt
all_drop P (suc n) (x ∷ xs) h = all_drop P n xs h.1

bytes_all : (bytes : List ℕ) → IsBytes bytes → AllByRecursion (λ b. b < 256) bytes
bytes_all [] h = tt
bytes_all (b ∷ bytes) h = (h 0, bytes_all bytes (λ i. h (suc i)))

text_bytes : (pool : List ℕ) (a n : ℕ) → IsBytes pool → AllByRecursion (λ b. b < 256) (take n (drop a pool))
text_bytes pool a n h = all_take (λ b. b < 256) n (drop a pool) (all_drop (λ b. b < 256) a pool (bytes_all pool h))

splices_suit : (pool : List ℕ) (splices : List Splice) → AllByRecursion FitsSplice splices → HasKinds splice_kinds [] (splice_words pool splices)
splices_suit pool [] h = tt
splices_suit pool (s ∷ splices) h = (h.0.p, (h.0.m, (tt, splices_suit pool splices h.1)))

splices_bytes : (pool : List ℕ) (splices : List Splice) → IsBytes pool → AllByRecursion HasBytes (splice_words pool splices)
splices_bytes pool [] h = tt
splices_bytes pool (s ∷ splices) h = (tt, (tt, (text_bytes pool s.a s.n h, splices_bytes pool splices h)))

-- a command whose numbers fit its record, and which is in range, has a line
pub printable : (pool : List ℕ) (all : List Splice) (t : Table) (roots : List (Option NodeId)) (e : Edit) → IsBytes pool → AllByRecursion FitsSplice all → FitsRecord e → IsInRange t roots (full_edit all e) → IsPrintable (words_of pool (full_edit all e))
printable pool all t roots New bytes splices fits range = record { command = (only [], refl, tt); bytes = (tt, tt) }
printable pool all t roots (Open s) bytes splices fits range = record { command = (only (Revision ∷ []), refl, (fits.0, tt)); bytes = (tt, (tt, tt)) }
printable pool all t roots (Insert r p a n) bytes splices fits range = record {
  command = (only (Revision ∷ Place ∷ Text ∷ []), refl, (fits.0, (fits.1.0, (tt, tt))));
  bytes = (tt, (tt, (tt, (text_bytes pool a n bytes, tt))));
}
printable pool all t roots (Delete r p n) bytes splices fits range = record {
  command = (only (Revision ∷ Place ∷ Place ∷ []), refl, (fits.0, (fits.1.0, (fits.1.1.0, tt))));
  bytes = (tt, (tt, (tt, (tt, tt))));
}
printable pool all t roots (Replace r p m a n) bytes splices fits range = record {
  command = (only (Revision ∷ Place ∷ Place ∷ Text ∷ []), refl, (fits.0, (fits.1.0, (fits.1.1.0, (tt, tt)))));
  bytes = (tt, (tt, (tt, (tt, (text_bytes pool a n bytes, tt)))));
}
printable pool all t roots (Paste r p q i n) bytes splices fits range = record {
  command = (only (Revision ∷ Place ∷ Revision ∷ Place ∷ Place ∷ []), refl, (fits.0, (fits.1.1.0, (fits.1.0, (fits.1.1.1.0, (fits.1.1.1.1.0, tt))))));
  bytes = (tt, (tt, (tt, (tt, (tt, (tt, tt))))));
}
printable pool all t roots (Join r q) bytes splices fits range = record {
  command = (only (Revision ∷ Revision ∷ []), refl, (fits.0, (fits.1.0, tt)));
  bytes = (tt, (tt, (tt, tt)));
}
printable pool all t roots (Cut r i n) bytes splices fits range = record {
  command = (only (Revision ∷ Place ∷ Place ∷ []), refl, (fits.0, (fits.1.0, (fits.1.1.0, tt))));
  bytes = (tt, (tt, (tt, (tt, tt))));
}
printable pool all t roots (Fill r p c n) bytes splices fits range =
    let small : c < 256 = omega (arith, range.2) in
    record {
      command = (only (Revision ∷ Place ∷ Byte ∷ Place ∷ []), refl, (fits.0, (fits.1.0, (small, (fits.1.1.1.0, tt)))));
      bytes = (tt, (tt, (tt, (tt, (tt, tt)))));
    }
printable pool all t roots (Back r) bytes splices fits range = record { command = (only (Revision ∷ []), refl, (fits.0, tt)); bytes = (tt, (tt, tt)) }
printable pool all t roots (Balance r) bytes splices fits range = record { command = (only (Revision ∷ []), refl, (fits.0, tt)); bytes = (tt, (tt, tt)) }
printable pool all t roots (Many r first count) bytes splices fits range =
    let named = all_take FitsSplice count (drop first all) (all_drop FitsSplice first all splices) in
    record {
      command = (record { once = Revision ∷ []; again = splice_kinds }, refl, (fits.0, splices_suit pool (take count (drop first all)) named));
      bytes = (tt, (tt, splices_bytes pool (take count (drop first all)) bytes));
    }
