-- Counting what revisions have, one revision after the other.
use Rattle.std.proofs.Common.{◌≡◌, ℕ, suc, ◌+◌, ◌-◌, ◌*◌, ◌^◌, ◌<◌, ◌≤◌, List, length, take, drop, refl, ap, ◌∙◌, arith}
use Rattle.std.specs.List.{sum_by}
use Rattle.std.proofs.Math.Nat.{sub-zero, mul-suc}
use Rattle.std.proofs.lemmas.List.{length-drop}
use Rattle.std.proofs.lemmas.List.Sums.{sum_by-cons}
use Rattle.image_reader.specs.Layout.{records}

pub record IsCountedTo (number : List ℕ → ℕ) (count i : ℕ) (rest bytes : List ℕ) (sum : ℕ) : Type 0 where
  pub enough : 56 * (count - i) ≤ length rest
  pub small : sum ≤ i * 4294967295
  pub same : sum + sum_by number (records 56 (count - i) rest) ≡ sum_by number (records 56 count bytes)

module _ (number : List ℕ → ℕ) where
  pub counted_to_none : (count : ℕ) (bytes : List ℕ) → 56 * count ≤ length bytes → IsCountedTo number count 0 bytes bytes 0
  counted_to_none count bytes enough = record { enough = rw (sub-zero count) enough; small = omega arith; same = rw (sub-zero count) (omega arith) }

  counted_more : (count i : ℕ) (rest : List ℕ) → i < count → sum_by number (records 56 (count - i) rest) ≡ number (take 56 rest) + sum_by number (records 56 (count - (i + 1)) (drop 56 rest))
  unfolding records
  counted_more count i rest lt =
      let split : count - i ≡ suc (count - (i + 1)) = omega arith in
      ap (λ (n : ℕ). sum_by number (records 56 n rest)) split ∙ sum_by-cons number (take 56 rest) (records 56 (count - (i + 1)) (drop 56 rest))

  pub counted_to_more : (count i : ℕ) (rest bytes : List ℕ) (sum n : ℕ) → i < count → n ≡ number (take 56 rest) → n < 2 ^ 32 → IsCountedTo number count i rest bytes sum → IsCountedTo number count (i + 1) (drop 56 rest) bytes (sum + n)
  counted_to_more count i rest bytes sum n lt is small so_far =
      let split : count - i ≡ suc (count - (i + 1)) = omega arith in
      let enough = rw (split, mul-suc) at so_far.enough in
      record {
        enough = omega (arith, length-drop 56 rest);
        small = omega (arith, so_far.small);
        same = (let more = counted_more count i rest lt in omega (arith, so_far.same));
      }

  pub counted_to_end : (count i : ℕ) (rest bytes : List ℕ) (sum : ℕ) → count ≤ i → IsCountedTo number count i rest bytes sum → sum ≡ sum_by number (records 56 count bytes)
  unfolding records
  counted_to_end count i rest bytes sum le so_far =
      let none : count - i ≡ 0 = omega arith in
      let nothing : sum_by number (records 56 (count - i) rest) ≡ 0 = rw none refl in
      omega (arith, so_far.same)

  pub counted_fits : (count i : ℕ) (rest bytes : List ℕ) (sum n : ℕ) → i < count → count < 2 ^ 32 → n < 2 ^ 32 → IsCountedTo number count i rest bytes sum → sum + n < 2 ^ 64
  counted_fits count i rest bytes sum n lt few small so_far = omega (arith, so_far.small)
