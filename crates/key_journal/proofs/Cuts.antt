-- A journal that is cut short.
use Rattle.std.proofs.Common.{◌<◌, ◌^◌, cond, drop, get_or, arith, ◌≡◌, ◌≢◌, sym, append-nil, append_assoc, ℕ, zero, suc, List, [], ◌∷◌, ◌++◌, ◌⊎◌, inl, inr, length, take, Bool, true, false, ◌&&◌, IsTrue, refl, ap, ◌∙◌}
use Rattle.std.proofs.lemmas.List.{append_cancel_left}
use Rattle.std.specs.List.{list_all}
use Rattle.key_journal.specs.Keys.{AllGoOn, goes_on, kept_of}
use Rattle.key_journal.specs.Headers.{header_of}
use Rattle.key_journal.specs.Journal.{IsJournal, IsTorn}
use Rattle.std.specs.Int.{w64, to_be_bytes, from_be_bytes}
use Rattle.std.proofs.lemmas.Nat.{from_be_bytes-to_be_bytes_8}

-- of the front and what is behind it, the first n are a part of the front, or the front and the first of the others
pub cut_short : (front rest : List ℕ) (n : ℕ) → IsTorn front (take n (front ++ rest)) ⊎ ((m : ℕ) × (take n (front ++ rest) ≡ front ++ take m rest))
cut_short [] rest n = inr (n, refl)
cut_short (b ∷ bs) rest zero = inl (b, bs, refl)
cut_short (b ∷ bs) rest (suc n) = elim (cut_short bs rest n) [
  | inl t ↦ inl (t.0, t.1, ap (λ (l : List ℕ). b ∷ l) t.2)
  | inr k ↦ inr (k.0, ap (λ (l : List ℕ). b ∷ l) k.1)
]

both : (a b : Bool) → IsTrue (a && b) → IsTrue a × IsTrue b
both true b h = (refl, h)
both false b h = let e : false ≡ true = h in absurd cc

joined : (a b : Bool) → IsTrue a → IsTrue b → IsTrue (a && b)
joined true b h k = k
joined false b h k = let e : false ≡ true = h in absurd cc

pub first_go_on : (keys : List ℕ) (m : ℕ) → AllGoOn keys → AllGoOn (take m keys)
first_go_on keys zero h = refl
first_go_on [] (suc m) h = refl
first_go_on (k ∷ ks) (suc m) h =
    let at = both (goes_on k) (list_all goes_on ks) h in
    joined (goes_on k) (list_all goes_on (take m ks)) at.0 (first_go_on ks m at.1)

pub journal_cut : (front rest : List ℕ) (n : ℕ) → AllGoOn rest → IsTorn front (take n (front ++ rest)) ⊎ ((m : ℕ) × (take n (front ++ rest) ≡ front ++ take m rest) × AllGoOn (take m rest))
journal_cut front rest n on = elim (cut_short front rest n) [
  | inl t ↦ inl t
  | inr k ↦ inr (k.0, k.1, first_go_on rest k.0 on)
]

-- what stands behind the front is one
pub other_keys : (header bytes keys : List ℕ) → bytes ≡ header ++ keys → list_all goes_on keys ≡ false → ¬ IsJournal header bytes
other_keys header bytes keys is ends j =
    let same : keys ≡ j.0 = append_cancel_left header keys j.0 (sym is ∙ j.1) in
    let on : list_all goes_on keys ≡ true = ap (list_all goes_on) same ∙ j.2 in
    absurd cc

-- a front that the text is not
pub part_of : (header bytes rest : List ℕ) → header ≡ bytes ++ rest → ((r : List ℕ) → bytes ≢ header ++ r) → IsTorn header bytes
part_of header bytes [] is not = absurd (not [] (sym (append-nil bytes) ∙ sym is ∙ sym (append-nil header)))
part_of header bytes (b ∷ bs) is not = (b, bs, is)

nothing_behind : (keys : List ℕ) (b : ℕ) (bs : List ℕ) → ¬ (keys ++ b ∷ bs ≡ [])
nothing_behind [] b bs h = let n : b ∷ bs ≡ [] = h in absurd cc
nothing_behind (k ∷ ks) b bs h = let n : k ∷ (ks ++ b ∷ bs) ≡ [] = h in absurd cc

pub not_torn : (header bytes keys : List ℕ) → bytes ≡ header ++ keys → ¬ IsTorn header bytes
not_torn header bytes keys is t =
    let round : header ++ (keys ++ t.0 ∷ t.1) ≡ header ++ [] =
    sym (append_assoc header keys (t.0 ∷ t.1)) ∙ ap (λ (l : List ℕ). l ++ t.0 ∷ t.1) (sym is) ∙ sym t.2 ∙ sym (append-nil header) in
    nothing_behind keys t.0 t.1 (append_cancel_left header (keys ++ t.0 ∷ t.1) [] round)

-- ---- a journal that grows

grows : (test : Bool) (b : ℕ) (bs : List ℕ) → goes_on b ≡ test → AllGoOn bs → AllGoOn (cond test (b ∷ bs) bs)
grows true b bs is h = joined (goes_on b) (list_all goes_on bs) is h
grows false b bs is h = h

kept_go_on : (keys : List ℕ) → AllGoOn (kept_of keys)
kept_go_on [] = refl
kept_go_on (b ∷ bs) = grows (goes_on b) b (kept_of bs) refl (kept_go_on bs)

all_go_on : (xs ys : List ℕ) → AllGoOn xs → AllGoOn ys → AllGoOn (xs ++ ys)
all_go_on [] ys h k = k
all_go_on (x ∷ xs) ys h k =
    let at = both (goes_on x) (list_all goes_on xs) h in
    joined (goes_on x) (list_all goes_on (xs ++ ys)) at.0 (all_go_on xs ys at.1 k)

pub stays_journal : (header bytes keys : List ℕ) → IsJournal header bytes → IsJournal header (bytes ++ kept_of keys)
stays_journal header bytes keys j = (
  j.0 ++ kept_of keys,
  ap (λ (l : List ℕ). l ++ kept_of keys) j.1 ∙ append_assoc header j.0 (kept_of keys),
  all_go_on j.0 (kept_of keys) j.2 (kept_go_on keys),
)

-- ---- one header

same_front : (d e xs ys : List ℕ) → length d ≡ length e → d ++ xs ≡ e ++ ys → d ≡ e
same_front [] [] xs ys len h = refl
same_front [] (y ∷ e) xs ys len h = absurd cc
same_front (x ∷ d) [] xs ys len h = absurd cc
same_front (x ∷ d) (y ∷ e) xs ys len h =
    let heads : x ≡ y = cc in
    let tails : d ++ xs ≡ e ++ ys = cc in
    let short : length d ≡ length e = omega (arith, len) in
    rw (heads, same_front d e xs ys short tails) refl

header_behind : (i s n : ℕ) (d keys : List ℕ) → header_of i s n d ++ keys ≡ header_of i s n (d ++ keys)
header_behind i s n d keys = refl

-- what stands behind the format's number, the number of sources and the size
fields : (i j s t m n : ℕ) (xs ys : List ℕ) → m < 2 ^ 64 → n < 2 ^ 64 → header_of i s m xs ≡ header_of j t n ys → (i ≡ j) × (s ≡ t) × (m ≡ n) × (xs ≡ ys)
fields i j s t m n xs ys small few is =
    let sizes : to_be_bytes w64 m ++ xs ≡ to_be_bytes w64 n ++ ys = ap (λ (l : List ℕ). drop 16 l) is in
    let size : to_be_bytes w64 m ≡ to_be_bytes w64 n = ap (λ (l : List ℕ). take 8 l) sizes in (
      ap (λ (l : List ℕ). get_or l 11 0) is,
      ap (λ (l : List ℕ). get_or l 15 0) is,
      sym (from_be_bytes-to_be_bytes_8 m small) ∙ ap (λ (l : List ℕ). from_be_bytes w64 l) size ∙ from_be_bytes-to_be_bytes_8 n few,
      ap (λ (l : List ℕ). drop 8 l) sizes,
    )

pub one_of : (i j s t m n : ℕ) (d e bytes : List ℕ) → m < 2 ^ 64 → n < 2 ^ 64 → length d ≡ length e → IsJournal (header_of i s m d) bytes → IsJournal (header_of j t n e) bytes → (i ≡ j) × (s ≡ t) × (m ≡ n) × (d ≡ e)
one_of i j s t m n d e bytes small few len h k =
    let at = fields i j s t m n (d ++ h.0) (e ++ k.0) small few (sym (header_behind i s m d h.0) ∙ sym h.1 ∙ k.1 ∙ header_behind j t n e k.0) in
    (at.0, at.1, at.2, same_front d e h.0 k.0 len at.3)
