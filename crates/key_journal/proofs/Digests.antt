-- Bytes that are taken into a digest.
use Rattle.std.proofs.Common.{◌==◌, ◌<◌, ◌-◌, ◌≤◌, false, refl, length, slice_index, ◌≡◌, ◌∙◌, ◌+◌, ℕ, List, [], ◌∷◌, ◌++◌, take, drop, Option, Some, None, IfSome, append_assoc, ap, sym, subst, arith}
use Rattle.std.proofs.lemmas.Bool.{le-leb, lt-leb}
use Rattle.std.proofs.lemmas.List.{drop-drop, take_all}
use Rattle.std.proofs.Math.Seq.{take-add}
use Rattle.sha2.specs.declared.Sha256.{Sha256}
use Rattle.sha2.specs.Hashers.{Holds256}
use Rattle.sha2.specs.Sha256.{sha256}
use Rattle.key_journal.specs.declared.headers.TheConstants.{END_SIZE, FROM_SOURCES, ONTO_IMAGE, WHOLE_LIMIT}
use Rattle.key_journal.specs.Headers.{TakesDigested, TakesIn, digested, header_of, heads, heads_onto}

-- bytes, and those behind them
pub takes_on : (text : Option (List ℕ)) (off done size : ℕ) (a b c : Sha256) → IfSome text (λ t. TakesIn t off done a b)
    → IfSome text (λ t. TakesIn t (off + done) size b c) → IfSome text (λ t. TakesIn t off (done + size) a c)
takes_on None off done size a b c h k = tt
takes_on (Some t) off done size a b c h k = λ m held.
    let front = take done (drop off t) in
    let both : (m ++ front) ++ take size (drop (off + done) t) ≡ m ++ take (done + size) (drop off t) =
    append_assoc m front (take size (drop (off + done) t))
    ∙ ap (λ (l : List ℕ). m ++ (front ++ take size l)) (sym (drop-drop done off t))
    ∙ ap (λ (l : List ℕ). m ++ l) (sym (take-add done size (drop off t))) in
    subst (λ (l : List ℕ). Holds256 c l) both (k (m ++ front) (h m held))

-- a text that is taken in whole
pub whole_taken : (text : Option (List ℕ)) (size : ℕ) (a b : Sha256) → size ≤ WHOLE_LIMIT → IfSome text (λ t. TakesIn t 0 size a b) → IfSome text (λ t. TakesDigested t size a b)
whole_taken None size a b few h = tt
whole_taken (Some t) size a b few h = λ m held.
    let same : digested size t ≡ take size t = rw (le-leb size WHOLE_LIMIT few) refl in
    subst (λ (l : List ℕ). Holds256 b (m ++ l)) (sym same) (h m held)

-- the front, and the back behind it
pub both_ends : (text : Option (List ℕ)) (size : ℕ) (a b c : Sha256) → WHOLE_LIMIT < size → IfSome text (λ t. TakesIn t 0 END_SIZE a b)
    → IfSome text (λ t. TakesIn t (size - END_SIZE) END_SIZE b c) → IfSome text (λ t. TakesDigested t size a c)
both_ends None size a b c large h k = tt
both_ends (Some t) size a b c large h k = λ m held.
    let front = take END_SIZE t in
    let back = take END_SIZE (drop (size - END_SIZE) t) in
    let same : digested size t ≡ front ++ back = rw (lt-leb size WHOLE_LIMIT large) refl in
    subst (λ (l : List ℕ). Holds256 c l) (append_assoc m front back ∙ ap (λ (l : List ℕ). m ++ l) (sym same)) (k (m ++ front) (h m held))

-- the header, where there is a source
pub heads_first : (sizes : List ℕ) (first : Option (List ℕ)) (header digest : List ℕ) → false ≡ (length sizes == 0)
    → IfSome first (λ t. digest ≡ sha256 (digested (slice_index sizes 0) t)) → header ≡ header_of FROM_SOURCES (length sizes) (slice_index sizes 0) digest → heads sizes first header
heads_first [] first header digest some h is = absurd cc
heads_first (size ∷ sizes) None header digest some h is = tt
heads_first (size ∷ sizes) (Some t) header digest some h is = is ∙ ap (λ (l : List ℕ). header_of FROM_SOURCES (length (size ∷ sizes)) size l) h

-- that over an image
pub heads_first_onto : (image sizes : List ℕ) (first : Option (List ℕ)) (header digest : List ℕ) → false ≡ (length sizes == 0)
    → IfSome first (λ t. digest ≡ sha256 (digested (length image) image ++ digested (slice_index sizes 0) t))
    → header ≡ header_of ONTO_IMAGE (length sizes) (slice_index sizes 0) digest → heads_onto image sizes first header
heads_first_onto image [] first header digest some h is = absurd cc
heads_first_onto image (size ∷ sizes) None header digest some h is = tt
heads_first_onto image (size ∷ sizes) (Some t) header digest some h is = is ∙ ap (λ (l : List ℕ). header_of ONTO_IMAGE (length (size ∷ sizes)) size l) h

-- the digest of a text behind bytes
pub digest_behind : (text : Option (List ℕ)) (front digest : List ℕ) (size : ℕ) (a b : Sha256) → Holds256 a front → IfSome text (λ t. TakesDigested t size a b)
    → ((m : List ℕ) → Holds256 b m → digest ≡ sha256 m) → IfSome text (λ t. digest ≡ sha256 (front ++ digested size t))
digest_behind None front digest size a b held h is = tt
digest_behind (Some t) front digest size a b held h is = is (front ++ digested size t) (h front held)

-- the bytes of an image that are taken in: all of them, or both of their ends
pub all_digested : (bytes : List ℕ) (a b : Sha256) → length bytes ≤ WHOLE_LIMIT → ((m : List ℕ) → Holds256 a m → Holds256 b (m ++ bytes)) → TakesDigested bytes (length bytes) a b
all_digested bytes a b few h = λ m held.
    let same : digested (length bytes) bytes ≡ bytes = rw (le-leb (length bytes) WHOLE_LIMIT few) (take_all (length bytes) bytes (omega arith)) in
    subst (λ (l : List ℕ). Holds256 b (m ++ l)) (sym same) (h m held)

pub ends_digested : (bytes : List ℕ) (a b c : Sha256) → WHOLE_LIMIT < length bytes → ((m : List ℕ) → Holds256 a m → Holds256 b (m ++ take END_SIZE bytes))
    → ((m : List ℕ) → Holds256 b m → Holds256 c (m ++ take (length bytes - (length bytes - END_SIZE)) (drop (length bytes - END_SIZE) bytes)))
    → TakesDigested bytes (length bytes) a c
ends_digested bytes a b c large h k = λ m held.
    let front = take END_SIZE bytes in
    let rest = drop (length bytes - END_SIZE) bytes in
    let size : length bytes - (length bytes - END_SIZE) ≡ END_SIZE = omega (arith, large) in
    let same : digested (length bytes) bytes ≡ front ++ take END_SIZE rest = rw (lt-leb (length bytes) WHOLE_LIMIT large) refl in
    let back = take (length bytes - (length bytes - END_SIZE)) rest in
    subst (λ (l : List ℕ). Holds256 c l)
    (append_assoc m front back ∙ ap (λ (n : ℕ). m ++ (front ++ take n rest)) size ∙ ap (λ (l : List ℕ). m ++ l) (sym same)) (k (m ++ front) (h m held))
