-- What is known of bytes that were read, and where nothing is written.
use Rattle.std.proofs.Common.{◌≡◌, ℕ, ◌<◌, ◌≤◌, List, [], ◌++◌, length, take, Option, Some, None, refl, sym, ap, subst, ◌∙◌, append_assoc, arith, inl, inr}
use Rattle.std.specs.Prelude.{IfSome}
use Rattle.std.specs.Io.KnownBytes.{Consumes, IsAtEnd, Keeps}
use Rattle.std.proofs.KnownBytes.{Consumes-trans}
use Rattle.std.proofs.lemmas.Bool.{cases_lt}
use Rattle.std.proofs.lemmas.List.{append-nil, take_all, take_at}
use Rattle.byte_output.specs.Prefix.{AppendsPrefix}
use Rattle.image_reader.specs.Reading.{judged_len}
use Rattle.image_reader.proofs.HeaderFaults.{judged_front, judged_long}
use Rattle.cord_tools.specs.Answers.{AreRead, AreReadUpTo}
use Rattle.cord_tools.specs.Input.{ReadsBehind, ReadsUpTo}

-- ---- bytes that were read

none_read : (o : Option (List ℕ)) → Consumes o o []
none_read None = tt
none_read (Some xs) = refl

pub read_nothing : (o : Option (List ℕ)) (xs : List ℕ) → ReadsBehind o o xs xs
read_nothing o xs = record { more = []; read = none_read o; behind = sym (append-nil xs) }

pub read_then : (a b c : Option (List ℕ)) (xs ys zs : List ℕ) → ReadsBehind a b xs ys → ReadsBehind b c ys zs → ReadsBehind a c xs zs
read_then a b c xs ys zs h k = record {
  more = h.more ++ k.more;
  read = Consumes-trans a b c h.more k.more h.read k.read;
  behind = k.behind ∙ ap (λ (l : List ℕ). l ++ k.more) h.behind ∙ append_assoc xs h.more k.more;
}

-- the first n bytes of a reader, or all where there are fewer
first_bytes : (n : ℕ) (xs rest bytes : List ℕ) → xs ≡ bytes ++ rest → length bytes ≤ n → (length bytes < n → rest ≡ []) → bytes ≡ take n xs
first_bytes n xs rest bytes is few all =
    elim (cases_lt (length bytes) n) [
      | inl short ↦
          let same : xs ≡ bytes = is ∙ ap (λ (l : List ℕ). bytes ++ l) (all short) ∙ append-nil bytes in
          sym (ap (take n) same ∙ take_all n bytes few)
      | inr long ↦ sym (ap (take n) is ∙ take_at bytes rest n (omega (arith, few, long)))
    ]

-- they are what was read, where no bytes were there
bytes_of : (a b : Option (List ℕ)) (old bytes : List ℕ) → old ≡ [] → ReadsBehind a b old bytes → Consumes a b bytes
bytes_of a b old bytes none h =
    let same : bytes ≡ h.more = h.behind ∙ ap (λ (l : List ℕ). l ++ h.more) none in
    subst (Consumes a b) (sym same) h.read

-- what was read up to a limit, where no bytes were there
pub up_to : (limit : ℕ) (a b : Option (List ℕ)) (old bytes : List ℕ) → old ≡ [] → ReadsUpTo limit a b old bytes → AreReadUpTo limit a bytes
up_to limit a b old bytes none h = known a b (bytes_of a b old bytes none h.bytes) h.all
  where
    known : (o w : Option (List ℕ)) → Consumes o w bytes → (length bytes < limit → IsAtEnd w) → IfSome o (λ xs. bytes ≡ take limit xs)
    known None w read all = tt
    known (Some xs) None read all = absurd read
    known (Some xs) (Some rest) read all = first_bytes limit xs rest bytes read h.few all

-- fewer bytes than a header has are all, and are judged
pub short_image : (a b : Option (List ℕ)) (old bytes : List ℕ) → old ≡ [] → ReadsUpTo 40 a b old bytes → length bytes < 40 → AreRead a bytes
short_image a b old bytes none h short = known a b (bytes_of a b old bytes none h.bytes) (h.all short)
  where
    known : (o w : Option (List ℕ)) → Consumes o w bytes → IsAtEnd w → AreRead o bytes
    known None w read end = tt
    known (Some xs) None read end = absurd read
    known (Some xs) (Some rest) read end = first_bytes (judged_len xs) xs rest bytes read (omega (arith, short, judged_long xs)) (λ few. end)

-- a header, and behind it as many bytes as are judged by it
pub judged_image : (a b c : Option (List ℕ)) (old header bytes : List ℕ) (n : ℕ) → old ≡ [] → 40 ≤ length header → n ≡ judged_len header → ReadsBehind a b old header → ReadsUpTo n b c header bytes → AreRead a bytes
judged_image a b c old header bytes n none long judged first h = known a c (bytes_of a c old bytes none (read_then a b c old header bytes first h.bytes)) h.all
  where
    known : (o w : Option (List ℕ)) → Consumes o w bytes → (length bytes < n → IsAtEnd w) → AreRead o bytes
    known None w read all = tt
    known (Some xs) None read all = absurd read
    known (Some xs) (Some rest) read all =
        let whole : xs ≡ header ++ (h.bytes.more ++ rest) = read ∙ ap (λ (l : List ℕ). l ++ rest) h.bytes.behind ∙ append_assoc header h.bytes.more rest in
        let same : judged_len xs ≡ n = ap judged_len whole ∙ judged_front header (h.bytes.more ++ rest) long ∙ sym judged in
        rw same (first_bytes n xs rest bytes read h.few all)

-- ---- bytes that were written

pub Keeps-same : (o : Option (List ℕ)) → Keeps o o
Keeps-same None = tt
Keeps-same (Some xs) = refl

-- nothing is a prefix of any bytes
pub no_byte : (o : Option (List ℕ)) (bs : List ℕ) → AppendsPrefix o o bs
no_byte None bs = (0, tt)
no_byte (Some xs) bs = (0, sym (append-nil xs))
