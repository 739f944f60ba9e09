-- A header's own fault, and what it states, are the same whatever stands behind it; so few bytes tell the first fault of many.
use Rattle.std.proofs.Common.{◌≡◌, ℕ, ◌+◌, ◌<◌, ◌≤◌, List, ◌++◌, length, take, drop, Option, Some, None, refl, sym, ap, subst, ◌∙◌, arith, length-append, inl, inr}
use Rattle.std.specs.Int.{Width, w32, w64, byte_len, from_be_bytes}
use Rattle.std.proofs.lemmas.Bool.{cases_lt, le-ltb, lt-ltb}
use Rattle.std.proofs.lemmas.List.{take-append-drop, take-append-le, drop-append-le, take_all, length-drop, length-take}
use Rattle.image_reader.specs.declared.fault.ReadFault.{ReadFault}
use Rattle.image_reader.specs.declared.fault.ReadFault.TheVariants.{Trailing}
use Rattle.image_reader.specs.declared.header.Header.{Header}
use Rattle.image_reader.specs.declared.header.TheConstants.{LONGEST_IMAGE}
use Rattle.image_reader.specs.Layout.{number_in}
use Rattle.image_reader.specs.Reading.{HasHeader, JudgesAll, front_fault, stated_len, whole_len, header_fault, fault_of, judged_by, judged_len}
use Rattle.image_reader.proofs.WholeImages.{front_back}

-- ---- numbers of the header

front_number : (w : Width) (at : ℕ) (xs ys : List ℕ) → at + byte_len w ≤ length xs → number_in w at (xs ++ ys) ≡ number_in w at xs
unfolding number_in
front_number w at xs ys fits =
    ap (λ (bs : List ℕ). from_be_bytes w (take (byte_len w) bs)) (drop-append-le at xs ys (omega (arith, fits)))
    ∙ ap (from_be_bytes w) (take-append-le (byte_len w) (drop at xs) ys (omega (arith, fits, length-drop at xs)))

-- what a header tells does not change by what stands behind it
pub record IsSameFront (xs zs : List ℕ) : Type 0 where
  pub fault : front_fault zs ≡ front_fault xs
  pub stated : stated_len zs ≡ stated_len xs

pub same_front : (xs ys : List ℕ) → 40 ≤ length xs → IsSameFront xs (xs ++ ys)
unfolding front_fault stated_len
same_front xs ys long =
    let magic : number_in w64 0 (xs ++ ys) ≡ number_in w64 0 xs = front_number w64 0 xs ys (omega (arith, long)) in
    let version : number_in w32 8 (xs ++ ys) ≡ number_in w32 8 xs = front_number w32 8 xs ys (omega (arith, long)) in
    let sources : number_in w32 12 (xs ++ ys) ≡ number_in w32 12 xs = front_number w32 12 xs ys (omega (arith, long)) in
    let nodes : number_in w32 16 (xs ++ ys) ≡ number_in w32 16 xs = front_number w32 16 xs ys (omega (arith, long)) in
    let revisions : number_in w32 20 (xs ++ ys) ≡ number_in w32 20 xs = front_number w32 20 xs ys (omega (arith, long)) in
    let rows : number_in w32 24 (xs ++ ys) ≡ number_in w32 24 xs = front_number w32 24 xs ys (omega (arith, long)) in
    let splices : number_in w32 28 (xs ++ ys) ≡ number_in w32 28 xs = front_number w32 28 xs ys (omega (arith, long)) in
    let pool : number_in w64 32 (xs ++ ys) ≡ number_in w64 32 xs = front_number w64 32 xs ys (omega (arith, long)) in
    record {
      fault = rw (magic, version, sources, nodes, revisions, rows, splices, pool) refl;
      stated = rw (sources, nodes, revisions, rows, splices, pool) refl;
    }

pub judged_front : (xs ys : List ℕ) → 40 ≤ length xs → judged_len (xs ++ ys) ≡ judged_len xs
unfolding judged_len
judged_front xs ys long = let same = same_front xs ys long in rw (same.fault, same.stated) refl

stated_long : (xs : List ℕ) → 40 ≤ stated_len xs
unfolding stated_len
stated_long xs = omega arith

pub judged_long : (xs : List ℕ) → 40 ≤ judged_len xs
unfolding judged_len
judged_long xs = by_fault (front_fault xs)
  where
    by_fault : (f : Option ReadFault) → 40 ≤ judged_by f (stated_len xs)
    by_fault None = omega (arith, stated_long xs)
    by_fault (Some fault) = omega arith

-- ---- the first fault

-- a header's own fault is the first fault
front_first : (xs : List ℕ) (fault : ReadFault) → 40 ≤ length xs → front_fault xs ≡ Some fault → fault_of xs ≡ Some fault
unfolding fault_of header_fault
front_first xs fault long is = rw (le-ltb (length xs) 40 long, is) refl

-- also of all bytes that begin with it
own_first : (xs ys : List ℕ) (fault : ReadFault) → 40 ≤ length xs → front_fault xs ≡ Some fault → fault_of (xs ++ ys) ≡ Some fault
own_first xs ys fault long is = front_first (xs ++ ys) fault (omega (arith, long, length-append xs ys)) ((same_front xs ys long).fault ∙ is)

-- bytes that are more than their header states
too_long : (xs : List ℕ) → front_fault xs ≡ None → stated_len xs < length xs → fault_of xs ≡ Some Trailing
unfolding fault_of header_fault
too_long xs none long =
    rw (le-ltb (length xs) 40 (omega (arith, long, stated_long xs)), none, le-ltb (length xs) (stated_len xs) (omega (arith, long)), lt-ltb (stated_len xs) (length xs) long) refl

-- what the judged bytes tell of all
record Judges (n : ℕ) (xs : List ℕ) : Type 0 where
  pub fault : fault_of (take n xs) ≡ fault_of xs
  pub whole : fault_of xs ≡ None → take n xs ≡ xs

refused_front : (xs : List ℕ) (fault : ReadFault) → 40 ≤ length xs → front_fault xs ≡ Some fault → Judges 40 xs
refused_front xs fault long is =
    let front : length (take 40 xs) ≡ 40 = omega (arith, long, length-take 40 xs) in
    let all : take 40 xs ++ drop 40 xs ≡ xs = take-append-drop 40 xs in
    let own : front_fault (take 40 xs) ≡ Some fault = sym (same_front (take 40 xs) (drop 40 xs) (omega (arith, front))).fault ∙ ap front_fault all ∙ is in
    let few : fault_of (take 40 xs) ≡ Some fault = front_first (take 40 xs) fault (omega (arith, front)) own in
    let many : fault_of xs ≡ Some fault = front_first xs fault long is in
    record { fault = few ∙ sym many; whole = λ none. (let never : Some fault ≡ None = sym many ∙ none in absurd cc) }

stated_front : (xs : List ℕ) → 40 ≤ length xs → front_fault xs ≡ None → Judges (stated_len xs + 1) xs
stated_front xs long none =
    elim (cases_lt (stated_len xs + 1) (length xs)) [
      | inl more ↦
          let n = stated_len xs + 1 in
          let count : length (take n xs) ≡ n = omega (arith, more, length-take n xs) in
          let all : take n xs ++ drop n xs ≡ xs = take-append-drop n xs in
          let same = same_front (take n xs) (drop n xs) (omega (arith, count, stated_long xs)) in
          let own : front_fault (take n xs) ≡ None = sym same.fault ∙ ap front_fault all ∙ none in
          let stated : stated_len (take n xs) ≡ stated_len xs = sym same.stated ∙ ap stated_len all in
          let few : fault_of (take n xs) ≡ Some Trailing = too_long (take n xs) own (omega (arith, stated, count)) in
          let many : fault_of xs ≡ Some Trailing = too_long xs none (omega (arith, more)) in
          record { fault = few ∙ sym many; whole = λ good. (let never : Some Trailing ≡ None = sym many ∙ good in absurd cc) }
      | inr all ↦
          let same : take (stated_len xs + 1) xs ≡ xs = take_all (stated_len xs + 1) xs all in
          record { fault = ap fault_of same; whole = λ good. same }
    ]

judges : (xs : List ℕ) → 40 ≤ length xs → Judges (judged_len xs) xs
unfolding judged_len
judges xs long = by_fault (front_fault xs) refl
  where
    by_fault : (f : Option ReadFault) → front_fault xs ≡ f → Judges (judged_by f (stated_len xs)) xs
    by_fault None is = stated_front xs long is
    by_fault (Some fault) is = refused_front xs fault long is

-- so do those of each list that begins with a header
pub judges_all : (header : List ℕ) (n : ℕ) → 40 ≤ length header → n ≡ judged_len header → JudgesAll n header
judges_all header n long is = record { own = λ fault is rest. own_first header rest fault long is; fault = λ rest. (of_all rest).fault; whole = λ rest. (of_all rest).whole }
  where
    of_all : (rest : List ℕ) → Judges n (header ++ rest)
    of_all rest =
        subst (λ (k : ℕ). Judges k (header ++ rest)) (judged_front header rest long ∙ sym is)
        (judges (header ++ rest) (omega (arith, long, length-append header rest)))

-- ---- the longest image

pub stated_is : (bytes : List ℕ) (h : Header) → HasHeader bytes h → whole_len h ≡ stated_len bytes
unfolding stated_len
stated_is bytes h has = rw (has.sources, has.nodes, has.revisions, has.splices, has.rows, has.pool) refl

pub stated_few : (bytes : List ℕ) → None ≡ front_fault bytes → stated_len bytes ≤ LONGEST_IMAGE
unfolding stated_len
stated_few bytes none =
    let is = front_back bytes (sym none) in
    omega (arith, is.sources, is.nodes, is.revisions, is.rows, is.pool, is.splices.few)

-- ---- what the call answers

pub judged_ok : (bytes : List ℕ) (h : Header) → None ≡ front_fault bytes → HasHeader bytes h → whole_len h + 1 ≡ judged_len bytes
unfolding judged_len
judged_ok bytes h none has = rw (← none) (ap (λ (n : ℕ). n + 1) (stated_is bytes h has))

pub judged_err : (bytes : List ℕ) (fault : ReadFault) → Some fault ≡ front_fault bytes → 40 ≡ judged_len bytes
unfolding judged_len
judged_err bytes fault is = rw (← is) refl

pub judged_limits : (bytes : List ℕ) (h : Header) → None ≡ front_fault bytes → HasHeader bytes h → (40 ≤ whole_len h + 1) × (whole_len h + 1 ≤ LONGEST_IMAGE + 1)
judged_limits bytes h none has =
    let same = stated_is bytes h has in
    let few = stated_few bytes none in
    let long = stated_long bytes in
    (omega (arith, same, long), omega (arith, same, few))
