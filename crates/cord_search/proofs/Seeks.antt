-- What a search of a piece tells of the places before it and in it, and how pieces are cut.
use Rattle.std.proofs.Common.{◌≡◌, ℕ, ◌+◌, ◌-◌, ◌<◌, ◌≤◌, min, max, List, [], ◌++◌, length, take, drop, get_or, Option, Some, None, true, ◌==◌, inl, inr, refl, sym, subst, ap, ◌∙◌, arith}
use Rattle.std.specs.Prelude.{slice_get, slice_index}
use Rattle.std.proofs.lemmas.Bool.{cases_lt}
use Rattle.std.proofs.lemmas.List.{get_or-drop, get_or-take, length-append, length-drop, length-take}
use Rattle.std.proofs.lemmas.Option.{get_or_from_slice_get}
use Rattle.rope_node.specs.declared.node.NodeId.{NodeId}
use Rattle.rope_node.specs.Table.{Table}
use Rattle.rope_node.specs.Denotes.{rope_cells, rope_len, text}
use Rattle.lazy_file.specs.SourceTexts.{Stated}
use Rattle.circular_buffer.specs.Buffer.{Buffer, buffer, keep_last}
use Rattle.memchr.specs.Find.{NoneBefore, Nowhere, OccursAt, Passes, is_byte}
use Rattle.cord_position.specs.Fetched.{IsStated, rope_cell}
use Rattle.cord_search.specs.Pieces.{IsPiece}
use Rattle.cord_search.specs.Places.{IsFirst, IsFromOn, StandsAt}
use Rattle.cord_search.specs.Seeking.{CannotBegin, IsClearTo, IsSeeker, IsSeeking, IsSought, MayBegin}
use Rattle.cord_search.specs.declared.seeker.Seeker.{Seeker}
use Rattle.cord_search.specs.Skipped.{IsClearAlso}
use Rattle.cord_search.specs.Stated.{FindsFirst}
use Rattle.cord_search.proofs.BytePieces.{itself, nowhere_in_both}
use Rattle.cord_search.proofs.Fetches.{text_length}
use Rattle.cord_search.proofs.PatternPieces.{pattern_found, no_pattern_in}
use Rattle.cord_search.proofs.Reaching.{stated_past}
use Rattle.cord_search.proofs.Standing.{none_past, pattern_byte}
use Rattle.cord_search.proofs.Pieces.{byte_of_first, byte_of_rest, piece_after}

-- what is found in a piece is the first place of all, where there is none before the piece
pub found_there : (t : Table) (st : Stated) (rope : Option NodeId) (s bytes : List ℕ) (start place k : ℕ) → start ≤ place → place + length bytes ≤ length (rope_cells t rope) → IsClearTo t st rope s start place
    → IsPiece t st rope place bytes → NoneBefore (OccursAt bytes s) 0 (length bytes + 1) k × OccursAt bytes s k
    → FindsFirst t st rope s start (Some (place + k)) × IsFromOn s start (length (rope_cells t rope)) (Some (place + k))
found_there t st rope s bytes start place k from inside clear piece found = (first, (omega (arith, from), omega (arith, found.1.fits, inside)))
  where
    first : FindsFirst t st rope s start (Some (place + k))
    first source agrees stated =
        let u = text source (rope_cells t rope) in
        let same : (p : ℕ) → p < k + length s → slice_get bytes p ≡ slice_get u (place + p) = λ p lt.
        piece source agrees p (omega (arith, lt, found.1.fits)) (stated (place + p) (omega (arith, from)) (omega (arith, lt))) in
        let before = clear ((place + k) + length s) (omega arith) source agrees stated in
        let none = no_pattern_in u bytes s place k (k + length s) found.0.before (omega arith) found.1.fits same in
        record {
          from = omega (arith, from);
          stands = pattern_found u bytes s place k found.1 (omega (arith, inside, text_length t rope source)) same;
          none_before = nowhere_in_both s u start place (place + k) before none;
        }

-- where it is not found, it stands at none of the places of the piece either
pub passed_there : (t : Table) (st : Stated) (rope : Option NodeId) (s bytes : List ℕ) (start place q : ℕ) → start ≤ place → IsClearTo t st rope s start place
    → IsPiece t st rope place bytes → Nowhere (OccursAt bytes s) 0 (length bytes + 1) → place ≤ q → 1 ≤ length s → (place < q → q + length s ≤ place + length bytes + 1) → IsClearTo t st rope s start q
passed_there t st rope s bytes start place q from clear piece none on some fits end far source agrees stated =
    elim (cases_lt place q) [
      | inl lt ↦
          let u = text source (rope_cells t rope) in
          let held : q + length s ≤ place + length bytes + 1 = fits lt in
          let m : ℕ = (q - place) + (length s - 1) in
          let few : m ≤ length bytes = omega (arith, held, lt, some) in
          let same : (p : ℕ) → p < m → slice_get bytes p ≡ slice_get u (place + p) = λ p below.
          piece source agrees p (omega (arith, below, few)) (stated (place + p) (omega (arith, from)) (omega (arith, below, far, lt, some))) in
          let before = clear end (omega (arith, far, lt)) source agrees stated in
          let there = no_pattern_in u bytes s place (q - place) m (λ k low high. none k low (omega (arith, high, held, some))) (omega (arith, some)) few same in
          λ j low high. nowhere_in_both s u start place (place + (q - place)) before there j low (omega (arith, high, lt))
      | inr past ↦
          let before = clear end (omega (arith, far, on, past)) source agrees stated in
          λ j low high. before j low (omega (arith, high, on, past))
    ]

-- the first bytes of a piece, and the others
pub piece_first_bytes : (t : Table) (st : Stated) (rope : Option NodeId) (i n : ℕ) (bytes : List ℕ) → IsPiece t st rope i bytes → IsPiece t st rope i (take n bytes)
piece_first_bytes t st rope i n bytes piece source agrees k lt stated =
    byte_of_first bytes n k lt ∙ piece source agrees k (omega (arith, lt, length-take n bytes)) stated

pub piece_last_bytes : (t : Table) (st : Stated) (rope : Option NodeId) (i d : ℕ) (bytes : List ℕ) → IsPiece t st rope i bytes → IsPiece t st rope (i + d) (drop d bytes)
piece_last_bytes t st rope i d bytes piece source agrees k lt stated =
    let there : (i + d) + k ≡ i + (d + k) = omega arith in
    byte_of_rest bytes d k lt ∙ piece source agrees (d + k) (omega (arith, lt, length-drop d bytes)) (subst (λ (p : ℕ). IsStated st (rope_cell t rope p)) there stated)
    ∙ ap (slice_get (text source (rope_cells t rope))) (sym there)

-- the bytes of a run from its byte d on, as the code takes them
abbrev pub part : ℕ → List ℕ → List ℕ
part d run = take (length run - d) (drop d run)

pub part_len : (d : ℕ) (run : List ℕ) → length (part d run) ≡ length run - d
part_len d run = omega (arith, length-take (length run - d) (drop d run), length-drop d run)

pub part_piece : (t : Table) (st : Stated) (rope : Option NodeId) (i d : ℕ) (run : List ℕ) → IsPiece t st rope i run → IsPiece t st rope (i + d) (part d run)
part_piece t st rope i d run piece = piece_first_bytes t st rope (i + d) (length run - d) (drop d run) (piece_last_bytes t st rope i d run piece)

-- where a pattern stands, it may begin
may_begin_there : (s u bytes : List ℕ) (place k : ℕ) → ((p : ℕ) → p < k + length s → p < length bytes → slice_get bytes p ≡ slice_get u (place + p)) → StandsAt s u (place + k) → MayBegin s bytes k
may_begin_there s u bytes place k same stands j few inside =
    let there : place + (k + j) ≡ (place + k) + j = omega arith in
    get_or_from_slice_get bytes (k + j) (get_or s j 0) 0 (same (k + j) (omega (arith, few)) inside ∙ ap (slice_get u) there ∙ pattern_byte u s (place + k) j stands.same few)

-- it can begin nowhere where its first byte is not
pub cannot_begin : (s bytes : List ℕ) (from n : ℕ) → 1 ≤ length s → from + n ≤ length bytes → CannotBegin s bytes from
    → Nowhere (Passes (is_byte (slice_index s 0)) (part from bytes)) 0 n → CannotBegin s bytes (from + n)
cannot_begin s bytes from n some few before none k low high begins =
    elim (cases_lt k from) [
      | inl below ↦ before k low below begins
      | inr past ↦
          let j : ℕ = k - from in
          let at : from + j ≡ k + 0 = omega (arith, past) in
          let byte : get_or bytes (k + 0) 0 ≡ get_or s 0 0 = begins 0 some (omega (arith, high, few)) in
          let here : get_or (part from bytes) j 0 ≡ get_or s 0 0 =
          get_or-take (length bytes - from) (drop from bytes) j 0 (omega (arith, past, high, few)) ∙ get_or-drop from bytes j 0 ∙ ap (λ (p : ℕ). get_or bytes p 0) at ∙ byte in
          none j (omega arith) (omega (arith, past, high)) (subst (λ (z : ℕ). (z == get_or s 0 0) ≡ true) (sym here) (itself (get_or s 0 0)))
    ]

-- nor at a place that was tried
pub cannot_begin_there : (s bytes : List ℕ) (place : ℕ) → CannotBegin s bytes place → ¬ MayBegin s bytes place → CannotBegin s bytes (place + 1)
cannot_begin_there s bytes place before none k low high begins =
    elim (cases_lt k place) [
      | inl below ↦ before k low below begins
      | inr past ↦ let same : k ≡ place = omega (arith, past, high) in none (subst (MayBegin s bytes) same begins)
    ]

pub passed_without : (t : Table) (st : Stated) (rope : Option NodeId) (s bytes : List ℕ) (start place n : ℕ) → start ≤ place → 1 ≤ length s → n ≤ length bytes → CannotBegin s bytes n
    → IsClearTo t st rope s start place → IsPiece t st rope place bytes → IsClearTo t st rope s start (place + n)
passed_without t st rope s bytes start place n from some few none clear piece end far source agrees stated =
    let u = text source (rope_cells t rope) in
    let before = clear end (omega (arith, far)) source agrees stated in
    let there : (j : ℕ) → place ≤ j → j < place + n → ¬ StandsAt s u j = λ j low high stands.
    let k : ℕ = j - place in
    let at : j ≡ place + k = omega (arith, low) in
    let same : (p : ℕ) → p < k + length s → p < length bytes → slice_get bytes p ≡ slice_get u (place + p) = λ p below inside.
    piece source agrees p inside (stated (place + p) (omega (arith, from)) (omega (arith, below, high, low, far))) in
    none k (omega arith) (omega (arith, low, high)) (may_begin_there s u bytes place k same (subst (StandsAt s u) at stands)) in
    nowhere_in_both s u start place (place + n) before there

-- a search of the ring
pub ring_found : (t : Table) (st : Stated) (rope : Option NodeId) (start k : ℕ) (s : Seeker) → 1 ≤ length s.finder → IsSeeking t st rope start s
    → NoneBefore (OccursAt s.ring.items s.finder) 0 (length s.ring.items + 1) k × OccursAt s.ring.items s.finder k
    → FindsFirst t st rope s.finder start (Some ((s.place - length s.ring.items) + k)) × IsFromOn s.finder start (length (rope_cells t rope)) (Some ((s.place - length s.ring.items) + k))
ring_found t st rope start k s some seeking found =
    found_there t st rope s.finder s.ring.items start (s.place - length s.ring.items) k (omega (arith, seeking.from))
    (omega (arith, seeking.from, seeking.inside, found.1.fits, some)) seeking.clear seeking.bytes found

-- the ring keeps its last m bytes, where nothing stands before these
ring_cut : (t : Table) (st : Stated) (rope : Option NodeId) (start : ℕ) (s : Seeker) (m : ℕ) → IsSeeking t st rope start s
    → IsClearTo t st rope s.finder start ((s.place - length s.ring.items) + (length s.ring.items - m)) → (new : Buffer ℕ) → new ≡ buffer (keep_last m s.ring.items) s.ring.capacity
    → IsSeeking t st rope start (record s { ring = new })
ring_cut t st rope start s m seeking clear new is =
    let xs = s.ring.items in
    let d : ℕ = length xs - m in
    let long : length (drop d xs) ≡ length xs - d = length-drop d xs in
    let place : (s.place - length xs) + d ≡ s.place - length (drop d xs) = omega (arith, long, seeking.from) in
    subst (λ (b : Buffer ℕ). IsSeeking t st rope start (record s { ring = b })) (sym is) (record {
      from = omega (arith, seeking.from, long);
      inside = seeking.inside;
      bytes = subst (λ (p : ℕ). IsPiece t st rope p (drop d xs)) place (piece_last_bytes t st rope (s.place - length xs) d xs seeking.bytes);
      clear = subst (λ (p : ℕ). IsClearTo t st rope s.finder start p) place clear;
    })

pub ring_passed : (t : Table) (st : Stated) (rope : Option NodeId) (start : ℕ) (s : Seeker) → 1 ≤ length s.finder → IsSeeking t st rope start s
    → Nowhere (OccursAt s.ring.items s.finder) 0 (length s.ring.items + 1) → (new : Buffer ℕ) → new ≡ buffer (keep_last (length s.finder - 1) s.ring.items) s.ring.capacity
    → IsSeeking t st rope start (record s { ring = new })
ring_passed t st rope start s some seeking none new is =
    let xs = s.ring.items in
    let d : ℕ = length xs - (length s.finder - 1) in
    let clear = passed_there t st rope s.finder xs start (s.place - length xs) ((s.place - length xs) + d) (omega (arith, seeking.from)) seeking.clear seeking.bytes none
    (omega arith) some (λ lt. omega (arith, lt, some)) in
    ring_cut t st rope start s (length s.finder - 1) seeking clear new is

-- the ring without the bytes before the first place at which the pattern may begin
pub ring_trimmed : (t : Table) (st : Stated) (rope : Option NodeId) (start : ℕ) (s : Seeker) → 1 ≤ length s.finder → IsSeeking t st rope start s
    → (n m : ℕ) → n ≤ length s.ring.items → CannotBegin s.finder s.ring.items n → m + n ≡ length s.ring.items → (new : Buffer ℕ) → new ≡ buffer (keep_last m s.ring.items) s.ring.capacity
    → IsSeeking t st rope start (record s { ring = new })
ring_trimmed t st rope start s some seeking n m few none rest new is =
    let xs = s.ring.items in
    let clear = passed_without t st rope s.finder xs start (s.place - length xs) n (omega (arith, seeking.from)) some few none seeking.clear seeking.bytes in
    ring_cut t st rope start s m seeking (subst (λ (p : ℕ). IsClearTo t st rope s.finder start p) (omega (arith, rest)) clear) new is

-- bytes that were put into the ring
pub ring_taken : (t : Table) (st : Stated) (rope : Option NodeId) (start : ℕ) (s : Seeker) → IsSeeking t st rope start s
    → (run : List ℕ) (n : ℕ) → IsPiece t st rope s.place run → n ≤ length run → s.place + n ≤ length (rope_cells t rope) → (new : Buffer ℕ) → new ≡ buffer (s.ring.items ++ take n run) s.ring.capacity
    → IsSeeking t st rope start (record s { ring = new; place = s.place + n })
ring_taken t st rope start s seeking run n piece few inside new is =
    let xs = s.ring.items in
    let ys = take n run in
    let long : length (xs ++ ys) ≡ length xs + n = omega (arith, length-append xs ys, length-take n run, few) in
    let first : s.place - length xs ≡ (s.place + n) - length (xs ++ ys) = omega (arith, long, seeking.from) in
    let there : s.place ≡ (s.place - length xs) + length xs = omega (arith, seeking.from) in
    let second = subst (λ (p : ℕ). IsPiece t st rope p ys) there (piece_first_bytes t st rope s.place n run piece) in
    let both = piece_after t st rope (s.place - length xs) (length xs) xs ys refl seeking.bytes second in
    subst (λ (b : Buffer ℕ). IsSeeking t st rope start (record s { ring = b; place = s.place + n })) (sym is) (record {
      from = omega (arith, seeking.from, long);
      inside = omega (arith, inside);
      bytes = subst (λ (p : ℕ). IsPiece t st rope p (xs ++ ys)) first both;
      clear = subst (λ (p : ℕ). IsClearTo t st rope s.finder start p) first seeking.clear;
    })

-- nothing is in the ring
pub ring_emptied : (t : Table) (st : Stated) (rope : Option NodeId) (start : ℕ) (s : Seeker) → s.ring.items ≡ [] → start ≤ s.place → s.place ≤ max start (length (rope_cells t rope))
    → IsClearTo t st rope s.finder start s.place → IsSeeking t st rope start s
ring_emptied t st rope start s none from inside clear = record {
  from = omega (arith, from, ap length none);
  inside = inside;
  bytes = λ source agrees k lt stated. absurd (omega (arith, lt, ap length none));
  clear = subst (λ (p : ℕ). IsClearTo t st rope s.finder start p) (omega (arith, ap length none)) clear;
}

-- a run that was searched where it lies, up to its last bytes
pub run_passed : (t : Table) (st : Stated) (rope : Option NodeId) (start : ℕ) (s : Seeker) → 1 ≤ length s.finder → IsSeeking t st rope start s → s.ring.items ≡ []
    → (run : List ℕ) (d : ℕ) → IsPiece t st rope s.place run → s.place + length run ≤ length (rope_cells t rope) → Nowhere (OccursAt run s.finder) 0 (length run + 1)
    → d + length s.finder ≡ length run + 1 → IsSeeking t st rope start (record s { place = s.place + d })
run_passed t st rope start s some seeking empty run d piece inside none tail =
    let here : IsClearTo t st rope s.finder start s.place = subst (λ (p : ℕ). IsClearTo t st rope s.finder start p) (omega (arith, ap length empty)) seeking.clear in
    let clear : IsClearTo t st rope s.finder start (s.place + d) = passed_there t st rope s.finder run start s.place (s.place + d) (omega (arith, seeking.from)) here piece none (omega arith) some (λ lt. omega (arith, tail)) in
    ring_emptied t st rope start (record s { place = s.place + d }) empty (omega (arith, seeking.from)) (omega (arith, inside, tail, some)) clear

-- a short run: the ring gets the bytes from the first place on at which the pattern may begin
pub run_kept : (t : Table) (st : Stated) (rope : Option NodeId) (start : ℕ) (s : Seeker) → 1 ≤ length s.finder → IsSeeking t st rope start s → s.ring.items ≡ []
    → (run : List ℕ) (d n : ℕ) → IsPiece t st rope s.place run → s.place + length run ≤ length (rope_cells t rope) → d ≤ length run → CannotBegin s.finder run d
    → length run ≤ s.ring.capacity → n ≡ min (length (part d run)) (s.ring.capacity - length s.ring.items) → (new : Buffer ℕ) → new ≡ buffer (s.ring.items ++ take n (part d run)) s.ring.capacity
    → IsSeeking t st rope start (record s { ring = new; place = s.place + length run })
run_kept t st rope start s some seeking empty run d n piece inside few none room count new is =
    let long = part_len d run in
    let all : length s.ring.items ≡ 0 = ap length empty in
    let whole : n ≡ length run - d = omega (arith, count, long, all, room) in
    let here : IsClearTo t st rope s.finder start s.place = subst (λ (p : ℕ). IsClearTo t st rope s.finder start p) (omega (arith, all)) seeking.clear in
    let clear = passed_without t st rope s.finder run start s.place d (omega (arith, seeking.from)) some few none here piece in
    let at : Seeker = record s { place = s.place + d } in
    let moved : IsSeeking t st rope start at = ring_emptied t st rope start at empty (omega (arith, seeking.from)) (omega (arith, inside, few)) clear in
    let end : (s.place + d) + n ≡ s.place + length run = omega (arith, whole, few) in
    subst (λ (p : ℕ). IsSeeking t st rope start (record s { ring = new; place = p })) end
    (ring_taken t st rope start at moved (part d run) n (part_piece t st rope s.place d run piece) (omega (arith, count)) (omega (arith, end, inside)) new is)

-- the first bytes of a run, one fewer than the pattern has, put behind the ring's: what is found there is the first place of all
pub joint_found : (t : Table) (st : Stated) (rope : Option NodeId) (start k : ℕ) (s : Seeker) → 1 ≤ length s.finder → IsSeeking t st rope start s
    → (front : List ℕ) (n : ℕ) → IsPiece t st rope s.place front → n ≤ length front → s.place + n ≤ length (rope_cells t rope) → (ring : Buffer ℕ) → ring ≡ buffer (s.ring.items ++ take n front) s.ring.capacity
    → NoneBefore (OccursAt ring.items s.finder) 0 (length ring.items + 1) k × OccursAt ring.items s.finder k
    → FindsFirst t st rope s.finder start (Some ((s.place - length s.ring.items) + k)) × IsFromOn s.finder start (length (rope_cells t rope)) (Some ((s.place - length s.ring.items) + k))
joint_found t st rope start k s some seeking front n piece few inside ring is found =
    let filled = ring_taken t st rope start s seeking front n piece few inside ring is in
    let long : length ring.items ≡ length s.ring.items + n = ap (λ b. length b.items) is ∙ omega (arith, length-append s.ring.items (take n front), length-take n front, few) in
    let back : (s.place + n) - length ring.items ≡ s.place - length s.ring.items = omega (arith, long, seeking.from) in
    subst (λ (p : ℕ). FindsFirst t st rope s.finder start (Some (p + k)) × IsFromOn s.finder start (length (rope_cells t rope)) (Some (p + k))) back
    (ring_found t st rope start k (record s { ring = ring; place = s.place + n }) some filled found)

-- where it is not found there, none stands before the run
pub joint_passed : (t : Table) (st : Stated) (rope : Option NodeId) (start : ℕ) (s : Seeker) → 1 ≤ length s.finder → IsSeeking t st rope start s
    → (front : List ℕ) (n : ℕ) → IsPiece t st rope s.place front → n ≤ length front → s.place + n ≤ length (rope_cells t rope) → (ring : Buffer ℕ) → ring ≡ buffer (s.ring.items ++ take n front) s.ring.capacity
    → Nowhere (OccursAt ring.items s.finder) 0 (length ring.items + 1) → n + 1 ≡ length s.finder → (new : Buffer ℕ) → new.items ≡ [] → IsSeeking t st rope start (record s { ring = new })
joint_passed t st rope start s some seeking front n piece few inside ring is none whole new empty =
    let filled = ring_taken t st rope start s seeking front n piece few inside ring is in
    let long : length ring.items ≡ length s.ring.items + n = ap (λ b. length b.items) is ∙ omega (arith, length-append s.ring.items (take n front), length-take n front, few) in
    let clear = passed_there t st rope s.finder ring.items start ((s.place + n) - length ring.items) s.place (omega (arith, filled.from)) filled.clear filled.bytes none
    (omega (arith, long)) some (λ lt. omega (arith, lt, long, whole, seeking.from)) in
    ring_emptied t st rope start (record s { ring = new }) empty (omega (arith, seeking.from)) seeking.inside clear

-- a pattern that stands nowhere further on either, where it stands at none of some places
pub clear_further : (t : Table) (st : Stated) (rope : Option NodeId) (s : List ℕ) (n start place a b : ℕ) → length s ≡ n → start ≤ place → a ≤ b → IsClearTo t st rope s start (place + a)
    → IsClearAlso t rope n place (place + a) place (place + b) → IsClearTo t st rope s start (place + b)
clear_further t st rope s n start place a b long from le clear also end far source agrees stated =
    let u = text source (rope_cells t rope) in
    let before = clear end (omega (arith, far, le)) source agrees stated in
    let there = also source s long (λ j low high. before j (omega (arith, from, low)) high) in
    nowhere_in_both s u start place (place + b) (λ j low high. before j low (omega (arith, high))) there

-- what a search answers that has taken the text to its end
pub sought_inside : (t : Table) (st : Stated) (rope : Option NodeId) (start len : ℕ) (s : Seeker) (p : List ℕ) (found : Option ℕ) → length (rope_cells t rope) ≡ len → s.finder ≡ p
    → IsSought t st rope start s found → IsFromOn p start len found
sought_inside t st rope start len s p None long is sought = tt
sought_inside t st rope start len s p (Some k) long is sought = (sought.1.0, omega (arith, sought.1.1, long, ap length is))

pub sought_first : (t : Table) (st : Stated) (rope : Option NodeId) (start : ℕ) (s : Seeker) (p : List ℕ) (found : Option ℕ) → length (rope_cells t rope) ≡ rope_len t rope → s.finder ≡ p
    → rope_len t rope ≤ s.place → length s.ring.items < length s.finder → IsSought t st rope start s found → FindsFirst t st rope p start found
sought_first t st rope start s p None long is ended few sought source agrees stated =
    let u = text source (rope_cells t rope) in
    let k : ℕ = s.place - length s.ring.items in
    let all = stated_past t st rope start (k + length s.finder) (λ q above below. stated q above (omega (arith, below, long))) in
    let none = none_past s.finder u start k (sought.clear (k + length s.finder) (omega arith) source agrees all) (omega (arith, text_length t rope source, long, ended, few)) in
    subst (λ (q : List ℕ). IsFirst q u start None) is none
sought_first t st rope start s p (Some k) long is ended few sought source agrees stated = subst (λ (q : List ℕ). FindsFirst t st rope q start (Some k)) is sought.0 source agrees stated

-- a search that has gone on from a place
pub record IsGoneOn (t : Table) (st : Stated) (rope : Option NodeId) (start place : ℕ) (p : List ℕ) (s : Seeker) : Type 0 where
  pub kept : IsSeeker s
  pub pattern : s.finder ≡ p
  pub on : place ≤ s.place
  pub seeking : IsSeeking t st rope start s
