-- A command is in range exactly where it has a result over the cells of the earlier texts.
use Rattle.std.proofs.Common.{◌≡◌, ◌↔◌, ℕ, ◌+◌, ◌^◌, ◌<◌, ◌≤◌, leb, ltb, List, [], ◌++◌, map, length, take, drop, Option, Some, None, refl, arith, inl, inr}
use Rattle.std.specs.Prelude.{Bool, true, false, IsSome, slice_get, get_or, replicate, nat_le, if◌then◌else◌}
use Rattle.std.specs.List.{range_with_len}
use Rattle.std.proofs.lemmas.Bool.{cases_lt, leb-true, ltb-true}
use Rattle.std.proofs.lemmas.List.{length-append, length-map, length-take, length-drop, length-replicate}
use Rattle.std.proofs.lemmas.List.FromFn.{length-range_with_len}
use Rattle.std.proofs.lemmas.Option.{slice_get_past}
use Rattle.rope_node.specs.declared.node.NodeId.{NodeId}
use Rattle.rope_node.specs.Table.{Table, IsSound, HasTrueRecords}
use Rattle.rope_node.specs.Denotes.{Cell, Byte, Place, rope_cells}
use Rattle.command_parts.specs.Commands as Command
use Rattle.command_parts.specs.Commands.{FullEdit, ◌>>=◌, can_splice, span, bounded, replaced, replaced_each, spliced, result_of}
use Rattle.command_parts.specs.Parts.{root_at, AreRopes, IsInRange, givens_of}
use Rattle.command_parts.proofs.Joined.{text_at, terms_joined}
use Rattle.rope_node.proofs.Ropes.{rope_length}
use Rattle.command_parts.proofs.SplicedTexts.{are_splices, length-replaced_each}

-- what a result of a step tells of what the step began with
if_some : {A : Type 0} (b : Bool) (o : Option A) → IsSome (if b then o else None) → (b ≡ true) × IsSome o
if_some true o h = (refl, h)
if_some false o h = absurd cc

there : {A : Type 0} (xs : List A) (r : ℕ) → IsSome (slice_get xs r) → r < length xs
there xs r h =
    elim (cases_lt r (length xs)) [
      | inl lt ↦ lt
      | inr past ↦ let none : false ≡ true = rw (slice_get_past xs r past) at h in absurd cc
    ]

got : {A B : Type 0} (xs : List A) (r : ℕ) (f : A → Option B) → IsSome (slice_get xs r >>= f) → r < length xs
got xs r f h =
    elim (cases_lt r (length xs)) [
      | inl lt ↦ lt
      | inr past ↦ let none : false ≡ true = rw (slice_get_past xs r past) at h in absurd cc
    ]

got_span : {A B : Type 0} (cells : List A) (i n : ℕ) (f : List A → Option B) → IsSome (span cells i n >>= f) → (i + n ≤ length cells) × IsSome (f (take n (drop i cells)))
got_span cells i n f h = of_test (leb (i + n) (length cells)) refl h
  where
    of_test : (b : Bool) → leb (i + n) (length cells) ≡ b → IsSome ((if b then Some (take n (drop i cells)) else None) >>= f) → (i + n ≤ length cells) × IsSome (f (take n (drop i cells)))
    of_test true e h = (leb-true (i + n) (length cells) e, h)
    of_test false e h = absurd cc

bounded_some : {A : Type 0} (cells : List A) → IsSome (bounded cells) → length cells < 2 ^ 40
bounded_some cells h = ltb-true (length cells) (2 ^ 40) (if_some (ltb (length cells) (2 ^ 40)) (Some cells) h).0

spliced_some : {A : Type 0} (cells : List A) (p m : ℕ) (x : List A) → IsSome (spliced cells p m x) → (p + m ≤ length cells) × (length cells + length x < 2 ^ 40 + m)
spliced_some cells p m x h =
    let test = if_some (leb (p + m) (length cells)) (bounded (replaced cells p m x)) h in
    let fits = leb-true (p + m) (length cells) test.0 in
    let short = bounded_some (replaced cells p m x) test.1 in
    (fits, omega (arith, short, length-append (take p cells ++ x) (drop (p + m) cells), length-append (take p cells) x, length-take p cells, length-drop (p + m) cells))

-- the text of an earlier revision, of its root's length
got_text : {B : Type 0} (t : Table) (roots : List (Option NodeId)) (r : ℕ) (f : List Cell → Option B) → IsSome (slice_get (map (rope_cells t) roots) r >>= f) → (r < length roots) × IsSome (f (rope_cells t (root_at roots r)))
got_text t roots r f h =
    let lt : r < length roots = rw length-map at (got (map (rope_cells t) roots) r f h) in
    (lt, rw (text_at t roots r lt) at h)

-- a whole text is an earlier revision's; a span lies inside the pool
whole_text : (t : Table) (roots : List (Option NodeId)) (r : ℕ) → IsSome (slice_get (map (rope_cells t) roots) r) → r < length roots
whole_text t roots r h = rw length-map at (there (map (rope_cells t) roots) r h)

got_pool : {B : Type 0} (t : Table) (a n : ℕ) (f : List Cell → Option B) → IsSome (span (map Byte t.pool) a n >>= f)
    → (a + n ≤ length t.pool) × (length (take n (drop a (map Byte t.pool))) ≡ n) × IsSome (f (take n (drop a (map Byte t.pool))))
got_pool t a n f h =
    let pool = got_span (map Byte t.pool) a n f h in
    let inside : a + n ≤ length t.pool = rw length-map at pool.0 in
    (inside, omega (arith, length-take n (drop a (map Byte t.pool)), length-drop a (map Byte t.pool), pool.0), pool.1)

ranged : (t : Table) → IsSound t → HasTrueRecords t → (roots : List (Option NodeId)) (edit : FullEdit) → AreRopes t roots → IsSome (result_of (givens_of t) (map (rope_cells t) roots) edit) → IsInRange t roots edit
ranged t s h roots Command.New ropes some = tt
ranged t s h roots (Command.Open k) ropes some =
    let lt = there (map (λ i. map (Place i) (range_with_len 0 (get_or t.sources i 0))) (range_with_len 0 (length t.sources))) k some in
    rw (length-map, length-range_with_len) at lt
ranged t s h roots (Command.Insert r p a n) ropes some =
    let cs = rope_cells t (root_at roots r) in
    let x = take n (drop a (map Byte t.pool)) in
    let text = got_text t roots r (λ u. span (map Byte t.pool) a n >>= (λ y. if nat_le 1 n then spliced u p 0 y else None)) some in
    let pool = got_pool t a n (λ y. if nat_le 1 n then spliced cs p 0 y else None) text.1 in
    let test = if_some (leb 1 n) (spliced cs p 0 x) pool.2 in
    let fits = spliced_some cs p 0 x test.1 in
    let len = rope_length t s h (root_at roots r) (ropes r text.0) in
    (text.0, omega (arith, fits.0, len), leb-true 1 n test.0, pool.0, omega (arith, fits.1, len, pool.1))
ranged t s h roots (Command.Delete r p n) ropes some =
    let cs = rope_cells t (root_at roots r) in
    let text = got_text t roots r (λ u. spliced u p n []) some in
    let len = rope_length t s h (root_at roots r) (ropes r text.0) in
    (text.0, omega (arith, (spliced_some cs p n [] text.1).0, len))
ranged t s h roots (Command.Replace r p m a n) ropes some =
    let cs = rope_cells t (root_at roots r) in
    let x = take n (drop a (map Byte t.pool)) in
    let text = got_text t roots r (λ u. span (map Byte t.pool) a n >>= (λ y. if nat_le 1 n then spliced u p m y else None)) some in
    let pool = got_pool t a n (λ y. if nat_le 1 n then spliced cs p m y else None) text.1 in
    let test = if_some (leb 1 n) (spliced cs p m x) pool.2 in
    let fits = spliced_some cs p m x test.1 in
    let len = rope_length t s h (root_at roots r) (ropes r text.0) in
    (text.0, omega (arith, fits.0, len), leb-true 1 n test.0, pool.0, omega (arith, fits.1, len, pool.1))
ranged t s h roots (Command.Paste r p q i n) ropes some =
    let cs = rope_cells t (root_at roots r) in
    let ds = rope_cells t (root_at roots q) in
    let x = take n (drop i ds) in
    let text = got_text t roots r (λ u. slice_get (map (rope_cells t) roots) q >>= (λ v. span v i n >>= (λ y. spliced u p 0 y))) some in
    let other = got_text t roots q (λ v. span v i n >>= (λ y. spliced cs p 0 y)) text.1 in
    let part = got_span ds i n (λ y. spliced cs p 0 y) other.1 in
    let fits = spliced_some cs p 0 x part.1 in
    let len_r = rope_length t s h (root_at roots r) (ropes r text.0) in
    let len_q = rope_length t s h (root_at roots q) (ropes q other.0) in
    let few : length x ≡ n = omega (arith, length-take n (drop i ds), length-drop i ds, part.0) in
    (text.0, omega (arith, fits.0, len_r), other.0, omega (arith, part.0, len_q), omega (arith, fits.1, len_r, few))
ranged t s h roots (Command.Join r q) ropes some =
    let cs = rope_cells t (root_at roots r) in
    let ds = rope_cells t (root_at roots q) in
    let text = got_text t roots r (λ u. slice_get (map (rope_cells t) roots) q >>= (λ v. bounded (u ++ v))) some in
    let other = got_text t roots q (λ v. bounded (cs ++ v)) text.1 in
    let short = bounded_some (cs ++ ds) other.1 in
    let len_r = rope_length t s h (root_at roots r) (ropes r text.0) in
    let len_q = rope_length t s h (root_at roots q) (ropes q other.0) in
    (text.0, other.0, omega (arith, short, length-append cs ds, len_r, len_q))
ranged t s h roots (Command.Cut r i n) ropes some =
    let cs = rope_cells t (root_at roots r) in
    let text = got_text t roots r (λ u. span u i n) some in
    let test = if_some (leb (i + n) (length cs)) (Some (take n (drop i cs))) text.1 in
    (text.0, omega (arith, leb-true (i + n) (length cs) test.0, rope_length t s h (root_at roots r) (ropes r text.0)))
ranged t s h roots (Command.Fill r p c n) ropes some =
    let cs = rope_cells t (root_at roots r) in
    let x = replicate n (Byte c) in
    let text = got_text t roots r (λ u. if nat_le c 255 then spliced u p 0 (replicate n (Byte c)) else None) some in
    let test = if_some (leb c 255) (spliced cs p 0 x) text.1 in
    let fits = spliced_some cs p 0 x test.1 in
    let len = rope_length t s h (root_at roots r) (ropes r text.0) in
    (text.0, omega (arith, fits.0, len), leb-true c 255 test.0, omega (arith, fits.1, len, length-replicate n (Byte c)))
ranged t s h roots (Command.Back r) ropes some = whole_text t roots r some
ranged t s h roots (Command.Balance r) ropes some = whole_text t roots r some
ranged t s h roots (Command.Many r splices) ropes some =
    let cs = rope_cells t (root_at roots r) in
    let pool = map Byte t.pool in
    let text = got_text t roots r (λ u. if can_splice (length pool) (length u) splices then bounded (replaced_each pool u splices) else None) some in
    let test = if_some (can_splice (length pool) (length cs) splices) (bounded (replaced_each pool cs splices)) text.1 in
    let len = rope_length t s h (root_at roots r) (ropes r text.0) in
    let fits = rw (length-map, len) at test.0 in
    let are = are_splices (length pool) (length cs) splices test.0 in
    let long = length-replaced_each pool cs (length cs) 0 splices refl are.follow are.pooled in
    let short = bounded_some (replaced_each pool cs splices) test.1 in
    (text.0, fits, omega (arith, long, short, len))

pub in_range : (t : Table) → IsSound t → HasTrueRecords t → (roots : List (Option NodeId)) (edit : FullEdit) → AreRopes t roots → IsInRange t roots edit ↔ IsSome (result_of (givens_of t) (map (rope_cells t) roots) edit)
in_range t s h roots edit ropes = (λ is. rw (terms_joined t s h roots edit ropes is) refl, ranged t s h roots edit ropes)
