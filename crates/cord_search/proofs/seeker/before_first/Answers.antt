use Rattle.std.proofs.Common.{◌+◌, ℕ, List, length, sym, subst, arith}
use Rattle.std.specs.Prelude.{slice_index}
use Rattle.memchr.specs.Find.{Nowhere, Passes, is_byte}
use Rattle.cord_search.specs.Seeking.{CannotBegin, MayBegin}
use Rattle.cord_search.proofs.Seeks.{cannot_begin, cannot_begin_there, part, part_len}
use Rattle.cord_search.proofs.seeker.before_first.Goals as goal

pub returns-then-may_begin-clause-none : goal.returns-then-may_begin-clause-none
returns-then-may_begin-clause-none c =
    let bytes : List ℕ = c.args.bytes.now in
    let from : ℕ = c.places.from in
    let found = c.in-Some.ensures.0 in
    let none = subst (λ (p : List ℕ). Nowhere (Passes (is_byte (slice_index p 0)) (part from bytes)) 0 c.in-Some.k) c.needle-pattern.ensures found.before in
    cannot_begin c.args.finder.now bytes from c.in-Some.k c.requires.some (omega (arith, found.high, part_len from bytes)) c.places.invariant.none none

pub places-preserved : goal.places-preserved
places-preserved c =
    let bytes : List ℕ = c.args.bytes.now in
    let from : ℕ = c.places.from in
    let found = c.in-Some.ensures.0 in
    let none = subst (λ (p : List ℕ). Nowhere (Passes (is_byte (slice_index p 0)) (part from bytes)) 0 c.in-Some.k) c.needle-pattern.ensures found.before in
    let before = cannot_begin c.args.finder.now bytes from c.in-Some.k c.requires.some (omega (arith, found.high, part_len from bytes)) c.places.invariant.none none in
    record {
      inside = omega (arith, found.high, part_len from bytes);
      none = cannot_begin_there c.args.finder.now bytes (from + c.in-Some.k) before
          (λ begins. let yes = c.may_begin.ensures (subst (λ (p : List ℕ). MayBegin p bytes (from + c.in-Some.k)) (sym c.needle-pattern.ensures) begins) in absurd cc);
    }

pub returns-clause-none : goal.returns-clause-none
returns-clause-none c =
    let bytes : List ℕ = c.args.bytes.now in
    let from : ℕ = c.places.from in
    let n : ℕ = length (part from bytes) in
    let none = subst (λ (p : List ℕ). Nowhere (Passes (is_byte (slice_index p 0)) (part from bytes)) 0 n) c.needle-pattern.ensures c.in_default.ensures in
    let whole = cannot_begin c.args.finder.now bytes from n c.requires.some (omega (arith, part_len from bytes, c.places.invariant.inside)) c.places.invariant.none none in
    subst (λ (q : ℕ). CannotBegin c.args.finder.now bytes q) (omega (arith, part_len from bytes, c.places.invariant.inside)) whole
