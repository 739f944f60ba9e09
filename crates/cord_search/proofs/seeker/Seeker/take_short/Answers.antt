use Rattle.std.proofs.Common.{ℕ, sym, subst, arith}
use Rattle.cord_search.specs.Pieces.{IsPiece}
use Rattle.cord_search.proofs.Seeks.{part, part_len, part_piece, ring_taken}
use Rattle.cord_search.proofs.seeker.Seeker.take_short.Goals as goal

pub returns-in-Some-clause-sought : goal.returns-in-Some-clause-sought
returns-in-Some-clause-sought c t st rope start seeking piece inside =
    let fill = c.fill_from_slice-count in
    c.in-Some.ensures.sought t st rope start
    (ring_taken t st rope start c.args.self.now seeking c.args.run.now fill.result piece (omega (arith, fill.ensures.count)) (omega (arith, fill.ensures.count, inside)) fill.new.self fill.ensures.items)

pub returns-in_default-clause-sought : goal.returns-in_default-clause-sought
returns-in_default-clause-sought c t st rope start seeking piece inside =
    let fill = c.fill_from_slice-count in
    let run = c.args.run.now in
    let first = ring_taken t st rope start c.args.self.now seeking run fill.result piece (omega (arith, fill.ensures.count)) (omega (arith, fill.ensures.count, inside)) fill.new.self fill.ensures.items in
    let passed = c.in_default.ensures.sought t st rope start first in
    let later = subst (λ (p : ℕ). IsPiece t st rope p (part fill.result run)) (sym c.in_default.ensures.place) (part_piece t st rope c.args.self.now.place fill.result run piece) in
    let rest = c.fill_from_slice-rest in
    ring_taken t st rope start c.search_ring.new.self passed (part fill.result run) rest.result later
    (omega (arith, rest.ensures.count)) (omega (arith, rest.ensures.count, part_len fill.result run, c.in_default.ensures.place, fill.ensures.count, inside)) rest.new.self rest.ensures.items

pub returns-else-is_full-clause-sought : goal.returns-else-is_full-clause-sought
returns-else-is_full-clause-sought c t st rope start seeking piece inside =
    let fill = c.fill_from_slice-count in
    ring_taken t st rope start c.args.self.now seeking c.args.run.now fill.result piece (omega (arith, fill.ensures.count)) (omega (arith, fill.ensures.count, inside)) fill.new.self fill.ensures.items

pub returns-then-is_empty-clause-sought : goal.returns-then-is_empty-clause-sought
returns-then-is_empty-clause-sought c t st rope start seeking piece inside = c.keep.ensures.sought t st rope start seeking piece inside
