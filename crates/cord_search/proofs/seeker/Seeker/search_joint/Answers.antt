use Rattle.std.proofs.Common.{◌≡◌, ◌+◌, ◌-◌, ℕ, List, length, take, sym, subst, ap, arith}
use Rattle.std.proofs.lemmas.List.{length-take}
use Rattle.cord_search.specs.Pieces.{IsPiece}
use Rattle.cord_search.proofs.Seeks.{joint_found, joint_passed, piece_first_bytes}
use Rattle.cord_search.proofs.seeker.Seeker.search_joint.Goals as goal

pub returns-in-Some-clause-sought : goal.returns-in-Some-clause-sought
returns-in-Some-clause-sought c t st rope start seeking piece inside = c.in-Some.ensures.sought t st rope start seeking

pub returns-then-is_empty-clause-sought : goal.returns-then-is_empty-clause-sought
returns-then-is_empty-clause-sought c t st rope start seeking piece inside = c.in_default.ensures.sought t st rope start seeking

pub returns-in-Some-found-clause-sought : goal.returns-in-Some-found-clause-sought
returns-in-Some-found-clause-sought c t st rope start seeking piece inside =
    let passed = c.in_default.ensures.sought t st rope start seeking in
    let mid = c.make_room.new.self in
    let front : List ℕ = take (c.need-need.result - 1) c.args.run.now in
    let later = piece_first_bytes t st rope mid.place (c.need-need.result - 1) c.args.run.now (subst (λ (p : ℕ). IsPiece t st rope p c.args.run.now) (sym c.in_default.ensures.place) piece) in
    let fill = c.fill_from_slice in
    rw c.len.ensures.len (joint_found t st rope start c.in-Some-found.k mid c.in_default.ensures.kept.some passed front fill.result later (omega (arith, fill.ensures.count))
    (omega (arith, fill.ensures.count, length-take (c.need-need.result - 1) c.args.run.now, c.in_default.ensures.place, inside)) fill.new.self fill.ensures.items c.in-Some-found.ensures.found)

pub returns-in-None-clause-sought : goal.returns-in-None-clause-sought
returns-in-None-clause-sought c t st rope start seeking piece inside =
    let passed = c.in_default.ensures.sought t st rope start seeking in
    let mid = c.make_room.new.self in
    let front : List ℕ = take (c.need-need.result - 1) c.args.run.now in
    let later = piece_first_bytes t st rope mid.place (c.need-need.result - 1) c.args.run.now (subst (λ (p : ℕ). IsPiece t st rope p c.args.run.now) (sym c.in_default.ensures.place) piece) in
    let fill = c.fill_from_slice in
    let long : length front + 1 ≡ length mid.finder = omega (arith, length-take (c.need-need.result - 1) c.args.run.now, c.need-need.ensures, ap length c.in_default.ensures.pattern, c.requires.long, c.requires.kept.some) in
    let whole : fill.result + 1 ≡ length mid.finder = omega (arith, fill.ensures.count, long, c.in_default.ensures.few, ap length c.in_default.ensures.pattern, c.in_default.ensures.kept.capacity) in
    joint_passed t st rope start mid c.in_default.ensures.kept.some passed front fill.result later (omega (arith, fill.ensures.count))
    (omega (arith, fill.ensures.count, length-take (c.need-need.result - 1) c.args.run.now, c.in_default.ensures.place, inside)) fill.new.self fill.ensures.items c.in-None.ensures.found whole
    c.clear.new.self (ap (λ b. b.items) c.clear.ensures)
