use Rattle.std.proofs.Common.{◌≡◌, ◌+◌, ◌-◌, ◌≤◌, ℕ, length, refl, sym, subst, ap, arith}
use Rattle.rope_node.specs.Denotes.{rope_cells}
use Rattle.cord_search.specs.Pieces.{IsPiece}
use Rattle.cord_search.specs.Seeking.{IsClearTo}
use Rattle.cord_search.proofs.Seeks.{found_there, part_len, part_piece, run_passed}
use Rattle.cord_search.proofs.seeker.Seeker.take_long.Goals as goal

pub returns-in-Some-find-clause-sought : goal.returns-in-Some-find-clause-sought
returns-in-Some-find-clause-sought c t st rope start seeking piece inside =
    let s = c.search_joint.new.self in
    let passed = c.in_default.ensures.sought t st rope start seeking piece inside in
    let run = c.args.run.now in
    let there = subst (λ (p : ℕ). IsPiece t st rope p run) (sym (c.in_default.ensures.place refl)) piece in
    let clear : IsClearTo t st rope s.finder start s.place = subst (λ (p : ℕ). IsClearTo t st rope s.finder start p) (omega (arith, ap length (c.in_default.ensures.ring refl))) passed.clear in
    found_there t st rope s.finder run start s.place c.in-Some-find.k (omega (arith, passed.from)) (omega (arith, inside, (c.in_default.ensures.place refl))) clear there c.in-Some-find.ensures

pub returns-clause-sought : goal.returns-clause-sought
returns-clause-sought c t st rope start seeking piece inside =
    let s = c.search_joint.new.self in
    let passed = c.in_default.ensures.sought t st rope start seeking piece inside in
    let run = c.args.run.now in
    let d : ℕ = length run - (c.need.result - 1) in
    let there = subst (λ (p : ℕ). IsPiece t st rope p run) (sym (c.in_default.ensures.place refl)) piece in
    let held : s.place + length run ≤ length (rope_cells t rope) = omega (arith, inside, (c.in_default.ensures.place refl)) in
    let tail : d + length s.finder ≡ length run + 1 = omega (arith, c.need.ensures, c.requires.long, c.requires.kept.some, ap length c.in_default.ensures.pattern) in
    let moved = run_passed t st rope start s c.in_default.ensures.kept.some passed (c.in_default.ensures.ring refl) run d there held c.in_default-find.ensures tail in
    c.keep.ensures.sought t st rope start moved (part_piece t st rope s.place d run there) (omega (arith, held, part_len d run, tail, c.in_default.ensures.kept.some))
