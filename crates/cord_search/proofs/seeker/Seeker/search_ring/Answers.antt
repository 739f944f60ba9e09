use Rattle.std.proofs.Common.{◌-◌, length, ap, ◌∙◌, arith}
use Rattle.circular_buffer.specs.Buffer.{buffer, keep_last}
use Rattle.cord_search.specs.declared.seeker.Seeker.{Seeker}
use Rattle.cord_search.proofs.Seeks.{ring_found, ring_passed, ring_trimmed}
use Rattle.cord_search.proofs.seeker.Seeker.search_ring.Goals as goal

pub returns-in-Some-clause-sought : goal.returns-in-Some-clause-sought
returns-in-Some-clause-sought c t st rope start seeking = rw c.len.ensures.len (ring_found t st rope start c.in-Some.k c.args.self.now c.requires.kept.some seeking c.in-Some.ensures.found)

pub returns-in-None-clause-sought : goal.returns-in-None-clause-sought
returns-in-None-clause-sought c t st rope start seeking =
    let s : Seeker = c.args.self.now in
    let ring = s.ring in
    let passed = ring_passed t st rope start s c.requires.kept.some seeking c.in-None.ensures.found c.truncate_front.new.self
    (c.truncate_front.ensures ∙ ap (λ b. buffer (keep_last (c.need-most.result - 1) b.items) b.capacity) c.find_in_ring-found.ensures.same ∙ ap (λ n. buffer (keep_last (n - 1) ring.items) ring.capacity) c.need-most.ensures) in
    let mid : Seeker = record s { ring = c.truncate_front.new.self } in
    let near = c.before_first_in_ring-count in
    let long = ap (λ b. length b.items) near.ensures.same in
    ring_trimmed t st rope start mid c.requires.kept.some passed near.result (c.len-2.result - near.result) near.ensures.most near.ensures.none (omega (arith, c.len-2.ensures.len, long, near.ensures.most))
    c.truncate_front-2.new.self (c.truncate_front-2.ensures ∙ ap (λ b. buffer (keep_last (c.len-2.result - near.result) b.items) b.capacity) near.ensures.same)
