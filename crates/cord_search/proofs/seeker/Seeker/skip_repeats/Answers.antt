use Rattle.std.proofs.Common.{◌≡◌, ◌+◌, ◌-◌, ◌≤◌, ℕ, max, List, Option, length, sym, subst, arith}
use Rattle.std.specs.Prelude.{IfSome}
use Rattle.rope_node.specs.Denotes.{rope_cells}
use Rattle.cord_search.specs.Seeking.{IsClearTo, IsSeeking, RepeatsFrom}
use Rattle.cord_search.specs.declared.seeker.Seeker.{Seeker}
use Rattle.cord_search.proofs.Repeats.{clear_repeats}
use Rattle.cord_search.proofs.Seeks.{clear_further, ring_emptied}
use Rattle.cord_search.proofs.seeker.Seeker.skip_repeats.Goals.{in-Some+then-p-clear+then-self-first, in-Some+else-p-clear, in_default}
use Rattle.cord_search.proofs.seeker.Seeker.skip_repeats.Goals as goal

pub returns-clause-sought : goal.returns-clause-sought
returns-clause-sought c t st rope start from inside repeats seeking =
    let old : Seeker = c.args.self.now in
    let first : ℕ = c.args.first in
    let len : ℕ = c.args.len in
    elim c.match-period.branch [
      | in-Some+then-p-clear+then-self-first w ↦
          let p : ℕ = w.in-Some.p in
          let need : ℕ = c.need-need.result in
          let clear : ℕ = c.saturating_sub-clear.result in
          let last : ℕ = c.saturating_sub-last.result in
          let period : RepeatsFrom t rope first len p = subst (λ (o : Option ℕ). IfSome o (RepeatsFrom t rope first len)) w.in-Some.is repeats in
          let wanted : length old.finder ≡ need = sym c.need-need.ensures in
          let passed : first + clear ≡ old.place - length old.ring.items = omega (arith, c.saturating_sub-clear.ensures, c.len.ensures.len, w.if-p-clear.true, period.some) in
          let before : IsClearTo t st rope old.finder start (first + clear) = subst (λ (q : ℕ). IsClearTo t st rope old.finder start q) (sym passed) seeking.clear in
          let fits : last + need ≤ len + 1 = omega (arith, c.saturating_sub-last.ensures, w.if-self-first.true, c.requires.kept.some, wanted) in
          let also = clear_repeats t rope first len p clear last need period w.if-p-clear.true fits in
          let all = clear_further t st rope old.finder need start first clear last wanted from (omega (arith, passed, w.if-self-first.true, c.requires.kept.taken)) before also in
          let new : Seeker = w.go_on.new.self in
          let there : IsClearTo t st rope new.finder start new.place =
          subst (λ (q : ℕ). IsClearTo t st rope new.finder start q) (sym w.go_on.ensures.place) (subst (λ (s : List ℕ). IsClearTo t st rope s start (first + last)) (sym w.go_on.ensures.pattern) all) in
          let on : start ≤ new.place = omega (arith, w.go_on.ensures.place, from) in
          let held : new.place ≤ max start (length (rope_cells t rope)) = omega (arith, w.go_on.ensures.place, inside, fits, c.requires.kept.some, wanted) in
          subst (IsSeeking t st rope start) (sym w.self-is) (ring_emptied t st rope start new w.go_on.ensures.ring on held there)
      | in-Some+else-p-clear w ↦ subst (IsSeeking t st rope start) (sym w.self-is) seeking
      | in_default w ↦ subst (IsSeeking t st rope start) (sym w.self-is) seeking
    ]
