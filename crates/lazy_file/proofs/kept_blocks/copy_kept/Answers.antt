use Rattle.std.proofs.Common.{◌≡◌, ap, arith, sym, subst, ◌∙◌}
use Rattle.std.specs.Map.{keys_of}
use Rattle.lazy_file.proofs.KeptLists.{copied_part, nothing_copied}
use Rattle.lazy_file.proofs.UsedBlocks.{promoted_none, promoted_unkept, promoted_used}
use Rattle.lazy_file.proofs.kept_blocks.copy_kept.Goals as goal

pub returns-in-Some-clause-copies : goal.returns-in-Some-clause-copies
returns-in-Some-clause-copies c = copied_part c.args.kept.now.entries c.get.follows.lender-at-none.entries c.args.key c.args.from c.copy_part.new.part c.copy_part.result c.in-Some.block.now (ap (λ k. k.entries) c.get.follows.holds-at-none) (sym (rw c.in-Some.is at c.get.ensures.value)) (rw c.deref.ensures.value at c.copy_part.ensures.copied) (λ le. c.copy_part.ensures.inside (omega (arith, c.deref.ensures.value, le)))

pub returns-in-Some-clause-uses : goal.returns-in-Some-clause-uses
returns-in-Some-clause-uses c = λ copied. ap (λ k. keys_of k.entries) c.get.follows.holds-at-none ∙ promoted_used c.args.kept.now.cap c.args.key c.args.kept.now.entries c.in-Some.block.now c.requires.within (sym (rw c.in-Some.is at c.get.ensures.value))

pub returns-in-Some-clause-unkept : goal.returns-in-Some-clause-unkept
returns-in-Some-clause-unkept c = λ away. absurd (away (promoted_unkept c.args.key c.args.kept.now.entries c.in-Some.block.now (sym (rw c.in-Some.is at c.get.ensures.value))))

pub returns-in-None-clause-copies : goal.returns-in-None-clause-copies
returns-in-None-clause-copies c = nothing_copied c.args.kept.now.entries c.get.follows.lender-at-none.entries c.args.key c.args.from c.args.part.now (ap (λ k. k.entries) c.get.follows.holds-at-none) (sym (rw c.in-None.is at c.get.ensures.value))

pub returns-in-None-clause-unkept : goal.returns-in-None-clause-unkept
returns-in-None-clause-unkept c = λ away. ap (λ k. k.entries) c.get.follows.holds-at-none ∙ promoted_none c.args.key c.args.kept.now.entries (sym (rw c.in-None.is at c.get.ensures.value))
