use Rattle.std.proofs.Common.{◌≡◌, ap, sym, subst, ◌∙◌}
use Rattle.std.specs.Map.{keys_of}
use Rattle.lru.specs.LruCache.{put_entries}
use Rattle.lazy_file.specs.KeptBlocks.{KeepsBlock, is_same_block}
use Rattle.lazy_file.proofs.KeptLists.{one_kept, put_kept}
use Rattle.lazy_file.proofs.UsedBlocks.{put_used}
use Rattle.lazy_file.proofs.kept_blocks.keep.Goals as goal

pub returns-clause-one : goal.returns-clause-one
returns-clause-one c = one_kept c.args.kept.now c.put.new.self.entries c.args.key c.args.block (ap (λ k. k.entries) c.in_ok-put.ensures.entries)

pub returns-clause-kept : goal.returns-clause-kept
returns-clause-kept c =
    let put : c.put.new.self.entries ≡ put_entries is_same_block c.args.kept.now c.args.key c.args.block = ap (λ k. k.entries) c.in_ok-put.ensures.entries in
    subst (λ es. KeepsBlock es c.args.key) (sym put) (put_kept c.args.kept.now c.args.key c.args.block)

pub returns-clause-uses : goal.returns-clause-uses
returns-clause-uses c = record {
  ok = ap (λ k. keys_of k.entries) c.in_ok-put.ensures.entries ∙ put_used c.args.kept.now c.args.key c.args.block c.requires.within;
  err = tt;
}
