use Rattle.std.proofs.lemmas.Result.{on_ok_weaker}
use Rattle.lazy_file.proofs.device_blocks.read_inside.Goals as goal

pub returns-then-buffer-ge-BLOCK_SIZE-clause-kept : goal.returns-then-buffer-ge-BLOCK_SIZE-clause-kept
returns-then-buffer-ge-BLOCK_SIZE-clause-kept g c = rw c.fill_source.ensures.reads.same c.requires.kept

pub returns-else-buffer-ge-BLOCK_SIZE-clause-keeps : goal.returns-else-buffer-ge-BLOCK_SIZE-clause-keeps
returns-else-buffer-ge-BLOCK_SIZE-clause-keeps g c = on_ok_weaker c.read_short.result (λ kept some short. kept) c.read_short.ensures.keeps
