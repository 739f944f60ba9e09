use Rattle.std.proofs.Common.{arith, length, map}
use Rattle.lazy_file.specs.DeviceTexts.{stated_texts}
use Rattle.lazy_file.proofs.BlockReads.{block_unkept, kept_moved, missed_block, part_of_kept}
use Rattle.lazy_file.proofs.KeptLists.{key_of_kept}
use Rattle.lazy_file.proofs.device_blocks.read_in_block.Goals as goal

pub returns-then-copy_kept-clause-bytes : goal.returns-then-copy_kept-clause-bytes
returns-then-copy_kept-clause-bytes g c = part_of_kept (stated_texts (map g.D.Device.reading c.args.devices.now)) c.args.kept.now.entries c.copy_kept.new.kept.entries c.args.key c.args.from c.copy_kept.new.part c.requires.kept (rw c.if-copy_kept.true at c.copy_kept.ensures.copies)

pub returns-then-copy_kept-clause-kept : goal.returns-then-copy_kept-clause-kept
returns-then-copy_kept-clause-kept g c = kept_moved (stated_texts (map g.D.Device.reading c.args.devices.now)) c.args.kept.now.entries c.copy_kept.new.kept.entries c.requires.kept c.copy_kept.ensures.copies

pub read_anew-requires-clause-kept : goal.read_anew-requires-clause-kept
read_anew-requires-clause-kept g c = kept_moved (stated_texts (map g.D.Device.reading c.args.devices.now)) c.args.kept.now.entries c.copy_kept.new.kept.entries c.requires.kept c.copy_kept.ensures.copies

pub returns-then-copy_kept-clause-keeps : goal.returns-then-copy_kept-clause-keeps
returns-then-copy_kept-clause-keeps g c =
    let found = c.copy_kept.ensures.copies.found c.if-copy_kept.true in
    c.copy_kept.ensures.copies.stays c.args.key (key_of_kept c.args.kept.now.entries c.args.key found.0 found.1)

pub read_anew-requires-clause-within : goal.read_anew-requires-clause-within
read_anew-requires-clause-within g c =
    let ds = stated_texts (map g.D.Device.reading c.args.devices.now) in
    let away = missed_block ds c.args.kept.now.entries c.copy_kept.new.kept.entries c.args.key c.args.from c.copy_kept.new.part (length c.args.part.now) c.requires.kept c.requires.span c.requires.block (omega (arith, c.copy_kept.auto.part)) (rw c.if-copy_kept.false at c.copy_kept.ensures.copies) in
    rw (c.copy_kept.ensures.most, c.copy_kept.ensures.unkept away) c.requires.within

pub returns-clause-uses : goal.returns-clause-uses
returns-clause-uses g c =
    let ds = stated_texts (map g.D.Device.reading c.args.devices.now) in
    let away = missed_block ds c.args.kept.now.entries c.copy_kept.new.kept.entries c.args.key c.args.from c.copy_kept.new.part (length c.args.part.now) c.requires.kept c.requires.span c.requires.block (omega (arith, c.copy_kept.auto.part)) (rw c.if-copy_kept.false at c.copy_kept.ensures.copies) in
    rw (c.copy_kept.ensures.most, c.copy_kept.ensures.unkept away) at c.read_anew.ensures.uses

pub returns-clause-block : goal.returns-clause-block
returns-clause-block g c =
    let ds = stated_texts (map g.D.Device.reading c.args.devices.now) in
    block_unkept c.args.devices.now c.read_anew.new.devices c.args.kept.now.entries c.read_anew.new.kept.entries c.args.key
    (missed_block ds c.args.kept.now.entries c.copy_kept.new.kept.entries c.args.key c.args.from c.copy_kept.new.part (length c.args.part.now) c.requires.kept c.requires.span c.requires.block (omega (arith, c.copy_kept.auto.part)) (rw c.if-copy_kept.false at c.copy_kept.ensures.copies))
