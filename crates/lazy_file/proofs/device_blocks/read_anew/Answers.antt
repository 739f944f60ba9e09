use Rattle.std.proofs.Common.{◌≡◌, ◌+◌, ◌-◌, drop, length, map, take, arith}
use Rattle.lazy_file.specs.DeviceTexts.{stated_texts}
use Rattle.lazy_file.specs.KeptBlocks.{IsBlockOf}
use Rattle.lazy_file.proofs.BlockReads.{kept_with, part_of_read}
use Rattle.lazy_file.proofs.device_blocks.read_anew.Goals as goal

pub returns-in_err-block-clause-kept : goal.returns-in_err-block-clause-kept
returns-in_err-block-clause-kept g c = rw c.load_block.ensures.reads.same c.requires.kept

pub returns-in-Ok-clause-bytes : goal.returns-in-Ok-clause-bytes
returns-in-Ok-clause-bytes g c =
    let n = c.args.from + length c.args.part.now - c.args.from in
    let len : n ≡ length c.copy_from_slice.new.self = omega (arith, c.copy_from_slice.auto.self) in
    let copied : c.copy_from_slice.new.self ≡ take n (drop c.args.from c.deref.result.now) = c.copy_from_slice.ensures.after in
    part_of_read (stated_texts (map g.D.Device.reading c.args.devices.now)) c.args.key c.args.from c.in_ok-block.block.items c.copy_from_slice.new.self c.in_ok-block.ensures.bytes (rw (len, c.deref.ensures.value) at copied)

pub returns-in-Ok-clause-kept : goal.returns-in-Ok-clause-kept
returns-in-Ok-clause-kept g c =
    let ds = stated_texts (map g.D.Device.reading c.args.devices.now) in
    let is : IsBlockOf ds c.args.key c.in_ok-block.block.items = record { there = c.requires.span.there; bytes = c.in_ok-block.ensures.bytes; whole = omega (arith, c.in_ok-block.ensures.len, c.min-len.ensures, c.source_size.ensures) } in
    rw c.load_block.ensures.reads.same (kept_with ds c.args.kept.now.entries c.keep.new.kept.entries c.args.key c.in_ok-block.block c.requires.kept c.keep.ensures.one is)

pub returns-in-Err-clause-kept : goal.returns-in-Err-clause-kept
returns-in-Err-clause-kept g c =
    let ds = stated_texts (map g.D.Device.reading c.args.devices.now) in
    let is : IsBlockOf ds c.args.key c.in_ok-block.block.items = record { there = c.requires.span.there; bytes = c.in_ok-block.ensures.bytes; whole = omega (arith, c.in_ok-block.ensures.len, c.min-len.ensures, c.source_size.ensures) } in
    rw c.load_block.ensures.reads.same (kept_with ds c.args.kept.now.entries c.keep.new.kept.entries c.args.key c.in_ok-block.block c.requires.kept c.keep.ensures.one is)
