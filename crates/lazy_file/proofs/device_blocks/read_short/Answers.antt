use Rattle.std.proofs.Common.{refl, ap, sym, inl, inr, ◌⊎◌, ◌≡◌, ◌+◌, ◌-◌, ◌*◌, ◌/◌, ◌%◌, ◌<◌, length, map, arith}
use Rattle.std.proofs.lemmas.Grind.{common_steps}
use Rattle.std.specs.Prelude.{Ok}
use Rattle.std.specs.Map.{keys_of}
use Rattle.lazy_file.specs.DeviceTexts.{stated_texts}
use Rattle.lazy_file.proofs.BlockReads.{both_unread, one_unread, two_parts}
use Rattle.lazy_file.proofs.UsedBlocks.{uses_last, within_block}
use Rattle.lazy_file.proofs.device_blocks.read_short.Goals as goal

pub returns-clause-bytes : goal.returns-clause-bytes
returns-clause-bytes g c =
    let front = c.read_in_block.new.part in
    let here : c.args.off / 4096 * 4096 + c.args.off % 4096 ≡ c.args.off = omega arith in
    let there : (c.args.off / 4096 + 1) * 4096 + 0 ≡ c.args.off + length front = grind (arith, common_steps) in
    two_parts c.read_in_block-2.result (stated_texts (map g.D.Device.reading c.args.devices.now)) (stated_texts (map g.D.Device.reading c.read_in_block.new.devices)) c.args.s c.args.off (c.args.off / 4096 * 4096 + c.args.off % 4096) ((c.args.off / 4096 + 1) * 4096 + 0) front c.read_in_block-2.new.part c.in_ok-read_in_block.ensures.reads.same here there c.in_ok-read_in_block.ensures.bytes c.read_in_block-2.ensures.bytes

pub returns-clause-keeps : goal.returns-clause-keeps
returns-clause-keeps g c =
    let n = length c.args.buffer.now in
    let last : (c.args.off + n - 1) / 4096 ≡ c.args.off / 4096 + 1 = grind (arith, common_steps) in
    rw last c.read_in_block-2.ensures.keeps

pub returns-clause-unread : goal.returns-clause-unread
returns-clause-unread g c =
    let n = length c.args.buffer.now in
    let last : (c.args.off + n - 1) / 4096 ≡ c.args.off / 4096 + 1 = grind (arith, common_steps) in
    both_unread c.args.devices.now c.read_in_block.new.devices c.read_in_block-2.new.devices c.args.kept.now.entries c.read_in_block.new.kept.entries c.read_in_block-2.new.kept.entries c.args.s c.args.off n (c.args.off / 4096)
    c.requires.some refl last c.in_ok-read_in_block.ensures.block c.read_in_block-2.ensures.block

pub returns-then-is_empty-clause-unread : goal.returns-then-is_empty-clause-unread
returns-then-is_empty-clause-unread g c =
    one_unread c.args.devices.now c.read_in_block.new.devices c.args.kept.now.entries c.read_in_block.new.kept.entries c.args.s c.args.off (length c.args.buffer.now) (c.args.off / 4096)
    c.requires.some refl c.in_ok-read_in_block.ensures.block

pub returns-then-is_empty-clause-uses : goal.returns-then-is_empty-clause-uses
returns-then-is_empty-clause-uses g c =
    let n = length c.args.buffer.now in
    let last : (c.args.off + (n - 1)) / 4096 ≡ c.args.off / 4096 = grind (arith, common_steps) in
    uses_last c.args.kept.now.cap (keys_of c.args.kept.now.entries) (keys_of c.args.kept.now.entries) (keys_of c.read_in_block.new.kept.entries) c.args.s c.args.off n 0 (c.args.off / 4096) (Ok tt)
    (omega (arith, c.requires.some)) (inl refl) (omega arith) last refl c.in_ok-read_in_block.ensures.uses

pub read_in_block-requires-2-clause-within : goal.read_in_block-requires-2-clause-within
read_in_block-requires-2-clause-within g c =
    rw c.in_ok-read_in_block.ensures.most
    (within_block c.args.kept.now.cap (keys_of c.args.kept.now.entries) (keys_of c.read_in_block.new.kept.entries) (c.args.s, c.args.off / 4096) (Ok tt) c.requires.within c.in_ok-read_in_block.ensures.uses)

pub returns-clause-uses : goal.returns-clause-uses
returns-clause-uses g c =
    let n = length c.args.buffer.now in
    let m = length c.read_in_block.new.part in
    let more : m < n = grind (arith, common_steps) in
    let next : (c.args.off + m) / 4096 ≡ c.args.off / 4096 + 1 = grind (arith, common_steps) in
    let start : (c.args.off + m) % 4096 ≡ 0 = grind (arith, common_steps) in
    let last : (c.args.off + (n - 1)) / 4096 ≡ c.args.off / 4096 + 1 = grind (arith, common_steps) in
    let first : (c.args.off + (m - 1)) / 4096 ≡ c.args.off / 4096 = grind (arith, common_steps) in
    let front = uses_last c.args.kept.now.cap (keys_of c.args.kept.now.entries) (keys_of c.args.kept.now.entries) (keys_of c.read_in_block.new.kept.entries) c.args.s c.args.off m 0 (c.args.off / 4096) (Ok tt)
    (grind (arith, common_steps)) (inl refl) (omega arith) first refl c.in_ok-read_in_block.ensures.uses in
    uses_last c.args.kept.now.cap (keys_of c.args.kept.now.entries) (keys_of c.read_in_block.new.kept.entries) (keys_of c.read_in_block-2.new.kept.entries) c.args.s c.args.off n m (c.args.off / 4096 + 1) c.read_in_block-2.result
    more (inr start) next last front.ok (rw c.in_ok-read_in_block.ensures.most at c.read_in_block-2.ensures.uses)
