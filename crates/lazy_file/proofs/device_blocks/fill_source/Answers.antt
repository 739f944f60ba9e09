use Rattle.std.proofs.Common.{length, map}
use Rattle.lazy_file.proofs.DeviceLists.{read_of_one}
use Rattle.lazy_file.specs.DeviceTexts.{HasSpan, stated_texts}
use Rattle.lazy_file.proofs.device_blocks.fill_source.Goals as goal

pub returns-clause-reads : goal.returns-clause-reads
returns-clause-reads g c =
    let span : HasSpan (stated_texts (map g.D.Device.reading c.args.devices.now)) c.args.s c.args.off (length c.fill.new.buffer) = rw c.fill.auto.buffer c.requires in
    rw (← c.fill.auto.buffer)
    (read_of_one g.D.Device.reading c.args.devices.now c.index-devices-s.result c.fill.new.device c.args.s c.args.off c.fill.new.buffer c.fill.result span c.fill.ensures).0

pub returns-clause-bytes : goal.returns-clause-bytes
returns-clause-bytes g c =
    let span : HasSpan (stated_texts (map g.D.Device.reading c.args.devices.now)) c.args.s c.args.off (length c.fill.new.buffer) = rw c.fill.auto.buffer c.requires in
    (read_of_one g.D.Device.reading c.args.devices.now c.index-devices-s.result c.fill.new.device c.args.s c.args.off c.fill.new.buffer c.fill.result span c.fill.ensures).1
