use Rattle.std.proofs.Common.{length}
use Rattle.lazy_file.proofs.DeviceLists.{source_reads}
use Rattle.lazy_file.proofs.device_blocks.read_source.Goals as goal

pub returns-clause-reads : goal.returns-clause-reads
returns-clause-reads g c =
    source_reads g.D.Device.reading c.args.devices.now c.read_inside.new.devices c.args.s c.args.off (length c.args.buffer.now) _ c.read_inside.result c.read_inside.ensures.reads
