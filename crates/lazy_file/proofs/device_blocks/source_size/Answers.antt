use Rattle.std.proofs.Common.{ap, sym, ◌∙◌}
use Rattle.lazy_file.specs.DeviceTexts.{DeviceText}
use Rattle.lazy_file.proofs.DeviceLists.{text_of_device}
use Rattle.lazy_file.proofs.device_blocks.source_size.Goals as goal

pub returns : goal.returns
returns g c =
    c.size.ensures
    ∙ ap (λ d. (g.D.Device.reading d).stated.size) c.index-devices-s.is
    ∙ ap (λ (t : DeviceText). t.size) (sym (text_of_device g.D.Device.reading c.args.devices.now c.args.s c.index-devices-s.result c.requires))
