use Rattle.std.proofs.Common.{◌<◌, length, map}
use Rattle.std.proofs.lemmas.List.{length-map}
use Rattle.lazy_file.specs.DeviceTexts.{stated_texts}
use Rattle.lazy_file.proofs.FileLists.{size_in_limit}
use Rattle.lazy_file.proofs.file_sources.FileSourcesSources.len.Goals as goal

pub returns-clause-limit : goal.returns-clause-limit
returns-clause-limit g c =
    let ds = stated_texts (map g.D.Device.reading c.self.inside.devices.items) in
    let there : c.args.s < length ds = rw (← c.self.view_is, length-map) at c.requires in
    rw (c.source_size.ensures, c.deref.ensures.value) (size_in_limit ds c.args.s c.self.invariant.0 there)
