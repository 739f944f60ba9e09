use Rattle.std.proofs.Common.{◌<◌, ◌≤◌, length, arith}
use Rattle.std.specs.Prelude.{is_ok}
use Rattle.lazy_file.proofs.FileLists.{sound_after}
use Rattle.lazy_file.proofs.file_sources.FileSources.add.Goals as goal

pub invariant_of-self : goal.invariant_of-self
invariant_of-self g c =
    let room : length c.self.inside.devices.items < 255 = omega (arith, c.len-place.ensures, c.if-place.false, c.self.inside.devices.ok) in
    let size : (g.D.Device.reading c.args.device).stated.size ≤ 1099511627775 = rw c.size.ensures at c.if-size-gt-SOURCE_LIMIT.false in
    sound_after g.D.Device.reading (is_ok c.push.result) c.self.inside.devices.items c.push.new.self.items c.args.device c.self.inside.kept.cap c.self.inside.kept.entries c.self.invariant room size c.push.ensures.items
