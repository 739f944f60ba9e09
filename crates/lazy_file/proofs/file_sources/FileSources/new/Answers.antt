use Rattle.std.proofs.Common.{◌≡◌, ◌<◌, [], map, ap, arith}
use Rattle.std.specs.NonZero.{non_zero_usize_get}
use Rattle.lazy_file.specs.DeviceTexts.{stated_texts}
use Rattle.lazy_file.proofs.FileLists.{none_sound}
use Rattle.lazy_file.proofs.file_sources.FileSources.new.Goals as goal

pub invariant_of-result : goal.invariant_of-result
invariant_of-result g c =
    let some : 0 < non_zero_usize_get c.args.blocks = omega (arith, c.args.blocks.ok) in
    none_sound (stated_texts (map g.D.Device.reading c.new.result.items)) c.in_ok-new.field-0.cap c.in_ok-new.field-0.entries
    (ap (λ ds. stated_texts (map g.D.Device.reading ds)) c.new.ensures.items) (ap (λ k. k.entries) c.in_ok-new.ensures) (rw c.in_ok-new.ensures some)
