use Rattle.std.proofs.Common.{◌≡◌, length, map, ap, sym, ◌∙◌}
use Rattle.std.specs.Map.{keys_of}
use Rattle.lazy_file.specs.DeviceTexts.{stated_texts}
use Rattle.lazy_file.specs.KeptBlocks.{AreWithin}
use Rattle.lazy_file.proofs.UsedBlocks.{within_read}
use Rattle.lazy_file.proofs.FileLists.{AreSound, refilled}
use Rattle.lazy_file.proofs.file_sources.FileSourcesSources.read.Goals as goal

pub read_source-requires-clause-kept : goal.read_source-requires-clause-kept
read_source-requires-clause-kept g c = rw c.deref_mut.ensures.value c.self.invariant.1

pub invariant_of-self : goal.invariant_of-self
invariant_of-self g c =
    let items = c.self.inside.devices.items in
    let len : length c.read_source.new.devices ≡ length items = c.read_source.auto.devices ∙ ap length c.deref_mut.ensures.value in
    let same : stated_texts (map g.D.Device.reading c.read_source.new.devices) ≡ stated_texts (map g.D.Device.reading items) = c.read_source.ensures.same ∙ ap (λ ds. stated_texts (map g.D.Device.reading ds)) c.deref_mut.ensures.value in
    let within : AreWithin c.read_source.new.kept.cap (keys_of c.read_source.new.kept.entries) =
    rw c.read_source.ensures.most (within_read c.self.inside.kept.cap (keys_of c.self.inside.kept.entries) (keys_of c.read_source.new.kept.entries) c.args.s c.args.off (length c.args.buffer.now) c.read_source.result
    c.self.invariant.2 c.read_source.ensures.uses c.read_source.ensures.straight) in
    let sound : AreSound (stated_texts (map g.D.Device.reading c.read_source.new.devices)) c.read_source.new.kept.cap c.read_source.new.kept.entries =
    (rw same c.self.invariant.0, c.read_source.ensures.kept, within) in
    rw (refilled c.self.inside.devices.len items c.read_source.new.devices (sym c.deref_mut.ensures.len ∙ ap length c.deref_mut.ensures.value) len) sound

pub returns-clause-unread : goal.returns-clause-unread
returns-clause-unread g c =
    let items = c.self.inside.devices.items in
    let len : length c.read_source.new.devices ≡ length items = c.read_source.auto.devices ∙ ap length c.deref_mut.ensures.value in
    rw (refilled c.self.inside.devices.len items c.read_source.new.devices (sym c.deref_mut.ensures.len ∙ ap length c.deref_mut.ensures.value) len, ← c.self.view_is)
    (rw c.deref_mut.ensures.value at c.read_source.ensures.unread)

pub returns-clause-others : goal.returns-clause-others
returns-clause-others g c =
    let items = c.self.inside.devices.items in
    let len : length c.read_source.new.devices ≡ length items = c.read_source.auto.devices ∙ ap length c.deref_mut.ensures.value in
    rw (refilled c.self.inside.devices.len items c.read_source.new.devices (sym c.deref_mut.ensures.len ∙ ap length c.deref_mut.ensures.value) len, ← c.self.view_is)
    (rw c.deref_mut.ensures.value at c.read_source.ensures.others)

pub returns-clause-uses : goal.returns-clause-uses
returns-clause-uses g c = rw (← c.self.view_is) c.read_source.ensures.uses
