use Rattle.std.proofs.Common.{◌≡◌, sym, ap, subst, ◌∙◌}
use Rattle.lazy_file.specs.SourceTexts.{Stated}
use Rattle.lazy_file.specs.Readings.{fault_by}
use Rattle.screen_editor.specs.KnownTexts.{IsKnownText}
use Rattle.screen_editor.specs.Refusals.{KeyAsks, key_source_fault}
use Rattle.screen_editor.proofs.LaterReadings.{reads_later}
use Rattle.screen_editor.proofs.editor.Editor.key.Goals as goal

pub invariant_of-self : goal.invariant_of-self
invariant_of-self g c =
    let old = g.R.Sources.reading c.self.inside.sources in
    let new = g.R.Sources.reading c.take_key.new.sources in
    let later = reads_later old new (KeyAsks c.of.result c.self.inside.workspace) (fault_by key_source_fault c.take_key.result) c.take_key.ensures.takes.reads in
    let same : new.stated ≡ old.stated = later.same in (
      c.take_key.ensures.sizes ∙ c.self.invariant.0 ∙ ap (λ (st : Stated). st.sizes) (sym same),
      subst (λ (st : Stated). IsKnownText st c.take_key.new.workspace c.take_key.new.known) (sym same) c.take_key.ensures.known,
    )
