use Rattle.std.proofs.Common.{◌≡◌, sym, ap, subst, ◌∙◌}
use Rattle.lazy_file.specs.SourceTexts.{Stated}
use Rattle.lazy_file.specs.Readings.{fault_by}
use Rattle.cord_position.specs.Fetched.{InCells}
use Rattle.text_lines.specs.Showing.{frame_source_fault}
use Rattle.screen_editor.specs.Editing.{current_cell, current_len}
use Rattle.screen_editor.specs.KnownTexts.{IsKnownLine, TakeNoBreak}
use Rattle.screen_editor.proofs.LaterReadings.{reads_later}
use Rattle.screen_editor.proofs.editor.Editor.frame_noted.Goals as goal

pub returns : goal.returns
returns g c = record { makes = rw (← c.self.view_is) c.frame_noted.ensures.makes }

pub invariant_of-self : goal.invariant_of-self
invariant_of-self g c =
    let e = c.self.inside.workspace in
    let old = g.R.Sources.reading c.self.inside.sources in
    let new = g.R.Sources.reading c.frame_noted.new.sources in
    let later = reads_later old new (InCells (current_cell e) 0 (current_len e)) (fault_by frame_source_fault c.frame_noted.result) c.frame_noted.ensures.makes.reads in
    let same : new.stated ≡ old.stated = later.same in (
      c.self.invariant.0 ∙ ap (λ (st : Stated). st.sizes) (sym same),
      (
        subst (λ (st : Stated). IsKnownLine st e c.frame_noted.new.known) (sym same) c.frame_noted.ensures.known,
        subst (λ (st : Stated). TakeNoBreak st e.session c.self.inside.known.plain_from) (sym same) c.self.invariant.1.1,
      ),
    )
