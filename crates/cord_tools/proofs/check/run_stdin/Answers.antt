use Rattle.std.proofs.Common.{ℕ, List, [], None, ◌∙◌, ap, subst}
use Rattle.lazy_file.specs.SourceTexts.{stated_in_memory}
use Rattle.lazy_file.proofs.LaterReads.{reads_same}
use Rattle.cord_tools.specs.Answers.{AnswersCheck, reading_in_memory}
use Rattle.cord_tools.proofs.ToolFaults.{no_texts}
use Rattle.cord_tools.proofs.check.run_stdin.Goals as goal

pub returns : goal.returns
returns g c =
    let before = g.W.Write.contents c.args.writer.now in
    let after = g.W.Write.contents c.run_check.new.writer in
    let answers = λ (old new : List (List ℕ)). AnswersCheck None reading_in_memory old new (g.R.Read.remaining c.args.reader) before after c.run_check.result in
    let none = no_texts c.run_check.new.sources (reads_same (reading_in_memory c.new.result) (reading_in_memory c.run_check.new.sources) _ c.run_check.ensures.reads.fault c.run_check.ensures.reads.reads ∙ ap stated_in_memory c.new.ensures) in
    subst (λ (new : List (List ℕ)). answers [] new) none (subst (λ (old : List (List ℕ)). answers old c.run_check.new.sources) c.new.ensures c.run_check.ensures.answer)
