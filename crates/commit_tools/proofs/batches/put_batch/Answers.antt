use Rattle.std.proofs.Common.{◌-◌, ℕ, length, sym, ap, ◌∙◌}
use Rattle.std.specs.List.{sum_by}
use Rattle.edit_commands.specs.declared.command.Change.{Change}
use Rattle.edit_commands.specs.declared.command.Command.TheVariants as Command
use Rattle.commit_tools.proofs.PutBatches.{put_made, put_takes}
use Rattle.commit_tools.proofs.batches.put_batch.Goals as goal

pub make-requires : goal.make-requires
make-requires c =
    ap (sum_by (λ (d : Change). d.n)) c.deref.ensures.value
    ∙ put_takes c.args.found.now c.args.file.now c.args.first c.args.left c.in-Ok.batch c.requires.found c.requires.inside.0 c.in-Ok.ensures
    ∙ ap length (sym c.deref-2.ensures.value)

pub returns : goal.returns
returns c =
    put_made c.args.found.now c.args.file.now c.args.first c.args.left c.in-Ok.batch c.args.session.now c.make.new.session (Command.Many (c.count-r.result - 1) c.deref.result c.deref-2.result) c.make.result
    c.requires.found c.requires.few.0 c.requires.few.1 c.requires.apart c.requires.longest c.in-Ok.ensures c.requires.some (ap (λ (n : ℕ). n - 1) c.count-r.ensures.value, c.deref.ensures.value, c.deref-2.ensures.value) c.make.ensures
