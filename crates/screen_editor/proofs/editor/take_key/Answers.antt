use Rattle.std.proofs.Common.{Some, inl, inr, sym}
use Rattle.screen_editor.specs.declared.key.Step.TheVariants as Step
use Rattle.screen_editor.proofs.KnownKeys.{refused_known}
use Rattle.screen_editor.proofs.PlainCuts.{plain_refused}
use Rattle.screen_editor.proofs.ToldKeys.{ending_told, going_told, leaves, refused_told, saves}
use Rattle.screen_editor.proofs.editor.take_key.Goals as goal

pub returns-in-Err-clause-takes : goal.returns-in-Err-clause-takes
returns-in-Err-clause-takes g c = refused_told c.args.key (g.R.Sources.reading c.args.sources.now) (g.R.Sources.reading c.take.new.sources) c.args.workspace.now c.take.new.workspace c.tell.new.self c.in-Err.fault c.in-Err.ensures c.tell.ensures

pub returns-in-Save-clause-takes : goal.returns-in-Save-clause-takes
returns-in-Save-clause-takes g c =
    let e = c.in-Save.ensures in
    ending_told c.args.key (g.R.Sources.reading c.args.sources.now) (g.R.Sources.reading c.take.new.sources) c.args.workspace.now c.take.new.workspace Step.Save c.in_default.ensures (sym e) (inl (saves c.args.key e))

pub returns-in-Leave-clause-takes : goal.returns-in-Leave-clause-takes
returns-in-Leave-clause-takes g c =
    let e = c.in-Leave.ensures in
    ending_told c.args.key (g.R.Sources.reading c.args.sources.now) (g.R.Sources.reading c.take.new.sources) c.args.workspace.now c.take.new.workspace Step.Leave c.in_default.ensures (sym e) (inr (leaves c.args.key e))

pub returns-in-Going : goal.returns-in-Going
returns-in-Going g c = record {
  takes = going_told c.args.key (g.R.Sources.reading c.args.sources.now) (g.R.Sources.reading c.take.new.sources) c.args.workspace.now c.take.new.workspace c.tell-in-Going.new.self c.in_default.ensures
      (sym c.in-Going.ensures) c.tell-in-Going.ensures;
  sizes = rw c.tell-in-Going.ensures c.take.ensures.sources;
  known = rw c.tell-in-Going.ensures (c.known_after-later.ensures (g.R.Sources.reading c.args.sources.now) (g.R.Sources.reading c.take.new.sources) c.take.new.workspace c.in_default.ensures c.last-taken.ensures.history c.requires.known);
}

pub returns-in-Err-clause-known : goal.returns-in-Err-clause-known
returns-in-Err-clause-known g c =
    let st = (g.R.Sources.reading c.args.sources.now).stated in
    let known = c.args.known.now in
    let kept = c.in-Err.ensures.kept in
    rw c.tell.ensures (
      refused_known st c.args.workspace.now c.take.new.workspace known.lines (Some c.in-Err.fault) c.last-before.ensures.history c.last-refused.ensures.history kept c.requires.known.0,
      plain_refused st c.args.workspace.now c.take.new.workspace known.plain_from kept c.requires.known.1,
    )

pub returns-in-Save-clause-known : goal.returns-in-Save-clause-known
returns-in-Save-clause-known g c = c.known_after-later.ensures (g.R.Sources.reading c.args.sources.now) (g.R.Sources.reading c.take.new.sources) c.take.new.workspace c.in_default.ensures c.last-taken.ensures.history c.requires.known

pub returns-in-Leave-clause-known : goal.returns-in-Leave-clause-known
returns-in-Leave-clause-known g c = c.known_after-later.ensures (g.R.Sources.reading c.args.sources.now) (g.R.Sources.reading c.take.new.sources) c.take.new.workspace c.in_default.ensures c.last-taken.ensures.history c.requires.known
