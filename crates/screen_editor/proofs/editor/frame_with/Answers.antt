use Rattle.std.specs.Option.{option_map}
use Rattle.screen_editor.proofs.KnownKeys.{current_known, known_in_current}
use Rattle.screen_editor.proofs.MadeFrames.{noted_made}
use Rattle.screen_editor.proofs.editor.frame_with.Goals as goal

pub returns : goal.returns
returns g c = record {
  makes = noted_made (g.R.Sources.reading c.args.sources.now) (g.R.Sources.reading c.frame_about.new.sources) c.frame_about.result c.args.workspace.now c.session.result.now c.space.result.now c.root-root.result c.place-place.result c.last-last.result (option_map (λ m. m.now) c.args.note)
      c.session.ensures.value c.space.ensures.store c.root-root.ensures.value c.place-place.ensures.value c.last-last.ensures.value
      (record { bytes = c.frame_about.ensures.bytes; reads = c.frame_about.ensures.reads });
  known = current_known (g.R.Sources.reading c.args.sources.now).stated c.args.workspace.now c.session.result.now c.space.result.now c.root-root.result c.frame_about.new.known c.session.ensures.value c.space.ensures.store c.root-root.ensures.value c.frame_about.ensures.known;
}

pub frame_about-requires-clause-known : goal.frame_about-requires-clause-known
frame_about-requires-clause-known g c =
    known_in_current (g.R.Sources.reading c.args.sources.now).stated c.args.workspace.now c.session.result.now c.space.result.now c.root-root.result c.args.known.now c.session.ensures.value c.space.ensures.store c.root-root.ensures.value c.requires.known
