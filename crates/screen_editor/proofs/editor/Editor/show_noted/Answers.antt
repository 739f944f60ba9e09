use Rattle.std.proofs.lemmas.Result.{err_from_is_err_and}
use Rattle.std.specs.Option.{option_map}
use Rattle.screen_editor.specs.Watched.{watch}
use Rattle.screen_editor.proofs.TypedTurns.{watched_one, watched_prefix_of_one}
use Rattle.screen_editor.proofs.editor.Editor.show_noted.Goals as goal

pub returns-in_err-write_bytes-clause-not_shown : goal.returns-in_err-write_bytes-clause-not_shown
returns-in_err-write_bytes-clause-not_shown g c =
    let p = err_from_is_err_and c.from_residual-in_err-write_bytes.result c.from_residual-in_err-write_bytes.ensures.1 in
    rw (p.1, p.2) (
      watched_prefix_of_one (g.R.Sources.reading c.args.self.now.sources).stated (g.W.Write.contents c.args.screen.now) (g.W.Write.contents c.write_bytes.new.writer) (watch (option_map (λ h. h.now) c.args.hint) c.args.untaken c.args.self.now.editing) c.in_ok-frame.frame.items c.in_ok-frame.ensures.makes.bytes (rw c.deref.ensures.value at c.in_err-write_bytes.ensures.err),
      c.in_ok-frame.ensures.makes.reads,
    )

pub returns-clause-shown : goal.returns-clause-shown
returns-clause-shown g c =
    watched_one (g.R.Sources.reading c.args.self.now.sources).stated (g.W.Write.contents c.args.screen.now) (g.W.Write.contents c.write_bytes.new.writer) (watch (option_map (λ h. h.now) c.args.hint) c.args.untaken c.args.self.now.editing) c.in_ok-frame.frame.items c.in_ok-frame.ensures.makes.bytes (rw c.deref.ensures.value at c.in_ok-write_bytes.ensures.ok)

pub returns-clause-unfailed : goal.returns-clause-unfailed
returns-clause-unfailed g c = c.in_ok-frame.ensures.makes.reads
