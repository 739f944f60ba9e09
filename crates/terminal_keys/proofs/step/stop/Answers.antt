use Rattle.std.proofs.Common.{◌≡◌, ◌∷◌, ◌++◌, [], true, false, sym, ap, ◌∙◌}
use Rattle.terminal_keys.specs.Held.{bytes_begun, owed}
use Rattle.terminal_keys.specs.Keys.{keys_in}
use Rattle.terminal_keys.specs.Sequences.{ends_with}
use Rattle.terminal_keys.proofs.SequenceLaws.{open_broken, open_ended}
use Rattle.terminal_keys.proofs.StepLaws.{ended_keys}
use Rattle.terminal_keys.proofs.step.stop.Goals as goal

pub returns-then-ends_with-clause-keys : goal.returns-then-ends_with-clause-keys
returns-then-ends_with-clause-keys c = λ rest.
    let old = c.args.sequence.now in
    let m = c.args.mode.now in
    let byte = c.args.byte in
    let ends : ends_with old.stage byte ≡ true =
    ap (λ s. ends_with s byte) (sym c.stage.ensures) ∙ sym c.ends_with.ensures ∙ c.if-ends_with.true in
    ended_keys m c.end.new.mode (owed c.end.result) (bytes_begun old ++ byte ∷ []) (bytes_begun c.end.new.sequence) rest c.end.ensures.keys c.end.ensures.mode c.end.ensures.bytes
    ∙ sym (open_ended m old.stage (bytes_begun old) byte rest c.requires.held c.requires.stops ends)

pub returns-else-ends_with-clause-keys : goal.returns-else-ends_with-clause-keys
returns-else-ends_with-clause-keys c = λ rest.
    let old = c.args.sequence.now in
    let m = c.args.mode.now in
    let byte = c.args.byte in
    let ends : ends_with old.stage byte ≡ false =
    ap (λ s. ends_with s byte) (sym c.stage.ensures) ∙ sym c.ends_with.ensures ∙ c.if-ends_with.false in
    c.begin.ensures.keys rest
    ∙ ap (λ l. keys_in m (l ++ byte ∷ rest)) c.clear.ensures.bytes
    ∙ sym (open_broken m old.stage (bytes_begun old) byte rest c.requires.held c.requires.stops ends)
