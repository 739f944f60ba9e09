use Rattle.std.proofs.Common.{◌≡◌, ◌+◌, ◌<◌, ◌∷◌, ◌++◌, [], length, sym, ap, ◌∙◌, arith}
use Rattle.std.proofs.lemmas.List.{length-append}
use Rattle.terminal_keys.specs.Held.{bytes_begun}
use Rattle.terminal_keys.proofs.StepLaws.{full_keys, one_keys, one_open}
use Rattle.terminal_keys.proofs.step.go_on.Goals as goal

pub returns-then-len-eq-MOST-clause-keys : goal.returns-then-len-eq-MOST-clause-keys
returns-then-len-eq-MOST-clause-keys c = λ m rest.
    let old = c.args.sequence.now in
    let held = c.reach.new.self in
    let more : bytes_begun held ≡ bytes_begun old ++ c.args.byte ∷ [] = c.reach.ensures.bytes ∙ c.push.ensures.bytes in
    let full : length (bytes_begun held) ≡ 1024 = sym c.len.ensures ∙ c.if-len-eq-MOST.true in
    full_keys m old.stage c.args.stage (bytes_begun old) (bytes_begun held) (bytes_begun c.clear.new.self) c.args.byte rest c.requires.held c.requires.goes more full c.clear.ensures.bytes

pub returns-else-len-eq-MOST-clause-held : goal.returns-else-len-eq-MOST-clause-held
returns-else-len-eq-MOST-clause-held c =
    let old = c.args.sequence.now in
    let held = c.reach.new.self in
    let more : bytes_begun held ≡ bytes_begun old ++ c.args.byte ∷ [] = c.reach.ensures.bytes ∙ c.push.ensures.bytes in
    let one : length (bytes_begun held) ≡ length (bytes_begun old) + 1 = ap length more ∙ length-append (bytes_begun old) (c.args.byte ∷ []) in
    let below : length (bytes_begun old) < 1024 = c.requires.held.1 in
    let same = c.len.ensures in
    let other = c.if-len-eq-MOST.false in
    let few : length (bytes_begun held) < 1024 = omega arith in
    one_open old.stage c.args.stage held.stage (bytes_begun old) (bytes_begun held) c.args.byte c.requires.held c.requires.goes c.reach.ensures.stage more few

pub returns-else-len-eq-MOST-clause-keys : goal.returns-else-len-eq-MOST-clause-keys
returns-else-len-eq-MOST-clause-keys c = λ m rest.
    one_keys m (bytes_begun c.args.sequence.now) (bytes_begun c.reach.new.self) c.args.byte rest (c.reach.ensures.bytes ∙ c.push.ensures.bytes)
