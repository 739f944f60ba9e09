use Rattle.std.proofs.Common.{◌≡◌, ℕ, ◌-◌, length, take, drop, sym, ap, subst, ◌∙◌, arith}
use Rattle.rope_node.specs.Denotes.{rope_cells, rope_len, text}
use Rattle.commit_tools.specs.declared.found.Found.{Found}
use Rattle.commit_tools.specs.Found.{FrontsEndBefore}
use Rattle.commit_tools.proofs.FoundTexts.{none_made}
use Rattle.commit_tools.proofs.RopeReads.{over_same}
use Rattle.commit_tools.proofs.SameEnds.{whole_text}
use Rattle.commit_tools.proofs.texts.found_beside.Goals as goal

pub returns-in-Ok-changes-clause-text : goal.returns-in-Ok-changes-clause-text
returns-in-Ok-changes-clause-text g c = λ source agrees stated.
    let t = g.S.NodeSpace.table c.args.space.now in
    let file = c.args.file.now in
    let len : ℕ = rope_len t c.args.rope in
    let front : ℕ = c.in-Ok.ends.front in
    let back : ℕ = c.in-Ok.ends.back in
    let middle = c.in_ok-middle.middle in
    let found : Found = record { front = front; end = length file - back; middle = middle; changes = c.in-Ok-changes.changes } in
    let u = text source (rope_cells t c.args.rope) in
    let read = over_same t c.args.rope (λ v. middle.items ≡ take (c.rope_len.result - front - back) (drop front v)) (g.T.Sources.reading c.ends_of.new.sources) (g.T.Sources.reading c.args.sources.now) c.in-Ok.ensures.reads c.in_ok-middle.ensures.bytes in
    let is : middle.items ≡ take (len - front - back) (drop front u) = read source agrees stated ∙ ap (λ (n : ℕ). take (n - front - back) (drop front u)) c.rope_len.ensures.exact in
    whole_text u file middle.items front back len (length file) c.in-Ok.ensures.inside (c.in-Ok.ensures.front source agrees stated) (c.in-Ok.ensures.back source agrees stated) is
    ∙ sym (none_made found file)

pub returns-in-Ok-changes-clause-apart : goal.returns-in-Ok-changes-clause-apart
returns-in-Ok-changes-clause-apart g c = λ source agrees stated.
    let t = g.S.NodeSpace.table c.args.space.now in
    let file = c.args.file.now in
    let back : ℕ = c.in-Ok.ends.back in
    let same : back ≡ length file - (length file - back) = omega (arith, c.in-Ok.ensures.within) in
    subst (FrontsEndBefore (rope_len t c.args.rope) (text source (rope_cells t c.args.rope)) file) same (c.in-Ok.ensures.apart source agrees stated)
