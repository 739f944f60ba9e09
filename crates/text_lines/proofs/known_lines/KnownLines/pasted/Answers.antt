use Rattle.std.proofs.Common.{rules, None, IsSome}
use Rattle.command_parts.specs.Commands.{replaced}
use Rattle.text_lines.specs.declared.known.KnownLine.{KnownLine}
use Rattle.text_lines.specs.KnownLines.{IsPasted, StaysPasted, known_lines}
use Rattle.text_lines.proofs.LearntLines.{each_stayed}
use Rattle.text_lines.proofs.known_lines.KnownLines.pasted.Goals as goal

pub returns-clause-lines : goal.returns-clause-lines
returns-clause-lines c t bytes inside long known =
    record { each = c.changed.ensures.lines t (replaced t c.args.place 0 bytes) (λ line later made is. let became : IsPasted c.args.place c.args.put line later = search rules in became t bytes inside long is) known.each }

pub returns-clause-kept : goal.returns-clause-kept
returns-clause-kept c all =
    each_stayed (known_lines c.args.self.now) (known_lines c.changed.result) c.changed.ensures (λ line later made. search rules)
    (λ line stays none. let kept : StaysPasted c.args.place c.args.put line → IsSome {T = KnownLine} None = search rules in absurd (let some = kept stays in cc)) all
