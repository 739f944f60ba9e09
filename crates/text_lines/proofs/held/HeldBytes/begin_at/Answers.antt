use Rattle.std.proofs.Common.{[], ap, arith}
use Rattle.std.proofs.lemmas.List.{drop_all}
use Rattle.text_lines.specs.declared.held.TheConstants.{ROOM}
use Rattle.text_lines.specs.HeldBytes.{HeldPart}
use Rattle.text_lines.proofs.held.HeldBytes.begin_at.Goals as goal

pub returns : goal.returns
returns c = rw (drop_all ROOM c.self.inside.bytes (omega (arith, c.self.ranges.1))) (ap (λ (h : HeldPart). record h { from = c.args.place; bytes = [] }) c.self.view_is)
