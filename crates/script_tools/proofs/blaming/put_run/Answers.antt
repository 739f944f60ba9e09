use Rattle.std.proofs.Common.{◌≡◌, ◌∷◌, ◌++◌}
use Rattle.command_parts.specs.Commands.{with_splices}
use Rattle.edit_script.specs.Words.{Number, line_of}
use Rattle.edit_script.specs.Commands.{front_of}
use Rattle.script_tools.proofs.BlamedLines.{line_put, then_is}
use Rattle.script_tools.proofs.blaming.put_run.Goals as goal

pub returns : goal.returns
returns c = λ splices.
    let run = c.args.run in
    let command = with_splices splices c.args.edit.now in
    let whole : c.push.new.self.items ++ line_of (front_of command) ≡ line_of (Number c.args.place ∷ Number run.len ∷ Number run.first.revision ∷ Number run.first.place ∷ front_of command) =
    rw (c.in_ok-push.ensures.items, c.in_ok-push_number-3.ensures, c.in_ok-push_number-2.ensures, c.in_ok-push_number.ensures, c.from.ensures, c.in_ok-extend_from_slice.ensures.items, c.clear.ensures.items, c.as_bytes.ensures.value, c.format.ensures.text)
    (line_put c.args.place run.len run.first.revision run.first.place command) in
    then_is c.push_front.result c.push_front.new.out.items (c.push.new.self.items ++ line_of (front_of command)) (line_of (Number c.args.place ∷ Number run.len ∷ Number run.first.revision ∷ Number run.first.place ∷ front_of command)) whole (c.push_front.ensures splices)
