use Rattle.std.proofs.Common.{subst, sym}
use Rattle.command_parts.specs.declared.edit.Edit.{Edit}
use Rattle.command_parts.specs.Commands.{full_edit}
use Rattle.edit_script.specs.Commands.{quoted_texts}
use Rattle.script_tools.specs.Logged.{WritesText, shown_on}
use Rattle.script_tools.proofs.logging.write_texts.Goals as goal

pub returns-in-Insert : goal.returns-in-Insert
returns-in-Insert g c =
    let v = c.args.image.now in
    let a = g.W.Write.contents c.args.writer.now in
    let b = g.W.Write.contents c.write_span.new.writer in
    subst (λ (e : Edit). WritesText a b (shown_on c.args.texts (quoted_texts v.pool (full_edit v.splices e))) c.write_span.result) (sym c.in-Insert.is) c.write_span.ensures

pub returns-in-Replace : goal.returns-in-Replace
returns-in-Replace g c =
    let v = c.args.image.now in
    let a = g.W.Write.contents c.args.writer.now in
    let b = g.W.Write.contents c.write_span-in-Replace.new.writer in
    subst (λ (e : Edit). WritesText a b (shown_on c.args.texts (quoted_texts v.pool (full_edit v.splices e))) c.write_span-in-Replace.result) (sym c.in-Replace.is) c.write_span-in-Replace.ensures

pub returns-in-Many : goal.returns-in-Many
returns-in-Many g c =
    let v = c.args.image.now in
    let a = g.W.Write.contents c.args.writer.now in
    let b = g.W.Write.contents c.write_splices.new.writer in
    subst (λ (e : Edit). WritesText a b (shown_on c.args.texts (quoted_texts v.pool (full_edit v.splices e))) c.write_splices.result) (sym c.in-Many.is) c.write_splices.ensures
