use Rattle.std.proofs.Common.{Ok, refl, subst}
use Rattle.edit_commands.specs.Session.{SessionValue, new_session}
use Rattle.edit_script.specs.Applied.{TakesLines, lines_of}
use Rattle.script_tools.proofs.FurtherLines.{lines_go_further}
use Rattle.script_tools.proofs.applying.made.Goals as goal

pub returns-in-Ok-apply_script_told-clause-ok : goal.returns-in-Ok-apply_script_told-clause-ok
returns-in-Ok-apply_script_told-clause-ok g c =
    let begun = new_session c.args.lens.now in
    let lines = lines_of c.args.script.now in
    let new = c.apply_script_told.new.session in
    let takes = subst (λ (v : SessionValue). TakesLines v 0 lines (Ok tt) new) c.in-Ok.ensures.made c.in-Ok-apply_script_told.ensures in
    record {
      takes = takes;
      says = λ commands reads. c.says_the_script.ensures begun 0 lines new commands tt takes reads;
      sources = (lines_go_further begun 0 lines (Ok tt) new refl takes).keeps.goes_on.sources;
      history = c.count-count.ensures.history;
    }
