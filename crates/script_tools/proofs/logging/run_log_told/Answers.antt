use Rattle.std.proofs.Common.{Ok}
use Rattle.script_tools.proofs.AcceptedImages.{each_inside, keeps_rules}
use Rattle.script_tools.proofs.logging.run_log_told.Goals as goal

pub log_checked-requires : goal.log_checked-requires
log_checked-requires g c =
    let old = g.S.Sources.reading c.args.sources.now in
    let new = g.S.Sources.reading c.check_told.new.sources in
    each_inside c.in-Ok.checked old.stated (keeps_rules c.args.at_most old new c.args.image.now c.in-Ok.checked c.in-Ok.ensures)

pub returns-in-Ok : goal.returns-in-Ok
returns-in-Ok g c = record { checked = Ok c.in-Ok.checked; check = c.in-Ok.ensures; written = c.log_checked.ensures }
