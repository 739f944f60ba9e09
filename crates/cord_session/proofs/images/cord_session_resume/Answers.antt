use Rattle.cord_types.specs.HeldTexts.{stated_as_held}
use Rattle.cord_session.proofs.Resuming.{may_be_taken, not_taken}
use Rattle.cord_session.proofs.images.cord_session_resume.Goals as goal

pub take_up-requires : goal.take_up-requires
take_up-requires c =
    may_be_taken c.args.image.now (stated_as_held c.args.sources.now) c.checked.new.verdict c.in-Some.image c.in-Some.ensures.judges c.in-Some.ensures.image

pub returns-in-Err : goal.returns-in-Err
returns-in-Err c =
    rw (c.take_number.ensures) (not_taken c.args.image.now (stated_as_held c.args.sources.now) c.args.session.now.slot.value c.checked.new.verdict c.in-Some.image c.in-Err.fault
    c.in-Some.ensures.image c.in-Some.ensures.judges c.in-Err.ensures.fault)
