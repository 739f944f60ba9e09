use Rattle.screen_editor.proofs.KeptKeys.{ended_kept, going_kept}
use Rattle.screen_editor.proofs.laws.kept_keys.Goals as goal

pub returns-clause-going : goal.returns-clause-going
returns-clause-going c = λ keys on. going_kept keys on

pub returns-clause-ended : goal.returns-clause-ended
returns-clause-ended c = λ before last on ends. ended_kept before last on ends
