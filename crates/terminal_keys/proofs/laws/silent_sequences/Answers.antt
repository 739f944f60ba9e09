use Rattle.terminal_keys.proofs.FormLaws.{escape_falls, string_belled, string_terminated}
use Rattle.terminal_keys.proofs.laws.silent_sequences.Goals as goal

pub returns-clause-belled : goal.returns-clause-belled
returns-clause-belled c = string_belled

pub returns-clause-terminated : goal.returns-clause-terminated
returns-clause-terminated c = string_terminated

pub returns-clause-escape : goal.returns-clause-escape
returns-clause-escape c = escape_falls
