use Rattle.std.proofs.Common.{subst, sym}
use Rattle.clap.specs.Words.{fault_of}
use Rattle.clap.proofs.TakesLemmas.{passed_up}
use Rattle.cord_words.specs.Words.{DiscardsAlone, IsKnown, LimitsACheck, NumbersRead, command_line_texts, cordkit_app}
use Rattle.cord_words.proofs.LineLemmas.{known_given}
use Rattle.cord_words.proofs.RefusalLemmas.{fails_first}
use Rattle.cord_words.proofs.command_line.words.Goals as goal

pub returns-in_err-matches-clause-kinds : goal.returns-in_err-matches-clause-kinds
returns-in_err-matches-clause-kinds c =
    passed_up c.from_residual-in_err-matches.result _ _ c.from_residual-in_err-matches.ensures.1
    (fails_first (fault_of cordkit_app (command_line_texts c.args.words.now)) _ c.in_err-matches.field-0.0 c.in_err-matches.ensures.kinds)

pub returns-in_err-matches-clause-only_memory : goal.returns-in_err-matches-clause-only_memory
returns-in_err-matches-clause-only_memory c =
    passed_up c.from_residual-in_err-matches.result _ _ c.from_residual-in_err-matches.ensures.1
    (λ taken read alone limits. c.in_err-matches.ensures.only_memory taken)

pub asked-requires : goal.asked-requires
asked-requires c = subst IsKnown (sym c.in_ok-matches.ensures.rows) (known_given (command_line_texts c.args.words.now) c.in_ok-matches.ensures.faultless)

pub returns-in_err-action-clause-only_memory : goal.returns-in_err-action-clause-only_memory
returns-in_err-action-clause-only_memory c =
    passed_up c.from_residual-in_err-action.result _ _ c.from_residual-in_err-action.ensures.1
    (λ taken read alone limits. c.in_err-action.ensures.only_memory (subst NumbersRead (sym c.in_ok-matches.ensures.rows) read)
    (subst DiscardsAlone (sym c.in_ok-matches.ensures.rows) alone) (subst LimitsACheck (sym c.in_ok-matches.ensures.rows) limits))
