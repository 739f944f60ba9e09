use Rattle.std.proofs.Common.{◌∙◌, ap, sym, subst}
use Rattle.cord_words.specs.Words.{command_line_texts}
use Rattle.clap.specs.Words.{App, HasKind, fault_of, is_simple, is_simple_and_free, matches_of, subcommand_of, takes}
use Rattle.clap.proofs.TakesLemmas.{passed_up}
use Rattle.cord_words.proofs.RefusalLemmas.{memory_from, fails_from}
use Rattle.cord_words.proofs.LineLemmas.{cordkit_is_simple, cordkit_is_free}
use Rattle.cord_words.proofs.command_line.matches_of.Goals as goal

pub returns-in_err-try_get_matches_from_mut-clause-only_memory :
    goal.returns-in_err-try_get_matches_from_mut-clause-only_memory
returns-in_err-try_get_matches_from_mut-clause-only_memory c =
    let words = command_line_texts c.args.words.now in
    passed_up c.from_residual.result _ _ c.from_residual.ensures.1
    (λ e. memory_from _ (c.in_err-try_get_matches_from_mut.ensures.passes (ap (λ a. takes a words) c.requires ∙ e)))

pub returns-in_err-try_get_matches_from_mut-clause-kinds :
    goal.returns-in_err-try_get_matches_from_mut-clause-kinds
returns-in_err-try_get_matches_from_mut-clause-kinds c =
    let words = command_line_texts c.args.words.now in
    let has = c.in_err-try_get_matches_from_mut.ensures.kinds (ap is_simple_and_free c.requires ∙ cordkit_is_free) in
    let e = c.in_err-try_get_matches_from_mut.field-0.0 in
    passed_up c.from_residual.result _ _ c.from_residual.ensures.1 (fails_from _ e (subst (λ (a : App). HasKind (fault_of a words) e) c.requires has))

pub returns-clause-rows : goal.returns-clause-rows
returns-clause-rows c =
    let words = command_line_texts c.args.words.now in
    (c.in_ok-try_get_matches_from_mut.ensures.ok.2 (ap is_simple c.requires ∙ cordkit_is_simple)).1 ∙ ap (λ a. subcommand_of a words) c.requires

pub returns-clause-own : goal.returns-clause-own
returns-clause-own c =
    let words = command_line_texts c.args.words.now in
    (c.in_ok-try_get_matches_from_mut.ensures.ok.2 (ap is_simple c.requires ∙ cordkit_is_simple)).0 ∙ ap (λ a. matches_of a words) c.requires

pub returns-clause-faultless : goal.returns-clause-faultless
returns-clause-faultless c =
    let words = command_line_texts c.args.words.now in
    ap (λ a. fault_of a words) (sym c.requires) ∙ c.in_ok-try_get_matches_from_mut.ensures.kinds (ap is_simple_and_free c.requires ∙ cordkit_is_free)
