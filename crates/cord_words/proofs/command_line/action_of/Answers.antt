use Rattle.std.proofs.Common.{◌≡◌, IfErr, IfOk, codes, subst}
use Rattle.std.proofs.lemmas.Result.{IfErr-weaker}
use Rattle.clap.specs.Words.{found_of, rows_of}
use Rattle.cord_words.specs.declared.fault.WordsFault.TheVariants.{Memory}
use Rattle.cord_words.specs.Refusals.{FailsAs}
use Rattle.cord_words.specs.Words.{DiscardsAlone, Holds, LimitsACheck, NumbersRead, own_kinds}
use Rattle.cord_words.proofs.GivenLemmas.{given_as}
use Rattle.cord_words.proofs.command_line.action_of.Goals as goal

pub returns-in-Some-apply-default-clause-only_memory :
    goal.returns-in-Some-apply-default-clause-only_memory
returns-in-Some-apply-default-clause-only_memory c =
    let arm = c.in-Some-apply-default in
    let given = given_as c.args.matches.now arm.field-0-0.now (codes "apply") (rows_of (found_of arm.given.now)) arm.is-apply arm.ensures.name arm.ensures.rows in
    subst (λ o. IfErr c.action-in-Some-apply-default.result (λ f. NumbersRead o → DiscardsAlone o → LimitsACheck o → f ≡ Memory)) given
    (IfErr-weaker c.action-in-Some-apply-default.result _ _ (λ f h read alone limits. h read limits) c.action-in-Some-apply-default.ensures.only_memory)

pub returns-in-Some-commit-default-clause-holds : goal.returns-in-Some-commit-default-clause-holds
returns-in-Some-commit-default-clause-holds c =
    let arm = c.in-Some-commit-default in
    let given = given_as c.args.matches.now arm.field-0-0.now (codes "commit") (rows_of (found_of arm.given.now)) arm.is-commit arm.ensures.name arm.ensures.rows in
    subst (λ o. IfOk c.action-in-Some-commit-default.result (Holds o)) given c.action-in-Some-commit-default.ensures.holds

pub returns-in-Some-commit-default-clause-only_memory :
    goal.returns-in-Some-commit-default-clause-only_memory
returns-in-Some-commit-default-clause-only_memory c =
    let arm = c.in-Some-commit-default in
    let given = given_as c.args.matches.now arm.field-0-0.now (codes "commit") (rows_of (found_of arm.given.now)) arm.is-commit arm.ensures.name arm.ensures.rows in
    subst (λ o. IfErr c.action-in-Some-commit-default.result (λ f. NumbersRead o → DiscardsAlone o → LimitsACheck o → f ≡ Memory)) given
    (IfErr-weaker c.action-in-Some-commit-default.result _ _ (λ f h read alone limits. h read) c.action-in-Some-commit-default.ensures.only_memory)

pub returns-in-Some-commit-default-clause-kind : goal.returns-in-Some-commit-default-clause-kind
returns-in-Some-commit-default-clause-kind c =
    let arm = c.in-Some-commit-default in
    let given = given_as c.args.matches.now arm.field-0-0.now (codes "commit") (rows_of (found_of arm.given.now)) arm.is-commit arm.ensures.name arm.ensures.rows in
    subst (λ o. IfErr c.action-in-Some-commit-default.result (FailsAs (own_kinds o))) given c.action-in-Some-commit-default.ensures.kind

pub returns-in-Some-restore-default-clause-holds : goal.returns-in-Some-restore-default-clause-holds
returns-in-Some-restore-default-clause-holds c =
    let arm = c.in-Some-restore-default in
    let given = given_as c.args.matches.now arm.field-0-0.now (codes "restore") (rows_of (found_of arm.given.now)) arm.is-restore arm.ensures.name arm.ensures.rows in
    subst (λ o. IfOk c.action-in-Some-restore-default.result (Holds o)) given c.action-in-Some-restore-default.ensures.holds

pub returns-in-Some-restore-default-clause-only_memory :
    goal.returns-in-Some-restore-default-clause-only_memory
returns-in-Some-restore-default-clause-only_memory c =
    let arm = c.in-Some-restore-default in
    let given = given_as c.args.matches.now arm.field-0-0.now (codes "restore") (rows_of (found_of arm.given.now)) arm.is-restore arm.ensures.name arm.ensures.rows in
    subst (λ o. IfErr c.action-in-Some-restore-default.result (λ f. NumbersRead o → DiscardsAlone o → LimitsACheck o → f ≡ Memory)) given
    (IfErr-weaker c.action-in-Some-restore-default.result _ _ (λ f h read alone limits. h read) c.action-in-Some-restore-default.ensures.only_memory)

pub returns-in-Some-restore-default-clause-kind : goal.returns-in-Some-restore-default-clause-kind
returns-in-Some-restore-default-clause-kind c =
    let arm = c.in-Some-restore-default in
    let given = given_as c.args.matches.now arm.field-0-0.now (codes "restore") (rows_of (found_of arm.given.now)) arm.is-restore arm.ensures.name arm.ensures.rows in
    subst (λ o. IfErr c.action-in-Some-restore-default.result (FailsAs (own_kinds o))) given c.action-in-Some-restore-default.ensures.kind

pub returns-in-Some-serve-default-clause-holds : goal.returns-in-Some-serve-default-clause-holds
returns-in-Some-serve-default-clause-holds c =
    let arm = c.in-Some-serve-default in
    let given = given_as c.args.matches.now arm.field-0-0.now (codes "serve") (rows_of (found_of arm.given.now)) arm.is-serve arm.ensures.name arm.ensures.rows in
    subst (λ o. IfOk c.action-in-Some-serve-default.result (Holds o)) given c.action-in-Some-serve-default.ensures.holds

pub returns-in-Some-serve-default-clause-only_memory :
    goal.returns-in-Some-serve-default-clause-only_memory
returns-in-Some-serve-default-clause-only_memory c =
    let arm = c.in-Some-serve-default in
    let given = given_as c.args.matches.now arm.field-0-0.now (codes "serve") (rows_of (found_of arm.given.now)) arm.is-serve arm.ensures.name arm.ensures.rows in
    subst (λ o. IfErr c.action-in-Some-serve-default.result (λ f. NumbersRead o → DiscardsAlone o → LimitsACheck o → f ≡ Memory)) given
    (IfErr-weaker c.action-in-Some-serve-default.result _ _ (λ f h read alone limits. h read) c.action-in-Some-serve-default.ensures.only_memory)

pub returns-in-Some-serve-default-clause-kind : goal.returns-in-Some-serve-default-clause-kind
returns-in-Some-serve-default-clause-kind c =
    let arm = c.in-Some-serve-default in
    let given = given_as c.args.matches.now arm.field-0-0.now (codes "serve") (rows_of (found_of arm.given.now)) arm.is-serve arm.ensures.name arm.ensures.rows in
    subst (λ o. IfErr c.action-in-Some-serve-default.result (FailsAs (own_kinds o))) given c.action-in-Some-serve-default.ensures.kind
