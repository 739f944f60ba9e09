-- Which revision Undo goes back to, as the commands of a session say it.
use Rattle.std.specs.Prelude.{ℕ, List, [], ◌∷◌, ◌++◌, get_or, Option, Some, None}
use Rattle.command_parts.specs.declared.edit.Edit.{Edit}
use Rattle.command_parts.specs.declared.edit.Edit.TheVariants.{New, Open, Insert, Delete, Replace, Paste, Join, Cut, Fill, Back, Balance, Many}

-- the revision that a command names first, if it names one
abbrev pub made_from : Edit → Option ℕ
made_from New = None
made_from (Open s) = None
made_from (Insert r p a n) = Some r
made_from (Delete r p n) = Some r
made_from (Replace r p m a n) = Some r
made_from (Paste r p q i n) = Some r
made_from (Join r q) = Some r
made_from (Cut r i n) = Some r
made_from (Fill r p c n) = Some r
made_from (Back r) = Some r
made_from (Balance r) = Some r
made_from (Many r first count) = Some r

-- Behind revisions with these priors, that of the one that a command makes: the revision from which its text was made.
-- A text that stands again has the prior that it had.
abbrev pub prior_behind : List (Option ℕ) → Edit → Option ℕ
prior_behind priors (Back r) = get_or priors r None
prior_behind priors edit = made_from edit

-- those of these commands' revisions, behind revisions with these priors
abbrev pub priors_on : List (Option ℕ) → List Edit → List (Option ℕ)
priors_on before [] = before
priors_on before (e ∷ edits) = priors_on (before ++ prior_behind before e ∷ []) edits

-- those of all of a session's revisions
abbrev pub priors_of : List Edit → List (Option ℕ)
priors_of edits = priors_on [] edits
