-- A session that takes lines goes further.
use Rattle.std.proofs.Common.{◌≡◌, ℕ, ◌+◌, List, [], ◌∷◌, Result, Ok, Err, sym, subst, ◌∙◌, inl, inr}
use Rattle.edit_commands.specs.Session.{SessionValue}
use Rattle.edit_script.specs.declared.fault.Stopped.{Stopped}
use Rattle.edit_script.specs.Applied.{TakesLines}
use Rattle.saved_session.specs.GoneFurther.{GoesFurther}
use Rattle.saved_session.proofs.FurtherSessions.{further_applied, further_itself, further_through}

pub lines_go_further : (old : SessionValue) (k : ℕ) (lines : List (List ℕ)) (result : Result (Unit {0}) Stopped) (new : SessionValue)
    → result ≡ Ok tt → TakesLines old k lines result new → GoesFurther old new
lines_go_further old k [] result new ok t = subst (GoesFurther old) (sym t.1) (further_itself old)
lines_go_further old k (line ∷ lines) result new ok (inr t) = let no : Ok tt ≡ Err (record { line = k + 1; why = t.0 }) = sym ok ∙ t.2 in absurd cc
lines_go_further old k (line ∷ lines) result new ok (inl (mid, inl blank, rest)) =
    subst (λ (v : SessionValue). GoesFurther v new) blank.1 (lines_go_further mid (k + 1) lines result new ok rest)
lines_go_further old k (line ∷ lines) result new ok (inl (mid, inr t, rest)) =
    further_through (further_applied t.3.applies) (lines_go_further mid (k + 1) lines result new ok rest)
