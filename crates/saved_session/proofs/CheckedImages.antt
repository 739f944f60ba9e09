-- An image that the checker accepted keeps its rules.
use Rattle.std.proofs.Common.{◌≡◌, List, ℕ, sym, subst, ◌∙◌}
use Rattle.lazy_file.specs.SourceTexts.{Stated}
use Rattle.image_reader.specs.Value.{ImageValue, IsImage}
use Rattle.image_reader.specs.Spelling.{spelling}
use Rattle.session_checker.specs.Accepted.{IsAccepted}
use Rattle.session_checker.specs.RevisionRules.{AreGoodOver}
use Rattle.session_checker.proofs.ExactAnswers.{same_image}
use Rattle.saved_session.specs.TakenUp.{WasChecked}

pub was_checked : (bytes : List ℕ) (v : ImageValue) (st : Stated) → IsImage v → bytes ≡ spelling v → IsAccepted bytes st → WasChecked v
was_checked bytes v st image spelled accepted =
    let same : accepted.v ≡ v = same_image accepted.v v accepted.image image (sym accepted.spelled ∙ spelled) in
    (st, subst (λ (w : ImageValue). AreGoodOver w st) same accepted.revisions)
