-- An image in version 2 is accepted where it is in its own version, and has the same texts.
use Rattle.std.proofs.Common.{◌≡◌, ℕ, List, refl, sym, ap, subst, ◌∙◌}
use Rattle.lazy_file.specs.SourceTexts.{Stated}
use Rattle.image_reader.specs.Value.{ImageValue, IsImage, in_version_two}
use Rattle.image_reader.specs.Spelling.{spelling}
use Rattle.image_reader.specs.Accepted.{KeepsRules}
use Rattle.image_reader.proofs.Versions.{image_in_two}
use Rattle.session_checker.specs.Accepted.{HasGoodTables, IsAccepted}
use Rattle.session_checker.specs.RevisionRules.{AreGoodOver}
use Rattle.session_checker.specs.Faithful.{IsFaithful, texts}
use Rattle.session_checker.proofs.ExactAnswers.{same_image}
use Rattle.session_checker.proofs.FaithfulImages.{faithful}

rules_in_two : (v : ImageValue) (k : ℕ) → KeepsRules v k → KeepsRules (in_version_two v) k
rules_in_two v k rules = record { command = rules.command; root = rules.root; mark = rules.mark }

good_in_two : (v : ImageValue) (st : Stated) → AreGoodOver v st → AreGoodOver (in_version_two v) st
good_in_two v st good k lt = let g = good k lt in record { rules = rules_in_two v k g.rules; rows = g.rows }

pub accepted_in_two : (v : ImageValue) (st : Stated) → IsImage v → HasGoodTables v st.sizes → AreGoodOver v st → IsAccepted (spelling (in_version_two v)) st
accepted_in_two v st is tables good = record {
  v = in_version_two v;
  image = image_in_two v is;
  spelled = refl;
  tables = tables;
  revisions = good_in_two v st good;
}

-- so is the image that accepted bytes spell; and it is faithful
pub accepted_anew : (bytes : List ℕ) (v : ImageValue) (st : Stated) → IsImage v → bytes ≡ spelling v → IsAccepted bytes st → IsAccepted (spelling (in_version_two v)) st × IsFaithful (in_version_two v) st
accepted_anew bytes v st is spelled accepted =
    let same : accepted.v ≡ v = same_image accepted.v v accepted.image is (sym accepted.spelled ∙ spelled) in
    let tables : HasGoodTables v st.sizes = subst (λ (w : ImageValue). HasGoodTables w st.sizes) same accepted.tables in
    let good : AreGoodOver v st = subst (λ (w : ImageValue). AreGoodOver w st) same accepted.revisions in (
      accepted_in_two v st is tables good,
      faithful (in_version_two v) st (image_in_two v is) tables.1 (good_in_two v st good),
    )

pub texts_in_two : (v : ImageValue) (source : ℕ → ℕ → ℕ) → texts (in_version_two v) source ≡ texts v source
texts_in_two v source = refl
