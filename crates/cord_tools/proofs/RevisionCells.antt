-- What is told of the text of a revision's root is told of the revision.
use Rattle.std.proofs.Common.{◌≡◌, ℕ, List, length, Option, sym, ap, subst, ◌∙◌}
use Rattle.rope_node.specs.declared.node.NodeId.{NodeId}
use Rattle.rope_node.specs.Denotes.{rope_cells, rope_len, text}
use Rattle.lazy_file.specs.SourceTexts.{Stated}
use Rattle.cord_position.specs.Fetched.{AreStated, IsStated}
use Rattle.cord_position.proofs.Spans.{each_cell}
use Rattle.cord_search.specs.Stated.{OfText}
use Rattle.image_reader.specs.Value.{ImageValue, image_table}
use Rattle.session_checker.specs.declared.wanted.WantedRevision.{WantedRevision}
use Rattle.session_checker.specs.Wanted.{wanted_number}
use Rattle.session_checker.specs.Faithful.{IsRootOf, revision_text}
use Rattle.session_checker.proofs.RevisionTexts.{text_of_root}
use Rattle.cord_tools.specs.Answers.{OfRevision, wanted_in, revision_cells}

-- the root's cells are the revision's
pub root_cells : (v : ImageValue) (k r : ℕ) (root : Option NodeId) → IsRootOf v k root → k ≡ r → rope_cells (image_table v) root ≡ revision_cells v r
root_cells v k r root there at = ap (rope_cells (image_table v)) there.1 ∙ ap (revision_cells v) at

pub root_told : (v : ImageValue) (st : Stated) (k r : ℕ) (root : Option NodeId) (P : List ℕ → Type 0) → IsRootOf v k root → k ≡ r → OfText (image_table v) st root P → OfRevision v st r P
root_told v st k r root P there at told source agrees stated =
    let t = image_table v in
    let same = root_cells v k r root there at in
    let is : text source (rope_cells t root) ≡ revision_text v source r = ap (text source) same ∙ sym (text_of_root v source r) in
    subst P is (told source agrees (each_cell t root (IsStated st) tt (subst (AreStated st) (sym same) stated) 0 (rope_len t root)))

-- the number that is read off so many revisions
pub number_is : (w : WantedRevision) (v : ImageValue) (n count : ℕ) → n ≡ wanted_number w count → count ≡ length v.revisions → wanted_in w v ≡ n
number_is w v n count is same = ap (wanted_number w) (sym same) ∙ sym is
