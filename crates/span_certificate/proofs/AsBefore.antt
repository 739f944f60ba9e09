-- An answer that was given before holds again over bytes that agree with what the sources state, where the rows that it
-- rests on compare stated cells.
use Rattle.std.proofs.Common.{◌≡◌, ℕ, ◌+◌, ◌<◌, List, length, Option, refl, ap, subst, arith}
use Rattle.std.specs.Prelude.{◌↔◌}
use Rattle.function_leaf.specs.declared.coded.Coded.{Coded}
use Rattle.rope_node.specs.declared.node.NodeId.{NodeId}
use Rattle.rope_node.specs.Table.{Table, IsSound, HasTrueRecords}
use Rattle.lazy_file.specs.SourceTexts.{Agrees, Stated}
use Rattle.cord_position.specs.Fetched.{AreStated}
use Rattle.span_certificate.specs.declared.cover.Verdict.{Verdict}
use Rattle.span_certificate.specs.declared.cover.Verdict.TheVariants.{Good, Bad}
use Rattle.command_parts.specs.declared.part.Part.{Part}
use Rattle.span_certificate.specs.declared.row.Row.{Row}
use Rattle.command_parts.specs.Parts.{AreParts}
use Rattle.span_certificate.specs.Covers.{row_at, place_of, row_compares, Covers, CoversBy, IsFirstBad, SameOver}
use Rattle.span_certificate.specs.Verdicts.{SameStated, TellsRows}
use Rattle.span_certificate.proofs.MadeRows.{row_may, row_over}
use Rattle.span_certificate.proofs.Verdicts.{AreStatedRows, not_both, one_first}

-- over these bytes of the sources: Good exactly where the rows cover, Bad j exactly for the first bad row
pub record IsVerdict (t : Table) (coded : ℕ → Coded) (source : ℕ → ℕ → ℕ) (parts : List Part) (root : Option NodeId) (rows : List Row) (v : Verdict) : Type 0 where
  pub good : (v ≡ Good) ↔ Covers t coded source parts root rows
  pub bad : (j : ℕ) → (v ≡ Bad j) ↔ IsFirstBad t coded source parts root rows j

-- how many rows an answer depends on
abbrev pub rows_judged : List Row → Verdict → ℕ
rows_judged rows Good = length rows
rows_judged rows (Bad j) = j + 1

abbrev pub AreStatedBefore : Table → Stated → List Part → Option NodeId → List Row → ℕ → Type 0
AreStatedBefore t st parts root rows n =
    (i : ℕ) → i < n → i < length rows → AreStated st (row_compares t parts root (place_of rows i) (row_at rows i))

module _ (t : Table) (s : IsSound t) (h : HasTrueRecords t) (coded : ℕ → Coded) (st : Stated) (parts : List Part) (are : AreParts t parts) (root : Option NodeId) (rows : List Row) (source : ℕ → ℕ → ℕ) (agrees : Agrees st source) where
  pub covers_over : AreStatedRows t st parts root rows → CoversBy t coded (SameStated st) parts root rows → Covers t coded source parts root rows
  covers_over stated c = record {
    fit = λ i lt. row_over t coded st source agrees s h parts are root (place_of rows i) (row_at rows i) (stated i lt) (c.fit i lt);
    whole_root = c.whole_root;
    whole_parts = c.whole_parts;
  }

  pub verdict_over : (v : Verdict) → AreStatedBefore t st parts root rows (rows_judged rows v) → TellsRows t coded st parts root rows v → IsVerdict t coded source parts root rows v
  verdict_over Good stated tells =
      let c = covers_over (λ i lt. stated i lt lt) tells in
      record {
        good = (λ _. c, λ _. refl);
        bad = λ i. (λ e. absurd cc, λ other. absurd (not_both t coded (SameOver source) (SameOver source) parts root rows i (λ k below lt fits. fits) c other));
      }
  verdict_over (Bad j) stated tells =
      let bad : IsFirstBad t coded source parts root rows j = record {
        before = λ i lt. let inside : i < length rows = omega (arith, tells.at_most) in
            row_over t coded st source agrees s h parts are root (place_of rows i) (row_at rows i) (stated i (omega arith) inside) (tells.before i lt);
        at_most = tells.at_most;
        unfit = λ lt fits. tells.unfit lt (row_may t coded st source agrees s h parts are root (place_of rows j) (row_at rows j) (stated j (omega arith) lt) fits);
        uncovered = tells.uncovered;
      } in
      record {
        good = (λ e. absurd cc, λ c. absurd (not_both t coded (SameOver source) (SameOver source) parts root rows j (λ k below lt fits. fits) c bad));
        bad = λ i. (
          λ e. let same : j ≡ i = cc in subst (IsFirstBad t coded source parts root rows) same bad,
          λ other. ap Bad (one_first t coded (SameOver source) (SameOver source) parts root rows j i (λ k below lt fits. fits) (λ k below lt fits. fits) bad other),
        );
      }
