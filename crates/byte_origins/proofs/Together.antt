-- Bytes that came in together, step by step back.
use Rattle.std.proofs.Common.{◌≡◌, ℕ, ◌+◌, ◌<◌, ◌≤◌, length, Option, Some, None, refl, subst, arith}
use Rattle.std.specs.Option.{option_map}
use Rattle.std.proofs.lemmas.Option.{same_Some}
use Rattle.command_parts.specs.declared.part.Part.{Part}
use Rattle.command_parts.specs.Parts.{part_at}
use Rattle.image_reader.specs.Value.{ImageValue}
use Rattle.image_reader.specs.Accepted.{KeepsRules}
use Rattle.session_checker.specs.Faithful.{HasTrueRecordsOf, EachRevision}
use Rattle.byte_origins.specs.declared.run.OriginRun.{OriginRun}
use Rattle.byte_origins.specs.declared.taking.CameFrom.{CameFrom}
use Rattle.byte_origins.specs.declared.taking.CameFrom.TheVariants.{FromText, Run}
use Rattle.byte_origins.specs.EarlierTexts.{len_of_text, texts_parts}
use Rattle.byte_origins.specs.StepsBack.{CameTogether, in_run, in_text, IsStepBack, came_len, step_back, taken_of}
use Rattle.byte_origins.proofs.TakenParts.{taken_is}

-- a step to an earlier text: there they came in together too
pub together_in_text : {v : ImageValue} {n k place : ℕ} (j p m : ℕ) → CameTogether v n k place → step_back v k place ≡ Some (FromText j p m) → (n ≤ m) × CameTogether v n j p
together_in_text j p m (in_run run e le) is = absurd cc
together_in_text {v} {n} j p m (in_text j' p' m' e le more) is =
    let same_j : j' ≡ j = cc in
    let same_p : p' ≡ p = cc in
    let same_m : m' ≡ m = cc in (
      subst (λ (x : ℕ). n ≤ x) same_m le,
      subst (λ (x : ℕ). CameTogether v n x p) same_j (subst (λ (x : ℕ). CameTogether v n j' x) same_p more),
    )

-- a step to what the command brought
pub together_in_run : {v : ImageValue} {n k place : ℕ} (run : OriginRun) → CameTogether v n k place → step_back v k place ≡ Some (Run run) → n ≤ run.len
together_in_run {v} {n} run (in_run run' e le) is =
    let same : run' ≡ run = cc in
    subst (λ (x : OriginRun). n ≤ x.len) same le
together_in_run run (in_text j p m e le more) is = absurd cc

module _ (v : ImageValue) (is : HasTrueRecordsOf v) (rules : EachRevision v (KeepsRules v)) where
  -- what a step back tells
  pub step_is : (k place : ℕ) (came : CameFrom) → k < length v.revisions → step_back v k place ≡ Some came → IsStepBack v k place came
  step_is k place came there = by_part (part_at (texts_parts v k) place) refl
    where
      by_part : (o : Option (Part × ℕ)) → part_at (texts_parts v k) place ≡ o → option_map (λ (x : Part × ℕ). taken_of k place x.0 x.1) o ≡ Some came → IsStepBack v k place came
      by_part None at e = absurd cc
      by_part (Some (part, off)) at e = subst (IsStepBack v k place) (same_Some (taken_of k place part off) came e) (taken_is v is rules k there place part off at)

  step_fits : (k place : ℕ) (came : CameFrom) → IsStepBack v k place came → place + came_len came ≤ len_of_text v k
  step_fits k place (FromText j p n) step = step.fits
  step_fits k place (Run run) step = step.fits

  -- they stand in the text
  pub together_fits : {n k place : ℕ} → k < length v.revisions → CameTogether v n k place → place + n ≤ len_of_text v k
  together_fits {n} {k} {place} there (in_run run e le) = let fits = step_fits k place (Run run) (step_is k place (Run run) there e) in omega (arith, fits, le)
  together_fits {n} {k} {place} there (in_text j p m e le more) = let fits = step_fits k place (FromText j p m) (step_is k place (FromText j p m) there e) in omega (arith, fits, le)
