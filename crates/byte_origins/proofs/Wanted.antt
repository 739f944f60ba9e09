-- The stretch that is looked at first is the part of the text that is wanted.
use Rattle.std.proofs.Common.{◌≡◌, ℕ, ◌-◌, ◌<◌, ◌≤◌, min, List, [], ◌∷◌, length, take, drop, refl, sym, ap, ◌∙◌, arith, inl, inr}
use Rattle.std.proofs.lemmas.Bool.{cases_lt}
use Rattle.std.proofs.lemmas.List.{length-take, length-drop, take_all}
use Rattle.rope_node.proofs.Ropes.{rope_short}
use Rattle.image_reader.specs.Value.{ImageValue, image_table}
use Rattle.image_reader.specs.Accepted.{revision_at}
use Rattle.session_checker.specs.Faithful.{HasTrueRecordsOf}
use Rattle.byte_origins.specs.declared.run.Origin.{Origin}
use Rattle.byte_origins.specs.Origins.{origins_at}
use Rattle.byte_origins.proofs.Lengths.{as_long}

pub wanted_some : (os : List Origin) (all start count len : ℕ) → length os ≡ all → len ≡ min count (all - start) → take len (drop start os) ≡ take count (drop start os)
wanted_some os all start count len whole least =
    elim (cases_lt (all - start) count) [
      | inl past ↦
          let here : length (drop start os) ≡ all - start = omega (arith, length-drop start os, whole) in
          take_all len (drop start os) (omega (arith, here, least, past)) ∙ sym (take_all count (drop start os) (omega (arith, here, past)))
      | inr within ↦ let same : len ≡ count = omega (arith, least, within) in ap (λ (n : ℕ). take n (drop start os)) same
    ]

pub wanted_none : (os : List Origin) (all start count : ℕ) → length os ≡ all → count ≤ 0 → [] ≡ take count (drop start os)
wanted_none os all start count whole none = nothing (take count (drop start os)) (omega (arith, length-take count (drop start os), none))
  where
    nothing : (xs : List Origin) → length xs ≡ 0 → [] ≡ xs
    nothing [] e = refl
    nothing (x ∷ xs) e = absurd (omega (arith, e))

pub wanted_past : (os : List Origin) (all start count : ℕ) → length os ≡ all → all ≤ start → [] ≡ take count (drop start os)
wanted_past os all start count whole past = nothing (take count (drop start os)) (omega (arith, length-take count (drop start os), length-drop start os, whole, past))
  where
    nothing : (xs : List Origin) → length xs ≡ 0 → [] ≡ xs
    nothing [] e = refl
    nothing (x ∷ xs) e = absurd (omega (arith, e))

-- they are as few as a text may have bytes
pub wanted_few : (v : ImageValue) (k start count : ℕ) → HasTrueRecordsOf v → k < length v.revisions → length (take count (drop start (origins_at v k))) < 18446744073709551616
wanted_few v k start count true_records lt =
    let os = origins_at v k in
    let long = as_long v true_records true_records.rules k lt in
    let short = rope_short (image_table v) true_records.sound (revision_at v k).root (true_records.roots k lt) in
    omega (arith, long, short, length-take count (drop start os), length-drop start os)
