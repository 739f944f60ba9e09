-- The origins of an image's texts in the image of a session that goes on from it.
use Rattle.std.proofs.Common.{◌≡◌, ℕ, zero, suc, ◌+◌, ◌-◌, ◌<◌, ◌≤◌, List, [], ◌∷◌, ◌++◌, map, length, take, Option, Some, refl, sym, ap, ◌∙◌, arith, take-suc}
use Rattle.std.specs.Prelude.{slice_get}
use Rattle.std.specs.Option.{option_map, unwrap_or}
use Rattle.std.specs.List.{range_with_len}
use Rattle.std.proofs.lemmas.List.{length-append, length-map, map-append}
use Rattle.std.proofs.lemmas.Option.{slice_get-map}
use Rattle.command_parts.specs.Commands.{FullEdit, Givens, full_edit, result_of}
use Rattle.edit_commands.specs.declared.revision.Revision as Kept
use Rattle.edit_commands.specs.Session.{IsSession, SessionValue, command_of}
use Rattle.edit_commands.proofs.RevisionLists.{there_is}
use Rattle.edit_commands.proofs.RevisionSplices.{says_over_all}
use Rattle.image_reader.specs.declared.revision.Revision.{Revision}
use Rattle.image_reader.specs.Value.{ImageValue}
use Rattle.image_reader.specs.Accepted.{command_at}
use Rattle.session_checker.specs.Faithful.{EachRevision, HasTrueRecordsOf, commands}
use Rattle.session_image.specs.Written.{image_of, recorded_revision, splices_in}
use Rattle.session_image.proofs.SameTables.{same_revision}
use Rattle.saved_session.specs.GoneFurther.{GoesFurther, IsTakenUp}
use Rattle.saved_session.proofs.SameTexts.{same_commands}
use Rattle.byte_origins.specs.declared.run.Brought.TheVariants.{Pool}
use Rattle.byte_origins.specs.declared.run.Origin.{Origin}
use Rattle.byte_origins.specs.Origins.{Traced, Earlier, Outside, origins_at, settled, traced_givens}
use Rattle.byte_origins.proofs.Lengths.{all_origins, command_there, length-all_origins, origins_step, result_there}
use Rattle.commit_tools.proofs.GrownResults.{grown, result_grown}
use Rattle.commit_tools.proofs.Results.{some_is}

-- ---- what is outside, where the pool grows

range_behind : (a m n : ℕ) → range_with_len a (m + n) ≡ range_with_len a m ++ range_with_len (a + m) n
range_behind a zero n =
    let none : 0 + n ≡ n = omega arith in
    let same : a ≡ a + 0 = omega arith in
    ap (range_with_len a) none ∙ ap (λ (j : ℕ). range_with_len j n) same
range_behind a (suc m) n =
    let one : suc m + n ≡ suc (m + n) = omega arith in
    let same : (a + 1) + m ≡ a + suc m = omega arith in
    ap (range_with_len a) one
    ∙ ap (λ (l : List ℕ). a ∷ l) (range_behind (a + 1) m n ∙ ap (λ (j : ℕ). range_with_len (a + 1) m ++ range_with_len j n) same)

abbrev outside : ℕ → Traced
outside a = Outside (Pool a)

givens_grown : (m n : ℕ) (sources : List ℕ) → traced_givens (m + n) sources ≡ grown (traced_givens m sources) (map outside (range_with_len (0 + m) n))
givens_grown m n sources =
    let given = traced_givens m sources in
    let pool : map outside (range_with_len 0 (m + n)) ≡ map outside (range_with_len 0 m) ++ map outside (range_with_len (0 + m) n) =
    ap (map outside) (range_behind 0 m n) ∙ map-append outside (range_with_len 0 m) (range_with_len (0 + m) n) in
    ap (λ (p : List Traced). record { pool = p; sources = given.sources; byte = given.byte }) pool

-- ---- an image that has more

-- an image has what another has, and maybe more
pub record HasMore (v w : ImageValue) : Type 0 where
  pub sources : w.sources ≡ v.sources
  pub pool : length v.pool ≤ length w.pool
  pub many : length v.revisions ≤ length w.revisions
  pub commands : EachRevision v (λ k. command_at w k ≡ command_at v k)

module _ (v w : ImageValue) (more : HasMore v w) (is : HasTrueRecordsOf v) where
  result_there_too : (k : ℕ) → (lt : k < length v.revisions) → take k (all_origins w) ≡ take k (all_origins v)
      → result_of (traced_givens (length w.pool) w.sources) (map (map Earlier) (take k (all_origins w))) (command_at w k) ≡ Some (result_there v is is.rules k lt).0
  result_there_too k lt before =
      let there = result_there v is is.rules k lt in
      let texts = map (map Earlier) (take k (all_origins v)) in
      let n : ℕ = length w.pool - length v.pool in
      let long : length w.pool ≡ length v.pool + n = omega (arith, more.pool) in
      ap (λ (l : List (List Origin)). result_of (traced_givens (length w.pool) w.sources) (map (map Earlier) l) (command_at w k)) before
      ∙ ap (result_of (traced_givens (length w.pool) w.sources) texts) (more.commands k lt)
      ∙ ap (λ (s : List ℕ). result_of (traced_givens (length w.pool) s) texts (command_at v k)) more.sources
      ∙ ap (λ (n : ℕ). result_of (traced_givens n v.sources) texts (command_at v k)) long
      ∙ ap (λ (g : Givens Traced). result_of g texts (command_at v k)) (givens_grown (length v.pool) n v.sources)
      ∙ result_grown (traced_givens (length v.pool) v.sources) (map outside (range_with_len (0 + length v.pool) n)) texts (command_at v k) there.0 there.1

  same_at : (k : ℕ) → k < length v.revisions → take k (all_origins w) ≡ take k (all_origins v) → origins_at w k ≡ origins_at v k
  same_at k lt before =
      let there = result_there v is is.rules k lt in
      origins_step w k (omega (arith, lt, more.many))
      ∙ ap (λ (o : Option (List Traced)). settled (length (take k (all_origins w))) 0 (unwrap_or o [])) (result_there_too k lt before)
      ∙ ap (λ (l : List (List Origin)). settled (length l) 0 there.0) before
      ∙ sym (origins_step v k lt ∙ ap (λ (o : Option (List Traced)). settled (length (take k (all_origins v))) 0 (unwrap_or o [])) there.1)

  same_before : (k : ℕ) → k ≤ length v.revisions → take k (all_origins w) ≡ take k (all_origins v)
  same_before zero le = refl
  same_before (suc k) le =
      let lt : k < length v.revisions = omega (arith, le) in
      let before = same_before k (omega (arith, le)) in
      take-suc (all_origins w) k [] (omega (arith, lt, more.many, length-all_origins w))
      ∙ ap (λ (l : List (List Origin)). l ++ origins_at w k ∷ []) before
      ∙ ap (λ (l : List Origin). take k (all_origins v) ++ l ∷ []) (same_at k lt before)
      ∙ sym (take-suc (all_origins v) k [] (omega (arith, lt, length-all_origins v)))

  -- so each text has the origins that it had
  pub earlier_origins : EachRevision v (λ k. origins_at w k ≡ origins_at v k)
  earlier_origins k lt = same_at k lt (same_before k (omega (arith, lt)))

-- ---- the image of a session

-- a command stands there as it was made
pub command_made : (s : SessionValue) (k : ℕ) (r : Kept.Revision) → IsSession s → slice_get s.revisions k ≡ Some r → command_at (image_of s) k ≡ command_of r
command_made s k r is at =
    ap (λ (x : Revision). full_edit (splices_in s.revisions) x.edit) (same_revision s.revisions k r at)
    ∙ says_over_all s.revisions k r at (is.each k r at).certified.names

-- what stands in a list stands in a longer one
pub found_in : {X : Type 0} (xs more : List X) (k : ℕ) (x : X) → slice_get xs k ≡ Some x → slice_get (xs ++ more) k ≡ Some x
found_in [] more k x e = absurd cc
found_in (y ∷ xs) more zero x e = e
found_in (y ∷ xs) more (suc k) x e = found_in xs more k x e

-- a session that goes further than that of an image has more than it
pub has_more : (v : ImageValue) (begun made : SessionValue) → IsTakenUp v begun → IsSession made → GoesFurther begun made → HasMore v (image_of made)
has_more v begun made from is further =
    let takes = from.takes in
    let counts : length begun.revisions ≡ length v.revisions =
    sym (length-map begun.revisions command_of) ∙ ap (λ (l : List FullEdit). length l) (same_commands v begun from.session takes) ∙ length-map v.revisions (λ (r : Revision). full_edit v.splices r.edit) in
    record {
      sources = further.keeps.goes_on.sources ∙ takes.sources;
      pool = omega (arith, further.keeps.goes_on.kept.more_pool, ap (λ (l : List ℕ). length l) takes.pool);
      many = omega (arith, counts, length-map made.revisions recorded_revision, ap (λ (l : List Kept.Revision). length l) further.revisions, length-append begun.revisions further.more);
      commands = λ k lt.
          let found = there_is begun.revisions k (omega (arith, lt, counts)) in
          let there : slice_get (commands v) k ≡ Some (command_of found.0) =
          ap (λ (l : List FullEdit). slice_get l k) (sym (same_commands v begun from.session takes)) ∙ slice_get-map command_of begun.revisions k ∙ ap (option_map command_of) found.1 in
          command_made made k found.0 is (ap (λ (l : List Kept.Revision). slice_get l k) further.revisions ∙ found_in begun.revisions further.more k found.0 found.1)
          ∙ some_is (command_of found.0) (command_at v k) (sym there ∙ command_there v k lt);
    }
