-- A text has as many origins as its root is long.
use Rattle.std.proofs.Common.{◌≡◌, ℕ, zero, suc, ◌+◌, ◌<◌, ◌≤◌, List, [], ◌∷◌, ◌++◌, map, length, take, get_or, Option, Some, None, refl, sym, ap, ◌∙◌, arith, take-suc}
use Rattle.std.specs.Prelude.{slice_get}
use Rattle.std.specs.List.{range_with_len}
use Rattle.std.specs.Option.{unwrap_or, option_map}
use Rattle.std.proofs.lemmas.List.{length-map, map-append}
use Rattle.std.proofs.lemmas.List.FromFn.{length-range_with_len}
use Rattle.std.proofs.lemmas.Simd.{map-map}
use Rattle.std.proofs.lemmas.Option.{slice_get-map, slice_get-get_or, same_Some, none-some}
use Rattle.rope_node.specs.declared.node.NodeId.{NodeId}
use Rattle.rope_node.specs.Table.{Table, IsSound, HasTrueRecords}
use Rattle.rope_node.specs.Denotes.{Cell, Place, rope_cells, rope_len}
use Rattle.rope_node.proofs.Parts.{map_alike}
use Rattle.rope_node.proofs.Ropes.{rope_length}
use Rattle.command_parts.specs.Commands.{FullEdit, full_edit, result_of}
use Rattle.command_parts.specs.Parts.{parts_len, AreRopes, givens_of}
use Rattle.command_parts.proofs.Joined.{parts_joined}
use Rattle.command_parts.proofs.PartsInRange.{parts_in_range}
use Rattle.span_certificate.proofs.Covering.{length-parts_cells}
use Rattle.command_parts.proofs.AlikeLengths.{lengths_alike}
use Rattle.image_reader.specs.declared.revision.Revision.{Revision}
use Rattle.image_reader.specs.Value.{ImageValue, image_table}
use Rattle.image_reader.specs.Accepted.{no_revision, revision_at, command_at, roots_before, parts_at, KeepsRules}
use Rattle.session_checker.specs.Faithful.{commands, HasTrueRecordsOf, EachRevision}
use Rattle.session_checker.proofs.EarlierRevisions.{earlier_ropes}
use Rattle.byte_origins.specs.declared.run.Brought.TheVariants.{Source}
use Rattle.byte_origins.specs.declared.run.Origin.{Origin}
use Rattle.byte_origins.specs.Origins.{Traced, Earlier, Outside, traced_givens, origins_of, origins_from, origins_at}
use Rattle.byte_origins.proofs.Steps.{length-settled, length-origins_from, from_at}

-- the origins of all texts
abbrev pub all_origins : ImageValue → List (List Origin)
all_origins v = origins_from (length v.pool) v.sources [] (commands v)

-- what the commands of an image give over the origins of the texts before revision k
abbrev pub traced_result : ImageValue → ℕ → Option (List Traced)
traced_result v k = result_of (traced_givens (length v.pool) v.sources) (map (map Earlier) (take k (all_origins v))) (command_at v k)

pub command_there : (v : ImageValue) (k : ℕ) → k < length v.revisions → slice_get (commands v) k ≡ Some (command_at v k)
command_there v k lt =
    let f : Revision → FullEdit = λ (r : Revision). full_edit v.splices r.edit in
    slice_get-map f v.revisions k ∙ ap (option_map f) (slice_get-get_or v.revisions k no_revision lt)

pub origins_step : (v : ImageValue) (k : ℕ) → k < length v.revisions → origins_at v k ≡ origins_of (length v.pool) v.sources (take k (all_origins v)) (command_at v k)
origins_step v k lt =
    let n : 0 + k ≡ k = omega arith in
    ap (λ (j : ℕ). get_or (all_origins v) j []) (sym n)
    ∙ from_at (length v.pool) v.sources [] (commands v) k (command_at v k) (command_there v k lt)
    ∙ ap (λ (j : ℕ). origins_of (length v.pool) v.sources (take j (all_origins v)) (command_at v k)) n

pub length-all_origins : (v : ImageValue) → length (all_origins v) ≡ length v.revisions
length-all_origins v = omega (arith, length-origins_from (length v.pool) v.sources [] (commands v), length-map v.revisions (λ (r : Revision). full_edit v.splices r.edit))

-- what is outside is as long over origins as over cells
module _ (t : Table) where
  pool_alike : length (traced_givens (length t.pool) t.sources).pool ≡ length (givens_of t).pool
  pool_alike = rw (length-map, length-range_with_len, length-map) refl

  sources_alike : map (λ (l : List Traced). length l) (traced_givens (length t.pool) t.sources).sources ≡ map (λ (l : List Cell). length l) (givens_of t).sources
  sources_alike =
      let each = range_with_len 0 (length t.sources) in
      let traced : ℕ → List Traced = λ s. map (λ p. Outside (Source s p)) (range_with_len 0 (get_or t.sources s 0)) in
      let cells : ℕ → List Cell = λ s. map (Place s) (range_with_len 0 (get_or t.sources s 0)) in
      let one : (s : ℕ) → length (traced s) ≡ length (cells s) = λ s. length-map (range_with_len 0 (get_or t.sources s 0)) (λ p. Outside (Source s p)) ∙ sym (length-map (range_with_len 0 (get_or t.sources s 0)) (Place s)) in
      map-map (λ (l : List Traced). length l) traced each
      ∙ map_alike (λ s. length (traced s)) (λ s. length (cells s)) one each
      ∙ sym (map-map (λ (l : List Cell). length l) cells each)

-- the lengths of the roots before k, as of their cells
pub root_lens : (t : Table) → IsSound t → HasTrueRecords t → (roots : List (Option NodeId)) → AreRopes t roots → map (λ (l : List Cell). length l) (map (rope_cells t) roots) ≡ map (rope_len t) roots
root_lens t s h [] ropes = refl
root_lens t s h (x ∷ roots) ropes =
    rw (rope_length t s h x (ropes 0 (omega arith)), root_lens t s h roots (λ r lt. ropes (suc r) (omega (arith, lt)))) refl

earlier_lens : (xss : List (List Origin)) → map (λ (l : List Traced). length l) (map (map Earlier) xss) ≡ map (λ (l : List Origin). length l) xss
earlier_lens [] = refl
earlier_lens (xs ∷ xss) = rw (length-map xs Earlier, earlier_lens xss) refl

some_of : (o : Option (List Traced)) (n : ℕ) → option_map (λ (l : List Traced). length l) o ≡ Some n → length (unwrap_or o []) ≡ n
some_of None n e = absurd (none-some n e)
some_of (Some xs) n e = same_Some (length xs) n e

there_of : (o : Option (List Traced)) (n : ℕ) → option_map (λ (l : List Traced). length l) o ≡ Some n → (xs : List Traced) × (o ≡ Some xs)
there_of None n e = absurd (none-some n e)
there_of (Some xs) n e = (xs, refl)

module _ (v : ImageValue) (true_records : HasTrueRecordsOf v) (rules : EachRevision v (KeepsRules v)) where
  ropes_before : (k : ℕ) → k ≤ length v.revisions → AreRopes (image_table v) (roots_before v k)
  ropes_before k le = earlier_ropes v k (λ c lt. true_records.roots c (omega (arith, lt, le)))

  -- where the texts before k are as long as their roots, its command gives as many things as its parts are long
  long_result : (k : ℕ) → k < length v.revisions → map (λ (l : List Origin). length l) (take k (all_origins v)) ≡ map (rope_len (image_table v)) (roots_before v k)
      → option_map (λ (l : List Traced). length l) (traced_result v k) ≡ Some (parts_len (parts_at v k))
  long_result k lt before =
      let t = image_table v in
      let s = true_records.sound in
      let h = true_records.true_records in
      let ropes = ropes_before k (omega (arith, lt)) in
      let range = (rules k lt).command in
      let alike = lengths_alike (traced_givens (length v.pool) v.sources) (givens_of t) (map (map Earlier) (take k (all_origins v))) (map (rope_cells t) (roots_before v k)) (command_at v k) record {
        pool = pool_alike t;
        sources = sources_alike t;
        texts = earlier_lens (take k (all_origins v)) ∙ before ∙ sym (root_lens t s h (roots_before v k) ropes);
      } in
      let joined = parts_joined t s h (roots_before v k) (command_at v k) ropes range in
      let long = length-parts_cells t s h (parts_at v k) (parts_in_range t (roots_before v k) (command_at v k) ropes range) in
      alike ∙ ap (option_map (λ (l : List Cell). length l)) joined ∙ ap Some long

  -- so text k is as long as its root
  next_long : (k : ℕ) → k < length v.revisions → map (λ (l : List Origin). length l) (take k (all_origins v)) ≡ map (rope_len (image_table v)) (roots_before v k) → length (origins_at v k) ≡ rope_len (image_table v) (revision_at v k).root
  next_long k lt before =
      ap (λ (l : List Origin). length l) (origins_step v k lt)
      ∙ length-settled (length (take k (all_origins v))) 0 (unwrap_or (traced_result v k) [])
      ∙ some_of (traced_result v k) (parts_len (parts_at v k)) (long_result k lt before)
      ∙ sym (rules k lt).root.1

  pub lens_before : (k : ℕ) → k ≤ length v.revisions → map (λ (l : List Origin). length l) (take k (all_origins v)) ≡ map (rope_len (image_table v)) (roots_before v k)
  lens_before zero le = refl
  lens_before (suc k) le =
      let lt : k < length v.revisions = omega (arith, le) in
      let before = lens_before k (omega (arith, le)) in
      let front = take-suc (all_origins v) k [] (omega (arith, lt, length-all_origins v)) in
      let roots = take-suc v.revisions k no_revision lt in
      ap (map (λ (l : List Origin). length l)) front
      ∙ map-append (λ (l : List Origin). length l) (take k (all_origins v)) (origins_at v k ∷ [])
      ∙ ap (λ (ns : List ℕ). ns ++ length (origins_at v k) ∷ []) before
      ∙ ap (λ (n : ℕ). map (rope_len (image_table v)) (roots_before v k) ++ n ∷ []) (next_long k lt before)
      ∙ sym (map-append (rope_len (image_table v)) (roots_before v k) ((revision_at v k).root ∷ []))
      ∙ ap (map (rope_len (image_table v))) (sym (map-append (λ (r : Revision). r.root) (take k v.revisions) (revision_at v k ∷ [])))
      ∙ ap (λ (rs : List Revision). map (rope_len (image_table v)) (map (λ (r : Revision). r.root) rs)) (sym roots)

  -- each text has as many origins as its root is long
  pub as_long : EachRevision v (λ k. length (origins_at v k) ≡ rope_len (image_table v) (revision_at v k).root)
  as_long k lt = next_long k lt (lens_before k (omega (arith, lt)))

  -- each command gives something
  pub result_there : (k : ℕ) → k < length v.revisions → (xs : List Traced) × (traced_result v k ≡ Some xs)
  result_there k lt = there_of (traced_result v k) (parts_len (parts_at v k)) (long_result k lt (lens_before k (omega (arith, lt))))
