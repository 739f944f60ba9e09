-- The byte at a place of a revision's text is the byte of the leaf that holds the place.
use Rattle.std.proofs.Common.{true, Option, ◌≡◌, ℕ, zero, suc, ◌<◌, ◌≤◌, List, [], ◌∷◌, length, map, get_or, Some, None, refl, sym, ap, subst, ◌∙◌}
use Rattle.std.specs.Prelude.{slice_get, Result, Ok, Err, IfOk}
use Rattle.std.proofs.lemmas.List.{length-map, get_or_past}
use Rattle.rope_node.specs.declared.node.NodeId.{NodeId}
use Rattle.rope_node.specs.Denotes.{rope_len, IsRope, cells, rope_cells, cell_byte, text}
use Rattle.lazy_file.specs.SourceTexts.{Stated}
use Rattle.cord_position.specs.Fetched.{IsFetched, IsReadable}
use Rattle.cord_position.proofs.Spans.{own_readable}
use Rattle.image_reader.specs.declared.revision.Revision.{Revision}
use Rattle.image_reader.specs.Value.{ImageValue, image_table}
use Rattle.image_reader.specs.Accepted.{HasSources, no_revision, revision_at}
use Rattle.session_checker.specs.Faithful.{fetched_cell, revision_text, IsFetchedOf, HasTrueRecordsOf}

-- the text of a revision is that of its root
pub text_of_root : (v : ImageValue) (source : ℕ → ℕ → ℕ) (k : ℕ) → revision_text v source k ≡ text source (rope_cells (image_table v) (revision_at v k).root)
text_of_root v source k = by_revisions v.revisions k
  where
    f : Revision → List ℕ
    f r = text source (rope_cells (image_table v) r.root)

    by_revisions : (rs : List Revision) (k : ℕ) → get_or (map f rs) k [] ≡ f (get_or rs k no_revision)
    by_revisions [] k = refl
    by_revisions (r ∷ rs) zero = refl
    by_revisions (r ∷ rs) (suc k) = by_revisions rs k

-- past the last revision there is no text
pub no_revision_past : (v : ImageValue) (k : ℕ) → length v.revisions ≤ k → (revision_at v k).root ≡ None
no_revision_past v k past = ap (λ (r : Revision). r.root) (get_or_past v.revisions k no_revision past)

-- a revision's text is as long as its root
pub length-revision_text : (v : ImageValue) → HasTrueRecordsOf v → (source : ℕ → ℕ → ℕ) (k : ℕ) → k < length v.revisions → length (revision_text v source k) ≡ rope_len (image_table v) (revision_at v k).root
length-revision_text v true_of source k lt =
    rw (text_of_root v source k) (by_root (revision_at v k).root (true_of.roots k lt))
  where
    by_root : (root : Option NodeId) → IsRope (image_table v) root → length (text source (rope_cells (image_table v) root)) ≡ rope_len (image_table v) root
    by_root None rope = refl
    by_root (Some id) rope = length-map (cells (image_table v) id.0) (cell_byte source) ∙ true_of.lengths id.0 rope

-- each byte of an accepted image is readable over sources that never fail and are as many and as long as it says
pub readable_of : (v : ImageValue) → HasTrueRecordsOf v → (st : Stated) → st.never_fails ≡ true → HasSources v st.sizes → (k i : ℕ) → k < length v.revisions → IsReadable st (fetched_cell v k i)
readable_of v true_of st never own k i lt =
    own_readable (image_table v) true_of.sound st (record { never_fails = never; sizes = sym own }) (revision_at v k).root (true_of.roots k lt) i

-- what is fetched of a revision's root is fetched of its text
pub fetched_text : {E : Type 0} (v : ImageValue) (stated : Stated) (k i : ℕ) (root : Option NodeId) (r : Result (Option ℕ × ℕ) E) → root ≡ (revision_at v k).root → IfOk r (λ x. IsFetched (image_table v) stated root i x.0) → IfOk r (λ x. IsFetchedOf v stated k i x.0)
fetched_text v stated k i root (Ok x) is h =
    λ source agrees held. subst (λ (node : Option NodeId). IsFetched (image_table v) stated node i x.0) is h source agrees held ∙ ap (λ (t : List ℕ). slice_get t i) (sym (text_of_root v source k))
fetched_text v stated k i root (Err e) is h = tt
