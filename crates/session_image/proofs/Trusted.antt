-- The image of a session keeps the rules of acceptance, whatever its sources hold.
use Rattle.std.proofs.Common.{◌≡◌, ℕ, ◌<◌, List, length, take, drop, Option, Some, refl, sym, ap, subst, ◌∙◌, arith}
use Rattle.std.specs.Prelude.{◌↔◌, IsTrue, slice_get}
use Rattle.std.specs.List.{sum_by}
use Rattle.std.proofs.lemmas.List.{length-map}
use Rattle.function_leaf.specs.declared.coded.Coded.{Coded}
use Rattle.function_leaf.specs.Coded.{coded_byte}
use Rattle.function_leaf.specs.Optional.{answer_of, or_fill}
use Rattle.rope_node.specs.declared.node.NodeId.{NodeId}
use Rattle.rope_node.specs.Table.{Table, IsSound, HasTrueRecords}
use Rattle.node_table.specs.Held.{IsKept, held_coded}
use Rattle.span_certificate.specs.declared.row.Row.{Row}
use Rattle.command_parts.specs.Commands.{FullEdit, full_edit}
use Rattle.span_certificate.specs.Covers.{Covers, MeetsNoSource}
use Rattle.span_certificate.specs.Longest.{AreLongest}
use Rattle.rope_node.specs.Balance.{IsBalancedRope}
use Rattle.command_parts.specs.Parts.{parts_of, parts_len, IsInRange}
use Rattle.edit_commands.specs.declared.revision.Revision as Kept
use Rattle.edit_commands.specs.Session.{SessionValue, command_of, session_table, roots_of, rows_held, IsRevision, AreRevisions}
use Rattle.edit_commands.proofs.RevisionLists.{there_is}
use Rattle.edit_commands.proofs.RevisionSplices.{says_over_all}
use Rattle.image_reader.specs.declared.revision.Revision.{Revision}
use Rattle.image_reader.specs.Value.{ImageValue, image_table, coded_at}
use Rattle.image_reader.specs.Accepted.{AreGoodNodes, HasGoodMark, HasGoodRoot, command_at, revision_at, roots_before, rows_at, rows_before}
use Rattle.session_image.specs.Written.{AreAsMade, IsTrusted, image_of, recorded_revision, rows_in, splices_in}
use Rattle.session_image.proofs.SameTables.{same_counts, same_function, same_revision, same_roots, same_takes}
use Rattle.session_image.proofs.SameSections.{same_nodes, same_rows}

-- a revision with these rows behind these roots keeps the rules, over these bytes of the sources
record Keeps (t : Table) (coded : ℕ → Coded) (source : ℕ → ℕ → ℕ) (roots : List (Option NodeId)) (command : FullEdit) (r : Revision) (rows : List Row) : Type 0 where
  range : IsInRange t roots command
  root : HasGoodRoot t r.root (parts_len (parts_of t roots command))
  mark : HasGoodMark t r
  rows_cover : Covers t coded source (parts_of t roots command) r.root rows
  no_source : MeetsNoSource t (parts_of t roots command) r.root rows
  marked : IsTrue r.mark ↔ IsBalancedRope t r.root
  longest : AreLongest t (parts_of t roots command) r.root rows

-- a session's revision does
revision_keeps : (v : SessionValue) (source : ℕ → ℕ → ℕ) (before : List Kept.Revision) (r : Kept.Revision) → IsRevision v.held before r
    → Keeps (session_table v) (held_coded v.held) source (roots_of before) (command_of r) (recorded_revision r) r.rows.items
revision_keeps v source before r is =
    let covers = is.certified.rows source in
    record {
      range = is.certified.range;
      root = (is.certified.root, sym covers.whole_root ∙ covers.whole_parts);
      mark = λ marked. is.mark.0 marked;
      rows_cover = covers;
      no_source = is.certified.no_source;
      marked = is.mark;
      longest = is.longest;
    }

module _ (v : SessionValue) (kept : IsKept coded_byte v.held) (are : AreRevisions v.held v.revisions) where
  image : ImageValue
  image = image_of v

  -- the image's table, functions, roots and rows are the session's
  same_table : image_table (image_of v) ≡ session_table v
  same_table = λ i. record { nodes = same_nodes v.held i; pool = v.held.pool.bytes; sources = v.held.sources; answer = λ id k. answer_of coded_byte (same_function v.held kept id i) k }

  same_coded : coded_at (image_of v) ≡ held_coded v.held
  same_coded = λ i id. or_fill (same_function v.held kept id i)

  rows_are : (k : ℕ) (r : Kept.Revision) → slice_get v.revisions k ≡ Some r → rows_at (image_of v) k ≡ r.rows.items
  rows_are k r at =
      let rev = same_revision v.revisions k r at in
      let before : rows_before (image_of v) k ≡ rows_held (take k v.revisions) = ap (λ (rs : List Revision). sum_by (λ (x : Revision). x.rows) rs) (same_takes v.revisions k) ∙ same_counts (take k v.revisions) in
      ap (λ (x : Revision). take x.rows (drop (rows_before (image_of v) k) (rows_in v.revisions))) rev
      ∙ ap (λ (n : ℕ). take (length r.rows.items) (drop n (rows_in v.revisions))) before
      ∙ same_rows v.revisions k r at

  image_keeps : (source : ℕ → ℕ → ℕ) (k : ℕ) → k < length (image_of v).revisions
      → Keeps (image_table (image_of v)) (coded_at (image_of v)) source (roots_before (image_of v) k) (command_at (image_of v) k) (revision_at (image_of v) k) (rows_at (image_of v) k)
  image_keeps source k lt =
      let found = there_is v.revisions k (omega (arith, lt, length-map v.revisions recorded_revision)) in
      let r : Kept.Revision = found.0 in
      let t = image_table (image_of v) in
      let c = coded_at (image_of v) in
      let roots = roots_before (image_of v) k in
      let rev = revision_at (image_of v) k in
      let first = revision_keeps v source (take k v.revisions) r (are k r found.1) in
      let second = subst (λ (x : Table). Keeps x (held_coded v.held) source (roots_of (take k v.revisions)) (command_of r) (recorded_revision r) r.rows.items) (sym same_table) first in
      let third = subst (λ (x : ℕ → Coded). Keeps t x source (roots_of (take k v.revisions)) (command_of r) (recorded_revision r) r.rows.items) (sym same_coded) second in
      let fourth = subst (λ (x : List (Option NodeId)). Keeps t c source x (command_of r) (recorded_revision r) r.rows.items) (sym (same_roots v.revisions k)) third in
      let says : command_at (image_of v) k ≡ command_of r =
      ap (λ (x : Revision). full_edit (splices_in v.revisions) x.edit) (same_revision v.revisions k r found.1) ∙ says_over_all v.revisions k r found.1 (are k r found.1).certified.names in
      let command = command_at (image_of v) k in
      let between = subst (λ (x : FullEdit). Keeps t c source roots x (recorded_revision r) r.rows.items) (sym says) fourth in
      let fifth = subst (λ (x : Revision). Keeps t c source roots command x r.rows.items) (sym (same_revision v.revisions k r found.1)) between in
      subst (λ (x : List Row). Keeps t c source roots command rev x) (sym (rows_are k r found.1)) fifth

  pub as_made : AreAsMade (image_of v)
  as_made k lt = let keeps = image_keeps (λ s p. 0) k lt in record { mark = keeps.marked; no_source = keeps.no_source; longest = keeps.longest }

  good_nodes : IsSound (session_table v) → HasTrueRecords (session_table v) → AreGoodNodes (image_table (image_of v))
  good_nodes s h = subst AreGoodNodes (sym same_table) (λ id lt. (s.nodes id lt, h.nodes id lt))

  pub trusted : IsSound (session_table v) → HasTrueRecords (session_table v) → IsTrusted v
  trusted s h = record {
    accepted = λ source. record {
      sources = refl;
      nodes = good_nodes s h;
      revisions = λ k lt.
          let keeps = image_keeps source k lt in
          record { rules = record { command = keeps.range; root = keeps.root; mark = keeps.mark }; rows = keeps.rows_cover };
    };
    no_source = λ k lt. (image_keeps (λ s p. 0) k (omega (arith, lt, length-map v.revisions recorded_revision))).no_source;
  }
