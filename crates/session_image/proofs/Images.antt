-- What was written is an image: every number fits its field.
use Rattle.std.proofs.Common.{◌≡◌, ℕ, suc, ◌<◌, List, [], ◌∷◌, length, map, get_or, Option, Some, None, refl, sym, ap, subst, ◌∙◌, arith}
use Rattle.std.specs.Prelude.{slice_get}
use Rattle.std.specs.Option.{option_map}
use Rattle.std.specs.List.{sum_by, AllByRecursion}
use Rattle.std.proofs.lemmas.List.{length-map}
use Rattle.std.proofs.lemmas.List.FromFn.{length-map-range_with_len}
use Rattle.std.proofs.lemmas.Option.{get_or_from_slice_get, same_Some, slice_get-map, slice_get_within}
use Rattle.function_leaf.specs.declared.coded.Coded.{Coded}
use Rattle.function_leaf.specs.Coded.{coded_byte}
use Rattle.rope_node.specs.declared.node.NodeId.{NodeId}
use Rattle.rope_node.specs.declared.node.NodeView.{NodeView}
use Rattle.rope_node.specs.declared.node.NodeView.TheVariants.{Lit, Src, Fun, Cat, Sub}
use Rattle.rope_node.specs.Table.{no_node, HasGoodReferences, HasSpanInside}
use Rattle.rope_node.specs.Denotes.{IsRope}
use Rattle.node_table.specs.Held.{Held, IsKept, IsKeptNode, table_of}
use Rattle.command_parts.specs.declared.edit.Edit.{Edit}
use Rattle.command_parts.specs.declared.edit.Edit.TheVariants.{New}
use Rattle.command_parts.specs.Fields.{splices_of, FitsRecord}
use Rattle.edit_commands.specs.declared.revision.Revision as Kept
use Rattle.edit_commands.specs.Session.{SessionValue, IsSession, splices_held, edits_of}
use Rattle.edit_commands.proofs.RevisionLists.{there_is}
use Rattle.image_reader.specs.declared.revision.Revision.{Revision}
use Rattle.image_reader.specs.declared.version.FormatVersion.TheVariants.{Two}
use Rattle.command_parts.proofs.RecordedNumbers.{code_small}
use Rattle.image_reader.specs.Value.{ArePlaced, ImageNode, FitsNode, FitsRevision, FitsRoot, FitsSource, FitsView, IsImage}
use Rattle.session_image.specs.Written.{FitsHeld, SectionsFit, image_of, nodes_of, recorded_revision}
use Rattle.session_image.proofs.HeldNodes.{node_found}
use Rattle.session_image.proofs.RowLists.{length-rows, rows_few}
use Rattle.session_image.proofs.SpliceLists.{length-splices, name_own, placed_so}
use Rattle.session_image.proofs.SameTables.{same_counts}

-- what holds of each element that is found holds of all
all_found : {X : Type 0} (P : X → Type 0) (xs : List X) → ((k : ℕ) (x : X) → slice_get xs k ≡ Some x → P x) → AllByRecursion P xs
all_found P [] each = tt
all_found P (x ∷ xs) each = (each 0 x refl, all_found P xs (λ k y e. each (suc k) y e))

module _ (h : Held Coded) (kept : IsKept coded_byte h) where
  view_fits : (id : ℕ) (n : ℕ) (v : NodeView) (f : Option Coded) → id < length h.nodes → HasGoodReferences (table_of coded_byte h) id v → HasSpanInside (table_of coded_byte h) n v → IsKeptNode h.pool n v f → FitsHeld v f → FitsView v f
  view_fits id n (Lit a) None lt references span is fits = omega (arith, is.1.inside, kept.pool)
  view_fits id n (Lit a) (Some c) lt references span is fits = absurd (let none = is.0 in cc)
  view_fits id n (Src s a) None lt references span is fits = (omega (arith, references, kept.few_sources), omega (arith, span, kept.sources s))
  view_fits id n (Src s a) (Some c) lt references span is fits = absurd (let none = is in cc)
  view_fits id n Fun None lt references span is fits = absurd is
  view_fits id n Fun (Some c) lt references span is fits = fits
  view_fits id n (Cat l r) None lt references span is fits = (omega (arith, references.0, lt, kept.few), omega (arith, references.1, lt, kept.few))
  view_fits id n (Cat l r) (Some c) lt references span is fits = absurd (let none = is in cc)
  view_fits id n (Sub b i) None lt references span is fits =
      let there : b.0 < length h.nodes = omega (arith, references, lt) in
      (omega (arith, there, kept.few), omega (arith, span, (kept.nodes b.0 there).sound.not_long))
  view_fits id n (Sub b i) (Some c) lt references span is fits = absurd (let none = is in cc)

  node_fits : (id : ℕ) → id < length h.nodes → FitsHeld (get_or h.nodes id no_node).view (get_or h.functions id None) → FitsNode (record { node = get_or h.nodes id no_node; function = get_or h.functions id None })
  node_fits id lt fits =
      let good = kept.nodes id lt in
      record {
        view = view_fits id (get_or h.nodes id no_node).len (get_or h.nodes id no_node).view (get_or h.functions id None) lt good.sound.references good.sound.span good.kept fits;
        len = omega (arith, good.sound.not_long);
        depth = omega (arith, good.sound.not_deep);
      }

  nodes_fit : ((id : ℕ) → id < length h.nodes → FitsHeld (get_or h.nodes id no_node).view (get_or h.functions id None)) → AllByRecursion FitsNode (nodes_of h)
  nodes_fit fits = all_found FitsNode (nodes_of h) (λ id n e.
      let lt : id < length h.nodes = omega (arith, slice_get_within (nodes_of h) id n e, length-map-range_with_len {X = ImageNode} (λ (id : ℕ). record { node = get_or h.nodes id no_node; function = get_or h.functions id None }) 0 (length h.nodes)) in
      subst FitsNode (same_Some _ n (sym (node_found h id lt) ∙ e)) (node_fits id lt (fits id lt)))

  sources_fit : AllByRecursion FitsSource h.sources
  sources_fit = all_found FitsSource h.sources (λ s n e. subst FitsSource (get_or_from_slice_get h.sources s n 0 e) (kept.sources s))

  root_fits : (root : Option NodeId) → IsRope (table_of coded_byte h) root → FitsRoot root
  root_fits None there = tt
  root_fits (Some id) there = omega (arith, there, kept.few)

module _ (v : SessionValue) (kept : IsKept coded_byte v.held) (session : IsSession v) where
  revision_fits : (k : ℕ) (r : Kept.Revision) → slice_get v.revisions k ≡ Some r → FitsRecord r.edit → FitsRevision Two (recorded_revision r)
  revision_fits k r at edit = record { known = (code_small r.edit).1; edit = edit; root = root_fits v.held kept r.root (session.each k r at).certified.root; rows = omega (arith, rows_few v.revisions k r at, session.few_rows) }

  revisions_fit : ((k : ℕ) → k < length v.revisions → FitsRecord (get_or (edits_of v.revisions) k New)) → AllByRecursion (FitsRevision Two) (map recorded_revision v.revisions)
  revisions_fit edits = all_found (FitsRevision Two) (map recorded_revision v.revisions) (λ k x e.
      let lt : k < length v.revisions = omega (arith, slice_get_within (map recorded_revision v.revisions) k x e, length-map v.revisions recorded_revision) in
      let found = there_is v.revisions k lt in
      let r : Kept.Revision = found.0 in
      let edit : Kept.Revision → Edit = λ (r : Kept.Revision). r.edit in
      let own : get_or (edits_of v.revisions) k New ≡ r.edit = get_or_from_slice_get (edits_of v.revisions) k r.edit New (slice_get-map edit v.revisions k ∙ ap (option_map edit) found.1) in
      let same : recorded_revision r ≡ x = same_Some (recorded_revision r) x (sym (slice_get-map recorded_revision v.revisions k ∙ ap (option_map recorded_revision) found.1) ∙ e) in
      subst (FitsRevision Two) same (revision_fits k r found.1 (subst FitsRecord own (edits k lt))))

  placed : ArePlaced 0 (map recorded_revision v.revisions) × (sum_by (λ (x : Revision). splices_of x.edit) (map recorded_revision v.revisions) ≡ splices_held v.revisions)
  placed = placed_so 0 v.revisions (name_own [] v.revisions (λ k r at. (session.each k r at).certified.names))

  pub is_image : SectionsFit v → IsImage (image_of v)
  is_image fits = record {
    sources = sources_fit v.held kept;
    nodes = nodes_fit v.held kept fits.functions;
    revisions = revisions_fit fits.edits;
    placed = placed.0;
    splices = fits.splices;
    rows = fits.rows;
    pool = fits.pool;
    few_sources = omega (arith, kept.few_sources);
    few_nodes = omega (arith, kept.few, length-map-range_with_len {X = ImageNode} (λ (id : ℕ). record { node = get_or v.held.nodes id no_node; function = get_or v.held.functions id None }) 0 (length v.held.nodes));
    few_revisions = omega (arith, session.few, length-map v.revisions recorded_revision);
    few_splices = omega (arith, session.few_splices, length-splices v.revisions);
    few_rows = omega (arith, session.few_rows, length-rows v.revisions);
    small_pool = omega (arith, kept.pool);
    rows_counted = same_counts v.revisions ∙ sym (length-rows v.revisions);
    splices_counted = placed.1 ∙ sym (length-splices v.revisions);
  }
