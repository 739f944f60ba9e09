-- The texts before a revision, as leaves: their table is sound, its records are true, and each root is as long as its text.
use Rattle.std.proofs.Common.{◌≡◌, ℕ, ◌<◌, ◌≤◌, max, ltb, length, Some, None, refl, sym, ap, ◌∙◌, subst, arith, inl, inr}
use Rattle.std.specs.List.{range_with_len}
use Rattle.std.proofs.lemmas.Bool.{cases_Bool, lt-ltb, le-ltb, ltb-true, ltb-false, cond-true, cond-false}
use Rattle.std.proofs.lemmas.List.{length-map}
use Rattle.std.proofs.lemmas.List.FromFn.{length-range_with_len, get_or-map-range_with_len}
use Rattle.rope_node.specs.declared.limits.TheConstants.{TEXT_LIMIT}
use Rattle.rope_node.specs.declared.node.NodeView.TheVariants.{Fun}
use Rattle.rope_node.specs.Table.{Node, no_node, node_at, view_at, len_at, depth_at, IsSoundNode, IsSound, IsTrueNode, HasTrueRecords}
use Rattle.rope_node.specs.Denotes.{rope_len, IsRope}
use Rattle.rope_node.proofs.Ropes.{rope_short}
use Rattle.command_parts.specs.Parts.{root_at, AreRopes}
use Rattle.image_reader.specs.Value.{ImageValue, image_table}
use Rattle.image_reader.specs.Accepted.{revision_at}
use Rattle.session_checker.specs.Faithful.{HasTrueRecordsOf}
use Rattle.byte_origins.specs.EarlierTexts.{len_of_text, text_node, texts_table, root_of_text, texts_roots}

-- the root of a text that has a byte, and of one that has none
pub root_some : (v : ImageValue) (r : ℕ) → 0 < len_of_text v r → Some (record { 0 = r }) ≡ root_of_text v r
root_some v r some = sym (cond-true (ltb 0 (len_of_text v r)) (Some (record { 0 = r })) None (lt-ltb 0 (len_of_text v r) some))

pub root_none : (v : ImageValue) (r : ℕ) → len_of_text v r ≡ 0 → None ≡ root_of_text v r
root_none v r none = sym (cond-false (ltb 0 (len_of_text v r)) (Some (record { 0 = r })) None (le-ltb 0 (len_of_text v r) (omega (arith, none))))

module _ (v : ImageValue) (k : ℕ) where
  pub count_is : k ≡ length (texts_table v k).nodes
  count_is = sym (length-map (range_with_len 0 k) (text_node v) ∙ length-range_with_len 0 k)

  pub below : (id : ℕ) → id < length (texts_table v k).nodes → id < k
  below id lt = omega (arith, lt, count_is)

  -- node j is text j
  pub node_is : (id : ℕ) → id < k → node_at (texts_table v k) id ≡ text_node v id
  node_is id lt = get_or-map-range_with_len (text_node v) 0 k id id no_node lt (omega arith)

  pub view_is : (id : ℕ) → id < k → Fun ≡ view_at (texts_table v k) id
  view_is id lt = ap (λ (n : Node). n.view) (sym (node_is id lt))

  pub len_is : (id : ℕ) → id < k → max 1 (len_of_text v id) ≡ len_at (texts_table v k) id
  len_is id lt = ap (λ (n : Node). n.len) (sym (node_is id lt))

  pub depth_is : (id : ℕ) → id < k → 0 ≡ depth_at (texts_table v k) id
  depth_is id lt = ap (λ (n : Node). n.depth) (sym (node_is id lt))

  pub roots_count : k ≡ length (texts_roots v k)
  roots_count = sym (length-map (range_with_len 0 k) (root_of_text v) ∙ length-range_with_len 0 k)

  pub root_is : (r : ℕ) → r < k → root_of_text v r ≡ root_at (texts_roots v k) r
  root_is r lt = sym (get_or-map-range_with_len (root_of_text v) 0 k r r None lt (omega arith))

  -- a root is as long as its text
  len_of_root : (r : ℕ) → r < k → rope_len (texts_table v k) (root_of_text v r) ≡ len_of_text v r
  len_of_root r lt =
      elim (cases_Bool (ltb 0 (len_of_text v r))) [
        | inl some ↦
            let long : 0 < len_of_text v r = ltb-true 0 (len_of_text v r) some in
            ap (rope_len (texts_table v k)) (cond-true (ltb 0 (len_of_text v r)) (Some (record { 0 = r })) None some) ∙ sym (len_is r lt) ∙ omega (arith, long)
        | inr none ↦
            let short = ltb-false 0 (len_of_text v r) none in
            ap (rope_len (texts_table v k)) (cond-false (ltb 0 (len_of_text v r)) (Some (record { 0 = r })) None none) ∙ omega (arith, short)
      ]

  pub root_long : (r : ℕ) → r < k → rope_len (texts_table v k) (root_at (texts_roots v k) r) ≡ len_of_text v r
  root_long r lt = ap (rope_len (texts_table v k)) (sym (root_is r lt)) ∙ len_of_root r lt

  root_there : (r : ℕ) → r < k → IsRope (texts_table v k) (root_of_text v r)
  root_there r lt =
      elim (cases_Bool (ltb 0 (len_of_text v r))) [
        | inl some ↦ subst (IsRope (texts_table v k)) (sym (cond-true (ltb 0 (len_of_text v r)) (Some (record { 0 = r })) None some)) (omega (arith, lt, count_is))
        | inr none ↦ subst (IsRope (texts_table v k)) (sym (cond-false (ltb 0 (len_of_text v r)) (Some (record { 0 = r })) None none)) tt
      ]

  pub texts_ropes : AreRopes (texts_table v k) (texts_roots v k)
  texts_ropes r lt = let before : r < k = omega (arith, lt, roots_count) in subst (IsRope (texts_table v k)) (root_is r before) (root_there r before)

  module _ (inside : k ≤ length v.revisions) (is : HasTrueRecordsOf v) where
    pub text_short : (j : ℕ) → j < k → len_of_text v j < TEXT_LIMIT
    text_short j lt = rope_short (image_table v) is.sound (revision_at v j).root (is.roots j (omega (arith, lt, inside)))

    pub texts_sound : IsSound (texts_table v k)
    texts_sound = record {
      nodes = λ id lt. let before = below id lt in subst (IsSoundNode (texts_table v k) id) (sym (node_is id before)) record {
        references = tt;
        not_empty = omega arith;
        not_long = let short = text_short id before in omega (arith, short);
        not_deep = omega arith;
        span = tt;
      };
      pool = is.sound.pool;
      sources = is.sound.sources;
    }

    pub texts_true : HasTrueRecords (texts_table v k)
    texts_true = record { nodes = λ id lt. subst (IsTrueNode (texts_table v k)) (sym (node_is id (below id lt))) record { len = tt; depth = refl } }
