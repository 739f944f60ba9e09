-- A store that was made of an image holds its nodes, functions, pool and sources: the two are one table.
use Rattle.std.proofs.Common.{◌≡◌, ℕ, zero, suc, ◌<◌, List, [], ◌∷◌, length, get_or, Option, Some, None, refl, sym, ap, ◌∙◌, arith, inl, inr}
use Rattle.std.proofs.lemmas.Bool.{cases_lt}
use Rattle.std.proofs.lemmas.List.{length-map, get_or_past, get_or-map, same_lists}
use Rattle.std.proofs.lemmas.List.FromFn.{length-map-range_with_len, get_or-map-range_with_len}
use Rattle.function_leaf.specs.declared.coded.Coded.{Coded}
use Rattle.function_leaf.specs.Coded.{coded_byte}
use Rattle.function_leaf.specs.Optional.{answer_of, or_fill}
use Rattle.leaf_buffer.specs.Contents.{Contents}
use Rattle.leaf_buffer.proofs.Pieces.{held_whole_bytes}
use Rattle.rope_node.specs.declared.node.NodeView.{NodeView}
use Rattle.rope_node.specs.declared.node.NodeView.TheVariants.{Lit, Src, Fun, Cat, Sub}
use Rattle.rope_node.specs.Table.{Node, no_node, view_at}
use Rattle.node_table.specs.Copies.{IsCopyOf, function_in}
use Rattle.node_table.specs.Held.{Held, table_of, held_coded}
use Rattle.image_reader.specs.Value.{ImageNode, ImageValue, IsImage, FitsView, no_image_node, image_table, coded_at, function_at}
use Rattle.image_reader.proofs.HeldFunctions.{node_fits}
use Rattle.session_image.specs.Written.{nodes_of}
use Rattle.saved_session.specs.TakenUp.{HoldsImage}

-- what a node holds is its function, where it is one
function_is : (view : NodeView) (function : Option Coded) → FitsView view function → function_in (or_fill function) view ≡ function
function_is (Lit a) None fits = refl
function_is (Lit a) (Some c) fits = absurd fits
function_is (Src s a) None fits = refl
function_is (Src s a) (Some c) fits = absurd fits
function_is Fun None fits = absurd fits
function_is Fun (Some c) fits = refl
function_is (Cat l r) None fits = refl
function_is (Cat l r) (Some c) fits = absurd fits
function_is (Sub b i) None fits = refl
function_is (Sub b i) (Some c) fits = absurd fits

module _ (v : ImageValue) (is : IsImage v) (h : Held Coded) (copy : IsCopyOf (image_table v) (coded_at v) h) (functions : length h.functions ≡ length h.nodes) where
  as_many : length h.nodes ≡ length v.nodes
  as_many = ap length copy.nodes ∙ length-map v.nodes (λ (n : ImageNode). n.node)

  node_is : (id : ℕ) → id < length v.nodes → get_or h.nodes id no_node ≡ (get_or v.nodes id no_image_node).node
  node_is id lt = ap (λ (ns : List Node). get_or ns id no_node) copy.nodes ∙ get_or-map (λ (n : ImageNode). n.node) v.nodes id no_image_node no_node lt

  -- function by function
  same_function : (id : ℕ) → get_or h.functions id None ≡ function_at v id
  same_function id =
      elim (cases_lt id (length v.nodes)) [
        | inl there ↦
            let view : view_at (image_table v) id ≡ (get_or v.nodes id no_image_node).node.view = ap (λ (n : Node). n.view) (get_or-map (λ (n : ImageNode). n.node) v.nodes id no_image_node no_node there) in
            copy.functions id (omega (arith, there, length-map v.nodes (λ (n : ImageNode). n.node)))
            ∙ ap (function_in (coded_at v id)) view
            ∙ function_is (get_or v.nodes id no_image_node).node.view (function_at v id) (node_fits v.nodes id is.nodes there).view
        | inr past ↦
            get_or_past h.functions id None (omega (arith, past, functions, as_many)) ∙ sym (ap (λ (n : ImageNode). n.function) (get_or_past v.nodes id no_image_node (omega (arith, past))))
      ]

  pool_is : h.pool.bytes ≡ v.pool
  pool_is = ap (λ (p : Contents). p.bytes) copy.pool ∙ held_whole_bytes v.pool

  same_table : table_of coded_byte h ≡ image_table v
  same_table = λ i. record { nodes = copy.nodes i; pool = pool_is i; sources = copy.sources i; answer = λ id k. answer_of coded_byte (same_function id i) k }

  same_coded : held_coded h ≡ coded_at v
  same_coded = λ i id. or_fill (same_function id i)

  -- node by node
  abbrev node_of_image : ℕ → ImageNode
  node_of_image id = record { node = get_or h.nodes id no_node; function = get_or h.functions id None }

  same_nodes : nodes_of h ≡ v.nodes
  same_nodes =
      let many : length (nodes_of h) ≡ length h.nodes = length-map-range_with_len node_of_image 0 (length h.nodes) in
      same_lists (nodes_of h) v.nodes (many ∙ as_many)
      (λ k d lt.
      let there : k < length h.nodes = omega (arith, lt, many) in
      let here : k < length v.nodes = omega (arith, there, as_many) in
      get_or-map-range_with_len node_of_image 0 (length h.nodes) k k d there (omega arith)
      ∙ (λ i. record { node = node_is k here i; function = same_function k i })
      ∙ default_any v.nodes k no_image_node d here)
    where
      default_any : (xs : List ImageNode) (k : ℕ) (c d : ImageNode) → k < length xs → get_or xs k c ≡ get_or xs k d
      default_any [] k c d lt = absurd (omega (arith, lt))
      default_any (x ∷ xs) zero c d lt = refl
      default_any (x ∷ xs) (suc k) c d lt = default_any xs k c d (omega (arith, lt))

  pub holds_image : HoldsImage v h
  holds_image = record { sources = copy.sources; nodes = same_nodes; pool = pool_is; block = copy.pool; table = same_table; coded = same_coded }
