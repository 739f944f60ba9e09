-- Only a node that is a function holds one.
use Rattle.std.proofs.Common.{◌≡◌, ◌≢◌, ℕ, zero, suc, ◌<◌, List, [], ◌∷◌, length, map, get_or, Option, Some, None, refl, ◌∙◌, arith}
use Rattle.std.specs.List.{AllByRecursion}
use Rattle.std.proofs.lemmas.List.{length-map}
use Rattle.function_leaf.specs.declared.coded.Coded.{Coded}
use Rattle.rope_node.specs.declared.node.NodeView.{NodeView}
use Rattle.rope_node.specs.declared.node.NodeView.TheVariants.{Lit, Src, Fun, Cat, Sub}
use Rattle.rope_node.specs.Table.{no_node, view_at}
use Rattle.image_reader.specs.Value.{ImageNode, ImageValue, IsImage, FitsNode, FitsView, no_image_node, image_table, function_at}

holds_none : (view : NodeView) (function : Option Coded) → FitsView view function → view ≢ Fun → function ≡ None
holds_none (Lit a) None fits other = refl
holds_none (Lit a) (Some c) fits other = absurd fits
holds_none (Src s a) None fits other = refl
holds_none (Src s a) (Some c) fits other = absurd fits
holds_none Fun function fits other = absurd (other refl)
holds_none (Cat l r) None fits other = refl
holds_none (Cat l r) (Some c) fits other = absurd fits
holds_none (Sub b i) None fits other = refl
holds_none (Sub b i) (Some c) fits other = absurd fits

pub node_fits : (nodes : List ImageNode) (id : ℕ) → AllByRecursion FitsNode nodes → id < length nodes → FitsNode (get_or nodes id no_image_node)
node_fits [] id all lt = absurd (omega (arith, lt))
node_fits (n ∷ nodes) zero all lt = all.0
node_fits (n ∷ nodes) (suc id) all lt = node_fits nodes id all.1 (omega (arith, lt))

view_held : (nodes : List ImageNode) (id : ℕ) → id < length nodes → (get_or (map (λ (n : ImageNode). n.node) nodes) id no_node).view ≡ (get_or nodes id no_image_node).node.view
view_held [] id lt = absurd (omega (arith, lt))
view_held (n ∷ nodes) zero lt = refl
view_held (n ∷ nodes) (suc id) lt = view_held nodes id (omega (arith, lt))

-- a node of an image that is no function holds none
pub function_none : (v : ImageValue) (id : ℕ) → IsImage v → id < length (image_table v).nodes → view_at (image_table v) id ≢ Fun → function_at v id ≡ None
function_none v id is lt other =
    let there : id < length v.nodes = omega (arith, lt, length-map v.nodes (λ (n : ImageNode). n.node)) in
    let fits = node_fits v.nodes id is.nodes there in
    holds_none (get_or v.nodes id no_image_node).node.view (function_at v id) fits.view (λ e. other (view_held v.nodes id there ∙ e))
