-- The nodes and rows of the image are the session's.
use Rattle.std.proofs.Common.{◌≡◌, ℕ, suc, ◌+◌, ◌<◌, List, [], ◌∷◌, ◌++◌, length, map, take, drop, get_or, Some, None, refl, sym, ap, ◌∙◌, arith}
use Rattle.std.specs.Prelude.{slice_get}
use Rattle.std.specs.List.{range_with_len}
use Rattle.std.proofs.lemmas.List.{take_at, drop_at}
use Rattle.function_leaf.specs.declared.coded.Coded.{Coded}
use Rattle.rope_node.specs.Table.{Node, no_node}
use Rattle.node_table.specs.Held.{Held}
use Rattle.edit_commands.specs.declared.revision.Revision as Kept
use Rattle.edit_commands.specs.Session.{rows_held}
use Rattle.image_reader.specs.Value.{ImageNode}
use Rattle.session_image.specs.Written.{nodes_of, rows_in}
use Rattle.session_image.proofs.Sections.{split_at, flat_map-behind}
use Rattle.session_image.proofs.RowLists.{length-rows}

nodes_back : (h : Held Coded) (from : ℕ) (nodes : List Node) → ((i : ℕ) → i < length nodes → get_or h.nodes (from + i) no_node ≡ get_or nodes i no_node)
    → map (λ (n : ImageNode). n.node) (map (λ id. record { node = get_or h.nodes id no_node; function = get_or h.functions id None }) (range_with_len from (length nodes))) ≡ nodes
nodes_back h from [] same = refl
nodes_back h from (n ∷ ns) same =
    let here : from + 0 ≡ from = omega arith in
    let first : get_or h.nodes from no_node ≡ n = ap (λ (i : ℕ). get_or h.nodes i no_node) (sym here) ∙ same 0 (omega arith) in
    let others = nodes_back h (from + 1) ns (λ i lt. (let next : (from + 1) + i ≡ from + suc i = omega arith in ap (λ (k : ℕ). get_or h.nodes k no_node) next) ∙ same (suc i) (omega arith)) in
    rw (first, others) refl

pub same_nodes : (h : Held Coded) → map (λ (n : ImageNode). n.node) (nodes_of h) ≡ h.nodes
same_nodes h = nodes_back h 0 h.nodes (λ i lt. (let none : 0 + i ≡ i = omega arith in ap (λ (k : ℕ). get_or h.nodes k no_node) none))

-- the rows of revision k
pub same_rows : (revisions : List Kept.Revision) (k : ℕ) (r : Kept.Revision) → slice_get revisions k ≡ Some r → take (length r.rows.items) (drop (rows_held (take k revisions)) (rows_in revisions)) ≡ r.rows.items
same_rows revisions k r e =
    let whole : rows_in revisions ≡ rows_in (take k revisions) ++ (r.rows.items ++ rows_in (drop (suc k) revisions)) = ap rows_in (split_at revisions k r e) ∙ flat_map-behind (λ (r : Kept.Revision). r.rows.items) (take k revisions) (r ∷ drop (suc k) revisions) in
    let behind : drop (rows_held (take k revisions)) (rows_in revisions) ≡ r.rows.items ++ rows_in (drop (suc k) revisions) = ap (drop (rows_held (take k revisions))) whole ∙ drop_at (rows_in (take k revisions)) _ (rows_held (take k revisions)) (length-rows (take k revisions)) in
    ap (take (length r.rows.items)) behind ∙ take_at r.rows.items (rows_in (drop (suc k) revisions)) (length r.rows.items) refl
