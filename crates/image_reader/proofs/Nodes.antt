-- The nodes of an image, each read from its record.
use Rattle.std.proofs.Common.{◌≡◌, ℕ, ◌*◌, ◌<◌, ◌≤◌, List, length, map, take, drop, get_or, Some, None, refl, sym, ap, ◌∙◌, arith, inl, inr, subst}
use Rattle.std.proofs.lemmas.List.{length-map}
use Rattle.function_leaf.specs.declared.coded.Coded.{Coded}
use Rattle.rope_node.specs.declared.node.NodeView.TheVariants.{Fun}
use Rattle.rope_node.specs.Table.{Node, no_node, view_at, len_at, depth_at}
use Rattle.image_reader.specs.declared.fault.ReadFault.TheVariants.{Kind}
use Rattle.image_reader.specs.Layout.{records}
use Rattle.image_reader.specs.Value.{ImageNode, ImageValue, no_image_node, image_table, function_at}
use Rattle.image_reader.specs.Reading.{kind_in, view_of, function_of, image_node, is_unknown_node, node_record_fault, first_fault}
use Rattle.image_reader.proofs.Cutting.{IsCut, cut, cut_map, read_at, no_fault_at}
use Rattle.image_reader.proofs.Faults.{else_none, fault_if_none}
use Rattle.image_reader.proofs.NodeRecords.{OneToFive, kind_known}

-- the nodes of an image are what their records say
pub nodes_cut : (count : ℕ) (bytes : List ℕ) (v : ImageValue) → map image_node (records 32 count bytes) ≡ v.nodes → 32 * count ≤ length bytes → IsCut image_node 32 count bytes v.nodes
nodes_cut count bytes v same enough = subst (IsCut image_node 32 count bytes) same (cut image_node 32 count bytes enough)

-- and so are those of its table
pub table_cut : (count : ℕ) (bytes : List ℕ) (v : ImageValue) → map image_node (records 32 count bytes) ≡ v.nodes → 32 * count ≤ length bytes → IsCut (λ (b : List ℕ). (image_node b).node) 32 count bytes (image_table v).nodes
table_cut count bytes v same enough = cut_map image_node (λ (n : ImageNode). n.node) 32 count bytes v.nodes (nodes_cut count bytes v same enough)

module _ (count : ℕ) (bytes : List ℕ) (v : ImageValue) (same : map image_node (records 32 count bytes) ≡ v.nodes) (enough : 32 * count ≤ length bytes) (id : ℕ) (lt : id < length (image_table v).nodes) (cell : List ℕ) (is : cell ≡ take 32 (drop (32 * id) bytes)) where
  node_read : (image_node cell).node ≡ get_or (image_table v).nodes id no_node
  node_read = read_at (λ (b : List ℕ). (image_node b).node) (λ (n : Node). n) 32 count id bytes (image_table v).nodes no_node cell (image_node cell).node (table_cut count bytes v same enough) lt is refl

  pub view_read : view_of cell ≡ view_at (image_table v) id
  view_read = ap (λ (n : Node). n.view) node_read

  pub len_read : (image_node cell).node.len ≡ len_at (image_table v) id
  len_read = ap (λ (n : Node). n.len) node_read

  pub depth_read : (image_node cell).node.depth ≡ depth_at (image_table v) id
  depth_read = ap (λ (n : Node). n.depth) node_read

-- the record of a node of a section without a fault has none
pub node_faultless : (count : ℕ) (bytes : List ℕ) (v : ImageValue) (id : ℕ) (cell : List ℕ) → map image_node (records 32 count bytes) ≡ v.nodes → 32 * count ≤ length bytes → first_fault node_record_fault (records 32 count bytes) ≡ None → id < length (image_table v).nodes → cell ≡ take 32 (drop (32 * id) bytes) → node_record_fault cell ≡ None
node_faultless count bytes v id cell same enough none lt is =
    let there : id < count = omega (arith, (table_cut count bytes v same enough).counted) in
    rw is (no_fault_at node_record_fault 32 count id bytes there none)

function_kind : (cell : List ℕ) → OneToFive (kind_in cell) → view_of cell ≡ Fun → kind_in cell ≡ 3
unfolding view_of
function_kind cell (inl kind) e = let other = rw kind at e in absurd cc
function_kind cell (inr (inl kind)) e = let other = rw kind at e in absurd cc
function_kind cell (inr (inr (inl kind))) e = kind
function_kind cell (inr (inr (inr (inl kind)))) e = let other = rw kind at e in absurd cc
function_kind cell (inr (inr (inr (inr kind)))) e = let other = rw kind at e in absurd cc

-- the record of a node that is a function has kind 3
pub function_kind_at : (count : ℕ) (bytes : List ℕ) (v : ImageValue) (id : ℕ) (cell : List ℕ) → map image_node (records 32 count bytes) ≡ v.nodes → 32 * count ≤ length bytes → id < length (image_table v).nodes → cell ≡ take 32 (drop (32 * id) bytes) → node_record_fault cell ≡ None → view_at (image_table v) id ≡ Fun → kind_in cell ≡ 3
unfolding node_record_fault
function_kind_at count bytes v id cell same enough lt is none e =
    let known = kind_known cell (fault_if_none (is_unknown_node cell) Kind (else_none _ _ none).0) in
    function_kind cell known (view_read count bytes v same enough id lt cell is ∙ e)

pub function_read : (count : ℕ) (bytes : List ℕ) (v : ImageValue) (id : ℕ) (cell : List ℕ) (c : Coded) → map image_node (records 32 count bytes) ≡ v.nodes → 32 * count ≤ length bytes → id < length (image_table v).nodes → cell ≡ take 32 (drop (32 * id) bytes) → function_of cell ≡ Some c → function_at v id ≡ Some c
function_read count bytes v id cell c same enough lt is e =
    let there : id < length v.nodes = omega (arith, length-map v.nodes (λ (n : ImageNode). n.node)) in
    sym (read_at image_node (λ (n : ImageNode). n.function) 32 count id bytes v.nodes no_image_node cell (Some c) (nodes_cut count bytes v same enough) there is (sym e))
