-- A table that is made of another one, node for node, keeps its rules.
use Rattle.std.proofs.Common.{◌≡◌, ℕ, ◌<◌, ◌≤◌, List, length, get_or, Option, None, refl, sym, ap, subst, ◌∙◌, arith}
use Rattle.std.proofs.lemmas.List.{length-map, take_all}
use Rattle.function_leaf.specs.Coded.{coded_byte}
use Rattle.function_leaf.specs.declared.coded.Coded.{Coded}
use Rattle.leaf_buffer.specs.Contents.{Contents, held_whole}
use Rattle.leaf_buffer.proofs.Pieces.{in_one_block_whole, held_whole_bytes, held_whole_borders}
use Rattle.rope_node.specs.declared.limits.TheConstants.{MOST_NODES, MOST_SOURCES}
use Rattle.rope_node.specs.declared.node.NodeView.{NodeView}
use Rattle.rope_node.specs.declared.node.NodeView.TheVariants.{Lit, Src, Fun, Cat, Sub}
use Rattle.rope_node.specs.Table.{Node, Table, node_at, no_node, depth_of, HasGoodReferences, HasSpanInside, HasTrueLength, IsSoundNode, IsTrueNode, IsSound, HasTrueRecords}
use Rattle.node_table.specs.declared.record.Record.{Record}
use Rattle.node_table.specs.Copies.{CopiesFirst, IsCopyOf, function_in}
use Rattle.node_table.specs.Held.{Held, IsKept, IsGoodNode, IsKeptNode, table_of, held_of, node_of, function_of_record}

-- two tables of the same nodes, sources and pool, whatever their functions answer
references_alike : (t u : Table) (id : ℕ) (v : NodeView) → u.sources ≡ t.sources → HasGoodReferences t id v → HasGoodReferences u id v
references_alike t u id (Lit a) sources h = tt
references_alike t u id (Src s a) sources h = rw sources h
references_alike t u id Fun sources h = tt
references_alike t u id (Cat l r) sources h = h
references_alike t u id (Sub b i) sources h = h

span_alike : (t u : Table) (n : ℕ) (v : NodeView) → u.nodes ≡ t.nodes → u.pool ≡ t.pool → u.sources ≡ t.sources → HasSpanInside t n v → HasSpanInside u n v
span_alike t u n (Lit a) nodes pool sources h = rw pool h
span_alike t u n (Src s a) nodes pool sources h = rw sources h
span_alike t u n Fun nodes pool sources h = tt
span_alike t u n (Cat l r) nodes pool sources h = tt
span_alike t u n (Sub b i) nodes pool sources h = rw nodes h

length_alike : (t u : Table) (n : ℕ) (v : NodeView) → u.nodes ≡ t.nodes → HasTrueLength t n v → HasTrueLength u n v
length_alike t u n (Lit a) nodes h = tt
length_alike t u n (Src s a) nodes h = tt
length_alike t u n Fun nodes h = tt
length_alike t u n (Cat l r) nodes h = rw nodes h
length_alike t u n (Sub b i) nodes h = tt

depth_alike : (t u : Table) (v : NodeView) → u.nodes ≡ t.nodes → depth_of u v ≡ depth_of t v
depth_alike t u (Lit a) nodes = refl
depth_alike t u (Src s a) nodes = refl
depth_alike t u Fun nodes = refl
depth_alike t u (Cat l r) nodes = rw nodes refl
depth_alike t u (Sub b i) nodes = rw nodes refl

kept_copy : (t : Table) (f : Coded) (n : ℕ) (v : NodeView) → HasSpanInside t n v → IsKeptNode (held_whole t.pool) n v (function_in f v)
kept_copy t f n (Lit a) h = (refl, in_one_block_whole t.pool a n h)
kept_copy t f n (Src s a) h = refl
kept_copy t f n Fun h = tt
kept_copy t f n (Cat l r) h = refl
kept_copy t f n (Sub b i) h = refl

good_copy : (t : Table) (coded : ℕ → Coded) (h : Held Coded) → IsCopyOf t coded h → IsSound t → HasTrueRecords t → (id : ℕ) → id < length t.nodes → IsGoodNode coded_byte h id
good_copy t coded h c sound true_records id below =
    let u = table_of coded_byte h in
    let node : node_at u id ≡ node_at t id = ap (λ (ns : List Node). get_or ns id no_node) c.nodes in
    let pool : u.pool ≡ t.pool = ap (λ (p : Contents). p.bytes) c.pool ∙ held_whole_bytes t.pool in
    let n = node_at t id in
    let s = sound.nodes id below in
    let r = true_records.nodes id below in
    let sound_here : IsSoundNode u id n = record {
      references = references_alike t u id n.view c.sources s.references;
      not_empty = s.not_empty;
      not_long = s.not_long;
      not_deep = s.not_deep;
      span = span_alike t u n.len n.view c.nodes pool c.sources s.span;
    } in
    let true_here : IsTrueNode u n = record {
      len = length_alike t u n.len n.view c.nodes r.len;
      depth = r.depth ∙ sym (depth_alike t u n.view c.nodes);
    } in
    let kept_here : IsKeptNode h.pool n.len n.view (get_or h.functions id None) =
    subst (λ (f : Option Coded). IsKeptNode h.pool n.len n.view f) (sym (c.functions id below))
    (subst (λ (p : Contents). IsKeptNode p n.len n.view (function_in (coded id) n.view)) (sym c.pool) (kept_copy t (coded id) n.len n.view s.span)) in
    record {
      sound = subst (λ (k : Node). IsSoundNode u id k) (sym node) sound_here;
      true_record = subst (λ (k : Node). IsTrueNode u k) (sym node) true_here;
      kept = subst (λ (k : Node). IsKeptNode h.pool k.len k.view (get_or h.functions id None)) (sym node) kept_here;
    }

pub copy_is_kept : (t : Table) (coded : ℕ → Coded) (h : Held Coded) → IsCopyOf t coded h → length h.functions ≡ length h.nodes → IsSound t → HasTrueRecords t → length t.nodes ≤ MOST_NODES → length t.sources ≤ MOST_SOURCES → IsKept coded_byte h
copy_is_kept t coded h c same sound true_records few few_sources =
    let count : length h.nodes ≡ length t.nodes = ap (λ (ns : List Node). length ns) c.nodes in
    let pool : h.pool.bytes ≡ t.pool = ap (λ (p : Contents). p.bytes) c.pool ∙ held_whole_bytes t.pool in
    record {
      nodes = λ id lt. good_copy t coded h c sound true_records id (omega (arith, count));
      functions = same;
      few = omega (arith, count);
      pool = rw pool sound.pool;
      borders = rw (c.pool, held_whole_bytes t.pool) (held_whole_borders t.pool);
      few_sources = rw c.sources few_sources;
      sources = λ s. rw c.sources (sound.sources s);
    }

pub copy_of_all : (t : Table) (coded : ℕ → Coded) (records : List (Record Coded)) (pool : Contents) (sources : List ℕ) → CopiesFirst t coded (length t.nodes) records → pool ≡ held_whole t.pool → sources ≡ t.sources → IsCopyOf t coded (held_of records pool sources)
copy_of_all t coded records pool sources c is lengths = record {
  nodes = c.nodes ∙ take_all (length t.nodes) t.nodes (omega arith);
  functions = c.functions;
  pool = is;
  sources = lengths;
}

pub copy_counts : (records : List (Record Coded)) (pool : Contents) (sources : List ℕ) → length (held_of records pool sources).functions ≡ length (held_of records pool sources).nodes
copy_counts records pool sources = length-map records function_of_record ∙ sym (length-map records node_of)
