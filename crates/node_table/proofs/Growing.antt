-- A table that grows keeps its rules.
use Rattle.std.proofs.Common.{◌≡◌, ℕ, zero, suc, ◌+◌, ◌-◌, ◌<◌, ◌≤◌, inl, inr, Bool, true, false, if◌then◌else◌, List, [], ◌∷◌, ◌++◌, map, length, get_or, Option, Some, None, Result, Ok, Err, refl, sym, ap, subst, ◌∙◌, arith}
use Rattle.std.specs.Prelude.{All, OnOk, OnErr}
use Rattle.std.proofs.lemmas.Bool.{cases_lt}
use Rattle.std.proofs.lemmas.List.Elements.{All-nil, All-from_get_or}
use Rattle.std.proofs.lemmas.List.{length-append, length-map, get_or_append_left, get_or-append_right, get_or-map, map-append}
use Rattle.function_leaf.specs.Optional.{answer_of}
use Rattle.smallvec.specs.SmallVec.{SmallVec}
use Rattle.std.specs.Result.{is_ok}
use Rattle.leaf_buffer.specs.declared.pool.TheConstants.{POOL_LIMIT}
use Rattle.leaf_buffer.specs.Contents.{Contents, KeepsPieces}
use Rattle.leaf_buffer.proofs.PoolGrowth.{PoolGrows}
use Rattle.rope_node.specs.declared.limits.TheConstants.{MOST_NODES, MOST_SOURCES, TEXT_LIMIT}
use Rattle.rope_node.specs.declared.node.NodeId.{NodeId}
use Rattle.rope_node.specs.declared.node.NodeView.{NodeView}
use Rattle.rope_node.specs.declared.node.NodeView.TheVariants.{Lit, Src, Fun, Cat, Sub}
use Rattle.rope_node.specs.Table.{Node, Table, node_at, no_node, depth_of, IsSoundNode, IsTrueNode, IsSound, HasTrueRecords}
use Rattle.rope_node.specs.Extends.{Extends}
use Rattle.rope_node.proofs.Extensions.{sound_kept, true_kept}
use Rattle.rope_node.proofs.Ropes.{extends_itself}
use Rattle.node_table.specs.declared.entry.Entry.{Entry}
use Rattle.node_table.specs.declared.record.Record.{Record}
use Rattle.node_table.specs.declared.fault.NodeFault.{NodeFault}
use Rattle.node_table.specs.Entries.{record_of, stored_function, CanStore, IsStorable}
use Rattle.node_table.specs.Held.{Held, IsKept, IsGoodNode, IsKeptNode, CanHold, table_of, with_records, held_of, node_of, function_of_record}

-- ---- the table of a store that was kept

pub sound_of : {F : Type 0} (meaning : F → ℕ → ℕ) (h : Held F) → IsKept meaning h → IsSound (table_of meaning h)
sound_of meaning h k = record { nodes = λ id lt. (k.nodes id lt).sound; pool = k.pool; sources = k.sources }

pub true_of : {F : Type 0} (meaning : F → ℕ → ℕ) (h : Held F) → IsKept meaning h → HasTrueRecords (table_of meaning h)
true_of meaning h k = record { nodes = λ id lt. (k.nodes id lt).true_record }

-- ---- growing

pub extends_records : {F : Type 0} (meaning : F → ℕ → ℕ) (h : Held F) (pool : Contents) (records : List (Record F)) → length h.functions ≡ length h.nodes → KeepsPieces h.pool pool → length h.pool.bytes ≤ length pool.bytes → Extends (table_of meaning h) (table_of meaning (with_records h pool records))
extends_records {F} meaning h pool records same keeps longer = record {
  nodes = λ id lt. get_or_append_left h.nodes (map node_of records) no_node id lt;
  more_nodes = omega (arith, length-append h.nodes (map node_of records));
  pool = keeps.bytes;
  more_pool = longer;
  sources = λ s lt. refl;
  more_sources = omega arith;
  answer = λ id lt. ap (λ (f : Option F). answer_of meaning f) (get_or_append_left h.functions (map function_of_record records) None id (omega arith));
}

kept_node : {F : Type 0} (old new : Contents) → KeepsPieces old new → (n : ℕ) (v : NodeView) (f : Option F) → IsKeptNode old n v f → IsKeptNode new n v f
kept_node old new keeps n (Lit a) f k = (k.0, keeps.in_one_block a n k.1)
kept_node old new keeps n (Src s a) f k = k
kept_node old new keeps n Fun None k = absurd k
kept_node old new keeps n Fun (Some f) k = tt
kept_node old new keeps n (Cat l r) f k = k
kept_node old new keeps n (Sub b i) f k = k

-- a node that keeps the rules keeps them in a table that goes on
pub good_kept : {F : Type 0} (meaning : F → ℕ → ℕ) (old new : Held F) → Extends (table_of meaning old) (table_of meaning new) → KeepsPieces old.pool new.pool → (id : ℕ) → id < length old.nodes → get_or new.functions id None ≡ get_or old.functions id None → IsGoodNode meaning old id → IsGoodNode meaning new id
good_kept {F} meaning old new x keeps id inside f g =
    let n : Node = node_at (table_of meaning old) id in
    let same : node_at (table_of meaning new) id ≡ n = x.nodes id inside in
    record {
      sound = subst (λ (k : Node). IsSoundNode (table_of meaning new) id k) (sym same) (sound_kept (table_of meaning old) (table_of meaning new) x id n (omega arith) g.sound);
      true_record = subst (λ (k : Node). IsTrueNode (table_of meaning new) k) (sym same) (true_kept (table_of meaning old) (table_of meaning new) x id n (omega arith) g.sound g.true_record);
      kept = subst (λ (k : Node). IsKeptNode new.pool k.len k.view (get_or new.functions id None)) (sym same)
          (subst (λ (o : Option F). IsKeptNode new.pool n.len n.view o) (sym f) (kept_node old.pool new.pool keeps n.len n.view (get_or old.functions id None) g.kept));
    }

-- nodes that can be held are held
pub kept_records : {F : Type 0} (meaning : F → ℕ → ℕ) (h : Held F) (pool : Contents) (records : List (Record F)) → IsKept meaning h → CanHold meaning h pool records → PoolGrows h.pool pool → length pool.bytes < POOL_LIMIT → length h.nodes + length records ≤ MOST_NODES → IsKept meaning (with_records h pool records)
kept_records {F} meaning h pool records k can grows limit few =
    let whole : length (h.nodes ++ map node_of records) ≡ length h.nodes + length records = rw (length-append, length-map) refl in
    let functions : length (h.functions ++ map function_of_record records) ≡ length h.functions + length records = rw (length-append, length-map) refl in
    record {
      nodes = λ id lt. elim (cases_lt id (length h.nodes)) [
        | inl old ↦ good_kept meaning h (with_records h pool records) (extends_records meaning h pool records k.functions grows.pieces grows.longer) grows.pieces id old (get_or_append_left h.functions (map function_of_record records) None id (omega (arith, k.functions))) (k.nodes id old)
        | inr new ↦ can.nodes id new (omega (arith, whole))
      ];
      functions = omega (arith, whole, functions, k.functions);
      few = omega (arith, whole);
      pool = limit;
      borders = grows.borders;
      few_sources = k.few_sources;
      sources = k.sources;
    }

-- ---- a further source

get_or_one : (n k limit : ℕ) → n < limit → get_or (n ∷ []) k 0 < limit
get_or_one n zero limit lt = lt
get_or_one n (suc k) limit lt = omega arith

extends_source : {F : Type 0} (meaning : F → ℕ → ℕ) (h : Held F) (len : ℕ) → Extends (table_of meaning h) (table_of meaning (record h { sources = h.sources ++ len ∷ [] }))
extends_source meaning h len = record {
  nodes = λ id lt. refl;
  more_nodes = omega arith;
  pool = λ a n fits. refl;
  more_pool = omega arith;
  sources = λ s lt. get_or_append_left h.sources (len ∷ []) 0 s lt;
  more_sources = omega (arith, length-append h.sources (len ∷ []));
  answer = λ id lt. refl;
}

pub source_extends : {F : Type 0} (meaning : F → ℕ → ℕ) (h : Held F) (len : ℕ) (result : Result ℕ NodeFault) (new : Held F) → OnOk result (new ≡ record h { sources = h.sources ++ len ∷ [] }) → OnErr result (new ≡ h) → Extends (table_of meaning h) (table_of meaning new)
source_extends {F = F} meaning h len (Ok s) new ok err = subst (λ (k : Held F). Extends (table_of meaning h) (table_of meaning k)) (sym ok) (extends_source meaning h len)
source_extends {F = F} meaning h len (Err e) new ok err = subst (λ (k : Held F). Extends (table_of meaning h) (table_of meaning k)) (sym err) (extends_itself (table_of meaning h))

pub kept_source : {F : Type 0} (meaning : F → ℕ → ℕ) (h : Held F) (len : ℕ) → IsKept meaning h → length h.sources < MOST_SOURCES → len < TEXT_LIMIT → IsKept meaning (record h { sources = h.sources ++ len ∷ [] })
kept_source {F} meaning h len k few short =
    let x = extends_source meaning h len in
    record {
      nodes = λ id lt. good_kept meaning h (record h { sources = h.sources ++ len ∷ [] }) x (record { in_one_block = λ a n c. c; bytes = λ a n c. refl }) id lt refl (k.nodes id lt);
      functions = k.functions;
      few = k.few;
      pool = k.pool;
      borders = k.borders;
      few_sources = omega (arith, length-append h.sources (len ∷ []));
      sources = λ s. elim (cases_lt s (length h.sources)) [
        | inl old ↦ rw (get_or_append_left h.sources (len ∷ []) 0 s old) (k.sources s)
        | inr new ↦ rw (get_or-append_right h.sources (len ∷ []) (length h.sources) s 0 refl new) (get_or_one len (s - length h.sources) (TEXT_LIMIT) short)
      ];
    }

-- what a vector holds after a push that may be refused
pub pushed_items : {A E : Type 0} (result : Result A E) (old new : SmallVec ℕ) (len : ℕ) → OnOk result (new.items ≡ old.items ++ len ∷ []) → OnErr result (new ≡ old) → new.items ≡ (if is_ok result then old.items ++ len ∷ [] else old.items)
pushed_items (Ok a) old new len ok err = ok
pushed_items (Err e) old new len ok err = ap (λ (v : SmallVec ℕ). v.items) err

pub kept_push : {F : Type 0} (meaning : F → ℕ → ℕ) (records : List (Record F)) (pool : Contents) (sources : List ℕ) (len : ℕ) (b : Bool) (pushed : List ℕ) → IsKept meaning (held_of records pool sources) → length sources < MOST_SOURCES → len < TEXT_LIMIT → pushed ≡ (if b then sources ++ len ∷ [] else sources) → IsKept meaning (held_of records pool pushed)
kept_push meaning records pool sources len true pushed k few short is = rw is (kept_source meaning (held_of records pool sources) len k few short)
kept_push meaning records pool sources len false pushed k few short is = rw is k

pub held_push : {F : Type 0} (h : Held F) (records : List (Record F)) (pool : Contents) (sources pushed : List ℕ) (len : ℕ) (b : Bool) → held_of records pool sources ≡ h → b ≡ true → pushed ≡ (if b then sources ++ len ∷ [] else sources) → held_of records pool pushed ≡ record h { sources = h.sources ++ len ∷ [] }
held_push {F} h records pool sources pushed len false view took is = absurd cc
held_push {F} h records pool sources pushed len true view took is = rw is (ap (λ (k : Held F). let more : Held F = record k { sources = k.sources ++ len ∷ [] } in more) view)

-- ---- further records

pub kept_put : {F : Type 0} (meaning : F → ℕ → ℕ) (h : Held F) (before : List (Record F)) (old pool : Contents) (sources : List ℕ) (put reserved after : List (Record F)) → held_of before old sources ≡ h → IsKept meaning (held_of before old sources) → CanHold meaning h pool put → PoolGrows old pool → length pool.bytes < POOL_LIMIT → length before + length put ≤ MOST_NODES → reserved ≡ before → after ≡ reserved ++ put → IsKept meaning (held_of after pool sources)
kept_put {F} meaning h before old pool sources put reserved after view k can grows limit few same is =
    let whole : after ≡ before ++ put = is ∙ ap (λ (rs : List (Record F)). rs ++ put) same in
    let counted : length (map (node_of {F = F}) before) + length put ≤ MOST_NODES = rw length-map few in
    let held : IsKept meaning (with_records (held_of before old sources) pool put) = kept_records meaning (held_of before old sources) pool put k (subst (λ (x : Held F). CanHold meaning x pool put) (sym view) can) grows limit counted in
    rw (whole, map-append node_of before put, map-append function_of_record before put) held

-- the last of them
pub last_put : {F : Type 0} (h : Held F) (put : List (Record F)) (last : ℕ) → last ≡ length h.nodes + (length put - 1) → ◌≡◌ {A = Option NodeId} (Some (record { 0 = last })) (Some (record { 0 = length h.nodes + (length put - 1) }))
last_put h put last is = ap (λ (k : ℕ). let node : NodeId = record { 0 = k } in let rope : Option NodeId = Some node in rope) is

-- what is held once records are put
pub held_put : {F : Type 0} (h : Held F) (before : List (Record F)) (old pool : Contents) (sources : List ℕ) (put reserved after : List (Record F)) → held_of before old sources ≡ h → reserved ≡ before → after ≡ reserved ++ put → held_of after pool sources ≡ with_records h pool put
held_put {F} h before old pool sources put reserved after view same is =
    let whole : after ≡ before ++ put = is ∙ ap (λ (rs : List (Record F)). rs ++ put) same in
    rw (whole, map-append node_of before put, map-append function_of_record before put) (ap (λ (x : Held F). with_records x pool put) view)

-- ---- the record of a node

pub node_of_entry : {F : Type 0} (entries : List (Entry F)) (id : ℕ) (e : Entry F) → id < length entries → e ≡ get_or entries id e → get_or (map node_of (map record_of entries)) id no_node ≡ node_of (record_of e)
node_of_entry {F} entries id e inside is =
    let behind : id < length (map (record_of {F = F}) entries) = rw length-map inside in
    get_or-map node_of (map record_of entries) id (record_of e) no_node behind
    ∙ ap node_of (get_or-map record_of entries id e (record_of e) inside ∙ ap record_of (sym is))

pub function_of_entry : {F : Type 0} (entries : List (Entry F)) (id : ℕ) (e : Entry F) → id < length entries → e ≡ get_or entries id e → get_or (map function_of_record (map record_of entries)) id None ≡ stored_function e.kind
function_of_entry {F} entries id e inside is =
    let behind : id < length (map (record_of {F = F}) entries) = rw length-map inside in
    get_or-map function_of_record (map record_of entries) id (record_of e) None behind
    ∙ ap function_of_record (get_or-map record_of entries id e (record_of e) inside ∙ ap record_of (sym is))

-- ---- what can be held can be stored

storable : {F : Type 0} (t : Table) (pool : Contents) (n : ℕ) (v : NodeView) (d : ℕ) (f : Option F) → d ≡ depth_of t v → IsKeptNode pool n v f → CanStore v d f
storable t pool n (Lit a) d f is k = (is, k.0)
storable t pool n (Src s a) d f is k = (is, k)
storable t pool n Fun d None is k = absurd k
storable t pool n Fun d (Some f) is k = is
storable t pool n (Cat l r) d f is k = k
storable t pool n (Sub b i) d f is k = k

storable_record : {F : Type 0} (meaning : F → ℕ → ℕ) (h : Held F) (pool : Contents) (records : List (Record F)) → length h.functions ≡ length h.nodes → CanHold meaning h pool records → (d : Record F) (i : ℕ) → i < length records → IsStorable (get_or records i d)
storable_record {F} meaning h pool records same can d i inside =
    let id : ℕ = length h.nodes + i in
    let r : Record F = get_or records i d in
    let g : IsGoodNode meaning (with_records h pool records) id = can.nodes id (omega arith) (omega (arith, inside)) in
    let at : id - length h.nodes ≡ i = omega arith in
    let node : get_or (h.nodes ++ map node_of records) id no_node ≡ node_of r =
    get_or-append_right h.nodes (map node_of records) (length h.nodes) id no_node refl (omega arith)
    ∙ ap (λ (k : ℕ). get_or (map node_of records) k no_node) at
    ∙ get_or-map node_of records i d no_node inside in
    let function : get_or (h.functions ++ map function_of_record records) id None ≡ function_of_record r =
    get_or-append_right h.functions (map function_of_record records) (length h.nodes) id None same (omega arith)
    ∙ ap (λ (k : ℕ). get_or (map function_of_record records) k None) at
    ∙ get_or-map function_of_record records i d None inside in
    let kept : IsKeptNode pool r.len r.view r.function = rw (node, function) at g.kept in
    let depth : r.depth ≡ depth_of (table_of meaning (with_records h pool records)) r.view = rw node at g.true_record.depth in
    storable (table_of meaning (with_records h pool records)) pool r.len r.view r.depth r.function depth kept

pub all_storable : {F : Type 0} (meaning : F → ℕ → ℕ) (h : Held F) (pool : Contents) (records : List (Record F)) → length h.functions ≡ length h.nodes → CanHold meaning h pool records → All (IsStorable {F = F}) records
all_storable {F} meaning h pool [] same can = All-nil (IsStorable {F = F})
all_storable {F} meaning h pool (r ∷ rs) same can = All-from_get_or (IsStorable {F = F}) (r ∷ rs) r (storable_record meaning h pool (r ∷ rs) same can r)
