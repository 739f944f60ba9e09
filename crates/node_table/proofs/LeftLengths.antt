-- The length of its left part stays with each concatenation.
use Rattle.std.proofs.Common.{◌≡◌, ℕ, suc, ◌+◌, ◌-◌, ◌<◌, List, [], ◌∷◌, ◌++◌, map, length, get_or, refl, sym, ap, subst, ◌∙◌, arith}
use Rattle.std.specs.Prelude.{All}
use Rattle.std.proofs.lemmas.List.Elements.{All-get_or, All-push, All-weaker}
use Rattle.std.proofs.lemmas.List.{length-map, get_or_append_left, get_or-append_right, get_or-map, map-append, length-append}
use Rattle.leaf_buffer.specs.Contents.{Contents}
use Rattle.rope_node.specs.declared.node.NodeId.{NodeId}
use Rattle.rope_node.specs.declared.node.NodeView.{NodeView}
use Rattle.rope_node.specs.declared.node.NodeView.TheVariants.{Lit, Src, Fun, Cat, Sub}
use Rattle.rope_node.specs.Table.{Node, Table, no_node, HasGoodReferences, IsLeftPart}
use Rattle.node_table.specs.declared.entry.Entry.{Entry}
use Rattle.node_table.specs.declared.entry.EntryKind.{EntryKind}
use Rattle.node_table.specs.declared.entry.EntryKind.TheVariants.{Literal, Source, Function, Concatenation, Part}
use Rattle.node_table.specs.declared.record.Record.{Record}
use Rattle.node_table.specs.Entries.{record_of}
use Rattle.node_table.specs.Held.{Held, IsGoodNode, CanHold, table_of, with_records, node_of}
use Rattle.node_table.specs.Lefts.{nodes_in, KeepsLeft, KeepLefts, HaveLeftsBefore}
use Rattle.node_table.proofs.Growing.{node_of_entry}

-- ---- what is stored

count_of : {F : Type 0} (entries : List (Entry F)) → length (nodes_in entries) ≡ length entries
count_of entries = length-map (map record_of entries) node_of ∙ length-map entries record_of

pub len_of_entry : {F : Type 0} (entries : List (Entry F)) (id : ℕ) (e : Entry F) → id < length entries → e ≡ get_or entries id e → (id < length (nodes_in entries)) × (e.len ≡ (get_or (nodes_in entries) id no_node).len)
len_of_entry {F} entries id e inside is = (
  rw (count_of entries) inside,
  ap (λ (n : Node). n.len) (sym (node_of_entry entries id e inside is)),
)

pub left_of_entry : {F : Type 0} (entries : List (Entry F)) (id : ℕ) (e : Entry F) → id < length entries → e ≡ get_or entries id e → KeepLefts entries → KeepsLeft (nodes_in entries) e.kind
left_of_entry {F} entries id e inside is lefts =
    subst (λ (x : Entry F). KeepsLeft (nodes_in entries) x.kind) (sym is) (All-get_or (λ (x : Entry F). KeepsLeft (nodes_in entries) x.kind) entries id e inside lefts)

-- ---- one node more

left_kept : {F : Type 0} (nodes more : List Node) (k : EntryKind F) → KeepsLeft nodes k → KeepsLeft (nodes ++ more) k
left_kept nodes more (Literal a) keeps = tt
left_kept nodes more (Source s a) keeps = tt
left_kept nodes more (Function f) keeps = tt
left_kept nodes more (Concatenation l d r n) keeps = (omega (arith, keeps.0, length-append nodes more), keeps.1 ∙ ap (λ (x : Node). x.len) (sym (get_or_append_left nodes more no_node l.0 keeps.0)))
left_kept nodes more (Part b d i) keeps = tt

pub lefts_pushed : {F : Type 0} (entries : List (Entry F)) (e : Entry F) → KeepLefts entries → KeepsLeft (nodes_in entries) e.kind → KeepLefts (entries ++ e ∷ [])
lefts_pushed {F} entries e lefts kept =
    let old : List Node = nodes_in entries in
    let more : List Node = node_of (record_of e) ∷ [] in
    let whole : nodes_in (entries ++ e ∷ []) ≡ old ++ more = ap (map node_of) (map-append record_of entries (e ∷ [])) ∙ map-append node_of (map record_of entries) (record_of e ∷ []) in
    let stays : (x : Entry F) → KeepsLeft old x.kind → KeepsLeft (old ++ more) x.kind = λ x k. left_kept old more x.kind k in
    let P : Entry F → Type 0 = λ x. KeepsLeft (old ++ more) x.kind in
    let older : All P entries = All-weaker (λ x. KeepsLeft old x.kind) P stays entries lefts in
    rw whole (All-push P entries e older (stays e kept))

-- ---- the nodes of a call

-- the left part of a node of this number is a node before it
abbrev IsLeftBefore : NodeView → ℕ → Type 0
IsLeftBefore v number = (l : NodeId) → IsLeftPart v l → l.0 < number

left_before : (t : Table) (id : ℕ) (v : NodeView) → HasGoodReferences t id v → IsLeftBefore v id
left_before t id (Lit a) good l is = absurd is
left_before t id (Src s a) good l is = absurd is
left_before t id Fun good l is = absurd is
left_before t id (Cat l r) good part is = rw is good.0
left_before t id (Sub b i) good l is = absurd is

lefts_from : {F : Type 0} (n : ℕ) (rs : List (Record F)) (d : Record F) → ((i : ℕ) → i < length rs → IsLeftBefore (get_or rs i d).view (n + i)) → HaveLeftsBefore n rs
lefts_from n [] d each = tt
lefts_from n (r ∷ rs) d each = (
  subst (λ k. IsLeftBefore r.view k) (omega arith) (each 0 (omega arith)),
  lefts_from (n + 1) rs d (λ i lt. subst (λ k. IsLeftBefore (get_or rs i d).view k) (omega arith) (each (suc i) (omega (arith, lt)))),
)

left_of_record : {F : Type 0} (meaning : F → ℕ → ℕ) (h : Held F) (pool : Contents) (records : List (Record F)) → CanHold meaning h pool records → (d : Record F) (i : ℕ) → i < length records → IsLeftBefore (get_or records i d).view (length h.nodes + i)
left_of_record {F} meaning h pool records can d i inside =
    let id : ℕ = length h.nodes + i in
    let g : IsGoodNode meaning (with_records h pool records) id = can.nodes id (omega arith) (omega (arith, inside)) in
    let at : id - length h.nodes ≡ i = omega arith in
    let node : get_or (h.nodes ++ map node_of records) id no_node ≡ node_of (get_or records i d) =
    get_or-append_right h.nodes (map node_of records) (length h.nodes) id no_node refl (omega arith)
    ∙ ap (λ (k : ℕ). get_or (map node_of records) k no_node) at
    ∙ get_or-map node_of records i d no_node inside in
    left_before (table_of meaning (with_records h pool records)) id (get_or records i d).view (subst (λ (n : Node). HasGoodReferences (table_of meaning (with_records h pool records)) id n.view) node g.sound.references)

pub lefts_before : {F : Type 0} (meaning : F → ℕ → ℕ) (h : Held F) (pool : Contents) (records : List (Record F)) (entries : List (Entry F)) → nodes_in entries ≡ h.nodes → CanHold meaning h pool records → HaveLeftsBefore (length entries) records
lefts_before {F} meaning h pool [] entries same can = tt
lefts_before {F} meaning h pool (r ∷ rs) entries same can =
    let count : length h.nodes ≡ length entries = sym (ap (λ xs. length xs) same) ∙ count_of entries in
    subst (λ k. HaveLeftsBefore k (r ∷ rs)) count (lefts_from (length h.nodes) (r ∷ rs) r (left_of_record meaning h pool (r ∷ rs) can r))
