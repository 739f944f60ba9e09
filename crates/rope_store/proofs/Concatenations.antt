-- One node over two.
use Rattle.std.proofs.Common.{◌≡◌, ℕ, ◌+◌, ◌<◌, ◌≤◌, max, [], ◌∷◌, ◌++◌, length, Some, refl}
use Rattle.rope_node.specs.declared.limits.TheConstants.{TEXT_LIMIT}
use Rattle.leaf_buffer.specs.Contents.{appended}
use Rattle.rope_node.specs.declared.node.NodeId.{NodeId}
use Rattle.rope_node.specs.Table.{len_at, depth_at}
use Rattle.rope_node.specs.Denotes.{cells}
use Rattle.node_table.specs.declared.record.Record.{Record}
use Rattle.node_table.specs.Held.{Held, table_of}
use Rattle.node_table.specs.Held.{IsKept}
use Rattle.node_table.specs.Records.{concatenation_record}
use Rattle.rope_store.specs.Additions.{new_node}
use Rattle.leaf_buffer.proofs.PoolGrowth.{grows_appended}
use Rattle.rope_store.proofs.Growth.{holds_of}
use Rattle.rope_store.proofs.Nodes.{IsGood, concatenation_good}

pub both_good : {F : Type 0} (meaning : F → ℕ → ℕ) (h : Held F) → IsKept meaning h → (l r : NodeId) → l.0 < length h.nodes → r.0 < length h.nodes → len_at (table_of meaning h) l.0 + len_at (table_of meaning h) r.0 < TEXT_LIMIT → 1 + max (depth_at (table_of meaning h) l.0) (depth_at (table_of meaning h) r.0) ≤ 64
    → IsGood meaning h (appended h.pool []) (concatenation_record l r (len_at (table_of meaning h) l.0 + len_at (table_of meaning h) r.0) (1 + max (depth_at (table_of meaning h) l.0) (depth_at (table_of meaning h) r.0)) ∷ []) (Some (new_node (table_of meaning h) 0)) (cells (table_of meaning h) l.0 ++ cells (table_of meaning h) r.0)
both_good meaning h store l r left right short shallow =
    let t = table_of meaning h in
    concatenation_good meaning h (appended h.pool []) l r (len_at t l.0 + len_at t r.0) (1 + max (depth_at t l.0) (depth_at t r.0)) (holds_of meaning h store) (grows_appended h.pool [] store.borders) left right refl refl short shallow

-- its record, by the lengths and depths that are read
pub both_record : {F : Type 0} (l r : NodeId) (len1 len2 depth1 depth2 most n m d e : ℕ) (q : Record F) → q ≡ concatenation_record l r (len1 + len2) (1 + most) → most ≡ max depth1 depth2 → len1 ≡ n → len2 ≡ m → depth1 ≡ d → depth2 ≡ e → q ≡ concatenation_record l r (n + m) (1 + max d e)
both_record l r len1 len2 depth1 depth2 most n m d e q is is_most is_len1 is_len2 is_depth1 is_depth2 = rw (is, is_most, is_len1, is_len2, is_depth1, is_depth2) refl

pub both_depth : (depth1 depth2 most d e : ℕ) → most ≡ max depth1 depth2 → depth1 ≡ d → depth2 ≡ e → 1 + most ≡ 1 + max d e
both_depth depth1 depth2 most d e is_most is_depth1 is_depth2 = rw (is_most, is_depth1, is_depth2) refl
