-- What each call adds to a table.
use Rattle.std.specs.Prelude.{◌≡◌, ℕ, zero, suc, ◌+◌, ◌-◌, min, max, Bool, false, if◌then◌else◌, nat_eq, List, [], ◌∷◌, length, Option, Some, None, Result, OnOk, OnErr, IfOk}
use Rattle.leaf_buffer.specs.Contents.{Contents, appended, extended}
use Rattle.rope_node.specs.declared.node.NodeId.{NodeId}
use Rattle.rope_node.specs.declared.node.NodeView.{NodeView}
use Rattle.rope_node.specs.declared.node.NodeView.TheVariants.{Lit, Src, Fun, Cat, Sub}
use Rattle.rope_node.specs.Table.{Table, view_at, len_at, depth_at}
use Rattle.rope_node.specs.Denotes.{Cell, rope_cells, IsRope}
use Rattle.rope_node.specs.Extends.{Extends}
use Rattle.node_table.specs.declared.record.Record.{Record}
use Rattle.node_table.specs.declared.fault.NodeFault.{NodeFault}
use Rattle.node_table.specs.Records.{literal_record, source_record, function_record, concatenation_record, part_record}
use Rattle.node_table.specs.Held.{Held, table_of, with_records}

-- bytes for the pool's end, whether the last piece grows by them in place, nodes behind the others, and the rope that
-- is answered
pub record Addition (F : Type 0) : Type 0 where
  pub bytes : List ℕ
  pub in_place : Bool
  pub records : List (Record F)
  pub rope : Option NodeId

abbrev pub pool_with : Contents → Bool → List ℕ → Contents
pool_with pool in_place bytes = if in_place then extended pool bytes else appended pool bytes

abbrev pub after : {F : Type 0} → Held F → Addition F → Held F
after h a = with_records h (pool_with h.pool a.in_place a.bytes) a.records

-- the call made this addition, its rope denotes these cells, and what was there is kept; or nothing changed
pub record Makes {F : Type 0} (meaning : F → ℕ → ℕ) (old : Held F) (a : Addition F) (wanted : List Cell)
    (result : Result (Option NodeId) NodeFault) (new : Held F) : Type 0 where
  pub table : OnOk result (new ≡ after old a)
  pub rope : IfOk result (λ rope. rope ≡ a.rope)
  pub is_rope : IfOk result (λ rope. IsRope (table_of meaning new) rope)
  pub text : IfOk result (λ rope. rope_cells (table_of meaning new) rope ≡ wanted)
  pub kept : Extends (table_of meaning old) (table_of meaning new)
  pub unchanged : OnErr result (new ≡ old)

-- the k-th new node
abbrev pub new_node : Table → ℕ → NodeId
new_node t k = record { 0 = length t.nodes + k }

abbrev pub nothing : {F : Type 0} → Option NodeId → Addition F
nothing rope = record { bytes = []; in_place = false; records = []; rope = rope }

-- one node and no byte
abbrev pub one_node : {F : Type 0} → Table → Record F → Addition F
one_node t r = record { bytes = []; in_place = false; records = r ∷ []; rope = Some (new_node t 0) }

abbrev pub one_literal : {F : Type 0} → Table → List ℕ → Addition F
one_literal t bytes = record {
  bytes = bytes;
  in_place = false;
  records = literal_record (length t.pool) (length bytes) ∷ [];
  rope = Some (new_node t 0);
}

abbrev pub bytes_added : {F : Type 0} → Table → List ℕ → Addition F
bytes_added t [] = nothing None
bytes_added t (b ∷ bs) = one_literal t (b ∷ bs)

abbrev pub function_added : {F : Type 0} → Table → F → ℕ → Addition F
function_added t f zero = nothing None
function_added t f (suc n) = one_node t (function_record f (suc n))

abbrev pub source_added : {F : Type 0} → Table → ℕ → ℕ → ℕ → Addition F
source_added t s a zero = nothing None
source_added t s a (suc n) = one_node t (source_record s a (suc n))

-- two nodes under one
abbrev pub concatenated : {F : Type 0} → Table → NodeId → NodeId → Addition F
concatenated t l r =
    one_node t (concatenation_record l r (len_at t l.0 + len_at t r.0) (1 + max (depth_at t l.0) (depth_at t r.0)))

-- the n bytes of a node from i on, which are some and not all of it
abbrev pub inner_part : {F : Type 0} → Table → NodeId → ℕ → ℕ → NodeView → Addition F
inner_part t x i n (Lit a) = one_node t (literal_record (a + i) n)
inner_part t x i n (Src s a) = one_node t (source_record s (a + i) n)
inner_part t x i n Fun = one_node t (part_record x i n (1 + depth_at t x.0))
inner_part t x i n (Cat l r) = one_node t (part_record x i n (1 + depth_at t x.0))
inner_part t x i n (Sub b j) = one_node t (part_record b (j + i) n (1 + depth_at t b.0))

abbrev pub node_part : {F : Type 0} → Table → NodeId → ℕ → ℕ → Addition F
node_part t x i zero = nothing None
node_part t x i (suc n) =
    if nat_eq (suc n) (len_at t x.0) then nothing (Some x) else inner_part t x i (suc n) (view_at t x.0)

-- the bytes from i on, at most n
abbrev pub part_added : {F : Type 0} → Table → Option NodeId → ℕ → ℕ → Addition F
part_added t None i n = nothing None
part_added t (Some x) i n = node_part t x i (min n (len_at t x.0 - i))
