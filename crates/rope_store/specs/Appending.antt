-- What bytes put behind a rope add.
use Rattle.std.specs.Prelude.{◌≡◌, ◌⊎◌, ℕ, ◌+◌, ◌<◌, ◌≤◌, true, false, List, [], ◌∷◌, ◌++◌, length, map, Option, Some, None, Result}
use Rattle.leaf_buffer.specs.declared.block.TheConstants.{BLOCK_SIZE}
use Rattle.leaf_buffer.specs.declared.piece.Piece.{Piece}
use Rattle.leaf_buffer.specs.Contents.{Contents, CanExtend}
use Rattle.rope_node.specs.declared.limits.TheConstants.{TEXT_LIMIT}
use Rattle.rope_node.specs.declared.node.NodeId.{NodeId}
use Rattle.rope_node.specs.declared.node.NodeView.{NodeView}
use Rattle.rope_node.specs.declared.node.NodeView.TheVariants.{Lit, Src, Fun, Cat, Sub}
use Rattle.rope_node.specs.Table.{Table, view_at, len_at, depth_at}
use Rattle.rope_node.specs.Denotes.{Byte, cells, rope_cells, rope_len}
use Rattle.node_table.specs.declared.fault.NodeFault.{NodeFault}
use Rattle.node_table.specs.Held.{Held, table_of}
use Rattle.rope_store.specs.declared.endings.Ending.{Ending}
use Rattle.node_table.specs.Records.{literal_record, concatenation_record}
use Rattle.rope_store.specs.Additions.{Addition, new_node, nothing, Makes}
use Rattle.rope_store.specs.Refusals.{Refuses}
use Rattle.rope_store.specs.Joining.{ending_of, ending_with, piece, merged}

-- the place of a literal in the pool
abbrev pub literal_place : NodeView → ℕ
literal_place (Lit a) = a
literal_place (Src s a) = 0
literal_place Fun = 0
literal_place (Cat l r) = 0
literal_place (Sub b i) = 0

-- the piece of the pool that a literal is
abbrev pub pool_piece : Table → NodeId → Piece
pool_piece t x = record { start = literal_place (view_at t x.0); len = len_at t x.0 }

-- the literal, longer by bytes that are written behind it, and behind what stands before it
abbrev pub grown : {F : Type 0} → Table → Option NodeId → ℕ → ℕ → List ℕ → Addition F
grown t None a n bytes = record {
  bytes = bytes;
  in_place = true;
  records = literal_record a (n + length bytes) ∷ [];
  rope = Some (new_node t 0);
}
grown t (Some l) a n bytes = record {
  bytes = bytes;
  in_place = true;
  records = literal_record a (n + length bytes)
      ∷ concatenation_record l (new_node t 0) (len_at t l.0 + (n + length bytes)) (1 + depth_at t l.0) ∷ [];
  rope = Some (new_node t 1);
}

-- how long a text is once its ending is longer by n bytes
abbrev pub grown_len : Table → Ending → ℕ → ℕ
grown_len t e n = rope_len t e.before + (len_at t e.literal.0 + n)

-- the same where the literal ends a text
abbrev pub grown_by : {F : Type 0} → Table → Ending → List ℕ → Addition F
grown_by t e bytes = grown t e.before (literal_place (view_at t e.literal.0)) (len_at t e.literal.0) bytes

-- a literal of the bytes, and then one of the ending's bytes and these, behind what stands before the ending
abbrev pub merged_after : {F : Type 0} → Table → Option NodeId → List ℕ → List ℕ → Addition F
merged_after t None bytes all = record {
  bytes = bytes ++ all;
  in_place = false;
  records = literal_record (length t.pool) (length bytes) ∷ literal_record (length t.pool + length bytes) (length all)
      ∷ [];
  rope = Some (new_node t 1);
}
merged_after t (Some l) bytes all = record {
  bytes = bytes ++ all;
  in_place = false;
  records = literal_record (length t.pool) (length bytes) ∷ literal_record (length t.pool + length bytes) (length all)
      ∷ concatenation_record l (new_node t 1) (len_at t l.0 + length all) (1 + depth_at t l.0) ∷ [];
  rope = Some (new_node t 2);
}

abbrev pub copied : {F : Type 0} → Table → NodeId → List ℕ → Option Ending → Addition F
copied t x bytes None = merged t (Some x) bytes
copied t x bytes (Some e) = merged_after t e.before bytes (piece t e.literal ++ bytes)

-- the bytes put behind a node so
abbrev pub copied_behind : {F : Type 0} → Table → NodeId → List ℕ → Addition F
copied_behind t x bytes = copied t x bytes (ending_with t x (length bytes))

-- the literal that ends a text can grow in place by n bytes
abbrev pub CanGrow : Contents → Table → Ending → ℕ → Type 0
CanGrow pool t e n = CanExtend pool (pool_piece t e.literal) n

-- the node ends with this literal, which is this piece of the pool and can grow in place by n bytes
pub record IsGrowing (pool : Contents) (t : Table) (x : NodeId) (n : ℕ) (e : Ending) (p : Piece) : Type 0 where
  pub ending : ending_of t x ≡ Some e
  pub piece : p ≡ pool_piece t e.literal
  pub grows : CanGrow pool t e n

-- no literal that the node ends with can
abbrev pub CannotGrow : Contents → Table → NodeId → ℕ → Type 0
CannotGrow pool t x n = (e : Ending) → ending_of t x ≡ Some e → ¬ CanGrow pool t e n

-- where the literal that the node ends with can grow, it does, and else the bytes are a literal, which merges or not
pub record IsAppendTo {F : Type 0} (pool : Contents) (t : Table) (x : NodeId) (bytes : List ℕ) (a : Addition F)
    : Type 0 where
  pub in_place : (e : Ending) → ending_of t x ≡ Some e → CanGrow pool t e (length bytes) → a ≡ grown_by t e bytes
  pub copied : CannotGrow pool t x (length bytes) → a ≡ copied_behind t x bytes

abbrev pub IsAppend : {F : Type 0} → Contents → Table → Option NodeId → List ℕ → Addition F → Type 0
IsAppend pool t x [] a = a ≡ nothing x
IsAppend pool t None (b ∷ bs) a = a ≡ merged t None (b ∷ bs)
IsAppend pool t (Some x) (b ∷ bs) a = IsAppendTo pool t x (b ∷ bs) a

-- more bytes than a call takes, or than a text has
abbrev pub AppendsTooLong : Table → Option NodeId → List ℕ → Type 0
AppendsTooLong t x bytes = (BLOCK_SIZE < length bytes) ⊎ (TEXT_LIMIT ≤ rope_len t x + length bytes)

-- what a call did that puts bytes behind a rope
pub record Appends {F : Type 0} (meaning : F → ℕ → ℕ) (old : Held F) (x : Option NodeId) (bytes : List ℕ)
    (result : Result (Option NodeId) NodeFault) (new : Held F) : Type 0 where
  pub addition : Addition F
  pub is : ¬ AppendsTooLong (table_of meaning old) x bytes → IsAppend old.pool (table_of meaning old) x bytes addition
  pub makes : Makes meaning old addition (rope_cells (table_of meaning old) x ++ map Byte bytes) result new
  pub refuses : Refuses old addition ⊥ (AppendsTooLong (table_of meaning old) x bytes) result

-- the same where bytes are put behind a node, and nothing is too long
pub record AppendsTo {F : Type 0} (meaning : F → ℕ → ℕ) (old : Held F) (x : NodeId) (bytes : List ℕ)
    (result : Result (Option NodeId) NodeFault) (new : Held F) : Type 0 where
  pub addition : Addition F
  pub is : IsAppendTo old.pool (table_of meaning old) x bytes addition
  pub makes : Makes meaning old addition (cells (table_of meaning old) x.0 ++ map Byte bytes) result new
  pub refuses : Refuses old addition ⊥ ⊥ result
