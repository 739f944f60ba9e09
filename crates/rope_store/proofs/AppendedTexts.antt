-- What is said of bytes put behind a rope, in each case.
use Rattle.std.proofs.Common.{◌≡◌, ℕ, ◌+◌, ◌<◌, ◌≤◌, ⊎_elim, List, [], ◌∷◌, ◌++◌, length, map, Option, Some, None, Result, Ok, Err, refl, sym, arith}
use Rattle.std.proofs.lemmas.List.{append-nil}
use Rattle.leaf_buffer.specs.declared.block.TheConstants.{BLOCK_SIZE}
use Rattle.rope_node.specs.declared.limits.TheConstants.{TEXT_LIMIT}
use Rattle.rope_node.specs.declared.node.NodeId.{NodeId}
use Rattle.rope_node.specs.Denotes.{Byte, rope_cells, rope_len, IsRope}
use Rattle.node_table.specs.declared.fault.NodeFault.{NodeFault}
use Rattle.node_table.specs.declared.fault.NodeFault.TheVariants.{TooLong}
use Rattle.node_table.specs.Held.{Held, table_of}
use Rattle.node_table.specs.Held.{IsKept}
use Rattle.rope_store.specs.Additions.{nothing, Makes}
use Rattle.rope_store.specs.Joining.{merged}
use Rattle.rope_store.specs.Appending.{AppendsTooLong, Appends, AppendsTo}
use Rattle.rope_store.specs.Refusals.{Refuses}
use Rattle.rope_store.proofs.Made.{makes_as, makes_none, makes_nothing, refuses_none, refuses_length, refuses_more}

pub appends_nothing : {F : Type 0} (meaning : F → ℕ → ℕ) (h : Held F) → IsKept meaning h → (x : Option NodeId) (bytes : List ℕ) → IsRope (table_of meaning h) x → rope_len (table_of meaning h) x < TEXT_LIMIT → length bytes ≡ 0 → Appends meaning h x bytes (Ok x) h
appends_nothing meaning h store x [] there short none =
    let t = table_of meaning h in
    record {
      addition = nothing x;
      is = λ _. refl;
      makes = makes_as refl (sym (append-nil (rope_cells t x))) (makes_nothing meaning h x (rope_cells t x) there refl);
      refuses =
          refuses_none h ⊥ (AppendsTooLong t x []) x store.few store.pool (λ bad. bad)
          (λ long. ⊎_elim (λ (many : BLOCK_SIZE < 0). absurd (omega (arith, many))) (λ (far : TEXT_LIMIT ≤ rope_len t x + 0). absurd (omega (arith, far, short))) long);
    }
appends_nothing meaning h store x (b ∷ bs) there short none = absurd (omega arith)

pub appends_none : {F : Type 0} (meaning : F → ℕ → ℕ) (h : Held F) (x : Option NodeId) (bytes : List ℕ) → AppendsTooLong (table_of meaning h) x bytes → Appends meaning h x bytes (Err TooLong) h
appends_none meaning h x bytes long = record {
  addition = nothing None;
  is = λ short. absurd (short long);
  makes = makes_none meaning h (nothing None) (rope_cells (table_of meaning h) x ++ map Byte bytes) TooLong;
  refuses = refuses_length h (nothing None) ⊥ (AppendsTooLong (table_of meaning h) x bytes) (λ bad. bad) long;
}

pub appends_first : {F : Type 0} (meaning : F → ℕ → ℕ) (h : Held F) (bytes : List ℕ) (result : Result (Option NodeId) NodeFault) (new : Held F) → 1 ≤ length bytes → ¬ AppendsTooLong (table_of meaning h) None bytes → Makes meaning h (merged (table_of meaning h) None bytes) (map Byte bytes) result new → Refuses h (merged (table_of meaning h) None bytes) ⊥ ⊥ result → Appends meaning h None bytes result new
appends_first meaning h [] result new some short made refused = absurd (omega arith)
appends_first meaning h (b ∷ bs) result new some short made refused = record { addition = merged (table_of meaning h) None (b ∷ bs); is = λ _. refl; makes = made; refuses = refuses_more short refused }

pub appends_node : {F : Type 0} (meaning : F → ℕ → ℕ) (h : Held F) (x : NodeId) (bytes : List ℕ) (result : Result (Option NodeId) NodeFault) (new : Held F) → 1 ≤ length bytes → ¬ AppendsTooLong (table_of meaning h) (Some x) bytes → AppendsTo meaning h x bytes result new → Appends meaning h (Some x) bytes result new
appends_node meaning h x [] result new some short to = absurd (omega arith)
appends_node meaning h x (b ∷ bs) result new some short to = record { addition = to.addition; is = λ _. to.is; makes = to.makes; refuses = refuses_more short to.refuses }
