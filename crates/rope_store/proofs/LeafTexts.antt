-- Texts of one leaf, and further sources.
use Rattle.std.proofs.Common.{◌≡◌, ℕ, zero, suc, ◌+◌, ◌<◌, ◌≤◌, List, [], ◌∷◌, length, map, get_or, Some, None, Ok, refl, subst, arith}
use Rattle.std.specs.List.{slice_range, range_with_len}
use Rattle.leaf_buffer.specs.declared.block.TheConstants.{BLOCK_SIZE}
use Rattle.rope_node.specs.declared.limits.TheConstants.{TEXT_LIMIT}
use Rattle.leaf_buffer.specs.Contents.{appended}
use Rattle.rope_node.specs.Table.{Table}
use Rattle.rope_node.specs.Denotes.{Byte, Place}
use Rattle.node_table.specs.Held.{Held, table_of}
use Rattle.node_table.specs.Held.{IsKept}
use Rattle.node_table.specs.Records.{literal_record, source_record, function_record}
use Rattle.rope_store.specs.Additions.{Addition, new_node, one_node, one_literal, bytes_added, function_added, source_added, Makes}
use Rattle.rope_store.specs.Refusals.{Refuses}
use Rattle.leaf_buffer.proofs.Appending.{appended_bytes, in_one_block_appended}
use Rattle.leaf_buffer.proofs.PoolGrowth.{grows_appended, slice_at_end}
use Rattle.rope_store.proofs.Growth.{holds_of}
use Rattle.rope_store.proofs.Made.{makes_nothing, refuses_none}
use Rattle.rope_store.proofs.Nodes.{IsGood, literal_good, source_good, function_good}

pub some_bytes : {F : Type 0} (t : Table) (bytes : List ℕ) → 0 < length bytes → ◌≡◌ {A = Addition F} (bytes_added t bytes) (one_literal t bytes)
some_bytes t [] some = absurd (omega arith)
some_bytes t (b ∷ bs) some = refl

pub some_function : {F : Type 0} (t : Table) (f : F) (n : ℕ) → 0 < n → function_added t f n ≡ one_node t (function_record f n)
some_function t f zero some = absurd (omega arith)
some_function t f (suc n) some = refl

pub some_source : {F : Type 0} (t : Table) (s a n : ℕ) → 0 < n → ◌≡◌ {A = Addition F} (source_added t s a n) (one_node t (source_record s a n))
some_source t s a zero some = absurd (omega arith)
some_source t s a (suc n) some = refl

-- no bytes make nothing
pub makes_no_bytes : {F : Type 0} (meaning : F → ℕ → ℕ) (h : Held F) (bytes : List ℕ) → length bytes ≡ 0 → Makes meaning h (bytes_added (table_of meaning h) bytes) (map Byte bytes) (Ok None) h
makes_no_bytes meaning h [] none = makes_nothing meaning h None [] tt refl
makes_no_bytes meaning h (b ∷ bs) none = absurd (omega arith)

pub refuses_no_bytes : {F : Type 0} (meaning : F → ℕ → ℕ) (h : Held F) → IsKept meaning h → (bytes : List ℕ) → length bytes ≡ 0 → Refuses h (bytes_added (table_of meaning h) bytes) ⊥ (BLOCK_SIZE < length bytes) (Ok None)
refuses_no_bytes meaning h store [] none = refuses_none h ⊥ (BLOCK_SIZE < 0) None store.few store.pool (λ bad. bad) (λ (many : BLOCK_SIZE < 0). absurd (omega (arith, many)))
refuses_no_bytes meaning h store (b ∷ bs) none = absurd (omega arith)

pub makes_no_function : {F : Type 0} (meaning : F → ℕ → ℕ) (h : Held F) (f : F) (n : ℕ) → n ≡ 0 → Makes meaning h (function_added (table_of meaning h) f n) (map (λ k. Byte (meaning f k)) (range_with_len 0 n)) (Ok None) h
makes_no_function meaning h f zero none = makes_nothing meaning h None [] tt refl
makes_no_function meaning h f (suc n) none = absurd (omega arith)

pub refuses_no_function : {F : Type 0} (meaning : F → ℕ → ℕ) (h : Held F) → IsKept meaning h → (f : F) (n : ℕ) → n ≡ 0 → Refuses h (function_added (table_of meaning h) f n) ⊥ (TEXT_LIMIT ≤ n) (Ok None)
refuses_no_function meaning h store f zero none = refuses_none h ⊥ (TEXT_LIMIT ≤ 0) None store.few store.pool (λ bad. bad) (λ (many : TEXT_LIMIT ≤ 0). absurd (omega (arith, many)))
refuses_no_function meaning h store f (suc n) none = absurd (omega arith)

-- bytes that are put are a literal
pub bytes_good : {F : Type 0} (meaning : F → ℕ → ℕ) (h : Held F) → IsKept meaning h → (bytes : List ℕ) → 0 < length bytes → length bytes ≤ BLOCK_SIZE → IsGood meaning h (appended h.pool bytes) (literal_record (length h.pool.bytes) (length bytes) ∷ []) (Some (new_node (table_of meaning h) 0)) (map Byte bytes)
bytes_good {F = F} meaning h store bytes some fits =
    let is : slice_range (appended h.pool bytes).bytes (length h.pool.bytes) (length h.pool.bytes + length bytes) ≡ bytes =
    rw (appended_bytes h.pool bytes) (slice_at_end h.pool.bytes bytes (length h.pool.bytes) (length bytes) refl refl) in
    subst (λ (bs : List ℕ). IsGood meaning h (appended h.pool bytes) (literal_record (length h.pool.bytes) (length bytes) ∷ []) (Some (new_node (table_of meaning h) 0)) (map Byte bs)) is
    (literal_good meaning h (appended h.pool bytes) (length h.pool.bytes) (length bytes) (holds_of meaning h store) (grows_appended h.pool bytes store.borders) (in_one_block_appended h.pool bytes store.borders) some (omega (arith, fits)))

pub fun_good : {F : Type 0} (meaning : F → ℕ → ℕ) (h : Held F) → IsKept meaning h → (f : F) (n : ℕ) → 0 < n → n < TEXT_LIMIT → IsGood meaning h (appended h.pool []) (function_record f n ∷ []) (Some (new_node (table_of meaning h) 0)) (map (λ k. Byte (meaning f k)) (range_with_len 0 n))
fun_good meaning h store f n some short = function_good meaning h (appended h.pool []) f n (holds_of meaning h store) (grows_appended h.pool [] store.borders) some short

pub src_good : {F : Type 0} (meaning : F → ℕ → ℕ) (h : Held F) → IsKept meaning h → (s a n : ℕ) → s < length h.sources → a + n ≤ get_or h.sources s 0 → 0 < n → IsGood meaning h (appended h.pool []) (source_record s a n ∷ []) (Some (new_node (table_of meaning h) 0)) (map (Place s) (range_with_len a n))
src_good meaning h store s a n there inside some = source_good meaning h (appended h.pool []) s a n (holds_of meaning h store) (grows_appended h.pool [] store.borders) there inside some
