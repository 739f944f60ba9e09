-- From what is put into a table to what a call says of it.
use Rattle.std.proofs.Common.{◌≡◌, ℕ, ◌+◌, ◌-◌, ◌<◌, ◌≤◌, ◌⊎◌, inl, inr, ⊎_elim, true, false, List, [], ◌∷◌, length, Option, Some, Result, Ok, Err, refl, sym, ap, subst, arith}
use Rattle.std.specs.Prelude.{◌↔◌, OnOk, OnErr, IfOk, IfErr, IsErrOf}
use Rattle.std.proofs.lemmas.Bool.{cases_lt}
use Rattle.std.proofs.lemmas.List.{append-nil}
use Rattle.leaf_buffer.specs.declared.pool.TheConstants.{POOL_LIMIT}
use Rattle.rope_node.specs.declared.limits.TheConstants.{MOST_NODES}
use Rattle.leaf_buffer.specs.Contents.{appended, extended}
use Rattle.rope_node.specs.declared.node.NodeId.{NodeId}
use Rattle.rope_node.specs.Denotes.{Cell, rope_cells, IsRope}
use Rattle.rope_node.specs.Extends.{Extends}
use Rattle.rope_node.proofs.Ropes.{extends_itself}
use Rattle.node_table.specs.declared.record.Record.{Record}
use Rattle.node_table.specs.declared.fault.NodeFault.{NodeFault}
use Rattle.node_table.specs.declared.fault.NodeFault.TheVariants.{TooLong, TooDeep, TableFull, PoolFull, BadSpan, TooManySources, Memory}
use Rattle.node_table.specs.Held.{Held, table_of, with_records}
use Rattle.node_table.specs.Held.{IsKept}
use Rattle.rope_store.specs.Additions.{Addition, pool_with, after, nothing, Makes}
use Rattle.rope_store.specs.Refusals.{deepest, IsTooDeep, IsTableFull, PassesPoolLimit, Refuses}
use Rattle.leaf_buffer.proofs.Appending.{appended_nothing}
use Rattle.leaf_buffer.proofs.PoolGrowth.{PoolGrows, grows_extended, grows_appended}
use Rattle.rope_store.proofs.Growth.{extends_with}
use Rattle.rope_store.proofs.Nodes.{IsGood}

pub after_nothing : {F : Type 0} (h : Held F) (rope : Option NodeId) → after h (nothing rope) ≡ h
after_nothing h rope = λ i. record { nodes = append-nil h.nodes i; functions = append-nil h.functions i; pool = appended_nothing h.pool i; sources = h.sources }

pub makes : {F : Type 0} (meaning : F → ℕ → ℕ) (h : Held F) (a : Addition F) (wanted : List Cell) → length h.functions ≡ length h.nodes → PoolGrows h.pool (pool_with h.pool a.in_place a.bytes) → IsGood meaning h (pool_with h.pool a.in_place a.bytes) a.records a.rope wanted
    → (result : Result (Option NodeId) NodeFault) (new : Held F) → OnOk result (new ≡ after h a) → IfOk result (λ rope. rope ≡ a.rope) → IsKept meaning new → OnErr result (new ≡ h) → Makes meaning h a wanted result new
makes {F = F} meaning h a wanted same grows good (Ok x) new ok rope stored err =
    let store : IsKept meaning (after h a) = subst (λ (k : Held F). IsKept meaning k) ok stored in
    let here : Makes meaning h a wanted (Ok a.rope) (after h a) = record {
      table = refl;
      rope = refl;
      is_rope = good.is_rope;
      text = good.text store.pool;
      kept = extends_with meaning h (pool_with h.pool a.in_place a.bytes) a.records same grows;
      unchanged = tt;
    } in
    subst (λ (k : Held F). Makes meaning h a wanted (Ok x) k) (sym ok) (subst (λ (y : Option NodeId). Makes meaning h a wanted (Ok y) (after h a)) (sym rope) here)
makes {F = F} meaning h a wanted same grows good (Err e) new ok rope stored err = record {
  table = tt;
  rope = tt;
  is_rope = tt;
  text = tt;
  kept = subst (λ (k : Held F). Extends (table_of meaning h) (table_of meaning k)) (sym err) (extends_itself (table_of meaning h));
  unchanged = err;
}

-- a call that refuses
pub makes_none : {F : Type 0} (meaning : F → ℕ → ℕ) (h : Held F) (a : Addition F) (wanted : List Cell) (e : NodeFault) → Makes meaning h a wanted (Err e) h
makes_none meaning h a wanted e = record { table = tt; rope = tt; is_rope = tt; text = tt; kept = extends_itself (table_of meaning h); unchanged = refl }

-- a call that answers a rope that is there
pub makes_nothing : {F : Type 0} (meaning : F → ℕ → ℕ) (h : Held F) (rope : Option NodeId) (wanted : List Cell) → IsRope (table_of meaning h) rope → rope_cells (table_of meaning h) rope ≡ wanted → Makes meaning h (nothing rope) wanted (Ok rope) h
makes_nothing meaning h rope wanted there is = record { table = sym (after_nothing h rope); rope = refl; is_rope = there; text = is; kept = extends_itself (table_of meaning h); unchanged = tt }

pub refuses_span : {F : Type 0} (old : Held F) (a : Addition F) (IsBad IsLong : Type 0) → IsBad → Refuses old a IsBad IsLong (Err BadSpan)
refuses_span old a IsBad IsLong bad = record {
  bad_span = (λ _. bad, λ _. refl);
  too_long = (λ e. absurd cc, λ h. absurd (h.0 bad));
  too_deep = (λ e. absurd cc, λ h. absurd (h.0 bad));
  table_full = (λ e. absurd cc, λ h. absurd (h.0 bad));
  pool_full = (λ e. absurd cc, λ h. absurd (h.0 bad));
  no_other = λ e. absurd cc;
  memory = λ e. absurd cc;
}

pub refuses_length : {F : Type 0} (old : Held F) (a : Addition F) (IsBad IsLong : Type 0) → ¬ IsBad → IsLong → Refuses old a IsBad IsLong (Err TooLong)
refuses_length old a IsBad IsLong fine long = record {
  bad_span = (λ e. absurd cc, λ h. absurd (fine h));
  too_long = (λ _. (fine, long), λ _. refl);
  too_deep = (λ e. absurd cc, λ h. absurd (h.1 long));
  table_full = (λ e. absurd cc, λ h. absurd (h.1 long));
  pool_full = (λ e. absurd cc, λ h. absurd (h.1 long));
  no_other = λ e. absurd cc;
  memory = λ e. absurd cc;
}

pub refuses_depth : {F : Type 0} (old : Held F) (a : Addition F) (IsBad IsLong : Type 0) → ¬ IsBad → ¬ IsLong → IsTooDeep a → Refuses old a IsBad IsLong (Err TooDeep)
refuses_depth old a IsBad IsLong fine short deep = record {
  bad_span = (λ e. absurd cc, λ h. absurd (fine h));
  too_long = (λ e. absurd cc, λ h. absurd (short h.1));
  too_deep = (λ _. (fine, short, deep), λ _. refl);
  table_full = (λ e. absurd cc, λ h. absurd (h.2 deep));
  pool_full = (λ e. absurd cc, λ h. absurd (h.2 deep));
  no_other = λ e. absurd cc;
  memory = λ e. absurd cc;
}

-- a call that makes nothing refuses nothing
pub refuses_none : {F : Type 0} (old : Held F) (IsBad IsLong : Type 0) (rope : Option NodeId) → length old.nodes ≤ MOST_NODES → length old.pool.bytes < POOL_LIMIT → ¬ IsBad → ¬ IsLong → Refuses old (nothing rope) IsBad IsLong (Ok rope)
refuses_none old IsBad IsLong rope few small fine short = record {
  bad_span = (λ e. absurd cc, λ h. absurd (fine h));
  too_long = (λ e. absurd cc, λ h. absurd (short h.1));
  too_deep = (λ e. absurd cc, λ h. absurd (omega (arith, h.2)));
  table_full = (λ e. absurd cc, λ h. absurd (omega (arith, h.3)));
  pool_full = (λ e. absurd cc, λ h. absurd (omega (arith, h.4)));
  no_other = λ e. absurd cc;
  memory = λ e. absurd cc;
}

-- why a table takes nothing
abbrev pub IsTableFault : NodeFault → Type 0
IsTableFault e = (e ≡ TableFull) ⊎ ((e ≡ PoolFull) ⊎ (e ≡ Memory))

fault_at : (result : Result (Option NodeId) NodeFault) (e : NodeFault) → IfErr result IsTableFault → result ≡ Err e → IsTableFault e
fault_at result e faults is = subst (λ (r : Result (Option NodeId) NodeFault). IfErr r IsTableFault) is faults

-- a call that leaves the rest to the table
pub refuses_rest : {F : Type 0} (old : Held F) (a : Addition F) (IsBad IsLong : Type 0) → ¬ IsBad → ¬ IsLong → ¬ IsTooDeep a → 1 ≤ length a.records → (result : Result (Option NodeId) NodeFault) → (IsErrOf result TableFull ↔ IsTableFull old a)
    → (IsErrOf result PoolFull ↔ ((length old.nodes + length a.records ≤ MOST_NODES) × PassesPoolLimit old a)) → IfErr result IsTableFault → Refuses old a IsBad IsLong result
refuses_rest old a IsBad IsLong fine short shallow some result table_full pool_full faults = record {
  bad_span = (λ e. other (fault_at result BadSpan faults e) (λ x. cc) (λ x. cc) (λ x. cc), λ h. absurd (fine h));
  too_long = (λ e. other (fault_at result TooLong faults e) (λ x. cc) (λ x. cc) (λ x. cc), λ h. absurd (short h.1));
  too_deep = (λ e. other (fault_at result TooDeep faults e) (λ x. cc) (λ x. cc) (λ x. cc), λ h. absurd (shallow h.2));
  table_full = (λ e. (fine, short, shallow, table_full.0 e), λ h. table_full.1 h.3);
  pool_full = (
    λ e. let p = pool_full.0 e in (fine, short, shallow, (λ full. absurd (omega (arith, full, p.0))), p.1),
    λ h. pool_full.1 (⊎_elim (λ (full : MOST_NODES < length old.nodes + length a.records). absurd (h.3 full)) (λ (free : length old.nodes + length a.records ≤ MOST_NODES). free) (cases_lt MOST_NODES (length old.nodes + length a.records)), h.4),
  );
  no_other = λ e. other (fault_at result TooManySources faults e) (λ x. cc) (λ x. cc) (λ x. cc);
  memory = λ e. some;
}
  where
    other : {A : Type 0} {e : NodeFault} → IsTableFault e → ¬ (e ≡ TableFull) → ¬ (e ≡ PoolFull) → ¬ (e ≡ Memory) → A
    other h p q r = ⊎_elim (λ x. absurd (p x)) (λ k. ⊎_elim (λ x. absurd (q x)) (λ x. absurd (r x)) k) h

-- what a call says that puts these nodes
pub put_makes : {F : Type 0} (meaning : F → ℕ → ℕ) (h : Held F) (a : Addition F) (wanted : List Cell) (bytes : List ℕ) (rs got : List (Record F)) → IsKept meaning h → a ≡ record { bytes = bytes; in_place = false; records = rs; rope = Some (record { 0 = length h.nodes + (length rs - 1) }) }
    → IsGood meaning h (appended h.pool bytes) rs (Some (record { 0 = length h.nodes + (length rs - 1) })) wanted → got ≡ rs → (result : Result (Option NodeId) NodeFault) (new : Held F) → OnOk result (new ≡ with_records h (appended h.pool bytes) got)
    → IfOk result (λ rope. rope ≡ Some (record { 0 = length h.nodes + (length got - 1) })) → IsKept meaning new → OnErr result (new ≡ h) → Makes meaning h a wanted result new
put_makes {F = F} meaning h a wanted bytes rs got store is good same result new ok rope stored err =
    let put : Addition F = record { bytes = bytes; in_place = false; records = rs; rope = Some (record { 0 = length h.nodes + (length rs - 1) }) } in
    let ok' : OnOk result (new ≡ with_records h (appended h.pool bytes) rs) = subst (λ (xs : List (Record F)). OnOk result (new ≡ with_records h (appended h.pool bytes) xs)) same ok in
    let rope' : IfOk result (λ rope. rope ≡ Some (record { 0 = length h.nodes + (length rs - 1) })) = subst (λ (xs : List (Record F)). IfOk result (λ rope. rope ≡ Some (record { 0 = length h.nodes + (length xs - 1) }))) same rope in
    subst (λ (b : Addition F). Makes meaning h b wanted result new) (sym is) (makes meaning h put wanted store.functions (grows_appended h.pool bytes store.borders) good result new ok' rope' stored err)

pub put_refuses : {F : Type 0} (h : Held F) (a : Addition F) (bytes : List ℕ) (rs got : List (Record F)) (IsBad IsLong : Type 0) → a ≡ record { bytes = bytes; in_place = false; records = rs; rope = Some (record { 0 = length h.nodes + (length rs - 1) }) } → ¬ IsBad → ¬ IsLong → 1 ≤ length rs → deepest rs ≤ 64 → got ≡ rs
    → (result : Result (Option NodeId) NodeFault) → (IsErrOf result TableFull ↔ (MOST_NODES < length h.nodes + length got)) → (IsErrOf result PoolFull ↔ ((length h.nodes + length got ≤ MOST_NODES) × (POOL_LIMIT ≤ length h.pool.bytes + length bytes))) → IfErr result IsTableFault → Refuses h a IsBad IsLong result
put_refuses {F = F} h a bytes rs got IsBad IsLong is fine short some shallow same result table_full pool_full faults =
    let put : Addition F = record { bytes = bytes; in_place = false; records = rs; rope = Some (record { 0 = length h.nodes + (length rs - 1) }) } in
    let table' : IsErrOf result TableFull ↔ (MOST_NODES < length h.nodes + length rs) = subst (λ (xs : List (Record F)). IsErrOf result TableFull ↔ (MOST_NODES < length h.nodes + length xs)) same table_full in
    let pool' : IsErrOf result PoolFull ↔ ((length h.nodes + length rs ≤ MOST_NODES) × (POOL_LIMIT ≤ length h.pool.bytes + length bytes)) =
    subst (λ (xs : List (Record F)). IsErrOf result PoolFull ↔ ((length h.nodes + length xs ≤ MOST_NODES) × (POOL_LIMIT ≤ length h.pool.bytes + length bytes))) same pool_full in
    subst (λ (b : Addition F). Refuses h b IsBad IsLong result) (sym is) (refuses_rest h put IsBad IsLong fine short (λ deep. absurd (omega (arith, deep, shallow))) some result table' pool' faults)

-- one node that is put
pub one_refuses : {F : Type 0} (h : Held F) (a : Addition F) (bytes : List ℕ) (r got : Record F) (IsBad IsLong : Type 0) → a ≡ record { bytes = bytes; in_place = false; records = r ∷ []; rope = Some (record { 0 = length h.nodes + 0 }) } → ¬ IsBad → ¬ IsLong → r.depth ≤ 64 → got ≡ r
    → (result : Result (Option NodeId) NodeFault) → (IsErrOf result TableFull ↔ (MOST_NODES < length h.nodes + 1)) → (IsErrOf result PoolFull ↔ ((length h.nodes + 1 ≤ MOST_NODES) × (POOL_LIMIT ≤ length h.pool.bytes + length bytes))) → IfErr result IsTableFault → Refuses h a IsBad IsLong result
one_refuses {F = F} h a bytes r got IsBad IsLong is fine short shallow same result table_full pool_full faults =
    let listed : got ∷ [] ≡ r ∷ [] = ap (λ (x : Record F). x ∷ []) same in
    put_refuses h a bytes (r ∷ []) (got ∷ []) IsBad IsLong is fine short (omega arith) (omega (arith, shallow)) listed result table_full pool_full faults

pub leaf_shallow : 0 ≤ 64
leaf_shallow = omega arith

pub one_deep : {F : Type 0} (r : Record F) → 64 < r.depth → 64 < deepest (r ∷ [])
one_deep r deep = omega (arith, deep)

-- the same addition and the same text, written otherwise
pub makes_as : {F : Type 0} {meaning : F → ℕ → ℕ} {h new : Held F} {a b : Addition F} {w v : List Cell} {result : Result (Option NodeId) NodeFault} → a ≡ b → v ≡ w → Makes meaning h b v result new → Makes meaning h a w result new
makes_as {F = F} {meaning = meaning} {h = h} {new = new} {a = a} {b = b} {w = w} {v = v} {result = result} same text made =
    subst (λ (x : List Cell). Makes meaning h a x result new) text (subst (λ (x : Addition F). Makes meaning h x v result new) (sym same) made)

pub refuses_as : {F : Type 0} {h : Held F} {a b : Addition F} {IsBad IsLong : Type 0} {result : Result (Option NodeId) NodeFault} → a ≡ b → Refuses h b IsBad IsLong result → Refuses h a IsBad IsLong result
refuses_as {F = F} {h = h} {a = a} {b = b} {IsBad = IsBad} {IsLong = IsLong} {result = result} same refused = subst (λ (x : Addition F). Refuses h x IsBad IsLong result) (sym same) refused

-- a result that is not too long, as the call has found
pub refuses_more : {F : Type 0} {h : Held F} {a : Addition F} {IsLong : Type 0} {result : Result (Option NodeId) NodeFault} → ¬ IsLong → Refuses h a ⊥ ⊥ result → Refuses h a ⊥ IsLong result
refuses_more short r = record {
  bad_span = r.bad_span;
  too_long = (λ e. absurd (r.too_long.0 e).1, λ k. absurd (short k.1));
  too_deep = (λ e. ((λ bad. bad), short, (r.too_deep.0 e).2), λ k. r.too_deep.1 ((λ bad. bad), (λ long. long), k.2));
  table_full = (λ e. ((λ bad. bad), short, (r.table_full.0 e).2, (r.table_full.0 e).3), λ k. r.table_full.1 ((λ bad. bad), (λ long. long), k.2, k.3));
  pool_full = (
    λ e. ((λ bad. bad), short, (r.pool_full.0 e).2, (r.pool_full.0 e).3, (r.pool_full.0 e).4),
    λ k. r.pool_full.1 ((λ bad. bad), (λ long. long), k.2, k.3, k.4),
  );
  no_other = r.no_other;
  memory = r.memory;
}

-- why a table takes nothing where a literal grows in place
abbrev pub IsGrowthFault : NodeFault → Type 0
IsGrowthFault e = (e ≡ TableFull) ⊎ (e ≡ Memory)

-- what a call says that lets a literal grow
pub grown_makes : {F : Type 0} (meaning : F → ℕ → ℕ) (h : Held F) (a : Addition F) (wanted : List Cell) (bytes : List ℕ) (rs got : List (Record F)) → IsKept meaning h → a ≡ record { bytes = bytes; in_place = true; records = rs; rope = Some (record { 0 = length h.nodes + (length rs - 1) }) }
    → IsGood meaning h (extended h.pool bytes) rs (Some (record { 0 = length h.nodes + (length rs - 1) })) wanted → got ≡ rs → (result : Result (Option NodeId) NodeFault) (new : Held F) → OnOk result (new ≡ with_records h (extended h.pool bytes) got)
    → IfOk result (λ rope. rope ≡ Some (record { 0 = length h.nodes + (length got - 1) })) → IsKept meaning new → OnErr result (new ≡ h) → Makes meaning h a wanted result new
grown_makes {F = F} meaning h a wanted bytes rs got store is good same result new ok rope stored err =
    let put : Addition F = record { bytes = bytes; in_place = true; records = rs; rope = Some (record { 0 = length h.nodes + (length rs - 1) }) } in
    let ok' : OnOk result (new ≡ with_records h (extended h.pool bytes) rs) = subst (λ (xs : List (Record F)). OnOk result (new ≡ with_records h (extended h.pool bytes) xs)) same ok in
    let rope' : IfOk result (λ rope. rope ≡ Some (record { 0 = length h.nodes + (length rs - 1) })) = subst (λ (xs : List (Record F)). IfOk result (λ rope. rope ≡ Some (record { 0 = length h.nodes + (length xs - 1) }))) same rope in
    subst (λ (b : Addition F). Makes meaning h b wanted result new) (sym is) (makes meaning h put wanted store.functions (grows_extended h.pool bytes store.borders) good result new ok' rope' stored err)

growth_fault : (result : Result (Option NodeId) NodeFault) → IfErr result IsGrowthFault → IfErr result IsTableFault
growth_fault (Ok x) faults = tt
growth_fault (Err e) faults = ⊎_elim (λ (full : e ≡ TableFull). inl full) (λ (memory : e ≡ Memory). inr (inr memory)) faults

never_full : (result : Result (Option NodeId) NodeFault) → IfErr result IsGrowthFault → result ≡ Err PoolFull → ⊥
never_full result faults is =
    ⊎_elim (λ (x : PoolFull ≡ TableFull). cc) (λ (x : PoolFull ≡ Memory). cc) (subst (λ (r : Result (Option NodeId) NodeFault). IfErr r IsGrowthFault) is faults)

pub grown_refuses : {F : Type 0} (h : Held F) (a : Addition F) (bytes : List ℕ) (rs got : List (Record F)) → a ≡ record { bytes = bytes; in_place = true; records = rs; rope = Some (record { 0 = length h.nodes + (length rs - 1) }) } → 1 ≤ length rs → deepest rs ≤ 64 → length h.pool.bytes + length bytes < POOL_LIMIT → got ≡ rs
    → (result : Result (Option NodeId) NodeFault) → (IsErrOf result TableFull ↔ (MOST_NODES < length h.nodes + length got)) → IfErr result IsGrowthFault → Refuses h a ⊥ ⊥ result
grown_refuses {F = F} h a bytes rs got is some shallow limit same result table_full faults =
    let put : Addition F = record { bytes = bytes; in_place = true; records = rs; rope = Some (record { 0 = length h.nodes + (length rs - 1) }) } in
    let table' : IsErrOf result TableFull ↔ (MOST_NODES < length h.nodes + length rs) = subst (λ (xs : List (Record F)). IsErrOf result TableFull ↔ (MOST_NODES < length h.nodes + length xs)) same table_full in
    subst (λ (b : Addition F). Refuses h b ⊥ ⊥ result) (sym is)
    (refuses_rest h put ⊥ ⊥ (λ bad. bad) (λ long. long) (λ deep. absurd (omega (arith, deep, shallow))) some result table' (λ e. absurd (never_full result faults e), λ k. absurd (omega (arith, k.1, limit))) (growth_fault result faults))

-- the longer literal, and a node over it
pub grown_leaf_refuses : {F : Type 0} (h : Held F) (a : Addition F) (bytes : List ℕ) (r got : Record F) → a ≡ record { bytes = bytes; in_place = true; records = r ∷ []; rope = Some (record { 0 = length h.nodes + 0 }) } → r.depth ≡ 0 → length h.pool.bytes + length bytes < POOL_LIMIT → got ∷ [] ≡ r ∷ []
    → (result : Result (Option NodeId) NodeFault) → (IsErrOf result TableFull ↔ (MOST_NODES < length h.nodes + 1)) → IfErr result IsGrowthFault → Refuses h a ⊥ ⊥ result
grown_leaf_refuses h a bytes r got is leaf limit same result table_full faults = grown_refuses h a bytes (r ∷ []) (got ∷ []) is (omega arith) (omega (arith, leaf)) limit same result table_full faults

pub grown_pair_refuses : {F : Type 0} (h : Held F) (a : Addition F) (bytes : List ℕ) (r s got more : Record F) → a ≡ record { bytes = bytes; in_place = true; records = r ∷ s ∷ []; rope = Some (record { 0 = length h.nodes + 1 }) } → r.depth ≡ 0 → s.depth ≤ 64 → length h.pool.bytes + length bytes < POOL_LIMIT → got ∷ more ∷ [] ≡ r ∷ s ∷ []
    → (result : Result (Option NodeId) NodeFault) → (IsErrOf result TableFull ↔ (MOST_NODES < length h.nodes + 2)) → IfErr result IsGrowthFault → Refuses h a ⊥ ⊥ result
grown_pair_refuses h a bytes r s got more is leaf shallow limit same result table_full faults = grown_refuses h a bytes (r ∷ s ∷ []) (got ∷ more ∷ []) is (omega arith) (omega (arith, leaf, shallow)) limit same result table_full faults
