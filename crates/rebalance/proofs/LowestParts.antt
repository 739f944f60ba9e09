-- The lowest node that has the bytes of a part is one alone; where all of a node is taken it is that node, with nothing new and no refusal.
use Rattle.std.proofs.Common.{◌≡◌, ℕ, ◌+◌, ◌-◌, ◌<◌, ◌≤◌, inl, inr, length, List, take, drop, min, Option, Some, None, Result, Ok, Err, refl, sym, ap, subst, ◌∙◌, arith}
use Rattle.std.proofs.lemmas.Bool.{cases_lt}
use Rattle.rope_node.specs.declared.node.NodeId.{NodeId}
use Rattle.rope_node.specs.Table.{Table, len_at, IsSound, HasTrueRecords}
use Rattle.rope_node.specs.Denotes.{Cell, rope_cells, rope_len, IsRope}
use Rattle.node_table.specs.declared.fault.NodeFault.{NodeFault}
use Rattle.node_table.specs.declared.fault.NodeFault.TheVariants.{TooLong, TooDeep, TableFull, PoolFull, BadSpan, TooManySources, Memory}
use Rattle.node_table.specs.Held.{Held, table_of, IsKept}
use Rattle.rope_store.specs.Additions.{Addition, Makes, nothing, part_added}
use Rattle.rope_store.specs.Refusals.{Refuses}
use Rattle.rope_store.proofs.Made.{after_nothing}
use Rattle.rope_store.proofs.PartTexts.{whole_part}
use Rattle.rebalance.specs.declared.fault.BalanceFault.{BalanceFault}
use Rattle.rebalance.specs.AnyForms.{AnyForm, IsLowest, LiesLower, PartsAny, lifted, part_growth}
use Rattle.rebalance.specs.Pieces.{part_count, part_pieces}
use Rattle.rebalance.proofs.AnyCalls.{lies_above}
use Rattle.rebalance.proofs.PieceWays.{GoesDown, leads_inside, lowest_is_one}

-- ---- one node alone

goes_lies : (t : Table) (node : NodeId) (i n : ℕ) → i + n ≤ len_at t node.0 → 1 ≤ n → ¬ LiesLower t (Some node) i n → ¬ GoesDown t n node.0 i
goes_lies t node i n fits some ends down = ends (lies_above t node i n fits some down)

none_lies : (t : Table) (x : Option NodeId) (i n : ℕ) → n ≡ 0 → ¬ LiesLower t x i n
none_lies t None i n none lies = lies
none_lies t (Some x) i n none lies = omega (arith, none, lies.0)

some_is_one : (t : Table) → IsSound t → HasTrueRecords t → (x : NodeId) (i n : ℕ) (inner inner' : Option NodeId) (start start' : ℕ) → 1 ≤ n → x.0 < length t.nodes → i + n ≤ len_at t x.0 → IsLowest t (Some x) i n inner start → IsLowest t (Some x) i n inner' start' → (inner ≡ inner') × (start ≡ start')
some_is_one t s h x i n None inner' start start' some there fits a b = absurd a.leads
some_is_one t s h x i n (Some k) None start start' some there fits a b = absurd b.leads
some_is_one t s h x i n (Some k) (Some j) start start' some there fits a b =
    let ends = goes_lies t k start n (leads_inside t s h a.leads there fits) some a.lowest in
    let ends' = goes_lies t j start' n (leads_inside t s h b.leads there fits) some b.lowest in
    let one = lowest_is_one t some a.leads ends b.leads ends' in
    (ap (λ (m : ℕ). let r : Option NodeId = Some (record { 0 = m }) in r) one.0, one.1)

pub lowest_alone : (t : Table) → IsSound t → HasTrueRecords t → (x : Option NodeId) (i n : ℕ) (inner inner' : Option NodeId) (start start' : ℕ) → IsRope t x → i + n ≤ rope_len t x → IsLowest t x i n inner start → IsLowest t x i n inner' start' → (inner ≡ inner') × (start ≡ start')
lowest_alone t s h None i n inner inner' start start' there fits a b =
    let at = a.here (λ lies. lies) in
    let at' = b.here (λ lies. lies) in
    (at.0 ∙ sym at'.0, at.1 ∙ sym at'.1)
lowest_alone t s h (Some x) i n inner inner' start start' there fits a b =
    elim (cases_lt 0 n) [
      | inl some ↦ some_is_one t s h x i n inner inner' start start' some there fits a b
      | inr few ↦
          let none : n ≡ 0 = omega (arith, few) in
          let at = a.here (none_lies t (Some x) i n none) in
          let at' = b.here (none_lies t (Some x) i n none) in
          (at.0 ∙ sym at'.0, at.1 ∙ sym at'.1)
    ]

-- ---- all of a node

-- a call that adds nothing is not refused
nothing_new : {F : Type 0} (meaning : F → ℕ → ℕ) (old new : Held F) (wanted : List Cell) (rope : Option NodeId) → IsKept meaning old → (plain : Result (Option NodeId) NodeFault) → Makes meaning old (nothing rope) wanted plain new → Refuses old (nothing rope) ⊥ ⊥ plain
    → (◌≡◌ {A = Result (Option NodeId) BalanceFault} (lifted plain) (Ok rope)) × (new ≡ old)
nothing_new meaning old new wanted rope kept (Ok answer) made r = (ap (λ (y : Option NodeId). let e : Result (Option NodeId) BalanceFault = Ok y in e) made.rope, made.table ∙ after_nothing old rope)
nothing_new meaning old new wanted rope kept (Err TooLong) made r = absurd (r.too_long.0 refl).1
nothing_new meaning old new wanted rope kept (Err TooDeep) made r = let deep = (r.too_deep.0 refl).2 in absurd (omega (arith, deep))
nothing_new meaning old new wanted rope kept (Err TableFull) made r = let full = (r.table_full.0 refl).3 in absurd (omega (arith, full, kept.few))
nothing_new meaning old new wanted rope kept (Err PoolFull) made r = let full = (r.pool_full.0 refl).4 in absurd (omega (arith, full, kept.pool))
nothing_new meaning old new wanted rope kept (Err BadSpan) made r = absurd (r.bad_span.0 refl)
nothing_new meaning old new wanted rope kept (Err TooManySources) made r = absurd (r.no_other refl)
nothing_new meaning old new wanted rope kept (Err Memory) made r = let some = r.memory refl in absurd (omega (arith, some))

pub all_of_a_node : {F : Type 0} (meaning : F → ℕ → ℕ) (old new : Held F) (x : NodeId) (n : ℕ) (result : Result (Option NodeId) BalanceFault) → IsKept meaning old → 1 ≤ len_at (table_of meaning old) x.0 → len_at (table_of meaning old) x.0 ≤ n → PartsAny meaning old (Some x) 0 n result new
    → (result ≡ Ok (Some x)) × (new ≡ old)
all_of_a_node {F = F} meaning old new x n result kept some enough part =
    let t = table_of meaning old in
    let m = part_count t (Some x) 0 n in
    let all : min m (len_at t x.0 - 0) ≡ len_at t x.0 = omega (arith, enough) in
    let at = part.is_lowest.here (λ (lies : LiesLower t (Some x) 0 m). omega (arith, lies.1, all)) in
    let same : part_added {F = F} t part.inner part.start m ≡ nothing (Some x) =
    ap (λ (r : Option NodeId). part_added {F = F} t r part.start m) at.0 ∙ ap (λ (k : ℕ). part_added {F = F} t (Some x) k m) at.1 ∙ whole_part {F = F} t x 0 (min m (len_at t x.0 - 0)) (omega (arith, all, some)) all in
    let any = subst (λ (a : Addition F). AnyForm meaning old a (take n (drop 0 (rope_cells t (Some x)))) ⊥ (part_growth (part_pieces t (Some x) 0 n)) result new) same part.any in
    let plain = any.as_plain (inl (λ deep. omega (arith, deep))) in
    let by = nothing_new meaning old new _ (Some x) kept plain.plain plain.makes plain.refuses in
    (plain.same ∙ by.0, by.1)
