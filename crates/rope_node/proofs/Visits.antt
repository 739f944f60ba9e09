-- Laws of the path: one step of it, and how long it can be.
use Rattle.std.proofs.Common.{◌≡◌, ℕ, zero, suc, ◌+◌, ◌-◌, ◌<◌, ◌≤◌, max, ltb, length, refl, arith}
use Rattle.std.proofs.lemmas.Bool.{cond_both}
use Rattle.rope_node.specs.declared.node.NodeView.{NodeView}
use Rattle.rope_node.specs.declared.node.NodeView.TheVariants.{Lit, Src, Fun, Cat, Sub}
use Rattle.rope_node.specs.Table.{Table, view_at, len_at, depth_at, depth_of, HasGoodReferences, IsSound, HasTrueRecords}
use Rattle.rope_node.specs.Path.{visits, visits_in, node_visits}

-- the visits from a node on depend on those from its children on alone
node_visits_alike : (t : Table) (f g : ℕ → ℕ → ℕ) (id i : ℕ) (v : NodeView) → HasGoodReferences t id v → ((c j : ℕ) → c < id → f c j ≡ g c j) → node_visits t f i v ≡ node_visits t g i v
node_visits_alike t f g id i (Lit a) s h = refl
node_visits_alike t f g id i (Src s' a) s h = refl
node_visits_alike t f g id i Fun s h = refl
node_visits_alike t f g id i (Cat l r) s h = rw (h l.0 i s.0, h r.0 (i - len_at t l.0) s.1) refl
node_visits_alike t f g id i (Sub b start) s h = rw (h b.0 (start + i) s) refl

steps_enough : (t : Table) → IsSound t → (m n id i : ℕ) → id < length t.nodes → id < m → id < n → visits_in t m id i ≡ visits_in t n id i
steps_enough t s zero n id i inside a b = absurd (omega arith)
steps_enough t s (suc m) zero id i inside a b = absurd (omega arith)
steps_enough t s (suc m) (suc n) id i inside a b =
    node_visits_alike t (visits_in t m) (visits_in t n) id i (view_at t id) (s.nodes id inside).references
    (λ c j lt. steps_enough t s m n c j (omega arith) (omega arith) (omega arith))

-- the visits from a node on are one more than those from the child that holds the place
pub visits_step : (t : Table) → IsSound t → (id i : ℕ) → id < length t.nodes → visits t id i ≡ node_visits t (visits t) i (view_at t id)
visits_step t s id i inside =
    node_visits_alike t (visits_in t id) (visits t) id i (view_at t id) (s.nodes id inside).references
    (λ c j lt. steps_enough t s id (suc c) c j (omega arith) lt (omega arith))

node_visits_few : (t : Table) (below : ℕ → ℕ → ℕ) (id i : ℕ) (v : NodeView) → HasGoodReferences t id v → ((c j : ℕ) → c < id → below c j ≤ depth_at t c + 1) → node_visits t below i v ≤ depth_of t v + 1
node_visits_few t below id i (Lit a) s h = omega arith
node_visits_few t below id i (Src s' a) s h = omega arith
node_visits_few t below id i Fun s h = omega arith
node_visits_few t below id i (Cat l r) s h =
    cond_both (ltb i (len_at t l.0)) (below l.0 i) (below r.0 (i - len_at t l.0)) (λ x. 1 + x ≤ (1 + max (depth_at t l.0) (depth_at t r.0)) + 1)
    (λ e. omega (arith, h l.0 i s.0)) (λ e. omega (arith, h r.0 (i - len_at t l.0) s.1))
node_visits_few t below id i (Sub b start) s h = omega (arith, h b.0 (start + i) s)

few_by : (t : Table) → IsSound t → HasTrueRecords t → (m id i : ℕ) → id < length t.nodes → id < m → visits t id i ≤ depth_at t id + 1
few_by t s h zero id i inside below = absurd (omega arith)
few_by t s h (suc m) id i inside below =
    rw (visits_step t s id i inside, (h.nodes id inside).depth)
    (node_visits_few t (visits t) id i (view_at t id) (s.nodes id inside).references
    (λ c j lt. few_by t s h m c j (omega arith) (omega arith)))

-- a path has at most as many nodes as the recorded depth and one
pub visits-le : (t : Table) → IsSound t → HasTrueRecords t → (id i : ℕ) → id < length t.nodes → visits t id i ≤ depth_at t id + 1
visits-le t s h id i inside = few_by t s h (suc id) id i inside (omega arith)
