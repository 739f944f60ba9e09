-- Laws of steps: the root's, each child's, and those of a path.
use Rattle.std.proofs.Common.{◌≡◌, ℕ, zero, suc, ◌+◌, ◌-◌, ◌<◌, ◌≤◌, List, [], ◌∷◌, ◌++◌, ◌⊎◌, inl, inr, length, refl, sym, ap, subst, ◌∙◌, arith, Some}
use Rattle.std.specs.Prelude.{Option, slice_get}
use Rattle.std.proofs.lemmas.Bool.{cases_lt, lt-ltb, le-ltb}
use Rattle.std.proofs.lemmas.List.{length-append}
use Rattle.rope_node.specs.declared.node.NodeId.{NodeId}
use Rattle.rope_node.specs.declared.node.NodeView.TheVariants.{Cat, Sub}
use Rattle.rope_node.specs.Table.{Table, view_at, len_at, IsSound, HasTrueRecords}
use Rattle.rope_node.specs.Path.{span_at, shortened}
use Rattle.rope_node.proofs.LeafSpans.{begins, span_step}
use Rattle.cord_position.specs.declared.path.Step.{Step}
use Rattle.cord_position.specs.declared.path.Fork.{Fork}
use Rattle.smallvec.specs.SmallVec.{SmallVec, small_vec_len}
use Rattle.cord_position.specs.Runs.{run_left, span_len, IsSpanBorder}
use Rattle.cord_position.specs.Steps.{StepHolds, IsStepOfRope, IsStepAt, IsForkAt, AreForks, IsPath, left_step, right_step, base_step}

-- the root's own step
pub root_step : (t : Table) → IsSound t → HasTrueRecords t → (root : NodeId) (n : ℕ) → root.0 < length t.nodes → n ≡ len_at t root.0
    → IsStepAt t (Some root) 0 (record { node = root; first = 0; skipped = 0; len = n })
root_step t s h root n there many = record {
  step = record {
    there = there;
    in_node = omega (arith, many);
    in_rope = omega (arith, many);
    spans = λ i held.
        let inside : i < len_at t root.0 = omega (arith, held.1, many) in
        let x = span_at t root.0 i in
        let few = (begins t s h root.0 i there inside).in_node in
        let same : x ≡ shortened ((0 + n) - i) x = ap (λ (m : ℕ). record x { len = m }) (omega (arith, few, many)) in
        rw (lt-ltb i (len_at t root.0) inside) (ap Some (same ∙ ap (λ (j : ℕ). shortened ((0 + n) - i) (span_at t root.0 j)) (omega arith)));
    border = λ k lt. absurd (omega (arith, lt));
  };
  deep = omega (arith, (s.nodes root.0 there).not_deep);
}

-- a child's step is one, each with one fork more above it
pub left_is_step : (t : Table) → IsSound t → HasTrueRecords t → (rope : Option NodeId) (n : ℕ) (x : Step) (l r : NodeId) → view_at t x.node.0 ≡ Cat l r
    → x.skipped < len_at t l.0 → IsStepAt t rope n x → IsStepAt t rope (n + 1) (left_step x l (len_at t l.0))
left_is_step t s h rope n x l r e some at =
    let below = rw e at (s.nodes x.node.0 at.step.there).references in
    let deep = rw e at (h.nodes x.node.0 at.step.there).depth in
    let there : l.0 < length t.nodes = omega (arith, below.0, at.step.there) in
    record {
      step = record {
        there = there;
        in_node = omega (arith, some);
        in_rope = omega (arith, at.step.in_rope);
        spans = λ i held.
            let q = x.skipped + (i - x.first) in
            let fits : q < len_at t l.0 = omega (arith, held.0, held.1, some) in
            let whole : StepHolds x i = (held.0, omega (arith, held.1)) in
            let y = span_at t l.0 q in
            let few = (begins t s h l.0 q there fits).in_node in
            let down : span_at t x.node.0 q ≡ y = rw (lt-ltb q (len_at t l.0) fits) at (span_step t s x.node.0 q at.step.there (Cat l r) e) in
            at.step.spans i whole ∙ ap Some (ap (shortened ((x.first + x.len) - i)) down ∙ ap (λ (m : ℕ). record y { len = m }) (omega (arith, few, held.0, held.1, some)));
        border = at.step.border;
      };
      deep = omega (arith, deep, at.deep);
    }

-- a leaf span that begins within a step ends within it
held_run : (t : Table) (rope : Option NodeId) (x : Step) (i : ℕ) → IsStepOfRope t rope x → StepHolds x i → i + run_left t rope i ≤ x.first + x.len
held_run t rope x i step held = omega (arith, held.1, ap span_len (step.spans i held))

-- where the left child's part of a step ends no leaf span goes on
right_border : (t : Table) → IsSound t → HasTrueRecords t → (rope : Option NodeId) (n : ℕ) (x : Step) (l r : NodeId) → view_at t x.node.0 ≡ Cat l r
    → len_at t l.0 - x.skipped ≤ x.len → IsStepAt t rope n x → IsSpanBorder t rope (x.first + (len_at t l.0 - x.skipped))
right_border t s h rope n x l r e some at k lt =
    elim (cases_lt k x.first) [
      | inl before ↦ omega (arith, at.step.border k before)
      | inr from ↦
          let left = left_is_step t s h rope n x l r e (omega (arith, lt, from)) at in
          omega (arith, some, held_run t rope (left_step x l (len_at t l.0)) k left.step (from, omega (arith, lt, some)))
    ]

pub right_is_step : (t : Table) → IsSound t → HasTrueRecords t → (rope : Option NodeId) (n : ℕ) (x : Step) (l r : NodeId) → view_at t x.node.0 ≡ Cat l r
    → len_at t l.0 - x.skipped ≤ x.len → IsStepAt t rope n x → IsStepAt t rope (n + 1) (right_step x r (len_at t l.0))
right_is_step t s h rope n x l r e some at =
    let below = rw e at (s.nodes x.node.0 at.step.there).references in
    let len = rw e at (h.nodes x.node.0 at.step.there).len in
    let deep = rw e at (h.nodes x.node.0 at.step.there).depth in
    let cut = len_at t l.0 - x.skipped in
    record {
      step = record {
        there = omega (arith, below.1, at.step.there);
        in_node = omega (arith, at.step.in_node, len);
        in_rope = omega (arith, at.step.in_rope, some);
        spans = λ i held.
            let q = x.skipped + (i - x.first) in
            let past : len_at t l.0 ≤ q = omega (arith, held.0) in
            let whole : StepHolds x i = (omega (arith, held.0), omega (arith, held.1, some)) in
            let down : span_at t x.node.0 q ≡ span_at t r.0 (q - len_at t l.0) = rw (le-ltb q (len_at t l.0) past) at (span_step t s x.node.0 q at.step.there (Cat l r) e) in
            let room : (x.first + x.len) - i ≡ ((x.first + cut) + (x.len - cut)) - i = omega (arith, some) in
            let place : q - len_at t l.0 ≡ (x.skipped - len_at t l.0) + (i - (x.first + cut)) = omega (arith, held.0) in
            at.step.spans i whole ∙ ap Some (ap (shortened ((x.first + x.len) - i)) (down ∙ ap (span_at t r.0) place) ∙ ap (λ (m : ℕ). shortened m (span_at t r.0 ((x.skipped - len_at t l.0) + (i - (x.first + cut))))) room);
        border = right_border t s h rope n x l r e some at;
      };
      deep = omega (arith, deep, at.deep);
    }

pub base_is_step : (t : Table) → IsSound t → HasTrueRecords t → (rope : Option NodeId) (n : ℕ) (x : Step) (b : NodeId) (o : ℕ) → view_at t x.node.0 ≡ Sub b o
    → IsStepAt t rope n x → IsStepAt t rope (n + 1) (base_step x b o)
base_is_step t s h rope n x b o e at =
    let below = rw e at (s.nodes x.node.0 at.step.there).references in
    let held = rw e at (s.nodes x.node.0 at.step.there).span in
    let deep = rw e at (h.nodes x.node.0 at.step.there).depth in
    record {
      step = record {
        there = omega (arith, below, at.step.there);
        in_node = omega (arith, held, at.step.in_node);
        in_rope = at.step.in_rope;
        spans = λ i whole.
            let q = x.skipped + (i - x.first) in
            let y = span_at t b.0 (o + q) in
            let down : span_at t x.node.0 q ≡ shortened (len_at t x.node.0 - q) y = span_step t s x.node.0 q at.step.there (Sub b o) e in
            let place : o + q ≡ (x.skipped + o) + (i - x.first) = omega arith in
            at.step.spans i whole ∙ ap Some (ap (shortened ((x.first + x.len) - i)) down
            ∙ ap (λ (m : ℕ). record y { len = m }) (omega (arith, at.step.in_node, whole.0, whole.1))
            ∙ ap (λ (j : ℕ). shortened ((x.first + x.len) - i) (span_at t b.0 j)) place);
        border = at.step.border;
      };
      deep = omega (arith, deep, at.deep);
    }

-- a path goes on by a step, ends before one, and ends with one
get_pushed : {X : Type 0} (xs : List X) (y : X) (n : ℕ) (x : X) → slice_get (xs ++ y ∷ []) n ≡ Some x → (slice_get xs n ≡ Some x) ⊎ ((n ≡ length xs) × (y ≡ x))
get_pushed [] y zero x e = inr (refl, cc)
get_pushed [] y (suc n) x e = absurd cc
get_pushed (z ∷ zs) y zero x e = inl e
get_pushed (z ∷ zs) y (suc n) x e =
    elim (get_pushed zs y n x e) [
      | inl here ↦ inl here
      | inr last ↦ inr (omega (arith, last.0), last.1)
    ]

get_front : {X : Type 0} (xs ys : List X) (n : ℕ) (x : X) → slice_get xs n ≡ Some x → slice_get (xs ++ ys) n ≡ Some x
get_front [] ys n x e = absurd cc
get_front (z ∷ zs) ys zero x e = e
get_front (z ∷ zs) ys (suc n) x e = get_front zs ys n x e

get_last : {X : Type 0} (xs : List X) (y : X) → slice_get (xs ++ y ∷ []) (length xs) ≡ Some y
get_last [] y = refl
get_last (z ∷ zs) y = get_last zs y

path_pushed : (t : Table) (rope : Option NodeId) (xs : List Fork) (y : Fork) → AreForks t rope xs → IsForkAt t rope (length xs) y → AreForks t rope (xs ++ y ∷ [])
path_pushed t rope xs y forks last n x e =
    elim (get_pushed xs y n x e) [
      | inl here ↦ forks n x here
      | inr is ↦ subst (λ z. IsForkAt t rope n z) is.1 (subst (λ m. IsForkAt t rope m y) (sym is.0) last)
    ]

path_before : (t : Table) (rope : Option NodeId) (xs ys : List Fork) → AreForks t rope (xs ++ ys) → AreForks t rope xs
path_before t rope xs ys forks n x e = forks n x (get_front xs ys n x e)

path_last : (t : Table) (rope : Option NodeId) (xs : List Fork) (y : Fork) → AreForks t rope (xs ++ y ∷ []) → IsForkAt t rope (length xs) y
path_last t rope xs y forks = forks (length xs) y (get_last xs y)

-- the step from a fork to the child that holds a place
pub side_is_step : (t : Table) → IsSound t → HasTrueRecords t → (rope : Option NodeId) (n : ℕ) (x : Fork) (y : Step) (i : ℕ)
    → (x.step.skipped + (i - x.step.first) < x.left → y ≡ left_step x.step x.l x.left) → (x.left ≤ x.step.skipped + (i - x.step.first) → y ≡ right_step x.step x.r x.left)
    → IsForkAt t rope n x → StepHolds x.step i → IsStepAt t rope (n + 1) y × StepHolds y i
side_is_step t s h rope n x y i left right fork held =
    let m = x.left in
    let z = x.step in
    let same = fork.left in
    elim (cases_lt (z.skipped + (i - z.first)) m) [
      | inl lt ↦ subst (λ w. IsStepAt t rope (n + 1) w × StepHolds w i) (sym (left lt))
          (subst (λ (k : ℕ). IsStepAt t rope (n + 1) (left_step z x.l k)) (sym same) (left_is_step t s h rope n z x.l x.r fork.view (omega (arith, lt, same)) fork.at), (held.0, omega (arith, lt, held.0, held.1)))
      | inr past ↦ subst (λ w. IsStepAt t rope (n + 1) w × StepHolds w i) (sym (right past))
          (subst (λ (k : ℕ). IsStepAt t rope (n + 1) (right_step z x.r k)) (sym same) (right_is_step t s h rope n z x.l x.r fork.view (omega (arith, past, same, held.0, held.1)) fork.at), (omega (arith, past, held.0, held.1), omega (arith, past, held.0, held.1)))
    ]

-- a step is one also with fewer forks above it
fewer_above : (t : Table) (rope : Option NodeId) (n : ℕ) (x : Step) → IsStepAt t rope (n + 1) x → IsStepAt t rope n x
fewer_above t rope n x at = record { step = at.step; deep = omega (arith, at.deep) }

-- a path, and the step below it that holds a place
pub record IsOnWay (t : Table) (rope : Option NodeId) (path : SmallVec Fork) (x : Step) (i : ℕ) : Type 0 where
  pub way : IsPath t rope path
  pub at : IsStepAt t rope (small_vec_len path) x
  pub held : StepHolds x i

-- a fork goes onto the path
pub fork_pushed : (t : Table) (rope : Option NodeId) (path new : SmallVec Fork) (x : Fork) → new.items ≡ path.items ++ x ∷ [] → new.capacity ≡ path.capacity
    → IsPath t rope path → IsForkAt t rope (small_vec_len path) x → IsPath t rope new
fork_pushed t rope path new x items room way fork = record {
  forks = subst (AreForks t rope) (sym items) (path_pushed t rope path.items x way.forks fork);
  room = room ∙ way.room;
}

-- and comes off it
pub fork_popped : (t : Table) (rope : Option NodeId) (path new : SmallVec Fork) (x : Fork) → path.items ≡ new.items ++ x ∷ [] → new.capacity ≡ path.capacity
    → IsPath t rope path → IsPath t rope new × IsForkAt t rope (small_vec_len new) x
fork_popped t rope path new x items room way =
    let forks = subst (AreForks t rope) items way.forks in
    (record { forks = path_before t rope new.items (x ∷ []) forks; room = room ∙ way.room }, path_last t rope new.items x forks)

-- the way leads on by the child that holds the place, with the fork on the path or without it
pub way_to_side : (t : Table) → IsSound t → HasTrueRecords t → (rope : Option NodeId) (path new : SmallVec Fork) (x : Fork) (y : Step) (i : ℕ)
    → new.items ≡ path.items ++ x ∷ [] → new.capacity ≡ path.capacity
    → (x.step.skipped + (i - x.step.first) < x.left → y ≡ left_step x.step x.l x.left) → (x.left ≤ x.step.skipped + (i - x.step.first) → y ≡ right_step x.step x.r x.left)
    → IsPath t rope path → IsForkAt t rope (small_vec_len path) x → StepHolds x.step i → IsOnWay t rope new y i
way_to_side t s h rope path new x y i items room left right way fork held =
    let longer : small_vec_len path + 1 ≡ small_vec_len new = omega (arith, ap length items, length-append path.items (x ∷ [])) in
    let side = side_is_step t s h rope (small_vec_len path) x y i left right fork held in
    record {
      way = fork_pushed t rope path new x items room way fork;
      at = subst (λ (n : ℕ). IsStepAt t rope n y) longer side.0;
      held = side.1;
    }

pub way_past_fork : (t : Table) → IsSound t → HasTrueRecords t → (rope : Option NodeId) (path : SmallVec Fork) (x : Fork) (y : Step) (i : ℕ)
    → (x.step.skipped + (i - x.step.first) < x.left → y ≡ left_step x.step x.l x.left) → (x.left ≤ x.step.skipped + (i - x.step.first) → y ≡ right_step x.step x.r x.left)
    → IsPath t rope path → IsForkAt t rope (small_vec_len path) x → StepHolds x.step i → IsOnWay t rope path y i
way_past_fork t s h rope path x y i left right way fork held =
    let side = side_is_step t s h rope (small_vec_len path) x y i left right fork held in
    record { way = way; at = fewer_above t rope (small_vec_len path) y side.0; held = side.1 }

pub way_to_base : (t : Table) → IsSound t → HasTrueRecords t → (rope : Option NodeId) (path : SmallVec Fork) (x : Step) (i : ℕ) (b : NodeId) (o : ℕ) → view_at t x.node.0 ≡ Sub b o
    → IsOnWay t rope path x i → IsOnWay t rope path (base_step x b o) i
way_to_base t s h rope path x i b o e on = record {
  way = on.way;
  at = fewer_above t rope (small_vec_len path) (base_step x b o) (base_is_step t s h rope (small_vec_len path) x b o e on.at);
  held = on.held;
}
