-- Stops on a trail: where one begins, goes on and goes back, and what a step down from one keeps.
use Rattle.std.proofs.Common.{Option, None, Some, ◌≡◌, ◌≢◌, ℕ, ◌+◌, ◌-◌, ◌<◌, ◌≤◌, inl, inr, List, length, min, refl, sym, ap, subst, ◌∙◌, arith, get_or, set, get_or-set_other, get_or-set_same, length-set}
use Rattle.std.specs.Prelude.{IfSome}
use Rattle.std.proofs.lemmas.Bool.{cases_lt}
use Rattle.rope_node.specs.declared.node.NodeId.{NodeId}
use Rattle.rope_node.specs.declared.node.NodeView.TheVariants.{Cat, Sub}
use Rattle.rope_node.specs.declared.node.Span.{Span}
use Rattle.rope_node.specs.Table.{Table, view_at, len_at, IsSound, HasTrueRecords}
use Rattle.rope_node.specs.Steps.{IsSpan, child_span}
use Rattle.rope_node.proofs.Children.{base_of_sub, children_of_cat, depth_of_base, depths_of_cat, span_in_left, span_in_right}
use Rattle.span_descent.specs.declared.stop.Stop.{Stop}
use Rattle.span_descent.specs.declared.stop.TheConstants.{MOST_STOPS}
use Rattle.span_descent.specs.declared.trail.Trail.{Trail}
use Rattle.span_descent.specs.Descents.{IsStand, IsStandAt}
use Rattle.span_descent.specs.Trails.{AreStopsOf, StopHolds, IsFound, IsLastStop, IsStopOf, IsTrailStop, IsThisStop, base_stop, first_stop, left_stop, no_stop, place_in, right_stop, stop_at, stop_span}
use Rattle.span_descent.proofs.Stands.{stand_begins, stand_goes}

-- the first stop is all of the root
pub first_span : (t : Table) (root : NodeId) (x : Span) → x.node.0 ≡ root.0 → IsSpan t x → stop_span x (first_stop t root) ≡ x
first_span t root x of is =
    let place : 0 + (x.start - 0) ≡ x.start = omega arith in
    let inside : x.start + x.len ≤ len_at t root.0 = subst (λ (k : ℕ). x.start + x.len ≤ len_at t k) of is.inside in
    let len : min x.len (len_at t root.0 - x.start) ≡ x.len = omega (arith, inside) in
    ap (λ (k : ℕ). record { node = record { 0 = k }; start = 0 + (x.start - 0); len = min x.len (len_at t root.0 - x.start) }) (sym of)
    ∙ ap (λ (p : ℕ). record { node = x.node; start = p; len = min x.len (len_at t root.0 - x.start) }) place
    ∙ ap (λ (n : ℕ). record { node = x.node; start = x.start; len = n }) len

first_is_stop : (t : Table) → IsSound t → (root : NodeId) → root.0 < length t.nodes → IsTrailStop t root.0 0 (first_stop t root)
first_is_stop t s root there = record {
  there = there;
  some = omega (arith, (s.nodes root.0 there).not_empty);
  inside = omega arith;
  within = omega arith;
  shallow = omega (arith, (s.nodes root.0 there).not_deep);
  stands = λ x of is holds. subst (IsStand t x) (sym (first_span t root x of is)) (stand_begins t x is);
}

pub trail_begins : (t : Table) → IsSound t → (root : NodeId) → root.0 < length t.nodes → (stops : List Stop) → length stops ≡ MOST_STOPS
    → AreStopsOf t root (set stops 0 (first_stop t root)) 1
trail_begins t s root there stops room =
    let lt : 0 < length stops = omega (arith, room) in
    let is : get_or (set stops 0 (first_stop t root)) 0 no_stop ≡ first_stop t root = rw get_or-set_same refl in
    record {
      is_trail = record {
        room = rw length-set room;
        few = omega arith;
        first = λ _. rw is refl;
        stops = λ i below. let zeroth : i ≡ 0 = omega arith in rw (zeroth, is) (first_is_stop t s root there);
      };
      some = omega arith;
      of_root = rw is refl;
    }

pub trail_goes_on : (t : Table) (root : NodeId) (stops : List Stop) (count : ℕ) (stop : Stop) → AreStopsOf t root stops count → IsTrailStop t root.0 count stop
    → AreStopsOf t root (set stops count stop) (count + 1)
trail_goes_on t root stops count stop is new =
    let old = is.is_trail in
    let lt : count < length stops = omega (arith, old.room, new.shallow) in
    let ne : 0 ≢ count = omega (arith, is.some) in
    let first : get_or (set stops count stop) 0 no_stop ≡ stop_at stops 0 = rw get_or-set_other refl in
    record {
      is_trail = record {
        room = rw length-set old.room;
        few = omega (arith, new.shallow);
        first = λ _. rw first (old.first is.some);
        stops = λ i below. rw first (elim (cases_lt i count) [
          | inl lower ↦ let other : i ≢ count = omega (arith, lower) in rw get_or-set_other (old.stops i lower)
          | inr le ↦ let at : i ≡ count = omega (arith, le, below) in rw (at, get_or-set_same, is.of_root) new
        ]);
      };
      some = omega arith;
      of_root = rw first is.of_root;
    }

-- what of a stop lies in a child of its node is a stop, to which the ways down go on
module _ (t : Table) (s : IsSound t) (h : HasTrueRecords t) (stop : Stop) where
  left_len : (n p left : ℕ) → stop.from ≤ p → stop.start < left → min (min n (stop.end - p)) (left - place_in stop p) ≡ min n (min stop.end (stop.from + (left - stop.start)) - p)
  left_len n p left behind before = omega arith

  in_left_child : (p left : ℕ) → stop.from ≤ p → stop.start < left → p < min stop.end (stop.from + (left - stop.start)) → place_in stop p < left
  in_left_child p left behind before ahead = omega arith

  pub child_left : (x : Span) (l r : NodeId) → stop.from ≤ x.start → stop.start < len_at t l.0 → x.start < (left_stop stop l (len_at t l.0)).end → view_at t stop.node.0 ≡ Cat l r
      → Some (stop_span x (left_stop stop l (len_at t l.0))) ≡ child_span t (stop_span x stop) (view_at t stop.node.0)
  child_left x l r behind before ahead e =
      rw e (ap Some (ap (λ (n : ℕ). record { node = l; start = place_in stop x.start; len = n }) (sym (left_len x.len x.start (len_at t l.0) behind before))
      ∙ sym (span_in_left t (stop_span x stop) l r (in_left_child x.start (len_at t l.0) behind before ahead))))

  right_start : (p left : ℕ) → stop.from + (left - stop.start) ≤ p → place_in stop p - left ≡ (stop.start - left) + (p - (stop.from + (left - stop.start)))
  right_start p left behind = omega arith

  pub child_right : (x : Span) (l r : NodeId) → stop.from + (len_at t l.0 - stop.start) ≤ x.start → view_at t stop.node.0 ≡ Cat l r
      → Some (stop_span x (right_stop stop r (len_at t l.0))) ≡ child_span t (stop_span x stop) (view_at t stop.node.0)
  child_right x l r behind e =
      rw e (ap Some (ap (λ (p : ℕ). record { node = r; start = p; len = min x.len (stop.end - x.start) }) (sym (right_start x.start (len_at t l.0) behind))
      ∙ sym (span_in_right t (stop_span x stop) l r (omega arith))))

  base_start : (p j : ℕ) → place_in stop p + j ≡ (stop.start + j) + (p - stop.from)
  base_start p j = omega arith

  pub child_base : (x : Span) (b : NodeId) (j : ℕ) → view_at t stop.node.0 ≡ Sub b j → Some (stop_span x (base_stop stop b j)) ≡ child_span t (stop_span x stop) (view_at t stop.node.0)
  child_base x b j e = rw e (ap Some (ap (λ (p : ℕ). record { node = b; start = p; len = min x.len (stop.end - x.start) }) (sym (base_start x.start j))))

  -- a stop to which they go on from another
  goes_on : (root c : ℕ) (z : Stop) (x : Span) → IsTrailStop t root c stop → x.node.0 ≡ root → IsSpan t x → StopHolds stop x.start 1 → Some (stop_span x z) ≡ child_span t (stop_span x stop) (view_at t stop.node.0) → IsStand t x (stop_span x z)
  goes_on root c z x is of span holds child = stand_goes t s h x (stop_span x stop) (stop_span x z) (view_at t stop.node.0) span (is.stands x of span holds) refl child

  left_is_stop : (root c : ℕ) (l r : NodeId) → 1 ≤ c → IsTrailStop t root (c - 1) stop → view_at t stop.node.0 ≡ Cat l r → stop.start < len_at t l.0 → IsTrailStop t root c (left_stop stop l (len_at t l.0))
  left_is_stop root c l r some is e before =
      let d = children_of_cat t s h stop.node.0 is.there l r e in
      record {
        there = omega (arith, d.0, is.there);
        some = omega (arith, is.some, before);
        inside = omega (arith, before);
        within = omega (arith, is.within);
        shallow = omega (arith, some, is.shallow, (depths_of_cat t h stop.node.0 is.there l r e).0);
        stands = λ x of span holds. goes_on root (c - 1) (left_stop stop l (len_at t l.0)) x is of span (record { behind = holds.behind; before = omega (arith, holds.before) }) (child_left x l r holds.behind before (omega (arith, holds.before)) e);
      }

  right_is_stop : (root c : ℕ) (l r : NodeId) → 1 ≤ c → IsTrailStop t root (c - 1) stop → view_at t stop.node.0 ≡ Cat l r → stop.from + (len_at t l.0 - stop.start) < stop.end → IsTrailStop t root c (right_stop stop r (len_at t l.0))
  right_is_stop root c l r some is e fits =
      let d = children_of_cat t s h stop.node.0 is.there l r e in
      record {
        there = omega (arith, d.1, is.there);
        some = fits;
        inside = omega (arith, fits, is.inside, d.2);
        within = is.within;
        shallow = omega (arith, some, is.shallow, (depths_of_cat t h stop.node.0 is.there l r e).1);
        stands = λ x of span holds. goes_on root (c - 1) (right_stop stop r (len_at t l.0)) x is of span (record { behind = omega (arith, holds.behind); before = holds.before }) (child_right x l r holds.behind e);
      }

  base_is_stop : (root c : ℕ) (b : NodeId) (j : ℕ) → 1 ≤ c → IsTrailStop t root (c - 1) stop → view_at t stop.node.0 ≡ Sub b j → IsTrailStop t root c (base_stop stop b j)
  base_is_stop root c b j some is e =
      let base = base_of_sub t s stop.node.0 is.there b j e in
      record {
        there = omega (arith, base.0, is.there);
        some = is.some;
        inside = omega (arith, base.1, is.inside);
        within = is.within;
        shallow = omega (arith, some, is.shallow, depth_of_base t h stop.node.0 is.there b j e);
        stands = λ x of span holds. goes_on root (c - 1) (base_stop stop b j) x is of span (record { behind = holds.behind; before = holds.before }) (child_base x b j e);
      }

  -- the stop behind the last one
  module _ (x : Span) (trail : Trail) (z : Stop) (last : IsLastStop t x trail stop) where
    pub right_behind : (l r : NodeId) (left : ℕ) → z ≡ right_stop stop r left → left ≡ len_at t l.0 → view_at t stop.node.0 ≡ Cat l r → left ≤ place_in stop x.start
        → IsStopOf t x trail trail.count z × (Some (stop_span x z) ≡ child_span t (stop_span x stop) (view_at t stop.node.0))
    right_behind l r left found len e past =
        let behind : stop.from + (len_at t l.0 - stop.start) ≤ x.start = omega (arith, last.holds.behind, past, len) in
        rw (found, len) (
          record {
            trail = last.trail;
            stop = right_is_stop x.node.0 trail.count l r last.trail.some last.stop e (omega (arith, behind, last.holds.before));
            holds = record { behind = behind; before = last.holds.before };
          },
          child_right x l r behind e,
        )

    pub left_behind : (l r : NodeId) (left : ℕ) → z ≡ left_stop stop l left → left ≡ len_at t l.0 → view_at t stop.node.0 ≡ Cat l r → place_in stop x.start + 1 ≤ left
        → IsStopOf t x trail trail.count z × (Some (stop_span x z) ≡ child_span t (stop_span x stop) (view_at t stop.node.0))
    left_behind l r left found len e fits =
        let before : stop.start < len_at t l.0 = omega (arith, fits, len) in
        let ahead : x.start + 1 ≤ (left_stop stop l (len_at t l.0)).end = omega (arith, last.holds.behind, last.holds.before, fits, len) in
        rw (found, len) (
          record {
            trail = last.trail;
            stop = left_is_stop x.node.0 trail.count l r last.trail.some last.stop e before;
            holds = record { behind = last.holds.behind; before = ahead };
          },
          child_left x l r last.holds.behind before (omega (arith, ahead)) e,
        )

    pub base_behind : (b : NodeId) (j : ℕ) → z ≡ base_stop stop b j → view_at t stop.node.0 ≡ Sub b j
        → IsStopOf t x trail trail.count z × (Some (stop_span x z) ≡ child_span t (stop_span x stop) (view_at t stop.node.0))
    base_behind b j found e =
        rw found (
          record {
            trail = last.trail;
            stop = base_is_stop x.node.0 trail.count b j last.trail.some last.stop e;
            holds = record { behind = last.holds.behind; before = last.holds.before };
          },
          child_base x b j e,
        )

pub begins_with_root : (t : Table) (root : NodeId) (stops : List Stop) (count : ℕ) → AreStopsOf t root stops count → stop_at stops 0 ≡ first_stop t root
begins_with_root t root stops count is = is.is_trail.first is.some ∙ ap (first_stop t) is.of_root

pub root_holds : (t : Table) (root : NodeId) (stops : List Stop) (count : ℕ) → AreStopsOf t root stops count → (p n : ℕ) → p + n ≤ len_at t root.0 → StopHolds (stop_at stops 0) p n
root_holds t root stops count is p n fits = rw (begins_with_root t root stops count is) (record { behind = omega arith; before = omega (arith, fits) })

-- a stop that is found is one of the trail's root
pub found_stop : (t : Table) (root : NodeId) (stops : List Stop) (count : ℕ) → AreStopsOf t root stops count → (i : ℕ) → i < count → (p : ℕ) (node : NodeId) (start : ℕ) (r : Option Stop)
    → IfSome r (IsThisStop (stop_at stops i) p node start) → IfSome r (IsFound t root.0 p node start)
found_stop t root stops count is i below p node start None found = found
found_stop t root stops count is i below p node start (Some z) found = record {
  is_stop = (i, rw found.same (rw is.of_root at (is.is_trail.stops i below)));
  here = found.here;
  holds = found.holds;
  at = found.at;
}

pub found_stands : (t : Table) (x y : Span) (stop : Stop) → IsSpan t x → IsFound t x.node.0 x.start y.node y.start stop → IsStandAt t x y (stop_span x stop)
found_stands t x y stop is found = record { stands = found.is_stop.1.stands x refl is found.holds; node = found.here; start = found.at }
