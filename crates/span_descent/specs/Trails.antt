-- The way down to a place of a rope, as it is kept.
use Rattle.std.specs.Prelude.{◌≡◌, ℕ, ◌+◌, ◌-◌, ◌<◌, ◌≤◌, List, length, get_or, min}
use Rattle.rope_node.specs.declared.limits.TheConstants.{MOST_DEPTH}
use Rattle.rope_node.specs.declared.node.NodeId.{NodeId}
use Rattle.rope_node.specs.Table.{Table, len_at, depth_at, IsSound, HasTrueRecords}
use Rattle.span_descent.specs.declared.stop.Stop.{Stop}
use Rattle.span_descent.specs.declared.trail.Trail.{Trail}
use Rattle.span_descent.specs.declared.way.Ways.{Ways}
use Rattle.span_descent.specs.declared.stop.TheConstants.{MOST_STOPS}
use Rattle.span_descent.specs.declared.way.Descent.{Descent}
use Rattle.span_descent.specs.declared.way.Descent.TheVariants.{Below, Leaf, Border}
use Rattle.rope_node.specs.declared.node.Span.{Span}
use Rattle.span_descent.specs.Descents.{IsStand}
use Rattle.rope_node.specs.Steps.{IsSpan}

-- where the rope's byte at p stands in a stop's node
abbrev pub place_in : Stop → ℕ → ℕ
place_in stop p = stop.start + (p - stop.from)

-- the bytes of a stop's node to which the first bytes of span x of its root lead
abbrev pub stop_span : Span → Stop → Span
stop_span x stop = record { node = stop.node; start = place_in stop x.start; len = min x.len (stop.end - x.start) }

-- the n bytes from p on lie in the stop
pub record StopHolds (stop : Stop) (p n : ℕ) : Type 0 where
  pub behind : stop.from ≤ p
  pub before : p + n ≤ stop.end

-- Each way down a span of the root that begins between `from` and `end` stands at the stop, the ith below the root.
pub record IsTrailStop (t : Table) (root i : ℕ) (stop : Stop) : Type 0 where
  pub there : stop.node.0 < length t.nodes
  pub some : stop.from < stop.end
  pub inside : stop.start + (stop.end - stop.from) ≤ len_at t stop.node.0
  pub within : stop.end ≤ len_at t root
  pub shallow : depth_at t stop.node.0 + i ≤ MOST_DEPTH
  pub stands : (x : Span) → x.node.0 ≡ root → IsSpan t x → StopHolds stop x.start 1 → IsStand t x (stop_span x stop)

abbrev pub no_stop : Stop
no_stop = record { node = record { 0 = 0 }; from = 0; end = 0; start = 0 }

-- all of a node, as the first stop of its own trail
abbrev pub first_stop : Table → NodeId → Stop
first_stop t root = record { node = root; from = 0; end = len_at t root.0; start = 0 }

abbrev pub stop_at : List Stop → ℕ → Stop
stop_at stops i = get_or stops i no_stop

-- the first `count` of these are stops one below the other, of any root
pub record AreStops (t : Table) (listed : List Stop) (count : ℕ) : Type 0 where
  pub room : length listed ≡ MOST_STOPS
  pub few : count ≤ MOST_STOPS
  pub first : 1 ≤ count → stop_at listed 0 ≡ first_stop t (stop_at listed 0).node
  pub stops : (i : ℕ) → i < count → IsTrailStop t (stop_at listed 0).node.0 i (stop_at listed i)

-- the first `count` of these are stops one below the other, from this root on, and there is at least one
pub record AreStopsOf (t : Table) (root : NodeId) (listed : List Stop) (count : ℕ) : Type 0 where
  pub is_trail : AreStops t listed count
  pub some : 1 ≤ count
  pub of_root : (stop_at listed 0).node ≡ root

abbrev pub IsTrail : Table → Trail → Type 0
IsTrail t trail = AreStops t trail.stops trail.count

abbrev pub IsTrailOf : Table → NodeId → Trail → Type 0
IsTrailOf t root trail = AreStopsOf t root trail.stops trail.count

-- What of a stop lies in the left child of its node, which has `left` bytes, in the right one, and in its base.
abbrev pub left_stop : Stop → NodeId → ℕ → Stop
left_stop stop l left = record { node = l; from = stop.from; end = min stop.end (stop.from + (left - stop.start)); start = stop.start }

abbrev pub right_stop : Stop → NodeId → ℕ → Stop
right_stop stop r left = record { node = r; from = stop.from + (left - stop.start); end = stop.end; start = stop.start - left }

abbrev pub base_stop : Stop → NodeId → ℕ → Stop
base_stop stop b i = record { node = b; from = stop.from; end = stop.end; start = stop.start + i }

-- a way of ropes of this table, which is sound and has true records, or one that keeps nothing
pub record IsWayOf {W : Type 0} (is_way : Table → W → Type 0) (t : Table) (way : W) : Type 0 where
  pub sound : IsSound t
  pub true_records : HasTrueRecords t
  pub keeps : is_way t way

-- one that has come down span x to a place
pub record IsOnWay {W P : Type 0} (is_way : Table → W → Type 0) (is_at : Table → Span → W → P → Type 0) (lies : Span → P → Span) (t : Table) (x : Span)
    (w : W) (here : P) : Type 0 where
  pub way : IsWayOf is_way t w
  pub span : IsSpan t x
  pub at : is_at t x w here
  pub stands : IsStand t x (lies x here)

-- the ways of a part and of a root
pub record AreWays {W : Type 0} (is_way : Table → W → Type 0) (t : Table) (ways : Ways W) : Type 0 where
  pub part : IsWayOf is_way t ways.of_part
  pub root : IsWayOf is_way t ways.of_root

-- this very stop, if the root's byte at p is the byte `start` of this node in it
pub record IsThisStop (stop : Stop) (p : ℕ) (node : NodeId) (start : ℕ) (z : Stop) : Type 0 where
  pub same : z ≡ stop
  pub here : z.node ≡ node
  pub holds : StopHolds z p 1
  pub at : place_in z p ≡ start

-- a stop of this root at which the root's byte at p is the byte `start` of this node
pub record IsFound (t : Table) (root p : ℕ) (node : NodeId) (start : ℕ) (stop : Stop) : Type 0 where
  pub is_stop : (i : ℕ) × IsTrailStop t root i stop
  pub here : stop.node ≡ node
  pub holds : StopHolds stop p 1
  pub at : place_in stop p ≡ start

-- a trail down span x has come to this stop, the ith below the root
pub record IsStopOf (t : Table) (x : Span) (way : Trail) (i : ℕ) (z : Stop) : Type 0 where
  pub trail : IsTrailOf t x.node way
  pub stop : IsTrailStop t x.node.0 i z
  pub holds : StopHolds z x.start 1

abbrev pub IsLastStop : Table → Span → Trail → Stop → Type 0
IsLastStop t x trail stop = IsStopOf t x trail (trail.count - 1) stop

-- where a step down leads to a stop, that follows the last one
abbrev pub FollowsLast : Table → Span → Trail → Descent Stop → Type 0
FollowsLast t x trail (Below z) = IsStopOf t x trail trail.count z
FollowsLast t x trail Leaf = Unit {0}
FollowsLast t x trail Border = Unit {0}
