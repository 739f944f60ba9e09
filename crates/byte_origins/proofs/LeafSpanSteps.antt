-- The way down to the leaf span that a node's bytes from a place on begin with.
use Rattle.std.proofs.Common.{◌≡◌, ℕ, ◌-◌, ◌<◌, min, length, ap, arith}
use Rattle.rope_node.specs.declared.node.LeafSpan.{LeafSpan}
use Rattle.rope_node.specs.declared.node.NodeId.{NodeId}
use Rattle.rope_node.specs.declared.node.Span.{Span}
use Rattle.rope_node.specs.Table.{Table, len_at, IsSound, HasTrueRecords}
use Rattle.rope_node.specs.Path.{span_at}
use Rattle.rope_node.specs.Steps.{IsSpan, first_of}
use Rattle.rope_node.proofs.LeafSpans.{begins}

-- the bytes of span z begin with the leaf span of node x at place i
pub record IsOnWay (t : Table) (x i : ℕ) (z : Span) : Type 0 where
  pub is_span : IsSpan t z
  pub first : first_of t z ≡ span_at t x i

-- all of the node's bytes from there on do
pub begins_way : (t : Table) → IsSound t → HasTrueRecords t → (x : NodeId) (i : ℕ) → x.0 < length t.nodes → i < len_at t x.0 → IsOnWay t x.0 i (record { node = x; start = i; len = len_at t x.0 - i })
begins_way t s h x i there inside =
    let span : LeafSpan = span_at t x.0 i in
    let few : min (len_at t x.0 - i) span.len ≡ span.len = omega (arith, (begins t s h x.0 i there inside).in_node) in
    record {
      is_span = record { there = there; some = omega arith; inside = omega arith };
      first = ap (λ (n : ℕ). record span { len = n }) few;
    }
