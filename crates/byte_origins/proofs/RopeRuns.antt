-- The run that a rope of origins begins with at a place.
use Rattle.std.proofs.Common.{◌≡◌, ℕ, ◌+◌, ◌<◌, ◌≤◌, min, List, map, length, take, drop, Some, sym, ap, ◌∙◌, subst, arith}
use Rattle.std.specs.List.{range_with_len}
use Rattle.std.proofs.lemmas.List.{length-take, length-drop, take-take}
use Rattle.rope_node.specs.declared.node.LeafSpan.{LeafSpan}
use Rattle.rope_node.specs.declared.node.NodeId.{NodeId}
use Rattle.rope_node.specs.declared.node.NodeView.TheVariants.{Src}
use Rattle.rope_node.specs.Table.{Table, len_at, view_at, IsSound, HasTrueRecords}
use Rattle.rope_node.specs.Denotes.{Cell, Place, cells}
use Rattle.rope_node.specs.Path.{span_at}
use Rattle.rope_node.proofs.Cells.{cells_at}
use Rattle.rope_node.proofs.LeafSpans.{BeginsWith, begins}
use Rattle.rope_node.proofs.Parts.{span-map, span-range_with_len}
use Rattle.byte_origins.specs.declared.run.Origin.{Origin}
use Rattle.byte_origins.specs.declared.run.OriginRun.{OriginRun}
use Rattle.byte_origins.specs.Origins.{IsOriginRun}
use Rattle.byte_origins.specs.OriginTexts.{OriginTexts, ropes_table, named, ArePlaces, Names}
use Rattle.byte_origins.proofs.RunOrigins.{length-run}
use Rattle.byte_origins.proofs.NamedOrigins.{named_part, named_places}
use Rattle.byte_origins.proofs.StepsTaken.{shorter, take-run}

-- a part of a source leaf is places side by side
pub source_places : (t : Table) → IsSound t → (x : LeafSpan) (s a : ℕ) → x.leaf.0 < length t.nodes → x.start + x.len ≤ len_at t x.leaf.0 → view_at t x.leaf.0 ≡ Src s a → ArePlaces t x (a + x.start)
source_places t sound x s a there inside is =
    let n = len_at t x.leaf.0 in (
      s,
      ap (λ (cs : List Cell). take x.len (drop x.start cs)) (cells_at t sound x.leaf.0 there (Src s a) is)
          ∙ span-map (Place s) x.len x.start (range_with_len a n)
          ∙ ap (map (Place s)) (span-range_with_len x.len x.start a n inside),
    )

-- the place stays below the limit
pub source_short : (t : Table) → IsSound t → (x : LeafSpan) (s a : ℕ) → x.leaf.0 < length t.nodes → x.start + x.len ≤ len_at t x.leaf.0 → view_at t x.leaf.0 ≡ Src s a → a + x.start < 18446744073709551616
source_short t sound x s a there inside is =
    let held = rw is at (sound.nodes x.leaf.0 there).span in
    omega (arith, held, inside, sound.sources s)

pub run_fits : (os : List Origin) (place : ℕ) (run : OriginRun) → IsOriginRun os place run → place + run.len ≤ length os
run_fits os place run is =
    let long : length (take run.len (drop place os)) ≡ run.len = ap (λ (xs : List Origin). length xs) is.stands ∙ length-run run in
    omega (arith, long, length-take run.len (drop place os), length-drop place os, is.some)

pub span_found : (t : Table) → IsSound t → HasTrueRecords t → (node place : ℕ) → node < length t.nodes → place < len_at t node → (x : LeafSpan) → x ≡ span_at t node place → BeginsWith t node place x
span_found t s h node place there inside x is = subst (BeginsWith t node place) (sym is) (begins t s h node place there inside)

pub names_run : (x : OriginTexts) (node : NodeId) (place : ℕ) (span : LeafSpan) (p : ℕ) (run : OriginRun) (m : ℕ) (os : List Origin)
    → BeginsWith (ropes_table x) node.0 place span → ArePlaces (ropes_table x) span p → IsOriginRun x.brought p run → m ≡ min run.len span.len → Names x (Some node) os
    → IsOriginRun os place (record { first = run.first; len = m })
names_run x node place span p run m os begin places is least names =
    let t = ropes_table x in
    let n = span.len in
    let few : m ≤ run.len = omega (arith, least) in
    let in_span : m ≤ n = omega (arith, least) in
    let span_is : take n (drop place (cells t node.0)) ≡ map (Place places.0) (range_with_len p n) = begin.cells ∙ places.1 in
    let named_so : map (named x.brought) (map (Place places.0) (range_with_len p n)) ≡ map Some (take n (drop place os)) =
    ap (map (named x.brought)) (sym span_is) ∙ named_part x.brought ((cells t node.0)) os n place names.same in
    let same : take n (drop p x.brought) ≡ take n (drop place os) = named_places x.brought places.0 p n (take n (drop place os)) named_so in
    record {
      some = omega (arith, least, is.some, begin.some);
      stands = sym (shorter m n (drop p x.brought) (drop place os) same in_span)
          ∙ sym (take-take m run.len (drop p x.brought) few)
          ∙ ap (take m) is.stands
          ∙ take-run m run.len run.first few;
    }
