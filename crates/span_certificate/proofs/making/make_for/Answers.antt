use Rattle.std.proofs.Common.{◌≡◌, ℕ, ◌+◌, ◌-◌, ◌<◌, List, [], ◌∷◌, ◌++◌, length, Option, Some, ap, ◌∙◌, arith, rules}
use Rattle.rope_node.specs.Table.{Table, IsSound, HasTrueRecords}
use Rattle.rope_node.specs.Denotes.{cells}
use Rattle.rope_node.specs.declared.node.NodeId.{NodeId}
use Rattle.command_parts.specs.declared.part.Part.{Part}
use Rattle.span_certificate.specs.declared.row.Row.{Row}
use Rattle.span_certificate.specs.Longest.{IsLongest, StayWithin}
use Rattle.command_parts.specs.Parts.{part_len, part_at, parts_cells, AreParts}
use Rattle.command_parts.specs.Places.{held, IsAt}
use Rattle.command_parts.proofs.PartPlaces.{at_part, at_whole}
use Rattle.span_certificate.proofs.Made.{IsStep, step_of, whole_parts, making_more, making_none, made_rows, covers_at_end}
use Rattle.span_certificate.proofs.making.make_for.Goals as goal

part_here : (parts : List Part) (place : ℕ) (here : Option Part) (off : ℕ) (rest : List Part) (part : Part) → IsAt parts place here off rest → here ≡ Some part → part_at parts place ≡ Some (part, off)
part_here parts place here off rest part at is = at_part parts place here off rest at ∙ ap (λ (p : Option Part). held p off) is

step_here : (t : Table) → IsSound t → HasTrueRecords t → (parts : List Part) (node : NodeId) (place : ℕ) (here : Option Part) (off : ℕ) (rest : List Part) (part : Part) (len : ℕ) → AreParts t parts → node.0 < length t.nodes → parts_cells t parts ≡ cells t node.0
    → IsAt parts place here off rest → here ≡ Some part → len ≡ part_len part → IsStep t part off node place (len - off)
step_here t s h parts node place here off rest part len are there same at is whole =
    rw whole (step_of t s h parts node place off part are there same (part_here parts place here off rest part at is))

longest_here : (t : Table) (parts : List Part) (node : NodeId) (place off : ℕ) (part : Part) (len : ℕ) (row : Row) → part_at parts place ≡ Some (part, off) → len ≡ part_len part
    → (row.len < len - off → ¬ StayWithin t (row.len + 1) part off (Some node) place row.kind) → IsLongest t parts (Some node) place row
longest_here t parts node place off part len row here whole longest = rw here (λ short. longest (omega (arith, whole, short)))

pub unreachable-requires : goal.unreachable-requires
unreachable-requires g c =
    let end = (at_whole c.args.parts c.loop-place.place c.loop-place.at.part c.loop-place.at.off c.loop-place.at.rest c.loop-place.invariant.at).0 c.in-None.is in
    let whole = whole_parts (g.S.NodeSpace.table c.args.space.now) c.len-end.ensures.sound c.len-end.ensures.true_records c.args.parts c.args.root c.requires.parts c.requires.root c.requires.same in
    absurd (omega (arith, end, whole, c.loop-place-test.true, c.len-end.ensures.value))

pub next_row-row-requires-clause-part : goal.next_row-row-requires-clause-part
next_row-row-requires-clause-part g c =
    let s = step_here (g.S.NodeSpace.table c.args.space.now) c.len-end.ensures.sound c.len-end.ensures.true_records c.args.parts c.args.root c.loop-place.place c.loop-place.at.part c.loop-place.at.off c.loop-place.at.rest c.in-Some.part c.len-in-Some.result
    c.requires.parts c.requires.root c.requires.same c.loop-place.invariant.at c.in-Some.is c.len-in-Some.ensures in
    s.is_part

pub next_row-row-requires-clause-y : goal.next_row-row-requires-clause-y
next_row-row-requires-clause-y g c =
    let s = step_here (g.S.NodeSpace.table c.args.space.now) c.len-end.ensures.sound c.len-end.ensures.true_records c.args.parts c.args.root c.loop-place.place c.loop-place.at.part c.loop-place.at.off c.loop-place.at.rest c.in-Some.part c.len-in-Some.result
    c.requires.parts c.requires.root c.requires.same c.loop-place.invariant.at c.in-Some.is c.len-in-Some.ensures in
    record { there = c.requires.root; some = s.some; inside = s.inside_root }

pub next_row-row-requires-clause-same : goal.next_row-row-requires-clause-same
next_row-row-requires-clause-same g c =
    let s = step_here (g.S.NodeSpace.table c.args.space.now) c.len-end.ensures.sound c.len-end.ensures.true_records c.args.parts c.args.root c.loop-place.place c.loop-place.at.part c.loop-place.at.off c.loop-place.at.rest c.in-Some.part c.len-in-Some.result
    c.requires.parts c.requires.root c.requires.same c.loop-place.invariant.at c.in-Some.is c.len-in-Some.ensures in
    s.same

pub overflow_add-place : goal.overflow_add-place
overflow_add-place g c =
    let s = step_here (g.S.NodeSpace.table c.args.space.now) c.len-end.ensures.sound c.len-end.ensures.true_records c.args.parts c.args.root c.loop-place.place c.loop-place.at.part c.loop-place.at.off c.loop-place.at.rest c.in-Some.part c.len-in-Some.result
    c.requires.parts c.requires.root c.requires.same c.loop-place.invariant.at c.in-Some.is c.len-in-Some.ensures in
    omega (arith, s.inside_root, c.next_row-row.ensures.next.few, c.len-end.ensures.value, c.len-end.ensures.limit)

pub loop-place-preserved : goal.loop-place-preserved
loop-place-preserved g c =
    let t = g.S.NodeSpace.table c.args.space.now in
    let here = part_here c.args.parts c.loop-place.place c.loop-place.at.part c.loop-place.at.off c.loop-place.at.rest c.in-Some.part c.loop-place.invariant.at c.in-Some.is in
    let s = step_here (g.S.NodeSpace.table c.args.space.now) c.len-end.ensures.sound c.len-end.ensures.true_records c.args.parts c.args.root c.loop-place.place c.loop-place.at.part c.loop-place.at.off c.loop-place.at.rest c.in-Some.part c.len-in-Some.result
    c.requires.parts c.requires.root c.requires.same c.loop-place.invariant.at c.in-Some.is c.len-in-Some.ensures in
    let pushed : c.push.new.self.items ≡ c.loop-place.rows.items ++ c.next_row-row.result ∷ [] = search rules in
    record {
      making = rw pushed
          (making_more t c.len-end.ensures.sound c.len-end.ensures.true_records (g.S.CodedSpace.coded c.args.space.now) c.args.parts c.args.root c.loop-place.rows.items c.loop-place.place c.loop-place.at.off (c.len-in-Some.result - c.loop-place.at.off) c.in-Some.part c.next_row-row.result
          c.requires.parts c.requires.same here s c.next_row-row.ensures.next (longest_here t c.args.parts c.args.root c.loop-place.place c.loop-place.at.off c.in-Some.part c.len-in-Some.result c.next_row-row.result here c.len-in-Some.ensures c.next_row-row.ensures.longest) (search rules) c.loop-place.invariant.making);
      ways = record { part = record { sound = c.len-end.ensures.sound; true_records = c.len-end.ensures.true_records; keeps = c.forget_between_parts.ensures t c.next_row-row.ensures.ways.part.keeps }; root = c.next_row-row.ensures.ways.root };
      at = c.skip.ensures c.args.parts c.loop-place.place c.loop-place.invariant.at;
    }

pub returns : goal.returns
returns g c =
    let t = g.S.NodeSpace.table c.args.space.now in
    let coded = g.S.CodedSpace.coded c.args.space.now in
    made_rows t coded c.args.parts (Some c.args.root) c.loop-place.rows c.loop-place.place c.loop-place.invariant.making
    (covers_at_end t c.len-end.ensures.sound c.len-end.ensures.true_records coded c.args.parts (Some c.args.root) c.loop-place.rows.items c.loop-place.place
    c.requires.parts c.requires.root c.requires.same c.loop-place.invariant.making (omega (arith, c.len-end.ensures.value, c.loop-place-test.false)))

pub loop-place-init : goal.loop-place-init
loop-place-init g c = record {
  making = rw c.new-rows.ensures.items (making_none (g.S.NodeSpace.table c.args.space.now) (g.S.CodedSpace.coded c.args.space.now) c.args.parts (Some c.args.root));
  ways = c.forget.ensures (g.S.NodeSpace.table c.args.space.now) c.len-end.ensures.sound c.len-end.ensures.true_records;
  at = c.start-at.ensures;
}
