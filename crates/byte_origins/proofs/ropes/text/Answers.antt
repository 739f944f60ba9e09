use Rattle.std.proofs.Common.{◌≡◌, ℕ, List, ◌∷◌, ◌++◌, take, drop, Option, sym, ap, ◌∙◌, subst, arith}
use Rattle.rope_node.specs.declared.node.NodeId.{NodeId}
use Rattle.command_parts.specs.declared.part.Part.{Part}
use Rattle.image_reader.specs.Value.{ImageValue}
use Rattle.byte_origins.specs.declared.taking.CameFrom.{CameFrom}
use Rattle.byte_origins.specs.Origins.{origins_at}
use Rattle.byte_origins.specs.OriginTexts.{OriginTexts, CanBePut, Names}
use Rattle.byte_origins.specs.StepsBack.{came_len, IsStepBack, taken_of}
use Rattle.byte_origins.proofs.NamedOrigins.{keeps_through, names_kept}
use Rattle.byte_origins.proofs.Weaving.{IsWeaving, can_be_put, text_short, texts_kept, weave_begins, weave_ends, weave_inside, weave_is, weave_more}
use Rattle.byte_origins.proofs.ropes.text.Goals as goal

-- the part comes first of those that are left
first : (v : ImageValue) (k : ℕ) (old x : OriginTexts) (built : Option NodeId) (place : ℕ) (left : List Part) (part : Part) (rest : List Part) → left ≡ part ∷ rest → IsWeaving v k old x built place left → IsWeaving v k old x built place (part ∷ rest)
first v k old x built place left part rest is weaving = subst (IsWeaving v k old x built place) is weaving

came_is : (came : CameFrom) (n k place : ℕ) (part : Part) → came ≡ taken_of n place part 0 → n ≡ k → came ≡ taken_of k place part 0
came_is came n k place part e is = e ∙ ap (λ (m : ℕ). taken_of m place part 0) is

pub loop-part-init : goal.loop-part-init
loop-part-init c =
    let t = c.revisions-count.ensures.true_records in
    weave_begins c.args.image.now t t.rules c.args.k c.requires.there c.args.texts.now c.command_parts-rest.result c.count-brought.ensures.sound c.command_parts-rest.ensures

pub piece-requires-clause-came : goal.piece-requires-clause-came
piece-requires-clause-came c =
    let v = c.args.image.now in
    let t = c.revisions-count.ensures.true_records in
    let l = c.loop-part in
    let weaving = first v c.args.k c.args.texts.now l.texts l.built l.place l.rest c.in-Some.part c.next.new.self c.in-Some.ensures l.invariant in
    let came = came_is c.taken_of.result c.of-before.result.k c.args.k l.place c.in-Some.part c.taken_of.ensures c.of-before.ensures.k in
    let step = weave_is v t t.rules c.args.k c.requires.there c.args.texts.now l.texts l.built l.place c.in-Some.part c.next.new.self weaving in
    subst (λ (n : ℕ). CanBePut n c.taken_of.result) (sym c.requires.before)
    (subst (CanBePut c.args.k) (sym came) (can_be_put v t t.rules c.args.k c.requires.there l.place c.in-Some.part weaving.parts.0 step))

pub returns-in_err-next-clause-further : goal.returns-in_err-next-clause-further
returns-in_err-next-clause-further c = keeps_through c.args.texts.now c.loop-part.texts c.piece.new.texts c.loop-part.invariant.kept c.piece.ensures.further

pub joined-requires-clause-right : goal.joined-requires-clause-right
joined-requires-clause-right c =
    let v = c.args.image.now in
    let t = c.revisions-count.ensures.true_records in
    let l = c.loop-part in
    let weaving = first v c.args.k c.args.texts.now l.texts l.built l.place l.rest c.in-Some.part c.next.new.self c.in-Some.ensures l.invariant in
    let came = came_is c.taken_of.result c.of-before.result.k c.args.k l.place c.in-Some.part c.taken_of.ensures c.of-before.ensures.k in
    let step = weave_is v t t.rules c.args.k c.requires.there c.args.texts.now l.texts l.built l.place c.in-Some.part c.next.new.self weaving in
    (c.in_ok-next.ensures.text v c.args.k l.place (texts_kept v c.args.texts.now l.texts c.args.roots.now weaving.kept c.requires.ropes) (subst (IsStepBack v c.args.k l.place) (sym came) step)).there

pub returns-in_err-built-clause-further : goal.returns-in_err-built-clause-further
returns-in_err-built-clause-further c =
    keeps_through c.args.texts.now c.piece.new.texts c.joined.new.self (keeps_through c.args.texts.now c.loop-part.texts c.piece.new.texts c.loop-part.invariant.kept c.piece.ensures.further) c.joined.ensures.further

pub overflow_add-place : goal.overflow_add-place
overflow_add-place c =
    let v = c.args.image.now in
    let t = c.revisions-count.ensures.true_records in
    let l = c.loop-part in
    let weaving = first v c.args.k c.args.texts.now l.texts l.built l.place l.rest c.in-Some.part c.next.new.self c.in-Some.ensures l.invariant in
    let inside = weave_inside v t t.rules c.args.k c.requires.there c.args.texts.now l.texts l.built l.place c.in-Some.part c.next.new.self weaving in
    omega (arith, inside, text_short v t t.rules c.args.k c.requires.there, c.len-place.ensures)

pub loop-part-preserved : goal.loop-part-preserved
loop-part-preserved c =
    let v = c.args.image.now in
    let k = c.args.k in
    let t = c.revisions-count.ensures.true_records in
    let l = c.loop-part in
    let part = c.in-Some.part in
    let old = c.args.texts.now in
    let y = c.piece.new.texts in
    let z = c.joined.new.self in
    let os = origins_at v k in
    let weaving = first v k old l.texts l.built l.place l.rest part c.next.new.self c.in-Some.ensures l.invariant in
    let came = came_is c.taken_of.result c.of-before.result.k k l.place part c.taken_of.ensures c.of-before.ensures.k in
    let step = weave_is v t t.rules k c.requires.there old l.texts l.built l.place part c.next.new.self weaving in
    let right = c.in_ok-next.ensures.text v k l.place (texts_kept v old l.texts c.args.roots.now weaving.kept c.requires.ropes) (subst (IsStepBack v k l.place) (sym came) step) in
    let left = names_kept l.texts y c.piece.ensures.further l.built (take l.place os) weaving.built_names in
    let both = c.in_ok-built.ensures.text (take l.place os) (take (came_len c.taken_of.result) (drop l.place os)) left right in
    rw c.len-place.ensures
    (weave_more v t t.rules k c.requires.there old l.texts l.built l.place part c.next.new.self weaving y z c.in_ok-next.next c.in_ok-built.built c.piece.ensures.further c.joined.ensures.further
    (subst (λ (x : CameFrom). Names z c.in_ok-built.built (take l.place os ++ take (came_len x) (drop l.place os))) came both))

pub returns-clause-text : goal.returns-clause-text
returns-clause-text c =
    let v = c.args.image.now in
    let t = c.revisions-count.ensures.true_records in
    let l = c.loop-part in
    weave_ends v t t.rules c.args.k c.requires.there c.args.texts.now l.texts l.built l.place (subst (IsWeaving v c.args.k c.args.texts.now l.texts l.built l.place) c.in_default.ensures.0 l.invariant)
