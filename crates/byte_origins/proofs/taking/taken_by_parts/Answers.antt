use Rattle.std.proofs.Common.{◌≡◌, ℕ, List, Option, Some, None, sym, ap, ◌∙◌}
use Rattle.std.specs.Option.{option_map}
use Rattle.command_parts.specs.declared.part.Part.{Part}
use Rattle.command_parts.specs.Parts.{part_at}
use Rattle.byte_origins.specs.StepsBack.{taken_of}
use Rattle.byte_origins.specs.EarlierTexts.{texts_parts}
use Rattle.byte_origins.proofs.TakenParts.{held_place, held_there}
use Rattle.byte_origins.proofs.taking.taken_by_parts.Goals as goal

held_in : (parts ps : List Part) (place : ℕ) (held found : Option (Part × ℕ)) → parts ≡ ps → held ≡ part_at parts place → held ≡ found → part_at ps place ≡ found
held_in parts ps place held found e is h = ap (λ (x : List Part). part_at x place) (sym e) ∙ sym is ∙ h

pub taken_of-requires-clause-part : goal.taken_of-requires-clause-part
taken_of-requires-clause-part g c =
    let at = held_in c.edit_parts.result (texts_parts (g.H.History.image c.args.history) c.args.k) c.args.place c.held.result (Some (c.in-Some.part, c.in-Some.off)) c.edit_parts.ensures c.held.ensures c.in-Some.is in
    rw (c.of-texts.ensures.image, c.of-texts.ensures.k) (held_place (g.H.History.image c.args.history) c.revision_count-count.ensures.true_records c.revision_count-count.ensures.true_records.rules c.args.k c.requires.there c.args.place c.in-Some.part c.in-Some.off at).is_part

pub taken_of-requires-clause-inside : goal.taken_of-requires-clause-inside
taken_of-requires-clause-inside g c =
    let at = held_in c.edit_parts.result (texts_parts (g.H.History.image c.args.history) c.args.k) c.args.place c.held.result (Some (c.in-Some.part, c.in-Some.off)) c.edit_parts.ensures c.held.ensures c.in-Some.is in
    (held_place (g.H.History.image c.args.history) c.revision_count-count.ensures.true_records c.revision_count-count.ensures.true_records.rules c.args.k c.requires.there c.args.place c.in-Some.part c.in-Some.off at).before_end

pub unreachable-requires : goal.unreachable-requires
unreachable-requires g c =
    let at = held_in c.edit_parts.result (texts_parts (g.H.History.image c.args.history) c.args.k) c.args.place c.held.result None c.edit_parts.ensures c.held.ensures c.in-None.is in
    held_there (g.H.History.image c.args.history) c.revision_count-count.ensures.true_records c.revision_count-count.ensures.true_records.rules c.args.k c.requires.there c.args.place c.requires.inside at

pub returns : goal.returns
returns g c =
    let at = held_in c.edit_parts.result (texts_parts (g.H.History.image c.args.history) c.args.k) c.args.place c.held.result (Some (c.in-Some.part, c.in-Some.off)) c.edit_parts.ensures c.held.ensures c.in-Some.is in
    rw (c.taken_of.ensures, c.of-texts.ensures.k) (ap (option_map (λ (x : Part × ℕ). taken_of c.args.k c.args.place x.0 x.1)) at)
