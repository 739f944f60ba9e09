use Rattle.std.proofs.Common.{◌≡◌, ℕ, List, ap, ◌∙◌}
use Rattle.command_parts.specs.declared.edit.Edit.{Edit}
use Rattle.command_parts.specs.declared.edit.Splice.{Splice}
use Rattle.command_parts.specs.declared.part.Part.{Part}
use Rattle.command_parts.specs.Commands.{full_edit}
use Rattle.command_parts.specs.Parts.{parts_of}
use Rattle.image_reader.specs.Value.{ImageValue}
use Rattle.image_reader.specs.Accepted.{command_at}
use Rattle.byte_origins.specs.EarlierTexts.{texts_table, texts_roots, texts_parts}
use Rattle.byte_origins.proofs.EarlierTexts.{texts_ropes}
use Rattle.byte_origins.proofs.StepBack.{texts_in_range}
use Rattle.byte_origins.proofs.taking.edit_parts.Goals as goal

-- the parts that the code makes are those over the texts before k
parts_are : (v w : ImageValue) (k n : ℕ) (own listed : List Splice) (edit : Edit) (parts : List Part) → w ≡ v → n ≡ k → listed ≡ own → full_edit own edit ≡ command_at v k → parts ≡ parts_of (texts_table w n) (texts_roots w n) (full_edit listed edit)
    → parts ≡ texts_parts v k
parts_are v w k n own listed edit parts e f same says exact =
    exact
    ∙ ap (λ (x : ImageValue). parts_of (texts_table x n) (texts_roots x n) (full_edit listed edit)) e
    ∙ ap (λ (x : ℕ). parts_of (texts_table v x) (texts_roots v x) (full_edit listed edit)) f
    ∙ ap (λ (x : List Splice). parts_of (texts_table v k) (texts_roots v k) (full_edit x edit)) same
    ∙ ap (parts_of (texts_table v k) (texts_roots v k)) says

pub parts-requires-clause-ropes : goal.parts-requires-clause-ropes
parts-requires-clause-ropes g c = rw (c.of-texts.ensures.image, c.of-texts.ensures.k) (texts_ropes (g.H.History.image c.args.history) c.args.k)

pub parts-requires-clause-named : goal.parts-requires-clause-named
parts-requires-clause-named g c = rw (c.requires.same) c.requires.names

pub parts-requires-clause-in_range : goal.parts-requires-clause-in_range
parts-requires-clause-in_range g c =
    let t = c.revision_count-count.ensures.true_records in
    rw (c.of-texts.ensures.image, c.of-texts.ensures.k, c.requires.same, c.requires.says) (texts_in_range (g.H.History.image c.args.history) t t.rules c.args.k c.requires.there)

pub returns : goal.returns
returns g c =
    parts_are (g.H.History.image c.args.history) (g.H.History.image c.of-texts.result.history) c.args.k c.of-texts.result.k (g.H.History.listed c.args.history c.args.k) (g.H.Listed.Splices.splices c.args.splices.now) c.args.edit.now c.parts.result
    c.of-texts.ensures.image c.of-texts.ensures.k c.requires.same c.requires.says c.parts.ensures.exact
