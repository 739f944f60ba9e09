use Rattle.std.proofs.Common.{Some, sym, ap, ◌∙◌, arith}
use Rattle.byte_origins.proofs.SplicedTexts.{splice_is}
use Rattle.byte_origins.proofs.Together.{step_is}
use Rattle.byte_origins.proofs.taking.taken_counted.Goals as goal

pub spliced-requires-clause-there : goal.spliced-requires-clause-there
spliced-requires-clause-there g c =
    let s = splice_is (g.H.History.image c.args.history) c.args.k c.args.place c.in-Some.r (g.H.History.listed c.args.history c.args.k) c.command-edit.result c.in-Some.splice c.one_splice.result c.revision_count-count.ensures.true_records c.requires.there c.requires.inside c.command-edit.ensures.says c.one_splice.ensures c.in-Some.is in
    omega (arith, s.earlier, c.requires.there)

pub spliced-requires-clause-fits : goal.spliced-requires-clause-fits
spliced-requires-clause-fits g c = (splice_is (g.H.History.image c.args.history) c.args.k c.args.place c.in-Some.r (g.H.History.listed c.args.history c.args.k) c.command-edit.result c.in-Some.splice c.one_splice.result c.revision_count-count.ensures.true_records c.requires.there c.requires.inside c.command-edit.ensures.says c.one_splice.ensures c.in-Some.is).fits

pub spliced-requires-clause-pool : goal.spliced-requires-clause-pool
spliced-requires-clause-pool g c = (splice_is (g.H.History.image c.args.history) c.args.k c.args.place c.in-Some.r (g.H.History.listed c.args.history c.args.k) c.command-edit.result c.in-Some.splice c.one_splice.result c.revision_count-count.ensures.true_records c.requires.there c.requires.inside c.command-edit.ensures.says c.one_splice.ensures c.in-Some.is).pool

pub spliced-requires-clause-inside : goal.spliced-requires-clause-inside
spliced-requires-clause-inside g c = (splice_is (g.H.History.image c.args.history) c.args.k c.args.place c.in-Some.r (g.H.History.listed c.args.history c.args.k) c.command-edit.result c.in-Some.splice c.one_splice.result c.revision_count-count.ensures.true_records c.requires.there c.requires.inside c.command-edit.ensures.says c.one_splice.ensures c.in-Some.is).inside

pub returns-in-Some-clause-exact : goal.returns-in-Some-clause-exact
returns-in-Some-clause-exact g c = (splice_is (g.H.History.image c.args.history) c.args.k c.args.place c.in-Some.r (g.H.History.listed c.args.history c.args.k) c.command-edit.result c.in-Some.splice c.one_splice.result c.revision_count-count.ensures.true_records c.requires.there c.requires.inside c.command-edit.ensures.says c.one_splice.ensures c.in-Some.is).back ∙ ap Some (sym c.spliced.ensures)

pub returns-in-Some-clause-step : goal.returns-in-Some-clause-step
returns-in-Some-clause-step g c =
    let t = c.revision_count-count.ensures.true_records in
    let s = splice_is (g.H.History.image c.args.history) c.args.k c.args.place c.in-Some.r (g.H.History.listed c.args.history c.args.k) c.command-edit.result c.in-Some.splice c.one_splice.result c.revision_count-count.ensures.true_records c.requires.there c.requires.inside c.command-edit.ensures.says c.one_splice.ensures c.in-Some.is in
    step_is (g.H.History.image c.args.history) t t.rules c.args.k c.args.place c.spliced.result c.requires.there (s.back ∙ ap Some (sym c.spliced.ensures))

pub returns-in-None-clause-step : goal.returns-in-None-clause-step
returns-in-None-clause-step g c =
    let t = c.revision_count-count.ensures.true_records in
    step_is (g.H.History.image c.args.history) t t.rules c.args.k c.args.place c.taken_by_parts.result c.requires.there c.taken_by_parts.ensures
