use Rattle.std.proofs.Common.{arith}
use Rattle.cord_search.proofs.Seeks.{run_kept}
use Rattle.cord_search.proofs.seeker.Seeker.keep.Goals as goal

pub returns-clause-sought : goal.returns-clause-sought
returns-clause-sought c t st rope start seeking piece inside =
    let near = c.before_first-count in
    let fill = c.fill_from_slice in
    run_kept t st rope start c.args.self.now c.requires.kept.some seeking c.requires.empty c.args.run.now near.result fill.result piece inside near.ensures.most near.ensures.none
    (omega (arith, c.requires.short, c.requires.kept.capacity)) fill.ensures.count fill.new.self fill.ensures.items
