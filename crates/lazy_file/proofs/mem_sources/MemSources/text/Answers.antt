use Rattle.std.proofs.Common.{◌≡◌, [], length, map, arith, get_or}
use Rattle.std.proofs.lemmas.Grind.{common_steps}
use Rattle.lazy_file.proofs.MemoryTexts.{text_in_limit}
use Rattle.lazy_file.specs.SourceTexts.{AreSizes}
use Rattle.lazy_file.proofs.mem_sources.MemSources.text.Goals as goal

pub returns-clause-limit : goal.returns-clause-limit
returns-clause-limit c =
    let sizes : AreSizes (map length c.args.self.now) = rw (← c.self.view_is) c.self.invariant in
    let is : c.index.result.now.now ≡ get_or c.args.self.now c.args.s [] = grind (arith, common_steps) in
    rw is (text_in_limit c.args.self.now c.args.s sizes c.requires)
