use Rattle.std.proofs.Common.{List, ap, map, refl, ◌∙◌}
use Rattle.std.proofs.lemmas.Result.{IfOk-weaker}
use Rattle.std.specs.Borrow.{Bor}
use Rattle.clap.specs.Words.{Text, found_of}
use Rattle.cord_words.proofs.GivenLemmas.{texts_given}
use Rattle.cord_words.proofs.given.texts.Goals as goal

pub returns : goal.returns
returns c =
    let all = texts_given (found_of c.args.given.now) c.args.id.now c.get_strs.result _ c.unwrap_or.result c.unwrap_or.ensures c.get_strs.ensures refl in
    IfOk-weaker c.from_slice.result _ _ (λ made same. ap (λ (vs : List (Bor Text)). map (λ v. v.now) vs) same ∙ all) c.from_slice.ensures.items
