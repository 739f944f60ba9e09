use Rattle.std.proofs.Common.{◌≡◌, ◌∙◌, List, ap, map}
use Rattle.std.specs.Borrow.{Bor}
use Rattle.std.proofs.lemmas.Result.{IfErr-weaker, IfOk-weaker}
use Rattle.clap.specs.Words.{Text, found_of, rows_of}
use Rattle.cord_words.specs.Words.{IsNumber, ReadsAs, argument_texts}
use Rattle.cord_words.proofs.GivenLemmas.{all_shown, zip_shown}
use Rattle.cord_words.proofs.given.numbers.Goals as goal

pub returns-clause-reads : goal.returns-clause-reads
returns-clause-reads c =
    let shown : map (λ x. x.now) c.deref.result.now ≡ argument_texts (rows_of (found_of c.args.given.now)) c.args.id.now =
    ap (λ (xs : List (Bor Text)). map (λ x. x.now) xs) c.deref.ensures.value ∙ c.in_ok-texts.ensures in
    IfOk-weaker c.each_parsed.result _ _ (λ ns h. rw (← shown) (zip_shown ReadsAs c.deref.result.now ns.items h)) c.each_parsed.ensures.reads

pub returns-clause-only_memory : goal.returns-clause-only_memory
returns-clause-only_memory c =
    let shown : map (λ x. x.now) c.deref.result.now ≡ argument_texts (rows_of (found_of c.args.given.now)) c.args.id.now =
    ap (λ (xs : List (Bor Text)). map (λ x. x.now) xs) c.deref.ensures.value ∙ c.in_ok-texts.ensures in
    IfErr-weaker c.each_parsed.result _ _ (λ f h each. h (all_shown IsNumber c.deref.result.now (rw shown each))) c.each_parsed.ensures.only_memory
