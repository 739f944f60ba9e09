use Rattle.std.proofs.Common.{ℕ, List, length, map, get_or, refl, ap}
use Rattle.std.specs.List.{range_with_len}
use Rattle.std.proofs.lemmas.List.Elements.{All-from_recursion}
use Rattle.edit_commands.specs.Session.{session_table, commands_of, text_givens, texts_of}
use Rattle.edit_script.specs.Commands.{StandsInside, words_of}
use Rattle.session_checker.specs.Faithful.{givens, commands, texts}
use Rattle.script_tools.proofs.law.has_the_texts.Goals as goal

pub returns : goal.returns
returns c = λ script v w source made reads others_inside others.
    let said = made.says (map (words_of w.pool) (commands w)) reads in
    let sources = ap (λ (xs : List ℕ). map (λ (s : ℕ). map (source s) (range_with_len 0 (get_or xs s 0))) (range_with_len 0 (length xs))) made.sources in
    c.says_the_texts.ensures (text_givens source (session_table v)) (givens w source) (commands_of v.revisions) (commands w) (texts_of source v) (texts w source)
    (record {
      words = said.0;
      inside = All-from_recursion (StandsInside (length v.held.pool.bytes)) (commands_of v.revisions) said.1;
      others_inside = others_inside;
      sources = sources;
      byte = refl;
    })
    (made.history.texts source) others
