-- What a run kept makes the texts again.
use Rattle.std.proofs.Common.{◌≡◌, ℕ, List, length, map, Ok, refl, sym, ap, ◌∙◌}
use Rattle.std.specs.Prelude.{get_or}
use Rattle.std.specs.List.{range_with_len}
use Rattle.std.proofs.lemmas.List.Elements.{All-from_recursion}
use Rattle.edit_commands.specs.Session.{HoldsHistory, SessionValue, commands_of, session_table, text_givens, texts_of}
use Rattle.edit_script.specs.Commands.{StandsInside}
use Rattle.edit_script.specs.Applied.{TakesLines, lines_of}
use Rattle.edit_script.specs.Scripts.{AreInside}
use Rattle.edit_script.proofs.Sessions.{says_script}
use Rattle.edit_script.proofs.Histories.{same_texts}
use Rattle.session_server.specs.Kept.{KeepsScript}

pub recovered : (old new again : SessionValue) (kept : List ℕ) → AreInside old → KeepsScript old kept new
    → TakesLines old 0 (lines_of kept) (Ok tt) again
    → HoldsHistory new → HoldsHistory again → again.held.sources ≡ new.held.sources
    → (source : ℕ → ℕ → ℕ) → texts_of source again ≡ texts_of source new
recovered old new again kept inside s takes h k sources source =
    let g = says_script old 0 (lines_of kept) (Ok tt) again s.says inside refl takes s.script in
    same_texts (text_givens source (session_table again)) (text_givens source (session_table new))
    (commands_of again.revisions) (commands_of new.revisions) (texts_of source again) (texts_of source new)
    (record {
      words = g.0 ∙ sym s.words;
      inside = All-from_recursion (StandsInside (length again.held.pool.bytes)) (commands_of again.revisions) g.1;
      others_inside = All-from_recursion (StandsInside (length new.held.pool.bytes)) (commands_of new.revisions) s.inside;
      sources = ap (λ (lens : List ℕ). map (λ (k : ℕ). map (source k) (range_with_len 0 (get_or lens k 0))) (range_with_len 0 (length lens))) sources;
      byte = refl;
    })
    (k.texts source) (h.texts source)
