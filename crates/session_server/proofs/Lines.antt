-- A line and its end, in front of others.
use Rattle.std.proofs.Common.{◌≡◌, ◌≢◌, ℕ, eqb, List, [], ◌∷◌, ◌++◌, refl, ap, ◌∙◌}
use Rattle.std.specs.List.{onto_first}
use Rattle.std.proofs.lemmas.Bool.{ne_eqb}
use Rattle.std.proofs.lemmas.List.Elements.{All-head, All-tail}
use Rattle.std.proofs.lemmas.List.Splits.{slice_split-cons_no}
use Rattle.edit_script.specs.Applied.{lines_of}
use Rattle.line_server.specs.Turns.{HasNoEnd, ended}

abbrev pub IsInside : ℕ → Type 0
IsInside b = b ≢ 10

pub line_split : (t rest : List ℕ) → HasNoEnd t → lines_of (ended t ++ rest) ≡ t ∷ lines_of rest
line_split [] rest h = refl
line_split (c ∷ t) rest h =
    slice_split-cons_no (λ b. eqb b 10) c (ended t ++ rest) (ne_eqb c 10 (All-head IsInside c t h))
    ∙ ap (onto_first c) (line_split t rest (All-tail IsInside c t h))
