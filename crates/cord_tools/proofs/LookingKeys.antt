-- Keys that look make no command.
use Rattle.std.proofs.Common.{◌≡◌, ℕ, List, true, refl, get_or}
use Rattle.std.specs.List.{list_all}
use Rattle.std.proofs.lemmas.List.Sums.{AllPass-from_list_all}
use Rattle.screen_editor.specs.declared.key.Key.{Key}
use Rattle.screen_editor.specs.declared.key.Key.TheVariants.{Left, Right, LineStart, LineEnd, Up, Down, Mark, DropCut, Nothing}
use Rattle.screen_editor.specs.Keys.{key_of}
use Rattle.cord_tools.specs.Looking.{AllMakeNothing, MakesNothing, only_looks}

pub look_makes_nothing : (k : Key) → only_looks k ≡ true → MakesNothing k
look_makes_nothing Left e = λ a s. refl
look_makes_nothing Right e = λ a s. refl
look_makes_nothing LineStart e = λ a s. refl
look_makes_nothing LineEnd e = λ a s. refl
look_makes_nothing Up e = λ a s. refl
look_makes_nothing Down e = λ a s. refl
look_makes_nothing Mark e = λ a s. refl
look_makes_nothing DropCut e = λ a s. refl
look_makes_nothing Nothing e = λ a s. refl
look_makes_nothing _ e = absurd cc

pub looks_make_nothing : (keys : List ℕ) → list_all (λ b. only_looks (key_of b)) keys ≡ true → AllMakeNothing keys
looks_make_nothing keys e = λ k d below. look_makes_nothing (key_of (get_or keys k d)) (AllPass-from_list_all (λ b. only_looks (key_of b)) keys e k d below)
