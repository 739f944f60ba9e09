-- Laws of one byte more.
use Rattle.std.proofs.Common.{◌≡◌, ℕ, ◌<◌, List, [], ◌∷◌, ◌++◌, length, Some, refl, sym, ap, subst, ◌∙◌, append_assoc, arith}
use Rattle.terminal_keys.specs.declared.mode.Mode.{Mode}
use Rattle.terminal_keys.specs.declared.stage.Stage.{Stage}
use Rattle.terminal_keys.specs.declared.stage.Stage.TheVariants.{Text}
use Rattle.terminal_keys.specs.Held.{IsOpen, stage_behind}
use Rattle.terminal_keys.specs.Keys.{keys_in, meant, mode_behind}
use Rattle.terminal_keys.specs.Sequences.{next_stage}
use Rattle.terminal_keys.proofs.SequenceLaws.{full_falls, goes_further}

-- none held
pub none_open : (s : Stage) (bytes : List ℕ) → s ≡ Text → bytes ≡ [] → IsOpen s bytes
none_open s bytes e f =
    let few : length {A = ℕ} [] < 1024 = omega arith in
    subst (λ (x : Stage). IsOpen x bytes) (sym e) (subst (λ (l : List ℕ). IsOpen Text l) (sym f) (refl, few))

-- one held more
pub one_open : (s t u : Stage) (bytes more : List ℕ) (b : ℕ) → IsOpen s bytes → next_stage s b ≡ Some t → u ≡ t → more ≡ bytes ++ b ∷ [] → length more < 1024
    → IsOpen u more
one_open s t u bytes more b h goes e f few =
    subst (λ (x : Stage). IsOpen x more) (sym e)
    (ap (λ (l : List ℕ). stage_behind Text l) f ∙ goes_further bytes Text s t b h.0 goes, few)

pub one_keys : (m : Mode) (bytes more : List ℕ) (b : ℕ) (rest : List ℕ) → more ≡ bytes ++ b ∷ []
    → keys_in m (more ++ rest) ≡ keys_in m (bytes ++ b ∷ rest)
one_keys m bytes more b rest f =
    ap (λ (l : List ℕ). keys_in m (l ++ rest)) f ∙ ap (λ (l : List ℕ). keys_in m l) (append_assoc bytes (b ∷ []) rest)

-- one held more than would be its most, and let go
pub full_keys : (m : Mode) (s t : Stage) (bytes more left : List ℕ) (b : ℕ) (rest : List ℕ) → IsOpen s bytes → next_stage s b ≡ Some t
    → more ≡ bytes ++ b ∷ [] → length more ≡ 1024 → left ≡ [] → keys_in m (left ++ rest) ≡ keys_in m (bytes ++ b ∷ rest)
full_keys m s t bytes more left b rest h goes f full none =
    ap (λ (l : List ℕ). keys_in m (l ++ rest)) none
    ∙ sym (full_falls m t more rest (ap (λ (l : List ℕ). stage_behind Text l) f ∙ goes_further bytes Text s t b h.0 goes) full)
    ∙ one_keys m bytes more b rest f

-- the keys of a whole sequence, and none held
pub ended_keys : (m n : Mode) (keys whole left rest : List ℕ) → keys ≡ meant m whole → n ≡ mode_behind m whole → left ≡ []
    → keys ++ keys_in n (left ++ rest) ≡ meant m whole ++ keys_in (mode_behind m whole) rest
ended_keys m n keys whole left rest e f none =
    ap (λ (l : List ℕ). l ++ keys_in n (left ++ rest)) e
    ∙ ap (λ (x : Mode). meant m whole ++ keys_in x (left ++ rest)) f
    ∙ ap (λ (l : List ℕ). meant m whole ++ keys_in (mode_behind m whole) (l ++ rest)) none
