-- Keys that do nothing here.
use Rattle.std.proofs.Common.{◌≡◌, true, false, Ok, refl, sym, ap, subst, ◌∙◌, ◌⊎◌, inl, inr}
use Rattle.edit_commands.specs.Session.{HoldsHistory}
use Rattle.screen_editor.specs.declared.key.Key.{Key}
use Rattle.screen_editor.specs.declared.key.Key.TheVariants.{LineStart, LineEnd, Up, Down, Save, Leave, Nothing}
use Rattle.screen_editor.specs.Editing.{Editing, IsEditing}
use Rattle.screen_editor.specs.Keys.{looks_for_lines}
use Rattle.screen_editor.specs.Taking.{CarriesOut}
use Rattle.screen_editor.proofs.KeyPlans.{idle}

a_line : (key line : Key) → looks_for_lines key ≡ false → key ≡ line → looks_for_lines line ≡ true → ⊥
a_line key line plain is looks = let e : true ≡ false = sym looks ∙ ap looks_for_lines (sym is) ∙ plain in absurd cc

idle_as : (key other : Key) (e : Editing) → key ≡ other → CarriesOut other e (Ok tt) e → CarriesOut key e (Ok tt) e
idle_as key other e is h = subst (λ (k : Key). CarriesOut k e (Ok tt) e) (sym is) h

pub passed_over : (key : Key) (e : Editing) → IsEditing e → HoldsHistory e.session → looks_for_lines key ≡ false
    → (key ≡ LineStart) ⊎ ((key ≡ LineEnd) ⊎ ((key ≡ Up) ⊎ ((key ≡ Down) ⊎ ((key ≡ Save) ⊎ ((key ≡ Leave) ⊎ (key ≡ Nothing)))))) → CarriesOut key e (Ok tt) e
passed_over key e is h plain (inl k) = absurd (a_line key LineStart plain k refl)
passed_over key e is h plain (inr (inl k)) = absurd (a_line key LineEnd plain k refl)
passed_over key e is h plain (inr (inr (inl k))) = absurd (a_line key Up plain k refl)
passed_over key e is h plain (inr (inr (inr (inl k)))) = absurd (a_line key Down plain k refl)
passed_over key e is h plain (inr (inr (inr (inr (inl k))))) = idle_as key Save e k (idle Save e is h (λ source. refl) (λ a source. refl))
passed_over key e is h plain (inr (inr (inr (inr (inr (inl k)))))) = idle_as key Leave e k (idle Leave e is h (λ source. refl) (λ a source. refl))
passed_over key e is h plain (inr (inr (inr (inr (inr (inr k)))))) = idle_as key Nothing e k (idle Nothing e is h (λ source. refl) (λ a source. refl))
