-- Laws of the keys of bytes, and of the sequences in them.
use Rattle.std.proofs.Common.{◌≡◌, ℕ, suc, ◌-◌, ◌<◌, ◌≤◌, List, [], ◌∷◌, ◌++◌, length, take, get_or, Bool, true, false, ◌&&◌, ◌||◌, ◌==◌, if◌then◌else◌, ◌⊎◌, inl, inr, Option, Some, None, option_map, refl, sym, ap, subst, ◌∙◌, append_assoc, append-nil, arith}
use Rattle.std.specs.Option.{option_and_then}
use Rattle.std.proofs.lemmas.List.{take_all, take-append-le, length-append}
use Rattle.std.proofs.lemmas.Option.{none-some, same_Some, option_and_then_some}
use Rattle.terminal_keys.specs.declared.mode.Mode.{Mode}
use Rattle.terminal_keys.specs.declared.mode.Mode.TheVariants.{Typed, Pasted, Returned}
use Rattle.terminal_keys.specs.declared.stage.Stage.{Stage}
use Rattle.terminal_keys.specs.declared.stage.Stage.TheVariants.{Text, Escape, Control, Single}
use Rattle.terminal_keys.specs.Held.{IsOpen, stage_behind}
use Rattle.terminal_keys.specs.Keys.{by_last, is_mark, is_number, keys_behind, keys_in, last_byte, letter, meaning, meant, mode_behind, numbered}
use Rattle.terminal_keys.specs.Sequences.{ends_with, next_stage, is_parameter, sequence_at, sequence_from, taken}

-- behind the bytes of a sequence, the keys are those of the rest
behind_sequence : (m : Mode) (q rest : List ℕ) → keys_behind m (length q) (q ++ rest) ≡ keys_in m rest
behind_sequence m [] rest = refl
behind_sequence m (b ∷ q) rest = behind_sequence m q rest

at_sequence : (m : Mode) (bs q : List ℕ) → sequence_at bs ≡ q
    → keys_in m (0x1B ∷ bs) ≡ meant m (0x1B ∷ q) ++ keys_behind (mode_behind m (0x1B ∷ q)) (length q) bs
at_sequence m bs q e = ap (λ (s : List ℕ). meant m (0x1B ∷ s) ++ keys_behind (mode_behind m (0x1B ∷ s)) (length s) bs) e

at_whole : (m : Mode) (q rest : List ℕ) → sequence_at (q ++ rest) ≡ q
    → keys_in m (0x1B ∷ q ++ rest) ≡ meant m (0x1B ∷ q) ++ keys_in (mode_behind m (0x1B ∷ q)) rest
at_whole m q rest e = at_sequence m (q ++ rest) q e ∙ ap (λ (r : List ℕ). meant m (0x1B ∷ q) ++ r) (behind_sequence (mode_behind m (0x1B ∷ q)) q rest)

-- bytes that stand for no key, and begin and end no paste
abbrev pub IsNothing : List ℕ → Type 0
IsNothing bytes = (meaning bytes ≡ []) × ((m : Mode) → mode_behind m bytes ≡ m)

-- what stands for no key when it is typed stands for none
none_meant : (m : Mode) (bytes : List ℕ) → meaning bytes ≡ [] → meant m bytes ≡ []
none_meant Typed bytes h = h
none_meant Pasted bytes h = refl
none_meant Returned bytes h = refl

pub nothing_meant : (m : Mode) (bytes rest : List ℕ) → IsNothing bytes → meant m bytes ++ keys_in (mode_behind m bytes) rest ≡ keys_in m rest
nothing_meant m bytes rest h =
    ap (λ (l : List ℕ). l ++ keys_in (mode_behind m bytes) rest) (none_meant m bytes h.0) ∙ ap (λ (n : Mode). keys_in n rest) (h.1 m)

-- a sequence that stands for nothing
pub passed_over : (m : Mode) (q rest : List ℕ) → sequence_at (q ++ rest) ≡ q → IsNothing (0x1B ∷ q) → keys_in m (0x1B ∷ q ++ rest) ≡ keys_in m rest
passed_over m q rest e h = at_whole m q rest e ∙ nothing_meant m (0x1B ∷ q) rest h

-- ---- how far a sequence goes

-- a byte with which it goes on
goes_by : (s t : Stage) (b : ℕ) (bs : List ℕ) → next_stage s b ≡ Some t → sequence_from s (b ∷ bs) ≡ b ∷ sequence_from t bs
goes_by s t b bs e = ap (λ (o : Option Stage). taken b (option_map (λ u. sequence_from u bs) o) (ends_with s b)) e

-- a byte with which it does not
stops_by : (s : Stage) (b : ℕ) (bs : List ℕ) (ends : Bool) → next_stage s b ≡ None → ends_with s b ≡ ends
    → sequence_from s (b ∷ bs) ≡ (if ends then b ∷ [] else [])
stops_by s b bs ends e f =
    ap (λ (o : Option Stage). taken b (option_map (λ u. sequence_from u bs) o) (ends_with s b)) e
    ∙ ap (λ (t : Bool). if t then b ∷ [] else []) f

-- bytes with which it goes on, at its front
from_within : (q : List ℕ) (s t : Stage) (rest : List ℕ) → stage_behind s q ≡ Some t → sequence_from s (q ++ rest) ≡ q ++ sequence_from t rest
from_within [] s t rest h = ap (λ (u : Stage). sequence_from u rest) (same_Some s t h)
from_within (b ∷ q) s t rest h =
    option_and_then_some (λ (u : Stage). stage_behind u q) (next_stage s b) t h
    (λ u e k. goes_by s u b (q ++ rest) e ∙ ap (λ (l : List ℕ). b ∷ l) (from_within q u t rest k))

at_front : (q : List ℕ) (s : Stage) (rest end : List ℕ) → stage_behind Escape q ≡ Some s → sequence_from s rest ≡ end → length (q ++ end) ≤ 1023
    → sequence_at (q ++ rest) ≡ q ++ end
at_front q s rest end h e fits =
    ap (λ (l : List ℕ). take 1023 l) (from_within q Escape s rest h ∙ ap (λ (l : List ℕ). q ++ l) e) ∙ take_all 1023 (q ++ end) fits

-- one byte more
pub goes_further : (q : List ℕ) (s t u : Stage) (b : ℕ) → stage_behind s q ≡ Some t → next_stage t b ≡ Some u → stage_behind s (q ++ b ∷ []) ≡ Some u
goes_further [] s t u b h e =
    ap (λ (x : Stage). option_and_then (λ (y : Stage). stage_behind y []) (next_stage x b)) (same_Some s t h)
    ∙ ap (λ (o : Option Stage). option_and_then (λ (y : Stage). stage_behind y []) o) e
goes_further (c ∷ q) s t u b h e =
    option_and_then_some (λ (x : Stage). stage_behind x q) (next_stage s c) t h
    (λ x f k. ap (λ (o : Option Stage). option_and_then (λ (y : Stage). stage_behind y (q ++ b ∷ [])) o) f ∙ goes_further q x t u b k e)

-- ---- a sequence that goes on stands for nothing yet

-- what ends no control sequence
abbrev IsQuiet : ℕ → Type 0
IsQuiet b = (b ≡ 0x5B) ⊎ (b ≤ 0x3F)

quiet_parameter : (b : ℕ) → is_parameter b ≡ true → IsQuiet b
quiet_parameter b e = inr (grind (arith, e))

chosen : (t : Bool) (s u : Stage) → (if t then Some s else None) ≡ Some u → (t ≡ true) × (s ≡ u)
chosen true s u e = (refl, same_Some s u e)
chosen false s u e = absurd (none-some u e)

quiet_last : (a : ℕ) (ps : List ℕ) (s : Stage) → IsQuiet a → stage_behind Control ps ≡ Some s → IsQuiet (get_or (a ∷ ps) (length ps) 0)
quiet_last a [] s q h = q
quiet_last a (p ∷ ps) s q h =
    option_and_then_some (λ (u : Stage). stage_behind u ps) (next_stage Control p) s h
    (λ u e k.
    let at = chosen (is_parameter p) Control u e in
    quiet_last p ps s (quiet_parameter p at.0) (subst (λ (x : Stage). stage_behind x ps ≡ Some s) (sym at.1) k))

small_none : (b : ℕ) (x : List ℕ) → b ≤ 0x3F → (if b == 0x7E then x else letter b) ≡ []
small_none b x h = grind arith

quiet_none : (last : ℕ) (bytes : List ℕ) → IsQuiet last → by_last last bytes ≡ []
quiet_none last bytes (inl e) = rw e refl
quiet_none last bytes (inr small) = small_none last (if get_or bytes 3 0 == 0x7E || get_or bytes 3 0 == 0x3B then numbered (get_or bytes 2 0) else []) small

quiet_mode : (m other : Mode) (last : ℕ) → IsQuiet last → (if last == 0x7E then other else m) ≡ m
quiet_mode m other last (inl e) = rw e refl
quiet_mode m other last (inr small) = grind arith

control_nothing : (ps : List ℕ) (s : Stage) → stage_behind Control ps ≡ Some s → IsNothing (0x1B ∷ 0x5B ∷ ps)
control_nothing ps s h =
    let bytes : List ℕ = 0x1B ∷ 0x5B ∷ ps in
    let place : length (0x1B ∷ 0x5B ∷ ps) - 1 ≡ suc (length ps) = omega arith in
    let last : IsQuiet (last_byte (0x1B ∷ 0x5B ∷ ps)) =
    subst (λ (i : ℕ). IsQuiet (get_or (0x1B ∷ 0x5B ∷ ps) i 0)) (sym place) (quiet_last 0x5B ps s (inl refl) h) in (
      quiet_none (last_byte bytes) bytes last,
      λ m. quiet_mode m (if is_mark 0x30 bytes then Pasted else (if is_mark 0x31 bytes then Typed else m)) (last_byte bytes) last,
    )

single_nothing : (ps : List ℕ) (s : Stage) → stage_behind Single ps ≡ Some s → IsNothing (0x1B ∷ 0x4F ∷ ps)
single_nothing [] s h = (refl, λ m. refl)
single_nothing (p ∷ ps) s h = absurd (none-some s h)

no_key : (t u : Bool) (x : List ℕ) → t ≡ false → u ≡ false → (if t || u then x else []) ≡ []
no_key t u x e f = rw (e, f) refl

no_mark : (m : Mode) (last t x y : Bool) → t ≡ false → (if last then (if t && x then Pasted else (if t && y then Typed else m)) else m) ≡ m
no_mark m true t x y e = rw e refl
no_mark m false t x y e = refl

-- behind any other byte than [ and O
pub other_nothing : (c : ℕ) (bs : List ℕ) → (c == 0x5B) ≡ false → (c == 0x4F) ≡ false → IsNothing (0x1B ∷ c ∷ bs)
other_nothing c bs e f =
    let bytes : List ℕ = 0x1B ∷ c ∷ bs in (
      no_key (c == 0x5B) (c == 0x4F) (by_last (last_byte bytes) bytes) e f,
      λ m. no_mark m (last_byte bytes == 0x7E) (c == 0x5B) (is_number 0x30 bytes) (is_number 0x31 bytes) e,
    )

same_byte : (a b : ℕ) → (a == b) ≡ true → a ≡ b
same_byte a b h = grind arith

by_second : (t u : Bool) (c : ℕ) (ps : List ℕ) (s : Stage) → (c == 0x5B) ≡ t → (c == 0x4F) ≡ u → stage_behind Escape (c ∷ ps) ≡ Some s
    → IsNothing (0x1B ∷ c ∷ ps)
by_second true u c ps s e f h =
    subst (λ (x : ℕ). stage_behind Escape (x ∷ ps) ≡ Some s → IsNothing (0x1B ∷ x ∷ ps)) (sym (same_byte c 0x5B e)) (control_nothing ps s) h
by_second false true c ps s e f h =
    subst (λ (x : ℕ). stage_behind Escape (x ∷ ps) ≡ Some s → IsNothing (0x1B ∷ x ∷ ps)) (sym (same_byte c 0x4F f)) (single_nothing ps s) h
by_second false false c ps s e f h = other_nothing c ps e f

open_nothing : (q : List ℕ) (s : Stage) → stage_behind Escape q ≡ Some s → IsNothing (0x1B ∷ q)
open_nothing [] s h = (refl, λ m. refl)
open_nothing (c ∷ ps) s h = by_second (c == 0x5B) (c == 0x4F) c ps s refl refl h

-- ---- the keys of bytes

shorter : (q : List ℕ) → length q < 1023 → length (q ++ []) ≤ 1023
shorter q few = rw length-append (omega arith)

one_more : (q : List ℕ) (b : ℕ) → length q < 1023 → length (q ++ b ∷ []) ≤ 1023
one_more q b few = rw length-append (omega arith)

-- a byte that ends a sequence
pub ended_whole : (m : Mode) (q : List ℕ) (s : Stage) (b : ℕ) (rest : List ℕ) → stage_behind Escape q ≡ Some s → length q < 1023
    → next_stage s b ≡ None → ends_with s b ≡ true
    → keys_in m (0x1B ∷ q ++ b ∷ rest) ≡ meant m (0x1B ∷ q ++ b ∷ []) ++ keys_in (mode_behind m (0x1B ∷ q ++ b ∷ [])) rest
ended_whole m q s b rest h few goes ends =
    let all : (q ++ b ∷ []) ++ rest ≡ q ++ b ∷ rest = append_assoc q (b ∷ []) rest in
    ap (λ (l : List ℕ). keys_in m (0x1B ∷ l)) (sym all)
    ∙ at_whole m (q ++ b ∷ []) rest (ap (λ (l : List ℕ). sequence_at l) all
    ∙ at_front q s (b ∷ rest) (b ∷ []) h (stops_by s b rest true goes ends) (one_more q b few))

-- a byte that breaks one off
pub broken_off : (m : Mode) (q : List ℕ) (s : Stage) (b : ℕ) (rest : List ℕ) → stage_behind Escape q ≡ Some s → length q < 1023
    → next_stage s b ≡ None → ends_with s b ≡ false → keys_in m (0x1B ∷ q ++ b ∷ rest) ≡ keys_in m (b ∷ rest)
broken_off m q s b rest h few goes ends =
    passed_over m q (b ∷ rest) (at_front q s (b ∷ rest) [] h (stops_by s b rest false goes ends) (shorter q few) ∙ append-nil q) (open_nothing q s h)

-- as many bytes as are taken
pub cut_off : (m : Mode) (q : List ℕ) (s : Stage) (rest : List ℕ) → stage_behind Escape q ≡ Some s → length q ≡ 1023
    → keys_in m (0x1B ∷ q ++ rest) ≡ keys_in m rest
cut_off m q s rest h full =
    let within : 1023 ≤ length q = omega arith in
    let all : length q ≤ 1023 = omega arith in
    passed_over m q rest
    (ap (λ (l : List ℕ). take 1023 l) (from_within q Escape s rest h) ∙ take-append-le 1023 q (sequence_from s rest) within ∙ take_all 1023 q all)
    (open_nothing q s h)

-- ---- from text on

-- what leads on from text begins with an escape
pub from_text : (e : ℕ) (q : List ℕ) (t : Stage) → stage_behind Text (e ∷ q) ≡ Some t → (e ≡ 0x1B) × (stage_behind Escape q ≡ Some t)
from_text e q t h =
    option_and_then_some (λ (u : Stage). stage_behind u q) (next_stage Text e) t h
    (λ u f k.
    let at = chosen (e == 0x1B) Escape u f in
    (same_byte e 0x1B at.0, subst (λ (x : Stage). stage_behind x q ≡ Some t) (sym at.1) k))

-- no bytes are text
text_ends : (s : Stage) (b : ℕ) → stage_behind Text [] ≡ Some s → ends_with s b ≡ true → ⊥
text_ends s b h ends =
    let e : false ≡ true = subst (λ (x : Stage). ends_with x b ≡ true) (sym (same_Some Text s h)) ends in
    absurd cc

-- a sequence that the bytes end in gives nothing
pub open_ends : (m : Mode) (s : Stage) (bytes : List ℕ) → IsOpen s bytes → keys_in m bytes ≡ []
open_ends m s [] h = refl
open_ends m s (e ∷ q) h =
    let at = from_text e q s h.0 in
    let l : length (e ∷ q) < 1024 = h.1 in
    let few : length q < 1023 = omega (arith, l) in
    ap (λ (x : ℕ). keys_in m (x ∷ q)) at.0
    ∙ ap (λ (k : List ℕ). keys_in m (0x1B ∷ k)) (sym (append-nil q))
    ∙ passed_over m q [] (at_front q s [] [] at.1 refl (shorter q few) ∙ append-nil q) (open_nothing q s at.1)

-- one that this byte ends gives its keys
pub open_ended : (m : Mode) (s : Stage) (bytes : List ℕ) (b : ℕ) (rest : List ℕ) → IsOpen s bytes → next_stage s b ≡ None → ends_with s b ≡ true
    → keys_in m (bytes ++ b ∷ rest) ≡ meant m (bytes ++ b ∷ []) ++ keys_in (mode_behind m (bytes ++ b ∷ [])) rest
open_ended m s [] b rest h goes ends = absurd (text_ends s b h.0 ends)
open_ended m s (e ∷ q) b rest h goes ends =
    let at = from_text e q s h.0 in
    let l : length (e ∷ q) < 1024 = h.1 in
    let few : length q < 1023 = omega (arith, l) in
    subst (λ (x : ℕ). keys_in m (x ∷ q ++ b ∷ rest) ≡ meant m (x ∷ q ++ b ∷ []) ++ keys_in (mode_behind m (x ∷ q ++ b ∷ [])) rest) (sym at.0)
    (ended_whole m q s b rest at.1 few goes ends)

-- one that it breaks off gives nothing
pub open_broken : (m : Mode) (s : Stage) (bytes : List ℕ) (b : ℕ) (rest : List ℕ) → IsOpen s bytes → next_stage s b ≡ None → ends_with s b ≡ false
    → keys_in m (bytes ++ b ∷ rest) ≡ keys_in m (b ∷ rest)
open_broken m s [] b rest h goes ends = refl
open_broken m s (e ∷ q) b rest h goes ends =
    let at = from_text e q s h.0 in
    let l : length (e ∷ q) < 1024 = h.1 in
    let few : length q < 1023 = omega (arith, l) in
    ap (λ (x : ℕ). keys_in m (x ∷ q ++ b ∷ rest)) at.0 ∙ broken_off m q s b rest at.1 few goes ends

-- one that has its most bytes gives nothing
pub full_falls : (m : Mode) (s : Stage) (bytes rest : List ℕ) → stage_behind Text bytes ≡ Some s → length bytes ≡ 1024
    → keys_in m (bytes ++ rest) ≡ keys_in m rest
full_falls m s [] rest h full = let l : 0 ≡ 1024 = full in absurd (omega (arith, l))
full_falls m s (e ∷ q) rest h full =
    let at = from_text e q s h in
    let l : length (e ∷ q) ≡ 1024 = full in
    let all : length q ≡ 1023 = omega (arith, l) in
    ap (λ (x : ℕ). keys_in m (x ∷ q ++ rest)) at.0 ∙ cut_off m q s rest at.1 all
