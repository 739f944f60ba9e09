-- Laws of each form of sequences.
use Rattle.std.proofs.Common.{◌≡◌, ◌≢◌, ℕ, ◌<◌, ◌≤◌, List, [], ◌∷◌, ◌++◌, length, Bool, true, false, ◌&&◌, ◌==◌, if◌then◌else◌, IsTrue, inl, inr, Option, Some, None, refl, sym, ap, ◌∙◌, append_assoc, arith}
use Rattle.std.specs.List.{list_all}
use Rattle.std.specs.Option.{option_and_then}
use Rattle.std.proofs.lemmas.Option.{none-some}
use Rattle.terminal_keys.specs.declared.mode.Mode.{Mode}
use Rattle.terminal_keys.specs.declared.mode.Mode.TheVariants.{Typed}
use Rattle.terminal_keys.specs.declared.stage.Stage.{Stage}
use Rattle.terminal_keys.specs.declared.stage.Stage.TheVariants.{Escape, Intermediate, Control, Single, ControlString}
use Rattle.terminal_keys.specs.Held.{stage_behind}
use Rattle.terminal_keys.specs.Keys.{keys_in, keys_of, letter, meant, mode_behind}
use Rattle.terminal_keys.specs.Laws.{AreParameters, BreaksOff, FallsAway, IsEscape, IsFinal, IsOutside, IsSequenceTooLong, IsString, IsWholeSequence, Types}
use Rattle.terminal_keys.specs.Sequences.{begins_string, ends_with, next_stage, is_in_string, is_intermediate, is_parameter}
use Rattle.terminal_keys.proofs.SequenceLaws.{broken_off, ended_whole, full_falls, nothing_meant, other_nothing, passed_over}

both_true : (a b : Bool) → IsTrue (a && b) → (a ≡ true) × IsTrue b
both_true true b h = (refl, h)
both_true false b h = let e : true ≡ false = sym h in absurd cc

-- bytes that each lead to the same stage
all_go_on : (test : ℕ → Bool) (s : Stage) → ((b : ℕ) → next_stage s b ≡ (if test b then Some s else None)) → (bs : List ℕ) → IsTrue (list_all test bs)
    → stage_behind s bs ≡ Some s
all_go_on test s same [] h = refl
all_go_on test s same (b ∷ bs) h =
    let at = both_true (test b) (list_all test bs) h in
    ap (λ (o : Option Stage). option_and_then (λ (t : Stage). stage_behind t bs) o) (same b ∙ ap (λ (t : Bool). if t then Some s else None) at.0)
    ∙ all_go_on test s same bs at.1

-- the stages behind an escape, by what the byte is
abbrev staged : (t u v w : Bool) → Option Stage
staged t u v w = if t then Some Control else (if u then Some Single else (if v then Some ControlString else (if w then Some Intermediate else None)))

string_begins : (b : ℕ) → IsTrue (begins_string b) → ((b == 0x5B) ≡ false) × ((b == 0x4F) ≡ false)
string_begins b h = (grind (arith, h), grind (arith, h))

intermediate_begins : (b : ℕ) → is_intermediate b ≡ true → ((b == 0x5B) ≡ false) × ((b == 0x4F) ≡ false) × (begins_string b ≡ false)
intermediate_begins b h = (grind (arith, h), grind (arith, h), grind (arith, h))

outside_begins : (b : ℕ) → IsOutside b → ((b == 0x5B) ≡ false) × ((b == 0x4F) ≡ false) × (begins_string b ≡ false) × (is_intermediate b ≡ false)
outside_begins b (inl small) = (grind arith, grind arith, grind arith, grind arith)
outside_begins b (inr large) = (grind arith, grind arith, grind arith, grind arith)

to_string : (t u v w : Bool) → t ≡ false → u ≡ false → v ≡ true → staged t u v w ≡ Some ControlString
to_string t u v w e f g = rw (e, f, g) refl

to_intermediate : (t u v w : Bool) → t ≡ false → u ≡ false → v ≡ false → w ≡ true → staged t u v w ≡ Some Intermediate
to_intermediate t u v w e f g h = rw (e, f, g, h) refl

to_none : (t u v w : Bool) → t ≡ false → u ≡ false → v ≡ false → w ≡ false → staged t u v w ≡ None
to_none t u v w e f g h = rw (e, f, g, h) refl

from_none : (t u v w : Bool) → staged t u v w ≡ None → (t ≡ false) × (u ≡ false)
from_none true u v w e = absurd (none-some Control (sym e))
from_none false true v w e = absurd (none-some Single (sym e))
from_none false false v w e = (refl, refl)

-- one test that fails
none_by : (t : Bool) (s : Stage) → t ≡ false → (if t then Some s else None) ≡ None
none_by t s e = rw e refl

control_at : (ps : List ℕ) → IsTrue (list_all is_parameter ps) → stage_behind Escape (0x5B ∷ ps) ≡ Some Control
control_at ps h = all_go_on is_parameter Control (λ b. refl) ps h

string_at : (b : ℕ) (text : List ℕ) → IsTrue (begins_string b) → IsTrue (list_all is_in_string text)
    → stage_behind Escape (b ∷ text) ≡ Some ControlString
string_at b text first h =
    let other = string_begins b first in
    ap (λ (o : Option Stage). option_and_then (λ (t : Stage). stage_behind t text) o)
    (to_string (b == 0x5B) (b == 0x4F) (begins_string b) (is_intermediate b) other.0 other.1 first)
    ∙ all_go_on is_in_string ControlString (λ c. refl) text h

intermediate_at : (b : ℕ) (bs : List ℕ) → IsTrue (list_all is_intermediate (b ∷ bs)) → stage_behind Escape (b ∷ bs) ≡ Some Intermediate
intermediate_at b bs h =
    let at = both_true (is_intermediate b) (list_all is_intermediate bs) h in
    let other = intermediate_begins b at.0 in
    ap (λ (o : Option Stage). option_and_then (λ (t : Stage). stage_behind t bs) o)
    (to_intermediate (b == 0x5B) (b == 0x4F) (begins_string b) (is_intermediate b) other.0 other.1 other.2 at.0)
    ∙ all_go_on is_intermediate Intermediate (λ c. refl) bs at.1

-- ---- whole ones

past_parameters : (b : ℕ) → 0x40 ≤ b → is_parameter b ≡ false
past_parameters b low = grind arith

past_intermediates : (b : ℕ) → 0x30 ≤ b → is_intermediate b ≡ false
past_intermediates b low = grind arith

ends_control : (b : ℕ) → 0x40 ≤ b → b ≤ 0x7E → ends_with Control b ≡ true
ends_control b low high = grind arith

ends_single : (b : ℕ) → 0x20 ≤ b → b ≤ 0x7E → ends_with Single b ≡ true
ends_single b low high = grind arith

ends_escape : (b : ℕ) → 0x30 ≤ b → b ≤ 0x7E → ends_with Escape b ≡ true
ends_escape b low high = grind arith

pub control_whole : (ps : List ℕ) (b : ℕ) → AreParameters ps → IsFinal b → IsWholeSequence (0x1B ∷ 0x5B ∷ ps ++ b ∷ [])
control_whole ps b h final = λ m rest.
    let few : length (0x5B ∷ ps) < 1023 = let l : length ps < 1022 = h.1 in omega (arith, l) in
    ap (λ (l : List ℕ). keys_in m (0x1B ∷ 0x5B ∷ l)) (append_assoc ps (b ∷ []) rest)
    ∙ ended_whole m (0x5B ∷ ps) Control b rest (control_at ps h.0) few (none_by (is_parameter b) Control (past_parameters b final.0)) (ends_control b final.0 final.1)

quiet_tilde : (b : ℕ) → (if b == 0x7E then [] else letter b) ≡ letter b
quiet_tilde b = grind arith

-- an escape, O and a byte begin and end no paste
single_mode : (m : Mode) (b : ℕ) → mode_behind m (0x1B ∷ 0x4F ∷ b ∷ []) ≡ m
single_mode m b = grind arith

pub single_typed : (b : ℕ) → 0x20 ≤ b → b ≤ 0x7E → Types (0x1B ∷ 0x4F ∷ b ∷ []) (letter b)
single_typed b low high = λ rest.
    let few : length {A = ℕ} (0x4F ∷ []) < 1023 = omega arith in
    ended_whole Typed (0x4F ∷ []) Single b rest refl few refl (ends_single b low high)
    ∙ ap (λ (n : Mode). meant Typed (0x1B ∷ 0x4F ∷ b ∷ []) ++ keys_in n rest) (single_mode Typed b)
    ∙ ap (λ (l : List ℕ). l ++ keys_of rest) (quiet_tilde b)

-- ---- those that fall away

falls : (c : ℕ) (bs : List ℕ) (s : Stage) (b : ℕ) → (c == 0x5B) ≡ false → (c == 0x4F) ≡ false → stage_behind Escape (c ∷ bs) ≡ Some s
    → length bs < 1022 → next_stage s b ≡ None → ends_with s b ≡ true → FallsAway (0x1B ∷ c ∷ bs ++ b ∷ [])
falls c bs s b e f at l goes ends = λ m rest.
    let few : length (c ∷ bs) < 1023 = omega (arith, l) in
    ap (λ (k : List ℕ). keys_in m (0x1B ∷ c ∷ k)) (append_assoc bs (b ∷ []) rest)
    ∙ ended_whole m (c ∷ bs) s b rest at few goes ends
    ∙ nothing_meant m (0x1B ∷ c ∷ bs ++ b ∷ []) rest (other_nothing c (bs ++ b ∷ []) e f)

pub string_belled : (b : ℕ) (text : List ℕ) → IsString b text → FallsAway (0x1B ∷ b ∷ text ++ 0x07 ∷ [])
string_belled b text h =
    let other = string_begins b h.0 in
    falls b text ControlString 0x07 other.0 other.1 (string_at b text h.0 h.1) h.2 refl refl

pub string_terminated : (b : ℕ) (text : List ℕ) → IsString b text → FallsAway (0x1B ∷ b ∷ text ++ 0x1B ∷ 0x5C ∷ [])
string_terminated b text h = λ m rest.
    let few : length (b ∷ text) < 1023 = let l : length text < 1022 = h.2 in omega (arith, l) in
    ap (λ (k : List ℕ). keys_in m (0x1B ∷ b ∷ k)) (append_assoc text (0x1B ∷ 0x5C ∷ []) rest)
    ∙ broken_off m (b ∷ text) ControlString 0x1B (0x5C ∷ rest) (string_at b text h.0 h.1) few refl refl
    ∙ passed_over m (0x5C ∷ []) rest refl (refl, λ n. refl)

escape_alone : (b : ℕ) → 0x30 ≤ b → b ≤ 0x7E → next_stage Escape b ≡ None → FallsAway (0x1B ∷ b ∷ [])
escape_alone b low high goes = λ m rest.
    let other = from_none (b == 0x5B) (b == 0x4F) (begins_string b) (is_intermediate b) goes in
    let few : length {A = ℕ} [] < 1023 = omega arith in
    ended_whole m [] Escape b rest refl few goes (ends_escape b low high)
    ∙ nothing_meant m (0x1B ∷ b ∷ []) rest (other_nothing b [] other.0 other.1)

pub escape_falls : (between : List ℕ) (b : ℕ) → IsEscape between b → FallsAway (0x1B ∷ between ++ b ∷ [])
escape_falls [] b h = escape_alone b h.2 h.3 (h.4 refl)
escape_falls (c ∷ bs) b h =
    let at = both_true (is_intermediate c) (list_all is_intermediate bs) h.0 in
    let other = intermediate_begins c at.0 in
    let l : length (c ∷ bs) < 1022 = h.1 in
    let few : length bs < 1022 = omega (arith, l) in
    falls c bs Intermediate b other.0 other.1 (intermediate_at c bs h.0) few (none_by (is_intermediate b) Intermediate (past_intermediates b h.2)) (ends_escape b h.2 h.3)

-- ---- those that are not whole

outside_escape : (b : ℕ) → IsOutside b → ends_with Escape b ≡ false
outside_escape b (inl small) = grind arith
outside_escape b (inr large) = grind arith

outside_single : (b : ℕ) → IsOutside b → ends_with Single b ≡ false
outside_single b (inl small) = grind arith
outside_single b (inr large) = grind arith

outside_control : (b : ℕ) → IsOutside b → (ends_with Control b ≡ false) × (is_parameter b ≡ false)
outside_control b (inl small) = (grind arith, grind arith)
outside_control b (inr large) = (grind arith, grind arith)

pub escape_broken : (b : ℕ) → IsOutside b → BreaksOff (0x1B ∷ []) b
escape_broken b h = λ m rest.
    let other = outside_begins b h in
    let few : length {A = ℕ} [] < 1023 = omega arith in
    broken_off m [] Escape b rest refl few
    (to_none (b == 0x5B) (b == 0x4F) (begins_string b) (is_intermediate b) other.0 other.1 other.2 other.3) (outside_escape b h)

pub single_broken : (b : ℕ) → IsOutside b → BreaksOff (0x1B ∷ 0x4F ∷ []) b
single_broken b h = λ m rest.
    let few : length {A = ℕ} (0x4F ∷ []) < 1023 = omega arith in
    broken_off m (0x4F ∷ []) Single b rest refl few refl (outside_single b h)

pub control_broken : (ps : List ℕ) (b : ℕ) → AreParameters ps → IsOutside b → BreaksOff (0x1B ∷ 0x5B ∷ ps) b
control_broken ps b h out = λ m rest.
    let few : length (0x5B ∷ ps) < 1023 = let l : length ps < 1022 = h.1 in omega (arith, l) in
    let other = outside_control b out in
    broken_off m (0x5B ∷ ps) Control b rest (control_at ps h.0) few (none_by (is_parameter b) Control other.1) other.0

other_byte : (a b : ℕ) → a ≢ b → (a == b) ≡ false
other_byte a b h = grind arith

pub string_broken : (first : ℕ) (text : List ℕ) (b : ℕ) → IsString first text → is_in_string b ≡ false → b ≢ 0x07 → BreaksOff (0x1B ∷ first ∷ text) b
string_broken first text b h out other = λ m rest.
    let few : length (first ∷ text) < 1023 = let l : length text < 1022 = h.2 in omega (arith, l) in
    broken_off m (first ∷ text) ControlString b rest (string_at first text h.0 h.1) few (none_by (is_in_string b) ControlString out) (other_byte b 0x07 other)

pub too_long_falls : (bytes : List ℕ) → IsSequenceTooLong bytes → FallsAway bytes
too_long_falls bytes h = λ m rest. full_falls m h.0 bytes rest h.1 h.2
