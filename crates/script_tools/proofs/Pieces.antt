-- A text written in pieces, one behind the other.
use Rattle.std.proofs.Common.{◌≡◌, ℕ, ◌+◌, List, [], ◌++◌, Option, Result, Ok, Err, take, drop, sym, ap, subst, ◌∙◌}
use Rattle.std.specs.Prelude.{IsErr}
use Rattle.std.specs.List.{flat_map}
use Rattle.std.specs.Io.KnownBytes.{Appends}
use Rattle.std.proofs.Math.Seq.{take-add}
use Rattle.std.proofs.lemmas.List.{append-nil, take-append-drop}
use Rattle.byte_output.specs.Prefix.{AppendsPrefix}
use Rattle.session_image.proofs.Sections.{appends_nothing, appends_then, flat_map-behind, prefix_then}
use Rattle.script_tools.specs.Logged.{WritesText}

-- what failed left a prefix
pub stopped : {E : Type 0} (old new : Option (List ℕ)) (text : List ℕ) (result : Result (Unit {0}) E) → IsErr result → AppendsPrefix old new text → WritesText old new text result
stopped old new text (Ok u) is prefix = absurd cc
stopped old new text (Err e) is prefix = prefix

-- a front, and nothing behind it
pub front_alone : (a b : Option (List ℕ)) (front rest text : List ℕ) → front ++ rest ≡ text → Appends a b front → AppendsPrefix a b text
front_alone a b front rest text whole h = subst (AppendsPrefix a b) whole (prefix_then a b b front [] rest h (0, appends_nothing b))

-- a front, and a prefix of the next piece
pub front_and_part : (a b c : Option (List ℕ)) (front piece rest text : List ℕ) → front ++ (piece ++ rest) ≡ text → Appends a b front → AppendsPrefix b c piece → AppendsPrefix a c text
front_and_part a b c front piece rest text whole h k = subst (AppendsPrefix a c) whole (prefix_then a b c front piece rest h k)

-- nothing was written
pub nothing_written : (a : Option (List ℕ)) (text : List ℕ) → AppendsPrefix a a text
nothing_written a text = (0, appends_nothing a)

-- a front, and then the last piece or a prefix of it
pub then_last : {E : Type 0} (a b c : Option (List ℕ)) (front piece text : List ℕ) (result : Result (Unit {0}) E) → front ++ piece ≡ text → Appends a b front → WritesText b c piece result → WritesText a c text result
then_last a b c front piece text (Ok u) whole h k = subst (Appends a c) whole (appends_then a b c front piece h k)
then_last a b c front piece text (Err e) whole h k = front_and_part a b c front piece [] text (ap (λ (t : List ℕ). front ++ t) (append-nil piece) ∙ whole) h k

-- the same bytes
pub writes_same : {E : Type 0} (a b : Option (List ℕ)) (xs ys : List ℕ) (result : Result (Unit {0}) E) → xs ≡ ys → WritesText a b xs result → WritesText a b ys result
writes_same a b xs ys (Ok u) same h = subst (Appends a b) same h
writes_same a b xs ys (Err e) same h = subst (AppendsPrefix a b) same h

-- ---- a list, part by part

-- what f gives of the first done things, and of the next ones
pub parts_to_next : {X : Type 0} (f : X → List ℕ) (xs : List X) (done more : ℕ) → flat_map f (take done xs) ++ flat_map f (take more (drop done xs)) ≡ flat_map f (take (done + more) xs)
parts_to_next f xs done more = sym (ap (flat_map f) (take-add done more xs) ∙ flat_map-behind f (take done xs) (take more (drop done xs)))

-- and of the others
pub parts_whole : {X : Type 0} (f : X → List ℕ) (xs : List X) (done : ℕ) → flat_map f (take done xs) ++ flat_map f (drop done xs) ≡ flat_map f xs
parts_whole f xs done = sym (flat_map-behind f (take done xs) (drop done xs)) ∙ ap (flat_map f) (take-append-drop done xs)

pub parts_and_rest : {X : Type 0} (f : X → List ℕ) (xs : List X) (done more : ℕ)
    → flat_map f (take done xs) ++ (flat_map f (take more (drop done xs)) ++ flat_map f (drop more (drop done xs))) ≡ flat_map f xs
parts_and_rest f xs done more =
    ap (λ (t : List ℕ). flat_map f (take done xs) ++ t) (parts_whole f (drop done xs) more) ∙ parts_whole f xs done
