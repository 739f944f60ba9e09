-- Sections written record by record.
use Rattle.std.proofs.Common.{◌≡◌, ℕ, zero, suc, ◌+◌, ◌<◌, ◌≤◌, List, [], ◌∷◌, ◌++◌, length, map, take, drop, get_or, Option, Some, None, refl, sym, ap, subst, ◌∙◌, append_assoc, arith}
use Rattle.std.specs.Prelude.{slice_get}
use Rattle.std.specs.Option.{option_map}
use Rattle.std.specs.List.{flat_map, AllByRecursion, range_with_len}
use Rattle.std.specs.Io.KnownBytes.{Appends}
use Rattle.std.proofs.lemmas.List.{append-nil, take_all}
use Rattle.std.specs.Prelude.{Result, Ok, Err, IsErr, OnOk, OnErr}
use Rattle.byte_output.specs.Prefix.{AppendsPrefix}
use Rattle.byte_output.specs.declared.writing.WriteFault.{WriteFault}
use Rattle.session_image.specs.Written.{Writes}

-- ---- pieces

pub appends_then : (a b c : Option (List ℕ)) (front piece : List ℕ) → Appends a b front → Appends b c piece → Appends a c (front ++ piece)
appends_then None b c front piece h k = tt
appends_then (Some xs) None c front piece h k = absurd h
appends_then (Some xs) (Some ys) None front piece h k = absurd k
appends_then (Some xs) (Some ys) (Some zs) front piece h k = k ∙ ap (λ (v : List ℕ). v ++ piece) h ∙ append_assoc xs front piece

pub appends_nothing : (a : Option (List ℕ)) → Appends a a []
appends_nothing None = tt
appends_nothing (Some xs) = sym (append-nil xs)

-- a prefix of a piece is one of the piece with more behind it
prefix_in_longer : (m : ℕ) (piece rest : List ℕ) → (j : ℕ) × (take m piece ≡ take j (piece ++ rest))
prefix_in_longer zero piece rest = (0, refl)
prefix_in_longer (suc m) [] rest = (0, refl)
prefix_in_longer (suc m) (x ∷ xs) rest = let p = prefix_in_longer m xs rest in (suc p.0, ap (λ (ys : List ℕ). x ∷ ys) p.1)

-- and of what stands in front of it
prefix_behind : (front rest : List ℕ) (j : ℕ) → take (length front + j) (front ++ rest) ≡ front ++ take j rest
prefix_behind [] rest j = let none : length {A = ℕ} [] + j ≡ j = omega arith in ap (λ (n : ℕ). take n rest) none
prefix_behind (x ∷ xs) rest j =
    let more : length (x ∷ xs) + j ≡ suc (length xs + j) = omega arith in
    ap (λ (n : ℕ). take n (x ∷ (xs ++ rest))) more ∙ ap (λ (ys : List ℕ). x ∷ ys) (prefix_behind xs rest j)

pub prefix_then : (a b c : Option (List ℕ)) (front piece rest : List ℕ) → Appends a b front → AppendsPrefix b c piece → AppendsPrefix a c (front ++ (piece ++ rest))
prefix_then a b c front piece rest h (m, more) =
    let p = prefix_in_longer m piece rest in
    (length front + p.0, subst (λ (v : List ℕ). Appends a c v) (sym (prefix_behind front (piece ++ rest) p.0)) (appends_then a b c front (take p.0 (piece ++ rest)) h (subst (λ (v : List ℕ). Appends b c v) p.1 more)))

-- ---- lists, item by item

pub take_next : {X : Type 0} (xs : List X) (k : ℕ) (x : X) → slice_get xs k ≡ Some x → take (suc k) xs ≡ take k xs ++ (x ∷ [])
take_next [] k x e = absurd cc
take_next (y ∷ ys) zero x e = ap (λ v. v ∷ []) cc
take_next (y ∷ ys) (suc k) x e = ap (λ v. y ∷ v) (take_next ys k x e)

pub split_at : {X : Type 0} (xs : List X) (k : ℕ) (x : X) → slice_get xs k ≡ Some x → xs ≡ take k xs ++ (x ∷ drop (suc k) xs)
split_at [] k x e = absurd cc
split_at (y ∷ ys) zero x e = ap (λ v. v ∷ ys) cc
split_at (y ∷ ys) (suc k) x e = ap (λ v. y ∷ v) (split_at ys k x e)

pub flat_map-behind : {X Y : Type 0} (f : X → List Y) (xs ys : List X) → flat_map f (xs ++ ys) ≡ flat_map f xs ++ flat_map f ys
flat_map-behind f [] ys = refl
flat_map-behind f (x ∷ xs) ys = ap (λ v. f x ++ v) (flat_map-behind f xs ys) ∙ sym (append_assoc (f x) (flat_map f xs) (flat_map f ys))

pub get_is : {X : Type 0} (xs : List X) (k : ℕ) (d : X) → k < length xs → slice_get xs k ≡ Some (get_or xs k d)
get_is [] k d lt = absurd (omega arith)
get_is (x ∷ xs) zero d lt = refl
get_is (x ∷ xs) (suc k) d lt = get_is xs k d (omega arith)

pub get_mapped : {X : Type 0} (f : ℕ → X) (from n k : ℕ) → k < n → slice_get (map f (range_with_len from n)) k ≡ Some (f (from + k))
get_mapped f from zero k lt = absurd (omega arith)
get_mapped f from (suc n) zero lt = let same : from ≡ from + 0 = omega arith in ap (λ (i : ℕ). Some (f i)) same
get_mapped f from (suc n) (suc k) lt = let same : (from + 1) + k ≡ from + suc k = omega arith in get_mapped f (from + 1) n k (omega arith) ∙ ap (λ (i : ℕ). Some (f i)) same

pub get_of_map : {X Y : Type 0} (f : X → Y) (xs : List X) (k : ℕ) (x : X) → slice_get xs k ≡ Some x → slice_get (map f xs) k ≡ Some (f x)
get_of_map f [] k x e = absurd cc
get_of_map f (y ∷ ys) zero x e = ap (option_map f) e
get_of_map f (y ∷ ys) (suc k) x e = get_of_map f ys k x e

-- ---- a section so far

-- the first k are written
abbrev pub WroteFirst : {X : Type 0} → (X → List ℕ) → List X → ℕ → Option (List ℕ) → Option (List ℕ) → Type 0
WroteFirst spell xs k old new = Appends old new (flat_map spell (take k xs))

pub wrote_more : {X : Type 0} (spell : X → List ℕ) (xs : List X) (k : ℕ) (x : X) (a b c : Option (List ℕ)) → slice_get xs k ≡ Some x → WroteFirst spell xs k a b → Appends b c (spell x) → WroteFirst spell xs (k + 1) a c
wrote_more spell xs k x a b c e h more =
    let next : k + 1 ≡ suc k = omega arith in
    let one : flat_map spell (x ∷ []) ≡ spell x = append-nil (spell x) in
    let same : flat_map spell (take (k + 1) xs) ≡ flat_map spell (take k xs) ++ spell x = ap (λ (n : ℕ). flat_map spell (take n xs)) next ∙ ap (flat_map spell) (take_next xs k x e) ∙ flat_map-behind spell (take k xs) (x ∷ []) ∙ ap (λ v. flat_map spell (take k xs) ++ v) one in
    subst (λ (v : List ℕ). Appends a c v) (sym same) (appends_then a b c (flat_map spell (take k xs)) (spell x) h more)

pub wrote_part : {X : Type 0} (spell : X → List ℕ) (xs : List X) (k : ℕ) (x : X) (a b c : Option (List ℕ)) → slice_get xs k ≡ Some x → WroteFirst spell xs k a b → AppendsPrefix b c (spell x) → AppendsPrefix a c (flat_map spell xs)
wrote_part spell xs k x a b c e h more =
    let same : flat_map spell xs ≡ flat_map spell (take k xs) ++ (spell x ++ flat_map spell (drop (suc k) xs)) = ap (flat_map spell) (split_at xs k x e) ∙ flat_map-behind spell (take k xs) (x ∷ drop (suc k) xs) in
    subst (λ (v : List ℕ). AppendsPrefix a c v) (sym same) (prefix_then a b c (flat_map spell (take k xs)) (spell x) (flat_map spell (drop (suc k) xs)) h more)

pub wrote_all : {X : Type 0} (spell : X → List ℕ) (xs : List X) (k : ℕ) (a b : Option (List ℕ)) → length xs ≤ k → WroteFirst spell xs k a b → Appends a b (flat_map spell xs)
wrote_all spell xs k a b le h = subst (λ v. Appends a b (flat_map spell v)) (take_all k xs le) h

-- ---- what holds of each

pub all_behind : {X : Type 0} (P : X → Type 0) (xs ys : List X) → AllByRecursion P xs → AllByRecursion P ys → AllByRecursion P (xs ++ ys)
all_behind P [] ys h k = k
all_behind P (x ∷ xs) ys h k = (h.0, all_behind P xs ys h.1 k)

pub all_more : {X : Type 0} (P : X → Type 0) (xs : List X) (k : ℕ) (x : X) → slice_get xs k ≡ Some x → AllByRecursion P (take k xs) → P x → AllByRecursion P (take (k + 1) xs)
all_more P xs k x e h more =
    let next : take (k + 1) xs ≡ take k xs ++ (x ∷ []) = ap (λ (n : ℕ). take n xs) (succ k) ∙ take_next xs k x e in
    subst (AllByRecursion P) (sym next) (all_behind P (take k xs) (x ∷ []) h (more, tt))
  where
    succ : (k : ℕ) → k + 1 ≡ suc k
    succ k = omega arith

pub flat_twice : {X Y Z : Type 0} (g : Y → List Z) (f : X → List Y) (xs : List X) → flat_map g (flat_map f xs) ≡ flat_map (λ x. flat_map g (f x)) xs
flat_twice g f [] = refl
flat_twice g f (x ∷ xs) = flat_map-behind g (f x) (flat_map f xs) ∙ ap (λ v. flat_map g (f x) ++ v) (flat_twice g f xs)

-- ---- results

pub failed : (old new : Option (List ℕ)) (bytes : List ℕ) (result : Result (Unit {0}) WriteFault) → IsErr result → AppendsPrefix old new bytes → Writes old new bytes result
failed old new bytes (Ok x) is prefix = absurd cc
failed old new bytes (Err e) is prefix = record { ok = tt; err = prefix }

-- a slice is taken for what it holds
pub of_slice : (old new : Option (List ℕ)) (xs ys : List ℕ) → xs ≡ ys → AppendsPrefix old new xs → AppendsPrefix old new ys
of_slice old new xs ys e h = subst (λ (v : List ℕ). AppendsPrefix old new v) e h

pub taken : (old new : Option (List ℕ)) (xs ys : List ℕ) → xs ≡ ys → Appends old new xs → Appends old new ys
taken old new xs ys e h = subst (λ (v : List ℕ). Appends old new v) e h

pub written : (old new : Option (List ℕ)) (xs ys : List ℕ) (result : Result (Unit {0}) WriteFault) → xs ≡ ys → OnOk result (Appends old new xs) → OnErr result (AppendsPrefix old new xs) → Writes old new ys result
written old new xs ys (Ok x) e ok err = record { ok = subst (λ (v : List ℕ). Appends old new v) e ok; err = tt }
written old new xs ys (Err x) e ok err = record { ok = tt; err = subst (λ (v : List ℕ). AppendsPrefix old new v) e err }
