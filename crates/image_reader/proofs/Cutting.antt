-- Single records of a section.
use Rattle.std.proofs.Common.{◌≡◌, ℕ, zero, suc, ◌+◌, ◌*◌, ◌<◌, ◌≤◌, List, [], ◌∷◌, length, map, take, drop, get_or, Option, Some, None, refl, sym, ap, subst, ◌∙◌, arith}
use Rattle.std.specs.Prelude.{slice_get}
use Rattle.std.proofs.Math.Nat.{mul-suc, mul-zero, mul-le-mul_left}
use Rattle.std.specs.List.{AllByRecursion}
use Rattle.std.specs.Option.{option_map}
use Rattle.std.proofs.lemmas.List.{drop-drop, length-map}
use Rattle.std.proofs.lemmas.Option.{get_or_from_slice_get, slice_get-map}
use Rattle.image_reader.specs.declared.fault.ReadFault.{ReadFault}
use Rattle.image_reader.specs.Layout.{records}
use Rattle.image_reader.specs.Reading.{first_fault}
use Rattle.image_reader.proofs.Faults.{else_none}

pub length-map-records : {X : Type 0} (f : List ℕ → X) (size n : ℕ) (bytes : List ℕ) → length (map f (records size n bytes)) ≡ n
unfolding records
length-map-records f size zero bytes = refl
length-map-records f size (suc n) bytes = ap suc (length-map-records f size n (drop size bytes))

-- the record at place i
pub slice_get-map-records : {X : Type 0} (f : List ℕ → X) (size n i : ℕ) (bytes : List ℕ) → i < n → slice_get (map f (records size n bytes)) i ≡ Some (f (take size (drop (size * i) bytes)))
unfolding records
slice_get-map-records f size zero i bytes lt = absurd (omega arith)
slice_get-map-records f size (suc n) zero bytes lt = rw mul-zero refl
slice_get-map-records f size (suc n) (suc i) bytes lt =
    slice_get-map-records f size n i (drop size bytes) (omega arith)
    ∙ ap (λ (b : List ℕ). Some (f (take size b))) (drop-drop (size * i) size bytes ∙ ap (λ (k : ℕ). drop k bytes) (rw mul-suc (omega arith)))

pub get_or-map-records : {X : Type 0} (f : List ℕ → X) (size n i : ℕ) (bytes : List ℕ) (d : X) → i < n → get_or (map f (records size n bytes)) i d ≡ f (take size (drop (size * i) bytes))
get_or-map-records f size n i bytes d lt = get_or_from_slice_get (map f (records size n bytes)) i (f (take size (drop (size * i) bytes))) d (slice_get-map-records f size n i bytes lt)

-- xs are what f says of the records of a section
pub record IsCut {X : Type 0} (f : List ℕ → X) (size count : ℕ) (bytes : List ℕ) (xs : List X) : Type 0 where
  pub counted : count ≡ length xs
  pub inside : (i : ℕ) → i < length xs → size * i + size ≤ length bytes
  pub holds : (i : ℕ) → i < length xs → slice_get xs i ≡ Some (f (take size (drop (size * i) bytes)))

pub cut : {X : Type 0} (f : List ℕ → X) (size count : ℕ) (bytes : List ℕ) → size * count ≤ length bytes → IsCut f size count bytes (map f (records size count bytes))
cut f size count bytes enough = record {
  counted = sym (length-map-records f size count bytes);
  inside = λ i lt. let below : suc i ≤ count = omega (arith, length-map-records f size count bytes) in omega (arith, mul-suc size i, mul-le-mul_left size below, enough);
  holds = λ i lt. slice_get-map-records f size count i bytes (omega (arith, length-map-records f size count bytes));
}

-- what a reader of the cell at place i gives, where g reads the same as f
pub read_at : {X Y : Type 0} (f : List ℕ → X) (g : X → Y) (size count i : ℕ) (bytes : List ℕ) (xs : List X) (d : X) (cell : List ℕ) (y : Y) → IsCut f size count bytes xs → i < length xs → cell ≡ take size (drop (size * i) bytes) → y ≡ g (f cell) → y ≡ g (get_or xs i d)
read_at f g size count i bytes xs d cell y c lt is e = e ∙ ap (λ (b : List ℕ). g (f b)) is ∙ ap g (sym (get_or_from_slice_get xs i (f (take size (drop (size * i) bytes))) d (c.holds i lt)))

pub got_at : {X : Type 0} (f : List ℕ → X) (size count i : ℕ) (bytes : List ℕ) (xs : List X) (cell : List ℕ) (x : X) → IsCut f size count bytes xs → i < length xs → cell ≡ take size (drop (size * i) bytes) → x ≡ f cell → slice_get xs i ≡ Some x
got_at f size count i bytes xs cell x c lt is e = c.holds i lt ∙ ap Some (ap f (sym is) ∙ sym e)

-- the same of what g reads from xs
pub cut_map : {X Y : Type 0} (f : List ℕ → X) (g : X → Y) (size count : ℕ) (bytes : List ℕ) (xs : List X) → IsCut f size count bytes xs → IsCut (λ (b : List ℕ). g (f b)) size count bytes (map g xs)
cut_map f g size count bytes xs c =
    let same = length-map xs g in
    record {
      counted = c.counted ∙ sym same;
      inside = λ i lt. c.inside i (omega (arith, same));
      holds = λ i lt. slice_get-map g xs i ∙ ap (option_map g) (c.holds i (omega (arith, same)));
    }

-- each record of a section without a fault has none
pub no_fault_at : (fault : List ℕ → Option ReadFault) (size n i : ℕ) (bytes : List ℕ) → i < n → first_fault fault (records size n bytes) ≡ None → fault (take size (drop (size * i) bytes)) ≡ None
unfolding records first_fault
no_fault_at fault size zero i bytes lt none = absurd (omega arith)
no_fault_at fault size (suc n) zero bytes lt none = rw mul-zero (else_none _ _ none).0
no_fault_at fault size (suc n) (suc i) bytes lt none =
    let others = no_fault_at fault size n i (drop size bytes) (omega arith) (else_none _ _ none).1 in
    let same : drop (size * i) (drop size bytes) ≡ drop (size * suc i) bytes = drop-drop (size * i) size bytes ∙ ap (λ (k : ℕ). drop k bytes) (rw mul-suc (omega arith)) in
    rw same at others

-- what holds of all holds of the one at a place
pub all_at : {X : Type 0} (P : X → Type 0) (xs : List X) (i : ℕ) (x : X) → AllByRecursion P xs → slice_get xs i ≡ Some x → P x
all_at P [] i x all e = absurd cc
all_at P (y ∷ ys) zero x all e = let same : y ≡ x = cc in subst P same all.0
all_at P (y ∷ ys) (suc i) x all e = all_at P ys i x all.1 e
