-- Commands that say the same give texts of the same lengths, whatever their tables.
use Rattle.std.proofs.Common.{◌≡◌, ℕ, zero, suc, ◌+◌, ◌-◌, ◌<◌, ◌≤◌, List, [], ◌∷◌, length, map, take, get_or, Option, Some, refl, sym, ap, subst, ◌∙◌, arith}
use Rattle.std.specs.Prelude.{slice_get}
use Rattle.std.specs.Option.{option_map}
use Rattle.std.specs.List.{sum_by}
use Rattle.std.proofs.lemmas.List.{length-map, take-map, take_all, take_more_same}
use Rattle.std.proofs.lemmas.List.Sums.{sum_by-cons}
use Rattle.std.proofs.lemmas.Option.{slice_get-map, slice_get_within, get_or_from_slice_get}
use Rattle.rope_node.specs.declared.node.NodeId.{NodeId}
use Rattle.rope_node.specs.Table.{Table}
use Rattle.rope_node.specs.Denotes.{rope_len}
use Rattle.command_parts.specs.declared.edit.Splice.{Splice}
use Rattle.command_parts.specs.declared.part.Part.{Part}
use Rattle.command_parts.specs.declared.part.Part.TheVariants.{Old, Pool, Source}
use Rattle.command_parts.specs.Commands.{FullEdit, New, Open, Insert, Delete, Replace, Paste, Join, Cut, Fill, Back, Balance, Many}
use Rattle.command_parts.specs.Parts.{part_len, parts_len, parts_of, nonempty, front, rest, whole, root_at, len_of, IsInRange}
use Rattle.command_parts.proofs.SplicedTexts.{are_splices, follow_sum}
use Rattle.rope_node.proofs.Parts.{slice_get-take}
use Rattle.edit_commands.proofs.RevisionLists.{there_is}
use Rattle.session_checker.proofs.ResultLengths.{nonempty_len, spliced_len}
use Rattle.script_tools.proofs.UnplacedCommands.{with_no_place, with_no_places}

-- ---- one command

-- how long the text of a command in range is, by the lengths of the texts before it and of the sources
abbrev pub text_len : List ℕ → List ℕ → FullEdit → ℕ
text_len lens sources New = 0
text_len lens sources (Open s) = get_or sources s 0
text_len lens sources (Insert r p a n) = get_or lens r 0 + n
text_len lens sources (Delete r p n) = get_or lens r 0 - n
text_len lens sources (Replace r p m a n) = (get_or lens r 0 - m) + n
text_len lens sources (Paste r p q i n) = get_or lens r 0 + n
text_len lens sources (Join r q) = get_or lens r 0 + get_or lens q 0
text_len lens sources (Cut r i n) = n
text_len lens sources (Fill r p c n) = get_or lens r 0 + n
text_len lens sources (Back r) = get_or lens r 0
text_len lens sources (Balance r) = get_or lens r 0
text_len lens sources (Many r splices) =
    (get_or lens r 0 - sum_by (λ (s : Splice). s.m) splices) + sum_by (λ (s : Splice). s.n) splices

-- the length of an earlier text among all
pub lens_at : (t : Table) (roots : List (Option NodeId)) (r : ℕ) → get_or (map (rope_len t) roots) r 0 ≡ len_of t roots r
lens_at t [] r = refl
lens_at t (x ∷ roots) zero = refl
lens_at t (x ∷ roots) (suc r) = lens_at t roots r

one_len : (x : Part) → parts_len (nonempty (x ∷ [])) ≡ part_len x
one_len x = nonempty_len (x ∷ []) ∙ sum_by-cons part_len x [] ∙ omega arith

two_len : (x y : Part) → parts_len (nonempty (x ∷ y ∷ [])) ≡ part_len x + part_len y
two_len x y =
    let later = sum_by-cons part_len y [] in
    nonempty_len (x ∷ y ∷ []) ∙ sum_by-cons part_len x (y ∷ []) ∙ omega (arith, later)

three_len : (x y z : Part) → parts_len (nonempty (x ∷ y ∷ z ∷ [])) ≡ part_len x + part_len y + part_len z
three_len x y z =
    let later = sum_by-cons part_len y (z ∷ []) in
    let last = sum_by-cons part_len z [] in
    nonempty_len (x ∷ y ∷ z ∷ []) ∙ sum_by-cons part_len x (y ∷ z ∷ []) ∙ omega (arith, later, last)

-- its parts are so long together
parts_measured : (t : Table) (roots : List (Option NodeId)) (e : FullEdit) → IsInRange t roots e → parts_len (parts_of t roots e) ≡ text_len (map (rope_len t) roots) t.sources e
parts_measured t roots New range = refl
parts_measured t roots (Open s) range = one_len (Source s (get_or t.sources s 0))
parts_measured t roots (Insert r p a n) range =
    let x = root_at roots r in omega (arith, three_len (front x p) (Pool a n) (rest t x p), range.1, lens_at t roots r)
parts_measured t roots (Delete r p n) range =
    let x = root_at roots r in omega (arith, two_len (front x p) (rest t x (p + n)), range.1, lens_at t roots r)
parts_measured t roots (Replace r p m a n) range =
    let x = root_at roots r in omega (arith, three_len (front x p) (Pool a n) (rest t x (p + m)), range.1, lens_at t roots r)
parts_measured t roots (Paste r p q i n) range =
    let x = root_at roots r in omega (arith, three_len (front x p) (Old (root_at roots q) i n) (rest t x p), range.1, lens_at t roots r)
parts_measured t roots (Join r q) range =
    omega (arith, two_len (whole t (root_at roots r)) (whole t (root_at roots q)), lens_at t roots r, lens_at t roots q)
parts_measured t roots (Cut r i n) range = one_len (Old (root_at roots r) i n)
parts_measured t roots (Fill r p c n) range =
    let x = root_at roots r in omega (arith, three_len (front x p) (Part.Fill c n) (rest t x p), range.1, lens_at t roots r)
parts_measured t roots (Back r) range = one_len (whole t (root_at roots r)) ∙ sym (lens_at t roots r)
parts_measured t roots (Balance r) range = one_len (whole t (root_at roots r)) ∙ sym (lens_at t roots r)
parts_measured t roots (Many r splices) range =
    let len = len_of t roots r in
    let follow = (are_splices (length t.pool) len splices range.1).follow in
    omega (arith, spliced_len (root_at roots r) len splices follow, follow_sum len 0 splices follow, lens_at t roots r)

pub sum_map : {X Y : Type 0} (f : Y → ℕ) (g : X → Y) (xs : List X) → sum_by f (map g xs) ≡ sum_by (λ (x : X). f (g x)) xs
sum_map f g [] = refl
sum_map f g (x ∷ xs) = sum_by-cons f (g x) (map g xs) ∙ ap (λ (n : ℕ). f (g x) + n) (sum_map f g xs) ∙ sym (sum_by-cons (λ x. f (g x)) x xs)

-- whatever the places of its bytes are
len_unplaced : (lens sources : List ℕ) (e : FullEdit) → text_len lens sources e ≡ text_len lens sources (with_no_places e)
len_unplaced lens sources (Many r splices) =
    let taken : sum_by (λ (s : Splice). s.m) (map with_no_place splices) ≡ sum_by (λ (s : Splice). s.m) splices = sum_map (λ (s : Splice). s.m) with_no_place splices in
    let put : sum_by (λ (s : Splice). s.n) (map with_no_place splices) ≡ sum_by (λ (s : Splice). s.n) splices = sum_map (λ (s : Splice). s.n) with_no_place splices in
    omega (arith, taken, put)
len_unplaced lens sources e = refl

-- ---- all commands

-- each text is as long as its command says of those before it
pub record AreMeasured (sources : List ℕ) (commands : List FullEdit) (lens : List ℕ) : Type 0 where
  pub whole : length lens ≡ length commands
  pub each : (k : ℕ) (e : FullEdit) → slice_get commands k ≡ Some e → get_or lens k 0 ≡ text_len (take k lens) sources e

-- the texts of the roots of a table's revisions, each command in range and each root as long as its parts
pub measured : {X : Type 0} (t : Table) (root : X → Option NodeId) (said : X → FullEdit) (xs : List X)
    → ((k : ℕ) (x : X) → slice_get xs k ≡ Some x → IsInRange t (map root (take k xs)) (said x) × (rope_len t (root x) ≡ parts_len (parts_of t (map root (take k xs)) (said x))))
    → AreMeasured t.sources (map with_no_places (map said xs)) (map (rope_len t) (map root xs))
measured {X} t root said xs each =
    let lens = map (rope_len t) (map root xs) in
    let unplaced : X → FullEdit = λ (x : X). with_no_places (said x) in
    record {
      whole = length-map (map root xs) (rope_len t) ∙ length-map xs root ∙ sym (length-map xs said) ∙ sym (length-map (map said xs) with_no_places);
      each = λ k e is.
          let lt : k < length xs = omega (arith, slice_get_within (map with_no_places (map said xs)) k e is, length-map (map said xs) with_no_places, length-map xs said) in
          let found = there_is xs k lt in
          let x : X = found.0 in
          let stands : Some (with_no_places (said x)) ≡ Some e = sym (slice_get-map with_no_places (map said xs) k ∙ ap (option_map with_no_places) (slice_get-map said xs k ∙ ap (option_map said) found.1)) ∙ is in
          let same : with_no_places (said x) ≡ e = cc in
          let good = each k x found.1 in
          let here : get_or lens k 0 ≡ rope_len t (root x) =
          get_or_from_slice_get lens k (rope_len t (root x)) 0 (slice_get-map (rope_len t) (map root xs) k ∙ ap (option_map (rope_len t)) (slice_get-map root xs k ∙ ap (option_map root) found.1)) in
          let before : map (rope_len t) (map root (take k xs)) ≡ take k lens = sym (take-map (rope_len t) k (map root xs) ∙ ap (map (rope_len t)) (take-map root k xs)) in
          here ∙ good.1 ∙ parts_measured t (map root (take k xs)) (said x) good.0
          ∙ ap (λ (ls : List ℕ). text_len ls t.sources (said x)) before
          ∙ len_unplaced (take k lens) t.sources (said x)
          ∙ ap (text_len (take k lens) t.sources) same;
    }

-- texts of the same first commands are as long
same_until : (sources : List ℕ) (es fs : List FullEdit) (xs ys : List ℕ) → fs ≡ take (length fs) es → AreMeasured sources es xs → AreMeasured sources fs ys → (k : ℕ) → k ≤ length fs → take k xs ≡ take k ys
same_until sources es fs xs ys first left right zero le = refl
same_until sources es fs xs ys first left right (suc k) le =
    let lt : k < length fs = omega (arith, le) in
    let before = same_until sources es fs xs ys first left right k (omega (arith, le)) in
    let found = there_is fs k lt in
    let e = found.0 in
    let among : slice_get es k ≡ Some e = sym (slice_get-take (length fs) k es lt) ∙ ap (λ (ds : List FullEdit). slice_get ds k) (sym first) ∙ found.1 in
    let here : get_or xs k 0 ≡ get_or ys k 0 =
    left.each k e among ∙ ap (λ (lens : List ℕ). text_len lens sources e) before ∙ sym (right.each k e found.1) in
    let lt_all : k < length xs = omega (arith, left.whole, slice_get_within es k e among) in
    let step : k + 1 ≡ suc k = omega arith in
    subst (λ (n : ℕ). take n xs ≡ take n ys) step (take_more_same xs ys k 0 lt_all (omega (arith, right.whole, lt)) before here)

pub same_lengths : (sources : List ℕ) (es fs : List FullEdit) (xs ys : List ℕ) → fs ≡ take (length fs) es → AreMeasured sources es xs → AreMeasured sources fs ys → take (length fs) xs ≡ ys
same_lengths sources es fs xs ys first left right =
    same_until sources es fs xs ys first left right (length fs) (omega arith) ∙ take_all (length fs) ys (omega (arith, right.whole))
