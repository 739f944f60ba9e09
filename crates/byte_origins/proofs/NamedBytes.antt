-- An origin names its byte: in each history of the commands, whatever is given, the thing at a place is the one that its origin tells.
use Rattle.std.proofs.Common.{◌≡◌, ℕ, zero, suc, ◌+◌, ◌<◌, ◌≤◌, List, [], ◌∷◌, ◌++◌, map, length, take, get_or, Option, Some, None, refl, sym, ap, ◌∙◌, arith, take-suc}
use Rattle.std.specs.Prelude.{slice_get}
use Rattle.std.specs.Option.{option_map, unwrap_or}
use Rattle.std.specs.List.{range_with_len}
use Rattle.std.proofs.lemmas.List.{length-map, get_or-map, ext_get_or, map-append}
use Rattle.std.proofs.lemmas.List.FromFn.{length-range_with_len, get_or-map-range_with_len}
use Rattle.std.proofs.lemmas.Simd.{map-map}
use Rattle.std.proofs.lemmas.Option.{slice_get-map, slice_get-get_or, same_Some, none-some}
use Rattle.command_parts.specs.Commands.{FullEdit, New, Givens, result_of, IsHistory}
use Rattle.command_parts.proofs.MappedResults.{mapped_givens, result_mapped, history_mapped}
use Rattle.rope_node.specs.Denotes.{rope_cells, text}
use Rattle.image_reader.specs.declared.revision.Revision.{Revision}
use Rattle.image_reader.specs.Value.{ImageValue, image_table}
use Rattle.session_checker.specs.Faithful.{givens, source_text, commands, texts, revision_text, EachRevision}
use Rattle.byte_origins.specs.declared.run.Brought.TheVariants.{Pool, Source}
use Rattle.byte_origins.specs.declared.run.Origin.{Origin}
use Rattle.byte_origins.specs.Origins.{Traced, Earlier, Outside, traced_givens, settled, origins_of, origins_from, origins_at, brought_byte}
use Rattle.byte_origins.proofs.Steps.{from_at, length-origins_from}

some-read : {X : Type 0} (xs : List X) (i : ℕ) → get_or (map Some xs) i None ≡ slice_get xs i
some-read [] i = refl
some-read (x ∷ xs) zero = refl
some-read (x ∷ xs) (suc i) = some-read xs i

-- all of a list, read place by place
read_all : {X : Type 0} (xs : List X) → map (λ a. slice_get xs a) (range_with_len 0 (length xs)) ≡ map Some xs
read_all {X} xs =
    let left : length (map (λ a. slice_get xs a) (range_with_len 0 (length xs))) ≡ length xs = length-map (range_with_len 0 (length xs)) (λ a. slice_get xs a) ∙ length-range_with_len 0 (length xs) in
    ext_get_or None (map (λ a. slice_get xs a) (range_with_len 0 (length xs))) (map Some xs) (left ∙ sym (length-map xs Some))
    (λ i lt. get_or-map-range_with_len (λ a. slice_get xs a) 0 (length xs) i i None (omega (arith, lt, left)) (omega arith) ∙ sym (some-read xs i))

module _ {C : Type 0} (g : Givens C) where
  -- the thing that a traced one stands for
  abbrev thing : Traced → Option C
  thing (Earlier o) = brought_byte g o.brought
  thing (Outside b) = brought_byte g b

  abbrev named : Origin → Option C
  named o = brought_byte g o.brought

  abbrev traced : Givens Traced
  traced = traced_givens (length g.pool) (map (λ (l : List C). length l) g.sources)

  source_read : (s : ℕ) → s < length g.sources → map thing (map (λ p. Outside (Source s p)) (range_with_len 0 (get_or (map (λ (l : List C). length l) g.sources) s 0))) ≡ map Some (get_or g.sources s [])
  source_read s lt =
      ap (λ n. map thing (map (λ p. Outside (Source s p)) (range_with_len 0 n))) (get_or-map (λ (l : List C). length l) g.sources s [] 0 lt)
      ∙ map-map thing (λ p. Outside (Source s p)) (range_with_len 0 (length (get_or g.sources s [])))
      ∙ read_all (get_or g.sources s [])

  pool_read : map thing (map (λ a. Outside (Pool a)) (range_with_len 0 (length g.pool))) ≡ map Some g.pool
  pool_read = map-map thing (λ a. Outside (Pool a)) (range_with_len 0 (length g.pool)) ∙ read_all g.pool

  sources_read : map (map thing) traced.sources ≡ map (map Some) g.sources
  sources_read =
      let each : ℕ → List Traced = λ s. map (λ p. Outside (Source s p)) (range_with_len 0 (get_or (map (λ (l : List C). length l) g.sources) s 0)) in
      let all = range_with_len 0 (length (map (λ (l : List C). length l) g.sources)) in
      let count : length (map (λ (l : List C). length l) g.sources) ≡ length g.sources = length-map g.sources (λ (l : List C). length l) in
      let left : length (map (map thing) (map each all)) ≡ length g.sources = length-map (map each all) (map thing) ∙ length-map all each ∙ length-range_with_len 0 (length (map (λ (l : List C). length l) g.sources)) ∙ count in
      ext_get_or [] (map (map thing) (map each all)) (map (map Some) g.sources) (left ∙ sym (length-map g.sources (map Some)))
      (λ i lt.
      let there : i < length g.sources = omega (arith, lt, left) in
      let inside : i < length (map each all) = omega (arith, lt, length-map (map each all) (map thing)) in
      get_or-map (map thing) (map each all) i [] [] inside
      ∙ ap (map thing) (get_or-map-range_with_len each 0 (length (map (λ (l : List C). length l) g.sources)) i i [] (omega (arith, there, count)) (omega arith))
      ∙ source_read i there
      ∙ sym (get_or-map (map Some) g.sources i [] [] there))

  given_is : mapped_givens thing traced ≡ mapped_givens Some g
  given_is =
      ap (λ (p : List (Option C)). record { pool = p; sources = map (map thing) traced.sources; byte = λ (c : ℕ). Some (g.byte c) }) pool_read
      ∙ ap (λ (s : List (List (Option C))). record { pool = map Some g.pool; sources = s; byte = λ (c : ℕ). Some (g.byte c) }) sources_read

  settled_named : (k p : ℕ) (xs : List Traced) → map named (settled k p xs) ≡ map thing xs
  settled_named k p [] = refl
  settled_named k p (Earlier o ∷ xs) = ap (λ (l : List (Option C)). brought_byte g o.brought ∷ l) (settled_named k (p + 1) xs)
  settled_named k p (Outside b ∷ xs) = ap (λ (l : List (Option C)). brought_byte g b ∷ l) (settled_named k (p + 1) xs)

  earlier_named : (xss : List (List Origin)) → map (map thing) (map (map Earlier) xss) ≡ map (map named) xss
  earlier_named [] = refl
  earlier_named (xs ∷ xss) = rw (map-map thing Earlier xs, earlier_named xss) refl

  taken_out : (o : Option (List Traced)) (t : List (Option C)) → option_map (map thing) o ≡ Some t → map thing (unwrap_or o []) ≡ t
  taken_out None t e = absurd (none-some t e)
  taken_out (Some xs) t e = same_Some (map thing xs) t e

  module _ (commands : List FullEdit) (texts : List (List C)) (h : IsHistory g commands texts) where
    abbrev all : List (List Origin)
    all = origins_from (length g.pool) (map (λ (l : List C). length l) g.sources) [] commands

    length-all : length all ≡ length texts
    length-all = omega (arith, length-origins_from (length g.pool) (map (λ (l : List C). length l) g.sources) [] commands, h.whole)

    next_named : (k : ℕ) → k < length texts → map (map named) (take k all) ≡ take k (map (map Some) texts) → map named (get_or all k []) ≡ get_or (map (map Some) texts) k []
    next_named k lt before =
        let P = length g.pool in
        let S = map (λ (l : List C). length l) g.sources in
        let ts = map (map Some) texts in
        let e = get_or commands k New in
        let at : slice_get commands k ≡ Some e = slice_get-get_or commands k New (omega (arith, lt, h.whole)) in
        let mapped = history_mapped Some g commands texts h in
        let there : slice_get ts k ≡ Some (get_or ts k []) = slice_get-get_or ts k [] (omega (arith, lt, length-map texts (map Some))) in
        let n : 0 + k ≡ k = omega arith in
        let R = result_of traced (map (map Earlier) (take k all)) e in
        let step : get_or all k [] ≡ origins_of P S (take k all) e =
        ap (λ (j : ℕ). get_or all j []) (sym n) ∙ from_at P S [] commands k e at ∙ ap (λ (j : ℕ). origins_of P S (take j all) e) n in
        let result : option_map (map thing) R ≡ Some (get_or ts k []) =
        sym (result_mapped thing traced (map (map Earlier) (take k all)) e)
        ∙ ap (λ (xss : List (List (Option C))). result_of (mapped_givens thing traced) xss e) (earlier_named (take k all) ∙ before)
        ∙ ap (λ (x : Givens (Option C)). result_of x (take k ts) e) given_is
        ∙ sym (mapped.each k e at)
        ∙ there in
        ap (map named) step
        ∙ settled_named (length (take k all)) 0 (unwrap_or R [])
        ∙ taken_out R (get_or ts k []) result

    named_before : (k : ℕ) → k ≤ length texts → map (map named) (take k all) ≡ take k (map (map Some) texts)
    named_before zero le = refl
    named_before (suc k) le =
        let ts = map (map Some) texts in
        let lt : k < length texts = omega (arith, le) in
        let before = named_before k (omega (arith, le)) in
        ap (map (map named)) (take-suc all k [] (omega (arith, lt, length-all)))
        ∙ map-append (map named) (take k all) (get_or all k [] ∷ [])
        ∙ ap (λ (xss : List (List (Option C))). xss ++ map named (get_or all k []) ∷ []) before
        ∙ ap (λ (xs : List (Option C)). take k ts ++ xs ∷ []) (next_named k lt before)
        ∙ sym (take-suc ts k [] (omega (arith, lt, length-map texts (map Some))))

    unwrapped : {X : Type 0} (o p : Option X) → option_map Some o ≡ Some p → o ≡ p
    unwrapped None p e = absurd (none-some p e)
    unwrapped (Some x) p e = same_Some (Some x) p e

    -- the thing at a place of a text is the one that its origin names
    pub named_there : (k i : ℕ) (o : Origin) → k < length texts → slice_get (get_or all k []) i ≡ Some o → slice_get (get_or texts k []) i ≡ brought_byte g o.brought
    named_there k i o lt at =
        let text : map named (get_or all k []) ≡ map Some (get_or texts k []) =
        next_named k lt (named_before k (omega (arith, lt))) ∙ get_or-map (map Some) texts k [] [] lt in
        unwrapped (slice_get (get_or texts k []) i) (brought_byte g o.brought)
        (sym (slice_get-map Some (get_or texts k []) i)
        ∙ ap (λ (l : List (Option C)). slice_get l i) (sym text)
        ∙ slice_get-map named (get_or all k []) i
        ∙ ap (option_map named) at)

-- ---- of an image

-- the sources' texts are as long as the image says
texts_long : (v : ImageValue) (source : ℕ → ℕ → ℕ) → map (λ (l : List ℕ). length l) (givens v source).sources ≡ v.sources
texts_long v source =
    let each = source_text v source in
    let all = range_with_len 0 (length v.sources) in
    let one : (s : ℕ) → length (each s) ≡ get_or v.sources s 0 = λ s. length-map (range_with_len 0 (get_or v.sources s 0)) (source s) ∙ length-range_with_len 0 (get_or v.sources s 0) in
    let left : length (map (λ s. length (each s)) all) ≡ length v.sources = length-map all (λ s. length (each s)) ∙ length-range_with_len 0 (length v.sources) in
    map-map (λ (l : List ℕ). length l) each all
    ∙ ext_get_or 0 (map (λ s. length (each s)) all) v.sources left
    (λ i lt. get_or-map-range_with_len (λ s. length (each s)) 0 (length v.sources) i i 0 (omega (arith, lt, left)) (omega arith) ∙ one i)

pub names_each : (v : ImageValue) (source : ℕ → ℕ → ℕ) → IsHistory (givens v source) (commands v) (texts v source)
    → EachRevision v (λ k. (i : ℕ) (o : Origin) → slice_get (origins_at v k) i ≡ Some o → slice_get (revision_text v source k) i ≡ brought_byte (givens v source) o.brought)
names_each v source h k lt i o at =
    let same : get_or (origins_from (length v.pool) (map (λ (l : List ℕ). length l) (givens v source).sources) [] (commands v)) k [] ≡ origins_at v k =
    ap (λ (s : List ℕ). get_or (origins_from (length v.pool) s [] (commands v)) k []) (texts_long v source) in
    named_there (givens v source) (commands v) (texts v source) h k i o (omega (arith, lt, length-map v.revisions (λ (r : Revision). text source (rope_cells (image_table v) r.root))))
    (ap (λ (os : List Origin). slice_get os i) same ∙ at)
