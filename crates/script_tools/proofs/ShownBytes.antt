-- What lines of runs have in quotes are the text's bytes.
use Rattle.std.proofs.Common.{◌≡◌, ℕ, zero, suc, ◌+◌, ◌-◌, ◌<◌, ◌≤◌, List, [], ◌∷◌, ◌++◌, length, map, take, drop, Some, refl, sym, ap, ◌∙◌, arith}
use Rattle.std.specs.Prelude.{slice_get}
use Rattle.std.specs.List.{flat_map, range_with_len}
use Rattle.std.proofs.lemmas.List.{length-append, length-take, drop-drop, drop-take, take-take, take_at}
use Rattle.std.proofs.lemmas.Option.{same_Some, none-some}
use Rattle.rope_node.proofs.Parts.{slice_get-take}
use Rattle.command_parts.specs.Commands.{IsHistory}
use Rattle.image_reader.specs.Value.{ImageValue}
use Rattle.session_checker.specs.Faithful.{EachRevision, commands, givens, revision_text, texts}
use Rattle.edit_script.specs.Words.{Word, Quoted}
use Rattle.byte_origins.specs.declared.run.Brought.{Brought}
use Rattle.byte_origins.specs.declared.run.Brought.TheVariants.{Pool, Source, Fill}
use Rattle.byte_origins.specs.declared.run.Origin.{Origin}
use Rattle.byte_origins.specs.declared.run.OriginRun.{OriginRun}
use Rattle.byte_origins.specs.Behind.{origin_behind}
use Rattle.byte_origins.specs.Origins.{AreRuns, brought_byte, origins_at, run_origins}
use Rattle.byte_origins.proofs.NamedBytes.{names_each}
use Rattle.byte_origins.proofs.RunOrigins.{length-run}
use Rattle.script_tools.specs.Blamed.{ShowBytes, run_texts}

-- ---- lists

-- lists that have the same at each of the first n places
same_front : {X : Type 0} (n : ℕ) (xs ys : List X) → ((i : ℕ) → i < n → slice_get xs i ≡ slice_get ys i) → take n xs ≡ take n ys
same_front zero xs ys same = refl
same_front (suc n) [] [] same = refl
same_front (suc n) [] (y ∷ ys) same = absurd (none-some y (same 0 (omega arith)))
same_front (suc n) (x ∷ xs) [] same = absurd (none-some x (sym (same 0 (omega arith))))
same_front {X} (suc n) (x ∷ xs) (y ∷ ys) same =
    ap (λ (z : X). z ∷ take n xs) (same_Some x y (same 0 (omega arith)))
    ∙ ap (λ (zs : List X). y ∷ zs) (same_front n xs ys (λ i lt. same (suc i) (omega (arith, lt))))

slice_get-drop : {X : Type 0} (p i : ℕ) (xs : List X) → slice_get (drop p xs) i ≡ slice_get xs (p + i)
slice_get-drop zero i xs = ap (slice_get xs) (omega arith)
slice_get-drop (suc p) i [] = refl
slice_get-drop (suc p) i (x ∷ xs) = let next : suc p + i ≡ suc (p + i) = omega arith in slice_get-drop p i xs ∙ ap (slice_get (x ∷ xs)) (sym next)

mapped_at : {X Y : Type 0} (f : X → Y) (xs : List X) (i : ℕ) (x : X) → slice_get xs i ≡ Some x → slice_get (map f xs) i ≡ Some (f x)
mapped_at f [] i x e = absurd (none-some x e)
mapped_at {X} {Y} f (y ∷ xs) zero x e = ap (λ (z : X). Some (f z)) (same_Some y x e)
mapped_at f (y ∷ xs) (suc i) x e = mapped_at f xs i x e

range_at : (a n i : ℕ) → i < n → slice_get (range_with_len a n) i ≡ Some (a + i)
range_at a zero i lt = absurd (omega (arith, lt))
range_at a (suc n) zero lt = ap (λ (m : ℕ). Some m) (omega arith)
range_at a (suc n) (suc i) lt = range_at (a + 1) n i (omega (arith, lt)) ∙ ap (λ (m : ℕ). Some m) (omega arith)

-- ---- one run

run_at : (run : OriginRun) (i : ℕ) → i < run.len → slice_get (run_origins run) i ≡ Some (origin_behind run.first i)
run_at run i lt = mapped_at (origin_behind run.first) (range_with_len 0 run.len) i (0 + i) (range_at 0 run.len i lt) ∙ ap (λ (j : ℕ). Some (origin_behind run.first j)) (omega arith)

module _ (v : ImageValue) (source : ℕ → ℕ → ℕ) (history : IsHistory (givens v source) (commands v) (texts v source)) (k : ℕ) (there : k < length v.revisions) where
  stands_at : (place : ℕ) (run : OriginRun) → take run.len (drop place (origins_at v k)) ≡ run_origins run → (i : ℕ) → i < run.len → slice_get (origins_at v k) (place + i) ≡ Some (origin_behind run.first i)
  stands_at place run stands i lt =
      sym (slice_get-drop place i (origins_at v k))
      ∙ sym (slice_get-take run.len i (drop place (origins_at v k)) lt)
      ∙ ap (λ (os : List Origin). slice_get os i) stands
      ∙ run_at run i lt

  -- the bytes of the pool that a run names
  pool_shown : (place len : ℕ) (first : Origin) (a : ℕ) → first.brought ≡ Pool a → take len (drop place (origins_at v k)) ≡ run_origins (record { first = first; len = len }) → take len (drop a v.pool) ≡ take len (drop place (revision_text v source k))
  pool_shown place len first a brought stands =
      let text = revision_text v source k in
      same_front len (drop a v.pool) (drop place text) (λ i lt.
      let told = names_each v source history k there (place + i) (origin_behind first i) (stands_at place (record { first = first; len = len }) stands i lt) in
      slice_get-drop a i v.pool
      ∙ sym (ap (λ (b : Brought). brought_byte (givens v source) (origin_behind (record { revision = first.revision; place = first.place; brought = b }) i).brought) brought)
      ∙ sym told
      ∙ sym (slice_get-drop place i text))

  shown_is : (place : ℕ) (run : OriginRun) (shown : List ℕ) → take run.len (drop place (origins_at v k)) ≡ run_origins run → (b : Brought) → run.first.brought ≡ b → run_texts v.pool run ≡ Quoted shown ∷ [] → shown ≡ take run.len (drop place (revision_text v source k))
  shown_is place run shown stands (Pool a) brought e =
      let texts : Quoted (take run.len (drop a v.pool)) ∷ [] ≡ Quoted shown ∷ [] =
      sym (ap (λ (b : Brought). run_texts v.pool (record { first = record { revision = run.first.revision; place = run.first.place; brought = b }; len = run.len })) brought) ∙ e in
      let same : take run.len (drop a v.pool) ≡ shown = cc in
      sym same ∙ pool_shown place run.len run.first a brought stands
  shown_is place run shown stands (Source s p) brought e =
      let texts : ◌≡◌ {A = List Word} [] (Quoted shown ∷ []) =
      sym (ap (λ (b : Brought). run_texts v.pool (record { first = record { revision = run.first.revision; place = run.first.place; brought = b }; len = run.len })) brought) ∙ e in
      absurd cc
  shown_is place run shown stands (Fill c) brought e =
      let texts : ◌≡◌ {A = List Word} [] (Quoted shown ∷ []) =
      sym (ap (λ (b : Brought). run_texts v.pool (record { first = record { revision = run.first.revision; place = run.first.place; brought = b }; len = run.len })) brought) ∙ e in
      absurd cc

  -- ---- all runs

  take_first : (run : OriginRun) (rest os : List Origin) → run_origins run ++ rest ≡ os → take run.len os ≡ run_origins run
  take_first run rest os e = ap (take run.len) (sym e) ∙ take_at (run_origins run) rest run.len (length-run run)

  drop_first : (xs rest : List Origin) (n : ℕ) → length xs ≡ n → drop n (xs ++ rest) ≡ rest
  drop_first [] rest zero e = refl
  drop_first [] rest (suc n) e = absurd (omega (arith, e))
  drop_first (x ∷ xs) rest zero e = absurd (omega (arith, e))
  drop_first (x ∷ xs) rest (suc n) e = drop_first xs rest n (omega (arith, e))

  shown_all : (start count : ℕ) (runs : List OriginRun) → flat_map run_origins runs ≡ take count (drop start (origins_at v k)) → ShowBytes v.pool (revision_text v source k) start runs
  shown_all start count [] whole = tt
  shown_all start count (x ∷ xs) whole =
      let os = drop start (origins_at v k) in
      let rest = flat_map run_origins xs in
      let long : length (take count os) ≡ x.len + length rest = ap (λ (l : List Origin). length l) (sym whole) ∙ length-append (run_origins x) rest ∙ ap (λ (n : ℕ). n + length rest) (length-run x) in
      let few : x.len ≤ count = omega (arith, long, length-take count os) in
      let split : x.len + (count - x.len) ≡ count = omega (arith, few) in
      let stands : take x.len os ≡ run_origins x = sym (take-take x.len count os few) ∙ take_first x rest (take count os) whole in
      let next : rest ≡ take (count - x.len) (drop (start + x.len) (origins_at v k)) =
      sym (drop_first (run_origins x) rest x.len (length-run x))
      ∙ ap (drop x.len) whole
      ∙ ap (λ (n : ℕ). drop x.len (take n os)) (sym split)
      ∙ drop-take x.len (count - x.len) os
      ∙ ap (take (count - x.len)) (drop-drop x.len start (origins_at v k)) in
      (λ shown e. shown_is start x shown stands x.first.brought refl e, shown_all (start + x.len) (count - x.len) xs next)

pub shows : (v : ImageValue) (source : ℕ → ℕ → ℕ) → IsHistory (givens v source) (commands v) (texts v source)
    → EachRevision v (λ k. (start count : ℕ) (runs : List OriginRun) → AreRuns (take count (drop start (origins_at v k))) runs → ShowBytes v.pool (revision_text v source k) start runs)
shows v source history k there start count runs are = shown_all v source history k there start count runs are.whole
