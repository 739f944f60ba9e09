-- The origins of runs: behind one, joined, and how many.
use Rattle.std.proofs.Common.{◌≡◌, ℕ, zero, suc, ◌+◌, List, [], ◌∷◌, ◌++◌, length, map, refl, sym, ap, ◌∙◌, arith}
use Rattle.std.specs.List.{range_with_len}
use Rattle.std.proofs.lemmas.List.{length-map}
use Rattle.std.proofs.lemmas.List.FromFn.{length-range_with_len}
use Rattle.byte_origins.specs.declared.run.Brought.{Brought}
use Rattle.byte_origins.specs.declared.run.Brought.TheVariants.{Pool, Source, Fill}
use Rattle.byte_origins.specs.declared.run.Origin.{Origin}
use Rattle.byte_origins.specs.declared.run.OriginRun.{OriginRun}
use Rattle.byte_origins.specs.Behind.{brought_behind, origin_behind}
use Rattle.byte_origins.specs.Origins.{run_origins}

-- ---- places behind one

brought_twice : (b : Brought) (n m : ℕ) → brought_behind (brought_behind b n) m ≡ brought_behind b (n + m)
brought_twice (Pool a) n m = let same : (a + n) + m ≡ a + (n + m) = omega arith in ap (λ (i : ℕ). Pool i) same
brought_twice (Source s p) n m = let same : (p + n) + m ≡ p + (n + m) = omega arith in ap (λ (i : ℕ). Source s i) same
brought_twice (Fill c) n m = refl

pub behind_twice : (o : Origin) (n m : ℕ) → origin_behind (origin_behind o n) m ≡ origin_behind o (n + m)
behind_twice o n m =
    let same : (o.place + n) + m ≡ o.place + (n + m) = omega arith in
    ap (λ (b : Brought). record { revision = o.revision; place = (o.place + n) + m; brought = b }) (brought_twice o.brought n m)
    ∙ ap (λ (p : ℕ). record { revision = o.revision; place = p; brought = brought_behind o.brought (n + m) }) same

brought_none : (b : Brought) → brought_behind b 0 ≡ b
brought_none (Pool a) = let same : a + 0 ≡ a = omega arith in ap (λ (i : ℕ). Pool i) same
brought_none (Source s p) = let same : p + 0 ≡ p = omega arith in ap (λ (i : ℕ). Source s i) same
brought_none (Fill c) = refl

pub behind_none : (o : Origin) → origin_behind o 0 ≡ o
behind_none o =
    let same : o.place + 0 ≡ o.place = omega arith in
    ap (λ (b : Brought). record { revision = o.revision; place = o.place + 0; brought = b }) (brought_none o.brought)
    ∙ ap (λ (p : ℕ). record { revision = o.revision; place = p; brought = o.brought }) same

-- those from the a-th place on
pub origins_from_place : (o : Origin) (a b : ℕ) → map (origin_behind o) (range_with_len a b) ≡ map (origin_behind (origin_behind o a)) (range_with_len 0 b)
origins_from_place o a b = let same : a ≡ a + 0 = omega arith in ap (λ (p : ℕ). map (origin_behind o) (range_with_len p b)) same ∙ shifted a 0 b
  where
    shifted : (a i b : ℕ) → map (origin_behind o) (range_with_len (a + i) b) ≡ map (origin_behind (origin_behind o a)) (range_with_len i b)
    shifted a i zero = refl
    shifted a i (suc b) =
        let next : (a + i) + 1 ≡ a + (i + 1) = omega arith in
        ap (λ (x : Origin). x ∷ map (origin_behind o) (range_with_len ((a + i) + 1) b)) (sym (behind_twice o a i))
        ∙ ap (λ (p : ℕ). origin_behind (origin_behind o a) i ∷ map (origin_behind o) (range_with_len p b)) next
        ∙ ap (λ (xs : List Origin). origin_behind (origin_behind o a) i ∷ xs) (shifted a (i + 1) b)

ranges_joined : (p a b : ℕ) → range_with_len p (a + b) ≡ range_with_len p a ++ range_with_len (p + a) b
ranges_joined p zero b =
    let same : p ≡ p + 0 = omega arith in
    let none : 0 + b ≡ b = omega arith in
    ap (range_with_len p) none ∙ ap (λ (q : ℕ). range_with_len q b) same
ranges_joined p (suc a) b =
    let same : (p + 1) + a ≡ p + suc a = omega arith in
    let more : suc a + b ≡ suc (a + b) = omega arith in
    ap (range_with_len p) more ∙ ap (λ (xs : List ℕ). p ∷ xs) (ranges_joined (p + 1) a b ∙ ap (λ (q : ℕ). range_with_len (p + 1) a ++ range_with_len q b) same)

map_joined : (f : ℕ → Origin) (xs ys : List ℕ) → map f (xs ++ ys) ≡ map f xs ++ map f ys
map_joined f [] ys = refl
map_joined f (x ∷ xs) ys = ap (λ (os : List Origin). f x ∷ os) (map_joined f xs ys)

-- two runs, where the first goes on where the second begins, are one
pub runs_joined : (o : Origin) (a b : ℕ) → run_origins (record { first = o; len = a + b }) ≡ run_origins (record { first = o; len = a }) ++ run_origins (record { first = origin_behind o a; len = b })
runs_joined o a b =
    let from : 0 + a ≡ a = omega arith in
    ap (map (origin_behind o)) (ranges_joined 0 a b)
    ∙ map_joined (origin_behind o) (range_with_len 0 a) (range_with_len (0 + a) b)
    ∙ ap (λ (p : ℕ). map (origin_behind o) (range_with_len 0 a) ++ map (origin_behind o) (range_with_len p b)) from
    ∙ ap (λ (os : List Origin). map (origin_behind o) (range_with_len 0 a) ++ os) (origins_from_place o a b)

pub length-run : (run : OriginRun) → length (run_origins run) ≡ run.len
length-run run = length-map (range_with_len 0 run.len) (origin_behind run.first) ∙ length-range_with_len 0 run.len
