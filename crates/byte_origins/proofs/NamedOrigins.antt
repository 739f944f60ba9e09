-- What the cells of ropes name.
use Rattle.std.proofs.Common.{◌≡◌, ℕ, zero, suc, ◌+◌, List, [], ◌∷◌, ◌++◌, map, length, take, drop, Option, Some, refl, sym, ap, ◌∙◌, arith, append_assoc}
use Rattle.std.specs.Prelude.{slice_get}
use Rattle.std.specs.List.{range_with_len}
use Rattle.std.proofs.lemmas.List.{length-append, map-append, append-nil}
use Rattle.std.proofs.lemmas.Option.{same_Some, none-some}
use Rattle.rope_node.specs.declared.node.NodeId.{NodeId}
use Rattle.rope_node.specs.Table.{IsSound}
use Rattle.rope_node.specs.Denotes.{Cell, Byte, Place, rope_cells}
use Rattle.rope_node.proofs.Parts.{span-map}
use Rattle.rope_node.proofs.Ropes.{rope_kept, rope_cells_kept, extends_itself, extends_through}
use Rattle.byte_origins.specs.declared.run.Origin.{Origin}
use Rattle.byte_origins.specs.OriginTexts.{OriginTexts, ropes_table, named, Names, KeepsTexts}

-- ---- lists of cells

Named : List Origin → List Cell → List Origin → Type 0
Named bs cs os = map (named bs) cs ≡ map Some os

tail_of : {X : Type 0} (x y : X) (xs ys : List X) → x ∷ xs ≡ y ∷ ys → (x ≡ y) × (xs ≡ ys)
tail_of x y xs ys e = (cc, cc)

slice_get-append : {X : Type 0} (xs ys : List X) (i : ℕ) (x : X) → slice_get xs i ≡ Some x → slice_get (xs ++ ys) i ≡ Some x
slice_get-append [] ys i x e = absurd (none-some x e)
slice_get-append (z ∷ xs) ys zero x e = e
slice_get-append (z ∷ xs) ys (suc i) x e = slice_get-append xs ys i x e

still_named : (bs more : List Origin) (c : Cell) (o : Origin) → named bs c ≡ Some o → named (bs ++ more) c ≡ Some o
still_named bs more (Byte b) o e = absurd (none-some o e)
still_named bs more (Place s p) o e = slice_get-append bs more p o e

-- what names origins names them where more was brought
pub named_further : (bs more : List Origin) (cs : List Cell) (os : List Origin) → map (named bs) cs ≡ map Some os → map (named (bs ++ more)) cs ≡ map Some os
named_further bs more [] [] e = refl
named_further bs more [] (o ∷ os) e = absurd cc
named_further bs more (c ∷ cs) [] e = absurd cc
named_further bs more (c ∷ cs) (o ∷ os) e =
    let parts = tail_of (named bs c) (Some o) (map (named bs) cs) (map Some os) e in
    ap (λ (x : Option Origin). x ∷ map (named (bs ++ more)) cs) (still_named bs more c o parts.0)
    ∙ ap (λ (xs : List (Option Origin)). Some o ∷ xs) (named_further bs more cs os parts.1)

pub named_part : (bs : List Origin) (cs : List Cell) (os : List Origin) (n i : ℕ) → map (named bs) cs ≡ map Some os → map (named bs) (take n (drop i cs)) ≡ map Some (take n (drop i os))
named_part bs cs os n i e =
    sym (span-map (named bs) n i cs) ∙ ap (λ (xs : List (Option Origin)). take n (drop i xs)) e ∙ span-map Some n i os

pub named_joined : (bs : List Origin) (cs ds : List Cell) (os ps : List Origin) → map (named bs) cs ≡ map Some os → map (named bs) ds ≡ map Some ps → map (named bs) (cs ++ ds) ≡ map Some (os ++ ps)
named_joined bs cs ds os ps e f =
    map-append (named bs) cs ds
    ∙ ap (λ (xs : List (Option Origin)). xs ++ map (named bs) ds) e
    ∙ ap (λ (xs : List (Option Origin)). map Some os ++ xs) f
    ∙ sym (map-append Some os ps)

seam : {X : Type 0} (xs ys : List X) (y : X) → slice_get (xs ++ y ∷ ys) (length xs) ≡ Some y
seam [] ys y = refl
seam (x ∷ xs) ys y = seam xs ys y

-- the places behind what was brought name what is brought now
pub named_now : (bs rs : List Origin) (s : ℕ) → map (named (bs ++ rs)) (map (Place s) (range_with_len (length bs) (length rs))) ≡ map Some rs
named_now bs [] s = refl
named_now bs (r ∷ rs) s =
    let next : length (bs ++ r ∷ []) ≡ length bs + 1 = length-append bs (r ∷ []) in
    let all : (bs ++ r ∷ []) ++ rs ≡ bs ++ r ∷ rs = append_assoc bs (r ∷ []) rs in
    let rest : map (named (bs ++ r ∷ rs)) (map (Place s) (range_with_len (length bs + 1) (length rs))) ≡ map Some rs =
    ap (λ (n : ℕ). map (named (bs ++ r ∷ rs)) (map (Place s) (range_with_len n (length rs)))) (sym next)
    ∙ ap (λ (l : List Origin). map (named l) (map (Place s) (range_with_len (length (bs ++ r ∷ [])) (length rs)))) (sym all)
    ∙ named_now (bs ++ r ∷ []) rs s in
    ap (λ (x : Option Origin). x ∷ map (named (bs ++ r ∷ rs)) (map (Place s) (range_with_len (length bs + 1) (length rs)))) (seam bs rs r)
    ∙ ap (λ (xs : List (Option Origin)). Some r ∷ xs) rest

drop_at : {X : Type 0} (xs : List X) (i : ℕ) (x : X) → slice_get xs i ≡ Some x → drop i xs ≡ x ∷ drop (suc i) xs
drop_at [] i x e = absurd (none-some x e)
drop_at {X} (y ∷ xs) zero x e = ap (λ (z : X). z ∷ xs) (same_Some y x e)
drop_at (y ∷ xs) (suc i) x e = drop_at xs i x e

-- places side by side name what was brought side by side
pub named_places : (bs : List Origin) (s p n : ℕ) (os : List Origin) → map (named bs) (map (Place s) (range_with_len p n)) ≡ map Some os → take n (drop p bs) ≡ os
named_places bs s p zero [] e = refl
named_places bs s p zero (o ∷ os) e = absurd cc
named_places bs s p (suc n) [] e = absurd cc
named_places bs s p (suc n) (o ∷ os) e =
    let parts = tail_of (slice_get bs p) (Some o) (map (named bs) (map (Place s) (range_with_len (p + 1) n))) (map Some os) e in
    let next : suc p ≡ p + 1 = omega arith in
    ap (take (suc n)) (drop_at bs p o parts.0)
    ∙ ap (λ (l : List Origin). o ∷ l) (ap (λ (j : ℕ). take n (drop j bs)) next ∙ named_places bs s (p + 1) n os parts.1)

-- ---- ropes

pub keeps_itself : (x : OriginTexts) → IsSound (ropes_table x) → KeepsTexts x x
keeps_itself x sound = record { sound = sound; kept = extends_itself (ropes_table x); more = []; brought = sym (append-nil x.brought) }

pub keeps_through : (x y z : OriginTexts) → KeepsTexts x y → KeepsTexts y z → KeepsTexts x z
keeps_through x y z k l = record {
  sound = k.sound;
  kept = extends_through (ropes_table x) (ropes_table y) (ropes_table z) k.kept l.kept;
  more = k.more ++ l.more;
  brought = l.brought ∙ ap (λ (os : List Origin). os ++ l.more) k.brought ∙ append_assoc x.brought k.more l.more;
}

-- a rope names the same where more is there
pub names_kept : (x y : OriginTexts) → KeepsTexts x y → (rope : Option NodeId) (os : List Origin) → Names x rope os → Names y rope os
names_kept x y k rope os is = record {
  there = rope_kept (ropes_table x) (ropes_table y) k.kept rope is.there;
  same = ap (λ (bs : List Origin). map (named bs) (rope_cells (ropes_table y) rope)) k.brought
      ∙ ap (map (named (x.brought ++ k.more))) (rope_cells_kept (ropes_table x) (ropes_table y) k.sound k.kept rope is.there)
      ∙ named_further x.brought k.more (rope_cells (ropes_table x) rope) os is.same;
}
