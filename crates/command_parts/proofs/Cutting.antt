-- Pieces of a rope cut off one splice after the other.
use Rattle.std.proofs.Common.{◌≡◌, ℕ, zero, suc, ◌+◌, ◌-◌, ◌<◌, ◌≤◌, List, [], ◌∷◌, ◌++◌, length, take, drop, ltb, Option, Some, sym, ap, ◌∙◌, arith, inl, inr}
use Rattle.std.specs.Prelude.{Bool, true, false, nat_lt, slice_get, get_or}
use Rattle.std.proofs.lemmas.Bool.{ltb-true, cases_Bool, cond-false}
use Rattle.std.proofs.lemmas.List.{drop_all}
use Rattle.std.proofs.lemmas.List.Elements.{filter-append}
use Rattle.rope_node.specs.declared.node.NodeId.{NodeId}
use Rattle.command_parts.specs.declared.edit.Splice.{Splice}
use Rattle.command_parts.specs.declared.part.Part.{Part}
use Rattle.command_parts.specs.declared.part.Part.TheVariants.{Old, Pool}
use Rattle.command_parts.specs.Parts.{nonempty, part_len, pieces, pieces_left, Follow, IsCutting}
use Rattle.command_parts.proofs.SplicedTexts.{follow_inside}

-- the splices that are left, the next one first
first_left : (all : List Splice) (next left : ℕ) (s : Splice) → slice_get all next ≡ Some s → take (suc left) (drop next all) ≡ s ∷ take left (drop (suc next) all)
first_left [] next left s is = absurd cc
first_left (x ∷ all) zero left s is = let same : x ≡ s = cc in ap (λ (u : Splice). u ∷ take left all) same
first_left (x ∷ all) (suc next) left s is = first_left all next left s is

pub left_of : (all : List Splice) (next left : ℕ) (s : Splice) → 1 ≤ left → slice_get all next ≡ Some s → take left (drop next all) ≡ s ∷ take (left - 1) (drop (next + 1) all)
left_of all next left s some is =
    let fewer : left ≡ suc (left - 1) = omega arith in
    let more : suc next ≡ next + 1 = omega arith in
    ap (λ (n : ℕ). take n (drop next all)) fewer ∙ first_left all next (left - 1) s is ∙ ap (λ (j : ℕ). s ∷ take (left - 1) (drop j all)) more

-- what is known of the next splice
pub record IsNextSplice (all : List Splice) (len k next left : ℕ) (s : Splice) : Type 0 where
  pub behind : k ≤ s.p
  pub inside : s.p + s.m ≤ len
  pub later : IsCutting all len (s.p + s.m) (next + 1) (left - 1)

pub next_splice : (all : List Splice) (len k next left : ℕ) (s : Splice) → IsCutting all len k next left → 1 ≤ left → slice_get all next ≡ Some s → IsNextSplice all len k next left s
next_splice all len k next left s cutting some is =
    let follow : Follow len k (s ∷ take (left - 1) (drop (next + 1) all)) = rw (left_of all next left s some is) at cutting.follow in
    record {
      behind = follow.0;
      inside = follow_inside len (s.p + s.m) (take (left - 1) (drop (next + 1) all)) follow.1;
      later = record { there = omega (arith, cutting.there, some); fit = omega (arith, cutting.fit, some); follow = follow.1 };
    }

-- the two parts that the next splice gives stand before those that are left
pub cut_parts : (more : Bool) (rope : Option NodeId) (len k : ℕ) (all : List Splice) (next left : ℕ) (s : Splice) (now : List Part) → 1 ≤ left → slice_get all next ≡ Some s → pieces_left more rope len k (take left (drop next all)) ≡ now → 1 ≤ length now
    → (nonempty (Old rope k (s.p - k) ∷ Pool s.a s.n ∷ []) ++ nonempty (pieces_left more rope len (s.p + s.m) (take (left - 1) (drop (next + 1) all))) ≡ nonempty now) × (length (pieces_left more rope len (s.p + s.m) (take (left - 1) (drop (next + 1) all))) < length now)
cut_parts false rope len k all next left s now some is view there = absurd (omega (arith, there, ap length view))
cut_parts true rope len k all next left s now some is view there =
    let rest = take (left - 1) (drop (next + 1) all) in
    let whole : now ≡ Old rope k (s.p - k) ∷ Pool s.a s.n ∷ pieces rope len (s.p + s.m) rest = sym view ∙ ap (pieces rope len k) (left_of all next left s some is) in (
      sym (filter-append (λ (part : Part). nat_lt 0 (part_len part)) (Old rope k (s.p - k) ∷ Pool s.a s.n ∷ []) (pieces rope len (s.p + s.m) rest))
          ∙ ap nonempty (sym whole),
      omega (arith, ap length whole),
    )

-- ---- parts that are ready

-- the parts from the given one on, and the pieces behind them, are the whole; there is a next one, which may be empty
pub record IsGiving (ready : List Part) (given : ℕ) (pieces whole : List Part) : Type 0 where
  pub size : length ready ≡ 3
  pub within : given < 3
  pub same : nonempty (drop given ready) ++ nonempty pieces ≡ whole

-- an empty one is passed over
pub passed_over : (ready : List Part) (given : ℕ) (other : Part) → given < length ready → part_len (get_or ready given other) ≤ 0 → nonempty (drop (given + 1) ready) ≡ nonempty (drop given ready)
passed_over [] given other lt empty = absurd (omega (arith, lt))
passed_over (x ∷ xs) zero other lt empty =
    elim (cases_Bool (ltb 0 (part_len x))) [
      | inl some ↦ absurd (omega (arith, ltb-true _ _ some, empty))
      | inr none ↦ sym (cond-false (ltb 0 (part_len x)) (x ∷ nonempty xs) (nonempty xs) none)
    ]
passed_over (x ∷ xs) (suc given) other lt empty =
    let more : suc given + 1 ≡ suc (given + 1) = omega arith in
    ap (λ (k : ℕ). nonempty (drop k (x ∷ xs))) more ∙ passed_over xs given other (omega (arith, lt)) empty

-- once all three are behind, those that are cut off next stand in their place
pub cut_next : (ready others : List Part) (given : ℕ) (pieces left whole : List Part) → length ready ≡ 3 → length others ≡ 3 → given ≡ 3 → nonempty (drop given ready) ++ nonempty pieces ≡ whole → nonempty others ++ nonempty left ≡ nonempty pieces → IsGiving others 0 left whole
cut_next ready others given pieces left whole size others_size all same cut =
    let none : drop given ready ≡ [] = drop_all given ready (omega (arith, size, all)) in
    record { size = others_size; within = omega arith; same = cut ∙ sym (ap (λ (ps : List Part). nonempty ps ++ nonempty pieces) none) ∙ same }
