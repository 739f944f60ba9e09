-- How long the parts of a command in range are together, by the lengths of the texts before it.
use Rattle.std.proofs.Common.{◌≡◌, ℕ, ◌+◌, ◌-◌, ◌<◌, ◌≤◌, ltb, List, [], ◌∷◌, Option, refl, sym, ap, ◌∙◌, arith, inl, inr}
use Rattle.std.specs.Prelude.{◌^◌, min}
use Rattle.std.specs.List.{sum_by}
use Rattle.std.proofs.lemmas.Bool.{ltb-false, cases_Bool, cond-true, cond-false}
use Rattle.std.proofs.lemmas.List.Sums.{sum_by-cons}
use Rattle.rope_node.specs.declared.limits.TheConstants.{TEXT_LIMIT}
use Rattle.rope_node.specs.declared.node.NodeId.{NodeId}
use Rattle.command_parts.specs.declared.edit.Splice.{Splice}
use Rattle.command_parts.specs.declared.part.Part.{Part}
use Rattle.command_parts.specs.declared.part.Part.TheVariants.{Old, Pool}
use Rattle.command_parts.specs.Parts.{part_len, parts_len, nonempty, pieces, Follow}

-- empty parts add nothing
pub nonempty_len : (parts : List Part) → parts_len (nonempty parts) ≡ parts_len parts
nonempty_len [] = refl
nonempty_len (x ∷ xs) =
    elim (cases_Bool (ltb 0 (part_len x))) [
      | inl some ↦
          ap parts_len (cond-true (ltb 0 (part_len x)) (x ∷ nonempty xs) (nonempty xs) some)
          ∙ sum_by-cons part_len x (nonempty xs)
          ∙ ap (λ (n : ℕ). part_len x + n) (nonempty_len xs)
          ∙ sym (sum_by-cons part_len x xs)
      | inr none ↦
          let zero-len : part_len x ≡ 0 = omega (arith, ltb-false _ _ none) in
          ap parts_len (cond-false (ltb 0 (part_len x)) (x ∷ nonempty xs) (nonempty xs) none)
          ∙ nonempty_len xs
          ∙ omega (arith, zero-len, sum_by-cons part_len x xs)
    ]

-- the pieces of a rope from place k on
pieces_len : (rope : Option NodeId) (len k : ℕ) (splices : List Splice) → Follow len k splices → parts_len (pieces rope len k splices) + sum_by (λ (s : Splice). s.m) splices + k ≡ len + sum_by (λ (s : Splice). s.n) splices
pieces_len rope len k [] f = omega (arith, f, sum_by-cons part_len (Old rope k (len - k)) [])
pieces_len rope len k (s ∷ splices) f =
    let rest = pieces rope len (s.p + s.m) splices in
    let later = pieces_len rope len (s.p + s.m) splices f.1 in
    rw (sum_by-cons (λ (u : Splice). u.m) s splices, sum_by-cons (λ (u : Splice). u.n) s splices)
    (omega (arith, later, f.0, sum_by-cons part_len (Old rope k (s.p - k)) (Pool s.a s.n ∷ rest), sum_by-cons part_len (Pool s.a s.n) rest))

pub spliced_len : (rope : Option NodeId) (len : ℕ) (splices : List Splice) → Follow len 0 splices → parts_len (nonempty (pieces rope len 0 splices)) + sum_by (λ (s : Splice). s.m) splices ≡ len + sum_by (λ (s : Splice). s.n) splices
spliced_len rope len splices f = ap (λ (n : ℕ). n + sum_by (λ (s : Splice). s.m) splices) (nonempty_len (pieces rope len 0 splices)) ∙ omega (arith, pieces_len rope len 0 splices f)

-- a text that so many bytes leave and so many others come into, where both are counted up to what a number holds
pub len_so : (len m n taken put total : ℕ) → m ≤ len → len < TEXT_LIMIT → len + n < TEXT_LIMIT + m → taken ≡ min m (2 ^ 64 - 1) → put ≡ min n (2 ^ 64 - 1) → total + m ≡ len + n → (len - taken) + put ≡ total
len_so len m n taken put total inside short fits is_taken is_put is_total =
    let whole : taken ≡ m = omega (arith, inside, short, is_taken) in
    omega (arith, whole, inside, short, fits, is_put, is_total)
