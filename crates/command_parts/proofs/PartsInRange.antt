-- A command in range has parts that lie inside what they are taken from.
use Rattle.std.proofs.Common.{ℕ, ◌+◌, ◌≤◌, List, [], ◌∷◌, length, ltb, Option, arith, inl, inr}
use Rattle.std.specs.Prelude.{filter, nat_lt}
use Rattle.std.specs.List.{AllByRecursion}
use Rattle.std.proofs.lemmas.Bool.{cases_Bool, ltb-true}
use Rattle.rope_node.specs.declared.node.NodeId.{NodeId}
use Rattle.rope_node.specs.Table.{Table}
use Rattle.rope_node.specs.Denotes.{IsRope, rope_len}
use Rattle.command_parts.specs.Commands.{FullEdit, New, Open, Insert, Delete, Replace, Paste, Join, Cut, Fill, Back, Balance, Many}
use Rattle.command_parts.specs.declared.part.Part.{Part}
use Rattle.command_parts.specs.Parts.{part_len, IsInside, AreParts, root_at, front, rest, whole, terms_of, parts_of, AreRopes, IsInRange}
use Rattle.command_parts.proofs.SplicedTexts.{are_splices, pieces_inside}

front_inside : (t : Table) (rope : Option NodeId) (p : ℕ) → IsRope t rope → p ≤ rope_len t rope → IsInside t (front rope p)
front_inside t rope p there le = (there, omega arith)

rest_inside : (t : Table) (rope : Option NodeId) (p : ℕ) → IsRope t rope → p ≤ rope_len t rope → IsInside t (rest t rope p)
rest_inside t rope p there le = (there, omega arith)

whole_inside : (t : Table) (rope : Option NodeId) → IsRope t rope → IsInside t (whole t rope)
whole_inside t rope there = (there, omega arith)

pub terms_inside : (t : Table) (roots : List (Option NodeId)) (edit : FullEdit) → AreRopes t roots → IsInRange t roots edit → AllByRecursion (IsInside t) (terms_of t roots edit)
terms_inside t roots New ropes h = tt
terms_inside t roots (Open s) ropes h = ((h, omega arith), tt)
terms_inside t roots (Insert r p a n) ropes h =
    let there = ropes r h.0 in
    (front_inside t (root_at roots r) p there h.1, (h.3, (rest_inside t (root_at roots r) p there h.1, tt)))
terms_inside t roots (Delete r p n) ropes h =
    let there = ropes r h.0 in
    (front_inside t (root_at roots r) p there (omega (arith, h.1)), (rest_inside t (root_at roots r) (p + n) there h.1, tt))
terms_inside t roots (Replace r p m a n) ropes h =
    let there = ropes r h.0 in
    (front_inside t (root_at roots r) p there (omega (arith, h.1)), (h.3, (rest_inside t (root_at roots r) (p + m) there h.1, tt)))
terms_inside t roots (Paste r p q i n) ropes h =
    let there = ropes r h.0 in
    (front_inside t (root_at roots r) p there h.1, ((ropes q h.2, h.3), (rest_inside t (root_at roots r) p there h.1, tt)))
terms_inside t roots (Join r q) ropes h = (whole_inside t (root_at roots r) (ropes r h.0), (whole_inside t (root_at roots q) (ropes q h.1), tt))
terms_inside t roots (Cut r i n) ropes h = ((ropes r h.0, h.1), tt)
terms_inside t roots (Fill r p c n) ropes h =
    let there = ropes r h.0 in
    (front_inside t (root_at roots r) p there h.1, (tt, (rest_inside t (root_at roots r) p there h.1, tt)))
terms_inside t roots (Back r) ropes h = (whole_inside t (root_at roots r) (ropes r h), tt)
terms_inside t roots (Balance r) ropes h = (whole_inside t (root_at roots r) (ropes r h), tt)
terms_inside t roots (Many r splices) ropes h =
    let are = are_splices (length t.pool) (rope_len t (root_at roots r)) splices h.1 in
    pieces_inside t (root_at roots r) (ropes r h.0) 0 splices are.follow are.pooled

nonempty_inside : (t : Table) (terms : List Part) → AllByRecursion (IsInside t) terms → AreParts t (filter (λ part. nat_lt 0 (part_len part)) terms)
nonempty_inside t [] inside = tt
nonempty_inside t (x ∷ xs) inside =
    elim (cases_Bool (ltb 0 (part_len x))) [
      | inl some ↦ rw some ((ltb-true _ _ some, inside.0), nonempty_inside t xs inside.1)
      | inr none ↦ rw none (nonempty_inside t xs inside.1)
    ]

pub parts_in_range : (t : Table) (roots : List (Option NodeId)) (edit : FullEdit) → AreRopes t roots → IsInRange t roots edit → AreParts t (parts_of t roots edit)
parts_in_range t roots edit ropes h = nonempty_inside t (terms_of t roots edit) (terms_inside t roots edit ropes h)
