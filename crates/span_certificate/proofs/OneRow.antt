-- Where the one part is a source and the root a leaf, the longest row is the only one.
use Rattle.std.proofs.Common.{All, ◌≡◌, ℕ, suc, ◌+◌, ◌<◌, ◌≤◌, List, [], ◌∷◌, ◌++◌, length, map, take, drop, Some, refl, sym, subst, ◌∙◌, arith}
use Rattle.std.specs.Prelude.{get_or}
use Rattle.std.specs.List.{range_with_len}
use Rattle.std.proofs.lemmas.Bool.{lt-ltb}
use Rattle.std.proofs.lemmas.List.{get_or_append_left, get_or-take, get_or-drop, length-append, length-take, length-drop}
use Rattle.std.proofs.lemmas.List.Elements.{All-get_or}
use Rattle.std.proofs.lemmas.List.FromFn.{get_or-map-range_with_len, length-map-range_with_len}
use Rattle.std.proofs.lemmas.List.Sums.{sum_by-cons}
use Rattle.std.proofs.lemmas.Option.{some_pair_parts}
use Rattle.function_leaf.specs.declared.coded.Coded.{Coded}
use Rattle.rope_node.specs.declared.node.NodeId.{NodeId}
use Rattle.rope_node.specs.Table.{Table, view_at, len_at, IsLeaf}
use Rattle.rope_node.specs.Denotes.{Cell, Byte, Place, rope_cells}
use Rattle.command_parts.specs.declared.part.Part.{Part}
use Rattle.command_parts.specs.declared.part.Part.TheVariants.{Source}
use Rattle.span_certificate.specs.declared.row.Row.{Row}
use Rattle.span_certificate.specs.declared.row.RowKind.{RowKind}
use Rattle.span_certificate.specs.declared.row.RowKind.TheVariants.{Shared, Leaf, Bytes}
use Rattle.span_certificate.specs.Covers.{IsByte, compared, KindFits}
use Rattle.span_certificate.specs.PartLeads.{PartLeads}
use Rattle.span_descent.specs.Leads.{here}
use Rattle.span_certificate.specs.Longest.{AreMade, StayWithin}
use Rattle.command_parts.specs.Parts.{part_at, parts_cells}

-- a row of bytes at the beginning of a source is over it
over_source : (t : Table) (r m n : ℕ) (others : List Cell) → 1 ≤ n → All IsByte (take n (drop 0 (parts_cells t (Source r (suc m) ∷ []))) ++ others) → ⊥
over_source t r m n others some all =
    let places : List Cell = map (Place r) (range_with_len 0 (suc m)) in
    let cs = parts_cells t (Source r (suc m) ∷ []) in
    let long : 0 < length (take n (drop 0 cs) ++ others) =
    omega (arith, some, length-append (take n (drop 0 cs)) others, length-take n (drop 0 cs), length-drop 0 cs, length-append places [], length-map-range_with_len (Place r) 0 (suc m)) in
    let here : 0 < length (take n (drop 0 cs)) =
    omega (arith, some, length-take n (drop 0 cs), length-drop 0 cs, length-append places [], length-map-range_with_len (Place r) 0 (suc m)) in
    let first : get_or (take n (drop 0 cs) ++ others) 0 (Byte 0) ≡ Place r 0 =
    get_or_append_left (take n (drop 0 cs)) others (Byte 0) 0 here
    ∙ get_or-take n (drop 0 cs) 0 (Byte 0) some ∙ get_or-drop 0 cs 0 (Byte 0)
    ∙ get_or_append_left places [] (Byte 0) 0 (omega (arith, length-map-range_with_len (Place r) 0 (suc m)))
    ∙ get_or-map-range_with_len (Place r) 0 (suc m) 0 0 (Byte 0) (omega arith) (omega arith) in
    rw first at (All-get_or IsByte (take n (drop 0 cs) ++ others) 0 (Byte 0) long all)

pub one_source_row : (t : Table) (coded : ℕ → Coded) (r m : ℕ) (x : NodeId) (rows : List Row) → IsLeaf (view_at t x.0) → len_at t x.0 ≤ suc m → AreMade t coded (Source r (suc m) ∷ []) (Some x) rows → length rows ≤ 1
one_source_row t coded r m x [] leaf few made = omega arith
one_source_row t coded r m x (a ∷ []) leaf few made = omega arith
one_source_row t coded r m x (a ∷ b ∷ rows) leaf few made =
    let first = made.fit (λ s p. 0) 0 (omega arith) in
    let second = made.fit (λ s p. 0) 1 (omega arith) in
    let at : part_at (Source r (suc m) ∷ []) 0 ≡ Some (Source r (suc m), 0) = rw (lt-ltb 0 (suc m) (omega arith)) refl in
    let at_first = some_pair_parts (Source r (suc m)) first.part 0 first.off (sym at ∙ first.at_part) in
    let short : 0 + a.len < suc m = omega (arith, few, second.not_empty, second.inside_root, sum_by-cons (λ (r : Row). r.len) a []) in
    absurd (goes_on a.kind first.part first.off at_first.0 first.not_empty first.kind (made.no_source 0 (omega arith)) ((rw at at (made.longest 0 (omega arith))) short))
  where
    goes_on : (kind : RowKind) (part : Part) (off : ℕ) → Source r (suc m) ≡ part → 1 ≤ a.len → KindFits t coded (λ s p. 0) a.len part off (Some x) 0 kind
        → All IsByte (compared kind (take a.len (drop 0 (parts_cells t (Source r (suc m) ∷ [])))) (take a.len (drop 0 (rope_cells t (Some x)))))
        → ¬ StayWithin t (a.len + 1) (Source r (suc m)) 0 (Some x) 0 kind → ⊥
    goes_on (Shared k o) part off is some fits bytes longest = subst (λ (p : Part). PartLeads t a.len k.0 o p off) (sym is) fits.0
    goes_on Leaf part off is some fits bytes longest = longest (tt, (x.0, 0, (here refl refl, leaf)))
    goes_on Bytes part off is some fits bytes longest = over_source t r m a.len _ some bytes
