-- Whether rows that cover are as long as they can be.
use Rattle.std.proofs.Common.{subst, ◌≡◌, ◌↔◌, ℕ, inl, inr, ◌+◌, ◌<◌, ◌≤◌, List, Option, Some, None, refl, sym, ap, ◌∙◌, arith, IsTrue, zero-add}
use Rattle.std.specs.Prelude.{Bool, IsSome, length}
use Rattle.std.specs.Option.{is_some}
use Rattle.std.proofs.lemmas.Bool.{cases_lt}
use Rattle.function_leaf.specs.declared.coded.Coded.{Coded}
use Rattle.rope_node.specs.Denotes.{rope_len, IsRope}
use Rattle.command_parts.specs.declared.part.Part.{Part}
use Rattle.span_certificate.specs.declared.row.Row.{Row}
use Rattle.span_certificate.specs.Covers.{CoversAnyhow, place_of, row_at}
use Rattle.command_parts.specs.Parts.{part_len, part_at, AreParts}
use Rattle.command_parts.specs.Places.{held, len_here, IsAt}
use Rattle.span_certificate.proofs.Covering.{place_of_more}
use Rattle.command_parts.proofs.PartPlaces.{at_is_part, at_part, at_inside_parts}
use Rattle.rope_node.specs.declared.node.NodeId.{NodeId}
use Rattle.rope_node.specs.Table.{Table, view_at}
use Rattle.span_descent.specs.declared.descent.SpanPlace.{SpanPlace}
use Rattle.command_parts.specs.declared.part.Part.TheVariants.{Old}
use Rattle.span_descent.specs.Descents.{LeadsToSpan}
use Rattle.span_certificate.specs.PartLeads.{PartLeads, RopeLeads}
use Rattle.span_certificate.specs.Longest.{LieInLeaf, PartLiesInLeaf, RopeLiesInLeaf, StandsInBoth}

-- what a way down tells
pub lies_so : (t : Table) (n x p : ℕ) (found : Option SpanPlace) (answer : Bool) → ((s : SpanPlace) → (found ≡ Some s) ↔ LeadsToSpan t n x p s) → answer ≡ is_some found → IsTrue answer ↔ LieInLeaf t n x p
lies_so t n x p (Some s) answer leads is = (λ h. (s.leaf.0, s.start, ((leads s).0 refl).leads), λ lie. rw is refl)
lies_so t n x p None answer leads is = (
  λ h. absurd cc,
  λ lie. let s : SpanPlace = record { leaf = record { 0 = lie.0 }; start = lie.1; view = view_at t lie.0 } in let never : None ≡ Some s = (leads s).1 (record { leads = lie.2; view = refl }) in absurd cc,
)

-- of the root, as a part that is all of it
pub root_lies : (t : Table) (n : ℕ) (root : Option NodeId) (place m : ℕ) (answer : Bool) → IsTrue answer ↔ PartLiesInLeaf t n (Old root 0 m) place → IsTrue answer ↔ RopeLiesInLeaf t n root place
root_lies t n root place m answer lies = rw zero-add at lies

pub root_leads : (t : Table) (n k o : ℕ) (root : Option NodeId) (place m : ℕ) (answer : Bool) → IsTrue answer ↔ PartLeads t n k o (Old root 0 m) place → IsTrue answer ↔ RopeLeads t n k o root place
root_leads t n k o root place m answer leads = rw zero-add at leads

-- ---- row by row

-- what holds a place is what a row that fits there says
same_part : (here : Option Part) (off n : ℕ) (part : Part) (other : ℕ) → held here off ≡ Some (part, other) → other + n ≤ part_len part → off + n ≤ len_here here
same_part None off n part other is inside = absurd cc
same_part (Some p) off n part other is inside =
    let same : ◌≡◌ {A = Part × ℕ} (p, off) (part, other) = cc in
    omega (arith, inside, ap (λ (x : Part × ℕ). x.1) same, ap (λ (x : Part × ℕ). part_len x.0) same)

module _ (t : Table) (coded : ℕ → Coded) (parts : List Part) (root : Option NodeId) (rows : List Row) (covers : CoversAnyhow t coded parts root rows) where
  -- as far as a part goes the root does
  pub root_goes_on : (place off : ℕ) (here : Option Part) (rest : List Part) (part : Part) → IsAt parts place here off rest → here ≡ Some part → (n : ℕ) → off + n ≤ part_len part → place + n ≤ rope_len t root
  root_goes_on place off here rest part at is n inside =
      omega (arith, covers.whole_root, covers.whole_parts, at_inside_parts parts place here off n rest (rw is inside) at)

  pub row_inside : (j place off : ℕ) (here : Option Part) (rest : List Part) → j < length rows → place ≡ place_of rows j → IsAt parts place here off rest → (off + (row_at rows j).len ≤ len_here here) × (place + (row_at rows j).len ≤ rope_len t root)
  row_inside j place off here rest lt stands at =
      let fits = covers.fit j lt in
      let held_here : held here off ≡ Some (fits.part, fits.off) = sym (at_part parts place here off rest at) ∙ ap (part_at parts) stands ∙ fits.at_part in
      (same_part here off (row_at rows j).len fits.part fits.off held_here fits.inside_part, omega (arith, stands, fits.inside_root))

  pub stands_next : (j place : ℕ) (row : Row) → place ≡ place_of rows j → row ≡ row_at rows j → j < length rows → place + row.len ≡ place_of rows (j + 1)
  stands_next j place row stands is lt = rw (is, stands) (sym (place_of_more rows j lt))

  -- a row stands at a part
  pub row_there : (j place off : ℕ) (here : Option Part) (rest : List Part) → j < length rows → place ≡ place_of rows j → IsAt parts place here off rest → IsSome here
  row_there j place off here rest lt stands at =
      let fits = covers.fit j lt in
      let held_here : held here off ≡ Some (fits.part, fits.off) = sym (at_part parts place here off rest at) ∙ ap (part_at parts) stands ∙ fits.at_part in
      there here fits.part fits.off held_here
    where
      there : (here : Option Part) (part : Part) (other : ℕ) → held here off ≡ Some (part, other) → IsSome here
      there None part other is = absurd cc
      there (Some p) part other is = refl

  -- inside it and the root
  pub row_stands : AreParts t parts → IsRope t root → (j place off : ℕ) (part : Part) (rest : List Part) → j < length rows → place ≡ place_of rows j → IsAt parts place (Some part) off rest → StandsInBoth t part off root place (row_at rows j)
  row_stands are there j place off part rest lt stands at =
      let inside = row_inside j place off (Some part) rest lt stands at in
      record {
        is_part = (at_is_part t parts place part off rest are at).0;
        is_rope = there;
        some = (covers.fit j lt).not_empty;
        inside_part = inside.0;
        inside_root = inside.1;
        goes_on = λ n fits. root_goes_on place off (Some part) rest part at refl n fits;
      }

-- what holds of each row so far and of the next one
pub each_next : (P : ℕ → Type 0) (j : ℕ) → ((i : ℕ) → i < j → P i) → P j → (i : ℕ) → i < j + 1 → P i
each_next P j before here i below =
    elim (cases_lt i j) [
      | inl old ↦ before i old
      | inr new ↦ let same : j ≡ i = omega arith in subst P same here
    ]
