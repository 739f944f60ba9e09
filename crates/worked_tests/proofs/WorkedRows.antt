-- Rows of the worked examples: those that cover, and those that do not fit.
use Rattle.std.proofs.Common.{◌≡◌, ℕ, zero, suc, ◌+◌, ◌<◌, ◌≤◌, List, [], ◌∷◌, Option, Some, None, refl, sym, ap, subst, ◌∙◌, arith, lit≤}
use Rattle.function_leaf.specs.declared.coded.Coded.{Coded}
use Rattle.rope_node.specs.Table.{Table, view_at}
use Rattle.worked_tests.specs.Tables.{number, part_of_a_part, abc_literal}
use Rattle.span_descent.specs.declared.description.Description.{Description}
use Rattle.span_descent.specs.declared.description.Description.TheVariants.{Pooled}
use Rattle.span_certificate.specs.declared.row.Row.{Row}
use Rattle.command_parts.specs.declared.part.Part.{Part}
use Rattle.command_parts.specs.declared.part.Part.TheVariants.{Pool}
use Rattle.span_certificate.specs.PartLeads.{PartHasDescription}
use Rattle.span_descent.specs.Leads.{Leads, here, in_left, in_right, in_base, leaf_description}
use Rattle.rope_node.specs.Denotes.{Cell}
use Rattle.span_certificate.specs.Covers.{place_of, row_at, Fits, FitsBy, Covers, IsFirstBad, IsFirstBadBy, SameOver}
use Rattle.worked_tests.specs.Commands.{leaf_row}

-- two parts down, and into the right child
lead : Leads part_of_a_part 2 1 0 4 0
lead = in_base (number 3) 1 refl (in_base (number 2) 1 refl (in_right (number 0) (number 1) refl (lit≤ tt) (here refl refl)))

part_row : (coded : ℕ → Coded) (source : ℕ → ℕ → ℕ) → Fits part_of_a_part coded source (Pool 2 2 ∷ []) (Some (number 4)) 0 (leaf_row 2)
part_row coded source = record {
  part = Pool 2 2;
  off = 0;
  at_part = refl;
  not_empty = lit≤ tt;
  inside_part = lit≤ tt;
  inside_root = lit≤ tt;
  kind = (Pooled 2, refl, (1, 0, (lead, tt), refl));
}

pub part_of_a_part_covered : (coded : ℕ → Coded) (source : ℕ → ℕ → ℕ) → Covers part_of_a_part coded source (Pool 2 2 ∷ []) (Some (number 4)) (leaf_row 2 ∷ [])
part_of_a_part_covered coded source = record { fit = fit; whole_root = refl; whole_parts = refl }
  where
    fit : (j : ℕ) → j < 1 → Fits part_of_a_part coded source (Pool 2 2 ∷ []) (Some (number 4)) (place_of (leaf_row 2 ∷ []) j) (row_at (leaf_row 2 ∷ []) j)
    fit zero lt = part_row coded source
    fit (suc j) lt = absurd (omega (arith, lt))

-- the literal in a table whose functions answer so
abbrev pub literal_beside : (ℕ → ℕ → ℕ) → Table
literal_beside answer = record abc_literal { answer = answer }

-- a row from the first byte of the literal on, whatever is said of rows of bytes
pub first_row : (answer : ℕ → ℕ → ℕ) (coded : ℕ → Coded) (Same : List Cell → List Cell → Type 0) (len : ℕ) → 1 ≤ len → len ≤ 3
    → FitsBy (literal_beside answer) coded Same (Pool 0 3 ∷ []) (Some (number 0)) 0 (leaf_row len)
first_row answer coded Same len some short = record {
  part = Pool 0 3;
  off = 0;
  at_part = refl;
  not_empty = some;
  inside_part = omega (arith, short);
  inside_root = omega (arith, short);
  kind = (Pooled 0, refl, (0, 0, (here refl refl, tt), refl));
}

-- the rows in front of the second
before_second : (answer : ℕ → ℕ → ℕ) (coded : ℕ → Coded) (Same : List Cell → List Cell → Type 0) (len : ℕ) (rows : List Row) → 1 ≤ len → len ≤ 3
    → (i : ℕ) → i < 1 → FitsBy (literal_beside answer) coded Same (Pool 0 3 ∷ []) (Some (number 0)) (place_of (leaf_row len ∷ rows) i) (row_at (leaf_row len ∷ rows) i)
before_second answer coded Same len rows some short zero lt = first_row answer coded Same len some short
before_second answer coded Same len rows some short (suc i) lt = absurd (omega (arith, lt))

pub third_byte_uncovered_beside : (answer : ℕ → ℕ → ℕ) (coded : ℕ → Coded) (Same CanBeSame : List Cell → List Cell → Type 0)
    → IsFirstBadBy (literal_beside answer) coded Same CanBeSame (Pool 0 3 ∷ []) (Some (number 0)) (leaf_row 2 ∷ []) 1
third_byte_uncovered_beside answer coded Same CanBeSame = record {
  before = before_second answer coded Same 2 [] (lit≤ tt) (lit≤ tt);
  at_most = lit≤ tt;
  unfit = λ lt. absurd (omega (arith, lt));
  uncovered = λ e (root, parts). omega (arith, root);
}

pub row_past_the_end_beside : (answer : ℕ → ℕ → ℕ) (coded : ℕ → Coded) (Same CanBeSame : List Cell → List Cell → Type 0)
    → IsFirstBadBy (literal_beside answer) coded Same CanBeSame (Pool 0 3 ∷ []) (Some (number 0)) (leaf_row 3 ∷ leaf_row 1 ∷ []) 1
row_past_the_end_beside answer coded Same CanBeSame = record {
  before = before_second answer coded Same 3 (leaf_row 1 ∷ []) (lit≤ tt) (lit≤ tt);
  at_most = lit≤ tt;
  unfit = λ lt fits. let inside = fits.inside_root in omega (arith, inside);
  uncovered = λ e. absurd (omega (arith, e));
}

pub third_byte_uncovered : (coded : ℕ → Coded) (source : ℕ → ℕ → ℕ) → IsFirstBad abc_literal coded source (Pool 0 3 ∷ []) (Some (number 0)) (leaf_row 2 ∷ []) 1
third_byte_uncovered coded source = third_byte_uncovered_beside abc_literal.answer coded (SameOver source) (SameOver source)

pub row_past_the_end : (coded : ℕ → Coded) (source : ℕ → ℕ → ℕ) → IsFirstBad abc_literal coded source (Pool 0 3 ∷ []) (Some (number 0)) (leaf_row 3 ∷ leaf_row 1 ∷ []) 1
row_past_the_end coded source = row_past_the_end_beside abc_literal.answer coded (SameOver source) (SameOver source)

-- the literal's bytes lead to the literal alone
literal_alone : (n k o : ℕ) → Leads abc_literal n k o 0 0 → (k ≡ 0) × (o ≡ 0)
literal_alone n k o (here at place) = (sym at, sym place)
literal_alone n k o (in_left l r is inside lead) = absurd cc
literal_alone n k o (in_right l r is inside lead) = absurd cc
literal_alone n k o (in_base b i is lead) = absurd cc

abbrev part_in : Option (Part × ℕ) → Part
part_in (Some p) = p.0
part_in None = Pool 0 0

abbrev off_in : Option (Part × ℕ) → ℕ
off_in (Some p) = p.1
off_in None = 0

abbrev place_in : Option Description → ℕ
place_in (Some (Pooled a)) = a
place_in other = 0

-- a span of the literal from its first byte on is described by no other place
pub row_of_another_place : (coded : ℕ → Coded) (source : ℕ → ℕ → ℕ) → ¬ Fits abc_literal coded source (Pool 1 2 ∷ []) (Some (number 0)) 0 (leaf_row 2)
row_of_another_place coded source fits =
    let d = fits.kind.0 in
    let root = fits.kind.2 in
    let alone = literal_alone 2 root.0 root.1 root.2.0 in
    let part : Pool 1 2 ≡ fits.part = ap part_in fits.at_part in
    let off : 0 ≡ fits.off = ap off_in fits.at_part in
    let of_part : PartHasDescription abc_literal coded 2 (Pool 1 2) fits.off d = subst (λ (p : Part). PartHasDescription abc_literal coded 2 p fits.off d) (sym part) fits.kind.1 in
    let described : Pooled (1 + 0) ≡ d = subst (λ (o : ℕ). Pooled (1 + o) ≡ d) (sym off) of_part in
    let of_leaf = subst (λ (k : ℕ). leaf_description (coded k) root.1 (view_at abc_literal k) ≡ Some d) alone.0 root.3 in
    let found : leaf_description (coded 0) 0 (view_at abc_literal 0) ≡ Some d = subst (λ (o : ℕ). leaf_description (coded 0) o (view_at abc_literal 0) ≡ Some d) alone.1 of_leaf in
    let places = ap place_in (found ∙ ap (λ (e : Description). Some e) (sym described)) in
    omega (arith, places)
