-- Rows for the first bytes of a part and of the root.
use Rattle.std.proofs.Common.{◌≡◌, ℕ, ◌+◌, ◌<◌, ◌≤◌, List, length, take, drop, Some, sym, ap, ◌∙◌, arith}
use Rattle.std.proofs.lemmas.List.{take-take}
use Rattle.function_leaf.specs.declared.coded.Coded.{Coded}
use Rattle.rope_node.specs.declared.node.NodeId.{NodeId}
use Rattle.rope_node.specs.Table.{Table, len_at, IsSound, HasTrueRecords}
use Rattle.rope_node.specs.Denotes.{Cell, cells, text}
use Rattle.span_certificate.specs.declared.content.Content.TheVariants.{Within}
use Rattle.span_descent.specs.declared.description.Description.{Description}
use Rattle.command_parts.specs.declared.part.Part.{Part}
use Rattle.command_parts.specs.declared.part.Part.TheVariants.{Old}
use Rattle.span_certificate.specs.declared.row.Row.{Row}
use Rattle.span_certificate.specs.declared.row.RowKind.{RowKind}
use Rattle.span_certificate.specs.declared.row.RowKind.TheVariants.{Shared, Leaf, Bytes}
use Rattle.command_parts.specs.Parts.{part_cells}
use Rattle.span_certificate.specs.PartLeads.{content_from, PartHasDescription}
use Rattle.span_certificate.specs.Covers.{KindFits}
use Rattle.rope_node.specs.Steps.{first_of}
use Rattle.span_certificate.specs.Longest.{GoesToLeafEnd, SpansStayWithin, StayWithin}
use Rattle.span_certificate.specs.SpanRows.{SpansFit, IsRowOf, DescribedFits, IsDescribedRow, IsNext, AreBytes}
use Rattle.span_certificate.proofs.RowEnds.{beside_end}
use Rattle.span_certificate.proofs.Contents.{of_node}

-- fewer of the same cells
pub fewer_same : (n left off place : ℕ) (xs ys : List Cell) → n ≤ left → take left (drop off xs) ≡ take left (drop place ys) → take n (drop off xs) ≡ take n (drop place ys)
fewer_same n left off place xs ys few same = sym (take-take n left (drop off xs) few) ∙ ap (take n) same ∙ take-take n left (drop place ys) few

old_fits : (t : Table) (coded : ℕ → Coded) (node root : NodeId) (i m off place left n : ℕ) (kind : RowKind) → n ≤ left
    → take left (drop off (part_cells t (Old (Some node) i m))) ≡ take left (drop place (cells t root.0))
    → SpansFit t coded (record { node = node; start = i + off; len = left }) (record { node = root; start = place; len = left }) n kind
    → ((source : ℕ → ℕ → ℕ) → KindFits t coded source n (Old (Some node) i m) off (Some root) place kind) × (kind ≡ Bytes → AreBytes (take n (drop place (cells t root.0))))
old_fits t coded node root i m off place left n (Shared k o) few same fits = (λ source. fits, λ e. absurd cc)
old_fits t coded node root i m off place left n Leaf few same fits = (λ source. fits, λ e. absurd cc)
old_fits t coded node root i m off place left n Bytes few same fits = (
  λ source. (fits.0, ap (text source) (fewer_same n left off place (part_cells t (Old (Some node) i m)) (cells t root.0) few same)),
  λ e. fits.1,
)

pub old_next : (t : Table) (coded : ℕ → Coded) (part : Part) (node root : NodeId) (start off place left : ℕ) (row : Row) → content_from part off ≡ Some (Within node start)
    → take left (drop off (part_cells t part)) ≡ take left (drop place (cells t root.0))
    → IsRowOf t coded (record { node = node; start = start; len = left }) (record { node = root; start = place; len = left }) row
    → IsNext t coded part off root place left row
old_next t coded part node root start off place left row is same r =
    let of = of_node part off node start is in
    let fit = old_fits t coded node root of.i of.m off place left row.len row.kind r.few (rw of.is at same) (rw of.at at r.fits) in
    rw of.is (record { some = r.some; few = r.few; fits = fit.0; bytes = fit.1 })

described_fits : (t : Table) (coded : ℕ → Coded) (part : Part) (d : Description) (root : NodeId) (off place left n : ℕ) (kind : RowKind) → n ≤ left
    → take left (drop off (part_cells t part)) ≡ take left (drop place (cells t root.0))
    → PartHasDescription t coded n part off d
    → DescribedFits t coded d (record { node = root; start = place; len = left }) n kind
    → ((source : ℕ → ℕ → ℕ) → KindFits t coded source n part off (Some root) place kind) × (kind ≡ Bytes → AreBytes (take n (drop place (cells t root.0))))
described_fits t coded part d root off place left n (Shared k o) few same own fits = absurd fits
described_fits t coded part d root off place left n Leaf few same own fits = (λ source. (d, own, fits), λ e. absurd cc)
described_fits t coded part d root off place left n Bytes few same own fits = (
  λ source. (fits.0, ap (text source) (fewer_same n left off place (part_cells t part) (cells t root.0) few same)),
  λ e. fits.1,
)

pub described_next : (t : Table) (coded : ℕ → Coded) (part : Part) (d : Description) (root : NodeId) (off place left : ℕ) (row : Row)
    → take left (drop off (part_cells t part)) ≡ take left (drop place (cells t root.0))
    → PartHasDescription t coded row.len part off d
    → IsDescribedRow t coded d (record { node = root; start = place; len = left }) row
    → IsNext t coded part off root place left row
described_next t coded part d root off place left row same own r =
    let fit = described_fits t coded part d root off place left row.len row.kind r.few same own r.fits in
    record { some = r.some; few = r.few; fits = fit.0; bytes = fit.1 }

-- ---- the longest

stay_in_old : (t : Table) (node root : NodeId) (i m off place left n : ℕ) (kind : RowKind) → StayWithin t n (Old (Some node) i m) off (Some root) place kind
    → SpansStayWithin t n (record { node = node; start = i + off; len = left }) (record { node = root; start = place; len = left }) kind
stay_in_old t node root i m off place left n (Shared k o) stay = stay
stay_in_old t node root i m off place left n Leaf stay = stay
stay_in_old t node root i m off place left n Bytes stay = stay

-- a row that is the longest over the span of an earlier text is over its part
pub old_longest : (t : Table) (part : Part) (node root : NodeId) (start off place left n : ℕ) (kind : RowKind) → content_from part off ≡ Some (Within node start)
    → (n < left → ¬ SpansStayWithin t (n + 1) (record { node = node; start = start; len = left }) (record { node = root; start = place; len = left }) kind)
    → n < left → ¬ StayWithin t (n + 1) part off (Some root) place kind
old_longest t part node root start off place left n kind is longest short stay =
    let of = of_node part off node start is in
    longest short (rw of.at (stay_in_old t node root of.i of.m off place left (n + 1) kind (rw of.is at stay)))

-- beside a part that is itself a leaf span the root's leaf span is the longest
pub beside_longest : (t : Table) → IsSound t → HasTrueRecords t → (part : Part) (root : NodeId) (off place left n : ℕ) (kind : RowKind) → root.0 < length t.nodes → place + left ≤ len_at t root.0
    → GoesToLeafEnd (first_of t (record { node = root; start = place; len = left })).len n kind → n < left → ¬ StayWithin t (n + 1) part off (Some root) place kind
beside_longest t s h part root off place left n (Shared k o) there inside ends short stay = ends
beside_longest t s h part root off place left n Leaf there inside ends short stay = beside_end t s h root.0 place left n there inside ends short stay.1
beside_longest t s h part root off place left n Bytes there inside ends short stay = beside_end t s h root.0 place left n there inside (omega (arith, ends, stay.0)) short stay.2
