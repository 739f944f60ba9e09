-- What testing one row tells, what verifying keeps from row to row, and what its answers say.
use Rattle.std.proofs.Common.{◌≡◌, ℕ, ◌+◌, ◌<◌, ◌≤◌, List, ◌++◌, length, take, drop, Option, Some, None, Result, Ok, Err, refl, sym, ap, subst, ◌∙◌, arith, inl, inr, below_more, zero-add}
use Rattle.std.specs.Prelude.{◌↔◌, Bool, true, false, IsTrue, IfOk, IfErr, IsOk, slice_get}
use Rattle.std.proofs.lemmas.Bool.{cases_order}
use Rattle.std.proofs.lemmas.Option.{get_or_from_slice_get, some_pair_parts}
use Rattle.function_leaf.specs.declared.coded.Coded.{Coded}
use Rattle.rope_node.specs.declared.node.NodeId.{NodeId}
use Rattle.rope_node.specs.Table.{Table, IsSound, HasTrueRecords}
use Rattle.rope_node.specs.Denotes.{Cell, rope_cells, rope_len}
use Rattle.rope_node.proofs.Parts.{span_within}
use Rattle.lazy_file.proofs.LaterReads.{reads_then, reads_weaker}
use Rattle.lazy_file.specs.SourceTexts.{Stated}
use Rattle.lazy_file.specs.Readings.{fault_in, Reading, Reads}
use Rattle.cord_position.proofs.Spans.{span_read}
use Rattle.lazy_file.specs.declared.faults.SourceFault.{SourceFault}
use Rattle.cord_position.specs.Fetched.{IsReadable, IsStated}
use Rattle.span_certificate.specs.declared.cover.Verdict.{Verdict}
use Rattle.span_certificate.specs.declared.cover.Verdict.TheVariants.{Good, Bad}
use Rattle.command_parts.specs.declared.part.Part.{Part}
use Rattle.command_parts.specs.declared.part.Part.TheVariants.{Old}
use Rattle.span_certificate.specs.declared.row.Row.{Row}
use Rattle.span_certificate.specs.declared.row.RowKind.TheVariants.{Shared, Bytes}
use Rattle.command_parts.specs.Parts.{part_len, parts_len, part_cells, AreParts, part_at}
use Rattle.span_certificate.specs.PartLeads.{PartLeads, RopeLeads}
use Rattle.span_certificate.specs.Covers.{row_at, no_row, rows_len, place_of, ComparesOnly, compared, kind_compares, row_compares, KindFitsBy, FitsBy, CoversBy, IsFirstBadBy}
use Rattle.span_certificate.specs.declared.walk.TheConstants.{BYTES_LIMIT}
use Rattle.span_certificate.specs.Runs.{AmongCells, listed_cell, ReadsCells, TellsSame}
use Rattle.span_certificate.specs.Verdicts.{IsAskedFor, SameStated, CanBeSame, MayBeRead, TellsKind, TellsRow, TellsRows}
use Rattle.span_certificate.proofs.ComparedCells.{each_listed}
use Rattle.span_certificate.proofs.Covering.{holds_place, no_part, place_of_more, place_of_all}

-- each row of bytes is over cells that the sources state, or that no read of fails
abbrev pub AreStatedRows : Table → Stated → List Part → Option NodeId → List Row → Type 0
AreStatedRows t st parts root rows = ComparesOnly (IsStated st) t parts root rows

abbrev pub AreReadableRows : Table → Stated → List Part → Option NodeId → List Row → Type 0
AreReadableRows t st parts root rows = ComparesOnly (IsReadable st) t parts root rows

-- ---- one row

pub shared_fits : (t : Table) (coded : ℕ → Coded) (st : Stated) (part : Part) (off : ℕ) (root : Option NodeId) (place m : ℕ) (row : Row) (node : NodeId) (at : ℕ) (answer : Bool) → row.kind ≡ Shared node at
    → PartLeads t row.len node.0 at part off → IsTrue answer ↔ PartLeads t row.len node.0 at (Old root 0 m) place → TellsKind t coded st part off root place row answer
shared_fits t coded st part off root place m row node at answer is first second =
    let leads : IsTrue answer ↔ RopeLeads t row.len node.0 at root place = rw zero-add at second in
    record { fits = λ h. rw is (first, leads.0 h); may = λ h. let both : PartLeads t row.len node.0 at part off × RopeLeads t row.len node.0 at root place = rw is at h in leads.1 both.1 }

-- what is not fit by its kind whatever bytes are the same
pub kind_unfit : (t : Table) (coded : ℕ → Coded) (st : Stated) (part : Part) (off : ℕ) (root : Option NodeId) (place : ℕ) (row : Row) → ((Same : List Cell → List Cell → Type 0) → ¬ KindFitsBy t coded Same row.len part off root place row.kind)
    → TellsKind t coded st part off root place row false
kind_unfit t coded st part off root place row unfit = record { fits = λ never. absurd cc; may = λ h. absurd (unfit (CanBeSame st) h) }

root_cells : (t : Table) (root : Option NodeId) (place m n : ℕ) → place + n ≤ m → take n (drop place (part_cells t (Old root 0 m))) ≡ take n (drop place (rope_cells t root))
root_cells t root place m n fits = span_within n place m 0 (rope_cells t root) fits ∙ ap (λ (j : ℕ). take n (drop j (rope_cells t root))) (omega arith)

-- the cells that a row of bytes compares, and the same cells in the parts joined
pub bytes_compare : (t : Table) (part : Part) (off : ℕ) (root : Option NodeId) (place m : ℕ) (row : Row) → row.kind ≡ Bytes → place + row.len ≤ m
    → kind_compares t part off root place row ≡ take row.len (drop off (part_cells t part)) ++ take row.len (drop place (part_cells t (Old root 0 m)))
bytes_compare t part off root place m row is fits = rw (is, root_cells t root place m row.len fits) refl

pub joined_compare : (t : Table) → IsSound t → HasTrueRecords t → (parts : List Part) (root : Option NodeId) (place off : ℕ) (part : Part) (row : Row) → AreParts t parts → part_at parts place ≡ Some (part, off)
    → off + row.len ≤ part_len part → row_compares t parts root place row ≡ kind_compares t part off root place row
joined_compare t s h parts root place off part row are at in_part =
    let held = holds_place t s h parts place part off are at in
    ap (λ cs. compared row.kind cs (take row.len (drop place (rope_cells t root)))) (held.same row.len in_part)

pub bytes_fits : (t : Table) (coded : ℕ → Coded) (st : Stated) (part : Part) (off : ℕ) (root : Option NodeId) (place m : ℕ) (row : Row) (r : Result Bool SourceFault) → row.kind ≡ Bytes → row.len ≤ BYTES_LIMIT → place + row.len ≤ m
    → IfOk r (TellsSame st (take row.len (drop off (part_cells t part))) (take row.len (drop place (part_cells t (Old root 0 m)))))
    → IfOk r (TellsKind t coded st part off root place row)
bytes_fits t coded st part off root place m row (Err e) is short fits tells = tt
bytes_fits t coded st part off root place m row (Ok answer) is short fits tells =
    let cs = take row.len (drop off (part_cells t part)) in
    let here : TellsSame st cs (take row.len (drop place (rope_cells t root))) answer = rw (root_cells t root place m row.len fits) at tells in
    record {
      fits = λ h. rw is (short, λ source agrees stated. (here source agrees stated).0 h);
      may = λ h.
          let bytes : KindFitsBy t coded (CanBeSame st) row.len part off root place Bytes = rw is at h in
          let (source, agrees, same) = bytes.1.1 in
          (here source agrees bytes.1.0).1 same;
    }

-- the part that holds a place is the row's
pub kind_of_fits : (t : Table) (coded : ℕ → Coded) (Same : List Cell → List Cell → Type 0) (parts : List Part) (root : Option NodeId) (place off : ℕ) (part : Part) (row : Row) → part_at parts place ≡ Some (part, off)
    → FitsBy t coded Same parts root place row → KindFitsBy t coded Same row.len part off root place row.kind
kind_of_fits t coded Same parts root place off part row at fits =
    let found : ◌≡◌ {A = Option (Part × ℕ)} (Some (fits.part, fits.off)) (Some (part, off)) = sym fits.at_part ∙ at in
    let one = some_pair_parts fits.part part fits.off off found in
    subst (λ (o : ℕ). KindFitsBy t coded Same row.len part o root place row.kind) one.1 (subst (λ (q : Part). KindFitsBy t coded Same row.len q fits.off root place row.kind) one.0 fits.kind)

pub row_tells : (t : Table) (coded : ℕ → Coded) (st : Stated) (parts : List Part) (root : Option NodeId) (place off : ℕ) (part : Part) (row : Row) (r : Result Bool SourceFault)
    → part_at parts place ≡ Some (part, off) → 1 ≤ row.len → off + row.len ≤ part_len part → place + row.len ≤ rope_len t root
    → IfOk r (TellsKind t coded st part off root place row) → IfOk r (TellsRow t coded st parts root place row)
row_tells t coded st parts root place off part row (Err e) at some in_part in_root tells = tt
row_tells t coded st parts root place off part row (Ok answer) at some in_part in_root tells = record {
  fits = λ h. record { part = part; off = off; at_part = at; not_empty = some; inside_part = in_part; inside_root = in_root; kind = tells.fits h };
  may = λ fits. tells.may (kind_of_fits t coded (CanBeSame st) parts root place off part row at fits);
}

-- a row that stands behind the parts, is empty, or passes an end
pub row_unfit : (t : Table) (coded : ℕ → Coded) (st : Stated) (parts : List Part) (root : Option NodeId) (place : ℕ) (row : Row) → ((Same : List Cell → List Cell → Type 0) → ¬ FitsBy t coded Same parts root place row) → TellsRow t coded st parts root place row false
row_unfit t coded st parts root place row unfit = record { fits = λ never. absurd cc; may = λ fits. absurd (unfit (CanBeSame st) fits) }

pub behind_parts : (t : Table) (coded : ℕ → Coded) (Same : List Cell → List Cell → Type 0) (parts : List Part) (root : Option NodeId) (place : ℕ) (row : Row) → part_at parts place ≡ None → ¬ FitsBy t coded Same parts root place row
behind_parts t coded Same parts root place row none fits =
    let bad : ◌≡◌ {A = Option (Part × ℕ)} None (Some (fits.part, fits.off)) = sym none ∙ fits.at_part in absurd cc

pub passes_part : (t : Table) (coded : ℕ → Coded) (Same : List Cell → List Cell → Type 0) (parts : List Part) (root : Option NodeId) (place off : ℕ) (part : Part) (row : Row) → part_at parts place ≡ Some (part, off) → part_len part < off + row.len → ¬ FitsBy t coded Same parts root place row
passes_part t coded Same parts root place off part row at past fits =
    let found : ◌≡◌ {A = Option (Part × ℕ)} (Some (fits.part, fits.off)) (Some (part, off)) = sym fits.at_part ∙ at in
    let one = some_pair_parts fits.part part fits.off off found in
    let len : part_len fits.part ≡ part_len part = ap part_len one.0 in
    omega (arith, fits.inside_part, one.1, len, past)

-- a row whose test of its kind failed may be read
pub row_read : (t : Table) (parts : List Part) (root : Option NodeId) (place off : ℕ) (part : Part) (row : Row) (r : Result Bool SourceFault) → part_at parts place ≡ Some (part, off) → 1 ≤ row.len → off + row.len ≤ part_len part → place + row.len ≤ rope_len t root
    → IfErr r (λ _. (row.kind ≡ Bytes) × (row.len ≤ BYTES_LIMIT)) → IfErr r (λ _. MayBeRead t parts root place row)
row_read t parts root place off part row (Ok answer) at some in_part in_root few = tt
row_read t parts root place off part row (Err e) at some in_part in_root few = record { part = part; off = off; at_part = at; not_empty = some; inside_part = in_part; inside_root = in_root; kind = few.0; few = few.1 }

-- what a row that fits leaves inside
pub row_inside : (t : Table) → IsSound t → HasTrueRecords t → (parts : List Part) (place off : ℕ) (part : Part) (n : ℕ) → AreParts t parts → part_at parts place ≡ Some (part, off) → off + n ≤ part_len part → place + n ≤ parts_len parts
row_inside t s h parts place off part n are at in_part = let held = holds_place t s h parts place part off are at in omega (arith, held.inside, in_part)

-- ---- all rows

-- the rows before j end at place, and fit over what the sources state
pub record IsVerifying (t : Table) (coded : ℕ → Coded) (st : Stated) (parts : List Part) (root : Option NodeId) (rows : List Row) (j place : ℕ) : Type 0 where
  pub stands : place ≡ place_of rows j
  pub in_root : place ≤ rope_len t root
  pub in_parts : place ≤ parts_len parts
  pub fit : (i : ℕ) → i < j → FitsBy t coded (SameStated st) parts root (place_of rows i) (row_at rows i)

pub verifying_none : (t : Table) (coded : ℕ → Coded) (st : Stated) (parts : List Part) (root : Option NodeId) (rows : List Row) → IsVerifying t coded st parts root rows 0 0
verifying_none t coded st parts root rows = record { stands = refl; in_root = omega arith; in_parts = omega arith; fit = λ i lt. absurd (omega arith) }

-- what the test of the row at place tells of row j
tells_at : (t : Table) (coded : ℕ → Coded) (st : Stated) (parts : List Part) (root : Option NodeId) (rows : List Row) (j place : ℕ) (row : Row) (answer : Bool) → place ≡ place_of rows j → slice_get rows j ≡ Some row
    → TellsRow t coded st parts root place row answer → TellsRow t coded st parts root (place_of rows j) (row_at rows j) answer
tells_at t coded st parts root rows j place row answer stands is tells = rw (get_or_from_slice_get rows j row no_row is, ← stands) tells

pub verifying_more : (t : Table) (coded : ℕ → Coded) (st : Stated) (parts : List Part) (root : Option NodeId) (rows : List Row) (j place : ℕ) (row : Row) → j < length rows → slice_get rows j ≡ Some row
    → IsVerifying t coded st parts root rows j place → TellsRow t coded st parts root place row true → (place + row.len ≤ rope_len t root) × (place + row.len ≤ parts_len parts) → IsVerifying t coded st parts root rows (j + 1) (place + row.len)
verifying_more t coded st parts root rows j place row lt is so_far tells inside =
    let row-is = get_or_from_slice_get rows j row no_row is in
    let here = tells_at t coded st parts root rows j place row true so_far.stands is tells in
    record {
      stands = sym (place_of_more rows j lt ∙ rw (row-is, ← so_far.stands) refl);
      in_root = inside.0;
      in_parts = inside.1;
      fit = below_more (λ i. FitsBy t coded (SameStated st) parts root (place_of rows i) (row_at rows i)) j so_far.fit (here.fits refl);
    }

-- rows that cover have no bad one; there is at most one first bad row, if what is the same as Same says can be the same
module _ (t : Table) (coded : ℕ → Coded) (Same CanBe : List Cell → List Cell → Type 0) (parts : List Part) (root : Option NodeId) (rows : List Row) where
  -- what fits as Same says may fit as CanBe says, in each of the first n rows
  abbrev pub MayFit : ℕ → Type 0
  MayFit n = (i : ℕ) → i < n → i < length rows → FitsBy t coded Same parts root (place_of rows i) (row_at rows i) → FitsBy t coded CanBe parts root (place_of rows i) (row_at rows i)

  pub not_both : (j : ℕ) → MayFit (j + 1) → CoversBy t coded Same parts root rows → IsFirstBadBy t coded Same CanBe parts root rows j → ⊥
  not_both j may c bad =
      elim (cases_order j (length rows)) [
        | inl e ↦ bad.uncovered e (c.whole_root, c.whole_parts)
        | inr (inl lt) ↦ bad.unfit lt (may j (omega arith) lt (c.fit j lt))
        | inr (inr gt) ↦ absurd (omega (arith, bad.at_most))
      ]

  pub one_first : (i j : ℕ) → MayFit (i + 1) → MayFit (j + 1) → IsFirstBadBy t coded Same CanBe parts root rows i → IsFirstBadBy t coded Same CanBe parts root rows j → i ≡ j
  one_first i j may_i may_j a b =
      elim (cases_order i j) [
        | inl e ↦ e
        | inr (inl lt) ↦ let inside : i < length rows = omega (arith, b.at_most) in absurd (a.unfit inside (may_i i (omega arith) inside (b.before i lt)))
        | inr (inr gt) ↦ let inside : j < length rows = omega (arith, a.at_most) in absurd (b.unfit inside (may_j j (omega arith) inside (a.before j gt)))
      ]

pub answers_unfit : (t : Table) (coded : ℕ → Coded) (st : Stated) (parts : List Part) (root : Option NodeId) (rows : List Row) (j place : ℕ) (row : Row) → j < length rows → slice_get rows j ≡ Some row
    → IsVerifying t coded st parts root rows j place → TellsRow t coded st parts root place row false → TellsRows t coded st parts root rows (Bad j)
answers_unfit t coded st parts root rows j place row lt is so_far tells =
    let here = tells_at t coded st parts root rows j place row false so_far.stands is tells in
    record {
      before = so_far.fit;
      at_most = omega arith;
      unfit = λ _ fits. let never : false ≡ true = here.may fits in absurd cc;
      uncovered = λ e. absurd (omega arith);
    }

pub answers_whole : (t : Table) (coded : ℕ → Coded) (st : Stated) (parts : List Part) (root : Option NodeId) (rows : List Row) (j place : ℕ) → j ≡ length rows → IsVerifying t coded st parts root rows j place
    → (place ≡ rope_len t root) × (place ≡ parts_len parts) → TellsRows t coded st parts root rows Good
answers_whole t coded st parts root rows j place e so_far ends =
    let whole : place ≡ rows_len rows = so_far.stands ∙ ap (place_of rows) e ∙ place_of_all rows in
    record { fit = λ i lt. so_far.fit i (omega arith); whole_root = sym whole ∙ ends.0; whole_parts = sym whole ∙ ends.1 }

pub answers_left : (t : Table) (coded : ℕ → Coded) (st : Stated) (parts : List Part) (root : Option NodeId) (rows : List Row) (j place : ℕ) → j ≡ length rows → IsVerifying t coded st parts root rows j place
    → ¬ ((place ≡ rope_len t root) × (place ≡ parts_len parts)) → TellsRows t coded st parts root rows (Bad j)
answers_left t coded st parts root rows j place e so_far missed =
    let whole : place ≡ rows_len rows = so_far.stands ∙ ap (place_of rows) e ∙ place_of_all rows in
    record {
      before = so_far.fit;
      at_most = omega arith;
      unfit = λ lt. absurd (omega arith);
      uncovered = λ _ both. missed (whole ∙ both.0, whole ∙ both.1);
    }

-- what the test of row j asks for
pub row_asks : (old mid new : Reading) (t : Table) (coded : ℕ → Coded) (parts : List Part) (root : Option NodeId) (rows : List Row) (j place : ℕ) (row : Row) (e : SourceFault)
    → j < length rows → slice_get rows j ≡ Some row → IsVerifying t coded old.stated parts root rows j place → mid ≡ old
    → ReadsCells {X = Bool} mid new (row_compares t parts root place row) (Err e) → MayBeRead t parts root place row → Reads old new (IsAskedFor t coded old.stated parts root rows) (Some e)
row_asks old mid new t coded parts root rows j place row e lt is so_far before h may =
    let cs = row_compares t parts root (place_of rows j) (row_at rows j) in
    let here : ReadsCells {X = Bool} mid new cs (Err e) = rw (get_or_from_slice_get rows j row no_row is, ← so_far.stands) h in
    let may_here : MayBeRead t parts root (place_of rows j) (row_at rows j) = rw (get_or_from_slice_get rows j row no_row is, ← so_far.stands) may in
    reads_then old mid new (IsAskedFor t coded old.stated parts root rows) (Some e) before
    (reads_weaker mid new (AmongCells cs) (IsAskedFor t coded old.stated parts root rows) (Some e)
    (λ s p asked. record { j = j; inside = lt; may_be_read = may_here; compared = asked; fit = so_far.fit }) here)

-- where each row of bytes can be read, verifying answers no fault
pub rows_read : (old new : Reading) (t : Table) (coded : ℕ → Coded) (parts : List Part) (root : Option NodeId) (rows : List Row) (r : Result Verdict SourceFault)
    → Reads old new (IsAskedFor t coded old.stated parts root rows) (fault_in r) → AreReadableRows t old.stated parts root rows → IsOk r
rows_read old new t coded parts root rows (Ok v) h readable = refl
rows_read old new t coded parts root rows (Err e) h readable =
    let a = h.asked in
    let cs = row_compares t parts root (place_of rows a.j) (row_at rows a.j) in
    let only : ReadsCells {X = Verdict} old new cs (Err e) = record { s = h.s; p = h.p; asked = a.compared; at = h.at } in
    span_read {X = Verdict} old new (listed_cell cs) 0 (length cs) (Err e) only (each_listed (IsReadable old.stated) cs (readable a.j a.inside))

-- a place inside the parts that no part holds is their end
pub at_parts_end : (parts : List Part) (place : ℕ) → place ≤ parts_len parts → part_at parts place ≡ None → place ≡ parts_len parts
at_parts_end parts place le none = let past = no_part parts place none in omega arith

pub held_before_end : (t : Table) → IsSound t → HasTrueRecords t → (parts : List Part) (place off : ℕ) (part : Part) → AreParts t parts → part_at parts place ≡ Some (part, off) → place < parts_len parts
held_before_end t s h parts place off part are e =
    let held = holds_place t s h parts place part off are e in
    omega (arith, held.before_end, held.inside)

pub inside_both : (r : Result Bool SourceFault) (a b c : ℕ) → a ≤ b → a ≤ c → IfOk r (λ answer. IsTrue answer → (a ≤ b) × (a ≤ c))
inside_both (Ok answer) a b c le also = λ h. (le, also)
inside_both (Err e) a b c le also = tt
