-- Rows made one behind the other.
use Rattle.std.proofs.Common.{All, Err, Ok, ◌≡◌, ℕ, ◌+◌, ◌-◌, ◌<◌, ◌≤◌, List, [], ◌∷◌, ◌++◌, length, take, drop, Option, Some, refl, sym, ap, subst, ◌∙◌, arith, inl, inr}
use Rattle.std.proofs.lemmas.Bool.{cases_lt}
use Rattle.std.specs.Global.{Vec}
use Rattle.std.proofs.lemmas.List.{take-append-le, get_or_append_left, length-append}
use Rattle.std.proofs.lemmas.List.Sums.{sum_by-append}
use Rattle.std.proofs.Math.Seq.{get_or-append_seam}
use Rattle.function_leaf.specs.declared.coded.Coded.{Coded}
use Rattle.rope_node.specs.declared.node.NodeId.{NodeId}
use Rattle.rope_node.specs.Table.{Table, len_at, IsSound, HasTrueRecords}
use Rattle.rope_node.specs.Denotes.{cells, rope_cells, rope_len, IsRope}
use Rattle.command_parts.specs.declared.part.Part.{Part}
use Rattle.span_certificate.specs.declared.row.Row.{Row}
use Rattle.command_parts.specs.Parts.{part_len, parts_len, part_cells, parts_cells, IsPart, AreParts, part_at}
use Rattle.span_certificate.specs.Covers.{row_at, no_row, rows_len, place_of, row_compares, IsByte, Fits, CoversAlways}
use Rattle.span_certificate.specs.Longest.{AreMade, IsCutShort, IsLongest, MakesRows}
use Rattle.span_certificate.specs.declared.making.MakeFault.{MakeFault}
use Rattle.span_certificate.specs.declared.making.MakeFault.TheVariants.{TooManyRows}
use Rattle.span_certificate.specs.declared.making.TheConstants.{ROWS_LIMIT}
use Rattle.span_certificate.specs.SpanRows.{IsNext}
use Rattle.span_certificate.proofs.ComparedCells.{all_compared, each_byte}
use Rattle.span_certificate.proofs.Covering.{length-parts_cells, holds_place, place_of_all}
use Rattle.rope_node.proofs.Ropes.{rope_length}

row_before : (rows : List Row) (row : Row) (j : ℕ) → j < length rows → row_at (rows ++ row ∷ []) j ≡ row_at rows j
row_before rows row j lt = get_or_append_left rows (row ∷ []) no_row j lt

place_before : (rows : List Row) (row : Row) (j : ℕ) → j ≤ length rows → place_of (rows ++ row ∷ []) j ≡ place_of rows j
place_before rows row j le = ap rows_len (take-append-le j rows (row ∷ []) le)

row_last : (rows : List Row) (row : Row) → row_at (rows ++ row ∷ []) (length rows) ≡ row
row_last rows row = get_or-append_seam rows row [] no_row

place_last : (rows : List Row) (row : Row) → place_of (rows ++ row ∷ []) (length rows) ≡ rows_len rows
place_last rows row = place_before rows row (length rows) (omega arith) ∙ place_of_all rows

rows_len_more : (rows : List Row) (row : Row) → rows_len (rows ++ row ∷ []) ≡ rows_len rows + row.len
rows_len_more rows row = sum_by-append (λ (r : Row). r.len) rows (row ∷ []) ∙ omega arith

-- what holds of each row and of one behind them holds of each of them together
each_more : (P : ℕ → Row → Type 0) (rows : List Row) (row : Row) → ((j : ℕ) → j < length rows → P (place_of rows j) (row_at rows j)) → P (rows_len rows) row
    → (j : ℕ) → j < length (rows ++ row ∷ []) → P (place_of (rows ++ row ∷ []) j) (row_at (rows ++ row ∷ []) j)
each_more P rows row each last j lt =
    elim (cases_lt j (length rows)) [
      | inl before ↦ rw (place_before rows row j (omega arith), row_before rows row j before) (each j before)
      | inr past ↦
          let at : length rows ≡ j = omega (arith, length-append rows (row ∷ []), lt, past) in
          subst (λ (i : ℕ). P (place_of (rows ++ row ∷ []) i) (row_at (rows ++ row ∷ []) i)) at (rw (place_last rows row, row_last rows row) last)
    ]

-- the rows made so far end at place
pub record IsMaking (t : Table) (coded : ℕ → Coded) (parts : List Part) (root : Option NodeId) (rows : List Row) (place : ℕ) : Type 0 where
  pub made : AreMade t coded parts root rows
  pub stands : place ≡ rows_len rows
  pub limit : length rows ≤ ROWS_LIMIT

pub making_none : (t : Table) (coded : ℕ → Coded) (parts : List Part) (root : Option NodeId) → IsMaking t coded parts root [] 0
making_none t coded parts root = record {
  made = record { fit = λ source j lt. absurd (omega arith); no_source = λ j lt. absurd (omega arith); longest = λ j lt. absurd (omega arith); in_root = omega arith };
  stands = refl;
  limit = omega arith;
}

-- a place inside the root lies in a part, and what is left of it has the same cells on both sides
pub record IsStep (t : Table) (part : Part) (off : ℕ) (node : NodeId) (place left : ℕ) : Type 0 where
  pub is_part : IsPart t part
  pub some : 1 ≤ left
  pub inside_part : off + left ≤ part_len part
  pub inside_root : place + left ≤ len_at t node.0
  pub same : take left (drop off (part_cells t part)) ≡ take left (drop place (cells t node.0))

pub whole_parts : (t : Table) → IsSound t → HasTrueRecords t → (parts : List Part) (node : NodeId) → AreParts t parts → node.0 < length t.nodes → parts_cells t parts ≡ cells t node.0 → parts_len parts ≡ len_at t node.0
whole_parts t s h parts node are there same = sym (length-parts_cells t s h parts are) ∙ ap length same ∙ rope_length t s h (Some node) there

pub step_of : (t : Table) → IsSound t → HasTrueRecords t → (parts : List Part) (node : NodeId) (place off : ℕ) (part : Part) → AreParts t parts → node.0 < length t.nodes → parts_cells t parts ≡ cells t node.0
    → part_at parts place ≡ Some (part, off) → IsStep t part off node place (part_len part - off)
step_of t s h parts node place off part are there same e =
    let held = holds_place t s h parts place part off are e in
    let whole = whole_parts t s h parts node are there same in
    record {
      is_part = held.is_part;
      some = omega (arith, held.before_end);
      inside_part = omega (arith, held.before_end);
      inside_root = omega (arith, held.before_end, held.inside, whole);
      same = sym (held.same (part_len part - off) (omega (arith, held.before_end))) ∙ ap (λ cs. take (part_len part - off) (drop place cs)) same;
    }

pub making_more : (t : Table) → IsSound t → HasTrueRecords t → (coded : ℕ → Coded) (parts : List Part) (node : NodeId) (rows : List Row) (place off left : ℕ) (part : Part) (row : Row)
    → AreParts t parts → parts_cells t parts ≡ cells t node.0 → part_at parts place ≡ Some (part, off) → IsStep t part off node place left → IsNext t coded part off node place left row → IsLongest t parts (Some node) place row
    → length rows < ROWS_LIMIT → IsMaking t coded parts (Some node) rows place → IsMaking t coded parts (Some node) (rows ++ row ∷ []) (place + row.len)
making_more t s h coded parts node rows place off left part row are same e step next longest few making =
    let fits : (source : ℕ → ℕ → ℕ) → Fits t coded source parts (Some node) (rows_len rows) row =
    λ source. rw (← making.stands) (record {
      part = part;
      off = off;
      at_part = e;
      not_empty = next.some;
      inside_part = omega (arith, next.few, step.inside_part);
      inside_root = omega (arith, next.few, step.inside_root);
      kind = next.fits source;
    }) in
    let over : All IsByte (row_compares t parts (Some node) (rows_len rows) row) =
    all_compared IsByte row.kind _ _ (λ is. let bytes = each_byte _ (next.bytes is) in rw (← making.stands, same) (bytes, bytes)) in
    record {
      made = record {
        fit = λ source. each_more (λ i r. Fits t coded source parts (Some node) i r) rows row (making.made.fit source) (fits source);
        no_source = each_more (λ i r. All IsByte (row_compares t parts (Some node) i r)) rows row making.made.no_source over;
        longest = each_more (λ i r. IsLongest t parts (Some node) i r) rows row making.made.longest (rw (← making.stands) longest);
        in_root = omega (arith, rows_len_more rows row, next.few, step.inside_root, making.stands);
      };
      stands = ap (λ (i : ℕ). i + row.len) making.stands ∙ sym (rows_len_more rows row);
      limit = omega (arith, length-append rows (row ∷ []), few);
    }

-- a place before the end of parts that have the root's cells lies in a part
pub covers_at_end : (t : Table) → IsSound t → HasTrueRecords t → (coded : ℕ → Coded) (parts : List Part) (root : Option NodeId) (rows : List Row) (place : ℕ) → AreParts t parts → IsRope t root → parts_cells t parts ≡ rope_cells t root
    → IsMaking t coded parts root rows place → rope_len t root ≤ place → CoversAlways t coded parts root rows
covers_at_end t s h coded parts root rows place are there same making past source =
    let whole : parts_len parts ≡ rope_len t root = sym (length-parts_cells t s h parts are) ∙ ap length same ∙ rope_length t s h root there in
    let end : rows_len rows ≡ rope_len t root = omega (arith, making.stands, making.made.in_root, past) in
    record { fit = making.made.fit source; whole_root = end; whole_parts = end ∙ sym whole }

-- rows that reach the root's end are what is to be made
pub made_rows : (t : Table) (coded : ℕ → Coded) (parts : List Part) (root : Option NodeId) (rows : Vec Row) (place : ℕ) → IsMaking t coded parts root rows.items place → CoversAlways t coded parts root rows.items
    → MakesRows coded t parts root (Ok rows)
made_rows t coded parts root rows place making covers = record {
  covers = covers;
  no_source = making.made.no_source;
  longest = making.made.longest;
  few = making.limit;
  too_many = λ is. absurd cc;
}

-- a refusal tells of no rows, and of too many only where the greatest number of them leaves text
pub made_none : (t : Table) (coded : ℕ → Coded) (parts : List Part) (root : Option NodeId) (fault : MakeFault) → (fault ≡ TooManyRows → IsCutShort t coded parts root)
    → MakesRows coded t parts root (Err fault)
made_none t coded parts root fault cut = record {
  covers = tt;
  no_source = tt;
  longest = tt;
  few = tt;
  too_many = λ is. let same : fault ≡ TooManyRows = cc in cut same;
}
