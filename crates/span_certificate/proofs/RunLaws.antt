-- Runs of parts, and the bytes of descriptions.
use Rattle.std.proofs.Common.{◌≡◌, ℕ, ◌+◌, ◌-◌, ◌^◌, ◌<◌, ◌≤◌, List, ◌++◌, length, map, take, drop, Some, refl, sym, ap, ◌∙◌, arith, min}
use Rattle.std.specs.Prelude.{◌↔◌, Bool, true, false, IsTrue, Result}
use Rattle.std.specs.List.{range_with_len}
use Rattle.std.proofs.lemmas.List.{drop-drop, map-append}
use Rattle.std.proofs.Math.Seq.{take-add}
use Rattle.std.proofs.lemmas.Slice.{take-put_mid}
use borrow.Rule.Slice.PartMut.{put_mid}
use Rattle.function_leaf.specs.declared.coded.Coded.{Coded}
use Rattle.function_leaf.specs.Coded.{coded_byte}
use Rattle.rope_node.specs.declared.node.NodeId.{NodeId}
use Rattle.rope_node.specs.Table.{Table, IsSound, HasTrueRecords}
use Rattle.rope_node.specs.Denotes.{Cell, cells, cell_byte, text}
use Rattle.rope_node.proofs.Parts.{span_within, span-map}
use Rattle.lazy_file.specs.SourceTexts.{Agrees, Stated}
use Rattle.lazy_file.specs.Readings.{Reading}
use Rattle.cord_position.specs.Fetched.{AreStated, IsStated}
use Rattle.lazy_file.specs.declared.faults.SourceFault.{SourceFault}
use Rattle.span_certificate.specs.declared.bytes.Run.{Run}
use Rattle.cord_position.specs.Runs.{AreBytesOf}
use Rattle.cord_position.proofs.LeafParts.{bytes_of_bytes, bytes_of_map}
use Rattle.span_descent.specs.declared.description.Description.{Description}
use Rattle.span_certificate.specs.declared.content.Content.TheVariants.{Within, Described}
use Rattle.span_descent.specs.declared.description.Description.TheVariants.{Pooled, Computed}
use Rattle.command_parts.specs.declared.part.Part.{Part}
use Rattle.rope_node.specs.declared.node.Span.{Span}
use Rattle.command_parts.specs.Parts.{part_len, part_cells, IsPart}
use Rattle.span_certificate.specs.PartLeads.{content_from}
use Rattle.span_descent.specs.Leads.{described_cells, Describes}
use Rattle.span_descent.specs.Steps.{IsReached}
use Rattle.rope_node.specs.Steps.{IsSpan}
use Rattle.span_certificate.specs.Runs.{IsRunOf, ReadsCells, TellsSame}
use Rattle.span_certificate.proofs.ComparedCells.{AreAmong, among_first, among_second, among_span, among_through, among_both, all_among, cells_among}
use Rattle.span_descent.proofs.Cells.{leads_cells}
use Rattle.span_certificate.proofs.Contents.{part_content, described_room}
use Rattle.span_certificate.proofs.NextRows.{fewer_same}

pub old_run : (t : Table) → IsSound t → HasTrueRecords t → (part : Part) (node : NodeId) (start off left : ℕ) (z : Span) (what : Description) → content_from part off ≡ Some (Within node start) → off + left ≤ part_len part
    → IsSpan t (record { node = node; start = start; len = left }) → IsReached t (record { node = node; start = start; len = left }) z → Describes t z.node.0 z.start what → IsRunOf t part off left (record { what = what; len = z.len })
old_run t s h part node start off left z what is fits of_node reached d =
    let same = leads_cells t s h reached.is_span.some reached.leads of_node.there (omega (arith, of_node.inside, reached.few)) in
    record {
      some = reached.is_span.some;
      few = reached.few;
      cells = λ n le.
          part_content t part off n (Within node start) is (omega (arith, le, reached.few, fits))
          ∙ fewer_same n z.len start z.start (cells t node.0) (cells t z.node.0) le same
          ∙ d.cells n (omega (arith, le, reached.is_span.inside));
      room = λ n le. d.room n (omega (arith, le, reached.is_span.inside));
    }

pub described_run : (t : Table) → IsSound t → (part : Part) (off left : ℕ) (what : Description) → content_from part off ≡ Some (Described what) → IsPart t part → 1 ≤ left → left < 2 ^ 64 → off + left ≤ part_len part
    → IsRunOf t part off left (record { what = what; len = left })
described_run t s part off left what is is_part some short fits = record {
  some = some;
  few = omega arith;
  cells = λ n le. part_content t part off n (Described what) is (omega (arith, le, fits));
  room = λ n le. described_room t s part off n what is is_part (omega (arith, le, fits)) (omega (arith, le, short));
}

-- a further piece of the pool, written behind the first bytes
pub filled_more : (pool buffer piece : List ℕ) (a done n k : ℕ) → done + n ≤ length buffer → length piece ≡ n → piece ≡ take n (drop (a + done) pool) → take done buffer ≡ take done (drop a pool)
    → take (done + n) (put_mid done k buffer piece) ≡ take (done + n) (drop a pool)
filled_more pool buffer piece a done n k fits whole is before =
    take-put_mid done k buffer piece (done + n) (omega arith) (omega arith)
    ∙ ap (λ bs. bs ++ piece) before
    ∙ ap (λ bs. take done (drop a pool) ++ bs) (is ∙ ap (λ (j : ℕ). take n (drop j pool)) (omega arith) ∙ ap (take n) (sym (drop-drop done a pool)))
    ∙ sym (take-add done n (drop a pool))

pub pooled_bytes : (t : Table) (st : Stated) (n a : ℕ) (what : Description) (bytes : List ℕ) → what ≡ Pooled a → bytes ≡ take n (drop a t.pool) → AreBytesOf st (described_cells t n what) bytes
pooled_bytes t st n a what bytes is e = rw (is, e) (bytes_of_bytes st (take n (drop a t.pool)))

pub computed_bytes : (t : Table) (st : Stated) (n i : ℕ) (f : Coded) (what : Description) (bytes : List ℕ) → what ≡ Computed f i → bytes ≡ map (coded_byte f) (range_with_len i n) → AreBytesOf st (described_cells t n what) bytes
computed_bytes t st n i f what bytes is e = rw (is, e) (bytes_of_map st (coded_byte f) (range_with_len i n))

pub tells_same : (st : Stated) (cells others : List Cell) (bytes more : List ℕ) (answer : Bool) → (IsTrue answer ↔ (bytes ≡ more)) → AreBytesOf st cells bytes → AreBytesOf st others more → TellsSame st cells others answer
tells_same st cells others bytes more answer e of_bytes of_more source agrees stated =
    let first = of_bytes source agrees (all_among (IsStated st) cells (cells ++ others) (among_first cells others) stated) in
    let second = of_more source agrees (all_among (IsStated st) others (cells ++ others) (among_second cells others) stated) in
    (λ yes. sym first ∙ e.0 yes ∙ second, λ same. e.1 (first ∙ same ∙ sym second))

-- what a call that reads either side does
pub first_read : {X : Type 0} (old new : Reading) (cells others : List Cell) (r : Result X SourceFault) → ReadsCells old new cells r → ReadsCells old new (cells ++ others) r
first_read old new cells others r h = cells_among old old new cells (cells ++ others) r refl h (among_first cells others)

pub second_read : {X : Type 0} (old mid new : Reading) (cells others : List Cell) (r : Result X SourceFault) → mid ≡ old → ReadsCells mid new others r → ReadsCells old new (cells ++ others) r
second_read old mid new cells others r before h = cells_among old mid new others (cells ++ others) r before h (among_second cells others)

-- the cells that a row compares, and those of one turn
abbrev pub both_cells : Table → Part → ℕ → Part → ℕ → ℕ → List Cell
both_cells t part off other place len = take len (drop off (part_cells t part)) ++ take len (drop place (part_cells t other))

abbrev pub turn_cells : Table → Run → Run → ℕ → List Cell
turn_cells t a b n = described_cells t n a.what ++ described_cells t n b.what

-- the first `done` bytes are the same, whatever bytes the sources have that agree with what they state
pub record IsComparing (t : Table) (st : Stated) (part : Part) (off : ℕ) (other : Part) (place len done : ℕ) : Type 0 where
  pub inside : done ≤ len
  pub same : (source : ℕ → ℕ → ℕ) → Agrees st source → AreStated st (both_cells t part off other place len)
      → text source (take done (drop off (part_cells t part))) ≡ text source (take done (drop place (part_cells t other)))

-- the runs of one turn, and how many bytes of them are compared
pub record IsTurn (t : Table) (part : Part) (off : ℕ) (other : Part) (place len done : ℕ) (a b : Run) (n : ℕ) : Type 0 where
  pub before : done < len
  pub first : IsRunOf t part (off + done) (len - done) a
  pub second : IsRunOf t other (place + done) (len - done) b
  pub some : 1 ≤ n
  pub few : (n ≤ a.len) × (n ≤ b.len)

pub turn_of : (t : Table) (part : Part) (off : ℕ) (other : Part) (place len done : ℕ) (a b : Run) (n : ℕ) → done < len → IsRunOf t part (off + done) (len - done) a → IsRunOf t other (place + done) (len - done) b → n ≡ min (min a.len b.len) 256
    → IsTurn t part off other place len done a b n
turn_of t part off other place len done a b n before first second e = record {
  before = before;
  first = first;
  second = second;
  some = omega (arith, first.some, second.some);
  few = (omega arith, omega arith);
}

-- a run's cells among those of the whole row
run_cells : (t : Table) (part : Part) (off len done n : ℕ) (a : Run) → done < len → IsRunOf t part (off + done) (len - done) a → n ≤ a.len
    → take n (drop done (take len (drop off (part_cells t part)))) ≡ described_cells t n a.what
run_cells t part off len done n a before run le =
    span_within n done len off (part_cells t part) (omega (arith, run.few)) ∙ ap (λ (j : ℕ). take n (drop j (part_cells t part))) (omega arith) ∙ run.cells n le

-- a turn's cells are among those of the whole row
turn_among : (t : Table) (part : Part) (off : ℕ) (other : Part) (place len done : ℕ) (a b : Run) (n : ℕ) → IsTurn t part off other place len done a b n
    → AreAmong (turn_cells t a b n) (both_cells t part off other place len)
turn_among t part off other place len done a b n turn =
    let cs = take len (drop off (part_cells t part)) in
    let ds = take len (drop place (part_cells t other)) in
    among_both (described_cells t n a.what) (described_cells t n b.what) (cs ++ ds)
    (among_through (described_cells t n a.what) cs (cs ++ ds) (rw (← run_cells t part off len done n a turn.before turn.first turn.few.0) (among_span n done cs)) (among_first cs ds))
    (among_through (described_cells t n b.what) ds (cs ++ ds) (rw (← run_cells t other place len done n b turn.before turn.second turn.few.1) (among_span n done ds)) (among_second cs ds))

turn_stated : (t : Table) (st : Stated) (part : Part) (off : ℕ) (other : Part) (place len done : ℕ) (a b : Run) (n : ℕ) → IsTurn t part off other place len done a b n
    → AreStated st (both_cells t part off other place len) → AreStated st (turn_cells t a b n)
turn_stated t st part off other place len done a b n turn stated =
    all_among (IsStated st) (turn_cells t a b n) (both_cells t part off other place len) (turn_among t part off other place len done a b n turn) stated

run_text : (t : Table) (source : ℕ → ℕ → ℕ) (part : Part) (off len done n : ℕ) (a : Run) → done < len → IsRunOf t part (off + done) (len - done) a → n ≤ a.len
    → text source (take (done + n) (drop off (part_cells t part))) ≡ text source (take done (drop off (part_cells t part))) ++ text source (described_cells t n a.what)
run_text t source part off len done n a before run le =
    ap (text source) (take-add done n (drop off (part_cells t part)))
    ∙ map-append (cell_byte source) (take done (drop off (part_cells t part))) (take n (drop done (drop off (part_cells t part))))
    ∙ ap (λ cs. text source (take done (drop off (part_cells t part))) ++ text source cs)
    (ap (take n) (drop-drop done off (part_cells t part)) ∙ ap (λ (j : ℕ). take n (drop j (part_cells t part))) (omega arith) ∙ run.cells n le)

pub comparing_none : (t : Table) (st : Stated) (part : Part) (off : ℕ) (other : Part) (place len : ℕ) → IsComparing t st part off other place len 0
comparing_none t st part off other place len = record { inside = omega arith; same = λ source agrees stated. refl }

pub comparing_more : (t : Table) (st : Stated) (part : Part) (off : ℕ) (other : Part) (place len done : ℕ) (a b : Run) (n : ℕ) → IsTurn t part off other place len done a b n → IsComparing t st part off other place len done
    → TellsSame st (described_cells t n a.what) (described_cells t n b.what) true → IsComparing t st part off other place len (done + n)
comparing_more t st part off other place len done a b n turn so_far tells = record {
  inside = omega (arith, turn.before, turn.few.0, turn.first.few);
  same = λ source agrees stated.
      run_text t source part off len done n a turn.before turn.first turn.few.0
      ∙ ap (λ bs. bs ++ text source (described_cells t n a.what)) (so_far.same source agrees stated)
      ∙ ap (λ bs. text source (take done (drop place (part_cells t other))) ++ bs)
      ((tells source agrees (turn_stated t st part off other place len done a b n turn stated)).0 refl)
      ∙ sym (run_text t source other place len done n b turn.before turn.second turn.few.1);
}

pub comparing_ended : (t : Table) (st : Stated) (part : Part) (off : ℕ) (other : Part) (place len done : ℕ) → len ≤ done → IsComparing t st part off other place len done
    → TellsSame st (take len (drop off (part_cells t part))) (take len (drop place (part_cells t other))) true
comparing_ended t st part off other place len done past so_far source agrees stated =
    let end : done ≡ len = omega (arith, so_far.inside) in
    (λ _. rw end at (so_far.same source agrees stated), λ _. refl)

pub comparing_differs : (t : Table) (st : Stated) (part : Part) (off : ℕ) (other : Part) (place len done : ℕ) (a b : Run) (n : ℕ) → IsTurn t part off other place len done a b n
    → TellsSame st (described_cells t n a.what) (described_cells t n b.what) false
    → TellsSame st (take len (drop off (part_cells t part))) (take len (drop place (part_cells t other))) false
comparing_differs t st part off other place len done a b n turn tells source agrees stated = (
  λ never. absurd cc,
  λ same.
      let run : text source (described_cells t n a.what) ≡ text source (described_cells t n b.what) =
      ap (text source) (sym (run_cells t part off len done n a turn.before turn.first turn.few.0))
      ∙ sym (span-map (cell_byte source) n done (take len (drop off (part_cells t part))))
      ∙ ap (λ bs. take n (drop done bs)) same
      ∙ span-map (cell_byte source) n done (take len (drop place (part_cells t other)))
      ∙ ap (text source) (run_cells t other place len done n b turn.before turn.second turn.few.1) in
      (tells source agrees (turn_stated t st part off other place len done a b n turn stated)).1 run,
)

-- what a turn reads
pub turn_read : {X : Type 0} (old mid new : Reading) (t : Table) (part : Part) (off : ℕ) (other : Part) (place len done : ℕ) (a b : Run) (n : ℕ) (r : Result X SourceFault)
    → IsTurn t part off other place len done a b n → mid ≡ old → ReadsCells mid new (turn_cells t a b n) r → ReadsCells old new (both_cells t part off other place len) r
turn_read old mid new t part off other place len done a b n r turn before h =
    cells_among old mid new (turn_cells t a b n) (both_cells t part off other place len) r before h (turn_among t part off other place len done a b n turn)
