-- Parts of a leaf: which cells they are, what bytes these stand for, and a read of them that failed.
use Rattle.std.proofs.Common.{[], Some, None, refl, false, ◌≡◌, ℕ, ◌+◌, ◌-◌, ◌<◌, ◌≤◌, List, map, length, take, drop, get_or, sym, ap, subst, ◌∙◌, arith}
use Rattle.std.specs.Prelude.{max, Option, Result, Ok, Err, IfSome, IsSome, OnOk}
use Rattle.std.specs.List.{slice_range, range_with_len}
use Rattle.std.proofs.lemmas.List.{get_or-map, get_or-take, get_or-drop, get_or_past, map-id, take-take}
use Rattle.std.proofs.lemmas.Simd.{map-map}
use Rattle.std.proofs.lemmas.List.FromFn.{length-range_with_len, get_or-range_with_len, length-map-range_with_len}
use Rattle.rope_node.specs.declared.node.LeafSpan.{LeafSpan}
use Rattle.rope_node.specs.declared.node.NodeId.{NodeId}
use Rattle.rope_node.specs.declared.node.NodeView.{NodeView}
use Rattle.rope_node.specs.declared.node.NodeView.TheVariants.{Lit, Src, Fun, Cat, Sub}
use Rattle.rope_node.specs.Table.{Table, view_at, len_at, IsSound, IsLiteral, literal_bytes}
use Rattle.rope_node.specs.Denotes.{Cell, Byte, Place, cell_at, cells, rope_cells, cell_byte}
use Rattle.rope_node.proofs.Cells.{cells_at}
use Rattle.rope_node.proofs.Parts.{span_within, span-map, span-range_with_len}
use Rattle.lazy_file.specs.SourceTexts.{Stated, holds_span, text_at}
use Rattle.lazy_file.specs.Readings.{fault_in, InSpan, Reading, Reads}
use Rattle.lazy_file.proofs.LaterReads.{reads_weaker}
use Rattle.lazy_file.specs.declared.faults.SourceFault.{SourceFault}
use Rattle.lazy_file.specs.declared.faults.SourceFault.TheVariants.{BadSource}
use Rattle.lazy_file.proofs.ReadOutcomes.{refused_span}
use Rattle.lazy_file.proofs.AgreedBytes.{agreed_read}
use Rattle.cord_position.specs.Fetched.{InCells, IsStated, ReadsSpan, rope_cell}
use Rattle.cord_position.specs.Runs.{IsLeafRun, AreBytesOf}

-- a part of a literal, of a source and of a function
pub literal_part : (t : Table) → IsSound t → (id start n : ℕ) → id < length t.nodes → start + n ≤ len_at t id → (w : NodeView) → view_at t id ≡ w → IsLiteral w
    → take n (drop start (cells t id)) ≡ map Byte (take n (literal_bytes t start (len_at t id) w))
literal_part t s id start n lt fits (Lit a) e literal =
    let m = len_at t id in
    let inner : take n (drop start (slice_range t.pool a (a + m))) ≡ take n (drop (start + a) t.pool) = span_within n start ((a + m) - a) a t.pool (omega (arith, fits)) in
    let outer : take n (slice_range t.pool (a + start) (a + m)) ≡ take n (drop (a + start) t.pool) = take-take n ((a + m) - (a + start)) (drop (a + start) t.pool) (omega (arith, fits)) in
    let swap : take n (drop (start + a) t.pool) ≡ take n (drop (a + start) t.pool) = ap (λ (j : ℕ). take n (drop j t.pool)) (omega arith) in
    ap (λ cs. take n (drop start cs)) (cells_at t s id lt (Lit a) e)
    ∙ span-map Byte n start (slice_range t.pool a (a + m))
    ∙ ap (map Byte) (inner ∙ swap ∙ sym outer)
literal_part t s id start n lt fits (Src s' a) e literal = absurd literal
literal_part t s id start n lt fits Fun e literal = absurd literal
literal_part t s id start n lt fits (Cat l r) e literal = absurd literal
literal_part t s id start n lt fits (Sub b i) e literal = absurd literal

pub source_part : (t : Table) → IsSound t → (id start n s' a : ℕ) → id < length t.nodes → start + n ≤ len_at t id → view_at t id ≡ Src s' a
    → take n (drop start (cells t id)) ≡ map (Place s') (range_with_len (a + start) n)
source_part t s id start n s' a lt fits e =
    ap (λ cs. take n (drop start cs)) (cells_at t s id lt (Src s' a) e)
    ∙ span-map (Place s') n start (range_with_len a (len_at t id))
    ∙ ap (map (Place s')) (span-range_with_len n start a (len_at t id) fits)

pub function_part : (t : Table) → IsSound t → (id start n : ℕ) → id < length t.nodes → start + n ≤ len_at t id → view_at t id ≡ Fun
    → take n (drop start (cells t id)) ≡ map (λ k. Byte (t.answer id k)) (range_with_len start n)
function_part t s id start n lt fits e =
    ap (λ cs. take n (drop start cs)) (cells_at t s id lt Fun e)
    ∙ span-map (λ k. Byte (t.answer id k)) n start (range_with_len 0 (len_at t id))
    ∙ ap (map (λ k. Byte (t.answer id k))) (span-range_with_len n start 0 (len_at t id) fits ∙ ap (λ (j : ℕ). range_with_len j n) (omega arith))

-- a part of a run is that of its leaf
pub run_part : (t : Table) (rope : Option NodeId) (i n : ℕ) (x : LeafSpan) → IsLeafRun t rope i x → n ≤ x.len → take n (drop i (rope_cells t rope)) ≡ take n (drop x.start (cells t x.leaf.0))
run_part t rope i n x run few =
    sym (take-take n x.len (drop i (rope_cells t rope)) few) ∙ ap (take n) run.cells ∙ take-take n x.len (drop x.start (cells t x.leaf.0)) few

-- bytes stand for themselves
pub bytes_of_map : (st : Stated) (f : ℕ → ℕ) (xs : List ℕ) → AreBytesOf st (map (λ k. Byte (f k)) xs) (map f xs)
bytes_of_map st f xs source agrees stated = sym (map-map (cell_byte source) (λ k. Byte (f k)) xs)

pub bytes_of_bytes : (st : Stated) (xs : List ℕ) → AreBytesOf st (map Byte xs) xs
bytes_of_bytes st xs source agrees stated = sym (map-map (cell_byte source) Byte xs ∙ map-id xs)

-- what a read gave stands for the places that were read
pub bytes_of_read : (st : Stated) (s p n : ℕ) (read : List ℕ) → 1 ≤ n → length read ≡ n → IfSome (text_at st s) (λ t. read ≡ take n (drop p t))
    → AreBytesOf st (map (Place s) (range_with_len p n)) read
bytes_of_read st s p n read some whole is source agrees stated =
    let first : get_or (map (Place s) (range_with_len p n)) 0 (Byte 0) ≡ Place s p =
    get_or-map (Place s) (range_with_len p n) 0 0 (Byte 0) (rw length-range_with_len some) ∙ ap (Place s) (get_or-range_with_len p n 0 0 some ∙ omega arith) in
    let there : IsSome (text_at st s) = subst (IsStated st) first (stated 0 (Byte 0) (rw length-map-range_with_len some)) in
    agreed_read st source s p n read agrees there whole is ∙ sym (map-map (cell_byte source) (Place s) (range_with_len p n))

-- the same of a read's outcome
pub outcome_bytes : {X : Type 0} (st : Stated) (s p n : ℕ) (read : List ℕ) (r : Result X SourceFault) → 1 ≤ n → length read ≡ n → OnOk r (IfSome (text_at st s) (λ t. read ≡ take n (drop p t)))
    → OnOk r (AreBytesOf st (map (Place s) (range_with_len p n)) read)
outcome_bytes st s p n read (Ok x) some whole is = bytes_of_read st s p n read some whole is
outcome_bytes st s p n read (Err e) some whole is = tt

-- what a read of a span of a source does, where it fails and where it is refused at once
span_cells : (s p n r q : ℕ) → 1 ≤ n → InSpan s p (max 1 n) r q → InCells (Place s) p (p + n) r q
span_cells s p n r q some asked = (q, asked.1, omega (arith, asked.2, some), ap (λ (k : ℕ). Place k q) (sym asked.0))

pub read_span : {X : Type 0} (old new : Reading) (s p n : ℕ) (r : Result X SourceFault) → 1 ≤ n → Reads old new (InSpan s p (max 1 n)) (fault_in r) → ReadsSpan old new (Place s) p (p + n) r
read_span old new s p n r some reads =
    reads_weaker old new (InSpan s p (max 1 n)) (InCells (Place s) p (p + n)) (fault_in r) (λ k q asked. span_cells s p n k q some asked) reads

pub refuse_span : (old : Reading) (s p n : ℕ) → 1 ≤ n → holds_span old.stated s p n ≡ false → Reads old old (InCells (Place s) p (p + n)) (Some BadSource)
refuse_span old s p n some missing =
    reads_weaker old old (InSpan s p (max 1 n)) (InCells (Place s) p (p + n)) (Some BadSource) (λ k q asked. span_cells s p n k q some asked) (refused_span old s p n missing)

-- the same cells at other places
pub moved : {X : Type 0} (old new : Reading) (f g : ℕ → Cell) (i j n : ℕ) (r : Result X SourceFault)
    → ((k : ℕ) → k < n → f (i + k) ≡ g (j + k)) → ReadsSpan old new g j (j + n) r → ReadsSpan old new f i (i + n) r
moved old new f g i j n r same h =
    reads_weaker old new (InCells g j (j + n)) (InCells f i (i + n)) (fault_in r)
    (λ s p asked.
    let (place, from, until, is) = asked in
    let k = place - j in
    let at : j + k ≡ place = omega (arith, from) in
    let lt : k < n = omega (arith, from, until) in
    (i + k, omega arith, omega (arith, lt), same k lt ∙ ap g at ∙ is))
    h

-- the cells of a part of a run
pub run_cells : (t : Table) (rope : Option NodeId) (i : ℕ) (x : LeafSpan) → IsLeafRun t rope i x → (k : ℕ) → k < x.len → rope_cell t rope (i + k) ≡ cell_at t x.leaf.0 (x.start + k)
run_cells t rope i x run k lt =
    by_rope rope ∙ sym (at_part (rope_cells t rope) i) ∙ ap (λ cs. get_or cs k (Byte 0)) run.cells ∙ at_part (cells t x.leaf.0) x.start
  where
    by_rope : (rope : Option NodeId) → rope_cell t rope (i + k) ≡ get_or (rope_cells t rope) (i + k) (Byte 0)
    by_rope None = sym (get_or_past [] (i + k) (Byte 0) (omega arith))
    by_rope (Some id) = refl

    at_part : (cs : List Cell) (o : ℕ) → get_or (take x.len (drop o cs)) k (Byte 0) ≡ get_or cs (o + k) (Byte 0)
    at_part cs o = get_or-take x.len (drop o cs) k (Byte 0) lt ∙ get_or-drop o cs k (Byte 0)
