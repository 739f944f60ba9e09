-- What calls answer that ask a rope, at each of their ends.
use Rattle.std.proofs.Common.{◌≡◌, ◌⊎◌, ◌↔◌, ℕ, ◌+◌, ◌<◌, min, List, [], ◌∷◌, length, take, drop, inl, inr, refl, sym, subst, arith}
use Rattle.std.specs.Prelude.{Err, Option, Some}
use Rattle.std.specs.declared.cmp.Ordering.{Ordering}
use Rattle.lazy_file.specs.SourceTexts.{AreSizes, Stated}
use Rattle.lazy_file.specs.Readings.{Reading, Reads}
use Rattle.lazy_file.specs.declared.faults.SourceFault.{SourceFault}
use Rattle.rope_node.specs.declared.node.NodeId.{NodeId}
use Rattle.rope_node.specs.Table.{Table}
use Rattle.rope_node.specs.Denotes.{Cell, Place, rope_len}
use Rattle.cord_position.specs.Fetched.{EachCell, InCells, IsFetched, IsReadable, ReadsSpan, rope_cell, rope_part}
use Rattle.cord_position.specs.Runs.{AreBytesOf, run_left}
use Rattle.cord_position.proofs.Spans.{span_read}
use Rattle.cord_search.specs.declared.fault.FindFault.{FindFault}
use Rattle.cord_search.specs.declared.fault.FindFault.TheVariants.{PatternTooLong, Source, Memory}
use Rattle.cord_search.specs.declared.pattern.TheConstants.{PATTERN_LIMIT}
use Rattle.cord_search.specs.Stated.{FindsFirst, FindsLast, OrdersParts}
use Rattle.cord_types.specs.HeldTexts.{reading_of}
use Rattle.cord_store.specs.declared.codes.TheConstants.{BAD_SOURCES, DONE, LONG_PATTERN, MEMORY, UNHELD}
use Rattle.cord_store.specs.Numbers.{find_fault_number, order_number, place_number}
use Rattle.cord_store.specs.Asked.{CanRead, ComparesParts, FetchesPlace, FindsByte, FindsLastByte, FindsText, ReadsPart, RefusesSources}

-- ---- sources that are some

-- bytes that are not held are not sources that are none
held_apart : UNHELD ≡ BAD_SOURCES → ⊥
held_apart e = let same : 52 ≡ 53 = e in omega (arith, same)

some_sources : (st : Stated) (outcome : ℕ) (Readable : Type 0) → AreSizes st.sizes → (outcome ≡ BAD_SOURCES → ⊥) → (Readable → outcome ≡ UNHELD → ⊥) → RefusesSources st outcome Readable
some_sources st outcome Readable sizes good held = record { bad = λ none. absurd (none sizes); good = λ _. good; held = held }

-- a read that failed is one of a cell that cannot be read
unread : (held other st : Stated) (t : Table) (rope : Option NodeId) (i j : ℕ) (fault : SourceFault) → held ≡ st → ReadsSpan {X = ℕ} (reading_of held) (reading_of other) (rope_cell t rope) i j (Err fault) → CanRead t st rope i j → ⊥
unread held other st t rope i j fault is reads each =
    let own : CanRead t held rope i j = subst (λ (y : Stated). CanRead t y rope i j) (sym is) each in
    let ok = span_read {X = ℕ} (reading_of held) (reading_of other) (rope_cell t rope) i j (Err fault) reads own in
    absurd cc

-- ---- bytes

pub part_read : (t : Table) (held st : Stated) (rope : Option NodeId) (place n : ℕ) (old new : List ℕ) → held ≡ st → AreSizes st.sizes → n ≡ min (run_left t rope place) (length old) → drop n new ≡ drop n old → AreBytesOf held (rope_part t rope place n) (take n new)
    → ReadsPart t st rope place old new n DONE
part_read t held st rope place n old new is sizes count rest bytes = record {
  count_is = λ _. count;
  bytes = λ _. subst (λ (y : Stated). AreBytesOf y (rope_part t rope place n) (take n new)) is bytes;
  rest = λ _. rest;
  none = λ never. absurd (never refl);
  refuses = some_sources st DONE (CanRead t st rope place (place + min (run_left t rope place) (length old))) sizes (λ e. absurd cc) (λ _ e. absurd cc);
  told = inl refl;
}

pub part_unheld : (t : Table) (held other st : Stated) (rope : Option NodeId) (place : ℕ) (old new : List ℕ) (fault : SourceFault) → held ≡ st → AreSizes st.sizes
    → ReadsSpan {X = ℕ} (reading_of held) (reading_of other) (rope_cell t rope) place (place + min (run_left t rope place) (length old)) (Err fault) → ReadsPart t st rope place old new 0 UNHELD
part_unheld t held other st rope place old new fault is sizes reads =
    let until = place + min (run_left t rope place) (length old) in
    record {
      count_is = λ e. absurd cc;
      bytes = λ e. absurd cc;
      rest = λ e. absurd cc;
      none = λ _. refl;
      refuses = some_sources st UNHELD (CanRead t st rope place until) sizes held_apart (λ each e. unread held other st t rope place until fault is reads each);
      told = inr (inl refl);
    }

pub byte_fetched : (t : Table) (held st : Stated) (rope : Option NodeId) (place old found : ℕ) → held ≡ st → AreSizes st.sizes → IsFetched t held rope place (Some found) → place < rope_len t rope → FetchesPlace t st rope place old found DONE
byte_fetched t held st rope place old found is sizes fetched inside = record {
  found = λ _. subst (λ (y : Stated). IsFetched t y rope place (Some found)) is fetched;
  inside = λ _. inside;
  past = λ e. absurd cc;
  kept = λ other. absurd (other refl);
  refuses = some_sources st DONE (IsReadable st (rope_cell t rope place)) sizes (λ e. absurd cc) (λ _ e. absurd cc);
  told = inl refl;
}

pub byte_unheld : (t : Table) (held other st : Stated) (rope : Option NodeId) (place old : ℕ) (fault : SourceFault) → held ≡ st → AreSizes st.sizes → ReadsSpan {X = ℕ} (reading_of held) (reading_of other) (rope_cell t rope) place (place + 1) (Err fault)
    → FetchesPlace t st rope place old old UNHELD
byte_unheld t held other st rope place old fault is sizes reads = record {
  found = λ e. absurd cc;
  inside = λ e. absurd cc;
  past = λ e. absurd cc;
  kept = λ _. refl;
  refuses = some_sources st UNHELD (IsReadable st (rope_cell t rope place)) sizes held_apart
      (λ here e. unread held other st t rope place (place + 1) fault is reads (λ p from until. let at : place ≡ p = omega (arith, from, until) in subst (λ (i : ℕ). IsReadable st (rope_cell t rope i)) at here));
  told = inr (inr (inl refl));
}

-- ---- places

pub pattern_found : (t : Table) (held st : Stated) (rope : Option NodeId) (pattern : List ℕ) (from before after : ℕ) (place : Option ℕ) → held ≡ st → AreSizes st.sizes → (PATTERN_LIMIT < length pattern → ⊥) → after ≡ place_number place → FindsFirst t held rope pattern from place
    → FindsText t st rope pattern from DONE before after
pattern_found t held st rope pattern from before after place is sizes short told found = record {
  found = λ _. (place, told, subst (λ (y : Stated). FindsFirst t y rope pattern from place) is found);
  kept = λ never. absurd (never refl);
  refuses = some_sources st DONE (CanRead t st rope from (rope_len t rope)) sizes (λ e. absurd cc) (λ _ e. absurd cc);
  too_long = λ _. (λ e. absurd cc, λ long. absurd (short long));
  told = inl refl;
}

-- the pattern is too long exactly where that is told
told_long : (L : Type 0) → L → (LONG_PATTERN ≡ LONG_PATTERN) ↔ L
told_long L long = (λ _. long, λ _. refl)

told_short : (L : Type 0) (outcome : ℕ) → (outcome ≡ LONG_PATTERN → ⊥) → (L → ⊥) → (outcome ≡ LONG_PATTERN) ↔ L
told_short L outcome other short = (λ e. absurd (other e), λ long. absurd (short long))

memory_apart : MEMORY ≡ LONG_PATTERN → ⊥
memory_apart e = let same : 1 ≡ 41 = e in omega (arith, same)

unheld_apart : UNHELD ≡ LONG_PATTERN → ⊥
unheld_apart e = let same : 52 ≡ 41 = e in omega (arith, same)

no_memory : Memory ≡ PatternTooLong → ⊥
no_memory e = absurd cc

no_source : (e : SourceFault) → Source e ≡ PatternTooLong → ⊥
no_source e is = absurd cc

pattern_long : (t : Table) (st : Stated) (rope : Option NodeId) (pattern : List ℕ) (from before : ℕ) → AreSizes st.sizes → (PATTERN_LIMIT < length pattern) → FindsText t st rope pattern from LONG_PATTERN before before
pattern_long t st rope pattern from before sizes long = record {
  found = λ e. absurd cc;
  kept = λ _. refl;
  refuses = some_sources st LONG_PATTERN (CanRead t st rope from (rope_len t rope)) sizes (λ e. absurd cc) (λ _ e. absurd cc);
  too_long = λ _. told_long (PATTERN_LIMIT < length pattern) long;
  told = inr (inl refl);
}

pattern_memory : (t : Table) (st : Stated) (rope : Option NodeId) (pattern : List ℕ) (from before : ℕ) → AreSizes st.sizes → (PATTERN_LIMIT < length pattern → ⊥) → FindsText t st rope pattern from MEMORY before before
pattern_memory t st rope pattern from before sizes short = record {
  found = λ e. absurd cc;
  kept = λ _. refl;
  refuses = some_sources st MEMORY (CanRead t st rope from (rope_len t rope)) sizes (λ e. absurd cc) (λ _ e. absurd cc);
  too_long = λ _. told_short (PATTERN_LIMIT < length pattern) MEMORY memory_apart short;
  told = inr (inr (inl refl));
}

pattern_unread : (t : Table) (held other st : Stated) (rope : Option NodeId) (pattern : List ℕ) (from before : ℕ) (fault : SourceFault) → held ≡ st → AreSizes st.sizes → (PATTERN_LIMIT < length pattern → ⊥)
    → ReadsSpan {X = ℕ} (reading_of held) (reading_of other) (rope_cell t rope) from (rope_len t rope) (Err fault) → FindsText t st rope pattern from UNHELD before before
pattern_unread t held other st rope pattern from before fault is sizes short reads = record {
  found = λ e. absurd cc;
  kept = λ _. refl;
  refuses = some_sources st UNHELD (CanRead t st rope from (rope_len t rope)) sizes held_apart (λ each e. unread held other st t rope from (rope_len t rope) fault is reads each);
  too_long = λ _. told_short (PATTERN_LIMIT < length pattern) UNHELD unheld_apart short;
  told = inr (inr (inr (inl refl)));
}

pub pattern_refused : (t : Table) (held other st : Stated) (rope : Option NodeId) (pattern : List ℕ) (from before : ℕ) (fault : FindFault) → held ≡ st → AreSizes st.sizes → (fault ≡ PatternTooLong) ↔ (PATTERN_LIMIT < length pattern)
    → ((e : SourceFault) → fault ≡ Source e → ReadsSpan {X = ℕ} (reading_of held) (reading_of other) (rope_cell t rope) from (rope_len t rope) (Err e)) → FindsText t st rope pattern from (find_fault_number fault) before before
pattern_refused t held other st rope pattern from before PatternTooLong is sizes long reads = pattern_long t st rope pattern from before sizes (long.0 refl)
pattern_refused t held other st rope pattern from before Memory is sizes long reads = pattern_memory t st rope pattern from before sizes (λ more. no_memory (long.1 more))
pattern_refused t held other st rope pattern from before (Source fault) is sizes long reads = pattern_unread t held other st rope pattern from before fault is sizes (λ more. no_source fault (long.1 more)) (reads fault refl)

pub byte_found : (t : Table) (held st : Stated) (rope : Option NodeId) (c from before after : ℕ) (place : Option ℕ) → held ≡ st → AreSizes st.sizes → after ≡ place_number place → FindsFirst t held rope (c ∷ []) from place → FindsByte t st rope c from DONE before after
byte_found t held st rope c from before after place is sizes told found = record {
  found = λ _. (place, told, subst (λ (y : Stated). FindsFirst t y rope (c ∷ []) from place) is found);
  kept = λ never. absurd (never refl);
  refuses = some_sources st DONE (CanRead t st rope from (rope_len t rope)) sizes (λ e. absurd cc) (λ _ e. absurd cc);
  told = inl refl;
}

pub byte_not_read : (t : Table) (held other st : Stated) (rope : Option NodeId) (c from before : ℕ) (fault : SourceFault) → held ≡ st → AreSizes st.sizes → ReadsSpan {X = ℕ} (reading_of held) (reading_of other) (rope_cell t rope) from (rope_len t rope) (Err fault)
    → FindsByte t st rope c from UNHELD before before
byte_not_read t held other st rope c from before fault is sizes reads = record {
  found = λ e. absurd cc;
  kept = λ _. refl;
  refuses = some_sources st UNHELD (CanRead t st rope from (rope_len t rope)) sizes held_apart (λ each e. unread held other st t rope from (rope_len t rope) fault is reads each);
  told = inr (inl refl);
}

pub last_found : (t : Table) (held st : Stated) (rope : Option NodeId) (c from before after : ℕ) (place : Option ℕ) → held ≡ st → AreSizes st.sizes → after ≡ place_number place → FindsLast t held rope (c ∷ []) from place → FindsLastByte t st rope c from DONE before after
last_found t held st rope c from before after place is sizes told found = record {
  found = λ _. (place, told, subst (λ (y : Stated). FindsLast t y rope (c ∷ []) from place) is found);
  kept = λ never. absurd (never refl);
  refuses = some_sources st DONE (CanRead t st rope 0 (from + 1)) sizes (λ e. absurd cc) (λ _ e. absurd cc);
  told = inl refl;
}

pub last_not_read : (t : Table) (held other st : Stated) (rope : Option NodeId) (c from before : ℕ) (fault : SourceFault) → held ≡ st → AreSizes st.sizes → ReadsSpan {X = ℕ} (reading_of held) (reading_of other) (rope_cell t rope) 0 (from + 1) (Err fault)
    → FindsLastByte t st rope c from UNHELD before before
last_not_read t held other st rope c from before fault is sizes reads = record {
  found = λ e. absurd cc;
  kept = λ _. refl;
  refuses = some_sources st UNHELD (CanRead t st rope 0 (from + 1)) sizes held_apart (λ each e. unread held other st t rope 0 (from + 1) fault is reads each);
  told = inr (inl refl);
}

-- ---- orders

pub parts_ordered : (t : Table) (held st : Stated) (l : Option NodeId) (i : ℕ) (r : Option NodeId) (j n before after : ℕ) (order : Ordering) → held ≡ st → AreSizes st.sizes → after ≡ order_number order → OrdersParts t held l i r j n order
    → ComparesParts t st l i r j n DONE before after
parts_ordered t held st l i r j n before after order is sizes told ordered = record {
  ordered = λ _. (order, told, subst (λ (y : Stated). OrdersParts t y l i r j n order) is ordered);
  kept = λ never. absurd (never refl);
  refuses = some_sources st DONE (CanRead t st l i (i + n) × CanRead t st r j (j + n)) sizes (λ e. absurd cc) (λ _ e. absurd cc);
  told = inl refl;
}

-- what may be read of two ropes
abbrev Either : (ℕ → Cell) → ℕ → (ℕ → Cell) → ℕ → ℕ → ℕ → ℕ → Type 0
Either cell i other j n s p = InCells cell i (i + n) s p ⊎ InCells other j (j + n) s p

both_read : (old new : Reading) (cell other : ℕ → Cell) (i j n : ℕ) (fault : SourceFault) → Reads old new (Either cell i other j n) (Some fault) → EachCell cell i (i + n) (IsReadable old.stated) → EachCell other j (j + n) (IsReadable old.stated) → ⊥
both_read old new cell other i j n fault h first second =
    let here : IsReadable old.stated (Place h.s h.p) = elim h.asked [
      | inl (k, from, until, is) ↦ subst (IsReadable old.stated) is (first k from until)
      | inr (k, from, until, is) ↦ subst (IsReadable old.stated) is (second k from until)
    ] in
    let bad = h.at.bad_source (h.at.unfailing here.0) in
    let there = here.1 in
    absurd cc

pub parts_not_read : (t : Table) (held other st : Stated) (l : Option NodeId) (i : ℕ) (r : Option NodeId) (j n before : ℕ) (fault : SourceFault) → held ≡ st → AreSizes st.sizes
    → Reads (reading_of held) (reading_of other) (Either (rope_cell t l) i (rope_cell t r) j n) (Some fault) → ComparesParts t st l i r j n UNHELD before before
parts_not_read t held other st l i r j n before fault is sizes reads = record {
  ordered = λ e. absurd cc;
  kept = λ _. refl;
  refuses = some_sources st UNHELD (CanRead t st l i (i + n) × CanRead t st r j (j + n)) sizes held_apart
      (λ each e. both_read (reading_of held) (reading_of other) (rope_cell t l) (rope_cell t r) i j n fault reads (subst (λ (y : Stated). CanRead t y l i (i + n)) (sym is) each.0) (subst (λ (y : Stated). CanRead t y r j (j + n)) (sym is) each.1));
  told = inr (inl refl);
}
