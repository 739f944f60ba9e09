-- When a tool tells that it could not read its sources.
use Rattle.std.proofs.Common.{◌≡◌, ℕ, ◌+◌, ◌-◌, List, ◌++◌, length, drop, get_or, Option, Some, None, Result, Ok, Err, inl, inr, refl, sym, ap, subst, ◌∙◌, arith, length-append}
use Rattle.std.specs.Prelude.{Any, IsErrOf, IsSome}
use Rattle.std.proofs.lemmas.Bool.{cases_lt}
use Rattle.std.proofs.lemmas.List.{get_or_default, get_or_past, get_or-drop, length-drop, get_or_append_left, get_or-append-add}
use Rattle.rope_node.specs.declared.node.NodeId.{NodeId}
use Rattle.rope_node.specs.Table.{Table}
use Rattle.rope_node.specs.Denotes.{Cell, Byte, Place, cells, cell_at, rope_cells}
use Rattle.lazy_file.specs.Readings.{Reading, Reads}
use Rattle.lazy_file.specs.declared.faults.SourceFault.{SourceFault}
use Rattle.lazy_file.proofs.LaterReads.{reads_weaker}
use Rattle.cord_position.specs.Fetched.{InCells, rope_cell}
use Rattle.cord_search.specs.Faults.{find_source_fault, put_source_fault}
use Rattle.cord_search.specs.Stated.{ReadsTwoSpans}
use Rattle.cord_search.specs.declared.fault.FindFault.{FindFault}
use Rattle.cord_search.specs.declared.fault.FindFault.TheVariants as Find
use Rattle.cord_search.specs.declared.fault.PutFault.{PutFault}
use Rattle.cord_search.specs.declared.fault.PutFault.TheVariants as Put
use Rattle.cord_tools.specs.Faults.{find_fault, put_fault, read_fault}
use Rattle.cord_tools.specs.Unread.{IsPlaceAmong, ToolReads, ToolReadsCells}
use Rattle.cord_tools.specs.declared.fault.ToolFault.{ToolFault}
use Rattle.cord_tools.specs.declared.fault.ToolFault.TheVariants.{Read}

-- ---- outcomes

-- the same fault of another call
abbrev fault_or : {X : Type 0} → ToolFault → Result X ToolFault → ToolFault
fault_or e (Ok x) = e
fault_or e (Err f) = f

pub same_error : {X Y : Type 0} (e f : ToolFault) → IsErrOf {T = X} (Err e) f → IsErrOf {T = Y} (Err e) f
same_error e f is = ap (λ (g : ToolFault). Err g) (ap (fault_or e) is)

no_fault : {X : Type 0} (x : X) (f : ToolFault) → IsErrOf (Ok x) f → ⊥
no_fault x f is = absurd cc

not_some : (f : SourceFault) → ◌≡◌ {A = Option SourceFault} None (Some f) → ⊥
not_some f is = absurd cc

-- a tool that no read stopped
pub not_read_at : {X : Type 0} (old new : Reading) (Asked : ℕ → ℕ → Type 0) (outcome : Result X ToolFault) → new ≡ old → ToolReads old new Asked outcome
not_read_at old new Asked outcome same = record { fault = None; reads = same; told = λ f is. absurd (not_some f is) }

pub not_read : {X : Type 0} (old new : Reading) (cells : List Cell) (outcome : Result X ToolFault) → new ≡ old → ¬ IsErrOf outcome Read → ToolReadsCells old new cells outcome
not_read old new cells outcome same never = record { at = not_read_at old new (IsPlaceAmong cells) outcome same; unread = λ is. absurd (never is) }

-- one that a call's fault stopped, which that call told
pub other_at : {X Y : Type 0} (old new : Reading) (Asked Others : ℕ → ℕ → Type 0) (e : ToolFault) → ((s p : ℕ) → Asked s p → Others s p) → ToolReads {X = X} old new Asked (Err e) → ToolReads {X = Y} old new Others (Err e)
other_at old new Asked Others e more h = record { fault = h.fault; reads = reads_weaker old new Asked Others h.fault more h.reads; told = λ f is. same_error e (read_fault f) (h.told f is) }

pub other_cells : {X Y : Type 0} (old new : Reading) (cells : List Cell) (e : ToolFault) → ToolReadsCells {X = X} old new cells (Err e) → ToolReadsCells {X = Y} old new cells (Err e)
other_cells old new cells e h = record {
  at = record { fault = h.at.fault; reads = h.at.reads; told = λ f is. same_error e (read_fault f) (h.at.told f is) };
  unread = λ is. h.unread (same_error e Read is);
}

-- a call that succeeded read nothing that failed
ok_same : {X : Type 0} (old new : Reading) (Asked : ℕ → ℕ → Type 0) (x : X) (fault : Option SourceFault) → Reads old new Asked fault → ((f : SourceFault) → fault ≡ Some f → IsErrOf (Ok x) (read_fault f)) → new ≡ old
ok_same old new Asked x None reads told = reads
ok_same old new Asked x (Some f) reads told = absurd (no_fault x (read_fault f) (told f refl))

pub same_after : {X : Type 0} (old new : Reading) (Asked : ℕ → ℕ → Type 0) (x : X) → ToolReads old new Asked (Ok x) → new ≡ old
same_after old new Asked x h = ok_same old new Asked x h.fault h.reads h.told

-- ---- cells

any_left : {X : Type 0} (P : X → Type 0) (xs ys : List X) → Any P xs → Any P (xs ++ ys)
any_left P xs ys (k, x, lt, at, p) = (k, x, omega (arith, lt, length-append xs ys), get_or_append_left xs ys x k lt ∙ at, p)

any_right : {X : Type 0} (P : X → Type 0) (xs ys : List X) → Any P ys → Any P (xs ++ ys)
any_right P xs ys (k, x, lt, at, p) = (length xs + k, x, omega (arith, lt, length-append xs ys), get_or-append-add xs ys k x ∙ at, p)

-- the cell of a place of a rope is one of the rope's
among : (t : Table) (rope : Option NodeId) (i j s p : ℕ) → InCells (rope_cell t rope) i j s p → IsPlaceAmong (drop i (rope_cells t rope)) s p
among t None i j s p h = let none : Byte 0 ≡ Place s p = h.3 in absurd cc
among t (Some id) i j s p (k, from, until, is) =
    elim (cases_lt k (length (cells t id.0))) [
      | inl lt ↦
          let x = cell_at t id.0 k in
          let place : i + (k - i) ≡ k = omega (arith, from) in
          let at : get_or (drop i (cells t id.0)) (k - i) x ≡ x =
          get_or-drop i (cells t id.0) (k - i) x ∙ ap (λ (m : ℕ). get_or (cells t id.0) m x) place ∙ get_or_default (cells t id.0) k x (Byte 0) lt in
          (k - i, x, omega (arith, lt, from, length-drop i (cells t id.0)), at, is)
      | inr past ↦
          let none : Byte 0 ≡ Place s p = sym (get_or_past (cells t id.0) k (Byte 0) past) ∙ is in absurd cc
    ]

among_these : (t : Table) (rope : Option NodeId) (i j : ℕ) (cs : List Cell) → drop i (rope_cells t rope) ≡ cs → (s p : ℕ) → InCells (rope_cell t rope) i j s p → IsPlaceAmong cs s p
among_these t rope i j cs is s p asked = subst (λ (xs : List Cell). IsPlaceAmong xs s p) is (among t rope i j s p asked)

-- what a call reads of all of a rope's cells, it reads of these
pub among_cells : (old new : Reading) (t : Table) (rope : Option NodeId) (j : ℕ) (fault : Option SourceFault) (cs : List Cell) → rope_cells t rope ≡ cs → Reads old new (InCells (rope_cell t rope) 0 j) fault → Reads old new (IsPlaceAmong cs) fault
among_cells old new t rope j fault cs is h = reads_weaker old new (InCells (rope_cell t rope) 0 j) (IsPlaceAmong cs) fault (among_these t rope 0 j cs is) h

-- ---- what the tools call

pub read_told : {X : Type 0} (e f : SourceFault) → ◌≡◌ {A = Option SourceFault} (Some e) (Some f) → IsErrOf {T = X} (Err (read_fault e)) (read_fault f)
read_told e f is = let same : e ≡ f = cc in ap (λ (x : SourceFault). Err (read_fault x)) same

put_told : {X : Type 0} (e : PutFault) (f : SourceFault) → put_source_fault e ≡ Some f → IsErrOf {T = X} (Err (put_fault e)) (read_fault f)
put_told Put.Write f is = absurd (not_some f is)
put_told (Put.Source e) f is = read_told e f is

put_is_read : {X : Type 0} (e : PutFault) → IsErrOf {T = X} (Err (put_fault e)) Read → IsSome (put_source_fault e)
put_is_read Put.Write is = absurd cc
put_is_read (Put.Source e) is = refl

find_told : {X : Type 0} (e : FindFault) (f : SourceFault) → find_source_fault e ≡ Some f → IsErrOf {T = X} (Err (find_fault e)) (read_fault f)
find_told Find.PatternTooLong f is = absurd (not_some f is)
find_told Find.Memory f is = absurd (not_some f is)
find_told (Find.Source e) f is = read_told e f is

find_is_read : {X : Type 0} (e : FindFault) → IsErrOf {T = X} (Err (find_fault e)) Read → IsSome (find_source_fault e)
find_is_read Find.PatternTooLong is = absurd cc
find_is_read Find.Memory is = absurd cc
find_is_read (Find.Source e) is = refl

-- a rope was not written, or it was not written to its end
pub put_read : {X : Type 0} (old new : Reading) (t : Table) (rope : Option NodeId) (j : ℕ) (e : PutFault) (cs : List Cell) → rope_cells t rope ≡ cs
    → Reads old new (InCells (rope_cell t rope) 0 j) (put_source_fault e) → ToolReadsCells {X = X} old new cs (Err (put_fault e))
put_read old new t rope j e cs is h = record {
  at = record {
    fault = put_source_fault e;
    reads = reads_weaker old new (InCells (rope_cell t rope) 0 j) (IsPlaceAmong cs) (put_source_fault e) (among_these t rope 0 j cs is) h;
    told = put_told e;
  };
  unread = put_is_read e;
}

-- a pattern was not found
pub find_read : {X : Type 0} (old new : Reading) (t : Table) (rope : Option NodeId) (i j : ℕ) (e : FindFault) (cs : List Cell) → drop i (rope_cells t rope) ≡ cs
    → Reads old new (InCells (rope_cell t rope) i j) (find_source_fault e) → ToolReadsCells {X = X} old new cs (Err (find_fault e))
find_read old new t rope i j e cs is h = record {
  at = record {
    fault = find_source_fault e;
    reads = reads_weaker old new (InCells (rope_cell t rope) i j) (IsPlaceAmong cs) (find_source_fault e) (among_these t rope i j cs is) h;
    told = find_told e;
  };
  unread = find_is_read e;
}

-- two ropes were not compared
pub two_read : {X : Type 0} (old new : Reading) (t : Table) (x y : Option NodeId) (n : ℕ) (e : SourceFault) (cs ds : List Cell) → rope_cells t x ≡ cs → rope_cells t y ≡ ds
    → ReadsTwoSpans {X = Unit {0}} old new (rope_cell t x) 0 (rope_cell t y) 0 n (Err e) → ToolReadsCells {X = X} old new (cs ++ ds) (Err (read_fault e))
two_read old new t x y n e cs ds left right h = record {
  at = record {
    fault = Some e;
    reads = record {
      s = h.s;
      p = h.p;
      asked = elim h.asked [
        | inl first ↦ any_left (λ (cell : Cell). cell ≡ Place h.s h.p) cs ds (among_these t x 0 (0 + n) cs left h.s h.p first)
        | inr second ↦ any_right (λ (cell : Cell). cell ≡ Place h.s h.p) cs ds (among_these t y 0 (0 + n) ds right h.s h.p second)
      ];
      at = h.at;
    };
    told = read_told e;
  };
  unread = λ is. refl;
}
