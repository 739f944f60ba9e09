-- Records of nodes: one that has no fault fits and is spelled as it was, and one that fits is read again.
use Rattle.std.proofs.Common.{lit<, ◌≡◌, ℕ, zero, suc, ◌^◌, ◌<◌, ◌≤◌, false, eqb, ltb, ◌||◌, ◌&&◌, List, length, get_or, Option, Some, None, refl, ap, ◌∙◌, ◌⊎◌, arith, inl, inr}
use Rattle.std.specs.Int.{w8, w32, w64}
use Rattle.std.proofs.lemmas.Bool.{or_parts, ltb-false}
use Rattle.function_leaf.specs.declared.coded.Coded.{Coded}
use Rattle.rope_node.specs.declared.node.NodeView.{NodeView}
use Rattle.rope_node.specs.declared.node.NodeView.TheVariants.{Lit, Src, Fun, Cat, Sub}
use Rattle.image_reader.specs.declared.fault.ReadFault.TheVariants.{Kind, NonZeroPad}
use Rattle.image_reader.specs.Layout.{IsBytes, spelled, number_in}
use Rattle.image_reader.specs.Value.{ImageNode, FitsView, FitsNode}
use Rattle.image_reader.specs.Spelling.{span_layout, span_numbers, concatenation_layout, concatenation_numbers, view_spelling, node_spelling}
use Rattle.image_reader.specs.Reading.{kind_in, view_of, function_of, image_node, any_nonzero, is_unknown_function, is_unknown_node, unused_in_span, unused_in_concatenation, unused_in_node, node_record_fault}
use Rattle.image_reader.proofs.Faults.{else_none, fault_if_none, zero_first, are_zero}
use Rattle.image_reader.proofs.Fields.{AreWide, FitFields, wide8, wide32, wide64, number_in_small, numbers_from, spelled_whole, numbers_whole, length-spelled}
use Rattle.image_reader.proofs.FunctionRecords.{function_len, function_again, function_back}
use Rattle.image_reader.proofs.RecordLaws.{IsRecord}

span_wide : AreWide span_layout
span_wide = (wide8, (wide8, (wide8, (wide8, (wide32, (wide64, (wide64, (wide64, tt))))))))

concatenation_wide : AreWide concatenation_layout
concatenation_wide = (wide8, (wide8, (wide8, (wide8, (wide32, (wide64, (wide32, (wide32, (wide64, tt)))))))))

span_fields : (kind depth x len start : ℕ) → kind < 2 ^ 8 → depth < 2 ^ 8 → x < 2 ^ 32 → len < 2 ^ 64 → start < 2 ^ 64 → FitFields span_layout (span_numbers kind depth x len start)
span_fields kind depth x len start k d n l s = (k, (d, (lit< tt, (lit< tt, (n, (l, (s, (lit< tt, tt))))))))

concatenation_fields : (depth len l r : ℕ) → depth < 2 ^ 8 → len < 2 ^ 64 → l < 2 ^ 32 → r < 2 ^ 32 → FitFields concatenation_layout (concatenation_numbers depth len l r)
concatenation_fields depth len l r d n x y = (lit< tt, (d, (lit< tt, (lit< tt, (x, (n, (y, (lit< tt, (lit< tt, tt)))))))))

view_len : (depth len : ℕ) (v : NodeView) (function : Option Coded) → depth < 2 ^ 8 → len < 2 ^ 64 → FitsView v function → length (view_spelling depth len v function) ≡ 32
unfolding view_spelling
view_len depth len (Lit a) None d l fits = length-spelled span_layout span_wide _ (span_fields 1 depth 0 len a (lit< tt) d (lit< tt) l fits)
view_len depth len (Lit a) (Some c) d l fits = absurd fits
view_len depth len (Src s a) None d l fits = length-spelled span_layout span_wide _ (span_fields 2 depth s len a (lit< tt) d fits.0 l fits.1)
view_len depth len (Src s a) (Some c) d l fits = absurd fits
view_len depth len Fun None d l fits = absurd fits
view_len depth len Fun (Some c) d l fits = function_len depth len c d l fits
view_len depth len (Cat x y) None d l fits = length-spelled concatenation_layout concatenation_wide _ (concatenation_fields depth len x.0 y.0 d l fits.0 fits.1)
view_len depth len (Cat x y) (Some c) d l fits = absurd fits
view_len depth len (Sub b i) None d l fits = length-spelled span_layout span_wide _ (span_fields 5 depth b.0 len i (lit< tt) d fits.0 l fits.1)
view_len depth len (Sub b i) (Some c) d l fits = absurd fits

node_len : (n : ImageNode) → FitsNode n → length (node_spelling n) ≡ 32
node_len n fits = view_len n.node.depth n.node.len n.node.view n.function fits.depth fits.len fits.view

-- ---- what is read again

-- the numbers of a cell that spells a span
record HoldsSpan (cell : List ℕ) (kind depth x len start : ℕ) : Type 0 where
  pub kind_is : number_in w8 0 cell ≡ kind
  pub depth_is : number_in w8 1 cell ≡ depth
  pub code : number_in w8 2 cell ≡ 0
  pub size : number_in w8 3 cell ≡ 0
  pub x_is : number_in w32 4 cell ≡ x
  pub len_is : number_in w64 8 cell ≡ len
  pub start_is : number_in w64 16 cell ≡ start
  pub end : number_in w64 24 cell ≡ 0

holds_span : (kind depth x len start : ℕ) → FitFields span_layout (span_numbers kind depth x len start) → HoldsSpan (spelled span_layout (span_numbers kind depth x len start)) kind depth x len start
unfolding numbers_from
holds_span kind depth x len start fields =
    let ns : List ℕ = span_numbers kind depth x len start in
    let e = numbers_whole span_layout span_wide ns fields in
    let at : (k : ℕ) → get_or (numbers_from span_layout 0 (spelled span_layout ns)) k 0 ≡ get_or ns k 0 = λ k. ap (λ (xs : List ℕ). get_or xs k 0) e in
    record { kind_is = at 0; depth_is = at 1; code = at 2; size = at 3; x_is = at 4; len_is = at 5; start_is = at 6; end = at 7 }

-- a node of this view is read from a cell, without a fault
abbrev IsReadAs : List ℕ → ℕ → ℕ → NodeView → Option Coded → Type 0
IsReadAs cell depth len v function = (node_record_fault cell ≡ None) × (image_node cell ≡ record { node = record { view = v; len = len; depth = depth }; function = function })

concatenation_again : (depth len l r : ℕ) → FitFields concatenation_layout (concatenation_numbers depth len l r)
    → IsReadAs (spelled concatenation_layout (concatenation_numbers depth len l r)) depth len (Cat (record { 0 = l }) (record { 0 = r })) None
unfolding node_record_fault view_of function_of numbers_from
concatenation_again depth len l r fields =
    let ns : List ℕ = concatenation_numbers depth len l r in
    let cell : List ℕ = spelled concatenation_layout ns in
    let e = numbers_whole concatenation_layout concatenation_wide ns fields in
    let at : (k : ℕ) → get_or (numbers_from concatenation_layout 0 cell) k 0 ≡ get_or ns k 0 = λ k. ap (λ (xs : List ℕ). get_or xs k 0) e in
    let kind : number_in w8 0 cell ≡ 4 = at 0 in
    let depth-is : number_in w8 1 cell ≡ depth = at 1 in
    let z2 : number_in w8 2 cell ≡ 0 = at 2 in
    let z3 : number_in w8 3 cell ≡ 0 = at 3 in
    let l-is : number_in w32 4 cell ≡ l = at 4 in
    let len-is : number_in w64 8 cell ≡ len = at 5 in
    let r-is : number_in w32 16 cell ≡ r = at 6 in
    let z20 : number_in w32 20 cell ≡ 0 = at 7 in
    let z24 : number_in w64 24 cell ≡ 0 = at 8 in
    (rw (kind, z2, z3, z20, z24) refl, rw (kind, depth-is, len-is, l-is, r-is) refl)

view_again : (depth len : ℕ) (v : NodeView) (function : Option Coded) → depth < 2 ^ 8 → len < 2 ^ 64 → FitsView v function → IsReadAs (view_spelling depth len v function) depth len v function
unfolding view_spelling node_record_fault view_of function_of
view_again depth len (Lit a) None d l fits =
    let h = holds_span 1 depth 0 len a (span_fields 1 depth 0 len a (lit< tt) d (lit< tt) l fits) in
    (rw (h.kind_is, h.code, h.size, h.x_is, h.end) refl, rw (h.kind_is, h.depth_is, h.len_is, h.start_is) refl)
view_again depth len (Lit a) (Some c) d l fits = absurd fits
view_again depth len (Src s a) None d l fits =
    let h = holds_span 2 depth s len a (span_fields 2 depth s len a (lit< tt) d fits.0 l fits.1) in
    (rw (h.kind_is, h.code, h.size, h.end) refl, rw (h.kind_is, h.depth_is, h.len_is, h.x_is, h.start_is) refl)
view_again depth len (Src s a) (Some c) d l fits = absurd fits
view_again depth len Fun None d l fits = absurd fits
view_again depth len Fun (Some c) d l fits = function_again depth len c d l fits
view_again depth len (Cat x y) None d l fits = concatenation_again depth len x.0 y.0 (concatenation_fields depth len x.0 y.0 d l fits.0 fits.1)
view_again depth len (Cat x y) (Some c) d l fits = absurd fits
view_again depth len (Sub b i) None d l fits =
    let h = holds_span 5 depth b.0 len i (span_fields 5 depth b.0 len i (lit< tt) d fits.0 l fits.1) in
    (rw (h.kind_is, h.code, h.size, h.end) refl, rw (h.kind_is, h.depth_is, h.len_is, h.x_is, h.start_is) refl)
view_again depth len (Sub b i) (Some c) d l fits = absurd fits

node_again : (n : ImageNode) → FitsNode n → (node_record_fault (node_spelling n) ≡ None) × (image_node (node_spelling n) ≡ n)
node_again n fits = view_again n.node.depth n.node.len n.node.view n.function fits.depth fits.len fits.view

-- ---- what has no fault

abbrev pub OneToFive : ℕ → Type 0
OneToFive n = (n ≡ 1) ⊎ ((n ≡ 2) ⊎ ((n ≡ 3) ⊎ ((n ≡ 4) ⊎ (n ≡ 5))))

one_to_five : (n : ℕ) → 1 ≤ n → n ≤ 5 → OneToFive n
one_to_five zero low high = absurd (omega arith)
one_to_five (suc zero) low high = inl refl
one_to_five (suc (suc zero)) low high = inr (inl refl)
one_to_five (suc (suc (suc zero))) low high = inr (inr (inl refl))
one_to_five (suc (suc (suc (suc zero)))) low high = inr (inr (inr (inl refl)))
one_to_five (suc (suc (suc (suc (suc zero))))) low high = inr (inr (inr (inr refl)))
one_to_five (suc (suc (suc (suc (suc (suc n)))))) low high = absurd (omega arith)

span_back : (cell : List ℕ) (kind x : ℕ) → length cell ≡ 32 → IsBytes cell → kind_in cell ≡ kind → number_in w32 4 cell ≡ x → any_nonzero (unused_in_span cell) ≡ false
    → spelled span_layout (span_numbers kind (number_in w8 1 cell) x (number_in w64 8 cell) (number_in w64 16 cell)) ≡ cell
unfolding numbers_from
span_back cell kind x len bytes kind-is x-is unused =
    let z = are_zero (unused_in_span cell) unused in
    let same : span_numbers kind (number_in w8 1 cell) x (number_in w64 8 cell) (number_in w64 16 cell) ≡ numbers_from span_layout 0 cell = rw (kind-is, x-is, z.0, z.1.0, z.1.1.0) refl in
    ap (spelled span_layout) same ∙ spelled_whole span_layout span_wide 32 refl cell bytes len

concatenation_back : (cell : List ℕ) → length cell ≡ 32 → IsBytes cell → kind_in cell ≡ 4 → any_nonzero (unused_in_concatenation cell) ≡ false
    → spelled concatenation_layout (concatenation_numbers (number_in w8 1 cell) (number_in w64 8 cell) (number_in w32 4 cell) (number_in w32 16 cell)) ≡ cell
unfolding numbers_from
concatenation_back cell len bytes kind unused =
    let z = are_zero (unused_in_concatenation cell) unused in
    let same : concatenation_numbers (number_in w8 1 cell) (number_in w64 8 cell) (number_in w32 4 cell) (number_in w32 16 cell) ≡ numbers_from concatenation_layout 0 cell = rw (kind, z.0, z.1.0, z.1.1.0, z.1.1.1.0) refl in
    ap (spelled concatenation_layout) same ∙ spelled_whole concatenation_layout concatenation_wide 32 refl cell bytes len

-- a cell holds a view and a function that fit and are spelled as it is
record Reads (cell : List ℕ) (v : NodeView) (function : Option Coded) : Type 0 where
  pub fits : FitsView v function
  pub same : view_spelling (number_in w8 1 cell) (number_in w64 8 cell) v function ≡ cell

kinds_back : (cell : List ℕ) → length cell ≡ 32 → IsBytes cell → is_unknown_node cell ≡ false → any_nonzero (unused_in_node cell) ≡ false → OneToFive (kind_in cell) → Reads cell (view_of cell) (function_of cell)
unfolding view_spelling view_of function_of
kinds_back cell len bytes known unused (inl kind) =
    let x = zero_first (number_in w32 4 cell) (unused_in_span cell) (rw kind at unused) in
    rw kind (record { fits = number_in_small w64 wide64 16 cell bytes; same = span_back cell 1 0 len bytes kind x.0 x.1 })
kinds_back cell len bytes known unused (inr (inl kind)) =
    rw kind (record {
      fits = (number_in_small w32 wide32 4 cell bytes, number_in_small w64 wide64 16 cell bytes);
      same = span_back cell 2 (number_in w32 4 cell) len bytes kind refl (rw kind at unused);
    })
kinds_back cell len bytes known unused (inr (inr (inl kind))) =
    let read = function_back cell len bytes kind (rw kind at known) (rw kind at unused) in
    rw kind (record { fits = read.fits; same = read.same })
kinds_back cell len bytes known unused (inr (inr (inr (inl kind)))) =
    rw kind (record {
      fits = (number_in_small w32 wide32 4 cell bytes, number_in_small w32 wide32 16 cell bytes);
      same = concatenation_back cell len bytes kind (rw kind at unused);
    })
kinds_back cell len bytes known unused (inr (inr (inr (inr kind)))) =
    rw kind (record {
      fits = (number_in_small w32 wide32 4 cell bytes, number_in_small w64 wide64 16 cell bytes);
      same = span_back cell 5 (number_in w32 4 cell) len bytes kind refl (rw kind at unused);
    })

pub kind_known : (cell : List ℕ) → is_unknown_node cell ≡ false → OneToFive (kind_in cell)
kind_known cell known =
    let low = or_parts (ltb (kind_in cell) 1) (ltb 5 (kind_in cell) || (eqb (kind_in cell) 3 && is_unknown_function cell)) known in
    let high = or_parts (ltb 5 (kind_in cell)) (eqb (kind_in cell) 3 && is_unknown_function cell) low.1 in
    one_to_five (kind_in cell) (ltb-false (kind_in cell) 1 low.0) (ltb-false 5 (kind_in cell) high.0)

node_back : (cell : List ℕ) → length cell ≡ 32 → IsBytes cell → node_record_fault cell ≡ None → FitsNode (image_node cell) × (node_spelling (image_node cell) ≡ cell)
unfolding node_record_fault
node_back cell len bytes none =
    let parts = else_none _ _ none in
    let known : is_unknown_node cell ≡ false = fault_if_none (is_unknown_node cell) Kind parts.0 in
    let unused : any_nonzero (unused_in_node cell) ≡ false = fault_if_none (any_nonzero (unused_in_node cell)) NonZeroPad parts.1 in
    let read = kinds_back cell len bytes known unused (kind_known cell known) in
    (record { view = read.fits; len = number_in_small w64 wide64 8 cell bytes; depth = number_in_small w8 wide8 1 cell bytes }, read.same)

pub node_record : IsRecord image_node node_spelling node_record_fault FitsNode 32
node_record = record { len = node_len; back = node_back; again = node_again }
