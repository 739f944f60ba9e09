-- Records of functions: one that has no fault fits and is spelled as it was, and one that fits is read again.
use Rattle.std.proofs.Common.{lit<, lit≤, ◌≡◌, ℕ, zero, suc, ◌^◌, ◌<◌, ◌≤◌, false, eqb, ltb, ◌||◌, ◌&&◌, List, [], ◌∷◌, ◌++◌, length, get_or, take, drop, Some, None, refl, sym, ap, ◌∙◌, ◌⊎◌, arith, inl, inr}
use Rattle.std.specs.Int.{w8, w32, w64, from_be_bytes}
use Rattle.std.proofs.lemmas.Bool.{or_parts, le-ltb, ltb-false}
use Rattle.std.proofs.lemmas.List.{drop_at, length-append, length-drop, length-take-le, take-append-drop}
use Rattle.function_leaf.specs.declared.coded.Coded.{Coded}
use Rattle.function_leaf.specs.declared.coded.Coded.TheVariants.{Fill, Ramp, Cycle}
use Rattle.function_leaf.specs.Pattern.{padded}
use Rattle.rope_node.specs.declared.node.NodeView.TheVariants.{Fun}
use Rattle.image_reader.specs.Layout.{IsBytes, spelled, number_in}
use Rattle.image_reader.specs.Value.{FitsFunction}
use Rattle.image_reader.specs.Spelling.{function_layout, function_code, pattern_size, payload, function_numbers, function_spelling}
use Rattle.image_reader.specs.Reading.{kind_in, function_code_in, pattern_size_in, pattern_of, view_of, coded_of, function_of, image_node, any_nonzero, is_unknown_function, unused_in_function, node_record_fault}
use Rattle.image_reader.proofs.Faults.{zero_first}
use Rattle.image_reader.proofs.Fields.{AreWide, FitFields, wide8, wide32, wide64, IsBytes-drop, IsBytes-take, number_in_small, numbers_from, spelled_back, spelled_again, length-spelled}
use Rattle.image_reader.proofs.Payloads.{padded_back, length-padded, take-padded, drop-padded}

function_wide : AreWide function_layout
function_wide = (wide8, (wide8, (wide8, (wide8, (wide32, (wide64, tt))))))

-- ---- what is read again

payload_small : (c : Coded) → FitsFunction c → length (payload c) ≤ 16
payload_small (Fill c) fits = omega arith
payload_small (Ramp c) fits = omega arith
payload_small (Cycle pattern) fits = fits.1.1

function_fields : (depth len : ℕ) (c : Coded) → depth < 2 ^ 8 → len < 2 ^ 64 → FitsFunction c → FitFields function_layout (function_numbers depth len (function_code c) (pattern_size c))
function_fields depth len (Fill c) d l fits = (lit< tt, (d, (lit< tt, (lit< tt, (lit< tt, (l, tt))))))
function_fields depth len (Ramp c) d l fits = (lit< tt, (d, (lit< tt, (lit< tt, (lit< tt, (l, tt))))))
function_fields depth len (Cycle pattern) d l fits = (lit< tt, (d, (lit< tt, (omega (arith, fits.1.1), (lit< tt, (l, tt))))))

pub function_len : (depth len : ℕ) (c : Coded) → depth < 2 ^ 8 → len < 2 ^ 64 → FitsFunction c → length (function_spelling depth len c) ≡ 32
unfolding function_spelling
function_len depth len c d l fits =
    let front : length (spelled function_layout (function_numbers depth len (function_code c) (pattern_size c))) ≡ 16 = length-spelled function_layout function_wide _ (function_fields depth len c d l fits) in
    rw (length-append, front, length-padded (payload c) (payload_small c fits)) refl

-- the fields of a cell that spells this function
record Holds (cell : List ℕ) (depth len : ℕ) (c : Coded) : Type 0 where
  pub kind : number_in w8 0 cell ≡ 3
  pub depth_is : number_in w8 1 cell ≡ depth
  pub code : number_in w8 2 cell ≡ function_code c
  pub size : number_in w8 3 cell ≡ pattern_size c
  pub zeros : number_in w32 4 cell ≡ 0
  pub len_is : number_in w64 8 cell ≡ len
  pub payload_is : drop 16 cell ≡ padded (payload c)

holds : (depth len : ℕ) (c : Coded) → depth < 2 ^ 8 → len < 2 ^ 64 → FitsFunction c → Holds (function_spelling depth len c) depth len c
unfolding function_spelling numbers_from
holds depth len c d l fits =
    let ns : List ℕ = function_numbers depth len (function_code c) (pattern_size c) in
    let cell : List ℕ = spelled function_layout ns ++ padded (payload c) in
    let fields = function_fields depth len c d l fits in
    let e : numbers_from function_layout 0 cell ≡ ns = spelled_again function_layout function_wide ns fields [] (padded (payload c)) 0 refl in
    let at : (k : ℕ) → get_or (numbers_from function_layout 0 cell) k 0 ≡ get_or ns k 0 = λ k. ap (λ (xs : List ℕ). get_or xs k 0) e in
    record {
      kind = at 0;
      depth_is = at 1;
      code = at 2;
      size = at 3;
      zeros = at 4;
      len_is = at 5;
      payload_is = drop_at (spelled function_layout ns) (padded (payload c)) 16 (length-spelled function_layout function_wide ns fields);
    }

-- what stands behind the payload's bytes, and the bytes themselves
behind_payload : (cell : List ℕ) (depth len : ℕ) (c : Coded) → Holds cell depth len c → any_nonzero (drop (length (payload c)) (drop 16 cell)) ≡ false
behind_payload cell depth len c h = ap (λ (xs : List ℕ). any_nonzero (drop (length (payload c)) xs)) h.payload_is ∙ drop-padded (payload c)

payload_again : (cell : List ℕ) (depth len : ℕ) (c : Coded) → Holds cell depth len c → take (length (payload c)) (drop 16 cell) ≡ payload c
payload_again cell depth len c h = ap (λ (xs : List ℕ). take (length (payload c)) xs) h.payload_is ∙ take-padded (payload c)

first_again : (cell : List ℕ) (b : ℕ) → take 1 (drop 16 cell) ≡ b ∷ [] → number_in w8 16 cell ≡ b
unfolding number_in
first_again cell b e = ap (from_be_bytes w8) e

again_at : (cell : List ℕ) (depth len : ℕ) (c : Coded) → FitsFunction c → Holds cell depth len c
    → (node_record_fault cell ≡ None) × (image_node cell ≡ record { node = record { view = Fun; len = len; depth = depth }; function = Some c })
unfolding node_record_fault view_of function_of coded_of
again_at cell depth len (Fill c) fits h =
    let zeros : any_nonzero (drop 1 (drop 16 cell)) ≡ false = behind_payload cell depth len (Fill c) h in
    let byte = first_again cell c (payload_again cell depth len (Fill c) h) in
    (rw (h.kind, h.code, h.size, h.zeros, zeros) refl, rw (h.kind, h.depth_is, h.len_is, h.code, byte) refl)
again_at cell depth len (Ramp c) fits h =
    let zeros : any_nonzero (drop 1 (drop 16 cell)) ≡ false = behind_payload cell depth len (Ramp c) h in
    let byte = first_again cell c (payload_again cell depth len (Ramp c) h) in
    (rw (h.kind, h.code, h.size, h.zeros, zeros) refl, rw (h.kind, h.depth_is, h.len_is, h.code, byte) refl)
again_at cell depth len (Cycle pattern) fits h =
    let zeros : any_nonzero (drop (length pattern) (drop 16 cell)) ≡ false = behind_payload cell depth len (Cycle pattern) h in
    let bytes : take (length pattern) (drop 16 cell) ≡ pattern = payload_again cell depth len (Cycle pattern) h in
    let not_short : ltb (length pattern) 1 ≡ false = le-ltb (length pattern) 1 fits.1.0 in
    let not_long : ltb 16 (length pattern) ≡ false = le-ltb 16 (length pattern) fits.1.1 in
    (rw (h.kind, h.code, h.size, h.zeros, not_short, not_long, zeros) refl, rw (h.kind, h.depth_is, h.len_is, h.code, h.size, bytes) refl)

pub function_again : (depth len : ℕ) (c : Coded) → depth < 2 ^ 8 → len < 2 ^ 64 → FitsFunction c
    → (node_record_fault (function_spelling depth len c) ≡ None) × (image_node (function_spelling depth len c) ≡ record { node = record { view = Fun; len = len; depth = depth }; function = Some c })
function_again depth len c d l fits = again_at (function_spelling depth len c) depth len c fits (holds depth len c d l fits)

-- ---- what has no fault

one_to_three : (n : ℕ) → 1 ≤ n → n ≤ 3 → (n ≡ 1) ⊎ ((n ≡ 2) ⊎ (n ≡ 3))
one_to_three zero low high = absurd (omega arith)
one_to_three (suc zero) low high = inl refl
one_to_three (suc (suc zero)) low high = inr (inl refl)
one_to_three (suc (suc (suc zero))) low high = inr (inr refl)
one_to_three (suc (suc (suc (suc n)))) low high = absurd (omega arith)

first_back : (xs : List ℕ) → 1 ≤ length xs → from_be_bytes w8 (take 1 xs) ∷ [] ≡ take 1 xs
first_back [] le = absurd (omega arith)
first_back (x ∷ xs) le = refl

-- a cell is its fields and its payload
cell_back : (cell : List ℕ) (code size : ℕ) (front : List ℕ) → length cell ≡ 32 → IsBytes cell → kind_in cell ≡ 3 → function_code_in cell ≡ code → pattern_size_in cell ≡ size → number_in w32 4 cell ≡ 0 → padded front ≡ drop 16 cell
    → spelled function_layout (function_numbers (number_in w8 1 cell) (number_in w64 8 cell) code size) ++ padded front ≡ cell
unfolding numbers_from
cell_back cell code size front len bytes kind-is code-is size-is zeros behind =
    let same : function_numbers (number_in w8 1 cell) (number_in w64 8 cell) code size ≡ numbers_from function_layout 0 cell = rw (kind-is, code-is, size-is, zeros) refl in
    ap (λ (xs : List ℕ). spelled function_layout xs ++ padded front) same
    ∙ ap (λ (xs : List ℕ). xs ++ padded front) (spelled_back function_layout function_wide 0 cell bytes (omega arith))
    ∙ ap (λ (xs : List ℕ). take 16 cell ++ xs) behind
    ∙ take-append-drop 16 cell

-- a payload of one byte
byte_back : (cell : List ℕ) → length cell ≡ 32 → any_nonzero (drop 1 (drop 16 cell)) ≡ false → padded (number_in w8 16 cell ∷ []) ≡ drop 16 cell
unfolding number_in
byte_back cell len zeros =
    let room : length (drop 16 cell) ≡ 16 = omega (arith, length-drop 16 cell) in
    ap padded (first_back (drop 16 cell) (omega arith)) ∙ padded_back (drop 16 cell) 1 room (lit≤ tt) zeros

-- a function of this code reads what it is spelled with
pub record Reads (cell : List ℕ) (c : Coded) : Type 0 where
  pub fits : FitsFunction c
  pub same : function_spelling (number_in w8 1 cell) (number_in w64 8 cell) c ≡ cell

codes_back : (cell : List ℕ) → length cell ≡ 32 → IsBytes cell → kind_in cell ≡ 3 → is_unknown_function cell ≡ false → any_nonzero (unused_in_function cell) ≡ false → (function_code_in cell ≡ 1) ⊎ ((function_code_in cell ≡ 2) ⊎ (function_code_in cell ≡ 3)) → Reads cell (coded_of cell)
unfolding coded_of function_spelling
codes_back cell len bytes kind known unused (inl code) =
    let x = zero_first (number_in w32 4 cell) (pattern_size_in cell ∷ drop 1 (drop 16 cell)) (rw code at unused) in
    let size = zero_first (pattern_size_in cell) (drop 1 (drop 16 cell)) x.1 in
    rw code (record { fits = number_in_small w8 wide8 16 cell bytes; same = cell_back cell 1 0 (number_in w8 16 cell ∷ []) len bytes kind code size.0 x.0 (byte_back cell len size.1) })
codes_back cell len bytes kind known unused (inr (inl code)) =
    let x = zero_first (number_in w32 4 cell) (pattern_size_in cell ∷ drop 1 (drop 16 cell)) (rw code at unused) in
    let size = zero_first (pattern_size_in cell) (drop 1 (drop 16 cell)) x.1 in
    rw code (record { fits = number_in_small w8 wide8 16 cell bytes; same = cell_back cell 2 0 (number_in w8 16 cell ∷ []) len bytes kind code size.0 x.0 (byte_back cell len size.1) })
codes_back cell len bytes kind known unused (inr (inr code)) =
    let x = zero_first (number_in w32 4 cell) (drop (pattern_size_in cell) (drop 16 cell)) (rw code at unused) in
    let sizes = or_parts (ltb (pattern_size_in cell) 1) (ltb 16 (pattern_size_in cell)) (rw code at known) in
    let low : 1 ≤ pattern_size_in cell = ltb-false (pattern_size_in cell) 1 sizes.0 in
    let high : pattern_size_in cell ≤ 16 = ltb-false 16 (pattern_size_in cell) sizes.1 in
    let room : length (drop 16 cell) ≡ 16 = omega (arith, length-drop 16 cell) in
    let size : length (pattern_of cell) ≡ pattern_size_in cell = length-take-le (pattern_size_in cell) (drop 16 cell) (omega arith) in
    rw code (record {
      fits = (IsBytes-take (pattern_size_in cell) (drop 16 cell) (IsBytes-drop 16 cell bytes), (omega arith, omega arith));
      same = cell_back cell 3 (length (pattern_of cell)) (pattern_of cell) len bytes kind code (sym size) x.0 (padded_back (drop 16 cell) (pattern_size_in cell) room high x.1);
    })

pub function_back : (cell : List ℕ) → length cell ≡ 32 → IsBytes cell → kind_in cell ≡ 3 → is_unknown_function cell ≡ false → any_nonzero (unused_in_function cell) ≡ false → Reads cell (coded_of cell)
function_back cell len bytes kind known unused =
    let low = or_parts (ltb (function_code_in cell) 1) (ltb 3 (function_code_in cell) || (eqb (function_code_in cell) 3 && (ltb (pattern_size_in cell) 1 || ltb 16 (pattern_size_in cell)))) known in
    let high = or_parts (ltb 3 (function_code_in cell)) (eqb (function_code_in cell) 3 && (ltb (pattern_size_in cell) 1 || ltb 16 (pattern_size_in cell))) low.1 in
    codes_back cell len bytes kind known unused (one_to_three (function_code_in cell) (ltb-false (function_code_in cell) 1 low.0) (ltb-false 3 (function_code_in cell) high.0))
