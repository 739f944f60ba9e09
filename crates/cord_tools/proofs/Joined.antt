-- The cells of files, one behind the other, and their bytes.
use Rattle.std.proofs.Common.{◌≡◌, ℕ, zero, suc, ◌+◌, ◌<◌, ◌≤◌, List, [], ◌∷◌, ◌++◌, length, take, get_or, Option, refl, sym, ap, ap₂, subst, ◌∙◌, arith, length-append}
use Rattle.std.specs.Prelude.{IsSome}
use Rattle.std.specs.List.{flat_map, range_with_len, sum}
use Rattle.std.proofs.lemmas.List.{append-nil, map-append}
use Rattle.std.proofs.lemmas.List.Concat.{flat_map-append}
use Rattle.std.proofs.lemmas.List.Elements.{All-append, All-map, All-nil}
use Rattle.std.proofs.lemmas.List.FromFn.{length-map-range_with_len}
use Rattle.std.proofs.Math.Seq.{take-length}
use Rattle.std.proofs.lemmas.List.Sums.{sum_by_more}
use Rattle.rope_node.specs.declared.node.NodeId.{NodeId}
use Rattle.rope_node.specs.Table.{Table, IsSound, HasTrueRecords}
use Rattle.rope_node.specs.Denotes.{Cell, Place, cell_byte, rope_cells, rope_len, text, IsRope}
use Rattle.rope_node.specs.Extends.{Extends}
use Rattle.rope_node.proofs.Ropes.{rope_kept, rope_cells_kept, rope_length}
use Rattle.lazy_file.specs.SourceTexts.{Stated, text_at}
use Rattle.cord_position.specs.Fetched.{AreStated, IsStated}
use Rattle.cord_position.proofs.Spans.{each_cell}
use Rattle.cord_search.specs.Stated.{OfText}
use Rattle.cord_tools.specs.Files.{OfAllFiles, all_cells, cells_of_sources, file_bytes, file_cells}
use Rattle.cord_tools.proofs.Spans.{places_text}

range_in_two : (first m n : ℕ) → range_with_len first (m + n) ≡ range_with_len first m ++ range_with_len (first + m) n
range_in_two first zero n =
    let same : first ≡ first + 0 = omega arith in
    let all : 0 + n ≡ n = omega arith in
    ap₂ range_with_len same all
range_in_two first (suc m) n =
    let all : suc m + n ≡ suc (m + n) = omega arith in
    let behind : first + 1 + m ≡ first + suc m = omega arith in
    ap (range_with_len first) all ∙ ap (λ (ns : List ℕ). first ∷ ns) (range_in_two (first + 1) m n ∙ ap (λ (k : ℕ). range_with_len (first + 1) m ++ range_with_len k n) behind)

-- the cells of some sources and of those behind them
cells_in_two : (sizes : List ℕ) (first m n : ℕ) → cells_of_sources sizes first (m + n) ≡ cells_of_sources sizes first m ++ cells_of_sources sizes (first + m) n
cells_in_two sizes first m n = ap (flat_map (file_cells sizes)) (range_in_two first m n) ∙ flat_map-append (file_cells sizes) (range_with_len first m) (range_with_len (first + m) n)

one_more : (sizes : List ℕ) (s : ℕ) → cells_of_sources sizes 0 (suc s) ≡ cells_of_sources sizes 0 s ++ file_cells sizes s
one_more sizes s =
    let next : suc s ≡ s + 1 = omega arith in
    let own : 0 + s ≡ s = omega arith in
    ap (cells_of_sources sizes 0) next ∙ cells_in_two sizes 0 s 1 ∙ ap (λ (k : ℕ). cells_of_sources sizes 0 s ++ cells_of_sources sizes k 1) own ∙ ap (λ (cs : List Cell). cells_of_sources sizes 0 s ++ cs) (append-nil (file_cells sizes s))

-- there are as many as the sources have bytes
length_of_first : (sizes : List ℕ) (n : ℕ) → n ≤ length sizes → length (cells_of_sources sizes 0 n) ≡ sum (take n sizes)
length_of_first sizes zero within = refl
length_of_first sizes (suc n) within =
    let next : suc n ≡ n + 1 = omega arith in
    let sums : sum (take (suc n) sizes) ≡ sum (take n sizes) + get_or sizes n 0 = ap (λ (k : ℕ). sum (take k sizes)) next ∙ sum_by_more (λ (k : ℕ). k) sizes n 0 (omega (arith, within)) in
    omega (arith, ap length (one_more sizes n), sums, length_of_first sizes n (omega (arith, within)), length-append (cells_of_sources sizes 0 n) (file_cells sizes n), length-map-range_with_len (Place n) 0 (get_or sizes n 0))

pub length_of_one : (sizes : List ℕ) (s : ℕ) → length (cells_of_sources sizes s 1) ≡ get_or sizes s 0
length_of_one sizes s = ap length (append-nil (file_cells sizes s)) ∙ length-map-range_with_len (Place s) 0 (get_or sizes s 0)

pub length_of_two : (sizes : List ℕ) (first m n count : ℕ) → m + n ≡ count → length (cells_of_sources sizes first count) ≡ length (cells_of_sources sizes first m) + length (cells_of_sources sizes (first + m) n)
length_of_two sizes first m n count all =
    ap (λ (k : ℕ). length (cells_of_sources sizes first k)) (sym all) ∙ ap length (cells_in_two sizes first m n) ∙ length-append (cells_of_sources sizes first m) (cells_of_sources sizes (first + m) n)

pub length_of_all : (sizes : List ℕ) → length (cells_of_sources sizes 0 (length sizes)) ≡ sum sizes
length_of_all sizes = length_of_first sizes (length sizes) (omega arith) ∙ ap sum (take-length sizes)

-- they stand for the bytes of the sources
text_of_files : (sizes : List ℕ) (source : ℕ → ℕ → ℕ) (ss : List ℕ) → text source (flat_map (file_cells sizes) ss) ≡ flat_map (file_bytes sizes source) ss
text_of_files sizes source [] = refl
text_of_files sizes source (s ∷ ss) =
    map-append (cell_byte source) (file_cells sizes s) (flat_map (file_cells sizes) ss) ∙ ap₂ (λ (xs ys : List ℕ). xs ++ ys) (places_text source s (range_with_len 0 (get_or sizes s 0))) (text_of_files sizes source ss)

first_stated : (sizes : List ℕ) (st : Stated) (n : ℕ) → ((s : ℕ) → s < n → IsSome (text_at st s)) → AreStated st (cells_of_sources sizes 0 n)
first_stated sizes st zero stated = All-nil (IsStated st)
first_stated sizes st (suc n) stated =
    let file : AreStated st (file_cells sizes n) = All-map (IsStated st) (Place n) (range_with_len 0 (get_or sizes n 0)) (λ k d lt. stated n (omega arith)) in
    let before : AreStated st (cells_of_sources sizes 0 n) = first_stated sizes st n (λ s lt. stated s (omega (arith, lt))) in
    subst (AreStated st) (sym (one_more sizes n)) (All-append (IsStated st) (cells_of_sources sizes 0 n) (file_cells sizes n) before file)

-- what is told of the text of a rope of all the sources is told of all the files
pub of_all : (t : Table) (st : Stated) (rope : Option NodeId) (P : List ℕ → Type 0) → rope_cells t rope ≡ all_cells st.sizes
    → OfText t st rope P → OfAllFiles st P
of_all t st rope P is told source agrees stated =
    subst P (ap (text source) is ∙ text_of_files st.sizes source (range_with_len 0 (length st.sizes)))
    (told source agrees (each_cell t rope (IsStated st) tt (subst (AreStated st) (sym is) (first_stated st.sizes st (length st.sizes) stated)) 0 (rope_len t rope)))

-- the rope of some sources, and later that of those behind them
pub two_ranges : (t u : Table) (sizes : List ℕ) (first m n count : ℕ) (left right : Option NodeId) → IsSound t → IsSound u → HasTrueRecords u → Extends t u → m + n ≡ count → IsRope t left → rope_cells t left ≡ cells_of_sources sizes first m → IsRope u right → rope_cells u right ≡ cells_of_sources sizes (first + m) n
    → (rope_cells u left ++ rope_cells u right ≡ cells_of_sources sizes first count) × (rope_len u left + rope_len u right ≡ length (cells_of_sources sizes first count))
two_ranges t u sizes first m n count left right sound sound_u true_u extends all is_left first_part is_right second_part =
    let kept : IsRope u left = rope_kept t u extends left is_left in
    let before : rope_cells u left ≡ cells_of_sources sizes first m = rope_cells_kept t u sound extends left is_left ∙ first_part in
    let both : rope_cells u left ++ rope_cells u right ≡ cells_of_sources sizes first count = ap₂ (λ (cs ds : List Cell). cs ++ ds) before second_part ∙ sym (cells_in_two sizes first m n) ∙ ap (cells_of_sources sizes first) all in (
      both,
      omega (arith, ap length both, length-append (rope_cells u left) (rope_cells u right), rope_length u sound_u true_u left kept, rope_length u sound_u true_u right is_right),
    )
