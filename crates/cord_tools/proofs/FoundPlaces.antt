-- The places that were found in a file, window by window.
use Rattle.std.proofs.Common.{◌≡◌, ◌==◌, Bool, false, ℕ, zero, suc, ◌+◌, ◌-◌, ◌<◌, ◌≤◌, max, List, [], ◌∷◌, ◌++◌, length, map, take, drop, get_or, Option, Some, None, Err, Ok, inl, inr, refl, sym, ap, subst, ◌∙◌, arith, length-append}
use Rattle.std.specs.Prelude.{Result, IfSome, IsErrOf, codes, slice_index}
use Rattle.std.specs.Fmt.{decimal}
use Rattle.std.specs.List.{range_with_len}
use Rattle.std.specs.Io.KnownBytes.{Appends}
use Rattle.std.proofs.lemmas.List.{append-nil, get_or-drop, length-drop}
use Rattle.std.proofs.lemmas.List.Concat.{flat_map-append}
use Rattle.std.proofs.lemmas.List.FromFn.{get_or-map-range_with_len, length-map-range_with_len}
use Rattle.byte_output.specs.Prefix.{AppendsPrefix}
use Rattle.lazy_file.specs.SourceTexts.{Stated, text_at}
use Rattle.lazy_file.specs.Readings.{InSpan, Reading, Reads}
use Rattle.lazy_file.specs.declared.faults.SourceFault.{SourceFault}
use Rattle.lazy_file.proofs.AgreedBytes.{agreed_read}
use Rattle.lazy_file.proofs.LaterReads.{reads_weaker}
use Rattle.rope_node.specs.Denotes.{Cell, Place}
use Rattle.rope_node.proofs.Parts.{span-map, span-range_with_len}
use Rattle.memchr.specs.Find.{FindsNeedle}
use Rattle.cord_search.specs.Places.{StandsAt}
use Rattle.cord_tools.specs.AllPlaces.{AnswersFindAll, FindsIn, FindsOn, OfFirstPlaces, behind, place_lines, places_status}
use Rattle.cord_tools.specs.Faults.{read_fault}
use Rattle.cord_tools.specs.Files.{OfFile, file_bytes, file_cells, place_line}
use Rattle.cord_tools.specs.Unread.{IsPlaceAmong, IsUnread, ToolReadsCells}
use Rattle.cord_tools.specs.declared.fault.ToolFault.{ToolFault}
use Rattle.cord_tools.specs.declared.fault.ToolFault.TheVariants.{PatternTooLong, Write}
use Rattle.cord_tools.specs.declared.status.Status.{Status}
use Rattle.cord_tools.specs.declared.status.Status.TheVariants.{Success, Failure}
use Rattle.cord_tools.proofs.AllPlaces.{first_in, lead_as_first, lead_both, lead_nowhere, lead_past, lead_to_all, lead_to_place, none_in}
use Rattle.session_image.proofs.Sections.{appends_nothing, appends_then, prefix_then}
use Rattle.cord_tools.proofs.UnreadCells.{other_cells, read_told}

-- ---- the lines of places in bytes

-- one more line
lines_more : (places : List ℕ) (k : ℕ) → place_lines (places ++ (k ∷ [])) ≡ place_lines places ++ place_line k
lines_more places k = flat_map-append place_line places (k ∷ []) ∙ ap (λ (xs : List ℕ). place_lines places ++ xs) (append-nil (place_line k))

pub in_none : (s bytes : List ℕ) (first next : ℕ) → first ≡ next → FindsIn s bytes first next []
in_none s bytes first next is = record { places = []; lead = λ t there. lead_nowhere s t first next is; told = refl }

pub in_more : (s bytes : List ℕ) (first at k next : ℕ) (lines more : List ℕ) → FindsIn s bytes first (first + at) lines → FindsNeedle bytes s at (Some k) → more ≡ lines ++ place_line (first + k) → next ≡ behind s (first + k)
    → FindsIn s bytes first next more
in_more s bytes first at k next lines more h found is step = record {
  places = h.places ++ ((first + k) ∷ []);
  lead = λ t there. lead_to_place s t first (first + at) (first + k) next h.places (h.lead t there) (first_in s bytes t first at k there found) step;
  told = is ∙ ap (λ (xs : List ℕ). xs ++ place_line (first + k)) h.told ∙ sym (lines_more h.places (first + k));
}

pub in_past : (s bytes : List ℕ) (first at next : ℕ) (lines : List ℕ) → FindsIn s bytes first (first + at) lines → FindsNeedle bytes s at None → first + at ≤ next
    → ((j : ℕ) → first + at ≤ j → j < next → j + length s ≤ first + length bytes) → FindsIn s bytes first next lines
in_past s bytes first at next lines h none le short = record {
  places = h.places;
  lead = λ t there. lead_past s t first (first + at) next h.places (h.lead t there) le (λ j above below. none_in s bytes t first at there none j above (short j above below));
  told = h.told;
}

-- ---- bytes of a file

-- what was read stands in the file's text
pub read_stands : (st : Stated) (from n : ℕ) (read : List ℕ) → length read ≡ n → from + n ≤ slice_index st.sizes 0 → IfSome (text_at st 0) (λ t. read ≡ take n (drop from t)) → OfFile st 0 (λ t. StandsAt read t from)
read_stands st from n read long inside is source agrees stated =
    let size = get_or st.sizes 0 0 in
    let begin : 0 + from ≡ from = omega arith in
    let bytes : take n (drop from (file_bytes st.sizes source 0)) ≡ read =
    span-map (source 0) n from (range_with_len 0 size) ∙ ap (map (source 0)) (span-range_with_len n from 0 size inside ∙ ap (λ (p : ℕ). range_with_len p n) begin) ∙ sym (agreed_read st source 0 from n read agrees stated long is) in
    record {
      inside = omega (arith, length-map-range_with_len (source 0) 0 size, inside, long);
      same = ap (λ (m : ℕ). take m (drop from (file_bytes st.sizes source 0))) long ∙ bytes;
    }

pub some_bytes : (n : ℕ) (is_empty : Bool) → is_empty ≡ (n == 0) → is_empty ≡ false → 0 < n
some_bytes zero is_empty tested none = absurd cc
some_bytes (suc n) is_empty tested none = omega arith

-- no bytes stand anywhere inside it
pub none_stand : (st : Stated) (from : ℕ) (read : List ℕ) → read ≡ [] → from ≤ slice_index st.sizes 0 → OfFile st 0 (λ t. StandsAt read t from)
none_stand st from read none inside source agrees stated =
    subst (λ (xs : List ℕ). StandsAt xs (file_bytes st.sizes source 0) from) (sym none) (record {
      inside = omega (arith, length-map-range_with_len (source 0) 0 (get_or st.sizes 0 0), inside);
      same = refl;
    })

-- a read of them that failed
pub part_unread : {X : Type 0} (old new : Reading) (from n : ℕ) (e : SourceFault) → 0 < n → from + n ≤ slice_index old.stated.sizes 0 → Reads old new (InSpan 0 from (max 1 n)) (Some e)
    → ToolReadsCells {X = X} old new (drop from (file_cells old.stated.sizes 0)) (Err (read_fault e))
part_unread old new from n e some inside h = record {
  at = record {
    fault = Some e;
    reads = reads_weaker old new (InSpan 0 from (max 1 n)) (IsPlaceAmong (drop from (file_cells old.stated.sizes 0))) (Some e) (λ s p asked. among s p asked) h;
    told = read_told e;
  };
  unread = λ is. refl;
}
  where
    among : (s p : ℕ) → InSpan 0 from (max 1 n) s p → IsPlaceAmong (drop from (file_cells old.stated.sizes 0)) s p
    among s p (own, above, below) =
        let size = get_or old.stated.sizes 0 0 in
        let place : from + (p - from) ≡ p = omega (arith, above) in
        let lt : p < size = omega (arith, below, some, inside) in
        let at : get_or (drop from (file_cells old.stated.sizes 0)) (p - from) (Place 0 p) ≡ Place 0 p =
        get_or-drop from (file_cells old.stated.sizes 0) (p - from) (Place 0 p) ∙ ap (λ (m : ℕ). get_or (file_cells old.stated.sizes 0) m (Place 0 p)) place ∙ get_or-map-range_with_len (Place 0) 0 size p p (Place 0 p) lt (omega arith) in
        (p - from, Place 0 p, omega (arith, lt, above, length-drop from (file_cells old.stated.sizes 0), length-map-range_with_len (Place 0) 0 size), at, ap (λ (r : ℕ). Place r p) (sym own))

-- and of the file from an earlier place on
pub cells_earlier : {X : Type 0} (old new : Reading) (cells : List Cell) (start from : ℕ) (outcome : Result X ToolFault) → start ≤ from → ToolReadsCells old new (drop from cells) outcome → ToolReadsCells old new (drop start cells) outcome
cells_earlier old new cells start from outcome le h = record {
  at = record {
    fault = h.at.fault;
    reads = reads_weaker old new (IsPlaceAmong (drop from cells)) (IsPlaceAmong (drop start cells)) h.at.fault among h.at.reads;
    told = h.at.told;
  };
  unread = h.unread;
}
  where
    among : (s p : ℕ) → IsPlaceAmong (drop from cells) s p → IsPlaceAmong (drop start cells) s p
    among s p (k, x, lt, at, is) =
        let same : start + ((from - start) + k) ≡ from + k = omega (arith, le) in
        let there : get_or (drop start cells) ((from - start) + k) x ≡ x = get_or-drop start cells ((from - start) + k) x ∙ ap (λ (m : ℕ). get_or cells m x) same ∙ sym (get_or-drop from cells k x) ∙ at in
        ((from - start) + k, x, omega (arith, lt, le, length-drop from cells, length-drop start cells), there, is)

-- what a call read that was stopped, of sources that are as they were
pub reads_earlier : {X Y : Type 0} (old mid new : Reading) (start from : ℕ) (e : ToolFault) → mid ≡ old → start ≤ from → ToolReadsCells {X = X} mid new (drop from (file_cells mid.stated.sizes 0)) (Err e)
    → ToolReadsCells {X = Y} old new (drop start (file_cells old.stated.sizes 0)) (Err e)
reads_earlier {X} {Y} old mid new start from e same le h =
    let cells = file_cells old.stated.sizes 0 in
    let there : ToolReadsCells {X = X} old new (drop from cells) (Err e) = subst (λ (r : Reading). ToolReadsCells {X = X} r new (drop from (file_cells r.stated.sizes 0)) (Err e)) same h in
    cells_earlier {X = Y} old new cells start from (Err e) le (other_cells old new (drop from cells) e there)

-- ---- a file's places so far

-- what the search has written that has come to a place
pub record HasFound (st : Stated) (s : List ℕ) (start from : ℕ) (status : Status) (before now : Option (List ℕ)) : Type 0 where
  pub lines : List ℕ
  pub found : FindsOn st s start from lines
  pub status_of : status ≡ places_status found.places
  pub written : Appends before now lines

-- the same places, where the pattern and the sources are said otherwise
pub found_of : (mid old : Reading) (q s : List ℕ) (start next : ℕ) (lines : List ℕ) → mid ≡ old → q ≡ s → FindsOn mid.stated q start next lines → FindsOn old.stated s start next lines
found_of mid old q s start next lines same is h = subst (λ (r : Reading). FindsOn r.stated s start next lines) same (subst (λ (p : List ℕ). FindsOn mid.stated p start next lines) is h)

both : (st : Stated) (s : List ℕ) (start from next : ℕ) (lines more : List ℕ) → FindsOn st s start from lines → FindsOn st s from next more → FindsOn st s start next (lines ++ more)
both st s start from next lines more h f = record {
  places = h.places ++ f.places;
  lead = λ source agrees stated. lead_both s (file_bytes st.sizes source 0) start from next h.places f.places (h.lead source agrees stated) (f.lead source agrees stated);
  told = ap (λ (xs : List ℕ). xs ++ more) h.told ∙ ap (λ (xs : List ℕ). place_lines h.places ++ xs) f.told ∙ sym (flat_map-append place_line h.places f.places);
}

status_both : (places more lines : List ℕ) (status later : Status) → status ≡ places_status places → lines ≡ place_lines more → (lines ≡ [] → later ≡ status) → (0 < length lines → later ≡ Success) → later ≡ places_status (places ++ more)
status_both places [] lines status later was told none some = none told ∙ was ∙ ap places_status (sym (append-nil places))
status_both places (k ∷ ks) lines status later was told none some =
    some (omega (arith, ap length told, length-append (place_line k) (place_lines ks), length-append (decimal k) (codes "\n"))) ∙ sym (success places)
  where
    success : (places : List ℕ) → places_status (places ++ (k ∷ ks)) ≡ Success
    success [] = refl
    success (x ∷ xs) = refl

pub found_none : (st : Stated) (s : List ℕ) (start : ℕ) (before : Option (List ℕ)) → HasFound st s start start Failure before before
found_none st s start before = record {
  lines = [];
  found = record { places = []; lead = λ source agrees stated. lead_nowhere s (file_bytes st.sizes source 0) start start refl; told = refl };
  status_of = refl;
  written = appends_nothing before;
}

pub found_more : (st : Stated) (s : List ℕ) (start from next : ℕ) (status later : Status) (lines : List ℕ) (before mid now : Option (List ℕ)) → HasFound st s start from status before mid → FindsOn st s from next lines
    → (lines ≡ [] → later ≡ status) → (0 < length lines → later ≡ Success) → Appends mid now lines → HasFound st s start next later before now
unfolding both
found_more st s start from next status later lines before mid now h f none some more = record {
  lines = h.lines ++ lines;
  found = both st s start from next h.lines lines h.found f;
  status_of = status_both h.found.places f.places lines status later h.status_of f.told none some;
  written = appends_then before mid now h.lines lines h.written more;
}

-- ---- what is answered

first_places : (st : Stated) (s : List ℕ) (start from : ℕ) (lines : List ℕ) (P : List ℕ → Type 0) → FindsOn st s start from lines → P lines → OfFirstPlaces st start s P
first_places st s start from lines P h told = (
  h.places,
  λ source agrees stated. lead_as_first s (file_bytes st.sizes source 0) start from h.places (h.lead source agrees stated),
  subst P h.told told,
)

pub found_stopped : (st : Stated) (s : List ℕ) (start from : ℕ) (status : Status) (before now : Option (List ℕ)) (e : ToolFault) → HasFound st s start from status before now → IsUnread e → AnswersFindAll st start s before now (Err e)
found_stopped st s start from status before now e h (inl is) = rw is (first_places st s start from h.lines (Appends before now) h.found h.written)
found_stopped st s start from status before now e h (inr is) = rw is (first_places st s start from h.lines (Appends before now) h.found h.written)

pub found_unwritten : (st : Stated) (s : List ℕ) (start from next : ℕ) (status : Status) (lines : List ℕ) (before mid now : Option (List ℕ)) → HasFound st s start from status before mid → FindsOn st s from next lines → AppendsPrefix mid now lines
    → AnswersFindAll st start s before now (Err Write)
found_unwritten st s start from next status lines before mid now h f more =
    let prefix : AppendsPrefix before now (h.lines ++ lines) =
    subst (λ (xs : List ℕ). AppendsPrefix before now (h.lines ++ xs)) (append-nil lines) (prefix_then before mid now h.lines lines [] h.written more) in
    first_places st s start next (h.lines ++ lines) (AppendsPrefix before now) (both st s start from next h.lines lines h.found f) prefix

pub found_all : (st : Stated) (s : List ℕ) (start from : ℕ) (status : Status) (before now : Option (List ℕ)) → HasFound st s start from status before now → (slice_index st.sizes 0 + 1) - length s ≤ from → AnswersFindAll st start s before now (Ok status)
found_all st s start from status before now h ended = (
  h.found.places,
  λ source agrees stated.
      let t = file_bytes st.sizes source 0 in
      lead_to_all s t start from h.found.places (h.found.lead source agrees stated) (λ j above stands. absurd (omega (arith, ended, above, stands.inside, length-map-range_with_len (source 0) 0 (get_or st.sizes 0 0)))),
  h.status_of,
  subst (Appends before now) h.found.told h.written,
)

pub not_too_long : {X : Type 0} (e : ToolFault) → IsUnread e → IsErrOf {T = X} (Err e) PatternTooLong → ⊥
not_too_long e (inl is) long = absurd cc
not_too_long e (inr is) long = absurd cc
