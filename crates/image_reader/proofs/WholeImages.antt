-- Whole images: bytes without a fault are spelled as they were, and what is spelled is read again.
use Rattle.std.proofs.Common.{lit<, ◌≡◌, ◌^◌, ◌<◌, subst, ℕ, ◌+◌, ◌-◌, ◌*◌, ◌≤◌, false, not, eqb, ltb, ◌||◌, ◌&&◌, List, [], ◌∷◌, ◌++◌, length, map, take, drop, get_or, Some, None, refl, sym, ap, ◌∙◌, append_assoc, arith}
use Rattle.std.specs.List.{flat_map, sum_by, AllByRecursion}
use Rattle.std.proofs.Math.Nat.{mul-suc, mul-zero}
use Rattle.std.specs.Int.{w32, w64}
use Rattle.std.specs.Prelude.{Result, Ok, Err, IfOk}
use Rattle.std.specs.Result.{result_err}
use Rattle.std.proofs.lemmas.Bool.{or_parts, or_from, not-false, eqb-true, eq-eqb, ltb-false, le-ltb}
use Rattle.std.proofs.lemmas.List.{take-append-drop, take_at, drop_at, length-append, length-drop}
use Rattle.image_reader.specs.declared.fault.ReadFault.{ReadFault}
use Rattle.image_reader.specs.declared.fault.ReadFault.TheVariants.{Truncated, Trailing, Magic, Version, Count, NonZeroPad}
use Rattle.image_reader.specs.declared.version.FormatVersion.{FormatVersion}
use Rattle.image_reader.specs.declared.version.FormatVersion.TheVariants.{One, Two}
use Rattle.image_reader.specs.declared.header.Header.{Header}
use Rattle.image_reader.specs.declared.section.Sections.{Sections}
use Rattle.image_reader.specs.declared.revision.Revision.{Revision}
use Rattle.command_parts.specs.declared.edit.TheConstants.{MOST_REVISIONS, SPLICES_LIMIT}
use Rattle.command_parts.specs.Fields.{splices_of}
use Rattle.image_reader.specs.declared.header.TheConstants.{MAGIC, MOST_POOL}
use Rattle.span_certificate.specs.declared.making.TheConstants.{ROWS_LIMIT}
use Rattle.rope_node.specs.declared.limits.TheConstants.{MOST_NODES, MOST_SOURCES}
use Rattle.image_reader.specs.Layout.{IsBytes, spelled, number_in, records}
use Rattle.image_reader.specs.Versions.{version_number, version_by, is_two}
use Rattle.image_reader.specs.Value.{ImageValue, IsImage, FitsSource, FitsNode, FitsRevision, FitsSplice, FitsRow}
use Rattle.image_reader.specs.Spelling.{records_spelling, header_layout, header_numbers, source_spelling, node_spelling, revision_spelling, splice_spelling, row_spelling, spelling}
use Rattle.image_reader.specs.Reading.{HasEnoughBytes, SaysImage, records_value, AreSections, HasHeader, source_of, image_node, revisions_of, splice_of, row_of, version_in, source_count, node_count, revision_count, splice_count, row_count, pool_len, stated_len, is_over_limit, is_unknown_version, has_header_pad, from_sources, from_nodes, from_revisions, from_splices, from_rows, from_pool, sections_value, image_in, front_fault, header_fault, source_record_fault, node_record_fault, row_record_fault, counted_rows, counted_splices, first_fault, sections_fault, fault_of}
use Rattle.image_reader.proofs.Faults.{else_none, fault_if_none}
use Rattle.image_reader.proofs.Cutting.{length-map-records}
use Rattle.image_reader.proofs.Fields.{AreWide, FitFields, wide32, wide64, IsBytes-drop, numbers_from, spelled_back, spelled_again, length-spelled}
use Rattle.image_reader.proofs.RecordLaws.{source_record, row_record}
use Rattle.image_reader.proofs.SpliceRecords.{splice_record, no_fault, none_at_fault}
use Rattle.image_reader.proofs.Versions.{MaySay, may_say, not_over, no_pad, version_back, version_again, version_known, none_spliced}
use Rattle.image_reader.proofs.RevisionRecords.{revision_len}
use Rattle.image_reader.proofs.RevisionSections.{length-revisions, sum_rows, sum_splices, revisions_back, revisions_again}
use Rattle.image_reader.proofs.NodeRecords.{node_record}
use Rattle.image_reader.proofs.SectionLaws.{section_back, section_again}

header_wide : AreWide header_layout
header_wide = (wide64, (wide32, (wide32, (wide32, (wide32, (wide32, (wide32, (wide64, tt))))))))

-- what a header without a fault by itself says
pub record IsFront (bytes : List ℕ) : Type 0 where
  pub begins : number_in w64 0 bytes ≡ MAGIC
  pub version : version_number (version_in bytes) ≡ number_in w32 8 bytes
  pub known : is_unknown_version bytes ≡ false
  pub sources : source_count bytes ≤ MOST_SOURCES
  pub nodes : node_count bytes ≤ MOST_NODES
  pub revisions : revision_count bytes ≤ MOST_REVISIONS
  pub rows : row_count bytes ≤ ROWS_LIMIT
  pub pool : pool_len bytes ≤ MOST_POOL
  pub splices : MaySay (version_in bytes) (splice_count bytes)

-- and of bytes that are as many as it states
pub record IsHeader (bytes : List ℕ) : Type 0 where
  pub long : 40 ≤ length bytes
  pub front : IsFront bytes
  pub whole : length bytes ≡ 40 + 8 * source_count bytes + 32 * node_count bytes + 56 * revision_count bytes + 32 * splice_count bytes + 24 * row_count bytes + pool_len bytes

pub front_back : (bytes : List ℕ) → front_fault bytes ≡ None → IsFront bytes
unfolding front_fault
front_back bytes none =
    let p1 = else_none _ _ none in
    let p2 = else_none _ _ p1.1 in
    let p3 = else_none _ _ p2.1 in
    let limits : is_over_limit bytes ≡ false = fault_if_none (is_over_limit bytes) Count p3.0 in
    let spliced = is_two (version_in bytes) && ltb SPLICES_LIMIT (splice_count bytes) in
    let l0 = or_parts (ltb MOST_SOURCES (source_count bytes)) (ltb MOST_NODES (node_count bytes) || (ltb MOST_REVISIONS (revision_count bytes) || (ltb ROWS_LIMIT (row_count bytes) || (spliced || ltb MOST_POOL (pool_len bytes))))) limits in
    let l1 = or_parts (ltb MOST_NODES (node_count bytes)) (ltb MOST_REVISIONS (revision_count bytes) || (ltb ROWS_LIMIT (row_count bytes) || (spliced || ltb MOST_POOL (pool_len bytes)))) l0.1 in
    let l2 = or_parts (ltb MOST_REVISIONS (revision_count bytes)) (ltb ROWS_LIMIT (row_count bytes) || (spliced || ltb MOST_POOL (pool_len bytes))) l1.1 in
    let l3 = or_parts (ltb ROWS_LIMIT (row_count bytes)) (spliced || ltb MOST_POOL (pool_len bytes)) l2.1 in
    let l4 = or_parts spliced (ltb MOST_POOL (pool_len bytes)) l3.1 in
    let known = fault_if_none (is_unknown_version bytes) Version p2.0 in
    record {
      begins = eqb-true _ _ (not-false _ (fault_if_none (not (eqb (number_in w64 0 bytes) MAGIC)) Magic p1.0));
      version = version_back (number_in w32 8 bytes) known;
      known = known;
      sources = ltb-false _ _ l0.0;
      nodes = ltb-false _ _ l1.0;
      revisions = ltb-false _ _ l2.0;
      rows = ltb-false _ _ l3.0;
      pool = ltb-false _ _ l4.1;
      splices = may_say (version_in bytes) (splice_count bytes) l4.0 (fault_if_none (has_header_pad bytes) NonZeroPad p3.1);
    }

front_again : (bytes : List ℕ) → IsFront bytes → front_fault bytes ≡ None
unfolding front_fault
front_again bytes h =
    let begins = eq-eqb _ _ h.begins in
    let limits : is_over_limit bytes ≡ false = or_from _ _ (le-ltb _ _ h.sources) (or_from _ _ (le-ltb _ _ h.nodes) (or_from _ _ (le-ltb _ _ h.revisions) (or_from _ _ (le-ltb _ _ h.rows) (or_from _ _ (not_over (version_in bytes) (splice_count bytes) h.splices) (le-ltb _ _ h.pool))))) in
    let pad : has_header_pad bytes ≡ false = no_pad (version_in bytes) (splice_count bytes) h.splices in
    rw (begins, h.known, limits, pad) refl

header_back : (bytes : List ℕ) → header_fault bytes ≡ None → IsHeader bytes
unfolding header_fault stated_len
header_back bytes none =
    let p0 = else_none _ _ none in
    let p1 = else_none _ _ p0.1 in
    let p2 = else_none _ _ p1.1 in
    let not_short : stated_len bytes ≤ length bytes = ltb-false _ _ (fault_if_none (ltb (length bytes) (stated_len bytes)) Truncated p2.0) in
    let not_long : length bytes ≤ stated_len bytes = ltb-false _ _ (fault_if_none (ltb (stated_len bytes) (length bytes)) Trailing p2.1) in
    record {
      long = ltb-false _ _ (fault_if_none (ltb (length bytes) 40) Truncated p0.0);
      front = front_back bytes p1.0;
      whole = omega (arith, not_short, not_long);
    }

header_again : (bytes : List ℕ) → IsHeader bytes → header_fault bytes ≡ None
unfolding header_fault stated_len
header_again bytes h =
    let long = le-ltb (length bytes) 40 h.long in
    let not_short = le-ltb (length bytes) (stated_len bytes) (omega (arith, h.whole)) in
    let not_long = le-ltb (stated_len bytes) (length bytes) (omega (arith, h.whole)) in
    rw (long, front_again bytes h.front, not_short, not_long) refl

header_spelled : (bytes : List ℕ) → IsBytes bytes → IsHeader bytes → take 40 bytes ≡ spelled header_layout (MAGIC ∷ version_number (version_in bytes) ∷ source_count bytes ∷ node_count bytes ∷ revision_count bytes ∷ row_count bytes ∷ splice_count bytes ∷ pool_len bytes ∷ [])
unfolding numbers_from
header_spelled bytes h is =
    let rest : List ℕ = source_count bytes ∷ node_count bytes ∷ revision_count bytes ∷ row_count bytes ∷ splice_count bytes ∷ pool_len bytes ∷ [] in
    let same : numbers_from header_layout 0 bytes ≡ MAGIC ∷ version_number (version_in bytes) ∷ rest = ap (λ (n : ℕ). n ∷ number_in w32 8 bytes ∷ rest) is.front.begins ∙ ap (λ (n : ℕ). MAGIC ∷ n ∷ rest) (sym is.front.version) in
    sym (spelled_back header_layout header_wide 0 bytes h is.long) ∙ ap (spelled header_layout) same

-- bytes without a fault
pub whole_back : (bytes : List ℕ) → IsBytes bytes → fault_of bytes ≡ None → IsImage (image_in bytes) × (bytes ≡ spelling (image_in bytes))
unfolding fault_of sections_fault records_value spelling counted_rows counted_splices
whole_back bytes h none =
    let p0 = else_none _ _ none in
    let p1 = else_none _ _ p0.1 in
    let p2 = else_none _ _ p1.1 in
    let p3 = else_none _ _ p2.1 in
    let p4 = else_none _ _ p3.1 in
    let p5 = else_none _ _ p4.1 in
    let version = version_in bytes in
    let is = header_back bytes p0.0 in
    let s = source_count bytes in
    let n = node_count bytes in
    let k = revision_count bytes in
    let i = splice_count bytes in
    let j = row_count bytes in
    let b0 = from_sources bytes in
    let b1 = from_nodes bytes in
    let b2 = from_revisions bytes in
    let b3 = from_splices bytes in
    let b4 = from_rows bytes in
    let b5 = from_pool bytes in
    let len0 : length b0 ≡ length bytes - 40 = length-drop 40 bytes in
    let len1 : length b1 ≡ length b0 - 8 * s = length-drop (8 * s) b0 in
    let len2 : length b2 ≡ length b1 - 32 * n = length-drop (32 * n) b1 in
    let len3 : length b3 ≡ length b2 - 56 * k = length-drop (56 * k) b2 in
    let len4 : length b4 ≡ length b3 - 32 * i = length-drop (32 * i) b3 in
    let len5 : length b5 ≡ length b4 - 24 * j = length-drop (24 * j) b4 in
    let h0 = IsBytes-drop 40 bytes h in
    let h1 = IsBytes-drop (8 * s) b0 h0 in
    let h2 = IsBytes-drop (32 * n) b1 h1 in
    let h3 = IsBytes-drop (56 * k) b2 h2 in
    let h4 = IsBytes-drop (32 * i) b3 h3 in
    let h5 = IsBytes-drop (24 * j) b4 h4 in
    let sources = section_back source_of source_spelling source_record_fault FitsSource 8 source_record s b0 (omega (arith, is.whole)) h0 p1.0 in
    let nodes = section_back image_node node_spelling node_record_fault FitsNode 32 node_record n b1 (omega (arith, is.whole)) h1 p2.0 in
    let revisions = revisions_back version 0 k b2 (omega (arith, is.whole)) h2 p3.0 in
    let splices = section_back splice_of splice_spelling no_fault FitsSplice 32 splice_record i b3 (omega (arith, is.whole)) h3 (none_at_fault (records 32 i b3)) in
    let rows = section_back row_of row_spelling row_record_fault FitsRow 24 row_record j b4 (omega (arith, is.whole)) h4 p5.1 in
    let count_s = length-map-records source_of 8 s b0 in
    let count_n = length-map-records image_node 32 n b1 in
    let count_k = length-revisions 0 k b2 in
    let count_i = length-map-records splice_of 32 i b3 in
    let count_j = length-map-records row_of 24 j b4 in
    let pool : length b5 ≡ pool_len bytes = omega (arith, is.whole) in
    let counted : counted_rows k b2 ≡ j = eqb-true _ _ (not-false _ (fault_if_none (not (eqb (counted_rows k b2) j)) Count p4.0)) in
    let spliced : counted_splices k b2 ≡ i = eqb-true _ _ (not-false _ (fault_if_none (not (eqb (counted_splices k b2) i)) Count p5.0)) in (
      record {
        sources = sources.0;
        nodes = nodes.0;
        revisions = revisions.fit;
        placed = revisions.placed;
        splices = splices.0;
        rows = rows.0;
        pool = h5;
        few_sources = rw count_s is.front.sources;
        few_nodes = rw count_n is.front.nodes;
        few_revisions = rw count_k is.front.revisions;
        few_splices = rw count_i is.front.splices.few;
        few_rows = rw count_j is.front.rows;
        small_pool = rw pool is.front.pool;
        rows_counted = sum_rows 0 (records 56 k b2) ∙ counted ∙ sym count_j;
        splices_counted = sum_splices 0 (records 56 k b2) ∙ spliced ∙ sym count_i;
      },
      sym (take-append-drop 40 bytes)
          ∙ ap (λ (xs : List ℕ). xs ++ b0) (header_spelled bytes h is)
          ∙ rw (count_s, count_n, count_k, count_i, count_j, pool)
          (ap (λ (xs : List ℕ). spelled header_layout (MAGIC ∷ version_number version ∷ s ∷ n ∷ k ∷ j ∷ i ∷ pool_len bytes ∷ []) ++ xs)
          (sources.1 ∙ ap (λ (xs : List ℕ). flat_map source_spelling (map source_of (records 8 s b0)) ++ xs)
          (nodes.1 ∙ ap (λ (xs : List ℕ). flat_map node_spelling (map image_node (records 32 n b1)) ++ xs)
          (revisions.same ∙ ap (λ (xs : List ℕ). flat_map revision_spelling (revisions_of 0 (records 56 k b2)) ++ xs)
          (splices.1 ∙ ap (λ (xs : List ℕ). flat_map splice_spelling (map splice_of (records 32 i b3)) ++ xs)
          rows.1))))),
    )

header_fields : (v : ImageValue) → IsImage v → FitFields header_layout (header_numbers v)
header_fields v is = (lit< tt, (number_small v.version, (omega (arith, is.few_sources), (omega (arith, is.few_nodes), (omega (arith, is.few_revisions), (omega (arith, is.few_rows), (omega (arith, is.few_splices), (omega (arith, is.small_pool), tt))))))))
  where
    number_small : (version : FormatVersion) → version_number version < 2 ^ 32
    number_small One = lit< tt
    number_small Two = lit< tt

-- the bytes from each section on, where they spell an image
abbrev rows_on : ImageValue → List ℕ
rows_on v = flat_map row_spelling v.rows ++ v.pool

abbrev splices_on : ImageValue → List ℕ
splices_on v = flat_map splice_spelling v.splices ++ rows_on v

abbrev revisions_on : ImageValue → List ℕ
revisions_on v = flat_map revision_spelling v.revisions ++ splices_on v

abbrev nodes_on : ImageValue → List ℕ
nodes_on v = flat_map node_spelling v.nodes ++ revisions_on v

abbrev sources_on : ImageValue → List ℕ
sources_on v = flat_map source_spelling v.sources ++ nodes_on v

length-section : {X : Type 0} (spell : X → List ℕ) (size : ℕ) (Fits : X → Type 0) → ((x : X) → Fits x → length (spell x) ≡ size) → (xs : List X) → AllByRecursion Fits xs → length (flat_map spell xs) ≡ size * length xs
length-section spell size Fits len [] fits = rw mul-zero refl
length-section spell size Fits len (x ∷ xs) fits = rw (length-append, len x fits.0, length-section spell size Fits len xs fits.1, mul-suc) (omega arith)

says : (v : ImageValue) → IsImage v → MaySay v.version (length v.splices)
says v is = record {
  few = is.few_splices;
  none = λ one. sym is.splices_counted ∙ none_spliced v.revisions (subst (λ (version : FormatVersion). AllByRecursion (FitsRevision version) v.revisions) one is.revisions);
}

pub whole_again : (v : ImageValue) → IsImage v → (fault_of (spelling v) ≡ None) × (image_in (spelling v) ≡ v)
unfolding fault_of sections_fault records_value spelling counted_rows counted_splices numbers_from
whole_again v is =
    let header : List ℕ = spelled header_layout (header_numbers v) in
    let bytes : List ℕ = header ++ sources_on v in
    let e : numbers_from header_layout 0 bytes ≡ header_numbers v = spelled_again header_layout header_wide (header_numbers v) (header_fields v is) [] (sources_on v) 0 refl in
    let at : (k : ℕ) → get_or (numbers_from header_layout 0 bytes) k 0 ≡ get_or (header_numbers v) k 0 = λ k. ap (λ (ns : List ℕ). get_or ns k 0) e in
    let count_s : source_count bytes ≡ length v.sources = at 2 in
    let count_n : node_count bytes ≡ length v.nodes = at 3 in
    let count_k : revision_count bytes ≡ length v.revisions = at 4 in
    let count_j : row_count bytes ≡ length v.rows = at 5 in
    let count_i : splice_count bytes ≡ length v.splices = at 6 in
    let pool : pool_len bytes ≡ length v.pool = at 7 in
    let number : number_in w32 8 bytes ≡ version_number v.version = at 1 in
    let version : version_in bytes ≡ v.version = ap version_by number ∙ version_again v.version in
    let header_len : length header ≡ 40 = length-spelled header_layout header_wide (header_numbers v) (header_fields v is) in
    let sources = section_again source_of source_spelling source_record_fault FitsSource 8 source_record v.sources (nodes_on v) is.sources in
    let nodes = section_again image_node node_spelling node_record_fault FitsNode 32 node_record v.nodes (revisions_on v) is.nodes in
    let revisions = revisions_again v.version 0 v.revisions (splices_on v) is.revisions is.placed in
    let splices = section_again splice_of splice_spelling no_fault FitsSplice 32 splice_record v.splices (rows_on v) is.splices in
    let rows = section_again row_of row_spelling row_record_fault FitsRow 24 row_record v.rows v.pool is.rows in
    let b0 : drop 40 bytes ≡ sources_on v = drop_at header (sources_on v) 40 header_len in
    let len_s = length-section source_spelling 8 FitsSource source_record.len v.sources is.sources in
    let len_n = length-section node_spelling 32 FitsNode node_record.len v.nodes is.nodes in
    let len_k = length-section revision_spelling 56 (FitsRevision v.version) (revision_len v.version) v.revisions is.revisions in
    let len_i = length-section splice_spelling 32 FitsSplice splice_record.len v.splices is.splices in
    let len_j = length-section row_spelling 24 FitsRow row_record.len v.rows is.rows in
    let len : length bytes ≡ 40 + 8 * length v.sources + 32 * length v.nodes + 56 * length v.revisions + 32 * length v.splices + 24 * length v.rows + length v.pool =
    rw (length-append, header_len, length-append, len_s, length-append, len_n, length-append, len_k, length-append, len_i, length-append, len_j) (omega arith) in
    let good : IsHeader bytes = record {
      long = omega arith;
      front = record {
        begins = at 0;
        version = ap version_number version ∙ sym number;
        known = rw number (version_known v.version);
        sources = rw count_s is.few_sources;
        nodes = rw count_n is.few_nodes;
        revisions = rw count_k is.few_revisions;
        rows = rw count_j is.few_rows;
        pool = rw pool is.small_pool;
        splices = rw (version, count_i) (says v is);
      };
      whole = rw (count_s, count_n, count_k, count_i, count_j, pool) len;
    } in
    let cells : List (List ℕ) = records 56 (length v.revisions) (revisions_on v) in
    let counted = eq-eqb _ _ (sym (sum_rows 0 cells) ∙ ap (sum_by (λ (r : Revision). r.rows)) revisions.same ∙ is.rows_counted) in
    let spliced = eq-eqb _ _ (sym (sum_splices 0 cells) ∙ ap (sum_by (λ (r : Revision). splices_of r.edit)) revisions.same ∙ is.splices_counted) in (
      rw (header_again bytes good, version, count_s, count_n, count_k, count_i, count_j, b0, sources.behind, nodes.behind, revisions.behind, splices.behind, sources.sound, nodes.sound, revisions.sound, counted, spliced, rows.sound) refl,
      rw (version, count_s, count_n, count_k, count_i, count_j, b0, sources.behind, nodes.behind, revisions.behind, splices.behind, rows.behind, sources.same, nodes.same, revisions.same, splices.same, rows.same) refl,
    )

-- what reading promises, from which fault it finds and what it gives
pub is_found : (bytes : List ℕ) (r : Result ImageValue ReadFault) → IsBytes bytes → result_err r ≡ fault_of bytes → IfOk r (λ v. v ≡ image_in bytes) → IfOk r (λ v. IsImage v × (bytes ≡ spelling v))
is_found bytes (Ok v) h fault value = rw value (whole_back bytes h (sym fault))
is_found bytes (Err f) h fault value = tt

pub is_only : (bytes : List ℕ) (r : Result ImageValue ReadFault) → result_err r ≡ fault_of bytes → IfOk r (λ v. v ≡ image_in bytes) → (v : ImageValue) → IsImage v → bytes ≡ spelling v → r ≡ Ok v
is_only bytes (Ok x) fault value v is spelled_so = ap Ok (value ∙ ap image_in spelled_so ∙ (whole_again v is).1)
is_only bytes (Err f) fault value v is spelled_so =
    let none : Some f ≡ None = fault ∙ ap fault_of spelled_so ∙ (whole_again v is).0 in
    absurd cc

-- the records in front of the pool
records_back : (bytes : List ℕ) (v : ImageValue) → IsImage v → bytes ≡ spelling v → take (length (drop 40 bytes) - length v.pool) (drop 40 bytes) ≡ records_spelling v
unfolding spelling
records_back bytes v is same =
    let header : List ℕ = spelled header_layout (header_numbers v) in
    let len : length header ≡ 40 = length-spelled header_layout header_wide (header_numbers v) (header_fields v is) in
    let grouped : sources_on v ≡ records_spelling v ++ v.pool = simp append_assoc in
    let rest : drop 40 bytes ≡ records_spelling v ++ v.pool = ap (drop 40) same ∙ drop_at header (sources_on v) 40 len ∙ grouped in
    let count : length (records_spelling v) ≡ length (records_spelling v ++ v.pool) - length v.pool = omega (arith, length-append (records_spelling v) v.pool) in
    rw rest (take_at (records_spelling v) v.pool (length (records_spelling v ++ v.pool) - length v.pool) count)

-- what the sections of bytes without a fault are
pub sections_image : (bytes : List ℕ) (h : Header) (x : Sections) → IsBytes bytes → HasHeader bytes h → fault_of bytes ≡ None → AreSections h bytes x → HasEnoughBytes h x
    → SaysImage h x (take (length x.sources.now - length x.pool.now) x.sources.now)
unfolding fault_of sections_fault records_value
sections_image bytes h x is_bytes header none are enough =
    let back = whole_back bytes is_bytes none in
    let in_front = records_back bytes (image_in bytes) back.0 back.1 in
    let nodes : first_fault node_record_fault (records 32 (node_count bytes) (from_nodes bytes)) ≡ None = (else_none _ _ (else_none _ _ (else_none _ _ none).1).1).0 in
    record {
      enough = enough;
      image = rw (← header.version, ← header.sources, ← header.nodes, ← header.revisions, ← header.splices, ← header.rows, ← are.sources, ← are.nodes, ← are.revisions, ← are.splices, ← are.rows, ← are.pool) at back.0;
      nodes = rw (← header.sources, ← header.nodes, ← are.sources, ← are.nodes) at nodes;
      recorded = rw (← header.sources, ← header.nodes, ← header.revisions, ← header.splices, ← header.rows, ← are.sources, ← are.nodes, ← are.revisions, ← are.splices, ← are.rows, ← are.pool) at in_front;
    }
