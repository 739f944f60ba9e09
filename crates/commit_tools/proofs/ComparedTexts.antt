-- A session's texts beside a file.
use Rattle.std.proofs.Common.{◌≡◌, ℕ, zero, suc, ◌+◌, ◌<◌, ◌≤◌, List, [], ◌∷◌, length, map, take, drop, get_or, Option, None, refl, sym, ap, subst, ◌∙◌, arith, inl, inr}
use Rattle.std.specs.Prelude.{◌≢◌, slice_index, nat_eq, cond}
use Rattle.std.proofs.lemmas.Bool.{cases_lt, cond-true, eq-eqb}
use Rattle.std.proofs.lemmas.List.{length-map, take_all}
use Rattle.std.proofs.lemmas.List.Sums.{sum_by-cons}
use Rattle.std.proofs.Math.Seq.{drop-cons}
use Rattle.function_leaf.specs.declared.coded.Coded.{Coded}
use Rattle.function_leaf.specs.Coded.{coded_byte}
use Rattle.lazy_file.specs.SourceTexts.{Stated}
use Rattle.lazy_file.specs.Readings.{Reading, Reads}
use Rattle.lazy_file.specs.declared.faults.SourceFault.{SourceFault}
use Rattle.lazy_file.proofs.LaterReads.{reads_weaker}
use Rattle.rope_node.specs.declared.node.NodeId.{NodeId}
use Rattle.rope_node.specs.Table.{Table}
use Rattle.rope_node.specs.Denotes.{cell_byte, rope_cells, rope_len}
use Rattle.node_table.specs.Held.{Held, table_of}
use Rattle.cord_position.specs.Fetched.{InCells, rope_cell}
use Rattle.cord_search.specs.Stated.{OfText}
use Rattle.command_parts.specs.Parts.{root_at}
use Rattle.edit_commands.specs.Session.{SessionValue, HoldsHistory, length_at, roots_of, session_table}
use Rattle.edit_commands.specs.declared.revision.Revision.{Revision}
use Rattle.commit_tools.specs.Earlier.{HaveOthers, count_as_long}
use Rattle.commit_tools.specs.Texts.{InTextsAsLong, OverRevision, revision_root, text_in}
use Rattle.commit_tools.proofs.RopeReads.{over_same}

-- ---- lengths

lengths_at : (t : Table) (roots : List (Option NodeId)) (r : ℕ) → map length (map (rope_cells t) roots) ≡ map (rope_len t) roots
    → length (rope_cells t (get_or roots r None)) ≡ rope_len t (get_or roots r None)
lengths_at t [] zero e = refl
lengths_at t [] (suc r) e = refl
lengths_at t (root ∷ roots) zero e = cc
lengths_at t (root ∷ roots) (suc r) e = lengths_at t roots r cc

-- a text is as long as its revision
pub text_length : (v : SessionValue) (r : ℕ) (source : ℕ → ℕ → ℕ) → HoldsHistory v → length (text_in source v r) ≡ length_at v r
text_length v r source history =
    length-map (rope_cells (session_table v) (revision_root v r)) (cell_byte source) ∙ lengths_at (session_table v) (roots_of v.revisions) r history.lengths

pub length_here : (v : SessionValue) (h : Held Coded) (rope : Option NodeId) (r : ℕ) → h ≡ v.held → rope ≡ revision_root v r → rope_len (table_of coded_byte h) rope ≡ length_at v r
length_here v h rope r held root = ap (rope_len (table_of coded_byte h)) root ∙ ap (λ (k : Held Coded). rope_len (table_of coded_byte k) (revision_root v r)) held

-- ---- a revision's text and a file

-- what is told of a rope's text, over the same sources, is told of the revision's
over_revision : (v : SessionValue) (h : Held Coded) (rope : Option NodeId) (a b : Reading) (r : ℕ) (P : List ℕ → Type 0) → h ≡ v.held → rope ≡ revision_root v r → b ≡ a
    → OfText (table_of coded_byte h) b.stated rope P → OverRevision a.stated v r (λ source. P (text_in source v r))
over_revision v h rope a b r P held root unread of =
    let before : OfText (table_of coded_byte h) a.stated rope P = over_same (table_of coded_byte h) rope P b a unread of in
    let here : OfText (table_of coded_byte v.held) a.stated rope P = subst (λ (k : Held Coded). OfText (table_of coded_byte k) a.stated rope P) held before in
    subst (λ (x : Option NodeId). OfText (table_of coded_byte v.held) a.stated x P) root here

pub text_is : (v : SessionValue) (h : Held Coded) (rope : Option NodeId) (a b : Reading) (r n : ℕ) (file : List ℕ) → h ≡ v.held → rope ≡ revision_root v r → b ≡ a → HoldsHistory v
    → rope_len (table_of coded_byte h) rope ≡ length file → n ≡ length file → OfText (table_of coded_byte h) b.stated rope (λ u. take n u ≡ take n file)
    → OverRevision a.stated v r (λ source. text_in source v r ≡ file)
text_is v h rope a b r n file held root unread history long all same = λ source agrees stated.
    let u = text_in source v r in
    let front : take n u ≡ take n file = over_revision v h rope a b r (λ u. take n u ≡ take n file) held root unread same source agrees stated in
    let whole : length u ≡ n = text_length v r source history ∙ sym (length_here v h rope r held root) ∙ long ∙ sym all in
    sym (take_all n u (omega (arith, whole))) ∙ front ∙ take_all n file (omega (arith, all))

pub text_differs : (v : SessionValue) (h : Held Coded) (rope : Option NodeId) (a b : Reading) (r n : ℕ) (file : List ℕ) → h ≡ v.held → rope ≡ revision_root v r → b ≡ a
    → OfText (table_of coded_byte h) b.stated rope (λ u. slice_index u n ≢ slice_index file n) → OverRevision a.stated v r (λ source. text_in source v r ≢ file)
text_differs v h rope a b r n file held root unread differ = λ source agrees stated same.
    over_revision v h rope a b r (λ u. slice_index u n ≢ slice_index file n) held root unread differ source agrees stated (ap (λ (u : List ℕ). slice_index u n) same)

pub text_longer : (v : SessionValue) (h : Held Coded) (rope : Option NodeId) (st : Stated) (r : ℕ) (file : List ℕ) → h ≡ v.held → rope ≡ revision_root v r → HoldsHistory v
    → rope_len (table_of coded_byte h) rope ≢ length file → OverRevision st v r (λ source. text_in source v r ≢ file)
text_longer v h rope st r file held root history other = λ source agrees stated same.
    other (length_here v h rope r held root ∙ sym (text_length v r source history) ∙ ap (length {A = ℕ}) same)

-- ---- the texts from a revision on

pub others_more : (st : Stated) (v : SessionValue) (file : List ℕ) (before r : ℕ) → before ≡ r + 1 → OverRevision st v r (λ source. text_in source v r ≢ file) → HaveOthers st v file before → HaveOthers st v file r
others_more st v file before r next here others q le lt =
    elim (cases_lt r q) [
      | inl more ↦ others q (omega (arith, more, next)) lt
      | inr last ↦ let same : r ≡ q = omega (arith, last, le) in subst (λ (k : ℕ). OverRevision st v k (λ source. text_in source v k ≢ file)) same here
    ]

-- whether a root's text has n bytes, as a number
abbrev one_as_long : Table → ℕ → Option NodeId → ℕ
one_as_long t n root = cond (nat_eq (rope_len t root) n) 1 0

count_cons : (t : Table) (n : ℕ) (root : Option NodeId) (roots : List (Option NodeId)) → count_as_long t n (root ∷ roots) ≡ one_as_long t n root + count_as_long t n roots
count_cons t n root roots = sum_by-cons (one_as_long t n) root roots

at_root : (roots : List (Option NodeId)) (r : ℕ) → r < length roots → drop r roots ≡ root_at roots r ∷ drop (suc r) roots
at_root roots r there = drop-cons roots r None there

-- how many texts from a revision on have n bytes
abbrev pub as_long_from : SessionValue → ℕ → ℕ → ℕ
as_long_from v n r = count_as_long (session_table v) n (drop r (roots_of v.revisions))

-- one text more is no less
pub count_more : (v : SessionValue) (n before r : ℕ) → before ≡ r + 1 → r < length v.revisions → as_long_from v n before ≤ as_long_from v n r
count_more v n before r next there =
    let t = session_table v in
    let roots = roots_of v.revisions in
    let step = at_root roots r (omega (arith, there, length-map v.revisions (λ (r : Revision). r.root))) in
    let own : before ≡ suc r = omega (arith, next) in
    omega (arith, ap (λ (k : ℕ). count_as_long t n (drop k roots)) own, ap (count_as_long t n) step, count_cons t n (root_at roots r) (drop (suc r) roots))

-- and one as long counts
pub count_one : (v : SessionValue) (h : Held Coded) (rope : Option NodeId) (n before r : ℕ) → before ≡ r + 1 → r < length v.revisions → h ≡ v.held → rope ≡ revision_root v r → rope_len (table_of coded_byte h) rope ≡ n
    → as_long_from v n r ≡ 1 + as_long_from v n before
count_one v h rope n before r next there held root long =
    let t = session_table v in
    let roots = roots_of v.revisions in
    let rest : ℕ = count_as_long t n (drop (suc r) roots) in
    let same : rope_len t (root_at roots r) ≡ n = sym (length_here v h rope r held root) ∙ long in
    let own : suc r ≡ before = omega (arith, next) in
    ap (count_as_long t n) (at_root roots r (omega (arith, there, length-map v.revisions (λ (r : Revision). r.root))))
    ∙ count_cons t n (root_at roots r) (drop (suc r) roots)
    ∙ ap (λ (k : ℕ). k + rest) (cond-true (nat_eq (rope_len t (root_at roots r)) n) 1 0 (eq-eqb (rope_len t (root_at roots r)) n same))
    ∙ ap (λ (k : ℕ). 1 + count_as_long t n (drop k roots)) own

-- ---- reads

-- cells of a text as long as the file
pub reads_as_long : (v : SessionValue) (h : Held Coded) (rope : Option NodeId) (r : ℕ) (file : List ℕ) (before after : Reading) (fault : Option SourceFault) → h ≡ v.held → rope ≡ revision_root v r
    → rope_len (table_of coded_byte h) rope ≡ length file
    → Reads before after (InCells (rope_cell (table_of coded_byte h) rope) 0 (rope_len (table_of coded_byte h) rope)) fault
    → Reads before after (InTextsAsLong v file) fault
reads_as_long v h rope r file before after fault held root long reads =
    let here : Reads before after (InCells (rope_cell (table_of coded_byte v.held) rope) 0 (rope_len (table_of coded_byte v.held) rope)) fault =
    subst (λ (k : Held Coded). Reads before after (InCells (rope_cell (table_of coded_byte k) rope) 0 (rope_len (table_of coded_byte k) rope)) fault) held reads in
    let there : Reads before after (InCells (rope_cell (session_table v) (revision_root v r)) 0 (length_at v r)) fault =
    subst (λ (x : Option NodeId). Reads before after (InCells (rope_cell (table_of coded_byte v.held) x) 0 (rope_len (table_of coded_byte v.held) x)) fault) root here in
    reads_weaker before after (InCells (rope_cell (session_table v) (revision_root v r)) 0 (length_at v r))
    (InTextsAsLong v file) fault
    (λ s p asked. (r, sym (length_here v h rope r held root) ∙ long, asked)) there
