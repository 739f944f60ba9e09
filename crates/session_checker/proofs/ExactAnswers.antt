-- What keeps the rules is not refused: over texts in memory, where there is one first fault and so one answer, and where no read is needed.
use Rattle.std.proofs.Common.{◌≡◌, ℕ, ◌+◌, ◌<◌, leb, ltb, List, length, get_or, Some, None, refl, sym, ap, subst, ◌∙◌, inl, inr}
use Rattle.std.specs.Prelude.{slice_index, ◌⊎◌, Result, Ok, Err, IsOk, IfOk, IfErr, Option}
use Rattle.std.proofs.lemmas.Bool.{and_parts, ltb-true, cases_order}
use Rattle.rope_node.specs.Table.{Table, Node}
use Rattle.rope_node.specs.Denotes.{Cell, Byte, Place}
use Rattle.lazy_file.specs.SourceTexts.{Stated}
use Rattle.lazy_file.proofs.LaterReads.{reads_succeed}
use Rattle.lazy_file.specs.Readings.{Reading, Reads}
use Rattle.lazy_file.specs.declared.faults.SourceFault.{SourceFault}
use Rattle.span_certificate.specs.Covers.{IsByte}
use Rattle.cord_position.specs.Fetched.{IsReadable, IsStated}
use Rattle.span_certificate.proofs.MadeRows.{always_stated, no_source_stated, own_rows_readable, stated_may}
use Rattle.image_reader.specs.declared.fault.ReadFault.{ReadFault}
use Rattle.image_reader.specs.Value.{ImageValue, IsImage, image_table, coded_at}
use Rattle.image_reader.specs.Spelling.{spelling}
use Rattle.image_reader.specs.Reading.{fault_of, image_in}
use Rattle.image_reader.specs.Accepted.{HasSources, AreGoodNodes, IsAlwaysAccepted, IsAcceptedNode, revision_at, parts_at, rows_at, HasGoodMark, KeepsRules}
use Rattle.image_reader.proofs.WholeImages.{whole_again}
use Rattle.session_checker.specs.declared.fault.CheckFault.{CheckFault}
use Rattle.session_checker.specs.declared.fault.CheckFault.TheVariants as faults
use Rattle.session_checker.specs.declared.node_rules.NodeRule.{NodeRule}
use Rattle.session_checker.specs.declared.node_rules.NodeRule.TheVariants.{Reference, Length, Depth, Span}
use Rattle.session_checker.specs.SourceRules.{IsFirstSourceFault, count, other_length}
use Rattle.session_checker.specs.NodeRules.{Breaks, BreaksFirst, fault_at, IsFirstNodeFault}
use Rattle.session_checker.specs.RevisionRules.{HasRowsOverNoSource, IsGoodOver, AreGoodOver, IsRevisionInRange, HasRootOfParts, IsFirstBadRow, BreaksRule, BreaksRows, IsFirstRevisionFault, source_fault, source_fault_in}
use Rattle.session_checker.specs.Accepted.{BytesAsk, StatesAll, HasGoodTables, IsFirstTableFault, IsAccepted, IsFirstFault, IsExact, NeedsNoRead, Accepts}
use Rattle.session_checker.specs.Faithful.{EachRevision}
use Rattle.session_checker.proofs.SoundTables.{sound_table, true_table}
use Rattle.session_checker.proofs.FaithfulImages.{HasReadableRows, HasStatedRows, ready}
use Rattle.span_certificate.proofs.Verdicts.{MayFit, not_both, one_first}
use Rattle.span_certificate.specs.Verdicts.{CanBeSame, SameStated}

-- two places before which all is good, and which are not
one_place : (Good : ℕ → Type 0) (a b : ℕ) → ((c : ℕ) → c < a → Good c) → ¬ Good a → ((c : ℕ) → c < b → Good c) → ¬ Good b → a ≡ b
one_place Good a b before_a bad_a before_b bad_b =
    elim (cases_order a b) [
      | inl e ↦ e
      | inr (inl lt) ↦ absurd (bad_a (before_b a lt))
      | inr (inr gt) ↦ absurd (bad_b (before_a b gt))
    ]

-- ---- sources

pub no_source_fault : (v : ImageValue) (sizes : List ℕ) (f : CheckFault) → HasSources v sizes → IsFirstSourceFault v sizes f → ⊥
no_source_fault v sizes f has (count other e) = other (ap length has)
no_source_fault v sizes f has (other_length s same first e) = first.other (ap (λ (xs : List ℕ). get_or xs s 0) has)

one_source_fault : (v : ImageValue) (sizes : List ℕ) (f g : CheckFault) → IsFirstSourceFault v sizes f → IsFirstSourceFault v sizes g → f ≡ g
one_source_fault v sizes f g (count other e) (count another d) = e ∙ sym d
one_source_fault v sizes f g (count other e) (other_length s same first d) = absurd (other same)
one_source_fault v sizes f g (other_length s same first e) (count other d) = absurd (other same)
one_source_fault v sizes f g (other_length s same first e) (other_length r also second d) =
    let place = one_place (λ (c : ℕ). get_or v.sources c 0 ≡ get_or sizes c 0) s r first.earlier first.other second.earlier second.other in
    e ∙ ap faults.SourceLength place ∙ sym d

-- ---- nodes

not_good_node : (t : Table) (id : ℕ) (rule : NodeRule) → BreaksFirst t id rule → IsAcceptedNode t id → ⊥
not_good_node t id Reference h good = h good.0.references
not_good_node t id Length h good = h.1 (record { not_empty = good.0.not_empty; not_long = good.0.not_long; sum = good.1.len })
not_good_node t id Depth h good = h.2 (record { follows = good.1.depth; not_deep = good.0.not_deep })
not_good_node t id Span h good = h.3 good.0.span

one_rule : (t : Table) (id : ℕ) (n : Node) (a b : NodeRule) → Breaks t id n a → Breaks t id n b → a ≡ b
one_rule t id n Reference Reference x y = refl
one_rule t id n Reference Length x y = absurd (x y.0)
one_rule t id n Reference Depth x y = absurd (x y.0)
one_rule t id n Reference Span x y = absurd (x y.0)
one_rule t id n Length Reference x y = absurd (y x.0)
one_rule t id n Length Length x y = refl
one_rule t id n Length Depth x y = absurd (x.1 y.1)
one_rule t id n Length Span x y = absurd (x.1 y.1)
one_rule t id n Depth Reference x y = absurd (y x.0)
one_rule t id n Depth Length x y = absurd (y.1 x.1)
one_rule t id n Depth Depth x y = refl
one_rule t id n Depth Span x y = absurd (x.2 y.2)
one_rule t id n Span Reference x y = absurd (y x.0)
one_rule t id n Span Length x y = absurd (y.1 x.1)
one_rule t id n Span Depth x y = absurd (y.2 x.2)
one_rule t id n Span Span x y = refl

one_node_fault : (t : Table) (f g : CheckFault) → IsFirstNodeFault t f → IsFirstNodeFault t g → f ≡ g
one_node_fault t f g a b =
    let place = one_place (IsAcceptedNode t) a.id b.id a.earlier (λ good. not_good_node t a.id a.rule a.breaks good) b.earlier (λ good. not_good_node t b.id b.rule b.breaks good) in
    let other : BreaksFirst t a.id b.rule = subst (λ (c : ℕ). BreaksFirst t c b.rule) (sym place) b.breaks in
    a.is ∙ ap (fault_at a.rule) place ∙ ap (λ (r : NodeRule). fault_at r b.id) (one_rule t a.id _ a.rule b.rule a.breaks other) ∙ sym b.is

no_table_fault : (v : ImageValue) (sizes : List ℕ) (f : CheckFault) → HasGoodTables v sizes → IsFirstTableFault v sizes f → ⊥
no_table_fault v sizes f good (inl source) = no_source_fault v sizes f good.0 source
no_table_fault v sizes f good (inr node) = not_good_node (image_table v) node.1.id node.1.rule node.1.breaks (good.1 node.1.id node.1.there)

one_table_fault : (v : ImageValue) (sizes : List ℕ) (f g : CheckFault) → IsFirstTableFault v sizes f → IsFirstTableFault v sizes g → f ≡ g
one_table_fault v sizes f g (inl a) (inl b) = one_source_fault v sizes f g a b
one_table_fault v sizes f g (inl a) (inr b) = absurd (no_source_fault v sizes f b.0 a)
one_table_fault v sizes f g (inr a) (inl b) = absurd (no_source_fault v sizes g a.0 b)
one_table_fault v sizes f g (inr a) (inr b) = one_node_fault (image_table v) f g a.1 b.1

-- ---- revisions

-- over sources that all state their texts, a cell that can be read is stated
stated_cell : (st : Stated) → StatesAll st → (cell : Cell) → IsReadable st cell → IsStated st cell
stated_cell st all (Byte b) readable = tt
stated_cell st all (Place s p) readable =
    let there = and_parts (ltb s (length st.sizes)) (leb (p + 1) (slice_index st.sizes s)) readable.1 in
    all.texts s (ltb-true _ _ there.0)

stated_rows : (v : ImageValue) (st : Stated) → StatesAll st → (k : ℕ) → HasReadableRows v st k → HasStatedRows v st k
stated_rows v st all k readable j lt i d inside = stated_cell st all _ (readable j lt i d inside)

-- what fits as far as the sources state it may fit by what they state
abbrev MayFitAll : ImageValue → Stated → ℕ → Type 0
MayFitAll v st k = (n : ℕ) → MayFit (image_table v) (coded_at v) (SameStated st) (CanBeSame st) (parts_at v k) (revision_at v k).root (rows_at v k) n

may_fit : (v : ImageValue) (st : Stated) → IsImage v → AreGoodNodes (image_table v) → (k : ℕ) → ((c : ℕ) → c < k → IsGoodOver v st c) → KeepsRules v k → HasStatedRows v st k → MayFitAll v st k
may_fit v st is nodes k earlier rules stated =
    stated_may (image_table v) (sound_table v is nodes) (true_table v nodes) (coded_at v) st (parts_at v k) (revision_at v k).root (rows_at v k) (ready v k (λ c lt. (earlier c lt).rules) rules).parts stated

-- an image over texts in memory, whose tables are good
pub record IsOver (v : ImageValue) (st : Stated) : Type 0 where
  pub image : IsImage v
  pub all : StatesAll st
  pub tables : HasGoodTables v st.sizes

readable_rows : (v : ImageValue) (st : Stated) → IsOver v st → (k : ℕ) → ((c : ℕ) → c < k → IsGoodOver v st c) → KeepsRules v k → HasReadableRows v st k
readable_rows v st is k earlier rules =
    own_rows_readable (image_table v) (sound_table v is.image is.tables.1) st (record { never_fails = is.all.never_fails; sizes = sym is.tables.0 }) (parts_at v k) (revision_at v k).root (rows_at v k)
    (ready v k (λ c lt. (earlier c lt).rules) rules).parts rules.root.0

-- what revision k breaks first, where its rows can be read
data Broken (v : ImageValue) (st : Stated) (k : ℕ) (f : CheckFault) : Type 0 where
  command : f ≡ faults.Command k → ¬ IsRevisionInRange v k → Broken v st k f
  root : f ≡ faults.Root k → IsRevisionInRange v k → ¬ HasRootOfParts v k → Broken v st k f
  mark : f ≡ faults.Mark k → IsRevisionInRange v k → HasRootOfParts v k → ¬ HasGoodMark (image_table v) (revision_at v k) → Broken v st k f
  row : (j : ℕ) → f ≡ faults.Rows k j → KeepsRules v k → IsFirstBadRow v st k j → MayFitAll v st k → Broken v st k f

broken_rule : (v : ImageValue) (st : Stated) (k : ℕ) (f : CheckFault) → BreaksRule v k f → Broken v st k f
broken_rule v st k (faults.Read e) h = absurd h
broken_rule v st k faults.SourceCount h = absurd h
broken_rule v st k (faults.SourceLength s) h = absurd h
broken_rule v st k (faults.Reference id) h = absurd h
broken_rule v st k (faults.Length id) h = absurd h
broken_rule v st k (faults.Depth id) h = absurd h
broken_rule v st k (faults.Span id) h = absurd h
broken_rule v st k (faults.Command x) h = command (ap faults.Command h.0) h.1
broken_rule v st k (faults.Root x) h = root (ap faults.Root h.0) h.1 h.2
broken_rule v st k (faults.Mark x) h = mark (ap faults.Mark h.0) h.1 h.2 h.3
broken_rule v st k (faults.Rows x j) h = absurd h
broken_rule v st k (faults.Source e) h = absurd h
broken_rule v st k (faults.Looks n) h = absurd h

broken_rows : (st : Stated) (v : ImageValue) (k : ℕ) (f : CheckFault) → MayFitAll v st k → KeepsRules v k → BreaksRows st v k f → Broken v st k f
broken_rows st v k (faults.Read e) are rules h = absurd h
broken_rows st v k faults.SourceCount are rules h = absurd h
broken_rows st v k (faults.SourceLength s) are rules h = absurd h
broken_rows st v k (faults.Reference id) are rules h = absurd h
broken_rows st v k (faults.Length id) are rules h = absurd h
broken_rows st v k (faults.Depth id) are rules h = absurd h
broken_rows st v k (faults.Span id) are rules h = absurd h
broken_rows st v k (faults.Command x) are rules h = absurd h
broken_rows st v k (faults.Root x) are rules h = absurd h
broken_rows st v k (faults.Mark x) are rules h = absurd h
broken_rows st v k (faults.Rows x j) are rules h = row j (ap (λ (r : ℕ). faults.Rows r j) h.0) rules h.1 are
broken_rows st v k (faults.Source e) are rules h = absurd h
broken_rows st v k (faults.Looks n) are rules h = absurd h

broken_at : (st : Stated) (v : ImageValue) (f : CheckFault) → IsOver v st → (first : IsFirstRevisionFault st v f) → Broken v st first.k f
broken_at st v f is first =
    elim first.breaks [
      | inl rule ↦ broken_rule v st first.k f rule
      | inr rows ↦
          let readable = readable_rows v st is first.k first.earlier rows.0 in
          broken_rows st v first.k f (may_fit v st is.image is.tables.1 first.k first.earlier rows.0 (stated_rows v st is.all first.k readable)) rows.0 rows.1
    ]

not_good : (v : ImageValue) (st : Stated) (k : ℕ) (f : CheckFault) → Broken v st k f → IsGoodOver v st k → ⊥
not_good v st k f (command e bad) g = bad g.rules.command
not_good v st k f (root e in_range bad) g = bad g.rules.root
not_good v st k f (mark e in_range is_root bad) g = bad g.rules.mark
not_good v st k f (row j e rules bad may) g =
    not_both (image_table v) (coded_at v) (SameStated st) (CanBeSame st) (parts_at v k) (revision_at v k).root (rows_at v k) j (may (j + 1)) g.rows bad

one_broken : (v : ImageValue) (st : Stated) (k : ℕ) (f g : CheckFault) → Broken v st k f → Broken v st k g → f ≡ g
one_broken v st k f g (command e bad) (command d also) = e ∙ sym d
one_broken v st k f g (command e bad) (root d in_range also) = absurd (bad in_range)
one_broken v st k f g (command e bad) (mark d in_range is_root also) = absurd (bad in_range)
one_broken v st k f g (command e bad) (row j d rules also stated) = absurd (bad rules.command)
one_broken v st k f g (root e in_range bad) (command d also) = absurd (also in_range)
one_broken v st k f g (root e in_range bad) (root d too also) = e ∙ sym d
one_broken v st k f g (root e in_range bad) (mark d too is_root also) = absurd (bad is_root)
one_broken v st k f g (root e in_range bad) (row j d rules also stated) = absurd (bad rules.root)
one_broken v st k f g (mark e in_range is_root bad) (command d also) = absurd (also in_range)
one_broken v st k f g (mark e in_range is_root bad) (root d too also) = absurd (also is_root)
one_broken v st k f g (mark e in_range is_root bad) (mark d too as_well also) = e ∙ sym d
one_broken v st k f g (mark e in_range is_root bad) (row j d rules also stated) = absurd (bad rules.mark)
one_broken v st k f g (row i e rules bad stated) (command d also) = absurd (also rules.command)
one_broken v st k f g (row i e rules bad stated) (root d in_range also) = absurd (also rules.root)
one_broken v st k f g (row i e rules bad stated) (mark d in_range is_root also) = absurd (also rules.mark)
one_broken v st k f g (row i e rules bad may) (row j d too also again) =
    e ∙ ap (faults.Rows k) (one_first (image_table v) (coded_at v) (SameStated st) (CanBeSame st) (parts_at v k) (revision_at v k).root (rows_at v k) i j (may (i + 1)) (may (j + 1)) bad also) ∙ sym d

-- no revision of an image that keeps the rules has a fault
pub no_revision_fault : (st : Stated) (v : ImageValue) (f : CheckFault) → IsOver v st → AreGoodOver v st → IsFirstRevisionFault st v f → ⊥
no_revision_fault st v f is good first = not_good v st first.k f (broken_at st v f is first) (good first.k first.there)

one_revision_fault : (st : Stated) (v : ImageValue) (f g : CheckFault) → IsOver v st → IsFirstRevisionFault st v f → IsFirstRevisionFault st v g → f ≡ g
one_revision_fault st v f g is a b =
    let broken = broken_at st v f is a in
    let other = broken_at st v g is b in
    let place = one_place (IsGoodOver v st) a.k b.k a.earlier (not_good v st a.k f broken) b.earlier (not_good v st b.k g other) in
    one_broken v st a.k f g broken (subst (λ (c : ℕ). Broken v st c g) (sym place) other)

-- ---- images

pub same_image : (v w : ImageValue) → IsImage v → IsImage w → spelling v ≡ spelling w → v ≡ w
same_image v w is also e = sym (whole_again v is).1 ∙ ap image_in e ∙ (whole_again w also).1

pub no_read_fault : (bytes : List ℕ) (v : ImageValue) (e : ReadFault) → IsImage v → bytes ≡ spelling v → fault_of bytes ≡ Some e → ⊥
no_read_fault bytes v e is spelled fault =
    let none : Some e ≡ None = sym fault ∙ ap fault_of spelled ∙ (whole_again v is).0 in
    absurd cc

-- ---- images that need no read

-- rows over no source are stated, and can be read
broken_unread : (st : Stated) (v : ImageValue) (f : CheckFault) → IsImage v → AreGoodNodes (image_table v) → EachRevision v (HasRowsOverNoSource v) → (first : IsFirstRevisionFault st v f) → Broken v st first.k f
broken_unread st v f is nodes none first =
    let rows = rows_at v first.k in
    let root = (revision_at v first.k).root in
    let here = none first.k first.there in
    elim first.breaks [
      | inl rule ↦ broken_rule v st first.k f rule
      | inr broken ↦
          broken_rows st v first.k f (may_fit v st is nodes first.k first.earlier broken.0 (no_source_stated (image_table v) st (parts_at v first.k) root rows here)) broken.0 broken.1
    ]

-- what keeps the rules whatever the sources hold keeps them over what they state
always_good : (v : ImageValue) (sizes : List ℕ) (st : Stated) → IsAlwaysAccepted v sizes → AreGoodOver v st
always_good v sizes st always k lt = record {
  rules = ((always (λ s p. 0)).revisions k lt).rules;
  rows = always_stated (image_table v) (coded_at v) st (parts_at v k) (revision_at v k).root (rows_at v k) (λ source. ((always source).revisions k lt).rows);
}

-- such an image has no fault over any sources of its lengths
no_fault_unread : (st : Stated) (bytes : List ℕ) (f : CheckFault) → NeedsNoRead bytes st.sizes → IsFirstFault st bytes f → ⊥
no_fault_unread st bytes f a (inl read) = no_read_fault bytes a.v read.0 a.image a.spelled read.1
no_fault_unread st bytes f a (inr refused) =
    let same = same_image a.v refused.v a.image refused.image (sym a.spelled ∙ refused.spelled) in
    let always = subst (λ (w : ImageValue). IsAlwaysAccepted w st.sizes) same a.accepted in
    let none = subst (λ (w : ImageValue). EachRevision w (HasRowsOverNoSource w)) same a.no_source in
    let some = always (λ s p. 0) in
    elim refused.fault [
      | inl table ↦ no_table_fault refused.v st.sizes f (some.sources, some.nodes) table
      | inr revision ↦
          let first = revision.1 in
          not_good refused.v st first.k f (broken_unread st refused.v f refused.image some.nodes none first) (always_good refused.v st.sizes st always first.k first.there)
    ]

-- no place of a source is asked for
none_asked : (st : Stated) (bytes : List ℕ) → NeedsNoRead bytes st.sizes → (s p : ℕ) → BytesAsk st bytes s p → ⊥
none_asked st bytes n s p asked =
    let a = asked.asks in
    let rows = a.asks.1 in
    let same = same_image n.v asked.v n.image asked.image (sym n.spelled ∙ asked.spelled) in
    let none = subst (λ (w : ImageValue). EachRevision w (HasRowsOverNoSource w)) same n.no_source in
    let (place, from, until, is) = rows.compared in
    subst IsByte is (none a.k a.there rows.j rows.inside place (Byte 0) until)

-- an answer that asks for no place is no fault of a source
unread_fault : (before after : Reading) (Asked : ℕ → ℕ → Type 0) (fault : Option SourceFault) → Reads before after Asked fault → ((s p : ℕ) → Asked s p → ⊥) → fault ≡ None
unread_fault before after Asked None reads none = refl
unread_fault before after Asked (Some e) reads none = absurd (none reads.s reads.p reads.asked)

-- an answer that spells the bytes where it accepts, and is right where it refuses, is that image
pub accepts_unread : (before after : Reading) (bytes : List ℕ) (r : Result ImageValue CheckFault)
    → IfOk r (λ v. IsImage v × (bytes ≡ spelling v)) → IfErr r (λ f. source_fault f ≡ None → IsFirstFault before.stated bytes f) → Reads before after (BytesAsk before.stated bytes) (source_fault_in r)
    → (n : NeedsNoRead bytes before.stated.sizes) → Accepts r n.v
accepts_unread before after bytes (Ok v) image refused reads n = record { ok = ap Ok (same_image v n.v image.0 n.image (sym image.1 ∙ n.spelled)) }
accepts_unread before after bytes (Err f) image refused reads n =
    absurd (no_fault_unread before.stated bytes f n (refused (unread_fault before after (BytesAsk before.stated bytes) (source_fault f) reads (none_asked before.stated bytes n))))

-- ---- answers over texts in memory

-- what is accepted has no fault
no_fault : (st : Stated) (bytes : List ℕ) (f : CheckFault) → StatesAll st → IsAccepted bytes st → IsFirstFault st bytes f → ⊥
no_fault st bytes f all a (inl read) = no_read_fault bytes a.v read.0 a.image a.spelled read.1
no_fault st bytes f all a (inr refused) =
    let same = same_image a.v refused.v a.image refused.image (sym a.spelled ∙ refused.spelled) in
    let tables = subst (λ (w : ImageValue). HasGoodTables w st.sizes) same a.tables in
    let good = subst (λ (w : ImageValue). AreGoodOver w st) same a.revisions in
    elim refused.fault [
      | inl table ↦ no_table_fault refused.v st.sizes f tables table
      | inr revision ↦ no_revision_fault st refused.v f (record { image = refused.image; all = all; tables = tables }) good revision.1
    ]

one_refusal : (st : Stated) (v : ImageValue) (f g : CheckFault) → IsImage v → StatesAll st
    → IsFirstTableFault v st.sizes f ⊎ (HasGoodTables v st.sizes × IsFirstRevisionFault st v f)
    → IsFirstTableFault v st.sizes g ⊎ (HasGoodTables v st.sizes × IsFirstRevisionFault st v g) → f ≡ g
one_refusal st v f g is all (inl a) (inl b) = one_table_fault v st.sizes f g a b
one_refusal st v f g is all (inl a) (inr b) = absurd (no_table_fault v st.sizes f b.0 a)
one_refusal st v f g is all (inr a) (inl b) = absurd (no_table_fault v st.sizes g a.0 b)
one_refusal st v f g is all (inr a) (inr b) = one_revision_fault st v f g (record { image = is; all = all; tables = a.0 }) a.1 b.1

one_fault : (st : Stated) (bytes : List ℕ) (f g : CheckFault) → StatesAll st → IsFirstFault st bytes f → IsFirstFault st bytes g → f ≡ g
one_fault st bytes f g all (inl a) (inl b) =
    let same : Some a.0 ≡ Some b.0 = sym a.1 ∙ b.1 in
    let fault : a.0 ≡ b.0 = cc in
    a.2 ∙ ap faults.Read fault ∙ sym b.2
one_fault st bytes f g all (inl a) (inr b) = absurd (no_read_fault bytes b.v a.0 b.image b.spelled a.1)
one_fault st bytes f g all (inr a) (inl b) = absurd (no_read_fault bytes a.v b.0 a.image a.spelled b.1)
one_fault st bytes f g all (inr a) (inr b) =
    let same = same_image b.v a.v b.image a.image (sym b.spelled ∙ a.spelled) in
    one_refusal st a.v f g a.image all a.fault
    (subst (λ (w : ImageValue). IsFirstTableFault w st.sizes g ⊎ (HasGoodTables w st.sizes × IsFirstRevisionFault st w g)) same b.fault)

-- each place that is asked for can be read, and so there is no fault of a source
asked_readable : (st : Stated) (bytes : List ℕ) → StatesAll st → (s p : ℕ) → BytesAsk st bytes s p → IsReadable st (Place s p)
asked_readable st bytes all s p asked =
    let a = asked.asks in
    let rows = a.asks.1 in
    let readable = readable_rows asked.v st (record { image = asked.image; all = all; tables = asked.tables }) a.k a.earlier a.asks.0 in
    let (place, from, until, is) = rows.compared in
    subst (IsReadable st) is (readable rows.j rows.inside place (Byte 0) until)

readable_fault : (before after : Reading) (bytes : List ℕ) (fault : Option SourceFault) → Reads before after (BytesAsk before.stated bytes) fault → StatesAll before.stated → fault ≡ None
readable_fault before after bytes fault reads all =
    reads_succeed before after (BytesAsk before.stated bytes) fault reads all.never_fails (λ s p asked. (asked_readable before.stated bytes all s p asked).1)

-- an answer that is right where it accepts and where it refuses is the only right one
pub exact : (before after : Reading) (bytes : List ℕ) (r : Result ImageValue CheckFault)
    → (IsOk r → IsAccepted bytes before.stated) → IfErr r (λ f. source_fault f ≡ None → IsFirstFault before.stated bytes f) → Reads before after (BytesAsk before.stated bytes) (source_fault_in r) → IsExact before.stated bytes r
exact before after bytes (Ok v) accepted refused reads all = record {
  accepts = λ a. refl;
  refuses = λ f first. absurd (no_fault before.stated bytes f all (accepted refl) first);
}
exact before after bytes (Err g) accepted refused reads all =
    let is = refused (readable_fault before after bytes (source_fault g) reads all) in
    record {
      accepts = λ a. absurd (no_fault before.stated bytes g all a is);
      refuses = λ f first. ap Err (one_fault before.stated bytes g f all is first);
    }

-- the first fault of sources and nodes is no fault of a source
pub table_fault : (v : ImageValue) (sizes : List ℕ) (f : CheckFault) → IsFirstTableFault v sizes f → source_fault f ≡ None
table_fault v sizes f (inl (count other e)) = ap source_fault e
table_fault v sizes f (inl (other_length s same first e)) = ap source_fault e
table_fault v sizes f (inr node) = ap source_fault node.1.is ∙ of_rule node.1.rule node.1.id
  where
    of_rule : (rule : NodeRule) (id : ℕ) → source_fault (fault_at rule id) ≡ None
    of_rule Reference id = refl
    of_rule Length id = refl
    of_rule Depth id = refl
    of_rule Span id = refl
