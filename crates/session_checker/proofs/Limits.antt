-- What a limit of looks refuses, and what is answered else.
use Rattle.std.proofs.Common.{◌≡◌, ℕ, List, Some, None, refl, sym, ap, subst, ◌∙◌, arith, inl, inr}
use Rattle.std.specs.Prelude.{Result, Ok, Err, IsOk, IfOk, IfErr, Option}
use Rattle.lazy_file.specs.SourceTexts.{Stated}
use Rattle.lazy_file.specs.Readings.{Reading, Reads}
use Rattle.image_reader.specs.declared.fault.ReadFault.{ReadFault}
use Rattle.image_reader.specs.Value.{ImageValue, IsImage}
use Rattle.image_reader.specs.Spelling.{spelling}
use Rattle.image_reader.specs.Reading.{fault_of}
use Rattle.image_reader.specs.Looks.{looks_bound}
use Rattle.image_reader.specs.Accepted.{HasSources}
use Rattle.session_checker.specs.declared.fault.CheckFault.{CheckFault}
use Rattle.session_checker.specs.declared.fault.CheckFault.TheVariants as faults
use Rattle.session_checker.specs.declared.node_rules.NodeRule.{NodeRule}
use Rattle.session_checker.specs.declared.node_rules.NodeRule.TheVariants.{Reference, Length, Depth, Span}
use Rattle.session_checker.specs.SourceRules.{IsFirstSourceFault, count, other_length}
use Rattle.session_checker.specs.NodeRules.{fault_at}
use Rattle.session_checker.specs.RevisionRules.{source_fault, source_fault_in}
use Rattle.session_checker.specs.Accepted.{BytesAsk, IsAccepted, IsFirstFault, IsFirstTableFault}
use Rattle.session_checker.specs.Faithful.{IsFaithful}
use Rattle.session_checker.specs.Limits.{AreLooksWithin, ChecksWithin, IsBeyond, IsDear, IsFirstFaultWithin, IsFirstTableFaultWithin, IsNotDear}
use Rattle.session_checker.proofs.ExactAnswers.{accepts_unread, exact, no_read_fault, no_source_fault, same_image, table_fault}

-- ---- the limit

not_both : (at_most : Option ℕ) (v : ImageValue) → IsBeyond at_most v → AreLooksWithin at_most v → ⊥
not_both None v beyond within = beyond
not_both (Some most) v beyond within = omega (arith, beyond, within)

-- ---- what is dear

pub never_dear : (sizes bytes : List ℕ) → IsNotDear None sizes bytes
never_dear sizes bytes bound d = d.beyond

-- the bytes are no image
pub unread_not_dear : (at_most : Option ℕ) (sizes bytes : List ℕ) (e : ReadFault) → fault_of bytes ≡ Some e → IsNotDear at_most sizes bytes
unread_not_dear at_most sizes bytes e fault bound d = no_read_fault bytes d.v e d.image d.spelled fault

-- the bytes spell this image
of_dear : (at_most : Option ℕ) (sizes bytes : List ℕ) (v : ImageValue) (bound : ℕ) → IsImage v × (bytes ≡ spelling v) → (d : IsDear at_most sizes bytes bound) → d.v ≡ v
of_dear at_most sizes bytes v bound found d = same_image d.v v d.image found.0 (sym d.spelled ∙ found.1)

beyond_of_dear : (at_most : Option ℕ) (sizes bytes : List ℕ) (v : ImageValue) (bound : ℕ) → IsImage v × (bytes ≡ spelling v) → IsDear at_most sizes bytes bound → IsBeyond at_most v
beyond_of_dear at_most sizes bytes v bound found d = subst (λ (w : ImageValue). IsBeyond at_most w) (of_dear at_most sizes bytes v bound found d) d.beyond

pub within_not_dear : (at_most : Option ℕ) (sizes bytes : List ℕ) (v : ImageValue) → IsImage v × (bytes ≡ spelling v) → AreLooksWithin at_most v → IsNotDear at_most sizes bytes
within_not_dear at_most sizes bytes v found within bound d = not_both at_most v (beyond_of_dear at_most sizes bytes v bound found d) within

-- the sources are others
other_sources_not_dear : (at_most : Option ℕ) (sizes bytes : List ℕ) (v : ImageValue) (f : CheckFault) → IsImage v × (bytes ≡ spelling v) → IsFirstSourceFault v sizes f → IsNotDear at_most sizes bytes
other_sources_not_dear at_most sizes bytes v f found fault bound d =
    no_source_fault v sizes f (subst (λ (w : ImageValue). HasSources w sizes) (of_dear at_most sizes bytes v bound found d) d.sources) fault

-- ---- no other fault is that of the looks

no_rule : (rule : NodeRule) (id bound : ℕ) → faults.Looks bound ≡ fault_at rule id → ⊥
no_rule Reference id bound is = absurd cc
no_rule Length id bound is = absurd cc
no_rule Depth id bound is = absurd cc
no_rule Span id bound is = absurd cc

no_source : (v : ImageValue) (sizes : List ℕ) (bound : ℕ) → IsFirstSourceFault v sizes (faults.Looks bound) → ⊥
no_source v sizes bound (count other is) = absurd cc
no_source v sizes bound (other_length s same first is) = absurd cc

no_looks : (st : Stated) (bytes : List ℕ) (bound : ℕ) → IsFirstFault st bytes (faults.Looks bound) → ⊥
no_looks st bytes bound (inl read) = let is = read.2 in absurd cc
no_looks st bytes bound (inr refused) =
    elim refused.fault [
      | inl (inl source) ↦ no_source refused.v st.sizes bound source
      | inl (inr node) ↦ no_rule node.1.rule node.1.id bound node.1.is
      | inr revision ↦
          elim revision.1.breaks [
            | inl rule ↦ rule
            | inr rows ↦ rows.1
          ]
    ]

-- ---- answers

no_looks_answer : (st : Stated) (bytes : List ℕ) (r : Result ImageValue CheckFault) (bound : ℕ) → IfErr r (λ f. source_fault f ≡ None → IsFirstFault st bytes f) → r ≡ Err (faults.Looks bound) → ⊥
no_looks_answer st bytes r bound refused is =
    let first = subst (λ (x : Result ImageValue CheckFault). IfErr x (λ f. source_fault f ≡ None → IsFirstFault st bytes f)) is refused in
    no_looks st bytes bound (first refl)

refused_within : (at_most : Option ℕ) (st : Stated) (bytes : List ℕ) (r : Result ImageValue CheckFault) → IsNotDear at_most st.sizes bytes → IfErr r (λ f. source_fault f ≡ None → IsFirstFault st bytes f) → IfErr r (λ f. source_fault f ≡ None → IsFirstFaultWithin at_most st bytes f)
refused_within at_most st bytes (Ok v) cheap refused = tt
refused_within at_most st bytes (Err f) cheap refused = λ none. inr (cheap, refused none)

-- an answer that is right without a limit is right at what is not dear
pub checks_within : (at_most : Option ℕ) (old new : Reading) (bytes : List ℕ) (r : Result ImageValue CheckFault) → IsNotDear at_most old.stated.sizes bytes
    → IfOk r (λ v. IsFaithful v old.stated) → IfOk r (λ v. IsImage v × (bytes ≡ spelling v)) → IfOk r (λ v. HasSources v old.stated.sizes) → (IsOk r → IsAccepted bytes old.stated) → IfOk r (AreLooksWithin at_most)
    → IfErr r (λ f. source_fault f ≡ None → IsFirstFault old.stated bytes f) → Reads old new (BytesAsk old.stated bytes) (source_fault_in r) → ChecksWithin at_most old new bytes r
checks_within at_most old new bytes r cheap is_faithful is_image has_sources is_accepted is_within is_refused does_read = record {
  faithful = is_faithful;
  image = is_image;
  sources = has_sources;
  accepted = is_accepted;
  within = is_within;
  dear = λ bound. (λ is. absurd (no_looks_answer old.stated bytes r bound is_refused is), λ d. absurd (cheap bound d));
  refused = refused_within at_most old.stated bytes r cheap is_refused;
  reads = does_read;
  exact = λ _. exact old new bytes r is_accepted is_refused does_read;
  always = λ _. accepts_unread old new bytes r is_image is_refused does_read;
}

-- and so is a refusal of what is dear
refused_dear : (at_most : Option ℕ) (old : Reading) (bytes : List ℕ) (v : ImageValue) → IsImage v × (bytes ≡ spelling v) → HasSources v old.stated.sizes → IsBeyond at_most v → ChecksWithin at_most old old bytes (Err (faults.Looks (looks_bound v)))
refused_dear at_most old bytes v found has beyond =
    let here : IsDear at_most old.stated.sizes bytes (looks_bound v) = record { v = v; image = found.0; spelled = found.1; sources = has; beyond = beyond; bound_is = refl } in
    record {
      faithful = tt;
      image = tt;
      sources = tt;
      accepted = λ ok. absurd cc;
      within = tt;
      dear = λ bound. (
        λ is. let same : looks_bound v ≡ bound = cc in subst (λ (n : ℕ). IsDear at_most old.stated.sizes bytes n) same here,
        λ d. ap (λ (n : ℕ). Err (faults.Looks n)) (ap looks_bound (sym (of_dear at_most old.stated.sizes bytes v bound found d)) ∙ sym d.bound_is),
      );
      refused = λ _. inl (looks_bound v, here, refl);
      reads = refl;
      exact = λ cheap. absurd (cheap (looks_bound v) here);
      always = λ cheap. absurd (cheap (looks_bound v) here);
    }

-- a fault of sources or nodes is answered as without a limit
table_refused : (at_most : Option ℕ) (old : Reading) (bytes : List ℕ) (v : ImageValue) (f : CheckFault) → IsImage v × (bytes ≡ spelling v) → IsNotDear at_most old.stated.sizes bytes → IsFirstTableFault v old.stated.sizes f → ChecksWithin at_most old old bytes (Err f)
table_refused at_most old bytes v f found cheap fault =
    let reads : Reads old old (BytesAsk old.stated bytes) (source_fault f) = rw (table_fault v old.stated.sizes f fault) refl in
    checks_within at_most old old bytes (Err f) cheap tt tt tt (λ ok. absurd cc) tt (λ _. inr (record { v = v; image = found.0; spelled = found.1; fault = inl fault })) reads

pub tables_refused : (at_most : Option ℕ) (old : Reading) (bytes : List ℕ) (v : ImageValue) (f : CheckFault) → IsImage v × (bytes ≡ spelling v) → IsFirstTableFaultWithin at_most v old.stated.sizes f → ChecksWithin at_most old old bytes (Err f)
tables_refused at_most old bytes v f found (inl source) = table_refused at_most old bytes v f found (other_sources_not_dear at_most old.stated.sizes bytes v f found source) (inl source)
tables_refused at_most old bytes v f found (inr (has, inl dear)) = rw dear.1 (refused_dear at_most old bytes v found has dear.0)
tables_refused at_most old bytes v f found (inr (has, inr node)) = table_refused at_most old bytes v f found (within_not_dear at_most old.stated.sizes bytes v found node.0) (inr (has, node.1))

-- without a limit the first fault is one of the image
pub refused_unlimited : (st : Stated) (bytes : List ℕ) (r : Result ImageValue CheckFault) → IfErr r (λ f. source_fault f ≡ None → IsFirstFaultWithin None st bytes f) → IfErr r (λ f. source_fault f ≡ None → IsFirstFault st bytes f)
refused_unlimited st bytes (Ok v) refused = tt
refused_unlimited st bytes (Err f) refused = λ none.
    elim (refused none) [
      | inl dear ↦ absurd (never_dear st.sizes bytes dear.0 dear.1)
      | inr first ↦ first.1
    ]
