-- What stands at a place of a text into which its command puts one splice.
use Rattle.std.proofs.Common.{◌≡◌, ℕ, ◌+◌, ◌-◌, ◌<◌, ◌≤◌, cond, ltb, false, List, [], ◌∷◌, length, Option, Some, None, refl, sym, ap, ◌∙◌, subst, arith, inl, inr}
use Rattle.std.specs.Prelude.{◌^◌}
use Rattle.std.specs.Option.{option_map}
use Rattle.std.proofs.lemmas.Bool.{cases_Bool, ltb-true, ltb-false, lt-ltb, le-ltb, cond-true, cond-false}
use Rattle.std.proofs.lemmas.List.Sums.{sum_by-cons}
use Rattle.std.proofs.lemmas.Option.{none-some, some_pair_parts}
use Rattle.rope_node.specs.declared.node.NodeId.{NodeId}
use Rattle.rope_node.specs.Denotes.{rope_len}
use Rattle.command_parts.specs.declared.edit.Edit.{Edit}
use Rattle.command_parts.specs.declared.edit.Splice.{Splice}
use Rattle.command_parts.specs.declared.part.Part.{Part}
use Rattle.command_parts.specs.Commands.{FullEdit, full_edit}
use Rattle.command_parts.specs.Parts.{part_at, part_len, parts_len, nonempty, parts_of, root_at, IsInRange}
use Rattle.image_reader.specs.Value.{ImageValue}
use Rattle.image_reader.specs.Accepted.{command_at, KeepsRules}
use Rattle.session_checker.specs.Faithful.{HasTrueRecordsOf, EachRevision}
use Rattle.session_checker.proofs.ResultLengths.{nonempty_len}
use Rattle.byte_origins.specs.declared.taking.CameFrom.TheVariants.{FromText}
use Rattle.byte_origins.specs.EarlierTexts.{len_of_text, texts_table, texts_roots, texts_parts}
use Rattle.byte_origins.specs.SplicedTexts.{IsPlaceBeside, one_splice, spliced_of}
use Rattle.byte_origins.specs.StepsBack.{step_back, taken_of}
use Rattle.byte_origins.proofs.EarlierTexts.{roots_count, root_is, root_some, root_long}
use Rattle.byte_origins.proofs.StepBack.{texts_in_range, parts_long}

-- a part that is empty holds no place
part_at-nonempty : (parts : List Part) (place : ℕ) → part_at (nonempty parts) place ≡ part_at parts place
part_at-nonempty [] place = refl
part_at-nonempty (x ∷ xs) place =
    elim (cases_Bool (ltb 0 (part_len x))) [
      | inl some ↦
          ap (λ (ps : List Part). part_at ps place) (cond-true (ltb 0 (part_len x)) (x ∷ nonempty xs) (nonempty xs) some)
          ∙ ap (λ (o : Option (Part × ℕ)). cond (ltb place (part_len x)) (Some (x, place)) o) (part_at-nonempty xs (place - part_len x))
      | inr none ↦
          let zero-len : part_len x ≡ 0 = omega (arith, ltb-false _ _ none) in
          let past : ltb place (part_len x) ≡ false = le-ltb place (part_len x) (omega (arith, zero-len)) in
          let same : place ≡ place - part_len x = omega (arith, zero-len) in
          ap (λ (ps : List Part). part_at ps place) (cond-false (ltb 0 (part_len x)) (x ∷ nonempty xs) (nonempty xs) none)
          ∙ part_at-nonempty xs place
          ∙ ap (part_at xs) same
          ∙ sym (cond-false (ltb place (part_len x)) (Some (x, place)) (part_at xs (place - part_len x)) past)
    ]

-- the parts of a rope of length len with a splice put in
abbrev spliced_parts : Option NodeId → ℕ → Splice → List Part
spliced_parts root len s = Part.Old root 0 s.p ∷ Part.Pool s.a s.n ∷ Part.Old root (s.p + s.m) (len - (s.p + s.m)) ∷ []

three_len : (x y z : Part) → parts_len (x ∷ y ∷ z ∷ []) ≡ part_len x + part_len y + part_len z
three_len x y z =
    let later = sum_by-cons part_len y (z ∷ []) in
    let last = sum_by-cons part_len z [] in
    sum_by-cons part_len x (y ∷ z ∷ []) ∙ omega (arith, later, last)

-- what stands at a place of them
spliced_at : (k place r : ℕ) (root : Option NodeId) (len : ℕ) (s : Splice) → (0 < len → root ≡ Some (record { 0 = r })) → s.p + s.m ≤ len → place + s.m < len + s.n
    → option_map (λ (x : Part × ℕ). taken_of k place x.0 x.1) (part_at (spliced_parts root len s) place) ≡ Some (spliced_of len k place r s)
spliced_at k place r root len s is_root fits inside =
    elim (cases_Bool (ltb place s.p)) [
      | inl before ↦
          let lt : place < s.p = ltb-true place s.p before in
          let start : 0 + place ≡ place = omega arith in
          rw before (
          ap (λ (x : Option NodeId). Some (taken_of k place (Part.Old x 0 s.p) place)) (is_root (omega (arith, lt, fits)))
          ∙ ap (λ (i : ℕ). Some (FromText r i (s.p - place))) start
          )
      | inr behind ↦
          elim (cases_Bool (ltb (place - s.p) s.n)) [
            | inl put ↦ rw (behind, put) refl
            | inr past ↦
                let le : s.p ≤ place = ltb-false place s.p behind in
                let more : s.n ≤ place - s.p = ltb-false (place - s.p) s.n past in
                let there = lt-ltb ((place - s.p) - s.n) (len - (s.p + s.m)) (omega (arith, le, more, fits, inside)) in
                let left : (len - (s.p + s.m)) - ((place - s.p) - s.n) ≡ len - (s.p + s.m + ((place - s.p) - s.n)) = omega arith in
                rw (behind, past, there) (
                ap (λ (x : Option NodeId). Some (taken_of k place (Part.Old x (s.p + s.m) (len - (s.p + s.m))) ((place - s.p) - s.n))) (is_root (omega (arith, le, more, fits, inside)))
                ∙ ap (λ (n : ℕ). Some (FromText r (s.p + s.m + ((place - s.p) - s.n)) n)) left
                )
          ]
    ]

-- a place of text k whose command puts a splice into text r: one step back from it
pub record PutsSplice (v : ImageValue) (k place r : ℕ) (s : Splice) : Type 0 where
  pub earlier : r < k
  pub fits : s.p + s.m ≤ len_of_text v r
  pub pool : s.a + s.n < 2 ^ 64
  pub inside : place + s.m < len_of_text v r + s.n
  pub back : step_back v k place ≡ Some (spliced_of (len_of_text v r) k place r s)

-- bytes that stand beside a splice stand side by side in the text that it was put into
pub stands_beside : (k place len r whole i : ℕ) (s : Splice) → 1 ≤ len → place + len + s.m ≤ whole + s.n → s.p + s.m ≤ whole → IsPlaceBeside s place len i
    → (n : ℕ) × (spliced_of whole k place r s ≡ FromText r i n) × (len ≤ n)
stands_beside k place len r whole i s some room fits (inl (front, at)) =
    let before = lt-ltb place s.p (omega (arith, some, front)) in
    (s.p - place, cond-true _ _ _ before ∙ ap (λ (j : ℕ). FromText r j (s.p - place)) (sym at), omega (arith, front))
stands_beside k place len r whole i s some room fits (inr (back, at)) =
    let behind = le-ltb place s.p (omega (arith, back)) in
    let past = le-ltb (place - s.p) s.n (omega (arith, back)) in
    let j = s.p + s.m + ((place - s.p) - s.n) in
    let same : j ≡ i = omega (arith, back, at) in
    (whole - j, cond-false _ _ _ behind ∙ cond-false _ _ _ past ∙ ap (λ (x : ℕ). FromText r x (whole - j)) same, omega (arith, back, room))

module _ (v : ImageValue) (is : HasTrueRecordsOf v) (rules : EachRevision v (KeepsRules v)) (k : ℕ) (there : k < length v.revisions) where
  -- where these are the parts of the command
  puts : (place r : ℕ) (s : Splice) → r < length (texts_roots v k) → s.p + s.m ≤ rope_len (texts_table v k) (root_at (texts_roots v k) r) → s.a + s.n ≤ length v.pool → place < len_of_text v k
      → texts_parts v k ≡ nonempty (spliced_parts (root_at (texts_roots v k) r) (rope_len (texts_table v k) (root_at (texts_roots v k) r)) s) → PutsSplice v k place r s
  puts place r s lt fits pool inside parts =
      let root = root_at (texts_roots v k) r in
      let len = rope_len (texts_table v k) root in
      let earlier : r < k = omega (arith, lt, roots_count v k) in
      let long : len ≡ len_of_text v r = root_long v k r earlier in
      let whole : len_of_text v k ≡ s.p + s.n + (len - (s.p + s.m)) =
      sym (parts_long v is rules k there) ∙ ap parts_len parts ∙ nonempty_len (spliced_parts root len s)
      ∙ three_len (Part.Old root 0 s.p) (Part.Pool s.a s.n) (Part.Old root (s.p + s.m) (len - (s.p + s.m))) in
      let room : place + s.m < len + s.n = omega (arith, inside, whole, fits) in
      record {
        earlier = earlier;
        fits = omega (arith, fits, long);
        pool = omega (arith, pool, is.sound.pool);
        inside = omega (arith, room, long);
        back = ap (λ (ps : List Part). option_map (λ (x : Part × ℕ). taken_of k place x.0 x.1) (part_at ps place)) parts
            ∙ ap (option_map (λ (x : Part × ℕ). taken_of k place x.0 x.1)) (part_at-nonempty (spliced_parts root len s) place)
            ∙ spliced_at k place r root len s (λ some. sym (root_is v k r earlier) ∙ sym (root_some v r (omega (arith, some, long)))) fits room
            ∙ ap (λ (n : ℕ). Some (spliced_of n k place r s)) long;
      }

  moved : (place q r : ℕ) (u s : Splice) → q ≡ r → u ≡ s → PutsSplice v k place q u → PutsSplice v k place r s
  moved place q r u s e f h = subst (λ (j : ℕ). PutsSplice v k place j s) e (subst (PutsSplice v k place q) f h)

  pub puts_splice : (own : List Splice) (edit : Edit) (place r : ℕ) (s : Splice) → place < len_of_text v k → full_edit own edit ≡ command_at v k → one_splice edit ≡ Some (r, s) → PutsSplice v k place r s
  puts_splice own edit place r s inside = by_edit edit
    where
      range_of : (edit : Edit) → full_edit own edit ≡ command_at v k → IsInRange (texts_table v k) (texts_roots v k) (full_edit own edit)
      range_of edit e = subst (IsInRange (texts_table v k) (texts_roots v k)) (sym e) (texts_in_range v is rules k there)

      parts_are : (edit : Edit) → full_edit own edit ≡ command_at v k → texts_parts v k ≡ parts_of (texts_table v k) (texts_roots v k) (full_edit own edit)
      parts_are edit e = ap (parts_of (texts_table v k) (texts_roots v k)) (sym e)

      by_edit : (edit : Edit) → full_edit own edit ≡ command_at v k → one_splice edit ≡ Some (r, s) → PutsSplice v k place r s
      by_edit (Edit.Insert q p a n) e one =
          let u : Splice = record { p = p; m = 0; a = a; n = n } in
          let same = some_pair_parts q r u s one in
          let range : IsInRange (texts_table v k) (texts_roots v k) (FullEdit.Insert q p a n) = range_of (Edit.Insert q p a n) e in
          let root = root_at (texts_roots v k) q in
          let len = rope_len (texts_table v k) root in
          let end : p ≡ p + 0 = omega arith in
          moved place q r u s same.0 same.1
          (puts place q u range.0 (omega (arith, range.1)) range.3 inside
          (parts_are (Edit.Insert q p a n) e ∙ ap (λ (i : ℕ). nonempty (Part.Old root 0 p ∷ Part.Pool a n ∷ Part.Old root i (len - i) ∷ [])) end))
      by_edit (Edit.Delete q p n) e one =
          let u : Splice = record { p = p; m = n; a = 0; n = 0 } in
          let same = some_pair_parts q r u s one in
          let range : IsInRange (texts_table v k) (texts_roots v k) (FullEdit.Delete q p n) = range_of (Edit.Delete q p n) e in
          moved place q r u s same.0 same.1 (puts place q u range.0 range.1 (omega arith) inside (parts_are (Edit.Delete q p n) e))
      by_edit (Edit.Replace q p m a n) e one =
          let u : Splice = record { p = p; m = m; a = a; n = n } in
          let same = some_pair_parts q r u s one in
          let range : IsInRange (texts_table v k) (texts_roots v k) (FullEdit.Replace q p m a n) = range_of (Edit.Replace q p m a n) e in
          moved place q r u s same.0 same.1 (puts place q u range.0 range.1 range.3 inside (parts_are (Edit.Replace q p m a n) e))
      by_edit _ e one = absurd (none-some {A = ℕ × Splice} (r, s) one)

-- the splice that was found is that of the command of text k, which this edit says among its own splices
pub splice_is : (v : ImageValue) (k place r : ℕ) (own : List Splice) (edit : Edit) (s : Splice) (found : Option (ℕ × Splice)) → HasTrueRecordsOf v → k < length v.revisions → place < len_of_text v k
    → full_edit own edit ≡ command_at v k → found ≡ one_splice edit → found ≡ Some (r, s) → PutsSplice v k place r s
splice_is v k place r own edit s found true there inside says is e =
    puts_splice v true true.rules k there own edit place r s inside says (sym is ∙ e)

-- ---- two edits that say the same

-- the splice of a command, by what it says
abbrev splice_of : FullEdit → Option (ℕ × Splice)
splice_of (FullEdit.Insert r p a n) = Some (r, record { p = p; m = 0; a = a; n = n })
splice_of (FullEdit.Delete r p n) = Some (r, record { p = p; m = n; a = 0; n = 0 })
splice_of (FullEdit.Replace r p m a n) = Some (r, record { p = p; m = m; a = a; n = n })
splice_of _ = None

splice_said : (own : List Splice) (edit : Edit) → splice_of (full_edit own edit) ≡ one_splice edit
splice_said own (Edit.Insert r p a n) = refl
splice_said own (Edit.Delete r p n) = refl
splice_said own (Edit.Replace r p m a n) = refl
splice_said own Edit.New = refl
splice_said own (Edit.Open s) = refl
splice_said own (Edit.Paste r p q i n) = refl
splice_said own (Edit.Join r q) = refl
splice_said own (Edit.Cut r i n) = refl
splice_said own (Edit.Fill r p c n) = refl
splice_said own (Edit.Back r) = refl
splice_said own (Edit.Balance r) = refl
splice_said own (Edit.Many r first count) = refl

-- put the same splice
pub same_splice : (own all : List Splice) (edit other : Edit) → full_edit own edit ≡ full_edit all other → one_splice edit ≡ one_splice other
same_splice own all edit other e = sym (splice_said own edit) ∙ ap splice_of e ∙ splice_said all other
