-- The text that Undo goes back to, by the command that made the current one.
use Rattle.std.proofs.Common.{◌≡◌, ◌⊎◌, ℕ, ◌+◌, ◌-◌, ◌<◌, ◌≤◌, Bool, true, false, List, [], ◌++◌, length, take, drop, get_or, Option, Some, None, inl, inr, refl, sym, ap, subst, ◌∙◌, arith, nat_le}
use Rattle.std.specs.Prelude.{slice_get, if◌then◌else◌}
use Rattle.std.specs.Option.{option_map}
use Rattle.std.proofs.lemmas.Bool.{leb-true}
use Rattle.std.proofs.lemmas.List.{append-nil, append_assoc, drop-drop, drop_at, get_or-take, length-append, length-drop, length-take, length-take-le, take-append-drop, take_at}
use Rattle.std.proofs.lemmas.Option.{get_or_from_slice_get, slice_get-get_or, slice_get-map, slice_get_within}
use Rattle.command_parts.specs.declared.edit.Edit.{Edit}
use Rattle.command_parts.specs.declared.edit.Edit.TheVariants as Recorded
use Rattle.command_parts.specs.declared.edit.Splice.{Splice}
use Rattle.command_parts.specs.Commands.{bounded, replaced, result_of, span, spliced, with_splices}
use Rattle.edit_commands.specs.declared.revision.Revision.{Revision}
use Rattle.edit_commands.specs.Session.{HoldsHistory, SessionValue, command_of, commands_of, edit_of, session_table, text_givens, texts_of, edits_of}
use Rattle.screen_editor.specs.declared.key.Key.TheVariants as Keys
use Rattle.screen_editor.specs.Editing.{Editing, IsEditing, current_len, last_of, state_of}
use Rattle.screen_editor.specs.KnownTexts.{IsMaker}
use Rattle.screen_editor.specs.Machine.{done, gone_back}
use Rattle.screen_editor.specs.Priors.{prior_behind, priors_of}
use Rattle.screen_editor.specs.State.{current}
use Rattle.screen_editor.proofs.KeyPlans.{current_revised, current_text_len, no_source}
use Rattle.screen_editor.proofs.KeySteps.{last_prior}
use Rattle.screen_editor.proofs.NewTexts.{bound_gives, chosen_gives, count_texts, span_gives, spliced_gives}
use Rattle.screen_editor.proofs.PriorLaws.{edit_there, prior_at}
use Rattle.text_lines.proofs.KnownLaws.{length-replaced}

-- ---- bytes that were put in go out again, and bytes that went out come back

taken_out : (t : List ℕ) (p : ℕ) (x : List ℕ) → p ≤ length t → replaced (replaced t p 0 x) p (length x) [] ≡ t
taken_out t p x inside =
    let front = length-take-le p t inside in
    let behind = drop (p + 0) t in
    let before : take p (replaced t p 0 x) ≡ take p t = ap (take p) (append_assoc (take p t) x behind) ∙ take_at (take p t) (x ++ behind) p front in
    let rest : drop (p + length x) (replaced t p 0 x) ≡ behind = drop_at (take p t ++ x) behind (p + length x) (omega (arith, front, length-append (take p t) x)) in
    let here : p + 0 ≡ p = omega arith in
    rw (before, rest, append-nil (take p t), here) (take-append-drop p t)

put_back : (t : List ℕ) (p n : ℕ) → p ≤ length t → replaced (replaced t p n []) p 0 (take n (drop p t)) ≡ t
put_back t p n inside =
    let front = length-take-le p t inside in
    let behind = drop (p + n) t in
    let none = append-nil (take p t) in
    let here : p + 0 ≡ p = omega arith in
    let before : take p (replaced t p n []) ≡ take p t = ap (λ (u : List ℕ). take p (u ++ behind)) none ∙ take_at (take p t) behind p front in
    let rest : drop (p + 0) (replaced t p n []) ≡ behind =
    ap (λ (u : List ℕ). drop (p + 0) (u ++ behind)) none ∙ ap (λ (i : ℕ). drop i (take p t ++ behind)) here ∙ drop_at (take p t) behind p front in
    rw (before, rest, append_assoc (take p t) (take n (drop p t)) behind, sym (drop-drop n p t), take-append-drop n (drop p t)) (take-append-drop p t)

-- ---- what a command's text tells

chosen_so : {A : Type 0} (test : Bool) (o : Option A) (a : A) → (if test then o else None) ≡ Some a → test ≡ true
chosen_so true o a e = refl
chosen_so false o a e = absurd cc

fits : (t : List ℕ) (p m : ℕ) (x c : List ℕ) → spliced t p m x ≡ Some c → p + m ≤ length t
fits t p m x c e = leb-true (p + m) (length t) (chosen_so (nat_le (p + m) (length t)) (bounded (replaced t p m x)) c e)

span_long : (t : List ℕ) (i n : ℕ) (x : List ℕ) → span t i n ≡ Some x → length x ≡ n
span_long t i n x e =
    let inside = leb-true (i + n) (length t) (chosen_so (nat_le (i + n) (length t)) (Some (take n (drop i t))) x e) in
    let is = ap length (span_gives t i n x e) in
    omega (arith, is, inside, length-take n (drop i t), length-drop i t)

-- u is t without the n bytes of it at p
record IsWithout (t u : List ℕ) (p n : ℕ) : Type 0 where
  pub inside : p + n ≤ length t
  pub is : u ≡ replaced t p n []

put_made : (u t x : List ℕ) (p n : ℕ) → length x ≡ n → spliced u p 0 x ≡ Some t → IsWithout t u p n
put_made u t x p n width e =
    let inside = fits u p 0 x t e in
    let made = spliced_gives u p 0 x t e in
    let long : length t ≡ (length u - 0) + length x = ap length (sym made) ∙ length-replaced u p 0 x inside in
    record {
      inside = omega (arith, inside, width, long);
      is = sym (taken_out u p x (omega (arith, inside))) ∙ ap (λ (i : ℕ). replaced (replaced u p 0 x) p i []) width ∙ ap (λ (v : List ℕ). replaced v p n []) made;
    }

-- u is t with n bytes of its own put in at p
record IsWith (t u : List ℕ) (p n : ℕ) : Type 0 where
  pub inside : p ≤ length t
  pub long : length (take n (drop p u)) ≡ n
  pub is : u ≡ replaced t p 0 (take n (drop p u))

out_made : (u t : List ℕ) (p n : ℕ) → spliced u p n [] ≡ Some t → IsWith t u p n
out_made u t p n e =
    let inside = fits u p n [] t e in
    let made = spliced_gives u p n [] t e in
    let long : length t ≡ (length u - n) + 0 = ap length (sym made) ∙ length-replaced u p n [] inside in
    record {
      inside = omega (arith, inside, long);
      long = omega (arith, inside, length-take n (drop p u), length-drop p u);
      is = sym (put_back u p n (omega (arith, inside))) ∙ ap (λ (v : List ℕ). replaced v p 0 (take n (drop p u))) made;
    }

-- ---- the text of a revision, by its command

abbrev pub revision_text : (ℕ → ℕ → ℕ) → SessionValue → ℕ → List ℕ
revision_text source v k = get_or (texts_of source v) k []

earlier : (texts : List (List ℕ)) (k r : ℕ) (t : List ℕ) → slice_get (take k texts) r ≡ Some t → (r < k) × (t ≡ get_or texts r [])
earlier texts k r t e =
    let within = slice_get_within (take k texts) r t e in
    let lt : r < k = omega (arith, within, length-take k texts) in
    (lt, sym (get_or_from_slice_get (take k texts) r t [] e) ∙ get_or-take k texts r [] lt)

given_at : (v : SessionValue) → HoldsHistory v → (source : ℕ → ℕ → ℕ) (k : ℕ) (edit : Edit) → edit_of v k ≡ Some edit
    → (splices : List Splice) × (result_of (text_givens source (session_table v)) (take k (texts_of source v)) (with_splices splices edit) ≡ Some (revision_text source v k))
given_at v h source k edit at =
    let found = edit_there (slice_get v.revisions k) edit at in
    let splices = found.0.splices.items in
    let says : slice_get (commands_of v.revisions) k ≡ Some (with_splices splices edit) =
    slice_get-map command_of v.revisions k ∙ ap (option_map command_of) found.1 ∙ ap (λ (e : Edit). Some (with_splices splices e)) found.2 in
    let inside : k < length (texts_of source v) = omega (arith, slice_get_within v.revisions k found.0 found.1, count_texts v source) in
    (splices, sym ((h.texts source).each k (with_splices splices edit) says) ∙ slice_get-get_or (texts_of source v) k [] inside)

insert_made : (v : SessionValue) → HoldsHistory v → (source : ℕ → ℕ → ℕ) (k r p a n : ℕ) → edit_of v k ≡ Some (Recorded.Insert r p a n) → IsWithout (revision_text source v k) (revision_text source v r) p n
insert_made v h source k r p a n at =
    let texts = texts_of source v in
    let pool = (text_givens source (session_table v)).pool in
    let t = revision_text source v k in
    let first = bound_gives (slice_get (take k texts) r) _ t (given_at v h source k (Recorded.Insert r p a n) at).1 in
    let second = bound_gives (span pool a n) _ t first.2 in
    subst (λ (u : List ℕ). IsWithout t u p n) (earlier texts k r first.0 first.1).1
    (put_made first.0 t second.0 p n (span_long pool a n second.0 second.1) (chosen_gives (nat_le 1 n) (spliced first.0 p 0 second.0) t second.2))

paste_made : (v : SessionValue) → HoldsHistory v → (source : ℕ → ℕ → ℕ) (k r p q i n : ℕ) → edit_of v k ≡ Some (Recorded.Paste r p q i n) → IsWithout (revision_text source v k) (revision_text source v r) p n
paste_made v h source k r p q i n at =
    let texts = texts_of source v in
    let t = revision_text source v k in
    let first = bound_gives (slice_get (take k texts) r) _ t (given_at v h source k (Recorded.Paste r p q i n) at).1 in
    let second = bound_gives (slice_get (take k texts) q) _ t first.2 in
    let third = bound_gives (span second.0 i n) _ t second.2 in
    subst (λ (u : List ℕ). IsWithout t u p n) (earlier texts k r first.0 first.1).1 (put_made first.0 t third.0 p n (span_long second.0 i n third.0 third.1) third.2)

delete_made : (v : SessionValue) → HoldsHistory v → (source : ℕ → ℕ → ℕ) (k r p n : ℕ) → edit_of v k ≡ Some (Recorded.Delete r p n) → IsWith (revision_text source v k) (revision_text source v r) p n
delete_made v h source k r p n at =
    let texts = texts_of source v in
    let t = revision_text source v k in
    let first = bound_gives (slice_get (take k texts) r) _ t (given_at v h source k (Recorded.Delete r p n) at).1 in
    subst (λ (u : List ℕ). IsWith t u p n) (earlier texts k r first.0 first.1).1 (out_made first.0 t p n first.2)

pub delete_earlier : (v : SessionValue) → HoldsHistory v → (k r p n : ℕ) → edit_of v k ≡ Some (Recorded.Delete r p n) → r < k
delete_earlier v h k r p n at =
    let first = bound_gives (slice_get (take k (texts_of no_source v)) r) _ (revision_text no_source v k) (given_at v h no_source k (Recorded.Delete r p n) at).1 in
    (earlier (texts_of no_source v) k r first.0 first.1).0

-- ---- what Undo goes back to

prior_named : (e : Editing) → IsEditing e → (k : ℕ) (edit : Edit) → edit_of e.session k ≡ Some edit → get_or e.priors k None ≡ prior_behind (take k e.priors) edit
prior_named e is k edit at =
    let here : 0 + k ≡ k = omega arith in
    let all = priors_of (edits_of e.session.revisions) in
    subst (λ (ps : List (Option ℕ)). get_or ps k None ≡ prior_behind (take k ps) edit) (sym is.named)
    (subst (λ (n : ℕ). get_or all n None ≡ prior_behind (take n all) edit) here (prior_at [] (edits_of e.session.revisions) k edit (slice_get-map (λ (r : Revision). r.edit) e.session.revisions k ∙ at)))

undone : (e : Editing) (r : ℕ) (source : ℕ → ℕ → ℕ) → get_or e.priors (last_of e) None ≡ Some r → current (done Keys.Undo (state_of source e)) ≡ revision_text source e.session r
undone e r source prior =
    ap (λ (o : Option ℕ). current (gone_back o (state_of source e))) (last_prior e source (Some r) prior) ∙ current_revised source e (revision_text source e.session r)

-- that is the text of the revision which the command names that made the current one
undone_of : (e : Editing) (k r : ℕ) (edit : Edit) → IsEditing e → IsMaker e k edit → prior_behind (take k e.priors) edit ≡ Some r → (source : ℕ → ℕ → ℕ)
    → current (done Keys.Undo (state_of source e)) ≡ revision_text source e.session r
undone_of e k r edit is m prior source = undone e r source (sym m.prior ∙ prior_named e is k edit m.is ∙ prior)

-- Undo takes these bytes out
pub record TakesOut (e : Editing) (p n : ℕ) : Type 0 where
  pub inside : p + n ≤ current_len e
  pub text : (source : ℕ → ℕ → ℕ) → current (done Keys.Undo (state_of source e)) ≡ replaced (current (state_of source e)) p n []

takes_out : (e : Editing) (k r p n : ℕ) (edit : Edit) → IsEditing e → HoldsHistory e.session → IsMaker e k edit → prior_behind (take k e.priors) edit ≡ Some r
    → ((source : ℕ → ℕ → ℕ) → IsWithout (revision_text source e.session k) (revision_text source e.session r) p n) → TakesOut e p n
takes_out e k r p n edit is h m prior made = record {
  inside = omega (arith, (made no_source).inside, ap length (m.text no_source), current_text_len e h no_source);
  text = λ source. undone_of e k r edit is m prior source ∙ (made source).is ∙ ap (λ (t : List ℕ). replaced t p n []) (m.text source);
}

insert_undone : (e : Editing) (k r p a n : ℕ) → IsEditing e → HoldsHistory e.session → IsMaker e k (Recorded.Insert r p a n) → TakesOut e p n
insert_undone e k r p a n is h m = takes_out e k r p n (Recorded.Insert r p a n) is h m refl (λ source. insert_made e.session h source k r p a n m.is)

paste_undone : (e : Editing) (k r p q i n : ℕ) → IsEditing e → HoldsHistory e.session → IsMaker e k (Recorded.Paste r p q i n) → TakesOut e p n
paste_undone e k r p q i n is h m = takes_out e k r p n (Recorded.Paste r p q i n) is h m refl (λ source. paste_made e.session h source k r p q i n m.is)

pub put_in_undone : (e : Editing) (k : ℕ) (edit : Edit) (p n : ℕ) → IsEditing e → HoldsHistory e.session → IsMaker e k edit
    → ((r : ℕ) × (a : ℕ) × (edit ≡ Recorded.Insert r p a n)) ⊎ ((r : ℕ) × (q : ℕ) × (i : ℕ) × (edit ≡ Recorded.Paste r p q i n)) → TakesOut e p n
put_in_undone e k edit p n is h m (inl made) = insert_undone e k made.0 p made.1 n is h (subst (IsMaker e k) made.2 m)
put_in_undone e k edit p n is h m (inr made) = paste_undone e k made.0 p made.1 made.2 n is h (subst (IsMaker e k) made.3 m)

-- the n bytes at p of the text of revision r, which Undo puts in, so that this text is back
abbrev pub bytes_back : (ℕ → ℕ → ℕ) → Editing → ℕ → ℕ → ℕ → List ℕ
bytes_back source e r p n = take n (drop p (revision_text source e.session r))

pub record PutsBack (e : Editing) (r p n : ℕ) : Type 0 where
  pub inside : p ≤ current_len e
  pub long : (source : ℕ → ℕ → ℕ) → length (bytes_back source e r p n) ≡ n
  pub whole : (source : ℕ → ℕ → ℕ) → current (done Keys.Undo (state_of source e)) ≡ revision_text source e.session r
  pub text : (source : ℕ → ℕ → ℕ) → current (done Keys.Undo (state_of source e)) ≡ replaced (current (state_of source e)) p 0 (bytes_back source e r p n)

pub delete_undone : (e : Editing) (k r p n : ℕ) → IsEditing e → HoldsHistory e.session → IsMaker e k (Recorded.Delete r p n) → PutsBack e r p n
delete_undone e k r p n is h m =
    let made = λ (source : ℕ → ℕ → ℕ). delete_made e.session h source k r p n m.is in
    let whole = undone_of e k r (Recorded.Delete r p n) is m refl in
    record {
      inside = omega (arith, (made no_source).inside, ap length (m.text no_source), current_text_len e h no_source);
      long = λ source. (made source).long;
      whole = whole;
      text = λ source. whole source ∙ (made source).is ∙ ap (λ (t : List ℕ). replaced t p 0 (bytes_back source e r p n)) (m.text source);
    }

-- Undo takes a balancing back: the text is as it was
pub balance_undone : (e : Editing) (k r : ℕ) → IsEditing e → HoldsHistory e.session → IsMaker e k (Recorded.Balance r) → (source : ℕ → ℕ → ℕ) → current (done Keys.Undo (state_of source e)) ≡ current (state_of source e)
balance_undone e k r is h m source =
    let stands = (given_at e.session h source k (Recorded.Balance r) m.is).1 in
    undone_of e k r (Recorded.Balance r) is m refl source ∙ sym (earlier (texts_of source e.session) k r (revision_text source e.session k) stands).1 ∙ m.text source

-- ---- a revision whose text stands again

pub record StandsFor (e : Editing) (k r : ℕ) : Type 0 where
  pub before : r < k
  pub text : (source : ℕ → ℕ → ℕ) → revision_text source e.session r ≡ revision_text source e.session k
  pub prior : get_or e.priors r None ≡ get_or e.priors k None

pub back_stands : (e : Editing) (k r : ℕ) → IsEditing e → HoldsHistory e.session → edit_of e.session k ≡ Some (Recorded.Back r) → StandsFor e k r
back_stands e k r is h at =
    let stands = λ (source : ℕ → ℕ → ℕ). earlier (texts_of source e.session) k r (revision_text source e.session k) (given_at e.session h source k (Recorded.Back r) at).1 in
    record {
      before = (stands no_source).0;
      text = λ source. sym (stands source).1;
      prior = sym (prior_named e is k (Recorded.Back r) at ∙ get_or-take k e.priors r None (stands no_source).0);
    }
