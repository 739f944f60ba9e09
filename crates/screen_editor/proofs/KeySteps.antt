-- Each key's work on a session: nothing, or its command.
use Rattle.std.proofs.Common.{◌≡◌, ℕ, ◌+◌, ◌-◌, ◌<◌, ◌≤◌, Bool, true, false, List, [], ◌∷◌, length, take, drop, get_or, Option, Some, None, Ok, Err, refl, sym, ap, arith, ◌∙◌, nat_lt}
use Rattle.std.specs.Prelude.{slice_get, min, max, ◌==◌, if◌then◌else◌}
use Rattle.std.specs.Borrow.{Bor}
use Rattle.std.specs.Option.{option_map}
use Rattle.std.proofs.lemmas.Bool.{lt-ltb, le-ltb, eq-eqb, ne_eqb}
use Rattle.std.proofs.lemmas.List.{length-take, length-drop}
use Rattle.command_parts.specs.declared.edit.Edit.TheVariants as Recorded
use Rattle.command_parts.specs.Commands.{replaced}
use Rattle.edit_commands.specs.declared.command.Command.TheVariants.{Insert, Delete, Paste, Back, Balance}
use Rattle.edit_commands.specs.Session.{HoldsHistory, length_at, texts_of}
use Rattle.screen_editor.specs.declared.cut_span.CutSpan.{CutSpan}
use Rattle.screen_editor.specs.declared.cut_span.TheConstants.{MOST_CUTS}
use Rattle.screen_editor.specs.declared.fault.KeyFault.TheVariants as Fault
use Rattle.screen_editor.specs.declared.key.Key.TheVariants as Keys
use Rattle.screen_editor.specs.declared.workspace.TheConstants.{LONGEST_TEXT}
use Rattle.screen_editor.specs.Editing.{Editing, IsCutSpan, IsEditing, current_len, last_of, state_of}
use Rattle.screen_editor.specs.Machine.{cut_out, cut_to, cutting, done, edited, gone_back, pasted, pasting, revised}
use Rattle.screen_editor.specs.State.{current, last_revision, prior_of}
use Rattle.screen_editor.specs.Taking.{RevisesOrNot, CarriesOut}
use Rattle.screen_editor.proofs.KeyPlans.{IsPlan, current_text_len, idle, long_kept, stays}
use Rattle.screen_editor.proofs.NewTexts.{count_texts, text_len}
use Rattle.text_lines.proofs.KnownLaws.{length-replaced}
use Rattle.screen_editor.proofs.Revising.{lengths_more}

-- ---- the last revision

number : (e : Editing) (source : ℕ → ℕ → ℕ) → last_revision (state_of source e) ≡ last_of e
number e source = ap (λ n. n - 1) (count_texts e.session source)

last_there : (e : Editing) → IsEditing e → last_of e < length e.session.revisions
last_there e is = omega (arith, is.some)

abbrev last_text : (ℕ → ℕ → ℕ) → Editing → List ℕ
last_text source e = get_or (texts_of source e.session) (last_of e) []

edited_at : (source : ℕ → ℕ → ℕ) (e : Editing) (p m : ℕ) (x : List ℕ) (q : ℕ) → edited (state_of source e) p m x q ≡ revised (state_of source e) (replaced (last_text source e) p m x) (Some (last_of e)) q
edited_at source e p m x q = ap (λ n. revised (state_of source e) (replaced (get_or (texts_of source e.session) n []) p m x) (Some n) q) (number e source)

-- a test that is known
taken_so : {A : Type 0} (test : Bool) (x y : A) → test ≡ true → (if test then x else y) ≡ x
taken_so test x y e = ap (λ (t : Bool). if t then x else y) e

left_so : {A : Type 0} (test : Bool) (x y : A) → test ≡ false → (if test then x else y) ≡ y
left_so test x y e = ap (λ (t : Bool). if t then x else y) e

-- ---- a byte typed

pub typed_plan : (e : Editing) (b : ℕ) (bytes : Bor (List ℕ)) → IsEditing e → HoldsHistory e.session → current_len e < LONGEST_TEXT → bytes.now ≡ b ∷ []
    → IsPlan (Keys.Typed b) e (Insert (last_of e) e.place bytes) (Some (last_of e)) (e.place + 1) e.cuts
typed_plan e b bytes is h short byte =
    let one : length bytes.now ≡ 1 = ap length byte in
    record {
      edit = λ a source. ap (λ n. Some (Recorded.Insert n e.place a 1)) (number e source) ∙ ap (λ n. Some (Recorded.Insert (last_of e) e.place a n)) (sym one);
      bytes = ap (λ (x : List ℕ). Some x) byte;
      does = λ source. edited_at source e e.place 0 (b ∷ []) (e.place + 1)
          ∙ ap (λ (x : List ℕ). revised (state_of source e) (replaced (last_text source e) e.place 0 x) (Some (last_of e)) (e.place + 1)) (sym byte);
      order = (last_there e is, is.place, one);
      short = omega (arith, one, short);
    }

pub typed_too_long : (e : Editing) (b : ℕ) → IsEditing e → HoldsHistory e.session → LONGEST_TEXT ≤ current_len e → CarriesOut (Keys.Typed b) e (Err Fault.TooLong) e
typed_too_long e b is h long = long_kept (Keys.Typed b) e (Some (last_of e)) (e.place + 1) (λ source. replaced (last_text source e) e.place 0 (b ∷ [])) (λ source. edited_at source e e.place 0 (b ∷ []) (e.place + 1)) longer
  where
    longer : (source : ℕ → ℕ → ℕ) → LONGEST_TEXT < length (replaced (last_text source e) e.place 0 (b ∷ []))
    longer source =
        let len = text_len e.session h source (last_of e) in
        let inside = is.place in
        let all = length-replaced (last_text source e) e.place 0 (b ∷ []) (omega (arith, len, inside)) in
        omega (arith, len, all, long)

-- ---- a byte erased

pub erase_before_plan : (e : Editing) → IsEditing e → HoldsHistory e.session → 0 < e.place
    → IsPlan Keys.EraseBefore e (Delete (last_of e) (e.place - 1) 1) (Some (last_of e)) (e.place - 1) e.cuts
erase_before_plan e is h some =
    let test = lt-ltb 0 e.place some in
    let inside = is.place in
    let short = is.short (last_of e) (last_there e is) in
    record {
      edit = λ a source. taken_so (nat_lt 0 e.place) (Some (Recorded.Delete (last_revision (state_of source e)) (e.place - 1) 1)) None test ∙ ap (λ n. Some (Recorded.Delete n (e.place - 1) 1)) (number e source);
      bytes = refl;
      does = λ source. taken_so (nat_lt 0 e.place) (edited (state_of source e) (e.place - 1) 1 [] (e.place - 1)) (state_of source e) test ∙ edited_at source e (e.place - 1) 1 [] (e.place - 1);
      order = (last_there e is, omega (arith, some, inside));
      short = omega (arith, short);
    }

pub erase_before_idle : (e : Editing) → IsEditing e → HoldsHistory e.session → e.place ≡ 0 → CarriesOut Keys.EraseBefore e (Ok tt) e
erase_before_idle e is h none =
    let test = le-ltb 0 e.place (omega (arith, none)) in
    idle Keys.EraseBefore e is h (λ source. left_so (nat_lt 0 e.place) (edited (state_of source e) (e.place - 1) 1 [] (e.place - 1)) (state_of source e) test)
    (λ a source. left_so (nat_lt 0 e.place) (Some (Recorded.Delete (last_revision (state_of source e)) (e.place - 1) 1)) None test)

current_test : (e : Editing) → HoldsHistory e.session → (source : ℕ → ℕ → ℕ) → nat_lt e.place (length (current (state_of source e))) ≡ nat_lt e.place (current_len e)
current_test e h source = ap (nat_lt e.place) (current_text_len e h source)

pub erase_at_plan : (e : Editing) → IsEditing e → HoldsHistory e.session → e.place < current_len e → IsPlan Keys.EraseAt e (Delete (last_of e) e.place 1) (Some (last_of e)) e.place e.cuts
erase_at_plan e is h some =
    let test : (source : ℕ → ℕ → ℕ) → nat_lt e.place (length (current (state_of source e))) ≡ true = λ source. current_test e h source ∙ lt-ltb e.place (current_len e) some in
    let short = is.short (last_of e) (last_there e is) in
    record {
      edit = λ a source. taken_so (nat_lt e.place (length (current (state_of source e)))) (Some (Recorded.Delete (last_revision (state_of source e)) e.place 1)) None (test source) ∙ ap (λ n. Some (Recorded.Delete n e.place 1)) (number e source);
      bytes = refl;
      does = λ source. taken_so (nat_lt e.place (length (current (state_of source e)))) (edited (state_of source e) e.place 1 [] e.place) (state_of source e) (test source) ∙ edited_at source e e.place 1 [] e.place;
      order = (last_there e is, omega (arith, some));
      short = omega (arith, short);
    }

pub erase_at_idle : (e : Editing) → IsEditing e → HoldsHistory e.session → current_len e ≤ e.place → CarriesOut Keys.EraseAt e (Ok tt) e
erase_at_idle e is h none =
    let test : (source : ℕ → ℕ → ℕ) → nat_lt e.place (length (current (state_of source e))) ≡ false = λ source. current_test e h source ∙ le-ltb e.place (current_len e) none in
    idle Keys.EraseAt e is h (λ source. left_so (nat_lt e.place (length (current (state_of source e)))) (edited (state_of source e) e.place 1 [] e.place) (state_of source e) (test source))
    (λ a source. left_so (nat_lt e.place (length (current (state_of source e)))) (Some (Recorded.Delete (last_revision (state_of source e)) e.place 1)) None (test source))

-- ---- the text again, balanced, or an earlier one

pub balance_plan : (e : Editing) → IsEditing e → HoldsHistory e.session → IsPlan Keys.Balance e (Balance (last_of e)) (Some (last_of e)) e.place e.cuts
balance_plan e is h = record {
  edit = λ a source. ap (λ n. Some (Recorded.Balance n)) (number e source);
  bytes = refl;
  does = λ source. ap (λ n. revised (state_of source e) (get_or (texts_of source e.session) n []) (Some n) e.place) (number e source);
  order = last_there e is;
  short = is.short (last_of e) (last_there e is);
}

pub last_prior : (e : Editing) (source : ℕ → ℕ → ℕ) (o : Option ℕ) → get_or e.priors (last_of e) None ≡ o → prior_of (state_of source e) (last_revision (state_of source e)) ≡ o
last_prior e source o is = ap (λ n. get_or e.priors n None) (number e source) ∙ is

pub undo_plan : (e : Editing) (j : ℕ) → IsEditing e → HoldsHistory e.session → get_or e.priors (last_of e) None ≡ Some j → j < last_of e
    → IsPlan Keys.Undo e (Back j) (get_or e.priors j None) (min e.place (length_at e.session j)) e.cuts
undo_plan e j is h prior before =
    let there : j < length e.session.revisions = omega (arith, before) in
    record {
      edit = λ a source. ap (option_map Recorded.Back) (last_prior e source (Some j) prior);
      bytes = refl;
      does = λ source. ap (λ (o : Option ℕ). gone_back o (state_of source e)) (last_prior e source (Some j) prior)
          ∙ ap (λ n. revised (state_of source e) (get_or (texts_of source e.session) j []) (get_or e.priors j None) (min e.place n)) (text_len e.session h source j);
      order = there;
      short = is.short j there;
    }

pub undo_idle : (e : Editing) → IsEditing e → HoldsHistory e.session → get_or e.priors (last_of e) None ≡ None → CarriesOut Keys.Undo e (Ok tt) e
undo_idle e is h none = idle Keys.Undo e is h (λ source. ap (λ (o : Option ℕ). gone_back o (state_of source e)) (last_prior e source None none))
    (λ a source. ap (option_map Recorded.Back) (last_prior e source None none))

-- ---- the latest cut span put in

pub first_is : (cs : List CutSpan) (c : CutSpan) → slice_get cs 0 ≡ Some c → cs ≡ c ∷ drop 1 cs
first_is [] c e = absurd cc
first_is (x ∷ xs) c e = let same : x ≡ c = cc in ap (λ (y : CutSpan). y ∷ xs) same

pub none_is : (cs : List CutSpan) → slice_get cs 0 ≡ None → cs ≡ []
none_is [] e = refl
none_is (x ∷ xs) e = absurd cc

abbrev pub put_in : (ℕ → ℕ → ℕ) → Editing → CutSpan → List ℕ
put_in source e c = take c.len (drop c.start (get_or (texts_of source e.session) c.revision []))

pub put_long : (e : Editing) (c : CutSpan) → HoldsHistory e.session → IsCutSpan e.session c → (source : ℕ → ℕ → ℕ) → length (put_in source e c) ≡ c.len
put_long e c h span source =
    let from = text_len e.session h source c.revision in
    let within = span.inside in
    omega (arith, from, within, length-take c.len (drop c.start (get_or (texts_of source e.session) c.revision [])), length-drop c.start (get_or (texts_of source e.session) c.revision []))

paste_does : (e : Editing) (c : CutSpan) → slice_get e.cuts 0 ≡ Some c → (source : ℕ → ℕ → ℕ)
    → done Keys.Paste (state_of source e) ≡ revised (state_of source e) (replaced (last_text source e) e.place 0 (put_in source e c)) (Some (last_of e)) (e.place + c.len)
paste_does e c first source = ap (λ (cs : List CutSpan). pasted cs (state_of source e)) (first_is e.cuts c first) ∙ edited_at source e e.place 0 (put_in source e c) (e.place + c.len)

pub paste_plan : (e : Editing) (c : CutSpan) → IsEditing e → HoldsHistory e.session → slice_get e.cuts 0 ≡ Some c → IsCutSpan e.session c → current_len e + c.len ≤ LONGEST_TEXT
    → IsPlan Keys.Paste e (Paste (last_of e) e.place c.revision c.start c.len) (Some (last_of e)) (e.place + c.len) e.cuts
paste_plan e c is h first span short = record {
  edit = λ a source. ap (λ (cs : List CutSpan). pasting cs (state_of source e)) (first_is e.cuts c first) ∙ ap (λ n. Some (Recorded.Paste n e.place c.revision c.start c.len)) (number e source);
  bytes = refl;
  does = paste_does e c first;
  order = (last_there e is, is.place, span.revision, span.inside);
  short = short;
}

pub paste_too_long : (e : Editing) (c : CutSpan) → IsEditing e → HoldsHistory e.session → slice_get e.cuts 0 ≡ Some c → IsCutSpan e.session c → LONGEST_TEXT < current_len e + c.len → CarriesOut Keys.Paste e (Err Fault.TooLong) e
paste_too_long e c is h first span long = long_kept Keys.Paste e (Some (last_of e)) (e.place + c.len) (λ source. replaced (last_text source e) e.place 0 (put_in source e c)) (paste_does e c first) longer
  where
    longer : (source : ℕ → ℕ → ℕ) → LONGEST_TEXT < length (replaced (last_text source e) e.place 0 (put_in source e c))
    longer source =
        let len = text_len e.session h source (last_of e) in
        let inside = is.place in
        let put = put_long e c h span source in
        let all = length-replaced (last_text source e) e.place 0 (put_in source e c) (omega (arith, len, inside)) in
        omega (arith, len, all, put, long)

pub paste_idle : (e : Editing) → IsEditing e → HoldsHistory e.session → slice_get e.cuts 0 ≡ None → CarriesOut Keys.Paste e (Ok tt) e
paste_idle e is h none = idle Keys.Paste e is h (λ source. ap (λ (cs : List CutSpan). pasted cs (state_of source e)) (none_is e.cuts none)) (λ a source. ap (λ (cs : List CutSpan). pasting cs (state_of source e)) (none_is e.cuts none))

-- ---- the bytes from the mark to the place, cut

abbrev pub span_cut : Editing → ℕ → CutSpan
span_cut e m = record { revision = last_of e; start = min m e.place; len = max m e.place - min m e.place }

pub cut_plan : (e : Editing) (m : ℕ) → IsEditing e → HoldsHistory e.session → e.mark ≡ Some m → m ≤ current_len e → (m ≡ e.place → ⊥)
    → IsPlan Keys.Cut e (Delete (last_of e) (min m e.place) (max m e.place - min m e.place)) (Some (last_of e)) (min m e.place) (take MOST_CUTS (span_cut e m ∷ e.cuts))
cut_plan e m is h mark inside other =
    let test : (m == e.place) ≡ false = ne_eqb m e.place other in
    let here = is.place in
    let short = is.short (last_of e) (last_there e is) in
    record {
      edit = λ a source. ap (λ (o : Option ℕ). cutting o (state_of source e)) mark
          ∙ left_so (m == e.place) None (Some (Recorded.Delete (last_revision (state_of source e)) (min m e.place) (max m e.place - min m e.place))) test
          ∙ ap (λ n. Some (Recorded.Delete n (min m e.place) (max m e.place - min m e.place))) (number e source);
      bytes = refl;
      does = λ source. ap (λ (o : Option ℕ). cut_to o (state_of source e)) mark
          ∙ left_so (m == e.place) (state_of source e) (cut_out (state_of source e) (min m e.place) (max m e.place)) test
          ∙ ap (λ n. record (revised (state_of source e) (replaced (get_or (texts_of source e.session) n []) (min m e.place) (max m e.place - min m e.place) []) (Some n) (min m e.place)) { cuts = take MOST_CUTS (record { revision = n; start = min m e.place; len = max m e.place - min m e.place } ∷ e.cuts) }) (number e source);
      order = (last_there e is, omega (arith, inside, here));
      short = omega (arith, short);
    }

pub cut_idle_here : (e : Editing) (m : ℕ) → IsEditing e → HoldsHistory e.session → e.mark ≡ Some m → m ≡ e.place → CarriesOut Keys.Cut e (Ok tt) e
cut_idle_here e m is h mark same =
    let test : (m == e.place) ≡ true = eq-eqb m e.place same in
    idle Keys.Cut e is h (λ source. ap (λ (o : Option ℕ). cut_to o (state_of source e)) mark ∙ taken_so (m == e.place) (state_of source e) (cut_out (state_of source e) (min m e.place) (max m e.place)) test)
    (λ a source. ap (λ (o : Option ℕ). cutting o (state_of source e)) mark ∙ taken_so (m == e.place) None (Some (Recorded.Delete (last_revision (state_of source e)) (min m e.place) (max m e.place - min m e.place))) test)

pub cut_idle : (e : Editing) → IsEditing e → HoldsHistory e.session → e.mark ≡ None → CarriesOut Keys.Cut e (Ok tt) e
cut_idle e is h mark = idle Keys.Cut e is h (λ source. ap (λ (o : Option ℕ). cut_to o (state_of source e)) mark) (λ a source. ap (λ (o : Option ℕ). cutting o (state_of source e)) mark)

-- what was cut lies in the revision that it was cut from
pub cut_lies : (e mid : Editing) (m : ℕ) (prior : Option ℕ) (q : ℕ) → IsEditing e → HoldsHistory e.session → HoldsHistory mid.session → m ≤ current_len e → (m ≡ e.place → ⊥)
    → RevisesOrNot (Delete (last_of e) (min m e.place) (max m e.place - min m e.place)) prior q e (Ok tt) mid → IsCutSpan mid.session (span_cut e m)
cut_lies e mid m prior q is h k inside other r =
    let here = is.place in
    let l = lengths_more e.session (Delete (last_of e) (min m e.place) (max m e.place - min m e.place)) mid.session h k (last_there e is, omega (arith, inside, here)) r.revises.applies in
    let same = l.earlier (last_of e) (last_there e is) in
    let count = l.count in
    record { revision = omega (arith, count, is.some); inside = omega (arith, same, inside, here); some = omega (arith, other) }

-- ---- no revision

pub left_stays : (e : Editing) → IsEditing e → HoldsHistory e.session → 0 < e.place → CarriesOut Keys.Left e (Ok tt) (record e { place = e.place - 1 })
left_stays e is h some =
    let test = lt-ltb 0 e.place some in
    stays Keys.Left e (record e { place = e.place - 1 }) is h (record {
      texts = λ source. ap (λ (t : Bool). (if t then record (state_of source e) { place = e.place - 1 } else state_of source e).texts) test;
      edit = λ a source. refl;
      does = λ source. sym (taken_so (nat_lt 0 e.place) (record (state_of source e) { place = e.place - 1 }) (state_of source e) test);
      session = refl;
    })

pub left_idle : (e : Editing) → IsEditing e → HoldsHistory e.session → e.place ≡ 0 → CarriesOut Keys.Left e (Ok tt) e
left_idle e is h none = idle Keys.Left e is h (λ source. left_so (nat_lt 0 e.place) (record (state_of source e) { place = e.place - 1 }) (state_of source e) (le-ltb 0 e.place (omega (arith, none)))) (λ a source. refl)

pub right_stays : (e : Editing) → IsEditing e → HoldsHistory e.session → e.place < current_len e → CarriesOut Keys.Right e (Ok tt) (record e { place = e.place + 1 })
right_stays e is h some =
    let test : (source : ℕ → ℕ → ℕ) → nat_lt e.place (length (current (state_of source e))) ≡ true = λ source. current_test e h source ∙ lt-ltb e.place (current_len e) some in
    stays Keys.Right e (record e { place = e.place + 1 }) is h (record {
      texts = λ source. ap (λ (t : Bool). (if t then record (state_of source e) { place = e.place + 1 } else state_of source e).texts) (test source);
      edit = λ a source. refl;
      does = λ source. sym (taken_so (nat_lt e.place (length (current (state_of source e)))) (record (state_of source e) { place = e.place + 1 }) (state_of source e) (test source));
      session = refl;
    })

pub right_idle : (e : Editing) → IsEditing e → HoldsHistory e.session → current_len e ≤ e.place → CarriesOut Keys.Right e (Ok tt) e
right_idle e is h none = idle Keys.Right e is h
    (λ source. left_so (nat_lt e.place (length (current (state_of source e)))) (record (state_of source e) { place = e.place + 1 }) (state_of source e) (current_test e h source ∙ le-ltb e.place (current_len e) none))
    (λ a source. refl)

pub mark_stays : (e : Editing) → IsEditing e → HoldsHistory e.session → CarriesOut Keys.Mark e (Ok tt) (record e { mark = Some e.place })
mark_stays e is h = stays Keys.Mark e (record e { mark = Some e.place }) is h (record { texts = λ source. refl; edit = λ a source. refl; does = λ source. refl; session = refl })

pub drop_cut_stays : (e : Editing) → IsEditing e → HoldsHistory e.session → CarriesOut Keys.DropCut e (Ok tt) (record e { cuts = drop 1 e.cuts })
drop_cut_stays e is h = stays Keys.DropCut e (record e { cuts = drop 1 e.cuts }) is h (record { texts = λ source. refl; edit = λ a source. refl; does = λ source. refl; session = refl })
