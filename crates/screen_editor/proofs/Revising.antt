-- A session that is edited, with one revision more or with a command refused, still keeps to its rules.
use Rattle.std.proofs.Common.{◌≡◌, ℕ, ◌+◌, ◌-◌, ◌<◌, ◌≤◌, List, [], ◌∷◌, ◌++◌, length, get_or, map, Option, Some, None, Bool, false, Result, Ok, Err, refl, sym, ap, subst, arith, ◌∙◌, inl, inr, IfSome}
use Rattle.std.specs.Prelude.{IsErrOf, ◌||◌, ◌==◌, if◌then◌else◌, nat_lt}
use Rattle.std.proofs.lemmas.Bool.{cases_lt, cases_Bool, le-leb, lt-leb, le-ltb, leb-true, or_from}
use Rattle.std.proofs.lemmas.List.{length-append, get_or_append_left}
use Rattle.std.proofs.Math.Seq.{get_or-append_seam}
use Rattle.std.proofs.Math.Path.{Path}
use Rattle.leaf_buffer.specs.declared.block.TheConstants.{BLOCK_SIZE}
use Rattle.rope_node.specs.declared.limits.TheConstants.{TEXT_LIMIT}
use Rattle.edit_commands.specs.declared.command.Command.{Command}
use Rattle.edit_commands.specs.declared.command.Command.TheVariants.{New, Open, Insert, Delete, Replace, Paste, Join, Cut, Fill, Back, Balance, Many}
use Rattle.edit_commands.specs.declared.fault.EditFault.{EditFault}
use Rattle.edit_commands.specs.declared.fault.EditFault.TheVariants as Edit
use Rattle.edit_commands.specs.declared.revision.Revision.{Revision}
use Rattle.command_parts.specs.declared.edit.TheConstants.{MOST_REVISIONS, SPLICES_LIMIT}
use Rattle.edit_commands.specs.Applying.{Applies, AppliesOrNot, IsLaterFault, Keeps}
use Rattle.edit_commands.specs.Refusals.{is_empty, is_full, is_full_of_splices, is_out_of_range, is_too_long, is_wrong_count, names_no_revision, names_no_source, refusal_of, result_len}
use Rattle.edit_commands.specs.Session.{SessionValue, HoldsHistory, IsSession, length_at, splices_held, texts_of, edits_of}
use Rattle.screen_editor.specs.declared.cut_span.CutSpan.{CutSpan}
use Rattle.screen_editor.specs.declared.fault.KeyFault.TheVariants as Fault
use Rattle.screen_editor.specs.declared.workspace.TheConstants.{LONGEST_TEXT}
use Rattle.screen_editor.specs.Editing.{Editing, IsCutSpan, IsEditing}
use Rattle.screen_editor.specs.Refusals.{LeavesSession}
use Rattle.screen_editor.specs.Taking.{IsInOrder, IsReviseFault, RevisesOrNot}
use Rattle.command_parts.specs.declared.edit.Edit.{Edit}
use Rattle.screen_editor.specs.Priors.{prior_behind, priors_of}
use Rattle.screen_editor.specs.Recorded.{edit_at}
use Rattle.screen_editor.proofs.NewTexts.{count_texts, edits_more, given_len, plain_of, text_given, text_len, texts_more}
use Rattle.screen_editor.proofs.PriorLaws.{earlier_after, prior_anywhere, priors_more}

no_source : ℕ → ℕ → ℕ
no_source s p = 0

-- ---- one revision more

-- the cut spans lie where they did, where earlier texts are as long as they were
cut_kept : (old new : SessionValue) → length old.revisions ≤ length new.revisions → ((k : ℕ) → k < length old.revisions → length_at new k ≡ length_at old k) → (c : CutSpan) → IsCutSpan old c → IsCutSpan new c
cut_kept old new more same c h = let within = h.revision in record {
  revision = omega (arith, within, more);
  inside = rw (same c.revision within) h.inside;
  some = h.some;
}

-- the lengths with one revision more
pub record LengthsMore (old : SessionValue) (n : ℕ) (new : SessionValue) : Type 0 where
  pub count : length new.revisions ≡ length old.revisions + 1
  pub earlier : (k : ℕ) → k < length old.revisions → length_at new k ≡ length_at old k
  pub last : length_at new (length old.revisions) ≡ n

pub lengths_more : (old : SessionValue) (command : Command) (new : SessionValue) → HoldsHistory old → HoldsHistory new → IsInOrder old command → Applies old command (length old.revisions) new → LengthsMore old (result_len old command) new
lengths_more old command new h k o a =
    let texts = texts_of no_source old in
    let more = texts_more old command new o a no_source in
    let there = count_texts old no_source in
    let given = text_given texts command in
    let at : (i : ℕ) → length_at new i ≡ length (get_or (texts ++ given ∷ []) i []) = λ i. sym (text_len new k no_source i) ∙ ap (λ (ts : List (List ℕ)). length (get_or ts i [])) more in
    record {
      count = ap length a.revisions ∙ length-append old.revisions (a.made ∷ []);
      earlier = λ i lt. at i ∙ ap length (get_or_append_left texts (given ∷ []) [] i (omega (arith, lt, there))) ∙ text_len old h no_source i;
      last = at (length old.revisions) ∙ ap (λ n. length (get_or (texts ++ given ∷ []) n [])) (sym there) ∙ ap length (get_or-append_seam texts given [] []) ∙ given_len old h no_source command o;
    }

abbrev pub with_revision : Editing → SessionValue → Option ℕ → ℕ → Editing
with_revision old session prior q = record old { session = session; priors = old.priors ++ prior ∷ []; place = q; mark = None }

pub revised_kept : (old : Editing) (prior : Option ℕ) (q n : ℕ) (session : SessionValue) → IsEditing old → IsSession session → LengthsMore old.session n session
    → n ≤ LONGEST_TEXT → q ≤ n → IfSome prior (λ j. j < length old.session.revisions)
    → (edit : Edit) → edits_of session.revisions ≡ edits_of old.session.revisions ++ edit ∷ [] → prior ≡ prior_behind old.priors edit → IsEditing (with_revision old session prior q)
revised_kept old prior q n session e s l short place given edit edits named =
    let count = l.count in
    let last : length session.revisions - 1 ≡ length old.session.revisions = omega (arith, count) in
    let len : length_at session (length session.revisions - 1) ≡ n = ap (length_at session) last ∙ l.last in
    record {
      session = s;
      some = omega (arith, count);
      priors = length-append old.priors (prior ∷ []) ∙ ap (λ n. n + 1) e.priors ∙ sym count;
      named = ap (λ (o : Option ℕ). old.priors ++ o ∷ []) named ∙ ap (λ (ps : List (Option ℕ)). ps ++ prior_behind ps edit ∷ []) e.named
          ∙ sym (priors_more [] (edits_of old.session.revisions) edit) ∙ sym (ap priors_of edits);
      earlier = earlier_after old.priors prior e.earlier (subst (λ n. IfSome prior (λ j. j < n)) (sym e.priors) given);
      short = λ k lt. elim (cases_lt k (length old.session.revisions)) [
        | inl before ↦ subst (λ m. m ≤ LONGEST_TEXT) (sym (l.earlier k before)) (e.short k before)
        | inr ge ↦ let same : length old.session.revisions ≡ k = omega (arith, ge, lt, count) in subst (λ m. m ≤ LONGEST_TEXT) (sym l.last ∙ ap (length_at session) same) short
      ];
      place = subst (λ m. q ≤ m) (sym len) place;
      mark = tt;
      few_cuts = e.few_cuts;
      cuts = λ i d lt. cut_kept old.session session (omega (arith, count)) l.earlier (get_or old.cuts i d) (e.cuts i d lt);
    }

-- ---- refused

pub refused_kept : (old : Editing) (session : SessionValue) → IsEditing old → HoldsHistory old.session → Keeps old.session session → session.revisions ≡ old.session.revisions → IsSession session → HoldsHistory session
    → IsEditing (record old { session = session })
refused_kept old session e h keeps same s k =
    let count : length session.revisions ≡ length old.session.revisions = ap length same in
    let texts : texts_of no_source session ≡ texts_of no_source old.session = same_texts in
    let at : (i : ℕ) → length_at session i ≡ length_at old.session i = λ i. sym (text_len session k no_source i) ∙ ap (λ (ts : List (List ℕ)). length (get_or ts i [])) texts ∙ text_len old.session h no_source i in
    let len : length_at session (length session.revisions - 1) ≡ length_at old.session (length old.session.revisions - 1) = at (length session.revisions - 1) ∙ ap (λ n. length_at old.session (n - 1)) count in
    record {
      session = s;
      some = omega (arith, count, e.some);
      priors = e.priors ∙ sym count;
      named = e.named ∙ ap (λ (rs : List Revision). priors_of (edits_of rs)) (sym same);
      earlier = e.earlier;
      short = λ i lt. subst (λ m. m ≤ LONGEST_TEXT) (sym (at i)) (e.short i (omega (arith, lt, count)));
      place = subst (λ m. old.place ≤ m) (sym len) e.place;
      mark = subst (λ n. IfSome old.mark (λ m. m ≤ n)) (sym len) e.mark;
      few_cuts = e.few_cuts;
      cuts = λ i d lt. cut_kept old.session session (omega (arith, count)) (λ j lt. at j) (get_or old.cuts i d) (e.cuts i d lt);
    }
  where
    same_texts : texts_of no_source session ≡ texts_of no_source old.session
    same_texts = ap (λ (rs : List Revision). texts_of no_source (record { held = session.held; revisions = rs })) same ∙ ap (map (Rattle.rope_node.specs.Denotes.text no_source)) keeps.cells

-- a command in order has no reason of its own to be refused
record HasNoReason (v : SessionValue) (command : Command) : Type 0 where
  named : names_no_revision v command ≡ false
  count : is_wrong_count command ≡ false
  sourced : names_no_source v command ≡ false
  inside : is_out_of_range v command ≡ false
  some : is_empty command ≡ false
  splices : is_full_of_splices v command ≡ false
  short : is_too_long v command ≡ false

one_test : (b : Bool) → b ≡ false → (b || false) ≡ false
one_test b e = or_from b false e refl

two_tests : (a b : Bool) → a ≡ false → b ≡ false → (a || (b || false)) ≡ false
two_tests a b e f = or_from a (b || false) e (one_test b f)

room_left : (v : SessionValue) → splices_held v.revisions ≤ SPLICES_LIMIT → nat_lt SPLICES_LIMIT (splices_held v.revisions + 0) ≡ false
room_left v few = le-ltb SPLICES_LIMIT (splices_held v.revisions + 0) (omega (arith, few))

no_reason : (v : SessionValue) (command : Command) → splices_held v.revisions ≤ SPLICES_LIMIT → IsInOrder v command → result_len v command ≤ LONGEST_TEXT → HasNoReason v command
no_reason v New few o short = absurd o
no_reason v (Open s) few o short = absurd o
no_reason v (Insert r p bytes) few o short = record {
  named = one_test _ (lt-leb (length v.revisions) r o.0);
  count = refl;
  sourced = refl;
  inside = one_test _ (one_test _ (le-ltb (length_at v r) p o.1));
  some = one_test _ (ap (λ n. n == 0) o.2);
  splices = room_left v few;
  short = one_test _ (or_from _ _ (lt-leb TEXT_LIMIT (length_at v r + length bytes.now) (omega (arith, short))) (le-ltb BLOCK_SIZE (length bytes.now) (omega (arith, o.2))));
}
no_reason v (Delete r p n) few o short = record {
  named = one_test _ (lt-leb (length v.revisions) r o.0);
  count = refl;
  sourced = refl;
  inside = one_test _ (one_test _ (le-ltb (length_at v r) (p + n) o.1));
  some = refl;
  splices = room_left v few;
  short = one_test _ (one_test _ (lt-leb TEXT_LIMIT (length_at v r - n) (omega (arith, short))));
}
no_reason v (Replace r p m bytes) few o short = absurd o
no_reason v (Paste r p q i n) few o short = record {
  named = two_tests _ _ (lt-leb (length v.revisions) r o.0) (lt-leb (length v.revisions) q o.2);
  count = refl;
  sourced = refl;
  inside = one_test _ (two_tests _ _ (le-ltb (length_at v r) p o.1) (le-ltb (length_at v q) (i + n) o.3));
  some = refl;
  splices = room_left v few;
  short = one_test _ (one_test _ (lt-leb TEXT_LIMIT (length_at v r + n) (omega (arith, short))));
}
no_reason v (Join r q) few o short = absurd o
no_reason v (Cut r i n) few o short = absurd o
no_reason v (Fill r p c n) few o short = absurd o
no_reason v (Back r) few o short = record {
  named = one_test _ (lt-leb (length v.revisions) r o);
  count = refl;
  sourced = refl;
  inside = one_test _ (one_test _ (le-ltb (length_at v r) 0 (omega arith)));
  some = refl;
  splices = room_left v few;
  short = one_test _ (one_test _ (lt-leb TEXT_LIMIT (length_at v r) (omega (arith, short))));
}
no_reason v (Balance r) few o short = record {
  named = one_test _ (lt-leb (length v.revisions) r o);
  count = refl;
  sourced = refl;
  inside = one_test _ (one_test _ (le-ltb (length_at v r) 0 (omega arith)));
  some = refl;
  splices = room_left v few;
  short = one_test _ (one_test _ (lt-leb TEXT_LIMIT (length_at v r) (omega (arith, short))));
}
no_reason v (Many r changes bytes) few o short = absurd o

refusal_without : (v : SessionValue) (command : Command) → HasNoReason v command → refusal_of v command ≡ (if is_full v then Some Edit.TooManyRevisions else None)
refusal_without v command h = rw (h.named, h.count, h.sourced, h.inside, h.some, h.splices, h.short) refl

is_later : (old : Editing) (command : Command) (f : EditFault) (new : Editing) → IsLaterFault old.session.held old.session.revisions command f new.session.held → IsReviseFault command old (Fault.Edit f) new
is_later old command Edit.NoRevision new h = h
is_later old command Edit.NoSource new h = h
is_later old command Edit.Range new h = h
is_later old command Edit.EmptyText new h = h
is_later old command Edit.SpliceCount new h = h
is_later old command Edit.TooManySplices new h = h
is_later old command Edit.TooManyRevisions new h = absurd h
is_later old command Edit.TooManyRows new h = h
is_later old command (Edit.Node n) new h = h
is_later old command Edit.TooManyPieces new h = h
is_later old command Edit.Memory new h = h

-- a command in order is refused at once only where there are too many revisions
pub fault_in_order : (old : Editing) (command : Command) (f : EditFault) (new : Editing) → IsSession old.session → IsInOrder old.session command → result_len old.session command ≤ LONGEST_TEXT
    → AppliesOrNot old.session command (Err f) new.session → IsReviseFault command old (Fault.Edit f) new
fault_in_order old command f new is o short a = elim (cases_Bool (is_full old.session)) [
  | inl full ↦
      let refusal : refusal_of old.session command ≡ Some Edit.TooManyRevisions = refused ∙ ap (λ (b : Bool). if b then Some Edit.TooManyRevisions else None) full in
      let same : f ≡ Edit.TooManyRevisions = same_fault f Edit.TooManyRevisions (a.refused Edit.TooManyRevisions refusal).0 in
      subst (λ g. IsReviseFault command old (Fault.Edit g) new) (sym same) (leb-true MOST_REVISIONS (length old.session.revisions) full)
  | inr free ↦
      let refusal : refusal_of old.session command ≡ None = refused ∙ ap (λ (b : Bool). if b then Some Edit.TooManyRevisions else None) free in
      is_later old command f new (a.later refusal)
]
  where
    refused : refusal_of old.session command ≡ (if is_full old.session then Some Edit.TooManyRevisions else None)
    refused = refusal_without old.session command (no_reason old.session command is.few_splices o short)

    same_fault : (f g : EditFault) → Path (Result ℕ EditFault) (Err f) (Err g) → f ≡ g
    same_fault f g e = cc

pub full_in_order : (old : Editing) (command : Command) (result : Result ℕ EditFault) (session : SessionValue) → IsSession old.session → IsInOrder old.session command → result_len old.session command ≤ LONGEST_TEXT
    → AppliesOrNot old.session command result session → MOST_REVISIONS ≤ length old.session.revisions → result ≡ Err Edit.TooManyRevisions
full_in_order old command result session is o short a full =
    let refused = refusal_without old.session command (no_reason old.session command is.few_splices o short) in
    let refusal : refusal_of old.session command ≡ Some Edit.TooManyRevisions = refused ∙ ap (λ (b : Bool). if b then Some Edit.TooManyRevisions else None) (le-leb MOST_REVISIONS (length old.session.revisions) full) in
    (a.refused Edit.TooManyRevisions refusal).0

-- nothing that is met on the way is such a fault
not_on_the_way : (old : SessionValue) (command : Command) (f : EditFault) (new : SessionValue) → IsLaterFault old.held old.revisions command f new.held → LeavesSession (Fault.Edit f) → ⊥
not_on_the_way old command Edit.TooManyRevisions new met leaves = met
not_on_the_way old command _ new met leaves = leaves

unchanged_in_order : (old : Editing) (command : Command) (f : EditFault) (session : SessionValue) → IsSession old.session → IsInOrder old.session command → result_len old.session command ≤ LONGEST_TEXT
    → AppliesOrNot old.session command (Err f) session → LeavesSession (Fault.Edit f) → session ≡ old.session
unchanged_in_order old command f session is o short a leaves =
    let refused = refusal_without old.session command (no_reason old.session command is.few_splices o short) in
    elim (cases_Bool (is_full old.session)) [
      | inl full ↦ (a.refused Edit.TooManyRevisions (refused ∙ ap (λ (b : Bool). if b then Some Edit.TooManyRevisions else None) full)).1
      | inr free ↦ absurd (not_on_the_way old.session command f session (a.later (refused ∙ ap (λ (b : Bool). if b then Some Edit.TooManyRevisions else None) free)) leaves)
    ]

pub refused_in_order : (old : Editing) (command : Command) (prior : Option ℕ) (q : ℕ) (f : EditFault) (session : SessionValue) → IsSession old.session → IsInOrder old.session command → result_len old.session command ≤ LONGEST_TEXT
    → AppliesOrNot old.session command (Err f) session → RevisesOrNot command prior q old (Err (Fault.Edit f)) (record old { session = session })
refused_in_order old command prior q f session is o short a = record {
  revises = tt;
  kept = record { keeps = a.kept.0; revisions = a.kept.1; rest = refl };
  too_many = λ full. inl (told f (full_in_order old command (Err f) session is o short a full));
  fault = fault_in_order old command f (record old { session = session }) is o short a;
  unchanged = unchanged_in_order old command f session is o short a;
}
  where
    told : (g : EditFault) → Path (Result ℕ EditFault) (Err g) (Err Edit.TooManyRevisions) → IsErrOf {T = Unit {0}} (Err (Fault.Edit g)) (Fault.Edit Edit.TooManyRevisions)
    told g e = let same : g ≡ Edit.TooManyRevisions = cc in ap (λ (x : EditFault). Err (Fault.Edit x)) same

-- ---- by the session's answer

pub after_fault : (old : Editing) (command : Command) (f : EditFault) (session : SessionValue) → IsEditing old → HoldsHistory old.session → AppliesOrNot old.session command (Err f) session → IsSession session → HoldsHistory session
    → IsEditing (record old { session = session })
after_fault old command f session e h a s k = refused_kept old session e h a.kept.0 a.kept.1 s k

pub applied_number : (old : SessionValue) (command : Command) (k : ℕ) (new : SessionValue) → Applies old command k new → Applies old command (length old.revisions) new
applied_number old command k new a = subst (λ n. Applies old command n new) a.number a

pub after_revision : (old : Editing) (command : Command) (k : ℕ) (prior : Option ℕ) (q : ℕ) (session : SessionValue) → IsEditing old → HoldsHistory old.session → AppliesOrNot old.session command (Ok k) session → IsSession session → HoldsHistory session
    → IsInOrder old.session command → result_len old.session command ≤ LONGEST_TEXT → q ≤ result_len old.session command → IfSome prior (λ j. j < length old.session.revisions)
    → prior ≡ prior_behind old.priors (edit_at 0 command) → IsEditing (with_revision old session prior q)
after_revision old command k prior q session e h a s history o short place given named =
    let applies = applied_number old.session command k session a.made in
    let place_of = get_or applies.is.places 0 0 in
    revised_kept old prior q (result_len old.session command) session e s (lengths_more old.session command session h history o applies) short place given
    (edit_at place_of command) (edits_more old.session command session (plain_of old.session command o) applies) (named ∙ sym (prior_anywhere old.priors place_of command))
