-- The priors of a session's revisions, one revision more, and that each is earlier than its own.
use Rattle.std.proofs.Common.{◌≡◌, ℕ, zero, suc, ◌+◌, ◌-◌, ◌<◌, ◌≤◌, List, [], ◌∷◌, ◌++◌, length, take, get_or, Option, Some, None, IfSome, refl, sym, ap, subst, arith, ◌∙◌, inl, inr}
use Rattle.std.specs.Prelude.{slice_get}
use Rattle.std.proofs.lemmas.Bool.{cases_lt}
use Rattle.std.proofs.lemmas.List.{get_or-take, length-append, length-map, length-take, take-take, take_all, take_at}
use Rattle.std.proofs.lemmas.Option.{get_or_from_slice_get, same_Some, slice_get-get_or, slice_get-map, slice_get_within}
use Rattle.std.proofs.Math.Seq.{get_or-append_seam, take-suc}
use Rattle.std.specs.Option.{option_map}
use Rattle.circular_buffer.proofs.Places.{slice_get-append_left, slice_get-append_right}
use Rattle.command_parts.specs.declared.edit.Edit.{Edit}
use Rattle.command_parts.specs.declared.edit.Edit.TheVariants as Recorded
use Rattle.command_parts.specs.declared.edit.Splice.{Splice}
use Rattle.command_parts.specs.Commands.{with_splices}
use Rattle.command_parts.specs.Parts.{IsInRange}
use Rattle.rope_node.specs.declared.node.NodeId.{NodeId}
use Rattle.rope_node.specs.Table.{Table}
use Rattle.edit_commands.specs.declared.revision.Revision.{Revision}
use Rattle.edit_commands.specs.Session.{SessionValue, IsSession, roots_of, session_table, edits_of}
use Rattle.edit_commands.specs.declared.command.Command.{Command}
use Rattle.edit_commands.specs.declared.command.Command.TheVariants.{New, Open, Insert, Delete, Replace, Paste, Join, Cut, Fill, Back, Balance, Many}
use Rattle.screen_editor.specs.Priors.{made_from, prior_behind, priors_of, priors_on}
use Rattle.screen_editor.specs.Recorded.{edit_at}

-- ---- one revision more

pub priors_more : (before : List (Option ℕ)) (edits : List Edit) (e : Edit) → priors_on before (edits ++ e ∷ []) ≡ priors_on before edits ++ prior_behind (priors_on before edits) e ∷ []
priors_more before [] e = refl
priors_more before (x ∷ edits) e = priors_more (before ++ prior_behind before x ∷ []) edits e

-- those of the first ones, and of the next one
pub one_taken : (edits : List Edit) (k : ℕ) (e : Edit) → slice_get edits k ≡ Some e → priors_of (take (k + 1) edits) ≡ priors_of (take k edits) ++ prior_behind (priors_of (take k edits)) e ∷ []
one_taken edits k e at =
    let next : k + 1 ≡ suc k = omega arith in
    ap priors_of (ap (λ n. take n edits) next ∙ take-suc edits k e (slice_get_within edits k e at) ∙ ap (λ (x : Edit). take k edits ++ x ∷ []) (get_or_from_slice_get edits k e e at))
    ∙ priors_more [] (take k edits) e

pub none_there : (revisions : List Revision) → length revisions ≤ 0 → revisions ≡ []
none_there [] few = refl
none_there (r ∷ revisions) few = absurd (omega (arith, few))

-- each revision that is there has a command
pub none_missing : (revisions : List Revision) (k : ℕ) → k < length revisions → option_map (λ (r : Revision). r.edit) (slice_get revisions k) ≡ None → ⊥
none_missing [] k there none = omega (arith, there)
none_missing (r ∷ revisions) zero there none = cc
none_missing (r ∷ revisions) (suc k) there none = none_missing revisions k (omega (arith, there)) none

pub count_priors : (before : List (Option ℕ)) (edits : List Edit) → length (priors_on before edits) ≡ length before + length edits
count_priors before [] = omega arith
count_priors before (x ∷ edits) =
    let rest = count_priors (before ++ prior_behind before x ∷ []) edits in
    let one = length-append before (prior_behind before x ∷ []) in
    omega (arith, rest, one)

-- those of the revisions before stay
stay_in_front : (before : List (Option ℕ)) (edits : List Edit) → take (length before) (priors_on before edits) ≡ before
stay_in_front before [] = take_all (length before) before (omega arith)
stay_in_front before (x ∷ edits) =
    let more = before ++ prior_behind before x ∷ [] in
    sym (take-take (length before) (length more) (priors_on more edits) (omega (arith, length-append before (prior_behind before x ∷ []))))
    ∙ ap (take (length before)) (stay_in_front more edits)
    ∙ take_at before (prior_behind before x ∷ []) (length before) refl

-- each is that behind the ones before it
pub prior_at : (before : List (Option ℕ)) (edits : List Edit) (k : ℕ) (e : Edit) → slice_get edits k ≡ Some e
    → get_or (priors_on before edits) (length before + k) None ≡ prior_behind (take (length before + k) (priors_on before edits)) e
prior_at before [] k e at = absurd cc
prior_at before (x ∷ edits) zero e at =
    let more = before ++ prior_behind before x ∷ [] in
    let here : length before + 0 ≡ length before = omega arith in
    let one : length more ≡ length before + 1 = length-append before (prior_behind before x ∷ []) in
    let all = priors_on more edits in
    let is : get_or all (length before) None ≡ prior_behind before x =
    sym (get_or-take (length more) all (length before) None (omega (arith, one))) ∙ ap (λ (ps : List (Option ℕ)). get_or ps (length before) None) (stay_in_front more edits) ∙ get_or-append_seam before (prior_behind before x) [] None in
    rw here (is ∙ ap (λ (ps : List (Option ℕ)). prior_behind ps x) (sym (stay_in_front before (x ∷ edits))) ∙ ap (prior_behind (take (length before) all)) (same_Some x e at))
prior_at before (x ∷ edits) (suc k) e at =
    let more = before ++ prior_behind before x ∷ [] in
    let next : length more + k ≡ length before + suc k = omega (arith, length-append before (prior_behind before x ∷ [])) in
    subst (λ (n : ℕ). get_or (priors_on more edits) n None ≡ prior_behind (take n (priors_on more edits)) e) next (prior_at more edits k e at)

-- wherever a command's bytes stand in the pool, the prior is the same
pub prior_anywhere : (priors : List (Option ℕ)) (a : ℕ) (command : Command) → prior_behind priors (edit_at a command) ≡ prior_behind priors (edit_at 0 command)
prior_anywhere priors a New = refl
prior_anywhere priors a (Open s) = refl
prior_anywhere priors a (Insert r p bytes) = refl
prior_anywhere priors a (Delete r p n) = refl
prior_anywhere priors a (Replace r p m bytes) = refl
prior_anywhere priors a (Paste r p q i n) = refl
prior_anywhere priors a (Join r q) = refl
prior_anywhere priors a (Cut r i n) = refl
prior_anywhere priors a (Fill r p c n) = refl
prior_anywhere priors a (Back r) = refl
prior_anywhere priors a (Balance r) = refl
prior_anywhere priors a (Many r changes bytes) = refl

-- ---- earlier ones

-- each prior is earlier than its revision
abbrev pub AreEarlier : List (Option ℕ) → Type 0
AreEarlier priors = (k j : ℕ) → slice_get priors k ≡ Some (Some j) → j < k

-- an earlier revision's prior is as it was, and the new one's is the one given
pub earlier_after : (ps : List (Option ℕ)) (prior : Option ℕ) → AreEarlier ps → IfSome prior (λ j. j < length ps) → AreEarlier (ps ++ prior ∷ [])
earlier_after ps prior earlier given k j e = elim (cases_lt k (length ps)) [
  | inl lt ↦ earlier k j (sym (slice_get-append_left ps (prior ∷ []) k lt) ∙ e)
  | inr ge ↦ last (k - length ps) prior given (sym (slice_get-append_right ps (prior ∷ []) k (k - length ps) (omega (arith, ge))) ∙ e) ge
]
  where
    last : (i : ℕ) (o : Option ℕ) → IfSome o (λ j. j < length ps) → slice_get (o ∷ []) i ≡ Some (Some j) → length ps ≤ k → j < k
    last zero None given e ge = absurd cc
    last zero (Some i) given e ge = let same : i ≡ j = same_Some i j (same_Some (Some i) (Some j) e) in omega (arith, given, same, ge)
    last (suc i) o given e ge = absurd cc

-- what a command names first is a revision before its own
named_before : (t : Table) (roots : List (Option NodeId)) (splices : List Splice) (e : Edit) (n : ℕ) → IsInRange t roots (with_splices splices e) → length roots ≤ n → IfSome (made_from e) (λ r. r < n)
named_before t roots splices Recorded.New n h few = tt
named_before t roots splices (Recorded.Open s) n h few = tt
named_before t roots splices (Recorded.Insert r p a m) n h few = omega (arith, h.0, few)
named_before t roots splices (Recorded.Delete r p m) n h few = omega (arith, h.0, few)
named_before t roots splices (Recorded.Replace r p m a x) n h few = omega (arith, h.0, few)
named_before t roots splices (Recorded.Paste r p q i m) n h few = omega (arith, h.0, few)
named_before t roots splices (Recorded.Join r q) n h few = omega (arith, h.0, few)
named_before t roots splices (Recorded.Cut r i m) n h few = omega (arith, h.0, few)
named_before t roots splices (Recorded.Fill r p c m) n h few = omega (arith, h.0, few)
named_before t roots splices (Recorded.Back r) n h few = omega (arith, h, few)
named_before t roots splices (Recorded.Balance r) n h few = omega (arith, h, few)
named_before t roots splices (Recorded.Many r first count) n h few = omega (arith, h.0, few)

-- so its prior is one before its own
behind_earlier : (before : List (Option ℕ)) (e : Edit) → AreEarlier before → IfSome (made_from e) (λ r. r < length before) → IfSome (prior_behind before e) (λ j. j < length before)
behind_earlier before Recorded.New earlier named = tt
behind_earlier before (Recorded.Open s) earlier named = tt
behind_earlier before (Recorded.Insert r p a m) earlier named = named
behind_earlier before (Recorded.Delete r p m) earlier named = named
behind_earlier before (Recorded.Replace r p m a x) earlier named = named
behind_earlier before (Recorded.Paste r p q i m) earlier named = named
behind_earlier before (Recorded.Join r q) earlier named = named
behind_earlier before (Recorded.Cut r i m) earlier named = named
behind_earlier before (Recorded.Fill r p c m) earlier named = named
behind_earlier before (Recorded.Balance r) earlier named = named
behind_earlier before (Recorded.Many r first count) earlier named = named
behind_earlier before (Recorded.Back r) earlier named = go (get_or before r None) (slice_get-get_or before r None named)
  where
    go : (o : Option ℕ) → slice_get before r ≡ Some o → IfSome o (λ j. j < length before)
    go None at = tt
    go (Some j) at = let lt = earlier r j at in omega (arith, lt, named)

-- each of these commands names only revisions before its own, where n stand before them
abbrev NameBefore : ℕ → List Edit → Type 0
NameBefore n edits = (k : ℕ) (e : Edit) → slice_get edits k ≡ Some e → IfSome (made_from e) (λ r. r < n + k)

all_earlier : (before : List (Option ℕ)) (edits : List Edit) → AreEarlier before → NameBefore (length before) edits → AreEarlier (priors_on before edits)
all_earlier before [] earlier named = earlier
all_earlier before (x ∷ edits) earlier named =
    all_earlier (before ++ prior_behind before x ∷ []) edits
    (earlier_after before (prior_behind before x) earlier (behind_earlier before x earlier (lower (made_from x) (named 0 x refl))))
    (λ k e at. behind k (made_from e) (named (suc k) e at))
  where
    lower : (o : Option ℕ) → IfSome o (λ r. r < length before + 0) → IfSome o (λ r. r < length before)
    lower None h = tt
    lower (Some r) h = omega (arith, h)

    behind : (k : ℕ) (o : Option ℕ) → IfSome o (λ r. r < length before + suc k) → IfSome o (λ r. r < length (before ++ prior_behind before x ∷ []) + k)
    behind k None h = tt
    behind k (Some r) h = omega (arith, h, length-append before (prior_behind before x ∷ []))

pub edit_there : (o : Option Revision) (e : Edit) → option_map (λ (r : Revision). r.edit) o ≡ Some e → (r : Revision) × (o ≡ Some r) × (r.edit ≡ e)
edit_there None e at = absurd cc
edit_there (Some r) e at = (r, refl, same_Some r.edit e at)

-- those of a session are
pub session_earlier : (v : SessionValue) → IsSession v → AreEarlier (priors_of (edits_of v.revisions))
session_earlier v is = all_earlier [] (edits_of v.revisions) (λ k j e. absurd cc) named
  where
    named : NameBefore 0 (edits_of v.revisions)
    named k e at =
        let found = edit_there (slice_get v.revisions k) e (sym (slice_get-map (λ (r : Revision). r.edit) v.revisions k) ∙ at) in
        let certified = (is.each k found.0 found.1).certified in
        let few : length (roots_of (take k v.revisions)) ≤ k = omega (arith, length-map (take k v.revisions) (λ (r : Revision). r.root), length-take k v.revisions) in
        subst (λ (x : Edit). IfSome (made_from x) (λ r. r < 0 + k)) found.2 (named_before (session_table v) (roots_of (take k v.revisions)) found.0.splices.items found.0.edit (0 + k) certified.range (omega (arith, few)))
