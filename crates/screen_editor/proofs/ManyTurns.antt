-- The turns of a run, one after the other.
use Rattle.std.proofs.Common.{◌≡◌, ℕ, suc, ◌+◌, ◌<◌, ◌≤◌, inl, inr, List, [], ◌∷◌, ◌++◌, length, take, drop, Option, Some, None, refl, sym, ap, subst, arith, ◌∙◌, append_assoc, append-nil, Result, Ok, Err}
use Rattle.std.specs.Prelude.{slice_get}
use Rattle.std.specs.List.{All}
use Rattle.std.proofs.lemmas.List.{length-append}
use Rattle.std.proofs.lemmas.List.Elements.{All-drop, All-head, All-nil, All-push, All-same, All-take}
use Rattle.std.proofs.Math.Seq.{take-append-add, take-append_seam, drop-append_seam}
use Rattle.std.specs.Io.KnownBytes.{Appends, Consumes}
use Rattle.std.proofs.KnownBytes.{Appends-nil, Appends-trans, Consumes-nil, Consumes-trans}
use Rattle.lazy_file.specs.SourceTexts.{Stated}
use Rattle.lazy_file.specs.Readings.{Reading, fault_by}
use Rattle.screen_editor.proofs.LaterReadings.{later_same, later_then, reads_later}
use Rattle.cord_position.specs.Fetched.{IsStated}
use Rattle.byte_output.specs.Prefix.{AppendsPrefix}
use Rattle.screen_editor.specs.declared.fault.End.{End}
use Rattle.screen_editor.specs.declared.fault.End.TheVariants.{Save, Leave}
use Rattle.screen_editor.specs.declared.fault.RunFault.{RunFault}
use Rattle.screen_editor.specs.declared.fault.RunFault.TheVariants.{Read, Write, Frame, TooManyKeys}
use Rattle.screen_editor.specs.declared.key.Step.{Step}
use Rattle.screen_editor.specs.declared.running.TheConstants.{MOST_KEYS}
use Rattle.screen_editor.specs.Editing.{Editing, EachCurrent, EditorValue, over, state_of}
use Rattle.screen_editor.specs.Frame.{frame_of}
use Rattle.screen_editor.specs.Keys.{answer_to, key_of}
use Rattle.screen_editor.specs.Refusals.{KeyAsks, key_source_fault}
use Rattle.screen_editor.specs.Runs.{Answers, AnswersByte, EndsBy, EndsOver, IsFrame, IsLater, IsRun, MakesFrame, MayGoOn, NoKeyEndsRun, Shows, ShowsPrefix, StatesFollow, frames_of}
use Rattle.screen_editor.specs.Turns.{IsTurn, TakesNone, TakesOne}

-- ---- states: all but the last, and the last

abbrev pub final : Editing → List Editing → Editing
final old [] = old
final old (e ∷ es) = final e es

abbrev earlier : Editing → List Editing → List Editing
earlier old [] = []
earlier old (e ∷ es) = old ∷ earlier e es

pub split : (old : Editing) (behind : List Editing) → old ∷ behind ≡ earlier old behind ++ final old behind ∷ []
split old [] = refl
split old (e ∷ es) = ap (λ (xs : List Editing). old ∷ xs) (split e es)

length_earlier : (old : Editing) (behind : List Editing) → length (earlier old behind) ≡ length behind
length_earlier old [] = refl
length_earlier old (e ∷ es) = ap suc (length_earlier e es)

pub final_more : (old new : Editing) (behind : List Editing) → final old (behind ++ new ∷ []) ≡ new
final_more old new [] = refl
final_more old new (e ∷ es) = final_more e new es

earlier_more : (old new : Editing) (behind : List Editing) → earlier old (behind ++ new ∷ []) ≡ earlier old behind ++ final old behind ∷ []
earlier_more old new [] = refl
earlier_more old new (e ∷ es) = ap (λ (xs : List Editing). old ∷ xs) (earlier_more e new es)

take_earlier : (old : Editing) (behind : List Editing) → take (length behind) (old ∷ behind) ≡ earlier old behind
take_earlier old [] = refl
take_earlier old (e ∷ es) = ap (λ (xs : List Editing). old ∷ xs) (take_earlier e es)

pub get_final : (old : Editing) (behind : List Editing) → slice_get (old ∷ behind) (length behind) ≡ Some (final old behind)
get_final old [] = refl
get_final old (e ∷ es) = get_final e es

pub follow_length : (a z : Reading) (old : Editing) (keys : List ℕ) (behind : List Editing) → StatesFollow a z old keys behind → length keys ≡ length behind
follow_length a z old [] [] h = refl
follow_length a z old [] (e ∷ es) h = absurd h
follow_length a z old (b ∷ bs) [] h = absurd h
follow_length a z old (b ∷ bs) (e ∷ es) h = ap suc (follow_length h.0 z e bs es h.2)

pub follow_more : (a m z : Reading) (old new : Editing) (keys : List ℕ) (behind : List Editing) (b : ℕ)
    → StatesFollow a m old keys behind → AnswersByte m z b (final old behind) new → StatesFollow a z old (keys ++ b ∷ []) (behind ++ new ∷ [])
follow_more a m z old new [] [] b h p = (z, subst (λ (x : Reading). AnswersByte x z b old new) h p, refl)
follow_more a m z old new [] (e ∷ es) b h p = absurd h
follow_more a m z old new (k ∷ ks) [] b h p = absurd h
follow_more a m z old new (k ∷ ks) (e ∷ es) b h p = (h.0, h.1, follow_more h.0 m z e new ks es b h.2 p)

-- what is known of the sources from key to key
pub follow_later : (a z : Reading) (old : Editing) (keys : List ℕ) (behind : List Editing) → StatesFollow a z old keys behind → IsLater a z
follow_later a z old [] [] h = later_same h
follow_later a z old [] (e ∷ es) h = absurd h
follow_later a z old (k ∷ ks) [] h = absurd h
follow_later a z old (k ∷ ks) (e ∷ es) h = later_then (reads_later a h.0 (KeyAsks (key_of k) old) (fault_by key_source_fault h.1.result) h.1.takes.reads) (follow_later h.0 z e ks es h.2)

-- ---- frames, one behind the other

frames_more : (source : ℕ → ℕ → ℕ) (es fs : List Editing) → frames_of source (es ++ fs) ≡ frames_of source es ++ frames_of source fs
frames_more source [] fs = refl
frames_more source (e ∷ es) fs = ap (λ (bs : List ℕ). frame_of (state_of source e) ++ bs) (frames_more source es fs) ∙ sym (append_assoc (frame_of (state_of source e)) (frames_of source es) (frames_of source fs))

-- where nothing is shown
pub shows_none : (st : Stated) (a : Option (List ℕ)) → Shows st a a []
shows_none st a source agrees stated = Appends-nil a

-- one frame
abbrev AreStatedIn : Stated → Editing → Type 0
AreStatedIn st e = EachCurrent e (IsStated st)

pub shows_one : (st : Stated) (a b : Option (List ℕ)) (e : Editing) (bytes : List ℕ) → IsFrame st e bytes → Appends a b bytes → Shows st a b (e ∷ [])
shows_one st a b e bytes is h source agrees stated =
    subst (Appends a b) (is source agrees (All-head (AreStatedIn st) e [] stated) ∙ sym (append-nil (frame_of (state_of source e)))) h

pub shows_prefix_of_one : (st : Stated) (a b : Option (List ℕ)) (e : Editing) (bytes : List ℕ) → IsFrame st e bytes → AppendsPrefix a b bytes → ShowsPrefix st a b (e ∷ [])
shows_prefix_of_one st a b e bytes is h source agrees stated =
    subst (AppendsPrefix a b) (is source agrees (All-head (AreStatedIn st) e [] stated) ∙ sym (append-nil (frame_of (state_of source e)))) h

-- frames, and then others
stated_first : (st : Stated) (es fs : List Editing) → All (AreStatedIn st) (es ++ fs) → All (AreStatedIn st) es
stated_first st es fs h = All-same (AreStatedIn st) es (take (length es) (es ++ fs)) (sym (take-append_seam es fs)) (All-take (AreStatedIn st) (length es) (es ++ fs) h)

stated_last : (st : Stated) (es fs : List Editing) → All (AreStatedIn st) (es ++ fs) → All (AreStatedIn st) fs
stated_last st es fs h = All-same (AreStatedIn st) fs (drop (length es) (es ++ fs)) (sym (drop-append_seam es fs)) (All-drop (AreStatedIn st) (length es) (es ++ fs) h)

shows_more : (st : Stated) (a b c : Option (List ℕ)) (es fs : List Editing) → Shows st a b es → Shows st b c fs → Shows st a c (es ++ fs)
shows_more st a b c es fs h k source agrees stated =
    subst (Appends a c) (sym (frames_more source es fs))
    (Appends-trans a b c (frames_of source es) (frames_of source fs) (h source agrees (stated_first st es fs stated)) (k source agrees (stated_last st es fs stated)))

shows_prefix_more : (st : Stated) (a b c : Option (List ℕ)) (es fs : List Editing) → Shows st a b es → ShowsPrefix st b c fs → ShowsPrefix st a c (es ++ fs)
shows_prefix_more st a b c es fs h k source agrees stated =
    let p = k source agrees (stated_last st es fs stated) in
    subst (AppendsPrefix a c) (sym (frames_more source es fs)) (
      length (frames_of source es) + p.0,
      subst (Appends a c) (sym (take-append-add (frames_of source es) (frames_of source fs) p.0))
          (Appends-trans a b c (frames_of source es) (take p.0 (frames_of source fs)) (h source agrees (stated_first st es fs stated)) p.1),
    )

-- ---- the turns that were made

-- n keys were taken, of which none ended the run, and the states before them were shown
pub record Ran (keys_before keys_left before now : Option (List ℕ)) (old new : EditorValue Reading) (n : ℕ) : Type 0 where
  pub keys : List ℕ
  pub behind : List Editing
  pub taken : Consumes keys_before keys_left keys
  pub count : length keys ≡ n
  pub follow : StatesFollow old.sources new.sources old.editing keys behind
  pub last : final old.editing behind ≡ new.editing
  pub on : NoKeyEndsRun keys
  pub shown : Shows old.sources.stated before now (earlier old.editing behind)

abbrev Continues : ℕ → Type 0
Continues b = answer_to (key_of b) ≡ Step.Going

pub ran_none : (keys screen : Option (List ℕ)) (old : EditorValue Reading) → Ran keys keys screen screen old old 0
ran_none keys screen old = record { keys = []; behind = []; taken = Consumes-nil keys; count = refl; follow = refl; last = refl; on = All-nil Continues; shown = shows_none old.sources.stated screen }

-- the sources state what they did
ran_stated : (keys_before keys_left before now : Option (List ℕ)) (old new : EditorValue Reading) (n : ℕ)
    → Ran keys_before keys_left before now old new n → new.sources.stated ≡ old.sources.stated
ran_stated keys_before keys_left before now old new n h = (follow_later old.sources new.sources old.editing h.keys h.behind h.follow).same

-- one more key: the states behind the keys, all but the last of them shown
record Longer (keys_before keys_left before now : Option (List ℕ)) (old new : EditorValue Reading) (keys : List ℕ) : Type 0 where
  behind : List Editing
  taken : Consumes keys_before keys_left keys
  follow : StatesFollow old.sources new.sources old.editing keys behind
  last : final old.editing behind ≡ new.editing
  shown : Shows old.sources.stated before now (earlier old.editing behind)

longer : (keys_before keys_mid keys_left before mid now : Option (List ℕ)) (old cur new : EditorValue Reading) (n : ℕ) (answer : Step)
    → (h : Ran keys_before keys_mid before mid old cur n) → (one : TakesOne keys_mid keys_left mid now answer cur new)
    → Longer keys_before keys_left before now old new (h.keys ++ one.byte ∷ [])
longer keys_before keys_mid keys_left before mid now old cur new n answer h one =
    let st = old.sources.stated in
    let same = ran_stated keys_before keys_mid before mid old cur n h in
    record {
      behind = h.behind ++ new.editing ∷ [];
      taken = Consumes-trans keys_before keys_mid keys_left h.keys (one.byte ∷ []) h.taken one.key;
      follow = follow_more old.sources cur.sources new.sources old.editing new.editing h.keys h.behind one.byte h.follow
          (subst (λ (e : Editing). AnswersByte cur.sources new.sources one.byte e new.editing) (sym h.last) one.passes);
      last = final_more old.editing new.editing h.behind;
      shown = subst (Shows st before now) (sym (earlier_more old.editing new.editing h.behind)) (shows_more st before mid now (earlier old.editing h.behind) (final old.editing h.behind ∷ []) h.shown (subst (λ (e : Editing). Shows st mid now (e ∷ [])) (sym h.last) (subst (λ (s : Stated). Shows s mid now (cur.editing ∷ [])) same one.shown)));
    }

pub ran_more : (keys_before keys_mid keys_left before mid now : Option (List ℕ)) (old cur new : EditorValue Reading) (n : ℕ)
    → Ran keys_before keys_mid before mid old cur n → IsTurn (record { keys = keys_mid; screen = mid }) (record { keys = keys_left; screen = now }) cur (Ok None) new
    → Ran keys_before keys_left before now old new (n + 1)
ran_more keys_before keys_mid keys_left before mid now old cur new n h one =
    let l = longer keys_before keys_mid keys_left before mid now old cur new n Step.Going h one in
    record {
      keys = h.keys ++ one.byte ∷ [];
      behind = l.behind;
      taken = l.taken;
      count = length-append h.keys (one.byte ∷ []) ∙ ap (λ k. k + 1) h.count;
      follow = l.follow;
      last = l.last;
      on = All-push Continues h.keys one.byte h.on one.answers;
      shown = l.shown;
    }

-- ---- the end of a run

-- the last state, as a run names it
pub last_named : (a z : Reading) (old new : Editing) (keys : List ℕ) (behind : List Editing) → StatesFollow a z old keys behind → final old behind ≡ new → slice_get (old ∷ behind) (length keys) ≡ Some new
last_named a z old new keys behind follow last = rw (follow_length a z old keys behind follow) (get_final old behind ∙ ap Some last)

earlier_named : (a z : Reading) (old : Editing) (keys : List ℕ) (behind : List Editing) → StatesFollow a z old keys behind → earlier old behind ≡ take (length keys) (old ∷ behind)
earlier_named a z old keys behind follow = rw (follow_length a z old keys behind follow) (sym (take_earlier old behind))

-- by a key
ended_by : (keys_before keys_mid keys_left before mid now : Option (List ℕ)) (old cur new : EditorValue Reading) (n : ℕ) (answer : Step) (end : End) → n < MOST_KEYS
    → (h : Ran keys_before keys_mid before mid old cur n) → TakesOne keys_mid keys_left mid now answer cur new
    → ((keys : List ℕ) (states : List Editing) → EndsBy answer keys → Shows old.sources.stated before now (take (length keys) states) → Answers old.sources.stated keys_left before now keys states (Ok end))
    → IsRun keys_before keys_left before now old (Ok end) new
ended_by keys_before keys_mid keys_left before mid now old cur new n answer end few h one answers =
    let l = longer keys_before keys_mid keys_left before mid now old cur new n answer h one in
    let keys = h.keys ++ one.byte ∷ [] in
    record {
      keys = keys;
      behind = l.behind;
      sources = new.sources;
      taken = l.taken;
      few = omega (arith, length-append h.keys (one.byte ∷ []), h.count, few);
      follow = l.follow;
      last = last_named old.sources new.sources old.editing new.editing keys l.behind l.follow l.last;
      answers = answers keys (old.editing ∷ l.behind) (record { before = h.keys; last = one.byte; all = refl; answers = one.answers; on = h.on })
          (subst (Shows old.sources.stated before now) (earlier_named old.sources new.sources old.editing keys l.behind l.follow) l.shown);
      ends = refl;
    }

-- without a key
ended_without : (keys_before keys_mid keys_left before mid now : Option (List ℕ)) (old cur new : EditorValue Reading) (n : ℕ) (result : Result End RunFault) → n ≤ MOST_KEYS
    → (h : Ran keys_before keys_mid before mid old cur n) → TakesNone keys_mid keys_left cur.editing new.editing
    → Answers old.sources.stated keys_left before now h.keys (old.editing ∷ h.behind) result
    → EndsOver cur.sources result new
    → IsRun keys_before keys_left before now old result new
ended_without keys_before keys_mid keys_left before mid now old cur new n result few h none answer ends = record {
  keys = h.keys;
  behind = h.behind;
  sources = cur.sources;
  taken = subst (Consumes keys_before keys_left) (append-nil h.keys) (Consumes-trans keys_before keys_mid keys_left h.keys [] h.taken none.keys);
  few = omega (arith, h.count, few);
  follow = h.follow;
  last = last_named old.sources cur.sources old.editing new.editing h.keys h.behind h.follow (h.last ∙ sym none.same);
  answers = answer;
  ends = ends;
}

-- another key may follow these
may_go_on : (keys : List ℕ) (n : ℕ) → NoKeyEndsRun keys → length keys ≡ n → n < MOST_KEYS → MayGoOn keys
may_go_on keys n on count few = (on, subst (λ (k : ℕ). k < MOST_KEYS) (sym count) few)

-- all the states are shown, or a prefix, or all but the last
all_shown : (keys_before keys_mid before mid now : Option (List ℕ)) (old cur : EditorValue Reading) (n : ℕ) → (h : Ran keys_before keys_mid before mid old cur n) → Shows cur.sources.stated mid now (cur.editing ∷ [])
    → Shows old.sources.stated before now (old.editing ∷ h.behind)
all_shown keys_before keys_mid before mid now old cur n h k =
    let st = old.sources.stated in
    let same = ran_stated keys_before keys_mid before mid old cur n h in
    subst (Shows st before now) (sym (split old.editing h.behind)) (shows_more st before mid now (earlier old.editing h.behind) (final old.editing h.behind ∷ []) h.shown (subst (λ (e : Editing). Shows st mid now (e ∷ [])) (sym h.last) (subst (λ (s : Stated). Shows s mid now (cur.editing ∷ [])) same k)))

prefix_shown : (keys_before keys_mid before mid now : Option (List ℕ)) (old cur : EditorValue Reading) (n : ℕ) → (h : Ran keys_before keys_mid before mid old cur n) → ShowsPrefix cur.sources.stated mid now (cur.editing ∷ [])
    → ShowsPrefix old.sources.stated before now (old.editing ∷ h.behind)
prefix_shown keys_before keys_mid before mid now old cur n h k =
    let st = old.sources.stated in
    let same = ran_stated keys_before keys_mid before mid old cur n h in
    subst (ShowsPrefix st before now) (sym (split old.editing h.behind)) (shows_prefix_more st before mid now (earlier old.editing h.behind) (final old.editing h.behind ∷ []) h.shown (subst (λ (e : Editing). ShowsPrefix st mid now (e ∷ [])) (sym h.last) (subst (λ (s : Stated). ShowsPrefix s mid now (cur.editing ∷ [])) same k)))

earlier_shown : (keys_before keys_mid before mid now : Option (List ℕ)) (old cur : EditorValue Reading) (n : ℕ) → (h : Ran keys_before keys_mid before mid old cur n) → Shows cur.sources.stated mid now []
    → Shows old.sources.stated before now (take (length h.keys) (old.editing ∷ h.behind))
earlier_shown keys_before keys_mid before mid now old cur n h k =
    let st = old.sources.stated in
    let same = ran_stated keys_before keys_mid before mid old cur n h in
    subst (Shows st before now) (append-nil (earlier old.editing h.behind) ∙ earlier_named old.sources cur.sources old.editing h.keys h.behind h.follow) (shows_more st before mid now (earlier old.editing h.behind) [] h.shown (subst (λ (s : Stated). Shows s mid now []) same k))

pub ran_to_end : (keys_before keys_mid keys_left before mid now : Option (List ℕ)) (old cur new : EditorValue Reading) (n : ℕ) (end : End) → n < MOST_KEYS
    → Ran keys_before keys_mid before mid old cur n → IsTurn (record { keys = keys_mid; screen = mid }) (record { keys = keys_left; screen = now }) cur (Ok (Some end)) new
    → IsRun keys_before keys_left before now old (Ok end) new
ran_to_end keys_before keys_mid keys_left before mid now old cur new n Save few h one =
    ended_by keys_before keys_mid keys_left before mid now old cur new n Step.Save Save few h one (λ keys states by shown. (by, shown))
ran_to_end keys_before keys_mid keys_left before mid now old cur new n Leave few h (inl one) =
    ended_by keys_before keys_mid keys_left before mid now old cur new n Step.Leave Leave few h one (λ keys states by shown. inl (by, shown))
ran_to_end keys_before keys_mid keys_left before mid now old cur new n Leave few h (inr (none, end, shown, unfailed)) =
    ended_without keys_before keys_mid keys_left before mid now old cur new n (Ok Leave) (omega (arith, few)) h none
    (inr (may_go_on h.keys n h.on h.count few, end, all_shown keys_before keys_mid before mid now old cur n h shown)) unfailed

pub ran_to_fault : (keys_before keys_mid keys_left before mid now : Option (List ℕ)) (old cur new : EditorValue Reading) (n : ℕ) (fault : RunFault) → n < MOST_KEYS
    → Ran keys_before keys_mid before mid old cur n → IsTurn (record { keys = keys_mid; screen = mid }) (record { keys = keys_left; screen = now }) cur (Err fault) new
    → IsRun keys_before keys_left before now old (Err fault) new
ran_to_fault keys_before keys_mid keys_left before mid now old cur new n Read few h (none, shown, unfailed) =
    ended_without keys_before keys_mid keys_left before mid now old cur new n (Err Read) (omega (arith, few)) h none
    (may_go_on h.keys n h.on h.count few, all_shown keys_before keys_mid before mid now old cur n h shown) unfailed
ran_to_fault keys_before keys_mid keys_left before mid now old cur new n Write few h (none, not_shown) =
    ended_without keys_before keys_mid keys_left before mid now old cur new n (Err Write) (omega (arith, few)) h none
    (may_go_on h.keys n h.on h.count few, prefix_shown keys_before keys_mid before mid now old cur n h not_shown.0) not_shown.1
ran_to_fault keys_before keys_mid keys_left before mid now old cur new n (Frame f) few h (none, not_shown) =
    ended_without keys_before keys_mid keys_left before mid now old cur new n (Err (Frame f)) (omega (arith, few)) h none
    (may_go_on h.keys n h.on h.count few, earlier_shown keys_before keys_mid before mid now old cur n h not_shown.0)
    (subst (λ (e : Editing). MakesFrame (over cur.sources e) (Err f) new) (sym none.same) not_shown.1)
ran_to_fault keys_before keys_mid keys_left before mid now old cur new n TooManyKeys few h (none, shown) = absurd shown

-- after the last key
pub ran_too_long : (keys_before keys_left before now : Option (List ℕ)) (old new : EditorValue Reading)
    → Ran keys_before keys_left before now old new MOST_KEYS → IsRun keys_before keys_left before now old (Err TooManyKeys) new
ran_too_long keys_before keys_left before now old new h =
    ended_without keys_before keys_left keys_left before now now old new new MOST_KEYS (Err TooManyKeys) (omega arith) h (record { keys = Consumes-nil keys_left; same = refl })
    (h.on, h.count, earlier_shown keys_before keys_left before now now old new MOST_KEYS h (shows_none new.sources.stated now)) refl
