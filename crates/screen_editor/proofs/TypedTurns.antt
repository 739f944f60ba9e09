-- The turns of a run whose keys are typed at a terminal.
use Rattle.std.proofs.Common.{◌≡◌, ℕ, suc, ◌+◌, ◌<◌, ◌≤◌, inl, inr, List, [], ◌∷◌, ◌++◌, length, take, drop, Bool, true, false, Option, Some, None, refl, sym, ap, subst, arith, ◌∙◌, append_assoc, append-nil, Result, Ok, Err}
use Rattle.std.specs.List.{All}
use Rattle.std.proofs.lemmas.List.{length-append, take_all}
use Rattle.std.proofs.lemmas.List.Elements.{All-drop, All-head, All-nil, All-push, All-same, All-take}
use Rattle.std.proofs.Math.Seq.{take-append-add, take-append_seam, drop-append_seam}
use Rattle.std.specs.Io.KnownBytes.{Appends, Consumes, IsAtEnd}
use Rattle.std.proofs.KnownBytes.{Appends-nil, Appends-trans, Consumes-nil, Consumes-trans}
use Rattle.lazy_file.specs.SourceTexts.{Stated}
use Rattle.lazy_file.specs.Readings.{Reading}
use Rattle.cord_position.specs.Fetched.{IsStated}
use Rattle.byte_output.specs.Prefix.{AppendsPrefix}
use Rattle.screen_editor.specs.declared.fault.End.{End}
use Rattle.screen_editor.specs.declared.fault.End.TheVariants.{Save, Leave}
use Rattle.screen_editor.specs.declared.fault.RunFault.{RunFault}
use Rattle.screen_editor.specs.declared.fault.RunFault.TheVariants.{Read, Write, Frame, TooManyKeys}
use Rattle.screen_editor.specs.declared.key.Step.{Step}
use Rattle.screen_editor.specs.declared.running.TheConstants.{MOST_KEYS}
use Rattle.screen_editor.specs.Editing.{Editing, EachCurrent, EditorValue, over}
use Rattle.screen_editor.specs.Keys.{answer_to, key_of}
use Rattle.screen_editor.specs.Playing.{KeepsTaken, Plays}
use Rattle.screen_editor.specs.Runs.{AnswersByte, EndsBy, EndsOver, MakesFrame, MayGoOn, NoKeyEndsRun, StatesFollow}
use Rattle.screen_editor.specs.Turns.{Presses, Streams, TakesNone}
use Rattle.screen_editor.specs.Typing.{IsTypedRun, IsTypedTurn, NotWatched, ResumesTyped, ShowsLast, ShowsSome, ShowsSomePrefix, TypedAnswers, TypesNone, TypesOne, WatchedFault, chosen, hint_behind, watched_behind, watched_states, where_shown}
use Rattle.screen_editor.specs.Watched.{IsNotedFrame, ShowsWatched, ShowsWatchedPrefix, Watched, note_at, untaken_behind, untaken_by, watch, watched_frame, watched_frames}
use Rattle.screen_editor.proofs.ManyTurns.{final, final_more, follow_later, follow_more, last_named}
use Rattle.screen_editor.proofs.Playing.{keeps_then, kept_of_taken, plays_on}

-- ---- frames, one behind the other

frames_more : (source : ℕ → ℕ → ℕ) (ws vs : List Watched) → watched_frames source (ws ++ vs) ≡ watched_frames source ws ++ watched_frames source vs
frames_more source [] vs = refl
frames_more source (w ∷ ws) vs = ap (λ (bs : List ℕ). watched_frame source w ++ bs) (frames_more source ws vs) ∙ sym (append_assoc (watched_frame source w) (watched_frames source ws) (watched_frames source vs))

-- where nothing is shown
pub watched_none : (st : Stated) (a : Option (List ℕ)) → ShowsWatched st a a []
watched_none st a source agrees stated = Appends-nil a

-- one frame
abbrev AreStatedIn : Stated → Watched → Type 0
AreStatedIn st w = EachCurrent w.editing (IsStated st)

pub watched_one : (st : Stated) (a b : Option (List ℕ)) (w : Watched) (bytes : List ℕ) → IsNotedFrame st w.editing (note_at w) bytes → Appends a b bytes → ShowsWatched st a b (w ∷ [])
watched_one st a b w bytes is h source agrees stated =
    subst (Appends a b) (is source agrees (All-head (AreStatedIn st) w [] stated) ∙ sym (append-nil (watched_frame source w))) h

pub watched_prefix_of_one : (st : Stated) (a b : Option (List ℕ)) (w : Watched) (bytes : List ℕ) → IsNotedFrame st w.editing (note_at w) bytes → AppendsPrefix a b bytes → ShowsWatchedPrefix st a b (w ∷ [])
watched_prefix_of_one st a b w bytes is h source agrees stated =
    subst (AppendsPrefix a b) (is source agrees (All-head (AreStatedIn st) w [] stated) ∙ sym (append-nil (watched_frame source w))) h

-- what was shown whole, as a prefix of it
pub watched_so_far : (st : Stated) (a b : Option (List ℕ)) (ws : List Watched) → ShowsWatched st a b ws → ShowsWatchedPrefix st a b ws
watched_so_far st a b ws h source agrees stated =
    let bytes = watched_frames source ws in
    (length bytes, subst (Appends a b) (sym (take_all (length bytes) bytes (omega arith))) (h source agrees stated))

-- frames, and then others
stated_first : (st : Stated) (ws vs : List Watched) → All (AreStatedIn st) (ws ++ vs) → All (AreStatedIn st) ws
stated_first st ws vs h = All-same (AreStatedIn st) ws (take (length ws) (ws ++ vs)) (sym (take-append_seam ws vs)) (All-take (AreStatedIn st) (length ws) (ws ++ vs) h)

stated_last : (st : Stated) (ws vs : List Watched) → All (AreStatedIn st) (ws ++ vs) → All (AreStatedIn st) vs
stated_last st ws vs h = All-same (AreStatedIn st) vs (drop (length ws) (ws ++ vs)) (sym (drop-append_seam ws vs)) (All-drop (AreStatedIn st) (length ws) (ws ++ vs) h)

then_watched : (st : Stated) (a b c : Option (List ℕ)) (ws vs : List Watched) → ShowsWatched st a b ws → ShowsWatched st b c vs → ShowsWatched st a c (ws ++ vs)
then_watched st a b c ws vs h k source agrees stated =
    subst (Appends a c) (sym (frames_more source ws vs))
    (Appends-trans a b c (watched_frames source ws) (watched_frames source vs) (h source agrees (stated_first st ws vs stated)) (k source agrees (stated_last st ws vs stated)))

then_prefix : (st : Stated) (a b c : Option (List ℕ)) (ws vs : List Watched) → ShowsWatched st a b ws → ShowsWatchedPrefix st b c vs → ShowsWatchedPrefix st a c (ws ++ vs)
then_prefix st a b c ws vs h k source agrees stated =
    let p = k source agrees (stated_last st ws vs stated) in
    subst (AppendsPrefix a c) (sym (frames_more source ws vs)) (
      length (watched_frames source ws) + p.0,
      subst (Appends a c) (sym (take-append-add (watched_frames source ws) (watched_frames source vs) p.0))
          (Appends-trans a b c (watched_frames source ws) (take p.0 (watched_frames source vs)) (h source agrees (stated_first st ws vs stated)) p.1),
    )

-- ---- the states, and those that are chosen

abbrev pub last_watched : Watched → List ℕ → List Editing → Watched
last_watched w [] es = w
last_watched w (b ∷ bs) [] = w
last_watched w (b ∷ bs) (e ∷ es) = last_watched (watched_behind b e w) bs es

last_more : (a z : Reading) (old : Editing) (w : Watched) (keys : List ℕ) (behind : List Editing) (b : ℕ) (e : Editing) → StatesFollow a z old keys behind
    → last_watched w (keys ++ b ∷ []) (behind ++ e ∷ []) ≡ watched_behind b e (last_watched w keys behind)
last_more a z old w [] [] b e h = refl
last_more a z old w [] (x ∷ xs) b e h = absurd h
last_more a z old w (k ∷ ks) [] b e h = absurd h
last_more a z old w (k ∷ ks) (x ∷ xs) b e h = last_more h.0 z x (watched_behind k x w) ks xs b e h.2

chosen_last : (a z : Reading) (old : Editing) (w : Watched) (keys : List ℕ) (behind : List Editing) (c : Bool) (cs : List Bool) → StatesFollow a z old keys behind → length cs ≡ length keys
    → chosen (cs ++ c ∷ []) (watched_states w keys behind) ≡ chosen cs (watched_states w keys behind) ++ where_shown c (last_watched w keys behind)
chosen_last a z old w [] [] true [] h n = refl
chosen_last a z old w [] [] false [] h n = refl
chosen_last a z old w [] [] c (d ∷ ds) h n = absurd (omega (arith, n))
chosen_last a z old w [] (x ∷ xs) c cs h n = absurd h
chosen_last a z old w (k ∷ ks) [] c cs h n = absurd h
chosen_last a z old w (k ∷ ks) (x ∷ xs) c [] h n = absurd (omega (arith, n))
chosen_last a z old w (k ∷ ks) (x ∷ xs) c (true ∷ ds) h n = ap (λ (ws : List Watched). w ∷ ws) (chosen_last h.0 z x (watched_behind k x w) ks xs c ds h.2 (omega (arith, n)))
chosen_last a z old w (k ∷ ks) (x ∷ xs) c (false ∷ ds) h n = chosen_last h.0 z x (watched_behind k x w) ks xs c ds h.2 (omega (arith, n))

chosen_early : (a z : Reading) (old : Editing) (w : Watched) (keys : List ℕ) (behind : List Editing) (b : ℕ) (e : Editing) (cs : List Bool) → StatesFollow a z old keys behind → length cs ≤ length keys + 1
    → chosen cs (watched_states w (keys ++ b ∷ []) (behind ++ e ∷ [])) ≡ chosen cs (watched_states w keys behind)
chosen_early a z old w keys behind b e [] h n = refl
chosen_early a z old w [] [] b e (true ∷ []) h n = refl
chosen_early a z old w [] [] b e (false ∷ []) h n = refl
chosen_early a z old w [] [] b e (c ∷ d ∷ ds) h n = absurd (omega (arith, n))
chosen_early a z old w [] (x ∷ xs) b e (c ∷ cs) h n = absurd h
chosen_early a z old w (k ∷ ks) [] b e (c ∷ cs) h n = absurd h
chosen_early a z old w (k ∷ ks) (x ∷ xs) b e (true ∷ cs) h n = ap (λ (ws : List Watched). w ∷ ws) (chosen_early h.0 z x (watched_behind k x w) ks xs b e cs h.2 (omega (arith, n)))
chosen_early a z old w (k ∷ ks) (x ∷ xs) b e (false ∷ cs) h n = chosen_early h.0 z x (watched_behind k x w) ks xs b e cs h.2 (omega (arith, n))

-- ---- bytes that were not taken

pub counts_more : (n : ℕ) (xs : List ℕ) (b : ℕ) → untaken_behind n (xs ++ b ∷ []) ≡ untaken_by (key_of b) (untaken_behind n xs)
counts_more n [] b = refl
counts_more n (x ∷ xs) b = counts_more (untaken_by (key_of x) n) xs b

-- ---- one turn

-- where a state was not shown
pub not_watched : (before now : Option (List ℕ)) (w : Watched) (old new : EditorValue Reading) (fault : RunFault) → NotWatched before now w old new fault → WatchedFault before now w old new fault
not_watched before now w old new Read h = absurd h
not_watched before now w old new Write h = (true, h.0, h.1)
not_watched before now w old new (Frame f) h = h
not_watched before now w old new TooManyKeys h = absurd h

types_one : (keys left before now : Option (List ℕ)) (answer : Step) (b u : ℕ) (is_shown : Bool) (w : Watched) (old mid new : EditorValue Reading)
    → Consumes keys left (b ∷ []) → ShowsWatched old.sources.stated before now (where_shown is_shown w) → mid.sources ≡ old.sources → mid.editing ≡ old.editing
    → AnswersByte mid.sources new.sources b mid.editing new.editing → answer_to (key_of b) ≡ answer → u ≡ untaken_by (key_of b) w.untaken → TypesOne keys left before now answer w old new u
types_one keys left before now answer b u is_shown w old mid new key shown unfailed same h answers count = record {
  byte = b;
  key = key;
  answers = answers;
  passes = subst (λ (e : Editing). AnswersByte old.sources new.sources b e new.editing) same (subst (λ (r : Reading). AnswersByte r new.sources b mid.editing new.editing) unfailed h);
  count = count;
  is_shown = is_shown;
  shown = shown;
}

pub typed : (keys left before now : Option (List ℕ)) (b u : ℕ) (end : Option End) (is_shown : Bool) (w : Watched) (old mid new : EditorValue Reading)
    → Consumes keys left (b ∷ []) → ShowsWatched old.sources.stated before now (where_shown is_shown w) → mid.sources ≡ old.sources → mid.editing ≡ old.editing
    → Presses mid b end new → u ≡ untaken_by (key_of b) w.untaken → IsTypedTurn (record { keys = keys; screen = before }) (record { keys = left; screen = now }) w old (Ok end) new u
typed keys left before now b u None is_shown w old mid new key shown unfailed same h count = types_one keys left before now Step.Going b u is_shown w old mid new key shown unfailed same h.0 h.1 count
typed keys left before now b u (Some End.Save) is_shown w old mid new key shown unfailed same h count = types_one keys left before now Step.Save b u is_shown w old mid new key shown unfailed same h.0 h.1 count
typed keys left before now b u (Some End.Leave) is_shown w old mid new key shown unfailed same h count = inl (types_one keys left before now Step.Leave b u is_shown w old mid new key shown unfailed same h.0 h.1 count)

-- no key is left, and the state was shown
pub typed_none : (keys left before now : Option (List ℕ)) (u : ℕ) (w : Watched) (old new : EditorValue Reading)
    → Consumes keys left [] → IsAtEnd left → ShowsWatched old.sources.stated before now (w ∷ []) → new.sources ≡ old.sources → new.editing ≡ old.editing
    → IsTypedTurn (record { keys = keys; screen = before }) (record { keys = left; screen = now }) w old (Ok (Some End.Leave)) new u
typed_none keys left before now u w old new none at_end shown unfailed same = inr (record {
  none = record { keys = none; same = same };
  at_end = at_end;
  shown = shown;
  unfailed = unfailed;
})

-- behind a question that takes no key
one_later : (keys mid left before now : Option (List ℕ)) (answer : Step) (w : Watched) (old new : EditorValue Reading) (u : ℕ) → Consumes keys mid [] → TypesOne mid left before now answer w old new u → TypesOne keys left before now answer w old new u
one_later keys mid left before now answer w old new u asked one = record {
  byte = one.byte;
  key = Consumes-trans keys mid left [] (one.byte ∷ []) asked one.key;
  answers = one.answers;
  passes = one.passes;
  count = one.count;
  is_shown = one.is_shown;
  shown = one.shown;
}

none_later : (keys mid left : Option (List ℕ)) (old new : Editing) → Consumes keys mid [] → TakesNone mid left old new → TakesNone keys left old new
none_later keys mid left old new asked none = record { keys = Consumes-trans keys mid left [] [] asked none.keys; same = none.same }

pub turn_later : (keys mid left before now : Option (List ℕ)) (w : Watched) (old : EditorValue Reading) (result : Result (Option End) RunFault) (new : EditorValue Reading) (u : ℕ) → Consumes keys mid []
    → IsTypedTurn (record { keys = mid; screen = before }) (record { keys = left; screen = now }) w old result new u
    → IsTypedTurn (record { keys = keys; screen = before }) (record { keys = left; screen = now }) w old result new u
turn_later keys mid left before now w old (Ok None) new u asked h = one_later keys mid left before now Step.Going w old new u asked h
turn_later keys mid left before now w old (Ok (Some Save)) new u asked h = one_later keys mid left before now Step.Save w old new u asked h
turn_later keys mid left before now w old (Ok (Some Leave)) new u asked (inl h) = inl (one_later keys mid left before now Step.Leave w old new u asked h)
turn_later keys mid left before now w old (Ok (Some Leave)) new u asked (inr h) = inr (record { none = none_later keys mid left old.editing new.editing asked h.none; at_end = h.at_end; shown = h.shown; unfailed = h.unfailed })
turn_later keys mid left before now w old (Err fault) new u asked h = (none_later keys mid left old.editing new.editing asked h.0, h.1)

pub kept_later : (keys mid left kept between now : Option (List ℕ)) → Consumes keys mid [] → between ≡ kept → KeepsTaken mid left between now → KeepsTaken keys left kept now
kept_later keys mid left kept between now asked same h = keeps_then keys mid left kept kept now ([], asked, Appends-nil kept) (subst (λ (o : Option (List ℕ)). KeepsTaken mid left o now) same h)

-- ---- the turns that were made

-- n keys were taken, of which none ended the run, and some of the states before them were shown
pub record Typing (hint : Option (List ℕ)) (untaken : ℕ) (keys_before keys_left before now : Option (List ℕ)) (old new : EditorValue Reading) (hint_now : Option (List ℕ)) (untaken_now n : ℕ) : Type 0 where
  pub keys : List ℕ
  pub behind : List Editing
  pub choices : List Bool
  pub taken : Consumes keys_before keys_left keys
  pub count : length keys ≡ n
  pub follow : StatesFollow old.sources new.sources old.editing keys behind
  pub last : final old.editing behind ≡ new.editing
  pub on : NoKeyEndsRun keys
  pub many : length choices ≡ length keys
  pub at : last_watched (watch hint untaken old.editing) keys behind ≡ watch hint_now untaken_now new.editing
  pub shown : ShowsWatched old.sources.stated before now (chosen choices (watched_states (watch hint untaken old.editing) keys behind))

abbrev Continues : ℕ → Type 0
Continues b = answer_to (key_of b) ≡ Step.Going

pub typing_none : (hint : Option (List ℕ)) (untaken : ℕ) (keys screen : Option (List ℕ)) (old : EditorValue Reading) → Typing hint untaken keys keys screen screen old old hint untaken 0
typing_none hint untaken keys screen old = record {
  keys = [];
  behind = [];
  choices = [];
  taken = Consumes-nil keys;
  count = refl;
  follow = refl;
  last = refl;
  on = All-nil Continues;
  many = refl;
  at = refl;
  shown = watched_none old.sources.stated screen;
}

-- one more state is shown, or is not
shown_or_not : (hint : Option (List ℕ)) (untaken : ℕ) (keys_before keys_mid before mid now : Option (List ℕ)) (old cur : EditorValue Reading) (hint_mid : Option (List ℕ)) (untaken_mid n : ℕ) (c : Bool)
    → (h : Typing hint untaken keys_before keys_mid before mid old cur hint_mid untaken_mid n) → ShowsWatched cur.sources.stated mid now (where_shown c (watch hint_mid untaken_mid cur.editing))
    → ShowsWatched old.sources.stated before now (chosen (h.choices ++ c ∷ []) (watched_states (watch hint untaken old.editing) h.keys h.behind))
shown_or_not hint untaken keys_before keys_mid before mid now old cur hint_mid untaken_mid n c h k =
    let st = old.sources.stated in
    let first = watch hint untaken old.editing in
    let same : cur.sources.stated ≡ st = (follow_later old.sources cur.sources old.editing h.keys h.behind h.follow).same in
    subst (ShowsWatched st before now) (sym (chosen_last old.sources cur.sources old.editing first h.keys h.behind c h.choices h.follow h.many))
    (then_watched st before mid now (chosen h.choices (watched_states first h.keys h.behind)) (where_shown c (last_watched first h.keys h.behind)) h.shown
    (subst (λ (w : Watched). ShowsWatched st mid now (where_shown c w)) (sym h.at) (subst (λ (s : Stated). ShowsWatched s mid now (where_shown c (watch hint_mid untaken_mid cur.editing))) same k)))

prefix_or_not : (hint : Option (List ℕ)) (untaken : ℕ) (keys_before keys_mid before mid now : Option (List ℕ)) (old cur : EditorValue Reading) (hint_mid : Option (List ℕ)) (untaken_mid n : ℕ) (c : Bool)
    → (h : Typing hint untaken keys_before keys_mid before mid old cur hint_mid untaken_mid n) → ShowsWatchedPrefix cur.sources.stated mid now (where_shown c (watch hint_mid untaken_mid cur.editing))
    → ShowsWatchedPrefix old.sources.stated before now (chosen (h.choices ++ c ∷ []) (watched_states (watch hint untaken old.editing) h.keys h.behind))
prefix_or_not hint untaken keys_before keys_mid before mid now old cur hint_mid untaken_mid n c h k =
    let st = old.sources.stated in
    let first = watch hint untaken old.editing in
    let same : cur.sources.stated ≡ st = (follow_later old.sources cur.sources old.editing h.keys h.behind h.follow).same in
    subst (ShowsWatchedPrefix st before now) (sym (chosen_last old.sources cur.sources old.editing first h.keys h.behind c h.choices h.follow h.many))
    (then_prefix st before mid now (chosen h.choices (watched_states first h.keys h.behind)) (where_shown c (last_watched first h.keys h.behind)) h.shown
    (subst (λ (w : Watched). ShowsWatchedPrefix st mid now (where_shown c w)) (sym h.at) (subst (λ (s : Stated). ShowsWatchedPrefix s mid now (where_shown c (watch hint_mid untaken_mid cur.editing))) same k)))

nothing_more : (hint : Option (List ℕ)) (untaken : ℕ) (keys_before keys_mid before mid now : Option (List ℕ)) (old cur : EditorValue Reading) (hint_mid : Option (List ℕ)) (untaken_mid n : ℕ)
    → (h : Typing hint untaken keys_before keys_mid before mid old cur hint_mid untaken_mid n) → ShowsWatched cur.sources.stated mid now []
    → ShowsWatched old.sources.stated before now (chosen h.choices (watched_states (watch hint untaken old.editing) h.keys h.behind))
nothing_more hint untaken keys_before keys_mid before mid now old cur hint_mid untaken_mid n h k =
    let st = old.sources.stated in
    let shown = chosen h.choices (watched_states (watch hint untaken old.editing) h.keys h.behind) in
    let same : cur.sources.stated ≡ st = (follow_later old.sources cur.sources old.editing h.keys h.behind h.follow).same in
    subst (ShowsWatched st before now) (append-nil shown) (then_watched st before mid now shown [] h.shown (subst (λ (s : Stated). ShowsWatched s mid now []) same k))

-- one more key
record Longer (hint : Option (List ℕ)) (untaken : ℕ) (keys_before keys_left before now : Option (List ℕ)) (old new : EditorValue Reading) (untaken_now : ℕ) (keys : List ℕ) (choices : List Bool) : Type 0 where
  behind : List Editing
  taken : Consumes keys_before keys_left keys
  follow : StatesFollow old.sources new.sources old.editing keys behind
  last : final old.editing behind ≡ new.editing
  many : length choices ≡ length keys
  at : last_watched (watch hint untaken old.editing) keys behind ≡ watch None untaken_now new.editing
  shown : ShowsWatched old.sources.stated before now (chosen choices (watched_states (watch hint untaken old.editing) keys behind))

longer : (hint : Option (List ℕ)) (untaken : ℕ) (keys_before keys_mid keys_left before mid now : Option (List ℕ)) (old cur new : EditorValue Reading) (hint_mid : Option (List ℕ)) (untaken_mid untaken_now n : ℕ) (answer : Step)
    → (h : Typing hint untaken keys_before keys_mid before mid old cur hint_mid untaken_mid n) → (one : TypesOne keys_mid keys_left mid now answer (watch hint_mid untaken_mid cur.editing) cur new untaken_now)
    → Longer hint untaken keys_before keys_left before now old new untaken_now (h.keys ++ one.byte ∷ []) (h.choices ++ one.is_shown ∷ [])
longer hint untaken keys_before keys_mid keys_left before mid now old cur new hint_mid untaken_mid untaken_now n answer h one =
    let st = old.sources.stated in
    let first = watch hint untaken old.editing in
    let choices = h.choices ++ one.is_shown ∷ [] in
    let long : length choices ≡ length h.choices + 1 = length-append h.choices (one.is_shown ∷ []) in
    record {
      behind = h.behind ++ new.editing ∷ [];
      taken = Consumes-trans keys_before keys_mid keys_left h.keys (one.byte ∷ []) h.taken one.key;
      follow = follow_more old.sources cur.sources new.sources old.editing new.editing h.keys h.behind one.byte h.follow
          (subst (λ (e : Editing). AnswersByte cur.sources new.sources one.byte e new.editing) (sym h.last) one.passes);
      last = final_more old.editing new.editing h.behind;
      many = long ∙ ap (λ (k : ℕ). k + 1) h.many ∙ sym (length-append h.keys (one.byte ∷ []));
      at = last_more old.sources cur.sources old.editing first h.keys h.behind one.byte new.editing h.follow
          ∙ ap (watched_behind one.byte new.editing) h.at
          ∙ ap (λ (k : ℕ). watch None k new.editing) (sym one.count);
      shown = subst (ShowsWatched st before now) (sym (chosen_early old.sources cur.sources old.editing first h.keys h.behind one.byte new.editing choices h.follow (omega (arith, long, h.many))))
          (shown_or_not hint untaken keys_before keys_mid before mid now old cur hint_mid untaken_mid n one.is_shown h one.shown);
    }

pub typing_more : (hint : Option (List ℕ)) (untaken : ℕ) (keys_before keys_mid keys_left before mid now : Option (List ℕ)) (old cur new : EditorValue Reading) (hint_mid : Option (List ℕ)) (untaken_mid untaken_now n : ℕ)
    → Typing hint untaken keys_before keys_mid before mid old cur hint_mid untaken_mid n
    → IsTypedTurn (record { keys = keys_mid; screen = mid }) (record { keys = keys_left; screen = now }) (watch hint_mid untaken_mid cur.editing) cur (Ok None) new untaken_now
    → Typing hint untaken keys_before keys_left before now old new None untaken_now (n + 1)
typing_more hint untaken keys_before keys_mid keys_left before mid now old cur new hint_mid untaken_mid untaken_now n h one =
    let l = longer hint untaken keys_before keys_mid keys_left before mid now old cur new hint_mid untaken_mid untaken_now n Step.Going h one in
    record {
      keys = h.keys ++ one.byte ∷ [];
      behind = l.behind;
      choices = h.choices ++ one.is_shown ∷ [];
      taken = l.taken;
      count = length-append h.keys (one.byte ∷ []) ∙ ap (λ k. k + 1) h.count;
      follow = l.follow;
      last = l.last;
      on = All-push Continues h.keys one.byte h.on one.answers;
      many = l.many;
      at = l.at;
      shown = l.shown;
    }

-- ---- the end of a run

-- by a key
ended_by : (hint : Option (List ℕ)) (untaken : ℕ) (keys_before keys_mid keys_left before mid now : Option (List ℕ)) (old cur new : EditorValue Reading) (hint_mid : Option (List ℕ)) (untaken_mid untaken_now n : ℕ) (answer : Step) (end : End) → n < MOST_KEYS
    → (h : Typing hint untaken keys_before keys_mid before mid old cur hint_mid untaken_mid n) → TypesOne keys_mid keys_left mid now answer (watch hint_mid untaken_mid cur.editing) cur new untaken_now
    → ((keys : List ℕ) (states : List Watched) → EndsBy answer keys → ShowsSome old.sources.stated before now (length keys) states → TypedAnswers old.sources.stated keys_left before now keys states (Ok end))
    → IsTypedRun hint untaken keys_before keys_left before now old (Ok end) new
ended_by hint untaken keys_before keys_mid keys_left before mid now old cur new hint_mid untaken_mid untaken_now n answer end few h one answers =
    let l = longer hint untaken keys_before keys_mid keys_left before mid now old cur new hint_mid untaken_mid untaken_now n answer h one in
    let keys = h.keys ++ one.byte ∷ [] in
    record {
      keys = keys;
      behind = l.behind;
      sources = new.sources;
      taken = l.taken;
      few = omega (arith, length-append h.keys (one.byte ∷ []), h.count, few);
      follow = l.follow;
      last = last_named old.sources new.sources old.editing new.editing keys l.behind l.follow l.last;
      answers = answers keys (watched_states (watch hint untaken old.editing) keys l.behind) (record { before = h.keys; last = one.byte; all = refl; answers = one.answers; on = h.on })
          (h.choices ++ one.is_shown ∷ [], l.many, l.shown);
      ends = refl;
    }

-- without a key
ended_without : (hint : Option (List ℕ)) (untaken : ℕ) (keys_before keys_mid keys_left before mid now : Option (List ℕ)) (old cur new : EditorValue Reading) (hint_mid : Option (List ℕ)) (untaken_mid n : ℕ) (result : Result End RunFault) → n ≤ MOST_KEYS
    → (h : Typing hint untaken keys_before keys_mid before mid old cur hint_mid untaken_mid n) → TakesNone keys_mid keys_left cur.editing new.editing
    → TypedAnswers old.sources.stated keys_left before now h.keys (watched_states (watch hint untaken old.editing) h.keys h.behind) result
    → EndsOver cur.sources result new
    → IsTypedRun hint untaken keys_before keys_left before now old result new
ended_without hint untaken keys_before keys_mid keys_left before mid now old cur new hint_mid untaken_mid n result few h none answer ends = record {
  keys = h.keys;
  behind = h.behind;
  sources = cur.sources;
  taken = subst (Consumes keys_before keys_left) (append-nil h.keys) (Consumes-trans keys_before keys_mid keys_left h.keys [] h.taken none.keys);
  few = omega (arith, h.count, few);
  follow = h.follow;
  last = last_named old.sources cur.sources old.editing new.editing h.keys h.behind h.follow (h.last ∙ sym none.same);
  answers = answer;
  ends = ends;
}

-- another key may follow these
may_go_on : (keys : List ℕ) (n : ℕ) → NoKeyEndsRun keys → length keys ≡ n → n < MOST_KEYS → MayGoOn keys
may_go_on keys n on count few = (on, subst (λ (k : ℕ). k < MOST_KEYS) (sym count) few)

-- one choice more than there are keys
one_more : (choices : List Bool) (c : Bool) (keys : List ℕ) → length choices ≡ length keys → length (choices ++ c ∷ []) ≡ length keys + 1
one_more choices c keys many = length-append choices (c ∷ []) ∙ ap (λ (k : ℕ). k + 1) many

pub typing_ends : (hint : Option (List ℕ)) (untaken : ℕ) (keys_before keys_mid keys_left before mid now : Option (List ℕ)) (old cur new : EditorValue Reading) (hint_mid : Option (List ℕ)) (untaken_mid untaken_now n : ℕ) (end : End) → n < MOST_KEYS
    → Typing hint untaken keys_before keys_mid before mid old cur hint_mid untaken_mid n
    → IsTypedTurn (record { keys = keys_mid; screen = mid }) (record { keys = keys_left; screen = now }) (watch hint_mid untaken_mid cur.editing) cur (Ok (Some end)) new untaken_now
    → IsTypedRun hint untaken keys_before keys_left before now old (Ok end) new
typing_ends hint untaken keys_before keys_mid keys_left before mid now old cur new hint_mid untaken_mid untaken_now n Save few h one =
    ended_by hint untaken keys_before keys_mid keys_left before mid now old cur new hint_mid untaken_mid untaken_now n Step.Save Save few h one (λ keys states by shown. (by, shown))
typing_ends hint untaken keys_before keys_mid keys_left before mid now old cur new hint_mid untaken_mid untaken_now n Leave few h (inl one) =
    ended_by hint untaken keys_before keys_mid keys_left before mid now old cur new hint_mid untaken_mid untaken_now n Step.Leave Leave few h one (λ keys states by shown. inl (by, shown))
typing_ends hint untaken keys_before keys_mid keys_left before mid now old cur new hint_mid untaken_mid untaken_now n Leave few h (inr last) =
    ended_without hint untaken keys_before keys_mid keys_left before mid now old cur new hint_mid untaken_mid n (Ok Leave) (omega (arith, few)) h last.none
    (inr (may_go_on h.keys n h.on h.count few, last.at_end, (h.choices, h.many, shown_or_not hint untaken keys_before keys_mid before mid now old cur hint_mid untaken_mid n true h last.shown))) last.unfailed

pub typing_fails : (hint : Option (List ℕ)) (untaken : ℕ) (keys_before keys_mid keys_left before mid now : Option (List ℕ)) (old cur new : EditorValue Reading) (hint_mid : Option (List ℕ)) (untaken_mid untaken_now n : ℕ) (fault : RunFault) → n < MOST_KEYS
    → Typing hint untaken keys_before keys_mid before mid old cur hint_mid untaken_mid n
    → IsTypedTurn (record { keys = keys_mid; screen = mid }) (record { keys = keys_left; screen = now }) (watch hint_mid untaken_mid cur.editing) cur (Err fault) new untaken_now
    → IsTypedRun hint untaken keys_before keys_left before now old (Err fault) new
typing_fails hint untaken keys_before keys_mid keys_left before mid now old cur new hint_mid untaken_mid untaken_now n Read few h (none, f) =
    ended_without hint untaken keys_before keys_mid keys_left before mid now old cur new hint_mid untaken_mid n (Err Read) (omega (arith, few)) h none
    (may_go_on h.keys n h.on h.count few, (h.choices ++ f.0 ∷ [], one_more h.choices f.0 h.keys h.many, shown_or_not hint untaken keys_before keys_mid before mid now old cur hint_mid untaken_mid n f.0 h f.1)) f.2
typing_fails hint untaken keys_before keys_mid keys_left before mid now old cur new hint_mid untaken_mid untaken_now n Write few h (none, f) =
    ended_without hint untaken keys_before keys_mid keys_left before mid now old cur new hint_mid untaken_mid n (Err Write) (omega (arith, few)) h none
    (may_go_on h.keys n h.on h.count few, (h.choices ++ f.0 ∷ [], one_more h.choices f.0 h.keys h.many, prefix_or_not hint untaken keys_before keys_mid before mid now old cur hint_mid untaken_mid n f.0 h f.1)) f.2
typing_fails hint untaken keys_before keys_mid keys_left before mid now old cur new hint_mid untaken_mid untaken_now n (Frame f) few h (none, k) =
    ended_without hint untaken keys_before keys_mid keys_left before mid now old cur new hint_mid untaken_mid n (Err (Frame f)) (omega (arith, few)) h none
    (may_go_on h.keys n h.on h.count few, (h.choices, h.many, nothing_more hint untaken keys_before keys_mid before mid now old cur hint_mid untaken_mid n h k.0))
    (subst (λ (e : Editing). MakesFrame (over cur.sources e) (Err f) new) (sym none.same) k.1)
typing_fails hint untaken keys_before keys_mid keys_left before mid now old cur new hint_mid untaken_mid untaken_now n TooManyKeys few h (none, k) = absurd k

-- after the last key
pub typing_too_long : (hint : Option (List ℕ)) (untaken : ℕ) (keys_before keys_left before now : Option (List ℕ)) (old new : EditorValue Reading) (hint_now : Option (List ℕ)) (untaken_now : ℕ)
    → Typing hint untaken keys_before keys_left before now old new hint_now untaken_now MOST_KEYS → IsTypedRun hint untaken keys_before keys_left before now old (Err TooManyKeys) new
typing_too_long hint untaken keys_before keys_left before now old new hint_now untaken_now h =
    ended_without hint untaken keys_before keys_left keys_left before now now old new new hint_now untaken_now MOST_KEYS (Err TooManyKeys) (omega arith) h (record { keys = Consumes-nil keys_left; same = refl })
    (h.on, h.count, (h.choices, h.many, h.shown)) refl

-- ---- a run behind keys that were played

resumed : (hint : Option (List ℕ)) (played : List ℕ) (keys left kept kept_now before now : Option (List ℕ)) (old mid new : EditorValue Reading) (result : Result End RunFault)
    → Plays old played mid → IsTypedRun (hint_behind played hint) (untaken_behind 0 played) keys left before now mid result new → KeepsTaken keys left kept kept_now → ResumesTyped hint played keys left kept kept_now before now old result new
resumed hint played keys left kept kept_now before now old mid new result h run keeps = record {
  from = mid;
  plays = h;
  run = run;
  whole = plays_on old mid (over run.sources new.editing) played run.keys h (record { behind = run.behind; follow = run.follow; last = run.last });
  kept = λ all is. kept_of_taken all run.keys left kept kept_now
      (subst (λ (o : Option (List ℕ)). Consumes o left run.keys) is run.taken)
      (subst (λ (o : Option (List ℕ)). KeepsTaken o left kept kept_now) is keeps);
}

pub resumes_typed : (hint told : Option (List ℕ)) (untaken : ℕ) (played : List ℕ) (keys left kept kept_now before now : Option (List ℕ)) (old mid new : EditorValue Reading) (result : Result End RunFault)
    → told ≡ hint_behind played hint → untaken ≡ untaken_behind 0 played → Plays old played mid → IsTypedRun told untaken keys left before now mid result new → KeepsTaken keys left kept kept_now → ResumesTyped hint played keys left kept kept_now before now old result new
resumes_typed hint told untaken played keys left kept kept_now before now old mid new result is_told counted h run keeps =
    resumed hint played keys left kept kept_now before now old mid new result h
    (subst (λ (n : ℕ). IsTypedRun (hint_behind played hint) n keys left before now mid result new) counted (subst (λ (o : Option (List ℕ)). IsTypedRun o untaken keys left before now mid result new) is_told run)) keeps
