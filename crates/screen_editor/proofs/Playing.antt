-- Keys that are played, and a run that goes on from there.
use Rattle.std.proofs.Common.{Bool, true, false, cond, ◌≡◌, ℕ, List, [], ◌∷◌, ◌++◌, length, Option, Some, None, refl, sym, ap, subst, arith, ◌∙◌, Result}
use Rattle.std.specs.Prelude.{slice_get}
use Rattle.std.proofs.lemmas.List.{append_cancel_right, take_all}
use Rattle.std.specs.Io.KnownBytes.{Appends, Consumes}
use Rattle.std.proofs.KnownBytes.{Appends-nil, Appends-trans, Consumes-nil, Consumes-trans}
use Rattle.key_journal.specs.Keys.{goes_on, kept_of}
use Rattle.lazy_file.specs.SourceTexts.{Stated}
use Rattle.lazy_file.specs.Readings.{Reading}
use Rattle.screen_editor.specs.declared.fault.End.{End}
use Rattle.screen_editor.specs.declared.fault.RunFault.{RunFault}
use Rattle.screen_editor.specs.Editing.{Editing, EditorValue, over}
use Rattle.screen_editor.specs.Playing.{KeepsTaken, Plays, Resumes}
use Rattle.screen_editor.specs.Runs.{AnswersByte, IsRun, Shows, ShowsPrefix, StatesFollow, frames_of}
use Rattle.screen_editor.proofs.ManyTurns.{final, final_more, follow_length, follow_more, get_final, last_named}

-- ---- one key after the other

-- the keys so far
pub record Played (old : EditorValue Reading) (keys : List ℕ) (new : EditorValue Reading) : Type 0 where
  pub behind : List Editing
  pub follow : StatesFollow old.sources new.sources old.editing keys behind
  pub last : final old.editing behind ≡ new.editing

pub played_none : (old : EditorValue Reading) → Played old [] old
played_none old = record { behind = []; follow = refl; last = refl }

pub played_more : (old mid new : EditorValue Reading) (keys : List ℕ) (b : ℕ)
    → Played old keys mid → AnswersByte mid.sources new.sources b mid.editing new.editing → Played old (keys ++ b ∷ []) new
played_more old mid new keys b h passes = record {
  behind = h.behind ++ new.editing ∷ [];
  follow = follow_more old.sources mid.sources new.sources old.editing new.editing keys h.behind b h.follow
      (subst (λ (e : Editing). AnswersByte mid.sources new.sources b e new.editing) (sym h.last) passes);
  last = final_more old.editing new.editing h.behind;
}

pub all_played : (old new : EditorValue Reading) (keys : List ℕ) → Played old keys new → Plays old keys new
all_played old new keys h = record {
  behind = h.behind;
  follow = h.follow;
  last = last_named old.sources new.sources old.editing new.editing keys h.behind h.follow h.last;
}

-- ---- what follows what

follow_append : (a m z : Reading) (old : Editing) (keys more : List ℕ) (behind later : List Editing)
    → StatesFollow a m old keys behind → StatesFollow m z (final old behind) more later → StatesFollow a z old (keys ++ more) (behind ++ later)
follow_append a m z old [] more [] later h k = subst (λ (x : Reading). StatesFollow x z old more later) h k
follow_append a m z old [] more (e ∷ es) later h k = absurd h
follow_append a m z old (b ∷ bs) more [] later h k = absurd h
follow_append a m z old (b ∷ bs) more (e ∷ es) later h k = (h.0, h.1, follow_append h.0 m z e bs more es later h.2 k)

final_append : (old : Editing) (behind later : List Editing) → final old (behind ++ later) ≡ final (final old behind) later
final_append old [] later = refl
final_append old (e ∷ es) later = final_append e es later

same_some : (a b : Editing) → Some a ≡ Some b → a ≡ b
same_some a b h = cc

-- the last state, by its name
named_last : (a z : Reading) (old new : Editing) (keys : List ℕ) (behind : List Editing) → StatesFollow a z old keys behind → slice_get (old ∷ behind) (length keys) ≡ Some new → final old behind ≡ new
named_last a z old new keys behind follow last =
    same_some (final old behind) new (sym (get_final old behind) ∙ ap (λ (n : ℕ). slice_get (old ∷ behind) n) (sym (follow_length a z old keys behind follow)) ∙ last)

-- keys that are played, and others behind them
pub plays_on : (old mid new : EditorValue Reading) (keys more : List ℕ) → Plays old keys mid → Plays mid more new → Plays old (keys ++ more) new
plays_on old mid new keys more h k =
    let at = named_last old.sources mid.sources old.editing mid.editing keys h.behind h.follow h.last in
    let end = named_last mid.sources new.sources mid.editing new.editing more k.behind k.follow k.last in
    let follow = follow_append old.sources mid.sources new.sources old.editing keys more h.behind k.behind h.follow
    (subst (λ (e : Editing). StatesFollow mid.sources new.sources e more k.behind) (sym at) k.follow) in
    record {
      behind = h.behind ++ k.behind;
      follow = follow;
      last = last_named old.sources new.sources old.editing new.editing (keys ++ more) (h.behind ++ k.behind) follow
          (final_append old.editing h.behind k.behind ∙ ap (λ (e : Editing). final e k.behind) at ∙ end);
    }

-- ---- what is kept

pub keeps_none : (keys kept : Option (List ℕ)) → KeepsTaken keys keys kept kept
keeps_none keys kept = ([], Consumes-nil keys, Appends-nil kept)

kept_behind : (goes : Bool) (x : ℕ) (front rest all : List ℕ) → all ≡ front ++ rest → cond goes (x ∷ all) all ≡ cond goes (x ∷ front) front ++ rest
kept_behind true x front rest all h = ap (λ (l : List ℕ). x ∷ l) h
kept_behind false x front rest all h = h

pub kept_append : (xs ys : List ℕ) → kept_of (xs ++ ys) ≡ kept_of xs ++ kept_of ys
kept_append [] ys = refl
kept_append (x ∷ xs) ys = kept_behind (goes_on x) x (kept_of xs) (kept_of ys) (kept_of (xs ++ ys)) (kept_append xs ys)

pub keeps_then : (keys mid left kept between now : Option (List ℕ)) → KeepsTaken keys mid kept between → KeepsTaken mid left between now → KeepsTaken keys left kept now
keeps_then keys mid left kept between now h k =
    (h.0 ++ k.0, Consumes-trans keys mid left h.0 k.0 h.1 k.1, subst (Appends kept now) (sym (kept_append h.0 k.0)) (Appends-trans kept between now (kept_of h.0) (kept_of k.0) h.2 k.2))

-- of what a reader had, what it has no longer was taken
pub kept_of_taken : (all keys : List ℕ) (left kept now : Option (List ℕ)) → Consumes (Some all) left keys → KeepsTaken (Some all) left kept now → Appends kept now (kept_of keys)
kept_of_taken all keys None kept now taken h = absurd taken
kept_of_taken all keys (Some rest) kept now taken h =
    let same : h.0 ≡ keys = append_cancel_right h.0 keys rest (sym h.1 ∙ taken) in
    subst (λ (ks : List ℕ). Appends kept now (kept_of ks)) same h.2

-- what was shown whole, as a prefix of it
pub shown_so_far : (st : Stated) (before now : Option (List ℕ)) (es : List Editing) → Shows st before now es → ShowsPrefix st before now es
shown_so_far st before now es h source agrees stated =
    let bytes = frames_of source es in
    (length bytes, subst (Appends before now) (sym (take_all (length bytes) bytes (omega arith))) (h source agrees stated))

-- ---- a run behind keys that were played

pub resumes : (played : List ℕ) (keys left kept kept_now before now : Option (List ℕ)) (old mid new : EditorValue Reading) (result : Result End RunFault)
    → Plays old played mid → IsRun keys left before now mid result new → KeepsTaken keys left kept kept_now → Resumes played keys left kept kept_now before now old result new
resumes played keys left kept kept_now before now old mid new result h run keeps = record {
  from = mid;
  plays = h;
  run = run;
  whole = plays_on old mid (over run.sources new.editing) played run.keys h (record { behind = run.behind; follow = run.follow; last = run.last });
  kept = λ all is. kept_of_taken all run.keys left kept kept_now
      (subst (λ (o : Option (List ℕ)). Consumes o left run.keys) is run.taken)
      (subst (λ (o : Option (List ℕ)). KeepsTaken o left kept kept_now) is keeps);
}
