-- What a run keeps is a script.
use Rattle.std.proofs.Common.{◌≡◌, ℕ, ◌<◌, ◌≤◌, Bool, true, false, List, [], ◌∷◌, ◌++◌, length, map, Ok, refl, sym, ap, subst, ◌∙◌, inl, inr, append_assoc, append-nil}
use Rattle.std.specs.List.{AllByRecursion}
use Rattle.command_parts.specs.Commands.{FullEdit}
use Rattle.edit_commands.specs.declared.revision.Revision.{Revision}
use Rattle.edit_commands.specs.Applying.{Keeps}
use Rattle.edit_commands.specs.Session.{SessionValue, commands_of}
use Rattle.edit_script.specs.declared.fault.Stop.{Stop}
use Rattle.edit_script.specs.declared.fault.Stop.TheVariants as S
use Rattle.edit_script.specs.Words.{Word, HasWords}
use Rattle.edit_script.specs.Commands.{IsLine, StandsInside, words_of}
use Rattle.edit_script.specs.Applied.{StopsLine, TakesWords, lines_of}
use Rattle.edit_script.specs.Scripts.{AreInside, ReadsScript, words_held}
use Rattle.edit_script.proofs.Sessions.{all_kept, inside_more, says_script, some_words}
use Rattle.line_server.specs.Turns.{HasNoEnd, kept_line}
use Rattle.line_server.specs.Batches.{Serves}
use Rattle.session_server.specs.Spoken.{Speaks, Spoken}
use Rattle.session_server.specs.declared.outcome.Outcome.{Outcome}
use Rattle.session_server.specs.declared.outcome.Outcome.TheVariants.{Made, Nothing, Stopped}
use Rattle.session_server.specs.Outcomes.{ComesTo, makes_revision}
use Rattle.session_server.specs.Kept.{KeepsScript}
use Rattle.session_server.proofs.Lines.{line_split}

-- what a line adds to what a session says, and to the script that is kept
record Adds (old mid : SessionValue) (line : List ℕ) (kept : Bool) : Type 0 where
  says : List (List Word)
  words : words_held mid ≡ words_held old ++ says
  inside : AreInside mid
  reads : (ks : List ℕ) (ds : List (List Word)) → ReadsScript (lines_of ks) ds → ReadsScript (lines_of (kept_line kept line ++ ks)) (says ++ ds)

adds_none : (old mid : SessionValue) (line : List ℕ) → words_held mid ≡ words_held old → AreInside mid → Adds old mid line false
adds_none old mid line same inside = record {
  says = [];
  words = same ∙ sym (append-nil (words_held old));
  inside = inside;
  reads = λ ks ds r. r;
}

inside_all_more : (old new : ℕ) → old ≤ new → (es : List FullEdit) → AllByRecursion (StandsInside old) es → AllByRecursion (StandsInside new) es
inside_all_more old new le [] inside = tt
inside_all_more old new le (e ∷ es) inside = (inside_more old new le e inside.0, inside_all_more old new le es inside.1)

-- a session whose store goes on, with the same revisions
keeps_words : (old mid : SessionValue) → AreInside old → Keeps old mid → mid.revisions ≡ old.revisions
    → (words_held mid ≡ words_held old) × AreInside mid
keeps_words old mid inside keeps same =
    let before = old.held.pool.bytes in
    let after = mid.held.pool.bytes in
    let extends = keeps.goes_on.kept in (
      ap (λ (rs : List Revision). map (words_of after) (commands_of rs)) same ∙ all_kept before after extends.pool (commands_of old.revisions) inside,
      subst (λ (rs : List Revision). AllByRecursion (StandsInside (length after)) (commands_of rs)) (sym same)
          (inside_all_more (length before) (length after) extends.more_pool (commands_of old.revisions) inside),
    )

adds_kept : (old mid : SessionValue) (line : List ℕ) → AreInside old → Keeps old mid → mid.revisions ≡ old.revisions → Adds old mid line false
adds_kept old mid line inside keeps same =
    let k = keeps_words old mid inside keeps same in adds_none old mid line k.0 k.1

adds_same : (old mid : SessionValue) (line : List ℕ) → AreInside old → mid ≡ old → Adds old mid line false
adds_same old mid line inside same = adds_none old mid line (ap words_held same) (subst AreInside (sym same) inside)

adds_stopped : (why : Stop) (old mid : SessionValue) (line : List ℕ) → AreInside old → StopsLine old line why mid → Adds old mid line false
adds_stopped S.NoCommand old mid line inside h = adds_same old mid line inside h.0
adds_stopped (S.Refused fault) old mid line inside h = let k = h.1.3.refused.kept in adds_kept old mid line inside k.0 k.1
adds_stopped S.Memory old mid line inside h = adds_kept old mid line inside h.0 h.1

adds_made : (old mid : SessionValue) (line : List ℕ) (ws : List Word) → AreInside old → HasNoEnd line → IsLine ws → HasWords line ws
    → TakesWords old ws mid → Adds old mid line true
adds_made old mid line ws inside one known words takes =
    let some : 0 < length ws = subst (λ (w : List Word). 0 < length w) takes.words (some_words takes.command) in
    let g = says_script old 0 (line ∷ []) (Ok tt) mid (ws ∷ []) inside refl
    (inl (mid, inr (ws, known, words, takes), (refl, refl)))
    (inr ([], record { first = ws; some = some; known = known; words = words; all = refl }, refl)) in
    record {
      says = ws ∷ [];
      words = g.0;
      inside = g.1;
      reads = λ ks ds r. subst (λ (ls : List (List ℕ)). ReadsScript ls (ws ∷ ds)) (sym (line_split line ks one))
          (inr (ds, record { first = ws; some = some; known = known; words = words; all = refl }, r));
    }

adds : (outcome : Outcome) (old mid : SessionValue) (line : List ℕ) → AreInside old → HasNoEnd line → ComesTo old line outcome mid
    → Adds old mid line (makes_revision outcome)
adds (Made k) old mid line inside one h = adds_made old mid line h.1.0 inside one h.1.1 h.1.2 h.1.3
adds Nothing old mid line inside one h = adds_same old mid line inside h.1
adds (Stopped why) old mid line inside one h = adds_stopped why old mid line inside h

none_read : ReadsScript (lines_of []) []
none_read = inl (tt, refl)

-- ---- commands and questions

adds_spoken : (old mid : Spoken) (line : List ℕ) (k : Bool) (a : List ℕ) → AreInside old.session → HasNoEnd line → Speaks old line k a mid
    → Adds old.session mid.session line k
adds_spoken old mid line k a inside one (inl s) =
    subst (Adds old.session mid.session line) (sym s.serves.2) (adds s.serves.0 old.session mid.session line inside one s.serves.1)
adds_spoken old mid line k a inside one (inr (inl q)) =
    subst (Adds old.session mid.session line) (sym q.not_kept) (adds_same old.session mid.session line inside q.same)
adds_spoken old mid line k a inside one (inr (inr m)) =
    subst (Adds old.session mid.session line) (sym m.not_kept)
    (adds_same old.session mid.session line inside (ap (λ (s : Spoken). s.session) m.same))

pub keeps_spoken : (old new : Spoken) (lines : List (List ℕ)) (kept told : List ℕ) → AreInside old.session
    → Serves Speaks old lines kept told new → KeepsScript old.session kept new.session
keeps_spoken old new [] kept told inside h =
    let same = ap (λ (s : Spoken). s.session) h.2 in
    record {
      says = [];
      script = subst (λ (t : List ℕ). ReadsScript (lines_of t) []) (sym h.0) none_read;
      words = ap words_held same ∙ sym (append-nil (words_held old.session));
      inside = subst AreInside (sym same) inside;
    }
keeps_spoken old new (line ∷ lines) kept told inside h =
    let mid = h.0 in
    let a = adds_spoken old mid line h.1 h.2 inside h.5 h.6 in
    let r = keeps_spoken mid new lines h.3 h.4 a.inside h.7 in
    record {
      says = a.says ++ r.says;
      script = subst (λ (t : List ℕ). ReadsScript (lines_of t) (a.says ++ r.says)) (sym h.8) (a.reads h.3 r.says r.script);
      words = r.words ∙ ap (λ (xs : List (List Word)). xs ++ r.says) a.words ∙ append_assoc (words_held old.session) a.says r.says;
      inside = r.inside;
    }
