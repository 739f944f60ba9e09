-- The lines of runs, written one behind the other.
use Rattle.std.proofs.Common.{◌≡◌, ℕ, suc, ◌+◌, ◌<◌, ◌≤◌, List, [], ◌∷◌, ◌++◌, length, take, drop, Option, Some, None, Result, Ok, Err, refl, sym, ap, subst, ◌∙◌, append_assoc, arith}
use Rattle.std.specs.Prelude.{slice_get, IsErr, OnOk, MatchOption}
use Rattle.std.specs.List.{AllByRecursion}
use Rattle.std.specs.Fmt.{decimal}
use Rattle.std.specs.Io.KnownBytes.{Appends}
use Rattle.std.proofs.lemmas.Option.{same_Some}
use Rattle.std.proofs.lemmas.List.{append-nil, length-append, length-take, length-drop}
use Rattle.byte_output.specs.Prefix.{AppendsPrefix}
use Rattle.rope_node.proofs.Ropes.{rope_short}
use Rattle.command_parts.specs.Commands.{FullEdit}
use Rattle.image_reader.specs.Value.{ImageValue, image_table}
use Rattle.image_reader.specs.Accepted.{revision_at}
use Rattle.session_checker.specs.Faithful.{HasTrueRecordsOf}
use Rattle.session_image.proofs.Sections.{appends_nothing, appends_then}
use Rattle.edit_script.specs.Words.{Word, Number, line_of}
use Rattle.edit_script.specs.Commands.{front_of}
use Rattle.byte_origins.specs.declared.run.Origin.{Origin}
use Rattle.byte_origins.specs.declared.run.OriginRun.{OriginRun}
use Rattle.byte_origins.specs.Origins.{AreRuns, origins_at, run_origins}
use Rattle.byte_origins.proofs.Lengths.{as_long}
use Rattle.byte_origins.proofs.StoodThere.{stood}
use Rattle.byte_origins.specs.Stretches.{IsNextRun}
use Rattle.script_tools.specs.Blamed.{WritesRuns, blame_lines, run_line}
use Rattle.script_tools.proofs.Pieces.{front_alone, front_and_part, stopped}
use Rattle.lazy_file.proofs.UsedBlocks.{all_take}
use Rattle.script_tools.proofs.Printables.{all_drop}
use Rattle.script_tools.proofs.LoggedScripts.{named}
use Rattle.byte_origins.proofs.RunOrigins.{length-run}
use Rattle.byte_origins.proofs.JoinedRuns.{run_begins}
use Rattle.script_tools.proofs.BlamedRuns.{has_runs, no_runs, run_and_more}

-- ---- the wanted origins

abbrev pub wanted_origins : ImageValue → ℕ → ℕ → ℕ → List Origin
wanted_origins v k start count = take count (drop start (origins_at v k))

all_by_place : {X : Type 0} (P : X → Type 0) (xs : List X) → ((i : ℕ) (x : X) → slice_get xs i ≡ Some x → P x) → AllByRecursion P xs
all_by_place P [] each = tt
all_by_place P (x ∷ xs) each = (each 0 x refl, all_by_place P xs (λ i y is. each (suc i) y is))

-- each of them came in by an earlier revision, or this one
pub came_before : (v : ImageValue) (k start count : ℕ) → k < length v.revisions → AllByRecursion (λ (o : Origin). o.revision ≤ k) (wanted_origins v k start count)
came_before v k start count lt =
    let Before : Origin → Type 0 = λ (o : Origin). o.revision ≤ k in
    all_take Before count (drop start (origins_at v k)) (all_drop Before start (origins_at v k) (all_by_place Before (origins_at v k) (λ i o is. (stood v k lt i o is).0)))

-- where there is one, their places stay below 2^64
pub wanted_short : (v : ImageValue) (k start count : ℕ) → HasTrueRecordsOf v → k < length v.revisions → 1 ≤ length (wanted_origins v k start count) → start + length (wanted_origins v k start count) < 18446744073709551616
wanted_short v k start count true_records lt some =
    let os = origins_at v k in
    let long = as_long v true_records true_records.rules k lt in
    let short = rope_short (image_table v) true_records.sound (revision_at v k).root (true_records.roots k lt) in
    omega (arith, some, long, short, length-take count (drop start os), length-drop start os)

-- ---- the lines so far

-- the lines in front of a place are written, and the runs of the origins that are left go behind them
pub record IsBlaming (v : ImageValue) (k start count place : ℕ) (rest : List Origin) (before now : Option (List ℕ)) : Type 0 where
  pub front : List ℕ
  pub written : Appends before now front
  pub runs : (later : List OriginRun) → AreRuns rest later
      → (all : List OriginRun) × AreRuns (wanted_origins v k start count) all × (blame_lines v start all ≡ front ++ blame_lines v place later)
  pub behind : start ≤ place
  pub placed : place + length rest ≡ start + length (wanted_origins v k start count)
  pub earlier : AllByRecursion (λ (o : Origin). o.revision ≤ k) rest

module _ (v : ImageValue) (k start count : ℕ) where
  pub blaming_begins : (rest : List Origin) (before : Option (List ℕ)) → k < length v.revisions → rest ≡ wanted_origins v k start count → IsBlaming v k start count start rest before before
  blaming_begins rest before lt is =
      record {
        front = [];
        written = appends_nothing before;
        runs = λ later are. (later, subst (λ (os : List Origin). AreRuns os later) is are, refl);
        behind = omega arith;
        placed = ap (λ (os : List Origin). start + length os) is;
        earlier = subst (AllByRecursion (λ (o : Origin). o.revision ≤ k)) (sym is) (came_before v k start count lt);
      }

  -- nothing more was written
  pub blaming_fails : {E : Type 0} (place : ℕ) (rest : List Origin) (before now : Option (List ℕ)) (result : Result (Unit {0}) E) → IsErr result → IsBlaming v k start count place rest before now → WritesRuns v k start count before now result
  blaming_fails place rest before now result is b =
      let later = has_runs rest in
      let all = b.runs later.0 later.1 in
      (all.0, all.1, stopped before now (blame_lines v start all.0) result is (front_alone before now b.front (blame_lines v place later.0) (blame_lines v start all.0) (sym all.2) b.written))

  pub blaming_ends : (place : ℕ) (rest : List Origin) (before now : Option (List ℕ)) → rest ≡ [] → IsBlaming v k start count place rest before now
      → (runs : List OriginRun) × AreRuns (wanted_origins v k start count) runs × Appends before now (blame_lines v start runs)
  blaming_ends place rest before now none b =
      let all = b.runs [] (subst (λ (os : List Origin). AreRuns os []) (sym none) no_runs) in
      (all.0, all.1, subst (Appends before now) (sym (all.2 ∙ append-nil b.front)) b.written)

  -- the next run, and those behind it
  next_runs : (place : ℕ) (old rest : List Origin) (run : OriginRun) (before now : Option (List ℕ)) (later : List OriginRun)
      → IsNextRun old run rest → (b : IsBlaming v k start count place old before now) → AreRuns rest later
      → (all : List OriginRun) × AreRuns (wanted_origins v k start count) all × (blame_lines v start all ≡ b.front ++ (run_line v place run ++ blame_lines v (place + run.len) later))
  next_runs place old rest run before now later is b are =
      b.runs (run ∷ later) (run_and_more old rest run later is.some is.whole is.apart are)

  pub blaming_part : {E : Type 0} (place : ℕ) (old rest : List Origin) (run : OriginRun) (before now after : Option (List ℕ)) (result : Result (Unit {0}) E) → IsErr result
      → IsNextRun old run rest → IsBlaming v k start count place old before now → AppendsPrefix now after (run_line v place run) → WritesRuns v k start count before after result
  blaming_part place old rest run before now after result fails is b part =
      let later = has_runs rest in
      let all = next_runs place old rest run before now later.0 is b later.1 in (
        all.0,
        all.1,
        stopped before after (blame_lines v start all.0) result fails
            (front_and_part before now after b.front (run_line v place run) (blame_lines v (place + run.len) later.0) (blame_lines v start all.0) (sym all.2) b.written part),
      )

  pub next_placed : (place : ℕ) (old rest : List Origin) (run : OriginRun) → IsNextRun old run rest → place + length old ≡ (place + run.len) + length rest
  next_placed place old rest run is =
      let more : length old ≡ run.len + length rest =
      ap (λ (os : List Origin). length os) is.whole ∙ length-append (run_origins run) rest ∙ ap (λ (n : ℕ). n + length rest) (length-run run) in
      omega (arith, more)

  pub blaming_more : (place : ℕ) (old rest : List Origin) (run : OriginRun) (before now after : Option (List ℕ))
      → IsNextRun old run rest → IsBlaming v k start count place old before now → Appends now after (run_line v place run)
      → IsBlaming v k start count (place + run.len) rest before after
  blaming_more place old rest run before now after is b wrote =
      record {
        front = b.front ++ run_line v place run;
        written = appends_then before now after b.front (run_line v place run) b.written wrote;
        runs = λ later are.
            let all = next_runs place old rest run before now later is b are in
            (all.0, all.1, all.2 ∙ sym (append_assoc b.front (run_line v place run) (blame_lines v (place + run.len) later)));
        behind = let le = b.behind in omega (arith, le);
        placed = sym (next_placed place old rest run is) ∙ b.placed;
        earlier = behind_all (run_origins run) rest (subst (AllByRecursion (λ (o : Origin). o.revision ≤ k)) is.whole b.earlier);
      }
    where
      behind_all : (xs ys : List Origin) → AllByRecursion (λ (o : Origin). o.revision ≤ k) (xs ++ ys) → AllByRecursion (λ (o : Origin). o.revision ≤ k) ys
      behind_all [] ys all = all
      behind_all (x ∷ xs) ys all = behind_all xs ys all.1

  -- the run came in by this revision or an earlier one
  pub run_earlier : (place : ℕ) (old rest : List Origin) (run : OriginRun) (before now : Option (List ℕ)) → k < length v.revisions
      → IsNextRun old run rest → IsBlaming v k start count place old before now → run.first.revision < length v.revisions
  run_earlier place old rest run before now lt is b =
      let before = first_all (run_origins run ++ rest) run.first (run_begins run rest is.some) (subst (AllByRecursion (λ (o : Origin). o.revision ≤ k)) is.whole b.earlier) in
      omega (arith, before, lt)
    where
      first_all : (xs : List Origin) (o : Origin) → slice_get xs 0 ≡ Some o → AllByRecursion (λ (o : Origin). o.revision ≤ k) xs → o.revision ≤ k
      first_all [] o is all = absurd cc
      first_all (x ∷ xs) o is all = subst (λ (p : Origin). p.revision ≤ k) (same_Some x o is) all.0

  pub place_fits : (place : ℕ) (old rest : List Origin) (run : OriginRun) (before now : Option (List ℕ)) → HasTrueRecordsOf v → k < length v.revisions
      → IsNextRun old run rest → IsBlaming v k start count place old before now → place + run.len < 18446744073709551616
  place_fits place old rest run before now true_records lt is b =
      let more = next_placed place old rest run is in
      let placed = b.placed in
      let le = b.behind in
      let one = is.some in
      let some : 1 ≤ length (wanted_origins v k start count) = omega (arith, more, placed, le, one) in
      omega (arith, more, placed, wanted_short v k start count true_records lt some)

-- ---- the front of a line

-- its numbers and its command, each put behind those before it
pub line_put : (place len revision at : ℕ) (command : FullEdit)
    → ((((([] ++ decimal place) ++ 32 ∷ decimal len) ++ 32 ∷ decimal revision) ++ 32 ∷ decimal at) ++ 32 ∷ []) ++ line_of (front_of command)
    ≡ line_of (Number place ∷ Number len ∷ Number revision ∷ Number at ∷ front_of command)
line_put place len revision at command = by_front (front_of command) n.0 n.1 n.2
  where
    n : (w : Word) × (ws : List Word) × (front_of command ≡ w ∷ ws)
    n = named command

    a : List ℕ
    a = decimal place

    b : List ℕ
    b = 32 ∷ decimal len

    d : List ℕ
    d = 32 ∷ decimal revision

    e : List ℕ
    e = 32 ∷ decimal at

    by_front : (front : List Word) (w : Word) (ws : List Word) → front ≡ w ∷ ws
        → ((((a ++ b) ++ d) ++ e) ++ 32 ∷ []) ++ line_of front ≡ line_of (Number place ∷ Number len ∷ Number revision ∷ Number at ∷ front)
    by_front front w ws is =
        let whole : a ++ (b ++ (d ++ (e ++ (32 ∷ line_of front)))) ≡ line_of (Number place ∷ Number len ∷ Number revision ∷ Number at ∷ front) =
        subst (λ (f : List Word). a ++ (b ++ (d ++ (e ++ (32 ∷ line_of f)))) ≡ line_of (Number place ∷ Number len ∷ Number revision ∷ Number at ∷ f)) (sym is) refl in
        append_assoc (((a ++ b) ++ d) ++ e) (32 ∷ []) (line_of front)
        ∙ append_assoc ((a ++ b) ++ d) e (32 ∷ line_of front)
        ∙ append_assoc (a ++ b) d (e ++ (32 ∷ line_of front))
        ∙ append_assoc a b (d ++ (e ++ (32 ∷ line_of front)))
        ∙ whole

-- what was put there is the same bytes
pub then_is : {T E : Type 0} (result : Result T E) (xs ys zs : List ℕ) → ys ≡ zs → OnOk result (xs ≡ ys) → OnOk result (xs ≡ zs)
then_is (Ok u) xs ys zs same is = is ∙ same
then_is (Err e) xs ys zs same is = tt

-- ---- the next run

pub run_told : (old new : List Origin) (found : Option OriginRun) (run : OriginRun) → found ≡ Some run
    → MatchOption found ((old ≡ []) × (new ≡ [])) (λ (x : OriginRun). IsNextRun old x new) → IsNextRun old run new
run_told old new found run is told = subst (λ (f : Option OriginRun). MatchOption f ((old ≡ []) × (new ≡ [])) (λ (x : OriginRun). IsNextRun old x new)) is told

pub none_told : (old new : List Origin) (found : Option OriginRun) → ((run : OriginRun) → found ≡ Some run → ⊥)
    → MatchOption found ((old ≡ []) × (new ≡ [])) (λ (x : OriginRun). IsNextRun old x new) → old ≡ []
none_told old new None none told = told.0
none_told old new (Some run) none told = absurd (none run refl)
