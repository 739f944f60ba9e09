-- Runs that go on where others end, joined to the longest.
use Rattle.std.proofs.Common.{◌≡◌, ◌≢◌, ℕ, zero, suc, ◌+◌, ◌≤◌, List, [], ◌++◌, length, map, Option, Some, None, refl, sym, ap, subst, ◌∙◌, append_assoc, arith}
use Rattle.std.specs.Prelude.{slice_get, ◌<◌, ◌^◌, MatchOption}
use Rattle.std.specs.List.{range_with_len}
use Rattle.std.proofs.lemmas.List.{length-append}
use Rattle.std.proofs.lemmas.Option.{same_Some}
use Rattle.byte_origins.specs.declared.run.Origin.{Origin}
use Rattle.byte_origins.specs.declared.run.OriginRun.{OriginRun}
use Rattle.byte_origins.specs.Behind.{origin_behind}
use Rattle.byte_origins.specs.Origins.{run_origins}
use Rattle.byte_origins.specs.Stretches.{IsLengthening, IsLongestRun, IsNextRun, found_and_left}
use Rattle.byte_origins.proofs.RunOrigins.{behind_none, length-run, runs_joined}

-- ---- runs joined

pub run_lengthened : (run next : OriginRun) (rest : List Origin) → origin_behind run.first run.len ≡ next.first
    → run_origins run ++ (run_origins next ++ rest) ≡ run_origins (record { first = run.first; len = run.len + next.len }) ++ rest
run_lengthened run next rest on =
    sym (append_assoc (run_origins run) (run_origins next) rest)
    ∙ ap (λ (o : Origin). (run_origins run ++ run_origins (record { first = o; len = next.len })) ++ rest) (sym on)
    ∙ ap (λ (os : List Origin). os ++ rest) (sym (runs_joined run.first run.len next.len))

-- a run of one or more begins with its first origin
pub run_begins : (run : OriginRun) (rest : List Origin) → 1 ≤ run.len → slice_get (run_origins run ++ rest) 0 ≡ Some run.first
run_begins run rest some = begins run.first run.len some
  where
    begins : (o : Origin) (n : ℕ) → 1 ≤ n → slice_get (map (origin_behind o) (range_with_len 0 n) ++ rest) 0 ≡ Some o
    begins o zero some = absurd (omega (arith, some))
    begins o (suc n) some = ap (λ (x : Origin). Some x) (behind_none o)

-- ---- the longest run

pub lengthening_begins : (first : OriginRun) (old : List Origin) → 1 ≤ first.len → IsLengthening first old first old
lengthening_begins first old some = record { some = some; same = refl; room = refl }

pub lengthening_more : (first run next : OriginRun) (old left rest : List Origin) → IsLengthening first old run left → 1 ≤ next.len → left ≡ run_origins next ++ rest → origin_behind run.first run.len ≡ next.first
    → IsLengthening first old (record { first = run.first; len = run.len + next.len }) rest
lengthening_more first run next old left rest is some split on =
    let more : length left ≡ next.len + length rest = ap (λ (os : List Origin). length os) split ∙ length-append (run_origins next) rest ∙ ap (λ (n : ℕ). n + length rest) (length-run next) in
    record {
      some = omega (arith, some);
      same = is.same ∙ ap (λ (os : List Origin). run_origins run ++ os) split ∙ run_lengthened run next rest on;
      room = omega (arith, is.room, more);
    }

pub lengthening_stops : (first run next : OriginRun) (old left rest : List Origin) → IsLengthening first old run left → 1 ≤ next.len → left ≡ run_origins next ++ rest → origin_behind run.first run.len ≢ next.first
    → IsLongestRun first old run (Some next) rest
lengthening_stops first run next old left rest is some split off =
    record {
      some = is.some;
      same = is.same ∙ ap (λ (os : List Origin). run_origins run ++ os) split;
      apart = λ e. off (sym (same_Some next.first (origin_behind run.first run.len) (sym (run_begins next rest some) ∙ e)));
      told = some;
    }

pub lengthening_ends : (first run : OriginRun) (old left rest : List Origin) → IsLengthening first old run left → left ≡ [] → rest ≡ [] → IsLongestRun first old run None rest
lengthening_ends first run old left rest is none ended =
    record {
      some = is.some;
      same = is.same ∙ ap (λ (os : List Origin). run_origins run ++ os) (none ∙ sym ended);
      apart = subst (λ (os : List Origin). slice_get os 0 ≢ Some (origin_behind run.first run.len)) (sym ended) (λ e. absurd cc);
      told = ended;
    }

-- ---- what next tells

pub next_found : (N : Type 0) (old new : List Origin) (found : Option OriginRun) (run : OriginRun) → found ≡ Some run
    → MatchOption found N (λ (x : OriginRun). (1 ≤ x.len) × (old ≡ run_origins x ++ new)) → (1 ≤ run.len) × (old ≡ run_origins run ++ new)
next_found N old new found run is told = subst (λ (f : Option OriginRun). MatchOption f N (λ (x : OriginRun). (1 ≤ x.len) × (old ≡ run_origins x ++ new))) is told

pub lengthening_fits : (first run next : OriginRun) (old left rest : List Origin) → IsLengthening first old run left → left ≡ run_origins next ++ rest → first.len + length old < 2 ^ 64 → run.len + next.len < 2 ^ 64
lengthening_fits first run next old left rest is split room =
    let more : length left ≡ next.len + length rest = ap (λ (os : List Origin). length os) split ∙ length-append (run_origins next) rest ∙ ap (λ (n : ℕ). n + length rest) (length-run next) in
    let all = is.room in
    omega (arith, all, more, room)

-- ---- the next run

-- the longest run that begins with the first that is found
pub next_is_longest : (old left rest : List Origin) (first run : OriginRun) (found : Option OriginRun) → old ≡ run_origins first ++ left → IsLongestRun first left run found rest → IsNextRun old run (found_and_left found rest)
next_is_longest old left rest first run found split is = record { some = is.some; whole = split ∙ is.same; apart = is.apart }

-- what is left is no more than there was
pub left_fits : (old rest : List Origin) (run : OriginRun) → old ≡ run_origins run ++ rest → length old < 2 ^ 64 → length rest < 2 ^ 64
left_fits old rest run split room =
    let more : length old ≡ run.len + length rest = ap (λ (os : List Origin). length os) split ∙ length-append (run_origins run) rest ∙ ap (λ (n : ℕ). n + length rest) (length-run run) in
    omega (arith, more, room)

pub run_fits : (old rest : List Origin) (run : OriginRun) → old ≡ run_origins run ++ rest → length old < 2 ^ 64 → run.len + length rest < 2 ^ 64
run_fits old rest run split room =
    let more : length old ≡ run.len + length rest = ap (λ (os : List Origin). length os) split ∙ length-append (run_origins run) rest ∙ ap (λ (n : ℕ). n + length rest) (length-run run) in
    omega (arith, more, room)
