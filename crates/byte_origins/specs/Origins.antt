-- Where each byte of a text comes from: the history itself, run over origins in place of bytes.
use Rattle.std.specs.Prelude.{◌≡◌, ◌≢◌, ℕ, ◌+◌, ◌≤◌, List, [], ◌∷◌, ◌++◌, length, map, take, drop, get_or, slice_get, Option, Some}
use Rattle.std.specs.Option.{unwrap_or}
use Rattle.std.specs.List.{flat_map, range_with_len, AllByRecursion}
use Rattle.command_parts.specs.Commands.{FullEdit, Givens, result_of}
use Rattle.image_reader.specs.Value.{ImageValue}
use Rattle.image_reader.specs.Accepted.{command_at}
use Rattle.session_checker.specs.Faithful.{commands}
use Rattle.byte_origins.specs.declared.run.Brought.{Brought}
use Rattle.byte_origins.specs.declared.run.Brought.TheVariants.{Pool, Source, Fill}
use Rattle.byte_origins.specs.declared.run.Origin.{Origin}
use Rattle.byte_origins.specs.declared.run.OriginRun.{OriginRun}
use Rattle.byte_origins.specs.Behind.{origin_behind}

-- what stands in a text while its command is run over origins: a byte of an earlier text, by its origin, or one from outside
pub data Traced : Type 0 where
  Earlier : Origin → Traced
  Outside : Brought → Traced

-- everything that is outside, each byte by what it is
abbrev pub traced_givens : ℕ → List ℕ → Givens Traced
traced_givens pool_len sources = record {
  pool = map (λ a. Outside (Pool a)) (range_with_len 0 pool_len);
  sources = map (λ s. map (λ p. Outside (Source s p)) (range_with_len 0 (get_or sources s 0))) (range_with_len 0 (length sources));
  byte = λ c. Outside (Fill c);
}

-- the origins in a text of revision k from place p on: what comes from outside stands there for the first time
abbrev pub settled : ℕ → ℕ → List Traced → List Origin
settled k p [] = []
settled k p (Earlier o ∷ xs) = o ∷ settled k (p + 1) xs
settled k p (Outside b ∷ xs) = record { revision = k; place = p; brought = b } ∷ settled k (p + 1) xs

-- those of the text that a command gives, over those of the texts before it
abbrev pub origins_of : ℕ → List ℕ → List (List Origin) → FullEdit → List Origin
origins_of pool_len sources earlier command =
    settled (length earlier) 0
    (unwrap_or (result_of (traced_givens pool_len sources) (map (map Earlier) earlier) command) [])

-- those of all commands' texts, behind these
abbrev pub origins_from : ℕ → List ℕ → List (List Origin) → List FullEdit → List (List Origin)
origins_from pool_len sources earlier [] = earlier
origins_from pool_len sources earlier (e ∷ es) =
    origins_from pool_len sources (earlier ++ origins_of pool_len sources earlier e ∷ []) es

-- the origin of each byte of revision k's text
abbrev pub origins_at : ImageValue → ℕ → List Origin
origins_at v k = get_or (origins_from (length v.pool) v.sources [] (commands v)) k []

-- what revision k's command gives over the origins of the texts before it
abbrev pub traced_at : ImageValue → ℕ → List Traced
traced_at v k =
    unwrap_or (result_of (traced_givens (length v.pool) v.sources)
    (map (map Earlier) (take k (origins_from (length v.pool) v.sources [] (commands v)))) (command_at v k)) []

-- ---- runs

-- the origins of a run, one behind the other
abbrev pub run_origins : OriginRun → List Origin
run_origins run = map (origin_behind run.first) (range_with_len 0 run.len)

-- no run goes on where the next one begins
abbrev pub AreApart : List OriginRun → Type 0
AreApart [] = Unit {0}
AreApart (x ∷ []) = Unit {0}
AreApart (x ∷ y ∷ runs) = (origin_behind x.first x.len ≢ y.first) × AreApart (y ∷ runs)

-- a run of one byte or more that stands among these origins at this place
pub record IsOriginRun (origins : List Origin) (place : ℕ) (run : OriginRun) : Type 0 where
  pub some : 1 ≤ run.len
  pub stands : take run.len (drop place origins) ≡ run_origins run

-- the runs of some origins: joined they are these, each has at least one, and no two neighbours would make one run
pub record AreRuns (origins : List Origin) (runs : List OriginRun) : Type 0 where
  pub whole : flat_map run_origins runs ≡ origins
  pub some : AllByRecursion (λ (x : OriginRun). 1 ≤ x.len) runs
  pub apart : AreApart runs

-- the byte that is brought, of what is given: of the pool, of a source, or a fill's
abbrev pub brought_byte : {C : Type 0} → Givens C → Brought → Option C
brought_byte g (Pool a) = slice_get g.pool a
brought_byte g (Source s p) = slice_get (get_or g.sources s []) p
brought_byte g (Fill c) = Some (g.byte c)
