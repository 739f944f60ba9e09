-- What comes in side by side.
use Rattle.std.specs.Prelude.{ℕ, ◌+◌, ◌^◌, ◌<◌}
use Rattle.byte_origins.specs.declared.run.Brought.{Brought}
use Rattle.byte_origins.specs.declared.run.Brought.TheVariants.{Pool, Source, Fill}
use Rattle.byte_origins.specs.declared.run.Origin.{Origin}
use Rattle.byte_origins.specs.declared.run.OriginRun.{OriginRun}

-- the byte n places on in what is brought
abbrev pub brought_behind : Brought → ℕ → Brought
brought_behind (Pool a) n = Pool (a + n)
brought_behind (Source s p) n = Source s (p + n)
brought_behind (Fill c) n = Fill c

-- the origin of the byte that came in n places on from one
abbrev pub origin_behind : Origin → ℕ → Origin
origin_behind o n = record {
  revision = o.revision;
  place = o.place + n;
  brought = brought_behind o.brought n;
}

-- the place where n bytes end that are brought side by side; a fill has no places
abbrev pub brought_end : Brought → ℕ → ℕ
brought_end (Pool a) n = a + n
brought_end (Source s p) n = p + n
brought_end (Fill c) n = 0

-- the places of a run's bytes are numbers of 64 bits
pub record FitsNumbers (run : OriginRun) : Type 0 where
  pub place : run.first.place + run.len < 2 ^ 64
  pub brought : brought_end run.first.brought run.len < 2 ^ 64
