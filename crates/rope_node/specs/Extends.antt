-- A table that goes on where an older one ends.
use Rattle.std.specs.Prelude.{◌≡◌, ℕ, ◌+◌, ◌<◌, ◌≤◌, length, get_or, slice_range}
use Rattle.rope_node.specs.Table.{Table, node_at}

-- the older one's nodes, pool, sources and answers are as they were, and more may stand behind them
pub record Extends (old new : Table) : Type 0 where
  pub nodes : (id : ℕ) → id < length old.nodes → node_at new id ≡ node_at old id
  pub more_nodes : length old.nodes ≤ length new.nodes
  pub pool : (a n : ℕ) → a + n ≤ length old.pool → slice_range new.pool a (a + n) ≡ slice_range old.pool a (a + n)
  pub more_pool : length old.pool ≤ length new.pool
  pub sources : (s : ℕ) → s < length old.sources → get_or new.sources s 0 ≡ get_or old.sources s 0
  pub more_sources : length old.sources ≤ length new.sources
  pub answer : (id : ℕ) → id < length old.nodes → new.answer id ≡ old.answer id
