-- What a block holds, and how many bytes more it takes.
use Rattle.std.specs.Prelude.{ℕ, ◌-◌, List, ◌++◌, length}
use Rattle.leaf_buffer.specs.declared.block.TheConstants.{BLOCK_SIZE}

pub record Filled : Type 0 where
  pub bytes : List ℕ
  pub room : ℕ

-- a block of the pool's own memory, which begins with these bytes
abbrev pub written_block : List ℕ → Filled
written_block bytes = record { bytes = bytes; room = BLOCK_SIZE - length bytes }

-- a block with these bytes behind its own, in its room
abbrev pub filled_behind : Filled → List ℕ → Filled
filled_behind block added = record { bytes = block.bytes ++ added; room = block.room - length added }
