-- Functions that an image can hold.
use Rattle.std.specs.Prelude.{ℕ, ◌+◌, ◌%◌, length, slice_index}
use Rattle.function_leaf.specs.declared.coded.Coded.{Coded}
use Rattle.function_leaf.specs.declared.coded.Coded.TheVariants.{Fill, Ramp, Cycle}

-- the byte of a coded function at a place
abbrev pub coded_byte : Coded → ℕ → ℕ
coded_byte (Fill c) i = c
coded_byte (Ramp c) i = (c + i) % 256
coded_byte (Cycle pattern) i = slice_index pattern (i % length pattern)
