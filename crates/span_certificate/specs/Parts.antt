-- The parts of commands, by their first names here.
pub use Rattle.command_parts.specs.Parts.{part_len, parts_cells, parts_of, AreRopes, IsInRange, IsPart}
