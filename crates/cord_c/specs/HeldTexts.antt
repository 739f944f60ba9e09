-- What sources state that a caller hands in, by its first names here.
pub use Rattle.cord_types.specs.HeldTexts.{held_bytes, held_sizes, held_text, is_held, is_short, limit_fault, reading_of, stated_as_held}
