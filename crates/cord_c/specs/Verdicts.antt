-- The numbers of a verdict, by their first names here.
pub use Rattle.cord_types.specs.Verdicts.{accepted_verdict, add_number, limit_verdict, read_number, refused_verdict, refused_with}
