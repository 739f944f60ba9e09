-- What is answered for an image, by its first names here.
pub use Rattle.cord_types.specs.Answers.{IsNoSources, IsRefusedAs, JudgesImage}
