-- Files of which one fails.
use Rattle.std.specs.Prelude.{ℕ, false, if◌then◌else◌, nat_eq}
use Rattle.lazy_file.specs.Readings.{Reading}
use Rattle.lazy_file.specs.SourceTexts.{Stated}

-- what is known of files that state so much, where only reads of this one may fail, and so many have
abbrev pub one_failing : Stated → ℕ → ℕ → Reading
one_failing st broken failed = record {
  stated = record st { never_fails = false };
  failures = λ s. if nat_eq s broken then failed else 0;
}
