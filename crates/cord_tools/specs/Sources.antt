-- How much is read of a source that is read whole.
use Rattle.std.specs.Prelude.{ℕ, ◌+◌}
use Rattle.lazy_file.specs.declared.sources.TheConstants.{SOURCE_LIMIT}

-- one more byte than the longest source has
abbrev pub source_limit : ℕ
source_limit = SOURCE_LIMIT + 1
