-- What sources state that a caller hands in: the length of each, and the bytes that are held of it.
use Rattle.std.specs.Prelude.{ℕ, Bool, if◌then◌else◌, nat_le, nat_lt, List, [], ◌++◌, Some, length, map, replicate, take, unwrap_or}
use Rattle.std.specs.List.{list_all}
use Rattle.lazy_file.specs.SourceTexts.{Stated, text_at}
use Rattle.lazy_file.specs.Readings.{Reading}
use Rattle.lazy_file.specs.declared.sources.TheConstants.{COUNT_LIMIT, SOURCE_LIMIT}
use Rattle.lazy_file.specs.declared.faults.AddFault.{AddFault}
use Rattle.lazy_file.specs.declared.faults.AddFault.TheVariants.{TooManySources, SourceTooLong}
use Rattle.cord_types.specs.declared.held_sources.CordSource.{CordSource}

-- their lengths
abbrev pub held_sizes : List CordSource → List ℕ
held_sizes sources = map (λ (s : CordSource). s.size) sources

-- it is no longer than a source may be
abbrev pub is_short : CordSource → Bool
is_short s = nat_le s.size SOURCE_LIMIT

-- the bytes of a source are all held
abbrev pub is_held : CordSource → Bool
is_held s = nat_le s.size (length s.bytes.now)

-- the bytes that are held of a source, up to its length
abbrev pub held_text : CordSource → List ℕ
held_text s = take s.size s.bytes.now

-- Each states its length, and of its text the bytes that are held. One that is not among them states an empty text, so
-- that no byte of it can be told. No read of them fails where all are held.
abbrev pub stated_as_held : List CordSource → Stated
stated_as_held sources = record {
  sizes = held_sizes sources;
  texts = map (λ (s : CordSource). Some (held_text s)) sources ++ replicate COUNT_LIMIT (Some []);
  never_fails = list_all is_held sources;
}

-- what is known of them: they state this, and no read fails but for bytes that are not held
abbrev pub reading_of : Stated → Reading
reading_of st = record { stated = st; failures = λ s. 0 }

-- the bytes that are held of source s; of none, no bytes
abbrev pub held_bytes : Stated → ℕ → List ℕ
held_bytes st s = unwrap_or (text_at st s) []

-- why lengths are none that sources may have
abbrev pub limit_fault : List ℕ → AddFault
limit_fault sizes = if nat_lt COUNT_LIMIT (length sizes) then TooManySources else SourceTooLong
