-- How many looks the check of an image may take.
use Rattle.std.specs.Prelude.{ℕ, ◌+◌, ◌*◌, length}
use Rattle.span_certificate.specs.Looks.{most_looks}
use Rattle.image_reader.specs.Value.{ImageValue, image_table}

-- one for each node, two for each revision, and those that its rows take
abbrev pub looks_bound : ImageValue → ℕ
looks_bound v = length (image_table v).nodes + 2 * length v.revisions + most_looks v.rows
