-- The numbers of a verdict.
use Rattle.std.specs.Prelude.{ℕ, length}
use Rattle.lazy_file.specs.declared.faults.AddFault.{AddFault}
use Rattle.lazy_file.specs.declared.faults.AddFault.TheVariants as add
use Rattle.image_reader.specs.Value.{ImageValue, image_table}
use Rattle.image_reader.specs.declared.fault.ReadFault.{ReadFault}
use Rattle.image_reader.specs.declared.fault.ReadFault.TheVariants.{Truncated, Trailing, Magic, Version, Count, NonZeroPad, Kind}
use Rattle.session_checker.specs.declared.fault.CheckFault.{CheckFault}
use Rattle.session_checker.specs.declared.fault.CheckFault.TheVariants.{Read, SourceCount, SourceLength, Reference, Length, Depth, Span, Command, Root, Mark, Rows, Source, Looks}
use Rattle.cord_types.specs.declared.verdict.CordVerdict.{CordVerdict}
use Rattle.cord_types.specs.declared.verdict.TheConstants.{BAD_SOURCES, OVER_LIMIT, UNHELD}

-- I1 to I7
abbrev pub read_number : ReadFault → ℕ
read_number Truncated = 1
read_number Trailing = 2
read_number Magic = 3
read_number Version = 4
read_number Count = 5
read_number NonZeroPad = 6
read_number Kind = 7

-- S4 and S5
abbrev pub add_number : AddFault → ℕ
add_number add.TooManySources = 4
add_number add.SourceTooLong = 5
add_number add.Memory = 0

-- the verdict that names a fault by these numbers
abbrev pub refused_with : ℕ → ℕ → ℕ → ℕ → CordVerdict
refused_with code kind number row = record {
  code = code;
  kind = kind;
  number = number;
  revisions = 0;
  nodes = 0;
  rows = 0;
  row = row;
}

-- a fault of an image; where a source failed a read, S2, since it fails none of bytes that are held
abbrev pub refused_verdict : CheckFault → CordVerdict
refused_verdict (Read fault) = refused_with 1 (read_number fault) 0 0
refused_verdict SourceCount = refused_with 2 0 0 0
refused_verdict (SourceLength s) = refused_with 3 0 s 0
refused_verdict (Reference node) = refused_with 4 0 node 0
refused_verdict (Length node) = refused_with 5 0 node 0
refused_verdict (Depth node) = refused_with 6 0 node 0
refused_verdict (Span node) = refused_with 7 0 node 0
refused_verdict (Command revision) = refused_with 8 0 revision 0
refused_verdict (Root revision) = refused_with 9 0 revision 0
refused_verdict (Mark revision) = refused_with 10 0 revision 0
refused_verdict (Rows revision row) = refused_with 11 0 revision row
refused_verdict (Source fault) = refused_with 12 UNHELD 0 0
refused_verdict (Looks bound) = refused_with OVER_LIMIT 0 0 bound

-- sources that are none
abbrev pub limit_verdict : AddFault → CordVerdict
limit_verdict fault = refused_with BAD_SOURCES (add_number fault) 0 0

-- an accepted image: how many revisions, nodes and rows it has
abbrev pub accepted_verdict : ImageValue → CordVerdict
accepted_verdict v = record {
  code = 0;
  kind = 0;
  number = 0;
  revisions = length v.revisions;
  nodes = length (image_table v).nodes;
  rows = length v.rows;
  row = 0;
}
