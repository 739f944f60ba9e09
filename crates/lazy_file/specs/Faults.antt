-- How faults of sources are printed.
use Rattle.std.specs.Prelude.{ℕ, List, codes}
use Rattle.lazy_file.specs.declared.faults.AddFault.{AddFault}
use Rattle.lazy_file.specs.declared.faults.AddFault.TheVariants as Add
use Rattle.lazy_file.specs.declared.faults.SourceFault.{SourceFault}
use Rattle.lazy_file.specs.declared.faults.SourceFault.TheVariants as Read

-- how a read's fault is printed
abbrev pub source_fault_code : SourceFault → List ℕ
source_fault_code Read.Device = codes "S1"
source_fault_code Read.Short = codes "S2"
source_fault_code Read.BadSource = codes "S3"
source_fault_code Read.Memory = codes "Memory"

-- how a refusal of a source is printed
abbrev pub add_fault_code : AddFault → List ℕ
add_fault_code Add.TooManySources = codes "S4"
add_fault_code Add.SourceTooLong = codes "S5"
add_fault_code Add.Memory = codes "Memory"
