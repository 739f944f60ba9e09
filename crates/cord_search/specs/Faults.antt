-- Why a search or a write of a text fails.
use Rattle.std.specs.Prelude.{ℕ, List, Option, Some, None, codes}
use Rattle.lazy_file.specs.declared.faults.SourceFault.{SourceFault}
use Rattle.lazy_file.specs.Faults.{source_fault_code}
use Rattle.cord_search.specs.declared.fault.FindFault.{FindFault}
use Rattle.cord_search.specs.declared.fault.FindFault.TheVariants as Find
use Rattle.cord_search.specs.declared.fault.PutFault.{PutFault}
use Rattle.cord_search.specs.declared.fault.PutFault.TheVariants as Put

-- how a fault of a search is printed
abbrev pub find_fault_code : FindFault → List ℕ
find_fault_code Find.PatternTooLong = codes "F1"
find_fault_code (Find.Source fault) = source_fault_code fault
find_fault_code Find.Memory = codes "Memory"

-- the source's fault that a fault is, if it is one
abbrev pub find_source_fault : FindFault → Option SourceFault
find_source_fault Find.PatternTooLong = None
find_source_fault (Find.Source fault) = Some fault
find_source_fault Find.Memory = None

-- the source's fault that a fault of put is, if it is one
abbrev pub put_source_fault : PutFault → Option SourceFault
put_source_fault (Put.Source fault) = Some fault
put_source_fault Put.Write = None
