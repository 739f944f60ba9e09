-- The codes of the checker's faults, as they are printed.
use Rattle.std.specs.Prelude.{ℕ, List, ◌++◌, codes}
use Rattle.std.specs.Fmt.{decimal}
use Rattle.image_reader.specs.Reading.{read_fault_code as read_code}
use Rattle.session_checker.specs.declared.fault.CheckFault.{CheckFault}
use Rattle.session_checker.specs.declared.fault.CheckFault.TheVariants.{Read, SourceCount, SourceLength, Reference, Length, Depth, Span, Command, Root, Mark, Rows, Source, Looks}
use Rattle.lazy_file.specs.Faults.{source_fault_code}

abbrev pub check_fault_code : CheckFault → List ℕ
check_fault_code (Read fault) = codes "C1(" ++ read_code fault ++ codes ")"
check_fault_code SourceCount = codes "C2"
check_fault_code (SourceLength s) = codes "C3(" ++ decimal s ++ codes ")"
check_fault_code (Reference node) = codes "C4(" ++ decimal node ++ codes ")"
check_fault_code (Length node) = codes "C5(" ++ decimal node ++ codes ")"
check_fault_code (Depth node) = codes "C6(" ++ decimal node ++ codes ")"
check_fault_code (Span node) = codes "C7(" ++ decimal node ++ codes ")"
check_fault_code (Command revision) = codes "C8(" ++ decimal revision ++ codes ")"
check_fault_code (Root revision) = codes "C9(" ++ decimal revision ++ codes ")"
check_fault_code (Mark revision) = codes "C10(" ++ decimal revision ++ codes ")"
check_fault_code (Rows revision row) = codes "C11(" ++ decimal revision ++ codes "," ++ decimal row ++ codes ")"
check_fault_code (Source fault) = codes "C12(" ++ source_fault_code fault ++ codes ")"
check_fault_code (Looks bound) = codes "looks " ++ decimal bound
