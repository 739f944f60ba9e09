-- The codes of what keeps a session from going on, as they are printed.
use Rattle.std.specs.Prelude.{ℕ, List, ◌++◌, codes}
use Rattle.std.specs.Fmt.{decimal}
use Rattle.saved_session.specs.declared.fault.TakeFault.{TakeFault}
use Rattle.saved_session.specs.declared.fault.TakeFault.TheVariants.{OverSource, TooManyRows, Memory}

abbrev pub take_fault_code : TakeFault → List ℕ
take_fault_code (OverSource revision) = codes "G1(" ++ decimal revision ++ codes ")"
take_fault_code TooManyRows = codes "E6"
take_fault_code Memory = codes "Memory"
