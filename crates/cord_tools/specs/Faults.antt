-- What the faults of reads, writes, searches and ropes come to.
use Rattle.std.specs.Prelude.{◌≡◌, ◌⊎◌, ⊤}
use Rattle.lazy_file.specs.declared.faults.AddFault.{AddFault}
use Rattle.lazy_file.specs.declared.faults.AddFault.TheVariants as Add
use Rattle.lazy_file.specs.declared.faults.SourceFault.{SourceFault}
use Rattle.lazy_file.specs.declared.faults.SourceFault.TheVariants as Source
use Rattle.node_table.specs.declared.fault.NodeFault.TheVariants as Node
use Rattle.rebalance.specs.declared.fault.BalanceFault.{BalanceFault}
use Rattle.rebalance.specs.declared.fault.BalanceFault.TheVariants as Balance
use Rattle.cord_search.specs.declared.fault.FindFault.{FindFault}
use Rattle.cord_search.specs.declared.fault.FindFault.TheVariants as Find
use Rattle.cord_search.specs.declared.fault.PutFault.{PutFault}
use Rattle.cord_search.specs.declared.fault.PutFault.TheVariants as Put
use Rattle.session_checker.specs.declared.fault.CheckFault.{CheckFault}
use Rattle.session_checker.specs.declared.fault.CheckFault.TheVariants as Check
use Rattle.saved_session.specs.declared.fault.TakeFault.{TakeFault}
use Rattle.saved_session.specs.declared.fault.TakeFault.TheVariants as Take
use Rattle.edit_commands.specs.declared.fault.EditFault.{EditFault}
use Rattle.edit_commands.specs.declared.fault.EditFault.TheVariants as Edit
use Rattle.screen_editor.specs.declared.fault.EditorFault.{EditorFault}
use Rattle.screen_editor.specs.declared.fault.EditorFault.TheVariants as Editor
use Rattle.text_lines.specs.declared.fault.FrameFault.TheVariants as Frame
use Rattle.screen_editor.specs.declared.fault.RunFault.{RunFault}
use Rattle.screen_editor.specs.declared.fault.RunFault.TheVariants as Run
use Rattle.cord_tools.specs.declared.fault.ToolFault.{ToolFault}
use Rattle.cord_tools.specs.declared.fault.ToolFault.TheVariants as Tool
use Rattle.cord_tools.specs.declared.fault.ToolFault.TheVariants.{Memory, Read, Write, PatternTooLong, Rope}

-- what the refusal of a source comes to
abbrev pub add_fault : AddFault → ToolFault
add_fault Add.TooManySources = Tool.Source Add.TooManySources
add_fault Add.SourceTooLong = Tool.Source Add.SourceTooLong
add_fault Add.Memory = Memory

-- what the fault of a read comes to
abbrev pub read_fault : SourceFault → ToolFault
read_fault Source.Device = Read
read_fault Source.Short = Read
read_fault Source.BadSource = Read
read_fault Source.Memory = Memory

-- what a refusal of an image comes to
abbrev pub check_fault : CheckFault → ToolFault
check_fault (Check.Source fault) = read_fault fault
check_fault (Check.Read f) = Tool.Refused (Check.Read f)
check_fault Check.SourceCount = Tool.Refused Check.SourceCount
check_fault (Check.SourceLength s) = Tool.Refused (Check.SourceLength s)
check_fault (Check.Reference id) = Tool.Refused (Check.Reference id)
check_fault (Check.Length id) = Tool.Refused (Check.Length id)
check_fault (Check.Depth id) = Tool.Refused (Check.Depth id)
check_fault (Check.Span id) = Tool.Refused (Check.Span id)
check_fault (Check.Command k) = Tool.Refused (Check.Command k)
check_fault (Check.Root k) = Tool.Refused (Check.Root k)
check_fault (Check.Mark k) = Tool.Refused (Check.Mark k)
check_fault (Check.Rows k j) = Tool.Refused (Check.Rows k j)
check_fault (Check.Looks bound) = Tool.Refused (Check.Looks bound)

abbrev pub put_fault : PutFault → ToolFault
put_fault (Put.Source fault) = read_fault fault
put_fault Put.Write = Write

abbrev pub find_fault : FindFault → ToolFault
find_fault Find.PatternTooLong = PatternTooLong
find_fault (Find.Source fault) = read_fault fault
find_fault Find.Memory = Memory

abbrev pub tool_rope_fault : BalanceFault → ToolFault
tool_rope_fault Balance.TooManyPieces = Rope Balance.TooManyPieces
tool_rope_fault (Balance.Node Node.TooLong) = Rope (Balance.Node Node.TooLong)
tool_rope_fault (Balance.Node Node.TooDeep) = Rope (Balance.Node Node.TooDeep)
tool_rope_fault (Balance.Node Node.TableFull) = Rope (Balance.Node Node.TableFull)
tool_rope_fault (Balance.Node Node.PoolFull) = Rope (Balance.Node Node.PoolFull)
tool_rope_fault (Balance.Node Node.BadSpan) = Rope (Balance.Node Node.BadSpan)
tool_rope_fault (Balance.Node Node.TooManySources) = Rope (Balance.Node Node.TooManySources)
tool_rope_fault (Balance.Node Node.Memory) = Memory

-- what the refusal of a first revision comes to
abbrev pub edit_fault : EditFault → ToolFault
edit_fault Edit.NoRevision = Tool.Edit Edit.NoRevision
edit_fault Edit.NoSource = Tool.Edit Edit.NoSource
edit_fault Edit.Range = Tool.Edit Edit.Range
edit_fault Edit.EmptyText = Tool.Edit Edit.EmptyText
edit_fault Edit.TooManyRevisions = Tool.Edit Edit.TooManyRevisions
edit_fault Edit.TooManyRows = Tool.Edit Edit.TooManyRows
edit_fault (Edit.Node fault) = Tool.Edit (Edit.Node fault)
edit_fault Edit.TooManyPieces = Tool.Edit Edit.TooManyPieces
edit_fault Edit.SpliceCount = Tool.Edit Edit.SpliceCount
edit_fault Edit.TooManySplices = Tool.Edit Edit.TooManySplices
edit_fault Edit.Memory = Memory

-- what keeps a session from going on from an image comes to
abbrev pub take_fault : TakeFault → ToolFault
take_fault (Take.OverSource k) = Tool.TakeUp (Take.OverSource k)
take_fault Take.TooManyRows = Tool.TakeUp Take.TooManyRows
take_fault Take.Memory = Memory

abbrev pub editor_fault : EditorFault → ToolFault
editor_fault Editor.TooLong = Tool.TextTooLong
editor_fault (Editor.Edit fault) = edit_fault fault
editor_fault Editor.Memory = Memory

-- what ended a run of the editor comes to
abbrev pub run_fault : RunFault → ToolFault
run_fault Run.Read = Read
run_fault Run.Write = Write
run_fault (Run.Frame (Frame.Source fault)) = read_fault fault
run_fault (Run.Frame Frame.Memory) = Memory
run_fault Run.TooManyKeys = Tool.TooManyKeys

-- what may stop a tool that asks for nothing that could be refused
abbrev pub IsStop : ToolFault → Type 0
IsStop fault = (fault ≡ Write) ⊎ ((fault ≡ Read) ⊎ (fault ≡ Memory))

-- what may end the joining of files: their rope is refused as too long alone
abbrev pub IsJoinFault : ToolFault → Type 0
IsJoinFault Memory = ⊤
IsJoinFault Read = ⊤
IsJoinFault Write = ⊤
IsJoinFault (Rope fault) = fault ≡ Balance.Node Node.TooLong
IsJoinFault (Tool.Refused f) = ⊥
IsJoinFault (Tool.Source f) = ⊥
IsJoinFault Tool.NoRevision = ⊥
IsJoinFault (Tool.TakeUp f) = ⊥
IsJoinFault (Tool.Edit f) = ⊥
IsJoinFault Tool.TextTooLong = ⊥
IsJoinFault Tool.TooManyKeys = ⊥
IsJoinFault Tool.OtherKeys = ⊥
IsJoinFault Tool.KeysInUse = ⊥
IsJoinFault Tool.ImageThere = ⊥
IsJoinFault Tool.OtherImage = ⊥
IsJoinFault Tool.KeysGone = ⊥
IsJoinFault Tool.OwnFile = ⊥
IsJoinFault PatternTooLong = ⊥
