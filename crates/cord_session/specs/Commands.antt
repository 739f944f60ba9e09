-- The numbers of commands, and of their refusals.
use Rattle.std.specs.Prelude.{ℕ, ◌==◌, ◌&&◌, if◌then◌else◌, length, Option, Some, None}
use Rattle.std.specs.List.{sum_by}
use Rattle.command_parts.specs.declared.codes.TheConstants.{NEW, OPEN, INSERT, DELETE, REPLACE, PASTE, JOIN, CUT, FILL, BACK, BALANCE, MANY}
use Rattle.edit_commands.specs.declared.command.Command.{Command}
use Rattle.edit_commands.specs.declared.command.Command.TheVariants.{New, Open, Insert, Delete, Replace, Paste, Join, Cut, Fill, Back, Balance, Many}
use Rattle.edit_commands.specs.declared.fault.EditFault.{EditFault}
use Rattle.edit_commands.specs.declared.fault.EditFault.TheVariants.{NoRevision, NoSource, Range, EmptyText, TooManyRevisions, TooManyRows, Node, TooManyPieces, SpliceCount, TooManySplices, Memory}
use Rattle.cord_store.specs.Numbers.{node_number}
use Rattle.cord_store.specs.declared.codes.TheConstants.{MANY_PIECES, MEMORY, RANGE}
use Rattle.cord_session.specs.declared.commands.CordCommand.{CordCommand}
use Rattle.cord_session.specs.declared.codes.TheConstants.{EMPTY_TEXT, MANY_REVISIONS, MANY_ROWS, MANY_SPLICES, NO_REVISION, NO_SOURCE, SPLICE_COUNT}

-- the command that these numbers name, where they name one
abbrev pub told_command : CordCommand → Option Command
told_command c =
    if c.code == NEW then Some New
    else if c.code == OPEN then Some (Open c.q)
    else if c.code == INSERT then Some (Insert c.r c.p c.bytes)
    else if c.code == DELETE then Some (Delete c.r c.p c.n)
    else if c.code == REPLACE then Some (Replace c.r c.p c.n c.bytes)
    else if c.code == PASTE then Some (Paste c.r c.p c.q c.i c.n)
    else if c.code == JOIN then Some (Join c.r c.q)
    else if c.code == CUT then Some (Cut c.r c.i c.n)
    else if c.code == FILL then Some (Fill c.r c.p c.byte c.n)
    else if c.code == BACK then Some (Back c.r)
    else if c.code == BALANCE then Some (Balance c.r)
    else if c.code == MANY && sum_by (λ x. x.n) c.changes.now == length c.bytes.now
    then Some (Many c.r c.changes c.bytes)
    else None

-- E1 to E10
abbrev pub edit_number : EditFault → ℕ
edit_number NoRevision = NO_REVISION
edit_number NoSource = NO_SOURCE
edit_number Range = RANGE
edit_number EmptyText = EMPTY_TEXT
edit_number TooManyRevisions = MANY_REVISIONS
edit_number TooManyRows = MANY_ROWS
edit_number (Node fault) = node_number fault
edit_number TooManyPieces = MANY_PIECES
edit_number SpliceCount = SPLICE_COUNT
edit_number TooManySplices = MANY_SPLICES
edit_number Memory = MEMORY
