-- What a command does to a session: what it makes, why it is refused on the way, and what a refusal keeps.
use Rattle.std.specs.Prelude.{◌≡◌, ℕ, ◌+◌, ◌<◌, ◌≤◌, List, [], ◌∷◌, ◌++◌, length, map, Option, Some, None, Result, Ok, Err, IfOk, IfErr, OnErr}
use Rattle.function_leaf.specs.declared.coded.Coded.{Coded}
use Rattle.function_leaf.specs.Coded.{coded_byte}
use Rattle.rope_node.specs.declared.node.NodeId.{NodeId}
use Rattle.rope_node.specs.Denotes.{rope_cells, rope_len}
use Rattle.node_table.specs.declared.fault.NodeFault.{NodeFault}
use Rattle.node_table.specs.declared.fault.NodeFault.TheVariants.{TableFull, PoolFull, Memory}
use Rattle.node_table.specs.Held.{Held, table_of, held_coded}
use Rattle.node_table.specs.Puts.{AddsSource}
use Rattle.rebalance.specs.declared.fault.BalanceFault.{BalanceFault}
use Rattle.span_certificate.specs.declared.row.Row.{Row}
use Rattle.command_parts.specs.declared.edit.Edit.{Edit}
use Rattle.command_parts.specs.declared.edit.Splice.{Splice}
use Rattle.command_parts.specs.Commands.{result_of, with_splices}
use Rattle.span_certificate.specs.Covers.{rows_len}
use Rattle.span_certificate.specs.Longest.{AreLongest, AreMade}
use Rattle.span_certificate.specs.declared.making.TheConstants.{ROWS_LIMIT}
use Rattle.command_parts.specs.Parts.{givens_of, parts_of}
use Rattle.edit_commands.specs.declared.command.Command.{Command}
use Rattle.edit_commands.specs.declared.fault.EditFault.{EditFault}
use Rattle.edit_commands.specs.declared.revision.Revision.{Revision}
use Rattle.command_parts.specs.declared.edit.TheConstants.{SPLICES_LIMIT}
use Rattle.edit_commands.specs.Building.{ChainsTerms, GoesOn, IsRootFor, command_with, edit_with, splices_with}
use Rattle.edit_commands.specs.Codes.{told}
use Rattle.edit_commands.specs.Refusals.{refusal_of}
use Rattle.edit_commands.specs.Session.{SessionValue, IsRevision, IsSession, AreRevisions, command_of, roots_of, rows_held, splices_held, cells_of}

-- the store goes on where it ended, and the earlier revisions have the cells that they had
pub record Keeps (old new : SessionValue) : Type 0 where
  pub goes_on : GoesOn old.held new.held
  pub cells : cells_of (record { held = new.held; revisions = old.revisions }) ≡ cells_of old

-- ---- refused on the way

-- the first of the command's terms that was refused was refused so
abbrev pub TermRefused : Held Coded → List Revision → Command → BalanceFault → Held Coded → Type 0
TermRefused old revisions command fault new =
    (places : List ℕ) × ChainsTerms old revisions command places (Err fault) new

-- The root that the command gives stands. The longest rows for its first bytes are more than there is room for behind
-- those of the earlier revisions; or they are as many, and text is left.
pub record RowsPass (old : Held Coded) (revisions : List Revision) (command : Command) (new : Held Coded) : Type 0 where
  pub root : Option NodeId
  pub places : List ℕ
  pub terms : ChainsTerms old revisions command places (Ok root) new
  pub result : result_of (givens_of (table_of coded_byte new))
      (map (rope_cells (table_of coded_byte old)) (roots_of revisions)) (command_with places command)
      ≡ Some (rope_cells (table_of coded_byte new) root)
  pub rows : List Row
  pub made : AreMade (table_of coded_byte new) (held_coded new)
      (parts_of (table_of coded_byte new) (roots_of revisions) (command_with places command)) root rows
  pub full : ROWS_LIMIT ≤ rows_held revisions + length rows
  pub left : ROWS_LIMIT ≡ rows_held revisions + length rows → rows_len rows < rope_len (table_of coded_byte new) root

-- memory was refused for the places of the bytes handed in, before the first of the command's terms; to one of them; or
-- to what comes behind the root that they give
pub data WantsMemory (old : Held Coded) (revisions : List Revision) (command : Command) (new : Held Coded)
    : Type 0 where
  before : new ≡ old → WantsMemory old revisions command new
  within : TermRefused old revisions command (BalanceFault.Node Memory) new → WantsMemory old revisions command new
  behind : (root : Option NodeId) (places : List ℕ) → ChainsTerms old revisions command places (Ok root) new
      → WantsMemory old revisions command new

-- what is met on the way: a full table or pool or too many pieces, where the first of the command's terms that is
-- refused is refused so; too many rows; want of memory
abbrev pub IsLaterFault : Held Coded → List Revision → Command → EditFault → Held Coded → Type 0
IsLaterFault old revisions command (EditFault.Node TableFull) new =
    TermRefused old revisions command (BalanceFault.Node TableFull) new
IsLaterFault old revisions command (EditFault.Node PoolFull) new =
    TermRefused old revisions command (BalanceFault.Node PoolFull) new
IsLaterFault old revisions command EditFault.TooManyPieces new =
    TermRefused old revisions command BalanceFault.TooManyPieces new
IsLaterFault old revisions command EditFault.TooManyRows new = RowsPass old revisions command new
IsLaterFault old revisions command EditFault.Memory new = WantsMemory old revisions command new
IsLaterFault old revisions command _ new = ⊥

-- ---- the revision that a command makes

-- its root is what its terms give; its command is recorded, with the places at which its bytes were put into the pool,
-- and its cells are what the command gives
pub record IsMadeBy (old : Held Coded) (revisions : List Revision) (command : Command) (made : Revision)
    (new : Held Coded) : Type 0 where
  pub places : List ℕ
  pub terms : ChainsTerms old revisions command places (Ok made.root) new
  pub edit : made.edit ≡ edit_with places (splices_held revisions) command
  pub splices : made.splices.items ≡ splices_with places command
  pub result : result_of (givens_of (table_of coded_byte new))
      (map (rope_cells (table_of coded_byte old)) (roots_of revisions)) (command_of made)
      ≡ Some (rope_cells (table_of coded_byte new) made.root)
  pub root : IsRootFor (table_of coded_byte new) (roots_of revisions) command made.root

-- a revision to stand behind these, with its rows, or why there is none; these are as before
pub record Revises (old : Held Coded) (revisions : List Revision) (command : Command)
    (result : Result Revision EditFault) (new : Held Coded) : Type 0 where
  pub keeps : Keeps (record { held = old; revisions = revisions }) (record { held = new; revisions = revisions })
  pub earlier : AreRevisions new revisions
  pub is : IfOk result (λ made. IsRevision new revisions made × IsMadeBy old revisions command made new)
  pub few : IfOk result (λ made. rows_held revisions + length made.rows.items ≤ ROWS_LIMIT)
  pub few_splices : IfOk result (λ made. splices_held revisions + length made.splices.items ≤ SPLICES_LIMIT)
  pub fault : IfErr result (λ fault. IsLaterFault old revisions command fault new)

-- One revision more; the earlier ones have the cells that they had, and its own are what its command gives of those.
-- With it, it is a session.
pub record Applies (old : SessionValue) (command : Command) (k : ℕ) (new : SessionValue) : Type 0 where
  pub number : k ≡ length old.revisions
  pub keeps : Keeps old new
  pub made : Revision
  pub revisions : new.revisions ≡ old.revisions ++ made ∷ []
  pub is : IsMadeBy old.held old.revisions command made new.held
  pub session : IsSession new

-- ---- a revision that is known

-- one revision more, of this command, these splices and this root, over the same store; its rows are these where each is
-- the longest
pub record PutsKnown (old : SessionValue) (edit : Edit) (splices : List Splice) (root : Option NodeId) (rows : List Row)
    (new : SessionValue) (k : ℕ) : Type 0 where
  pub number : k ≡ length old.revisions
  pub made : Revision
  pub held : new.held ≡ old.held
  pub revisions : new.revisions ≡ old.revisions ++ made ∷ []
  pub its_edit : made.edit ≡ edit
  pub its_splices : made.splices.items ≡ splices
  pub its_root : made.root ≡ root
  pub its_rows : AreLongest (table_of coded_byte old.held) (parts_of (table_of coded_byte old.held)
      (roots_of old.revisions) (with_splices splices edit)) root rows → made.rows.items ≡ rows

-- there are more rows than there may be: these are too many, or not the longest
abbrev pub PassRows : SessionValue → Edit → List Splice → Option NodeId → List Row → Type 0
PassRows old edit splices root rows =
    AreLongest (table_of coded_byte old.held) (parts_of (table_of coded_byte old.held)
    (roots_of old.revisions) (with_splices splices edit)) root rows
    → ROWS_LIMIT < rows_held old.revisions + length rows

-- The longest rows for the first bytes of a root that is known are more than there is room for behind those of the
-- earlier revisions; or they are as many, and text is left.
pub record KnownRowsPass (old : SessionValue) (edit : Edit) (splices : List Splice) (root : Option NodeId) : Type 0 where
  pub rows : List Row
  pub made : AreMade (table_of coded_byte old.held) (held_coded old.held) (parts_of (table_of coded_byte old.held)
      (roots_of old.revisions) (with_splices splices edit)) root rows
  pub full : ROWS_LIMIT ≤ rows_held old.revisions + length rows
  pub left : ROWS_LIMIT ≡ rows_held old.revisions + length rows
      → rows_len rows < rope_len (table_of coded_byte old.held) root

-- ---- sources

-- a source more, or a refusal as the store's, which changes nothing; every revision's cells are as before
pub record AddsSourceOrNot (old : SessionValue) (len : ℕ) (result : Result ℕ EditFault) (new : SessionValue)
    : Type 0 where
  pub plain : Result ℕ NodeFault
  pub adds : AddsSource coded_byte old.held len plain new.held
  pub told : result ≡ told plain
  pub revisions : new.revisions ≡ old.revisions
  pub cells : cells_of new ≡ cells_of old

-- ---- the whole

-- A command is refused for the first reason that there is, and nothing changes; where there is none it makes its
-- revision, or meets a limit on the way, and every earlier revision is as before.
pub record AppliesOrNot (old : SessionValue) (command : Command) (result : Result ℕ EditFault) (new : SessionValue)
    : Type 0 where
  pub made : IfOk result (λ k. Applies old command k new)
  pub refused : (f : EditFault) → refusal_of old command ≡ Some f → (result ≡ Err f) × (new ≡ old)
  pub later : refusal_of old command ≡ None → IfErr result (λ f. IsLaterFault old.held old.revisions command f new.held)
  pub kept : OnErr result (Keeps old new × (new.revisions ≡ old.revisions))
