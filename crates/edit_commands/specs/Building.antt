-- What a chain of terms builds, and the root that a command gives.
use Rattle.std.specs.Prelude.{◌≡◌, ℕ, ◌≤◌, List, [], ◌∷◌, length, map, get_or, Option, Some, None, Result, IfOk, IfErr}
use Rattle.function_leaf.specs.declared.coded.Coded.{Coded}
use Rattle.function_leaf.specs.Coded.{coded_byte}
use Rattle.rope_node.specs.declared.node.NodeId.{NodeId}
use Rattle.rope_node.specs.Table.{Table}
use Rattle.rope_node.specs.Denotes.{Cell, rope_cells, IsRope}
use Rattle.rope_node.specs.Extends.{Extends}
use Rattle.node_table.specs.declared.fault.NodeFault.TheVariants.{TableFull, PoolFull, Memory}
use Rattle.node_table.specs.Held.{Held, table_of, KeepsFunctions}
use Rattle.rebalance.specs.declared.fault.BalanceFault.{BalanceFault}
use Rattle.rebalance.specs.declared.fault.BalanceFault.TheVariants.{TooManyPieces, Node}
use Rattle.rebalance.specs.AnyForms.{StandInPool}
use Rattle.rebalance.specs.Balancing.{IsNearlyBalanced}
use Rattle.command_parts.specs.declared.edit.Edit.{Edit}
use Rattle.command_parts.specs.declared.edit.Splice.{Splice}
use Rattle.command_parts.specs.Commands.{FullEdit, result_of, with_splices}
use Rattle.command_parts.specs.Parts.{givens_of, root_at}
use Rattle.edit_commands.specs.declared.command.Change.{Change}
use Rattle.edit_commands.specs.declared.command.Command.{Command}
use Rattle.edit_commands.specs.declared.command.Command.TheVariants.{New, Open, Insert, Delete, Replace, Paste, Join, Cut, Fill, Back, Balance, Many}
use Rattle.edit_commands.specs.declared.revision.Revision.{Revision}
use Rattle.edit_commands.specs.Session.{roots_of}
use Rattle.edit_commands.specs.Terms.{Chain, handed, command_terms, terms_cells}

-- what was there is kept, and the sources are the same
pub record GoesOn (old new : Held Coded) : Type 0 where
  pub kept : Extends (table_of coded_byte old) (table_of coded_byte new)
  pub functions : KeepsFunctions old new
  pub sources : new.sources ≡ old.sources

-- only a full table or pool, too many pieces and want of memory are met on the way
abbrev pub IsMetFault : BalanceFault → Type 0
IsMetFault TooManyPieces = Unit {0}
IsMetFault (Node TableFull) = Unit {0}
IsMetFault (Node PoolFull) = Unit {0}
IsMetFault (Node Memory) = Unit {0}
IsMetFault _ = ⊥

-- a rope of these cells is built, or a limit was met
pub record Builds (old : Held Coded) (wanted : List Cell) (result : Result (Option NodeId) BalanceFault)
    (new : Held Coded) : Type 0 where
  pub is_rope : IfOk result (λ r. IsRope (table_of coded_byte new) r)
  pub text : IfOk result (λ r. rope_cells (table_of coded_byte new) r ≡ wanted)
  pub goes_on : GoesOn old new
  pub fault : IfErr result IsMetFault

-- ---- bytes handed in

-- the place that bytes got in a pool: none have place 0, and others stand there, at no place of the older pool
pub record ArePutAt (old pool : List ℕ) (bytes : List ℕ) (a : ℕ) : Type 0 where
  pub none : length bytes ≡ 0 → a ≡ 0
  pub some : 1 ≤ length bytes → (length old ≤ a) × StandInPool pool a bytes

-- so the places that each of several got
abbrev pub StandEach : List ℕ → List ℕ → List (List ℕ) → List ℕ → Type 0
StandEach old pool [] [] = Unit {0}
StandEach old pool (bytes ∷ others) (a ∷ places) = ArePutAt old pool bytes a × StandEach old pool others places
StandEach old pool _ _ = ⊥

-- the command as it is recorded, where these are the places of the bytes that it hands in, its splices behind so many
-- others
abbrev pub edit_with : List ℕ → ℕ → Command → Edit
edit_with places first New = Edit.New
edit_with places first (Open s) = Edit.Open s
edit_with places first (Insert r p bytes) = Edit.Insert r p (get_or places 0 0) (length bytes.now)
edit_with places first (Delete r p n) = Edit.Delete r p n
edit_with places first (Replace r p m bytes) = Edit.Replace r p m (get_or places 0 0) (length bytes.now)
edit_with places first (Paste r p q i n) = Edit.Paste r p q i n
edit_with places first (Join r q) = Edit.Join r q
edit_with places first (Cut r i n) = Edit.Cut r i n
edit_with places first (Fill r p c n) = Edit.Fill r p c n
edit_with places first (Back r) = Edit.Back r
edit_with places first (Balance r) = Edit.Balance r
edit_with places first (Many r changes bytes) = Edit.Many r first (length changes.now)

-- each change with the place of its bytes
abbrev pub placed_changes : List Change → List ℕ → List Splice
placed_changes (c ∷ changes) (a ∷ places) =
    record { p = c.p; m = c.m; a = a; n = c.n } ∷ placed_changes changes places
placed_changes _ _ = []

-- the splices of a command; one that hands in no changes has none
abbrev pub splices_with : List ℕ → Command → List Splice
splices_with places (Many r changes bytes) = placed_changes changes.now places
splices_with places _ = []

-- what the recorded command says
abbrev pub command_with : List ℕ → Command → FullEdit
command_with places command = with_splices (splices_with places command) (edit_with places 0 command)

-- what a command says of its root beside the text: Back gives the very root of the revision, Balance one whose length
-- is at least the Fibonacci number at its depth and one
abbrev pub IsRootFor : Table → List (Option NodeId) → Command → Option NodeId → Type 0
IsRootFor t roots (Back r) root = root ≡ root_at roots r
IsRootFor t roots (Balance r) root = IsNearlyBalanced t root
IsRootFor t roots _ root = Unit {0}

-- ---- commands

-- The terms of a command were put one behind the other, and this is the answer; where it is a root, the bytes that the
-- terms hand in stand new at these places.
pub record ChainsTerms (old : Held Coded) (revisions : List Revision) (command : Command) (places : List ℕ)
    (result : Result (Option NodeId) BalanceFault) (new : Held Coded) : Type 0 where
  pub chain : Chain (command_terms (table_of coded_byte old) (roots_of revisions) command) old None places result new
  pub stand : IfOk result (λ _. StandEach old.pool.bytes new.pool.bytes
      (handed (command_terms (table_of coded_byte old) (roots_of revisions) command)) places)

-- The command's terms are put one behind the other. A root that this gives has the terms' cells, which are what the
-- recorded command gives of those of the earlier roots.
pub record BuildsCommand (old : Held Coded) (revisions : List Revision) (command : Command)
    (result : Result (Option NodeId) BalanceFault) (places : List ℕ) (new : Held Coded) : Type 0 where
  pub placed : List ℕ
  pub terms : ChainsTerms old revisions command placed result new
  pub written : IfOk result (λ _. placed ≡ places)
  pub builds : Builds old
      (terms_cells (table_of coded_byte old) (command_terms (table_of coded_byte old) (roots_of revisions) command))
      result new
  pub gives : IfOk result (λ root. result_of (givens_of (table_of coded_byte new))
      (map (rope_cells (table_of coded_byte old)) (roots_of revisions)) (command_with places command)
      ≡ Some (terms_cells (table_of coded_byte old)
      (command_terms (table_of coded_byte old) (roots_of revisions) command)))
  pub root : IfOk result (λ root. IsRootFor (table_of coded_byte new) (roots_of revisions) command root)
