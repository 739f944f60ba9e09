-- What a command's root tells of its revision, and why there is none.
use Rattle.std.proofs.Common.{◌≡◌, ℕ, ◌+◌, ◌<◌, ◌≤◌, List, length, map, take, Option, Some, Ok, Err, refl, sym, ap, subst, ◌∙◌, arith}
use Rattle.std.specs.Prelude.{◌↔◌, IsTrue}
use Rattle.std.proofs.lemmas.List.{take_all}
use Rattle.function_leaf.specs.declared.coded.Coded.{Coded}
use Rattle.function_leaf.specs.Coded.{coded_byte}
use Rattle.rope_node.specs.declared.node.NodeId.{NodeId}
use Rattle.rope_node.specs.Table.{Table, IsSound, HasTrueRecords}
use Rattle.rope_node.specs.Balance.{IsBalancedRope}
use Rattle.rope_node.specs.Denotes.{Cell, rope_cells, rope_len, IsRope}
use Rattle.node_table.specs.Held.{Held, IsKept, table_of, held_coded}
use Rattle.node_table.specs.declared.fault.NodeFault.TheVariants.{TooLong, TooDeep, TableFull, PoolFull, BadSpan, TooManySources, Memory}
use Rattle.rebalance.specs.declared.fault.BalanceFault.{BalanceFault}
use Rattle.rebalance.specs.declared.fault.BalanceFault.TheVariants.{TooManyPieces, Node}
use Rattle.span_certificate.specs.declared.making.MakeFault.{MakeFault}
use Rattle.command_parts.specs.declared.part.Part.{Part}
use Rattle.span_certificate.specs.declared.row.Row.{Row}
use Rattle.command_parts.specs.Commands.{FullEdit, full_edit, result_of, with_splices}
use Rattle.span_certificate.specs.Covers.{CoversAlways, MeetsNoSource, rows_len}
use Rattle.span_certificate.specs.Longest.{AreLongest, AreMade, IsCutShort}
use Rattle.span_certificate.specs.declared.making.TheConstants.{ROWS_LIMIT}
use Rattle.command_parts.specs.Parts.{len_of, root_at, parts_cells, parts_of, AreRopes, IsInRange, givens_of}
use Rattle.command_parts.proofs.InRange.{in_range}
use Rattle.command_parts.proofs.Joined.{parts_joined}
use Rattle.span_certificate.proofs.Kept.{are_ropes_kept}
use Rattle.edit_commands.specs.declared.command.Command.{Command}
use Rattle.edit_commands.specs.declared.command.Command.TheVariants.{New, Many}
use Rattle.command_parts.specs.declared.edit.TheConstants.{SPLICES_LIMIT}
use Rattle.command_parts.specs.declared.edit.Splice.{Splice}
use Rattle.edit_commands.specs.Refusals.{changes_of}
use Rattle.edit_commands.specs.Terms.{handed, command_terms}
use Rattle.edit_commands.proofs.HandedChanges.{placed_count}
use Rattle.edit_commands.specs.declared.fault.EditFault.{EditFault}
use Rattle.edit_commands.specs.declared.revision.Revision.{Revision}
use Rattle.edit_commands.specs.Applying.{Keeps, RowsPass, TermRefused, IsLaterFault, IsMadeBy, Revises, behind, within}
use Rattle.edit_commands.specs.Building.{ChainsTerms, GoesOn, IsMetFault, IsRootFor, BuildsCommand, StandEach, command_with, edit_with, placed_changes, splices_with}
use Rattle.edit_commands.specs.Codes.{rope_fault, rows_fault}
use Rattle.edit_commands.specs.Session.{command_of, roots_of, rows_held, splices_held, NamesThese, IsCertified, IsRevision, AreRevisions}
use Rattle.edit_commands.proofs.RevisionLists.{are_ropes}
use Rattle.edit_commands.proofs.KeptRevisions.{WentOn, revisions_kept, root_cells_kept}

pub went_on : (old new : Held Coded) → IsSound (table_of coded_byte old) → HasTrueRecords (table_of coded_byte old) → IsKept coded_byte old → GoesOn old new → WentOn old new
went_on old new s h k on = record { sound = s; true_records = h; slots = k.functions; kept = on.kept; functions = on.functions }

-- what a command says does not depend on the splices before its own
says_so : (places : List ℕ) (first : ℕ) (command : Command) → with_splices (splices_with places command) (edit_with places first command) ≡ command_with places command
says_so places first (Many r changes bytes) = refl
says_so places first New = refl
says_so places first _ = refl

-- it names its own, each change with its place
names_so : (old pool : List ℕ) (t : Table) (roots : List (Option NodeId)) (places : List ℕ) (first : ℕ) (command : Command) → StandEach old pool (handed (command_terms t roots command)) places → NamesThese first (splices_with places command) (edit_with places first command)
names_so old pool t roots places first (Many r changes bytes) stand = (refl, sym (placed_count old pool (root_at roots r) (len_of t roots r) changes.now bytes.now places stand))
names_so old pool t roots places first _ stand = refl

-- how many splices a command has
pub splice_count : (old pool : List ℕ) (t : Table) (roots : List (Option NodeId)) (places : List ℕ) (command : Command) → StandEach old pool (handed (command_terms t roots command)) places → length (changes_of command) ≡ length (splices_with places command)
splice_count old pool t roots places (Many r changes bytes) stand = sym (placed_count old pool (root_at roots r) (len_of t roots r) changes.now bytes.now places stand)
splice_count old pool t roots places _ stand = refl

-- over its own splices it says the same
pub own_edit : (places : List ℕ) (command : Command) → length (changes_of command) ≡ length (splices_with places command) → full_edit (splices_with places command) (edit_with places 0 command) ≡ command_with places command
own_edit places (Many r changes bytes) many =
    let splices = placed_changes changes.now places in
    ap (λ (ss : List Splice). FullEdit.Many r ss) (ap (λ (n : ℕ). take n splices) many ∙ take_all (length splices) splices (omega arith))
own_edit places _ many = refl

-- what is met while a root is built, told as a fault of the session
pub later_fault : (old new : Held Coded) (revisions : List Revision) (command : Command) (f : BalanceFault) → IsMetFault f → TermRefused old revisions command f new → IsLaterFault old revisions command (rope_fault f) new
later_fault old new revisions command TooManyPieces met chain = chain
later_fault old new revisions command (Node TableFull) met chain = chain
later_fault old new revisions command (Node PoolFull) met chain = chain
later_fault old new revisions command (Node Memory) met chain = within chain
later_fault old new revisions command (Node TooLong) met chain = absurd met
later_fault old new revisions command (Node TooDeep) met chain = absurd met
later_fault old new revisions command (Node BadSpan) met chain = absurd met
later_fault old new revisions command (Node TooManySources) met chain = absurd met

module _ (old new : Held Coded) (revisions : List Revision) (command : Command) (are : AreRevisions old revisions) (goes : GoesOn old new) (on : WentOn old new) where
  pub keeps_revisions : Keeps (record { held = old; revisions = revisions }) (record { held = new; revisions = revisions })
  keeps_revisions = record { goes_on = goes; cells = root_cells_kept old new on revisions are }

  -- a refusal on the way
  pub revises_not : (f : EditFault) → IsLaterFault old revisions command f new → Revises old revisions command (Err f) new
  revises_not f later = record {
    keeps = keeps_revisions;
    earlier = revisions_kept old new on revisions are;
    is = tt;
    few = tt;
    few_splices = tt;
    fault = later;
  }

  -- the earlier roots are still ropes
  pub ropes_new : AreRopes (table_of coded_byte new) (roots_of revisions)
  ropes_new = are_ropes_kept (table_of coded_byte old) (table_of coded_byte new) on.sound on.true_records on.kept (roots_of revisions) (are_ropes old revisions are)

  module _ (s : IsSound (table_of coded_byte new)) (h : HasTrueRecords (table_of coded_byte new)) (root : Option NodeId) (places : List ℕ) (b : BuildsCommand old revisions command (Ok root) places new) where
    -- the chain, its places being those that were written
    pub terms_so : ChainsTerms old revisions command places (Ok root) new
    terms_so = subst (λ (ps : List ℕ). ChainsTerms old revisions command ps (Ok root) new) b.written b.terms

    -- the recorded command gives the root's cells over those of the earlier roots
    gives_root : result_of (givens_of (table_of coded_byte new)) (map (rope_cells (table_of coded_byte old)) (roots_of revisions)) (command_with places command) ≡ Some (rope_cells (table_of coded_byte new) root)
    gives_root = b.gives ∙ ap Some (sym b.builds.text)

    gives_now : result_of (givens_of (table_of coded_byte new)) (map (rope_cells (table_of coded_byte new)) (roots_of revisions)) (command_with places command) ≡ Some (rope_cells (table_of coded_byte new) root)
    gives_now =
        ap (λ (texts : List (List Cell)). result_of (givens_of (table_of coded_byte new)) texts (command_with places command)) (root_cells_kept old new on revisions are) ∙ gives_root

    pub edit_in_range : IsInRange (table_of coded_byte new) (roots_of revisions) (command_with places command)
    edit_in_range = (in_range (table_of coded_byte new) s h (roots_of revisions) (command_with places command) ropes_new).1 (rw gives_now refl)

    pub parts_are_root : parts_cells (table_of coded_byte new) (parts_of (table_of coded_byte new) (roots_of revisions) (command_with places command)) ≡ rope_cells (table_of coded_byte new) root
    parts_are_root =
        let joined = parts_joined (table_of coded_byte new) s h (roots_of revisions) (command_with places command) ropes_new edit_in_range in
        let same : Some (parts_cells (table_of coded_byte new) (parts_of (table_of coded_byte new) (roots_of revisions) (command_with places command))) ≡ Some (rope_cells (table_of coded_byte new) root) = sym joined ∙ gives_now in
        cc

    -- how many splices it has
    pub splices_are : length (changes_of command) ≡ length (splices_with places command)
    splices_are = splice_count old.pool.bytes new.pool.bytes (table_of coded_byte old) (roots_of revisions) places command terms_so.stand

    -- memory was refused behind the root
    pub memory_behind : Revises old revisions command (Err EditFault.Memory) new
    memory_behind = revises_not EditFault.Memory (behind root places terms_so)

    -- more rows than there is room for
    pub rows_pass : (rows : List Row) → AreMade (table_of coded_byte new) (held_coded new) (parts_of (table_of coded_byte new) (roots_of revisions) (command_with places command)) root rows → ROWS_LIMIT ≤ rows_held revisions + length rows
        → (ROWS_LIMIT ≡ rows_held revisions + length rows → rows_len rows < rope_len (table_of coded_byte new) root) → RowsPass old revisions command new
    rows_pass rows made full left = record {
      root = root;
      places = places;
      terms = terms_so;
      result = gives_root;
      rows = rows;
      made = made;
      full = full;
      left = left;
    }

    -- why there are no rows, told as a fault of the session
    pub rows_later : (f : MakeFault) → (f ≡ MakeFault.TooManyRows → IsCutShort (table_of coded_byte new) (held_coded new) (parts_of (table_of coded_byte new) (roots_of revisions) (command_with places command)) root) → IsLaterFault old revisions command (rows_fault f) new
    rows_later MakeFault.TooManyRows cut =
        let (rows, made, many, left) = cut refl in
        rows_pass rows made (omega (arith, many)) (λ full. left)
    rows_later MakeFault.Memory cut = behind root places terms_so

    -- the revision
    pub revises_so : (made : Revision) → made.edit ≡ edit_with places (splices_held revisions) command → made.splices.items ≡ splices_with places command → made.root ≡ root
        → (IsTrue made.mark ↔ IsBalancedRope (table_of coded_byte new) made.root) → CoversAlways (table_of coded_byte new) (held_coded new) (parts_of (table_of coded_byte new) (roots_of revisions) (command_with places command)) made.root made.rows.items
        → MeetsNoSource (table_of coded_byte new) (parts_of (table_of coded_byte new) (roots_of revisions) (command_with places command)) made.root made.rows.items
        → AreLongest (table_of coded_byte new) (parts_of (table_of coded_byte new) (roots_of revisions) (command_with places command)) made.root made.rows.items
        → rows_held revisions + length made.rows.items ≤ ROWS_LIMIT → splices_held revisions + length made.splices.items ≤ SPLICES_LIMIT → Revises old revisions command (Ok made) new
    revises_so made is_edit is_splices is_root mark rows none longest few few_splices =
        let t = table_of coded_byte new in
        let says : command_of made ≡ command_with places command = rw (is_splices, is_edit) (says_so places (splices_held revisions) command) in
        let behind_them : parts_of t (roots_of revisions) (command_with places command) ≡ parts_of t (roots_of revisions) (command_of made) = ap (parts_of t (roots_of revisions)) (sym says) in
        let certified : IsCertified new revisions made.edit made.splices.items made.root made.rows.items = record {
          range = subst (IsInRange t (roots_of revisions)) (sym says) edit_in_range;
          names = rw (is_splices, is_edit) (names_so old.pool.bytes new.pool.bytes (table_of coded_byte old) (roots_of revisions) places (splices_held revisions) command terms_so.stand);
          root = subst (IsRope t) (sym is_root) b.builds.is_rope;
          rows = subst (λ (ps : List Part). CoversAlways t (held_coded new) ps made.root made.rows.items) behind_them rows;
          no_source = subst (λ (ps : List Part). MeetsNoSource t ps made.root made.rows.items) behind_them none;
        } in
        let revision : IsRevision new revisions made = record {
          certified = certified;
          mark = mark;
          longest = subst (λ (ps : List Part). AreLongest t ps made.root made.rows.items) behind_them longest;
        } in
        let by : IsMadeBy old revisions command made new = record {
          places = places;
          terms = subst (λ (r : Option NodeId). ChainsTerms old revisions command places (Ok r) new) (sym is_root) terms_so;
          edit = is_edit;
          splices = is_splices;
          result = ap (result_of (givens_of t) (map (rope_cells (table_of coded_byte old)) (roots_of revisions))) says ∙ gives_root ∙ ap (λ (r : Option NodeId). Some (rope_cells t r)) (sym is_root);
          root = subst (IsRootFor t (roots_of revisions) command) (sym is_root) b.root;
        } in
        record {
          keeps = keeps_revisions;
          earlier = revisions_kept old new on revisions are;
          is = (revision, by);
          few = few;
          few_splices = few_splices;
          fault = tt;
        }

-- the longest rows that cover are made
pub made_of_covers : (h : Held Coded) (parts : List Part) (root : Option NodeId) (rows : List Row) → CoversAlways (table_of coded_byte h) (held_coded h) parts root rows → MeetsNoSource (table_of coded_byte h) parts root rows
    → AreLongest (table_of coded_byte h) parts root rows → AreMade (table_of coded_byte h) (held_coded h) parts root rows
made_of_covers h parts root rows covers none longest = record {
  fit = λ source. (covers source).fit;
  no_source = none;
  longest = longest;
  in_root = omega (arith, (covers (λ k p. 0)).whole_root);
}
