-- Sessions before and behind a call.
use Rattle.std.proofs.Common.{◌≡◌, ℕ, ◌+◌, ◌<◌, ◌≤◌, List, [], ◌∷◌, ◌++◌, length, Some, None, Result, Ok, Err, IfOk, IfErr, OnOk, OnErr, refl, sym, subst, ◌∙◌, arith}
use Rattle.std.proofs.lemmas.Bool.{leb-false}
use Rattle.std.proofs.lemmas.List.{length-append}
use Rattle.function_leaf.specs.declared.coded.Coded.{Coded}
use Rattle.function_leaf.specs.Coded.{coded_byte}
use Rattle.rope_node.specs.Table.{IsSound, HasTrueRecords}
use Rattle.node_table.specs.Held.{Held, table_of, IsKept, KeepsFunctions}
use Rattle.node_table.specs.Puts.{AddsSource}
use Rattle.node_table.specs.declared.fault.NodeFault.{NodeFault}
use Rattle.span_certificate.specs.declared.making.TheConstants.{ROWS_LIMIT}
use Rattle.edit_commands.specs.declared.command.Command.{Command}
use Rattle.edit_commands.specs.declared.fault.EditFault.{EditFault}
use Rattle.edit_commands.specs.declared.revision.Revision.{Revision}
use Rattle.command_parts.specs.declared.edit.TheConstants.{SPLICES_LIMIT}
use Rattle.command_parts.specs.declared.edit.TheConstants.{MOST_REVISIONS}
use Rattle.edit_commands.specs.Applying.{Keeps, IsMadeBy, AppliesOrNot, AddsSourceOrNot, Revises, behind}
use Rattle.edit_commands.specs.Codes.{told}
use Rattle.edit_commands.specs.Refusals.{refusal_of}
use Rattle.edit_commands.specs.Session.{SessionValue, rows_held, splices_held, IsRevision, AreRevisions, IsSession}
use Rattle.edit_commands.proofs.KeptRevisions.{WentOn, root_cells_kept}
use Rattle.edit_commands.proofs.RevisionLists.{one_more, rows_more, splices_more}
use Rattle.edit_commands.proofs.Accepted.{passes}

-- a command that is not refused finds room for a revision, and for its splices
pub not_full : (v : SessionValue) (command : Command) → refusal_of v command ≡ None → length v.revisions < MOST_REVISIONS
not_full v command none = leb-false MOST_REVISIONS (length v.revisions) (passes v command none).room

-- a session whose store went on is one
pub session_kept : (old : SessionValue) (new : Held Coded) → IsSession old → AreRevisions new old.revisions → IsSession (record { held = new; revisions = old.revisions })
session_kept old new is earlier = record { each = earlier; few = is.few; few_rows = is.few_rows; few_splices = is.few_splices }

-- with one revision more it is one
pub session_more : (h : Held Coded) (revisions : List Revision) (made : Revision) → AreRevisions h revisions → IsRevision h revisions made → length revisions < MOST_REVISIONS → rows_held revisions + length made.rows.items ≤ ROWS_LIMIT → splices_held revisions + length made.splices.items ≤ SPLICES_LIMIT
    → IsSession (record { held = h; revisions = revisions ++ made ∷ [] })
session_more h revisions made are is few rows splices = record {
  each = one_more h revisions made are is;
  few = omega (arith, few, length-append revisions (made ∷ []));
  few_rows = rw rows_more rows;
  few_splices = rw splices_more splices;
}

-- a command that made its revision
pub applies_so : (held : Held Coded) (revisions : List Revision) (command : Command) (made : Revision) (new : Held Coded) → refusal_of (record { held = held; revisions = revisions }) command ≡ None
    → Revises held revisions command (Ok made) new
    → AppliesOrNot (record { held = held; revisions = revisions }) command (Ok (length revisions)) (record { held = new; revisions = revisions ++ made ∷ [] })
applies_so held revisions command made new none h = record {
  made = record {
    number = refl;
    keeps = record { goes_on = h.keeps.goes_on; cells = h.keeps.cells };
    made = made;
    revisions = refl;
    is = h.is.1;
    session = session_more new revisions made h.earlier h.is.0 (not_full (record { held = held; revisions = revisions }) command none) h.few h.few_splices;
  };
  refused = λ g is. let bad : None ≡ Some g = sym none ∙ is in absurd cc;
  later = λ same. tt;
  kept = tt;
}

-- memory was refused for the place of the revision that it made
pub applies_not : (held : Held Coded) (revisions : List Revision) (command : Command) (made : Revision) (new : Held Coded) → refusal_of (record { held = held; revisions = revisions }) command ≡ None
    → Keeps (record { held = held; revisions = revisions }) (record { held = new; revisions = revisions }) → IsMadeBy held revisions command made new
    → AppliesOrNot (record { held = held; revisions = revisions }) command (Err EditFault.Memory) (record { held = new; revisions = revisions })
applies_not held revisions command made new none keeps by = record {
  made = tt;
  refused = λ g is. let bad : None ≡ Some g = sym none ∙ is in absurd cc;
  later = λ same. behind made.root by.places by.terms;
  kept = (record { goes_on = keeps.goes_on; cells = keeps.cells }, refl);
}

-- a revision that a command makes is put behind the others, or there is no memory for it
pub puts_so : (held : Held Coded) (revisions : List Revision) (command : Command) (made : Revision) (new : Held Coded) (result : Result ℕ EditFault) (later : SessionValue) → refusal_of (record { held = held; revisions = revisions }) command ≡ None
    → Revises held revisions command (Ok made) new → IfOk result (λ k. k ≡ length revisions) → OnOk result (later ≡ record { held = new; revisions = revisions ++ made ∷ [] })
    → IfErr result (λ fault. fault ≡ EditFault.Memory) → OnErr result (later ≡ record { held = new; revisions = revisions })
    → AppliesOrNot (record { held = held; revisions = revisions }) command result later
puts_so held revisions command made new (Ok k) later none is number ok fault err = rw (number, ok) (applies_so held revisions command made new none is)
puts_so held revisions command made new (Err e) later none is number ok fault err = rw (fault, err) (applies_not held revisions command made new none is.keeps is.is.1)

-- ---- a source more

-- the store went on
pub went_on_source : (old new : Held Coded) (len : ℕ) (plain : Result ℕ NodeFault) → IsSound (table_of coded_byte old) → HasTrueRecords (table_of coded_byte old) → IsKept coded_byte old → AddsSource coded_byte old len plain new → WentOn old new
went_on_source old new len plain s h k adds = record { sound = s; true_records = h; slots = k.functions; kept = adds.kept; functions = same_functions plain adds }
  where
    same_functions : (plain : Result ℕ NodeFault) → AddsSource coded_byte old len plain new → KeepsFunctions old new
    same_functions (Ok n) adds = subst (λ (h : Held Coded). KeepsFunctions old h) (sym adds.ok) (record { same = λ id lt. refl; more = omega arith })
    same_functions (Err f) adds = subst (λ (h : Held Coded). KeepsFunctions old h) (sym adds.err) (record { same = λ id lt. refl; more = omega arith })

pub adds_source : (old new : Held Coded) (revisions : List Revision) (len : ℕ) (plain : Result ℕ NodeFault) (result : Result ℕ EditFault) → WentOn old new → AreRevisions old revisions → AddsSource coded_byte old len plain new → result ≡ told plain
    → AddsSourceOrNot (record { held = old; revisions = revisions }) len result (record { held = new; revisions = revisions })
adds_source old new revisions len plain result on are adds is = record {
  plain = plain;
  adds = adds;
  told = is;
  revisions = refl;
  cells = root_cells_kept old new on revisions are;
}
