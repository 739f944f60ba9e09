-- Faults of questions, from those of reads.
use Rattle.std.proofs.Common.{◌≡◌, ℕ, [], Option, refl, sym, ap, subst, ◌∙◌, arith}
use Rattle.function_leaf.specs.declared.coded.Coded.{Coded}
use Rattle.function_leaf.specs.Coded.{coded_byte}
use Rattle.rope_node.specs.declared.node.NodeId.{NodeId}
use Rattle.rope_node.specs.Denotes.{rope_len}
use Rattle.node_table.specs.Held.{Held, table_of}
use Rattle.lazy_file.specs.Readings.{Reading, Reads}
use Rattle.lazy_file.specs.declared.faults.SourceFault.{SourceFault}
use Rattle.cord_position.specs.Fetched.{InCells, rope_cell}
use Rattle.cord_search.specs.Faults.{find_source_fault}
use Rattle.cord_search.specs.declared.fault.FindFault.{FindFault}
use Rattle.cord_search.specs.declared.fault.FindFault.TheVariants as Search
use Rattle.edit_commands.specs.Session.{SessionValue, length_at, session_table}
use Rattle.session_server.specs.declared.fault.AskFault.{AskFault}
use Rattle.session_server.specs.declared.fault.AskFault.TheVariants as Ask
use Rattle.session_server.specs.Answers.{FailsToRead, InBytes, IsAskFault, IsInText, ask_fault, ask_source_fault, revision_root}

-- what fails while bytes of a text are read is told of a question about them
pub as_asked : (v : SessionValue) (r i : ℕ) (e : AskFault) → IsInText v r i → FailsToRead e → IsAskFault v r i [] e
as_asked v r i Ask.NoRevision there h = absurd h
as_asked v r i Ask.Range there h = absurd h
as_asked v r i Ask.PatternTooLong there h = absurd h
as_asked v r i (Ask.Source fault) there h = record { place = there; short = omega arith }
as_asked v r i Ask.Memory there h = record { place = there; short = omega arith }

-- a search's source fault is that of the question
same_source : (e : FindFault) → ask_source_fault (ask_fault e) ≡ find_source_fault e
same_source Search.PatternTooLong = refl
same_source (Search.Source fault) = refl
same_source Search.Memory = refl

-- what a search that failed has read of a rope that is a revision's
pub searched_there : (v : SessionValue) (r i : ℕ) (held : Held Coded) (root : Option NodeId) (before after : Reading) (e : FindFault) (a : AskFault)
    → held ≡ v.held → root ≡ revision_root v r → a ≡ ask_fault e
    → Reads before after (InCells (rope_cell (table_of coded_byte held) root) i (rope_len (table_of coded_byte held) root)) (find_source_fault e)
    → Reads before after (InBytes v r i (length_at v r)) (ask_source_fault a)
searched_there v r i held root before after e a same is told reads =
    let here = subst (λ (h : Held Coded). Reads before after (InCells (rope_cell (table_of coded_byte h) root) i (rope_len (table_of coded_byte h) root)) (find_source_fault e)) same reads in
    let there = subst (λ (o : Option NodeId). Reads before after (InCells (rope_cell (session_table v) o) i (rope_len (session_table v) o)) (find_source_fault e)) is here in
    subst (λ (o : Option SourceFault). Reads before after (InBytes v r i (length_at v r)) o) (sym (ap ask_source_fault told ∙ same_source e)) there
