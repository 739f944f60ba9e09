-- Why there is no first revision.
use Rattle.command_parts.specs.declared.part.Part.TheVariants.{Source as Whole}
use Rattle.std.proofs.Common.{◌≡◌, ℕ, zero, suc, ◌<◌, ◌≤◌, inl, inr, List, [], ◌∷◌, length, get_or, Err, Ok, Result, Option, Some, None, refl, ap, subst, arith, ◌∙◌}
use Rattle.std.proofs.lemmas.Bool.{lt-leb, lt-ltb}
use Rattle.function_leaf.specs.declared.coded.Coded.{Coded}
use Rattle.function_leaf.specs.Coded.{coded_byte}
use Rattle.rope_node.specs.declared.limits.TheConstants.{MOST_SOURCES, TEXT_LIMIT}
use Rattle.rope_node.specs.declared.node.NodeId.{NodeId}
use Rattle.rope_node.specs.Table.{Table, view_at, len_at, IsLeaf}
use Rattle.node_table.specs.declared.fault.NodeFault.{NodeFault}
use Rattle.node_table.specs.Held.{Held, table_of, held_coded}
use Rattle.node_table.specs.Puts.{AddsSource}
use Rattle.rope_store.specs.Additions.{after, source_added}
use Rattle.rope_store.specs.Calls.{MakesSource}
use Rattle.rebalance.specs.declared.fault.BalanceFault.{BalanceFault}
use Rattle.rebalance.specs.declared.fault.BalanceFault.TheVariants.{TooManyPieces, Node}
use Rattle.rebalance.specs.AnyForms.{lifted}
use Rattle.lazy_file.specs.declared.sources.TheConstants.{SOURCE_LIMIT}
use Rattle.span_certificate.specs.declared.row.Row.{Row}
use Rattle.span_certificate.specs.Longest.{AreMade}
use Rattle.command_parts.specs.Parts.{nonempty}
use Rattle.span_certificate.proofs.OneRow.{one_source_row}
use Rattle.edit_commands.specs.declared.fault.EditFault.{EditFault}
use Rattle.edit_commands.specs.declared.fault.EditFault.TheVariants as Edit
use Rattle.edit_commands.specs.declared.term.Piece.TheVariants.{Source}
use Rattle.edit_commands.specs.Applying.{AddsSourceOrNot, AppliesOrNot, IsLaterFault, RowsPass, TermRefused}
use Rattle.edit_commands.specs.Building.{ChainsTerms}
use Rattle.edit_commands.specs.Codes.{node_fault, told}
use Rattle.edit_commands.specs.Refusals.{refusal_of}
use Rattle.edit_commands.specs.Session.{SessionValue}
use Rattle.edit_commands.specs.Terms.{Taken, Chain, done, next, refused}
use Rattle.screen_editor.specs.declared.workspace.TheConstants.{LONGEST_TEXT}
use Rattle.screen_editor.specs.Opening.{HoldsOnly}
use Rattle.screen_editor.specs.Refusals.{first_command}
use Rattle.edit_commands.proofs.BuiltCommands.{alone}

-- a source that may be added is refused for memory alone
pub only_memory : (old new : SessionValue) (len : ℕ) (f : EditFault) → length old.held.sources < MOST_SOURCES → len ≤ SOURCE_LIMIT → AddsSourceOrNot old len (Err f) new → f ≡ Edit.Memory
only_memory old new len f few short h = of_plain h.plain h.told h.adds
  where
    of_plain : (plain : Result ℕ NodeFault) → Err f ≡ told plain → AddsSource coded_byte old.held len plain new.held → f ≡ Edit.Memory
    of_plain (Ok s) e adds = absurd cc
    of_plain (Err fault) e adds = elim adds.faults [
      | inl many ↦ absurd (omega (arith, few, adds.too_many.0 (ap Err many)))
      | inr (inl long) ↦ absurd (omega (arith, short, (adds.too_long.0 (ap Err long)).1))
      | inr (inr memory) ↦ (let is : node_fault fault ≡ Edit.Memory = ap node_fault memory in cc)
    ]

-- the first command is not refused before any change
none_refused : (v : SessionValue) (sizes : List ℕ) → v.held.sources ≡ sizes → v.revisions ≡ [] → get_or sizes 0 0 ≤ LONGEST_TEXT → refusal_of v (first_command sizes) ≡ None
none_refused v [] is none short = rw none refl
none_refused v (n ∷ sizes) is none short = rw (is, none, lt-leb (suc (length sizes)) 0 (omega arith), lt-leb TEXT_LIMIT n (omega (arith, short))) refl

-- ---- met on the way

few_records : (t : Table) (n : ℕ) → length (source_added {F = Coded} t 0 0 n).records ≤ 1
few_records t zero = omega arith
few_records t (suc n) = omega arith

no_bytes : (t : Table) (n : ℕ) → (source_added {F = Coded} t 0 0 n).bytes ≡ []
no_bytes t zero = refl
no_bytes t (suc n) = refl

-- a rope of n bytes that is one leaf, or has no node
abbrev pub IsOneLeaf : Table → ℕ → Option NodeId → Type 0
IsOneLeaf t n None = n ≡ 0
IsOneLeaf t n (Some x) = IsLeaf (view_at t x.0) × (len_at t x.0 ≡ n) × (1 ≤ n)

-- a whole source as the first node is so
source_leaf : (old : Held Coded) (n : ℕ) → old.nodes ≡ [] → IsOneLeaf (table_of coded_byte (after old (source_added (table_of coded_byte old) 0 0 n))) n (source_added {F = Coded} (table_of coded_byte old) 0 0 n).rope
source_leaf old zero none = refl
source_leaf old (suc n) none = rw none (tt, refl, omega arith)

-- a fault of the store, and none of a full table or pool
pub record IsOfEmpty (fault : BalanceFault) : Type 0 where
  pub plain : NodeFault
  pub is : fault ≡ Node plain
  pub not_table : ¬ (plain ≡ NodeFault.TableFull)
  pub not_pool : ¬ (plain ≡ NodeFault.PoolFull)

-- an empty table has so much room that no limit is met
term_refused : (sizes : List ℕ) (old new : Held Coded) (fault : BalanceFault) → old.nodes ≡ [] → old.pool.bytes ≡ [] → TermRefused old [] (first_command sizes) fault new → IsOfEmpty fault
term_refused [] old new fault no_node no_byte h = of_chain h.1.chain
  where
    of_chain : {places : List ℕ} → Chain [] old None places (Err fault) new → IsOfEmpty fault
    of_chain (done is same) = absurd cc
term_refused (n ∷ sizes) old new fault no_node no_byte h = of_chain h.1.chain
  where
    len : ℕ
    len = get_or old.sources 0 0

    of_plain : (between : Held Coded) (plain : Result (Option NodeId) NodeFault) → MakesSource coded_byte old 0 0 len plain between → Err fault ≡ lifted plain → IsOfEmpty fault
    of_plain between (Ok rope) makes is = absurd cc
    of_plain between (Err f) makes is = record {
      plain = f;
      is = cc;
      not_table = λ full. (let p = makes.refuses.table_full.0 (ap Err full) in
          let records = few_records (table_of coded_byte old) len in let nodes = ap length no_node in omega (arith, p.1, records, nodes));
      not_pool = λ full. (let p = makes.refuses.pool_full.0 (ap Err full) in
          let bytes = ap length (no_bytes (table_of coded_byte old) len) in let pool = ap length no_byte in omega (arith, p.1, bytes, pool));
    }

    of_chain : {places : List ℕ} → Chain (Taken (Source 0) ∷ []) old None places (Err fault) new → IsOfEmpty fault
    of_chain (next place puts right (done is same) all) = absurd cc
    of_chain (refused {fault = f} puts is) =
        let p = puts.0 in
        let told = p.takes.told in
        let behind = (alone p.made (Err f) p.behind).0 in
        of_plain p.between p.takes.plain p.takes.says (is ∙ behind ∙ told)

-- the root of the first command is one leaf as long as the first source, and the sources are as before
pub record IsOpened (sizes : List ℕ) (new : Held Coded) (root : Option NodeId) : Type 0 where
  pub sources : new.sources ≡ sizes
  pub leaf : IsOneLeaf (table_of coded_byte new) (get_or sizes 0 0) root

root_opened : (sizes : List ℕ) (old new : Held Coded) (root : Option NodeId) (places : List ℕ) → old.sources ≡ sizes → old.nodes ≡ [] → ChainsTerms old [] (first_command sizes) places (Ok root) new → IsOpened sizes new root
root_opened [] old new root places is_sources no_node h = of_chain h.chain
  where
    of_chain : {places : List ℕ} → Chain [] old None places (Ok root) new → IsOpened [] new root
    of_chain (done is same) = (let none : root ≡ None = cc in record { sources = ap (λ (v : Held Coded). v.sources) same ∙ is_sources; leaf = rw none refl })
root_opened (n ∷ sizes) old new root places is_sources no_node h = of_chain h.chain
  where
    of_plain : (between : Held Coded) (plain : Result (Option NodeId) NodeFault) → MakesSource coded_byte old 0 0 n plain between → Ok root ≡ lifted plain → IsOpened (n ∷ sizes) between root
    of_plain between (Ok rope) makes is =
        let same : root ≡ (source_added {F = Coded} (table_of coded_byte old) 0 0 n).rope = (let same_rope = makes.makes.rope in cc) in
        record {
          sources = ap (λ (v : Held Coded). v.sources) makes.makes.table ∙ is_sources;
          leaf = rw (same, makes.makes.table) (source_leaf old n no_node);
        }
    of_plain between (Err f) makes is = absurd cc

    len_is : get_or old.sources 0 0 ≡ n
    len_is = ap (λ (s : List ℕ). get_or s 0 0) is_sources

    of_chain : {places : List ℕ} → Chain (Taken (Source 0) ∷ []) old None places (Ok root) new → IsOpened (n ∷ sizes) new root
    of_chain (next {rope = built} place puts right (done is same) all) =
        let p = puts.0 in
        let behind = alone p.made (Ok built) p.behind in
        let makes = subst (λ (k : ℕ). MakesSource coded_byte old 0 0 k p.takes.plain p.between) len_is p.takes.says in
        rw (same, behind.1) (of_plain p.between p.takes.plain makes (is ∙ behind.0 ∙ p.takes.told))
    of_chain (refused puts is) = absurd cc

-- no part has rows
no_row : (t : Table) (coded : ℕ → Coded) (root : Option NodeId) (rows : List Row) → AreMade t coded [] root rows → length rows ≤ 1
no_row t coded root [] made = omega arith
no_row t coded root (row ∷ rows) made = (let at = (made.fit (λ s p. 0) 0 (omega arith)).at_part in absurd cc)

-- one source has one row at most
one_row : (t : Table) (coded : ℕ → Coded) (n : ℕ) (root : Option NodeId) (rows : List Row) → IsOneLeaf t n root → AreMade t coded (nonempty (Whole 0 n ∷ [])) root rows → length rows ≤ 1
one_row t coded zero root rows leaf made = no_row t coded root rows made
one_row t coded (suc n) None rows leaf made = absurd cc
one_row t coded (suc n) (Some x) rows leaf made =
    one_source_row t coded 0 n x rows leaf.0 (omega (arith, leaf.1)) (rw (lt-ltb 0 (suc n) (omega arith)) at made)

-- so there are never too many
few_rows : (sizes : List ℕ) (old new : Held Coded) → old.sources ≡ sizes → old.nodes ≡ [] → ¬ RowsPass old [] (first_command sizes) new
few_rows [] old new is_sources no_node h =
    let few = no_row (table_of coded_byte new) (held_coded new) h.root h.rows h.made in
    absurd (omega (arith, few, h.full))
few_rows (n ∷ sizes) old new is_sources no_node h =
    let opened = root_opened (n ∷ sizes) old new h.root h.places is_sources no_node h.terms in
    let made = subst (λ (s : List ℕ). AreMade (table_of coded_byte new) (held_coded new) (nonempty (Whole 0 (get_or s 0 0) ∷ [])) h.root h.rows) opened.sources h.made in
    let few = one_row (table_of coded_byte new) (held_coded new) n h.root h.rows opened.leaf made in
    absurd (omega (arith, few, h.full))

-- the call for the first revision met this on the way
pub first_refused : (sizes : List ℕ) (old new : SessionValue) (fault : EditFault) → HoldsOnly sizes old → get_or sizes 0 0 ≤ LONGEST_TEXT → AppliesOrNot old (first_command old.held.sources) (Err fault) new → fault ≡ Edit.Memory
first_refused sizes old new fault only short h =
    let applies = subst (λ (s : List ℕ). AppliesOrNot old (first_command s) (Err fault) new) only.sources h in
    let met : IsLaterFault old.held [] (first_command sizes) fault new.held = rw only.no_revisions at (applies.later (none_refused old sizes only.sources only.no_revisions short)) in
    of_fault fault met
  where
    of_term : (f : BalanceFault) → TermRefused old.held [] (first_command sizes) f new.held → IsOfEmpty f
    of_term f met = term_refused sizes old.held new.held f only.no_nodes only.no_bytes met

    of_fault : (f : EditFault) → IsLaterFault old.held [] (first_command sizes) f new.held → f ≡ Edit.Memory
    of_fault Edit.NoRevision met = absurd met
    of_fault Edit.NoSource met = absurd met
    of_fault Edit.Range met = absurd met
    of_fault Edit.EmptyText met = absurd met
    of_fault Edit.SpliceCount met = absurd met
    of_fault Edit.TooManySplices met = absurd met
    of_fault Edit.TooManyRevisions met = absurd met
    of_fault Edit.TooManyRows met = absurd (few_rows sizes old.held new.held only.sources only.no_nodes met)
    of_fault (Edit.Node NodeFault.TableFull) met = (let p = of_term (Node NodeFault.TableFull) met in absurd (p.not_table cc))
    of_fault (Edit.Node NodeFault.PoolFull) met = (let p = of_term (Node NodeFault.PoolFull) met in absurd (p.not_pool cc))
    of_fault (Edit.Node NodeFault.TooLong) met = absurd met
    of_fault (Edit.Node NodeFault.TooDeep) met = absurd met
    of_fault (Edit.Node NodeFault.BadSpan) met = absurd met
    of_fault (Edit.Node NodeFault.TooManySources) met = absurd met
    of_fault (Edit.Node NodeFault.Memory) met = absurd met
    of_fault Edit.TooManyPieces met = (let p = of_term TooManyPieces met in absurd (let is = p.is in cc))
    of_fault Edit.Memory met = refl
