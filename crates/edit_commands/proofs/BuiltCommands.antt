-- The root that a command's chain builds.
use Rattle.std.proofs.Common.{◌≡◌, ℕ, List, [], ◌∷◌, length, drop, Option, None, Result, Ok, Err, refl, sym, subst, ◌∙◌, arith}
use Rattle.std.specs.Prelude.{IfOk}
use Rattle.function_leaf.specs.declared.coded.Coded.{Coded}
use Rattle.function_leaf.specs.Coded.{coded_byte}
use Rattle.rope_node.specs.declared.node.NodeId.{NodeId}
use Rattle.rope_node.specs.Table.{Table}
use Rattle.node_table.specs.Held.{Held, table_of}
use Rattle.rebalance.specs.Balancing.{IsNearlyBalanced}
use Rattle.rebalance.specs.declared.fault.BalanceFault.{BalanceFault}
use Rattle.rebalance.proofs.AnyCalls.{IsRight}
use Rattle.command_parts.specs.Parts.{len_of, root_at, AreRopes}
use Rattle.edit_commands.specs.declared.command.Change.{Change}
use Rattle.edit_commands.specs.declared.command.Command.{Command}
use Rattle.edit_commands.specs.declared.command.Command.TheVariants.{Back, Balance, Many}
use Rattle.edit_commands.specs.declared.revision.Revision.{Revision}
use Rattle.edit_commands.specs.declared.term.Piece.TheVariants.{Whole, Balanced}
use Rattle.edit_commands.specs.Building.{BuildsCommand, IsRootFor, StandEach}
use Rattle.edit_commands.specs.Refusals.{TakesAll, refusal_of}
use Rattle.edit_commands.specs.Session.{roots_of}
use Rattle.edit_commands.specs.Terms.{Taken, changed_terms, handed, times_handed, command_terms, terms_cells, FillsBytes, GoesBehind, JoinsTerms, Chain, done, next, refused}
use Rattle.edit_commands.proofs.Accepted.{in_range, terms_are, terms_give, terms_short}
use Rattle.edit_commands.proofs.Chains.{ChainBuilds, terms_build}

-- what was made before the first term is what is built
pub alone : {old new : Held Coded} (made result : Result (Option NodeId) BalanceFault) → GoesBehind old None made result new → (result ≡ made) × (new ≡ old)
alone (Ok rope) result behind = behind
alone (Err fault) result behind = behind

-- a root alone is built as it is
whole_alone : {old new : Held Coded} {places : List ℕ} {result : Result (Option NodeId) BalanceFault} (rope root : Option NodeId) → result ≡ Ok root → Chain (Taken (Whole rope) ∷ []) old None places result new → root ≡ rope
whole_alone rope root ok (next place puts right (done is same) all) =
    let p = puts.0 in
    let behind = alone p.made _ p.behind in
    let made = p.takes.0 in
    let one = behind.0 in
    cc
whole_alone rope root ok (refused puts is) = absurd cc

balanced_alone : {old new : Held Coded} {places : List ℕ} {result : Result (Option NodeId) BalanceFault} (rope root : Option NodeId) → result ≡ Ok root → Chain (Taken (Balanced rope) ∷ []) old None places result new → IsNearlyBalanced (table_of coded_byte new) root
balanced_alone {new = new} rope root ok (next {mid = mid} {rope = built} place puts right (done is same) all) =
    let p = puts.0 in
    let behind = alone p.made (Ok built) p.behind in
    let one : Ok root ≡ p.made = sym ok ∙ is ∙ behind.0 in
    let there : p.between ≡ new = sym (same ∙ behind.1) in
    subst (λ (h : Held Coded). IsNearlyBalanced (table_of coded_byte h) root) there
    (subst (λ (r : Result (Option NodeId) BalanceFault). IfOk r (λ x. IsNearlyBalanced (table_of coded_byte p.between) x)) (sym one) p.takes.shallow)
balanced_alone rope root ok (refused puts is) = absurd cc

root_for : {old new : Held Coded} {places : List ℕ} (roots : List (Option NodeId)) (command : Command) (root : Option NodeId) → Chain (command_terms (table_of coded_byte old) roots command) old None places (Ok root) new → IsRootFor (table_of coded_byte new) roots command root
root_for roots (Back r) root chain = whole_alone (root_at roots r) root refl chain
root_for roots (Balance r) root chain = balanced_alone (root_at roots r) root refl chain
root_for roots _ root chain = tt

-- ---- how many times bytes are handed in

changed_handed : (rope : Option NodeId) (len : ℕ) (changes : List Change) (bytes : List ℕ) → length (handed (changed_terms rope len changes bytes)) ≡ length changes
changed_handed rope len [] bytes = refl
changed_handed rope len (c ∷ changes) bytes = let tail = changed_handed rope len changes (drop c.n bytes) in omega (arith, tail)

pub terms_handed : (t : Table) (roots : List (Option NodeId)) (command : Command) → length (handed (command_terms t roots command)) ≡ times_handed command
terms_handed t roots (Many r changes bytes) = changed_handed (root_at roots r) (len_of t roots r) changes.now bytes.now
terms_handed t roots _ = refl

-- ---- what the loop over the terms gives

module _ (old new : Held Coded) (revisions : List Revision) (command : Command) (k : IsRight Coded coded_byte old) (ropes : AreRopes (table_of coded_byte old) (roots_of revisions)) (accepted : refusal_of (record { held = old; revisions = revisions }) command ≡ None) (takes : TakesAll command) (places : List ℕ) where
  chain_gives : (result : Result (Option NodeId) BalanceFault) (j : JoinsTerms old (command_terms (table_of coded_byte old) (roots_of revisions) command) result places new)
      → ChainBuilds old old (terms_cells (table_of coded_byte old) (command_terms (table_of coded_byte old) (roots_of revisions) command)) (command_terms (table_of coded_byte old) (roots_of revisions) command) j.placed result new
  chain_gives result j =
      let t = table_of coded_byte old in
      let is = in_range old revisions command accepted takes in
      terms_build k (terms_are t k.sound k.true_records (roots_of revisions) ropes command is) (terms_short t k.sound k.true_records (roots_of revisions) ropes command is) j.chain

  pub command_built : (root : Option NodeId) → FillsBytes command → IsRight Coded coded_byte new → JoinsTerms old (command_terms (table_of coded_byte old) (roots_of revisions) command) (Ok root) places new → BuildsCommand old revisions command (Ok root) places new
  command_built root fills k' j =
      let t = table_of coded_byte old in
      let is = in_range old revisions command accepted takes in
      let chain = chain_gives (Ok root) j in
      let stand = subst (StandEach old.pool.bytes new.pool.bytes (handed (command_terms t (roots_of revisions) command))) j.written chain.stand in
      record {
        placed = j.placed;
        terms = record { chain = j.chain; stand = chain.stand };
        written = j.written;
        builds = chain.builds;
        gives = terms_give old new k k' chain.builds.goes_on (roots_of revisions) ropes places command is fills stand;
        root = root_for (roots_of revisions) command root j.chain;
      }

  pub command_refused : (fault : BalanceFault) → JoinsTerms old (command_terms (table_of coded_byte old) (roots_of revisions) command) (Err fault) places new → BuildsCommand old revisions command (Err fault) places new
  command_refused fault j =
      let chain = chain_gives (Err fault) j in
      record {
        placed = j.placed;
        terms = record { chain = j.chain; stand = tt };
        written = tt;
        builds = chain.builds;
        gives = tt;
        root = tt;
      }
