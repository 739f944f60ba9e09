-- How deep and how long the rope of a call is.
use Rattle.std.proofs.Common.{◌≡◌, ℕ, ◌+◌, ◌<◌, ◌≤◌, max, nat_le, List, ◌++◌, length, map, get_or, Option, Some, None, Ok, refl, ap, subst, ◌∙◌, arith, length-append}
use Rattle.std.proofs.lemmas.List.{get_or-append-add}
use Rattle.std.proofs.lemmas.Option.{cond_some, same_Some}
use Rattle.rope_node.specs.declared.node.NodeId.{NodeId}
use Rattle.rope_node.specs.declared.node.NodeView.{NodeView}
use Rattle.rope_node.specs.declared.node.NodeView.TheVariants.{Lit, Src, Fun, Cat, Sub}
use Rattle.rope_node.specs.Table.{Node, Table, no_node, node_at, view_at, len_at, depth_at, IsLiteral, IsSound, HasTrueRecords}
use Rattle.rope_node.specs.Denotes.{Cell, rope_depth, rope_len}
use Rattle.node_table.specs.declared.record.Record.{Record}
use Rattle.node_table.specs.Records.{concatenation_record, literal_record}
use Rattle.node_table.specs.Held.{Held, table_of, node_of}
use Rattle.rope_store.specs.declared.endings.TheConstants.{MOST_MERGED}
use Rattle.rope_store.specs.declared.endings.Ending.{Ending}
use Rattle.rope_store.specs.Additions.{Addition, Makes, concatenated, new_node}
use Rattle.rope_store.specs.Appending.{IsAppendTo, copied, copied_behind, grown, grown_by, literal_place, merged_after}
use Rattle.rope_store.specs.Joining.{ending_for, ending_of, ending_with, joined, merged, nodes_joined, piece, right_ending, short_ending, view_ending}
use Rattle.rope_store.proofs.CallSizes.{ending_short, at_most}
use Rattle.rope_store.proofs.LastLiterals.{ending_found, piece_length}

-- a rope is no deeper than that, and has so many bytes or more
pub record IsLow (t : Table) (rope : Option NodeId) (depth len : ℕ) : Type 0 where
  pub shallow : rope_depth t rope ≤ depth
  pub long : len ≤ rope_len t rope

-- the rope that an addition answers, where it is the k-th of its nodes
new_low : {F : Type 0} (meaning : F → ℕ → ℕ) (old new : Held F) (a : Addition F) (wanted : List Cell) (k : ℕ) (r : Record F) (answer : Option NodeId) (d n : ℕ) → a.rope ≡ Some (new_node (table_of meaning old) k) → get_or (map node_of a.records) k no_node ≡ node_of r → r.depth ≤ d → n ≤ r.len
    → Makes meaning old a wanted (Ok answer) new → IsLow (table_of meaning new) answer d n
new_low {F = F} meaning old new a wanted k r answer d n is at low many made =
    let node : node_at (table_of meaning new) (length old.nodes + k) ≡ node_of r =
    ap (λ (h : Held F). get_or h.nodes (length old.nodes + k) no_node) made.table ∙ get_or-append-add old.nodes (map node_of a.records) k no_node ∙ at in
    let there = made.rope ∙ is in
    let len : rope_len (table_of meaning new) answer ≡ r.len = ap (rope_len (table_of meaning new)) there ∙ ap (λ (n : Node). n.len) node in
    let depth : rope_depth (table_of meaning new) answer ≡ r.depth = ap (rope_depth (table_of meaning new)) there ∙ ap (λ (n : Node). n.depth) node in
    record { shallow = omega (arith, depth, low); long = omega (arith, len, many) }

-- ---- two ropes

-- what stands before a text's last literal is less deep than the text
right_depth : (t : Table) → HasTrueRecords t → (x l r : NodeId) → x.0 < length t.nodes → view_at t x.0 ≡ Cat l r → (w : NodeView) (e : Ending) → right_ending l r w ≡ Some e → rope_depth t e.before ≤ depth_at t x.0
right_depth t h x l r there is (Lit a) e found =
    let depth = rw is at (h.nodes x.0 there).depth in
    let ending : Ending = record { before = Some l; literal = r } in
    subst (λ (k : Ending). rope_depth t k.before ≤ depth_at t x.0) (same_Some ending e found) (omega (arith, depth))
right_depth t h x l r there is (Src s a) e found = absurd cc
right_depth t h x l r there is Fun e found = absurd cc
right_depth t h x l r there is (Cat y z) e found = absurd cc
right_depth t h x l r there is (Sub b i) e found = absurd cc

before_depth : (t : Table) → HasTrueRecords t → (x : NodeId) → x.0 < length t.nodes → (v : NodeView) → view_at t x.0 ≡ v → (e : Ending) → view_ending t x v ≡ Some e → rope_depth t e.before ≤ depth_at t x.0
before_depth t h x there (Lit a) is e found =
    let ending : Ending = record { before = None; literal = x } in
    subst (λ (k : Ending). rope_depth t k.before ≤ depth_at t x.0) (same_Some ending e found) (omega arith)
before_depth t h x there (Src s a) is e found = absurd cc
before_depth t h x there Fun is e found = absurd cc
before_depth t h x there (Cat l r) is e found = right_depth t h x l r there is (view_at t r.0) e found
before_depth t h x there (Sub b i) is e found = absurd cc

-- a literal behind what stands before it
merged_low : {F : Type 0} (meaning : F → ℕ → ℕ) (old new : Held F) (wanted : List Cell) (answer before : Option NodeId) (bytes : List ℕ) → Makes meaning old (merged (table_of meaning old) before bytes) wanted (Ok answer) new
    → IsLow (table_of meaning new) answer (1 + rope_depth (table_of meaning old) before) (rope_len (table_of meaning old) before + length bytes)
merged_low meaning old new wanted answer None bytes made =
    let t = table_of meaning old in
    new_low meaning old new (merged t None bytes) wanted 0 (literal_record (length t.pool) (length bytes)) answer _ _ refl refl (omega arith) (omega arith) made
merged_low meaning old new wanted answer (Some l) bytes made =
    let t = table_of meaning old in
    new_low meaning old new (merged t (Some l) bytes) wanted 1 (concatenation_record l (new_node t 0) (len_at t l.0 + length bytes) (1 + depth_at t l.0)) answer _ _ refl refl (omega arith) (omega arith) made

ending_is : (t : Table) (n : ℕ) (o : Option Ending) (e : Ending) → short_ending t n o ≡ Some e → o ≡ Some e
ending_is t n None e is = absurd cc
ending_is t n (Some k) e is = ap (λ (x : Ending). let o : Option Ending = Some x in o) (cond_some (nat_le (len_at t k.literal.0 + n) MOST_MERGED) k e is).1

taken_is : (t : Table) (l r : NodeId) (v : NodeView) (e : Ending) → ending_for t l r v ≡ Some e → (short_ending t (len_at t r.0) (ending_of t l) ≡ Some e) × IsLiteral v
taken_is t l r (Lit a) e is = (is, tt)
taken_is t l r (Src s a) e is = absurd cc
taken_is t l r Fun e is = absurd cc
taken_is t l r (Cat x y) e is = absurd cc
taken_is t l r (Sub b i) e is = absurd cc

nodes_low : {F : Type 0} (meaning : F → ℕ → ℕ) (old new : Held F) (wanted : List Cell) (answer : Option NodeId) (l r : NodeId) → IsSound (table_of meaning old) → HasTrueRecords (table_of meaning old) → l.0 < length old.nodes → r.0 < length old.nodes → (o : Option Ending)
    → ((e : Ending) → o ≡ Some e → (short_ending (table_of meaning old) (len_at (table_of meaning old) r.0) (ending_of (table_of meaning old) l) ≡ Some e) × IsLiteral (view_at (table_of meaning old) r.0)) → Makes meaning old (nodes_joined (table_of meaning old) l r o) wanted (Ok answer) new
    → IsLow (table_of meaning new) answer (1 + max (depth_at (table_of meaning old) l.0) (depth_at (table_of meaning old) r.0)) (len_at (table_of meaning old) l.0 + len_at (table_of meaning old) r.0)
nodes_low meaning old new wanted answer l r s h there also None taken made =
    let t = table_of meaning old in
    new_low meaning old new (concatenated t l r) wanted 0 (concatenation_record l r (len_at t l.0 + len_at t r.0) (1 + max (depth_at t l.0) (depth_at t r.0))) answer _ _ refl refl (omega arith) (omega arith) made
nodes_low meaning old new wanted answer l r s h there also (Some e) taken made =
    let t = table_of meaning old in
    let found = taken e refl in
    let p = ending_short t s h l (len_at t r.0) there e found.0 in
    let below = before_depth t h l there (view_at t l.0) refl e (ending_is t (len_at t r.0) (ending_of t l) e found.0) in
    let first = piece_length t s h e.literal p.there p.is_literal in
    let second = piece_length t s h r also found.1 in
    let both = length-append (piece t e.literal) (piece t r) in
    let low = merged_low meaning old new wanted answer e.before (piece t e.literal ++ piece t r) made in
    record { shallow = omega (arith, low.shallow, below); long = omega (arith, low.long, both, first, second, p.len) }

-- a node over two is one deeper than the deeper at most, and as long as both
pub joined_low : {F : Type 0} (meaning : F → ℕ → ℕ) (old new : Held F) (wanted : List Cell) (answer : Option NodeId) (l r : NodeId) → IsSound (table_of meaning old) → HasTrueRecords (table_of meaning old) → l.0 < length old.nodes → r.0 < length old.nodes
    → Makes meaning old (joined (table_of meaning old) (Some l) (Some r)) wanted (Ok answer) new
    → IsLow (table_of meaning new) answer (1 + max (depth_at (table_of meaning old) l.0) (depth_at (table_of meaning old) r.0)) (len_at (table_of meaning old) l.0 + len_at (table_of meaning old) r.0)
joined_low meaning old new wanted answer l r s h there also made =
    let t = table_of meaning old in
    nodes_low meaning old new wanted answer l r s h there also (ending_for t l r (view_at t r.0)) (taken_is t l r (view_at t r.0)) made

-- ---- bytes behind a rope

grown_low : {F : Type 0} (meaning : F → ℕ → ℕ) (old new : Held F) (wanted : List Cell) (answer before : Option NodeId) (a n : ℕ) (bytes : List ℕ) → Makes meaning old (grown (table_of meaning old) before a n bytes) wanted (Ok answer) new
    → IsLow (table_of meaning new) answer (1 + rope_depth (table_of meaning old) before) (rope_len (table_of meaning old) before + (n + length bytes))
grown_low meaning old new wanted answer None a n bytes made =
    let t = table_of meaning old in
    new_low meaning old new (grown t None a n bytes) wanted 0 (literal_record a (n + length bytes)) answer _ _ refl refl (omega arith) (omega arith) made
grown_low meaning old new wanted answer (Some l) a n bytes made =
    let t = table_of meaning old in
    new_low meaning old new (grown t (Some l) a n bytes) wanted 1 (concatenation_record l (new_node t 0) (len_at t l.0 + (n + length bytes)) (1 + depth_at t l.0)) answer _ _ refl refl (omega arith) (omega arith) made

after_low : {F : Type 0} (meaning : F → ℕ → ℕ) (old new : Held F) (wanted : List Cell) (answer before : Option NodeId) (bytes all : List ℕ) → Makes meaning old (merged_after (table_of meaning old) before bytes all) wanted (Ok answer) new
    → IsLow (table_of meaning new) answer (1 + rope_depth (table_of meaning old) before) (rope_len (table_of meaning old) before + length all)
after_low meaning old new wanted answer None bytes all made =
    let t = table_of meaning old in
    new_low meaning old new (merged_after t None bytes all) wanted 1 (literal_record (length t.pool + length bytes) (length all)) answer _ _ refl refl (omega arith) (omega arith) made
after_low meaning old new wanted answer (Some l) bytes all made =
    let t = table_of meaning old in
    new_low meaning old new (merged_after t (Some l) bytes all) wanted 2 (concatenation_record l (new_node t 1) (len_at t l.0 + length all) (1 + depth_at t l.0)) answer _ _ refl refl (omega arith) (omega arith) made

copied_low : {F : Type 0} (meaning : F → ℕ → ℕ) (old new : Held F) (wanted : List Cell) (answer : Option NodeId) (x : NodeId) (bytes : List ℕ) → IsSound (table_of meaning old) → HasTrueRecords (table_of meaning old) → x.0 < length old.nodes → (o : Option Ending)
    → ((e : Ending) → o ≡ Some e → short_ending (table_of meaning old) (length bytes) (ending_of (table_of meaning old) x) ≡ Some e) → Makes meaning old (copied (table_of meaning old) x bytes o) wanted (Ok answer) new
    → IsLow (table_of meaning new) answer (1 + depth_at (table_of meaning old) x.0) (len_at (table_of meaning old) x.0 + length bytes)
copied_low meaning old new wanted answer x bytes s h there None taken made = merged_low meaning old new wanted answer (Some x) bytes made
copied_low meaning old new wanted answer x bytes s h there (Some e) taken made =
    let t = table_of meaning old in
    let found = taken e refl in
    let p = ending_short t s h x (length bytes) there e found in
    let below = before_depth t h x there (view_at t x.0) refl e (ending_is t (length bytes) (ending_of t x) e found) in
    let first = piece_length t s h e.literal p.there p.is_literal in
    let both = length-append (piece t e.literal) bytes in
    let low = after_low meaning old new wanted answer e.before bytes (piece t e.literal ++ bytes) made in
    record { shallow = omega (arith, low.shallow, below); long = omega (arith, low.long, both, first, p.len) }

low_surely : (t : Table) (rope : Option NodeId) (d n : ℕ) → ¬ (¬ (IsLow t rope d n)) → IsLow t rope d n
low_surely t rope d n h = record { shallow = at_most _ _ (λ no. h (λ low. no low.shallow)); long = at_most _ _ (λ no. h (λ low. no low.long)) }

-- bytes behind a node make it one deeper at most, and so many bytes longer
pub appended_low : {F : Type 0} (meaning : F → ℕ → ℕ) (old new : Held F) (wanted : List Cell) (answer : Option NodeId) (x : NodeId) (bytes : List ℕ) (a : Addition F) → IsSound (table_of meaning old) → HasTrueRecords (table_of meaning old) → x.0 < length old.nodes → IsAppendTo old.pool (table_of meaning old) x bytes a
    → Makes meaning old a wanted (Ok answer) new → IsLow (table_of meaning new) answer (1 + depth_at (table_of meaning old) x.0) (len_at (table_of meaning old) x.0 + length bytes)
appended_low {F = F} meaning old new wanted answer x bytes a s h there is made =
    let t = table_of meaning old in
    let made_so : (k : Addition F) → a ≡ k → Makes meaning old k wanted (Ok answer) new = λ k same. subst (λ (j : Addition F). Makes meaning old j wanted (Ok answer) new) same made in
    let by_growth : (e : Ending) → ending_of t x ≡ Some e → Makes meaning old (grown_by t e bytes) wanted (Ok answer) new → IsLow (table_of meaning new) answer (1 + depth_at t x.0) (len_at t x.0 + length bytes) = λ e found grew.
    let p = ending_found t s h x there e found in
    let below = before_depth t h x there (view_at t x.0) refl e found in
    let low = grown_low meaning old new wanted answer e.before (literal_place (view_at t e.literal.0)) (len_at t e.literal.0) bytes grew in
    record { shallow = omega (arith, low.shallow, below); long = omega (arith, low.long, p.len) } in
    low_surely (table_of meaning new) answer _ _ (λ no.
    no (copied_low meaning old new wanted answer x bytes s h there (ending_with t x (length bytes)) (λ e found. found) (made_so (copied_behind t x bytes) (is.copied (λ e found can.
    no (by_growth e found (made_so (grown_by t e bytes) (is.in_place e found can))))))))

-- bytes behind nil are a literal
pub literal_low : {F : Type 0} (meaning : F → ℕ → ℕ) (old new : Held F) (wanted : List Cell) (answer : Option NodeId) (bytes : List ℕ) → Makes meaning old (merged (table_of meaning old) None bytes) wanted (Ok answer) new → IsLow (table_of meaning new) answer 0 (length bytes)
literal_low meaning old new wanted answer bytes made =
    let t = table_of meaning old in
    new_low meaning old new (merged t None bytes) wanted 0 (literal_record (length t.pool) (length bytes)) answer _ _ refl refl (omega arith) (omega arith) made
