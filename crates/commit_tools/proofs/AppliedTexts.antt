-- The text of the revision that changes make.
use Rattle.std.proofs.Common.{◌≡◌, ℕ, zero, suc, ◌+◌, ◌-◌, ◌<◌, ◌≤◌, List, [], ◌∷◌, ◌++◌, length, map, take, drop, get_or, Option, Some, None, Ok, refl, sym, ap, ◌∙◌, arith}
use Rattle.std.specs.Prelude.{if◌then◌else◌, slice_get}
use Rattle.std.specs.List.{sum_by}
use Rattle.std.specs.Option.{option_map}
use Rattle.std.proofs.lemmas.List.{length-map, length-take-le, length-drop, length_push, map-append, map_push, get_or_push, map-id}
use Rattle.std.proofs.lemmas.List.{take-map}
use Rattle.std.proofs.lemmas.List.Sums.{sum_by-cons}
use Rattle.std.proofs.lemmas.Option.{slice_get-map, slice_get-get_or}
use Rattle.std.proofs.lemmas.Simd.{map-map}
use Rattle.function_leaf.specs.Coded.{coded_byte}
use Rattle.rope_node.specs.declared.node.NodeId.{NodeId}
use Rattle.rope_node.specs.Table.{Table}
use Rattle.rope_node.specs.Denotes.{Cell, Byte, cell_byte, rope_cells, text}
use Rattle.function_leaf.specs.declared.coded.Coded.{Coded}
use Rattle.node_table.specs.Held.{Held, table_of}
use Rattle.command_parts.specs.declared.edit.Splice.{Splice}
use Rattle.command_parts.specs.Commands.{Back, Givens, Many, bounded, can_splice, replaced, replaced_each, result_of, with_splices}
use Rattle.command_parts.specs.Parts.{givens_of, len_of, root_at}
use Rattle.edit_commands.specs.declared.command.Change.{Change}
use Rattle.edit_commands.specs.declared.command.Command.{Command}
use Rattle.edit_commands.specs.declared.revision.Revision.{Revision}
use Rattle.edit_commands.specs.Applying.{Applies}
use Rattle.edit_commands.specs.Building.{StandEach, placed_changes}
use Rattle.edit_commands.specs.Session.{SessionValue, command_of, roots_of}
use Rattle.edit_commands.specs.Terms.{Chain, changed_terms, done, handed}
use Rattle.edit_commands.proofs.HandedChanges.{put_bytes}
use Rattle.commit_tools.specs.Handed.{with_handed}
use Rattle.commit_tools.specs.Stops.{IsBackTo, IsManyAt, IsNew}
use Rattle.commit_tools.specs.Texts.{last_root, last_text, text_in, revision_root}
use Rattle.commit_tools.proofs.Results.{bound, chosen, some_is}

-- ---- what a command with splices gives

pub many_gives : {C : Type 0} (g : Givens C) (texts : List (List C)) (r : ℕ) (splices : List Splice) (x : List C) → result_of g texts (Many r splices) ≡ Some x
    → (t : List C) × (slice_get texts r ≡ Some t) × (replaced_each g.pool t splices ≡ x)
many_gives g texts r splices x e =
    let t = bound (slice_get texts r) (λ t. if can_splice (length g.pool) (length t) splices then bounded (replaced_each g.pool t splices) else None) x e in
    let short = chosen (can_splice (length g.pool) (length t.0) splices) (bounded (replaced_each g.pool t.0 splices)) x t.2 in
    (t.0, t.1, some_is (replaced_each g.pool t.0 splices) x (chosen _ (Some (replaced_each g.pool t.0 splices)) x short.1).1)

-- ---- as bytes

text_of_bytes : (source : ℕ → ℕ → ℕ) (bytes : List ℕ) → text source (map Byte bytes) ≡ bytes
text_of_bytes source bytes = map-map (cell_byte source) Byte bytes ∙ map-id bytes

text_replaced : (source : ℕ → ℕ → ℕ) (t x : List Cell) (p m : ℕ) → text source (replaced t p m x) ≡ replaced (text source t) p m (text source x)
text_replaced source t x p m =
    let byte = cell_byte source in
    map-append byte (take p t ++ x) (drop (p + m) t)
    ∙ ap (λ (s : List ℕ). s ++ map byte (drop (p + m) t)) (map-append byte (take p t) x ∙ ap (λ (s : List ℕ). s ++ map byte x) (sym (take-map byte p t)))
    ∙ ap (λ (s : List ℕ). take p (map byte t) ++ map byte x ++ s) (sym (drop_mapped byte (p + m) t))
  where
    drop_mapped : {X Y : Type 0} (f : X → Y) (n : ℕ) (xs : List X) → drop n (map f xs) ≡ map f (drop n xs)
    drop_mapped f zero xs = refl
    drop_mapped f (suc n) [] = refl
    drop_mapped f (suc n) (x ∷ xs) = drop_mapped f n xs

-- splices whose bytes stand in the pool make of a text what the changes make that handed them in
pub placed_text : (source : ℕ → ℕ → ℕ) (old pool : List ℕ) (rope : Option NodeId) (len : ℕ) (t : List Cell) (changes : List Change) (bytes places : List ℕ)
    → sum_by (λ (c : Change). c.n) changes ≤ length bytes → StandEach old pool (handed (changed_terms rope len changes bytes)) places
    → text source (replaced_each (map Byte pool) t (placed_changes changes places)) ≡ with_handed (text source t) changes bytes
placed_text source old pool rope len t [] bytes places fits stand = refl
placed_text source old pool rope len t (c ∷ changes) bytes [] fits stand = absurd stand
placed_text source old pool rope len t (c ∷ changes) bytes (a ∷ places) fits stand =
    let sum = sum_by-cons (λ (d : Change). d.n) c changes in
    let own = take c.n bytes in
    let long : c.n ≡ length own = sym (length-take-le c.n bytes (omega (arith, fits, sum))) in
    let here : take c.n (drop a (map Byte pool)) ≡ map Byte own = put_bytes old pool own a c.n long stand.0 in
    let rest = replaced_each (map Byte pool) t (placed_changes changes places) in
    ap (λ (x : List Cell). text source (replaced rest c.p c.m x)) here
    ∙ text_replaced source rest (map Byte own) c.p c.m
    ∙ ap (λ (x : List ℕ). replaced (text source rest) c.p c.m x) (text_of_bytes source own)
    ∙ ap (λ (u : List ℕ). replaced u c.p c.m own)
    (placed_text source old pool rope len t changes (drop c.n bytes) places (omega (arith, fits, sum, length-drop c.n bytes)) stand.1)

-- ---- the last text

-- behind the others stands the root of the one that was made
pub last_is_made : (old new : SessionValue) (made : Revision) → new.revisions ≡ old.revisions ++ made ∷ [] → last_root new ≡ made.root
last_is_made old new made more =
    let root : Revision → Option NodeId = λ (r : Revision). r.root in
    let count : length new.revisions - 1 ≡ length old.revisions = omega (arith, ap length more, length_push old.revisions made) in
    let long : length (map root old.revisions) ≡ length old.revisions = length-map old.revisions root in
    ap (λ (rs : List (Option NodeId)). get_or rs (length new.revisions - 1) None) (ap (map root) more ∙ map_push root old.revisions made)
    ∙ ap (λ (k : ℕ). get_or (map root old.revisions ++ made.root ∷ []) k None) count
    ∙ get_or_push (map root old.revisions) made.root None (length old.revisions) long

-- what stands at a revision's number is its text
cells_at : (v : SessionValue) (t : Table) (x : List Cell) (r : ℕ) → r < length v.revisions → slice_get (map (rope_cells t) (roots_of v.revisions)) r ≡ Some x → x ≡ rope_cells t (revision_root v r)
cells_at v t x r inside e =
    let there : r < length (roots_of v.revisions) = omega (arith, inside, length-map v.revisions (λ (r : Revision). r.root)) in
    some_is x (rope_cells t (revision_root v r))
    (sym e ∙ slice_get-map (rope_cells t) (roots_of v.revisions) r ∙ ap (option_map (rope_cells t)) (slice_get-get_or (roots_of v.revisions) r None there))

pub applied_text : (source : ℕ → ℕ → ℕ) (old new : SessionValue) (k : ℕ) (command : Command) (cs : List Change) (bs : List ℕ) → 1 ≤ length old.revisions → Applies old command k new
    → IsManyAt (length old.revisions - 1) cs bs command → sum_by (λ (c : Change). c.n) cs ≤ length bs → last_text source new ≡ with_handed (last_text source old) cs bs
applied_text source old new k (Command.Many r changes bytes) cs bs some applies (at, of_changes, of_bytes) fits =
    let is = applies.is in
    let made = applies.made in
    let t = table_of coded_byte old.held in
    let u = table_of coded_byte new.held in
    let texts = map (rope_cells t) (roots_of old.revisions) in
    let splices = placed_changes changes.now is.places in
    let says : command_of made ≡ Many r splices =
    ap (λ (ss : List Splice). with_splices ss made.edit) is.splices ∙ ap (with_splices splices) is.edit in
    let gives : result_of (givens_of u) texts (Many r splices) ≡ Some (rope_cells u made.root) =
    ap (result_of (givens_of u) texts) (sym says) ∙ is.result in
    let found = many_gives (givens_of u) texts r splices (rope_cells u made.root) gives in
    let was : found.0 ≡ rope_cells t (last_root old) = cells_at old t found.0 (length old.revisions - 1) (omega (arith, some)) (ap (slice_get texts) (sym at) ∙ found.1) in
    let enough : sum_by (λ (c : Change). c.n) changes.now ≤ length bytes.now = rw (of_changes, of_bytes) fits in
    ap (λ (root : Option NodeId). text source (rope_cells u root)) (last_is_made old new made applies.revisions)
    ∙ ap (text source) (sym found.2)
    ∙ placed_text source old.held.pool.bytes new.held.pool.bytes (root_at (roots_of old.revisions) r) (len_of t (roots_of old.revisions) r) found.0 changes.now bytes.now is.places enough is.terms.stand
    ∙ ap (λ (cells : List Cell). with_handed (text source cells) changes.now bytes.now) was
    ∙ ap (λ (ds : List Change). with_handed (last_text source old) ds bytes.now) of_changes
    ∙ ap (with_handed (last_text source old) cs) of_bytes
applied_text source old new k command cs bs some applies many fits = absurd many

-- the text of a revision that is gone back to is the last one then
pub back_text : (source : ℕ → ℕ → ℕ) (old new : SessionValue) (k r : ℕ) (command : Command) → Applies old command k new → IsBackTo r command → r < length old.revisions → last_text source new ≡ text_in source old r
back_text source old new k r (Command.Back q) applies is there =
    let made = applies.made in
    let t = table_of coded_byte old.held in
    let u = table_of coded_byte new.held in
    let texts = map (rope_cells t) (roots_of old.revisions) in
    let says : command_of made ≡ Back q = ap (with_splices made.splices.items) applies.is.edit in
    let gives : slice_get texts q ≡ Some (rope_cells u made.root) = ap (result_of (givens_of u) texts) (sym says) ∙ applies.is.result in
    ap (λ (root : Option NodeId). text source (rope_cells u root)) (last_is_made old new made applies.revisions)
    ∙ ap (text source) (cells_at old t (rope_cells u made.root) r there (ap (slice_get texts) (sym is) ∙ gives))
back_text source old new k r command applies is there = absurd is

-- ---- an empty text

pub empty_root : (old new : SessionValue) (k : ℕ) (command : Command) → IsNew command → Applies old command k new → last_root new ≡ None
empty_root old new k Command.New is applies = last_is_made old new applies.made applies.revisions ∙ no_terms applies.is.terms.chain
  where
    no_terms : {before after : Held Coded} {places : List ℕ} {root : Option NodeId} → Chain [] before None places (Ok root) after → root ≡ None
    no_terms (done told same) = cc
empty_root old new k command is applies = absurd is
