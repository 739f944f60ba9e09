-- The text that a key's command gives, and that of the revision that it makes.
use Rattle.std.proofs.Common.{◌≡◌, ℕ, ◌+◌, ◌-◌, ◌^◌, List, [], ◌∷◌, ◌++◌, length, take, drop, get_or, map, Option, Some, None, Bool, true, false, refl, sym, ap, subst, arith, ◌∙◌, nat_le, nat_lt}
use Rattle.std.specs.Prelude.{slice_get, if◌then◌else◌}
use Rattle.std.specs.Option.{option_map}
use Rattle.std.proofs.lemmas.List.{length-map, length-take, length-drop, map-append, map-id}
use Rattle.std.proofs.Math.ListN.{get_or-map}
use Rattle.std.proofs.lemmas.Simd.{map-map}
use Rattle.std.proofs.lemmas.Option.{same_Some, get_or_from_slice_get}
use Rattle.rope_node.specs.declared.node.NodeId.{NodeId}
use Rattle.rope_node.specs.Table.{Table}
use Rattle.rope_node.specs.Denotes.{Cell, Byte, cell_byte, rope_cells, rope_len, text}
use Rattle.command_parts.specs.declared.edit.Edit.{Edit}
use Rattle.command_parts.specs.declared.edit.Splice.{Splice}
use Rattle.command_parts.specs.Commands.{FullEdit, with_splices, Givens, ◌>>=◌, span, bounded, replaced, spliced, result_of}
use Rattle.command_parts.specs.Parts.{givens_of}
use Rattle.command_parts.proofs.MappedResults.{mapped_givens, result_mapped}
use Rattle.edit_commands.specs.declared.command.Command.{Command}
use Rattle.edit_commands.specs.declared.command.Command.TheVariants.{New, Open, Insert, Delete, Replace, Paste, Join, Cut, Fill, Back, Balance, Many}
use Rattle.edit_commands.specs.declared.revision.Revision.{Revision}
use Rattle.edit_commands.specs.Applying.{Applies}
use Rattle.edit_commands.specs.Building.{StandEach, edit_with, splices_with}
use Rattle.edit_commands.specs.Refusals.{result_len}
use Rattle.edit_commands.specs.Terms.{handed, command_terms}
use Rattle.edit_commands.specs.Session.{SessionValue, HoldsHistory, splices_held, cells_of, command_of, length_at, roots_of, session_table, texts_of, edits_of}
use Rattle.text_lines.proofs.KnownLaws.{length-replaced}
use Rattle.screen_editor.specs.Recorded.{HandsNoChanges, edit_at}
use Rattle.screen_editor.specs.Taking.{IsInOrder}

-- ---- a step that may give nothing

pub bound_gives : {A B : Type 0} (o : Option A) (k : A → Option B) (b : B) → (o >>= k) ≡ Some b → (a : A) × (o ≡ Some a) × (k a ≡ Some b)
bound_gives None k b e = absurd cc
bound_gives (Some a) k b e = (a, refl, e)

pub chosen_gives : {A : Type 0} (test : Bool) (o : Option A) (a : A) → (if test then o else None) ≡ Some a → o ≡ Some a
chosen_gives true o a e = e
chosen_gives false o a e = absurd cc

pub span_gives : {C : Type 0} (t : List C) (i n : ℕ) (x : List C) → span t i n ≡ Some x → take n (drop i t) ≡ x
span_gives t i n x e = same_Some (take n (drop i t)) x (chosen_gives (nat_le (i + n) (length t)) (Some (take n (drop i t))) x e)

pub spliced_gives : {C : Type 0} (t : List C) (p m : ℕ) (x c : List C) → spliced t p m x ≡ Some c → replaced t p m x ≡ c
spliced_gives t p m x c e =
    same_Some (replaced t p m x) c (chosen_gives (nat_lt (length (replaced t p m x)) (2 ^ 40)) (Some (replaced t p m x)) c (chosen_gives (nat_le (p + m) (length t)) (bounded (replaced t p m x)) c e))

-- ---- the text of a command

abbrev pub text_given : List (List ℕ) → Command → List ℕ
text_given texts (Insert r p bytes) = replaced (get_or texts r []) p 0 bytes.now
text_given texts (Delete r p n) = replaced (get_or texts r []) p n []
text_given texts (Paste r p q i n) = replaced (get_or texts r []) p 0 (take n (drop i (get_or texts q [])))
text_given texts (Back r) = get_or texts r []
text_given texts (Balance r) = get_or texts r []
text_given texts _ = []

-- the bytes that are handed in stand in the pool
abbrev StandIn : List ℕ → ℕ → Command → Type 0
StandIn pool a (Insert r p bytes) = take (length bytes.now) (drop a pool) ≡ bytes.now
StandIn pool a _ = Unit {0}

given : (g : Givens ℕ) (v : SessionValue) (texts : List (List ℕ)) (a : ℕ) (command : Command) (t : List ℕ) → IsInOrder v command → StandIn g.pool a command → result_of g texts (with_splices [] (edit_at a command)) ≡ Some t → t ≡ text_given texts command
given g v texts a New t h s e = absurd h
given g v texts a (Open n) t h s e = absurd h
given g v texts a (Insert r p bytes) t h s e =
    let first = bound_gives (slice_get texts r) _ t e in
    let second = bound_gives (span g.pool a (length bytes.now)) _ t first.2 in
    let x = span_gives g.pool a (length bytes.now) second.0 second.1 in
    let is = spliced_gives first.0 p 0 second.0 t (chosen_gives (nat_le 1 (length bytes.now)) (spliced first.0 p 0 second.0) t second.2) in
    sym is ∙ ap (λ (y : List ℕ). replaced first.0 p 0 y) (sym x ∙ s) ∙ ap (λ (u : List ℕ). replaced u p 0 bytes.now) (sym (get_or_from_slice_get texts r first.0 [] first.1))
given g v texts a (Delete r p n) t h s e =
    let first = bound_gives (slice_get texts r) _ t e in
    sym (spliced_gives first.0 p n [] t first.2) ∙ ap (λ (u : List ℕ). replaced u p n []) (sym (get_or_from_slice_get texts r first.0 [] first.1))
given g v texts a (Replace r p m bytes) t h s e = absurd h
given g v texts a (Paste r p q i n) t h s e =
    let first = bound_gives (slice_get texts r) _ t e in
    let second = bound_gives (slice_get texts q) _ t first.2 in
    let third = bound_gives (span second.0 i n) _ t second.2 in
    let x = span_gives second.0 i n third.0 third.1 in
    sym (spliced_gives first.0 p 0 third.0 t third.2) ∙ ap (λ (y : List ℕ). replaced first.0 p 0 y) (sym x)
    ∙ ap (λ (u : List ℕ). replaced first.0 p 0 (take n (drop i u))) (sym (get_or_from_slice_get texts q second.0 [] second.1))
    ∙ ap (λ (u : List ℕ). replaced u p 0 (take n (drop i (get_or texts q [])))) (sym (get_or_from_slice_get texts r first.0 [] first.1))
given g v texts a (Join r q) t h s e = absurd h
given g v texts a (Cut r i n) t h s e = absurd h
given g v texts a (Fill r p c n) t h s e = absurd h
given g v texts a (Back r) t h s e = sym (get_or_from_slice_get texts r t [] e)
given g v texts a (Balance r) t h s e = sym (get_or_from_slice_get texts r t [] e)
given g v texts a (Many r changes bytes) t h s e = absurd h

-- ---- lengths

pub revision_is : (source : ℕ → ℕ → ℕ) (v : SessionValue) (k : ℕ) → get_or (texts_of source v) k [] ≡ text source (get_or (cells_of v) k [])
revision_is source v k = get_or-map (text source) (cells_of v) k []

-- a text is as long as its root says
pub text_len : (v : SessionValue) → HoldsHistory v → (source : ℕ → ℕ → ℕ) (k : ℕ) → length (get_or (texts_of source v) k []) ≡ length_at v k
text_len v h source k =
    ap length (revision_is source v k)
    ∙ length-map (get_or (cells_of v) k []) (cell_byte source)
    ∙ sym (get_or-map (length {A = Cell}) (cells_of v) k [])
    ∙ ap (λ (ns : List ℕ). get_or ns k 0) h.lengths
    ∙ get_or-map (rope_len (session_table v)) (roots_of v.revisions) k None

pub count_texts : (v : SessionValue) (source : ℕ → ℕ → ℕ) → length (texts_of source v) ≡ length v.revisions
count_texts v source = length-map (cells_of v) (text source) ∙ length-map (roots_of v.revisions) (rope_cells (session_table v)) ∙ length-map v.revisions (λ (r : Revision). r.root)

pub given_len : (v : SessionValue) → HoldsHistory v → (source : ℕ → ℕ → ℕ) (command : Command) → IsInOrder v command → length (text_given (texts_of source v) command) ≡ result_len v command
given_len v h source New o = absurd o
given_len v h source (Open s) o = absurd o
given_len v h source (Insert r p bytes) o =
    let n = text_len v h source r in
    let e = length-replaced (get_or (texts_of source v) r []) p 0 bytes.now (omega (arith, n, o.1)) in
    omega (arith, n, e)
given_len v h source (Delete r p n) o =
    let l = text_len v h source r in
    let e = length-replaced (get_or (texts_of source v) r []) p n [] (omega (arith, l, o.1)) in
    omega (arith, l, e)
given_len v h source (Replace r p m bytes) o = absurd o
given_len v h source (Paste r p q i n) o =
    let l = text_len v h source r in
    let k = text_len v h source q in
    let e = length-replaced (get_or (texts_of source v) r []) p 0 (take n (drop i (get_or (texts_of source v) q []))) (omega (arith, l, o.1)) in
    omega (arith, l, k, e, o.3, length-take n (drop i (get_or (texts_of source v) q [])), length-drop i (get_or (texts_of source v) q []))
given_len v h source (Join r q) o = absurd o
given_len v h source (Cut r i n) o = absurd o
given_len v h source (Fill r p c n) o = absurd o
given_len v h source (Back r) o = text_len v h source r
given_len v h source (Balance r) o = text_len v h source r
given_len v h source (Many r changes bytes) o = absurd o

-- ---- the revision that a command makes

-- a command in order hands in no changes, and is recorded with the first place alone
pub plain_of : (v : SessionValue) (command : Command) → IsInOrder v command → HandsNoChanges command
plain_of v (Many r changes bytes) o = absurd o
plain_of v New o = tt
plain_of v _ o = tt

pub plain_edit : (places : List ℕ) (first : ℕ) (command : Command) → HandsNoChanges command → edit_with places first command ≡ edit_at (get_or places 0 0) command
plain_edit places first (Many r changes bytes) plain = absurd plain
plain_edit places first New plain = refl
plain_edit places first _ plain = refl

pub plain_says : (places : List ℕ) (first : ℕ) (command : Command) → HandsNoChanges command → with_splices (splices_with places command) (edit_with places first command) ≡ with_splices [] (edit_at (get_or places 0 0) command)
plain_says places first (Many r changes bytes) plain = absurd plain
plain_says places first New plain = refl
plain_says places first _ plain = refl

bytes_stand : (old pool : List ℕ) (v : SessionValue) (t : Table) (roots : List (Option NodeId)) (places : List ℕ) (command : Command) → IsInOrder v command → StandEach old pool (handed (command_terms t roots command)) places → StandIn pool (get_or places 0 0) command
bytes_stand old pool v t roots [] (Insert r p bytes) o s = absurd s
bytes_stand old pool v t roots (a ∷ places) (Insert r p bytes) o s =
    let stands = (s.0.some (omega (arith, o.2))).1 in
    let many : (a + length bytes.now) - a ≡ length bytes.now = omega arith in
    ap (λ (n : ℕ). take n (drop a pool)) (sym many) ∙ stands
bytes_stand old pool v t roots places New o s = tt
bytes_stand old pool v t roots places _ o s = tt

pool_mapped : (source : ℕ → ℕ → ℕ) (pool : List ℕ) → map (cell_byte source) (map Byte pool) ≡ pool
pool_mapped source pool = map-map (cell_byte source) Byte pool ∙ map-id pool

-- its text
made_text : (old : SessionValue) (command : Command) (new : SessionValue) → IsInOrder old command → (a : Applies old command (length old.revisions) new) → (source : ℕ → ℕ → ℕ)
    → text source (rope_cells (session_table new) a.made.root) ≡ text_given (texts_of source old) command
made_text old command new o a source =
    let cells = rope_cells (session_table new) a.made.root in
    let place = get_or a.is.places 0 0 in
    let says : command_of a.made ≡ with_splices [] (edit_at place command) =
    ap (λ (ss : List Splice). with_splices ss a.made.edit) a.is.splices ∙ ap (with_splices (splices_with a.is.places command)) a.is.edit ∙ plain_says a.is.places (splices_held old.revisions) command (plain_of old command o) in
    let edit : result_of (givens_of (session_table new)) (cells_of old) (with_splices [] (edit_at place command)) ≡ Some cells = subst (λ (e : FullEdit). result_of (givens_of (session_table new)) (cells_of old) e ≡ Some cells) says a.is.result in
    let mapped = result_mapped (cell_byte source) (givens_of (session_table new)) (cells_of old) (with_splices [] (edit_at place command)) ∙ ap (option_map (text source)) edit in
    let stand = bytes_stand old.held.pool.bytes new.held.pool.bytes old (session_table old) (roots_of old.revisions) a.is.places command o a.is.terms.stand in
    given (mapped_givens (cell_byte source) (givens_of (session_table new))) old (texts_of source old) place command (text source cells) o
    (subst (λ (pool : List ℕ). StandIn pool place command) (sym (pool_mapped source new.held.pool.bytes)) stand)
    mapped

-- the cells and the texts then
pub cells_more : (old : SessionValue) (command : Command) (new : SessionValue) (a : Applies old command (length old.revisions) new) → cells_of new ≡ cells_of old ++ rope_cells (session_table new) a.made.root ∷ []
cells_more old command new a =
    let cells = rope_cells (session_table new) in
    let root : Revision → Option NodeId = λ (r : Revision). r.root in
    ap (λ (rs : List Revision). map cells (map root rs)) a.revisions
    ∙ ap (map cells) (map-append root old.revisions (a.made ∷ []))
    ∙ map-append cells (roots_of old.revisions) (a.made.root ∷ [])
    ∙ ap (λ (cs : List (List Cell)). cs ++ cells a.made.root ∷ []) a.keeps.cells

pub texts_more : (old : SessionValue) (command : Command) (new : SessionValue) → IsInOrder old command → Applies old command (length old.revisions) new → (source : ℕ → ℕ → ℕ)
    → texts_of source new ≡ texts_of source old ++ text_given (texts_of source old) command ∷ []
texts_more old command new o a source =
    ap (map (text source)) (cells_more old command new a) ∙ map-append (text source) (cells_of old) (rope_cells (session_table new) a.made.root ∷ [])
    ∙ ap (λ (t : List ℕ). texts_of source old ++ t ∷ []) (made_text old command new o a source)

-- the commands then
pub edits_more : (old : SessionValue) (command : Command) (new : SessionValue) → HandsNoChanges command → (a : Applies old command (length old.revisions) new) → edits_of new.revisions ≡ edits_of old.revisions ++ edit_at (get_or a.is.places 0 0) command ∷ []
edits_more old command new plain a =
    ap edits_of a.revisions ∙ map-append (λ (r : Revision). r.edit) old.revisions (a.made ∷ []) ∙ ap (λ (e : Edit). edits_of old.revisions ++ e ∷ []) (a.is.edit ∙ plain_edit a.is.places (splices_held old.revisions) command plain)
