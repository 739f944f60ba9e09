-- What a chain of terms builds.
use Rattle.std.proofs.Common.{◌≡◌, ℕ, ◌+◌, ◌<◌, List, [], ◌∷◌, ◌++◌, length, map, Option, Some, None, Result, Ok, Err, refl, sym, ap, subst, ◌∙◌, arith, append-nil, append_assoc}
use Rattle.std.specs.Prelude.{IfOk, get_or}
use Rattle.std.specs.List.{range_with_len}
use Rattle.std.proofs.lemmas.List.{length-append, length-map, length-replicate}
use Rattle.function_leaf.specs.declared.coded.Coded.{Coded}
use Rattle.function_leaf.specs.Coded.{coded_byte}
use Rattle.rope_node.specs.declared.limits.TheConstants.{TEXT_LIMIT}
use Rattle.rope_node.specs.declared.node.NodeId.{NodeId}
use Rattle.rope_node.specs.Denotes.{Cell, Byte, Place}
use Rattle.rope_node.proofs.Ropes.{rope_kept}
use Rattle.node_table.specs.Held.{Held, table_of}
use Rattle.rebalance.specs.declared.fault.BalanceFault.{BalanceFault}
use Rattle.rebalance.specs.AnyForms.{IsPlaced, lifted}
use Rattle.rebalance.proofs.AnyCalls.{IsRight}
use Rattle.edit_commands.specs.declared.term.Piece.{Piece}
use Rattle.edit_commands.specs.declared.term.Piece.TheVariants.{Whole, Span, Balanced, Source, Chars}
use Rattle.edit_commands.specs.Building.{GoesOn, Builds, ArePutAt, StandEach}
use Rattle.edit_commands.specs.Terms.{Term, Taken, Handed, piece_cells, term_cells, terms_cells, handed, rope_alone, with_place, so_far, IsThere, IsTerm, AreTerms, MakesPiece, GoesBehind, PutsTerm, IsRightStore, Chain, done, next, refused}
use Rattle.edit_commands.proofs.GoingOn.{HasText, builds_later, built_text, goes_on_itself, goes_on_through, own_text, refused_for, text_later}
use Rattle.edit_commands.proofs.BuildSteps.{IsMade, balance_step, both_step, bytes_step, chars_built, grows_on, leaf_made, part_step, source_built, stand_new}

right_of : {h : Held Coded} → IsRightStore h → IsRight Coded coded_byte h
right_of r = record { sound = r.sound; true_records = r.true_records }

-- a rope that is there is answered
as_it_is : {old new : Held Coded} {cells : List Cell} (rope : Option NodeId) (result : Result (Option NodeId) BalanceFault) → HasText old rope cells → result ≡ Ok rope → new ≡ old → Builds old cells result new
as_it_is {old} {new} {cells} rope result has is same =
    let step : Builds old cells (Ok rope) old = record { is_rope = has.is_rope; text = has.text; goes_on = goes_on_itself old; fault = tt } in
    subst (λ (r : Result (Option NodeId) BalanceFault). Builds old cells r new) (sym is) (subst (λ (h : Held Coded). Builds old cells (Ok rope) h) (sym same) step)

told_builds : {old new : Held Coded} {cells : List Cell} {result told : Result (Option NodeId) BalanceFault} → result ≡ told → Builds old cells told new → Builds old cells result new
told_builds {old} {new} {cells} is step = subst (λ (r : Result (Option NodeId) BalanceFault). Builds old cells r new) (sym is) step

-- ---- one term

-- the rope of a piece of the first table, made on one that went on from it
takes_builds : {start old new : Held Coded} (piece : Piece) (result : Result (Option NodeId) BalanceFault) → IsRight Coded coded_byte start → GoesOn start old → IsThere (table_of coded_byte start) piece → length (piece_cells (table_of coded_byte start) piece) < TEXT_LIMIT → MakesPiece old piece result new
    → Builds old (piece_cells (table_of coded_byte start) piece) result new
takes_builds {start} (Whole rope) result k x there short takes = as_it_is rope result (text_later k x (own_text start rope there)) takes.0 takes.1
takes_builds {start} {old} (Span rope i n) result k x there short takes = part_step i n result (goes_on_itself old) (text_later k x (own_text start rope there)) takes
takes_builds {start} {old} (Balanced rope) result k x there short takes = builds_later result (goes_on_itself old) (balance_step rope result takes) (text_later k x (own_text start rope there)).text
takes_builds {start} {old} (Source s) result k x there short takes =
    told_builds takes.told
    (builds_later (lifted takes.plain) (goes_on_itself old)
    (source_built s (get_or old.sources s 0) takes.plain (omega (arith, there, ap length x.sources)) refl takes.says)
    (ap (λ (ns : List ℕ). map (Place s) (range_with_len 0 (get_or ns s 0))) x.sources))
takes_builds (Chars c n) result k x there short takes = told_builds takes.told (chars_built c n takes.plain (omega (arith, short, length-replicate n (Byte c))) takes.says)

-- what was made, put behind what is built
behind_builds : {old mid new : Held Coded} {before cells : List Cell} (built : Option (Option NodeId)) (made result : Result (Option NodeId) BalanceFault) → IsRight Coded coded_byte old → IsRight Coded coded_byte mid → HasText old (so_far built) before → Builds old cells made mid
    → length before + length cells < TEXT_LIMIT → GoesBehind mid built made result new → Builds old (before ++ cells) result new
behind_builds {old} {before = before} {cells = cells} built (Err fault) result k k' has step short behind =
    told_builds behind.0 (subst (λ (h : Held Coded). Builds old (before ++ cells) (Err fault) h) (sym behind.1) (refused_for (before ++ cells) fault step))
behind_builds {old} {cells = cells} None (Ok rope) result k k' has step short behind =
    builds_later result (goes_on_itself old) (told_builds behind.0 (subst (λ (h : Held Coded). Builds old cells (Ok rope) h) (sym behind.1) step)) (ap (λ cs. cs ++ cells) has.text)
behind_builds (Some text) (Ok rope) result k k' has step short behind = both_step result step.goes_on k' (text_later k step.goes_on has) (built_text rope step) short behind

-- what stands on a table that went on from the first one
pub record Stands (start now : Held Coded) (built : Option (Option NodeId)) (before : List Cell) : Type 0 where
  pub goes_on : GoesOn start now
  pub right : IsRight Coded coded_byte now
  pub text : HasText now (so_far built) before

puts_builds : {start old new : Held Coded} {before : List Cell} (built : Option (Option NodeId)) (term : Term) (result : Result (Option NodeId × Option ℕ) BalanceFault) → IsRight Coded coded_byte start → Stands start old built before → IsTerm (table_of coded_byte start) term
    → length before + length (term_cells (table_of coded_byte start) term) < TEXT_LIMIT → PutsTerm old built term result new → Builds old (before ++ term_cells (table_of coded_byte start) term) (rope_alone result) new
puts_builds built (Taken piece) result k s is short puts =
    let p = puts.0 in
    let made = takes_builds piece p.made k s.goes_on is (omega (arith, short)) p.takes in
    behind_builds built p.made (rope_alone result) s.right (right_of p.right) s.text made short p.behind
puts_builds {old = old} built (Handed bytes) result k s is short puts = bytes_step bytes (rope_alone result) (goes_on_itself old) s.right s.text is (omega (arith, short, length-map bytes Byte)) puts.0

-- bytes that were put stand new, also later; none have place 0
stand_put : {old mid end new : Held Coded} (front text : Option NodeId) (bytes : List ℕ) (place : ℕ) → GoesOn old mid → IsPlaced coded_byte mid front bytes (text, place) end → GoesOn end new → ArePutAt old.pool.bytes new.pool.bytes bytes place
stand_put front text [] place x placed y = record { none = λ e. placed.put.place; some = λ lt. absurd (omega arith) }
stand_put front text (b ∷ bytes) place x placed y = record {
  none = λ e. absurd (omega arith);
  some = λ lt. stand_new front text (b ∷ bytes) place lt x placed y;
}

-- the bytes of a term stand so, and those of the terms behind it
stand_more : {start old mid new : Held Coded} (built : Option (Option NodeId)) (term : Term) (terms : List Term) (rope : Option NodeId) (place : Option ℕ) (places all : List ℕ) → GoesOn start old → PutsTerm old built term (Ok (rope, place)) mid → GoesOn mid new → all ≡ with_place place places
    → StandEach start.pool.bytes new.pool.bytes (handed terms) places → StandEach start.pool.bytes new.pool.bytes (handed (term ∷ terms)) all
stand_more {start} {new = new} built (Taken piece) terms rope place places all x puts y is stand =
    let same : all ≡ places = is ∙ ap (λ p. with_place p places) puts.1 in
    subst (StandEach start.pool.bytes new.pool.bytes (handed terms)) (sym same) stand
stand_more {start} {new = new} built (Handed bytes) terms rope place places all x puts y is stand =
    let (a, one, placed) = puts.1 in
    let same : all ≡ a ∷ places = is ∙ ap (λ p. with_place p places) one in
    subst (StandEach start.pool.bytes new.pool.bytes (bytes ∷ handed terms)) (sym same) (stand_put (so_far built) rope bytes a x placed y, stand)

-- without regard to texts: what was there is kept, and what is answered is a rope

takes_made : {old new : Held Coded} (piece : Piece) (result : Result (Option NodeId) BalanceFault) → IsThere (table_of coded_byte old) piece → MakesPiece old piece result new → IsMade old result new
takes_made {old} (Whole rope) result there takes =
    let step = as_it_is rope result (own_text old rope there) takes.0 takes.1 in
    record { goes_on = step.goes_on; is_rope = step.is_rope }
takes_made (Span rope i n) result there takes = record { goes_on = grows_on takes.any.gives.grows; is_rope = takes.any.gives.is_rope }
takes_made (Balanced rope) result there takes = record { goes_on = record { kept = takes.kept; functions = takes.functions; sources = takes.sources }; is_rope = takes.is_rope }
takes_made (Source s) result there takes = leaf_made takes.plain takes.told takes.says
takes_made (Chars c n) result there takes = leaf_made takes.plain takes.told takes.says

same_made : {old mid new : Held Coded} {result made : Result (Option NodeId) BalanceFault} → result ≡ made → new ≡ mid → IsMade old made mid → IsMade old result new
same_made {old} {mid} {new} {made = made} is same step =
    subst (λ (r : Result (Option NodeId) BalanceFault). IsMade old r new) (sym is) (subst (λ (h : Held Coded). IsMade old made h) (sym same) step)

behind_made : {old mid new : Held Coded} (built : Option (Option NodeId)) (made result : Result (Option NodeId) BalanceFault) → IsMade old made mid → GoesBehind mid built made result new → IsMade old result new
behind_made built (Err fault) result step behind = same_made behind.0 behind.1 step
behind_made None (Ok rope) result step behind = same_made behind.0 behind.1 step
behind_made (Some text) (Ok rope) result step behind = record { goes_on = goes_on_through step.goes_on (grows_on behind.gives.grows); is_rope = behind.gives.is_rope }

pub puts_made : {old new : Held Coded} (built : Option (Option NodeId)) (term : Term) (result : Result (Option NodeId × Option ℕ) BalanceFault) → IsTerm (table_of coded_byte old) term → PutsTerm old built term result new → IsMade old (rope_alone result) new
puts_made built (Taken piece) result is puts = behind_made built puts.0.made (rope_alone result) (takes_made piece puts.0.made is puts.0.takes) puts.0.behind
puts_made built (Handed bytes) result is puts = record { goes_on = grows_on puts.0.any.gives.grows; is_rope = puts.0.any.gives.is_rope }

-- a term of a table is one of each that went on from it
piece_later : {start old : Held Coded} → GoesOn start old → (piece : Piece) → IsThere (table_of coded_byte start) piece → IsThere (table_of coded_byte old) piece
piece_later {start} {old} x (Whole rope) there = rope_kept (table_of coded_byte start) (table_of coded_byte old) x.kept rope there
piece_later {start} {old} x (Span rope i n) there = rope_kept (table_of coded_byte start) (table_of coded_byte old) x.kept rope there
piece_later {start} {old} x (Balanced rope) there = rope_kept (table_of coded_byte start) (table_of coded_byte old) x.kept rope there
piece_later x (Source s) there = omega (arith, there, ap length x.sources)
piece_later x (Chars c n) there = tt

pub term_later : {start old : Held Coded} → GoesOn start old → (term : Term) → IsTerm (table_of coded_byte start) term → IsTerm (table_of coded_byte old) term
term_later x (Taken piece) is = piece_later x piece is
term_later x (Handed bytes) is = is

-- ---- all of them

-- the wanted cells are built, and the bytes handed in stand where the places say
pub record ChainBuilds (start old : Held Coded) (wanted : List Cell) (terms : List Term) (places : List ℕ) (result : Result (Option NodeId) BalanceFault) (new : Held Coded) : Type 0 where
  pub builds : Builds old wanted result new
  pub stand : IfOk result (λ _. StandEach start.pool.bytes new.pool.bytes (handed terms) places)

map_ok : {A B : Type 0} (result : Result (Option NodeId) BalanceFault) → (A → B) → IfOk result (λ _. A) → IfOk result (λ _. B)
map_ok (Ok rope) f a = f a
map_ok (Err fault) f a = tt

chain_builds : {start old new : Held Coded} {terms : List Term} {places : List ℕ} {result : Result (Option NodeId) BalanceFault} {built : Option (Option NodeId)} (before : List Cell) → IsRight Coded coded_byte start → Stands start old built before → AreTerms (table_of coded_byte start) terms
    → length before + length (terms_cells (table_of coded_byte start) terms) < TEXT_LIMIT → Chain terms old built places result new → ChainBuilds start old (before ++ terms_cells (table_of coded_byte start) terms) terms places result new
chain_builds {old = old} {result = result} {built = built} before k s are short (done is same) =
    let text : HasText old (so_far built) (before ++ []) = record { is_rope = s.text.is_rope; text = s.text.text ∙ sym (append-nil before) } in
    record {
      builds = as_it_is (so_far built) result text is same;
      stand = subst (λ (r : Result (Option NodeId) BalanceFault). IfOk r (λ _. Unit {0})) (sym is) tt;
    }
chain_builds {start} {new = new} {result = result} {built = built} before k s are short (next {term = term} {terms = terms} {mid = mid} {rope = rope} {places = places} {all = all} place puts right chain is) =
    let t = table_of coded_byte start in
    let cells = term_cells t term in
    let len = length-append cells (terms_cells t terms) in
    let step = puts_builds built term (Ok (rope, place)) k s are.0 (omega (arith, short, len)) puts in
    let stands : Stands start mid (Some rope) (before ++ cells) = record { goes_on = goes_on_through s.goes_on step.goes_on; right = right_of right; text = built_text rope step } in
    let rest = chain_builds (before ++ cells) k stands are.1 (omega (arith, short, len, length-append before cells)) chain in
    record {
      builds = builds_later result step.goes_on rest.builds (append_assoc before cells (terms_cells t terms));
      stand = map_ok {A = StandEach start.pool.bytes new.pool.bytes (handed terms) places} {B = StandEach start.pool.bytes new.pool.bytes (handed (term ∷ terms)) all} result (stand_more built term terms rope place places all s.goes_on puts rest.builds.goes_on is) rest.stand;
    }
chain_builds {start} {old} {new} {result = result} {built = built} before k s are short (refused {term = term} {terms = terms} {fault = fault} puts is) =
    let t = table_of coded_byte start in
    let step = puts_builds built term (Err fault) k s are.0 (omega (arith, short, length-append (term_cells t term) (terms_cells t terms))) puts in
    record {
      builds = told_builds is (refused_for (before ++ terms_cells t (term ∷ terms)) fault step);
      stand = subst (λ (r : Result (Option NodeId) BalanceFault). IfOk r (λ _. StandEach start.pool.bytes new.pool.bytes (handed (term ∷ terms)) [])) (sym is) tt;
    }

-- from nothing
pub terms_build : {old new : Held Coded} {terms : List Term} {places : List ℕ} {result : Result (Option NodeId) BalanceFault} → IsRight Coded coded_byte old → AreTerms (table_of coded_byte old) terms → length (terms_cells (table_of coded_byte old) terms) < TEXT_LIMIT → Chain terms old None places result new
    → ChainBuilds old old (terms_cells (table_of coded_byte old) terms) terms places result new
terms_build {old} k are short chain =
    let nothing : HasText old None [] = record { is_rope = tt; text = refl } in
    chain_builds [] k (record { goes_on = goes_on_itself old; right = k; text = nothing }) are (omega (arith, short)) chain
