-- A walk over words without a fault does not stop at the subcommand `help`.
use Rattle.std.proofs.Common.{◌≡◌, ap, refl, ◌&&◌, Bool, true, false, not, List, [], ◌∷◌, Option, Some, None, codes, fold, is_some}
use Rattle.std.specs.Prelude.{⊤, if◌then◌else◌}
use Rattle.std.specs.Option.{option_map_or}
use Rattle.std.specs.Str.{bytes_eq}
use Rattle.clap.specs.Lexer.{long_of, short_of}
use Rattle.clap.specs.Kinds.{Kinds, or_else}
use Rattle.clap.specs.Simple.{Shape}
use Rattle.clap.specs.Faults.{other_fault, step_fault, turn_fault, walk_fault, word_fault}
use Rattle.clap.specs.Walk.{Held, Names, Outcome, Rule, Step, Text, Waiting, Walk, after_flag, after_step, arg_by_index, bundle, done, idle, long_met, long_or_other, next, option, plain, plain_word, positional, refused, short_or_plain, subcommand, subcommand_met, subcommand_or_other, to_positional, trailing, value, waits, walked, walked_from, word_met}
use Rattle.clap.specs.Walk.{arg_by_long}

-- the walk goes on, or stopped at another subcommand
abbrev pub is_no_help : Option (Text × List Text) → Bool
is_no_help stop = option_map_or (λ p. not (bytes_eq p.0 (codes "help"))) stop true

abbrev StaysAbove : Step → Type 0
StaysAbove (subcommand name) = ⊥
StaysAbove _ = ⊤

pub first_empty : (a b : Kinds) → or_else a b ≡ [] → a ≡ []
first_empty [] b e = refl
first_empty (k ∷ ks) b e = e

second_empty : (a b : Kinds) → or_else a b ≡ [] → b ≡ []
second_empty [] b e = e
second_empty (k ∷ ks) b e = absurd cc

plain_stays : (c : List Rule) (waiting : Waiting) (word : Text) (h : Held) → StaysAbove (plain_word c waiting word h).1
plain_stays c idle word h = tt
plain_stays c (option id) word h = tt
plain_stays c positional word h = tt

flag_stays : (c : List Rule) (waiting : Waiting) (word : Text) (h : Held) (o : Outcome) → StaysAbove (after_flag c waiting word h o).1
flag_stays c waiting word h done = tt
flag_stays c waiting word h (waits id) = tt
flag_stays c waiting word h plain = plain_stays c waiting word h
flag_stays c waiting word h refused = plain_stays c waiting word h

short_stays : (c : List Rule) (waiting : Waiting) (word : Text) (flags : Option Text) (h : Held) → StaysAbove (short_or_plain c waiting word flags h).1
short_stays c waiting word None h = plain_stays c waiting word h
short_stays c waiting word (Some flags) h = flag_stays c waiting word (bundle c flags h).0 (bundle c flags h).1

long_stays : (c : List Rule) (waiting : Waiting) (word : Text) (name : Option (Text × Option Text)) (h : Held) → StaysAbove (long_or_other c waiting word name h).1
long_stays c waiting word None h = short_stays c waiting word (short_of word) h
long_stays c waiting word (Some p) h = flag_stays c waiting word (long_met c (arg_by_long c p.0) p.1 h).0 (long_met c (arg_by_long c p.0) p.1 h).1

module _ (s : Shape) (names : Names) (has_help : s.disable_help_subcommand ≡ false) where
  module _ (w : Walk) (word : Text) (goes_on : w.stopped ≡ None) where
    step_stays : (h : Held) (step : Step) → StaysAbove step → is_no_help (after_step s.rules word w h step).stopped ≡ true
    step_stays h (next waiting) above = ap is_no_help goes_on
    step_stays h (trailing position) above = ap is_no_help goes_on
    step_stays h (subcommand name) above = absurd above
    step_stays h value above = go (arg_by_index s.rules w.position)
      where
        go : (a : Option Rule) → is_no_help (to_positional s.rules a word w h).stopped ≡ true
        go None = ap is_no_help goes_on
        go (Some a) = refl

    no_call : (is_help is_disabled : Bool) (kinds : Kinds) → is_disabled ≡ false → (if is_help && not is_disabled then kinds else []) ≡ [] → (kinds ≡ [] → ⊥) → not is_help ≡ true
    no_call false is_disabled kinds on e some = refl
    no_call true false kinds on e some = absurd (some e)
    no_call true true kinds on e some = absurd cc

    dash_stays : (is_dashes : Bool) (after : Held × Step) → StaysAbove after.1
        → is_no_help (after_step s.rules word w (if is_dashes then (w.held, trailing w.position) else after).0 (if is_dashes then (w.held, trailing w.position) else after).1).stopped ≡ true
    dash_stays true after above = step_stays w.held (trailing w.position) tt
    dash_stays false after above = step_stays after.0 after.1 above

    met_stays : (met : Option Text) → other_fault s met word w.held ≡ []
        → is_no_help (after_step s.rules word w (subcommand_or_other s.rules met w.waiting w.position word w.held).0 (subcommand_or_other s.rules met w.waiting w.position word w.held).1).stopped ≡ true
    met_stays (Some name) e = no_call (bytes_eq name (codes "help")) s.disable_help_subcommand _ has_help e (λ f. absurd cc)
    met_stays None e = dash_stays (bytes_eq word (45 ∷ 45 ∷ [])) (long_or_other s.rules w.waiting word (long_of word) w.held) (long_stays s.rules w.waiting word (long_of word) w.held)

    word_stays : (is_trailing : Bool) → word_fault s names is_trailing w.waiting word w.held ≡ []
        → is_no_help (after_step s.rules word w (word_met s.rules names is_trailing w.waiting w.position word w.held).0 (word_met s.rules names is_trailing w.waiting w.position word w.held).1).stopped ≡ true
    word_stays true e = step_stays w.held value tt
    word_stays false e = met_stays (subcommand_met names w.waiting word) e

  turn_stays : (w : Walk) (word : Text) → turn_fault s names w word ≡ [] → is_no_help w.stopped ≡ true → is_no_help (walked s.rules names w word).stopped ≡ true
  unfolding walked
  turn_stays w word e h = go w.stopped refl e h
    where
      met : Held × Step
      met = word_met s.rules names w.is_trailing w.waiting w.position word w.held

      go : (stop : Option (Text × List Text)) → w.stopped ≡ stop
          → (if is_some stop then [] else or_else (word_fault s names w.is_trailing w.waiting word w.held) (step_fault s w.position met.0 met.1)) ≡ []
          → is_no_help stop ≡ true → is_no_help (walked_from s.rules names stop w word).stopped ≡ true
      go (Some p) at f n = n
      go None at f n = word_stays w word at w.is_trailing (first_empty _ _ f)

  pub walk_stays : (words : List Text) (w : Walk) → walk_fault s names w words ≡ [] → is_no_help w.stopped ≡ true → is_no_help (fold (walked s.rules names) w words).stopped ≡ true
  unfolding walk_fault
  walk_stays [] w e h = h
  walk_stays (x ∷ xs) w e h = walk_stays xs (walked s.rules names w x) (second_empty (turn_fault s names w x) _ e) (turn_stays w x (first_empty _ _ e) h)
