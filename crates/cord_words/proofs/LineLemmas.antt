-- What `clap` makes of the program's command line.
use Rattle.std.proofs.Common.{◌≡◌, ◌≢◌, ◌∙◌, ap, sym, refl, inl, inr, ◌||◌, ◌++◌, Bool, true, false, List, [], ◌∷◌, Option, Some, None, IfSome, arith, codes, cond, find, length, map, option_map, subst}
use Rattle.clap.proofs.WalkLemmas.{both}
use borrow.Author.Tests.{eqb-true}
use Rattle.std.specs.Str.{bytes_eq}
use Rattle.std.specs.List.{list_all}
use Rattle.std.proofs.lemmas.Slice.Eq.{bytes_eq-Decides}
use Rattle.clap.specs.Faults.{fault_of, is_simple_and_free}
use Rattle.clap.specs.Simple.{Shape, argument_words, built, entered, is_simple, label_of, names_of, rows_at, subcommand_of}
use Rattle.clap.specs.Walk.{Text, answers_to, is_empty, nothing_held, walk, walk_from}
use Rattle.cord_words.specs.Words.{IsKnown, IsOneOf, cordkit_app, subcommand_names}
use Rattle.cord_words.proofs.HelpLemmas.{first_empty, is_no_help, walk_stays}

pub cordkit_is_simple : is_simple cordkit_app ≡ true
unfolding cordkit_app
cordkit_is_simple = refl

pub cordkit_is_free : is_simple_and_free cordkit_app ≡ true
unfolding cordkit_app
cordkit_is_free = refl

-- a command without aliases answers to its name alone
own_name : (name n : Text) (aliases : List Text) → is_empty aliases ≡ true → answers_to n (name, aliases) ≡ true → name ≡ n
own_name name n [] plain met = (bytes_eq-Decides name n).0 (either_is (bytes_eq name n) met)
  where
    either_is : (a : Bool) → (a || false) ≡ true → a ≡ true
    either_is true e = refl
    either_is false e = e
own_name name n (x ∷ xs) plain met = let e = eqb-true (length (x ∷ xs)) 0 plain in absurd (omega arith)

abbrev IsNamed : List Shape → Text → Shape → Type 0
IsNamed subs n s = IsOneOf (map (λ (x : Shape). x.name) subs) s.name × (s.name ≡ n)

found_named : (subs : List Shape) (n : Text) → list_all (λ s. is_empty s.aliases) subs ≡ true → IfSome (find (λ s. answers_to n (label_of s)) subs) (IsNamed subs n)
found_named [] n plain = tt
found_named (x ∷ xs) n plain = here (answers_to n (label_of x)) refl (found_named xs n (both (is_empty x.aliases) _ plain).1)
  where
    later : (o : Option Shape) → IfSome o (IsNamed xs n) → IfSome o (IsNamed (x ∷ xs) n)
    later None h = tt
    later (Some s) h = (inr h.0, h.1)

    here : (b : Bool) → answers_to n (label_of x) ≡ b → IfSome (find (λ s. answers_to n (label_of s)) xs) (IsNamed xs n)
        → IfSome (cond b (Some x) (find (λ s. answers_to n (label_of s)) xs)) (IsNamed (x ∷ xs) n)
    here true e below = (inl refl, own_name x.name n x.aliases (both (is_empty x.aliases) _ plain).0 e)
    here false e below = later (find (λ s. answers_to n (label_of s)) xs) below

-- one of the names, and not the last
not_last : (names : List Text) (last n : Text) → IsOneOf (names ++ last ∷ []) n → n ≢ last → IsOneOf names n
not_last [] last n (inl e) other = other e
not_last [] last n (inr e) other = absurd e
not_last (x ∷ xs) last n (inl e) other = inl e
not_last (x ∷ xs) last n (inr e) other = inr (not_last xs last n e other)

abbrev stop_at : List Text → Option (Text × List Text)
stop_at words = (walk (built cordkit_app).top.rules (names_of (built cordkit_app)) nothing_held (argument_words cordkit_app words)).stopped

no_help_met : (words : List Text) → fault_of cordkit_app words ≡ [] → is_no_help (stop_at words) ≡ true
unfolding cordkit_app
no_help_met words e = walk_stays (built cordkit_app).top (names_of (built cordkit_app)) refl (argument_words cordkit_app words) (walk_from nothing_held) (first_empty _ _ e) refl

names_are : map (λ (x : Shape). x.name) (built cordkit_app).subs ≡ subcommand_names ++ codes "help" ∷ []
unfolding cordkit_app
names_are = refl

have_no_aliases : list_all (λ s. is_empty s.aliases) (built cordkit_app).subs ≡ true
unfolding cordkit_app
have_no_aliases = refl

other_than_help : (p : Text × List Text) → is_no_help (Some p) ≡ true → p.0 ≢ codes "help"
other_than_help p h e = let bad : is_no_help (Some (codes "help", p.1)) ≡ true = ap (λ n. is_no_help (Some (n, p.1))) (sym e) ∙ h in absurd cc

-- words without a fault give one of the program's own subcommands, or none
pub known_given : (words : List Text) → fault_of cordkit_app words ≡ [] → IsKnown (subcommand_of cordkit_app words)
known_given words e = go (stop_at words) (no_help_met words e)
  where
    named : (p : Text × List Text) (found : Option Shape) → is_no_help (Some p) ≡ true → IfSome found (IsNamed (built cordkit_app).subs p.0)
        → IsKnown (option_map (λ s. rows_at s p.1) found)
    named p None h is = tt
    named p (Some s) h is = not_last subcommand_names (codes "help") s.name (subst (λ names. IsOneOf names s.name) names_are is.0) (λ f. other_than_help p h (sym is.1 ∙ f))

    go : (stop : Option (Text × List Text)) → is_no_help stop ≡ true → IsKnown (entered (built cordkit_app) stop)
    go None h = tt
    go (Some p) h = named p (find (λ s. answers_to p.0 (label_of s)) (built cordkit_app).subs) h (found_named (built cordkit_app).subs p.0 have_no_aliases)
