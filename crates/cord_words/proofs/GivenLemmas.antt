-- What the getters of `clap`'s matches give of the rows.
use Rattle.std.proofs.Common.{◌≡◌, ◌∙◌, ◌<◌, ◌+◌, ◌++◌, ◌∷◌, ℕ, All, ap, get_or, length, sym, subst, take, List, [], Option, Some, None, map, option_map, unwrap_or}
use Rattle.std.specs.List.{AllZip}
use Rattle.std.proofs.lemmas.List.{get_or-map, length-map, take_more}
use Rattle.std.specs.Prelude.{Box}
use Rattle.std.specs.Borrow.{Bor}
use Rattle.std.specs.Box.{box_value}
use Rattle.clap.specs.Words.{Row, Text, all_of, first_value, matched_of, raw_values, rows_of, subcommand_name_of, subcommand_rows, subcommand_rows_of}
use Rattle.clap.specs.declared.parser.matches.ArgMatches.{ArgMatches}
use Rattle.clap.specs.declared.parser.matches.ArgMatches.TheViews.{out-ArgMatches, out-SubCommand}
use Rattle.clap.specs.declared.parser.matches.SubCommand.{SubCommand}
use Rattle.clap.specs.declared.parser.matches.Found.{Found}
use Rattle.clap.proofs.WalkLemmas.{first_value-rows, raw_values-rows}
use Rattle.cord_words.specs.Words.{argument_text, argument_texts}

pub text_given : (f : Found) (id : Text) (got : Option (Bor Text)) (empty text : Bor Text) → text ≡ unwrap_or got empty
    → option_map (λ s. s.now) got ≡ first_value f id → empty.now ≡ [] → text.now ≡ argument_text (rows_of f) id
text_given f id got empty text at is none = ap (λ s. s.now) at ∙ here got is ∙ ap (λ o. unwrap_or o []) (first_value-rows f id)
  where
    here : (o : Option (Bor Text)) → option_map (λ s. s.now) o ≡ first_value f id → (unwrap_or o empty).now ≡ unwrap_or (first_value f id) []
    here None e = none ∙ ap (λ o. unwrap_or o []) e
    here (Some s) e = ap (λ o. unwrap_or o []) e

pub texts_given : (f : Found) (id : Text) (got : Option (Bor (List (Bor Text)))) (empty all : Bor (List (Bor Text))) → all ≡ unwrap_or got empty
    → option_map (λ s. map (λ v. v.now) s.now) got ≡ option_map raw_values (matched_of f id) → empty.now ≡ [] → map (λ v. v.now) all.now ≡ argument_texts (rows_of f) id
texts_given f id got empty all at is none = ap (λ s. map (λ v. v.now) s.now) at ∙ here got (is ∙ raw_values-rows f id)
  where
    here : (o : Option (Bor (List (Bor Text)))) → option_map (λ s. map (λ v. v.now) s.now) o ≡ all_of id (rows_of f) → map (λ v. v.now) (unwrap_or o empty).now ≡ argument_texts (rows_of f) id
    here None e = ap (λ (vs : List (Bor Text)). map (λ v. v.now) vs) none ∙ ap (λ o. unwrap_or o []) e
    here (Some s) e = ap (λ o. unwrap_or o []) e

-- the subcommand of this name was given, with these arguments
pub given_as : (m : ArgMatches) (name word : Text) (rows : List Row) → name ≡ word → Some name ≡ subcommand_name_of m → Some rows ≡ option_map (λ p. p.1) (subcommand_rows_of m)
    → Some (word, rows) ≡ subcommand_rows_of m
given_as m name word rows is named has = go (out-ArgMatches m).subcommand named has
  where
    go : {Z : Type 0} (o : Option (Box SubCommand Z)) → Some name ≡ option_map (λ b. (out-SubCommand (box_value b)).name.now) o → Some rows ≡ option_map (λ p. p.1) (subcommand_rows o)
        → Some (word, rows) ≡ subcommand_rows o
    go None e f = absurd cc
    go (Some b) e f = rw (← is) cc

-- one more of each
zip_push : {A B : Type 0} (R : A → B → Type 0) (xs : List A) (ys : List B) (x : A) (y : B) → AllZip R xs ys → R x y → AllZip R (xs ++ x ∷ []) (ys ++ y ∷ [])
zip_push R [] [] x y h r = (r, tt)
zip_push R [] (b ∷ ys) x y h r = absurd h
zip_push R (a ∷ xs) [] x y h r = absurd h
zip_push R (a ∷ xs) (b ∷ ys) x y h r = (h.0, zip_push R xs ys x y h.1 r)

pub zip_more : {A B : Type 0} (R : A → B → Type 0) (xs : List A) (ys : List B) (i : ℕ) (d : A) (y : B) → i < length xs → AllZip R (take i xs) ys → R (get_or xs i d) y
    → AllZip R (take (i + 1) xs) (ys ++ y ∷ [])
zip_more R xs ys i d y lt h r = subst (λ l. AllZip R l (ys ++ y ∷ [])) (sym (take_more xs i d lt)) (zip_push R (take i xs) ys (get_or xs i d) y h r)

-- what is so of what borrows show is so of the borrows
pub zip_shown : {A B : Type 0} (R : A → B → Type 0) (xs : List (Bor A)) (ys : List B) → AllZip (λ x y. R x.now y) xs ys → AllZip R (map (λ x. x.now) xs) ys
zip_shown R [] [] h = tt
zip_shown R [] (y ∷ ys) h = absurd h
zip_shown R (x ∷ xs) [] h = absurd h
zip_shown R (x ∷ xs) (y ∷ ys) h = (h.0, zip_shown R xs ys h.1)

-- and the other way round, of each alone
pub all_shown : {A : Type 0} (P : A → Type 0) (xs : List (Bor A)) → All P (map (λ x. x.now) xs) → All (λ x. P x.now) xs
all_shown P xs each k d lt = subst P (get_or-map (λ x. x.now) xs k d d.now lt) (each k d.now (rw (length-map xs (λ x. x.now)) lt))
