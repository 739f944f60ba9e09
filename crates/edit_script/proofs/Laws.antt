-- A line is read just as its words stand there.
use Rattle.std.proofs.Common.{◌≡◌, ℕ, zero, suc, length-append, ◌<◌, ◌≤◌, ◌^◌, Bool, true, false, not, ◌&&◌, ltb, eqb, List, [], ◌∷◌, ◌++◌, length, Option, Some, Result, Ok, Err, refl, sym, ap, subst, ◌∙◌, arith, inl, inr, lit≤}
use Rattle.std.specs.Prelude.{IfOk}
use Rattle.std.specs.List.{list_all}
use Rattle.std.specs.Str.{bytes_eq}
use Rattle.std.proofs.lemmas.Bool.{cases_Bool, and_parts, eqb-true, eq-eqb, not-true, or_parts}
use Rattle.std.proofs.lemmas.Slice.Eq.{bytes_eq-Decides}
use Rattle.command_parts.specs.declared.edit.Edit.{Edit}
use Rattle.edit_script.specs.declared.fault.LineFault.{LineFault}
use Rattle.std.specs.Str.Parse.{IsNumeral}
use Rattle.std.proofs.lemmas.Str.Parse.{digit_from_value}
use Rattle.edit_script.specs.declared.room.Room.{Room}
use Rattle.edit_script.specs.Words.{Word, Name, Number, Quoted, BeginsWith, HasWords, IsComment, Spells, is_blank, ends_word, behind_blanks}
use Rattle.edit_script.specs.Commands.{Kind, Revision, Place, Byte, Text, shapes, shape_in, shape_of, Shape, Suits, HasKinds, IsLine, IsNamedIn}
use Rattle.edit_script.specs.Handed.{said}
use Rattle.edit_script.specs.Reading.{IsReadAs, front_word, behind_front, number_at, number_below, quoted_at, is_comment, word_at, words_at, end_at, groups_at, again_at, named_at, named_in, line_at}
use Rattle.command_parts.specs.Commands.{◌>>=◌}
use Rattle.edit_script.proofs.Choices.{chosen, passed, bind_some, some_is}
use Rattle.edit_script.proofs.Fronts.{IsFront, digit_is_no_end, front_is, behind_front_is, front_parts, behind_front_ends, number_back, number_again, below_back, below_again}
use Rattle.edit_script.proofs.Quotes.{quoted_back, quoted_again}

abbrev Stands : Kind → List ℕ → Word × List ℕ → Type 0
Stands k line x = BeginsWith line x.0 x.1 × Suits k x.0

word_back : (k : Kind) (line : List ℕ) (x : Word × List ℕ) → word_at k line ≡ Some x → Stands k line x
word_back Revision line x e =
    let y = bind_some (number_below (2 ^ 32) line) (λ y. Some (Number y.0, y.1)) x e in
    let made : Word × List ℕ = (Number y.0.0, y.0.1) in
    subst (Stands Revision line) (some_is made x y.2) (below_back (2 ^ 32) line y.0 y.1)
word_back Place line x e =
    let y = bind_some (number_at line) (λ y. Some (Number y.0, y.1)) x e in
    let made : Word × List ℕ = (Number y.0.0, y.0.1) in
    subst (Stands Place line) (some_is made x y.2) (number_back line y.0 y.1)
word_back Byte line x e =
    let y = bind_some (number_below 256 line) (λ y. Some (Number y.0, y.1)) x e in
    let made : Word × List ℕ = (Number y.0.0, y.0.1) in
    subst (Stands Byte line) (some_is made x y.2) (below_back 256 line y.0 y.1)
word_back Text line x e =
    let y = bind_some (quoted_at line) (λ y. Some (Quoted y.0, y.1)) x e in
    let made : Word × List ℕ = (Quoted y.0.0, y.0.1) in
    subst (Stands Text line) (some_is made x y.2) (quoted_back line y.0 y.1, tt)

word_again : (k : Kind) (line : List ℕ) (w : Word) (rest : List ℕ) → Suits k w → BeginsWith line w rest → word_at k line ≡ Some (w, rest)
word_again Revision line (Number n) rest s b = rw (below_again (2 ^ 32) line n rest (lit≤ tt) b s) refl
word_again Revision line (Name t) rest s b = absurd s
word_again Revision line (Quoted t) rest s b = absurd s
word_again Place line (Number n) rest s b = rw (number_again line n rest b s) refl
word_again Place line (Name t) rest s b = absurd s
word_again Place line (Quoted t) rest s b = absurd s
word_again Byte line (Number n) rest s b = rw (below_again 256 line n rest (lit≤ tt) b s) refl
word_again Byte line (Name t) rest s b = absurd s
word_again Byte line (Quoted t) rest s b = absurd s
word_again Text line (Number n) rest s b = absurd s
word_again Text line (Name t) rest s b = absurd s
word_again Text line (Quoted t) rest s b = rw (quoted_again line t rest b) refl

comment_back : (t : List ℕ) → is_comment t ≡ true → IsComment t
comment_back [] h = tt
comment_back (b ∷ t) h = eqb-true b 35 h

pub comment_again : (t : List ℕ) → IsComment t → is_comment t ≡ true
comment_again [] h = refl
comment_again (b ∷ t) h = eq-eqb b 35 h

-- ---- words of given kinds

blanks_shorten : (line : List ℕ) → length (behind_blanks line) ≤ length line
blanks_shorten [] = omega arith
blanks_shorten (b ∷ bs) =
    elim (cases_Bool (is_blank b)) [
      | inl e ↦ rw e (omega (arith, blanks_shorten bs))
      | inr e ↦ rw e (omega arith)
    ]

-- how a word of a kind begins
abbrev Begins : List ℕ → List ℕ → Type 0
Begins text rest = (0 < length text) × (is_comment (text ++ rest) ≡ false)

numeral_begins : (text rest : List ℕ) → IsNumeral 10 text → Begins text rest
numeral_begins [] rest h = absurd (omega (arith, h.0))
numeral_begins (c ∷ cs) rest h = (omega arith, (or_parts (is_blank c) (eqb c 35) (digit_is_no_end c (digit_from_value c h.1.0))).1)

word_begins : (k : Kind) (w : Word) (text rest : List ℕ) → Suits k w → Spells w text → Begins text rest
word_begins Revision (Number n) text rest s h = numeral_begins text rest h.0
word_begins Revision (Name t) text rest s h = absurd s
word_begins Revision (Quoted t) text rest s h = absurd s
word_begins Place (Number n) text rest s h = numeral_begins text rest h.0
word_begins Place (Name t) text rest s h = absurd s
word_begins Place (Quoted t) text rest s h = absurd s
word_begins Byte (Number n) text rest s h = numeral_begins text rest h.0
word_begins Byte (Name t) text rest s h = absurd s
word_begins Byte (Quoted t) text rest s h = absurd s
word_begins Text (Number n) text rest s h = absurd s
word_begins Text (Name t) text rest s h = absurd s
word_begins Text (Quoted t) text rest s h = rw h.2 (omega arith, refl)

-- a line that begins with a word is no comment, and what is left is shorter
pub begins : (k : Kind) (line : List ℕ) (w : Word) (rest : List ℕ) → Suits k w → BeginsWith line w rest
    → (length rest < length line) × (is_comment (behind_blanks line) ≡ false)
begins k line w rest s b =
    let h = word_begins k w b.text rest s b.spelled in
    (omega (arith, h.0, blanks_shorten line, ap length b.parts, length-append b.text rest), ap is_comment b.parts ∙ h.1)

pub word_shrinks : (k : Kind) (line : List ℕ) (x : Word × List ℕ) → word_at k line ≡ Some x → length x.1 < length line
word_shrinks k line x e = let b = word_back k line x e in (begins k line x.0 x.1 b.1 b.0).0

-- what a tail reads stands there
abbrev TailBack : (List ℕ → Option (List Word)) → List Kind → Type 0
TailBack tail again = (line : List ℕ) (ws : List Word) → tail line ≡ Some ws → HasWords line ws × HasKinds again [] ws

words_back : (tail : List ℕ → Option (List Word)) (again : List Kind) → TailBack tail again → (kinds : List Kind) (line : List ℕ) (ws : List Word)
    → words_at tail kinds line ≡ Some ws → HasWords line ws × HasKinds again kinds ws
words_back tail again law [] line ws e = law line ws e
words_back tail again law (k ∷ kinds) line ws e =
    let x = bind_some (word_at k line) (λ x. words_at tail kinds x.1 >>= λ ws. Some (x.0 ∷ ws)) ws e in
    let y = bind_some (words_at tail kinds x.0.1) (λ ws. Some (x.0.0 ∷ ws)) ws x.2 in
    let first = word_back k line x.0 x.1 in
    let others = words_back tail again law kinds x.0.1 y.0 y.1 in
    subst (λ (vs : List Word). HasWords line vs × HasKinds again (k ∷ kinds) vs) (some_is (x.0.0 ∷ y.0) ws y.2)
    ((x.0.1, first.0, others.0), (first.1, others.1))

end_back : (again : List Kind) → TailBack end_at again
end_back again line ws e =
    let p = passed (is_comment (behind_blanks line)) [] ws e in
    subst (λ (vs : List Word). HasWords line vs × HasKinds again [] vs) p.1 (comment_back (behind_blanks line) p.0, tt)

begin_again : (kind : Kind) (kinds : List Kind) (ws : List Word) → HasKinds (kind ∷ kinds) (kind ∷ kinds) ws → HasKinds (kind ∷ kinds) [] ws
begin_again kind kinds [] h = absurd h
begin_again kind kinds (w ∷ ws) h = h

groups_back : (k : ℕ) (kind : Kind) (kinds : List Kind) → TailBack (groups_at k (kind ∷ kinds)) (kind ∷ kinds)
unfolding groups_at
groups_back zero kind kinds line ws e = end_back (kind ∷ kinds) line ws e
groups_back (suc k) kind kinds line ws e =
    let group = kind ∷ kinds in
    elim (chosen (is_comment (behind_blanks line)) (Some []) (words_at (groups_at k group) group line) (Some ws) e) [
      | inl p ↦ subst (λ (vs : List Word). HasWords line vs × HasKinds group [] vs) (some_is [] ws p.1) (comment_back (behind_blanks line) p.0, tt)
      | inr p ↦
          let h = words_back (groups_at k group) group (groups_back k kind kinds) group line ws p.1 in
          (h.0, begin_again kind kinds ws h.1)
    ]

again_back : (kinds : List Kind) → TailBack (again_at kinds) kinds
again_back [] line ws e = end_back [] line ws e
again_back (kind ∷ kinds) line ws e = groups_back (length line) kind kinds line ws e

-- words that stand there are read by a tail
abbrev TailAgain : (List ℕ → Option (List Word)) → List Kind → Type 0
TailAgain tail again = (line : List ℕ) (ws : List Word) → HasKinds again [] ws → HasWords line ws → tail line ≡ Some ws

words_again : (tail : List ℕ → Option (List Word)) (again : List Kind) → TailAgain tail again → (kinds : List Kind) (line : List ℕ) (ws : List Word)
    → HasKinds again kinds ws → HasWords line ws → words_at tail kinds line ≡ Some ws
words_again tail again law [] line ws s h = law line ws s h
words_again tail again law (k ∷ kinds) line [] s h = absurd s
words_again tail again law (k ∷ kinds) line (w ∷ ws) s h =
    rw (word_again k line w h.0 s.0 h.1, words_again tail again law kinds h.0 ws s.1 h.2) refl

end_again : TailAgain end_at []
end_again line [] s h = rw (comment_again (behind_blanks line) h) refl
end_again line (w ∷ ws) s h = absurd s

pub groups_end : (k : ℕ) (kinds : List Kind) (line : List ℕ) → is_comment (behind_blanks line) ≡ true → groups_at k kinds line ≡ Some []
unfolding groups_at
groups_end zero kinds line e = rw e refl
groups_end (suc k) kinds line e = rw e refl

pub groups_more : (k : ℕ) (kinds : List Kind) (line : List ℕ) → is_comment (behind_blanks line) ≡ false
    → groups_at (suc k) kinds line ≡ words_at (groups_at k kinds) kinds line
unfolding groups_at
groups_more k kinds line e = rw e refl

groups_again : (k : ℕ) (kind : Kind) (group kinds : List Kind) (line : List ℕ) (ws : List Word) → HasKinds (kind ∷ group) kinds ws
    → HasWords line ws → length line ≤ k → words_at (groups_at k (kind ∷ group)) kinds line ≡ Some ws
groups_again k kind group [] line [] s h few = groups_end k (kind ∷ group) line (comment_again (behind_blanks line) h)
groups_again zero kind group [] line (w ∷ ws) s h few = absurd (omega (arith, (begins kind line w h.0 s.0 h.1).0))
groups_again (suc k) kind group [] line (w ∷ ws) s h few =
    let b = begins kind line w h.0 s.0 h.1 in
    groups_more k (kind ∷ group) line b.1
    ∙ rw (word_again kind line w h.0 s.0 h.1, groups_again k kind group group h.0 ws s.1 h.2 (omega (arith, b.0))) refl
groups_again k kind group (d ∷ kinds) line [] s h few = absurd s
groups_again k kind group (d ∷ kinds) line (w ∷ ws) s h few =
    let b = begins d line w h.0 s.0 h.1 in
    rw (word_again d line w h.0 s.0 h.1, groups_again k kind group kinds h.0 ws s.1 h.2 (omega (arith, b.0))) refl

again_again : (kinds : List Kind) → TailAgain (again_at kinds) kinds
again_again [] line ws s h = end_again line ws s h
again_again (kind ∷ kinds) line ws s h = groups_again (length line) kind kinds [] line ws s h (omega arith)

-- ---- names

-- one byte or more, and none that ends a word
abbrev pub is_name : List ℕ → Bool
is_name name = ltb 0 (length name) && list_all (λ b. not (ends_word b)) name

abbrev pub names_hold : List (List ℕ × Shape) → Bool
names_hold table = list_all (λ (x : List ℕ × Shape). is_name x.0) table

name_in : (table : List (List ℕ × Shape)) (name : List ℕ) (shape : Shape) → names_hold table ≡ true → shape_in table name ≡ Some shape → is_name name ≡ true
name_in [] name shape h e = absurd cc
name_in (x ∷ table) name shape h e =
    let p = and_parts (is_name x.0) (names_hold table) h in
    elim (chosen (bytes_eq name x.0) (Some x.1) (shape_in table name) (Some shape) e) [
      | inl q ↦ subst (λ (n : List ℕ). is_name n ≡ true) (sym ((bytes_eq-Decides name x.0).0 q.0)) p.0
      | inr q ↦ name_in table name shape p.1 q.1
    ]

pub name_is : (name : List ℕ) (shape : Shape) → shape_of name ≡ Some shape → is_name name ≡ true
name_is name shape e = name_in shapes name shape refl e

pub not_comment : (name rest : List ℕ) → is_name name ≡ true → is_comment (name ++ rest) ≡ false
not_comment [] rest h = absurd cc
not_comment (b ∷ name) rest h =
    let p = and_parts (not (ends_word b)) (list_all (λ b. not (ends_word b)) name) (and_parts (ltb 0 (length (b ∷ name))) _ h).1 in
    (or_parts (is_blank b) (eqb b 35) (not-true (ends_word b) p.0)).1

-- ---- lines

-- what is read behind a name of a table stands there
pub named_back : (table : List (List ℕ × Shape)) (line : List ℕ) (ws : List Word)
    → named_in table (front_word (behind_blanks line)) (behind_front (behind_blanks line)) ≡ Some ws → IsNamedIn table ws × HasWords line ws
named_back table line ws e =
    let t = behind_blanks line in
    let s = bind_some (shape_in table (front_word t)) (λ shape. words_at (again_at shape.again) shape.once (behind_front t) >>= λ ws. Some (Name (front_word t) ∷ ws)) ws e in
    let y = bind_some (words_at (again_at s.0.again) s.0.once (behind_front t)) (λ ws. Some (Name (front_word t) ∷ ws)) ws s.2 in
    let others = words_back (again_at s.0.again) s.0.again (again_back s.0.again) s.0.once (behind_front t) y.0 y.1 in
    let first : BeginsWith line (Name (front_word t)) (behind_front t) = record { text = front_word t; spelled = refl; parts = front_parts t; ends = behind_front_ends t } in
    subst (λ (vs : List Word). IsNamedIn table vs × HasWords line vs) (some_is (Name (front_word t) ∷ y.0) ws y.2)
    ((s.0, s.1, others.1), (behind_front t, first, others.0))

-- a name of a table and the words behind it that stand in a line are read
pub named_again : (table : List (List ℕ × Shape)) (line : List ℕ) (ws : List Word) → names_hold table ≡ true → IsNamedIn table ws → HasWords line ws
    → (is_comment (behind_blanks line) ≡ false)
    × (named_in table (front_word (behind_blanks line)) (behind_front (behind_blanks line)) ≡ Some ws)
named_again table line [] hold c h = absurd c
named_again table line (Number n ∷ ws) hold c h = absurd c
named_again table line (Quoted bytes ∷ ws) hold c h = absurd c
named_again table line (Name name ∷ ws) hold c h =
    let b = h.1 in
    let rest = h.0 in
    let is = name_in table name c.0 hold c.1 in
    let plain : IsFront name = (and_parts (ltb 0 (length name)) (list_all (λ b. not (ends_word b)) name) is).1 in
    let parts : behind_blanks line ≡ name ++ rest = b.parts ∙ ap (λ (t : List ℕ). t ++ rest) b.spelled in (
      ap is_comment parts ∙ not_comment name rest is,
      rw (parts, front_is name rest plain b.ends, behind_front_is name rest plain b.ends, c.1, words_again (again_at c.0.again) c.0.again (again_again c.0.again) c.0.once rest ws c.2 h.2) refl,
    )

line_named : (ws : List Word) → IsNamedIn shapes ws → IsLine ws
line_named [] c = absurd c
line_named (Number n ∷ ws) c = absurd c
line_named (Quoted bytes ∷ ws) c = absurd c
line_named (Name name ∷ ws) c = c

-- what is read of a line stands there
pub line_back : (line : List ℕ) (ws : List Word) → line_at line ≡ Some ws → IsLine ws × HasWords line ws
line_back line ws e =
    let t = behind_blanks line in
    elim (chosen (is_comment t) (Some []) (named_at (front_word t) (behind_front t)) (Some ws) e) [
      | inl p ↦ subst (λ (vs : List Word). IsLine vs × HasWords line vs) (some_is [] ws p.1) (refl, comment_back t p.0)
      | inr p ↦ let h = named_back shapes line ws p.1 in (line_named ws h.0, h.1)
    ]

-- the words of a command that stand in a line are read
pub line_again : (line : List ℕ) (ws : List Word) → IsLine ws → HasWords line ws → line_at line ≡ Some ws
line_again line [] c h = rw (comment_again (behind_blanks line) h) refl
line_again line (Number n ∷ ws) c h = absurd cc
line_again line (Quoted bytes ∷ ws) c h = absurd cc
line_again line (Name name ∷ ws) c h =
    let n = named_again shapes line (Name name ∷ ws) refl c h in
    rw (n.0) (n.1)

pub is_found : (line : List ℕ) (room : Room) (r : Result (Option Edit) LineFault) → IsReadAs (said room) r (line_at line)
    → IfOk r (λ x. IsLine (said room x) × HasWords line (said room x))
is_found line room (Ok x) read = line_back line (said room x) read
is_found line room (Err e) read = tt

pub is_only : (line : List ℕ) (room : Room) (r : Result (Option Edit) LineFault) → IsReadAs (said room) r (line_at line)
    → (ws : List Word) → IsLine ws → HasWords line ws → IsReadAs (said room) r (Some ws)
is_only line room r read ws c h = subst (λ (o : Option (List Word)). IsReadAs (said room) r o) (line_again line ws c h) read

-- no line is two commands
pub one_command : (line : List ℕ) (ws vs : List Word) → IsLine ws → IsLine vs → HasWords line ws → HasWords line vs → ws ≡ vs
one_command line ws vs c d h k = some_is ws vs (sym (line_again line ws c h) ∙ line_again line vs d k)
