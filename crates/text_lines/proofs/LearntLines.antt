-- Lines that are known, and one that is learnt beside them.
use Rattle.std.proofs.Common.{◌≡◌, ℕ, ◌+◌, ◌<◌, ◌≤◌, Bool, true, false, List, [], ◌∷◌, ◌++◌, All, length, take, get_or, Option, Some, None, cond, inl, inr, sym, subst, ap, ◌∙◌, arith}
use Rattle.std.specs.List.{AllZip, filter}
use Rattle.std.proofs.lemmas.Bool.{cases_lt}
use Rattle.std.proofs.lemmas.List.{append-nil, get_or_default, length-append, length-take, take_all, take-append-le}
use Rattle.std.proofs.lemmas.List.Elements.{All-cons, All-filter, All-get_or, All-push, All-same, All-take, all_zip_more, filter_more}
use Rattle.text_lines.specs.declared.known.KnownLine.{KnownLine}
use Rattle.text_lines.specs.declared.known_lines.TheConstants.{MOST_LINES}
use Rattle.text_lines.specs.KnownLines.{ChangesLines, IsLineOf, learnt, stays_beside}

pub all_learnt : (t : List ℕ) (line : KnownLine) (lines : List KnownLine) → IsLineOf t line → All (IsLineOf t) lines → All (IsLineOf t) (learnt line lines)
all_learnt t line lines is all =
    All-take (IsLineOf t) MOST_LINES (line ∷ filter (stays_beside line) lines)
    (All-cons (IsLineOf t) line (filter (stays_beside line) lines) is (All-filter (stays_beside line) (IsLineOf t) lines all))

-- ---- one of those that were known after the other

kept_more : (line : KnownLine) (known : List KnownLine) (k : ℕ) (d : KnownLine) (b : Bool) → k < length known → stays_beside line (get_or known k d) ≡ b
    → filter (stays_beside line) (take (k + 1) known) ≡ filter (stays_beside line) (take k known) ++ cond b (get_or known k d ∷ []) []
kept_more line known k d b lt stays =
    filter_more (stays_beside line) known k d lt
    ∙ ap (λ (c : Bool). filter (stays_beside line) (take k known) ++ cond c (get_or known k d ∷ []) []) stays

-- it does not stay
pub learnt_without : (line : KnownLine) (known : List KnownLine) (k : ℕ) (d : KnownLine) → k < length known → stays_beside line (get_or known k d) ≡ false → learnt line (take k known) ≡ learnt line (take (k + 1) known)
learnt_without line known k d lt stays =
    ap (λ (xs : List KnownLine). take MOST_LINES (line ∷ xs)) (sym (kept_more line known k d false lt stays ∙ append-nil (filter (stays_beside line) (take k known))))

-- there is room for it
pub learnt_with : (line : KnownLine) (known : List KnownLine) (k : ℕ) (d : KnownLine) → k < length known → stays_beside line (get_or known k d) ≡ true → length (learnt line (take k known)) < MOST_LINES
    → learnt line (take k known) ++ get_or known k d ∷ [] ≡ learnt line (take (k + 1) known)
learnt_with line known k d lt stays room =
    let x = get_or known k d in
    let ys : List KnownLine = line ∷ filter (stays_beside line) (take k known) in
    let few : length ys < MOST_LINES = omega (arith, room, length-take MOST_LINES ys) in
    let more : take MOST_LINES (ys ++ x ∷ []) ≡ ys ++ x ∷ [] = take_all MOST_LINES (ys ++ x ∷ []) (omega (arith, few, length-append ys (x ∷ []))) in
    ap (λ (xs : List KnownLine). xs ++ x ∷ []) (take_all MOST_LINES ys (omega (arith, few))) ∙ sym more
    ∙ ap (λ (xs : List KnownLine). take MOST_LINES (line ∷ xs)) (sym (kept_more line known k d true lt stays))

-- there is none
pub learnt_past : (line : KnownLine) (known : List KnownLine) (k : ℕ) (d : KnownLine) → k < length known → stays_beside line (get_or known k d) ≡ true → (length (learnt line (take k known)) < MOST_LINES → ⊥)
    → learnt line (take k known) ≡ learnt line (take (k + 1) known)
learnt_past line known k d lt stays full =
    let x = get_or known k d in
    let ys : List KnownLine = line ∷ filter (stays_beside line) (take k known) in
    let many : MOST_LINES ≤ length ys = elim (cases_lt (length ys) MOST_LINES) [
      | inl few ↦ absurd (full (omega (arith, few, length-take MOST_LINES ys)))
      | inr le ↦ le
    ] in
    sym (take-append-le MOST_LINES ys (x ∷ []) many)
    ∙ ap (λ (xs : List KnownLine). take MOST_LINES (line ∷ xs)) (sym (kept_more line known k d true lt stays))

-- ---- the lines behind a change of the text, one after the other

-- the change made these of the first k lines
pub record CameOut (Makes : KnownLine → Option KnownLine → Type 0) (known : List KnownLine) (k : ℕ) (now : List KnownLine) : Type 0 where
  pub few : length now ≤ k
  pub lines : (t u : List ℕ) → ((line later : KnownLine) → Makes line (Some later) → IsLineOf t line → IsLineOf u later) → All (IsLineOf t) known → All (IsLineOf u) now
  pub each : All (λ line. ¬ Makes line None) known → AllZip (λ line later. Makes line (Some later)) (take k known) now

abbrev pub no_line : KnownLine
no_line = record { start = 0; end = 0 }

module _ {Makes : KnownLine → Option KnownLine → Type 0} {known : List KnownLine} {k : ℕ} {old new : List KnownLine} where
  pub one_out : (line : KnownLine) → new ≡ old ++ line ∷ [] → k < length known → Makes (get_or known k no_line) (Some line) → CameOut Makes known k old → CameOut Makes known (k + 1) new
  one_out line is lt made out =
      let long : length new ≡ length old + 1 = ap length is ∙ length-append old (line ∷ []) in
      record {
        few = omega (arith, long, out.few);
        lines = λ t u law all. All-same (IsLineOf u) new (old ++ line ∷ []) is (All-push (IsLineOf u) old line (out.lines t u law all) (law (get_or known k no_line) line made (All-get_or (IsLineOf t) known k no_line lt all)));
        each = λ all.
            subst (AllZip (λ x later. Makes x (Some later)) (take (k + 1) known)) (sym is)
            (all_zip_more (λ x later. Makes x (Some later)) known old k (get_or known k no_line) line lt (get_or_default known k no_line (get_or known k no_line) lt) (out.each all) made);
      }

  pub one_lost : new ≡ old → k < length known → Makes (get_or known k no_line) None → CameOut Makes known k old → CameOut Makes known (k + 1) new
  one_lost is lt lost out =
      let long : length new ≡ length old = ap length is in
      record {
        few = omega (arith, long, out.few);
        lines = λ t u law all. All-same (IsLineOf u) new old is (out.lines t u law all);
        each = λ all. absurd (All-get_or (λ line. ¬ Makes line None) known k no_line lt all lost);
      }

-- behind the last of them
pub all_made : {Makes : KnownLine → Option KnownLine → Type 0} (items known : List KnownLine) (k : ℕ) (now : List KnownLine) → items ≡ known → length items ≤ k → CameOut Makes items k now → ChangesLines Makes known now
all_made {Makes = Makes} items known k now is done out =
    record {
      lines = λ t u law all. out.lines t u law (All-same (IsLineOf t) items known is all);
      each = λ all. subst (λ (xs : List KnownLine). AllZip (λ line later. Makes line (Some later)) xs now) (take_all k items done ∙ is) (out.each (All-same (λ line. ¬ Makes line None) items known is all));
    }

-- what each line became, where each stays
each_became : {Makes Becomes : KnownLine → KnownLine → Type 0} → ((line later : KnownLine) → Makes line later → Becomes line later) → (xs ys : List KnownLine) → AllZip Makes xs ys → AllZip Becomes xs ys
each_became law [] [] made = made
each_became law [] (y ∷ ys) made = absurd made
each_became law (x ∷ xs) [] made = absurd made
each_became law (x ∷ xs) (y ∷ ys) made = (law x y made.0, each_became law xs ys made.1)

pub each_stayed : {Makes : KnownLine → Option KnownLine → Type 0} {Stays : KnownLine → Type 0} {Becomes : KnownLine → KnownLine → Type 0} (xs ys : List KnownLine) → ChangesLines Makes xs ys → ((line later : KnownLine) → Makes line (Some later) → Becomes line later)
    → ((line : KnownLine) → Stays line → ¬ Makes line None) → All Stays xs → AllZip Becomes xs ys
each_stayed xs ys made becomes stays all = each_became becomes xs ys (made.each (λ k d lt. stays (get_or xs k d) (all k d lt)))
