-- What a write that was cut short leaves.
use Rattle.std.proofs.Common.{◌≡◌, ◌≢◌, ℕ, zero, suc, ◌+◌, ◌-◌, ◌<◌, ◌≤◌, inl, inr, Bool, true, false, List, [], ◌∷◌, ◌++◌, length, take, refl, sym, ap, subst, ◌∙◌, arith, append_assoc, append-nil, length-append}
use Rattle.std.proofs.lemmas.Bool.{cases_lt}
use Rattle.std.proofs.lemmas.List.{take-append-le}
use Rattle.std.proofs.lemmas.List.Elements.{All-head, All-nil, All-tail, All-take}
use Rattle.std.proofs.Math.Seq.{take-append-add}
use Rattle.line_server.specs.Turns.{HasNoEnd, Step, ended, kept_line}
use Rattle.line_server.specs.Batches.{Serves}
use Rattle.line_server.specs.Cuts.{SplitsWhole, EndsAsLine, LeavesFirst}

abbrev Other : ℕ → Type 0
Other b = b ≢ 10

-- a line in front
whole_more : (line whole : List ℕ) → EndsAsLine whole → EndsAsLine (ended line ++ whole)
whole_more line whole (inl none) = inr (line, ap (λ (x : List ℕ). ended line ++ x) none ∙ append-nil (ended line))
whole_more line whole (inr some) =
    inr (ended line ++ some.0, ap (λ (x : List ℕ). ended line ++ x) some.1 ∙ sym (append_assoc (ended line) some.0 (10 ∷ [])))

long_ended : (line : List ℕ) → length (ended line) ≡ length line + 1
long_ended line = length-append line (10 ∷ [])

-- a part of the first line, or the whole of it
take_part : (line ks : List ℕ) (n : ℕ) → n ≤ length line → take n (ended line ++ ks) ≡ take n line
take_part line ks n h =
    take-append-le n (ended line) ks (omega (arith, h, long_ended line)) ∙ take-append-le n line (10 ∷ []) h

take_all_of_it : (line ks : List ℕ) (n : ℕ) → length line < n
    → take n (ended line ++ ks) ≡ ended line ++ take (n - (length line + 1)) ks
take_all_of_it line ks n h =
    let m = n - (length line + 1) in
    let at : n ≡ length (ended line) + m = omega (arith, h, long_ended line) in
    ap (λ (k : ℕ). take k (ended line ++ ks)) at ∙ take-append-add (ended line) ks m

none_left : {T : Type 0} (step : Step T) (old : T) (lines : List (List ℕ)) (left : List ℕ) → HasNoEnd left → LeavesFirst step old lines left
none_left step old lines left one = record {
  count = 0;
  kept = [];
  told = [];
  new = old;
  part = left;
  served = (refl, refl, refl);
  cut = record { all = refl; open_end = one; lines = inl refl };
}

-- the first line was served, of which this was kept, and others behind it
behind : {T : Type 0} (step : Step T) (old mid : T) (line : List ℕ) (lines : List (List ℕ)) (k : Bool) (a left : List ℕ)
    → HasNoEnd line → step old line k a mid → LeavesFirst step mid lines left → LeavesFirst step old (line ∷ lines) (kept_line k line ++ left)
behind step old mid line lines true a left one takes r = record {
  count = suc r.count;
  kept = ended line ++ r.kept;
  told = ended a ++ r.told;
  new = r.new;
  part = r.part;
  served = (mid, true, a, r.kept, r.told, one, takes, r.served, refl, refl);
  cut = record {
    all = ap (λ (x : List ℕ). ended line ++ x) r.cut.all ∙ sym (append_assoc (ended line) r.kept r.part);
    open_end = r.cut.open_end;
    lines = whole_more line r.kept r.cut.lines;
  };
}
behind step old mid line lines false a left one takes r = record {
  count = suc r.count;
  kept = r.kept;
  told = ended a ++ r.told;
  new = r.new;
  part = r.part;
  served = (mid, false, a, r.kept, r.told, one, takes, r.served, refl, refl);
  cut = r.cut;
}

-- a beginning of what is kept of a line and of others
first_of : {T : Type 0} (step : Step T) (old mid : T) (line : List ℕ) (lines : List (List ℕ)) (k : Bool) (a ks : List ℕ) (n : ℕ)
    → HasNoEnd line → step old line k a mid → ((m : ℕ) → LeavesFirst step mid lines (take m ks))
    → LeavesFirst step old (line ∷ lines) (take n (kept_line k line ++ ks))
first_of step old mid line lines true a ks n one takes others =
    elim (cases_lt (length line) n) [
      | inl whole ↦
          let m = n - (length line + 1) in
          subst (LeavesFirst step old (line ∷ lines)) (sym (take_all_of_it line ks n whole))
          (behind step old mid line lines true a (take m ks) one takes (others m))
      | inr part ↦
          subst (LeavesFirst step old (line ∷ lines)) (sym (take_part line ks n part))
          (none_left step old (line ∷ lines) (take n line) (All-take Other n line one))
    ]
first_of step old mid line lines false a ks n one takes others =
    behind step old mid line lines false a (take n ks) one takes (others n)

take_none : (n : ℕ) (xs : List ℕ) → xs ≡ [] → [] ≡ take n xs
take_none zero [] e = refl
take_none (suc n) [] e = refl
take_none n (x ∷ xs) e = absurd cc

pub leaves : {T : Type 0} (step : Step T) (old new : T) (lines : List (List ℕ)) (kept told : List ℕ)
    → Serves step old lines kept told new → (n : ℕ) → LeavesFirst step old lines (take n kept)
leaves step old new [] kept told h n =
    subst (LeavesFirst step old []) (take_none n kept h.0) (none_left step old [] [] (All-nil Other))
leaves step old new (line ∷ lines) kept told h n =
    subst (LeavesFirst step old (line ∷ lines)) (ap (take n) (sym h.8))
    (first_of step old h.0 line lines h.1 h.2 h.3 n h.5 h.6 (leaves step h.0 new lines h.3 h.4 h.7))

-- ---- one cut

no_ten : (front rest : List ℕ) → HasNoEnd (front ++ 10 ∷ rest) → ⊥
no_ten [] rest all = All-head Other 10 rest all refl
no_ten (c ∷ front) rest all = no_ten front rest (All-tail Other c (front ++ 10 ∷ rest) all)

same_front : (f g x y : List ℕ) → HasNoEnd x → HasNoEnd y → f ++ 10 ∷ x ≡ g ++ 10 ∷ y → f ≡ g
same_front [] [] x y p q e = refl
same_front [] (c ∷ g) x y p q e =
    let tail : x ≡ g ++ 10 ∷ y = cc in absurd (no_ten g y (subst HasNoEnd tail p))
same_front (c ∷ f) [] x y p q e =
    let tail : y ≡ f ++ 10 ∷ x = cc in absurd (no_ten f x (subst HasNoEnd tail q))
same_front (c ∷ f) (d ∷ g) x y p q e =
    let head : c ≡ d = cc in
    let tail : f ++ 10 ∷ x ≡ g ++ 10 ∷ y = cc in
    ap (λ (b : ℕ). b ∷ f) head ∙ ap (λ (t : List ℕ). d ∷ t) (same_front f g x y p q tail)

behind_end : (f x : List ℕ) → ended f ++ x ≡ f ++ 10 ∷ x
behind_end f x = append_assoc f (10 ∷ []) x

one : (a b x y : List ℕ) → a ++ x ≡ b ++ y → HasNoEnd x → HasNoEnd y → EndsAsLine a → EndsAsLine b → a ≡ b
one a b x y e p q (inl r) (inl s) = r ∙ sym s
one a b x y e p q (inl r) (inr s) =
    let is : x ≡ s.0 ++ 10 ∷ y = ap (λ (t : List ℕ). t ++ x) (sym r) ∙ e ∙ ap (λ (t : List ℕ). t ++ y) s.1 ∙ behind_end s.0 y in
    absurd (no_ten s.0 y (subst HasNoEnd is p))
one a b x y e p q (inr r) (inl s) =
    let is : y ≡ r.0 ++ 10 ∷ x = ap (λ (t : List ℕ). t ++ y) (sym s) ∙ sym e ∙ ap (λ (t : List ℕ). t ++ x) r.1 ∙ behind_end r.0 x in
    absurd (no_ten r.0 x (subst HasNoEnd is q))
one a b x y e p q (inr r) (inr s) =
    let is : r.0 ++ 10 ∷ x ≡ s.0 ++ 10 ∷ y =
    sym (ap (λ (t : List ℕ). t ++ x) r.1 ∙ behind_end r.0 x) ∙ e ∙ ap (λ (t : List ℕ). t ++ y) s.1 ∙ behind_end s.0 y in
    r.1 ∙ ap ended (same_front r.0 s.0 x y p q is) ∙ sym s.1

pub one_cut : (text a b x y : List ℕ) → SplitsWhole text a x → SplitsWhole text b y → a ≡ b
one_cut text a b x y p q = one a b x y (sym p.all ∙ q.all) p.open_end q.open_end p.lines q.lines
