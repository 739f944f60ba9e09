-- Changes that are handed in make of a text what they make of its middle.
use Rattle.std.proofs.Common.{◌≡◌, ℕ, zero, suc, ◌+◌, ◌-◌, ◌<◌, ◌≤◌, List, [], ◌∷◌, ◌++◌, length, map, take, drop, get_or, refl, sym, ap, subst, ◌∙◌, append_assoc, arith}
use Rattle.std.specs.Prelude.{slice_range}
use Rattle.std.specs.List.{sum_by}
use Rattle.std.proofs.lemmas.List.{take_at, drop_at, take-append-le, take-append-drop, drop-append-le, drop-drop, length-append, length-take-le, length-take, append-nil, take_all, get_or-take, get_or-drop}
use Rattle.std.proofs.lemmas.List.Sums.{sum_by-cons}
use Rattle.std.proofs.Math.Seq.{take-append-add, drop-append-add}
use Rattle.command_parts.specs.Commands.{replaced}
use Rattle.edit_commands.specs.declared.command.Change as Session
use Rattle.line_changes.specs.declared.change.Change.{Change}
use Rattle.line_changes.specs.Turns.{IsChange, Turns, with_change, with_changes}
use Rattle.line_changes.proofs.Turned.{mixed, part_length, turned}
use Rattle.commit_tools.specs.declared.found.Found.{Found}
use Rattle.commit_tools.specs.Found.{IsBeside, file_middle}
use Rattle.commit_tools.specs.Handed.{bytes_put, shifted, with_handed}

-- ---- one change

between : {X : Type 0} (f a x d b : List X) → (f ++ a) ++ x ++ (d ++ b) ≡ f ++ (a ++ x ++ d ++ b)
between f a x d b = simp append_assoc

pub shifted_change : (f x b put : List ℕ) (front from to : ℕ) → length f ≡ front → from ≤ to → to ≤ length x
    → replaced (f ++ (x ++ b)) (front + from) (to - from) put ≡ f ++ (with_change x from to put ++ b)
shifted_change f x b put front from to long order inside =
    let at : front + from ≡ length f + from = omega (arith, long) in
    let end : front + from + (to - from) ≡ length f + to = omega (arith, long) in
    let before : take (front + from) (f ++ (x ++ b)) ≡ f ++ take from x =
    ap (λ (n : ℕ). take n (f ++ (x ++ b))) at ∙ take-append-add f (x ++ b) from ∙ ap (λ (p : List ℕ). f ++ p) (take-append-le from x b (omega arith)) in
    let behind : drop (front + from + (to - from)) (f ++ (x ++ b)) ≡ drop to x ++ b =
    ap (λ (n : ℕ). drop n (f ++ (x ++ b))) end ∙ drop-append-add f (x ++ b) to ∙ drop-append-le to x b inside in
    ap (λ (p : List ℕ). p ++ put ++ drop (front + from + (to - from)) (f ++ (x ++ b))) before
    ∙ ap (λ (p : List ℕ). (f ++ take from x) ++ put ++ p) behind
    ∙ between f (take from x) put (drop to x) b

-- ---- a batch

module _ (old new f b : List ℕ) (front : ℕ) (long : length f ≡ front) where
  text_behind : List Change → List ℕ
  text_behind after = f ++ (with_changes new old after ++ b)

  -- behind the end of a change the first text is as long as up to there at least
  reaches : (c : Change) (after : List Change) → IsChange old new c → Turns old new c.to c.put_to after (length old) (length new) → c.to ≤ length (with_changes new old after)
  reaches c after is turns =
      let whole : mixed old new (length old) (length new) ≡ old =
      ap (λ (p : List ℕ). p ++ drop (length new) new) (take_all (length old) old (omega arith)) ∙ ap (λ (p : List ℕ). old ++ p) (nothing_behind new) ∙ append-nil old in
      let made : with_changes new old after ≡ mixed old new c.to c.put_to =
      ap (λ (t : List ℕ). with_changes new t after) (sym whole) ∙ turned old new c.to c.put_to after (length old) (length new) turns in
      omega (arith, ap length made, length-append (take c.to old) (drop c.put_to new), length-take-le c.to old is.taken.inside)
    where
      nothing_behind : (xs : List ℕ) → drop (length xs) xs ≡ []
      nothing_behind [] = refl
      nothing_behind (x ∷ xs) = nothing_behind xs

  pub batch_made : (batch after : List Change) (i j : ℕ) → Turns old new i j (batch ++ after) (length old) (length new)
      → with_handed (f ++ (with_changes new old after ++ b)) (map (shifted front) batch) (bytes_put new batch) ≡ f ++ (with_changes new old (batch ++ after) ++ b)
  batch_made [] after i j turns = refl
  batch_made (c ∷ batch) after i j turns =
      let put = slice_range new c.put_from c.put_to in
      let n : ℕ = c.put_to - c.put_from in
      let others = bytes_put new batch in
      let size : length put ≡ n = part_length new c.put_from c.put_to turns.1.put.order turns.1.put.inside in
      let text = f ++ (with_changes new old after ++ b) in
      ap (λ (p : List ℕ). replaced (with_handed text (map (shifted front) batch) p) (front + c.from) (c.to - c.from) (take n (put ++ others))) (drop_at put others n size)
      ∙ ap (λ (p : List ℕ). replaced (with_handed text (map (shifted front) batch) others) (front + c.from) (c.to - c.from) p) (take_at put others n size)
      ∙ ap (λ (t : List ℕ). replaced t (front + c.from) (c.to - c.from) put) (batch_made batch after c.to c.put_to turns.2)
      ∙ shifted_change f (with_changes new old (batch ++ after)) b put front c.from c.to long turns.1.taken.order (reaches c (batch ++ after) turns.1 turns.2)

-- they take all their bytes
pub batch_takes : (old new : List ℕ) (front : ℕ) (batch after : List Change) (i j y z : ℕ) → Turns old new i j (batch ++ after) y z
    → sum_by (λ (c : Session.Change). c.n) (map (shifted front) batch) ≡ length (bytes_put new batch)
batch_takes old new front [] after i j y z turns = refl
batch_takes old new front (c ∷ batch) after i j y z turns =
    let put = slice_range new c.put_from c.put_to in
    let size : length put ≡ c.put_to - c.put_from = part_length new c.put_from c.put_to turns.1.put.order turns.1.put.inside in
    let rest = batch_takes old new front batch after c.to c.put_to y z turns.2 in
    sum_by-cons (λ (d : Session.Change). d.n) (shifted front c) (map (shifted front) batch)
    ∙ omega (arith, rest, size, length-append put (bytes_put new batch))

-- ---- changes from a number on

-- they turn the first text into the second from some places on
pub turns_from : (old new : List ℕ) (i j k : ℕ) (changes : List Change) (y z : ℕ) → Turns old new i j changes y z → (u : ℕ) × (v : ℕ) × Turns old new u v (drop k changes) y z
turns_from old new i j zero changes y z turns = (i, j, turns)
turns_from old new i j (suc k) [] y z turns = (i, j, turns)
turns_from old new i j (suc k) (c ∷ changes) y z turns = turns_from old new c.to c.put_to k changes y z turns.2

pub batch_then : (changes : List Change) (first left : ℕ) → first ≤ left → slice_range changes first left ++ drop left changes ≡ drop first changes
batch_then changes first left order =
    let whole : first + (left - first) ≡ left = omega arith in
    ap (λ (r : List Change). slice_range changes first left ++ r) (sym (drop-drop (left - first) first changes ∙ ap (λ (n : ℕ). drop n changes) whole))
    ∙ take-append-drop (left - first) (drop first changes)

-- the change at a number is one
change_at : (old new : List ℕ) (i j : ℕ) (changes : List Change) (y z k : ℕ) (d : Change) → Turns old new i j changes y z → k < length changes → IsChange old new (get_or changes k d)
change_at old new i j [] y z k d turns lt = absurd (omega (arith, lt))
change_at old new i j (c ∷ changes) y z zero d turns lt = turns.1
change_at old new i j (c ∷ changes) y z (suc k) d turns lt = change_at old new c.to c.put_to changes y z k d turns.2 (omega (arith, lt))

pub change_of_part : (old new : List ℕ) (changes : List Change) (y z first left k : ℕ) (d : Change) → Turns old new 0 0 changes y z → first ≤ left → left ≤ length changes → k < length (slice_range changes first left)
    → IsChange old new (get_or (slice_range changes first left) k d)
change_of_part old new changes y z first left k d turns order inside lt =
    let below : k < left - first = omega (arith, lt, length-take (left - first) (drop first changes)) in
    let same : get_or (slice_range changes first left) k d ≡ get_or changes (first + k) d =
    get_or-take (left - first) (drop first changes) k d below ∙ get_or-drop first changes k d in
    subst (IsChange old new) (sym same) (change_at old new 0 0 changes y z (first + k) d turns (omega (arith, below)))

-- a change of a batch is one
pub change_in : (found : Found) (file : List ℕ) (first left : ℕ) (xs : List Change) (k : ℕ) (d : Change) → IsBeside found file → xs ≡ found.changes.items → first ≤ left → left ≤ length found.changes.items
    → k < length (slice_range xs first left) → IsChange found.middle.items (file_middle found file) (get_or (slice_range xs first left) k d)
change_in found file first left xs k d is same order inside lt =
    let below : k < length (slice_range found.changes.items first left) = subst (λ (ys : List Change). k < length (slice_range ys first left)) same lt in
    subst (λ (ys : List Change). IsChange found.middle.items (file_middle found file) (get_or (slice_range ys first left) k d)) (sym same)
    (change_of_part found.middle.items (file_middle found file) found.changes.items (length found.middle.items) (length (file_middle found file)) first left k d is.turns order inside below)
