-- The order of texts, run by run.
use Rattle.std.proofs.Common.{◌≡◌, ◌↔◌, ◌⊎◌, ℕ, ◌+◌, ◌-◌, ◌<◌, ◌≤◌, min, List, [], ◌∷◌, ◌++◌, length, take, drop, Option, Some, None, Bool, true, false, ◌==◌, inl, inr, refl, subst, sym, ap, arith, ◌∙◌}
use Rattle.std.specs.Prelude.{Result, Ok, Err, IfOk}
use Rattle.std.specs.declared.cmp.Ordering.{Ordering}
use Rattle.std.specs.declared.cmp.Ordering.TheVariants.{Less, Equal, Greater}
use Rattle.std.specs.Ordering.{bool_cmp, nat_cmp, ordering_index, ordering_then}
use Rattle.std.specs.Cmp.{nat_cmp_is}
use Rattle.std.proofs.lemmas.Map.Lookups.{exact_unsigned}
use Rattle.std.proofs.lemmas.List.{drop-drop, take_all, take-take, length-drop, length-map, length-take, length-take-le, get_or_past}
use Rattle.std.proofs.Math.Seq.{take-add}
use Rattle.std.proofs.lemmas.Bool.{cases_lt}
use Rattle.rope_node.specs.declared.node.NodeId.{NodeId}
use Rattle.rope_node.specs.Table.{Table, len_at}
use Rattle.rope_node.specs.Denotes.{Byte, cell_byte, cells, rope_cells, rope_len, text}
use Rattle.lazy_file.specs.SourceTexts.{Stated}
use Rattle.lazy_file.specs.declared.faults.SourceFault.{SourceFault}
use Rattle.cord_position.specs.Fetched.{EachCell, IsStated, rope_cell}
use Rattle.cord_search.specs.Order.{order}
use Rattle.cord_search.specs.Stated.{OfTexts, OrdersParts, order_of_parts}

-- what a test of an order tells, and of a number
pub order_equal : (o : Ordering) → (ordering_index o == 1) ≡ true → o ≡ Equal
order_equal Less h = absurd cc
order_equal Equal h = refl
order_equal Greater h = absurd cc

pub order_other : (o : Ordering) → (ordering_index o == 1) ≡ false → o ≡ Equal → ⊥
order_other Less h e = absurd cc
order_other Equal h e = absurd cc
order_other Greater h e = absurd cc

pub positive : (n : ℕ) → (n ≡ 0 → ⊥) → 1 ≤ n
positive n other =
    elim (cases_lt 0 n) [
      | inl lt ↦ lt
      | inr none ↦ absurd (other (omega (arith, none)))
    ]

-- equal orders of equal lists, and what lists of equal order are
order_same : (xs : List ℕ) → order xs xs ≡ Equal
order_same [] = refl
order_same (x ∷ xs) = ap (λ o. ordering_then o (order xs xs)) (sym (nat_cmp_is x x Equal refl)) ∙ order_same xs

same_of_order : (xs ys : List ℕ) → order xs ys ≡ Equal → xs ≡ ys
same_of_order [] [] e = refl
same_of_order [] (y ∷ ys) e = absurd cc
same_of_order (x ∷ xs) [] e = absurd cc
same_of_order (x ∷ xs) (y ∷ ys) e = both (nat_cmp x y) refl e (same_of_order xs ys)
  where
    both : (o : Ordering) → nat_cmp x y ≡ o → ordering_then o (order xs ys) ≡ Equal → (order xs ys ≡ Equal → xs ≡ ys) → x ∷ xs ≡ y ∷ ys
    both Less is h rest = absurd cc
    both Equal is h rest = ap (λ (z : ℕ). z ∷ xs) (exact_unsigned x y is) ∙ ap (λ (zs : List ℕ). y ∷ zs) (rest h)
    both Greater is h rest = absurd cc

-- the first bytes decide, unless they are the same
then_then : (o p r : Ordering) → ordering_then o (ordering_then p r) ≡ ordering_then (ordering_then o p) r
then_then Less p r = refl
then_then Equal p r = refl
then_then Greater p r = refl

order_split : (xs ys cs ds : List ℕ) → length xs ≡ length ys → order (xs ++ cs) (ys ++ ds) ≡ ordering_then (order xs ys) (order cs ds)
order_split [] [] cs ds long = refl
order_split [] (y ∷ ys) cs ds long = absurd (omega (arith, long))
order_split (x ∷ xs) [] cs ds long = absurd (omega (arith, long))
order_split (x ∷ xs) (y ∷ ys) cs ds long =
    ap (ordering_then (nat_cmp x y)) (order_split xs ys cs ds (omega (arith, long))) ∙ then_then (nat_cmp x y) (order xs ys) (order cs ds)

then_other : (o r : Ordering) → (o ≡ Equal → ⊥) → ordering_then o r ≡ o
then_other Less r other = refl
then_other Equal r other = absurd (other refl)
then_other Greater r other = refl

order_first : (xs ys : List ℕ) (c m : ℕ) → c ≤ m → length (take c xs) ≡ length (take c ys)
    → order (take m xs) (take m ys) ≡ ordering_then (order (take c xs) (take c ys)) (order (take (m - c) (drop c xs)) (take (m - c) (drop c ys)))
order_first xs ys c m le long =
    let split : m ≡ c + (m - c) = omega (arith, le) in
    ap (λ (n : ℕ). order (take n xs) (take n ys)) split
    ∙ rw (take-add c (m - c) xs, take-add c (m - c) ys) (order_split (take c xs) (take c ys) (take (m - c) (drop c xs)) (take (m - c) (drop c ys)) long)

first_decides : (xs ys : List ℕ) (c m : ℕ) → c ≤ m → length (take c xs) ≡ length (take c ys) → (order (take c xs) (take c ys) ≡ Equal → ⊥) → order (take m xs) (take m ys) ≡ order (take c xs) (take c ys)
first_decides xs ys c m le long other =
    order_first xs ys c m le long ∙ then_other (order (take c xs) (take c ys)) (order (take (m - c) (drop c xs)) (take (m - c) (drop c ys))) other

-- the order of n bytes from i and j on is that of what is left of them behind the first k
abbrev pub IsOrderOfRest : ℕ → ℕ → ℕ → ℕ → List ℕ → List ℕ → Type 0
IsOrderOfRest i j n k t u = order (take n (drop i t)) (take n (drop j u)) ≡ order (take (n - k) (drop (i + k) t)) (take (n - k) (drop (j + k) u))

-- behind all of them nothing is left
nothing_left : (i j m k : ℕ) (t u : List ℕ) → m ≤ k → order (take (m - k) (drop (i + k) t)) (take (m - k) (drop (j + k) u)) ≡ Equal
nothing_left i j m k t u le = let none : m - k ≡ 0 = omega (arith, le) in rw none refl

pub rest_none : (t u : List ℕ) (i j m k : ℕ) → m ≤ k → IsOrderOfRest i j m k t u → order_of_parts i j m t u ≡ Equal
rest_none t u i j m k le so_far = so_far ∙ nothing_left i j m k t u le

-- what two runs tell of that rest: where they differ, where they are the same, and where one of the texts has ended
pub rest_differs : (t u left right : List ℕ) (i j n m k c : ℕ) → m ≤ n → k < n → c ≤ length left → c ≤ length right → c ≤ n - k
    → ((b : ℕ) → b ≤ c → k + b ≤ m → take b left ≡ take b (drop (i + k) t)) → ((b : ℕ) → b ≤ c → k + b ≤ m → take b right ≡ take b (drop (j + k) u))
    → (order (take c left) (take c right) ≡ Equal → ⊥) → (m ≡ n) ⊎ (order_of_parts i j m t u ≡ Equal → ⊥) → IsOrderOfRest i j m k t u → order (take c left) (take c right) ≡ order_of_parts i j m t u
rest_differs t u left right i j n m k c le lt inleft inright few first second other which so_far =
    elim (cases_lt m (k + c)) [
      | inl short ↦ elim which [
        | inl all ↦ absurd (omega (arith, all, short, few, lt))
        | inr differ ↦ elim (cases_lt k m) [
          | inl some ↦
              let b = m - k in
              let same : order (take b left) (take b right) ≡ order (take b (drop (i + k) t)) (take b (drop (j + k) u)) = rw (first b (omega (arith, short)) (omega (arith, some)), second b (omega (arith, short)) (omega (arith, some))) refl in
              let long : length (take b left) ≡ length (take b right) = omega (arith, length-take b left, length-take b right, short, inleft, inright) in
              let apart : order (take b left) (take b right) ≡ Equal → ⊥ = λ e. differ (so_far ∙ sym same ∙ e) in
              first_decides left right b c (omega (arith, short)) long apart ∙ same ∙ sym so_far
          | inr past ↦ absurd (differ (rest_none t u i j m k past so_far))
        ]
      ]
      | inr whole ↦
          let same : order (take c left) (take c right) ≡ order (take c (drop (i + k) t)) (take c (drop (j + k) u)) = rw (first c (omega arith) whole, second c (omega arith) whole) refl in
          let long : length (take c (drop (i + k) t)) ≡ length (take c (drop (j + k) u)) = sym (ap length (first c (omega arith) whole)) ∙ length-take-le c left inleft ∙ sym (length-take-le c right inright) ∙ ap length (second c (omega arith) whole) in
          same ∙ sym (first_decides (drop (i + k) t) (drop (j + k) u) c (m - k) (omega (arith, whole)) long (λ e. other (same ∙ e))) ∙ sym so_far
    ]

pub rest_same : (t u left right : List ℕ) (i j m k c : ℕ) → c ≤ length left → c ≤ length right
    → ((b : ℕ) → b ≤ c → k + b ≤ m → take b left ≡ take b (drop (i + k) t)) → ((b : ℕ) → b ≤ c → k + b ≤ m → take b right ≡ take b (drop (j + k) u))
    → order (take c left) (take c right) ≡ Equal → IsOrderOfRest i j m k t u → IsOrderOfRest i j m (k + c) t u
rest_same t u left right i j m k c inleft inright first second equal so_far =
    elim (cases_lt m (k + c)) [
      | inl short ↦ elim (cases_lt k m) [
        | inl some ↦
            let b = m - k in
            let few : b ≤ c = omega (arith, short) in
            let is : take b left ≡ take b right =
            sym (take-take b c left few) ∙ ap (take b) (same_of_order (take c left) (take c right) equal) ∙ take-take b c right few in
            let texts : take b (drop (i + k) t) ≡ take b (drop (j + k) u) = sym (first b few (omega (arith, some))) ∙ is ∙ second b few (omega (arith, some)) in
            so_far ∙ ap (λ (zs : List ℕ). order zs (take b (drop (j + k) u))) texts ∙ order_same (take b (drop (j + k) u)) ∙ sym (nothing_left i j m (k + c) t u (omega (arith, short)))
        | inr past ↦ rest_none t u i j m k past so_far ∙ sym (nothing_left i j m (k + c) t u (omega (arith, past)))
      ]
      | inr whole ↦
          let xs = drop (i + k) t in
          let ys = drop (j + k) u in
          let same : order (take c xs) (take c ys) ≡ Equal = rw (sym (first c (omega arith) whole), sym (second c (omega arith) whole)) equal in
          let long : length (take c xs) ≡ length (take c ys) = ap length (same_of_order (take c xs) (take c ys) same) in
          let left_over : (m - k) - c ≡ m - (k + c) = omega (arith, whole) in
          let there : drop c xs ≡ drop (i + (k + c)) t = drop-drop c (i + k) t ∙ ap (λ (p : ℕ). drop p t) (omega arith) in
          let thence : drop c ys ≡ drop (j + (k + c)) u = drop-drop c (j + k) u ∙ ap (λ (p : ℕ). drop p u) (omega arith) in
          so_far ∙ order_first xs ys c (m - k) (omega (arith, whole)) long
          ∙ ap (λ o. ordering_then o (order (take ((m - k) - c) (drop c xs)) (take ((m - k) - c) (drop c ys)))) same
          ∙ rw (left_over, there, thence) refl
    ]

-- texts of which one has ended are in the order of what is left of them: whether there is something
order_ended : (a b : Bool) (xs ys : List ℕ) → (a ≡ true → b ≡ true → ⊥) → (a ≡ true) ↔ (1 ≤ length xs) → (b ≡ true) ↔ (1 ≤ length ys) → bool_cmp a b ≡ order xs ys
order_ended true true xs ys one first second = absurd (one refl refl)
order_ended false b (x ∷ xs) ys one first second = let no = first.1 (omega arith) in absurd cc
order_ended true false [] ys one first second = absurd (omega (arith, first.0 refl))
order_ended a false xs (y ∷ ys) one first second = let no = second.1 (omega arith) in absurd cc
order_ended false true [] [] one first second = absurd (omega (arith, second.0 refl))
order_ended false true [] (y ∷ ys) one first second = refl
order_ended false false [] [] one first second = refl
order_ended true false (x ∷ xs) [] one first second = refl

pub rest_ended : (t u : List ℕ) (a b : Bool) (i j n m k : ℕ) → k < n → (a ≡ true → b ≡ true → ⊥) → (a ≡ true) ↔ (i + k < length t) → (b ≡ true) ↔ (j + k < length u)
    → (m ≡ n) ⊎ (order_of_parts i j m t u ≡ Equal → ⊥) → IsOrderOfRest i j m k t u → bool_cmp a b ≡ order_of_parts i j m t u
rest_ended t u a b i j n m k lt one first second which so_far =
    elim (cases_lt k m) [
      | inl some ↦
          let xs = take (m - k) (drop (i + k) t) in
          let ys = take (m - k) (drop (j + k) u) in
          let long : length xs ≡ min (m - k) (length t - (i + k)) = length-take (m - k) (drop (i + k) t) ∙ ap (min (m - k)) (length-drop (i + k) t) in
          let wide : length ys ≡ min (m - k) (length u - (j + k)) = length-take (m - k) (drop (j + k) u) ∙ ap (min (m - k)) (length-drop (j + k) u) in
          order_ended a b xs ys one
          (λ h. omega (arith, first.0 h, long, some), λ h. first.1 (omega (arith, h, long)))
          (λ h. omega (arith, second.0 h, wide, some), λ h. second.1 (omega (arith, h, wide)))
          ∙ sym so_far
      | inr past ↦ elim which [
        | inl all ↦ absurd (omega (arith, all, past, lt))
        | inr differ ↦ absurd (differ (rest_none t u i j m k past so_far))
      ]
    ]

-- past the end of a rope each cell is stated
stated_past : (t : Table) (st : Stated) (x : Option NodeId) (n : ℕ) → length (rope_cells t x) ≡ rope_len t x → EachCell (rope_cell t x) 0 (rope_len t x) (IsStated st) → EachCell (rope_cell t x) 0 (0 + n) (IsStated st)
stated_past t st None n long stated p above below = tt
stated_past t st (Some id) n long stated p above below =
    elim (cases_lt p (len_at t id.0)) [
      | inl lt ↦ stated p above lt
      | inr past ↦ subst (IsStated st) (sym (get_or_past (cells t id.0) p (Byte 0) (omega (arith, past, long)))) tt
    ]

-- parts that are the whole texts
pub whole_order : (t : Table) (st : Stated) (x y : Option NodeId) (n : ℕ) (r : Result Ordering SourceFault)
    → length (rope_cells t x) ≡ rope_len t x → length (rope_cells t y) ≡ rope_len t y → length (rope_cells t x) ≤ n → length (rope_cells t y) ≤ n
    → IfOk r (OrdersParts t st x 0 y 0 n) → IfOk r (λ found. OfTexts t st x y (λ u v. found ≡ order u v))
whole_order t st x y n (Err e) longx longy left right h = tt
whole_order t st x y n (Ok found) longx longy left right h = λ source agrees first second.
    let u = rope_cells t x in
    let v = rope_cells t y in
    let told = h source agrees n (omega arith) (stated_past t st x n longx first) (stated_past t st y n longy second) (inl refl) in
    rw (take_all n (text source u) (rw (length-map u (cell_byte source)) left), take_all n (text source v) (rw (length-map v (cell_byte source)) right)) at told
