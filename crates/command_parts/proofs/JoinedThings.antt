-- The parts of a command, joined, are what it gives of the earlier texts, whatever things these are lists of.
use Rattle.std.proofs.Common.{◌≡◌, ℕ, ◌+◌, ◌-◌, ◌<◌, ◌≤◌, ltb, List, [], ◌∷◌, ◌++◌, map, length, take, drop, Option, Some, None, refl, sym, ap, ◌∙◌, arith, inl, inr, append_assoc, add-zero}
use Rattle.std.specs.Prelude.{slice_get, get_or, replicate, filter, nat_lt}
use Rattle.std.specs.List.{flat_map}
use Rattle.std.proofs.lemmas.Bool.{lt-ltb, le-leb, ltb-false, cases_Bool, cond-true, cond-false}
use Rattle.std.proofs.lemmas.List.{length-append, length-take, length-drop, length-replicate, take_all, append-nil}
use Rattle.std.proofs.lemmas.Option.{slice_get-get_or, slice_get-map}
use Rattle.std.specs.Option.{option_map}
use Rattle.rope_node.specs.declared.limits.TheConstants.{TEXT_LIMIT}
use Rattle.rope_node.specs.declared.node.NodeId.{NodeId}
use Rattle.rope_node.specs.Table.{Table, IsSound}
use Rattle.rope_node.specs.Denotes.{rope_len}
use Rattle.command_parts.specs.Commands as Command
use Rattle.command_parts.specs.declared.part.Part.{Part}
use Rattle.command_parts.specs.declared.part.Part.TheVariants.{Old, Pool, Source, Fill}
use Rattle.command_parts.specs.Commands.{Givens, FullEdit, can_splice, span, bounded, replaced, replaced_each, spliced, result_of}
use Rattle.command_parts.specs.Parts.{part_len, part_things, HasLengths, root_at, front, rest, whole, terms_of, parts_of, AreRopes, IsInRange}
use Rattle.rope_node.proofs.Ropes.{rope_short}
use Rattle.command_parts.proofs.SplicedTexts.{ArePooled, are_splices, length-replaced_each, pieces_joined}

pub span_is : {C : Type 0} (xs : List C) (i n : ℕ) → i + n ≤ length xs → span xs i n ≡ Some (take n (drop i xs))
span_is xs i n fits = rw (le-leb (i + n) (length xs) fits) refl

pub bounded_is : {C : Type 0} (xs : List C) → length xs < TEXT_LIMIT → bounded xs ≡ Some xs
bounded_is xs short = rw (lt-ltb (length xs) TEXT_LIMIT short) refl

spliced_is : {C : Type 0} (xs : List C) (p m : ℕ) (x : List C) → p + m ≤ length xs → length xs + length x < TEXT_LIMIT + m → spliced xs p m x ≡ Some (replaced xs p m x)
spliced_is xs p m x fits short =
    rw (le-leb (p + m) (length xs) fits)
    (bounded_is (replaced xs p m x)
    (omega (arith, length-append (take p xs ++ x) (drop (p + m) xs), length-append (take p xs) x, length-take p xs, length-drop (p + m) xs)))

-- the text of an earlier revision
pub text_of : {C : Type 0} (of : Option NodeId → List C) (roots : List (Option NodeId)) (r : ℕ) → r < length roots → slice_get (map of roots) r ≡ Some (of (root_at roots r))
text_of of roots r lt = slice_get-map of roots r ∙ ap (option_map of) (slice_get-get_or roots r None lt)

-- each rope stands for a list of its length
pub record IsAsLong {C : Type 0} (t : Table) (roots : List (Option NodeId)) (of : Option NodeId → List C) : Type 0 where
  pub ropes : AreRopes t roots
  pub long : (r : ℕ) → r < length roots → length (of (root_at roots r)) ≡ rope_len t (root_at roots r)

module _ {C : Type 0} (g : Givens C) (of : Option NodeId → List C) where
  empty_things : (part : Part) → part_len part ≡ 0 → part_things g of part ≡ []
  empty_things (Old rope i n) e = rw e refl
  empty_things (Pool a n) e = rw e refl
  empty_things (Source s n) e = rw e refl
  empty_things (Fill c n) e = rw e refl

  -- parts left out stand for nothing
  pub filter_things : (parts : List Part) → flat_map (part_things g of) (filter (λ part. nat_lt 0 (part_len part)) parts) ≡ flat_map (part_things g of) parts
  filter_things [] = refl
  filter_things (x ∷ xs) =
      elim (cases_Bool (ltb 0 (part_len x))) [
        | inl some ↦ ap (flat_map (part_things g of)) (cond-true (ltb 0 (part_len x)) (x ∷ filter (λ part. nat_lt 0 (part_len part)) xs) (filter (λ part. nat_lt 0 (part_len part)) xs) some) ∙ ap (λ cs. part_things g of x ++ cs) (filter_things xs)
        | inr none ↦
            let zero-len : part_len x ≡ 0 = omega (arith, ltb-false _ _ none) in
            ap (flat_map (part_things g of)) (cond-false (ltb 0 (part_len x)) (x ∷ filter (λ part. nat_lt 0 (part_len part)) xs) (filter (λ part. nat_lt 0 (part_len part)) xs) none) ∙ filter_things xs
            ∙ ap (λ cs. cs ++ flat_map (part_things g of) xs) (sym (empty_things x zero-len))
      ]

  rest_things : (t : Table) (rope : Option NodeId) (p : ℕ) → length (of rope) ≡ rope_len t rope → part_things g of (rest t rope p) ≡ drop p (of rope)
  rest_things t rope p len = take_all (rope_len t rope - p) (drop p (of rope)) (omega (arith, length-drop p (of rope), len))

  whole_things : (t : Table) (rope : Option NodeId) → length (of rope) ≡ rope_len t rope → part_things g of (whole t rope) ≡ of rope
  whole_things t rope len = take_all (rope_len t rope) (of rope) (omega (arith, len))

  -- the terms around a middle one, joined
  around : (t : Table) (rope : Option NodeId) (p m : ℕ) (part : Part) → length (of rope) ≡ rope_len t rope → flat_map (part_things g of) (front rope p ∷ part ∷ rest t rope (p + m) ∷ []) ≡ replaced (of rope) p m (part_things g of part)
  around t rope p m part len =
      ap (λ cs. take p (of rope) ++ (part_things g of part ++ (cs ++ []))) (rest_things t rope (p + m) len)
      ∙ ap (λ cs. take p (of rope) ++ (part_things g of part ++ cs)) (append-nil (drop (p + m) (of rope)))
      ∙ sym (append_assoc (take p (of rope)) (part_things g of part) (drop (p + m) (of rope)))

  spliced_around : (t : Table) (rope : Option NodeId) (p m : ℕ) (part : Part) (x : List C) → part_things g of part ≡ x → length (of rope) ≡ rope_len t rope → p + m ≤ rope_len t rope → rope_len t rope + length x < TEXT_LIMIT + m
      → spliced (of rope) p m x ≡ Some (flat_map (part_things g of) (front rope p ∷ part ∷ rest t rope (p + m) ∷ []))
  spliced_around t rope p m part x e len fits short =
      spliced_is (of rope) p m x (omega (arith, len, fits)) (omega (arith, len, short))
      ∙ ap (λ cs. Some (replaced (of rope) p m cs)) (sym e)
      ∙ ap Some (sym (around t rope p m part len))

  -- an insertion: the front of the text, what is put in, and the rest
  inserted_around : (t : Table) (rope : Option NodeId) (p : ℕ) (part : Part) (x : List C) → part_things g of part ≡ x → length (of rope) ≡ rope_len t rope → p ≤ rope_len t rope → rope_len t rope + length x < TEXT_LIMIT
      → spliced (of rope) p 0 x ≡ Some (flat_map (part_things g of) (front rope p ∷ part ∷ rest t rope p ∷ []))
  inserted_around t rope p part x e len fits short =
      spliced_around t rope p 0 part x e len (omega (arith, fits)) (omega (arith, short))
      ∙ ap (λ (j : ℕ). Some (flat_map (part_things g of) (front rope p ∷ part ∷ rest t rope j ∷ []))) (add-zero p)

  -- a deletion: the front of the text and the rest
  deleted : (t : Table) (rope : Option NodeId) (p n : ℕ) → length (of rope) ≡ rope_len t rope → rope_len t rope < TEXT_LIMIT → p + n ≤ rope_len t rope → spliced (of rope) p n [] ≡ Some (flat_map (part_things g of) (front rope p ∷ rest t rope (p + n) ∷ []))
  deleted t rope p n len short fits =
      spliced_is (of rope) p n [] (omega (arith, len, fits)) (omega (arith, len, short))
      ∙ ap (λ cs. Some (cs ++ drop (p + n) (of rope))) (append-nil (take p (of rope)))
      ∙ ap (λ cs. Some (take p (of rope) ++ cs)) (sym (rest_things t rope (p + n) len) ∙ sym (append-nil (part_things g of (rest t rope (p + n)))))

  pool_span : (t : Table) (a n : ℕ) → HasLengths t g → a + n ≤ length t.pool → span g.pool a n ≡ Some (take n (drop a g.pool))
  pool_span t a n l fits = span_is g.pool a n (omega (arith, l.pool, fits))

  pool_len : (t : Table) (a n : ℕ) → HasLengths t g → a + n ≤ length t.pool → length (take n (drop a g.pool)) ≡ n
  pool_len t a n l fits = omega (arith, length-take n (drop a g.pool), length-drop a g.pool, l.pool, fits)

  pub terms_joined_of : (t : Table) → IsSound t → HasLengths t g → (roots : List (Option NodeId)) (edit : FullEdit) → IsAsLong t roots of → IsInRange t roots edit → result_of g (map of roots) edit ≡ Some (flat_map (part_things g of) (terms_of t roots edit))
  terms_joined_of t s l roots Command.New a is = refl
  terms_joined_of t s l roots (Command.Open k) a is =
      slice_get-get_or g.sources k [] (rw l.source_count is)
      ∙ ap Some (sym (take_all (get_or t.sources k 0) (get_or g.sources k []) (omega (arith, l.sources k is))) ∙ sym (append-nil (take (get_or t.sources k 0) (get_or g.sources k []))))
  terms_joined_of t s l roots (Command.Insert r p b n) a is =
      rw (text_of of roots r is.0, pool_span t b n l is.3, le-leb 1 n is.2)
      (inserted_around t (root_at roots r) p (Pool b n) (take n (drop b g.pool)) refl (a.long r is.0) is.1 (omega (arith, pool_len t b n l is.3, is.4)))
  terms_joined_of t s l roots (Command.Delete r p n) a is =
      rw (text_of of roots r is.0)
      (deleted t (root_at roots r) p n (a.long r is.0) (rope_short t s (root_at roots r) (a.ropes r is.0)) is.1)
  terms_joined_of t s l roots (Command.Replace r p m b n) a is =
      rw (text_of of roots r is.0, pool_span t b n l is.3, le-leb 1 n is.2)
      (spliced_around t (root_at roots r) p m (Pool b n) (take n (drop b g.pool)) refl (a.long r is.0) is.1 (omega (arith, pool_len t b n l is.3, is.4)))
  terms_joined_of t s l roots (Command.Paste r p q i n) a is =
      let len = a.long q is.2 in
      let inside : i + n ≤ length (of (root_at roots q)) = omega (arith, len, is.3) in
      let few : length (take n (drop i (of (root_at roots q)))) ≤ n = omega (arith, length-take n (drop i (of (root_at roots q)))) in
      rw (text_of of roots r is.0, text_of of roots q is.2, span_is (of (root_at roots q)) i n inside)
      (inserted_around t (root_at roots r) p (Old (root_at roots q) i n) (take n (drop i (of (root_at roots q)))) refl (a.long r is.0) is.1 (omega (arith, few, is.4)))
  terms_joined_of t s l roots (Command.Join r q) a is =
      let len_r = a.long r is.0 in
      let len_q = a.long q is.1 in
      let short : length (of (root_at roots r) ++ of (root_at roots q)) < TEXT_LIMIT = omega (arith, length-append (of (root_at roots r)) (of (root_at roots q)), len_r, len_q, is.2) in
      rw (text_of of roots r is.0, text_of of roots q is.1)
      (bounded_is (of (root_at roots r) ++ of (root_at roots q)) short
      ∙ ap (λ cs. Some (cs ++ of (root_at roots q))) (sym (whole_things t (root_at roots r) len_r))
      ∙ ap (λ cs. Some (part_things g of (whole t (root_at roots r)) ++ cs)) (sym (whole_things t (root_at roots q) len_q) ∙ sym (append-nil (part_things g of (whole t (root_at roots q))))))
  terms_joined_of t s l roots (Command.Cut r i n) a is = rw (text_of of roots r is.0) (span_is (of (root_at roots r)) i n (rw (a.long r is.0) is.1) ∙ ap Some (sym (append-nil (take n (drop i (of (root_at roots r)))))))
  terms_joined_of t s l roots (Command.Fill r p c n) a is =
      rw (text_of of roots r is.0, le-leb c 255 is.2)
      (inserted_around t (root_at roots r) p (Fill c n) (replicate n (g.byte c)) refl (a.long r is.0) is.1 (omega (arith, length-replicate n (g.byte c), is.3)))
  terms_joined_of t s l roots (Command.Back r) a is = text_of of roots r is ∙ ap Some (sym (whole_things t (root_at roots r) (a.long r is)) ∙ sym (append-nil (part_things g of (whole t (root_at roots r)))))
  terms_joined_of t s l roots (Command.Balance r) a is = text_of of roots r is ∙ ap Some (sym (whole_things t (root_at roots r) (a.long r is)) ∙ sym (append-nil (part_things g of (whole t (root_at roots r)))))
  terms_joined_of t s l roots (Command.Many r splices) a is =
      let rope = root_at roots r in
      let cs = of rope in
      let len = a.long r is.0 in
      let are = are_splices (length t.pool) (rope_len t rope) splices is.1 in
      let pooled : ArePooled (length g.pool) splices = rw l.pool are.pooled in
      let long = length-replaced_each g.pool cs (rope_len t rope) 0 splices len are.follow pooled in
      rw (text_of of roots r is.0, l.pool, len, is.1)
      (bounded_is (replaced_each g.pool cs splices) (omega (arith, long, is.2)) ∙ ap Some (pieces_joined g of rope (rope_len t rope) len 0 splices are.follow))

  -- in range, the parts joined are the command's result
  pub things_joined : (t : Table) → IsSound t → HasLengths t g → (roots : List (Option NodeId)) (edit : FullEdit) → IsAsLong t roots of → IsInRange t roots edit → result_of g (map of roots) edit ≡ Some (flat_map (part_things g of) (parts_of t roots edit))
  things_joined t s l roots edit a is = terms_joined_of t s l roots edit a is ∙ ap Some (sym (filter_things (terms_of t roots edit)))
