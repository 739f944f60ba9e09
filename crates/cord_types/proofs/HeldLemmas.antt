-- What sources state that are handed in with the bytes that are held of them.
use Rattle.std.proofs.Common.{◌≡◌, ℕ, ◌+◌, ◌-◌, ◌<◌, ◌≤◌, max, List, [], true, length, map, get_or, inl, inr, refl, ◌∙◌, arith}
use Rattle.std.specs.Prelude.{All, IfSome, IsSome, None, Option, Some, replicate, unwrap_or}
use Rattle.std.specs.List.{list_all, slice_index}
use Rattle.std.proofs.Math.ListN as list
use Rattle.std.proofs.lemmas.Bool.{cases_lt, leb-true, le-leb}
use Rattle.std.proofs.lemmas.List.{get_or-map, get_or-append_right, get_or_append_left, get_or-replicate, length-map, length-take}
use Rattle.std.proofs.lemmas.List.Elements.{All-from_get_or, All-get_or}
use Rattle.std.proofs.lemmas.List.Sums.{AllPass-from_list_all, list_all-from_AllPass}
use Rattle.lazy_file.specs.SourceTexts.{AreSizes, Stated, text_at}
use Rattle.lazy_file.specs.Readings.{InSpan, Reads}
use Rattle.lazy_file.specs.declared.sources.TheConstants.{COUNT_LIMIT, SOURCE_LIMIT}
use Rattle.lazy_file.specs.declared.faults.SourceFault.TheVariants.{Short}
use Rattle.cord_types.specs.HeldTexts.{held_bytes, held_sizes, held_text, is_held, is_short, reading_of, stated_as_held}
use Rattle.cord_types.specs.declared.held_sources.CordSource.{CordSource}

-- what is read past the end
abbrev pub no_source : CordSource
no_source = record { bytes = record { ref_ptr = (0, 0); now = [] }; size = 0 }

pub size_at : (xs : List CordSource) (s : ℕ) → get_or (held_sizes xs) s 0 ≡ (get_or xs s no_source).size
size_at xs s = list.get_or-map (λ (x : CordSource). x.size) xs s no_source

-- sources that pass the test are no longer than sources may be
pub short_sizes : (xs : List CordSource) → list_all is_short xs ≡ true → All (λ n. n ≤ SOURCE_LIMIT) (held_sizes xs)
short_sizes xs test =
    All-from_get_or (λ n. n ≤ SOURCE_LIMIT) (held_sizes xs) 0 (λ i inside.
    let there : i < length xs = rw length-map at inside in
    let passes : is_short (get_or xs i no_source) ≡ true = All-get_or (λ x. is_short x ≡ true) xs i no_source there (AllPass-from_list_all is_short xs test) in
    rw (size_at xs i) (leb-true (get_or xs i no_source).size SOURCE_LIMIT passes))

-- and the other way round
pub short_test : (xs : List CordSource) → All (λ n. n ≤ SOURCE_LIMIT) (held_sizes xs) → list_all is_short xs ≡ true
short_test xs short =
    list_all-from_AllPass is_short xs (All-from_get_or (λ x. is_short x ≡ true) xs no_source (λ i inside.
    let there : i < length (held_sizes xs) = rw length-map inside in
    le-leb (get_or xs i no_source).size SOURCE_LIMIT (rw (size_at xs i) at (All-get_or (λ n. n ≤ SOURCE_LIMIT) (held_sizes xs) i 0 there short))))

-- no source is longer than a source may be
pub size_limit : (xs : List CordSource) (s : ℕ) → AreSizes (held_sizes xs) → s < length xs → (get_or xs s no_source).size ≤ SOURCE_LIMIT
size_limit xs s sizes inside =
    let there : s < length (held_sizes xs) = rw length-map inside in
    rw (size_at xs s) at (All-get_or (λ n. n ≤ SOURCE_LIMIT) (held_sizes xs) s 0 there sizes.each)

-- what a source states that is handed in
abbrev some_text : CordSource → Option (List ℕ)
some_text s = Some (held_text s)

stated_text : (xs : List CordSource) (s : ℕ) → s < length xs → text_at (stated_as_held xs) s ≡ Some (held_text (get_or xs s no_source))
stated_text xs s inside =
    let there : s < length (map some_text xs) = rw length-map inside in
    get_or_append_left (map some_text xs) (replicate COUNT_LIMIT (Some [])) None s there ∙ get_or-map some_text xs s no_source None inside

-- the bytes that are held of a source are its own
pub bytes_at : (xs : List CordSource) (s : ℕ) → s < length xs → held_bytes (stated_as_held xs) s ≡ held_text (get_or xs s no_source)
bytes_at xs s inside = rw (stated_text xs s inside) refl

-- each number that a source may have states a text
pub text_stated : (xs : List CordSource) (s : ℕ) → s < COUNT_LIMIT → IsSome (text_at (stated_as_held xs) s)
text_stated xs s few =
    elim (cases_lt s (length xs)) [
      | inl inside ↦ rw (stated_text xs s inside) refl
      | inr past ↦
          let long : length (map some_text xs) ≡ length xs = length-map xs some_text in
          let none : text_at (stated_as_held xs) s ≡ Some [] = get_or-append_right (map some_text xs) (replicate COUNT_LIMIT (Some [])) (length xs) s None long past ∙ get_or-replicate COUNT_LIMIT (s - length xs) (Some []) None (omega (arith, few)) in
          rw none refl
    ]

-- where all bytes of each source are held, each span of them is
pub all_held : (xs : List CordSource) (s n : ℕ)
    → (stated_as_held xs).never_fails ≡ true → s < length (held_sizes xs) → n ≤ slice_index (held_sizes xs) s
    → n ≤ length (held_bytes (stated_as_held xs) s)
all_held xs s n all inside short =
    let there : s < length xs = rw length-map at inside in
    let passes : is_held (get_or xs s no_source) ≡ true = All-get_or (λ x. is_held x ≡ true) xs s no_source there (AllPass-from_list_all is_held xs all) in
    let held = leb-true (get_or xs s no_source).size (length (get_or xs s no_source).bytes.now) passes in
    rw (bytes_at xs s there, length-take (get_or xs s no_source).size (get_or xs s no_source).bytes.now) (omega (arith, held, size_at xs s, short))

-- the bytes that a source states are fewer than n, and its size is not
short_text : (text : Option (List ℕ)) (n size : ℕ) → length (unwrap_or text []) < n → n ≤ size → IfSome text (λ t. length t < size)
short_text None n size fewer inside = tt
short_text (Some t) n size fewer inside = omega (arith, fewer, inside)

-- a read of a span that is there and not all held
pub short_read : (st : Stated) (s off n : ℕ) → length (held_bytes st s) < off + n → off + n ≤ slice_index st.sizes s
    → (st.never_fails ≡ true → ⊥) → Reads (reading_of st) (reading_of st) (InSpan s off (max 1 n)) (Some Short)
short_read st s off n fewer inside fails = record {
  s = s;
  p = off;
  asked = (refl, omega arith, omega arith);
  at = record {
    same = refl;
    others = λ k other. refl;
    later = omega arith;
    device = (λ e. absurd cc, λ more. absurd (omega arith));
    short = λ e. short_text (text_at st s) (off + n) (slice_index st.sizes s) fewer inside;
    bad_source = λ e. absurd cc;
    unfailing = λ never. absurd (fails never);
  };
}
