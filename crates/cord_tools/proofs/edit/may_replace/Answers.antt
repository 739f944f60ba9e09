use Rattle.std.proofs.Common.{◌≡◌, ◌≢◌, ◌++◌, ℕ, List, true, false, ◌==◌, inl, inr, length, ap, refl}
use Rattle.std.proofs.lemmas.Bool.Decides.{Decides-eqb}
use Rattle.std.proofs.lemmas.Slice.Eq.{strip_prefix_is}
use Rattle.std.specs.Int.{w64, to_be_bytes}
use Rattle.image_reader.specs.declared.header.TheConstants.{MAGIC}
use Rattle.cord_tools.specs.Editing.{MayReplace}
use Rattle.cord_tools.proofs.edit.may_replace.Goals as goal

abbrev magic : List ℕ
magic = to_be_bytes w64 MAGIC

neither : (front : List ℕ) → false ≡ (length front == 0) → ((rest : List ℕ) → front ≢ magic ++ rest) → ¬ MayReplace front
neither front some none (inl e) = let zero : (length front == 0) ≡ true = ap (λ (l : List ℕ). length l == 0) e in absurd cc
neither front some none (inr m) = none m.0 m.1

pub returns-in-Some-clause-ok : goal.returns-in-Some-clause-ok
returns-in-Some-clause-ok c =
    let cut : c.args.front.now ≡ c.to_be_bytes.result ++ c.in-Some.field-0.now =
    rw c.in-Some.is at (strip_prefix_is Decides-eqb c.args.front.now c.to_be_bytes.result c.strip_prefix.result c.strip_prefix.ensures.cases) in
    let is : c.args.front.now ≡ magic ++ c.in-Some.field-0.now = rw c.to_be_bytes.ensures at cut in
    (λ e. inr (c.in-Some.field-0.now, is), λ m. refl)

pub returns-in-None-clause-ok : goal.returns-in-None-clause-ok
returns-in-None-clause-ok c =
    let uncut : (rest : List ℕ) → c.args.front.now ≢ c.to_be_bytes.result ++ rest =
    rw c.in-None.is at (strip_prefix_is Decides-eqb c.args.front.now c.to_be_bytes.result c.strip_prefix.result c.strip_prefix.ensures.cases) in
    let none : (rest : List ℕ) → c.args.front.now ≢ magic ++ rest = rw c.to_be_bytes.ensures at uncut in
    (λ e. absurd cc, λ m. absurd (neither c.args.front.now c.if-is_empty.ensures none m))
