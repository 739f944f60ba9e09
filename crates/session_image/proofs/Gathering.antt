-- Bytes put piece after piece, of which some are sent and others held.
use Rattle.std.proofs.Common.{◌≡◌, ℕ, suc, ◌+◌, ◌≤◌, List, [], ◌∷◌, ◌++◌, length, take, drop, Option, Some, refl, sym, ap, subst, ◌∙◌, append_assoc, arith}
use Rattle.std.specs.Prelude.{slice_get, Result, Ok, Err, IsErr, OnOk, OnErr}
use Rattle.std.specs.List.{flat_map}
use Rattle.std.specs.Io.KnownBytes.{Appends}
use Rattle.std.proofs.lemmas.List.{append-nil, take_all}
use Rattle.byte_output.specs.Prefix.{AppendsPrefix}
use Rattle.byte_output.specs.declared.writing.WriteFault.{WriteFault}
use Rattle.session_image.specs.Gathering.{Output, SendsAndHolds, SendsPrefix, WritesGathered, Flushes}
use Rattle.session_image.specs.Written.{Writes}
use Rattle.session_image.proofs.Sections.{appends_nothing, appends_then, prefix_then, take_next, split_at, flat_map-behind}

-- ---- one put

-- a prefix of what was held is one of that and more
pub sent_before : (a b : Output) (bytes : List ℕ) → b.name ≡ a.name → AppendsPrefix a.known b.known a.held → SendsPrefix a b bytes
sent_before a b bytes same prefix = record { same = same; grows = prefix_then a.known a.known b.known [] a.held bytes (appends_nothing a.known) prefix }

-- what was held is sent, and then the bytes are
pub sent_straight : (a : Output) (between : Option (List ℕ)) (b : Output) (bytes : List ℕ) (result : Result (Unit {0}) WriteFault) → b.name ≡ a.name → b.held ≡ [] → Appends a.known between a.held → OnOk result (Appends between b.known bytes) → OnErr result (AppendsPrefix between b.known bytes) → WritesGathered a b bytes result
sent_straight a between b bytes (Ok x) same none before ok err = record {
  ok = record {
    same = same;
    sent = a.held ++ bytes;
    all = sym (append-nil (a.held ++ bytes)) ∙ ap (λ (v : List ℕ). (a.held ++ bytes) ++ v) (sym none);
    grows = appends_then a.known between b.known a.held bytes before ok;
  };
  err = tt;
}
sent_straight a between b bytes (Err e) same none before ok err = record {
  ok = tt;
  err = record {
    same = same;
    grows = subst (λ (v : List ℕ). AppendsPrefix a.known b.known (a.held ++ v)) (append-nil bytes) (prefix_then a.known between b.known a.held bytes [] before err);
  };
}

-- where nothing is ever held the bytes are sent at once
pub sent_at_once : (a b : Output) (bytes : List ℕ) (result : Result (Unit {0}) WriteFault) → b.name ≡ a.name → a.held ≡ [] → b.held ≡ [] → OnOk result (Appends a.known b.known bytes) → OnErr result (AppendsPrefix a.known b.known bytes) → WritesGathered a b bytes result
sent_at_once a b bytes result same none still ok err =
    sent_straight a a.known b bytes result same still (subst (λ (v : List ℕ). Appends a.known a.known v) (sym none) (appends_nothing a.known)) ok err

-- ---- pieces

pub puts_nothing : (a : Output) → SendsAndHolds a a []
puts_nothing a = record { same = refl; sent = []; all = append-nil a.held; grows = appends_nothing a.known }

pub puts_then : (a b c : Output) (front piece : List ℕ) → SendsAndHolds a b front → SendsAndHolds b c piece → SendsAndHolds a c (front ++ piece)
puts_then a b c front piece p q = record {
  same = q.same ∙ p.same;
  sent = p.sent ++ q.sent;
  all = sym (append_assoc a.held front piece) ∙ ap (λ (v : List ℕ). v ++ piece) p.all ∙ append_assoc p.sent b.held piece ∙ ap (λ (v : List ℕ). p.sent ++ v) q.all ∙ sym (append_assoc p.sent q.sent c.held);
  grows = appends_then a.known b.known c.known p.sent q.sent p.grows q.grows;
}

pub sends_then : (a b c : Output) (front piece rest : List ℕ) → SendsAndHolds a b front → SendsPrefix b c piece → SendsPrefix a c (front ++ (piece ++ rest))
sends_then a b c front piece rest p q =
    let whole : p.sent ++ ((b.held ++ piece) ++ rest) ≡ a.held ++ (front ++ (piece ++ rest)) =
    ap (λ (v : List ℕ). p.sent ++ v) (append_assoc b.held piece rest) ∙ sym (append_assoc p.sent b.held (piece ++ rest)) ∙ ap (λ (v : List ℕ). v ++ (piece ++ rest)) (sym p.all) ∙ append_assoc a.held front (piece ++ rest) in
    record {
      same = q.same ∙ p.same;
      grows = subst (λ (v : List ℕ). AppendsPrefix a.known c.known v) whole (prefix_then a.known b.known c.known p.sent (b.held ++ piece) rest p.grows q.grows);
    }

-- ---- a section so far

-- the first k are put
abbrev pub PutFirst : {X : Type 0} → (X → List ℕ) → List X → ℕ → Output → Output → Type 0
PutFirst spell xs k old new = SendsAndHolds old new (flat_map spell (take k xs))

pub put_more : {X : Type 0} (spell : X → List ℕ) (xs : List X) (k : ℕ) (x : X) (a b c : Output) → slice_get xs k ≡ Some x → PutFirst spell xs k a b → SendsAndHolds b c (spell x) → PutFirst spell xs (k + 1) a c
put_more spell xs k x a b c e h more =
    let next : k + 1 ≡ suc k = omega arith in
    let one : flat_map spell (x ∷ []) ≡ spell x = append-nil (spell x) in
    let same : flat_map spell (take (k + 1) xs) ≡ flat_map spell (take k xs) ++ spell x = ap (λ (n : ℕ). flat_map spell (take n xs)) next ∙ ap (flat_map spell) (take_next xs k x e) ∙ flat_map-behind spell (take k xs) (x ∷ []) ∙ ap (λ v. flat_map spell (take k xs) ++ v) one in
    subst (λ (v : List ℕ). SendsAndHolds a c v) (sym same) (puts_then a b c (flat_map spell (take k xs)) (spell x) h more)

pub put_part : {X : Type 0} (spell : X → List ℕ) (xs : List X) (k : ℕ) (x : X) (a b c : Output) → slice_get xs k ≡ Some x → PutFirst spell xs k a b → SendsPrefix b c (spell x) → SendsPrefix a c (flat_map spell xs)
put_part spell xs k x a b c e h more =
    let same : flat_map spell xs ≡ flat_map spell (take k xs) ++ (spell x ++ flat_map spell (drop (suc k) xs)) = ap (flat_map spell) (split_at xs k x e) ∙ flat_map-behind spell (take k xs) (x ∷ drop (suc k) xs) in
    subst (λ (v : List ℕ). SendsPrefix a c v) (sym same) (sends_then a b c (flat_map spell (take k xs)) (spell x) (flat_map spell (drop (suc k) xs)) h more)

pub put_all : {X : Type 0} (spell : X → List ℕ) (xs : List X) (k : ℕ) (a b : Output) → length xs ≤ k → PutFirst spell xs k a b → SendsAndHolds a b (flat_map spell xs)
put_all spell xs k a b le h = subst (λ v. SendsAndHolds a b (flat_map spell v)) (take_all k xs le) h

-- ---- results

pub put_failed : (old new : Output) (bytes : List ℕ) (result : Result (Unit {0}) WriteFault) → IsErr result → SendsPrefix old new bytes → WritesGathered old new bytes result
put_failed old new bytes (Ok x) is prefix = absurd cc
put_failed old new bytes (Err e) is prefix = record { ok = tt; err = prefix }

pub put_succeeded : (old new : Output) (bytes : List ℕ) (x : Unit {0}) → SendsAndHolds old new bytes → WritesGathered old new bytes (Ok x)
put_succeeded old new bytes x all = record { ok = all; err = tt }

-- a slice is put for what it holds
pub sends_slice : (old new : Output) (xs ys : List ℕ) → xs ≡ ys → SendsPrefix old new xs → SendsPrefix old new ys
sends_slice old new xs ys e h = subst (λ (v : List ℕ). SendsPrefix old new v) e h

pub gathers_slice : (old new : Output) (xs ys : List ℕ) (result : Result (Unit {0}) WriteFault) → xs ≡ ys → WritesGathered old new xs result → WritesGathered old new ys result
gathers_slice old new xs ys result e h = subst (λ (v : List ℕ). WritesGathered old new v result) e h

-- the last piece
pub last_put : (a b c : Output) (front piece whole : List ℕ) (result : Result (Unit {0}) WriteFault) → front ++ piece ≡ whole → SendsAndHolds a b front → WritesGathered b c piece result → WritesGathered a c whole result
last_put a b c front piece whole (Ok x) e h w = record { ok = subst (λ (v : List ℕ). SendsAndHolds a c v) e (puts_then a b c front piece h w.ok); err = tt }
last_put a b c front piece whole (Err x) e h w =
    let all : front ++ (piece ++ []) ≡ whole = ap (λ (v : List ℕ). front ++ v) (append-nil piece) ∙ e in
    record { ok = tt; err = subst (λ (v : List ℕ). SendsPrefix a c v) all (sends_then a b c front piece [] h w.err) }

-- ---- the whole

-- where nothing was held, all that was put is written once what is held is sent too
pub all_sent : (a b c : Output) (bytes : List ℕ) (result : Result (Unit {0}) WriteFault) → a.held ≡ [] → SendsAndHolds a b bytes → Flushes b c result → Writes a.known c.known bytes result
all_sent a b c bytes result none p q =
    let whole : p.sent ++ b.held ≡ bytes = sym p.all ∙ ap (λ (v : List ℕ). v ++ bytes) none in
    in_two result whole q.ok q.err
  where
    in_two : (result : Result (Unit {0}) WriteFault) → p.sent ++ b.held ≡ bytes → OnOk result (Appends b.known c.known b.held) → OnErr result (AppendsPrefix b.known c.known b.held) → Writes a.known c.known bytes result
    in_two (Ok x) whole ok err = record { ok = subst (λ (v : List ℕ). Appends a.known c.known v) whole (appends_then a.known b.known c.known p.sent b.held p.grows ok); err = tt }
    in_two (Err e) whole ok err =
        let all : p.sent ++ (b.held ++ []) ≡ bytes = ap (λ (v : List ℕ). p.sent ++ v) (append-nil b.held) ∙ whole in
        record { ok = tt; err = subst (λ (v : List ℕ). AppendsPrefix a.known c.known v) all (prefix_then a.known b.known c.known p.sent b.held [] p.grows err) }
