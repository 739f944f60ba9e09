-- Lines that are taken, one after the other.
use Rattle.std.proofs.Common.{◌≡◌, ℕ, Bool, List, [], ◌∷◌, ◌++◌, Option, Some, None, Ok, Err, refl, sym, ap, subst, ◌∙◌, append_assoc, append-nil}
use Rattle.std.specs.Io.KnownBytes.{Consumes}
use Rattle.std.proofs.KnownBytes.{Consumes-nil, Consumes-trans}
use Rattle.line_server.specs.declared.fault.End.{End}
use Rattle.line_server.specs.declared.fault.End.TheVariants.{Asked, Input}
use Rattle.line_server.specs.declared.fault.ServeFault.{ServeFault}
use Rattle.line_server.specs.declared.fault.ServeFault.TheVariants as Fault
use Rattle.line_server.specs.Turns.{EndsThere, HasNoEnd, IsLineTurn, Step, ended, kept_line}
use Rattle.line_server.specs.Batches.{Batch, IsBatch, Serves, ended_all}

-- known bytes that end behind others
pub ends_before : (a b c : Option (List ℕ)) (x : List ℕ) → Consumes a b x → EndsThere b c → EndsThere a c
ends_before None b c x h e = tt
ends_before (Some xs) None c x h e = absurd h
ends_before (Some xs) (Some ys) c x h e = e

pub ended_both : (lines more : List (List ℕ)) → ended_all (lines ++ more) ≡ ended_all lines ++ ended_all more
ended_both [] more = refl
ended_both (l ∷ ls) more =
    ap (λ (x : List ℕ). ended l ++ x) (ended_both ls more) ∙ sym (append_assoc (ended l) (ended_all ls) (ended_all more))

-- lines, and then others
pub serves_both : {T : Type 0} (step : Step T) (old mid new : T) (lines more : List (List ℕ)) (ks ts ks' ts' : List ℕ)
    → Serves step old lines ks ts mid → Serves step mid more ks' ts' new → Serves step old (lines ++ more) (ks ++ ks') (ts ++ ts') new
serves_both {T} step old mid new [] more ks ts ks' ts' h then =
    let none : ([] ++ ks' ≡ ks ++ ks') = ap (λ (x : List ℕ). x ++ ks') (sym h.0) in
    let untold : ([] ++ ts' ≡ ts ++ ts') = ap (λ (x : List ℕ). x ++ ts') (sym h.1) in
    subst (λ (x : List ℕ). Serves step old more x (ts ++ ts') new) none
    (subst (λ (x : List ℕ). Serves step old more ks' x new) untold
    (subst (λ (x : T). Serves step x more ks' ts' new) h.2 then))
serves_both step old mid new (l ∷ ls) more ks ts ks' ts' h then = (
  h.0,
  h.1,
  h.2,
  h.3 ++ ks',
  h.4 ++ ts',
  h.5,
  h.6,
  serves_both step h.0 mid new ls more h.3 h.4 ks' ts' h.7 then,
  ap (λ (x : List ℕ). x ++ ks') h.8 ∙ append_assoc (kept_line h.1 l) h.3 ks',
  ap (λ (x : List ℕ). x ++ ts') h.9 ∙ append_assoc (ended h.2) h.4 ts',
)

-- one line
serves_one : {T : Type 0} (step : Step T) (old new : T) (line : List ℕ) (k : Bool) (a : List ℕ) → HasNoEnd line
    → step old line k a new → Serves step old (line ∷ []) (kept_line k line) (ended a) new
serves_one step old new line k a one takes =
    (new, k, a, [], [], one, takes, (refl, refl, refl), sym (append-nil (kept_line k line)), sym (append-nil (ended a)))

-- ---- batches

pub batch_none : {T : Type 0} (step : Step T) (old : T) (from : Option (List ℕ)) (kept told : List ℕ) → kept ≡ [] → told ≡ []
    → Batch step old old from from [] kept told
batch_none step old from kept told none untold = record {
  lines = [];
  served = (none, untold, refl);
  read = Consumes-nil from;
}

-- what is read behind the lines
batch_then : {T : Type 0} (step : Step T) (old mid : T) (a b c : Option (List ℕ)) (rest kept told kept' told' : List ℕ)
    → Batch step old mid a b [] kept told → Consumes b c rest → kept' ≡ kept → told' ≡ told → Batch step old mid a c rest kept' told'
batch_then step old mid a b c rest kept told kept' told' s read same_kept same_told = record {
  lines = s.lines;
  served = subst (λ (x : List ℕ). Serves step old s.lines x told' mid) (sym same_kept)
      (subst (λ (x : List ℕ). Serves step old s.lines kept x mid) (sym same_told) s.served);
  read = Consumes-trans a b c (ended_all s.lines) rest (subst (Consumes a b) (append-nil (ended_all s.lines)) s.read) read;
}

-- a line more
pub batch_more : {T : Type 0} (step : Step T) (ends : List ℕ → Type 0) (old mid new : T) (a b c : Option (List ℕ))
    (kept told kept' told' : List ℕ) → Batch step old mid a b [] kept told
    → IsLineTurn step ends mid b kept told (Ok None) new c kept' told' → Batch step old new a c [] kept' told'
batch_more step ends old mid new a b c kept told kept' told' s h =
    let t = h.0 in
    let lines = s.lines ++ t.line ∷ [] in
    let served : Serves step old lines (kept ++ kept_line t.kept t.line) (told ++ ended t.answer) new =
    serves_both step old mid new s.lines (t.line ∷ []) kept told (kept_line t.kept t.line) (ended t.answer) s.served
    (serves_one step mid new t.line t.kept t.answer t.one t.takes) in
    let read : Consumes a c (ended_all s.lines ++ ended t.line) =
    Consumes-trans a b c (ended_all s.lines) (ended t.line) (subst (Consumes a b) (append-nil (ended_all s.lines)) s.read) h.1 in
    let same : ended_all s.lines ++ ended t.line ≡ ended_all lines ++ [] =
    ap (λ (x : List ℕ). ended_all s.lines ++ x) (sym (append-nil (ended t.line)))
    ∙ sym (ended_both s.lines (t.line ∷ [])) ∙ sym (append-nil (ended_all lines)) in
    record {
      lines = lines;
      served = subst (λ (x : List ℕ). Serves step old lines x told' new) (sym h.2)
          (subst (λ (x : List ℕ). Serves step old lines (kept ++ kept_line t.kept t.line) x new) (sym h.3) served);
      read = subst (Consumes a c) same read;
    }

pub batch_ends : {T : Type 0} (step : Step T) (ends : List ℕ → Type 0) (old mid new : T) (a b c : Option (List ℕ))
    (kept told kept' told' : List ℕ) (end : End) → Batch step old mid a b [] kept told
    → IsLineTurn step ends mid b kept told (Ok (Some end)) new c kept' told' → IsBatch step ends old a (Ok (Some end)) new c kept' told'
batch_ends {T} step ends old mid new a b c kept told kept' told' Input s h = (
  h.0,
  h.1,
  ends_before a b c (ended_all s.lines ++ []) s.read h.3,
  subst (λ (x : T). Batch step old x a c h.0 kept' told') (sym h.4)
      (batch_then step old mid a b c h.0 kept told kept' told' s h.2 h.5 h.6),
)
batch_ends {T} step ends old mid new a b c kept told kept' told' Asked s h = (
  h.0,
  h.1,
  subst (λ (x : T). Batch step old x a c (ended h.0) kept' told') (sym h.3)
      (batch_then step old mid a b c (ended h.0) kept told kept' told' s h.2 h.4 h.5),
)

pub batch_fails : {T : Type 0} (step : Step T) (ends : List ℕ → Type 0) (old mid new : T) (a b c : Option (List ℕ))
    (kept told kept' told' : List ℕ) (fault : ServeFault) → Batch step old mid a b [] kept told
    → IsLineTurn step ends mid b kept told (Err fault) new c kept' told' → IsBatch step ends old a (Err fault) new c kept' told'
batch_fails {T} step ends old mid new a b c kept told kept' told' Fault.Read s h = (
  h.0,
  subst (λ (x : T). Batch step old x a c h.0 kept' told') (sym h.2)
      (batch_then step old mid a b c h.0 kept told kept' told' s h.1 h.3 h.4),
)
batch_fails step ends old mid new a b c kept told kept' told' Fault.Memory s h =
    (mid, h.0, batch_then step old mid a b c h.0 kept told kept' told' s h.1 h.2 h.3)
batch_fails step ends old mid new a b c kept told kept' told' Fault.Keep s h = absurd h
batch_fails step ends old mid new a b c kept told kept' told' Fault.Write s h = absurd h
