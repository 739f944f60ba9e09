-- The bytes of a pool, block by block.
use Rattle.std.proofs.Common.{◌≡◌, ℕ, ◌+◌, ◌-◌, ◌<◌, ◌≤◌, List, ◌++◌, length, take, drop, get_or, sym, ap, subst, ◌∙◌, arith, inl, inr}
use Rattle.std.proofs.lemmas.Bool.{cases_lt}
use Rattle.std.proofs.lemmas.List.{length-take, length-drop, get_or-take, get_or-drop, take-append-drop}
use Rattle.std.proofs.Math.Seq.{take-add}
use Rattle.session_image.specs.Gathering.{Output, SendsAndHolds, SendsPrefix}
use Rattle.session_image.proofs.Gathering.{puts_then, sends_then}

-- so many bytes are written, each a byte
pub record WroteBytes (pool : List ℕ) (done : ℕ) (old new : Output) : Type 0 where
  pub inside : done ≤ length pool
  pub bytes : SendsAndHolds old new (take done pool)
  pub small : (i : ℕ) → i < done → get_or pool i 0 < 256

pub block_inside : (pool block : List ℕ) (done : ℕ) → done ≤ length pool → block ≡ take (length block) (drop done pool) → done + length block ≤ length pool
block_inside pool block done le e = omega (arith, ap length e, length-take (length block) (drop done pool), length-drop done pool)

block_byte : (pool block : List ℕ) (done i : ℕ) → block ≡ take (length block) (drop done pool) → done ≤ i → i < done + length block → get_or pool i 0 ≡ get_or block (i - done) 0
block_byte pool block done i e le lt =
    let at : done + (i - done) ≡ i = omega arith in
    sym (ap (λ (v : List ℕ). get_or v (i - done) 0) e ∙ get_or-take (length block) (drop done pool) (i - done) 0 (omega arith) ∙ get_or-drop done pool (i - done) 0 ∙ ap (λ (k : ℕ). get_or pool k 0) at)

pub wrote_block : (pool block : List ℕ) (done : ℕ) (a b c : Output) → block ≡ take (length block) (drop done pool) → ((i : ℕ) → get_or block i 0 < 256) → WroteBytes pool done a b → SendsAndHolds b c block → WroteBytes pool (done + length block) a c
wrote_block pool block done a b c e bytes so_far more =
    let front : take (done + length block) pool ≡ take done pool ++ block = take-add done (length block) pool ∙ ap (λ (v : List ℕ). take done pool ++ v) (sym e) in
    record {
      inside = block_inside pool block done so_far.inside e;
      bytes = subst (λ (v : List ℕ). SendsAndHolds a c v) (sym front) (puts_then a b c (take done pool) block so_far.bytes more);
      small = λ i lt. elim (cases_lt i done) [
        | inl before ↦ so_far.small i before
        | inr behind ↦ rw (block_byte pool block done i e behind lt) (bytes (i - done))
      ];
    }

pub part_of_block : (pool block : List ℕ) (done : ℕ) (a b c : Output) → block ≡ take (length block) (drop done pool) → WroteBytes pool done a b → SendsPrefix b c block → SendsPrefix a c pool
part_of_block pool block done a b c e so_far more =
    let behind : block ++ drop (length block) (drop done pool) ≡ drop done pool = ap (λ (v : List ℕ). v ++ drop (length block) (drop done pool)) e ∙ take-append-drop (length block) (drop done pool) in
    let whole : take done pool ++ (block ++ drop (length block) (drop done pool)) ≡ pool = ap (λ (v : List ℕ). take done pool ++ v) behind ∙ take-append-drop done pool in
    subst (λ (v : List ℕ). SendsPrefix a c v) whole (sends_then a b c (take done pool) block (drop (length block) (drop done pool)) so_far.bytes more)
