-- What a part's content tells of it.
use Rattle.std.proofs.Common.{◌≡◌, ◌↔◌, ℕ, zero, suc, ◌+◌, ◌-◌, ◌^◌, ◌<◌, ◌≤◌, List, ◌∷◌, map, take, drop, Some, None, refl, sym, ap, ◌∙◌, arith}
use Rattle.std.specs.Prelude.{replicate}
use Rattle.std.specs.List.{range_with_len}
use Rattle.std.proofs.lemmas.List.{take-replicate, drop-replicate}
use Rattle.std.proofs.lemmas.Simd.{map-map}
use Rattle.function_leaf.specs.declared.coded.Coded.{Coded}
use Rattle.function_leaf.specs.declared.coded.Coded.TheVariants as Function
use Rattle.function_leaf.specs.Coded.{coded_byte}
use Rattle.rope_node.specs.declared.node.NodeId.{NodeId}
use Rattle.rope_node.specs.Table.{Table, IsSound}
use Rattle.rope_node.specs.Denotes.{Cell, Byte, Place, cells}
use Rattle.rope_node.proofs.Parts.{span_within, span-map, span-range_with_len}
use Rattle.span_certificate.specs.declared.content.Content.{Content}
use Rattle.span_certificate.specs.declared.content.Content.TheVariants.{Within, Described}
use Rattle.span_descent.specs.declared.description.Description.{Description}
use Rattle.span_descent.specs.declared.description.Description.TheVariants.{Pooled, Sourced, Computed}
use Rattle.command_parts.specs.declared.part.Part.{Part}
use Rattle.command_parts.specs.declared.part.Part.TheVariants.{Old, Pool, Source, Fill}
use Rattle.span_certificate.specs.PartLeads.{content_from, PartHasDescription}
use Rattle.span_descent.specs.Leads.{described_cells, HasRoom}
use Rattle.command_parts.specs.Parts.{part_len, part_cells, IsPart}
use Rattle.span_certificate.specs.SpanRows.{CellsAs}

-- what n bytes of a content denote
abbrev pub content_cells : Table → ℕ → Content → List Cell
content_cells t n (Within x p) = take n (drop p (cells t x.0))
content_cells t n (Described d) = described_cells t n d

constant : (y : Cell) (n a : ℕ) → replicate n y ≡ map (λ k. y) (range_with_len a n)
constant y zero a = refl
constant y (suc n) a = ap (λ l. y ∷ l) (constant y n (a + 1))

-- the bytes of a part are those of its content
pub part_content : (t : Table) (part : Part) (off n : ℕ) (c : Content) → content_from part off ≡ Some c → off + n ≤ part_len part → take n (drop off (part_cells t part)) ≡ content_cells t n c
part_content t (Old None i m) off n c is fits = absurd cc
part_content t (Old (Some x) i m) off n c is fits =
    let same : Within x (i + off) ≡ c = cc in
    rw (← same) (span_within n off m i (cells t x.0) fits ∙ ap (λ (j : ℕ). take n (drop j (cells t x.0))) (omega arith))
part_content t (Pool a m) off n c is fits =
    let same : Described (Pooled (a + off)) ≡ c = cc in
    rw (← same) (span-map Byte n off (take m (drop a t.pool)) ∙ ap (map Byte) (span_within n off m a t.pool fits ∙ ap (λ (j : ℕ). take n (drop j t.pool)) (omega arith)))
part_content t (Source s m) off n c is fits =
    let same : Described (Sourced s off) ≡ c = cc in
    rw (← same) (span-map (Place s) n off (range_with_len 0 m) ∙ ap (map (Place s)) (span-range_with_len n off 0 m fits ∙ ap (λ (j : ℕ). range_with_len j n) (omega arith)))
part_content t (Fill b m) off n c is fits =
    let same : Described (Computed (Function.Fill b) 0) ≡ c = cc in
    rw (← same) (ap (take n) (drop-replicate off m (Byte b)) ∙ take-replicate n (m - off) (Byte b) (omega arith) ∙ constant (Byte b) n 0)

-- a part of an earlier text
pub record IsOfNode (part : Part) (off : ℕ) (x : NodeId) (p : ℕ) : Type 0 where
  pub i : ℕ
  pub m : ℕ
  pub is : part ≡ Old (Some x) i m
  pub at : p ≡ i + off

pub of_node : (part : Part) (off : ℕ) (x : NodeId) (p : ℕ) → content_from part off ≡ Some (Within x p) → IsOfNode part off x p
of_node (Old None i m) off x p e = absurd cc
of_node (Old (Some y) i m) off x p e =
    let same : y ≡ x = cc in
    let place : i + off ≡ p = cc in
    record { i = i; m = m; is = ap (λ (k : NodeId). Old (Some k) i m) same; at = sym place }
of_node (Pool a m) off x p e = absurd cc
of_node (Source s m) off x p e = absurd cc
of_node (Fill b m) off x p e = absurd cc

-- a part whose content is described has this description and no second one
pub described_only : (t : Table) (coded : ℕ → Coded) (part : Part) (off n : ℕ) (e : Description) → content_from part off ≡ Some (Described e) → (d : Description) → (Some e ≡ Some d) ↔ PartHasDescription t coded n part off d
described_only t coded (Old None i m) off n e is d = absurd cc
described_only t coded (Old (Some x) i m) off n e is d = absurd cc
described_only t coded (Pool a m) off n e is d = let same : Pooled (a + off) ≡ e = cc in rw (← same) (λ q. cc, λ q. ap Some q)
described_only t coded (Source s m) off n e is d = let same : Sourced s off ≡ e = cc in rw (← same) (λ q. cc, λ q. ap Some q)
described_only t coded (Fill b m) off n e is d = let same : Computed (Function.Fill b) 0 ≡ e = cc in rw (← same) (λ q. cc, λ q. ap Some q)

-- its bytes lie in the pool, and their places fit
pub described_room : (t : Table) → IsSound t → (part : Part) (off n : ℕ) (e : Description) → content_from part off ≡ Some (Described e) → IsPart t part → off + n ≤ part_len part → n < 2 ^ 64 → HasRoom t n e
described_room t s (Old None i m) off n e is held fits short = absurd cc
described_room t s (Old (Some x) i m) off n e is held fits short = absurd cc
described_room t s (Pool a m) off n e is held fits short = let same : Pooled (a + off) ≡ e = cc in rw (← same) (omega (arith, held.1, fits))
described_room t s (Source r m) off n e is held fits short = let same : Sourced r off ≡ e = cc in rw (← same) (omega (arith, held.1.1, s.sources r, fits))
described_room t s (Fill b m) off n e is held fits short = let same : Computed (Function.Fill b) 0 ≡ e = cc in rw (← same) (omega (arith, short))

-- what a description denotes is as it says
pub described_as : (t : Table) (n : ℕ) (d : Description) → CellsAs n d (described_cells t n d)
described_as t n (Pooled a) = (take n (drop a t.pool), refl)
described_as t n (Sourced s a) = refl
described_as t n (Computed f i) = (map (coded_byte f) (range_with_len i n), sym (map-map Byte (coded_byte f) (range_with_len i n)))
