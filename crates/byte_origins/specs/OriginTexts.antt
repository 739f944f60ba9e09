-- Texts of origins as ropes: each cell of a rope is a place in the list of all that commands brought.
use Rattle.std.specs.Prelude.{◌≡◌, ℕ, ◌<◌, ◌≤◌, List, ◌++◌, length, map, take, drop, get_or, slice_get, Option, Some, None}
use Rattle.std.specs.List.{range_with_len}
use Rattle.function_leaf.specs.declared.coded.Coded.{Coded}
use Rattle.function_leaf.specs.Coded.{coded_byte}
use Rattle.rope_node.specs.declared.node.NodeId.{NodeId}
use Rattle.rope_node.specs.declared.node.LeafSpan.{LeafSpan}
use Rattle.rope_node.specs.Table.{Table, IsSound}
use Rattle.rope_node.specs.Denotes.{Cell, Byte, Place, cells, rope_cells, IsRope}
use Rattle.rope_node.specs.Extends.{Extends}
use Rattle.node_table.specs.Held.{Held, table_of}
use Rattle.image_reader.specs.Value.{ImageValue}
use Rattle.byte_origins.specs.declared.run.Origin.{Origin}
use Rattle.byte_origins.specs.declared.taking.CameFrom.{CameFrom}
use Rattle.byte_origins.specs.declared.taking.CameFrom.TheVariants.{FromText, Run}
use Rattle.byte_origins.specs.Behind.{FitsNumbers}
use Rattle.byte_origins.specs.Origins.{origins_at}

-- the nodes of the ropes, and the origins of all bytes that commands brought
pub record OriginTexts : Type 0 where
  pub held : Held Coded
  pub brought : List Origin

abbrev pub ropes_table : OriginTexts → Table
ropes_table x = table_of coded_byte x.held

-- the origin that a cell names: that of the byte brought at its place
abbrev pub named : List Origin → Cell → Option Origin
named brought (Byte b) = None
named brought (Place s p) = slice_get brought p

-- the cells of a rope name these origins in their order
pub record Names (x : OriginTexts) (rope : Option NodeId) (origins : List Origin) : Type 0 where
  pub there : IsRope (ropes_table x) rope
  pub same : map (named x.brought) (rope_cells (ropes_table x) rope) ≡ map Some origins

-- what was there, in a sound table, is kept, and more may have been brought
pub record KeepsTexts (old new : OriginTexts) : Type 0 where
  pub sound : IsSound (ropes_table old)
  pub kept : Extends (ropes_table old) (ropes_table new)
  pub more : List Origin
  pub brought : new.brought ≡ old.brought ++ more

-- these are ropes of the origins of the texts of the first revisions
pub record NameTexts (v : ImageValue) (x : OriginTexts) (roots : List (Option NodeId)) : Type 0 where
  pub few : length roots ≤ length v.revisions
  pub each : (j : ℕ) → j < length roots → Names x (get_or roots j None) (origins_at v j)

-- the cells of a part of a leaf are places side by side, from p on
abbrev pub ArePlaces : Table → LeafSpan → ℕ → Type 0
ArePlaces t x p = (s : ℕ) × (take x.len (drop x.start (cells t x.leaf.0)) ≡ map (Place s) (range_with_len p x.len))

-- they came from one of the first texts, or were brought and are told by numbers of 64 bits
abbrev pub CanBePut : ℕ → CameFrom → Type 0
CanBePut count (FromText j p n) = j < count
CanBePut count (Run run) = FitsNumbers run
