-- The record of a node that a table stores.
use Rattle.std.specs.Prelude.{◌≡◌, ℕ, Option, Some, None}
use Rattle.rope_node.specs.declared.node.NodeView.{NodeView}
use Rattle.rope_node.specs.declared.node.NodeView.TheVariants.{Lit, Src, Fun, Cat, Sub}
use Rattle.node_table.specs.declared.entry.Entry.{Entry}
use Rattle.node_table.specs.declared.entry.EntryKind.{EntryKind}
use Rattle.node_table.specs.declared.entry.EntryKind.TheVariants.{Literal, Source, Function, Concatenation, Part}
use Rattle.node_table.specs.declared.record.Record.{Record}

abbrev pub stored_view : {F : Type 0} → EntryKind F → NodeView
stored_view (Literal a) = Lit a
stored_view (Source s a) = Src s a
stored_view (Function f) = Fun
stored_view (Concatenation l d r n) = Cat l r
stored_view (Part b d i) = Sub b i

abbrev pub stored_depth : {F : Type 0} → EntryKind F → ℕ
stored_depth (Literal a) = 0
stored_depth (Source s a) = 0
stored_depth (Function f) = 0
stored_depth (Concatenation l d r n) = d
stored_depth (Part b d i) = d

abbrev pub stored_function : {F : Type 0} → EntryKind F → Option F
stored_function (Literal a) = None
stored_function (Source s a) = None
stored_function (Function f) = Some f
stored_function (Concatenation l d r n) = None
stored_function (Part b d i) = None

abbrev pub record_of : {F : Type 0} → Entry F → Record F
record_of e = record {
  view = stored_view e.kind;
  len = e.len;
  depth = stored_depth e.kind;
  function = stored_function e.kind;
}

-- a node that can be stored: a leaf has depth 0, a function is there, and nothing else holds one
abbrev pub CanStore : {F : Type 0} → NodeView → ℕ → Option F → Type 0
CanStore (Lit a) d f = (d ≡ 0) × (f ≡ None)
CanStore (Src s a) d f = (d ≡ 0) × (f ≡ None)
CanStore Fun d None = ⊥
CanStore Fun d (Some f) = d ≡ 0
CanStore (Cat l r) d f = f ≡ None
CanStore (Sub b i) d f = f ≡ None

abbrev pub IsStorable : {F : Type 0} → Record F → Type 0
IsStorable r = CanStore r.view r.depth r.function
