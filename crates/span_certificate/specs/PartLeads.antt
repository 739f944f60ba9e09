-- Where the bytes of a rope and of a part lead to, and what they are.
use Rattle.std.specs.Prelude.{◌≡◌, ℕ, ◌+◌, ◌-◌, ◌<◌, ◌≤◌, length, Option, Some, None}
use Rattle.function_leaf.specs.declared.coded.Coded.{Coded}
use Rattle.function_leaf.specs.declared.coded.Coded.TheVariants as Function
use Rattle.rope_node.specs.declared.node.NodeId.{NodeId}
use Rattle.rope_node.specs.Table.{Table, len_at}
use Rattle.span_descent.specs.declared.description.Description.{Description}
use Rattle.span_descent.specs.declared.description.Description.TheVariants.{Pooled, Sourced, Computed}
use Rattle.span_certificate.specs.declared.content.Content.{Content}
use Rattle.span_certificate.specs.declared.content.Content.TheVariants.{Within, Described}
use Rattle.command_parts.specs.declared.part.Part.{Part}
use Rattle.command_parts.specs.declared.part.Part.TheVariants.{Old, Pool, Source, Fill}
use Rattle.span_descent.specs.Leads.{Leads, HasDescription}

-- n bytes of a rope, or of a part of an earlier text, lead to offset o of node k; no others do
abbrev pub RopeLeads : Table → ℕ → ℕ → ℕ → Option NodeId → ℕ → Type 0
RopeLeads t n k o None p = ⊥
RopeLeads t n k o (Some x) p = Leads t n k o x.0 p

abbrev pub PartLeads : Table → ℕ → ℕ → ℕ → Part → ℕ → Type 0
PartLeads t n k o (Old rope i m) off = RopeLeads t n k o rope (i + off)
PartLeads t n k o (Pool a m) off = ⊥
PartLeads t n k o (Source s m) off = ⊥
PartLeads t n k o (Fill c m) off = ⊥

-- the span of n bytes of a rope from p on leads to a leaf span of this description
abbrev pub RopeHasDescription : Table → (ℕ → Coded) → ℕ → Option NodeId → ℕ → Description → Type 0
RopeHasDescription t coded n None p d = ⊥
RopeHasDescription t coded n (Some x) p d = HasDescription t coded n x.0 p d

-- the n bytes of a part from off on have this description; a part of no earlier text is itself a leaf span
abbrev pub PartHasDescription : Table → (ℕ → Coded) → ℕ → Part → ℕ → Description → Type 0
PartHasDescription t coded n (Old rope i m) off d = RopeHasDescription t coded n rope (i + off) d
PartHasDescription t coded n (Pool a m) off d = Pooled (a + off) ≡ d
PartHasDescription t coded n (Source s m) off d = Sourced s off ≡ d
PartHasDescription t coded n (Fill c m) off d = Computed (Function.Fill c) 0 ≡ d

-- what the bytes of a part from off on are: those of a node from a place on, or of a description
abbrev pub content_from : Part → ℕ → Option Content
content_from (Old None i m) off = None
content_from (Old (Some x) i m) off = Some (Within x (i + off))
content_from (Pool a m) off = Some (Described (Pooled (a + off)))
content_from (Source s m) off = Some (Described (Sourced s off))
content_from (Fill c m) off = Some (Described (Computed (Function.Fill c) 0))

-- n bytes from the place on lie in the node
abbrev pub LiesWithin : Table → ℕ → Content → Type 0
LiesWithin t n (Within x p) = (x.0 < length t.nodes) × (p + n ≤ len_at t x.0)
LiesWithin t n (Described d) = Unit {0}
