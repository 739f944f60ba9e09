-- What a slot owns.
use Rattle.std.specs.Prelude.{Option, Some, None}
use base.Fml.{Fml, ftrue}
use denote.RawPtr.{Ptr}
use Rattle.std.specs.Box.Ownership.{box_owns}
use Rattle.std.specs.declared.alloc.Global.{Global}
use Rattle.std.specs.contracts.impls.GlobalAllocator.TheImpl.{ghosts}
use Rattle.cord_store.specs.declared.ropes_kept.Ropes.{Ropes}
use Rattle.cord_store.specs.contracts.ropes_kept.Ropes.{the_row}

-- nothing, or what is held, on the heap at this pointer, with the right to free it
abbrev pub rope_slot_owns : Global → Ptr → Option Ropes → Fml
rope_slot_owns heap p None = ftrue
rope_slot_owns heap p (Some kept) = box_owns (ghosts.dealloc_token heap) the_row p kept
