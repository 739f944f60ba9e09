-- What a slot owns.
use Rattle.std.specs.Prelude.{Option, Some, None}
use base.Fml.{Fml, ftrue}
use denote.RawPtr.{Ptr}
use Rattle.std.specs.Box.Ownership.{box_owns}
use Rattle.std.specs.declared.alloc.Global.{Global}
use Rattle.std.specs.contracts.impls.GlobalAllocator.TheImpl.{ghosts}
use Rattle.cord_session.specs.declared.kept.Kept.{Kept}
use Rattle.cord_session.specs.contracts.kept.Kept.{the_row}

-- nothing, or what is held, on the heap at this pointer, with the right to free it
abbrev pub slot_owns : Global → Ptr → Option Kept → Fml
slot_owns heap p None = ftrue
slot_owns heap p (Some kept) = box_owns (ghosts.dealloc_token heap) the_row p kept
