-- What a block of memory owns, and what it may be read through.
use Rattle.std.specs.Prelude.{◌≡◌, ℕ, ◌+◌, ◌-◌, List, [], length}
use base.Fraction.{full_share}
use base.Fml.{Lft, Fml, fsep, froom}
use mir.Syntax.{Ty, w8, ty_int, ty_array}
use denote.Builtin.{u8}
use denote.RawPtr.{Ptr, block_ptr, block_of, count_of}
use denote.RawPtr.Bytes.{bytes}
use denote.Slice.{elements_shared}
use Rattle.leaf_buffer.specs.declared.block.TheConstants.{BLOCK_SIZE}

-- the pointer is not null
abbrev pub IsNotNull : Ptr → Type 0
IsNotNull p = p ≡ block_ptr (block_of p) (count_of p)

-- n bytes that hold nothing yet
abbrev pub bare : ℕ → Ty
bare n = ty_array (ty_int w8) n

-- the block at p begins with these bytes, and the rest of it holds nothing
abbrev pub room_owns : Ptr → List ℕ → Fml
room_owns p xs =
    fsep (bytes full_share xs (block_of p) (count_of p))
    (froom (bare (BLOCK_SIZE - length xs)) (block_of p) (count_of p + length xs))

-- these bytes lie at p, and may be read while l lasts
abbrev pub lent_bytes : Ptr → List ℕ → Lft → Fml
lent_bytes p xs l = elements_shared u8 xs (block_of p) (count_of p) l

-- a block that was taken at p: its owner is of p and nothing was written, and the right to give it back is of p and of
-- this allocator
abbrev pub IsTaken : {A : Type 0} → Ptr → Ptr → List ℕ → Ptr → A → A → Type 0
IsTaken p owner written right by alloc = (owner ≡ p) × (written ≡ []) × (right ≡ p) × (by ≡ alloc)
