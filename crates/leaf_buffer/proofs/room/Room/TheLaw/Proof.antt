-- A `&` to the memory reads the bytes that were written.
use mathlib.Core.List.{[]}
use Prim.Native.Nat.{◌+◌, ◌-◌}
use lib.ListN.{length}
use base.Fraction.{full_share}
use base.Fml.{froom}
use denote.RawPtr.{block_of, count_of}
use denote.RawPtr.Bytes.{bytes}
use denote.Struct.Lending.{of_Lends, Lends-first}
use Rattle.leaf_buffer.specs.declared.block.TheConstants.{BLOCK_SIZE}
use Rattle.leaf_buffer.specs.Memory.{bare, lent_bytes}
use Rattle.leaf_buffer.specs.contracts.room.Room as C
use Rattle.leaf_buffer.proofs.Lending.{lent_laws, Lends-bytes}
use Rattle.leaf_buffer.proofs.room.Room.TheLaw.Statement.{statement}

pub shares : statement
shares =
    of_Lends C.struct C.the_codes C.the_heap C.the_lent (λ d p. lent_laws d.first d.bytes) tt (λ M 𝓤 𝓛 d p.
    let b = block_of d.first in let o = count_of d.first in
    Lends-first 𝓛 (bytes full_share d.bytes b o) (froom (bare (BLOCK_SIZE - length d.bytes)) b (o + length d.bytes)) (lent_bytes d.first d.bytes) [] (Lends-bytes 𝓛 b d.bytes o))
