-- What a block holds, by the kind of its memory.
use Rattle.leaf_buffer.specs.Filled.{Filled, written_block}
use Rattle.leaf_buffer.specs.declared.block.Kind.{Kind}
use Rattle.leaf_buffer.specs.declared.block.Kind.TheVariants.{Written, Handed}

abbrev pub filled_of : Kind → Filled
filled_of (Written bytes) = written_block bytes
filled_of (Handed bytes) = record { bytes = bytes.items; room = 0 }
