-- What contracts know of a file, or of held bytes, as a device.
use Rattle.std.specs.Prelude.{ℕ, List, Some, length}
use Rattle.std.specs.Global.{Vec}
use Rattle.lazy_file.specs.DeviceTexts.{DeviceReading}
use Rattle.source_device.specs.declared.device.SourceDevice.{SourceDevice}
use Rattle.source_device.specs.declared.device.SourceDevice.TheVariants.{File, Held}

-- bytes that are held are the whole text, and no read of them fails or is counted
abbrev pub held_reading : List ℕ → DeviceReading
held_reading bytes = record { stated = record { size = length bytes; text = Some bytes }; failures = 0; calls = 0 }

-- of a file, what is known of that file
abbrev pub source_reading : {F : Type 0} → (F → DeviceReading) → SourceDevice F → DeviceReading
source_reading reading (File file) = reading file
source_reading reading (Held bytes) = held_reading bytes.items
