-- Why an image is not taken up.
use Rattle.std.specs.Prelude.{◌⊎◌, ◌<◌, List, length}
use Rattle.node_table.specs.Copies.{TakesMemory}
use Rattle.image_reader.specs.Value.{ImageValue, image_table}
use Rattle.span_certificate.specs.declared.row.Row.{Row}
use Rattle.session_image.specs.Written.{AreAsMade}
use Rattle.session_checker.specs.RevisionRules.{HasRowsOverNoSource}
use Rattle.saved_session.specs.TakenUp.{AreFirstRows, TakenRowsPass}
use Rattle.saved_session.specs.declared.fault.TakeFault.{TakeFault}
use Rattle.saved_session.specs.declared.fault.TakeFault.TheVariants.{OverSource, TooManyRows, Memory}

-- the first revision that has a row of bytes over a source, where the rows before it are not too many; too many rows,
-- of which some are not as a session makes them, up to a revision before which none is over a source; no memory, where
-- the image has a node, a byte in its pool, a revision, or more than few sources
abbrev pub IsTakeFault : ImageValue → TakeFault → Type 0
IsTakeFault v (OverSource k) =
    (k < length v.revisions) × ¬ HasRowsOverNoSource v k × ((before : List (List Row)) × AreFirstRows v k before)
IsTakeFault v TooManyRows = TakenRowsPass v × ¬ AreAsMade v
IsTakeFault v Memory = TakesMemory (image_table v) ⊎ (0 < length v.revisions)
