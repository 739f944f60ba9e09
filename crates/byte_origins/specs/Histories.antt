-- Histories of texts, each as the image that it is or would be written as.
use Rattle.std.specs.Prelude.{ℕ}
use Rattle.std.specs.List.{sum_by}
use Rattle.command_parts.specs.Fields.{splices_of}
use Rattle.image_reader.specs.declared.revision.Revision.{Revision}
use Rattle.image_reader.specs.Value.{ImageValue}

-- how many splices the commands of all revisions name
abbrev pub splices_together : ImageValue → ℕ
splices_together v = sum_by (λ (r : Revision). splices_of r.edit) v.revisions
