-- A session's splices, each revision's by themselves.
use Rattle.std.specs.Prelude.{ℕ, List}
use Rattle.command_parts.specs.declared.edit.Splice.{Splice}
use Rattle.edit_commands.specs.Session.{SessionValue, splices_of_revision}
use Rattle.session_image.specs.Written.{splices_or_none}

-- the splices that the command of revision k names
abbrev pub own_splices : SessionValue → ℕ → List Splice
own_splices v k = splices_or_none (splices_of_revision v k)
