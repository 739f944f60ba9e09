-- What a handle holds, in the words of sessions.
use Rattle.std.specs.Prelude.{Option}
use Rattle.std.specs.Option.{option_map}
use Rattle.edit_commands.specs.Session.{SessionValue}
use Rattle.cord_session.specs.declared.kept.Kept.{Kept}

-- the session, where there is one
abbrev pub session_of : Option Kept → Option SessionValue
session_of held = option_map (λ (k : Kept). k.session) held
