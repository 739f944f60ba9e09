-- Sessions that are gone on with: where they begin, and what goes further.
use Rattle.std.specs.Prelude.{◌≡◌, List, ◌++◌}
use Rattle.edit_commands.specs.declared.revision.Revision.{Revision}
use Rattle.edit_commands.specs.Session.{IsSession, SessionValue}
use Rattle.edit_commands.specs.Applying.{Keeps}
use Rattle.image_reader.specs.Value.{ImageValue}
use Rattle.session_checker.specs.Faithful.{EachRevision}
use Rattle.session_checker.specs.RevisionRules.{HasRowsOverNoSource}
use Rattle.saved_session.specs.TakenUp.{TakesUp}

-- a session that says what an image says, none of whose rows of bytes is over a source
pub record IsTakenUp (v : ImageValue) (begun : SessionValue) : Type 0 where
  pub session : IsSession begun
  pub takes : TakesUp v begun
  pub no_source : EachRevision v (HasRowsOverNoSource v)

-- the revisions of the older session are its first ones, with the cells that they had
pub record GoesFurther (old new : SessionValue) : Type 0 where
  pub more : List Revision
  pub revisions : new.revisions ≡ old.revisions ++ more
  pub keeps : Keeps old new
