-- The session that an editor begins with.
use Rattle.std.specs.Prelude.{◌≡◌, ◌⊎◌, ℕ, ◌≤◌, ◌<◌, List, [], ◌∷◌, length, get_or, None, Err}
use Rattle.edit_commands.specs.Applying.{Applies, AppliesOrNot}
use Rattle.edit_commands.specs.Session.{SessionValue, length_at, texts_of, edits_of}
use Rattle.screen_editor.specs.declared.fault.EditorFault.{EditorFault}
use Rattle.screen_editor.specs.declared.fault.EditorFault.TheVariants as New
use Rattle.screen_editor.specs.declared.workspace.TheConstants.{LONGEST_TEXT}
use Rattle.screen_editor.specs.Editing.{Editing}
use Rattle.screen_editor.specs.Priors.{priors_of}
use Rattle.screen_editor.specs.Recorded.{edit_at}
use Rattle.screen_editor.specs.Refusals.{first_command}
use Rattle.screen_editor.specs.Revising.{first_text}

-- it has these sources, and no node, no byte and no revision
pub record HoldsOnly (sizes : List ℕ) (v : SessionValue) : Type 0 where
  pub sources : v.held.sources ≡ sizes
  pub no_nodes : v.held.nodes ≡ []
  pub no_bytes : v.held.pool.bytes ≡ []
  pub no_revisions : v.revisions ≡ []

-- it has these sources, and one revision, by the first command, of the first text, whatever bytes the sources have
pub record IsFirstSession (sizes : List ℕ) (v : SessionValue) : Type 0 where
  pub sources : v.held.sources ≡ sizes
  pub one : length v.revisions ≡ 1
  pub command : edits_of v.revisions ≡ edit_at 0 (first_command sizes) ∷ []
  pub text : (source : ℕ → ℕ → ℕ) → texts_of source v ≡ first_text source sizes ∷ []
  pub short : length_at v 0 ≤ LONGEST_TEXT

-- ---- a session that is gone on with

-- at the first byte of its last text, with no mark, no cut span and no message
abbrev pub at_first_byte : SessionValue → Editing
at_first_byte v = record { session = v; priors = priors_of (edits_of v.revisions); place = 0; mark = None; cuts = []; message = None }

-- the session is the one that is handed in, or where that has no revision, what the first command makes of it
pub data GoesOnFrom (old new : SessionValue) : Type 0 where
  there : 1 ≤ length old.revisions → new ≡ old → GoesOnFrom old new
  none : old.revisions ≡ [] → Applies old (first_command old.held.sources) 0 new → GoesOnFrom old new

pub record OpensSession (session : SessionValue) (e : Editing) : Type 0 where
  pub begins : GoesOnFrom session e.session
  pub at_first : e ≡ at_first_byte e.session

-- some text is too long
pub record HasLongText (v : SessionValue) : Type 0 where
  pub k : ℕ
  pub there : k < length v.revisions
  pub long : LONGEST_TEXT < length_at v k

-- some text is, or where there is none, that of the first source
abbrev pub IsTooLongToOpen : SessionValue → Type 0
IsTooLongToOpen v = HasLongText v ⊎ ((v.revisions ≡ []) × (LONGEST_TEXT < get_or v.held.sources 0 0))

-- why there is no editor: it is too long, the first command is refused, or memory is
abbrev pub IsOpenFault : SessionValue → EditorFault → Type 0
IsOpenFault v New.TooLong = IsTooLongToOpen v
IsOpenFault v (New.Edit fault) =
    (v.revisions ≡ []) × ((after : SessionValue) × AppliesOrNot v (first_command v.held.sources) (Err fault) after)
IsOpenFault v New.Memory = Unit {0}
