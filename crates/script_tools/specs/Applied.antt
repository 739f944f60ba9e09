-- What applying a script to a new session writes.
use Rattle.std.specs.Prelude.{◌≡◌, ℕ, ◌<◌, ◌≤◌, List, length, get_or, Option, Result, Ok, Err}
use Rattle.std.specs.Io.KnownBytes.{Appends, Keeps}
use Rattle.byte_output.specs.Prefix.{AppendsPrefix}
use Rattle.rope_node.specs.declared.limits.TheConstants.{MOST_SOURCES, TEXT_LIMIT}
use Rattle.node_table.specs.declared.fault.NodeFault.TheVariants.{TooManySources, TooLong}
use Rattle.node_table.specs.declared.node_table.TheConstants.{FEW_SOURCES}
use Rattle.edit_commands.specs.declared.fault.EditFault.{EditFault}
use Rattle.edit_commands.specs.declared.fault.EditFault.TheVariants.{Node, Memory}
use Rattle.edit_commands.specs.Session.{SessionValue, HoldsHistory, IsSession, new_session}
use Rattle.edit_script.specs.declared.fault.Stopped.{Stopped}
use Rattle.edit_script.specs.Words.{Word}
use Rattle.edit_script.specs.Applied.{TakesLines, lines_of}
use Rattle.edit_script.specs.Scripts.{AreInside, ReadsScript, words_held}
use Rattle.image_reader.specs.Spelling.{spelling}
use Rattle.image_reader.specs.Value.{IsImage}
use Rattle.session_image.specs.Written.{AreAsMade, IsTrusted, image_of}
use Rattle.script_tools.specs.declared.fault.ApplyFault.{ApplyFault}
use Rattle.script_tools.specs.declared.fault.ApplyFault.TheVariants.{Stop, Source, Write}

-- a session that the script made, from a new one with these sources
pub record IsMadeByScript (lens script : List ℕ) (v : SessionValue) : Type 0 where
  pub takes : TakesLines (new_session lens) 0 (lines_of script) (Ok tt) v
  -- it says what the script says, has these sources, and its texts are the history of its commands
  pub says : (commands : List (List Word)) → ReadsScript (lines_of script) commands
      → (words_held v ≡ commands) × AreInside v
  pub sources : v.held.sources ≡ lens
  pub history : HoldsHistory v

-- sources of these lengths may all be added to a new session
pub record MayBeAdded (lens : List ℕ) : Type 0 where
  pub few : length lens ≤ MOST_SOURCES
  pub short : (k : ℕ) → k < length lens → get_or lens k 0 < TEXT_LIMIT

-- the script stops at this line, over a new session with these sources; what it leaves is a session
pub record IsStopped (lens script : List ℕ) (at : Stopped) : Type 0 where
  pub added : MayBeAdded lens
  pub last : SessionValue
  pub stops : TakesLines (new_session lens) 0 (lines_of script) (Err at) last
  pub session : IsSession last

-- why a source of this length is not added behind so many others: they are as many as there may be; or else it is too
-- long; or memory is refused, which few sources do not want
abbrev pub IsSourceFault : ℕ → ℕ → EditFault → Type 0
IsSourceFault n len (Node TooManySources) = n ≡ MOST_SOURCES
IsSourceFault n len (Node TooLong) = (n < MOST_SOURCES) × (TEXT_LIMIT ≤ len)
IsSourceFault n len Memory = FEW_SOURCES ≤ n
IsSourceFault n len _ = ⊥

-- sources of these lengths are not added: the first that is refused is refused so
pub record AreRefused (lens : List ℕ) (fault : EditFault) : Type 0 where
  pub number : ℕ
  pub there : number < length lens
  pub earlier : (k : ℕ) → k < number → get_or lens k 0 < TEXT_LIMIT
  pub is : IsSourceFault number (get_or lens number 0) fault

-- a source is refused, or the script is
abbrev pub MakesNone : List ℕ → List ℕ → ApplyFault → Type 0
MakesNone lens script (Stop at) = IsStopped lens script at
MakesNone lens script (Source fault) = AreRefused lens fault
MakesNone lens script Write = ⊥

-- the image of the session that the script makes was written, or a prefix of it; or nothing, where it makes none
abbrev pub AppliesScript : List ℕ → List ℕ → Option (List ℕ) → Option (List ℕ) → Result (Unit {0}) ApplyFault → Type 0
AppliesScript lens script before after (Ok u) =
    (v : SessionValue) × IsMadeByScript lens script v × IsImage (image_of v) × IsTrusted v × AreAsMade (image_of v)
    × Appends before after (spelling (image_of v))
AppliesScript lens script before after (Err Write) =
    (v : SessionValue) × IsMadeByScript lens script v × AppendsPrefix before after (spelling (image_of v))
AppliesScript lens script before after (Err (Stop at)) = Keeps before after × IsStopped lens script at
AppliesScript lens script before after (Err (Source fault)) = Keeps before after × AreRefused lens fault
