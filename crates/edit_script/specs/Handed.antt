-- The words of commands as they are handed to a session, and of those that are read into a room.
use Rattle.std.specs.Prelude.{◌≡◌, ℕ, ◌+◌, ◌<◌, ◌≤◌, List, [], ◌∷◌, length, Option, Some, None}
use Rattle.std.specs.List.{sum_by}
use Rattle.command_parts.specs.declared.edit.Edit.{Edit}
use Rattle.command_parts.specs.declared.edit.Edit.TheVariants as E
use Rattle.command_parts.specs.declared.edit.Splice.{Splice}
use Rattle.command_parts.specs.Commands.{with_splices}
use Rattle.command_parts.specs.Fields.{splices_of, IsPlacedAt}
use Rattle.edit_commands.specs.declared.command.Change.{Change}
use Rattle.edit_commands.specs.declared.command.Command.{Command}
use Rattle.edit_commands.specs.declared.command.Command.TheVariants.{Insert, Replace, Many}
use Rattle.edit_commands.specs.Building.{command_with, placed_changes}
use Rattle.edit_script.specs.declared.room.Room.{Room}
use Rattle.edit_script.specs.Words.{Word}
use Rattle.edit_script.specs.Commands.{words_of}

-- ---- as handed in

-- the bytes, none where it hands in none
abbrev pub bytes_handed : Command → List ℕ
bytes_handed (Insert r p bytes) = bytes.now
bytes_handed (Replace r p m bytes) = bytes.now
bytes_handed (Many r changes bytes) = bytes.now
bytes_handed _ = []

-- the places in them of what each change takes, one behind the other from a on
abbrev pub places_from : ℕ → List Change → List ℕ
places_from a [] = []
places_from a (c ∷ changes) = a ∷ places_from (a + c.n) changes

abbrev pub places_handed : Command → List ℕ
places_handed (Many r changes bytes) = places_from 0 changes.now
places_handed _ = 0 ∷ []

-- the words of a command that hands in its bytes
abbrev pub words_handed : Command → List Word
words_handed command = words_of (bytes_handed command) (command_with (places_handed command) command)

-- ---- as read into a room

-- the changes, each with the place of its bytes
abbrev pub placed_splices : List Change → List Splice
placed_splices changes = placed_changes changes (places_from 0 changes)

-- the words of a command whose bytes and changes these are
abbrev pub words_in : List ℕ → List Change → Edit → List Word
words_in bytes changes edit = words_of bytes (with_splices (placed_splices changes) edit)

-- the words of a line's command, none where it has none
abbrev pub said : Room → Option Edit → List Word
said room None = []
said room (Some edit) = words_in room.bytes.items room.changes.items edit

-- The bytes that a command names are in the room; its changes take all of them; a fill is one of a byte.
abbrev pub IsInRoom : Room → Edit → Type 0
IsInRoom room (E.Insert r p a n) = a + n ≤ length room.bytes.items
IsInRoom room (E.Replace r p m a n) = a + n ≤ length room.bytes.items
IsInRoom room (E.Fill r p c n) = c < 256
IsInRoom room (E.Many r first count) = sum_by (λ c. c.n) room.changes.items ≡ length room.bytes.items
IsInRoom room edit = Unit {0}

-- a command's splices are the room's changes, the first one first
abbrev pub NamesChanges : Room → Edit → Type 0
NamesChanges room edit = (splices_of edit ≡ length room.changes.items) × IsPlacedAt 0 edit
