-- Why a command is refused before any change: the first reason that there is.
use Rattle.std.specs.Prelude.{◌≡◌, ℕ, ◌+◌, ◌-◌, Bool, false, not, ◌&&◌, ◌||◌, nat_lt, nat_le, ◌==◌, if◌then◌else◌, List, [], ◌∷◌, length, map, get_or, Option, Some, None}
use Rattle.std.specs.List.{list_any, sum_by}
use Rattle.leaf_buffer.specs.declared.block.TheConstants.{BLOCK_SIZE}
use Rattle.rope_node.specs.declared.limits.TheConstants.{TEXT_LIMIT}
use Rattle.node_table.specs.declared.fault.NodeFault.TheVariants as NodeFault
use Rattle.edit_commands.specs.declared.command.Command.{Command}
use Rattle.edit_commands.specs.declared.command.Command.TheVariants.{New, Open, Insert, Delete, Replace, Paste, Join, Cut, Fill, Back, Balance, Many}
use Rattle.edit_commands.specs.declared.fault.EditFault.{EditFault}
use Rattle.edit_commands.specs.declared.fault.EditFault.TheVariants.{NoRevision, NoSource, Range, EmptyText, TooManyRevisions, Node, SpliceCount, TooManySplices}
use Rattle.command_parts.specs.declared.edit.TheConstants.{MOST_REVISIONS}
use Rattle.command_parts.specs.declared.edit.Splice.{Splice}
use Rattle.command_parts.specs.declared.edit.TheConstants.{MOST_SPLICES}
use Rattle.command_parts.specs.Commands.{are_apart}
use Rattle.edit_commands.specs.declared.command.Change.{Change}
use Rattle.command_parts.specs.declared.edit.TheConstants.{SPLICES_LIMIT}
use Rattle.edit_commands.specs.Session.{SessionValue, length_at, splices_held}

-- the revisions that a command names, each with the end of what it names of it
abbrev pub ends_of : Command → List (ℕ × ℕ)
ends_of New = []
ends_of (Open s) = []
ends_of (Insert r p bytes) = (r, p) ∷ []
ends_of (Delete r p n) = (r, p + n) ∷ []
ends_of (Replace r p m bytes) = (r, p + m) ∷ []
ends_of (Paste r p q i n) = (r, p) ∷ (q, i + n) ∷ []
ends_of (Join r q) = (r, 0) ∷ (q, 0) ∷ []
ends_of (Cut r i n) = (r, i + n) ∷ []
ends_of (Fill r p c n) = (r, p) ∷ []
ends_of (Back r) = (r, 0) ∷ []
ends_of (Balance r) = (r, 0) ∷ []
ends_of (Many r changes bytes) = (r, 0) ∷ []

-- the bytes that a command hands in
abbrev pub bytes_of : Command → Option (List ℕ)
bytes_of (Insert r p bytes) = Some bytes.now
bytes_of (Replace r p m bytes) = Some bytes.now
bytes_of _ = None

-- the changes that a command hands in
abbrev pub changes_of : Command → List Change
changes_of (Many r changes bytes) = changes.now
changes_of _ = []

-- they take all bytes that it hands in
abbrev pub TakesAll : Command → Type 0
TakesAll (Many r changes bytes) = sum_by (λ c. c.n) changes.now ≡ length bytes.now
TakesAll _ = Unit {0}

-- a change as a splice whose bytes have no place yet
abbrev pub unplaced : Change → Splice
unplaced c = record { p = c.p; m = c.m; a = 0; n = c.n }

-- how long the text of a command in range is
abbrev pub result_len : SessionValue → Command → ℕ
result_len v New = 0
result_len v (Open s) = get_or v.held.sources s 0
result_len v (Insert r p bytes) = length_at v r + length bytes.now
result_len v (Delete r p n) = length_at v r - n
result_len v (Replace r p m bytes) = (length_at v r - m) + length bytes.now
result_len v (Paste r p q i n) = length_at v r + n
result_len v (Join r q) = length_at v r + length_at v q
result_len v (Cut r i n) = n
result_len v (Fill r p c n) = length_at v r + n
result_len v (Back r) = length_at v r
result_len v (Balance r) = length_at v r
result_len v (Many r changes bytes) = (length_at v r - sum_by (λ c. c.m) changes.now) + length bytes.now

-- the tests, one for each reason

abbrev pub names_no_revision : SessionValue → Command → Bool
names_no_revision v command = list_any (λ (e : ℕ × ℕ). nat_le (length v.revisions) e.0) (ends_of command)

abbrev pub names_no_source : SessionValue → Command → Bool
names_no_source v (Open s) = nat_le (length v.held.sources) s
names_no_source v _ = false

-- a number of changes that no command has
abbrev pub is_wrong_count : Command → Bool
is_wrong_count (Many r changes bytes) = length changes.now == 0 || nat_lt MOST_SPLICES (length changes.now)
is_wrong_count _ = false

-- a change ends past the text, or stands before the end of the one before it, or at its place
abbrev pub are_misplaced : SessionValue → Command → Bool
are_misplaced v (Many r changes bytes) =
    list_any (λ c. nat_lt (length_at v r) (c.p + c.m)) changes.now || not (are_apart (map unplaced changes.now))
are_misplaced v _ = false

abbrev pub is_out_of_range : SessionValue → Command → Bool
is_out_of_range v command =
    list_any (λ (e : ℕ × ℕ). nat_lt (length_at v e.0) e.1) (ends_of command) || are_misplaced v command

abbrev pub is_empty_text : Option (List ℕ) → Bool
is_empty_text None = false
is_empty_text (Some bytes) = length bytes == 0

-- a change of nothing
abbrev pub changes_nothing : Change → Bool
changes_nothing c = c.m == 0 && c.n == 0

abbrev pub is_empty : Command → Bool
is_empty command = is_empty_text (bytes_of command) || list_any changes_nothing (changes_of command)

abbrev pub is_long_text : Option (List ℕ) → Bool
is_long_text None = false
is_long_text (Some bytes) = nat_lt BLOCK_SIZE (length bytes)

abbrev pub is_full : SessionValue → Bool
is_full v = nat_le MOST_REVISIONS (length v.revisions)

abbrev pub is_full_of_splices : SessionValue → Command → Bool
is_full_of_splices v command = nat_lt SPLICES_LIMIT (splices_held v.revisions + length (changes_of command))

abbrev pub is_too_long : SessionValue → Command → Bool
is_too_long v command =
    nat_le TEXT_LIMIT (result_len v command) || is_long_text (bytes_of command)
    || list_any (λ c. nat_lt BLOCK_SIZE c.n) (changes_of command)

-- the fault of the first test that holds
abbrev pub first_that_holds : List (Bool × EditFault) → Option EditFault
first_that_holds [] = None
first_that_holds (x ∷ xs) = if x.0 then Some x.1 else first_that_holds xs

abbrev pub refusal_of : SessionValue → Command → Option EditFault
refusal_of v command = first_that_holds (
    (names_no_revision v command, NoRevision)
    ∷ (is_wrong_count command, SpliceCount)
    ∷ (names_no_source v command, NoSource)
    ∷ (is_out_of_range v command, Range)
    ∷ (is_empty command, EmptyText)
    ∷ (is_full v, TooManyRevisions)
    ∷ (is_full_of_splices v command, TooManySplices)
    ∷ (is_too_long v command, Node NodeFault.TooLong)
    ∷ [])
