-- The histories of the worked examples of origins, over a pool of so many bytes and sources of these lengths.
use Rattle.std.specs.Prelude.{ℕ, List, [], ◌∷◌, get_or}
use Rattle.command_parts.specs.Commands.{FullEdit, New, Open, Insert, Delete, Replace, Paste, Fill, Back, Balance, Many}
use Rattle.worked_tests.specs.Commands.{splice}
use Rattle.byte_origins.specs.declared.run.Brought.{Brought}
use Rattle.byte_origins.specs.declared.run.Origin.{Origin}
use Rattle.byte_origins.specs.declared.run.OriginRun.{OriginRun}
use Rattle.byte_origins.specs.Origins.{origins_from}

-- the origins of text k of these commands
abbrev pub origins : ℕ → List ℕ → List FullEdit → ℕ → List Origin
origins pool_len sources commands k = get_or (origins_from pool_len sources [] commands) k []

-- len bytes that came in side by side, the first of them with revision's text at place
abbrev pub run : ℕ → ℕ → Brought → ℕ → OriginRun
run revision place brought len = record {
  first = record { revision = revision; place = place; brought = brought };
  len = len;
}

-- `the fox`, and `brown ` put in front of `fox`
abbrev pub fox : List FullEdit
fox = New ∷ Insert 0 0 0 7 ∷ Insert 1 4 7 6 ∷ []

-- `abc` pasted into itself: `aabcbc`
abbrev pub pasted_twice : List FullEdit
pasted_twice = New ∷ Insert 0 0 0 3 ∷ Paste 1 1 1 0 3 ∷ []

-- `the fox and the dog`, with `cat` for `dog`, and `quick ` in front of `fox`
abbrev pub quick : List FullEdit
quick = New ∷ Insert 0 0 0 19 ∷ Replace 1 16 3 19 3 ∷ Insert 2 4 22 6 ∷ Balance 3 ∷ []

-- a file of five bytes, and three dashes behind its second byte
abbrev pub filled : List FullEdit
filled = Open 0 ∷ Fill 0 2 45 3 ∷ []

-- `abc` without its `b`, with another `b`, and as it was
abbrev pub undone : List FullEdit
undone = New ∷ Insert 0 0 0 3 ∷ Delete 1 1 1 ∷ Insert 2 1 3 1 ∷ Back 1 ∷ []

-- `ab` with both bytes replaced at once, by those of the pool at these places
abbrev pub exchanged : ℕ → ℕ → List FullEdit
exchanged x y = New ∷ Insert 0 0 0 2 ∷ Many 1 (splice 0 1 x 1 ∷ splice 1 1 y 1 ∷ []) ∷ []
