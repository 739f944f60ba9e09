-- What the calls answer that ask a rope of a table, over what sources state.
use Rattle.std.specs.Prelude.{◌≡◌, ◌≢◌, ◌⊎◌, ◌↔◌, ℕ, ◌+◌, ◌<◌, ◌≤◌, min, List, [], ◌∷◌, length, take, drop, Option, None, Some}
use Rattle.std.specs.declared.cmp.Ordering.{Ordering}
use Rattle.function_leaf.specs.declared.coded.Coded.{Coded}
use Rattle.lazy_file.specs.SourceTexts.{AreSizes, Stated}
use Rattle.rope_node.specs.declared.node.NodeId.{NodeId}
use Rattle.rope_node.specs.Table.{Table}
use Rattle.rope_node.specs.Denotes.{rope_depth, rope_len}
use Rattle.cord_position.specs.Fetched.{EachCell, IsFetched, IsReadable, rope_cell, rope_part}
use Rattle.cord_position.specs.Runs.{AreBytesOf, run_left}
use Rattle.cord_search.specs.declared.pattern.TheConstants.{PATTERN_LIMIT}
use Rattle.cord_search.specs.Stated.{FindsFirst, FindsLast, OrdersParts}
use Rattle.cord_types.specs.declared.run.CordRun.{CordRun}
use Rattle.cord_types.specs.ToldRuns.{IsToldRun}
use Rattle.cord_store.specs.declared.codes.TheConstants.{BAD_SOURCES, DONE, LONG_PATTERN, MEMORY, RANGE, UNHELD}
use Rattle.cord_store.specs.Numbers.{order_number, place_number}

-- each cell of a rope from one place to another can be read
abbrev pub CanRead : Table → Stated → Option NodeId → ℕ → ℕ → Type 0
CanRead t st rope i j = EachCell (rope_cell t rope) i j (IsReadable st)

-- A refusal for the sources: they are none, which is told first; or a byte could not be read, which is never told where
-- all that may be read can be.
pub record RefusesSources (st : Stated) (outcome : ℕ) (Readable : Type 0) : Type 0 where
  pub bad : ¬ AreSizes st.sizes → outcome ≡ BAD_SOURCES
  pub good : AreSizes st.sizes → outcome ≢ BAD_SOURCES
  pub held : Readable → outcome ≢ UNHELD

-- bytes from a place on: all up to the end of the leaf's span there, or as many as there is room for
pub record ReadsPart (t : Table) (st : Stated) (rope : Option NodeId) (place : ℕ) (old new : List ℕ) (count outcome : ℕ)
    : Type 0 where
  pub count_is : outcome ≡ DONE → count ≡ min (run_left t rope place) (length old)
  pub bytes : outcome ≡ DONE → AreBytesOf st (rope_part t rope place count) (take count new)
  pub rest : outcome ≡ DONE → drop count new ≡ drop count old
  pub none : outcome ≢ DONE → count ≡ 0
  pub refuses : RefusesSources st outcome (CanRead t st rope place (place + min (run_left t rope place) (length old)))
  pub told : (outcome ≡ DONE) ⊎ ((outcome ≡ UNHELD) ⊎ (outcome ≡ BAD_SOURCES))

-- the byte at a place
pub record FetchesPlace (t : Table) (st : Stated) (rope : Option NodeId) (place old new outcome : ℕ) : Type 0 where
  pub found : outcome ≡ DONE → IsFetched t st rope place (Some new)
  pub inside : outcome ≡ DONE → place < rope_len t rope
  pub past : outcome ≡ RANGE → rope_len t rope ≤ place
  pub kept : outcome ≢ DONE → new ≡ old
  pub refuses : RefusesSources st outcome (IsReadable st (rope_cell t rope place))
  pub told : (outcome ≡ DONE) ⊎ ((outcome ≡ RANGE) ⊎ ((outcome ≡ UNHELD) ⊎ (outcome ≡ BAD_SOURCES)))

-- where the byte at a place stands
pub record LocatesPlace (t : Table) (coded : ℕ → Coded) (rope : Option NodeId) (place : ℕ) (old new : CordRun)
    (outcome : ℕ) : Type 0 where
  pub there : place < rope_len t rope → (outcome ≡ DONE) × IsToldRun t coded rope place new
  pub past : rope_len t rope ≤ place → (outcome ≡ RANGE) × (new ≡ old)

-- the first place of a pattern from a place on
pub record FindsText (t : Table) (st : Stated) (rope : Option NodeId) (pattern : List ℕ) (from outcome before after : ℕ)
    : Type 0 where
  pub found : outcome ≡ DONE
      → (place : Option ℕ) × (after ≡ place_number place) × FindsFirst t st rope pattern from place
  pub kept : outcome ≢ DONE → after ≡ before
  pub refuses : RefusesSources st outcome (CanRead t st rope from (rope_len t rope))
  pub too_long : AreSizes st.sizes → (outcome ≡ LONG_PATTERN) ↔ (PATTERN_LIMIT < length pattern)
  pub told : (outcome ≡ DONE) ⊎ ((outcome ≡ LONG_PATTERN) ⊎ ((outcome ≡ MEMORY)
      ⊎ ((outcome ≡ UNHELD) ⊎ (outcome ≡ BAD_SOURCES))))

-- the first place of a byte from a place on
pub record FindsByte (t : Table) (st : Stated) (rope : Option NodeId) (c from outcome before after : ℕ) : Type 0 where
  pub found : outcome ≡ DONE
      → (place : Option ℕ) × (after ≡ place_number place) × FindsFirst t st rope (c ∷ []) from place
  pub kept : outcome ≢ DONE → after ≡ before
  pub refuses : RefusesSources st outcome (CanRead t st rope from (rope_len t rope))
  pub told : (outcome ≡ DONE) ⊎ ((outcome ≡ UNHELD) ⊎ (outcome ≡ BAD_SOURCES))

-- the last place of a byte up to a place
pub record FindsLastByte (t : Table) (st : Stated) (rope : Option NodeId) (c from outcome before after : ℕ)
    : Type 0 where
  pub found : outcome ≡ DONE
      → (place : Option ℕ) × (after ≡ place_number place) × FindsLast t st rope (c ∷ []) from place
  pub kept : outcome ≢ DONE → after ≡ before
  pub refuses : RefusesSources st outcome (CanRead t st rope 0 (from + 1))
  pub told : (outcome ≡ DONE) ⊎ ((outcome ≡ UNHELD) ⊎ (outcome ≡ BAD_SOURCES))

-- the order of n bytes of one rope from i on and n bytes of another from j on, or of as many as there are
pub record ComparesParts (t : Table) (st : Stated) (l : Option NodeId) (i : ℕ) (r : Option NodeId)
    (j n outcome before after : ℕ) : Type 0 where
  pub ordered : outcome ≡ DONE
      → (order : Ordering) × (after ≡ order_number order) × OrdersParts t st l i r j n order
  pub kept : outcome ≢ DONE → after ≡ before
  pub refuses : RefusesSources st outcome (CanRead t st l i (i + n) × CanRead t st r j (j + n))
  pub told : (outcome ≡ DONE) ⊎ ((outcome ≡ UNHELD) ⊎ (outcome ≡ BAD_SOURCES))

-- ---- of the rope that a caller names, where there is one: else this reason is told, and nothing else

-- how long it is, and how deep
pub record TellsLen (t : Table) (named : Option (Option NodeId)) (reason outcome before after : ℕ) : Type 0 where
  pub none : named ≡ None → (outcome ≡ reason) × (after ≡ before)
  pub there : (rope : Option NodeId) → named ≡ Some rope → (outcome ≡ DONE) × (after ≡ rope_len t rope)

pub record TellsDepth (t : Table) (named : Option (Option NodeId)) (reason outcome before after : ℕ) : Type 0 where
  pub none : named ≡ None → (outcome ≡ reason) × (after ≡ before)
  pub there : (rope : Option NodeId) → named ≡ Some rope → (outcome ≡ DONE) × (after ≡ rope_depth t rope)

pub record ReadsNamed (t : Table) (st : Stated) (named : Option (Option NodeId)) (reason place : ℕ) (old new : List ℕ)
    (count outcome : ℕ) : Type 0 where
  pub none : named ≡ None → (outcome ≡ reason) × (count ≡ 0) × (new ≡ old)
  pub there : (rope : Option NodeId) → named ≡ Some rope → ReadsPart t st rope place old new count outcome

pub record FetchesNamed (t : Table) (st : Stated) (named : Option (Option NodeId)) (reason place old new outcome : ℕ)
    : Type 0 where
  pub none : named ≡ None → (outcome ≡ reason) × (new ≡ old)
  pub there : (rope : Option NodeId) → named ≡ Some rope → FetchesPlace t st rope place old new outcome

pub record LocatesNamed (t : Table) (coded : ℕ → Coded) (named : Option (Option NodeId)) (reason place : ℕ)
    (old new : CordRun) (outcome : ℕ) : Type 0 where
  pub none : named ≡ None → (outcome ≡ reason) × (new ≡ old)
  pub there : (rope : Option NodeId) → named ≡ Some rope → LocatesPlace t coded rope place old new outcome

pub record FindsNamed (t : Table) (st : Stated) (named : Option (Option NodeId)) (reason : ℕ) (pattern : List ℕ)
    (from outcome before after : ℕ) : Type 0 where
  pub none : named ≡ None → (outcome ≡ reason) × (after ≡ before)
  pub there : (rope : Option NodeId) → named ≡ Some rope → FindsText t st rope pattern from outcome before after

pub record FindsByteNamed (t : Table) (st : Stated) (named : Option (Option NodeId))
    (reason c from outcome before after : ℕ) : Type 0 where
  pub none : named ≡ None → (outcome ≡ reason) × (after ≡ before)
  pub there : (rope : Option NodeId) → named ≡ Some rope → FindsByte t st rope c from outcome before after

pub record FindsLastNamed (t : Table) (st : Stated) (named : Option (Option NodeId))
    (reason c from outcome before after : ℕ) : Type 0 where
  pub none : named ≡ None → (outcome ≡ reason) × (after ≡ before)
  pub there : (rope : Option NodeId) → named ≡ Some rope → FindsLastByte t st rope c from outcome before after

pub record ComparesNamed (t : Table) (st : Stated) (left right : Option (Option NodeId))
    (reason i j n outcome before after : ℕ) : Type 0 where
  pub no_left : left ≡ None → (outcome ≡ reason) × (after ≡ before)
  pub no_right : right ≡ None → (outcome ≡ reason) × (after ≡ before)
  pub there : (l r : Option NodeId) → left ≡ Some l → right ≡ Some r → ComparesParts t st l i r j n outcome before after
