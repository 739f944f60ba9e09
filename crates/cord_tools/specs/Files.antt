-- What the tools say of the bytes of files.
use Rattle.std.specs.Prelude.{◌≡◌, ◌↔◌, ◌⊎◌, ℕ, ◌<◌, ◌≤◌, List, ◌++◌, length, map, take, drop, get_or, Option, None, Result, Ok, Err, IsSome, IsOk, IsErrOf, IfErr, OnOk, OnErr, codes}
use Rattle.std.specs.List.{flat_map, range_with_len, sum}
use Rattle.std.specs.Fmt.{decimal}
use Rattle.std.specs.Io.KnownBytes.{Appends, Keeps}
use Rattle.std.specs.declared.cmp.Ordering.{Ordering}
use Rattle.std.specs.declared.cmp.Ordering.TheVariants.{Less, Equal, Greater}
use Rattle.rope_node.specs.declared.limits.TheConstants.{TEXT_LIMIT}
use Rattle.byte_output.specs.Prefix.{AppendsPrefix}
use Rattle.lazy_file.specs.SourceTexts.{Agrees, Stated, text_at}
use Rattle.lazy_file.specs.Readings.{Reading}
use Rattle.rope_node.specs.Denotes.{Cell, Place}
use Rattle.node_table.specs.declared.fault.NodeFault.TheVariants.{TooLong}
use Rattle.rebalance.specs.declared.fault.BalanceFault.{BalanceFault}
use Rattle.rebalance.specs.declared.fault.BalanceFault.TheVariants.{Node}
use Rattle.cord_search.specs.Order.{order}
use Rattle.cord_search.specs.Places.{IsFirst, IsFirstPlace}
use Rattle.cord_search.specs.declared.pattern.TheConstants.{PATTERN_LIMIT}
use Rattle.cord_tools.specs.Faults.{IsJoinFault, IsStop}
use Rattle.cord_tools.specs.Unread.{ToolReadsCells}
use Rattle.cord_tools.specs.declared.fault.ToolFault.{ToolFault}
use Rattle.cord_tools.specs.declared.fault.ToolFault.TheVariants.{Memory, Read, Write, PatternTooLong, Rope}
use Rattle.cord_tools.specs.declared.status.Status.{Status}
use Rattle.cord_tools.specs.declared.status.Status.TheVariants.{Success, Failure}

-- the bytes of source s
abbrev pub file_bytes : List ℕ → (ℕ → ℕ → ℕ) → ℕ → List ℕ
file_bytes sizes source s = map (source s) (range_with_len 0 (get_or sizes s 0))

-- P holds of the bytes of source s, whatever bytes the sources have that agree with what they state, where it states a
-- text
abbrev pub OfFile : Stated → ℕ → (List ℕ → Type 0) → Type 0
OfFile st s P = (source : ℕ → ℕ → ℕ) → Agrees st source → IsSome (text_at st s) → P (file_bytes st.sizes source s)

-- the same of two
abbrev pub OfFiles : Stated → ℕ → ℕ → (List ℕ → List ℕ → Type 0) → Type 0
OfFiles st s r P = (source : ℕ → ℕ → ℕ) → Agrees st source → IsSome (text_at st s) → IsSome (text_at st r)
    → P (file_bytes st.sizes source s) (file_bytes st.sizes source r)

-- all the cells of source s
abbrev pub file_cells : List ℕ → ℕ → List Cell
file_cells sizes s = map (Place s) (range_with_len 0 (get_or sizes s 0))

-- the cells of n sources from source first on, one behind the other
abbrev pub cells_of_sources : List ℕ → ℕ → ℕ → List Cell
cells_of_sources sizes first n = flat_map (file_cells sizes) (range_with_len first n)

-- the cells of all the sources
abbrev pub all_cells : List ℕ → List Cell
all_cells sizes = cells_of_sources sizes 0 (length sizes)

-- the bytes of all the sources, one behind the other
abbrev pub joined_bytes : List ℕ → (ℕ → ℕ → ℕ) → List ℕ
joined_bytes sizes source = flat_map (file_bytes sizes source) (range_with_len 0 (length sizes))

-- P holds of the bytes of all the sources, where each of them states a text
abbrev pub OfAllFiles : Stated → (List ℕ → Type 0) → Type 0
OfAllFiles st P = (source : ℕ → ℕ → ℕ) → Agrees st source → ((s : ℕ) → s < length st.sizes → IsSome (text_at st s))
    → P (joined_bytes st.sizes source)

-- ---- a part of a file

-- At most count bytes of source 0 from start on were written, and nothing else; where it ended before, a prefix of
-- them.
pub record CutsFile (old new : Reading) (start count : ℕ)
    (before after : Option (List ℕ)) (outcome : Result (Unit {0}) ToolFault) : Type 0 where
  pub reads : ToolReadsCells old new (take count (drop start (file_cells old.stated.sizes 0))) outcome
  pub ok : OnOk outcome (OfFile old.stated 0 (λ t. Appends before after (take count (drop start t))))
  pub err : OnErr outcome (OfFile old.stated 0 (λ t. AppendsPrefix before after (take count (drop start t))))
  pub fault : IfErr outcome IsStop

-- ---- files, one behind the other

-- The bytes of all the sources were written, and nothing else; where it ended before, a prefix of them. They are
-- refused as too long alone, and then nothing was written.
pub record JoinsFiles (old new : Reading)
    (before after : Option (List ℕ)) (outcome : Result (Unit {0}) ToolFault) : Type 0 where
  pub reads : ToolReadsCells old new (all_cells old.stated.sizes) outcome
  pub ok : OnOk outcome (OfAllFiles old.stated (Appends before after))
  pub err : OnErr outcome (OfAllFiles old.stated (AppendsPrefix before after))
  pub fault : IfErr outcome IsJoinFault
  pub refused : (fault : BalanceFault) → IsErrOf outcome (Rope fault) → Keeps before after
  pub too_long : IsErrOf outcome (Rope (Node TooLong)) → TEXT_LIMIT ≤ sum old.stated.sizes
  pub short : IsOk outcome ⊎ (IsErrOf outcome Write ⊎ IsErrOf outcome Read) → sum old.stated.sizes < TEXT_LIMIT
  pub long : TEXT_LIMIT ≤ sum old.stated.sizes → Keeps before after

-- ---- the first place of a pattern

-- the line that tells a place
abbrev pub place_line : ℕ → List ℕ
place_line k = decimal k ++ codes "\n"

-- The line of the pattern's first place was written, or nothing where it has none; where the writer failed, a prefix of
-- that line; where the tool was stopped before, nothing.
abbrev pub AnswersFind : Stated → ℕ → List ℕ → Option (List ℕ) → Option (List ℕ) → Result Status ToolFault → Type 0
AnswersFind st start pattern before after (Ok Success) =
    (k : ℕ) × OfFile st 0 (λ t. IsFirstPlace pattern t start k) × Appends before after (place_line k)
AnswersFind st start pattern before after (Ok Failure) =
    OfFile st 0 (λ t. IsFirst pattern t start None) × Keeps before after
AnswersFind st start pattern before after (Err Write) =
    (k : ℕ) × OfFile st 0 (λ t. IsFirstPlace pattern t start k) × AppendsPrefix before after (place_line k)
AnswersFind st start pattern before after (Err Read) = Keeps before after
AnswersFind st start pattern before after (Err Memory) = Keeps before after
AnswersFind st start pattern before after (Err PatternTooLong) = Keeps before after
AnswersFind st start pattern before after (Err other) = ⊥

-- The search reads source 0 from start on, refuses long patterns alone, and writes what its answer says.
pub record FindsPattern (old new : Reading) (start : ℕ)
    (pattern : List ℕ)
    (before after : Option (List ℕ)) (outcome : Result Status ToolFault) : Type 0 where
  pub reads : ToolReadsCells old new (drop start (file_cells old.stated.sizes 0)) outcome
  pub answer : AnswersFind old.stated start pattern before after outcome
  pub too_long : IsErrOf outcome PatternTooLong ↔ (PATTERN_LIMIT < length pattern)

-- ---- the order of two files

-- the line that tells an order
abbrev pub order_line : Ordering → List ℕ
order_line Less = codes "less\n"
order_line Equal = codes "equal\n"
order_line Greater = codes "greater\n"

abbrev pub order_status : Ordering → Status
order_status Less = Failure
order_status Equal = Success
order_status Greater = Failure

-- this is the order of the bytes of sources 0 and 1
abbrev pub IsOrderOfFiles : Stated → Ordering → Type 0
IsOrderOfFiles st found = OfFiles st 0 1 (λ t u. found ≡ order t u)

-- The line of the order of sources 0 and 1 was written, and the status says whether they are equal; where the writer
-- failed, a prefix of that line; where the tool was stopped before, nothing.
abbrev pub AnswersCompare : Stated → Option (List ℕ) → Option (List ℕ) → Result Status ToolFault → Type 0
AnswersCompare st before after (Ok status) =
    (found : Ordering) × IsOrderOfFiles st found × (status ≡ order_status found)
    × Appends before after (order_line found)
AnswersCompare st before after (Err Write) =
    (found : Ordering) × IsOrderOfFiles st found × AppendsPrefix before after (order_line found)
AnswersCompare st before after (Err Read) = Keeps before after
AnswersCompare st before after (Err Memory) = Keeps before after
AnswersCompare st before after (Err other) = ⊥

-- The comparison reads sources 0 and 1, and writes what its answer says.
pub record ComparesFiles (old new : Reading)
    (before after : Option (List ℕ)) (outcome : Result Status ToolFault) : Type 0 where
  pub reads : ToolReadsCells old new
      (file_cells old.stated.sizes 0 ++ file_cells old.stated.sizes 1) outcome
  pub answer : AnswersCompare old.stated before after outcome
