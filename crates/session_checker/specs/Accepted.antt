-- Which bytes are accepted with which sources, by local rules on records, and which fault the others have first.
use Rattle.std.specs.Prelude.{◌≡◌, ℕ, ◌<◌, true, List, length, ◌⊎◌, Some, IsSome, Result, Ok, Err, IsOk}
use Rattle.lazy_file.specs.SourceTexts.{Stated, text_at}
use Rattle.image_reader.specs.Value.{ImageValue, IsImage, image_table}
use Rattle.image_reader.specs.Spelling.{spelling}
use Rattle.image_reader.specs.Reading.{fault_of}
use Rattle.image_reader.specs.declared.fault.ReadFault.{ReadFault}
use Rattle.image_reader.specs.Accepted.{HasSources, AreGoodNodes, IsAlwaysAccepted}
use Rattle.session_checker.specs.declared.fault.CheckFault.{CheckFault}
use Rattle.session_checker.specs.declared.fault.CheckFault.TheVariants.{Read}
use Rattle.session_checker.specs.SourceRules.{IsFirstSourceFault}
use Rattle.session_checker.specs.NodeRules.{IsFirstNodeFault}
use Rattle.session_checker.specs.RevisionRules.{HasRowsOverNoSource, AreGoodOver, ImageAsks, IsFirstRevisionFault}
use Rattle.session_checker.specs.Faithful.{EachRevision, IsFaithful}

-- every source states its text, and no read of what is there fails, as over texts in memory
pub record StatesAll (st : Stated) : Type 0 where
  pub never_fails : st.never_fails ≡ true
  pub texts : (s : ℕ) → s < length st.sizes → IsSome (text_at st s)

-- the sources handed in are the image's, and its nodes keep their rules
abbrev pub HasGoodTables : ImageValue → List ℕ → Type 0
HasGoodTables v sizes = HasSources v sizes × AreGoodNodes (image_table v)

-- the first fault of sources and nodes
abbrev pub IsFirstTableFault : ImageValue → List ℕ → CheckFault → Type 0
IsFirstTableFault v sizes f = IsFirstSourceFault v sizes f ⊎ (HasSources v sizes × IsFirstNodeFault (image_table v) f)

-- the bytes spell an image whose sources, nodes and revisions keep their rules over what the sources state
pub record IsAccepted (bytes : List ℕ) (st : Stated) : Type 0 where
  pub v : ImageValue
  pub image : IsImage v
  pub spelled : bytes ≡ spelling v
  pub tables : HasGoodTables v st.sizes
  pub revisions : AreGoodOver v st

-- the bytes are accepted over what the sources state; they spell this image, which is of just such sources and faithful
pub record SpellsFaithful (bytes : List ℕ) (st : Stated) (v : ImageValue) : Type 0 where
  pub accepted : IsAccepted bytes st
  pub image : IsImage v
  pub spelled : bytes ≡ spelling v
  pub sources : HasSources v st.sizes
  pub faithful : IsFaithful v st

-- The bytes spell an image that keeps its rules with sources of these lengths, whatever bytes they hold, and none of
-- its rows of bytes is over a source. So does each image that a session writes.
pub record NeedsNoRead (bytes : List ℕ) (sizes : List ℕ) : Type 0 where
  pub v : ImageValue
  pub image : IsImage v
  pub spelled : bytes ≡ spelling v
  pub accepted : IsAlwaysAccepted v sizes
  pub no_source : EachRevision v (HasRowsOverNoSource v)

-- an answer that is this image
pub record Accepts (r : Result ImageValue CheckFault) (v : ImageValue) : Type 0 where
  pub ok : r ≡ Ok v

-- the bytes spell an image in which this fault is the first
pub record IsRefused (st : Stated) (bytes : List ℕ) (f : CheckFault) : Type 0 where
  pub v : ImageValue
  pub image : IsImage v
  pub spelled : bytes ≡ spelling v
  pub fault : IsFirstTableFault v st.sizes f ⊎ (HasGoodTables v st.sizes × IsFirstRevisionFault st v f)

-- the first fault of bytes that are not accepted
abbrev pub IsFirstFault : Stated → List ℕ → CheckFault → Type 0
IsFirstFault st bytes f =
    ((e : ReadFault) × (fault_of bytes ≡ Some e) × (f ≡ Read e)) ⊎ IsRefused st bytes f

-- a place of a source that the bytes ask for: some row of bytes compares it, and all before that row is as it has to be
pub record BytesAsk (st : Stated) (bytes : List ℕ) (s p : ℕ) : Type 0 where
  pub v : ImageValue
  pub image : IsImage v
  pub spelled : bytes ≡ spelling v
  pub tables : HasGoodTables v st.sizes
  pub asks : ImageAsks st v s p

-- what keeps the rules is accepted, and all else is refused by its first fault
pub record AnswersExactly (st : Stated) (bytes : List ℕ) (r : Result ImageValue CheckFault) : Type 0 where
  pub accepts : IsAccepted bytes st → IsOk r
  pub refuses : (f : CheckFault) → IsFirstFault st bytes f → r ≡ Err f

-- so over sources that all state their texts
abbrev pub IsExact : Stated → List ℕ → Result ImageValue CheckFault → Type 0
IsExact st bytes r = StatesAll st → AnswersExactly st bytes r
