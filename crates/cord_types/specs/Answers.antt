-- What is answered for an image with the sources that are handed in.
use Rattle.std.specs.Prelude.{◌≡◌, ◌⊎◌, ℕ, Bool, false, IsTrue, List, None}
use Rattle.lazy_file.specs.SourceTexts.{AreSizes, Stated}
use Rattle.lazy_file.specs.Readings.{Reads}
use Rattle.image_reader.specs.Reading.{image_in}
use Rattle.session_checker.specs.Accepted.{BytesAsk, IsAccepted, IsFirstFault, NeedsNoRead, StatesAll, SpellsFaithful}
use Rattle.session_checker.specs.RevisionRules.{source_fault}
use Rattle.session_checker.specs.declared.fault.CheckFault.{CheckFault}
use Rattle.cord_types.specs.declared.verdict.CordVerdict.{CordVerdict}
use Rattle.cord_types.specs.HeldTexts.{limit_fault, reading_of}
use Rattle.cord_types.specs.Verdicts.{accepted_verdict, limit_verdict, refused_verdict}

-- the verdict names the first fault of the bytes, or that of the one read that failed, for a row of bytes before which
-- all is accepted
pub record IsRefusedAs (bytes : List ℕ) (st : Stated) (x : CordVerdict) : Type 0 where
  pub fault : CheckFault
  pub first : source_fault fault ≡ None → IsFirstFault st bytes fault
  pub reads : Reads (reading_of st) (reading_of st) (BytesAsk st bytes) (source_fault fault)
  pub named : x ≡ refused_verdict fault

-- the verdict names why the sources are none: they are too many, or else one of them is too long
pub record IsNoSources (sizes : List ℕ) (x : CordVerdict) : Type 0 where
  pub none : ¬ AreSizes sizes
  pub named : x ≡ limit_verdict (limit_fault sizes)

-- What a check answers: whether the bytes are accepted, and a verdict, which counts the image or names what is wrong.
-- Why the sources are none is told first, whatever the bytes are. What keeps the rules and needs no byte of the sources
-- is accepted, even where none is held; and where all are held, all that keeps the rules is, and all else is refused by
-- its first fault.
pub record JudgesImage (bytes : List ℕ) (st : Stated) (accepted : Bool) (x : CordVerdict) : Type 0 where
  pub faithful : IsTrue accepted → SpellsFaithful bytes st (image_in bytes)
  pub counts : IsTrue accepted → x ≡ accepted_verdict (image_in bytes)
  pub refused : accepted ≡ false → IsNoSources st.sizes x ⊎ IsRefusedAs bytes st x
  pub no_sources : ¬ AreSizes st.sizes → x ≡ limit_verdict (limit_fault st.sizes)
  pub always : AreSizes st.sizes → NeedsNoRead bytes st.sizes → IsTrue accepted
  pub accepts : AreSizes st.sizes → StatesAll st → IsAccepted bytes st → IsTrue accepted
  pub refuses : AreSizes st.sizes → StatesAll st → (f : CheckFault) → IsFirstFault st bytes f → x ≡ refused_verdict f
