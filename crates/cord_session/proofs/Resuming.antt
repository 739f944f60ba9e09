-- What a call answers that takes up an image, or makes one.
use Rattle.std.proofs.Common.{◌≡◌, ℕ, List, inl, inr, refl, sym, subst}
use Rattle.std.specs.Prelude.{true, Option, Some, None, IfSome}
use Rattle.std.specs.Prelude.{slice_get}
use Rattle.std.specs.Option.{option_map}
use Rattle.lazy_file.specs.SourceTexts.{Stated}
use Rattle.rope_node.specs.declared.node.NodeId.{NodeId}
use Rattle.rope_node.specs.Denotes.{IsRope}
use Rattle.edit_commands.specs.declared.revision.Revision.{Revision}
use Rattle.edit_commands.specs.Session.{AreRevisions, SessionValue, root_of, session_table}
use Rattle.image_reader.specs.Value.{ImageValue}
use Rattle.image_reader.specs.Reading.{image_in}
use Rattle.saved_session.specs.TakenUp.{WasChecked}
use Rattle.saved_session.specs.TakeFaults.{IsTakeFault}
use Rattle.saved_session.specs.declared.fault.TakeFault.{TakeFault}
use Rattle.saved_session.specs.declared.fault.TakeFault.TheVariants.{OverSource, TooManyRows, Memory}
use Rattle.saved_session.proofs.CheckedImages.{was_checked}
use Rattle.cord_types.specs.declared.verdict.CordVerdict.{CordVerdict}
use Rattle.cord_types.specs.Answers.{JudgesImage}
use Rattle.cord_session.specs.declared.kept.Kept.{Kept}
use Rattle.cord_session.specs.Images.{ResumesImage, SavesHandle, MakesImage, take_number}

-- the root of a revision is a rope
pub root_is_rope : (v : SessionValue) (k : ℕ) (found : Option (Option NodeId)) → AreRevisions v.held v.revisions → found ≡ root_of v k → IfSome found (IsRope (session_table v))
root_is_rope v k found are is = subst (λ (x : Option (Option NodeId)). IfSome x (IsRope (session_table v))) (sym is) (of_slot (slice_get v.revisions k) refl)
  where
    of_slot : (slot : Option Revision) → slice_get v.revisions k ≡ slot → IfSome (option_map (λ (r : Revision). r.root) slot) (IsRope (session_table v))
    of_slot None e = tt
    of_slot (Some r) e = (are k r e).certified.root

-- an image that is accepted may be taken up
pub may_be_taken : (bytes : List ℕ) (st : Stated) (x : CordVerdict) (v : ImageValue) → JudgesImage bytes st true x → v ≡ image_in bytes → WasChecked v
may_be_taken bytes st x v judged is =
    let yes = judged.faithful refl in
    subst WasChecked (sym is) (was_checked bytes (image_in bytes) st yes.image yes.spelled yes.accepted)

-- an image that is not taken up
pub not_taken : (bytes : List ℕ) (st : Stated) (old : Option Kept) (x : CordVerdict) (v : ImageValue) (f : TakeFault) → v ≡ image_in bytes → JudgesImage bytes st true x → IsTakeFault v f → ResumesImage bytes st old old x (take_number f)
not_taken bytes st old x v (OverSource k) is judged fault = record { judged = judged; taken = λ e. absurd cc; kept = λ _. refl; fault = λ _ _. inr (OverSource k, refl, subst (λ (w : ImageValue). IsTakeFault w (OverSource k)) is fault) }
not_taken bytes st old x v TooManyRows is judged fault = record { judged = judged; taken = λ e. absurd cc; kept = λ _. refl; fault = λ _ _. inr (TooManyRows, refl, subst (λ (w : ImageValue). IsTakeFault w TooManyRows) is fault) }
not_taken bytes st old x v Memory is judged fault = record { judged = judged; taken = λ e. absurd cc; kept = λ _. refl; fault = λ _ _. inl refl }

-- an image that was made of what a handle holds
pub saves_handle : (old new : Option Kept) (k w : Kept) (outcome before after : ℕ) → Some k ≡ old → new ≡ Some w → MakesImage k w outcome before after → SavesHandle old new outcome before after
saves_handle old new k w outcome before after was now saves = record {
  closed = λ e. absurd cc;
  saves = λ other e. let same : k ≡ other = cc in (w, now, subst (λ (x : Kept). MakesImage x w outcome before after) same saves);
}
