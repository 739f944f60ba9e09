-- What a script makes behind the session of an image.
use Rattle.std.proofs.Common.{◌≡◌, ℕ, suc, List, [], ◌∷◌, ◌++◌, length, map, Option, Result, Ok, Err, refl, sym, ap, subst, ◌∙◌, arith}
use Rattle.std.specs.Prelude.{All}
use Rattle.std.specs.List.{AllByRecursion}
use Rattle.std.specs.Io.KnownBytes.{Keeps}
use Rattle.lazy_file.specs.SourceTexts.{Stated}
use Rattle.lazy_file.specs.Readings.{Reading}
use Rattle.command_parts.specs.Commands.{FullEdit}
use Rattle.edit_commands.specs.Session.{IsSession, SessionValue, commands_of}
use Rattle.edit_script.specs.Words.{Word}
use Rattle.edit_script.specs.Commands.{StandsInside, words_of}
use Rattle.edit_script.specs.Applied.{lines_of}
use Rattle.edit_script.specs.Scripts.{AreInside, words_held}
use Rattle.edit_script.proofs.Sessions.{says_script}
use Rattle.image_reader.specs.Value.{ImageValue}
use Rattle.session_checker.specs.declared.fault.CheckFault.{CheckFault}
use Rattle.session_checker.specs.Faithful.{commands}
use Rattle.session_checker.specs.Limits.{ChecksWithin}
use Rattle.session_checker.specs.RevisionRules.{AreGoodOver}
use Rattle.saved_session.specs.TakenUp.{TakesUp}
use Rattle.saved_session.proofs.SameTexts.{same_commands}
use Rattle.script_tools.specs.declared.fault.OntoFault.{OntoFault}
use Rattle.script_tools.specs.declared.fault.OntoFault.TheVariants.{Check, TakeUp, Stop, Write}
use Rattle.saved_session.specs.GoneFurther.{GoesFurther, IsTakenUp}
use Rattle.saved_session.proofs.EarlierTexts.{earlier_texts}
use Rattle.script_tools.specs.Onto.{AppliesOnto, Begins, BeginsOnto, GoesOnBy, IsMadeOnto, TakesScript}
use Rattle.script_tools.proofs.AcceptedImages.{all_inside, each_inside, keeps_rules}
use Rattle.script_tools.proofs.FurtherLines.{lines_go_further}

-- ---- the session

each_by_recursion : {X : Type 0} (P : X → Type 0) (xs : List X) → All P xs → AllByRecursion P xs
each_by_recursion P [] h = tt
each_by_recursion P (x ∷ xs) h = (h 0 x (omega arith), each_by_recursion P xs (λ k d lt. h (suc k) d (omega (arith, lt))))

begun_inside : (v : ImageValue) (st : Stated) (begun : SessionValue) → AreGoodOver v st → IsSession begun → TakesUp v begun → AreInside begun
begun_inside v st begun good is takes =
    let inside : AllByRecursion (StandsInside (length v.pool)) (commands v) =
    each_by_recursion (StandsInside (length v.pool)) (commands v) (all_inside v (each_inside v st good)) in
    subst (λ (p : List ℕ). AllByRecursion (StandsInside (length p)) (commands_of begun.revisions)) (sym takes.pool)
    (subst (λ (es : List FullEdit). AllByRecursion (StandsInside (length v.pool)) es) (sym (same_commands v begun is takes)) inside)

begun_words : (v : ImageValue) (begun : SessionValue) → IsSession begun → TakesUp v begun → words_held begun ≡ map (words_of v.pool) (commands v)
begun_words v begun is takes =
    ap (λ (p : List ℕ). map (words_of p) (commands_of begun.revisions)) takes.pool
    ∙ ap (map (words_of v.pool)) (same_commands v begun is takes)

pub made_onto : (v : ImageValue) (st : Stated) (script : List ℕ) (begun made : SessionValue) → AreGoodOver v st → IsTakenUp v begun → TakesScript begun script made → IsMadeOnto v script made
made_onto v st script begun made good from t =
    let further : GoesFurther begun made = lines_go_further begun 0 (lines_of script) (Ok tt) made refl t.takes in
    record {
      begun = begun;
      from_image = from;
      takes = t.takes;
      further = further;
      earlier = λ source. earlier_texts v begun made source from.takes further;
      says = λ more reads.
          let both = says_script begun 0 (lines_of script) (Ok tt) made more (begun_inside v st begun good t.session from.takes) refl t.takes reads in
          (both.0 ∙ ap (λ (ws : List (List Word)). ws ++ more) (begun_words v begun t.session from.takes), both.1);
      sources = further.keeps.goes_on.sources ∙ from.takes.sources;
      history = t.history;
    }

-- ---- the answers of the call

-- what begins a session is accepted
pub record WasBegun (at_most : Option ℕ) (old new : Reading) (bytes : List ℕ) (begun : SessionValue) : Type 0 where
  pub v : ImageValue
  pub check : ChecksWithin at_most old new bytes (Ok v)
  pub from_image : IsTakenUp v begun

pub was_begun : (at_most : Option ℕ) (old new : Reading) (bytes : List ℕ) (begun : SessionValue) → BeginsOnto at_most old new bytes (Ok begun) → WasBegun at_most old new bytes begun
was_begun at_most old new bytes begun b = by_answer b.checked b.check b.begins
  where
    by_answer : (checked : Result ImageValue CheckFault) → ChecksWithin at_most old new bytes checked → Begins checked (Ok begun) → WasBegun at_most old new bytes begun
    by_answer (Ok v) check begins = record { v = v; check = check; from_image = begins }
    by_answer (Err f) check begins = absurd cc

module _ {at_most : Option ℕ} {old new : Reading} {bytes : List ℕ} (script : List ℕ) {begun : SessionValue} (w : WasBegun at_most old new bytes begun) where
  pub stopped_onto : (fault : OntoFault) (last : SessionValue) (before after : Option (List ℕ)) → GoesOnBy begun script (Err fault) last → Keeps before after → AppliesOnto at_most old new bytes script before after (Err fault)
  stopped_onto (Check f) last before after goes keeps = absurd goes
  stopped_onto (TakeUp f) last before after goes keeps = absurd goes
  stopped_onto (Stop at) last before after goes keeps = record {
    checked = Ok w.v;
    check = w.check;
    written = (keeps, record { begun = begun; from_image = w.from_image; last = last; stops = goes.0; session = goes.1 });
  }
  stopped_onto Write last before after goes keeps = absurd goes

  pub made_behind : (made : SessionValue) → GoesOnBy begun script (Ok tt) made → IsMadeOnto w.v script made
  made_behind made goes = made_onto w.v old.stated script begun made (keeps_rules at_most old new bytes w.v w.check) w.from_image goes
