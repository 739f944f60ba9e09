-- What is written of a commit.
use Rattle.std.proofs.Common.{◌≡◌, ℕ, ◌+◌, List, [], length, Option, None, Result, Ok, Err, refl, sym, ap, subst, ◌∙◌, arith}
use Rattle.std.specs.Io.KnownBytes.{Appends, Keeps}
use Rattle.std.proofs.lemmas.List.{length-map}
use Rattle.byte_output.specs.Prefix.{AppendsPrefix}
use Rattle.lazy_file.specs.SourceTexts.{Agrees, Stated, stated_in_memory}
use Rattle.lazy_file.specs.Readings.{Reading}
use Rattle.lazy_file.proofs.LaterReads.{reads_same}
use Rattle.rope_node.specs.Denotes.{rope_len}
use Rattle.edit_commands.specs.Session.{SessionValue, HoldsHistory, new_session, session_table, store_with}
use Rattle.edit_commands.specs.declared.revision.Revision as Kept
use Rattle.image_reader.specs.declared.revision.Revision.{Revision}
use Rattle.image_reader.specs.Spelling.{spelling}
use Rattle.image_reader.specs.Value.{ImageValue, IsImage}
use Rattle.session_image.specs.Written.{AreAsMade, IsTrusted, image_of}
use Rattle.session_checker.specs.declared.fault.CheckFault.{CheckFault}
use Rattle.session_checker.specs.Accepted.{BytesAsk}
use Rattle.session_checker.specs.Limits.{ChecksWithin}
use Rattle.saved_session.specs.TakenUp.{TakesUp}
use Rattle.saved_session.specs.GoneFurther.{IsTakenUp}
use Rattle.saved_session.proofs.EarlierTexts.{earlier_texts}
use Rattle.commit_tools.specs.declared.answer.Commit.{Commit}
use Rattle.commit_tools.specs.declared.answer.Commit.TheVariants.{Same, Added}
use Rattle.commit_tools.specs.declared.fault.CommitFault.{CommitFault}
use Rattle.commit_tools.specs.declared.fault.CommitFault.TheVariants.{Check, TakeUp, Read, Edit, Memory, Write}
use Rattle.commit_tools.specs.Commits.{BeginsCommit, BeginsBehind, CommitsAnew, CommitsOnto, CommitsText, IsCommitted, IsCommittedAnew}
use Rattle.commit_tools.specs.Stops.{StopsCommit}
use Rattle.commit_tools.specs.Texts.{ReadsTexts, revision_root}
use Rattle.commit_tools.proofs.CommittedTexts.{no_cells}
use Rattle.commit_tools.proofs.LastRoots.{root_past}

-- it has as many revisions
pub as_many : (v : ImageValue) (begun : SessionValue) → TakesUp v begun → length begun.revisions ≡ length v.revisions
as_many v begun takes =
    sym (length-map begun.revisions (λ (r : Kept.Revision). r.root)) ∙ ap length takes.roots ∙ length-map v.revisions (λ (r : Revision). r.root)

-- what begins a session is accepted, and no source was read otherwise
pub record WasBegun (at_most : Option ℕ) (old new : Reading) (bytes : List ℕ) (begun : SessionValue) : Type 0 where
  pub v : ImageValue
  pub check : ChecksWithin at_most old new bytes (Ok v)
  pub from_image : IsTakenUp v begun
  pub stated : new.stated ≡ old.stated

pub was_begun : (at_most : Option ℕ) (old new : Reading) (bytes : List ℕ) (begun : SessionValue) → BeginsBehind at_most old new bytes (Ok begun) → WasBegun at_most old new bytes begun
was_begun at_most old new bytes begun b = by_answer b.checked b.check b.begins
  where
    by_answer : (checked : Result ImageValue CheckFault) → ChecksWithin at_most old new bytes checked → BeginsCommit checked (Ok begun) → WasBegun at_most old new bytes begun
    by_answer (Ok v) check begins = record { v = v; check = check; from_image = begins; stated = reads_same old new (BytesAsk old.stated bytes) None check.reads }
    by_answer (Err f) check begins = absurd cc

module _ {at_most : Option ℕ} {old mid : Reading} {bytes file : List ℕ} {begun : SessionValue} (w : WasBegun at_most old mid bytes begun) where
  pub committed_onto : (revision : ℕ) (made : SessionValue) → CommitsText mid.stated begun file (Ok (Added revision)) made → HoldsHistory made → IsCommitted old.stated w.v file revision made
  committed_onto revision made commits history =
      let here = subst (λ (st : Stated). CommitsText st begun file (Ok (Added revision)) made) w.stated commits in
      record {
        begun = begun;
        from_image = w.from_image;
        reaches = here.0;
        earlier = λ source. earlier_texts w.v begun made source w.from_image.takes here.0.further;
        other = λ some. here.1 (omega (arith, some, as_many w.v begun w.from_image.takes));
        history = history;
      }

  pub same_onto : (new : Reading) (revision : ℕ) (made : SessionValue) (before : Option (List ℕ)) → CommitsText mid.stated begun file (Ok (Same revision)) made
      → ReadsTexts {X = Commit} begun file mid new (Ok (Same revision)) → Keeps before before → CommitsOnto at_most old new bytes file before before (Ok (Same revision))
  same_onto new revision made before commits reads keeps =
      let here = subst (λ (st : Stated). CommitsText st begun file (Ok (Same revision)) made) w.stated commits in
      record {
        checked = Ok w.v;
        between = mid;
        check = w.check;
        reads = (begun, w.from_image, reads);
        written = (keeps, record { begun = begun; from_image = w.from_image; reaches = here.1 });
      }

  pub failed_onto : (new : Reading) (fault : CommitFault) (made : SessionValue) (before : Option (List ℕ)) → CommitsText mid.stated begun file (Err fault) made
      → ReadsTexts {X = Commit} begun file mid new (Err fault) → Keeps before before → CommitsOnto at_most old new bytes file before before (Err fault)
  failed_onto new (Edit fault) made before commits reads keeps =
      record { checked = Ok w.v; between = mid; check = w.check; reads = (begun, w.from_image, reads); written = (keeps, record { begun = begun; from_image = w.from_image; stops = subst (λ (st : Stated). StopsCommit st begun file fault) w.stated commits }) }
  failed_onto new (Read fault) made before commits reads keeps = record { checked = Ok w.v; between = mid; check = w.check; reads = (begun, w.from_image, reads); written = keeps }
  failed_onto new Memory made before commits reads keeps = record { checked = Ok w.v; between = mid; check = w.check; reads = (begun, w.from_image, reads); written = keeps }
  failed_onto new (Check fault) made before commits reads keeps = absurd commits
  failed_onto new (TakeUp fault) made before commits reads keeps = absurd commits
  failed_onto new Write made before commits reads keeps = absurd commits

-- ---- anew

-- any bytes agree with what an empty list of sources states
pub nothing_stated : (source : ℕ → ℕ → ℕ) → Agrees (stated_in_memory []) source
nothing_stated source s p t stated lt = absurd cc

-- what a commit makes of a session that is new, over no sources
pub commits_anew : (st : Stated) (begun made : SessionValue) (file : List ℕ) (result : Result Commit CommitFault) → st ≡ stated_in_memory [] → begun.held ≡ store_with [] → begun.revisions ≡ []
    → CommitsText st begun file result made → CommitsText (stated_in_memory []) (new_session []) file result made
commits_anew st begun made file result none store revisions commits =
    let is : begun ≡ new_session [] = λ i. record { held = store i; revisions = revisions i } in
    subst (λ (v : SessionValue). CommitsText (stated_in_memory []) v file result made) is (subst (λ (s : Stated). CommitsText s begun file result made) none commits)

-- over no text no read fails
pub fails_anew : (mid new : Reading) (begun made : SessionValue) (file : List ℕ) (fault : CommitFault) (before : Option (List ℕ)) → begun.revisions ≡ []
    → CommitsText (stated_in_memory []) (new_session []) file (Err fault) made → ReadsTexts {X = Commit} begun file mid new (Err fault) → Keeps before before → CommitsAnew file before before (Err fault)
fails_anew mid new begun made file (Edit fault) before none commits reads keeps = (keeps, commits)
fails_anew mid new begun made file Memory before none commits reads keeps = keeps
fails_anew mid new begun made file (Read fault) before none commits reads keeps =
    let r : ℕ = reads.asked.0 in
    let no_root : revision_root begun r ≡ None = root_past begun r (omega (arith, ap length none)) in
    let no_len : rope_len (session_table begun) (revision_root begun r) ≡ 0 = ap (rope_len (session_table begun)) no_root in
    absurd (omega (arith, reads.asked.2.2, no_len))
fails_anew mid new begun made file (Check fault) before none commits reads keeps = absurd commits
fails_anew mid new begun made file (TakeUp fault) before none commits reads keeps = absurd commits
fails_anew mid new begun made file Write before none commits reads keeps = absurd commits

committed_anew : (made : SessionValue) (file : List ℕ) (revision : ℕ) → HoldsHistory made → CommitsText (stated_in_memory []) (new_session []) file (Ok (Added revision)) made → IsCommittedAnew file revision made
committed_anew made file revision history commits = record {
  reaches = commits.0;
  text = λ source. commits.0.text source (nothing_stated source) (no_cells (stated_in_memory []) (new_session []) commits.0.from refl);
  history = history;
}

pub written_anew : (made : SessionValue) (file : List ℕ) (commit : Commit) (before after : Option (List ℕ)) → HoldsHistory made
    → CommitsText (stated_in_memory []) (new_session []) file (Ok commit) made → IsImage (image_of made) → IsTrusted made → AreAsMade (image_of made) → Appends before after (spelling (image_of made)) → CommitsAnew file before after (Ok commit)
written_anew made file (Added revision) before after history commits image trusted as_made appends =
    (made, committed_anew made file revision history commits, image, trusted, as_made, appends)
written_anew made file (Same revision) before after history commits image trusted as_made appends = let none : 0 ≡ revision + 1 = commits.1.last in absurd (omega (arith, none))

pub cut_anew : (made : SessionValue) (file : List ℕ) (commit : Commit) (before after : Option (List ℕ)) → HoldsHistory made
    → CommitsText (stated_in_memory []) (new_session []) file (Ok commit) made → AppendsPrefix before after (spelling (image_of made)) → CommitsAnew file before after (Err Write)
cut_anew made file (Added revision) before after history commits prefix = (made, revision, committed_anew made file revision history commits, prefix)
cut_anew made file (Same revision) before after history commits prefix = let none : 0 ≡ revision + 1 = commits.1.last in absurd (omega (arith, none))
