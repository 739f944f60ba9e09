-- The origins of what a file has in common with the text that its commit goes on from.
use Rattle.std.proofs.Common.{◌≡◌, ℕ, ◌+◌, ◌-◌, ◌<◌, ◌≤◌, List, [], ◌∷◌, ◌++◌, length, map, take, drop, get_or, Option, None, sym, ap, subst, ◌∙◌, arith}
use Rattle.std.proofs.lemmas.List.{append-nil, get_or_past, length-append, length-drop, length-map, length-take-le, length_push}
use Rattle.std.proofs.Math.ListN.{get_or-map}
use Rattle.lazy_file.specs.SourceTexts.{Stated}
use Rattle.rope_node.specs.declared.node.NodeId.{NodeId}
use Rattle.rope_node.specs.Table.{Table}
use Rattle.rope_node.specs.Denotes.{rope_cells, rope_len, text}
use Rattle.rope_node.proofs.Cells.{cells_length}
use Rattle.edit_commands.specs.declared.revision.Revision as Kept
use Rattle.edit_commands.specs.Session.{IsSession, SessionValue, roots_of, session_table}
use Rattle.image_reader.specs.declared.revision.Revision.{Revision}
use Rattle.image_reader.specs.Value.{ImageValue, IsImage, image_table}
use Rattle.image_reader.specs.Accepted.{no_revision, revision_at}
use Rattle.session_checker.specs.Faithful.{EachRevision, HasTrueRecordsOf, revision_text, texts}
use Rattle.session_checker.proofs.SoundTables.{sound_table, true_table}
use Rattle.session_image.specs.Written.{IsTrusted, image_of}
use Rattle.saved_session.specs.GoneFurther.{GoesFurther, IsTakenUp}
use Rattle.saved_session.proofs.FurtherSessions.{further_itself}
use Rattle.saved_session.proofs.SameTexts.{same_texts}
use Rattle.line_changes.specs.Stays.{IsBack, IsFront}
use Rattle.byte_origins.specs.declared.run.Origin.{Origin}
use Rattle.byte_origins.specs.KeptEnds.{KeepsOrigins}
use Rattle.byte_origins.specs.Origins.{origins_at}
use Rattle.byte_origins.proofs.KeptOrigins.{back_kept}
use Rattle.byte_origins.proofs.Lengths.{all_origins, as_long, length-all_origins}
use Rattle.commit_tools.specs.declared.found.Found.{Found}
use Rattle.commit_tools.specs.CommonEnds.{KeepsCommonEnds}
use Rattle.commit_tools.specs.Commits.{IsCommitted}
use Rattle.commit_tools.specs.Found.{FrontsEndBefore, file_middle, text_before}
use Rattle.commit_tools.specs.Stops.{LeadsTo, TakesBack, TakesBatches, TakesBehind, TakesCommit, takes_back, takes_batches, takes_behind, takes_behind_new, takes_nothing}
use Rattle.commit_tools.specs.Texts.{OverRevision, last_root, revision_root, text_in}
use Rattle.commit_tools.proofs.BatchOrigins.{back_recorded, batches_leave, begins_behind, command_applied, keeps_fewer, keeps_itself}
use Rattle.commit_tools.proofs.CommittedImages.{as_many}
use Rattle.commit_tools.proofs.EarlierOrigins.{earlier_origins, has_more}
use Rattle.commit_tools.proofs.FoundTexts.{file_whole, none_made}
use Rattle.commit_tools.proofs.KeptEnds.{back_is, front_is}

-- ---- what was made is a session

session_led : (found : Found) (file : List ℕ) (begun : SessionValue) (ends : List ℕ) (first : ℕ) (last : SessionValue) → IsSession begun → LeadsTo found file begun ends first last → IsSession last
session_led found file begun [] first last is leads = subst IsSession (sym leads.1) is
session_led found file begun (left ∷ ends) first last is (before, command, k, leads, hands, applies) = applies.session

session_behind : (st : Stated) (begun : SessionValue) (file : List ℕ) (from : ℕ) (made : SessionValue) → IsSession begun → TakesBehind st begun file from made → IsSession made
session_behind st begun file from made is (takes_nothing at same none) = subst IsSession (sym none) is
session_behind st begun file from made is (takes_back back) = back.applies.session
session_behind st begun file from made is (takes_batches at none batches) = session_led batches.found file begun batches.ends 0 made is batches.leads

session_made : (st : Stated) (begun : SessionValue) (file : List ℕ) (from : ℕ) (made : SessionValue) → IsSession begun → TakesCommit st begun file from made → IsSession made
session_made st begun file from made is (takes_behind_new empty begins behind) = session_behind st empty file from made begins.applies.session behind
session_made st begun file from made is (takes_behind some behind) = session_behind st begun file from made is behind

-- ---- an image that is trusted

pub trusted_records : (s : SessionValue) → IsImage (image_of s) → IsTrusted s → HasTrueRecordsOf (image_of s)
trusted_records s is trusted =
    let v = image_of s in
    let accepted = trusted.accepted (λ s p. 0) in
    let sound = sound_table v is accepted.nodes in
    let records = true_table v accepted.nodes in
    record {
      sound = sound;
      true_records = records;
      lengths = λ id lt. cells_length (image_table v) sound records id lt;
      roots = λ k lt. (accepted.revisions k lt).rules.root.0;
      marks = λ k lt. (accepted.revisions k lt).rules.mark;
      rules = λ k lt. (accepted.revisions k lt).rules;
    }

-- ---- the texts of the image that is gone on from

root_taken : (v : ImageValue) (begun : SessionValue) (k : ℕ) → IsTakenUp v begun → revision_root begun k ≡ (revision_at v k).root
root_taken v begun k from =
    ap (λ (roots : List (Option NodeId)). get_or roots k None) from.takes.roots ∙ get_or-map (λ (r : Revision). r.root) v.revisions k no_revision

text_taken : (v : ImageValue) (begun : SessionValue) (source : ℕ → ℕ → ℕ) (k : ℕ) → IsTakenUp v begun → text_in source begun k ≡ revision_text v source k
text_taken v begun source k from =
    let t = session_table begun in
    let roots = roots_of begun.revisions in
    sym (get_or-map (text source) (map (rope_cells t) roots) k [] ∙ ap (text source) (get_or-map (rope_cells t) roots k None))
    ∙ ap (λ (us : List (List ℕ)). get_or us k []) (same_texts v begun source from.takes)

-- a text of it has as many origins as the session says that it is long
long_taken : (v : ImageValue) (begun : SessionValue) (k : ℕ) → HasTrueRecordsOf v → IsTakenUp v begun → k < length v.revisions → length (origins_at v k) ≡ rope_len (session_table begun) (revision_root begun k)
long_taken v begun k is from lt =
    as_long v is is.rules k lt
    ∙ ap (rope_len (image_table v)) (sym (root_taken v begun k from))
    ∙ ap (λ (t : Table). rope_len t (revision_root begun k)) (sym from.takes.table)

-- ---- by cases of what a commit takes

-- no text has anything in common, where there is none
none_common : (v : ImageValue) (file : List ℕ) (source : ℕ → ℕ → ℕ) (k : ℕ) (new : List Origin) → length v.revisions ≡ 0 → KeepsCommonEnds (revision_text v source k) file (origins_at v k) new
none_common v file source k new none front back is_front is_back =
    let no_text : revision_text v source k ≡ [] = get_or_past (texts v source) k [] (omega (arith, length-map v.revisions (λ (r : Revision). text source (rope_cells (image_table v) r.root)), none)) in
    let no_origins : origins_at v k ≡ [] = get_or_past (all_origins v) k [] (omega (arith, length-all_origins v, none)) in
    let nothing : front ≡ 0 = omega (arith, is_front.inside, ap (λ (l : List ℕ). length l) no_text) in
    let at_end : length (revision_text v source k) - back ≡ 0 = omega (arith, ap (λ (l : List ℕ). length l) no_text) in
    let here : KeepsOrigins 0 0 [] new = record { between = new; whole = sym (append-nil new) } in
    subst (λ (os : List Origin). KeepsOrigins front (length (revision_text v source k) - back) os new) (sym no_origins)
    (subst (λ (n : ℕ). KeepsOrigins n (length (revision_text v source k) - back) [] new) (sym nothing) (subst (λ (n : ℕ). KeepsOrigins 0 n [] new) (sym at_end) here))

-- the same origins keep all that is in common
same_common : (u file : List ℕ) (old new : List Origin) → new ≡ old → KeepsCommonEnds u file old new
same_common u file old new same front back is_front is_back =
    subst (λ (os : List Origin). KeepsOrigins front (length u - back) old os) (sym same) (keeps_itself front (length u - back) old (omega (arith, is_back.inside)))

module _ (st : Stated) (v : ImageValue) (file : List ℕ) (begun made : SessionValue) (records : HasTrueRecordsOf v) (new_records : HasTrueRecordsOf (image_of made)) (from_image : IsTakenUp v begun) (further : GoesFurther begun made) (is : IsSession made) where
  kept_at : (k : ℕ) → k < length v.revisions → origins_at (image_of made) k ≡ origins_at v k
  kept_at = earlier_origins v (image_of made) (has_more v begun made from_image is further) records

  back_common : (r : ℕ) → TakesBack st begun file r made → (u : List ℕ) → KeepsCommonEnds u file (origins_at v r) (origins_at (image_of made) (length begun.revisions))
  back_common r back u =
      let applied = command_applied begun made made back.command back.k back.applies (further_itself made) is in
      let there : r < length v.revisions = omega (arith, back.latest.there, as_many v begun from_image.takes) in
      same_common u file (origins_at v r) (origins_at (image_of made) (length begun.revisions))
      (back_kept (image_of made) new_records new_records.rules (length begun.revisions) r applied.0 (applied.1 ∙ back_recorded r back.command begun made back.k back.applies back.is) ∙ kept_at r there)

  -- batches leave what both have in common, where this is the text
  batches_common : (source : ℕ → ℕ → ℕ) (u : List ℕ) → (batches : TakesBatches st begun file made) → 1 ≤ length begun.revisions → u ≡ text_before batches.found file
      → FrontsEndBefore (rope_len (session_table begun) (last_root begun)) u file (length file - batches.found.end)
      → KeepsCommonEnds u file (origins_at v (length begun.revisions - 1)) (origins_at (image_of made) (length made.revisions - 1))
  batches_common source u batches some is_text apart front back is_front is_back =
      let found = batches.found in
      let beside = batches.finds.beside in
      let f = take found.front file in
      let x = found.middle.items in
      let y = file_middle found file in
      let b = drop found.end file in
      let ends = beside.ends in
      let older : u ≡ f ++ (x ++ b) = is_text ∙ none_made found file in
      let newer : file ≡ f ++ (y ++ b) = sym (file_whole found file beside) in
      let f_long : length f ≡ found.front = length-take-le found.front file (omega (arith, beside.order, beside.inside)) in
      let b_long : length b ≡ length file - found.end = length-drop found.end file in
      let u_long : length u ≡ found.front + length x + (length file - found.end) = omega (arith, ap (λ (l : List ℕ). length l) older, length-append f (x ++ b), length-append x b, f_long, b_long) in
      let whole_len : rope_len (session_table begun) (last_root begun) ≡ length u = batches.finds.len ∙ ap (λ (l : List ℕ). length l) (sym is_text) in
      let clear = apart front (omega (arith, is_front.inside, whole_len)) is_front.within is_front.same in
      let front_here : IsFront (f ++ (x ++ b)) (f ++ (y ++ b)) front = subst (λ (l : List ℕ). IsFront (f ++ (x ++ b)) l front) newer (subst (λ (l : List ℕ). IsFront l file front) older is_front) in
      let back_here : IsBack (f ++ (x ++ b)) (f ++ (y ++ b)) front back = subst (λ (l : List ℕ). IsBack (f ++ (x ++ b)) l front back) newer (subst (λ (l : List ℕ). IsBack l file front back) older is_back) in
      let first = front_is f x y b front ends.front front_here
      (omega (arith, clear.0, whole_len, b_long, ap (λ (l : List ℕ). length l) older)) (omega (arith, clear.1, b_long, ap (λ (l : List ℕ). length l) newer)) ends.is_front in
      let last = back_is f x y b front back ends.front ends.back first back_here ends.is_back in
      let end : ℕ = length x - ends.back in
      let there : length begun.revisions - 1 < length v.revisions = omega (arith, some, as_many v begun from_image.takes) in
      let kept = kept_at (length begun.revisions - 1) there in
      let long : length (origins_at (image_of made) (length begun.revisions - 1)) ≡ length u = ap (λ (l : List Origin). length l) kept ∙ long_taken v begun (length begun.revisions - 1) records from_image there ∙ whole_len in
      let leaves = batches_leave found file begun made is new_records ends.front ends.front end (length y - ends.back) ends.between (omega (arith, long, u_long)) batches.ends 0 made (further_itself made) batches.leads in
      let begins = begins_behind x y ends.front ends.front end (length y - ends.back) found.changes.items ends.between in
      subst (λ (os : List Origin). KeepsOrigins front (length u - back) os (origins_at (image_of made) (length made.revisions - 1))) kept
      (keeps_fewer _ _ front (length u - back) (origins_at (image_of made) (length begun.revisions - 1)) (origins_at (image_of made) (length made.revisions - 1))
      (omega (arith, first, f_long, begins)) (omega (arith, last, b_long, u_long, ends.is_back.inside)) leaves)

  abbrev CommonEnds : ℕ → ℕ → Type 0
  CommonEnds from revision = OverRevision st begun from (λ source. KeepsCommonEnds (revision_text v source from) file (origins_at v from) (origins_at (image_of made) revision))

  behind_common : (from revision : ℕ) → 1 ≤ length begun.revisions → length made.revisions ≡ revision + 1 → TakesBehind st begun file from made → CommonEnds from revision
  behind_common from revision some last (takes_nothing at same none) = λ source agrees stated.
      let there : from < length v.revisions = omega (arith, at, some, as_many v begun from_image.takes) in
      let own : revision ≡ from = omega (arith, last, at, ap (λ (s : SessionValue). length s.revisions) none) in
      same_common (revision_text v source from) file (origins_at v from) (origins_at (image_of made) revision) (ap (origins_at (image_of made)) own ∙ kept_at from there)
  behind_common from revision some last (takes_back back) = λ source agrees stated.
      let own : length begun.revisions ≡ revision = omega (arith, last, ap (λ (l : List Kept.Revision). length l) back.applies.revisions, length_push begun.revisions back.applies.made) in
      subst (λ (k : ℕ). KeepsCommonEnds (revision_text v source from) file (origins_at v from) (origins_at (image_of made) k)) own (back_common from back (revision_text v source from))
  behind_common from revision some last (takes_batches at none batches) =
      let own : length made.revisions - 1 ≡ revision = omega (arith, last) in
      let here : CommonEnds (length begun.revisions - 1) (length made.revisions - 1) = λ source agrees stated.
      let k : ℕ = length begun.revisions - 1 in
      let is_text : text_in source begun k ≡ revision_text v source k = text_taken v begun source k from_image in
      batches_common source (revision_text v source k) batches some (sym is_text ∙ batches.finds.text source agrees stated)
      (subst (λ (u : List ℕ). FrontsEndBefore (rope_len (session_table begun) (last_root begun)) u file (length file - batches.found.end)) is_text (batches.finds.apart source agrees stated)) in
      subst (CommonEnds from) own (subst (λ (n : ℕ). CommonEnds n (length made.revisions - 1)) (sym at) here)

-- ---- a commit

pub earlier_kept : (st : Stated) (v : ImageValue) (file : List ℕ) (revision : ℕ) (made : SessionValue) → HasTrueRecordsOf v → IsCommitted st v file revision made → EachRevision v (λ k. origins_at (image_of made) k ≡ origins_at v k)
earlier_kept st v file revision made records c =
    let is = session_made st c.begun file c.reaches.from made c.from_image.session c.reaches.by in
    earlier_origins v (image_of made) (has_more v c.begun made c.from_image is c.reaches.further) records

pub ends_kept_in : (st : Stated) (v : ImageValue) (file : List ℕ) (revision : ℕ) (made : SessionValue) → HasTrueRecordsOf v → IsImage (image_of made) → IsTrusted made → (c : IsCommitted st v file revision made)
    → OverRevision st c.begun c.reaches.from (λ source. KeepsCommonEnds (revision_text v source c.reaches.from) file (origins_at v c.reaches.from) (origins_at (image_of made) revision))
ends_kept_in st v file revision made records image trusted c = by_case c.reaches.from c.reaches.by
  where
    by_case : (from : ℕ) → TakesCommit st c.begun file from made → OverRevision st c.begun from (λ source. KeepsCommonEnds (revision_text v source from) file (origins_at v from) (origins_at (image_of made) revision))
    by_case from (takes_behind_new empty begins behind) = λ source agrees stated.
        none_common v file source from (origins_at (image_of made) revision) (omega (arith, as_many v c.begun c.from_image.takes, ap (λ (l : List Kept.Revision). length l) begins.none))
    by_case from (takes_behind some behind) =
        let is = session_made st c.begun file c.reaches.from made c.from_image.session c.reaches.by in
        behind_common st v file c.begun made records (trusted_records made image trusted) c.from_image c.reaches.further is from revision some c.reaches.last behind
