-- The origins at the ends of a text, behind the batches of a commit.
use Rattle.std.proofs.Common.{◌≡◌, ℕ, ◌+◌, ◌-◌, ◌<◌, ◌≤◌, List, [], ◌∷◌, ◌++◌, length, map, take, drop, Some, refl, sym, ap, subst, ◌∙◌, append_assoc, arith}
use Rattle.std.specs.Prelude.{slice_get, slice_range}
use Rattle.std.proofs.lemmas.List.{drop-drop, drop_all, length-append, length-map, length-take-le, length_push, take-append-drop, take-append-le, take-take}
use Rattle.std.proofs.Math.Seq.{drop-append_seam}
use Rattle.command_parts.specs.declared.edit.Splice.{Splice}
use Rattle.command_parts.specs.Commands.{Back, Many, with_splices}
use Rattle.command_parts.specs.Parts.{Follow}
use Rattle.edit_commands.specs.declared.command.Change as Session
use Rattle.edit_commands.specs.declared.command.Command.{Command}
use Rattle.edit_commands.specs.declared.revision.Revision as Kept
use Rattle.edit_commands.specs.Applying.{Applies}
use Rattle.edit_commands.specs.Building.{placed_changes}
use Rattle.edit_commands.specs.Session.{IsSession, SessionValue, command_of}
use Rattle.image_reader.specs.Accepted.{command_at}
use Rattle.session_checker.specs.Faithful.{HasTrueRecordsOf}
use Rattle.session_image.specs.Written.{image_of, recorded_revision}
use Rattle.saved_session.specs.GoneFurther.{GoesFurther}
use Rattle.saved_session.proofs.FurtherSessions.{further_applied, further_through}
use Rattle.line_changes.specs.declared.change.Change.{Change}
use Rattle.line_changes.specs.Turns.{Turns}
use Rattle.byte_origins.specs.declared.run.Origin.{Origin}
use Rattle.byte_origins.specs.KeptEnds.{KeepsOrigins}
use Rattle.byte_origins.specs.Origins.{origins_at}
use Rattle.byte_origins.proofs.KeptOrigins.{ends_kept}
use Rattle.commit_tools.specs.declared.found.Found.{Found}
use Rattle.commit_tools.specs.Found.{file_middle}
use Rattle.commit_tools.specs.Handed.{shifted}
use Rattle.commit_tools.specs.Stops.{HandsBatch, IsBackTo, IsManyAt, LeadsTo}
use Rattle.commit_tools.proofs.EarlierOrigins.{command_made, found_in}
use Rattle.commit_tools.proofs.HandedBatches.{batch_then, turns_from}

-- ---- origins that are kept

-- those of a text itself
pub keeps_itself : (front end : ℕ) (os : List Origin) → front ≤ end → KeepsOrigins front end os os
keeps_itself front end os order =
    let whole : front + (end - front) ≡ end = omega (arith, order) in
    record {
      between = take (end - front) (drop front os);
      whole = sym (take-append-drop front os)
          ∙ ap (λ (l : List Origin). take front os ++ l)
          (sym (take-append-drop (end - front) (drop front os)) ∙ ap (λ (l : List Origin). take (end - front) (drop front os) ++ l) (drop-drop (end - front) front os ∙ ap (λ (n : ℕ). drop n os) whole));
    }

-- fewer of them
pub keeps_fewer : (front end less more : ℕ) (old new : List Origin) → less ≤ front → end ≤ more → KeepsOrigins front end old new → KeepsOrigins less more old new
keeps_fewer front end less more old new few many keeps =
    let first = take less old in
    let skipped = drop less (take front old) in
    let last = take (more - end) (drop end old) in
    let whole : end + (more - end) ≡ more = omega (arith, many) in
    let before : take front old ≡ first ++ skipped = sym (take-append-drop less (take front old)) ∙ ap (λ (l : List Origin). l ++ skipped) (take-take less front old few) in
    let behind : drop end old ≡ last ++ drop more old =
    sym (take-append-drop (more - end) (drop end old)) ∙ ap (λ (l : List Origin). last ++ l) (drop-drop (more - end) end old ∙ ap (λ (n : ℕ). drop n old) whole) in
    record {
      between = skipped ++ (keeps.between ++ last);
      whole = keeps.whole
          ∙ ap (λ (l : List Origin). l ++ (keeps.between ++ drop end old)) before
          ∙ ap (λ (l : List Origin). (first ++ skipped) ++ (keeps.between ++ l)) behind
          ∙ simp append_assoc;
    }

-- over two commands, of which the second changes nothing behind what the first left at the front
pub keeps_through : (front mid end : ℕ) (a b c : List Origin) → front ≤ mid → mid ≤ length a → KeepsOrigins mid end a b → KeepsOrigins front mid b c → KeepsOrigins front end a c
keeps_through front mid end a b c order inside x y =
    let rest = x.between ++ drop end a in
    let long : length (take mid a) ≡ mid = length-take-le mid a inside in
    let before : take front b ≡ take front a =
    ap (take front) x.whole ∙ take-append-le front (take mid a) rest (omega (arith, order, long)) ∙ take-take front mid a order in
    let behind : drop mid b ≡ rest = ap (drop mid) x.whole ∙ ap (λ (n : ℕ). drop n (take mid a ++ rest)) (sym long) ∙ drop-append_seam (take mid a) rest in
    record {
      between = y.between ++ x.between;
      whole = y.whole
          ∙ ap (λ (l : List Origin). l ++ (y.between ++ drop mid b)) before
          ∙ ap (λ (l : List Origin). take front a ++ (y.between ++ l)) behind
          ∙ simp append_assoc;
    }

-- at least what is kept at the front is there
pub length_kept : (front end : ℕ) (old new : List Origin) → front ≤ length old → KeepsOrigins front end old new → front ≤ length new
length_kept front end old new inside keeps =
    omega (arith, ap (λ (l : List Origin). length l) keeps.whole, length-append (take front old) (keeps.between ++ drop end old), length-take-le front old inside)

-- ---- where the changes begin that are left

abbrev pub begins_at : ℕ → List Change → ℕ
begins_at y [] = y
begins_at y (c ∷ changes) = c.from

module _ (old new : List ℕ) where
  pub begins_behind : (i j y z : ℕ) (changes : List Change) → Turns old new i j changes y z → i ≤ begins_at y changes
  begins_behind i j y z [] turns = turns.first.order
  begins_behind i j y z (c ∷ changes) turns = turns.0.first.order

  pub begins_before : (i j y z : ℕ) (changes : List Change) → Turns old new i j changes y z → begins_at y changes ≤ y
  begins_before i j y z [] turns = omega arith
  begins_before i j y z (c ∷ changes) turns =
      let next = begins_behind c.to c.put_to y z changes turns.2 in
      let last = begins_before c.to c.put_to y z changes turns.2 in
      let own = turns.1.taken.order in
      omega (arith, next, last, own)

  begins_later : (i j y z : ℕ) (batch after : List Change) → Turns old new i j (batch ++ after) y z → begins_at y (batch ++ after) ≤ begins_at y after
  begins_later i j y z [] after turns = omega arith
  begins_later i j y z (c ∷ batch) after turns =
      let next = begins_behind c.to c.put_to y z (batch ++ after) turns.2 in
      let last = begins_later c.to c.put_to y z batch after turns.2 in
      let own = turns.1.taken.order in
      omega (arith, next, last, own)

  follow_earlier : (end k i : ℕ) (splices : List Splice) → i ≤ k → Follow end k splices → Follow end i splices
  follow_earlier end k i [] le f = omega (arith, le, f)
  follow_earlier end k i (s ∷ splices) le f = (omega (arith, le, f.0), f.1)

  -- the splices of a batch stand one behind the other between its first change and those behind it
  pub batch_follows : (front i j y z : ℕ) (batch after : List Change) (places : List ℕ) → Turns old new i j (batch ++ after) y z
      → Follow (front + begins_at y after) (front + begins_at y (batch ++ after)) (placed_changes (map (shifted front) batch) places)
  batch_follows front i j y z [] after places turns = omega arith
  batch_follows front i j y z (c ∷ batch) after [] turns = let later = begins_later i j y z (c ∷ batch) after turns in omega (arith, later)
  batch_follows front i j y z (c ∷ batch) after (a ∷ places) turns =
      let own = turns.1.taken.order in
      let next = begins_behind c.to c.put_to y z (batch ++ after) turns.2 in
      let rest = placed_changes (map (shifted front) batch) places in
      let others = batch_follows front c.to c.put_to y z batch after places turns.2 in (
        omega arith,
        follow_earlier (front + begins_at y after) (front + begins_at y (batch ++ after)) (front + c.from + (c.to - c.from)) rest (omega (arith, own, next)) others,
      )

-- ---- commands as they are recorded

pub many_recorded : (q : ℕ) (cs : List Session.Change) (bs : List ℕ) (command : Command) (before new : SessionValue) (k : ℕ) (applies : Applies before command k new) → IsManyAt q cs bs command
    → command_of applies.made ≡ Many q (placed_changes cs applies.is.places)
many_recorded q cs bs (Command.Many r changes bytes) before new k applies is =
    let splices = placed_changes changes.now applies.is.places in
    ap (λ (ss : List Splice). with_splices ss applies.made.edit) applies.is.splices ∙ ap (with_splices splices) applies.is.edit
    ∙ ap (λ (n : ℕ). Many n splices) is.0
    ∙ ap (λ (ds : List Session.Change). Many q (placed_changes ds applies.is.places)) is.1
many_recorded q cs bs command before new k applies is = absurd is

pub back_recorded : (r : ℕ) (command : Command) (before new : SessionValue) (k : ℕ) (applies : Applies before command k new) → IsBackTo r command → command_of applies.made ≡ Back r
back_recorded r (Command.Back q) before new k applies is = ap (with_splices applies.made.splices.items) applies.is.edit ∙ ap Back is
back_recorded r command before new k applies is = absurd is

last_of : {X : Type 0} (xs : List X) (x : X) → slice_get (xs ++ x ∷ []) (length xs) ≡ Some x
last_of [] x = refl
last_of (y ∷ xs) x = last_of xs x

-- a command that was applied stands in the image of any session that goes further
pub command_applied : (before last made : SessionValue) (command : Command) (k : ℕ) (applies : Applies before command k last) → GoesFurther last made → IsSession made
    → (length before.revisions < length (image_of made).revisions) × (command_at (image_of made) (length before.revisions) ≡ command_of applies.made)
command_applied before last made command k applies further is =
    let here : slice_get last.revisions (length before.revisions) ≡ Some applies.made =
    ap (λ (l : List Kept.Revision). slice_get l (length before.revisions)) applies.revisions ∙ last_of before.revisions applies.made in
    let there : slice_get made.revisions (length before.revisions) ≡ Some applies.made =
    ap (λ (l : List Kept.Revision). slice_get l (length before.revisions)) further.revisions ∙ found_in last.revisions further.more (length before.revisions) applies.made here in (
      omega (
        arith,
        length-map made.revisions recorded_revision,
        ap (λ (l : List Kept.Revision). length l) further.revisions,
        length-append last.revisions further.more,
        ap (λ (l : List Kept.Revision). length l) applies.revisions,
        length_push before.revisions applies.made,
      ),
      command_made made (length before.revisions) applies.made is there,
    )

-- ---- batches

module _ (found : Found) (file : List ℕ) (begun made : SessionValue) (is : IsSession made) (records : HasTrueRecordsOf (image_of made)) (i j y z : ℕ) (turns : Turns found.middle.items (file_middle found file) i j found.changes.items y z)
    (inside : found.front + y ≤ length (origins_at (image_of made) (length begun.revisions - 1))) where
  -- what is kept while the changes before number `first` are left
  abbrev LeavesEnds : ℕ → SessionValue → Type 0
  LeavesEnds first last =
      KeepsOrigins (found.front + begins_at y (drop first found.changes.items)) (found.front + y) (origins_at (image_of made) (length begun.revisions - 1)) (origins_at (image_of made) (length last.revisions - 1))

  batch_leaves : (first left k : ℕ) (before last : SessionValue) (command : Command) → GoesFurther last made → HandsBatch found file first left before command → Applies before command k last → LeavesEnds left before
      → LeavesEnds first last
  batch_leaves first left k before last command further hands applies earlier =
      let w = image_of made in
      let changes = found.changes.items in
      let slice = slice_range changes first left in
      let q : ℕ = length before.revisions - 1 in
      let splices = placed_changes (map (shifted found.front) slice) applies.is.places in
      let applied = command_applied before last made command k applies further is in
      let says : command_at w (length before.revisions) ≡ Many q splices = applied.1 ∙ many_recorded q (map (shifted found.front) slice) _ command before last k applies hands.is in
      let whole : slice ++ drop left changes ≡ drop first changes = batch_then changes first left (omega (arith, hands.some)) in
      let on = turns_from found.middle.items (file_middle found file) i j first changes y z turns in
      let from_first = subst (λ (cs : List Change). Turns found.middle.items (file_middle found file) on.0 on.1 cs y z) (sym whole) on.2 in
      let mid : ℕ = found.front + begins_at y (drop left changes) in
      let front : ℕ = found.front + begins_at y (drop first changes) in
      let follow : Follow mid front splices =
      subst (λ (cs : List Change). Follow mid (found.front + begins_at y cs) splices) whole (batch_follows found.middle.items (file_middle found file) found.front on.0 on.1 y z slice (drop left changes) applies.is.places from_first) in
      let behind = turns_from found.middle.items (file_middle found file) i j left changes y z turns in
      let most = begins_before found.middle.items (file_middle found file) behind.0 behind.1 y z (drop left changes) behind.2 in
      let rise = subst (λ (cs : List Change). begins_at y cs ≤ begins_at y (drop left changes)) whole (begins_later found.middle.items (file_middle found file) on.0 on.1 y z slice (drop left changes) from_first) in
      let os = origins_at w (length begun.revisions - 1) in
      let there : mid ≤ length os = omega (arith, inside, most) in
      let step = ends_kept w records records.rules (length before.revisions) q front mid splices applied.0 says follow (length_kept mid (found.front + y) os (origins_at w q) there earlier) in
      let at : length last.revisions - 1 ≡ length before.revisions = omega (arith, ap (λ (l : List Kept.Revision). length l) applies.revisions, length_push before.revisions applies.made) in
      subst (λ (n : ℕ). KeepsOrigins front (found.front + y) os (origins_at w n)) (sym at)
      (keeps_through front mid (found.front + y) os (origins_at w q) (origins_at w (length before.revisions)) (omega (arith, rise)) there earlier step)

  pub batches_leave : (ends : List ℕ) (first : ℕ) (last : SessionValue) → GoesFurther last made → LeadsTo found file begun ends first last → LeavesEnds first last
  batches_leave [] first last further leads =
      let none : drop first found.changes.items ≡ [] = drop_all first found.changes.items (omega (arith, leads.0)) in
      let here : KeepsOrigins (found.front + y) (found.front + y) (origins_at (image_of made) (length begun.revisions - 1)) (origins_at (image_of made) (length last.revisions - 1)) =
      subst (λ (s : SessionValue). KeepsOrigins (found.front + y) (found.front + y) (origins_at (image_of made) (length begun.revisions - 1)) (origins_at (image_of made) (length s.revisions - 1))) (sym leads.1)
      (keeps_itself (found.front + y) (found.front + y) (origins_at (image_of made) (length begun.revisions - 1)) (omega arith)) in
      subst (λ (cs : List Change). KeepsOrigins (found.front + begins_at y cs) (found.front + y) (origins_at (image_of made) (length begun.revisions - 1)) (origins_at (image_of made) (length last.revisions - 1))) (sym none) here
  batches_leave (left ∷ ends) first last further (before, command, k, leads, hands, applies) =
      batch_leaves first left k before last command further hands applies (batches_leave ends left before (further_through (further_applied applies) further) leads)
