use Rattle.std.proofs.Common.{◌∙◌, ◌∷◌, ◌++◌, [], ap, sym, arith, List, Option, ℕ}
use Rattle.std.proofs.lemmas.List.{length-map, take_all}
use Rattle.std.proofs.lemmas.Option.{slice_get-map}
use Rattle.edit_commands.specs.declared.revision.Revision.{Revision}
use Rattle.screen_editor.specs.Priors.{prior_behind, priors_of}
use Rattle.edit_commands.specs.Session.{edits_of}
use Rattle.screen_editor.proofs.PriorLaws.{none_missing, one_taken}
use Rattle.screen_editor.proofs.priors.priors_of.Goals as goal
use Rattle.screen_editor.proofs.priors.priors_of.Goals.{in-Some, in-None}

pub loop-k-preserved : goal.loop-k-preserved
loop-k-preserved c =
    let revisions = c.args.session.now.revisions in
    elim c.match-edit.branch [
      | in-Some w ↦ (
          let e = w.in-Some.edit in
          let at = slice_get-map (λ (r : Revision). r.edit) revisions c.loop-k.k ∙ sym w.in-Some.ensures in
          record {
            taken = c.in_ok-push.ensures.items
                ∙ ap (λ (o : Option ℕ). c.loop-k.priors.items ++ o ∷ []) (w.prior-is ∙ w.prior_behind-prior.ensures ∙ ap (λ (ps : List (Option ℕ)). prior_behind ps e) w.deref.ensures.value)
                ∙ ap (λ (ps : List (Option ℕ)). ps ++ prior_behind ps e ∷ []) c.loop-k.invariant.taken
                ∙ sym (one_taken (edits_of revisions) c.loop-k.k e at);
          })
      | in-None w ↦ absurd (none_missing revisions c.loop-k.k (omega (arith, c.loop-k-test.true, c.count-count.ensures.value)) (sym c.edit.ensures ∙ w.in-None.is))
    ]

pub returns : goal.returns
returns c =
    let edits = edits_of c.args.session.now.revisions in
    c.loop-k.invariant.taken ∙ ap priors_of (take_all c.loop-k.k edits (omega (arith, length-map c.args.session.now.revisions (λ (r : Revision). r.edit), c.loop-k-test.false, c.count-count.ensures.value)))
