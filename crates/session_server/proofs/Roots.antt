-- The root of a revision.
use Rattle.std.proofs.Common.{◌≡◌, ℕ, length, Option, None, sym, ap, subst, ◌∙◌, inl, inr}
use Rattle.std.specs.Option.{unwrap_or}
use Rattle.std.proofs.lemmas.Bool.{cases_lt}
use Rattle.std.proofs.lemmas.List.{get_or_past}
use Rattle.std.proofs.lemmas.Option.{slice_get-map, unwrap_or-slice_get}
use Rattle.rope_node.specs.declared.node.NodeId.{NodeId}
use Rattle.rope_node.specs.Denotes.{IsRope}
use Rattle.edit_commands.specs.declared.revision.Revision.{Revision}
use Rattle.edit_commands.specs.Session.{IsSession, SessionValue, root_of, roots_of, session_table}
use Rattle.edit_commands.proofs.RevisionLists.{are_ropes}
use Rattle.session_server.specs.Answers.{revision_root}

pub found : (v : SessionValue) (k : ℕ) (r : Option (Option NodeId)) → root_of v k ≡ r → revision_root v k ≡ unwrap_or r None
found v k r e =
    let root : Revision → Option NodeId = λ (x : Revision). x.root in
    sym (unwrap_or-slice_get (roots_of v.revisions) k None) ∙ ap (λ (o : Option (Option NodeId)). unwrap_or o None) (slice_get-map root v.revisions k ∙ e)

pub rope : (v : SessionValue) (k : ℕ) → IsSession v → IsRope (session_table v) (revision_root v k)
rope v k is =
    elim (cases_lt k (length (roots_of v.revisions))) [
      | inl there ↦ are_ropes v.held v.revisions is.each k there
      | inr past ↦ subst (IsRope (session_table v)) (sym (get_or_past (roots_of v.revisions) k None past)) tt
    ]
