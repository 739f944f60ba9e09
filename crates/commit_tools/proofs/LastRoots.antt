-- The roots of revisions.
use Rattle.std.proofs.Common.{◌≡◌, ℕ, zero, suc, ◌-◌, ◌≤◌, length, Option, None, sym, ap, subst, ◌∙◌, arith, inl, inr}
use Rattle.std.specs.Option.{unwrap_or}
use Rattle.std.proofs.lemmas.Bool.{cases_lt}
use Rattle.std.proofs.lemmas.List.{length-map, get_or_past}
use Rattle.std.proofs.lemmas.Option.{slice_get-map, unwrap_or-slice_get}
use Rattle.rope_node.specs.declared.node.NodeId.{NodeId}
use Rattle.rope_node.specs.Denotes.{IsRope}
use Rattle.edit_commands.specs.declared.revision.Revision.{Revision}
use Rattle.edit_commands.specs.Session.{IsSession, SessionValue, root_of, roots_of, session_table}
use Rattle.edit_commands.proofs.RevisionLists.{are_ropes}
use Rattle.commit_tools.specs.Texts.{last_root, revision_root}

-- there is none past the last
pub root_past : (v : SessionValue) (r : ℕ) → length v.revisions ≤ r → revision_root v r ≡ None
root_past v r past = get_or_past (roots_of v.revisions) r None (omega (arith, past, length-map v.revisions (λ (r : Revision). r.root)))

-- and none of one revision whose text is empty
pub root_of_one : (v : SessionValue) (r : ℕ) → length v.revisions ≡ 1 → last_root v ≡ None → revision_root v r ≡ None
root_of_one v zero one none = let last : length v.revisions - 1 ≡ 0 = omega (arith, one) in subst (λ (k : ℕ). revision_root v k ≡ None) last none
root_of_one v (suc r) one none = root_past v (suc r) (omega (arith, one))

pub root_found : (v : SessionValue) (r : ℕ) (found : Option (Option NodeId)) → root_of v r ≡ found → revision_root v r ≡ unwrap_or found None
root_found v r found e =
    let root : Revision → Option NodeId = λ (r : Revision). r.root in
    sym (unwrap_or-slice_get (roots_of v.revisions) r None) ∙ ap (λ (o : Option (Option NodeId)). unwrap_or o None) (slice_get-map root v.revisions r ∙ e)

pub root_rope : (v : SessionValue) (r : ℕ) → IsSession v → IsRope (session_table v) (revision_root v r)
root_rope v r is =
    elim (cases_lt r (length (roots_of v.revisions))) [
      | inl there ↦ are_ropes v.held v.revisions is.each r there
      | inr past ↦ subst (IsRope (session_table v)) (sym (get_or_past (roots_of v.revisions) r None past)) tt
    ]
