-- The current text of a session that is edited.
use Rattle.std.proofs.Common.{ℕ, ◌<◌, length, get_or, None, arith}
use Rattle.std.proofs.lemmas.List.{length-map}
use Rattle.rope_node.specs.Denotes.{IsRope}
use Rattle.edit_commands.specs.declared.revision.Revision.{Revision}
use Rattle.edit_commands.specs.Session.{IsSession, SessionValue, session_table, roots_of}
use Rattle.edit_commands.proofs.RevisionLists.{are_ropes}
use Rattle.screen_editor.specs.Editing.{Editing, IsEditing, current_root, last_of}

pub current_is_rope : (e : Editing) → IsEditing e → IsRope (session_table e.session) (current_root e)
current_is_rope e is = are_ropes e.session.held e.session.revisions is.session.each (last_of e) (omega (arith, length-map e.session.revisions (λ (r : Revision). r.root), is.some))

pub session_root_is_rope : (v : SessionValue) (k : ℕ) → IsSession v → k < length v.revisions → IsRope (session_table v) (get_or (roots_of v.revisions) k None)
session_root_is_rope v k is lt = are_ropes v.held v.revisions is.each k (omega (arith, length-map v.revisions (λ (r : Revision). r.root), lt))

pub root_is_rope : (e : Editing) (k : ℕ) → IsEditing e → k < length e.session.revisions → IsRope (session_table e.session) (get_or (roots_of e.session.revisions) k None)
root_is_rope e k is lt = session_root_is_rope e.session k is.session lt
