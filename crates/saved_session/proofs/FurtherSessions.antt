-- What goes further than a session.
use Rattle.std.proofs.Common.{◌≡◌, ℕ, List, [], ◌∷◌, ◌++◌, length, map, take, Option, refl, sym, ap, subst, ◌∙◌, append_assoc}
use Rattle.std.proofs.lemmas.List.{append-nil, length-map, map-append, take_at}
use Rattle.function_leaf.specs.Coded.{coded_byte}
use Rattle.rope_node.specs.declared.node.NodeId.{NodeId}
use Rattle.rope_node.specs.Denotes.{rope_cells}
use Rattle.node_table.specs.Held.{table_of}
use Rattle.edit_commands.specs.declared.revision.Revision.{Revision}
use Rattle.edit_commands.specs.Session.{SessionValue, roots_of}
use Rattle.edit_commands.proofs.GoingOn.{goes_on_itself, goes_on_through}
use Rattle.edit_commands.specs.declared.command.Command.{Command}
use Rattle.edit_commands.specs.Applying.{Applies}
use Rattle.saved_session.specs.GoneFurther.{GoesFurther}

-- two functions that give the same of a list give the same of its front
alike_front : {X Y : Type 0} (f g : X → Y) (front rest : List X) → map f (front ++ rest) ≡ map g (front ++ rest) → map f front ≡ map g front
alike_front f g front rest alike =
    sym (take_at (map f front) (map f rest) (length front) (length-map front f))
    ∙ ap (take (length front)) (sym (map-append f front rest) ∙ alike ∙ map-append g front rest)
    ∙ take_at (map g front) (map g rest) (length front) (length-map front g)

pub roots_further : {old new : SessionValue} (x : GoesFurther old new) → roots_of new.revisions ≡ roots_of old.revisions ++ roots_of x.more
roots_further {old} x = ap roots_of x.revisions ∙ map-append (λ (r : Revision). r.root) old.revisions x.more

pub further_itself : (v : SessionValue) → GoesFurther v v
further_itself v = record {
  more = [];
  revisions = sym (append-nil v.revisions);
  keeps = record { goes_on = goes_on_itself v.held; cells = refl };
}

pub further_through : {a b c : SessionValue} → GoesFurther a b → GoesFurther b c → GoesFurther a c
further_through {a} {b} {c} x y =
    let after = rope_cells (table_of coded_byte c.held) in
    let before = rope_cells (table_of coded_byte b.held) in
    let alike : map after (roots_of a.revisions) ≡ map before (roots_of a.revisions) =
    alike_front after before (roots_of a.revisions) (roots_of x.more)
    (subst (λ (rs : List (Option NodeId)). map after rs ≡ map before rs) (roots_further x) y.keeps.cells) in
    record {
      more = x.more ++ y.more;
      revisions = y.revisions ∙ ap (λ (rs : List Revision). rs ++ y.more) x.revisions ∙ append_assoc a.revisions x.more y.more;
      keeps = record { goes_on = goes_on_through x.keeps.goes_on y.keeps.goes_on; cells = alike ∙ x.keeps.cells };
    }

-- so does one that a command is applied to
pub further_applied : {old new : SessionValue} {command : Command} {k : ℕ} → Applies old command k new → GoesFurther old new
further_applied applies = record { more = applies.made ∷ []; revisions = applies.revisions; keeps = applies.keeps }
