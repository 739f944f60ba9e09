use Rattle.std.proofs.Common.{List, ap, sym, subst, ◌∙◌}
use Rattle.std.specs.Prelude.{IfOk}
use Rattle.function_leaf.specs.Coded.{coded_byte}
use Rattle.node_table.specs.Held.{table_of, held_coded}
use Rattle.command_parts.specs.declared.part.Part.{Part}
use Rattle.span_certificate.specs.declared.row.Row.{Row}
use Rattle.command_parts.specs.Commands.{with_splices}
use Rattle.span_certificate.specs.Covers.{CoversAnyhow}
use Rattle.span_certificate.specs.Longest.{AreLongest, IsCutShort}
use Rattle.command_parts.specs.Parts.{parts_of, parts_cells, IsInRange}
use Rattle.edit_commands.specs.Session.{roots_of, splices_held}
use Rattle.edit_commands.proofs.KnownRows.{covers_anyhow, certified_cells, certified_so}
use Rattle.edit_commands.proofs.RevisionLists.{are_ropes}
use Rattle.edit_commands.proofs.known.longest_rows.Goals as goal

pub parts-known-requires-clause-ropes : goal.parts-known-requires-clause-ropes
parts-known-requires-clause-ropes c = are_ropes c.args.store.now c.args.revisions.now c.requires.revisions

pub parts-known-requires-clause-named : goal.parts-known-requires-clause-named
parts-known-requires-clause-named c = c.over_its_own-own.ensures.names (splices_held c.args.revisions.now) c.args.splices.now c.requires.certified.names c.requires.few

pub parts-known-requires-clause-in_range : goal.parts-known-requires-clause-in_range
parts-known-requires-clause-in_range c =
    let says = c.over_its_own-own.ensures.says (splices_held c.args.revisions.now) c.args.splices.now c.requires.certified.names in
    subst (IsInRange (table_of coded_byte c.args.store.now) (roots_of c.args.revisions.now)) (sym says) c.requires.certified.range

pub are_longest-requires-clause-covers : goal.are_longest-requires-clause-covers
are_longest-requires-clause-covers c =
    let t = table_of coded_byte c.args.store.now in
    let coded = held_coded c.args.store.now in
    let says = c.over_its_own-own.ensures.says (splices_held c.args.revisions.now) c.args.splices.now c.requires.certified.names in
    let same = c.parts-known.ensures.exact ∙ ap (parts_of t (roots_of c.args.revisions.now)) says in
    subst (λ (ps : List Part). CoversAnyhow t coded ps c.args.root c.deref.result.now) (sym same)
    (subst (λ (rs : List Row). CoversAnyhow t coded (parts_of t (roots_of c.args.revisions.now) (with_splices c.args.splices.now c.args.edit)) c.args.root rs) (sym c.deref.ensures.value)
    (covers_anyhow t coded _ c.args.root c.args.rows.items c.requires.certified.rows))

pub returns-then-are_longest-clause-longest : goal.returns-then-are_longest-clause-longest
returns-then-are_longest-clause-longest c =
    let t = table_of coded_byte c.args.store.now in
    let says = c.over_its_own-own.ensures.says (splices_held c.args.revisions.now) c.args.splices.now c.requires.certified.names in
    let same = c.parts-known.ensures.exact ∙ ap (parts_of t (roots_of c.args.revisions.now)) says in
    let are : AreLongest t c.parts-known.result c.args.root c.deref.result.now = c.are_longest.ensures.0 c.if-are_longest.true in
    subst (λ (rs : List Row). AreLongest t (parts_of t (roots_of c.args.revisions.now) (with_splices c.args.splices.now c.args.edit)) c.args.root rs) c.deref.ensures.value
    (subst (λ (ps : List Part). AreLongest t ps c.args.root c.deref.result.now) same are)

pub parts-again-requires-clause-ropes : goal.parts-again-requires-clause-ropes
parts-again-requires-clause-ropes c = are_ropes c.args.store.now c.args.revisions.now c.requires.revisions

pub parts-again-requires-clause-named : goal.parts-again-requires-clause-named
parts-again-requires-clause-named c = c.over_its_own-own.ensures.names (splices_held c.args.revisions.now) c.args.splices.now c.requires.certified.names c.requires.few

pub parts-again-requires-clause-in_range : goal.parts-again-requires-clause-in_range
parts-again-requires-clause-in_range c =
    let says = c.over_its_own-own.ensures.says (splices_held c.args.revisions.now) c.args.splices.now c.requires.certified.names in
    subst (IsInRange (table_of coded_byte c.args.store.now) (roots_of c.args.revisions.now)) (sym says) c.requires.certified.range

pub make_by-requires-clause-same : goal.make_by-requires-clause-same
make_by-requires-clause-same c =
    let t = table_of coded_byte c.args.store.now in
    let says = c.over_its_own-own.ensures.says (splices_held c.args.revisions.now) c.args.splices.now c.requires.certified.names in
    let same = c.parts-again.ensures.exact ∙ ap (parts_of t (roots_of c.args.revisions.now)) says in
    ap (parts_cells t) same ∙ certified_cells c.args.store.now c.count-nodes.ensures.sound c.count-nodes.ensures.true_records c.args.revisions.now c.args.edit c.args.splices.now c.args.root c.args.rows.items
    (are_ropes c.args.store.now c.args.revisions.now c.requires.revisions) c.requires.certified

pub returns-clause-certified : goal.returns-clause-certified
returns-clause-certified c =
    let t = table_of coded_byte c.args.store.now in
    let says = c.over_its_own-own.ensures.says (splices_held c.args.revisions.now) c.args.splices.now c.requires.certified.names in
    let same = c.parts-again.ensures.exact ∙ ap (parts_of t (roots_of c.args.revisions.now)) says in
    certified_so c.args.store.now c.args.revisions.now c.args.edit c.args.splices.now c.args.root c.args.rows.items c.parts-again.result c.make_by.result c.requires.certified same c.make_by.ensures.covers c.make_by.ensures.no_source

pub returns-clause-longest : goal.returns-clause-longest
returns-clause-longest c =
    let t = table_of coded_byte c.args.store.now in
    let says = c.over_its_own-own.ensures.says (splices_held c.args.revisions.now) c.args.splices.now c.requires.certified.names in
    let same = c.parts-again.ensures.exact ∙ ap (parts_of t (roots_of c.args.revisions.now)) says in
    subst (λ (ps : List Part). IfOk c.make_by.result (λ made. AreLongest t ps c.args.root made.items)) same c.make_by.ensures.longest

pub returns-clause-kept : goal.returns-clause-kept
returns-clause-kept c = λ are.
    let t = table_of coded_byte c.args.store.now in
    let says = c.over_its_own-own.ensures.says (splices_held c.args.revisions.now) c.args.splices.now c.requires.certified.names in
    let same = c.parts-known.ensures.exact ∙ ap (parts_of t (roots_of c.args.revisions.now)) says in
    let here : AreLongest t c.parts-known.result c.args.root c.deref.result.now =
    subst (λ (rs : List Row). AreLongest t c.parts-known.result c.args.root rs) (sym c.deref.ensures.value)
    (subst (λ (ps : List Part). AreLongest t ps c.args.root c.args.rows.items) (sym same) are) in
    let yes = c.are_longest.ensures.1 here in
    let no = c.if-are_longest.false in absurd cc

pub returns-clause-too_many : goal.returns-clause-too_many
returns-clause-too_many c = λ is.
    let t = table_of coded_byte c.args.store.now in
    let says = c.over_its_own-own.ensures.says (splices_held c.args.revisions.now) c.args.splices.now c.requires.certified.names in
    let same = c.parts-again.ensures.exact ∙ ap (parts_of t (roots_of c.args.revisions.now)) says in
    subst (λ (ps : List Part). IsCutShort t (held_coded c.args.store.now) ps c.args.root) same (c.make_by.ensures.too_many is)
