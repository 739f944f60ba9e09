use Rattle.std.proofs.Common.{sym, ap, ◌∙◌, inl, inr}
use Rattle.rope_node.specs.declared.node.NodeView.TheVariants.{Lit}
use Rattle.cord_position.proofs.LeafCells.{function_cell, literal_first, source_cell}
use Rattle.text_lines.specs.StatedCells.{cell_source}
use Rattle.text_lines.proofs.known.source_at.Goals as goal

pub returns-in-Src : goal.returns-in-Src
returns-in-Src g c =
    let found = c.find_leaf-found.result in
    let cell = source_cell (g.S.NodeSpace.table c.args.space.now) c.node.ensures.sound found.leaf.0 found.start c.in-Src.s c.in-Src.a c.find_leaf-found.ensures.there c.find_leaf-found.ensures.inside (sym c.in-Src.ensures.view) in
    rw c.in-Some.is (ap cell_source (sym cell ∙ c.find_leaf-found.ensures.cell))

pub returns-in-Lit : goal.returns-in-Lit
returns-in-Lit g c =
    let t = g.S.NodeSpace.table c.args.space.now in
    let found = c.find_leaf-found.result in
    elim c.in-Lit.is [
      | inl w ↦
          let cell = literal_first t c.node.ensures.sound found.leaf.0 found.start c.find_leaf-found.ensures.there c.find_leaf-found.ensures.inside (Lit w.0) (sym c.node.ensures.view ∙ w.1) tt in
          rw c.in-Some.is (ap cell_source (sym cell.1 ∙ c.find_leaf-found.ensures.cell))
      | inr e ↦
          let cell = function_cell t c.node.ensures.sound found.leaf.0 found.start c.find_leaf-found.ensures.there c.find_leaf-found.ensures.inside (sym c.node.ensures.view ∙ e) in
          rw c.in-Some.is (ap cell_source (sym cell ∙ c.find_leaf-found.ensures.cell))
    ]
