use Rattle.std.proofs.Common.{◌≡◌, ◌++◌, ◌∙◌, Some, ◌*◌, ◌/◌, length, refl, sym, option_map}
use Rattle.rope_node.specs.Denotes.{rope_cells, text}
use Rattle.cord_search.proofs.Fetches.{text_length}
use Rattle.text_lines.specs.declared.rows.TheConstants.{SCREEN_COLUMNS}
use Rattle.text_lines.specs.Rows.{lines_from, rows_on_screen}
use Rattle.text_lines.proofs.HeldLaws.{known_held}
use Rattle.text_lines.proofs.Screens.{screen_is}
use Rattle.text_lines.proofs.ToldLater.{held_then, told_then}
use Rattle.text_lines.proofs.frame.frame_about.Goals as goal

pub returns-clause-bytes : goal.returns-clause-bytes
returns-clause-bytes g c source agrees stated =
    let t = g.S.NodeSpace.table c.args.space.now in
    let u = text source (rope_cells t c.args.rope) in
    let window = c.in_ok-window.window in
    let left = SCREEN_COLUMNS * (window.column / SCREEN_COLUMNS) in
    let long : c.rope_len.result ≡ length u = c.rope_len.ensures.cells ∙ sym (text_length t c.args.rope source) in
    let rows = told_then t (g.T.Sources.reading c.args.sources.now) (g.T.Sources.reading c.window_about.new.sources) c.args.rope (λ v. c.push_rows.new.out.items ≡ c.in_ok-out.out.items ++ rows_on_screen (lines_from v (Some window.top)) left) c.in_ok-window.ensures.reads c.in_ok-push_rows.ensures.rows source agrees stated in
    screen_is u c.args.place c.args.revision window.top window.row window.column left c.rope_len.result (option_map (λ m. m.now) c.args.message) c.in_ok-out.out.items c.push_rows.new.out.items c.as_bytes.result.now c.extend_from_slice.new.self.items c.as_bytes-2.result.now c.extend_from_slice-2.new.self.items
    (c.in_ok-window.ensures.is source agrees stated) refl long c.in_ok-out.ensures.items rows
    (c.as_bytes.ensures.value ∙ c.in_ok-line.ensures) c.in_ok-extend_from_slice.ensures.items (c.as_bytes-2.ensures.value ∙ c.in_ok-end.ensures) c.in_ok-extend_from_slice-2.ensures.items

pub window_about-requires-clause-held : goal.window_about-requires-clause-held
window_about-requires-clause-held g c = record {
  told = λ source agrees stated.
      let u = text source (rope_cells (g.S.NodeSpace.table c.args.space.now) c.args.rope) in
      rw c.new-held.ensures (known_held u c.args.known.now (c.requires.known source agrees stated));
}

pub returns-clause-known : goal.returns-clause-known
returns-clause-known g c source agrees stated =
    let held = (held_then c.in_ok-window.ensures.reads c.in_ok-push_rows.ensures.held).told source agrees stated in
    rw c.known.ensures held.known

pub push_rows-requires-clause-held : goal.push_rows-requires-clause-held
push_rows-requires-clause-held g c = held_then (sym c.in_ok-window.ensures.reads) c.in_ok-window.ensures.held
