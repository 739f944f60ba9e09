use Rattle.std.proofs.Common.{◌≡◌, ◌-◌, ◌≤◌, ℕ, length, take, drop, sym, ap, subst, ◌∙◌, arith, length-drop}
use Rattle.rope_node.specs.Denotes.{rope_cells, text}
use Rattle.text_lines.specs.HeldBytes.{AreHeld, HeldPart}
use borrow.Rule.Slice.PartMut.{mid_len, put_mid}
use Rattle.text_lines.proofs.HeldLaws.{more_before}
use Rattle.text_lines.proofs.held.HeldBytes.read_before.Goals as goal

pub returns-clause-held : goal.returns-clause-held
returns-clause-held g c = record {
  told = λ source agrees stated.
      let t = g.S.NodeSpace.table c.args.space.now in
      let u = text source (rope_cells t c.args.rope) in
      let h = c.self.inside in
      let count = c.saturating_sub-count.result in
      let first = h.start - count in
      let near = c.read_part.new.buffer in
      let view : HeldPart = record { from = h.from; bytes = drop h.start h.bytes; begun = h.begun; known = h.known } in
      let before : AreHeld view u = subst (λ (p : HeldPart). AreHeld p u) (sym c.self.view_is) (c.requires.held.told source agrees stated) in
      let all : h.start ≤ length h.bytes = omega (arith, c.self.invariant, c.self.ranges.1) in
      let first_is = ap (λ (p : HeldPart). p.from) c.self.view_is in
      let many = ap (λ (p : HeldPart). length p.bytes) c.self.view_is in
      let same : h.start - first ≡ count = omega (arith, c.saturating_sub-count.ensures, c.requires.room, first_is, many, length-drop h.start h.bytes, all, c.self.ranges.1) in
      let long : length near ≡ h.start - first = c.in_ok-read_part.ensures.length ∙ mid_len first h.start h.bytes all in
      let read : near ≡ take (length near) (drop (h.from - (h.start - first)) u) =
      c.in_ok-read_part.ensures.bytes source agrees stated ∙ ap (λ (k : ℕ). take k (drop (h.from - count) u)) (sym c.in_ok-read_part.ensures.length) ∙ ap (λ (k : ℕ). take (length near) (drop (h.from - k) u)) (sym same) in
      subst (λ (k : ℕ). AreHeld (record view { from = h.from - k; bytes = drop first (put_mid first (h.start - first) h.bytes near) }) u) same
      (more_before u near h.bytes view h.from first h.start (omega arith) all (omega (arith, same, c.saturating_sub-count.ensures)) long before read);
}
