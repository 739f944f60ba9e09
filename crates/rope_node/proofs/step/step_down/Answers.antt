use Rattle.std.proofs.Common.{◌≡◌, ◌+◌, ◌-◌, ◌<◌, Some, refl, sym, ap, ◌∙◌, arith}
use Rattle.rope_node.specs.declared.node.Span.{Span}
use Rattle.rope_node.specs.Table.{len_at}
use Rattle.rope_node.specs.Steps.{child_span}
use Rattle.rope_node.proofs.Children.{base_of_sub, child_cells, other_cells, span_in_left, span_in_right}
use Rattle.rope_node.proofs.step.step_down.Goals as goal

pub returns-then-left-x : goal.returns-then-left-x
returns-then-left-x g c =
    let t = g.S.NodeSpace.table c.args.space.now in
    let x = c.args.x in
    let z : Span = record { node = c.in-Cat.r; start = x.start - c.left_len-left.result; len = x.len } in
    let child : Some z ≡ child_span t x c.args.view =
    rw (c.in-Cat.is, c.left_len-left.ensures.value) (ap Some (sym (span_in_right t x c.in-Cat.l c.in-Cat.r (rw c.left_len-left.ensures.value at c.if-left-x.true)))) in
    record { child = child; many = c.requires.few; cells = child_cells t c.requires.sound c.requires.true_records x z c.args.view c.requires.span c.requires.view child }

pub returns-then-least-first : goal.returns-then-least-first
returns-then-least-first g c =
    let t = g.S.NodeSpace.table c.args.space.now in
    let x = c.args.x in
    let z : Span = record { node = c.in-Cat.l; start = x.start; len = c.min.result } in
    let child : Some z ≡ child_span t x c.args.view =
    rw (c.in-Cat.is, c.min.ensures, c.left_len-left.ensures.value) (ap Some (sym (span_in_left t x c.in-Cat.l c.in-Cat.r (rw c.left_len-left.ensures.value at c.if-left-x.false)))) in
    record { child = child; many = c.if-least-first.true; cells = child_cells t c.requires.sound c.requires.true_records x z c.args.view c.requires.span c.requires.view child }

pub returns-else-least-first : goal.returns-else-least-first
returns-else-least-first g c =
    let t = g.S.NodeSpace.table c.args.space.now in
    let x = c.args.x in
    let z : Span = record { node = c.in-Cat.l; start = x.start; len = c.min.result } in
    let value = c.left_len-left.ensures.value in
    let before : x.start < len_at t c.in-Cat.l.0 = omega (arith, value, c.if-left-x.false) in
    let child : Some z ≡ child_span t x c.args.view =
    rw (c.in-Cat.is, c.min.ensures, value) (ap Some (sym (span_in_left t x c.in-Cat.l c.in-Cat.r before))) in
    record {
      border = record { l = c.in-Cat.l; r = c.in-Cat.r; is_cat = c.in-Cat.is; before = before; past = omega (arith, value, c.min.ensures, c.if-least-first.false, c.requires.few) };
      child = child;
      others = refl;
      all = omega (arith, c.min.ensures);
      cells = child_cells t c.requires.sound c.requires.true_records x z c.args.view c.requires.span c.requires.view child;
      other_cells = other_cells t c.requires.sound c.requires.true_records x z c.in-Cat.l c.in-Cat.r c.requires.span (sym c.requires.view ∙ c.in-Cat.is)
          (omega (arith, value, c.min.ensures, c.if-least-first.false, c.requires.few)) (omega (arith, value, c.min.ensures, c.if-least-first.false, c.requires.few, before));
    }

pub overflow_add-result : goal.overflow_add-result
overflow_add-result g c =
    let t = g.S.NodeSpace.table c.args.space.now in
    let x = c.args.x in
    let base = base_of_sub t c.requires.sound x.node.0 c.requires.span.there c.in-Sub.b c.in-Sub.i (sym c.requires.view ∙ c.in-Sub.is) in
    let short = (c.requires.sound.nodes c.in-Sub.b.0 (omega (arith, base.0, c.requires.span.there))).not_long in
    omega (arith, base.1, short, c.requires.span.inside)

pub returns-in-Sub : goal.returns-in-Sub
returns-in-Sub g c =
    let t = g.S.NodeSpace.table c.args.space.now in
    let x = c.args.x in
    let z : Span = record { node = c.in-Sub.b; start = x.start + c.in-Sub.i; len = x.len } in
    let child : Some z ≡ child_span t x c.args.view = rw c.in-Sub.is refl in
    record { child = child; many = c.requires.few; cells = child_cells t c.requires.sound c.requires.true_records x z c.args.view c.requires.span c.requires.view child }
