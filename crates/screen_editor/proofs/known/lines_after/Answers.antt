use Rattle.std.proofs.Common.{arith}
use Rattle.screen_editor.proofs.KnownKeys.{by_lines, stays, stays_at_end, stays_at_start, stays_erased_at, stays_erased_before, stays_typed}
use Rattle.screen_editor.specs.declared.key.Key.TheVariants as Keys
use Rattle.screen_editor.proofs.known.lines_after.Goals as goal

pub returns-in-Typed : goal.returns-in-Typed
returns-in-Typed c =
    let w = c.args.workspace.now in
    let known = c.args.known.now in
    rw c.in-Typed.is (by_lines (Keys.Typed c.in-Typed.byte) w known c.typed.result
    (stays_typed w c.place-place.result c.in-Typed.byte known.lines c.typed.result c.last-last.ensures.history c.place-place.ensures.value c.place-place.ensures.inside c.typed.ensures.lines))

pub returns-then-place-eq0 : goal.returns-then-place-eq0
returns-then-place-eq0 c =
    let w = c.args.workspace.now in
    let known = c.args.known.now in
    rw c.in-EraseBefore.is (by_lines Keys.EraseBefore w known known.lines (stays_at_start w known.lines c.last-last.ensures.history (omega (arith, c.place-place.ensures.value, c.if-place-eq0.true))))

pub returns-else-place-eq0 : goal.returns-else-place-eq0
returns-else-place-eq0 c =
    let w = c.args.workspace.now in
    let known = c.args.known.now in
    rw c.in-EraseBefore.is (by_lines Keys.EraseBefore w known c.known_without.result
    (stays_erased_before w c.place-place.result known.lines c.known_without.result c.last-last.ensures.history c.place-place.ensures.value (omega (arith, c.if-place-eq0.false)) c.place-place.ensures.inside
    c.known_without.ensures.told c.known_without.ensures.lines))

pub returns-then-place-len : goal.returns-then-place-len
returns-then-place-len c =
    let w = c.args.workspace.now in
    let known = c.args.known.now in
    rw c.in-EraseAt.is (by_lines Keys.EraseAt w known known.lines (stays_at_end w known.lines c.last-last.ensures.history (omega (arith, c.place-place.ensures.value, c.len.ensures.value, c.if-place-len.true))))

pub returns-else-place-len : goal.returns-else-place-len
returns-else-place-len c =
    let w = c.args.workspace.now in
    let known = c.args.known.now in
    rw c.in-EraseAt.is (by_lines Keys.EraseAt w known c.known_without-in-EraseAt.result
    (stays_erased_at w c.place-place.result known.lines c.known_without-in-EraseAt.result c.last-last.ensures.history c.place-place.ensures.value (omega (arith, c.len.ensures.value, c.if-place-len.false))
    c.known_without-in-EraseAt.ensures.told c.known_without-in-EraseAt.ensures.lines))

pub returns-in_default : goal.returns-in_default
returns-in_default c =
    let d = c.in_default in
    let w = c.args.workspace.now in
    let known = c.args.known.now in
    by_lines c.args.key w known known.lines (stays c.args.key w known.lines c.last-last.ensures.history d.not-Typed d.not-EraseBefore d.not-EraseAt d.not-Cut d.not-Paste d.not-Undo)

pub returns-in-Cut : goal.returns-in-Cut
returns-in-Cut c = rw c.in-Cut.is (by_lines Keys.Cut c.args.workspace.now c.args.known.now c.known_cut.result c.known_cut.ensures)

pub returns-in-Paste : goal.returns-in-Paste
returns-in-Paste c = rw c.in-Paste.is (by_lines Keys.Paste c.args.workspace.now c.args.known.now c.known_pasted.result c.known_pasted.ensures)

pub returns-in-Undo : goal.returns-in-Undo
returns-in-Undo c = rw c.in-Undo.is c.known_undone.ensures
