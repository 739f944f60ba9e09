use Rattle.std.proofs.Common.{◌≡◌, [], refl, arith}
use Rattle.std.proofs.lemmas.List.{nil_from_length}
use Rattle.session_image.specs.Gathering.{output}
use Rattle.session_image.proofs.Gathering.{put_failed, sent_at_once, sent_before, sent_straight}
use Rattle.session_image.proofs.gathered.Gathered.put.Goals as goal

pub returns-in_err-write_out : goal.returns-in_err-write_out
returns-in_err-write_out g c =
    put_failed _ _ _ c.from_residual.result c.from_residual.ensures.0 (sent_before _ _ c.args.bytes.now refl c.in_err-write_out.ensures.err)

pub returns : goal.returns
returns g c =
    sent_straight (output g.W.Write.contents c.args.self.now) (g.W.Write.contents c.write_out.new.writer) _ c.args.bytes.now c.write_bytes-2.result refl c.write_out.ensures.empty c.in_ok-write_out.ensures.ok c.write_bytes-2.ensures.ok c.write_bytes-2.ensures.err

pub returns-then-this-eq0 : goal.returns-then-this-eq0
returns-then-this-eq0 g c =
    let none : c.args.self.now.held ≡ [] = nil_from_length _ (omega (arith, c.room-room.ensures, c.if-this-eq0.true)) in
    sent_at_once (output g.W.Write.contents c.args.self.now) _ c.args.bytes.now c.write_bytes.result refl none none c.write_bytes.ensures.ok c.write_bytes.ensures.err
