use Rattle.std.proofs.Common.{◌≡◌, ◌∙◌, length, arith, ap}
use Rattle.std.proofs.lemmas.List.FromFn.{get_or-map-range_with_len, length-map-range_with_len}
use Rattle.image_reader.specs.Accepted.{splices_before}
use Rattle.byte_origins.proofs.starts.start_of.Goals as goal

pub bounds-starts-k : goal.bounds-starts-k
bounds-starts-k g c =
    let v = g.H.History.image c.args.history in
    let there = c.requires.there in
    let all : length c.args.starts.now ≡ length v.revisions =
    ap length c.requires.starts ∙ length-map-range_with_len (splices_before v) 0 (length v.revisions) in
    omega (arith, there, all)

pub returns : goal.returns
returns g c =
    let v = g.H.History.image c.args.history in
    rw (c.requires.starts) (get_or-map-range_with_len (splices_before v) 0 (length v.revisions) c.args.k c.args.k 0 c.requires.there (omega arith))
