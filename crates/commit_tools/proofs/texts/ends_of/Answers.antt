use Rattle.std.proofs.Common.{◌≡◌, ℕ, ◌-◌, length, drop, arith}
use Rattle.rope_node.specs.Denotes.{rope_cells, rope_len, text}
use Rattle.commit_tools.proofs.KeptEnds.{fronts_apart}
use Rattle.commit_tools.proofs.RopeReads.{over_same}
use Rattle.commit_tools.proofs.SameEnds.{back_fewer, front_fewer}
use Rattle.commit_tools.proofs.texts.ends_of.Goals as goal

pub returns-clause-front : goal.returns-clause-front
returns-clause-front g c = λ source agrees stated.
    front_fewer (text source (rope_cells (g.S.NodeSpace.table c.args.space.now) c.args.rope)) c.args.file.now c.in_ok-front.front c.whole_front-front.result (omega (arith, c.whole_front-front.ensures.inside))
    (c.in_ok-front.ensures.same source agrees stated)

pub returns-clause-back : goal.returns-clause-back
returns-clause-back g c = λ source agrees stated.
    let t = g.S.NodeSpace.table c.args.space.now in
    let file = c.args.file.now in
    let len : ℕ = rope_len t c.args.rope in
    let n : ℕ = c.in_ok-back.back in
    let here = over_same t c.args.rope (λ u. drop (len - n) u ≡ drop (length file - n) file) (g.T.Sources.reading c.same_front.new.sources) (g.T.Sources.reading c.args.sources.now) c.in_ok-front.ensures.reads c.in_ok-back.ensures.same in
    back_fewer (text source (rope_cells t c.args.rope)) file len (length file) n c.whole_back.result c.whole_back.ensures.inside
    (omega (arith, c.in_ok-back.ensures.most, c.min-most.ensures, c.rope_len.ensures.exact)) (omega (arith, c.in_ok-back.ensures.most, c.min-most.ensures)) (here source agrees stated)

pub returns-clause-apart : goal.returns-clause-apart
returns-clause-apart g c = λ source agrees stated n fits fits_too same.
    let t = g.S.NodeSpace.table c.args.space.now in
    let rope = c.args.rope in
    let file = c.args.file.now in
    let len : ℕ = rope_len t rope in
    let front : ℕ = c.in_ok-front.front in
    let back : ℕ = c.in_ok-back.back in
    let read = over_same t rope (λ u. drop (len - back) u ≡ drop (length file - back) file) (g.T.Sources.reading c.same_front.new.sources) (g.T.Sources.reading c.args.sources.now) c.in_ok-front.ensures.reads c.in_ok-back.ensures.same in
    fronts_apart (text source (rope_cells t rope)) file len front c.whole_front-front.result back c.whole_back.result n
    (c.in_ok-front.ensures.same source agrees stated) (λ inside within. c.in_ok-front.ensures.longest inside within source agrees stated) c.whole_front-front.ensures.last (read source agrees stated)
    c.in_ok-front.ensures.inside c.in_ok-front.ensures.within
    (omega (arith, c.in_ok-back.ensures.most, c.min-most.ensures, c.rope_len.ensures.exact, c.whole_front-front.ensures.inside, c.in_ok-front.ensures.inside))
    (omega (arith, c.in_ok-back.ensures.most, c.min-most.ensures, c.whole_front-front.ensures.inside, c.in_ok-front.ensures.within))
    c.whole_back.ensures.shorter c.whole_back.ensures.inside c.whole_back.ensures.line fits fits_too same
