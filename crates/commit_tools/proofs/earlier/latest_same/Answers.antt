use Rattle.std.proofs.Common.{◌≡◌, ℕ, ◌+◌, ◌-◌, ◌<◌, suc, length, subst, sym, ◌∙◌, arith}
use Rattle.function_leaf.specs.Coded.{coded_byte}
use Rattle.node_table.specs.Held.{table_of}
use Rattle.rope_node.specs.Denotes.{rope_len}
use Rattle.commit_tools.specs.Earlier.{HaveOthers}
use Rattle.commit_tools.proofs.ComparedTexts.{count_more, count_one, others_more, text_differs, text_is, text_longer}
use Rattle.commit_tools.proofs.earlier.latest_same.Goals as goal

pub loop-r-preserved-then-rope_len-file : goal.loop-r-preserved-then-rope_len-file
loop-r-preserved-then-rope_len-file g c =
    let v = c.args.session.now in
    let h = c.space-space.result.now in
    let rope = c.revision_root-rope.result in
    let file = c.args.file.now in
    let st = (g.T.Sources.reading c.args.sources.now).stated in
    let before : ℕ = c.loop-r.r in
    let r : ℕ = c.loop-r.r - 1 in
    let next : before ≡ r + 1 = omega (arith, c.loop-r-test.true) in
    let there : r < length v.revisions = omega (arith, next, c.loop-r.invariant.inside) in
    record {
      reads = c.loop-r.invariant.reads;
      inside = omega (arith, c.loop-r.invariant.inside);
      others = others_more st v file before r next
          (text_longer v h rope st r file c.space-space.ensures.store c.revision_root-rope.ensures.root c.space-space.ensures.history (λ same. c.if-rope_len-file.true (c.rope_len.ensures.exact ∙ same)))
          c.loop-r.invariant.others;
      counted = omega (arith, c.loop-r.invariant.counted, count_more v (length file) before r next there);
    }

pub returns-then-same-file-clause-latest : goal.returns-then-same-file-clause-latest
returns-then-same-file-clause-latest g c =
    let v = c.args.session.now in
    let h = c.space-space.result.now in
    let rope = c.revision_root-rope.result in
    let file = c.args.file.now in
    let a = g.T.Sources.reading c.args.sources.now in
    let b = g.T.Sources.reading c.loop-r.sources in
    let before : ℕ = c.loop-r.r in
    let r : ℕ = c.loop-r.r - 1 in
    let next : before ≡ suc r = omega (arith, c.loop-r-test.true) in
    let long : rope_len (table_of coded_byte h) rope ≡ length file = sym c.rope_len.ensures.exact ∙ c.if-rope_len-file.false in
    record {
      there = omega (arith, next, c.loop-r.invariant.inside);
      same = text_is v h rope a b r c.in_ok-same.same file c.space-space.ensures.store c.revision_root-rope.ensures.root c.loop-r.invariant.reads c.space-space.ensures.history long c.if-same-file.true c.in_ok-same.ensures.same;
      later = subst (HaveOthers a.stated v file) next c.loop-r.invariant.others;
    }

pub loop-r-preserved : goal.loop-r-preserved
loop-r-preserved g c =
    let v = c.args.session.now in
    let h = c.space-space.result.now in
    let rope = c.revision_root-rope.result in
    let file = c.args.file.now in
    let a = g.T.Sources.reading c.args.sources.now in
    let b = g.T.Sources.reading c.loop-r.sources in
    let before : ℕ = c.loop-r.r in
    let r : ℕ = c.loop-r.r - 1 in
    let n : ℕ = c.in_ok-same.same in
    let next : before ≡ r + 1 = omega (arith, c.loop-r-test.true) in
    let there : r < length v.revisions = omega (arith, next, c.loop-r.invariant.inside) in
    let long : rope_len (table_of coded_byte h) rope ≡ length file = sym c.rope_len.ensures.exact ∙ c.if-rope_len-file.false in
    let less : n < length file = omega (arith, c.in_ok-same.ensures.within, c.if-same-file.false) in
    record {
      reads = c.in_ok-same.ensures.reads ∙ c.loop-r.invariant.reads;
      inside = omega (arith, c.loop-r.invariant.inside);
      others = others_more a.stated v file before r next
          (text_differs v h rope a b r n file c.space-space.ensures.store c.revision_root-rope.ensures.root c.loop-r.invariant.reads (c.in_ok-same.ensures.longest (omega (arith, less, long)) less))
          c.loop-r.invariant.others;
      counted = omega (
        arith,
        c.loop-r.invariant.counted,
        c.saturating_sub-owed.ensures,
        count_one v h rope (length file) before r next there c.space-space.ensures.store c.revision_root-rope.ensures.root long,
      );
    }
