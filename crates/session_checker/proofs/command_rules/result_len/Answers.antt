use Rattle.std.proofs.Common.{◌≡◌, length, take, drop, ap, ◌∙◌, arith}
use Rattle.std.specs.List.{sum_by}
use Rattle.rope_node.specs.Denotes.{rope_len}
use Rattle.command_parts.specs.declared.edit.Splice.{Splice}
use Rattle.command_parts.specs.Commands.{Many}
use Rattle.command_parts.specs.Parts.{root_at, len_of, parts_len, nonempty, pieces, IsInRange}
use Rattle.command_parts.proofs.SplicedTexts.{are_splices, follow_sum}
use Rattle.session_checker.proofs.ResultLengths.{spliced_len, len_so}
use Rattle.session_checker.proofs.command_rules.result_len.Goals as goal

pub overflow_sub-result-in-Many : goal.overflow_sub-result-in-Many
overflow_sub-result-in-Many g c =
    let t = g.S.NodeSpace.table c.args.looks.now.space.now in
    let roots = g.R.Roots.roots c.args.roots.now in
    let named = take c.in-Many.count (drop c.in-Many.first (g.P.Splices.splices c.args.splices.now)) in
    let range : IsInRange t roots (Many c.in-Many.r named) = rw c.in-Many.is at c.requires.in_range in
    let len : c.rope_len-in-Many.result ≡ len_of t roots c.in-Many.r = c.rope_len-in-Many.ensures.exact ∙ ap (rope_len t) c.root-in-Many.ensures in
    let are = are_splices (length t.pool) (len_of t roots c.in-Many.r) named range.1 in
    omega (arith, len, follow_sum (len_of t roots c.in-Many.r) 0 named are.follow, c.bytes_spliced-taken.ensures.taken)

pub returns-in-Many : goal.returns-in-Many
returns-in-Many g c =
    let t = g.S.NodeSpace.table c.args.looks.now.space.now in
    let roots = g.R.Roots.roots c.args.roots.now in
    let named = take c.in-Many.count (drop c.in-Many.first (g.P.Splices.splices c.args.splices.now)) in
    let range : IsInRange t roots (Many c.in-Many.r named) = rw c.in-Many.is at c.requires.in_range in
    let len : c.rope_len-in-Many.result ≡ len_of t roots c.in-Many.r = c.rope_len-in-Many.ensures.exact ∙ ap (rope_len t) c.root-in-Many.ensures in
    let are = are_splices (length t.pool) (len_of t roots c.in-Many.r) named range.1 in
    let m = sum_by (λ (s : Splice). s.m) named in
    let n = sum_by (λ (s : Splice). s.n) named in
    let inside = follow_sum (len_of t roots c.in-Many.r) 0 named are.follow in
    let total = parts_len (nonempty (pieces (root_at roots c.in-Many.r) (len_of t roots c.in-Many.r) 0 named)) in
    rw (c.in-Many.is, len)
    (len_so (len_of t roots c.in-Many.r) m n c.bytes_spliced-taken.result.0 c.bytes_spliced-taken.result.1 total
    (omega (arith, inside)) (rw (← len) c.rope_len-in-Many.ensures.short) range.2 c.bytes_spliced-taken.ensures.taken c.bytes_spliced-taken.ensures.put
    (spliced_len (root_at roots c.in-Many.r) (len_of t roots c.in-Many.r) named are.follow))
