use Rattle.std.proofs.Common.{◌≡◌, ℕ, ◌+◌, ◌<◌, ◌≤◌, List, ◌++◌, length, map, take, sym, ap, subst, ◌∙◌}
use Rattle.rope_node.specs.declared.limits.TheConstants.{TEXT_LIMIT}
use Rattle.rope_node.specs.Table.{len_at}
use Rattle.rope_node.specs.Denotes.{Cell, Byte, cells, rope_cells, rope_len}
use Rattle.node_table.specs.declared.fault.NodeFault.TheVariants.{TooLong}
use Rattle.node_table.specs.Held.{table_of}
use Rattle.node_table.specs.Held.{IsKept}
use Rattle.rope_store.specs.Additions.{Addition}
use Rattle.rope_store.specs.Joining.{merged, piece}
use Rattle.rope_store.proofs.Growth.{holds_of, sound_of}
use Rattle.rope_store.proofs.Made.{makes_as, makes_none, refuses_as, refuses_more, refuses_length}
use Rattle.rope_store.proofs.LastLiterals.{merged_text}
use Rattle.rope_store.proofs.ShortPieces.{literal_size, literal_some, fits_short, fits_sum, taken_inside, sum_below, sum_over, not_over, both_size, both_are, both_some, both_short, both_behind}
use Rattle.rope_store.proofs.store.Store.merge.Goals as goal
use Rattle.rope_store.proofs.store.Store.merge.Goals.{After-len-2, After-literal-second, After-both-bytes}

left : (g : _) (c : After-len-2 g) → c.len.result ≡ len_at (table_of g.F.LeafFn.meaning c.args.self.now) c.args.l.0
left g c = rw c.self.view_is at c.len.ensures.value

right : (g : _) (c : After-len-2 g) → c.len-2.result ≡ len_at (table_of g.F.LeafFn.meaning c.args.self.now) c.args.r.0
right g c = rw c.self.view_is at c.len-2.ensures.value

-- both pieces are as long as their nodes say
first_size : (g : _) (c : After-literal-second g) → length c.literal-first.result.now ≡ len_at (table_of g.F.LeafFn.meaning c.args.self.now) c.args.ending.literal.0
first_size g c =
    let store = subst (λ k. IsKept g.F.LeafFn.meaning k) c.self.view_is c.self.invariant in
    literal_size g.F.LeafFn.meaning c.args.self.now store c.args.ending.literal c.literal-first.result.now c.requires.ending.there c.requires.ending.is_literal (rw c.self.view_is at c.literal-first.ensures)

second_size : (g : _) (c : After-literal-second g) → length c.literal-second.result.now ≡ len_at (table_of g.F.LeafFn.meaning c.args.self.now) c.args.r.0
second_size g c =
    let store = subst (λ k. IsKept g.F.LeafFn.meaning k) c.self.view_is c.self.invariant in
    literal_size g.F.LeafFn.meaning c.args.self.now store c.args.r c.literal-second.result.now c.requires.right c.requires.literal (rw c.self.view_is at c.literal-second.ensures)

short : (g : _) (c : After-literal-second g) → length c.literal-first.result.now + length c.literal-second.result.now ≤ 31
short g c = rw (first_size g c, second_size g c) c.requires.ending.short

size : (g : _) (c : After-both-bytes g) → length (take (length c.literal-first.result.now + length c.literal-second.result.now) c.both-bytes.result) ≡ length c.literal-first.result.now + length c.literal-second.result.now
size g c = both_size c.literal-first.result.now c.literal-second.result.now (take (length c.literal-first.result.now + length c.literal-second.result.now) c.both-bytes.result) c.both-bytes.ensures

bytes_are : (g : _) (c : After-both-bytes g) → take (length c.literal-first.result.now + length c.literal-second.result.now) c.both-bytes.result ≡ piece (table_of g.F.LeafFn.meaning c.args.self.now) c.args.ending.literal ++ piece (table_of g.F.LeafFn.meaning c.args.self.now) c.args.r
bytes_are g c =
    let t = table_of g.F.LeafFn.meaning c.args.self.now in
    both_are c.literal-first.result.now c.literal-second.result.now (piece t c.args.ending.literal) (piece t c.args.r) (take (length c.literal-first.result.now + length c.literal-second.result.now) c.both-bytes.result) c.both-bytes.ensures
    (rw c.self.view_is at c.literal-first.ensures) (rw c.self.view_is at c.literal-second.ensures)

pub overflow_add-len : goal.overflow_add-len
overflow_add-len g c = fits_sum c.len.result c.len-2.result c.len.ensures.limit c.len-2.ensures.limit

pub returns-then-len-ge-TEXT_LIMIT : goal.returns-then-len-ge-TEXT_LIMIT
returns-then-len-ge-TEXT_LIMIT g c = record {
  makes =
      let t = table_of g.F.LeafFn.meaning c.args.self.now in
      makes_none g.F.LeafFn.meaning c.args.self.now (merged t c.args.ending.before (piece t c.args.ending.literal ++ piece t c.args.r)) (cells t c.args.l.0 ++ cells t c.args.r.0) TooLong;
  refuses =
      let t = table_of g.F.LeafFn.meaning c.args.self.now in
      let at = (goal.at.returns-then-len-ge-TEXT_LIMIT g c).After-len-2 in
      refuses_length c.args.self.now (merged t c.args.ending.before (piece t c.args.ending.literal ++ piece t c.args.r)) ⊥ (TEXT_LIMIT ≤ len_at t c.args.l.0 + len_at t c.args.r.0) (λ bad. bad)
      (sum_over (len_at t c.args.l.0) (len_at t c.args.r.0) c.len.result c.len-2.result (left g at) (right g at) c.if-len-ge-TEXT_LIMIT.true);
}

pub overflow_add-count : goal.overflow_add-count
overflow_add-count g c = fits_short (length c.literal-first.result.now + length c.literal-second.result.now) (short g c)

pub both-bytes-requires : goal.both-bytes-requires
both-bytes-requires g c = short g c

pub slice_bounds-bytes-end : goal.slice_bounds-bytes-end
slice_bounds-bytes-end g c = taken_inside (length c.literal-first.result.now + length c.literal-second.result.now) c.both-bytes.result (size g (goal.at.slice_bounds-bytes-end g c).After-both-bytes)

pub slice_bounds-put_merged-end : goal.slice_bounds-put_merged-end
slice_bounds-put_merged-end g c = sym (size g (goal.at.slice_bounds-put_merged-end g c).After-both-bytes)

pub put_merged-requires : goal.put_merged-requires
put_merged-requires g c =
    let h = c.args.self.now in
    let t = table_of g.F.LeafFn.meaning h in
    let store = subst (λ k. IsKept g.F.LeafFn.meaning k) c.self.view_is c.self.invariant in
    let first = length c.literal-first.result.now in
    let second = length c.literal-second.result.now in
    let many = length (take (first + second) c.both-bytes.result) in
    let at = goal.at.put_merged-requires g c in
    let is = size g at.After-both-bytes in
    let begun = first_size g at.After-literal-second in
    let some : 1 ≤ first = rw begun (literal_some g.F.LeafFn.meaning h store c.args.ending.literal c.requires.ending.there) in
    let len : len_at t c.args.l.0 ≡ rope_len t c.args.ending.before + first = rw begun c.requires.ending.len in
    let below = sum_below (len_at t c.args.l.0) (len_at t c.args.r.0) c.len.result c.len-2.result (left g at.After-len-2) (right g at.After-len-2) c.if-len-ge-TEXT_LIMIT.false in
    let behind : len_at t c.args.l.0 + second < TEXT_LIMIT = rw (second_size g at.After-literal-second) below in
    record {
      before = c.requires.ending.is_before;
      some = both_some first second many is some;
      fits = both_short first second many is (short g at.After-literal-second);
      short = both_behind (rope_len t c.args.ending.before) first second (len_at t c.args.l.0) many len is behind;
      shallow = c.requires.ending.shallow;
    }

pub returns : goal.returns
returns g c = record {
  makes =
      let h = c.args.self.now in
      let t = table_of g.F.LeafFn.meaning h in
      let store = subst (λ k. IsKept g.F.LeafFn.meaning k) c.self.view_is c.self.invariant in
      let sound = sound_of g.F.LeafFn.meaning h (holds_of g.F.LeafFn.meaning h store) store.pool in
      let whole : (bs : List ℕ) → Addition g.row.F.Denot = λ bs. merged t c.args.ending.before bs in
      let read : (bs : List ℕ) → List Cell = λ bs. rope_cells t c.args.ending.before ++ map Byte bs in
      let are = bytes_are g (goal.at.returns g c).After-both-bytes in
      makes_as (ap whole (sym are)) (ap read are ∙ merged_text t sound c.args.l c.args.r (len_at t c.args.r.0) c.args.ending c.requires.ending c.requires.right c.requires.literal) c.put_merged.ensures.makes;
  refuses =
      let t = table_of g.F.LeafFn.meaning c.args.self.now in
      let whole : (bs : List ℕ) → Addition g.row.F.Denot = λ bs. merged t c.args.ending.before bs in
      let at = goal.at.returns g c in
      let below = sum_below (len_at t c.args.l.0) (len_at t c.args.r.0) c.len.result c.len-2.result (left g at.After-len-2) (right g at.After-len-2) c.if-len-ge-TEXT_LIMIT.false in
      refuses_as (ap whole (sym (bytes_are g at.After-both-bytes))) (refuses_more (not_over (len_at t c.args.l.0 + len_at t c.args.r.0) below) c.put_merged.ensures.refuses);
}
