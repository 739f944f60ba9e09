use Rattle.std.proofs.Common.{◌≡◌, ◌+◌, ◌<◌, ◌≤◌, max, [], ◌∷◌, ◌++◌, ap, subst, refl}
use Rattle.rope_node.specs.declared.limits.TheConstants.{TEXT_LIMIT}
use Rattle.rope_node.specs.Table.{len_at, depth_at}
use Rattle.rope_node.specs.Denotes.{cells}
use Rattle.node_table.specs.declared.record.Record.{Record}
use Rattle.node_table.specs.declared.fault.NodeFault.TheVariants.{TooLong, TooDeep}
use Rattle.node_table.specs.Held.{table_of}
use Rattle.node_table.specs.Held.{IsKept}
use Rattle.node_table.specs.Records.{concatenation_record}
use Rattle.rope_store.specs.Additions.{concatenated}
use Rattle.rope_store.proofs.Made.{put_makes, makes_none, refuses_length, refuses_depth, one_refuses, one_deep}
use Rattle.rope_store.proofs.Concatenations.{both_good, both_record, both_depth}
use Rattle.rope_store.proofs.ShortPieces.{fits_sum, sum_below, sum_over, not_over}
use Rattle.rope_store.proofs.store.Store.cat_plain.Goals as goal
use Rattle.rope_store.proofs.store.Store.cat_plain.Goals.{After-len-2, After-max-depth, After-concatenation}

left : (g : _) (c : After-len-2 g) → c.len.result ≡ len_at (table_of g.F.LeafFn.meaning c.args.self.now) c.args.l.0
left g c = rw c.self.view_is at c.len.ensures.value

right : (g : _) (c : After-len-2 g) → c.len-2.result ≡ len_at (table_of g.F.LeafFn.meaning c.args.self.now) c.args.r.0
right g c = rw c.self.view_is at c.len-2.ensures.value

depth : (g : _) (c : After-max-depth g) → 1 + c.max-depth.result ≡ 1 + max (depth_at (table_of g.F.LeafFn.meaning c.args.self.now) c.args.l.0) (depth_at (table_of g.F.LeafFn.meaning c.args.self.now) c.args.r.0)
depth g c =
    let t = table_of g.F.LeafFn.meaning c.args.self.now in
    both_depth c.depth.result c.depth-2.result c.max-depth.result (depth_at t c.args.l.0) (depth_at t c.args.r.0) c.max-depth.ensures (rw c.self.view_is at c.depth.ensures.value) (rw c.self.view_is at c.depth-2.ensures.value)

-- the record that is put
put : (g : _) (c : After-concatenation g) → c.concatenation.result ≡ concatenation_record c.args.l c.args.r (len_at (table_of g.F.LeafFn.meaning c.args.self.now) c.args.l.0 + len_at (table_of g.F.LeafFn.meaning c.args.self.now) c.args.r.0) (1 + max (depth_at (table_of g.F.LeafFn.meaning c.args.self.now) c.args.l.0) (depth_at (table_of g.F.LeafFn.meaning c.args.self.now) c.args.r.0))
put g c =
    let t = table_of g.F.LeafFn.meaning c.args.self.now in
    both_record c.args.l c.args.r c.len.result c.len-2.result c.depth.result c.depth-2.result c.max-depth.result (len_at t c.args.l.0) (len_at t c.args.r.0) (depth_at t c.args.l.0) (depth_at t c.args.r.0) c.concatenation.result c.concatenation.ensures c.max-depth.ensures
    (rw c.self.view_is at c.len.ensures.value) (rw c.self.view_is at c.len-2.ensures.value) (rw c.self.view_is at c.depth.ensures.value) (rw c.self.view_is at c.depth-2.ensures.value)

pub overflow_add-len : goal.overflow_add-len
overflow_add-len g c = fits_sum c.len.result c.len-2.result c.len.ensures.limit c.len-2.ensures.limit

pub returns-then-len-ge-TEXT_LIMIT : goal.returns-then-len-ge-TEXT_LIMIT
returns-then-len-ge-TEXT_LIMIT g c = record {
  makes =
      let t = table_of g.F.LeafFn.meaning c.args.self.now in
      makes_none g.F.LeafFn.meaning c.args.self.now (concatenated t c.args.l c.args.r) (cells t c.args.l.0 ++ cells t c.args.r.0) TooLong;
  refuses =
      let t = table_of g.F.LeafFn.meaning c.args.self.now in
      let at = (goal.at.returns-then-len-ge-TEXT_LIMIT g c).After-len-2 in
      refuses_length c.args.self.now (concatenated t c.args.l c.args.r) ⊥ (TEXT_LIMIT ≤ len_at t c.args.l.0 + len_at t c.args.r.0) (λ bad. bad)
      (sum_over (len_at t c.args.l.0) (len_at t c.args.r.0) c.len.result c.len-2.result (left g at) (right g at) c.if-len-ge-TEXT_LIMIT.true);
}

pub returns-then-depth-gt-MOST_DEPTH : goal.returns-then-depth-gt-MOST_DEPTH
returns-then-depth-gt-MOST_DEPTH g c = record {
  makes =
      let t = table_of g.F.LeafFn.meaning c.args.self.now in
      makes_none g.F.LeafFn.meaning c.args.self.now (concatenated t c.args.l c.args.r) (cells t c.args.l.0 ++ cells t c.args.r.0) TooDeep;
  refuses =
      let t = table_of g.F.LeafFn.meaning c.args.self.now in
      let at = goal.at.returns-then-depth-gt-MOST_DEPTH g c in
      let below = sum_below (len_at t c.args.l.0) (len_at t c.args.r.0) c.len.result c.len-2.result (left g at.After-len-2) (right g at.After-len-2) c.if-len-ge-TEXT_LIMIT.false in
      let deep : 64 < 1 + max (depth_at t c.args.l.0) (depth_at t c.args.r.0) = rw (depth g at.After-max-depth) at c.if-depth-gt-MOST_DEPTH.true in
      refuses_depth c.args.self.now (concatenated t c.args.l c.args.r) ⊥ (TEXT_LIMIT ≤ len_at t c.args.l.0 + len_at t c.args.r.0) (λ bad. bad) (not_over (len_at t c.args.l.0 + len_at t c.args.r.0) below)
      (one_deep {F = g.row.F.Denot} (concatenation_record c.args.l c.args.r (len_at t c.args.l.0 + len_at t c.args.r.0) (1 + max (depth_at t c.args.l.0) (depth_at t c.args.r.0))) deep);
}

pub make-requires-clause-nodes : goal.make-requires-clause-nodes
make-requires-clause-nodes g c =
    let h = c.args.self.now in
    let t = table_of g.F.LeafFn.meaning h in
    let store = subst (λ k. IsKept g.F.LeafFn.meaning k) c.self.view_is c.self.invariant in
    let at = goal.at.make-requires-clause-nodes g c in
    let below = sum_below (len_at t c.args.l.0) (len_at t c.args.r.0) c.len.result c.len-2.result (left g at.After-len-2) (right g at.After-len-2) c.if-len-ge-TEXT_LIMIT.false in
    let shallow : 1 + max (depth_at t c.args.l.0) (depth_at t c.args.r.0) ≤ 64 = rw (depth g at.After-max-depth) at c.if-depth-gt-MOST_DEPTH.false in
    rw (put g at.After-concatenation) (both_good g.F.LeafFn.meaning h store c.args.l c.args.r c.requires.left c.requires.right below shallow).can

pub returns : goal.returns
returns g c = record {
  makes =
      let h = c.args.self.now in
      let t = table_of g.F.LeafFn.meaning h in
      let store = subst (λ k. IsKept g.F.LeafFn.meaning k) c.self.view_is c.self.invariant in
      let at = goal.at.returns g c in
      let below = sum_below (len_at t c.args.l.0) (len_at t c.args.r.0) c.len.result c.len-2.result (left g at.After-len-2) (right g at.After-len-2) c.if-len-ge-TEXT_LIMIT.false in
      let shallow : 1 + max (depth_at t c.args.l.0) (depth_at t c.args.r.0) ≤ 64 = rw (depth g at.After-max-depth) at c.if-depth-gt-MOST_DEPTH.false in
      put_makes g.F.LeafFn.meaning h (concatenated t c.args.l c.args.r) (cells t c.args.l.0 ++ cells t c.args.r.0) [] ((concatenation_record c.args.l c.args.r (len_at t c.args.l.0 + len_at t c.args.r.0) (1 + max (depth_at t c.args.l.0) (depth_at t c.args.r.0))) ∷ []) (c.concatenation.result ∷ []) store refl
      (both_good g.F.LeafFn.meaning h store c.args.l c.args.r c.requires.left c.requires.right below shallow) (ap (λ (q : Record g.row.F.Denot). q ∷ []) (put g at.After-concatenation))
      c.make.result c.make.new.self c.make.ensures.ok c.make.ensures.rope c.make.ensures.held c.make.ensures.err;
  refuses =
      let t = table_of g.F.LeafFn.meaning c.args.self.now in
      let at = goal.at.returns g c in
      let below = sum_below (len_at t c.args.l.0) (len_at t c.args.r.0) c.len.result c.len-2.result (left g at.After-len-2) (right g at.After-len-2) c.if-len-ge-TEXT_LIMIT.false in
      let shallow : 1 + max (depth_at t c.args.l.0) (depth_at t c.args.r.0) ≤ 64 = rw (depth g at.After-max-depth) at c.if-depth-gt-MOST_DEPTH.false in
      one_refuses c.args.self.now (concatenated t c.args.l c.args.r) [] (concatenation_record c.args.l c.args.r (len_at t c.args.l.0 + len_at t c.args.r.0) (1 + max (depth_at t c.args.l.0) (depth_at t c.args.r.0))) c.concatenation.result ⊥ (TEXT_LIMIT ≤ len_at t c.args.l.0 + len_at t c.args.r.0) refl (λ bad. bad) (not_over (len_at t c.args.l.0 + len_at t c.args.r.0) below) shallow
      (put g at.After-concatenation) c.make.result c.make.ensures.table_full c.make.ensures.pool_full c.make.ensures.faults;
}
