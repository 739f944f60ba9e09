use Rattle.std.proofs.Common.{◌<◌, [], ◌∷◌, length, map, subst, refl, arith}
use Rattle.leaf_buffer.specs.declared.block.TheConstants.{BLOCK_SIZE}
use Rattle.rope_node.specs.Denotes.{Byte}
use Rattle.node_table.specs.declared.fault.NodeFault.TheVariants.{TooLong}
use Rattle.node_table.specs.Held.{table_of}
use Rattle.node_table.specs.Held.{IsKept}
use Rattle.node_table.specs.Records.{literal_record}
use Rattle.rope_store.specs.Additions.{bytes_added}
use Rattle.rope_store.proofs.Made.{put_makes, makes_none, refuses_length, one_refuses}
use Rattle.rope_store.proofs.LeafTexts.{some_bytes, bytes_good, makes_no_bytes, refuses_no_bytes}
use Rattle.rope_store.proofs.store.Store.from_bytes.Goals as goal

pub make-requires-clause-nodes : goal.make-requires-clause-nodes
make-requires-clause-nodes g c =
    let store = subst (λ k. IsKept g.F.LeafFn.meaning k) c.self.view_is c.self.invariant in
    rw (c.literal.ensures, c.pool_len-start.ensures.value, c.self.view_is)
    (bytes_good g.F.LeafFn.meaning c.args.self.now store c.args.bytes.now (omega arith) (omega arith)).can

pub returns : goal.returns
returns g c = record {
  makes =
      let store = subst (λ k. IsKept g.F.LeafFn.meaning k) c.self.view_is c.self.invariant in
      let t = table_of g.F.LeafFn.meaning c.args.self.now in
      put_makes g.F.LeafFn.meaning c.args.self.now _ _ c.args.bytes.now (literal_record (length c.args.self.now.pool.bytes) (length c.args.bytes.now) ∷ []) (c.literal.result ∷ []) store
      (some_bytes t c.args.bytes.now (omega arith)) (bytes_good g.F.LeafFn.meaning c.args.self.now store c.args.bytes.now (omega arith) (omega arith))
      (rw (c.literal.ensures, c.pool_len-start.ensures.value, c.self.view_is) refl)
      c.make.result c.make.new.self c.make.ensures.ok c.make.ensures.rope c.make.ensures.held c.make.ensures.err;
  refuses =
      let h = c.args.self.now in
      let t = table_of g.F.LeafFn.meaning h in
      let bytes = c.args.bytes.now in
      one_refuses h (bytes_added t bytes) bytes (literal_record (length h.pool.bytes) (length bytes)) c.literal.result ⊥ (BLOCK_SIZE < length bytes) (some_bytes t bytes (omega arith)) (λ bad. bad) (λ (many : BLOCK_SIZE < length bytes). absurd (omega (arith, many)))
      (omega arith) (rw (c.literal.ensures, c.pool_len-start.ensures.value, c.self.view_is) refl) c.make.result c.make.ensures.table_full c.make.ensures.pool_full c.make.ensures.faults;
}

pub returns-then-count-eq0 : goal.returns-then-count-eq0
returns-then-count-eq0 g c = record {
  makes = makes_no_bytes g.F.LeafFn.meaning c.args.self.now c.args.bytes.now c.if-count-eq0.true;
  refuses = refuses_no_bytes g.F.LeafFn.meaning c.args.self.now (subst (λ k. IsKept g.F.LeafFn.meaning k) c.self.view_is c.self.invariant) c.args.bytes.now c.if-count-eq0.true;
}

pub returns-then-count-gt-BLOCK_SIZE : goal.returns-then-count-gt-BLOCK_SIZE
returns-then-count-gt-BLOCK_SIZE g c = record {
  makes = makes_none g.F.LeafFn.meaning c.args.self.now (bytes_added (table_of g.F.LeafFn.meaning c.args.self.now) c.args.bytes.now) (map Byte c.args.bytes.now) TooLong;
  refuses = refuses_length c.args.self.now (bytes_added (table_of g.F.LeafFn.meaning c.args.self.now) c.args.bytes.now) ⊥ (BLOCK_SIZE < length c.args.bytes.now) (λ bad. bad) c.if-count-gt-BLOCK_SIZE.true;
}
