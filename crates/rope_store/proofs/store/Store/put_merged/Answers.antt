use Rattle.std.proofs.Common.{◌≡◌, ◌+◌, ◌<◌, ◌≤◌, List, [], ◌∷◌, ◌++◌, length, map, Option, Some, refl, sym, ap, subst, arith, rules}
use Rattle.rope_node.specs.declared.limits.TheConstants.{TEXT_LIMIT}
use Rattle.rope_node.specs.declared.node.NodeId.{NodeId}
use Rattle.rope_node.specs.Table.{len_at, depth_at}
use Rattle.rope_node.specs.Denotes.{Cell, Byte, IsRope, rope_cells, rope_len, rope_depth}
use Rattle.node_table.specs.Held.{table_of}
use Rattle.node_table.specs.Held.{IsKept}
use Rattle.node_table.specs.Records.{literal_record}
use Rattle.rope_store.specs.Additions.{Addition, one_literal}
use Rattle.rope_store.specs.Joining.{merged}
use Rattle.rope_store.proofs.Made.{put_makes, put_refuses, makes_as, refuses_as}
use Rattle.rope_store.proofs.LeafTexts.{bytes_good}
use Rattle.rope_store.proofs.MergedTexts.{merged_good, two_records}
use Rattle.rope_store.proofs.store.Store.put_merged.Goals as goal

pub make-requires-clause-nodes : goal.make-requires-clause-nodes
make-requires-clause-nodes g c =
    let store = subst (λ k. IsKept g.F.LeafFn.meaning k) c.self.view_is c.self.invariant in
    rw (c.literal.ensures, c.pool_len-start.ensures.value, c.self.view_is) (bytes_good g.F.LeafFn.meaning c.args.self.now store c.args.bytes.now c.requires.some c.requires.fits).can

pub make-requires-in-Some-clause-nodes : goal.make-requires-in-Some-clause-nodes
make-requires-in-Some-clause-nodes g c =
    let h = c.args.self.now in
    let t = table_of g.F.LeafFn.meaning h in
    let l = c.in-Some.l in
    let store = subst (λ k. IsKept g.F.LeafFn.meaning k) c.self.view_is c.self.invariant in
    let there = subst (λ b. IsRope t b) c.in-Some.is c.requires.before in
    let short = subst (λ b. rope_len t b + length c.args.bytes.now < TEXT_LIMIT) c.in-Some.is c.requires.short in
    let shallow = subst (λ b. 1 + rope_depth t b ≤ 64) c.in-Some.is c.requires.shallow in
    let start : c.pool_len-start.result ≡ length t.pool = rw c.self.view_is at c.pool_len-start.ensures.value in
    let first : c.count.result ≡ length t.nodes = rw c.self.view_is at c.count.ensures.count in
    let len : c.len.result ≡ len_at t l.0 = rw c.self.view_is at c.len.ensures.value in
    let depth : c.depth-depth.result ≡ depth_at t l.0 = rw c.self.view_is at c.depth-depth.ensures.value in
    rw (two_records t l c.pool_len-start.result (length c.args.bytes.now) c.count.result c.len.result c.depth-depth.result c.literal-in-Some.result c.concatenation.result c.literal-in-Some.ensures c.concatenation.ensures start first len depth)
    (merged_good g.F.LeafFn.meaning h store (Some l) c.args.bytes.now there c.requires.some c.requires.fits short shallow).can

pub returns-in-None : goal.returns-in-None
returns-in-None g c = record {
  makes =
      let h = c.args.self.now in
      let t = table_of g.F.LeafFn.meaning h in
      let store = subst (λ k. IsKept g.F.LeafFn.meaning k) c.self.view_is c.self.invariant in
      let whole : (b : Option NodeId) → Addition g.row.F.Denot = λ b. merged t b c.args.bytes.now in
      let read : (b : Option NodeId) → List Cell = λ b. rope_cells t b ++ map Byte c.args.bytes.now in
      makes_as (ap whole c.in-None.is) (ap read (sym c.in-None.is))
      (put_makes g.F.LeafFn.meaning h (one_literal t c.args.bytes.now) (map Byte c.args.bytes.now) c.args.bytes.now (literal_record (length h.pool.bytes) (length c.args.bytes.now) ∷ []) (c.literal.result ∷ []) store refl
      (bytes_good g.F.LeafFn.meaning h store c.args.bytes.now c.requires.some c.requires.fits) (rw (c.literal.ensures, c.pool_len-start.ensures.value, c.self.view_is) refl)
      c.make.result c.make.new.self c.make.ensures.ok c.make.ensures.rope c.make.ensures.held c.make.ensures.err);
  refuses = search rules;
}

pub returns-in-Some : goal.returns-in-Some
returns-in-Some g c = record {
  makes =
      let h = c.args.self.now in
      let t = table_of g.F.LeafFn.meaning h in
      let l = c.in-Some.l in
      let store = subst (λ k. IsKept g.F.LeafFn.meaning k) c.self.view_is c.self.invariant in
      let there = subst (λ b. IsRope t b) c.in-Some.is c.requires.before in
      let short = subst (λ b. rope_len t b + length c.args.bytes.now < TEXT_LIMIT) c.in-Some.is c.requires.short in
      let shallow = subst (λ b. 1 + rope_depth t b ≤ 64) c.in-Some.is c.requires.shallow in
      let start : c.pool_len-start.result ≡ length t.pool = rw c.self.view_is at c.pool_len-start.ensures.value in
      let first : c.count.result ≡ length t.nodes = rw c.self.view_is at c.count.ensures.count in
      let len : c.len.result ≡ len_at t l.0 = rw c.self.view_is at c.len.ensures.value in
      let depth : c.depth-depth.result ≡ depth_at t l.0 = rw c.self.view_is at c.depth-depth.ensures.value in
      let whole : (b : Option NodeId) → Addition g.row.F.Denot = λ b. merged t b c.args.bytes.now in
      let read : (b : Option NodeId) → List Cell = λ b. rope_cells t b ++ map Byte c.args.bytes.now in
      makes_as (ap whole c.in-Some.is) (ap read (sym c.in-Some.is))
      (put_makes g.F.LeafFn.meaning h (merged t (Some l) c.args.bytes.now) (rope_cells t (Some l) ++ map Byte c.args.bytes.now) c.args.bytes.now (whole (Some l)).records (c.literal-in-Some.result ∷ c.concatenation.result ∷ []) store refl
      (merged_good g.F.LeafFn.meaning h store (Some l) c.args.bytes.now there c.requires.some c.requires.fits short shallow)
      (two_records t l c.pool_len-start.result (length c.args.bytes.now) c.count.result c.len.result c.depth-depth.result c.literal-in-Some.result c.concatenation.result c.literal-in-Some.ensures c.concatenation.ensures start first len depth)
      c.make-in-Some.result c.make-in-Some.new.self c.make-in-Some.ensures.ok c.make-in-Some.ensures.rope c.make-in-Some.ensures.held c.make-in-Some.ensures.err);
  refuses =
      let h = c.args.self.now in
      let t = table_of g.F.LeafFn.meaning h in
      let l = c.in-Some.l in
      let shallow = subst (λ b. 1 + rope_depth t b ≤ 64) c.in-Some.is c.requires.shallow in
      let start : c.pool_len-start.result ≡ length t.pool = rw c.self.view_is at c.pool_len-start.ensures.value in
      let first : c.count.result ≡ length t.nodes = rw c.self.view_is at c.count.ensures.count in
      let len : c.len.result ≡ len_at t l.0 = rw c.self.view_is at c.len.ensures.value in
      let depth : c.depth-depth.result ≡ depth_at t l.0 = rw c.self.view_is at c.depth-depth.ensures.value in
      let whole : (b : Option NodeId) → Addition g.row.F.Denot = λ b. merged t b c.args.bytes.now in
      refuses_as (ap whole c.in-Some.is)
      (put_refuses h (merged t (Some l) c.args.bytes.now) c.args.bytes.now (whole (Some l)).records (c.literal-in-Some.result ∷ c.concatenation.result ∷ []) ⊥ ⊥ refl (λ bad. bad) (λ long. long) (omega arith) (omega (arith, shallow))
      (two_records t l c.pool_len-start.result (length c.args.bytes.now) c.count.result c.len.result c.depth-depth.result c.literal-in-Some.result c.concatenation.result c.literal-in-Some.ensures c.concatenation.ensures start first len depth)
      c.make-in-Some.result c.make-in-Some.ensures.table_full c.make-in-Some.ensures.pool_full c.make-in-Some.ensures.faults);
}
