use Rattle.std.proofs.Common.{◌≡◌, ◌+◌, ◌<◌, ◌≤◌, List, [], ◌∷◌, ◌++◌, length, map, Option, Some, None, refl, sym, ap, subst, arith}
use Rattle.rope_node.specs.declared.limits.TheConstants.{TEXT_LIMIT}
use Rattle.leaf_buffer.specs.declared.piece.Piece.{Piece}
use Rattle.rope_node.specs.declared.node.NodeId.{NodeId}
use Rattle.rope_node.specs.Table.{len_at, depth_at, view_at}
use Rattle.rope_node.specs.Denotes.{Cell, Byte, IsRope, rope_cells, rope_len, rope_depth}
use Rattle.node_table.specs.Held.{table_of}
use Rattle.node_table.specs.Held.{IsKept}
use Rattle.node_table.specs.Records.{literal_record, concatenation_record}
use Rattle.rope_store.specs.Additions.{Addition, new_node}
use Rattle.rope_store.specs.Joining.{piece}
use Rattle.rope_store.specs.Appending.{grown, literal_place}
use Rattle.rope_store.proofs.Made.{grown_makes, makes_as, refuses_as, grown_leaf_refuses, grown_pair_refuses}
use Rattle.rope_store.proofs.GrownTexts.{grown_good, grown_one, grown_two}
use Rattle.rope_store.proofs.store.Store.grow.Goals as goal

pub make_grown-requires-clause-nodes : goal.make_grown-requires-clause-nodes
make_grown-requires-clause-nodes g c =
    let h = c.args.self.now in
    let t = table_of g.F.LeafFn.meaning h in
    let store = subst (λ k. IsKept g.F.LeafFn.meaning k) c.self.view_is c.self.invariant in
    let x = c.args.ending.literal in
    let short = subst (λ b. rope_len t b + (len_at t x.0 + length c.args.bytes.now) < TEXT_LIMIT) c.in-None.is c.requires.short in
    rw (grown_one t x c.args.bytes.now c.literal-longer.result c.literal-longer.ensures (ap (λ (p : Piece). p.start) c.requires.piece) (ap (λ (p : Piece). p.len) c.requires.piece))
    (grown_good g.F.LeafFn.meaning h store None x c.args.bytes.now c.requires.literal c.requires.grows.0 tt short (omega arith)).can

pub make_grown-requires-in-Some-clause-nodes : goal.make_grown-requires-in-Some-clause-nodes
make_grown-requires-in-Some-clause-nodes g c =
    let h = c.args.self.now in
    let t = table_of g.F.LeafFn.meaning h in
    let store = subst (λ k. IsKept g.F.LeafFn.meaning k) c.self.view_is c.self.invariant in
    let x = c.args.ending.literal in
    let l = c.in-Some.l in
    let there = subst (λ b. IsRope t b) c.in-Some.is c.requires.before in
    let short = subst (λ b. rope_len t b + (len_at t x.0 + length c.args.bytes.now) < TEXT_LIMIT) c.in-Some.is c.requires.short in
    let shallow = subst (λ b. 1 + rope_depth t b ≤ 64) c.in-Some.is c.requires.shallow in
    let first : c.count.result ≡ length t.nodes = rw c.self.view_is at c.count.ensures.count in
    let len : c.len.result ≡ len_at t l.0 = rw c.self.view_is at c.len.ensures.value in
    let depth : c.depth-depth.result ≡ depth_at t l.0 = rw c.self.view_is at c.depth-depth.ensures.value in
    let same = grown_two t x l c.args.bytes.now c.count.result c.len.result c.depth-depth.result c.literal-longer.result c.concatenation.result c.literal-longer.ensures c.concatenation.ensures (ap (λ (p : Piece). p.start) c.requires.piece) (ap (λ (p : Piece). p.len) c.requires.piece) first len depth in
    rw same (grown_good g.F.LeafFn.meaning h store (Some l) x c.args.bytes.now c.requires.literal c.requires.grows.0 there short shallow).can

pub returns-in-None : goal.returns-in-None
returns-in-None g c = record {
  makes =
      let h = c.args.self.now in
      let t = table_of g.F.LeafFn.meaning h in
      let store = subst (λ k. IsKept g.F.LeafFn.meaning k) c.self.view_is c.self.invariant in
      let x = c.args.ending.literal in
      let short = subst (λ b. rope_len t b + (len_at t x.0 + length c.args.bytes.now) < TEXT_LIMIT) c.in-None.is c.requires.short in
      let whole : (b : Option NodeId) → Addition g.row.F.Denot = λ b. grown t b (literal_place (view_at t x.0)) (len_at t x.0) c.args.bytes.now in
      let read : (b : Option NodeId) → List Cell = λ b. rope_cells t b ++ map Byte (piece t x ++ c.args.bytes.now) in
      makes_as (ap whole c.in-None.is) (ap read (sym c.in-None.is))
      (grown_makes g.F.LeafFn.meaning h (whole None) (read None) c.args.bytes.now (whole None).records (c.literal-longer.result ∷ []) store refl
      (grown_good g.F.LeafFn.meaning h store None x c.args.bytes.now c.requires.literal c.requires.grows.0 tt short (omega arith))
      (grown_one t x c.args.bytes.now c.literal-longer.result c.literal-longer.ensures (ap (λ (p : Piece). p.start) c.requires.piece) (ap (λ (p : Piece). p.len) c.requires.piece))
      c.make_grown.result c.make_grown.new.self c.make_grown.ensures.ok c.make_grown.ensures.rope c.make_grown.ensures.held c.make_grown.ensures.err);
  refuses =
      let h = c.args.self.now in
      let t = table_of g.F.LeafFn.meaning h in
      let x = c.args.ending.literal in
      let bytes = c.args.bytes.now in
      let whole : (b : Option NodeId) → Addition g.row.F.Denot = λ b. grown t b (literal_place (view_at t x.0)) (len_at t x.0) bytes in
      refuses_as (ap whole c.in-None.is)
      (grown_leaf_refuses h (whole None) bytes (literal_record (literal_place (view_at t x.0)) (len_at t x.0 + length bytes)) c.literal-longer.result refl refl c.requires.grows.1.limit
      (grown_one t x bytes c.literal-longer.result c.literal-longer.ensures (ap (λ (p : Piece). p.start) c.requires.piece) (ap (λ (p : Piece). p.len) c.requires.piece)) c.make_grown.result c.make_grown.ensures.table_full c.make_grown.ensures.faults);
}

pub returns-in-Some : goal.returns-in-Some
returns-in-Some g c = record {
  makes =
      let h = c.args.self.now in
      let t = table_of g.F.LeafFn.meaning h in
      let store = subst (λ k. IsKept g.F.LeafFn.meaning k) c.self.view_is c.self.invariant in
      let x = c.args.ending.literal in
      let l = c.in-Some.l in
      let there = subst (λ b. IsRope t b) c.in-Some.is c.requires.before in
      let short = subst (λ b. rope_len t b + (len_at t x.0 + length c.args.bytes.now) < TEXT_LIMIT) c.in-Some.is c.requires.short in
      let shallow = subst (λ b. 1 + rope_depth t b ≤ 64) c.in-Some.is c.requires.shallow in
      let first : c.count.result ≡ length t.nodes = rw c.self.view_is at c.count.ensures.count in
      let len : c.len.result ≡ len_at t l.0 = rw c.self.view_is at c.len.ensures.value in
      let depth : c.depth-depth.result ≡ depth_at t l.0 = rw c.self.view_is at c.depth-depth.ensures.value in
      let same = grown_two t x l c.args.bytes.now c.count.result c.len.result c.depth-depth.result c.literal-longer.result c.concatenation.result c.literal-longer.ensures c.concatenation.ensures (ap (λ (p : Piece). p.start) c.requires.piece) (ap (λ (p : Piece). p.len) c.requires.piece) first len depth in
      let whole : (b : Option NodeId) → Addition g.row.F.Denot = λ b. grown t b (literal_place (view_at t x.0)) (len_at t x.0) c.args.bytes.now in
      let read : (b : Option NodeId) → List Cell = λ b. rope_cells t b ++ map Byte (piece t x ++ c.args.bytes.now) in
      makes_as (ap whole c.in-Some.is) (ap read (sym c.in-Some.is))
      (grown_makes g.F.LeafFn.meaning h (whole (Some l)) (read (Some l)) c.args.bytes.now (whole (Some l)).records (c.literal-longer.result ∷ c.concatenation.result ∷ []) store refl
      (grown_good g.F.LeafFn.meaning h store (Some l) x c.args.bytes.now c.requires.literal c.requires.grows.0 there short shallow) same
      c.make_grown-in-Some.result c.make_grown-in-Some.new.self c.make_grown-in-Some.ensures.ok c.make_grown-in-Some.ensures.rope c.make_grown-in-Some.ensures.held c.make_grown-in-Some.ensures.err);
  refuses =
      let h = c.args.self.now in
      let t = table_of g.F.LeafFn.meaning h in
      let x = c.args.ending.literal in
      let l = c.in-Some.l in
      let bytes = c.args.bytes.now in
      let shallow = subst (λ b. 1 + rope_depth t b ≤ 64) c.in-Some.is c.requires.shallow in
      let first : c.count.result ≡ length t.nodes = rw c.self.view_is at c.count.ensures.count in
      let len : c.len.result ≡ len_at t l.0 = rw c.self.view_is at c.len.ensures.value in
      let depth : c.depth-depth.result ≡ depth_at t l.0 = rw c.self.view_is at c.depth-depth.ensures.value in
      let same = grown_two t x l bytes c.count.result c.len.result c.depth-depth.result c.literal-longer.result c.concatenation.result c.literal-longer.ensures c.concatenation.ensures (ap (λ (p : Piece). p.start) c.requires.piece) (ap (λ (p : Piece). p.len) c.requires.piece) first len depth in
      let whole : (b : Option NodeId) → Addition g.row.F.Denot = λ b. grown t b (literal_place (view_at t x.0)) (len_at t x.0) bytes in
      refuses_as (ap whole c.in-Some.is)
      (grown_pair_refuses h (whole (Some l)) bytes (literal_record (literal_place (view_at t x.0)) (len_at t x.0 + length bytes)) (concatenation_record l (new_node t 0) (len_at t l.0 + (len_at t x.0 + length bytes)) (1 + depth_at t l.0)) c.literal-longer.result c.concatenation.result
      refl refl shallow c.requires.grows.1.limit same c.make_grown-in-Some.result c.make_grown-in-Some.ensures.table_full c.make_grown-in-Some.ensures.faults);
}
