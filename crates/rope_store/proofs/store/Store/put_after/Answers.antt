use Rattle.std.proofs.Common.{◌≡◌, ◌+◌, ◌-◌, ◌<◌, ◌≤◌, List, [], ◌∷◌, ◌++◌, length, map, take, drop, Option, Some, None, refl, sym, ap, subst, ◌∙◌, arith, length-append, length-take, rules}
use Rattle.rope_node.specs.declared.node.NodeId.{NodeId}
use Rattle.rope_node.specs.Table.{len_at, depth_at}
use Rattle.rope_node.specs.Denotes.{Cell, Byte, IsRope, rope_cells, rope_len, rope_depth}
use Rattle.node_table.specs.Held.{table_of, CanHold, with_records}
use Rattle.std.specs.Prelude.{◌↔◌, OnOk, IsErrOf}
use Rattle.std.proofs.lemmas.List.{take-append-drop}
use Rattle.leaf_buffer.specs.declared.pool.TheConstants.{POOL_LIMIT}
use Rattle.rope_node.specs.declared.limits.TheConstants.{MOST_NODES, TEXT_LIMIT}
use Rattle.node_table.specs.declared.fault.NodeFault.TheVariants.{PoolFull}
use Rattle.leaf_buffer.specs.Contents.{appended}
use Rattle.node_table.specs.Held.{IsKept}
use Rattle.node_table.specs.Records.{literal_record}
use Rattle.rope_store.specs.Additions.{Addition}
use Rattle.rope_store.specs.Appending.{merged_after}
use Rattle.rope_store.proofs.Made.{put_makes, put_refuses, makes_as, refuses_as}
use Rattle.rope_store.proofs.GrownTexts.{after_good, after_pair, after_three}
use Rattle.rope_store.proofs.store.Store.put_after.Goals as goal

pub make-requires-clause-nodes : goal.make-requires-clause-nodes
make-requires-clause-nodes g c =
    let xs = take c.args.first c.args.all.now in
    let ys = drop c.args.first c.args.all.now in
    let is : c.args.all.now ≡ xs ++ ys = sym (take-append-drop c.args.first c.args.all.now) in
    let len : length xs ≡ c.args.first = omega (arith, length-take c.args.first c.args.all.now) in
    let h = c.args.self.now in
    let t = table_of g.F.LeafFn.meaning h in
    let store = subst (λ k. IsKept g.F.LeafFn.meaning k) c.self.view_is c.self.invariant in
    let start : c.pool_len-start.result ≡ length t.pool = rw c.self.view_is at c.pool_len-start.ensures.value in
    let count : length c.args.all.now - c.args.first ≡ length ys = omega (arith, ap length is, length-append xs ys) in
    let size = ap length is ∙ length-append xs ys in
    let short = subst (λ b. rope_len t b + (length c.args.all.now - c.args.first) < TEXT_LIMIT) c.in-None.is c.requires.short in
    let good = after_good g.F.LeafFn.meaning h store None xs ys tt (omega (arith, len)) (omega (arith, size, len)) (omega (arith, size)) (omega (arith, short, count)) (omega arith) in
    let same = after_pair t c.args.first (length c.args.all.now - c.args.first) (length xs) (length ys) c.literal-one.result c.literal-two.result c.literal-one.ensures c.literal-two.ensures start (sym len) count in
    rw same (subst (λ bs. CanHold g.F.LeafFn.meaning h (appended h.pool bs) (literal_record (length t.pool) (length xs) ∷ literal_record (length t.pool + length xs) (length ys) ∷ [])) (sym is) good.can)

pub make-requires-in-Some-clause-nodes : goal.make-requires-in-Some-clause-nodes
make-requires-in-Some-clause-nodes g c =
    let xs = take c.args.first c.args.all.now in
    let ys = drop c.args.first c.args.all.now in
    let is : c.args.all.now ≡ xs ++ ys = sym (take-append-drop c.args.first c.args.all.now) in
    let len : length xs ≡ c.args.first = omega (arith, length-take c.args.first c.args.all.now) in
    let h = c.args.self.now in
    let t = table_of g.F.LeafFn.meaning h in
    let store = subst (λ k. IsKept g.F.LeafFn.meaning k) c.self.view_is c.self.invariant in
    let start : c.pool_len-start.result ≡ length t.pool = rw c.self.view_is at c.pool_len-start.ensures.value in
    let count : length c.args.all.now - c.args.first ≡ length ys = omega (arith, ap length is, length-append xs ys) in
    let size = ap length is ∙ length-append xs ys in
    let l = c.in-Some.l in
    let there = subst (λ b. IsRope t b) c.in-Some.is c.requires.before in
    let short = subst (λ b. rope_len t b + (length c.args.all.now - c.args.first) < TEXT_LIMIT) c.in-Some.is c.requires.short in
    let shallow = subst (λ b. 1 + rope_depth t b ≤ 64) c.in-Some.is c.requires.shallow in
    let last : c.count.result ≡ length t.nodes = rw c.self.view_is at c.count.ensures.count in
    let llen : c.len.result ≡ len_at t l.0 = rw c.self.view_is at c.len.ensures.value in
    let depth : c.depth-depth.result ≡ depth_at t l.0 = rw c.self.view_is at c.depth-depth.ensures.value in
    let good = after_good g.F.LeafFn.meaning h store (Some l) xs ys there (omega (arith, len)) (omega (arith, size, len)) (omega (arith, size)) (omega (arith, short, count)) shallow in
    let same = after_three t l c.args.first (length c.args.all.now - c.args.first) (length xs) (length ys) (c.count.result + 1) c.len.result c.depth-depth.result c.literal-one.result c.literal-two.result c.concatenation.result c.literal-one.ensures c.literal-two.ensures c.concatenation.ensures start (sym len) count (ap (λ n. n + 1) last) llen depth in
    let whole : (b : Option NodeId) → Addition g.row.F.Denot = λ b. merged_after t b xs ys in
    rw same (subst (λ bs. CanHold g.F.LeafFn.meaning h (appended h.pool bs) (whole (Some l)).records) (sym is) good.can)

pub returns-in-None : goal.returns-in-None
returns-in-None g c = record {
  makes =
      λ xs ys is len.
      let h = c.args.self.now in
      let t = table_of g.F.LeafFn.meaning h in
      let store = subst (λ k. IsKept g.F.LeafFn.meaning k) c.self.view_is c.self.invariant in
      let start : c.pool_len-start.result ≡ length t.pool = rw c.self.view_is at c.pool_len-start.ensures.value in
      let count : length c.args.all.now - c.args.first ≡ length ys = omega (arith, ap length is, length-append xs ys) in
      let size = ap length is ∙ length-append xs ys in
      let short = subst (λ b. rope_len t b + (length c.args.all.now - c.args.first) < TEXT_LIMIT) c.in-None.is c.requires.short in
      let good = after_good g.F.LeafFn.meaning h store None xs ys tt (omega (arith, len)) (omega (arith, size, len)) (omega (arith, size)) (omega (arith, short, count)) (omega arith) in
      let same = after_pair t c.args.first (length c.args.all.now - c.args.first) (length xs) (length ys) c.literal-one.result c.literal-two.result c.literal-one.ensures c.literal-two.ensures start (sym len) count in
      let whole : (b : Option NodeId) → Addition g.row.F.Denot = λ b. merged_after t b xs ys in
      let read : (b : Option NodeId) → List Cell = λ b. rope_cells t b ++ map Byte ys in
      makes_as (ap whole c.in-None.is) (ap read (sym c.in-None.is))
      (put_makes g.F.LeafFn.meaning h (whole None) (read None) (xs ++ ys) (whole None).records (c.literal-one.result ∷ c.literal-two.result ∷ []) store refl good same
      c.make.result c.make.new.self (subst (λ bs. OnOk c.make.result (c.make.new.self ≡ with_records h (appended h.pool bs) (c.literal-one.result ∷ c.literal-two.result ∷ []))) is c.make.ensures.ok) c.make.ensures.rope c.make.ensures.held c.make.ensures.err);
  refuses = search rules;
}

pub returns-in-Some : goal.returns-in-Some
returns-in-Some g c = record {
  makes =
      λ xs ys is len.
      let h = c.args.self.now in
      let t = table_of g.F.LeafFn.meaning h in
      let store = subst (λ k. IsKept g.F.LeafFn.meaning k) c.self.view_is c.self.invariant in
      let start : c.pool_len-start.result ≡ length t.pool = rw c.self.view_is at c.pool_len-start.ensures.value in
      let count : length c.args.all.now - c.args.first ≡ length ys = omega (arith, ap length is, length-append xs ys) in
      let size = ap length is ∙ length-append xs ys in
      let l = c.in-Some.l in
      let there = subst (λ b. IsRope t b) c.in-Some.is c.requires.before in
      let short = subst (λ b. rope_len t b + (length c.args.all.now - c.args.first) < TEXT_LIMIT) c.in-Some.is c.requires.short in
      let shallow = subst (λ b. 1 + rope_depth t b ≤ 64) c.in-Some.is c.requires.shallow in
      let last : c.count.result ≡ length t.nodes = rw c.self.view_is at c.count.ensures.count in
      let llen : c.len.result ≡ len_at t l.0 = rw c.self.view_is at c.len.ensures.value in
      let depth : c.depth-depth.result ≡ depth_at t l.0 = rw c.self.view_is at c.depth-depth.ensures.value in
      let good = after_good g.F.LeafFn.meaning h store (Some l) xs ys there (omega (arith, len)) (omega (arith, size, len)) (omega (arith, size)) (omega (arith, short, count)) shallow in
      let same = after_three t l c.args.first (length c.args.all.now - c.args.first) (length xs) (length ys) (c.count.result + 1) c.len.result c.depth-depth.result c.literal-one.result c.literal-two.result c.concatenation.result c.literal-one.ensures c.literal-two.ensures c.concatenation.ensures start (sym len) count (ap (λ n. n + 1) last) llen depth in
      let whole : (b : Option NodeId) → Addition g.row.F.Denot = λ b. merged_after t b xs ys in
      let read : (b : Option NodeId) → List Cell = λ b. rope_cells t b ++ map Byte ys in
      makes_as (ap whole c.in-Some.is) (ap read (sym c.in-Some.is))
      (put_makes g.F.LeafFn.meaning h (whole (Some l)) (read (Some l)) (xs ++ ys) (whole (Some l)).records (c.literal-one.result ∷ c.literal-two.result ∷ c.concatenation.result ∷ []) store refl good same
      c.make-in-Some.result c.make-in-Some.new.self (subst (λ bs. OnOk c.make-in-Some.result (c.make-in-Some.new.self ≡ with_records h (appended h.pool bs) (c.literal-one.result ∷ c.literal-two.result ∷ c.concatenation.result ∷ []))) is c.make-in-Some.ensures.ok) c.make-in-Some.ensures.rope c.make-in-Some.ensures.held c.make-in-Some.ensures.err);
  refuses =
      λ xs ys is len.
      let h = c.args.self.now in
      let t = table_of g.F.LeafFn.meaning h in
      let store = subst (λ k. IsKept g.F.LeafFn.meaning k) c.self.view_is c.self.invariant in
      let start : c.pool_len-start.result ≡ length t.pool = rw c.self.view_is at c.pool_len-start.ensures.value in
      let count : length c.args.all.now - c.args.first ≡ length ys = omega (arith, ap length is, length-append xs ys) in
      let size = ap length is ∙ length-append xs ys in
      let l = c.in-Some.l in
      let there = subst (λ b. IsRope t b) c.in-Some.is c.requires.before in
      let short = subst (λ b. rope_len t b + (length c.args.all.now - c.args.first) < TEXT_LIMIT) c.in-Some.is c.requires.short in
      let shallow = subst (λ b. 1 + rope_depth t b ≤ 64) c.in-Some.is c.requires.shallow in
      let last : c.count.result ≡ length t.nodes = rw c.self.view_is at c.count.ensures.count in
      let llen : c.len.result ≡ len_at t l.0 = rw c.self.view_is at c.len.ensures.value in
      let depth : c.depth-depth.result ≡ depth_at t l.0 = rw c.self.view_is at c.depth-depth.ensures.value in
      let good = after_good g.F.LeafFn.meaning h store (Some l) xs ys there (omega (arith, len)) (omega (arith, size, len)) (omega (arith, size)) (omega (arith, short, count)) shallow in
      let same = after_three t l c.args.first (length c.args.all.now - c.args.first) (length xs) (length ys) (c.count.result + 1) c.len.result c.depth-depth.result c.literal-one.result c.literal-two.result c.concatenation.result c.literal-one.ensures c.literal-two.ensures c.concatenation.ensures start (sym len) count (ap (λ n. n + 1) last) llen depth in
      let whole : (b : Option NodeId) → Addition g.row.F.Denot = λ b. merged_after t b xs ys in
      refuses_as (ap whole c.in-Some.is)
      (put_refuses h (whole (Some l)) (xs ++ ys) (whole (Some l)).records (c.literal-one.result ∷ c.literal-two.result ∷ c.concatenation.result ∷ []) ⊥ ⊥ refl (λ bad. bad) (λ long. long) (omega arith) (omega (arith, shallow)) same
      c.make-in-Some.result c.make-in-Some.ensures.table_full (subst (λ bs. IsErrOf c.make-in-Some.result PoolFull ↔ ((length h.nodes + 3 ≤ MOST_NODES) × (POOL_LIMIT ≤ length h.pool.bytes + length bs))) is c.make-in-Some.ensures.pool_full) c.make-in-Some.ensures.faults);
}
