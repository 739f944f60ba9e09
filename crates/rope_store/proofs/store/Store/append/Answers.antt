use Rattle.std.proofs.Common.{◌+◌, ◌<◌, ◌≤◌, inl, inr, ⊎_elim, length, None, sym, subst, arith}
use Rattle.leaf_buffer.specs.declared.block.TheConstants.{BLOCK_SIZE}
use Rattle.rope_node.specs.declared.limits.TheConstants.{TEXT_LIMIT}
use Rattle.rope_node.specs.Denotes.{rope_len}
use Rattle.node_table.specs.Held.{table_of}
use Rattle.node_table.specs.Held.{IsKept}
use Rattle.rope_store.specs.Appending.{Appends, AppendsTooLong}
use Rattle.rope_store.proofs.AppendedTexts.{appends_nothing, appends_none, appends_first, appends_node}
use Rattle.rope_store.proofs.store.Store.append.Goals as goal

pub returns-then-count-eq0 : goal.returns-then-count-eq0
returns-then-count-eq0 g c =
    let store = subst (λ k. IsKept g.F.LeafFn.meaning k) c.self.view_is c.self.invariant in
    appends_nothing g.F.LeafFn.meaning c.args.self.now store c.args.x c.args.bytes.now c.requires (omega (arith, c.len-before.ensures.exact, c.len-before.ensures.limit)) (omega arith)

pub returns-then-count-gt-BLOCK_SIZE : goal.returns-then-count-gt-BLOCK_SIZE
returns-then-count-gt-BLOCK_SIZE g c = appends_none g.F.LeafFn.meaning c.args.self.now c.args.x c.args.bytes.now (inl (omega arith))

pub returns-in-None : goal.returns-in-None
returns-in-None g c =
    let t = table_of g.F.LeafFn.meaning c.args.self.now in
    let bytes = c.args.bytes.now in
    let fits : length bytes ≤ BLOCK_SIZE = omega arith in
    let short : length bytes < TEXT_LIMIT = omega (arith, fits) in
    let fine : ¬ AppendsTooLong t None bytes = λ long. ⊎_elim (λ (many : BLOCK_SIZE < length bytes). absurd (omega (arith, many, fits))) (λ (far : TEXT_LIMIT ≤ 0 + length bytes). absurd (omega (arith, far, short))) long in
    subst (λ x. Appends g.F.LeafFn.meaning c.args.self.now x bytes c.put_merged.result c.put_merged.new.self) (sym c.in-None.is)
    (appends_first g.F.LeafFn.meaning c.args.self.now bytes c.put_merged.result c.put_merged.new.self (omega arith) fine c.put_merged.ensures.makes c.put_merged.ensures.refuses)

pub returns-in-Some : goal.returns-in-Some
returns-in-Some g c =
    let t = table_of g.F.LeafFn.meaning c.args.self.now in
    let bytes = c.args.bytes.now in
    let fits : length bytes ≤ BLOCK_SIZE = omega arith in
    let short : rope_len t c.args.x + length bytes < TEXT_LIMIT = omega (arith, c.len-before.ensures.exact) in
    let fine : ¬ AppendsTooLong t c.args.x bytes = λ long. ⊎_elim (λ (many : BLOCK_SIZE < length bytes). absurd (omega (arith, many, fits))) (λ (far : TEXT_LIMIT ≤ rope_len t c.args.x + length bytes). absurd (omega (arith, far, short))) long in
    subst (λ x. Appends g.F.LeafFn.meaning c.args.self.now x bytes c.append_to.result c.append_to.new.self) (sym c.in-Some.is)
    (appends_node g.F.LeafFn.meaning c.args.self.now c.in-Some.node bytes c.append_to.result c.append_to.new.self (omega arith) (subst (λ x. ¬ AppendsTooLong t x bytes) c.in-Some.is fine) c.append_to.ensures)

pub returns-then-before-count-ge-TEXT_LIMIT : goal.returns-then-before-count-ge-TEXT_LIMIT
returns-then-before-count-ge-TEXT_LIMIT g c =
    let far : TEXT_LIMIT ≤ rope_len (table_of g.F.LeafFn.meaning c.args.self.now) c.args.x + length c.args.bytes.now = omega (arith, c.len-before.ensures.exact) in
    appends_none g.F.LeafFn.meaning c.args.self.now c.args.x c.args.bytes.now (inr far)
