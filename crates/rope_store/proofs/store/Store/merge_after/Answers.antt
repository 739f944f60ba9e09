use Rattle.std.proofs.Common.{◌≡◌, ◌+◌, ◌≤◌, ◌++◌, length, take, refl, sym, subst}
use Rattle.rope_node.specs.Table.{len_at}
use Rattle.rope_node.specs.Denotes.{rope_len}
use Rattle.node_table.specs.Held.{table_of}
use Rattle.node_table.specs.Held.{IsKept}
use Rattle.rope_store.specs.Joining.{piece}
use Rattle.rope_store.proofs.Growth.{holds_of, sound_of}
use Rattle.rope_store.proofs.Made.{makes_as}
use Rattle.rope_store.proofs.LastLiterals.{appended_text}
use Rattle.rope_store.proofs.ShortPieces.{literal_size, fits_short, taken_inside, twice_size, twice_are, twice_fits, twice_more, twice_short, twice_behind}
use Rattle.rope_store.proofs.store.Store.merge_after.Goals as goal
use Rattle.rope_store.proofs.store.Store.merge_after.Goals.{After-literal-piece, After-twice-all}

-- the piece is as long as its node says
count : (g : _) (c : After-literal-piece g) → length c.literal-piece.result.now ≡ len_at (table_of g.F.LeafFn.meaning c.args.self.now) c.args.ending.literal.0
count g c =
    let store = subst (λ k. IsKept g.F.LeafFn.meaning k) c.self.view_is c.self.invariant in
    literal_size g.F.LeafFn.meaning c.args.self.now store c.args.ending.literal c.literal-piece.result.now c.requires.ending.there c.requires.ending.is_literal (rw c.self.view_is at c.literal-piece.ensures)

short : (g : _) (c : After-literal-piece g) → length c.literal-piece.result.now + length c.args.bytes.now ≤ 31
short g c = rw (count g c) c.requires.ending.short

size : (g : _) (c : After-twice-all g) → length (take (length c.args.bytes.now + (length c.literal-piece.result.now + length c.args.bytes.now)) c.twice-all.result) ≡ length c.args.bytes.now + (length c.literal-piece.result.now + length c.args.bytes.now)
size g c = twice_size c.args.bytes.now c.literal-piece.result.now (take (length c.args.bytes.now + (length c.literal-piece.result.now + length c.args.bytes.now)) c.twice-all.result) c.twice-all.ensures

all_are : (g : _) (c : After-twice-all g) → take (length c.args.bytes.now + (length c.literal-piece.result.now + length c.args.bytes.now)) c.twice-all.result ≡ c.args.bytes.now ++ (piece (table_of g.F.LeafFn.meaning c.args.self.now) c.args.ending.literal ++ c.args.bytes.now)
all_are g c =
    twice_are c.args.bytes.now c.literal-piece.result.now (piece (table_of g.F.LeafFn.meaning c.args.self.now) c.args.ending.literal) (take (length c.args.bytes.now + (length c.literal-piece.result.now + length c.args.bytes.now)) c.twice-all.result)
    c.twice-all.ensures (rw c.self.view_is at c.literal-piece.ensures)

pub overflow_add-second : goal.overflow_add-second
overflow_add-second g c = fits_short (length c.literal-piece.result.now + length c.args.bytes.now) (short g c)

pub twice-all-requires : goal.twice-all-requires
twice-all-requires g c = short g c

pub overflow_add-all : goal.overflow_add-all
overflow_add-all g c = twice_fits (length c.args.bytes.now) (length c.literal-piece.result.now) (short g (goal.at.overflow_add-all g c).After-literal-piece)

pub slice_bounds-all-end : goal.slice_bounds-all-end
slice_bounds-all-end g c = taken_inside (length c.args.bytes.now + (length c.literal-piece.result.now + length c.args.bytes.now)) c.twice-all.result (size g (goal.at.slice_bounds-all-end g c).After-twice-all)

pub slice_bounds-put_after-end : goal.slice_bounds-put_after-end
slice_bounds-put_after-end g c = sym (size g (goal.at.slice_bounds-put_after-end g c).After-twice-all)

pub put_after-requires : goal.put_after-requires
put_after-requires g c =
    let t = table_of g.F.LeafFn.meaning c.args.self.now in
    let bytes = length c.args.bytes.now in
    let piece = length c.literal-piece.result.now in
    let many = length (take (bytes + (piece + bytes)) c.twice-all.result) in
    let at = goal.at.put_after-requires g c in
    let is = size g at.After-twice-all in
    let le = short g at.After-literal-piece in
    let len : len_at t c.args.x.0 ≡ rope_len t c.args.ending.before + piece = rw (count g at.After-literal-piece) c.requires.ending.len in
    record {
      before = c.requires.ending.is_before;
      some = c.requires.some;
      more = twice_more bytes piece many is c.requires.some;
      fits = twice_short bytes piece many is le;
      short = twice_behind bytes piece many (rope_len t c.args.ending.before) (len_at t c.args.x.0) is len c.requires.short;
      shallow = c.requires.ending.shallow;
    }

pub returns : goal.returns
returns g c = record {
  makes =
      let h = c.args.self.now in
      let t = table_of g.F.LeafFn.meaning h in
      let bytes = c.args.bytes.now in
      let store = subst (λ k. IsKept g.F.LeafFn.meaning k) c.self.view_is c.self.invariant in
      let sound = sound_of g.F.LeafFn.meaning h (holds_of g.F.LeafFn.meaning h store) store.pool in
      makes_as refl (appended_text t sound c.args.x (length bytes) c.args.ending bytes c.requires.ending)
      (c.put_after.ensures.makes bytes (piece t c.args.ending.literal ++ bytes) (all_are g (goal.at.returns g c).After-twice-all) refl);
  refuses = c.put_after.ensures.refuses c.args.bytes.now (piece (table_of g.F.LeafFn.meaning c.args.self.now) c.args.ending.literal ++ c.args.bytes.now) (all_are g (goal.at.returns g c).After-twice-all) refl;
}
