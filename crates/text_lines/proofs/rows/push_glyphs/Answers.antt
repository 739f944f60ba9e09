use Rattle.std.proofs.Common.{◌≡◌, ◌++◌, ◌∷◌, [], ℕ, List, map, take, length, if◌then◌else◌, Result, Ok, Err, get_or, sym, ap, subst, ◌∙◌, arith, OnOk, is_ok}
use Rattle.std.proofs.lemmas.List.{length-set, map-append, take_all, take_more, take_more_set}
use Rattle.text_lines.specs.Screen.{glyph}
use Rattle.text_lines.proofs.rows.push_glyphs.Goals as goal

-- what a call appends where it succeeds
when_ok : {E : Type 0} (r : Result (Unit {0}) E) (new longer old : List ℕ) → new ≡ (if is_ok r then longer else old) → OnOk r (new ≡ longer)
when_ok (Ok done) new longer old e = e
when_ok (Err fault) new longer old e = tt

pub loop-k-preserved : goal.loop-k-preserved
loop-k-preserved c =
    let bytes = c.args.bytes.now in
    let k = c.loop-k.k in
    let shown = c.loop-k.shown in
    record {
      room = length-set shown k c.glyph.result ∙ c.loop-k.invariant.room;
      told = take_more_set shown k c.glyph.result (omega (arith, c.loop-k.invariant.room, c.requires, c.loop-k-test.true))
          ∙ ap (λ (xs : List ℕ). xs ++ c.glyph.result ∷ []) c.loop-k.invariant.told
          ∙ ap (λ (b : ℕ). map glyph (take k bytes) ++ b ∷ []) c.glyph.ensures
          ∙ sym (map-append glyph (take k bytes) (get_or bytes k 0 ∷ []))
          ∙ ap (map glyph) (sym (take_more bytes k 0 c.loop-k-test.true));
    }

pub returns : goal.returns
returns c =
    let bytes = c.args.bytes.now in
    let k = c.loop-k.k in
    let end : k ≡ length bytes = omega (arith, c.loop-k-test.false, c.loop-k.auto.k-end) in
    let shown : take (length bytes) c.loop-k.shown ≡ map glyph bytes =
    ap (λ (n : ℕ). take n c.loop-k.shown) (sym end) ∙ c.loop-k.invariant.told ∙ ap (map glyph) (take_all k bytes c.loop-k-test.false) in
    subst (λ (xs : List ℕ). OnOk c.extend_from_slice.result (c.extend_from_slice.new.self.items ≡ c.args.out.now.items ++ xs)) shown (when_ok c.extend_from_slice.result _ _ c.args.out.now.items c.extend_from_slice.ensures.items)
