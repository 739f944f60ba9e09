use Rattle.std.proofs.Common.{◌≡◌, ℕ, ◌+◌, ◌<◌, List, [], ◌∷◌, ◌++◌, length, Option, sym, ap, ◌∙◌, subst, arith}
use Rattle.std.proofs.lemmas.List.{length-append}
use Rattle.rope_node.specs.declared.node.NodeId.{NodeId}
use Rattle.image_reader.specs.Value.{ImageValue}
use Rattle.byte_origins.specs.Origins.{origins_at}
use Rattle.byte_origins.specs.OriginTexts.{OriginTexts, KeepsTexts, Names, NameTexts}
use Rattle.byte_origins.proofs.Weaving.{texts_kept, texts_more}
use Rattle.byte_origins.proofs.ropes.extend.Goals as goal

-- a rope more
more : (v : ImageValue) (x y : OriginTexts) (roots after : List (Option NodeId)) (rope : Option NodeId) (k : ℕ) → KeepsTexts x y → NameTexts v x roots → length roots ≡ k → k < length v.revisions → Names y rope (origins_at v k) → after ≡ roots ++ rope ∷ [] → NameTexts v y after
more v x y roots after rope k kept names long there names_k same =
    subst (NameTexts v y) (sym same)
    (texts_more v x y roots rope kept names (subst (λ (n : ℕ). n < length v.revisions) (sym long) there) (subst (λ (n : ℕ). Names y rope (origins_at v n)) (sym long) names_k))

pub returns-in_default : goal.returns-in_default
returns-in_default c = texts_kept c.args.image.now c.loop-k.texts c.text.new.texts c.loop-k.roots.items c.text.ensures.further c.loop-k.invariant.0

pub returns-in_default-push : goal.returns-in_default-push
returns-in_default-push c =
    rw c.in_default-push.ensures.items (texts_kept c.args.image.now c.loop-k.texts c.text.new.texts c.loop-k.roots.items c.text.ensures.further c.loop-k.invariant.0)

pub loop-k-preserved : goal.loop-k-preserved
loop-k-preserved c =
    let roots = c.loop-k.roots.items in
    let long : length (roots ++ c.in-Some.rope ∷ []) ≡ c.loop-k.k + 1 = length-append roots (c.in-Some.rope ∷ []) ∙ ap (λ (n : ℕ). n + 1) c.loop-k.invariant.1 in (
      more c.args.image.now c.loop-k.texts c.text.new.texts roots c.push.new.self.items c.in-Some.rope c.loop-k.k c.text.ensures.further c.loop-k.invariant.0 c.loop-k.invariant.1 (omega (arith, c.loop-k-test.true, c.requires.there)) c.in-Some.ensures.text c.in-Ok.ensures.items,
      ap (λ (l : List (Option NodeId)). length l) c.in-Ok.ensures.items ∙ long,
      c.next_start-first.ensures,
    )
