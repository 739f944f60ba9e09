use Rattle.std.proofs.Common.{◌≡◌, length, refl, sym, ap, ◌∙◌, arith}
use Rattle.rope_node.specs.Denotes.{rope_len}
use Rattle.image_reader.specs.Value.{ImageValue, image_table}
use Rattle.image_reader.specs.Accepted.{revision_at}
use Rattle.byte_origins.specs.Origins.{origins_at}
use Rattle.byte_origins.proofs.Lengths.{as_long}
use Rattle.byte_origins.proofs.Wanted.{wanted_some, wanted_none, wanted_past}
use Rattle.byte_origins.proofs.walking.Runs.of.Goals.{then-start-all+then-count-gt0+in_ok-push, else-start-all, else-start-all-via-then-start-all+else-count-gt0, else-start-all-via-else-start-all}
use Rattle.byte_origins.proofs.walking.Runs.of.Goals as goal

pub returns : goal.returns
returns c =
    let v = c.args.image.now in
    let os = origins_at v c.args.k in
    let all = c.rope_len-all.result in
    let root : c.root.result ≡ (revision_at v c.args.k).root = c.root.ensures ∙ ap (λ (w : ImageValue). (revision_at w c.args.k).root) c.image.ensures in
    let long : length os ≡ all = as_long v c.revisions-count.ensures.true_records c.revisions-count.ensures.true_records.rules c.args.k c.requires ∙ sym (c.rope_len-all.ensures.exact ∙ ap (rope_len (image_table v)) root) in (
      refl,
      elim c.if-start-all.branch [
        | then-start-all+then-count-gt0+in_ok-push w ↦ rw (w.left-is, w.in_ok-push.ensures.items, c.new-left.ensures.items) (wanted_some os all c.args.start c.args.count w.min-len.result long w.min-len.ensures)
        | else-start-all w ↦ elim w.else-start-all.branch [
          | else-start-all-via-then-start-all+else-count-gt0 u ↦ rw (w.left-is, c.new-left.ensures.items) (wanted_none os all c.args.start c.args.count long (omega (arith, u.if-count-gt0.false)))
          | else-start-all-via-else-start-all u ↦ rw (w.left-is, c.new-left.ensures.items) (wanted_past os all c.args.start c.args.count long (omega (arith, u.if-start-all.false)))
        ]
      ],
    )
