use Rattle.std.proofs.Common.{ap, ◌∙◌}
use Rattle.rope_node.specs.Table.{Table}
use Rattle.rope_node.specs.Denotes.{rope_len}
use Rattle.image_reader.specs.Value.{image_table}
use Rattle.byte_origins.proofs.texts.len_of_text.Goals as goal

pub rope_len-requires : goal.rope_len-requires
rope_len-requires g c = rw (c.space.ensures, c.root_of.ensures) (c.revision_count-count.ensures.true_records.roots c.args.r c.requires)

pub returns-clause-value : goal.returns-clause-value
returns-clause-value g c =
    c.rope_len.ensures.exact ∙ ap (λ (t : Table). rope_len t c.root_of.result) c.space.ensures ∙ ap (rope_len (image_table (g.H.History.image c.args.history))) c.root_of.ensures
