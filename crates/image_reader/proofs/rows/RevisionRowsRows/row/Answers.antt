use Rattle.std.proofs.Common.{◌∙◌, ◌<◌, arith}
use Rattle.image_reader.proofs.RowSpans.{slice_get-span, length-span}
use Rattle.image_reader.proofs.rows.RevisionRowsRows.row.Goals as goal

pub returns : goal.returns
returns c =
    let r = c.args.self.now in
    let lt : c.args.j < r.count = omega (arith, length-span r.count r.from r.image.now.rows r.inside, c.requires) in
    slice_get-span r.count r.from c.args.j r.image.now.rows lt ∙ c.row.ensures
