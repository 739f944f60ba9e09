use Rattle.std.proofs.Common.{take, drop, arith}
use Rattle.std.proofs.lemmas.List.Elements.{All-append}
use Rattle.command_parts.specs.declared.part.Part.TheVariants.{Old}
use Rattle.span_certificate.specs.Covers.{IsByte}
use Rattle.command_parts.specs.Parts.{part_cells}
use Rattle.span_certificate.proofs.OverBytes.{appended_bytes}
use Rattle.span_certificate.proofs.Verdicts.{bytes_compare, joined_compare}
use Rattle.span_certificate.proofs.over_bytes.OverBytesQuestion.ask.Goals as goal

pub returns-then-are_bytes-clause-holds : goal.returns-then-are_bytes-clause-holds
returns-then-are_bytes-clause-holds g c = λ parts are at.
    let t = g.S.CountedSpace.table c.args.space.now in
    let cells = take c.args.row.len (drop c.args.off (part_cells t c.args.part)) in
    let others = take c.args.row.len (drop c.args.place (part_cells t (Old c.args.root 0 c.length.result))) in
    let joined = joined_compare t c.requires.ways.part.sound c.requires.ways.part.true_records parts c.args.root c.args.place c.args.off c.args.part c.args.row are at c.requires.stands.inside_part in
    let compared = bytes_compare t c.args.part c.args.off c.args.root c.args.place c.length.result c.args.row c.in-Bytes.is (omega (arith, c.requires.stands.inside_root, c.length.ensures.exact)) in
    let first = c.are_bytes.ensures.bytes.0 c.if-are_bytes.true in
    let second = c.are_bytes-then-are_bytes.ensures.bytes in
    rw (joined, compared) (λ h. All-append IsByte cells others first (second.0 h), λ all. second.1 (appended_bytes cells others all).1)

pub returns-else-are_bytes-clause-holds : goal.returns-else-are_bytes-clause-holds
returns-else-are_bytes-clause-holds g c = λ parts are at.
    let t = g.S.CountedSpace.table c.args.space.now in
    let cells = take c.args.row.len (drop c.args.off (part_cells t c.args.part)) in
    let others = take c.args.row.len (drop c.args.place (part_cells t (Old c.args.root 0 c.length.result))) in
    let joined = joined_compare t c.requires.ways.part.sound c.requires.ways.part.true_records parts c.args.root c.args.place c.args.off c.args.part c.args.row are at c.requires.stands.inside_part in
    let compared = bytes_compare t c.args.part c.args.off c.args.root c.args.place c.length.result c.args.row c.in-Bytes.is (omega (arith, c.requires.stands.inside_root, c.length.ensures.exact)) in
    rw (joined, compared) (λ h. let no = c.if-are_bytes.false in absurd cc, λ all. c.are_bytes.ensures.bytes.1 (appended_bytes cells others all).0)
