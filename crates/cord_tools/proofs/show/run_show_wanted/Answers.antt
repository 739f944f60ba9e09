use Rattle.std.proofs.Common.{◌≡◌, ◌<◌, ◌∙◌, Err, arith, length, refl, subst, sym}
use Rattle.std.specs.Io.KnownBytes.{Appends}
use Rattle.std.proofs.lemmas.Result.{err_from_is_err_and}
use Rattle.byte_output.specs.Prefix.{AppendsPrefix}
use Rattle.rope_node.specs.Denotes.{rope_len}
use Rattle.cord_position.specs.Fetched.{InCells, rope_cell}
use Rattle.cord_search.specs.Faults.{put_source_fault}
use Rattle.lazy_file.proofs.LaterReads.{reads_then, same_stated}
use Rattle.lazy_file.specs.SourceTexts.{Stated}
use Rattle.image_reader.specs.Value.{image_table}
use Rattle.cord_tools.specs.Answers.{OfRevision, wanted_in, revision_cells}
use Rattle.session_checker.specs.Accepted.{SpellsFaithful}
use Rattle.cord_tools.specs.Faults.{check_fault, put_fault}
use Rattle.cord_tools.specs.Unread.{ToolReadsCells}
use Rattle.cord_tools.proofs.Bytes.{Keeps-same}
use Rattle.cord_tools.proofs.RevisionCells.{number_is, root_cells, root_told}
use Rattle.cord_tools.proofs.ToolFaults.{check_reads, check_refused, show_stopped, shows_none, text_reads}
use Rattle.cord_tools.proofs.UnreadCells.{among_cells, not_read_at, put_read}
use Rattle.cord_tools.proofs.show.run_show_wanted.Goals as goal

pub returns-in_err-image : goal.returns-in_err-image
returns-in_err-image g c =
    let p = err_from_is_err_and c.from_residual-in_err-image.result c.from_residual-in_err-image.ensures.1 in
    rw (p.1, p.2) (record {
      reads = check_reads (g.S.Sources.reading c.args.sources.now) (g.S.Sources.reading c.check_at_most.new.sources) (g.R.Read.remaining c.args.reader) c.args.wanted c.in_ok-bytes.bytes.items c.in_err-image.field-0.0 c.in_ok-bytes.ensures.ok
          (rw c.deref.ensures.value at c.in_err-image.ensures.reads);
      answer = shows_none c.args.at_most g.S.Sources.reading c.args.sources.now c.check_at_most.new.sources (g.R.Read.remaining c.args.reader)
          (g.W.Write.contents c.args.writer.now) (g.W.Write.contents c.args.writer.now) c.args.wanted (check_fault c.in_err-image.field-0.0)
          (check_refused c.args.at_most g.S.Sources.reading c.args.sources.now c.check_at_most.new.sources (g.R.Read.remaining c.args.reader)
          (g.W.Write.contents c.args.writer.now) c.in_ok-bytes.bytes.items c.in_err-image.field-0.0 c.in_ok-bytes.ensures.ok
          (rw c.deref.ensures.value at c.in_err-image.ensures.refused) (rw c.deref.ensures.value at c.in_err-image.ensures.reads));
    })

pub returns-then-revision-from : goal.returns-then-revision-from
returns-then-revision-from g c = record {
  reads = not_read_at (g.S.Sources.reading c.args.sources.now) (g.S.Sources.reading c.check_at_most.new.sources) _ _ c.in_ok-image.ensures.reads;
  answer = (
    Keeps-same (g.W.Write.contents c.args.writer.now),
    (
      c.in_ok-image.image,
      c.in_ok-bytes.bytes.items,
      c.in_ok-bytes.ensures.ok,
      record {
        accepted = rw c.deref.ensures.value at (c.in_ok-image.ensures.accepted refl);
        image = c.in_ok-image.ensures.image.0;
        spelled = sym c.deref.ensures.value ∙ c.in_ok-image.ensures.image.1;
        sources = c.in_ok-image.ensures.sources;
        faithful = c.in_ok-image.ensures.faithful;
      },
      c.in_ok-image.ensures.within,
      omega (arith, c.if-revision-from.true, c.from.ensures, number_is c.args.wanted c.in_ok-image.image c.number-revision.result c.revisions-count.result c.number-revision.ensures c.revisions-count.ensures.count),
    ),
  );
}

pub returns-in_err-put-in-Some : goal.returns-in_err-put-in-Some
returns-in_err-put-in-Some g c =
    let p = err_from_is_err_and c.from_residual-in_err-put-in-Some.result c.from_residual-in_err-put-in-Some.ensures.1 in
    let old = g.S.Sources.reading c.args.sources.now in
    let mid = g.S.Sources.reading c.check_at_most.new.sources in
    let new = g.S.Sources.reading c.put.new.sources in
    let v = c.in_ok-image.image in
    let r = wanted_in c.args.wanted v in
    let named : r ≡ c.number-revision.result = number_is c.args.wanted v c.number-revision.result c.revisions-count.result c.number-revision.ensures c.revisions-count.ensures.count in
    let t = image_table v in
    let before : mid ≡ old = c.in_ok-image.ensures.reads in
    let there : r < length v.revisions = omega (arith, named, c.if-revision-from.false, c.from.ensures) in
    let cells = root_cells v _ r c.in-Some.root c.in-Some.ensures.there (omega (arith, named, there, c.revisions-count.ensures.count, c.revisions-count.type_inv)) in
    let P = AppendsPrefix (g.W.Write.contents c.args.writer.now) (g.W.Write.contents c.put.new.writer) in
    let e = c.in_err-put-in-Some.field-0.0 in
    let whole : ToolReadsCells {X = Unit {0}} old new (revision_cells v r) (Err (put_fault e)) =
    put_read {X = Unit {0}} old new t c.in-Some.root (rope_len t c.in-Some.root) e (revision_cells v r) cells (reads_then old mid new (InCells (rope_cell t c.in-Some.root) 0 (rope_len t c.in-Some.root)) (put_source_fault e) before c.in_err-put-in-Some.ensures.reads) in
    let spelled : SpellsFaithful c.in_ok-bytes.bytes.items old.stated v = record {
      accepted = rw c.deref.ensures.value at (c.in_ok-image.ensures.accepted refl);
      image = c.in_ok-image.ensures.image.0;
      spelled = sym c.deref.ensures.value ∙ c.in_ok-image.ensures.image.1;
      sources = c.in_ok-image.ensures.sources;
      faithful = c.in_ok-image.ensures.faithful;
    } in
    rw (p.1, p.2) (record {
      reads = text_reads old new (g.R.Read.remaining c.args.reader) c.args.wanted c.in_ok-bytes.bytes.items v (Err (put_fault e)) c.in_ok-bytes.ensures.ok spelled whole;
      answer = show_stopped c.args.at_most g.S.Sources.reading c.args.sources.now c.put.new.sources (g.R.Read.remaining c.args.reader) c.args.wanted
          (g.W.Write.contents c.args.writer.now) (g.W.Write.contents c.put.new.writer) v e
          (record {
            bytes = c.in_ok-bytes.bytes.items;
            read = c.in_ok-bytes.ensures.ok;
            spelled = spelled;
            within = c.in_ok-image.ensures.within;
            there = there;
            text = subst (λ (st : Stated). OfRevision v st r P) (same_stated before)
                (root_told v mid.stated _ r c.in-Some.root P c.in-Some.ensures.there
                (omega (arith, named, there, c.revisions-count.ensures.count, c.revisions-count.type_inv)) c.in_err-put-in-Some.ensures.err);
          })
          (among_cells old new t c.in-Some.root (rope_len t c.in-Some.root) (put_source_fault e) (revision_cells v r) cells (reads_then old mid new (InCells (rope_cell t c.in-Some.root) 0 (rope_len t c.in-Some.root)) (put_source_fault e) before c.in_err-put-in-Some.ensures.reads));
    })

pub returns-in-Some : goal.returns-in-Some
returns-in-Some g c =
    let old = g.S.Sources.reading c.args.sources.now in
    let mid = g.S.Sources.reading c.check_at_most.new.sources in
    let new = g.S.Sources.reading c.put.new.sources in
    let v = c.in_ok-image.image in
    let r = wanted_in c.args.wanted v in
    let named : r ≡ c.number-revision.result = number_is c.args.wanted v c.number-revision.result c.revisions-count.result c.number-revision.ensures c.revisions-count.ensures.count in
    let before : mid ≡ old = c.in_ok-image.ensures.reads in
    let there : r < length v.revisions = omega (arith, named, c.if-revision-from.false, c.from.ensures) in
    let P = Appends (g.W.Write.contents c.args.writer.now) (g.W.Write.contents c.put.new.writer) in
    record {
      reads = not_read_at old new _ _ (c.in_ok-put-in-Some.ensures.reads ∙ before);
      answer = (
        v,
        record {
          bytes = c.in_ok-bytes.bytes.items;
          read = c.in_ok-bytes.ensures.ok;
          spelled = record {
            accepted = rw c.deref.ensures.value at (c.in_ok-image.ensures.accepted refl);
            image = c.in_ok-image.ensures.image.0;
            spelled = sym c.deref.ensures.value ∙ c.in_ok-image.ensures.image.1;
            sources = c.in_ok-image.ensures.sources;
            faithful = c.in_ok-image.ensures.faithful;
          };
          within = c.in_ok-image.ensures.within;
          there = there;
          text = subst (λ (st : Stated). OfRevision v st r P) (same_stated before)
              (root_told v mid.stated _ r c.in-Some.root P c.in-Some.ensures.there
              (omega (arith, named, there, c.revisions-count.ensures.count, c.revisions-count.type_inv)) c.in_ok-put-in-Some.ensures.ok);
        },
      );
    }
