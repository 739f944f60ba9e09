use Rattle.std.proofs.Common.{rules, ◌≡◌, ◌==◌, false, length, slice_index, []}
use Rattle.lazy_file.specs.SourceTexts.{text_at}
use Rattle.key_journal.specs.declared.headers.TheConstants.{FROM_SOURCES}
use Rattle.key_journal.specs.Headers.{header_of}
use Rattle.key_journal.proofs.Digests.{digest_behind, heads_first}
use Rattle.key_journal.proofs.headers.header_over.Goals as goal

pub returns-clause-header : goal.returns-clause-header
returns-clause-header g c =
    let st = (g.S.Sources.reading c.args.sources.now).stated in
    let some : false ≡ (length st.sizes == 0) = search rules in
    let is : c.spelled-2.result ≡ header_of FROM_SOURCES (length st.sizes) (slice_index st.sizes 0) c.finalize-2.result = search rules in
    heads_first st.sizes (text_at st 0) c.spelled-2.result c.finalize-2.result some
    (digest_behind (text_at st 0) [] c.finalize-2.result (slice_index st.sizes 0) c.new-hasher.result c.digest_source.new.hasher c.new-hasher.ensures
    (rw (← c.len-size.ensures.value) c.in_ok-digest_source.ensures.bytes) c.finalize-2.ensures) is
