use Rattle.std.proofs.Common.{rules, ◌≡◌, ◌==◌, false, length, slice_index, []}
use Rattle.lazy_file.specs.SourceTexts.{text_at}
use Rattle.key_journal.specs.declared.headers.TheConstants.{ONTO_IMAGE}
use Rattle.key_journal.specs.Headers.{digested, header_of}
use Rattle.key_journal.proofs.Digests.{digest_behind, heads_first_onto}
use Rattle.key_journal.proofs.headers.header_onto.Goals as goal

pub returns-clause-header : goal.returns-clause-header
returns-clause-header g c =
    let image = c.args.image.now in
    let st = (g.S.Sources.reading c.args.sources.now).stated in
    let some : false ≡ (length st.sizes == 0) = search rules in
    let is : c.spelled-2.result ≡ header_of ONTO_IMAGE (length st.sizes) (slice_index st.sizes 0) c.finalize-2.result = search rules in
    heads_first_onto image st.sizes (text_at st 0) c.spelled-2.result c.finalize-2.result some
    (digest_behind (text_at st 0) (digested (length image) image) c.finalize-2.result (slice_index st.sizes 0) c.digest_image.new.hasher c.digest_source.new.hasher
    (c.digest_image.ensures [] c.new-hasher.ensures) (rw (← c.len-size.ensures.value) c.in_ok-digest_source.ensures.bytes) c.finalize-2.ensures) is
