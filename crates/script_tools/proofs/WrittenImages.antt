-- What a session writes needs no read of a source.
use Rattle.std.proofs.Common.{refl}
use Rattle.std.proofs.lemmas.List.{length-map}
use Rattle.edit_commands.specs.Session.{SessionValue}
use Rattle.image_reader.specs.Spelling.{spelling}
use Rattle.image_reader.specs.Value.{IsImage}
use Rattle.session_checker.specs.Accepted.{NeedsNoRead}
use Rattle.session_image.specs.Written.{IsTrusted, image_of}

pub needs_no_read : (s : SessionValue) → IsImage (image_of s) → IsTrusted s → NeedsNoRead (spelling (image_of s)) s.held.sources
needs_no_read s image trusted = record {
  v = image_of s;
  image = image;
  spelled = refl;
  accepted = trusted.accepted;
  no_source = λ k lt. trusted.no_source k (rw length-map at lt);
}
