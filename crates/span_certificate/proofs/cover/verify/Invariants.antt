use Rattle.span_certificate.proofs.cover.verify.Given as goal

abbrev pub ghosts-verify_over : goal.ghosts-verify_over
ghosts-verify_over g a = record { name = a.blank.name; parts = a.blank.parts }
