use Rattle.span_certificate.proofs.making.make_with.Given as goal

abbrev pub ghosts-make_for : goal.ghosts-make_for
ghosts-make_for g a = record { name = a.blank.name; parts = a.blank.parts }
