use Rattle.span_certificate.proofs.exact.describe_part.Given as goal

abbrev pub ghosts-describe_part_with : goal.ghosts-describe_part_with
ghosts-describe_part_with g a = record { name = a.blank.name; parts = a.blank.parts }
