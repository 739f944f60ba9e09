use Rattle.span_descent.proofs.description.describe_leaf.Given as goal

abbrev pub ghosts-describe_with : goal.ghosts-describe_with
ghosts-describe_with g a = record { name = a.blank.name; parts = a.blank.parts }
