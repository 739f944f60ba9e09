use Rattle.session_checker.proofs.checked.check_told.Given as goal

abbrev pub ghosts-check_with : goal.ghosts-check_with
ghosts-check_with g a = record { name = a.blank.name; parts = a.blank.parts }
