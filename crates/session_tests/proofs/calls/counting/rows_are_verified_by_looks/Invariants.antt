use Rattle.session_tests.proofs.calls.counting.rows_are_verified_by_looks.Given as goal

abbrev pub ghosts-looked_at : goal.ghosts-looked_at
ghosts-looked_at g a = record { name = a.blank.name; parts = a.blank.parts }
