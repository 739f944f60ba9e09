use Rattle.rope_tests.proofs.calls.files.a_file_that_has_ended_is_short.Given as goal

abbrev pub ghosts-read_a_file : goal.ghosts-read_a_file
ghosts-read_a_file g a = record { name = a.blank.name; parts = a.blank.parts }
