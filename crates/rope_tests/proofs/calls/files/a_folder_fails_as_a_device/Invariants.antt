use Rattle.rope_tests.proofs.calls.files.a_folder_fails_as_a_device.Given as goal

abbrev pub ghosts-read_a_file : goal.ghosts-read_a_file
ghosts-read_a_file g a = record { name = a.blank.name; parts = a.blank.parts }
