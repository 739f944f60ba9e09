use Rattle.session_tests.proofs.calls.counting.counted_calls_accept_and_refuse.Given as goal

abbrev pub ghosts-checked : goal.ghosts-checked
ghosts-checked g a = record { name = a.blank.name; parts = a.blank.parts }
