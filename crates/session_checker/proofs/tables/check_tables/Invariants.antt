use Rattle.session_checker.proofs.tables.check_tables.Given as goal

abbrev pub ghosts-check_tables_with : goal.ghosts-check_tables_with
ghosts-check_tables_with g a = record { name = a.blank.name; parts = a.blank.parts }
