use Rattle.span_certificate.proofs.each_row.all_hold.Given as goal

abbrev pub ghosts-each_holds : goal.ghosts-each_holds
ghosts-each_holds g a = record { name = a.blank.name; parts = a.blank.parts }

abbrev pub ghosts-each_holds-2 : goal.ghosts-each_holds-2
ghosts-each_holds-2 g a = record { name = a.blank.name; parts = a.blank.parts }
