use Rattle.tableaus.proofs.turning.tell_turned.Given as goal

abbrev pub ghosts-tell_turned_by : goal.ghosts-tell_turned_by
ghosts-tell_turned_by a = record { name = a.blank.name; parts = a.blank.parts }
