use Rattle.tableaus.proofs.turning.tell_values.Given as goal

abbrev pub ghosts-tell_values_by : goal.ghosts-tell_values_by
ghosts-tell_values_by a = record { name = a.blank.name; parts = a.blank.parts }
