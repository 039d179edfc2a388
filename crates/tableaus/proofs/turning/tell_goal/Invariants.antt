use Rattle.tableaus.proofs.turning.tell_goal.Given as goal

abbrev pub ghosts-tell_goal_by : goal.ghosts-tell_goal_by
ghosts-tell_goal_by a = record { name = a.blank.name; parts = a.blank.parts }
