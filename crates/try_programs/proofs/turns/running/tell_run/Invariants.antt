use Rattle.try_programs.proofs.turns.running.tell_run.Given as goal

abbrev pub ghosts-run_case : goal.ghosts-run_case
ghosts-run_case a = record { name = a.blank.name; parts = a.blank.parts }
