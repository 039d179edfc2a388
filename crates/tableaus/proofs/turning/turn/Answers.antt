use Rattle.tableaus.proofs.turning.turn.Goals as goal

pub returns-clause-held : goal.returns-clause-held
returns-clause-held g c = let h = c.requires.held in (h.0, c.in_ok-pivot.ensures.holds h.0 h.1)
