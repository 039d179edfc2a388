use Rattle.marks.proofs.walk.Walk.next.Goals as goal

pub returns-then-self-eq0-clause-first : goal.returns-then-self-eq0-clause-first
returns-then-self-eq0-clause-first g c = c.read.ensures.first c.args.from c.requires.kept

pub returns-then-self-eq0-clause-kept : goal.returns-then-self-eq0-clause-kept
returns-then-self-eq0-clause-kept g c = c.read.ensures.kept c.args.from c.requires.kept

pub returns-clause-first : goal.returns-clause-first
returns-clause-first g c = c.pass.ensures.first _ c.args.from c.requires.kept

pub returns-clause-kept : goal.returns-clause-kept
returns-clause-kept g c = c.pass.ensures.kept _ c.args.from c.requires.kept
