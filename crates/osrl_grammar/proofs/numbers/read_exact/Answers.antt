use Rattle.osrl_grammar.proofs.numbers.read_exact.Goals as goal

pub returns-in-Err-clause-err : goal.returns-in-Err-clause-err
returns-in-Err-clause-err c = c.unread.ensures c.args.text.now c.in-Err.ensures.err
