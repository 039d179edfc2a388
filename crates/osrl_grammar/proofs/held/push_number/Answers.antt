use Rattle.osrl_grammar.proofs.Names.{ratio, Exact}
use Rattle.osrl_grammar.proofs.Fields.{number_pass}
use Rattle.osrl_grammar.proofs.held.push_number.Goals as goal

pub returns-in_ok-push-in-Ok : goal.returns-in_ok-push-in-Ok
returns-in_ok-push-in-Ok c = let pass = number_pass Exact c.args.text.now (ratio c.in-Ok.number) c.in-Ok.ensures.ok in (pass.0, pass.1, (c.in-Ok.number, c.in-Ok.ensures.ok, c.in_ok-push-in-Ok.ensures.ok))
