use Rattle.soap_calls.proofs.replies.read_tree.Goals as goal

pub returns-in-Some : goal.returns-in-Some
returns-in-Some c = λ e is. c.read_answer.ensures e (c.in-Some.ensures.stands e is)
