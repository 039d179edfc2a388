use Rattle.soap_calls.proofs.Listenings.{chars_leave}
use Rattle.soap_calls.proofs.listening.ListenerVisitor.chars.Goals as goal

pub returns : goal.returns
returns c = chars_leave c.say.result c.args.self.now.parse_state c.say.new.self c.args.text.now c.say.ensures
