use Rattle.osil_grammar.proofs.Words.{Finish}
use Rattle.osil_grammar.proofs.Decodings.{kept_fit, kept_told}
use Rattle.osil_grammar.proofs.decoder.ReaderMarkReaderRefused.close.Goals as goal

pub invariant_of-self : goal.invariant_of-self
invariant_of-self c = kept_fit c.self.inside.parse_state (Finish c.args._name.now) c.close-step.new.self c.keep.new.parse_state c.close-step.result c.self.invariant (c.close-step.ensures c.args._name.now) c.keep.ensures.held

pub returns : goal.returns
returns c = kept_told c.args.self.now (Finish c.args._name.now) c.close-step.new.self c.keep.new.parse_state c.close-step.result c.keep.result c.keep.ensures.told (rw c.self.view_is at (c.close-step.ensures c.args._name.now)) c.keep.ensures.held
