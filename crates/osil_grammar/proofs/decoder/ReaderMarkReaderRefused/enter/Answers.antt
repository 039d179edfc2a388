use Rattle.osil_grammar.proofs.Words.{Start}
use Rattle.osil_grammar.proofs.Decodings.{kept_fit, kept_told}
use Rattle.osil_grammar.proofs.decoder.ReaderMarkReaderRefused.enter.Goals as goal

pub invariant_of-self : goal.invariant_of-self
invariant_of-self c = kept_fit c.self.inside.parse_state (Start c.args.name.now c.args.attributes.now) c.enter-step.new.self c.keep.new.parse_state c.enter-step.result c.self.invariant c.enter-step.ensures c.keep.ensures.held

pub returns : goal.returns
returns c = kept_told c.args.self.now (Start c.args.name.now c.args.attributes.now) c.enter-step.new.self c.keep.new.parse_state c.enter-step.result c.keep.result c.keep.ensures.told (rw c.self.view_is at c.enter-step.ensures) c.keep.ensures.held
