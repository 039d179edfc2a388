use Rattle.osil_grammar.proofs.HeldNumbers.{fit_kept}
use Rattle.osil_grammar.proofs.decoder.ReaderMarkReaderRefused.chars.Goals as goal

pub invariant_of-self : goal.invariant_of-self
invariant_of-self c = fit_kept c.self.inside.parse_state _ c.chars.new.self c.in-Ok.ensures c.self.invariant
