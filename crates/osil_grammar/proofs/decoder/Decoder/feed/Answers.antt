use Rattle.osil_grammar.proofs.Words.{ℕ, List, ◌++◌, subst, State, start, WasFed}
use Rattle.tag_tests.specs.Readers.{Decoding}
use Rattle.osil_grammar.specs.declared.stop.Refused.{Refused}
use Rattle.osil_grammar.proofs.decoder.Decoder.feed.Goals as goal

pub returns-clause-fed : goal.returns-clause-fed
returns-clause-fed c = subst (λ (d : Decoding State Refused). (bytes : List ℕ) → WasFed d bytes → WasFed c.feed.new.self (bytes ++ c.args.piece.now)) c.self.view_is (λ bytes h. c.feed.ensures.fed start bytes h)
