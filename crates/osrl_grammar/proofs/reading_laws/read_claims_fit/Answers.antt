use Rattle.osrl_grammar.proofs.ReadClaims.{read_claim_fits, read_rounds_fit, read_claim_back}
use Rattle.osrl_grammar.proofs.reading_laws.read_claims_fit.Goals as goal

pub returns-clause-nodes : goal.returns-clause-nodes
returns-clause-nodes c = read_claim_fits c.texts_are_of_characters.ensures

pub returns-clause-rounds : goal.returns-clause-rounds
returns-clause-rounds c = read_rounds_fit c.texts_are_of_characters.ensures

pub returns-clause-back : goal.returns-clause-back
returns-clause-back c = read_claim_back c.texts_are_of_characters.ensures
