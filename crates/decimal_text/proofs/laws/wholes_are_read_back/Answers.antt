use Rattle.decimal_text.proofs.RoundTrips.{whole_read, whole_read_back}
use Rattle.decimal_text.proofs.laws.wholes_are_read_back.Goals as goal

pub returns-clause-text : goal.returns-clause-text
returns-clause-text c = whole_read

pub returns-clause-back : goal.returns-clause-back
returns-clause-back c = λ z r small ok err. whole_read_back z r small ok err
