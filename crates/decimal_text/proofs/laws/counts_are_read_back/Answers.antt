use Rattle.decimal_text.proofs.RoundTrips.{count_read, count_read_back}
use Rattle.decimal_text.proofs.laws.counts_are_read_back.Goals as goal

pub returns-clause-text : goal.returns-clause-text
returns-clause-text c = count_read

pub returns-clause-back : goal.returns-clause-back
returns-clause-back c = λ n r small ok err. count_read_back n r small ok err
