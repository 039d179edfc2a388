use Rattle.http_link.proofs.Heads.{judged}
use Rattle.http_link.proofs.requests.judge.Goals as goal

pub returns : goal.returns
returns c = judged _ _ _ c.requires.whole c.requires.fits c.if-lines-gt-MOST_FIELDS.false c.head_outcome.ensures
