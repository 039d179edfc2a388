use Rattle.search_rules.proofs.AskedSearches.{asked_hold}
use Rattle.search_rules.proofs.NearSearches.{all_numbered, near_true}
use Rattle.search_rules.proofs.laws.near_points_are_within_the_gap.Goals as goal

pub returns : goal.returns
returns c = λ P t a gs start g m ks xs good is comes near from y f. near_true P m ks xs good (asked_hold P t a good gs start is m ks xs comes) (all_numbered P t a good gs start is m ks xs comes) g near from y f
