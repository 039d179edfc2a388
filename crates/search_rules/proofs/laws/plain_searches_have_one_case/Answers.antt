use Rattle.search_rules.proofs.PlainSearches.{comes_plain}
use Rattle.search_rules.proofs.laws.plain_searches_have_one_case.Goals as goal

pub returns : goal.returns
returns c = λ P t m plain ranges m_comes. let h = comes_plain P t plain ranges m m_comes in h.either
