-- The searches that have a name are legal, and none of their choices has two answers.
use Rattle.search_rules.specs.FastSearch.{search_rules_of}
use Rattle.simplex_rules.specs.declared.names.RuleName.{RuleName}
use Rattle.simplex_rules.specs.declared.names.RuleName.TheVariants.{Bland, Fast}
use Rattle.search_rules.proofs.FastSearches.{legal_fast, single_fast}
use Rattle.search_rules.specs.RuleSearch.{bland_search, AreLegalSearches, AreSingleSearches}
use Rattle.std.proofs.Common.{subst}
use Rattle.rational.specs.Ratio.{IsFloor}
use Rattle.evidence.specs.Point.{value_at}
use Rattle.search_rules.proofs.OneOutcome.{one_unmet, split_unmet, divided_unmet, not_both_ways}
use Rattle.search_rules.proofs.OneCut.{one_floor}
use Rattle.simplex_rules.proofs.LeastIndices as Indices

pub legal_bland : AreLegalSearches bland_search
legal_bland = record { runs = Indices.legal; splits = λ h j k s. s.branch; divides = λ h j s. s.branch }

pub legal : (k : RuleName) → AreLegalSearches (search_rules_of k)
legal Bland = legal_bland
legal Fast = legal_fast

pub single_bland : AreSingleSearches bland_search
single_bland = record {
  runs = Indices.single;
  splits = λ h i j k l p q.
      let I = h.case.program in
      let x = h.point in
      let e = one_unmet I x i j (split_unmet I x i k p) (split_unmet I x j l q) in
      (e, one_floor (value_at x j) k l (subst (λ i. IsFloor (value_at x i) k) e p.floor) q.floor);
  divides = λ h i j p q. let I = h.case.program in one_unmet I h.point i j (divided_unmet I h.point i p) (divided_unmet I h.point j q);
  steps = λ I g h p q. absurd p;
  either = λ h i j k p q. not_both_ways h.case.program h.point i j k p q;
  split_unmet = λ h j k p met. let u = split_unmet h.case.program h.point j k p in u.1 (met j (let b = p.branch in b.variable));
  divided_unmet = λ h j p met. let u = divided_unmet h.case.program h.point j p in u.1 (met j (let b = p.branch in b.variable));
}

pub single : (k : RuleName) → AreSingleSearches (search_rules_of k)
single Bland = single_bland
single Fast = single_fast
