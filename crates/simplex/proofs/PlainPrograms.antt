-- Any ends are those of some program; what a help says of its entry.
use Rattle.std.proofs.Common.{◌≡◌, ◌-◌, ◌≤◌, pos, neg_ℤ, ◌<ℤ◌, List, [], map, refl, arith, Option, None, Some, MatchOption}
use Rattle.std.proofs.lemmas.List.{length-map}
use Rattle.std.proofs.lemmas.Bool.{le-ltb}
use Rattle.std.proofs.lemmas.Int.{ints}
use Rattle.rational.specs.Ratio.{Ratio}
use Rattle.evidence.specs.Sums.{none}
use Rattle.evidence.specs.Instance.{Instance, Minimum}
use Rattle.simplex_rules.specs.declared.columns.Way.{Way}
use Rattle.simplex_rules.specs.declared.columns.Way.TheVariants.{Rise, Fall}
use Rattle.simplex.specs.declared.ends.Ends.{Ends}
use Rattle.simplex_rules.specs.Turns.{rate, MovesIn}
use Rattle.simplex.specs.Cuts.{range_of, AreEndsOf}

pub plain : List Ends → Instance
plain es = record { variables = []; rows = map range_of es; entries = []; goal = record { sense = Minimum; constant = none; costs = [] } }

pub plain_ends : (es : List Ends) → AreEndsOf (plain es) es
unfolding plain
plain_ends es = record {
  count = let m = length-map es range_of in omega arith;
  is = λ c.
      let l : 0 ≤ c = omega arith in
      let e : c - 0 ≡ c = omega arith in
      rw (le-ltb c 0 l, e) refl;
}

-- a column that moves another has an entry
pub moves_nonzero : (wanted way : Way) (x : Ratio) → MovesIn wanted (rate way x) → x.num ≡ pos 0 → ⊥
moves_nonzero Rise Rise x h e = omega (arith, ints)
moves_nonzero Rise Fall x h e = let k : pos 0 <ℤ neg_ℤ x.num = h in omega (arith, ints)
moves_nonzero Fall Rise x h e = omega (arith, ints)
moves_nonzero Fall Fall x h e = let k : neg_ℤ x.num <ℤ pos 0 = h in omega (arith, ints)

pub of_none : {X : Type 0} (o : Option X) (P : Type 0) (Q : X → Type 0) → o ≡ None → MatchOption o P Q → P
of_none None P Q e h = h
of_none (Some y) P Q e h = absurd (cc)
