-- What the certificates of a shown outcome prove, together and one by one.
use Rattle.std.proofs.Common.{◌≡◌, ℕ, suc, ◌+◌, ◌<◌, ◌≤◌, inl, inr, Option, Some, List, [], ◌∷◌, length, arith, refl, ap}
use Rattle.std.specs.List.{All}
use Rattle.std.proofs.lemmas.List.Elements.{All-nil, All-cons, All-tail}
use Rattle.rational.specs.Ratio.{Ratio}
use Rattle.evidence.specs.Instance.{Goal, Instance, Problem, width, height, cost_at, minimising}
use Rattle.evidence.specs.Cases.{Node}
use Rattle.evidence.specs.Rounds.{Certificate, Round, derive}
use Rattle.evidence.specs.Levels.{next_level, RoundsAreOfOneGoal}
use Rattle.evidence.proofs.AddedRows.{height_added}
use Rattle.search_rules.specs.Outcomes.{ProvesAfter, CertificateProves, AreLevelsProved, ProvesEndless}
use Rattle.cert_checker.specs.RoundRefusals.{IsAfterRounds}
use Rattle.cert_checker.specs.LevelRefusals.{Ending, Best, Endless, ClaimRoundsHold}
use Rattle.cert_checker.specs.Settled.{Settles, AreSettled}

-- ---- one certificate

-- it proves something of a program with at most so many columns
abbrev pub ProvesIn : ℕ → Certificate → Type 0
ProvesIn most c = (J : Instance) × (z : Option Ratio) × (width J + height J ≤ most) × CertificateProves J c z

settled_after : (rounds : List Round) (I : Instance) (nodes : List Node) (z : Option Ratio) → ProvesAfter I rounds nodes z → Settles I rounds nodes z
settled_after [] I nodes z p = (p.tree, p.listed, p.shows)
settled_after (r ∷ rounds) I nodes z (cs, k, cut, fits, rest) = (cs, k, cut, settled_after rounds (derive I cs k) nodes z rest)

pub settled_by : (I : Instance) (c : Certificate) (z : Option Ratio) → CertificateProves I c z → Settles I c.rounds c.nodes z
settled_by I c z p = settled_after c.rounds I c.nodes z p

-- the sums of its rounds fit
held_after : (rounds : List Round) (I : Instance) (nodes : List Node) (z : Option Ratio) → ProvesAfter I rounds nodes z → (J : Instance) × IsAfterRounds I rounds J
held_after [] I nodes z p = (I, refl)
held_after (r ∷ rounds) I nodes z (cs, k, cut, fits, rest) = let t = held_after rounds (derive I cs k) nodes z rest in (t.0, (cs, k, cut, fits, t.1))

-- ---- the certificates of levels

-- a best point has one for each goal, and points without end fewer
abbrev pub IsCount : Ending → ℕ → ℕ → Type 0
IsCount Best n goals = n ≡ goals
IsCount (Endless x d) n goals = n < goals

pub at_most_goals : (end : Ending) (n goals : ℕ) → IsCount end n goals → n ≤ goals
at_most_goals Best n goals e = omega (arith, e)
at_most_goals (Endless x d) n goals few = omega (arith, few)

-- the first one proves something of the program itself
abbrev pub FirstProves : Instance → List Certificate → Type 0
FirstProves I [] = Unit {0}
FirstProves I (c ∷ cs) = (z : Option Ratio) × CertificateProves I c z

-- whether or not sums fit they settle the levels, and each proves something of a program with at most so many columns
pub record AreOfLevels (end : Ending) (most : ℕ) (I : Instance) (gs : List Goal) (vs : List Ratio) (cs : List Certificate) : Type 0 where
  pub settled : AreSettled end I gs vs cs
  pub enough : IsCount end (length cs) (suc (length gs))
  pub first : FirstProves I cs
  pub each : All (ProvesIn most) cs

-- one certificate more
module _ (most : ℕ) (I : Instance) (g : Goal) (gs : List Goal) (v : Ratio) (c : Certificate) (cs : List Certificate) (few : width I + height I + suc (length gs) ≤ most) where
  next_few : (e : Ratio) → width (next_level I e g) + height (next_level I e g) + length gs ≤ most
  next_few e = let n = height_added I (record { lb = Some e; ub = Some e }) (λ j. minimising I (cost_at I j)) in omega (arith, n, few)

  each_more : CertificateProves I c (Some (minimising I v)) → All (ProvesIn most) cs → All (ProvesIn most) (c ∷ cs)
  each_more p rest = All-cons (ProvesIn most) c cs (I, Some (minimising I v), omega (arith, few), p) rest

best_of : (gs : List Goal) (most : ℕ) (I : Instance) (vs : List Ratio) (cs : List Certificate) → width I + height I + length gs ≤ most → AreLevelsProved I gs vs cs → AreOfLevels Best most I gs vs cs
best_of [] most I [] cs few p = absurd p
best_of [] most I (v ∷ []) [] few p = absurd p
best_of [] most I (v ∷ []) (c ∷ []) few p = record {
  settled = settled_by I c (Some (minimising I v)) p;
  enough = refl;
  first = (Some (minimising I v), p);
  each = All-cons (ProvesIn most) c [] (I, Some (minimising I v), omega (arith, few), p) (All-nil (ProvesIn most));
}
best_of [] most I (v ∷ []) (c ∷ d ∷ cs) few p = absurd p
best_of [] most I (v ∷ w ∷ vs) cs few p = absurd p
best_of (g ∷ gs) most I [] cs few p = absurd p
best_of (g ∷ gs) most I (v ∷ vs) [] few p = absurd p
best_of (g ∷ gs) most I (v ∷ vs) (c ∷ cs) few (p, e, reached, rest) =
    let r = best_of gs most (next_level I e g) vs cs (next_few most I g gs v c cs few e) rest in
    record {
      settled = (settled_by I c (Some (minimising I v)) p, e, record { reduced = reached.reduced; same = reached.same }, r.settled);
      enough = ap suc r.enough;
      first = (Some (minimising I v), p);
      each = each_more most I g gs v c cs few p r.each;
    }

endless_of : (cs : List Certificate) (most : ℕ) (I : Instance) (gs : List Goal) (vs x d : List Ratio) → width I + height I + length gs ≤ most → ProvesEndless I gs vs cs x d → AreOfLevels (Endless x d) most I gs vs cs
endless_of [] most I gs vs x d few p = record { settled = p; enough = omega arith; first = tt; each = All-nil (ProvesIn most) }
endless_of (c ∷ cs) most I [] [] x d few p = absurd p
endless_of (c ∷ cs) most I [] (v ∷ vs) x d few p = absurd p
endless_of (c ∷ cs) most I (g ∷ gs) [] x d few p = absurd p
endless_of (c ∷ cs) most I (g ∷ gs) (v ∷ vs) x d few (p, e, reached, rest) =
    let r = endless_of cs most (next_level I e g) gs vs x d (next_few most I g gs v c cs few e) rest in
    let below = r.enough in
    record {
      settled = (settled_by I c (Some (minimising I v)) p, e, record { reduced = reached.reduced; same = reached.same }, r.settled);
      enough = omega (arith, below);
      first = (Some (minimising I v), p);
      each = each_more most I g gs v c cs few p r.each;
    }

-- ---- the certificates of a problem's claim

-- no level's program has more columns, but for those of rounds
abbrev pub most_columns : Problem → ℕ
most_columns P = width P.program + height P.program + length P.later

module _ (P : Problem) where
  pub best_levels : (vs : List Ratio) (cs : List Certificate) → AreLevelsProved P.program P.later vs cs → AreOfLevels Best (most_columns P) P.program P.later vs cs
  best_levels vs cs p = best_of P.later (most_columns P) P.program vs cs (omega arith) p

  pub endless_levels : (vs x d : List Ratio) (cs : List Certificate) → ProvesEndless P.program P.later vs cs x d → AreOfLevels (Endless x d) (most_columns P) P.program P.later vs cs
  endless_levels vs x d cs p = endless_of cs (most_columns P) P.program P.later vs x d (omega arith) p

  pub rounds_hold : (cs : List Certificate) → RoundsAreOfOneGoal P cs → FirstProves P.program cs → ClaimRoundsHold P cs
  rounds_hold [] one p = tt
  rounds_hold (c ∷ cs) one (z, p) = let t = held_after c.rounds P.program c.nodes z p in (one, t.0, t.1)

-- no certificate behind the first has rounds
abbrev pub HasNoRounds : Certificate → Type 0
HasNoRounds c = c.rounds ≡ []

abbrev pub HaveNoRoundsBehind : List Certificate → Type 0
HaveNoRoundsBehind [] = Unit {0}
HaveNoRoundsBehind (c ∷ cs) = All HasNoRounds cs

pub none_behind : (P : Problem) (cs : List Certificate) → length cs ≤ suc (length P.later) → RoundsAreOfOneGoal P cs → HaveNoRoundsBehind cs
none_behind P [] few one = tt
none_behind P (c ∷ []) few one = All-nil HasNoRounds
none_behind P (c ∷ d ∷ cs) few (inl none) = absurd (omega (arith, few, ap length none))
none_behind P (c ∷ d ∷ cs) few (inr all) = All-tail HasNoRounds c (d ∷ cs) all
