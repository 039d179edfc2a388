-- Which refusal of a round of rows alone is the first: each form is rounded, and what is left to that number decides the variable's own multiplier.
use Rattle.std.specs.Prelude.{◌≡◌, ℕ, ◌<◌, ◌⊎◌, ℤ, pos, neg_ℤ, cond, Option, None, Some, List}
use Rattle.std.specs.Int.{int_div_euclid}
use Rattle.rational.specs.Ratio.{Ratio, whole, negative}
use Rattle.evidence.specs.Sums.{none}
use Rattle.evidence.specs.Instance.{Instance, width, variable_at}
use Rattle.evidence.specs.Cases.{Multiplier, multiplier_at, form, completed, AreLegal, AreOfRows}
use Rattle.evidence.specs.Width.{LowFits}
use Rattle.cert_checker.specs.declared.refused.Refused.{Refused}
use Rattle.cert_checker.specs.declared.refused.Refused.TheVariants.{Round, WideRound}
use Rattle.cert_checker.specs.Leaves.{IsFirstIllegal}
use Rattle.cert_checker.specs.Lefts.{LeftFits, HasOwnEnd, LeftsBelow, RowsStand}

-- the greatest whole number that isn't above x, and the least one that isn't below it
abbrev pub floor : Ratio → ℤ
floor x = int_div_euclid x.num (pos x.den)

abbrev pub ceiling : Ratio → ℤ
ceiling x = neg_ℤ (floor (negative x))

-- up where there is a lower end, and down where there is none
abbrev pub toward : Option Ratio → Ratio → ℤ
toward None x = floor x
toward (Some low) x = ceiling x

-- what the rows' form at variable j is rounded to, 0 where the variable isn't whole
abbrev pub rounded : Instance → List Multiplier → ℕ → ℤ
rounded I ms j = cond (variable_at I j).whole (toward (variable_at I j).range.lb (form I ms j)) (pos 0)

abbrev pub aimed : Instance → List Multiplier → ℕ → Ratio
aimed I ms j = whole (rounded I ms j)

-- the multipliers of variables, and then the rows'
abbrev pub all_of : Instance → List Multiplier → List Multiplier
all_of I ms = completed I (aimed I ms) ms

-- at variable j, after those below it: a sum doesn't fit, or there is no such end
abbrev pub LeftRefusesAt : Instance → List Multiplier → ℕ → ℕ → Refused → Type 0
LeftRefusesAt I ms round j r =
    ((LeftFits I (aimed I ms) ms j → ⊥) × (r ≡ WideRound round))
    ⊎ (LeftFits I (aimed I ms) ms j × (HasOwnEnd I (aimed I ms) ms j → ⊥) × (r ≡ Round round j))

abbrev pub LeftRefuses : Instance → List Multiplier → ℕ → Refused → Type 0
LeftRefuses I ms round r = (j : ℕ) × (j < width I) × LeftsBelow I (aimed I ms) ms j × LeftRefusesAt I ms round j r

-- the first multiplier that isn't legal, the first one where it is a variable's, the first variable, and then the sum of the ends
abbrev pub RowRoundRefuses : Instance → List Multiplier → ℕ → Refused → Type 0
RowRoundRefuses I ms round r =
    ((c : ℕ) × IsFirstIllegal I ms c × (r ≡ Round round c))
    ⊎ (AreLegal I ms × (AreOfRows I ms → ⊥) × (r ≡ Round round (multiplier_at ms 0).column))
    ⊎ (AreLegal I ms × AreOfRows I ms × LeftRefuses I ms round r)
    ⊎ (RowsStand I (aimed I ms) ms × (LowFits I none (all_of I ms) → ⊥) × (r ≡ WideRound round))
