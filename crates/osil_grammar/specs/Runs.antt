-- Runs: the numbers that an `el` stands for (Optimization Services, `mult` and `incr`).
use Rattle.std.specs.Prelude.{ℕ, zero, suc, ℤ, ◌+ℤ◌, List, [], ◌∷◌}
use Rattle.rational.specs.Ratio.{Ratio, sum, IsSame}

-- m whole numbers: the first, and each next one greater by the step
abbrev pub whole_run : ℤ → ℤ → ℕ → List ℤ
whole_run first step zero = []
whole_run first step (suc m) = first ∷ whole_run (first +ℤ step) step m

-- the same of rational numbers
abbrev pub ratio_run : Ratio → Ratio → ℕ → List Ratio
ratio_run first step zero = []
ratio_run first step (suc m) = first ∷ ratio_run (sum first step) step m

-- the number at place k of such a run
abbrev pub ratio_at : Ratio → Ratio → ℕ → Ratio
ratio_at first step zero = first
ratio_at first step (suc k) = sum (ratio_at first step k) step

-- each is the same number as the one at its place
abbrev pub AreSame : List Ratio → List Ratio → Type 0
AreSame [] [] = Unit {0}
AreSame [] (y ∷ ys) = ⊥
AreSame (x ∷ xs) [] = ⊥
AreSame (x ∷ xs) (y ∷ ys) = IsSame x y × AreSame xs ys
