-- The words that tell why a claim is refused.
use Rattle.std.specs.Prelude.{ℕ, List, [], ◌∷◌, ◌++◌, cond, nat_eq, codes, decimal}
use Rattle.cert_checker.specs.declared.refused.Refused.{Refused}
use Rattle.cert_checker.specs.declared.refused.Refused.TheVariants.{NotFeasible, WidePoint, Value, Round, WideRound, Levels, Level, NoClaim}
use Rattle.cert_checker.specs.declared.refused.Unshown.{Unshown}
use Rattle.cert_checker.specs.declared.refused.Unshown.TheVariants.{Tree, Sign, Form, Step, Sum, Direction, Wide}

-- a name with a number, and with two; one space between
abbrev pub numbered : List ℕ → ℕ → List ℕ
numbered name n = name ++ (32 ∷ decimal n)

abbrev pub placed : List ℕ → ℕ → ℕ → List ℕ
placed name n m = numbered name n ++ (32 ∷ decimal m)

-- why a certificate or a direction is refused
abbrev pub unshown_words : Unshown → List ℕ
unshown_words (Tree n) = numbered (codes "Tree") n
unshown_words (Sign n c) = placed (codes "Sign") n c
unshown_words (Form n c) = placed (codes "Form") n c
unshown_words (Step n c) = placed (codes "Step") n c
unshown_words (Sum n) = numbered (codes "Sum") n
unshown_words (Direction c) = numbered (codes "Direction") c
unshown_words (Wide n) = numbered (codes "Wide") n

-- its level, from the second on
abbrev pub level_words : ℕ → List ℕ
level_words level = cond (nat_eq level 1) [] (numbered (codes "Level") level ++ (32 ∷ []))

-- why a claim is refused
abbrev pub refused_words : Refused → List ℕ
refused_words (NotFeasible c) = numbered (codes "NotFeasible") c
refused_words WidePoint = numbered (codes "Wide") 0
refused_words Value = codes "Value"
refused_words (Round n c) = placed (codes "Round") n c
refused_words (WideRound n) = numbered (codes "WideRound") n
refused_words (Levels n) = numbered (codes "Levels") n
refused_words (Level level why) = level_words level ++ unshown_words why
refused_words NoClaim = codes "NoClaim"
