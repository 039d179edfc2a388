use Rattle.std.proofs.Common.{◌≡◌, ℕ, inl, inr, List, sym, ◌∙◌}
use Rattle.evidence.specs.Instance.{Instance}
use Rattle.evidence.specs.Cases.{Multiplier}
use Rattle.cert_checker.specs.declared.refused.Refused.{Refused}
use Rattle.cert_checker.specs.declared.refused.Refused.TheVariants.{Round, WideRound}
use Rattle.cert_checker.specs.RoundRefusals.{IsFirstPart, IsFirstUnfitPart, PartRefuses}
use Rattle.cert_checker.proofs.rounds.told_by.Goals as goal

unfit : (I : Instance) (ms : List Multiplier) (round n : ℕ) (r : Refused) → r ≡ WideRound n → PartRefuses I ms round r → (j : ℕ) × IsFirstUnfitPart I ms j
unfit I ms round n r is (inl (j, first, e)) = let x : WideRound n ≡ Round round j = sym is ∙ e in absurd (cc)
unfit I ms round n r is (inr (j, first, e)) = (j, first)

part : (I : Instance) (ms : List Multiplier) (round : ℕ) (r : Refused) → ((n : ℕ) → r ≡ WideRound n → ⊥) → PartRefuses I ms round r → (j : ℕ) × IsFirstPart I ms j
part I ms round r isnt (inl (j, first, e)) = (j, first)
part I ms round r isnt (inr (j, first, e)) = absurd (isnt round e)

pub returns-in-WideRound : goal.returns-in-WideRound
returns-in-WideRound c = λ I ms round h. unfit I ms round _ c.args.refused c.in-WideRound.is h

pub returns-in_default : goal.returns-in_default
returns-in_default c = λ I ms round h. part I ms round c.args.refused c.in_default.not-WideRound h
