-- A round of rows that is refused gives no row, is refused for one reason, and for width alone where it gives one.
use Rattle.std.proofs.Common.{◌≡◌, ◌∙◌, inl, inr, ℕ, ℤ, List, sym}
use Rattle.evidence.specs.Sums.{none}
use Rattle.evidence.specs.Instance.{Instance, IsInstance, width}
use Rattle.evidence.specs.Cases.{Multiplier, multiplier_at, AreLegal, AreOfRows}
use Rattle.evidence.specs.Width.{LowFits, RowsFit}
use Rattle.evidence.specs.RowRounds.{IsRowsRound, numbers_of}
use Rattle.cert_checker.specs.declared.refused.Refused.{Refused}
use Rattle.cert_checker.specs.declared.refused.Refused.TheVariants.{Round, WideRound}
use Rattle.cert_checker.specs.Leaves.{IsFirstIllegal}
use Rattle.cert_checker.specs.Lefts.{LeftFits, HasOwnEnd, LeftsBelow}
use Rattle.cert_checker.specs.RowRounds.{aimed, all_of, LeftRefusesAt, LeftRefuses, RowRoundRefuses}
use Rattle.cert_checker.proofs.Firsts.{Staged, stage_once, AtFirst, place_once}
use Rattle.cert_checker.proofs.Multipliers.{pair_of}
use Rattle.cert_checker.proofs.OneLeaf.{illegal_once}
use Rattle.cert_checker.proofs.Rounding.{round_parts, round_left, round_low}

pub not_row_round : (I : Instance) → IsInstance I → (ms : List Multiplier) (cs : List ℤ) (k : ℤ) (n : ℕ) (r : Refused) → IsRowsRound I ms cs k → RowsFit I none (numbers_of cs) ms → RowRoundRefuses I ms n r → ⊥
not_row_round I good ms cs k n r cut w (inl (c, f, e)) = f.out (pair_of I ms (round_parts I good ms cs k cut).0 f.at f.inside)
not_row_round I good ms cs k n r cut w (inr (inl (l, other, e))) = other cut.rows
not_row_round I good ms cs k n r cut w (inr (inr (inl (l, o, (j, h, below, inl (unfit, e)))))) = unfit (round_left I good ms cs k cut w j h)
not_row_round I good ms cs k n r cut w (inr (inr (inl (l, o, (j, h, below, inr (fits, endless, e)))))) = endless ((round_parts I good ms cs k cut).1 j h)
not_row_round I good ms cs k n r cut w (inr (inr (inr (s, unfit, e)))) = unfit (round_low I good ms cs k cut w)

pub row_round_wide : (I : Instance) → IsInstance I → (ms : List Multiplier) (cs : List ℤ) (k : ℤ) (n : ℕ) (r : Refused) → IsRowsRound I ms cs k → RowRoundRefuses I ms n r → r ≡ WideRound n
row_round_wide I good ms cs k n r cut (inl (c, f, e)) = absurd (f.out (pair_of I ms (round_parts I good ms cs k cut).0 f.at f.inside))
row_round_wide I good ms cs k n r cut (inr (inl (l, other, e))) = absurd (other cut.rows)
row_round_wide I good ms cs k n r cut (inr (inr (inl (l, o, (j, h, below, inl (unfit, e)))))) = e
row_round_wide I good ms cs k n r cut (inr (inr (inl (l, o, (j, h, below, inr (fits, endless, e)))))) = absurd (endless ((round_parts I good ms cs k cut).1 j h))
row_round_wide I good ms cs k n r cut (inr (inr (inr (s, unfit, e)))) = e

-- one reason
fails_at : (I : Instance) (ms : List Multiplier) (n j : ℕ) (r : Refused) → LeftRefusesAt I ms n j r → LeftFits I (aimed I ms) ms j × HasOwnEnd I (aimed I ms) ms j → ⊥
fails_at I ms n j r (inl (unfit, e)) p = unfit p.0
fails_at I ms n j r (inr (fits, endless, e)) p = endless p.1

at_left : (I : Instance) (ms : List Multiplier) (n : ℕ) (r : Refused) → LeftRefuses I ms n r → AtFirst (LeftFits I (aimed I ms) ms) (HasOwnEnd I (aimed I ms) ms) (WideRound n) (Round n) r
at_left I ms n r (j, h, below, q) = (j, record { below = λ k l. ((below k l).fits, (below k l).finite); fails = fails_at I ms n j r q }, q)

not_lefts : (I : Instance) (ms : List Multiplier) (n : ℕ) (r : Refused) → LeftRefuses I ms n r → LeftsBelow I (aimed I ms) ms (width I) → ⊥
not_lefts I ms n r (j, h, below, q) lefts = fails_at I ms n j r q ((lefts j h).fits, (lefts j h).finite)

abbrev Illegal : Instance → List Multiplier → ℕ → Refused → Type 0
Illegal I ms n r = (c : ℕ) × IsFirstIllegal I ms c × (r ≡ Round n c)

abbrev NotRows : List Multiplier → ℕ → Refused → Type 0
NotRows ms n r = r ≡ Round n (multiplier_at ms 0).column

abbrev WideLow : Instance → List Multiplier → ℕ → Refused → Type 0
WideLow I ms n r = (LowFits I none (all_of I ms) → ⊥) × (r ≡ WideRound n)

abbrev ThenLow : Instance → List Multiplier → ℕ → Refused → Type 0
ThenLow I ms n r = Staged (LeftsBelow I (aimed I ms) ms (width I)) (LeftRefuses I ms n) (WideLow I ms n) r

abbrev ThenRows : Instance → List Multiplier → ℕ → Refused → Type 0
ThenRows I ms n r = Staged (AreOfRows I ms) (NotRows ms n) (ThenLow I ms n) r

staged : (I : Instance) (ms : List Multiplier) (n : ℕ) (r : Refused) → RowRoundRefuses I ms n r → Staged (AreLegal I ms) (Illegal I ms n) (ThenRows I ms n) r
staged I ms n r (inl (c, f, e)) = inl (λ legal. f.out (pair_of I ms legal f.at f.inside), (c, f, e))
staged I ms n r (inr (inl (l, other, e))) = inr (l, inl (other, e))
staged I ms n r (inr (inr (inl (l, o, q)))) = inr (l, inr (o, inl (not_lefts I ms n r q, q)))
staged I ms n r (inr (inr (inr (s, unfit, e)))) = inr (s.legal, inr (s.rows, inr (s.lefts, (unfit, e))))

pub row_round_once : (I : Instance) (ms : List Multiplier) (n : ℕ) (r s : Refused) → RowRoundRefuses I ms n r → RowRoundRefuses I ms n s → r ≡ s
row_round_once I ms n r s h k =
    stage_once (AreLegal I ms) (Illegal I ms n) (ThenRows I ms n) r s (illegal_once I ms (Round n) r s)
    (stage_once (AreOfRows I ms) (NotRows ms n) (ThenLow I ms n) r s (λ e f. e ∙ sym f)
    (stage_once (LeftsBelow I (aimed I ms) ms (width I)) (LeftRefuses I ms n) (WideLow I ms n) r s
    (λ p q. place_once (LeftFits I (aimed I ms) ms) (HasOwnEnd I (aimed I ms) ms) (WideRound n) (Round n) r s (at_left I ms n r p) (at_left I ms n s q))
    (λ p q. p.1 ∙ sym q.1)))
    (staged I ms n r h) (staged I ms n s k)
