-- A round of rows is, once it is completed, a rounding cut; a round has one row, so that rounds are read one after the other.
use Rattle.std.proofs.Common.{◌≡◌, IsSome, ℕ, ◌<◌, ℤ, pos, ◌+ℤ◌, ◌≤ℤ◌, ◌↔◌, IsTrue, Option, None, Some, List, ◌∷◌, arith, refl, sym, ◌∙◌, subst}
use Rattle.std.specs.List.{All}
use Rattle.std.proofs.lemmas.Int.{ints, by_lt_z}
use Rattle.std.proofs.lemmas.List.{ext_get_or}
use Rattle.rational.specs.Ratio.{Ratio, IsNumber, IsFloor}
use Rattle.rational.proofs.Integers.{more-times}
use Rattle.evidence.specs.Sums.{none}
use Rattle.evidence.specs.OneDenominator.{number_at}
use Rattle.evidence.specs.Instance.{Instance, IsInstance, width, variable_at}
use Rattle.evidence.specs.Cases.{Multiplier, Node, form, low_sum, completed}
use Rattle.evidence.specs.RowRounds.{IsRowsRound, numbers_of}
use Rattle.evidence.specs.Rounds.{IsRoundingCut, Round, RoundBy, RoundByRows, IsRound, RoundFits, derive, ShowsAfter}
use Rattle.evidence.proofs.Columns.{by_bool}
use Rattle.evidence.proofs.Completed.{completed_form, rest-numbers}
use Rattle.evidence.proofs.WholeSums.{whole-number}
use Rattle.evidence.proofs.UniqueRows.{one_ceiling, one_row}

not_above : (x : Ratio) (k l : ℤ) → IsFloor x k → IsFloor x l → k ≤ℤ l
not_above x k l c d =
    by_lt_z l k
    (λ below.
    let t = more-times (l +ℤ pos 1) k x.den (omega (arith, ints)) in
    let low = c.low in
    let high = d.high in
    absurd (omega (arith, ints)))
    (λ done. done)

pub one_floor : (x : Ratio) (k l : ℤ) → IsFloor x k → IsFloor x l → k ≡ l
one_floor x k l c d = let a = not_above x k l c d in let b = not_above x l k d c in omega (arith, ints)

module _ (I : Instance) (ms : List Multiplier) where
  pub row_numbers : (cs : List ℤ) (k : ℤ) → IsRowsRound I ms cs k → All (λ m. IsNumber m.by) ms
  row_numbers cs k r = rest-numbers I (numbers_of cs) ms (width I) ms r.legal.numbers

  pub rows_cut : IsInstance I → (cs : List ℤ) (k : ℤ) → IsRowsRound I ms cs k → IsRoundingCut I (completed I (numbers_of cs) ms) cs k
  rows_cut good cs k r = record {
    legal = r.legal;
    count = r.count;
    forms = λ j h. let e = completed_form I good (numbers_of cs) (λ j. whole-number (number_at cs j)) ms (row_numbers cs k r) j h in e.is;
    others = r.others;
    rounded = r.rounded;
  }

  module _ (cs ds : List ℤ) (k l : ℤ) (a : IsRowsRound I ms cs k) (b : IsRowsRound I ms ds l) where
    at_whole : (j : ℕ) → j < width I → IsTrue (variable_at I j).whole → (o : Option Ratio) → (variable_at I j).range.lb ≡ o → number_at cs j ≡ number_at ds j
    at_whole j h w None e = one_floor (form I ms j) (number_at cs j) (number_at ds j) (a.down j h w e) (b.down j h w e)
    at_whole j h w (Some low) e =
        let some : IsSome (variable_at I j).range.lb = subst (λ o. IsSome o) (sym e) refl in
        one_ceiling (form I ms j) (number_at cs j) (number_at ds j) (a.up j h w some) (b.up j h w some)

    same_number : (j : ℕ) → j < width I → number_at cs j ≡ number_at ds j
    same_number j h =
        by_bool (variable_at I j).whole
        (λ w. at_whole j h w (variable_at I j).range.lb refl)
        (λ no. a.others j h (λ t. cc) ∙ sym (b.others j h (λ t. cc)))

    same_numbers : cs ≡ ds
    same_numbers = ext_get_or (pos 0) cs ds (a.count ∙ sym b.count) (λ j h. same_number j (subst (λ n. j < n) a.count h))

    pub one_rows_row : (cs ≡ ds) × (k ≡ l)
    one_rows_row =
        (same_numbers, one_ceiling (low_sum I none (completed I (numbers_of ds) ms)) k l (let e = same_numbers in let r = a.rounded in rw (sym e) r) b.rounded)

-- a round is a rounding cut, once it is completed
pub round_cut : (I : Instance) → IsInstance I → (r : Round) (cs : List ℤ) (k : ℤ) → IsRound I r cs k → (ms : List Multiplier) × IsRoundingCut I ms cs k
round_cut I good (RoundBy ms) cs k is = (ms, is)
round_cut I good (RoundByRows ms) cs k is = (completed I (numbers_of cs) ms, rows_cut I ms good cs k is)

pub one_round_row : (I : Instance) → IsInstance I → (r : Round) (cs ds : List ℤ) (k l : ℤ) → IsRound I r cs k → IsRound I r ds l → (cs ≡ ds) × (k ≡ l)
one_round_row I good (RoundBy ms) cs ds k l a b = one_row I good ms cs ds k l a b
one_round_row I good (RoundByRows ms) cs ds k l a b = one_rows_row I ms cs ds k l a b

pub round_step : (I : Instance) → IsInstance I → (r : Round) (cs : List ℤ) (k : ℤ) (rounds : List Round) (nodes : List Node) (z : Option Ratio) → IsRound I r cs k → ShowsAfter I (r ∷ rounds) nodes z ↔ (RoundFits I r cs × ShowsAfter (derive I cs k) rounds nodes z)
round_step I good r cs k rounds nodes z is = (
  λ (ds, l, s, fits, rest). let e = one_round_row I good r ds cs l k s is in (subst (λ ds. RoundFits I r ds) e.0 fits, subst (λ l. ShowsAfter (derive I cs l) rounds nodes z) e.1 (subst (λ ds. ShowsAfter (derive I ds l) rounds nodes z) e.0 rest)),
  λ (fits, rest). (cs, k, is, fits, rest),
)
