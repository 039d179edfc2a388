-- What the sums of a cut's multipliers make, as the rules of a search say it.
use Rattle.std.proofs.Common.{◌≡◌, ℕ, ℤ, pos, neg_ℤ, ◌≤ℤ◌, Bool, true, false, IsTrue, Option, List, inl, inr, refl, sym}
use Rattle.rational.specs.Ratio.{Ratio, whole, IsSame}
use Rattle.rational.specs.Width.{most}
use Rattle.rational.proofs.Scaling.{IsSame-trans}
use Rattle.fraction.specs.Frac.{ratio}
use Rattle.fraction.specs.declared.frac.Frac.{Frac}
use Rattle.evidence.specs.Sums.{none, IsWhole}
use Rattle.evidence.specs.Instance.{Instance, IsInstance, width, variable_at}
use Rattle.evidence.specs.Cases.{Multiplier, AreLegal, form, low_sum}
use Rattle.evidence.specs.Rounds.{IsCeiling}
use Rattle.evidence.proofs.UniqueRows.{low-number}
use Rattle.cert_checker.specs.Programs.{MayRound, numerators}
use Rattle.cert_checker.specs.RoundRefusals.{WholeFormsBelow, IsFirstPart, IsWideRound}
use Rattle.search_rules.specs.Cuts.{IsCutFormBy, AreCutForms, IsWideCut, IsNoCut, MakesCut}

-- a sum as a round's must be is as a cut's must be
cut_form : (b : Bool) (x : Ratio) → IsWhole x × ((IsTrue b → ⊥) → IsSame x none) → IsCutFormBy b x
cut_form true x h = h.0
cut_form false x h = h.1 (λ t. let f : false ≡ true = t in absurd (cc))

round_form : (b : Bool) (x : Ratio) → IsCutFormBy b x → IsWhole x × ((IsTrue b → ⊥) → IsSame x none)
round_form true x h = (h, λ n. absurd (n refl))
round_form false x h = (record { number = pos 0; same = h }, λ n. h)

module _ (I : Instance) (ms : List Multiplier) where
  cut_forms : (n : ℕ) → WholeFormsBelow I ms n → AreCutForms I ms n
  cut_forms n are j h = let f = are j h in (f.fits, cut_form (variable_at I j).whole (form I ms j) f.is)

  pub wide_cut : IsWideRound I ms → IsWideCut I ms
  wide_cut (inl (j, f)) = inl (j, f.inside, cut_forms j f.below, f.wide)
  wide_cut (inr (are, wide)) = inr (cut_forms (width I) are, wide)

  pub no_form : (j : ℕ) → IsFirstPart I ms j → IsNoCut I ms
  no_form j f = inl (j, f.inside, cut_forms j f.below, f.fits, λ h. f.part (round_form (variable_at I j).whole (form I ms j) h))

  -- and where the sum of the ends is this one
  module _ (slots : List (Option Frac)) (s : Frac) (may : MayRound I ms slots s) where
    pub no_rounding : IsWhole (ratio s) → IsNoCut I ms
    no_rounding w = inr (
      cut_forms (width I) may.forms,
      may.fits,
      record { number = w.number; same = IsSame-trans (low_sum I none ms) (ratio s) (whole w.number) s.above (sym may.same) w.same },
    )

    pub is_cut : (k : ℤ) → IsInstance I → AreLegal I ms → (IsWhole (ratio s) → ⊥) → IsCeiling (ratio s) k → neg_ℤ (pos most) ≤ℤ k → MakesCut I ms (numerators slots) k
    is_cut k good legal isnt ceiling low =
        let m = may.makes k ceiling low in
        record {
          cut = m.cut;
          fits = m.fits;
          rounds = λ w. isnt (record { number = w.number; same = IsSame-trans (ratio s) (low_sum I none ms) (whole w.number) (low-number I good ms legal) may.same w.same });
        }
