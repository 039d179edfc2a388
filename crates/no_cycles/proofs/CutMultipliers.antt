-- What is left of the entries of an equation makes legal multipliers.
use Rattle.std.proofs.Common.{◌≡◌, ℕ, zero, suc, ◌+◌, ◌<◌, ℤ, pos, negsuc, ◌*ℤ◌, ◌≤ℤ◌, false, IsSome, List, arith, refl, sym, ◌∙◌, ap, subst}
use Rattle.std.proofs.Math.IntN.{zero-*ℤ}
use Rattle.std.proofs.lemmas.Int.{ints}
use Rattle.rational.specs.Ratio.{Ratio, whole, sum, negative, IsNumber, IsSame, IsFloor}
use Rattle.rational.proofs.Integers.{neg-times, more-times, most-from_times}
use Rattle.evidence.specs.Instance.{Range, Instance, width, height, column_at}
use Rattle.evidence.specs.Cases.{Multiplier, AreLegal, end_by, end_of}
use Rattle.evidence.specs.Rounds.{IsCeiling}
use Rattle.evidence.proofs.Columns.{none-number}
use Rattle.evidence.proofs.Examples.{times_one}
use Rattle.bases.specs.Dictionary.{Entries}
use Rattle.bases.specs.Program.{goal_column}
use Rattle.simplex_rules.specs.declared.columns.Status.{Status}
use Rattle.simplex_rules.specs.declared.columns.Status.TheVariants.{Basic, Lower, Upper, Zero}
use Rattle.simplex_rules.specs.Statuses.{status_at, HasDictionary, HasPlace, IsPlaced}
use Rattle.simplex_rules.proofs.MultiplierLists.{collected_all, collected_ascending}
use Rattle.search_rules.specs.Cuts.{IsLessBy, IsLeftOver, NoneIsLeftAtZero, AreCutMultipliers}

-- numbers that are the same are on the same side of 0
not_under : (r s : Ratio) → IsSame r s → 0 < s.den → pos 0 ≤ℤ s.num → pos 0 ≤ℤ r.num
not_under r s e d h =
    let same : r.num *ℤ pos s.den ≡ s.num *ℤ pos r.den = e in
    let a = more-times (pos 0) s.num r.den h in
    let y = zero-*ℤ (pos s.den) in
    let z = zero-*ℤ (pos r.den) in
    most-from_times (pos 0) r.num s.den d (omega (arith, ints))

not_over : (r s : Ratio) → IsSame r s → 0 < s.den → s.num ≤ℤ pos 0 → r.num ≤ℤ pos 0
not_over r s e d h =
    let same : r.num *ℤ pos s.den ≡ s.num *ℤ pos r.den = e in
    let a = more-times s.num (pos 0) r.den h in
    let y = zero-*ℤ (pos s.den) in
    let z = zero-*ℤ (pos r.den) in
    most-from_times r.num (pos 0) s.den d (omega (arith, ints))

module _ (x r : Ratio) (k : ℤ) (number : IsNumber x) (less : IsLessBy x k r) where
  below_den : 0 < (sum x (negative (whole k))).den
  below_den = omega arith

  -- less its floor no number is under 0, and less its ceiling none is over it
  less_floor : IsFloor x k → pos 0 ≤ℤ r.num
  less_floor f =
      let low = f.low in
      let e = neg-times k (pos x.den) in
      let o = times_one x.num in
      not_under r (sum x (negative (whole k))) less.same below_den (omega (arith, ints))

  less_ceiling : IsCeiling x k → r.num ≤ℤ pos 0
  less_ceiling f =
      let high = f.high in
      let e = neg-times k (pos x.den) in
      let o = times_one x.num in
      not_over r (sum x (negative (whole k))) less.same below_den (omega (arith, ints))

-- what is left has a number, and an end on its side
left_number : (s : Status) (x r : Ratio) → IsNumber x → IsLeftOver s x r → IsNumber r
left_number Basic x r n e = subst IsNumber (sym e) none-number
left_number Lower x r n (k, f, l) = let a = l.reduced in a.0
left_number Upper x r n (k, f, l) = let a = l.reduced in a.0
left_number Zero x r n e = subst IsNumber (sym e) n

up_end : (z : ℤ) (g : Range) → pos 0 ≤ℤ z → IsSome g.lb → IsSome (end_by z g)
up_end (pos n) g h s = s
up_end (negsuc n) g h s = absurd (omega (arith, ints))

down_end : (z : ℤ) (g : Range) → z ≤ℤ pos 0 → (z ≡ pos 0 → ⊥) → IsSome g.ub → IsSome (end_by z g)
down_end (pos zero) g h nonzero s = absurd (nonzero refl)
down_end (pos (suc n)) g h nonzero s = absurd (omega (arith, ints))
down_end (negsuc n) g h nonzero s = s

left_end : (s : Status) (g : Range) (x r : Ratio) → IsNumber x → HasPlace g s → IsLeftOver s x r → (s ≡ Zero → x.num ≡ pos 0) → (r.num ≡ pos 0 → ⊥) → IsSome (end_by r.num g)
left_end Basic g x r n place e zeros nonzero = absurd (nonzero (ap (λ (q : Ratio). q.num) e))
left_end Lower g x r n place (k, f, l) zeros nonzero = up_end r.num g (less_floor x r k n l f) place
left_end Upper g x r n place (k, f, l) zeros nonzero = down_end r.num g (less_ceiling x r k n l f) nonzero place.0
left_end Zero g x r n place e zeros nonzero = absurd (nonzero (ap (λ (q : Ratio). q.num) e ∙ zeros refl))

-- so the multipliers of a cut are legal
pub legal : (I : Instance) (ss : List Status) (u : Entries) (j : ℕ) (ms : List Multiplier) → IsPlaced I ss → HasDictionary I false ss u → NoneIsLeftAtZero I ss u j → AreCutMultipliers I ss u j ms → AreLegal I ms
legal I ss u j ms placed dict zeros are =
    let n = goal_column I in
    let y = are.left in
    let number : (c : ℕ) → IsNumber (u j c) = λ c. let a = dict.entries.reduced j c in a.0 in
    subst (AreLegal I) (sym are.is) (record {
      numbers = collected_all y (λ m. IsNumber m.by) n (λ c h e. left_number (status_at ss c) (u j c) (y c) (number c) (are.are c h));
      columns = collected_all y (λ m. m.column < width I + height I) n (λ c h e. h);
      ascending = collected_ascending y n;
      nonzero = collected_all y (λ m. m.by.num ≡ pos 0 → ⊥) n (λ c h e. e);
      ends = collected_all y (λ m. IsSome (end_of I m)) n (λ c h e. left_end (status_at ss c) (column_at I c) (u j c) (y c) (number c) (placed.places c h) (are.are c h) (zeros c h) e);
    })
