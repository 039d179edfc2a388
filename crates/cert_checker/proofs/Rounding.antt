-- What the forms of rows are rounded to: up where a variable has a lower end, down where it has none.
use Rattle.std.proofs.Common.{◌≡◌, ℕ, zero, suc, ◌+◌, ◌*◌, ◌<◌, ◌≤◌, IsSome, ℤ, pos, negsuc, neg_ℤ, ◌+ℤ◌, ◌*ℤ◌, ◌≤ℤ◌, ◌<ℤ◌, cond, Option, None, Some, IsTrue, List, length, slice_index_or, arith, refl, sym, ◌∙◌, ap, subst}
use Rattle.std.specs.Prelude.{◌/◌, unsigned_abs}
use Rattle.std.specs.Int.{int_div_euclid}
use Rattle.std.proofs.Math.Nat.{lt-div-mul-add, suc-mul, mul-le-mul_left}
use Rattle.std.proofs.lemmas.Nat.{div-add-mod'}
use Rattle.std.proofs.lemmas.Int.{ints}
use Rattle.rational.specs.Ratio.{Ratio, whole, sum, negative, IsNumber, IsSame, IsFloor}
use Rattle.rational.specs.Width.{most, SumFits}
use Rattle.rational.proofs.Integers.{neg-times}
use Rattle.std.proofs.lemmas.List.{length-map, get_or-map}
use Rattle.fraction.specs.Frac.{ratio}
use Rattle.fraction.specs.declared.frac.Frac.{Frac}
use Rattle.fraction.specs.declared.ends.End.{End}
use Rattle.fraction.specs.declared.ends.End.TheVariants.{At, NegInf, Inf}
use Rattle.instance.specs.Program.{limit}
use Rattle.evidence.specs.Sums.{none, IsCeiling}
use Rattle.evidence.specs.OneDenominator.{number_at}
use Rattle.evidence.specs.Instance.{Instance, IsInstance, Variable, no_variable, width, variable_at}
use Rattle.evidence.specs.Cases.{Multiplier, form, left_at, put_before, filled, completed, low_sum, AreLegal}
use Rattle.evidence.specs.Width.{LowFits, RowsFit}
use Rattle.evidence.specs.RowRounds.{IsRowsRound, numbers_of}
use Rattle.evidence.proofs.Numbers.{◌≈◌, ◌≲◌, ◌⋖◌, ≈-sym, ≲-from, ≲-trans, ≲-⋖}
use Rattle.evidence.proofs.WholeSums.{whole-number}
use Rattle.evidence.proofs.Columns.{by_bool, none-number}
use Rattle.evidence.proofs.Completed.{form-of_numbers}
use Rattle.evidence.proofs.UniqueRows.{one_ceiling}
use Rattle.evidence.proofs.RowRounds.{one_floor, row_numbers}
use Rattle.certificate.specs.declared.lists.Mult.{Mult}
use Rattle.certificate.specs.Meanings.{multipliers}
use Rattle.case_tree.specs.declared.cuts.Cut.{Cut}
use Rattle.case_tree.specs.Cuts.{cut, cut_variable}
use Rattle.cert_checker.specs.Lefts.{LeftFits, HasOwnEnd, RowsStand}
use Rattle.evidence.specs.Rounds.{RoundByRows}
use Rattle.cert_checker.specs.Programs.{HoldsRow, GivesRow, numerator, numerators}
use Rattle.cert_checker.specs.Slots.{HoldsLow}
use Rattle.cert_checker.specs.RowRounds.{floor, ceiling, toward, rounded, aimed, all_of}
use Rattle.cert_checker.proofs.ColumnSums.{form-number}
use Rattle.cert_checker.proofs.Widths.{cut-instance}
use Rattle.cert_checker.proofs.RoundRows.{ceiling_same, numerator_at}
use Rattle.cert_checker.proofs.RowLeaves.{parts_left, legal_left, all_same}

floor_at : (n : ℤ) (d : ℕ) → 0 < d → IsFloor (record { num = n; den = d }) (int_div_euclid n (pos d))
floor_at (pos n) d p =
    let a = div-add-mod' n d in
    let b : n < n / d * d + d = lt-div-mul-add p in
    let c = suc-mul (n / d) d in
    let q : pos (n / d) +ℤ pos 1 ≡ pos (suc (n / d)) = omega (arith, ints) in
    record { low = omega (arith, ints); high = subst (λ z. pos n <ℤ (z *ℤ pos d)) (sym q) (omega (arith, ints)) }
floor_at (negsuc n) d p =
    let a = div-add-mod' n d in
    let b : n < n / d * d + d = lt-div-mul-add p in
    let c = suc-mul (n / d) d in
    let q : negsuc (n / d) +ℤ pos 1 ≡ neg_ℤ (pos (n / d)) = omega (arith, ints) in
    let g = neg-times (pos (n / d)) (pos d) in
    record { low = omega (arith, ints); high = subst (λ z. negsuc n <ℤ (z *ℤ pos d)) (sym q) (omega (arith, ints)) }

pub floor_is : (x : Ratio) → IsNumber x → IsFloor x (floor x)
floor_is x p = floor_at x.num x.den p

pub ceiling_is : (x : Ratio) → IsNumber x → IsCeiling x (ceiling x)
ceiling_is x p =
    let f : ℤ = floor (negative x) in
    let b = floor_at (neg_ℤ x.num) x.den p in
    let low = b.low in
    let high = b.high in
    let e = neg-times f (pos x.den) in
    let g = neg-times (f +ℤ pos 1) (pos x.den) in
    let h : neg_ℤ f +ℤ negsuc 0 ≡ neg_ℤ (f +ℤ pos 1) = omega (arith, ints) in
    record { low = subst (λ z. (z *ℤ pos x.den) <ℤ x.num) (sym h) (omega (arith, ints)); high = omega (arith, ints) }

-- an end that isn't a number is none
pub no_end : (e : End) → ((x : Frac) → e ≡ At x → ⊥) → limit e ≡ None
no_end (At x) other = absurd (other x refl)
no_end NegInf other = refl
no_end Inf other = refl

-- a floor isn't below the least size
pub floor_low : (x : Ratio) (k : ℤ) → 1 ≤ x.den → unsigned_abs x.num ≤ most → IsFloor x k → neg_ℤ (pos most) ≤ℤ k
floor_low x (pos n) one small f = omega (arith, ints)
floor_low x (negsuc n) one small f =
    let e : negsuc n +ℤ pos 1 ≡ neg_ℤ (pos n) = omega (arith, ints) in
    let a : x.num <ℤ (neg_ℤ (pos n) *ℤ pos x.den) = subst (λ z. x.num <ℤ (z *ℤ pos x.den)) e f.high in
    let b : x.num <ℤ neg_ℤ (pos (n * x.den)) = subst (λ z. x.num <ℤ z) (neg-times (pos n) (pos x.den)) a in
    let c : n * x.den + 1 ≤ most = omega (arith, ints) in
    let d : n * 1 ≤ n * x.den = mul-le-mul_left n one in
    omega (arith, ints)

-- the same number is rounded to the same
pub floor_same : (x y : Ratio) (k : ℤ) → x ≈ y → IsFloor x k → IsFloor y k
floor_same x y k e f =
    let low = f.low in
    let high = f.high in
    let under : whole k ≲ x = record { left = whole-number k; right = e.left; is = omega (arith, ints) } in
    let over : x ⋖ whole (k +ℤ pos 1) = record { left = e.left; right = whole-number (k +ℤ pos 1); is = omega (arith, ints) } in
    let below = ≲-trans under (≲-from e) in
    let above = ≲-⋖ (≲-from (≈-sym e)) over in
    let b = below.is in
    let a = above.is in
    record { low = omega (arith, ints); high = omega (arith, ints) }

pub toward_same : (o : Option Ratio) (x y : Ratio) → x ≈ y → toward o x ≡ toward o y
toward_same None x y e = one_floor y (floor x) (floor y) (floor_same x y (floor x) e (floor_is x e.left)) (floor_is y e.right)
toward_same (Some low) x y e = one_ceiling y (ceiling x) (ceiling y) (ceiling_same x y (ceiling x) e (ceiling_is x e.left)) (ceiling_is y e.right)

-- wanted forms that are equal below a width complete to one list
pub filled_same : (I : Instance) (s t : ℕ → Ratio) (ms : List Multiplier) (n : ℕ) (rest : List Multiplier) → ((j : ℕ) → j < n → s j ≡ t j) → filled I s ms n rest ≡ filled I t ms n rest
filled_same I s t ms zero rest e = refl
filled_same I s t ms (suc n) rest e =
    ap (λ (x : Ratio). filled I s ms n (put_before (record { column = n; by = sum x (negative (form I ms n)) }) rest)) (e n (omega arith))
    ∙ filled_same I s t ms n (put_before (record { column = n; by = left_at I t ms n }) rest) (λ j h. e j (omega arith))

-- what a round of rows says of its forms
module _ (I : Instance) (good : IsInstance I) (ms : List Multiplier) (cs : List ℤ) (k : ℤ) (r : IsRowsRound I ms cs k) where
  form-is : (j : ℕ) → IsNumber (form I ms j)
  form-is j = form-of_numbers I good ms (row_numbers I ms cs k r) j

  at_whole : (j : ℕ) → j < width I → IsTrue (variable_at I j).whole → (o : Option Ratio) → (variable_at I j).range.lb ≡ o → number_at cs j ≡ toward o (form I ms j)
  at_whole j h w None e = one_floor (form I ms j) (number_at cs j) (floor (form I ms j)) (r.down j h w e) (floor_is (form I ms j) (form-is j))
  at_whole j h w (Some low) e =
      let some : IsSome (variable_at I j).range.lb = subst (λ o. IsSome o) (sym e) refl in
      one_ceiling (form I ms j) (number_at cs j) (ceiling (form I ms j)) (r.up j h w some) (ceiling_is (form I ms j) (form-is j))

  number_is : (j : ℕ) → j < width I → number_at cs j ≡ rounded I ms j
  number_is j h =
      by_bool (variable_at I j).whole
      (λ w. at_whole j h w (variable_at I j).range.lb refl ∙ sym (ap (λ b. cond b (toward (variable_at I j).range.lb (form I ms j)) (pos 0)) w))
      (λ no. r.others j h (λ t. cc) ∙ sym (ap (λ b. cond b (toward (variable_at I j).range.lb (form I ms j)) (pos 0)) no))

  all_is : completed I (numbers_of cs) ms ≡ all_of I ms
  all_is = filled_same I (numbers_of cs) (aimed I ms) ms (width I) ms (λ j h. ap whole (number_is j h))

  pub round_parts : AreLegal I ms × ((j : ℕ) → j < width I → HasOwnEnd I (aimed I ms) ms j)
  round_parts = parts_left I (aimed I ms) ms (subst (λ l. AreLegal I l) all_is r.legal)

  module _ (w : RowsFit I none (numbers_of cs) ms) where
    pub round_left : (j : ℕ) → j < width I → LeftFits I (aimed I ms) ms j
    round_left j h = record { rows = w.forms j h; left = subst (λ n. SumFits (whole n) (negative (form I ms j))) (number_is j h) (w.left j h) }

    pub round_low : LowFits I none (all_of I ms)
    round_low = subst (λ l. LowFits I none l) all_is w.low

-- the number that the checker rounds a form to
pub aimed_is : (I : Instance) → IsInstance I → (cs : List Cut) (ms : List Mult) (j : ℕ) (c : Cut) → j < length cs → c ≡ slice_index_or cs j c → (f : Frac) → IsSame (ratio f) (form (cut I cs) (multipliers ms) j) → whole (cond c.var.whole (toward (cut_variable c).range.lb (ratio f)) (pos 0)) ≡ aimed (cut I cs) (multipliers ms) j
aimed_is I good cs ms j c h is f same =
    let here : Ratio = form (cut I cs) (multipliers ms) j in
    let e : variable_at (cut I cs) j ≡ cut_variable c = get_or-map cut_variable cs j c no_variable h ∙ sym (ap cut_variable is) in
    let near : ratio f ≈ here = record { left = f.above; right = form-number (cut I cs) (cut-instance I good cs) ms j; is = same } in
    ap (λ z. whole (cond c.var.whole z (pos 0))) (toward_same (cut_variable c).range.lb (ratio f) here near)
    ∙ sym (ap (λ (v : Variable). whole (cond v.whole (toward v.range.lb here) (pos 0))) e)

pub aimed-number : (I : Instance) (ms : List Multiplier) (j : ℕ) → IsNumber (aimed I ms j)
aimed-number I ms j = whole-number (rounded I ms j)

-- the slots' numbers, and the sum of all ends rounded up, are the row of a round of rows
module _ (I : Instance) (good : IsInstance I) (ms : List Multiplier) (slots : List (Option Frac)) (stand : RowsStand I (aimed I ms) ms) (long : length slots ≡ width I) (row : HoldsRow (width I) (aimed I ms) slots) where
  abbrev cs : List ℤ
  cs = numerators slots

  slot_is : (j : ℕ) → j < width I → aimed I ms j ≡ whole (number_at cs j)
  slot_is j h =
      let (x, at, is) = row.number j h in
      let n : number_at cs j ≡ x.numer = numerator_at slots j x at in
      let m : x.numer ≡ rounded I ms j = ap (λ (r : Ratio). r.num) is in
      ap whole (sym m ∙ sym n)

  number_at_slot : (j : ℕ) → j < width I → number_at cs j ≡ rounded I ms j
  number_at_slot j h = sym (ap (λ (r : Ratio). r.num) (slot_is j h))

  same_list : all_of I ms ≡ completed I (numbers_of cs) ms
  same_list = filled_same I (aimed I ms) (numbers_of cs) ms (width I) ms slot_is

  whole_number : (j : ℕ) → j < width I → IsTrue (variable_at I j).whole → number_at cs j ≡ toward (variable_at I j).range.lb (form I ms j)
  whole_number j h w = number_at_slot j h ∙ ap (λ b. cond b (toward (variable_at I j).range.lb (form I ms j)) (pos 0)) w

  form_is : (j : ℕ) → IsNumber (form I ms j)
  form_is j = let l = stand.legal in form-of_numbers I good ms l.numbers j

  up_at : (j : ℕ) → j < width I → IsTrue (variable_at I j).whole → (o : Option Ratio) → (variable_at I j).range.lb ≡ o → IsSome o → IsCeiling (form I ms j) (number_at cs j)
  up_at j h w None e some = absurd (cc)
  up_at j h w (Some low) e some = subst (IsCeiling (form I ms j)) (sym (whole_number j h w ∙ ap (λ o. toward o (form I ms j)) e)) (ceiling_is (form I ms j) (form_is j))

  down_at : (j : ℕ) → j < width I → IsTrue (variable_at I j).whole → (variable_at I j).range.lb ≡ None → IsFloor (form I ms j) (number_at cs j)
  down_at j h w e = subst (IsFloor (form I ms j)) (sym (whole_number j h w ∙ ap (λ o. toward o (form I ms j)) e)) (floor_is (form I ms j) (form_is j))

  not_whole : (j : ℕ) → j < width I → (IsTrue (variable_at I j).whole → ⊥) → number_at cs j ≡ pos 0
  not_whole j h differs =
      by_bool (variable_at I j).whole (λ w. absurd (differs w))
      (λ no. number_at_slot j h ∙ ap (λ b. cond b (toward (variable_at I j).range.lb (form I ms j)) (pos 0)) no)

  pub row_round_made : (s : Frac) (k : ℤ) → HoldsLow I none (all_of I ms) (Some s) → IsCeiling (ratio s) k → neg_ℤ (pos most) ≤ℤ k → GivesRow I (RoundByRows ms) slots k
  row_round_made s k low ceiling least =
      let legal = legal_left I good (aimed I ms) (aimed-number I ms) ms stand in
      let l = stand.legal in
      record {
        cut = record {
          rows = stand.rows;
          count = length-map slots numerator ∙ long;
          up = λ j h w some. up_at j h w (variable_at I j).range.lb refl some;
          down = down_at;
          others = not_whole;
          legal = subst (AreLegal I) same_list legal;
          rounded = ceiling_same (ratio s) (low_sum I none (completed I (numbers_of cs) ms)) k
              (subst (λ ns. ratio s ≈ low_sum I none ns) same_list (record { left = s.above; right = let e = all_same I good (aimed I ms) (aimed-number I ms) ms l.numbers none none-number in e.right; is = low.1 })) ceiling;
        };
        fits = record {
          forms = λ j h. (stand.lefts j h).fits.rows;
          left = λ j h. subst (λ t. SumFits t (negative (form I ms j))) (slot_is j h) (stand.lefts j h).fits.left;
          low = subst (λ ns. LowFits I none ns) same_list low.0;
        };
        low = least;
        row = record { number = λ j h. let (x, at, is) = row.number j h in (x, at, is ∙ slot_is j h) };
      }
