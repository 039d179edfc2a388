-- How a run begins, read from memory.
use Rattle.std.proofs.Common.{◌≡◌, ℕ, ◌+◌, ◌<◌, ◌≤◌, ℤ, pos, ◌*ℤ◌, ◌<ℤ◌, Bool, true, false, IsTrue, cond, nat_lt, Some, List, length, map, get_or, sym, ◌∙◌, ap, ap₂, subst, arith}
use Rattle.std.specs.Prelude.{slice_set, int_lt}
use Rattle.std.proofs.lemmas.Int.{ints}
use Rattle.std.proofs.lemmas.List.{map-set, length-map, get_or-set_same, get_or-set_other}
use Rattle.std.proofs.lemmas.Bool.{lt-ltb, le-ltb}
use Rattle.std.proofs.Math.ListN.{get_or-eq_default}
use Rattle.rational.specs.Ratio.{Ratio, IsBelow}
use Rattle.fraction.specs.Frac.{ratio}
use Rattle.fraction.specs.declared.frac.Frac.{Frac}
use Rattle.fraction.specs.declared.ends.End.{End}
use Rattle.fraction.specs.declared.ends.End.TheVariants.{At}
use Rattle.evidence.specs.Sums.{is_below}
use Rattle.evidence.specs.Instance.{Range, Instance, free, width}
use Rattle.evidence.proofs.Columns.{by_lt}
use Rattle.evidence.specs.Cases.{IsEmpty}
use Rattle.instance.specs.Program.{limit, range}
use Rattle.simplex.specs.declared.ends.Ends.{Ends}
use Rattle.bases.specs.Program.{is_fresh}
use Rattle.simplex_rules.specs.declared.columns.Status.{Status}
use Rattle.simplex_rules.specs.declared.columns.Status.TheVariants.{Basic}
use Rattle.simplex_rules.specs.Statuses.{is_basic, status_at, basic_in, first_status, IsFirstBasis}
use Rattle.simplex.specs.Cuts.{range_of, ranges_in, AreEndsOf}
use Rattle.no_cycles.proofs.Signs.{below_yes}
use Rattle.no_cycles.proofs.FirstBasis.{first_nonbasic}

is_below_of : (x y : Ratio) → IsBelow x y → is_below x y ≡ true
is_below_of x y h = decide (x.num *ℤ pos y.den) (y.num *ℤ pos x.den) h
  where
    decide : (a b : ℤ) → a <ℤ b → int_lt a b ≡ true
    decide a b e = grind (arith, ints)

pub crossed : (lb ub : End) (l h : Frac) → lb ≡ At l → ub ≡ At h → (b : Bool) → b ≡ is_below (ratio h) (ratio l) → IsTrue b → IsEmpty (range lb ub)
crossed lb ub l h el eh b is t = (ratio l, ratio h, ap limit el, ap limit eh, below_yes (ratio h) (ratio l) (sym is ∙ t))

pub crossed_back : (lb ub : End) (l h : Frac) → lb ≡ At l → ub ≡ At h → (b : Bool) → b ≡ is_below (ratio h) (ratio l) → IsEmpty (range lb ub) → IsTrue b
crossed_back lb ub l h el eh b is (x, y, ex, ey, less) =
    let fx : Some (ratio l) ≡ Some x = sym (ap limit el) ∙ ex in
    let fy : Some (ratio h) ≡ Some y = sym (ap limit eh) ∙ ey in
    let gx : ratio l ≡ x = cc in
    let gy : ratio h ≡ y = cc in
    is ∙ is_below_of (ratio h) (ratio l) (subst (λ z. IsBelow z (ratio l)) (sym gy) (subst (λ z. IsBelow y z) (sym gx) less))

-- a write to the list of ends
pub range_set : (es : List Ends) (i : ℕ) (e : Ends) → i < length es → ranges_in (slice_set es i e) i ≡ range_of e
range_set es i e h = ap (λ l. get_or l i free) (map-set range_of es i e) ∙ get_or-set_same (map range_of es) i (range_of e) free (omega (arith, length-map es range_of))

pub range_other : (es : List Ends) (i j : ℕ) (e : Ends) → (j ≡ i → ⊥) → ranges_in (slice_set es i e) j ≡ ranges_in es j
range_other es i j e h = ap (λ l. get_or l j free) (map-set range_of es i e) ∙ get_or-set_other (map range_of es) i j (range_of e) free h

abbrev pub first_of : List Ends → ℕ → ℕ → Status
first_of es n c = cond (nat_lt c n) (first_status (ranges_in es c).lb (ranges_in es c).ub) Basic

module _ (es : List Ends) (n : ℕ) (ss : List Status) (long : length es ≡ length ss) (within : n ≤ length ss) (first : (k : ℕ) → k < length ss → status_at ss k ≡ first_of es n k) where
  of_variable : (c : ℕ) → c < n → status_at ss c ≡ first_status (ranges_in es c).lb (ranges_in es c).ub
  of_variable c h = let t = lt-ltb c n h in first c (omega arith) ∙ ap (λ b. cond b (first_status (ranges_in es c).lb (ranges_in es c).ub) Basic) t

  of_row : (c : ℕ) → n ≤ c → status_at ss c ≡ Basic
  of_row c h =
      by_lt c (length ss)
      (λ l. let t = le-ltb c n h in first c l ∙ ap (λ b. cond b (first_status (ranges_in es c).lb (ranges_in es c).ub) Basic) t)
      (λ l. get_or-eq_default ss Basic l)

  pub first_fresh : (I : Instance) → AreEndsOf I es → width I ≡ n → IsFirstBasis I ss
  first_fresh I e w = record {
    count = sym long ∙ e.count;
    variables = λ j h. of_variable j (omega arith) ∙ ap₂ first_status (ap (λ (r : Range). r.lb) (sym (e.is j))) (ap (λ (r : Range). r.ub) (sym (e.is j)));
    rows = λ i h. of_row (width I + i) (omega arith);
  }

  pub first_basic : (c : ℕ) → basic_in ss c ≡ is_fresh n c
  first_basic c =
      by_lt c n
      (λ h. let t = lt-ltb c n h in ap is_basic (of_variable c h) ∙ first_nonbasic (ranges_in es c).lb (ranges_in es c).ub ∙ sym (ap (λ b. cond b false true) t))
      (λ h. let t = le-ltb c n h in ap is_basic (of_row c h) ∙ sym (ap (λ b. cond b false true) t))
