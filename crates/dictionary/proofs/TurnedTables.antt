-- A pivot of a table is a pivot of the entries that it says.
use Rattle.std.proofs.Common.{◌≡◌, ℕ, zero, suc, ◌+◌, ◌-◌, ◌*◌, ◌<◌, ◌≤◌, ◌⊎◌, inl, inr, ℤ, pos, negsuc, ◌*ℤ◌, Bool, cond, nat_lt, arith, refl, sym, ◌∙◌, ap, ap₂, subst}
use Rattle.std.proofs.Math.IntN.{zero-*ℤ}
use Rattle.std.proofs.lemmas.Bool.{lt-ltb, le-ltb, eq-eqb, ne_eqb}
use Rattle.rational.specs.Ratio.{Ratio, whole, sum, product, negative, inverse, quotient, IsNumber, IsSame}
use Rattle.rational.specs.Width.{IsReduced, ReducedFits}
use Rattle.evidence.specs.Sums.{none}
use Rattle.evidence.specs.Width.{TermFits}
use Rattle.evidence.proofs.Columns.{by_eq, by_lt, none-number, pick}
use Rattle.evidence.proofs.Numbers.{◌≈◌, ≈-from, ≈-sym, ◌⊙◌, sum-≈, product-≈, sum-number, product-number}
use Rattle.evidence.proofs.Inverses.{inverse-number, negative-negative}
use Rattle.evidence.proofs.Fits.{whole-reduced, no_factor}
use Rattle.bases.specs.Dictionary.{Entries}
use Rattle.bases.specs.Pivot.{solved_at, replaced_at, IsPivoted, PivotFits}
use Rattle.bases.proofs.Pivots.{solved-number, replaced_unlisted}
use Rattle.dictionary.specs.Numbers.{HasNumber}
use Rattle.dictionary.specs.Rows.{IsTableTurned, TableFits, IsSolvedFor, SolutionFits, IsOverPlaces, PivotHasRoom, replacement_cost, replacements_cost}
use Rattle.dictionary.specs.Steps.{unless_zero, nonzeros, count_all, touched, pivot_steps}
use Rattle.dictionary.proofs.Rows.{term_none, zero_fit, zero_or}
use Rattle.dictionary.proofs.Nonzeros.{nonzeros_same, some_of_all, all_same, few_over}
use Rattle.dictionary.proofs.SolvedNumbers.{neg_fits}
use Rattle.dictionary.proofs.SolvedFractions.{own_fits}
use Rattle.dictionary.proofs.Changes.{term_other}
use Rattle.dictionary.proofs.Exchanges.{AreExchanged, apart, new_b, new_e, new_other, one_place, one_column, places_after, solved_over}

module _ (n : ℕ) (place : ℕ → ℕ) (T : Entries) where
  -- the entries of a table, by the places of its columns
  abbrev pub told : Entries
  told a c = cond (nat_lt (place a) n) none (T (place a - n) c)

  pub listed : (a c : ℕ) → n ≤ place a → told a c ≡ T (place a - n) c
  listed a c h = rw (le-ltb (place a) n h) refl

  pub unlisted : (a c : ℕ) → place a < n → told a c ≡ none
  unlisted a c h = rw (lt-ltb (place a) n h) refl

  pub told-number : ((r c : ℕ) → IsNumber (T r c)) → (a c : ℕ) → IsNumber (told a c)
  told-number number a c = pick IsNumber (nat_lt (place a) n) none (T (place a - n) c) none-number (number (place a - n) c)

-- the row at b's place is solved for e
module _ (n : ℕ) (place : ℕ → ℕ) (T : Entries) (b e : ℕ) (from : n ≤ place b) (numbers : (r c : ℕ) → IsNumber (T r c)) (stands : HasNumber (T (place b - n)) e) where
  abbrev u : Entries
  u = told n place T

  abbrev row : ℕ → Ratio
  row = T (place b - n)

  own : u b e ≡ row e
  own = listed n place T b e from

  pub nonzero : (u b e).num ≡ pos 0 → ⊥
  nonzero z = stands (sym (ap (λ (w : Ratio). w.num) own) ∙ z)

  at_b : (c : ℕ) → c ≡ b → solved_at u b e c ≡ quotient (whole (pos 1)) (row e)
  at_b c h = ap (λ (y : Bool). cond y (quotient (whole (pos 1)) (u b e)) (negative (quotient (u b c) (u b e)))) (eq-eqb c b h) ∙ ap (λ (w : Ratio). quotient (whole (pos 1)) w) own

  off_b : (c : ℕ) → (c ≡ b → ⊥) → solved_at u b e c ≡ negative (quotient (row c) (row e))
  off_b c h =
      ap (λ (y : Bool). cond y (quotient (whole (pos 1)) (u b e)) (negative (quotient (u b c) (u b e)))) (ne_eqb c b h)
      ∙ ap (λ (w : Ratio). negative (quotient w (u b e))) (listed n place T b c from) ∙ ap (λ (w : Ratio). negative (quotient (row c) w)) own

  -- the solved row has the entries of the equation solved
  pub solved_near : (by : ℕ → Ratio) → ((c : ℕ) → IsNumber (by c)) → IsSolvedFor row b e by → (c : ℕ) → (c ≡ e → ⊥) → by c ≈ solved_at u b e c
  solved_near by number s c ce = record {
    left = number c;
    right = solved-number u (told-number n place T numbers) b e nonzero c;
    is = by_eq c b
        (λ h. subst (λ (w : Ratio). IsSame (by c) w) (sym (at_b c h)) (subst (λ j. IsSame (by j) (quotient (whole (pos 1)) (row e))) (sym h) s.own))
        (λ h. subst (λ (w : Ratio). IsSame (by c) w) (sym (off_b c h)) (s.others c ce h));
  }

  -- its quotients fit exactly where the equation's do
  pub solution_fits : SolutionFits row e → (c : ℕ) → (c ≡ e → ⊥) → ReducedFits (solved_at u b e c)
  solution_fits fits c ce = by_eq c b
      (λ h. subst (λ (w : Ratio). ReducedFits w) (sym (at_b c h)) fits.lead)
      (λ h. subst (λ (w : Ratio). ReducedFits w) (sym (off_b c h)) (neg_fits (quotient (row c) (row e)) (fits.terms c)))

  pub solution_back : (b ≡ e → ⊥) → (row b).num ≡ pos 0 → ((c : ℕ) → (c ≡ e → ⊥) → ReducedFits (solved_at u b e c)) → SolutionFits row e
  solution_back d absent fits = record {
    lead = subst (λ (w : Ratio). ReducedFits w) (at_b b refl) (fits b d);
    terms = λ c. by_eq c e
        (λ i. subst (λ j. ReducedFits (quotient (row j) (row e))) (sym i) (own_fits (row e) (numbers (place b - n) e) stands))
        (λ i. by_eq c b
        (λ h. zero_fit (quotient (row c) (row e)) (product-number (row c) (inverse (row e)) (numbers (place b - n) c) (inverse-number (row e) stands)) (ap (λ (z : ℤ). z *ℤ (inverse (row e)).num) (ap (λ j. (row j).num) h ∙ absent) ∙ zero-*ℤ (inverse (row e)).num))
        (λ h. subst (λ (w : Ratio). ReducedFits w) (negative-negative (quotient (row c) (row e))) (neg_fits (negative (quotient (row c) (row e))) (subst (λ (w : Ratio). ReducedFits w) (off_b c h) (fits c i)))));
  }

-- a table before and after a pivot
pub record AreTurned (n count : ℕ) (at place to new : ℕ → ℕ) (b e : ℕ) (T U : Entries) : Type 0 where
  pub exchanged : AreExchanged n (n + count) at place to new b e
  pub past : (c : ℕ) → n + count ≤ c → place c < n
  pub numbers : (r c : ℕ) → IsNumber (T r c)
  pub reduced : (r c : ℕ) → IsReduced (U r c)
  pub beyond : (r c : ℕ) → count ≤ r → U r c ≡ none
  pub stands : (T (place b - n) e).num ≡ pos 0 → ⊥
  pub turned : IsTableTurned (place b - n) b e T U count

module _ (n count : ℕ) (at place to new : ℕ → ℕ) (b e : ℕ) (T U : Entries) (x : AreTurned n count at place to new b e T U) where
  abbrev before : Entries
  before = told n place T

  abbrev after : Entries
  after = told n new U

  ex : AreExchanged n (n + count) at place to new b e
  ex = x.exchanged

  b_from : n ≤ place b
  b_from = let y = ex in y.b_from

  before-number : (a c : ℕ) → IsNumber (before a c)
  before-number = told-number n place T x.numbers

  U-number : (r c : ℕ) → IsNumber (U r c)
  U-number r c = (x.reduced r c).0

  near_u : (c : ℕ) → (c ≡ e → ⊥) → U (place b - n) c ≈ solved_at before b e c
  near_u = let t = x.turned in solved_near n place T b e b_from x.numbers x.stands (U (place b - n)) (U-number (place b - n)) t.own

  inside_of : (a : ℕ) → n ≤ place a → (a < n + count) × (place a - n < count)
  inside_of a l =
      by_lt a (n + count)
      (λ h. (h, let y = ex in let q = y.places in let s = q.stands a h in omega arith))
      (λ h. let s = x.past a h in absurd (omega arith))

  other_row : (a : ℕ) → n ≤ place a → (a ≡ b → ⊥) → place a - n ≡ place b - n → ⊥
  other_row a l d h =
      let y = ex in let f = b_from in let i = inside_of a l in
      d (one_column (n + count) at place y.places a b i.0 y.b_in (omega arith))

  -- another equation
  one_replaced : (a c : ℕ) → n ≤ place a → (a ≡ b → ⊥) → (c ≡ e → ⊥) → U (place a - n) c ≈ replaced_at before b e a c
  one_replaced a c l ab ce =
      let r = place a - n in
      let p = place b - n in
      let t = x.turned in
      let s = t.others r (inside_of a l).1 (other_row a l ab) in
      let joint : U (place a - n) c ≈ sum (T (place a - n) c) (product (T (place a - n) e) (U (place b - n) c)) = record { left = U-number r c; right = sum-number (T r c) (product (T r e) (U p c)) (x.numbers r c) (product-number (T r e) (U p c) (x.numbers r e) (U-number p c)); is = s.others c ce } in
      joint ⊙ sum-≈ (≈-from (x.numbers r c) (sym (listed n place T a c l))) (product-≈ (≈-from (x.numbers r e) (sym (listed n place T a e l))) (near_u c ce))

  pub pivoted : IsPivoted before b e after
  pivoted = record {
    reduced = λ a c. pick IsReduced (nat_lt (new a) n) none (U (new a - n) c) (whole-reduced (pos 0)) (x.reduced (new a - n) c);
    leaving = λ c. unlisted n new U b c (let f = new_b n (n + count) at place to new b e ex in let y = ex in let g = y.e_below in omega arith);
    entering = λ a. by_lt (new a) n (λ l. unlisted n new U a e l) (λ l. listed n new U a e l ∙ gone (new a - n));
    solved = λ c ce.
        let f = new_e n (n + count) at place to new b e ex in
        let s = near_u c ce in
        subst (λ (w : Ratio). IsSame w (solved_at before b e c)) (sym (listed n new U e c (let g = b_from in omega arith) ∙ ap (λ j. U (j - n) c) f)) s.is;
    replaced = λ a c ab ae ce.
        let f = new_other n (n + count) at place to new b e ex a ab ae in
        by_lt (place a) n
        (λ l.
        let z = ≈-sym (replaced_unlisted before before-number b e (nonzero n place T b e b_from x.numbers x.stands) a c (unlisted n place T a c l) (unlisted n place T a e l)) in
        subst (λ (w : Ratio). IsSame w (replaced_at before b e a c)) (sym (unlisted n new U a c (omega arith))) z.is)
        (λ l.
        let s = one_replaced a c l ab ce in
        subst (λ (w : Ratio). IsSame w (replaced_at before b e a c)) (sym (listed n new U a c (omega arith) ∙ ap (λ j. U (j - n) c) f)) s.is);
  }
    where
      gone : (r : ℕ) → U r e ≡ none
      gone r = by_lt r count
          (λ l. by_eq r (place b - n)
          (λ h. let t = x.turned in let s = t.own in ap (λ j. U j e) h ∙ s.gone)
          (λ h. let t = x.turned in let s = t.others r l h in s.gone))
          (λ l. x.beyond r e l)

  -- a pivot of the table that fits is one of the entries that does
  pub turned_fits : TableFits (place b - n) b e T count → PivotFits before b e
  turned_fits fits = record {
    row = solution_fits n place T b e b_from x.numbers x.stands fits.own;
    others = λ a c ab ce. by_lt (place a) n
        (λ l. no_factor (before a c) (before a e) (solved_at before b e c) (ap (λ (w : Ratio). w.num) (unlisted n place T a e l)))
        (λ l.
        let i = inside_of a l in
        let t = x.turned in
        let f = fits.others (U (place b - n)) (x.reduced (place b - n)) t.own (place a - n) i.1 (other_row a l ab) in
        let g = term_other (T (place a - n) c) (T (place a - n) e) (U (place b - n) c) (solved_at before b e c) (x.numbers (place a - n) c) (x.numbers (place a - n) e) (near_u c ce) (f.terms c) in
        subst (λ (w : Ratio). TermFits w (before a e) (solved_at before b e c)) (sym (listed n place T a c l)) (subst (λ (w : Ratio). TermFits (T (place a - n) c) w (solved_at before b e c)) (sym (listed n place T a e l)) g));
  }

-- three times a count, where there is one
times_three : (z : ℤ) (x : ℕ) → unless_zero z (3 * x) ≡ 3 * unless_zero z x
times_three (pos zero) x = refl
times_three (pos (suc m)) x = refl
times_three (negsuc m) x = refl

three_all : (m : ℕ) (f : ℕ → ℕ) → count_all m (λ r. 3 * f r) ≡ 3 * count_all m f
three_all zero f = refl
three_all (suc m) f = let e = three_all m f in omega arith

-- a table over the first n places, before a pivot
module _ (n count : ℕ) (at place to new : ℕ → ℕ) (b e : ℕ) (T : Entries) (ex : AreExchanged n (n + count) at place to new b e) (over : (r : ℕ) → r < count → IsOverPlaces n place (T r)) where
  pub own_in : place b - n < count
  own_in = let q = ex.places in let l = q.stands b ex.b_in in let f = ex.b_from in omega arith

  -- each row has room for what the pivot makes of it
  pub turn_room : HasNumber (T (place b - n)) e → PivotHasRoom (n + count) T (place b - n) b e count n
  turn_room stands = record {
    own = few_over n (n + count) at place (T (place b - n)) ex.places (λ c h. ap (λ (w : Ratio). w.num) (over (place b - n) own_in c h));
    others = λ by red s r l f sub.
        let after = solved_over n (n + count) at place to new b e ex (T (place b - n)) by red (over (place b - n) own_in) stands s in
        few_over n (n + count) to new f (places_after n (n + count) at place to new b e ex) (λ c h. gone by after r l f sub c h (zero_or (f c).num));
  }
    where
      was : (r : ℕ) → r < count → (c : ℕ) → n ≤ new c → (c ≡ e → ⊥) → HasNumber (T r) c → ⊥
      was r l c h d has = by_eq c b
          (λ i. let g = ap new i in let k = new_b n (n + count) at place to new b e ex in let m = ex.e_below in omega arith)
          (λ i. has (ap (λ (w : Ratio). w.num) (over r l c (let g = new_other n (n + count) at place to new b e ex c i d in omega arith))))

      gone : (by : ℕ → Ratio) → IsOverPlaces n new by → (r : ℕ) → r < count → (f : ℕ → Ratio) → ((c : ℕ) → HasNumber f c → (c ≡ e → ⊥) × (HasNumber (T r) c ⊎ HasNumber by c)) → (c : ℕ) → n ≤ new c → ((f c).num ≡ pos 0) ⊎ ((f c).num ≡ pos 0 → ⊥) → (f c).num ≡ pos 0
      gone by within r l f sub c h (inl z) = z
      gone by within r l f sub c h (inr has) =
          let s = sub c has in
          elim s.1 [
            | inl mine ↦ absurd (was r l c h s.0 mine)
            | inr its ↦ absurd (its (ap (λ (w : Ratio). w.num) (within c h)))
          ]

  said : (r : ℕ) → r < count → (c : ℕ) → T r c ≡ told n place T (at (n + r)) c
  said r l c =
      let q = ex.places in
      let ea : place (at (n + r)) ≡ n + r = q.place_at (n + r) (omega arith) in
      let j : r ≡ place (at (n + r)) - n = omega arith in
      ap (λ s. T s c) j ∙ sym (listed n place T (at (n + r)) c (omega arith))

  -- and where the entries' pivot fits, the table's does
  pub turned_back : ((r c : ℕ) → IsNumber (T r c)) → HasNumber (T (place b - n)) e → (T (place b - n) b).num ≡ pos 0 → PivotFits (told n place T) b e → TableFits (place b - n) b e T count
  turned_back numbers stands absent fits = record {
    own = solution_back n place T b e ex.b_from numbers stands (apart n (n + count) at place to new b e ex) absent fits.row;
    others = λ by red s r l d. record {
      terms = λ c. by_eq c e
          (λ h. subst (λ (w : Ratio). TermFits (T r c) (T r e) w) (sym (ap by h ∙ s.gone)) (term_none (T r c) (T r e)))
          (λ h.
          let near = ≈-sym (solved_near n place T b e ex.b_from numbers stands by (λ j. (red j).0) s c h) in
          let a = at (n + r) in
          let other : a ≡ b → ⊥ = λ i. d (let q = ex.places in let ea = q.place_at (n + r) (omega arith) in let g = ap place i in omega arith) in
          let t = fits.others a c other h in
          term_other (T r c) (T r e) (solved_at (told n place T) b e c) (by c) (numbers r c) (numbers r e) near
          (subst (λ (w : Ratio). TermFits w (T r e) (solved_at (told n place T) b e c)) (sym (said r l c)) (subst (λ (w : Ratio). TermFits (told n place T a c) w (solved_at (told n place T) b e c)) (sym (said r l e)) t)));
    };
  }

  own_column : at (n + (place b - n)) ≡ b
  own_column = let q = ex.places in let f = ex.b_from in let g : n + (place b - n) ≡ place b = omega arith in ap at g ∙ q.at_place b ex.b_in

  -- what the rows take is what the equations do
  pub turn_cost : (digits : ℕ) → replacements_cost (n + count) T (T (place b - n)) e count ≤ pivot_steps (n + count) count (told n place T) b e digits
  turn_cost digits =
      let u = told n place T in
      let k = n + count in
      let same = all_same count (λ r. replacement_cost k (T r) (T (place b - n)) e) (λ r. 3 * touched k u b e (at (n + r))) one in
      let three = three_all count (λ r. touched k u b e (at (n + r))) in
      let q = ex.places in
      let all = some_of_all count k (λ r. at (n + r)) (touched k u b e) (λ r i. q.inside (n + r) (omega arith)) (λ i j h g d. let s = one_place k at place q (n + i) (n + j) (omega arith) (omega arith) d in omega arith) in
      omega arith
    where
      one : (r : ℕ) → r < count → replacement_cost (n + count) (T r) (T (place b - n)) e ≡ 3 * touched (n + count) (told n place T) b e (at (n + r))
      one r l =
          times_three (T r e).num (nonzeros (n + count) (T r) + nonzeros (n + count) (T (place b - n)))
          ∙ ap (λ x. 3 * x) (ap₂ (λ (v : Ratio) (m : ℕ). unless_zero v.num m) (said r l e)
          (ap₂ (λ i j. i + j) (nonzeros_same (n + count) (T r) (told n place T (at (n + r))) (said r l))
          (nonzeros_same (n + count) (T (place b - n)) (told n place T (at (n + (place b - n)))) (said (place b - n) own_in) ∙ ap (λ c. nonzeros (n + count) (told n place T c)) own_column)))
