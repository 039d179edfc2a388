-- Limits in memory, and the least of them.
use Rattle.std.proofs.Common.{◌≡◌, ℕ, zero, suc, ◌+◌, ◌<◌, ◌≤◌, pos, true, false, Option, None, Some, sym, ◌∙◌, ap, subst, arith, below_more}
use Rattle.std.proofs.lemmas.Int.{ints}
use Rattle.rational.specs.Ratio.{Ratio, sum, negative, inverse, quotient, IsNumber, IsSame, IsAtMost}
use Rattle.rational.specs.Width.{ReducedFits, SumFits}
use Rattle.fraction.specs.Frac.{ratio}
use Rattle.fraction.specs.declared.frac.Frac.{Frac}
use Rattle.evidence.specs.Sums.{is_below}
use Rattle.evidence.proofs.Numbers.{◌≈◌, ◌≲◌, ◌⋖◌, ≈-refl, ≈-sym, ◌⊙◌, product-≈, sum-number, ≲-from, ⋖-≲, ≲-⋖, ≲-trans}
use Rattle.evidence.proofs.Fits.{reduced_same}
use Rattle.evidence.proofs.Columns.{by_lt}
use Rattle.evidence.proofs.Inverses.{inverse-number}
use Rattle.dictionary.proofs.Rows.{made_fits}
use Rattle.evidence.proofs.Columns.{by_eq}
use Rattle.std.proofs.Common.{List, length, nat_eq, MatchOption}
use Rattle.std.proofs.Math.Path.{fun_ext}
use Rattle.evidence.specs.Instance.{Range, Instance, column_at}
use Rattle.bases.specs.Dictionary.{Entries, Values}
use Rattle.simplex_rules.specs.declared.columns.Status.{Status}
use Rattle.simplex.specs.declared.finish.Move.{Move}
use Rattle.simplex.specs.declared.ends.Ends.{Ends}
use Rattle.simplex_rules.specs.Statuses.{basic_in}
use Rattle.bases.specs.Program.{goal_column}
use Rattle.simplex.specs.Cuts.{ranges_in, AreEndsOf}
use Rattle.simplex.specs.declared.limits.Limit.{Limit}
use Rattle.simplex_rules.specs.Turns.{rate, IsFirstLeast, limit_one, NoLimit, IsFirstLimit}
use Rattle.simplex_rules.specs.Widths.{UntilFits, OneFits, LimitsFit}
use Rattle.simplex.specs.Limits.{IsLimitTold, IsLimit, IsFirstOfLeast, IsLeastOf}
use Rattle.simplex_rules.proofs.Facts.{not_below, below_no}
use Rattle.no_cycles.proofs.Signs.{below_yes}

pub difference_number : (h l : Frac) → IsNumber (sum (ratio h) (negative (ratio l)))
difference_number h l = sum-number (ratio h) (negative (ratio l)) h.above l.above

module _ (e x by d : Frac) (nonzero : by.numer ≡ pos 0 → ⊥) (same : IsSame (ratio d) (sum (ratio e) (negative (ratio x)))) where
  over_number : IsNumber (inverse (ratio by))
  over_number = inverse-number (ratio by) nonzero

  quotients : quotient (ratio d) (ratio by) ≈ quotient (sum (ratio e) (negative (ratio x))) (ratio by)
  quotients = product-≈ (record { left = d.above; right = difference_number e x; is = same }) (≈-refl over_number)

  pub until_told : (q : Frac) → IsSame (ratio q) (quotient (ratio d) (ratio by)) → IsLimitTold (quotient (sum (ratio e) (negative (ratio x))) (ratio by)) q
  until_told q s =
      let a : ratio q ≈ quotient (ratio d) (ratio by) = record { left = q.above; right = quotients.left; is = s } in
      let b = a ⊙ quotients in
      record { number = b.right; same = b.is }

  pub until_fits : (q : Frac) → IsSame (ratio q) (quotient (ratio d) (ratio by)) → SumFits (ratio e) (negative (ratio x)) → UntilFits (ratio e) (ratio x) (ratio by)
  until_fits q s f = let t = until_told q s in record { difference = f; quotient = made_fits q (quotient (sum (ratio e) (negative (ratio x))) (ratio by)) t.number t.same }

  pub until_wide : (ReducedFits (quotient (ratio d) (ratio by)) → ⊥) → UntilFits (ratio e) (ratio x) (ratio by) → ⊥
  until_wide w f = let b = ≈-sym quotients in w (reduced_same (quotient (sum (ratio e) (negative (ratio x))) (ratio by)) (quotient (ratio d) (ratio by)) b.right b.is f.quotient)

module _ (f : ℕ → Option Ratio) (n : ℕ) where
  pub keep : (b : Option Limit) → IsLeastOf f n b → f n ≡ None → IsLeastOf f (n + 1) b
  keep None before h = below_more (λ k. f k ≡ None) n before h
  keep (Some b) before h = record {
    least = record {
      inside = let i = before.least.inside in omega arith;
      limit = before.least.limit;
      is = before.least.is;
      before = before.least.before;
      after = λ k l m q e. by_eq k n (λ g. let a : None ≡ Some q = sym h ∙ ap f (sym g) ∙ e in absurd (cc)) (λ g. before.least.after k l (omega arith) q e);
    };
    told = before.told;
    numbers = λ k l q e. by_eq k n (λ g. let a : None ≡ Some q = sym h ∙ ap f (sym g) ∙ e in absurd (cc)) (λ g. before.numbers k (omega arith) q e);
  }

  pub start : (b : Option Limit) (x : Option Frac) (q : Frac) → IsLeastOf f n b → IsLimit (f n) x → b ≡ None → x ≡ Some q → IsFirstOfLeast f (n + 1) (record { col = n; quotient = q })
  start (Some b) x q before h e g = absurd (cc)
  start None None q before h e g = absurd (cc)
  start None (Some p) q before (l, h, t) e g = record {
    least = record {
      inside = omega arith;
      limit = l;
      is = h;
      before = λ k i r a. let c = before k i in let d : None ≡ Some r = sym c ∙ a in absurd (cc);
      after = λ k i j. absurd (omega arith);
    };
    told = subst (λ q. IsLimitTold l q) (let c : p ≡ q = cc in c) t;
    numbers = λ k i r a. by_eq k n (λ c. subst IsNumber (let d : Some l ≡ Some r = sym h ∙ ap f (sym c) ∙ a in let z : l ≡ r = cc in z) t.number) (λ c. let m = before k (omega arith) in let d : None ≡ Some r = sym m ∙ a in absurd (cc));
  }

  module _ (b : Limit) (q : Frac) (before : IsFirstOfLeast f n b) (l : Ratio) (h : f n ≡ Some l) (t : IsLimitTold l q) where
    old : Ratio
    old = before.least.limit

    numbers_more : (k : ℕ) → k < n + 1 → (r : Ratio) → f k ≡ Some r → IsNumber r
    numbers_more k i r a = by_eq k n (λ c. subst IsNumber (let d : Some l ≡ Some r = sym h ∙ ap f (sym c) ∙ a in let z : l ≡ r = cc in z) t.number) (λ c. before.numbers k (omega arith) r a)

    -- the old least is at most each
    old_most : (k : ℕ) → k < n → (r : Ratio) → f k ≡ Some r → before.least.limit ≲ r
    old_most k i r a =
        let p = before.numbers k i r a in
        let o = before.told.number in
        by_lt k b.col
        (λ c. let m = before.least.before k c r a in record { left = o; right = p; is = omega (arith, ints) })
        (λ c. by_lt b.col k
        (λ d. record { left = o; right = p; is = before.least.after k d i r a })
        (λ d. let e : k ≡ b.col = omega arith in let g : Some before.least.limit ≡ Some r = sym before.least.is ∙ ap f (sym e) ∙ a in let z : before.least.limit ≡ r = cc in subst (λ w. before.least.limit ≲ w) z (≲-from (≈-refl o))))

    new_is : ratio q ≈ l
    new_is = record { left = q.above; right = t.number; is = t.same }

    old_is : ratio b.quotient ≈ before.least.limit
    old_is = record { left = b.quotient.above; right = before.told.number; is = before.told.same }

    pub less : is_below (ratio q) (ratio b.quotient) ≡ true → IsFirstOfLeast f (n + 1) (record { col = n; quotient = q })
    less e =
        let c : ratio q ⋖ ratio b.quotient = record { left = q.above; right = b.quotient.above; is = below_yes (ratio q) (ratio b.quotient) e } in
        let d : l ⋖ before.least.limit = ≲-⋖ (≲-from (≈-sym new_is)) (⋖-≲ c (≲-from old_is)) in
        record {
          least = record {
            inside = omega arith;
            limit = l;
            is = h;
            before = λ k i r a. let m = ⋖-≲ d (old_most k i r a) in m.is;
            after = λ k i j. absurd (omega arith);
          };
          told = t;
          numbers = numbers_more;
        }

    pub more : is_below (ratio q) (ratio b.quotient) ≡ false → IsFirstOfLeast f (n + 1) b
    more e =
        let c : ratio b.quotient ≲ ratio q = record { left = b.quotient.above; right = q.above; is = not_below (ratio q) (ratio b.quotient) (below_no (ratio q) (ratio b.quotient) e) } in
        let d : before.least.limit ≲ l = ≲-trans (≲-from (≈-sym old_is)) (≲-trans c (≲-from new_is)) in
        record {
          least = record {
            inside = let i = before.least.inside in omega arith;
            limit = before.least.limit;
            is = before.least.is;
            before = before.least.before;
            after = λ k i j r a. by_eq k n
                (λ g. let z : Some l ≡ Some r = sym h ∙ ap f (sym g) ∙ a in let y : l ≡ r = cc in subst (λ w. IsAtMost before.least.limit w) y d.is)
                (λ g. before.least.after k i (omega arith) r a);
          };
          told = before.told;
          numbers = numbers_more;
        }

-- columns without a limit are passed
pub keep_to : (f : ℕ → Option Ratio) (n m : ℕ) (b : Option Limit) → n ≤ m → IsLeastOf f n b → ((k : ℕ) → n ≤ k → k < m → f k ≡ None) → IsLeastOf f m b
keep_to f n zero b l before none = subst (λ j. IsLeastOf f j b) (let e : n ≡ 0 = omega arith in e) before
keep_to f n (suc m) b l before none =
    by_lt n (suc m)
    (λ h. subst (λ j. IsLeastOf f j b) (let e : m + 1 ≡ suc m = omega arith in e) (keep f m b (keep_to f n m b (omega arith) before (λ k a c. none k a (omega arith))) (none m (omega arith) (omega arith))))
    (λ h. subst (λ j. IsLeastOf f j b) (let e : n ≡ suc m = omega arith in e) before)

-- the same, where the two are read from options
pub was_less : (f : ℕ → Option Ratio) (n : ℕ) (o : Option Limit) (x : Option Frac) (b : Limit) (q : Frac) → o ≡ Some b → x ≡ Some q → IsLeastOf f n o → IsLimit (f n) x → is_below (ratio q) (ratio b.quotient) ≡ true → IsFirstOfLeast f (n + 1) (record { col = n; quotient = q })
was_less f n None x b q e g before t h = absurd (cc)
was_less f n (Some a) None b q e g before t h = absurd (cc)
was_less f n (Some a) (Some p) b q e g before (l, i, t) h =
    less f n b q (subst (λ z. IsFirstOfLeast f n z) (let y : a ≡ b = cc in y) before) l i (subst (λ z. IsLimitTold l z) (let y : p ≡ q = cc in y) t) h

pub was_more : (f : ℕ → Option Ratio) (n : ℕ) (o : Option Limit) (x : Option Frac) (b : Limit) (q : Frac) → o ≡ Some b → x ≡ Some q → IsLeastOf f n o → IsLimit (f n) x → is_below (ratio q) (ratio b.quotient) ≡ false → IsFirstOfLeast f (n + 1) b
was_more f n None x b q e g before t h = absurd (cc)
was_more f n (Some a) None b q e g before t h = absurd (cc)
was_more f n (Some a) (Some p) b q e g before (l, i, t) h =
    more f n b q (subst (λ z. IsFirstOfLeast f n z) (let y : a ≡ b = cc in y) before) l i (subst (λ z. IsLimitTold l z) (let y : p ≡ q = cc in y) t) h

best_told : (f : ℕ → Option Ratio) (n : ℕ) (b : Option Limit) → IsLeastOf f n b → MatchOption b ((k : ℕ) → k < n → f k ≡ None) (λ l. IsFirstLeast f n l.col)
best_told f n None h = h
best_told f n (Some b) h = h.least

-- the limits in memory are those of the program
module _ (I : Instance) (es : List Ends) (e : AreEndsOf I es) (ss : List Status) (u : Entries) (w : Values) (moving : Move) where
  abbrev pub limits_in : (ℕ → Range) → ℕ → Option Ratio
  limits_in r c = limit_one (basic_in ss c) (nat_eq c moving.col) (r c) (w c) (rate moving.way (u c moving.col))

  abbrev pub AllFit : (ℕ → Range) → ℕ → Type 0
  AllFit r n = (k : ℕ) → k < n → OneFits (basic_in ss k) (nat_eq k moving.col) (r k) (w k) (rate moving.way (u k moving.col))

  ranges_same : ranges_in es ≡ column_at I
  ranges_same = fun_ext (λ c. sym (e.is c))

  pub limit_known : (b : Option Limit) (n : ℕ) → n ≡ length es → IsLeastOf (limits_in (ranges_in es)) n b → MatchOption b (NoLimit I ss u w moving.col moving.way) (λ l. IsFirstLimit I ss u w moving.col moving.way l.col)
  limit_known b n h t =
      let g : n ≡ goal_column I = h ∙ e.count in
      let k = subst (λ (r : ℕ → Range). IsLeastOf (limits_in r) n b) ranges_same t in
      best_told (limits_in (column_at I)) (goal_column I) b (subst (λ i. IsLeastOf (limits_in (column_at I)) i b) g k)

  pub limits_known : (n : ℕ) → n ≡ length es → AllFit (ranges_in es) n → LimitsFit I ss u w moving.col moving.way
  limits_known n h f =
      let g : n ≡ goal_column I = h ∙ e.count in
      subst (λ i. AllFit (column_at I) i) g (subst (λ (r : ℕ → Range). AllFit r n) ranges_same f)

  pub limit_fits : (c : ℕ) → c < length es → LimitsFit I ss u w moving.col moving.way → OneFits (basic_in ss c) (nat_eq c moving.col) (ranges_in es c) (w c) (rate moving.way (u c moving.col))
  limit_fits c h f = subst (λ (r : Range). OneFits (basic_in ss c) (nat_eq c moving.col) r (w c) (rate moving.way (u c moving.col))) (e.is c) (f c (let g = e.count in omega arith))
