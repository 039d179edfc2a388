-- In the second phase no column comes out of its ends.
use Rattle.std.proofs.Common.{◌≡◌, ℕ, zero, suc, ◌<◌, ◌⊎◌, inl, inr, ℤ, pos, negsuc, ◌*ℤ◌, ◌<ℤ◌, ◌≤ℤ◌, Bool, true, false, Option, Some, List, refl, sym, ◌∙◌, ap, subst, arith}
use Rattle.std.proofs.Math.IntN.{zero-*ℤ, *ℤ_comm}
use Rattle.std.proofs.lemmas.Bool.{eq-eqb}
use Rattle.std.proofs.lemmas.Int.{ints, by_lt_z}
use Rattle.rational.specs.Ratio.{Ratio, whole, sum, product, negative, inverse, quotient, IsNumber, IsAtMost}
use Rattle.evidence.specs.Sums.{none}
use Rattle.evidence.specs.Instance.{Range, Instance, IsInstance, HasNumbers, column_at}
use Rattle.evidence.specs.Cases.{IsEmpty}
use Rattle.evidence.specs.Point.{IsBetween}
use Rattle.evidence.proofs.Numbers.{◌≈◌, ◌≲◌, ◌⋖◌, ≈-refl, ≈-sym, ◌⊙◌, ≲-from, ≲-trans, ⋖-absurd, ≲-is, sum-≈, sum-≲, sum-none, sum-number, product-number, product_swap, product_up, product_down}
use Rattle.evidence.proofs.Columns.{by_lt, by_eq, none-number, column-numbers}
use Rattle.evidence.proofs.Inverses.{inverse-number}
use Rattle.evidence.proofs.Rays.{between_same}
use Rattle.bases.specs.Dictionary.{Entries, Values}
use Rattle.bases.specs.Program.{goal_column}
use Rattle.simplex_rules.specs.declared.columns.Status.{Status}
use Rattle.simplex_rules.specs.declared.columns.Status.TheVariants.{Basic, Lower, Upper, Zero}
use Rattle.simplex_rules.specs.declared.columns.Way.{Way}
use Rattle.simplex_rules.specs.declared.columns.Way.TheVariants.{Rise, Fall}
use Rattle.simplex_rules.specs.Statuses.{status_at, is_basic, basic_in, resting, rest_at, HasDictionary, HasValues, HasPlace, IsPlaced}
use Rattle.simplex_rules.specs.Turns.{rate, Can, Misses, NoneOut, IsFirstHelp, IsFirstLimit, IsFirstLeast, limit_at, until_by, across, left_status, flipped, pivoted}
use Rattle.simplex_rules.specs.Reports.{step_of}
use Rattle.simplex_rules.specs.Runs.{HasNoClash}
use Rattle.simplex_rules.proofs.Core.{rate-number}
use Rattle.simplex_rules.proofs.Facts.{has_number, or_is, if_some, at_least_none, rest_between, kept_between}
use Rattle.no_cycles.proofs.Signs.{both_up, reach, at_end}
use Rattle.no_cycles.proofs.SignArgument.{leaving_basic}
use Rattle.no_cycles.proofs.Limits.{if_is, gap_up, gap_down}
use Rattle.no_cycles.proofs.TurnValues.{rest_number, known, after, after_basic, after_own, arrives, swap_limit, swap_agrees, flip_limit, flip_agrees, pivoted_other, status_set_other}
use Rattle.no_cycles.proofs.Cycle.{Taken, IsTaken, at_most_sum}

-- factors and order
scale_up : {a b : Ratio} (f : Ratio) → IsNumber f → pos 0 ≤ℤ f.num → a ≲ b → product a f ≲ product b f
scale_up {a} {b} f p h l = rw (product_swap a f, product_swap b f) (by f.num f.den p h)
  where
    by : (z : ℤ) (d : ℕ) → 0 < d → pos 0 ≤ℤ z → product (record { num = z; den = d }) a ≲ product (record { num = z; den = d }) b
    by (pos n) d p h = product_up n d p l
    by (negsuc n) d p h = absurd (omega (arith, ints))

scale_down : {a b : Ratio} (f : Ratio) → IsNumber f → f.num <ℤ pos 0 → a ≲ b → product b f ≲ product a f
scale_down {a} {b} f p h l = rw (product_swap a f, product_swap b f) (by f.num f.den p h)
  where
    by : (z : ℤ) (d : ℕ) → 0 < d → z <ℤ pos 0 → product (record { num = z; den = d }) b ≲ product (record { num = z; den = d }) a
    by (pos n) d p h = absurd (omega (arith, ints))
    by (negsuc n) d p h = product_down n d p l

at_least_sum : (x y : Ratio) → IsNumber x → IsNumber y → pos 0 ≤ℤ y.num → x ≲ sum x y
at_least_sum x y px py h =
    let l : none ≲ y = record { left = none-number; right = py; is = at_least_none y h } in
    let all : sum x none ≲ sum x y = sum-≲ (≲-from (≈-refl px)) l in
    subst (λ z. z ≲ sum x y) (sum-none x) all

-- a value that moves no further than to the end to which it goes
pub stays_between : (r : Range) (x q by : Ratio) → HasNumbers r → IsNumber x → IsNumber q → IsNumber by → IsBetween r x → pos 0 ≤ℤ q.num → (pos 0 <ℤ by.num → (e : Ratio) → r.ub ≡ Some e → sum x (product q by) ≲ e) → (by.num <ℤ pos 0 → (e : Ratio) → r.lb ≡ Some e → e ≲ sum x (product q by)) → IsBetween r (sum x (product q by))
stays_between r x q by hn px pq pb b h up down = record {
  low = if_some r.lb (λ l. IsAtMost l (sum x (product q by))) (λ l e.
      let pl = has_number r.lb l hn.0 e in
      by_lt_z by.num (pos 0)
      (λ g. let a = down g l e in a.is)
      (λ g.
      let a : l ≲ x = record { left = pl; right = px; is = if_is r.lb (λ z. IsAtMost z x) l b.low e } in
      let c = ≲-trans a (at_least_sum x (product q by) px (product-number q by pq pb) (both_up q.num by.num h g)) in c.is));
  high = if_some r.ub (λ l. IsAtMost (sum x (product q by)) l) (λ l e.
      let pl = has_number r.ub l hn.1 e in
      by_lt_z (pos 0) by.num
      (λ g. let a = up g l e in a.is)
      (λ g.
      let a : x ≲ l = record { left = px; right = pl; is = if_is r.ub (λ z. IsAtMost x z) l b.high e } in
      let c = ≲-trans (at_most_sum x (product q by) px (product-number q by pq pb) (not_up q.num by.num h g)) a in c.is));
}
  where
    not_up : (a b : ℤ) → pos 0 ≤ℤ a → b ≤ℤ pos 0 → (a *ℤ b) ≤ℤ pos 0
    not_up (pos a) (pos b) h g = let z : b ≡ 0 = omega (arith, ints) in let e : pos a *ℤ pos b ≡ pos 0 = ap (λ c. pos a *ℤ pos c) z ∙ *ℤ_comm (pos a) (pos 0) ∙ zero-*ℤ (pos a) in omega (arith, ints)
    not_up (pos a) (negsuc b) h g = omega (arith, ints)
    not_up (negsuc a) b h g = absurd (omega (arith, ints))

until_up : (r : Range) (x by e : Ratio) → pos 0 <ℤ by.num → r.ub ≡ Some e → until_by by.num r x by ≡ Some (quotient (sum e (negative x)) by)
until_up r x by e up f = by_sign by.num up
  where
    by_sign : (z : ℤ) → pos 0 <ℤ z → until_by z r x by ≡ Some (quotient (sum e (negative x)) by)
    by_sign (pos zero) g = absurd (omega (arith, ints))
    by_sign (pos (suc k)) g = rw f refl
    by_sign (negsuc k) g = absurd (omega (arith, ints))

until_down : (r : Range) (x by e : Ratio) → by.num <ℤ pos 0 → r.lb ≡ Some e → until_by by.num r x by ≡ Some (quotient (sum e (negative x)) by)
until_down r x by e up f = by_sign by.num up
  where
    by_sign : (z : ℤ) → z <ℤ pos 0 → until_by z r x by ≡ Some (quotient (sum e (negative x)) by)
    by_sign (pos k) g = absurd (omega (arith, ints))
    by_sign (negsuc k) g = rw f refl

-- a basic column
pub basic_stays : (r : Range) (x q by : Ratio) → HasNumbers r → IsNumber x → IsNumber q → IsNumber by → IsBetween r x → pos 0 ≤ℤ q.num → ((p : Ratio) → IsNumber p → until_by by.num r x by ≡ Some p → q ≲ p) → IsBetween r (sum x (product q by))
basic_stays r x q by hn px pq pb b h least =
    stays_between r x q by hn px pq pb b h
    (λ g e f.
    let pe = has_number r.ub e hn.1 f in
    let nz : by.num ≡ pos 0 → ⊥ = λ z. omega (arith, ints) in
    let l = least (quotient (sum e (negative x)) by) (product-number (sum e (negative x)) (inverse by) (sum-number e (negative x) pe px) (inverse-number by nz)) (until_up r x by e g f) in
    ≲-trans (sum-≲ (≲-from (≈-refl px)) (scale_up by pb (omega (arith, ints)) l)) (≲-from (reach e x by pe px pb nz)))
    (λ g e f.
    let pe = has_number r.lb e hn.0 f in
    let nz : by.num ≡ pos 0 → ⊥ = λ z. omega (arith, ints) in
    let l = least (quotient (sum e (negative x)) by) (product-number (sum e (negative x)) (inverse by) (sum-number e (negative x) pe px) (inverse-number by nz)) (until_down r x by e g f) in
    ≲-trans (≲-from (≈-sym (reach e x by pe px pb nz))) (sum-≲ (≲-from (≈-refl px)) (scale_down by pb g l)))

-- the moving column
across_both : (lo hi : Option Ratio) (l h : Ratio) → lo ≡ Some l → hi ≡ Some h → across lo hi ≡ Some (sum h (negative l))
across_both lo hi l h e f = rw (e, f) refl

step-number : (w : Way) → IsNumber (step_of w)
step-number Rise = omega arith
step-number Fall = omega arith

pub own_stays : (w : Way) (r : Range) (s : Status) (q : Ratio) → HasNumbers r → (IsEmpty r → ⊥) → HasPlace r s → is_basic s ≡ false → Can w r s → IsNumber (rest_at r s) → IsNumber q → pos 0 ≤ℤ q.num → ((p : Ratio) → IsNumber p → across r.lb r.ub ≡ Some p → q ≲ p) → IsBetween r (sum (rest_at r s) (product q (step_of w)))
own_stays w r s q hn room place nb can px pq h least =
    stays_between r (rest_at r s) q (step_of w) hn px pq (step-number w) (rest_between r s hn room place nb) h (up w s place can) (down w s place can)
  where
    gap-number : (l k : Ratio) → r.lb ≡ Some l → r.ub ≡ Some k → IsNumber (sum k (negative l))
    gap-number l k e f = sum-number k (negative l) (has_number r.ub k hn.1 f) (has_number r.lb l hn.0 e)

    up : (w : Way) (s : Status) → HasPlace r s → Can w r s → pos 0 <ℤ (step_of w).num → (e : Ratio) → r.ub ≡ Some e → sum (rest_at r s) (product q (step_of w)) ≲ e
    up Rise Basic place can g e f = absurd can
    up Rise Lower place can g e f =
        let l = at_end r.lb place in
        let pl = has_number r.lb l.0 hn.0 l.1 in
        let pe = has_number r.ub e hn.1 f in
        let m = least (sum e (negative l.0)) (gap-number l.0 e l.1 f) (across_both r.lb r.ub l.0 e l.1 f) in
        rw (or_is r.lb l.0 l.1) (≲-trans (sum-≲ (≲-from (≈-refl pl)) (scale_up (whole (pos 1)) (omega arith) (omega (arith, ints)) m)) (≲-from (gap_up l.0 e pl pe)))
    up Rise Upper place can g e f = absurd can
    up Rise Zero place can g e f = let z = place.1 in absurd (cc)
    up Fall s place can g e f = let z : pos 0 <ℤ negsuc 0 = g in absurd (omega (arith, ints))

    down : (w : Way) (s : Status) → HasPlace r s → Can w r s → (step_of w).num <ℤ pos 0 → (e : Ratio) → r.lb ≡ Some e → e ≲ sum (rest_at r s) (product q (step_of w))
    down Rise s place can g e f = let z : pos 1 <ℤ pos 0 = g in absurd (omega (arith, ints))
    down Fall Basic place can g e f = absurd can
    down Fall Lower place can g e f = absurd can
    down Fall Upper place can g e f =
        let l = at_end r.ub place.0 in
        let pl = has_number r.ub l.0 hn.1 l.1 in
        let pe = has_number r.lb e hn.0 f in
        let m = least (sum l.0 (negative e)) (gap-number e l.0 f l.1) (across_both r.lb r.ub e l.0 f l.1) in
        rw (or_is r.ub l.0 l.1) (≲-trans (≲-from (≈-sym (gap_down e l.0 pe pl))) (sum-≲ (≲-from (≈-refl pl)) (scale_down (whole (negsuc 0)) (omega arith) (omega (arith, ints)) m)))
    down Fall Zero place can g e f = let z = place.0 in absurd (cc)

-- the first limit is the least
least_limit : (f : ℕ → Option Ratio) (n b : ℕ) (l : IsFirstLeast f n b) → IsNumber l.limit → (c : ℕ) → c < n → (p : Ratio) → IsNumber p → f c ≡ Some p → l.limit ≲ p
least_limit f n b l pl c h p pp e =
    by_lt c b
    (λ g. let a = l.before c g p e in record { left = pl; right = pp; is = omega (arith, ints) })
    (λ g. by_lt b c
    (λ k. record { left = pl; right = pp; is = l.after c k h p e })
    (λ k.
    let same : b ≡ c = omega arith in
    let i = l.is in
    let at : f c ≡ Some l.limit = subst (λ j. f j ≡ Some l.limit) same i in
    let both : l.limit ≡ p = cc in
    ≲-is (≲-from (≈-refl pl)) both))

pub not_out : (r : Range) (x y : Ratio) → HasNumbers r → x ≈ y → IsBetween r y → (w : Way) → Misses w r x → ⊥
not_out r x y hn s b Rise (l, e, k) =
    let pl = has_number r.lb l hn.0 e in
    let a : x ⋖ l = record { left = s.left; right = pl; is = k } in
    let c : l ≲ y = record { left = pl; right = s.right; is = if_is r.lb (λ z. IsAtMost z y) l b.low e } in
    ⋖-absurd a (≲-trans c (≲-from (≈-sym s)))
not_out r x y hn s b Fall (l, e, k) =
    let pl = has_number r.ub l hn.1 e in
    let a : l ⋖ x = record { left = pl; right = s.left; is = k } in
    let c : y ≲ l = record { left = s.right; right = pl; is = if_is r.ub (λ z. IsAtMost y z) l b.high e } in
    ⋖-absurd a (≲-trans (≲-from s) c)

module _ (I : Instance) (good : IsInstance I) (zeroed : Bool) (room : HasNoClash I) (ss : List Status) (u : Entries) (dict : HasDictionary I zeroed ss u) (placed : IsPlaced I ss) (w : Values) (values : HasValues I ss u w) (none_out : NoneOut I ss u w) (e : ℕ) (way : Way) (help : IsFirstHelp I ss u w (goal_column I) Fall e way) (first : ℕ) (limit : IsFirstLimit I ss u w e way first) (number : IsNumber limit.limit) (up : pos 0 ≤ℤ limit.limit.num) where
  abbrev goal : ℕ
  goal = goal_column I

  u_number : (b c : ℕ) → IsNumber (u b c)
  u_number b c = let r = dict.entries.reduced b c in r.0

  abbrev to : ℕ → Ratio
  to = after I good zeroed room ss u dict placed e way help.inside help.helps.nonbasic limit.limit number

  limit_least : (c : ℕ) → c < goal → (p : Ratio) → IsNumber p → limit_at I ss u w e way c ≡ Some p → limit.limit ≲ p
  limit_least c h p pp f = least_limit (limit_at I ss u w e way) goal first limit number c h p pp f

  -- each column that was basic, and the moving one, is within its ends
  within_basic : (c : ℕ) → c < goal → basic_in ss c ≡ true → IsBetween (column_at I c) (to c)
  within_basic c h b =
      let hn = column-numbers I good c in
      let pw : IsNumber (w c) = let r = values.reduced c in r.0 in
      let pr : IsNumber (rate way (u c e)) = rate-number way (u c e) (u_number c e) in
      let moved : to c ≈ sum (w c) (product limit.limit (rate way (u c e))) =
      after_basic I good zeroed room ss u dict placed e way help.inside help.helps.nonbasic limit.limit number c b
      ⊙ sum-≈ (≈-sym (known I good zeroed room ss u dict placed w values c h)) (≈-refl (product-number limit.limit (rate way (u c e)) number pr)) in
      between_same (column_at I c) (sum (w c) (product limit.limit (rate way (u c e)))) (to c) hn (≈-sym moved)
      (basic_stays (column_at I c) (w c) limit.limit (rate way (u c e)) hn pw number pr
      (kept_between (column_at I c) (w c) (λ x m. none_out c h x (record { basic = b; misses = m }))) up
      (λ p pp f. let k : limit_at I ss u w e way c ≡ Some p = rw b f in limit_least c h p pp k))

  within_own : IsBetween (column_at I e) (to e)
  within_own =
      let hn = column-numbers I good e in
      let nb = help.helps.nonbasic in
      let moved = after_own I good zeroed room ss u dict placed e way help.inside help.helps.nonbasic limit.limit number in
      between_same (column_at I e) (sum (resting I ss e) (product limit.limit (step_of way))) (to e) hn (≈-sym moved)
      (own_stays way (column_at I e) (status_at ss e) limit.limit hn (room e help.inside) (placed.places e help.inside) nb help.helps.can (rest_number I good zeroed room ss e) number up
      (λ p pp f. let same : e ≡ e = refl in let k : limit_at I ss u w e way e ≡ Some p = rw (nb, eq-eqb e e same) f in limit_least e help.inside p pp k))

  -- so no column is out at the next basis
  pub settled : (ts : List Status) (v : Entries) (next : HasDictionary I zeroed ts v) (ts_placed : IsPlaced I ts) → ((c : ℕ) → c < goal → basic_in ts c ≡ false → to c ≈ resting I ts c) → ((c : ℕ) → basic_in ts c ≡ true → (basic_in ss c ≡ true) ⊎ (c ≡ e)) → (x : Values) → HasValues I ts v x → NoneOut I ts v x
  settled ts v next ts_placed agree was x there c h m out =
      let reached : x c ≈ to c =
      known I good zeroed room ts v next ts_placed x there c h
      ⊙ ≈-sym (arrives I good zeroed room ss u dict placed e way help.inside help.helps.nonbasic limit.limit number ts v next ts_placed agree c (omega arith)) in
      not_out (column_at I c) (x c) (to c) (column-numbers I good c) reached (within (was c out.basic)) m out.misses
    where
      within : (basic_in ss c ≡ true) ⊎ (c ≡ e) → IsBetween (column_at I c) (to c)
      within (inl b) = within_basic c h b
      within (inr f) = subst (λ j. IsBetween (column_at I j) (to j)) (sym f) within_own

-- a turn keeps all columns within their ends
module _ (I : Instance) (good : IsInstance I) (zeroed : Bool) (room : HasNoClash I) where
  pub stays_settled : (ss : List Status) (x : Taken) (ts : List Status) (v : Entries) (dict : HasDictionary I zeroed ss x.u) (next : HasDictionary I zeroed ts v) → IsPlaced I ss → IsPlaced I ts → IsTaken I ss x ts → (y : Values) → HasValues I ts v y → NoneOut I ts v y
  stays_settled ss x ts v dict next placed ts_placed t = by t.goes
    where
      by : ((x.first ≡ x.entering) × (ts ≡ flipped I ss x.entering x.way)) ⊎ ((x.first ≡ x.entering → ⊥) × (ts ≡ pivoted ss x.first x.entering (left_status I x.u x.first x.entering x.way))) → (y : Values) → HasValues I ts v y → NoneOut I ts v y
      by (inl (d, f)) =
          let l : IsFirstLimit I ss x.u x.w x.entering x.way x.entering = subst (λ b. IsFirstLimit I ss x.u x.w x.entering x.way b) d t.limit in
          let a = flip_limit I good zeroed room ss x.u dict placed x.w t.values t.none_out x.entering x.way t.help l in
          settled I good zeroed room ss x.u dict placed x.w t.values t.none_out x.entering x.way t.help x.entering l a.limit.number a.limit.not_below ts v next ts_placed
          (λ c h g. subst (λ xs. after I good zeroed room ss x.u dict placed x.entering x.way t.help.inside t.help.helps.nonbasic l.limit a.limit.number c ≈ resting I xs c) (sym f)
          (flip_agrees I good zeroed room ss x.u dict placed x.w t.values t.none_out x.entering x.way t.help l a.limit.number c h (ap (λ xs. basic_in xs c) (sym f) ∙ g)))
          (λ c b. by_eq c x.entering (λ k. inr k) (λ k. inl (ap is_basic (sym (status_set_other ss x.entering c _ k)) ∙ ap (λ xs. basic_in xs c) (sym f) ∙ b)))
      by (inr (d, f)) =
          let a = swap_limit I good zeroed room ss x.u dict placed x.w t.values t.none_out x.entering x.way t.help x.first t.limit.limit t.limit.inside t.limit.is d in
          settled I good zeroed room ss x.u dict placed x.w t.values t.none_out x.entering x.way t.help x.first t.limit a.number a.not_below ts v next ts_placed
          (λ c h g. subst (λ xs. after I good zeroed room ss x.u dict placed x.entering x.way t.help.inside t.help.helps.nonbasic t.limit.limit a.number c ≈ resting I xs c) (sym f)
          (swap_agrees I good zeroed room ss x.u dict placed x.w t.values t.none_out x.entering x.way t.help x.first t.limit.limit t.limit.inside t.limit.is d a.number c h (ap (λ xs. basic_in xs c) (sym f) ∙ g)))
          (λ c b. by_eq c x.entering (λ k. inr k)
          (λ k. by_eq c x.first
          (λ j. inl (ap (basic_in ss) j ∙ leaving_basic I ss x.u x.w x.entering x.way x.first t.limit.limit t.limit.is d))
          (λ j. inl (ap is_basic (sym (pivoted_other ss x.first x.entering c _ j k)) ∙ ap (λ xs. basic_in xs c) (sym f) ∙ b))))
