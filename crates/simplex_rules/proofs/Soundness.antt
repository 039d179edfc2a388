-- What each end of a run says of its program.
use Rattle.std.proofs.Common.{◌≡◌, ℕ, zero, suc, ◌+◌, ◌-◌, ◌<◌, ◌≤◌, ℤ, pos, negsuc, ◌<ℤ◌, Bool, true, false, cond, nat_eq, nat_lt, Option, None, Some, IfSome, IsSome, List, length, refl, sym, ◌∙◌, ap, subst, arith, lit<}
use Rattle.std.specs.List.{All}
use Rattle.std.proofs.lemmas.Bool.{lt-ltb, le-ltb, eq-eqb, ne_eqb}
use Rattle.std.proofs.lemmas.Int.{ints}
use Rattle.std.proofs.Math.ListN.{get_or-eq_default}
use Rattle.std.proofs.lemmas.List.{get_or_default}
use Rattle.rational.specs.Ratio.{Ratio, whole, sum, product, negative, IsNumber, IsSame, IsBelow, IsAtMost}
use Rattle.rational.specs.Width.{IsReduced}
use Rattle.evidence.specs.Sums.{none, total}
use Rattle.evidence.specs.Instance.{Range, Instance, IsInstance, HasNumbers, width, height, variable_at, row_at, column_at, cost_at, entry_at, coefficient_at, minimising}
use Rattle.evidence.specs.Point.{value_at, activity, objective, IsBetween, NeverLeaves}
use Rattle.evidence.specs.Cases.{Multiplier, end_by, end_of, or_none, form, low_sum, AreLegal, IsFarkas, IsBound}
use Rattle.evidence.proofs.Numbers.{◌≈◌, ◌≲◌, ◌⋖◌, ≈-refl, ≈-from, ≈-sym, ◌⊙◌, ◌▹◌, ≲-from, ⋖-≲, ≲-⋖, ⋖-absurd, ≲-trans, product-number, product-≈, product-none, sum-≈, sum-none, none-sum, sum_swap, negative-product}
use Rattle.evidence.proofs.Totals.{total-number, total-≈, total-none, total-start, total-same, total-negative}
use Rattle.evidence.proofs.Columns.{by_lt, by_eq, by_bool, none-number, pick, value-number, entry-number, column-numbers}
use Rattle.evidence.proofs.Inverses.{sum-negative, negative-≈}
use Rattle.evidence.proofs.Duality.{minimising-number, minimising_total, minimising_slope}
use Rattle.evidence.proofs.Rays.{between_same}
use Rattle.evidence.proofs.UniqueRows.{end_by-number}
use Rattle.bases.specs.Dictionary.{Entries, Values, value_by, SolvesLists}
use Rattle.bases.specs.Forms.{form_of}
use Rattle.bases.specs.Program.{goal_column, columns, goal_row, rows_with_goal}
use Rattle.bases.proofs.Lists.{value_by-number}
use Rattle.bases.proofs.Forms.{form-number}
use Rattle.simplex_rules.specs.declared.columns.Status.{Status}
use Rattle.simplex_rules.specs.declared.columns.Status.TheVariants.{Basic, Lower, Upper, Zero}
use Rattle.simplex_rules.specs.declared.columns.Way.{Way}
use Rattle.simplex_rules.specs.declared.columns.Way.TheVariants.{Rise, Fall}
use Rattle.simplex_rules.specs.Statuses.{status_at, is_basic, basic_in, resting, basic_value, HasDictionary, HasValues, HasPlace, IsPlaced}
use Rattle.simplex_rules.specs.Turns.{rate, MovesIn, NoneOut, Helps, NoLimit, until_by, until_end, across, Can}
use Rattle.simplex_rules.specs.Ends.{IsRelaxed, IsDirection, IsBest}
use Rattle.simplex_rules.specs.Reports.{base, against, factor_at, multipliers_of, AreValues, movement, step_of, bound_sum}
use Rattle.simplex_rules.specs.Runs.{HasNoClash}
use Rattle.simplex_rules.proofs.Core.{value_≈, form_by_list, value_with, value_with-number, row_value, base-number, base_sum, base_others, unit_step, unit_step-number, unit_value, rate-number}
use Rattle.simplex_rules.proofs.MultiplierLists.{collected_total, collected_all, collected_ascending}
use Rattle.simplex_rules.proofs.Facts.{met, rest_between, kept_between, rest-number, zero_times, some_is, or_is, above_difference, below_difference, if_some, at_least_none, at_most_none, below_none}

-- one more term
pub last_term : (n m : ℕ) (f : ℕ → Ratio) → total none (n + (m + 1)) f ≡ sum (total none (n + m) f) (f (n + m))
last_term n m f = ap (λ k. total none k f) (let e : n + (m + 1) ≡ suc (n + m) = omega arith in e)

against-number : (w : Way) (x : Ratio) → IsNumber x → IsNumber (against w x)
against-number Rise x p = p
against-number Fall x p = p

against-≈ : (w : Way) {x y : Ratio} → x ≈ y → against w x ≈ against w y
against-≈ Rise e = negative-≈ e
against-≈ Fall e = e

against_total : (w : Way) (n : ℕ) (b x : ℕ → Ratio) → total none n (λ c. product (against w (b c)) (x c)) ≡ against w (total none n (λ c. product (b c) (x c)))
against_total Rise n b x = total-same none n (λ c. product (negative (b c)) (x c)) (λ c. negative (product (b c) (x c))) (λ c. negative-product (b c) (x c)) ∙ total-negative none n (λ c. product (b c) (x c))
against_total Fall n b x = refl

-- the end that a column misses which is to move this way, and that its value misses it
abbrev pub end_missed : Way → Range → Option Ratio
end_missed Rise r = r.lb
end_missed Fall r = r.ub

abbrev pub IsMissed : Way → Ratio → Ratio → Type 0
IsMissed Rise l v = IsBelow v l
IsMissed Fall h v = IsBelow h v

module _ (I : Instance) (good : IsInstance I) (zeroed : Bool) (ss : List Status) (u : Entries) (dict : HasDictionary I zeroed ss u) (placed : IsPlaced I ss) (room : HasNoClash I) where
  abbrev n : ℕ
  n = width I

  abbrev m : ℕ
  m = height I

  abbrev goal : ℕ
  goal = goal_column I

  abbrev A : Entries
  A = rows_with_goal zeroed I

  abbrev basic : ℕ → Bool
  basic = basic_in ss

  abbrev rest : Values
  rest = resting I ss

  pub u_number : (b c : ℕ) → IsNumber (u b c)
  u_number b c = let r = dict.entries.reduced b c in r.0

  goal_row-number : (z : Bool) (j : ℕ) → IsNumber (goal_row z I j)
  goal_row-number true j = none-number
  goal_row-number false j = minimising-number I (cost_at I j) (value-number I.goal.costs good.costs j)

  pub a_number : (r j : ℕ) → IsNumber (A r j)
  a_number r j = pick IsNumber (nat_lt r (height I)) (entry_at I.entries r j) (goal_row zeroed I j) (entry-number I.entries good.entries r j) (goal_row-number zeroed j)

  pub rest_number : (c : ℕ) → IsNumber (rest c)
  rest_number c = rest-number (column_at I c) (status_at ss c) (column-numbers I good c)

  pub bound_number : IsNumber (bound_sum I ss u)
  bound_number = total-number (minimising I I.goal.constant) (columns I) (λ c. product (u goal c) (rest c)) (minimising-number I I.goal.constant good.constant) (λ c. product-number (u goal c) (rest c) (u_number goal c) (rest_number c))

  goal_basic : basic goal ≡ true
  goal_basic = ap is_basic (get_or-eq_default ss Basic (let h : length ss ≤ goal = let e = placed.count in omega arith in h))

  goal_in : goal < columns I
  goal_in = omega arith

  inside : (c : ℕ) → c < goal → c < columns I
  inside c h = omega arith

  abbrev val : Values
  val = value_with n (m + 1) A a_number basic u dict rest

  pub val_number : (c : ℕ) → IsNumber (val c)
  val_number = value_with-number n (m + 1) A a_number basic u dict rest rest_number

  -- forms are those of the program
  form_coefficient : (c j : ℕ) → c < goal → form_of n A c j ≡ coefficient_at I c j
  form_coefficient c j h =
      by_lt c n
      (λ l. rw (lt-ltb c n l) refl)
      (λ l. let k : c - n < m = omega arith in rw (le-ltb c n l, lt-ltb (c - n) m k) refl)

  goal_form : (j : ℕ) → form_of n A goal j ≡ goal_row zeroed I j
  goal_form j =
      let l : n ≤ goal = omega arith in
      let e : goal - n ≡ m = omega arith in
      let k : m ≤ m = omega arith in
      rw (le-ltb goal n l, e, le-ltb m m k) refl

  -- the sum by a list, without the goal's column
  value_less : (b : ℕ) (x : ℕ → Ratio) → ((c : ℕ) → IsNumber (x c)) → value_by (columns I) (u b) x ≈ value_by goal (u b) x
  value_less b x px =
      let f : ℕ → Ratio = λ c. product (u b c) (x c) in
      let gone : f goal ≈ none = ≈-from (product-number (u b goal) (x goal) (u_number b goal) (px goal)) (ap (λ z. product z (x goal)) (dict.entries.at_basic b goal goal_basic)) ⊙ product-none (x goal) (px goal) in
      ≈-from (value_by-number (columns I) (u b) x (u_number b) px) (last_term n m f)
      ⊙ sum-≈ (≈-refl (value_by-number goal (u b) x (u_number b) px)) gone
      ▹ sum-none (total none goal f)

  module _ (g : ℕ) (wanted : Way) (missed : Ratio) (missed_number : IsNumber missed) where
    abbrev y : ℕ → Ratio
    y = factor_at u g wanted

    abbrev ms : List Multiplier
    ms = multipliers_of I u g wanted

    y_number : (c : ℕ) → IsNumber (y c)
    y_number c = against-number wanted (base (u g) g c) (base-number (columns I) (u g) (u_number g) g rest rest_number c)

    -- where each column's end is
    abbrev ended : Values
    ended c = cond (basic c) missed (rest c)

    ended_number : (c : ℕ) → IsNumber (ended c)
    ended_number c = pick IsNumber (basic c) missed (rest c) missed_number (rest_number c)

    abbrev HasEnd : ℕ → Type 0
    HasEnd c = IsSome (end_by (y c).num (column_at I c)) × (or_none (end_by (y c).num (column_at I c)) ≈ ended c)

    module _ (g_basic : basic g ≡ true) (none_helps : (k : ℕ) → k < goal → (v : Way) → basic k ≡ false → Can v (column_at I k) (status_at ss k) → MovesIn wanted (rate v (u g k)) → ⊥) (own : g < goal → IsSome (end_by (against wanted (whole (negsuc 0))).num (column_at I g)) × (or_none (end_by (against wanted (whole (negsuc 0))).num (column_at I g)) ≈ missed)) where
      has_end : (c : ℕ) → c < goal → ((y c).num ≡ pos 0 → ⊥) → HasEnd c
      has_end c h nz =
          by_eq c g
          (λ e.
          let f : y c ≡ against wanted (whole (negsuc 0)) = rw (eq-eqb c g e) refl in
          let b : basic c ≡ true = ap basic e ∙ g_basic in
          let k : ended c ≡ missed = rw b refl in
          let o = own (subst (λ i. i < goal) e h) in
          rw (f, k) (subst (λ i. IsSome (end_by (against wanted (whole (negsuc 0))).num (column_at I i)) × (or_none (end_by (against wanted (whole (negsuc 0))).num (column_at I i)) ≈ missed)) (sym e) o))
          (λ d.
          let f : y c ≡ against wanted (u g c) = rw (ne_eqb c g d) refl in
          by_bool (basic c)
          (λ b. absurd (nz (ap (λ (r : Ratio). r.num) (f ∙ ap (against wanted) (dict.entries.at_basic g c b)) ∙ none_against wanted)))
          (λ b.
          let k : ended c ≡ rest c = rw b refl in
          rw (f, k)
          (met wanted (column_at I c) (status_at ss c) (u g c) (column-numbers I good c) (room c h) (placed.places c h) b (λ v p q. none_helps c h v b p q) (λ e. nz (ap (λ (r : Ratio). r.num) f ∙ e)))))
        where
          none_against : (w : Way) → (against w none).num ≡ pos 0
          none_against Rise = refl
          none_against Fall = refl

      legal : AreLegal I ms
      legal = record {
        numbers = collected_all y (λ m. IsNumber m.by) goal (λ c h e. y_number c);
        columns = collected_all y (λ m. m.column < width I + height I) goal (λ c h e. h);
        ascending = collected_ascending y goal;
        nonzero = collected_all y (λ m. m.by.num ≡ pos 0 → ⊥) goal (λ c h e. e);
        ends = collected_all y (λ m. IsSome (end_of I m)) goal (λ c h e. let p = has_end c h e in p.0);
      }

      -- the multipliers, each times its end
      low_is : (s : Ratio) → IsNumber s → low_sum I s ms ≈ sum s (against wanted (total none goal (λ c. product (base (u g) g c) (ended c))))
      low_is s p =
          let F : Multiplier → Ratio = λ m. product m.by (or_none (end_of I m)) in
          let end_number : (c : ℕ) → IsNumber (or_none (end_by (y c).num (column_at I c))) = λ c. end_by-number (y c).num (column_at I c) (column-numbers I good c) in
          let terms : (c : ℕ) → c < goal → product (y c) (or_none (end_by (y c).num (column_at I c))) ≈ product (y c) (ended c) = λ c h.
          if_zero (y c) (λ e. zero_times (y c) (or_none (end_by (y c).num (column_at I c))) (y_number c) (end_number c) e ⊙ ≈-sym (zero_times (y c) (ended c) (y_number c) (ended_number c) e)) (λ e. let k = has_end c h e in product-≈ (≈-refl (y_number c)) k.1) in
          collected_total y F (λ c. product-number (y c) (or_none (end_by (y c).num (column_at I c))) (y_number c) (end_number c)) (λ c e. zero_times (y c) (or_none (end_by (y c).num (column_at I c))) (y_number c) (end_number c) e) s p goal
          ⊙ total-≈ goal (λ c. product (y c) (or_none (end_by (y c).num (column_at I c)))) (λ c. product (y c) (ended c)) (≈-refl p) terms
          ▹ total-start s goal (λ c. product (y c) (ended c))
          ▹ ap (sum s) (against_total wanted goal (base (u g) g) ended)
        where
          by_zero : {P : Type 0} (z : ℤ) → (z ≡ pos 0 → P) → ((z ≡ pos 0 → ⊥) → P) → P
          by_zero (pos zero) f h = f refl
          by_zero (pos (suc n)) f h = h (λ e. cc)
          by_zero (negsuc n) f h = h (λ e. cc)

          if_zero : {P : Type 0} (x : Ratio) → (x.num ≡ pos 0 → P) → ((x.num ≡ pos 0 → ⊥) → P) → P
          if_zero x f h = by_zero x.num f h

    -- their form
    form_is : (j : ℕ) → form I ms j ≈ against wanted (total none goal (λ c. product (base (u g) g c) (form_of n A c j)))
    form_is j =
        let F : Multiplier → Ratio = λ m. product m.by (coefficient_at I m.column j) in
        let numbers : (c : ℕ) → IsNumber (coefficient_at I c j) = λ c. pick IsNumber (nat_lt c (width I)) (cond (nat_eq c j) (whole (pos 1)) none) (entry_at I.entries (c - width I) j) (pick IsNumber (nat_eq c j) (whole (pos 1)) none (lit< tt) none-number) (entry-number I.entries good.entries (c - width I) j) in
        collected_total y F (λ c. product-number (y c) (coefficient_at I c j) (y_number c) (numbers c)) (λ c e. zero_times (y c) (coefficient_at I c j) (y_number c) (numbers c) e) none none-number goal
        ⊙ total-≈ goal (λ c. product (y c) (coefficient_at I c j)) (λ c. product (y c) (form_of n A c j)) (≈-refl none-number) (λ c h. ≈-from (product-number (y c) (coefficient_at I c j) (y_number c) (numbers c)) (ap (product (y c)) (sym (form_coefficient c j h))))
        ▹ against_total wanted goal (base (u g) g) (λ c. form_of n A c j)

    -- at the others the ends are the values
    ended_sum : value_by (columns I) (u g) ended ≈ value_by (columns I) (u g) rest
    ended_sum = value_≈ (columns I) basic (u g) ended rest (u_number g) (dict.entries.at_basic g) ended_number rest_number (λ c h b. let e : ended c ≡ rest c = rw b refl in ≈-from (ended_number c) e)

  -- nothing brings a column back that is out of its ends
  own_missed : (g : ℕ) (wanted : Way) (missed : Ratio) (r : Range) → end_missed wanted r ≡ Some missed → IsNumber missed → IsSome (end_by (against wanted (whole (negsuc 0))).num r) × (or_none (end_by (against wanted (whole (negsuc 0))).num r) ≈ missed)
  own_missed g Rise missed r e p = (some_is e, let f = or_is r.lb missed e in rw f (≈-refl p))
  own_missed g Fall missed r e p = (some_is e, let f = or_is r.ub missed e in rw f (≈-refl p))

  pub farkas : (g : ℕ) (wanted : Way) (missed v : Ratio) → g < goal → basic g ≡ true → end_missed wanted (column_at I g) ≡ Some missed → IsNumber missed → IsMissed wanted missed v → v ≈ basic_value I ss u g → ((k : ℕ) → k < goal → (w : Way) → basic k ≡ false → Can w (column_at I k) (status_at ss k) → MovesIn wanted (rate w (u g k)) → ⊥) → IsFarkas I (multipliers_of I u g wanted)
  farkas g wanted missed v h b e p out same off =
      let own = own_missed g wanted missed (column_at I g) e p in
      record {
        legal = legal g wanted missed p b off (λ l. own);
        vanishes = λ j l.
            let q : (c : ℕ) → IsNumber (form_of n A c j) = λ c. form-number n (m + 1) A a_number c j in
            let all : form I (multipliers_of I u g wanted) j ≈ none =
            form_is g wanted missed p j
            ⊙ against-≈ wanted
            (base_sum goal (u g) (u_number g) g (λ c. form_of n A c j) q h (dict.entries.at_basic g g b)
            ⊙ sum-≈ (≈-refl (q g)) (≈-sym (value_less g (λ c. form_of n A c j) q))
            ⊙ sum-≈ (≈-refl (q g)) (≈-sym (form_by_list n (m + 1) A a_number basic u dict g j (inside g h) b l))
            ▹ sum_swap (negative (form_of n A g j)) (form_of n A g j)
            ⊙ sum-negative (form_of n A g j) (q g))
            ▹ none_against wanted in
            all.is;
        above =
            let low : low_sum I none (multipliers_of I u g wanted) ≈ against wanted (sum (negative missed) v) =
            low_is g wanted missed p b off (λ l. own) none none-number
            ▹ none-sum (against wanted (total none goal (λ c. product (base (u g) g c) (ended g wanted missed p c))))
            ⊙ against-≈ wanted
            (base_sum goal (u g) (u_number g) g (ended g wanted missed p) (ended_number g wanted missed p) h (dict.entries.at_basic g g b)
            ⊙ sum-≈ (let f : ended g wanted missed p g ≡ missed = rw b refl in ≈-from (ended_number g wanted missed p g) (ap negative f)) (≈-sym (value_less g (ended g wanted missed p) (ended_number g wanted missed p)))
            ⊙ sum-≈ (≈-refl p) (ended_sum g wanted missed p ⊙ ≈-sym same)) in
            let up : none ⋖ against wanted (sum (negative missed) v) = record { left = none-number; right = low.right; is = apart wanted missed v out } in
            let all = ⋖-≲ up (≲-from (≈-sym low)) in all.is;
      }
    where
      none_against : (w : Way) → against w none ≡ none
      none_against Rise = refl
      none_against Fall = refl

      apart : (w : Way) (missed v : Ratio) → IsMissed w missed v → IsBelow none (against w (sum (negative missed) v))
      apart Rise missed v h = below_difference missed v h
      apart Fall missed v h = above_difference missed v h

  -- the goal's column, which nothing lets fall
  module _ (off : (k : ℕ) → k < goal → (w : Way) → basic k ≡ false → Can w (column_at I k) (status_at ss k) → MovesIn Fall (rate w (u goal k)) → ⊥) where
    not_own : goal < goal → {P : Type 0} → P
    not_own h = absurd (omega arith)

    pub bound_legal : AreLegal I (multipliers_of I u goal Fall)
    bound_legal = legal goal Fall none none-number goal_basic off (λ h. not_own h)

    pub bound_form : (j : ℕ) → j < n → form I (multipliers_of I u goal Fall) j ≈ goal_row zeroed I j
    bound_form j l =
        let q : (c : ℕ) → IsNumber (form_of n A c j) = λ c. form-number n (m + 1) A a_number c j in
        form_is goal Fall none none-number j
        ⊙ base_others goal (u goal) (u_number goal) goal (λ c. form_of n A c j) q (λ c h e. omega arith)
        ⊙ ≈-sym (value_less goal (λ c. form_of n A c j) q)
        ⊙ ≈-sym (form_by_list n (m + 1) A a_number basic u dict goal j goal_in goal_basic l)
        ▹ goal_form j

    pub bound_low : (s : Ratio) → IsNumber s → low_sum I s (multipliers_of I u goal Fall) ≈ total s (columns I) (λ c. product (u goal c) (rest c))
    bound_low s p =
        let e : Values = ended goal Fall none none-number in
        let q = ended_number goal Fall none none-number in
        low_is goal Fall none none-number goal_basic off (λ h. not_own h) s p
        ⊙ sum-≈ (≈-refl p)
        (base_others goal (u goal) (u_number goal) goal e q (λ c h e. omega arith)
        ⊙ ≈-sym (value_less goal e q)
        ⊙ ended_sum goal Fall none none-number)
        ▹ sym (total-start s (columns I) (λ c. product (u goal c) (rest c)))

    -- a bound by the goal's entries alone, wherever the basic columns are
    pub bounds : zeroed ≡ false → (b : Ratio) → IsReduced b → IsSame b (bound_sum I ss u) → IsNumber b × IsBound I (multipliers_of I u goal Fall) b
    bounds z b reduced same =
        let start = minimising I I.goal.constant in
        let p : IsNumber start = minimising-number I I.goal.constant good.constant in
        let is : b ≈ bound_sum I ss u = record { left = reduced.0; right = bound_number; is = same } in (
          reduced.0,
          record {
            legal = bound_legal;
            costs = λ j h. let f = subst (λ (a : Bool). form I (multipliers_of I u goal Fall) j ≈ goal_row a I j) z (bound_form j h) in f.is;
            reaches = let a = ≲-from (is ⊙ ≈-sym (bound_low start p)) in a.is;
          },
        )

  -- the values of the columns
  module _ (w : Values) (values : HasValues I ss u w) where
    pub w_number : (c : ℕ) → IsNumber (w c)
    w_number c = let r = values.reduced c in r.0

    pub value_is : (c : ℕ) → c < goal → w c ≈ val c
    value_is c h =
        by_bool (basic c)
        (λ b. let e : val c ≡ basic_value I ss u c = rw b refl in record { left = w_number c; right = val_number c; is = rw e (values.basic c h b) })
        (λ b. let e : val c ≡ rest c = rw b refl in record { left = w_number c; right = val_number c; is = rw e (values.nonbasic c h b) })

    pub basic_is : (c : ℕ) → c < goal → basic c ≡ true → w c ≈ basic_value I ss u c
    basic_is c h b = record { left = w_number c; right = value_by-number (columns I) (u c) rest (u_number c) rest_number; is = values.basic c h b }

    column_between : NoneOut I ss u w → (c : ℕ) → c < goal → IsBetween (column_at I c) (w c)
    column_between none_out c h =
        by_bool (basic c)
        (λ b. kept_between (column_at I c) (w c) (λ v k. none_out c h v (record { basic = b; misses = k })))
        (λ b. between_same (column_at I c) (rest c) (w c) (column-numbers I good c)
        (≈-sym (record { left = w_number c; right = rest_number c; is = values.nonbasic c h b }))
        (rest_between (column_at I c) (status_at ss c) (column-numbers I good c) (room c h) (placed.places c h) b))

    module _ (x : List Ratio) (point : AreValues I w x) where
      x_number : All IsNumber x
      x_number = λ k d h.
          let e = point.values k (let c = point.count in omega arith) in
          subst IsNumber (get_or_default x k none d h) (subst IsNumber (sym e) (w_number k))

      x_is : (j : ℕ) → j < n → value_at x j ≈ val j
      x_is j h = ≈-sym (≈-sym (value_is j (omega arith)) ▹ sym (point.values j h))

      -- a sum over the variables
      row_at_point : (a : ℕ → Ratio) → ((j : ℕ) → IsNumber (a j)) → total none n (λ j. product (a j) (value_at x j)) ≈ total none n (λ j. product (a j) (val j))
      row_at_point a p = total-≈ n (λ j. product (a j) (value_at x j)) (λ j. product (a j) (val j)) (≈-refl none-number) (λ j h. product-≈ (≈-refl (p j)) (x_is j h))

      row_of : (i : ℕ) → i < m → (j : ℕ) → A i j ≡ entry_at I.entries i j
      row_of i h j = rw (lt-ltb i m h) refl

      activity_is : (i : ℕ) → i < m → activity I x i ≈ w (n + i)
      activity_is i h =
          row_at_point (entry_at I.entries i) (entry-number I.entries good.entries i)
          ⊙ total-≈ n (λ j. product (entry_at I.entries i j) (val j)) (λ j. product (A i j) (val j)) (≈-refl none-number) (λ j l. ≈-from (product-number (entry_at I.entries i j) (val j) (entry-number I.entries good.entries i j) (val_number j)) (ap (λ z. product z (val j)) (sym (row_of i h j))))
          ⊙ ≈-sym (row_value n (m + 1) A a_number basic u dict rest rest_number i (omega arith))
          ⊙ ≈-sym (value_is (n + i) (omega arith))

      pub relaxed : NoneOut I ss u w → IsRelaxed I x
      relaxed none_out = record {
        count = point.count;
        numbers = x_number;
        variables = λ j h.
            let b = column_between none_out j (omega arith) in
            let e : column_at I j ≡ (variable_at I j).range = rw (lt-ltb j n h) refl in
            rw (point.values j h) (subst (λ r. IsBetween r (w j)) e b);
        rows = λ i h.
            let b = column_between none_out (n + i) (omega arith) in
            let l : n ≤ n + i = omega arith in
            let k : n + i - n ≡ i = omega arith in
            let e : column_at I (n + i) ≡ row_at I i = rw (le-ltb (n + i) n l, k) refl in
            between_same (row_at I i) (w (n + i)) (activity I x i) (subst HasNumbers e (column-numbers I good (n + i))) (≈-sym (activity_is i h)) (subst (λ r. IsBetween r (w (n + i))) e b);
      }

      -- the goal at the point
      goal_row_is : (j : ℕ) → A m j ≡ goal_row zeroed I j
      goal_row_is j = let k : m ≤ m = omega arith in rw (le-ltb m m k) refl

      goal_at_point : total none n (λ j. product (goal_row zeroed I j) (value_at x j)) ≈ basic_value I ss u goal
      goal_at_point =
          let e : val goal ≡ basic_value I ss u goal = rw goal_basic refl in
          row_at_point (goal_row zeroed I) (goal_row-number zeroed)
          ⊙ total-≈ n (λ j. product (goal_row zeroed I j) (val j)) (λ j. product (A m j) (val j)) (≈-refl none-number) (λ j l. ≈-from (product-number (goal_row zeroed I j) (val j) (goal_row-number zeroed j) (val_number j)) (ap (λ z. product z (val j)) (sym (goal_row_is j))))
          ⊙ ≈-sym (row_value n (m + 1) A a_number basic u dict rest rest_number m (omega arith))
          ▹ e

      pub objective_is : zeroed ≡ false → minimising I (objective I x) ≈ bound_sum I ss u
      objective_is z =
          let start = minimising I I.goal.constant in
          let p : IsNumber start = minimising-number I I.goal.constant good.constant in
          let costs : (j : ℕ) → IsNumber (minimising I (cost_at I j)) = λ j. minimising-number I (cost_at I j) (value-number I.goal.costs good.costs j) in
          let opened : minimising I (objective I x) ≡ sum start (total none n (λ j. product (minimising I (cost_at I j)) (value_at x j))) =
          sym (minimising_total I.goal.sense I.goal.constant n (cost_at I) (value_at x)) ∙ total-start start n (λ j. product (minimising I (cost_at I j)) (value_at x j)) in
          let row : total none n (λ j. product (minimising I (cost_at I j)) (value_at x j)) ≈ basic_value I ss u goal =
          subst (λ (b : Bool). total none n (λ j. product (goal_row b I j) (value_at x j)) ≈ basic_value I ss u goal) z goal_at_point in
          let closed : bound_sum I ss u ≡ sum start (basic_value I ss u goal) = total-start start (columns I) (λ c. product (u goal c) (rest c)) in
          ≈-sym (≈-sym (sum-≈ (≈-refl p) row ▹ sym closed) ▹ sym opened)

      pub best : zeroed ≡ false → NoneOut I ss u w → ((k : ℕ) → k < goal → (v : Way) → basic k ≡ false → Can v (column_at I k) (status_at ss k) → MovesIn Fall (rate v (u goal k)) → ⊥) → (b : Ratio) → IsReduced b → IsSame b (bound_sum I ss u) → IsBest I b x (multipliers_of I u goal Fall)
      best z none_out off b reduced same =
          let o = objective_is z in
          let is : b ≈ bound_sum I ss u = record { left = reduced.0; right = o.right; is = same } in
          let shown = bounds off z b reduced same in
          record { number = shown.0; bound = shown.1; reached = let a = is ⊙ ≈-sym o in a.is; relaxed = relaxed none_out }

  -- a column that moves without end
  module _ (e : ℕ) (way : Way) (w : Values) (inside_e : e < goal) (helps : Helps I ss u w goal Fall e way) (free : NoLimit I ss u w e way) where
    abbrev d : Values
    d = movement ss u e way

    d_number : (c : ℕ) → IsNumber (d c)
    d_number c = pick IsNumber (basic c) (rate way (u c e)) (unit_step e way c) (rate-number way (u c e) (u_number c e)) (unit_step-number e way c)

    d_lists : SolvesLists (columns I) basic u d
    d_lists = record {
      lists = λ b h p.
          let own : d b ≡ rate way (u b e) = rw p refl in
          let all : d b ≈ value_by (columns I) (u b) d =
          ≈-from (d_number b) own
          ⊙ ≈-sym (unit_value (columns I) (u b) e way (u_number b) (inside e inside_e))
          ⊙ value_≈ (columns I) basic (u b) (unit_step e way) d (u_number b) (dict.entries.at_basic b) (unit_step-number e way) d_number
          (λ c l f. let g : d c ≡ unit_step e way c = rw f refl in ≈-sym (≈-from (d_number c) g)) in
          all.is;
    }

    d_row : (i : ℕ) → i < m + 1 → d (n + i) ≈ total none n (λ j. product (A i j) (d j))
    d_row i h =
        let s = dict.back d d_number d_lists in
        record { left = d_number (n + i); right = total-number none n (λ j. product (A i j) (d j)) none-number (λ j. product-number (A i j) (d j) (a_number i j) (d_number j)); is = s.rows i h }

    d_goal : (d goal).num <ℤ pos 0
    d_goal = let f : d goal ≡ rate way (u goal e) = rw goal_basic refl in rw f helps.moves

    -- no column comes to an end
    d_stays : (c : ℕ) → c < goal → NeverLeaves (column_at I c) (d c)
    d_stays c h =
        by_bool (basic c)
        (λ b.
        let f : d c ≡ rate way (u c e) = rw b refl in
        let l = free c h in
        let k : until_by (rate way (u c e)).num (column_at I c) (w c) (rate way (u c e)) ≡ None = rw b at l in
        rw f (basic_stays (rate way (u c e)).num (column_at I c) (w c) (rate way (u c e)) refl k))
        (λ b. by_eq c e
        (λ q.
        let f : d c ≡ step_of way = rw (b, eq-eqb c e q) refl in
        let l = free c h in
        let k : across (column_at I c).lb (column_at I c).ub ≡ None = rw (b, eq-eqb c e q) at l in
        rw f (own_stays way (column_at I c) (status_at ss c) k (placed.places c h) (subst (λ i. Can way (column_at I i) (status_at ss i)) (sym q) helps.can)))
        (λ q. let f : d c ≡ none = rw (b, ne_eqb c e q) refl in rw f (still (column_at I c))))
      where
        still : (r : Range) → NeverLeaves r none
        still r = record { low = if_some r.lb (λ l. IsAtMost none none) (λ l f. at_least_none none (omega arith)); high = if_some r.ub (λ l. IsAtMost none none) (λ l f. at_most_none none (omega arith)) }

        ended_none : (o : Option Ratio) (x by : Ratio) → until_end o x by ≡ None → o ≡ None
        ended_none None x by f = refl
        ended_none (Some l) x by f = absurd (cc)

        basic_stays : (z : ℤ) (r : Range) (x by : Ratio) → by.num ≡ z → until_by z r x by ≡ None → NeverLeaves r by
        basic_stays (pos zero) r x by f k = record {
          low = if_some r.lb (λ l. IsAtMost none by) (λ l g. at_least_none by (omega (arith, ints)));
          high = if_some r.ub (λ l. IsAtMost by none) (λ l g. at_most_none by (omega (arith, ints)));
        }
        basic_stays (pos (suc i)) r x by f k =
            let o = ended_none r.ub x by k in
            record {
              low = if_some r.lb (λ l. IsAtMost none by) (λ l g. at_least_none by (omega (arith, ints)));
              high = if_some r.ub (λ l. IsAtMost by none) (λ l g. absurd (cc));
            }
        basic_stays (negsuc i) r x by f k =
            let o = ended_none r.lb x by k in
            record {
              low = if_some r.lb (λ l. IsAtMost none by) (λ l g. absurd (cc));
              high = if_some r.ub (λ l. IsAtMost by none) (λ l g. at_most_none by (omega (arith, ints)));
            }

        not_both : (lo hi : Option Ratio) → across lo hi ≡ None → IsSome lo → hi ≡ None
        not_both None hi k s = absurd (cc)
        not_both (Some l) None k s = refl
        not_both (Some l) (Some h) k s = absurd (cc)

        not_both_down : (lo hi : Option Ratio) → across lo hi ≡ None → IsSome hi → lo ≡ None
        not_both_down None hi k s = refl
        not_both_down (Some l) None k s = absurd (cc)
        not_both_down (Some l) (Some h) k s = absurd (cc)

        rising : (r : Range) → r.ub ≡ None → NeverLeaves r (whole (pos 1))
        rising r g = record { low = if_some r.lb (λ l. IsAtMost none (whole (pos 1))) (λ l f. at_least_none (whole (pos 1)) (omega (arith, ints))); high = if_some r.ub (λ l. IsAtMost (whole (pos 1)) none) (λ l f. absurd (cc)) }

        falling : (r : Range) → r.lb ≡ None → NeverLeaves r (whole (negsuc 0))
        falling r g = record { low = if_some r.lb (λ l. IsAtMost none (whole (negsuc 0))) (λ l f. absurd (cc)); high = if_some r.ub (λ l. IsAtMost (whole (negsuc 0)) none) (λ l f. at_most_none (whole (negsuc 0)) (omega (arith, ints))) }

        own_stays : (v : Way) (r : Range) (s : Status) → across r.lb r.ub ≡ None → HasPlace r s → Can v r s → NeverLeaves r (step_of v)
        own_stays Rise r Basic k p a = absurd a
        own_stays Rise r Lower k p a = rising r (not_both r.lb r.ub k p)
        own_stays Rise r Upper k p a = absurd a
        own_stays Rise r Zero k p a = rising r p.1
        own_stays Fall r Basic k p a = absurd a
        own_stays Fall r Lower k p a = absurd a
        own_stays Fall r Upper k p a = falling r (not_both_down r.lb r.ub k p.0)
        own_stays Fall r Zero k p a = falling r p.0

    module _ (x : List Ratio) (point : AreValues I d x) where
      along_number : All IsNumber x
      along_number = λ k v h.
          let f = point.values k (let c = point.count in omega arith) in
          subst IsNumber (get_or_default x k none v h) (subst IsNumber (sym f) (d_number k))

      along_row : (a : ℕ → Ratio) (i : ℕ) → i < m + 1 → ((j : ℕ) → IsNumber (a j)) → ((j : ℕ) → A i j ≡ a j) → total none n (λ j. product (a j) (value_at x j)) ≈ d (n + i)
      along_row a i h p same =
          total-≈ n (λ j. product (a j) (value_at x j)) (λ j. product (A i j) (d j)) (≈-refl none-number)
          (λ j l. ≈-sym (≈-from (product-number (A i j) (d j) (a_number i j) (d_number j)) (ap (λ z. product z (d j)) (same j) ∙ ap (product (a j)) (sym (point.values j l)))))
          ⊙ ≈-sym (d_row i h)

      costs_fall : total none n (λ j. product (goal_row zeroed I j) (value_at x j)) ≈ d goal
      costs_fall = along_row (goal_row zeroed I) m (omega arith) (goal_row-number zeroed) (λ j. let k : m ≤ m = omega arith in rw (le-ltb m m k) refl)

      pub not_zeroed : zeroed ≡ false
      not_zeroed =
          by_bool zeroed
          (λ z.
          let s = subst (λ (b : Bool). total none n (λ j. product (goal_row b I j) (value_at x j)) ≈ d goal) z costs_fall in
          let t : total none n (λ j. product none (value_at x j)) ≈ none = total-≈ n (λ j. product none (value_at x j)) (λ j. none) (≈-refl none-number) (λ j l. product-none (value_at x j) (subst IsNumber (sym (point.values j l)) (d_number j))) ▹ total-none n in
          let gone : none ≈ d goal = ≈-sym t ⊙ s in
          absurd (fallen (d goal) gone d_goal))
          (λ z. z)
        where
          fallen : (v : Ratio) → none ≈ v → v.num <ℤ pos 0 → ⊥
          fallen v f h = let a = ≲-from f in let low : v ⋖ none = record { left = f.right; right = f.left; is = below_none v h } in ⋖-absurd low a

      pub direction : IsDirection I x
      direction = record {
        count = point.count;
        numbers = along_number;
        variables = λ j h.
            let b = d_stays j (omega arith) in
            let f : column_at I j ≡ (variable_at I j).range = rw (lt-ltb j n h) refl in
            rw (point.values j h) (subst (λ r. NeverLeaves r (d j)) f b);
        rows = λ i h.
            let b = d_stays (n + i) (omega arith) in
            let l : n ≤ n + i = omega arith in
            let k : n + i - n ≡ i = omega arith in
            let f : column_at I (n + i) ≡ row_at I i = rw (le-ltb (n + i) n l, k) refl in
            never_same (row_at I i) (d (n + i)) (activity I x i) (≈-sym (along_row (entry_at I.entries i) i (omega arith) (entry-number I.entries good.entries i) (λ j. rw (lt-ltb i m h) refl))) (subst (λ r. NeverLeaves r (d (n + i))) f b);
        better =
            let s = subst (λ (b : Bool). total none n (λ j. product (goal_row b I j) (value_at x j)) ≈ d goal) not_zeroed costs_fall in
            let opened : minimising I (total none n (λ j. product (cost_at I j) (value_at x j))) ≡ total none n (λ j. product (minimising I (cost_at I j)) (value_at x j)) =
            sym (minimising_slope I.goal.sense n (cost_at I) (value_at x)) in
            let low : d goal ⋖ none = record { left = d_number goal; right = none-number; is = below_none (d goal) d_goal } in
            let all = ≲-⋖ (≲-from s) low in
            rw opened all.is;
      }
        where
          never_same : (r : Range) (v w : Ratio) → v ≈ w → NeverLeaves r v → NeverLeaves r w
          never_same r v w f b = record { low = low_same r.lb b.low; high = high_same r.ub b.high }
            where
              low_same : (o : Option Ratio) → IfSome o (λ l. IsAtMost none v) → IfSome o (λ l. IsAtMost none w)
              low_same None h = h
              low_same (Some l) h = let a : none ≲ v = record { left = none-number; right = f.left; is = h } in let z = ≲-trans a (≲-from f) in z.is

              high_same : (o : Option Ratio) → IfSome o (λ l. IsAtMost v none) → IfSome o (λ l. IsAtMost w none)
              high_same None h = h
              high_same (Some l) h = let a : v ≲ none = record { left = f.left; right = none-number; is = h } in let z = ≲-trans (≲-from (≈-sym f)) a in z.is
