-- Bland's argument over signs (1977; Chvátal, Linear Programming, 1983, chapter 3): two bases of the same values, where a column enters at the one and leaves at the other by a limit of 0, and no later column is basic in one of them and moves in the other.
use Rattle.std.proofs.Common.{◌≡◌, ℕ, ◌+◌, ◌<◌, ◌≤◌, ◌⊎◌, inl, inr, pos, ◌*ℤ◌, ◌≤ℤ◌, Bool, true, false, nat_lt, None, Some, List, length, refl, sym, ◌∙◌, ap, subst, arith}
use Rattle.std.proofs.Math.IntN.{zero-*ℤ}
use Rattle.std.proofs.Math.ListN.{get_or-eq_default}
use Rattle.std.proofs.lemmas.Bool.{eq-eqb, ne_eqb}
use Rattle.std.proofs.lemmas.Int.{ints}
use Rattle.rational.specs.Ratio.{Ratio, product, IsNumber, IsBelow}
use Rattle.evidence.specs.Sums.{none, total}
use Rattle.evidence.specs.Instance.{Instance, IsInstance, width, height, column_at, cost_at, entry_at}
use Rattle.evidence.proofs.Numbers.{◌≈◌, ◌≲◌, ◌⋖◌, ≈-refl, ≈-from, ≈-sym, ◌⊙◌, ≲-from, ⋖-absurd, ≲-trans, product-number}
use Rattle.evidence.proofs.Totals.{total-≲, total-none}
use Rattle.evidence.proofs.Columns.{by_eq, by_bool, none-number, pick, value-number, entry-number, column-numbers}
use Rattle.evidence.proofs.Duality.{minimising-number}
use Rattle.bases.specs.Dictionary.{Entries, Values, value_by, SolvesRows, SolvesLists}
use Rattle.bases.specs.Program.{goal_column, columns, goal_row, rows_with_goal}
use Rattle.bases.proofs.Lists.{value_by-number}
use Rattle.simplex_rules.specs.declared.columns.Status.{Status}
use Rattle.simplex_rules.specs.declared.columns.Status.TheVariants.{Basic}
use Rattle.simplex_rules.specs.declared.columns.Way.{Way}
use Rattle.simplex_rules.specs.declared.columns.Way.TheVariants.{Fall}
use Rattle.simplex_rules.specs.Statuses.{status_at, is_basic, basic_in, resting, HasDictionary, HasValues, IsPlaced}
use Rattle.simplex_rules.specs.Turns.{rate, MovesIn, Can, IsFirstHelp, IsFirstLimit, limit_at, until_by}
use Rattle.simplex_rules.specs.Reports.{movement, step_of}
use Rattle.simplex_rules.specs.Runs.{HasNoClash}
use Rattle.simplex_rules.proofs.Core.{value_≈, unit_step, unit_step-number, unit_value, rate-number}
use Rattle.simplex_rules.proofs.Facts.{at_least_none, below_none, rest-number}
use Rattle.no_cycles.proofs.Ways.{GoesOn, can_go, no_help, zero_limit, limit_up, limit_down, enters_and_leaves, zero_left, zero_right}

-- numbers of the program
pub rows-number : (I : Instance) → IsInstance I → (zeroed : Bool) (r j : ℕ) → IsNumber (rows_with_goal zeroed I r j)
rows-number I good zeroed r j = pick IsNumber (nat_lt r (height I)) (entry_at I.entries r j) (goal_row zeroed I j) (entry-number I.entries good.entries r j) (goal-number zeroed)
  where
    goal-number : (z : Bool) → IsNumber (goal_row z I j)
    goal-number true = none-number
    goal-number false = minimising-number I (cost_at I j) (value-number I.goal.costs good.costs j)

-- the goal's column is basic
pub goal_is_basic : (I : Instance) (ss : List Status) → IsPlaced I ss → basic_in ss (goal_column I) ≡ true
goal_is_basic I ss placed = ap is_basic (get_or-eq_default ss Basic (let h : length ss ≤ goal_column I = let e = placed.count in omega arith in h))

pub before_goal : (I : Instance) (ss : List Status) → IsPlaced I ss → (c : ℕ) → c < columns I → basic_in ss c ≡ false → c < goal_column I
before_goal I ss placed c h b =
    by_eq c (goal_column I)
    (λ e. let z : false ≡ true = sym b ∙ ap (basic_in ss) e ∙ goal_is_basic I ss placed in absurd (cc))
    (λ d. omega arith)

-- a basic column sets the limit, unless it is the moving one's own
pub leaving_basic : (I : Instance) (ss : List Status) (u : Entries) (w : Values) (e : ℕ) (way : Way) (b : ℕ) (q : Ratio) → limit_at I ss u w e way b ≡ Some q → (b ≡ e → ⊥) → basic_in ss b ≡ true
leaving_basic I ss u w e way b q a d =
    by_bool (basic_in ss b) (λ i. i) (λ i. let k : None ≡ Some q = rw (i, ne_eqb b e d) at a in absurd (cc))

pub leaving_limit : (I : Instance) (ss : List Status) (u : Entries) (w : Values) (e : ℕ) (way : Way) (b : ℕ) (q : Ratio) → limit_at I ss u w e way b ≡ Some q → basic_in ss b ≡ true → until_by (rate way (u b e)).num (column_at I b) (w b) (rate way (u b e)) ≡ Some q
leaving_limit I ss u w e way b q a i = rw i at a

zeros_apart : (a b : Ratio) → a.num ≡ pos 0 → b.num ≡ pos 0 → IsBelow a b → ⊥
zeros_apart a b h k l =
    let e : a.num *ℤ pos b.den ≡ pos 0 = ap (λ z. z *ℤ pos b.den) h ∙ zero-*ℤ (pos b.den) in
    let f : b.num *ℤ pos a.den ≡ pos 0 = ap (λ z. z *ℤ pos a.den) k ∙ zero-*ℤ (pos a.den) in
    omega (arith, ints)

module _ (I : Instance) (good : IsInstance I) (zeroed : Bool) (room : HasNoClash I) where
  abbrev goal : ℕ
  goal = goal_column I

  -- how all columns move while one does, at one basis
  module _ (ss : List Status) (u : Entries) (dict : HasDictionary I zeroed ss u) (placed : IsPlaced I ss) (e : ℕ) (way : Way) (inside : e < goal) where
    d_entry : (b c : ℕ) → IsNumber (u b c)
    d_entry b c = let r = dict.entries.reduced b c in r.0

    abbrev d : Values
    d = movement ss u e way

    pub d_number : (c : ℕ) → IsNumber (d c)
    d_number c = pick IsNumber (basic_in ss c) (rate way (u c e)) (unit_step e way c) (rate-number way (u c e) (d_entry c e)) (unit_step-number e way c)

    d_lists : SolvesLists (columns I) (basic_in ss) u d
    d_lists = record {
      lists = λ b h p.
          let own : d b ≡ rate way (u b e) = rw p refl in
          let all : d b ≈ value_by (columns I) (u b) d =
          ≈-from (d_number b) own
          ⊙ ≈-sym (unit_value (columns I) (u b) e way (d_entry b) (omega arith))
          ⊙ value_≈ (columns I) (basic_in ss) (u b) (unit_step e way) d (d_entry b) (dict.entries.at_basic b) (unit_step-number e way) d_number
          (λ c l f. let g : d c ≡ unit_step e way c = rw f refl in ≈-sym (≈-from (d_number c) g)) in
          all.is;
    }

    pub d_rows : SolvesRows (width I) (height I + 1) (rows_with_goal zeroed I) d
    d_rows = dict.back d d_number d_lists

    pub d_basic : (c : ℕ) → basic_in ss c ≡ true → d c ≡ rate way (u c e)
    d_basic c b = rw b refl

    pub d_own : (c : ℕ) → basic_in ss c ≡ false → c ≡ e → d c ≡ step_of way
    d_own c b f = rw (b, eq-eqb c e f) refl

    pub d_other : (c : ℕ) → basic_in ss c ≡ false → (c ≡ e → ⊥) → d c ≡ none
    d_other c b f = rw (b, ne_eqb c e f) refl

  -- p has the basis at which t enters, q the one at which it leaves while e enters
  module _ (ssp ssq : List Status) (up uq : Entries) (wp wq : Values) (dictp : HasDictionary I zeroed ssp up) (dictq : HasDictionary I zeroed ssq uq) (placedp : IsPlaced I ssp) (placedq : IsPlaced I ssq) (valuesq : HasValues I ssq uq wq) (t e : ℕ) (sp sq : Way) (helpp : IsFirstHelp I ssp up wp goal Fall t sp) (helpq : IsFirstHelp I ssq uq wq goal Fall e sq) (limited : IsFirstLimit I ssq uq wq e sq t) (apart : t ≡ e → ⊥) (still : limited.limit.num ≡ pos 0) (same : (c : ℕ) → c < goal → basic_in ssp c ≡ false → wq c ≈ resting I ssp c) (least : (c : ℕ) → c < goal → basic_in ssp c ≡ false → (basic_in ssq c ≡ true) ⊎ (c ≡ e) → c ≤ t) where
    abbrev move : Values
    move = movement ssq uq e sq

    move_number : (c : ℕ) → IsNumber (move c)
    move_number = d_number ssq uq dictq placedq e sq helpq.inside

    q_entry : (b c : ℕ) → IsNumber (uq b c)
    q_entry b c = let r = dictq.entries.reduced b c in r.0

    p_entry : (b c : ℕ) → IsNumber (up b c)
    p_entry b c = let r = dictp.entries.reduced b c in r.0

    -- a basic column before t goes on: else its limit would be the first
    goes_on_before : (c : ℕ) → c < t → basic_in ssq c ≡ true → GoesOn (column_at I c) (wq c) (rate sq (uq c e))
    goes_on_before c h b = record {
      up = λ g end f s.
          let l = limit_up (column_at I c) (wq c) (rate sq (uq c e)) end g f s in
          let k : limit_at I ssq uq wq e sq c ≡ Some l.0 = rw b l.1 in
          zeros_apart limited.limit l.0 still l.2 (limited.before c h l.0 k);
      down = λ g end f s.
          let l = limit_down (column_at I c) (wq c) (rate sq (uq c e)) end g f s in
          let k : limit_at I ssq uq wq e sq c ≡ Some l.0 = rw b l.1 in
          zeros_apart limited.limit l.0 still l.2 (limited.before c h l.0 k);
    }

    abbrev IsUp : ℕ → Ratio → Type 0
    IsUp c by = pos 0 ≤ℤ ((up goal c).num *ℤ by.num)

    before_t : (c : ℕ) → c < goal → c < t → basic_in ssp c ≡ false → (by : Ratio) → GoesOn (column_at I c) (wq c) by → IsUp c by
    before_t c h l b by on =
        no_help (column_at I c) (status_at ssp c) (wq c) (up goal c) by (column-numbers I good c) (room c h) (placedp.places c h) b (same c h b)
        (λ v can moves. helpp.before c l v (record { nonbasic = b; can = can; moves = moves })) on

    at_t : (c : ℕ) → c < goal → c ≡ t → basic_in ssp c ≡ false → basic_in ssq c ≡ true → IsUp c (rate sq (uq c e))
    at_t c h f b i =
        let can = subst (λ k. Can sp (column_at I k) (status_at ssp k)) (sym f) helpp.helps.can in
        let moves = subst (λ k. MovesIn Fall (rate sp (up goal k))) (sym f) helpp.helps.moves in
        let lim = subst (λ k. limit_at I ssq uq wq e sq k ≡ Some limited.limit) (sym f) limited.is in
        let r = valuesq.reduced c in
        enters_and_leaves sp (column_at I c) (wq c) (up goal c) (rate sq (uq c e)) moves
        (can_go sp (column_at I c) (status_at ssp c) (wq c) (placedp.places c h) can (same c h b))
        (zero_limit (column_at I c) (wq c) (rate sq (uq c e)) limited.limit (column-numbers I good c) r.0 (rate-number sq (uq c e) (q_entry c e)) (leaving_limit I ssq uq wq e sq c limited.limit lim i) still)

    at_e : (c : ℕ) → c < goal → c ≡ e → c < t → basic_in ssp c ≡ false → basic_in ssq c ≡ false → IsUp c (step_of sq)
    at_e c h f l b i =
        let can = subst (λ k. Can sq (column_at I k) (status_at ssq k)) (sym f) helpq.helps.can in
        let own : wq c ≈ resting I ssq c = record { left = (let r = valuesq.reduced c in r.0); right = (let z = same c h b in resting-number c); is = valuesq.nonbasic c h i } in
        before_t c h l b (step_of sq) (can_go sq (column_at I c) (status_at ssq c) (wq c) (placedq.places c h) can own)
      where
        resting-number : (c : ℕ) → IsNumber (resting I ssq c)
        resting-number c = rest-number (column_at I c) (status_at ssq c) (column-numbers I good c)

    term_up : (c : ℕ) → c < columns I → pos 0 ≤ℤ ((up goal c).num *ℤ (move c).num)
    term_up c h =
        by_bool (basic_in ssp c)
        (λ b. zero_left (up goal c).num (move c).num (ap (λ (r : Ratio). r.num) (dictp.entries.at_basic goal c b)))
        (λ b.
        let l = before_goal I ssp placedp c h b in
        by_bool (basic_in ssq c)
        (λ i.
        let f : move c ≡ rate sq (uq c e) = d_basic ssq uq dictq placedq e sq helpq.inside c i in
        let k = least c l b (inl i) in
        rw f (by_eq c t (λ g. at_t c l g b i) (λ g. before_t c l (omega arith) b (rate sq (uq c e)) (goes_on_before c (omega arith) i))))
        (λ i. by_eq c e
        (λ g.
        let f : move c ≡ step_of sq = d_own ssq uq dictq placedq e sq helpq.inside c i g in
        let k = least c l b (inr g) in
        let o : c ≡ t → ⊥ = λ z. apart (sym z ∙ g) in
        let lt : c < t = by_eq c t (λ z. absurd (o z)) (λ z. omega arith) in
        rw f (at_e c l g lt b i))
        (λ g.
        let f : move c ≡ none = d_other ssq uq dictq placedq e sq helpq.inside c i g in
        zero_right (up goal c).num (move c).num (ap (λ (r : Ratio). r.num) f))))

    pub compared : ⊥
    compared =
        let rows = d_rows ssq uq dictq placedq e sq helpq.inside in
        let l = dictp.on move move_number rows in
        let sums : move goal ≈ value_by (columns I) (up goal) move = record {
          left = move_number goal;
          right = value_by-number (columns I) (up goal) move (p_entry goal) move_number;
          is = l.lists goal (omega arith) (goal_is_basic I ssp placedp);
        } in
        let terms : total none (columns I) (λ c. none) ≲ value_by (columns I) (up goal) move =
        total-≲ (columns I) (λ c. none) (λ c. product (up goal c) (move c)) (≲-from (≈-refl none-number))
        (λ c h. record { left = none-number; right = product-number (up goal c) (move c) (p_entry goal c) (move_number c); is = at_least_none (product (up goal c) (move c)) (term_up c h) }) in
        let high : none ≲ value_by (columns I) (up goal) move = subst (λ z. z ≲ value_by (columns I) (up goal) move) (total-none (columns I)) terms in
        let f : move goal ≡ rate sq (uq goal e) = d_basic ssq uq dictq placedq e sq helpq.inside goal (goal_is_basic I ssq placedq) in
        let low : move goal ⋖ none = record { left = move_number goal; right = none-number; is = below_none (move goal) (rw f helpq.helps.moves) } in
        ⋖-absurd low (≲-trans high (≲-from (≈-sym sums)))
