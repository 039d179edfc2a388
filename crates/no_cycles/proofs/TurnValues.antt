-- A turn of the second phase: how far the moving column goes, and what becomes of the values.
use Rattle.std.proofs.Common.{◌≡◌, ℕ, ◌+◌, ◌<◌, pos, ◌≤ℤ◌, Bool, true, false, Some, List, length, refl, sym, ◌∙◌, ap, subst, arith}
use Rattle.std.specs.Prelude.{slice_set}
use Rattle.std.proofs.lemmas.Bool.{eq-eqb}
use Rattle.std.proofs.lemmas.List.{get_or-set_same, get_or-set_other}
use Rattle.std.proofs.Common.{length-set}
use Rattle.rational.specs.Ratio.{Ratio, sum, product, IsNumber}
use Rattle.evidence.specs.Instance.{Instance, IsInstance, width, height, column_at}
use Rattle.evidence.proofs.Numbers.{◌≈◌, ≈-refl, ≈-from, ≈-sym, ◌⊙◌, ◌▹◌, sum-≈, sum-none, product-number}
use Rattle.evidence.proofs.Columns.{by_eq, by_bool, column-numbers}
use Rattle.bases.specs.Dictionary.{Entries, Values, value_by}
use Rattle.bases.specs.Program.{goal_column, columns, rows_with_goal}
use Rattle.bases.proofs.Lists.{value_by-number}
use Rattle.simplex_rules.specs.declared.columns.Status.{Status}
use Rattle.simplex_rules.specs.declared.columns.Status.TheVariants.{Basic}
use Rattle.simplex_rules.specs.declared.columns.Way.{Way}
use Rattle.simplex_rules.specs.declared.columns.Way.TheVariants.{Rise, Fall}
use Rattle.simplex_rules.specs.Statuses.{status_at, is_basic, basic_in, resting, rest_at, HasDictionary, HasValues, IsPlaced}
use Rattle.simplex_rules.specs.Turns.{rate, NoneOut, IsFirstHelp, IsFirstLimit, limit_at, across, reached_status, left_status, flipped, pivoted}
use Rattle.simplex_rules.specs.Reports.{step_of}
use Rattle.simplex_rules.specs.Runs.{HasNoClash}
use Rattle.simplex_rules.proofs.Core.{rate-number}
use Rattle.simplex_rules.proofs.Facts.{rest-number, kept_between, zero_times}
use Rattle.no_cycles.proofs.Moves as Moves
use Rattle.no_cycles.proofs.Moves.{pinned}
use Rattle.no_cycles.proofs.SignArgument.{rows-number, goal_is_basic, before_goal, leaving_basic, leaving_limit}
use Rattle.no_cycles.proofs.Limits.{IsLimit, IsAcross, basic_limit, own_limit}

-- the new values, of the old ones: the goal falls by q times its rate, and where q is 0 all values stay
pub record IsMove (I : Instance) (v w : Values) (by q : Ratio) : Type 0 where
  pub number : IsNumber q
  pub not_below : pos 0 ≤ℤ q.num
  pub falls : w (goal_column I) ≈ sum (v (goal_column I)) (product q by)
  pub still : q.num ≡ pos 0 → (c : ℕ) → c < columns I → w c ≈ v c

pub status_set_same : (ss : List Status) (b : ℕ) (s : Status) → b < length ss → status_at (slice_set ss b s) b ≡ s
status_set_same ss b s h = get_or-set_same ss b s Basic h

pub status_set_other : (ss : List Status) (b c : ℕ) (s : Status) → (c ≡ b → ⊥) → status_at (slice_set ss b s) c ≡ status_at ss c
status_set_other ss b c s d = get_or-set_other ss b c s Basic d

pub pivoted_other : (ss : List Status) (b e c : ℕ) (s : Status) → (c ≡ b → ⊥) → (c ≡ e → ⊥) → status_at (pivoted ss b e s) c ≡ status_at ss c
pivoted_other ss b e c s d f = status_set_other (slice_set ss b s) e c Basic f ∙ status_set_other ss b c s d

pub pivoted_entering : (ss : List Status) (b e : ℕ) (s : Status) → e < length ss → status_at (pivoted ss b e s) e ≡ Basic
pivoted_entering ss b e s h = status_set_same (slice_set ss b s) e Basic (let n = length-set ss b s in omega arith)

pub pivoted_leaving : (ss : List Status) (b e : ℕ) (s : Status) → b < length ss → (b ≡ e → ⊥) → status_at (pivoted ss b e s) b ≡ s
pivoted_leaving ss b e s h d = status_set_other (slice_set ss b s) e b Basic d ∙ status_set_same ss b s h

module _ (I : Instance) (good : IsInstance I) (zeroed : Bool) (room : HasNoClash I) where
  abbrev goal : ℕ
  goal = goal_column I

  pub rest_number : (ss : List Status) (c : ℕ) → IsNumber (resting I ss c)
  rest_number ss c = rest-number (column_at I c) (status_at ss c) (column-numbers I good c)

  -- the values of all columns
  abbrev pub full : (ss : List Status) (u : Entries) → HasDictionary I zeroed ss u → Values
  full ss u dict = Moves.val (width I) (height I + 1) (rows_with_goal zeroed I) (rows-number I good zeroed) (basic_in ss) u dict (resting I ss) (rest_number ss)

  pub full-number : (ss : List Status) (u : Entries) (dict : HasDictionary I zeroed ss u) (c : ℕ) → IsNumber (full ss u dict c)
  full-number ss u dict = Moves.val-number (width I) (height I + 1) (rows_with_goal zeroed I) (rows-number I good zeroed) (basic_in ss) u dict (resting I ss) (rest_number ss)

  pub full_other : (ss : List Status) (u : Entries) (dict : HasDictionary I zeroed ss u) (c : ℕ) → basic_in ss c ≡ false → full ss u dict c ≡ resting I ss c
  full_other ss u dict = Moves.val_other (width I) (height I + 1) (rows_with_goal zeroed I) (rows-number I good zeroed) (basic_in ss) u dict (resting I ss) (rest_number ss)

  -- two bases with the same places have the same values
  pub full_alike : (ss ts : List Status) (u v : Entries) (d : HasDictionary I zeroed ss u) (f : HasDictionary I zeroed ts v) → ss ≡ ts → (c : ℕ) → c < columns I → full ss u d c ≈ full ts v f c
  full_alike ss ts u v d f e =
      pinned (width I) (height I + 1) (rows_with_goal zeroed I) (rows-number I good zeroed) (basic_in ts) v f (resting I ts) (rest_number ts) (full ss u d) (full-number ss u d)
      (Moves.val_rows (width I) (height I + 1) (rows_with_goal zeroed I) (rows-number I good zeroed) (basic_in ss) u d (resting I ss) (rest_number ss))
      (λ c h b. let i : basic_in ss c ≡ false = ap (λ xs. basic_in xs c) e ∙ b in ≈-from (full-number ss u d c) (full_other ss u d c i ∙ ap (λ xs. resting I xs c) e))

  module _ (ss : List Status) (u : Entries) (dict : HasDictionary I zeroed ss u) (placed : IsPlaced I ss) where
    u_number : (b c : ℕ) → IsNumber (u b c)
    u_number b c = let r = dict.entries.reduced b c in r.0

    pub known : (w : Values) → HasValues I ss u w → (c : ℕ) → c < goal → w c ≈ full ss u dict c
    known w values c h =
        by_bool (basic_in ss c)
        (λ b.
        let f : full ss u dict c ≡ value_by (columns I) (u c) (resting I ss) = rw b refl in
        let own : w c ≈ value_by (columns I) (u c) (resting I ss) = record { left = (let r = values.reduced c in r.0); right = value_by-number (columns I) (u c) (resting I ss) (u_number c) (rest_number ss); is = values.basic c h b } in
        own ▹ sym f)
        (λ b.
        let own : w c ≈ resting I ss c = record { left = (let r = values.reduced c in r.0); right = rest_number ss c; is = values.nonbasic c h b } in
        own ▹ sym (full_other ss u dict c b))

    module _ (e : ℕ) (way : Way) (inside : e < goal) (nonbasic : basic_in ss e ≡ false) (q : Ratio) (q_number : IsNumber q) where
      pub e_in : e < columns I
      e_in = omega arith

      abbrev pub after : Values
      after = Moves.after (width I) (height I + 1) (rows_with_goal zeroed I) (rows-number I good zeroed) (basic_in ss) u dict (resting I ss) (rest_number ss) e way q q_number e_in

      pub after-number : (c : ℕ) → IsNumber (after c)
      after-number = Moves.after-number (width I) (height I + 1) (rows_with_goal zeroed I) (rows-number I good zeroed) (basic_in ss) u dict (resting I ss) (rest_number ss) e way q q_number e_in

      pub after_basic : (c : ℕ) → basic_in ss c ≡ true → after c ≈ sum (full ss u dict c) (product q (rate way (u c e)))
      after_basic = Moves.after_basic (width I) (height I + 1) (rows_with_goal zeroed I) (rows-number I good zeroed) (basic_in ss) u dict (resting I ss) (rest_number ss) e way q q_number e_in

      pub after_own : after e ≈ sum (resting I ss e) (product q (step_of way))
      after_own = Moves.after_own (width I) (height I + 1) (rows_with_goal zeroed I) (rows-number I good zeroed) (basic_in ss) u dict (resting I ss) (rest_number ss) e way q q_number e_in nonbasic

      pub after_other : (c : ℕ) → basic_in ss c ≡ false → (c ≡ e → ⊥) → after c ≈ resting I ss c
      after_other = Moves.after_other (width I) (height I + 1) (rows_with_goal zeroed I) (rows-number I good zeroed) (basic_in ss) u dict (resting I ss) (rest_number ss) e way q q_number e_in

      gone : (x : Ratio) → IsNumber x → q.num ≡ pos 0 → (y : Ratio) → IsNumber y → sum y (product q x) ≈ y
      gone x p z y py = sum-≈ (≈-refl py) (zero_times q x q_number p z) ▹ sum-none y

      after_still : q.num ≡ pos 0 → (c : ℕ) → after c ≈ full ss u dict c
      after_still z c =
          by_bool (basic_in ss c)
          (λ b. after_basic c b ⊙ gone (rate way (u c e)) (rate-number way (u c e) (u_number c e)) z (full ss u dict c) (full-number ss u dict c))
          (λ b. by_eq c e
          (λ f. subst (λ i. after i ≈ full ss u dict i) (sym f) (after_own ⊙ gone (step_of way) (step-number way) z (resting I ss e) (rest_number ss e) ▹ sym (full_other ss u dict e nonbasic)))
          (λ f. after_other c b f ▹ sym (full_other ss u dict c b)))
        where
          step-number : (w : Way) → IsNumber (step_of w)
          step-number Rise = omega arith
          step-number Fall = omega arith

      -- the next basis, whose places the values then have
      module _ (ts : List Status) (v : Entries) (next : HasDictionary I zeroed ts v) (ts_placed : IsPlaced I ts) (agree : (c : ℕ) → c < goal → basic_in ts c ≡ false → after c ≈ resting I ts c) where
        pub arrives : (c : ℕ) → c < columns I → after c ≈ full ts v next c
        arrives =
            pinned (width I) (height I + 1) (rows_with_goal zeroed I) (rows-number I good zeroed) (basic_in ts) v next (resting I ts) (rest_number ts) after after-number
            (Moves.after_rows (width I) (height I + 1) (rows_with_goal zeroed I) (rows-number I good zeroed) (basic_in ss) u dict (resting I ss) (rest_number ss) e way q q_number e_in)
            (λ c h b. agree c (before_goal I ts ts_placed c h b) b)

        pub moved : pos 0 ≤ℤ q.num → IsMove I (full ss u dict) (full ts v next) (rate way (u goal e)) q
        moved up = record {
          number = q_number;
          not_below = up;
          falls = ≈-sym (arrives goal (omega arith)) ⊙ after_basic goal (goal_is_basic I ss placed);
          still = λ z c h. ≈-sym (arrives c h) ⊙ after_still z c;
        }

    -- the two kinds of turns
    module _ (w : Values) (values : HasValues I ss u w) (none_out : NoneOut I ss u w) (e : ℕ) (way : Way) (help : IsFirstHelp I ss u w goal Fall e way) where
      pub swap_limit : (b : ℕ) (q : Ratio) → b < goal → limit_at I ss u w e way b ≡ Some q → (b ≡ e → ⊥) → IsLimit (w b) (rate way (u b e)) q (rest_at (column_at I b) (left_status I u b e way))
      swap_limit b q h a d =
          let i = leaving_basic I ss u w e way b q a d in
          basic_limit (column_at I b) (w b) (rate way (u b e)) q (column-numbers I good b) (room b h) (let r = values.reduced b in r.0) (rate-number way (u b e) (u_number b e))
          (kept_between (column_at I b) (w b) (λ x m. none_out b h x (record { basic = i; misses = m })))
          (leaving_limit I ss u w e way b q a i)

      pub swap_agrees : (b : ℕ) (q : Ratio) (h : b < goal) (a : limit_at I ss u w e way b ≡ Some q) (d : b ≡ e → ⊥) (p : IsNumber q) → let ts = pivoted ss b e (left_status I u b e way) in (c : ℕ) → c < goal → basic_in ts c ≡ false → after e way help.inside help.helps.nonbasic q p c ≈ resting I ts c
      swap_agrees b q h a d p c l f =
          let s : Status = left_status I u b e way in
          let n = placed.count in
          by_eq c e
          (λ g.
          let k : status_at (pivoted ss b e s) e ≡ Basic = pivoted_entering ss b e s (omega arith) in
          let z : true ≡ false = sym (ap is_basic (ap (status_at (pivoted ss b e s)) g ∙ k)) ∙ f in absurd (cc))
          (λ g. by_eq c b
          (λ k.
          let i = leaving_basic I ss u w e way b q a d in
          let lim = swap_limit b q h a d in
          let at : status_at (pivoted ss b e s) b ≡ s = pivoted_leaving ss b e s (omega arith) d in
          let to : resting I (pivoted ss b e s) b ≡ rest_at (column_at I b) s = ap (rest_at (column_at I b)) at in
          subst (λ j. after e way help.inside help.helps.nonbasic q p j ≈ resting I (pivoted ss b e s) j) (sym k)
          (after_basic e way help.inside help.helps.nonbasic q p b i ⊙ sum-≈ (≈-sym (known w values b h)) (≈-refl (product-number q (rate way (u b e)) p (rate-number way (u b e) (u_number b e)))) ⊙ lim.ends ▹ sym to))
          (λ k.
          let at : status_at (pivoted ss b e s) c ≡ status_at ss c = pivoted_other ss b e c s k g in
          let i : basic_in ss c ≡ false = ap is_basic (sym at) ∙ f in
          after_other e way help.inside help.helps.nonbasic q p c i g ▹ ap (rest_at (column_at I c)) (sym at)))

      pub swap_moves : (b : ℕ) (limit : IsFirstLimit I ss u w e way b) → (b ≡ e → ⊥) → (ts : List Status) → ts ≡ pivoted ss b e (left_status I u b e way) → (v : Entries) (next : HasDictionary I zeroed ts v) → IsPlaced I ts → IsMove I (full ss u dict) (full ts v next) (rate way (u goal e)) limit.limit
      swap_moves b limit d ts same v next ts_placed =
          let lim = swap_limit b limit.limit limit.inside limit.is d in
          moved e way help.inside help.helps.nonbasic limit.limit lim.number ts v next ts_placed
          (λ c h f. subst (λ xs. after e way help.inside help.helps.nonbasic limit.limit lim.number c ≈ resting I xs c) (sym same) (swap_agrees b limit.limit limit.inside limit.is d lim.number c h (ap (λ xs. basic_in xs c) (sym same) ∙ f)))
          lim.not_below

      pub flip_limit : (limit : IsFirstLimit I ss u w e way e) → IsAcross (resting I ss e) (step_of way) limit.limit (rest_at (column_at I e) (reached_status way (column_at I e)))
      flip_limit limit =
          let a = limit.is in
          let b = help.helps.nonbasic in
          let k : e ≡ e = refl in
          let o : across (column_at I e).lb (column_at I e).ub ≡ Some limit.limit = rw (b, eq-eqb e e k) at a in
          own_limit way (column_at I e) (status_at ss e) limit.limit (column-numbers I good e) (placed.places e help.inside) help.helps.can o

      pub flip_agrees : (limit : IsFirstLimit I ss u w e way e) (p : IsNumber limit.limit) (c : ℕ) → c < goal → basic_in (flipped I ss e way) c ≡ false → after e way help.inside help.helps.nonbasic limit.limit p c ≈ resting I (flipped I ss e way) c
      flip_agrees limit p c l f =
          let s : Status = reached_status way (column_at I e) in
          let n = placed.count in
          by_eq c e
          (λ g.
          let in_list : e < length ss = let hi = help.inside in omega arith in
          let at : status_at (slice_set ss e s) e ≡ s = status_set_same ss e s in_list in
          let lim = flip_limit limit in
          let to : resting I (slice_set ss e s) e ≡ rest_at (column_at I e) s = ap (rest_at (column_at I e)) at in
          subst (λ j. after e way help.inside help.helps.nonbasic limit.limit p j ≈ resting I (slice_set ss e s) j) (sym g)
          (after_own e way help.inside help.helps.nonbasic limit.limit p ⊙ lim.limit.ends ▹ sym to))
          (λ g.
          let at : status_at (slice_set ss e s) c ≡ status_at ss c = status_set_other ss e c s g in
          let i : basic_in ss c ≡ false = ap is_basic (sym at) ∙ f in
          after_other e way help.inside help.helps.nonbasic limit.limit p c i g ▹ ap (rest_at (column_at I c)) (sym at))

      pub flip_moves : (limit : IsFirstLimit I ss u w e way e) (ts : List Status) → ts ≡ flipped I ss e way → (v : Entries) (next : HasDictionary I zeroed ts v) → IsPlaced I ts → IsMove I (full ss u dict) (full ts v next) (rate way (u goal e)) limit.limit
      flip_moves limit ts same v next ts_placed =
          let lim = flip_limit limit in
          moved e way help.inside help.helps.nonbasic limit.limit lim.limit.number ts v next ts_placed
          (λ c h f. subst (λ xs. after e way help.inside help.helps.nonbasic limit.limit lim.limit.number c ≈ resting I xs c) (sym same) (flip_agrees limit lim.limit.number c h (ap (λ xs. basic_in xs c) (sym same) ∙ f)))
          lim.limit.not_below
