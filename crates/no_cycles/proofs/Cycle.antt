-- Turns of the second phase that come back to where they began: there are none.
use Rattle.std.proofs.Common.{◌≡◌, ℕ, zero, suc, ◌-◌, ◌*◌, ◌<◌, ◌≤◌, ◌⊎◌, inl, inr, ℤ, pos, negsuc, ◌*ℤ◌, ◌<ℤ◌, ◌≤ℤ◌, Bool, true, false, cond, List, length, refl, sym, ◌∙◌, ap, subst, arith, mul_comm}
use Rattle.std.proofs.Math.IntN.{zero-*ℤ, *ℤ_comm}
use Rattle.std.proofs.lemmas.Int.{ints, by_lt_z}
use Rattle.rational.specs.Ratio.{Ratio, sum, product, IsNumber}
use Rattle.rational.proofs.Integers.{more-times, above-times}
use Rattle.rational.proofs.Scaling.{add-times, times-times}
use Rattle.evidence.specs.Sums.{none}
use Rattle.evidence.specs.Instance.{Range, Instance, IsInstance, column_at}
use Rattle.evidence.proofs.Numbers.{◌≈◌, ◌≲◌, ◌⋖◌, ≈-refl, ≈-sym, ◌⊙◌, ◌▹◌, ≲-from, ≲-trans, ≲-⋖, ⋖-absurd, ≲-is, sum-≲, sum-none, sum-number, product-number}
use Rattle.evidence.proofs.Columns.{by_lt, by_eq, by_bool, none-number}
use Rattle.bases.specs.Dictionary.{Entries, Values, value_by}
use Rattle.bases.specs.Program.{goal_column, columns}
use Rattle.simplex_rules.specs.declared.columns.Status.{Status}
use Rattle.simplex_rules.specs.declared.columns.Way.{Way}
use Rattle.simplex_rules.specs.declared.columns.Way.TheVariants.{Rise, Fall}
use Rattle.simplex_rules.specs.Statuses.{is_basic, basic_in, resting, has_width, HasDictionary, HasValues, IsPlaced}
use Rattle.simplex_rules.specs.Turns.{rate, NoneOut, IsFirstHelp, IsFirstLimit, reached_status, left_status, flipped, pivoted}
use Rattle.simplex_rules.specs.Runs.{HasNoClash}
use Rattle.simplex_rules.proofs.Core.{rate-number}
use Rattle.simplex_rules.proofs.Facts.{at_most_none}
use Rattle.no_cycles.proofs.SignArgument.{compared, leaving_basic}
use Rattle.no_cycles.proofs.TurnValues.{IsMove, full, full-number, full_other, full_alike, known, flip_limit, flip_moves, swap_moves, pivoted_other, pivoted_entering, pivoted_leaving}
use Rattle.no_cycles.proofs.Choices.{greatest, given_up}

-- a fall
down_times : (a b : ℤ) → pos 0 <ℤ a → b <ℤ pos 0 → (a *ℤ b) <ℤ pos 0
down_times (pos zero) b h k = absurd (omega (arith, ints))
down_times (pos (suc a)) b h k =
    let l = above-times b (pos 0) (suc a) (omega arith) k in
    let z = zero-*ℤ (pos (suc a)) in
    let e = *ℤ_comm (pos (suc a)) b in
    omega (arith, ints)
down_times (negsuc a) b h k = absurd (omega (arith, ints))

low_times : (a b : ℤ) → pos 0 ≤ℤ a → b <ℤ pos 0 → (a *ℤ b) ≤ℤ pos 0
low_times (pos a) b h k =
    let l = more-times b (pos 0) a (omega (arith, ints)) in
    let z = zero-*ℤ (pos a) in
    let e = *ℤ_comm (pos a) b in
    omega (arith, ints)
low_times (negsuc a) b h k = absurd (omega (arith, ints))

below_sum : (x y : Ratio) → IsNumber x → IsNumber y → y.num <ℤ pos 0 → sum x y ⋖ x
below_sum x y px py h =
    let z = zero-*ℤ (pos x.den) in
    let a = above-times y.num (pos 0) x.den px h in
    let b = above-times (y.num *ℤ pos x.den) (pos 0) x.den px (omega (arith, ints)) in
    let e = add-times (x.num *ℤ pos y.den) (y.num *ℤ pos x.den) x.den in
    let f : x.num *ℤ pos y.den *ℤ pos x.den ≡ x.num *ℤ pos (x.den * y.den) = times-times x.num y.den x.den ∙ ap (λ k. x.num *ℤ pos k) (mul_comm y.den x.den) in
    record { left = sum-number x y px py; right = px; is = omega (arith, ints) }

pub at_most_sum : (x y : Ratio) → IsNumber x → IsNumber y → y.num ≤ℤ pos 0 → sum x y ≲ x
at_most_sum x y px py h =
    let l : y ≲ none = record { left = py; right = none-number; is = at_most_none y h } in
    let all : sum x y ≲ sum x none = sum-≲ (≲-from (≈-refl px)) l in
    ≲-is all (sum-none x)

-- what a turn takes off a basis
pub record Taken : Type 0 where
  pub u : Entries
  pub w : Values
  pub entering : ℕ
  pub way : Way
  pub first : ℕ

pub record IsTaken (I : Instance) (ss : List Status) (x : Taken) (ts : List Status) : Type 0 where
  pub values : HasValues I ss x.u x.w
  pub none_out : NoneOut I ss x.u x.w
  pub help : IsFirstHelp I ss x.u x.w (goal_column I) Fall x.entering x.way
  pub limit : IsFirstLimit I ss x.u x.w x.entering x.way x.first
  pub goes : ((x.first ≡ x.entering) × (ts ≡ flipped I ss x.entering x.way)) ⊎ ((x.first ≡ x.entering → ⊥) × (ts ≡ pivoted ss x.first x.entering (left_status I x.u x.first x.entering x.way)))

-- a turn by which nothing moves
pub record IsStill (I : Instance) (ss : List Status) (x : Taken) (ts : List Status) : Type 0 where
  pub apart : x.first ≡ x.entering → ⊥
  pub limit : IsFirstLimit I ss x.u x.w x.entering x.way x.first
  pub zero : limit.limit.num ≡ pos 0
  pub swapped : ts ≡ pivoted ss x.first x.entering (left_status I x.u x.first x.entering x.way)

pub record Outcome (I : Instance) (ss : List Status) (x : Taken) (ts : List Status) (v w : Values) : Type 0 where
  pub q : Ratio
  pub move : IsMove I v w (rate x.way (x.u (goal_column I) x.entering)) q
  pub still : q.num ≡ pos 0 → IsStill I ss x ts

pub left_nonbasic : (w : Way) (r : Range) → is_basic (reached_status w r) ≡ false
left_nonbasic Rise r = by_bool (has_width r) (λ b. rw b refl) (λ b. rw b refl)
left_nonbasic Fall r = refl

module _ (I : Instance) (good : IsInstance I) (zeroed : Bool) (room : HasNoClash I) where
  pub outcome : (ss : List Status) (x : Taken) (ts : List Status) (v : Entries) (dict : HasDictionary I zeroed ss x.u) (next : HasDictionary I zeroed ts v) → IsPlaced I ss → IsPlaced I ts → IsTaken I ss x ts → Outcome I ss x ts (full I good zeroed room ss x.u dict) (full I good zeroed room ts v next)
  outcome ss x ts v dict next placed ts_placed t = by t.goes
    where
      by : ((x.first ≡ x.entering) × (ts ≡ flipped I ss x.entering x.way)) ⊎ ((x.first ≡ x.entering → ⊥) × (ts ≡ pivoted ss x.first x.entering (left_status I x.u x.first x.entering x.way))) → Outcome I ss x ts (full I good zeroed room ss x.u dict) (full I good zeroed room ts v next)
      by (inl (e, f)) =
          let l : IsFirstLimit I ss x.u x.w x.entering x.way x.entering = subst (λ b. IsFirstLimit I ss x.u x.w x.entering x.way b) e t.limit in
          let a = flip_limit I good zeroed room ss x.u dict placed x.w t.values t.none_out x.entering x.way t.help l in
          record {
            q = l.limit;
            move = flip_moves I good zeroed room ss x.u dict placed x.w t.values t.none_out x.entering x.way t.help l ts f v next ts_placed;
            still = λ z. let up = a.above in absurd (omega (arith, ints));
          }
      by (inr (d, f)) = record {
        q = t.limit.limit;
        move = swap_moves I good zeroed room ss x.u dict placed x.w t.values t.none_out x.entering x.way t.help x.first t.limit d ts f v next ts_placed;
        still = λ z. record { apart = d; limit = t.limit; zero = z; swapped = f };
      }

  module _ (k : ℕ) (s : ℕ → List Status) (x : ℕ → Taken) (dict : (i : ℕ) → i ≤ k → HasDictionary I zeroed (s i) (x i).u) (placed : (i : ℕ) → i ≤ k → IsPlaced I (s i)) (turn : (i : ℕ) → i < k → IsTaken I (s i) (x i) (s (suc i))) where
    abbrev goal : ℕ
    goal = goal_column I

    abbrev val : ℕ → Values
    val i c = cond (basic_in (s i) c) (value_by (columns I) ((x i).u c) (resting I (s i))) (resting I (s i) c)

    come : (i : ℕ) → i < k → Outcome I (s i) (x i) (s (suc i)) (val i) (val (suc i))
    come i h = outcome (s i) (x i) (s (suc i)) (x (suc i)).u (dict i (omega arith)) (dict (suc i) (omega arith)) (placed i (omega arith)) (placed (suc i) (omega arith)) (turn i h)

    val-number : (i : ℕ) → i ≤ k → (c : ℕ) → IsNumber (val i c)
    val-number i h c = full-number I good zeroed room (s i) (x i).u (dict i h) c

    by_number : (i : ℕ) → i ≤ k → IsNumber (rate (x i).way ((x i).u goal (x i).entering))
    by_number i h = let d = dict i h in let r = d.entries.reduced goal (x i).entering in rate-number (x i).way ((x i).u goal (x i).entering) r.0

    -- the goal never rises, and falls where the quotient is above 0
    fall : (i : ℕ) → i < k → val (suc i) goal ≲ val i goal
    fall i h =
        let o = come i h in
        let t = turn i h in
        ≲-trans (≲-from o.move.falls)
        (at_most_sum (val i goal) (product o.q (rate (x i).way ((x i).u goal (x i).entering))) (val-number i (omega arith) goal) (product-number o.q (rate (x i).way ((x i).u goal (x i).entering)) o.move.number (by_number i (omega arith)))
        (low_times o.q.num (rate (x i).way ((x i).u goal (x i).entering)).num o.move.not_below t.help.helps.moves))

    fall_far : (i : ℕ) (h : i < k) → pos 0 <ℤ (come i h).q.num → val (suc i) goal ⋖ val i goal
    fall_far i h up =
        let o = come i h in
        let t = turn i h in
        ≲-⋖ (≲-from o.move.falls)
        (below_sum (val i goal) (product o.q (rate (x i).way ((x i).u goal (x i).entering))) (val-number i (omega arith) goal) (product-number o.q (rate (x i).way ((x i).u goal (x i).entering)) o.move.number (by_number i (omega arith)))
        (down_times o.q.num (rate (x i).way ((x i).u goal (x i).entering)).num up t.help.helps.moves))

    lower : (j i : ℕ) → i ≤ j → j ≤ k → val j goal ≲ val i goal
    lower zero i h l = let e : 0 ≡ i = omega arith in subst (λ a. val 0 goal ≲ val a goal) e (≲-from (≈-refl (val-number 0 l goal)))
    lower (suc j) i h l =
        by_eq i (suc j)
        (λ e. subst (λ a. val (suc j) goal ≲ val a goal) (sym e) (≲-from (≈-refl (val-number (suc j) l goal))))
        (λ d. ≲-trans (fall j (omega arith)) (lower j i (omega arith) (omega arith)))

    module _ (closed : s 0 ≡ s k) (some : 0 < k) where
      back : (c : ℕ) → c < columns I → val 0 c ≈ val k c
      back = full_alike I good zeroed room (s 0) (s k) (x 0).u (x k).u (dict 0 (omega arith)) (dict k (omega arith)) closed

      zero_q : (i : ℕ) (h : i < k) → (come i h).q.num ≡ pos 0
      zero_q i h =
          let o = come i h in
          by_lt_z (pos 0) (come i h).q.num
          (λ up. absurd (⋖-absurd (fall_far i h up) (≲-trans (lower i 0 (omega arith) (omega arith)) (≲-trans (≲-from (back goal (omega arith))) (lower k (suc i) (omega arith) (omega arith))))))
          (λ g. let n = o.move.not_below in omega (arith, ints))

      steady : (i : ℕ) → i ≤ k → (c : ℕ) → c < columns I → val i c ≈ val 0 c
      steady zero h c l = ≈-refl (val-number 0 h c)
      steady (suc i) h c l = let o = come i (omega arith) in o.move.still (zero_q i (omega arith)) c l ⊙ steady i (omega arith) c l

      still : (i : ℕ) → i < k → IsStill I (s i) (x i) (s (suc i))
      still i h = let o = come i h in o.still (zero_q i h)

      -- which columns are basic
      abbrev basic : ℕ → ℕ → Bool
      basic c i = basic_in (s i) c

      room_for : (i : ℕ) → i < k → (c : ℕ) → c < goal → c < length (s i)
      room_for i h c l = let p = placed i (omega arith) in let n = p.count in omega arith

      entered : (i : ℕ) (h : i < k) → basic (x i).entering (suc i) ≡ true
      entered i h =
          let t = still i h in
          let n = turn i h in
          ap (λ xs. basic_in xs (x i).entering) t.swapped ∙ ap is_basic (pivoted_entering (s i) (x i).first (x i).entering _ (room_for i h (x i).entering n.help.inside))

      left : (i : ℕ) (h : i < k) → basic (x i).first (suc i) ≡ false
      left i h =
          let t = still i h in
          ap (λ xs. basic_in xs (x i).first) t.swapped ∙ ap is_basic (pivoted_leaving (s i) (x i).first (x i).entering _ (room_for i h (x i).first t.limit.inside) t.apart)
          ∙ left_nonbasic _ (column_at I (x i).first)

      was_basic : (i : ℕ) (h : i < k) → basic (x i).first i ≡ true
      was_basic i h = let t = still i h in leaving_basic I (s i) (x i).u (x i).w (x i).entering (x i).way (x i).first t.limit.limit t.limit.is t.apart

      stayed : (i : ℕ) (h : i < k) (c : ℕ) → (c ≡ (x i).first → ⊥) → (c ≡ (x i).entering → ⊥) → basic c (suc i) ≡ basic c i
      stayed i h c d f =
          let t = still i h in
          ap (λ xs. basic_in xs c) t.swapped ∙ ap is_basic (pivoted_other (s i) (x i).first (x i).entering c _ d f)

      leaves_is : (i : ℕ) (h : i < k) (c : ℕ) → basic c i ≡ true → (basic c (suc i) ≡ true → ⊥) → c ≡ (x i).first
      leaves_is i h c b n =
          by_eq c (x i).first (λ e. e)
          (λ d. by_eq c (x i).entering
          (λ e. absurd (n (ap (λ a. basic a (suc i)) e ∙ entered i h)))
          (λ f. absurd (n (stayed i h c d f ∙ b))))

      enters_is : (i : ℕ) (h : i < k) (c : ℕ) → basic c i ≡ false → (basic c (suc i) ≡ false → ⊥) → c ≡ (x i).entering
      enters_is i h c b n =
          by_eq c (x i).entering (λ e. e)
          (λ f. by_eq c (x i).first
          (λ e. let z : true ≡ false = sym (ap (λ a. basic a i) e ∙ was_basic i h) ∙ b in absurd (cc))
          (λ d. absurd (n (stayed i h c d f ∙ b))))

      constant : (c : ℕ) → ((i : ℕ) → i < k → (c ≡ (x i).first → ⊥) × (c ≡ (x i).entering → ⊥)) → (i : ℕ) → i ≤ k → basic c i ≡ basic c 0
      constant c f zero h = refl
      constant c f (suc i) h = let g = f i (omega arith) in stayed i (omega arith) c g.0 g.1 ∙ constant c f i (omega arith)

      last : ℕ
      last = k - 1

      -- the greatest column that moves enters at p and leaves at q
      compare : (p q : ℕ) → p < k → q < k → (x p).entering ≡ (x q).first → ((i : ℕ) → i < k → (x i).entering ≤ (x p).entering) → ((i : ℕ) → i < k → (x i).first ≤ (x p).entering) → ⊥
      compare p q hp hq e top_entering top_leaving =
          let tp = turn p hp in
          let tq = turn q hq in
          let sq = still q hq in
          let lim : (l : IsFirstLimit I (s q) (x q).u (x q).w (x q).entering (x q).way (x p).entering) × (l.limit.num ≡ pos 0) = subst (λ b. (l : IsFirstLimit I (s q) (x q).u (x q).w (x q).entering (x q).way b) × (l.limit.num ≡ pos 0)) (sym e) (sq.limit, sq.zero) in
          compared I good zeroed room (s p) (s q) (x p).u (x q).u (x p).w (x q).w (dict p (omega arith)) (dict q (omega arith)) (placed p (omega arith)) (placed q (omega arith)) tq.values (x p).entering (x q).entering (x p).way (x q).way tp.help tq.help lim.0
          (λ f. sq.apart (sym e ∙ f)) lim.1
          (λ c h b.
          known I good zeroed room (s q) (x q).u (dict q (omega arith)) (placed q (omega arith)) (x q).w tq.values c h
          ⊙ steady q (omega arith) c (omega arith) ⊙ ≈-sym (steady p (omega arith) c (omega arith))
          ▹ full_other I good zeroed room (s p) (x p).u (dict p (omega arith)) c b)
          (λ c h b o. by_lt (x p).entering c (λ l. absurd (too_great c l b o)) (λ l. l))
        where
          too_great : (c : ℕ) → (x p).entering < c → basic c p ≡ false → (basic c q ≡ true) ⊎ (c ≡ (x q).entering) → ⊥
          too_great c l b (inr f) = let g = top_entering q hq in omega arith
          too_great c l b (inl i) =
              let never : (j : ℕ) → j < k → (c ≡ (x j).first → ⊥) × (c ≡ (x j).entering → ⊥) = λ j h. let g = top_entering j h in let m = top_leaving j h in ((λ z. omega arith), (λ z. omega arith)) in
              let f = constant c never p (omega arith) in
              let g = constant c never q (omega arith) in
              let z : false ≡ true = sym b ∙ f ∙ sym g ∙ i in cc

      pub no_cycle : ⊥
      no_cycle =
          let (a, ha, ga) = greatest (λ i. (x i).entering) (k - 1) in
          let (b, hb, gb) = greatest (λ i. (x i).first) (k - 1) in
          let la : a < k = omega arith in
          let lb : b < k = omega arith in
          by_lt (x a).entering (x b).first
          (λ l.
          let (q, hq, f, g) = given_up (λ i. basic (x b).first i) false k b (ap (λ xs. basic_in xs (x b).first) closed) lb (λ z. let y : true ≡ false = sym (was_basic b lb) ∙ z in cc) (left b lb) in
          let e = enters_is q hq (x b).first f g in
          let m = ga q (omega arith) in omega arith)
          (λ l.
          let t = turn a la in
          let (q, hq, f, g) = given_up (λ i. basic (x a).entering i) true k a (ap (λ xs. basic_in xs (x a).entering) closed) la (λ z. let y : false ≡ true = sym t.help.helps.nonbasic ∙ z in cc) (entered a la) in
          let e = leaves_is q hq (x a).entering f g in
          compare a q la hq e (λ i h. ga i (omega arith)) (λ i h. let m = gb i (omega arith) in omega arith))
