-- A run has an end: each moment has a next one or is the last, and each turn is one of those that the limit leaves.
use Rattle.std.proofs.Common.{◌≡◌, ◌⊎◌, inl, inr, ℕ, zero, suc, ◌+◌, ◌-◌, ◌<◌, ◌≤◌, ℤ, pos, negsuc, neg_ℤ, Bool, true, false, cond, nat_lt, nat_eq, Option, None, Some, List, length, refl, sym, ◌∙◌, ap, subst, arith}
use Rattle.std.proofs.lemmas.Bool.{lt-ltb, le-ltb, eq-eqb, ne_eqb}
use Rattle.std.proofs.lemmas.Int.{ints}
use Rattle.rational.specs.Ratio.{Ratio, sum, product, negative, quotient, inverse, IsNumber, IsSame}
use Rattle.rational.specs.Width.{IsReduced}
use Rattle.rational.proofs.ReducedForms.{reduce}
use Rattle.evidence.specs.Sums.{none}
use Rattle.evidence.specs.Instance.{Range, Instance, IsInstance, HasNumbers, width, height, column_at, minimising}
use Rattle.evidence.specs.Cases.{IsEmpty}
use Rattle.evidence.proofs.Numbers.{sum-number, product-number}
use Rattle.evidence.proofs.Totals.{total-number}
use Rattle.evidence.proofs.Columns.{by_lt, by_eq, by_bool, none-number, pick, column-numbers}
use Rattle.evidence.proofs.Duality.{minimising-number}
use Rattle.evidence.proofs.Inverses.{inverse-number}
use Rattle.certificate.specs.declared.causes.Step.TheVariants as At
use Rattle.bases.specs.Dictionary.{Entries, Values, AreEntries}
use Rattle.bases.specs.Program.{goal_column, columns, rows_with_goal, is_fresh}
use Rattle.bases.specs.Pivot.{exchanged, solved_at, replaced_at, IsPivoted, PivotFits}
use Rattle.bases.proofs.Lists.{reduced_none, value_by-number, same_basis}
use Rattle.bases.proofs.OwnColumns.{fresh_dictionary}
use Rattle.bases.proofs.Pivots.{exchanged_own, exchanged_left, exchanged_other, solved-number, replaced-number, pivoted_dictionary}
use Rattle.simplex_rules.specs.declared.columns.Status.{Status}
use Rattle.simplex_rules.specs.declared.columns.Status.TheVariants.{Basic}
use Rattle.simplex_rules.specs.declared.columns.Way.{Way}
use Rattle.simplex_rules.specs.declared.columns.Way.TheVariants.{Rise, Fall}
use Rattle.simplex_rules.specs.Statuses.{status_at, is_basic, basic_in, first_status, has_width, resting, basic_value, HasDictionary, HasValues, IsFirstBasis, IsPlaced}
use Rattle.simplex_rules.specs.Turns.{rate, MovesIn, until_end, until_by, across, limit_one, limit_at, reached_status, missed_status, left_status, flipped, pivoted, way_of, IsOut, IsLeastOut, Helps, IsFirstHelp, IsFirstLimit}
use Rattle.simplex_rules.specs.Widths.{ValuesFit, LimitsFit, BoundFits}
use Rattle.simplex_rules.specs.Ends.{Terms, Clock, End, Clash, Empty, Best, Endless, TurnsOut, TooWide, Stopped}
use Rattle.simplex_rules.specs.Reports.{multipliers_of, AreValues, movement, bound_sum, IsBoundAt}
use Rattle.simplex_rules.specs.Runs.{Moment, Next, To, Out, is_checked, turned, looked_once, PassesTurn, BeginsTurn, MovesColumn, Repairs, Improves, Chooses, IsNext, ComesInRun, begins, goes_on, HasNoClash, IsRun, Run, EndsAtBasis}
use Rattle.simplex_rules.proofs.Facts.{has_number, rest-number}
use Rattle.simplex_rules.proofs.Moments.{fresh_placed, comes_placed}
use Rattle.no_cycles.proofs.Doubts.{Surely, sure, so, either, FirstOrNone, first_or_none, IsTable, table, least_or_none}
use Rattle.no_cycles.proofs.Cycle.{left_nonbasic}
use Rattle.no_cycles.proofs.FirstBasis.{first_nonbasic}
use Rattle.no_cycles.proofs.SignArgument.{rows-number, goal_is_basic, leaving_basic, leaving_limit}
use Rattle.no_cycles.proofs.TurnValues.{status_set_same, status_set_other, pivoted_other, pivoted_entering, pivoted_leaving}

-- ---- single numbers

none_reduced : IsReduced none
none_reduced = let f = reduce none none-number in subst IsReduced (reduced_none f.form f.reduced f.same) f.reduced

-- a number as it is, or in lowest terms where it is one
abbrev form : (x : Ratio) → IsNumber x → Ratio
form x p = (reduce x p).form

moves_apart : (wanted way : Way) (x : Ratio) → MovesIn wanted (rate way x) → x.num ≡ pos 0 → ⊥
moves_apart Rise Rise x h e = omega (arith, ints)
moves_apart Fall Rise x h e = omega (arith, ints)
moves_apart Rise Fall x h e = let n = ap neg_ℤ e in omega (arith, ints)
moves_apart Fall Fall x h e = let n = ap neg_ℤ e in omega (arith, ints)

until_apart : (z : ℤ) (r : Range) (x by q : Ratio) → until_by z r x by ≡ Some q → z ≡ pos 0 → ⊥
until_apart z r x by q is e = let never : None ≡ Some q = subst (λ (y : ℤ). until_by y r x by ≡ Some q) e is in cc

rate_apart : (way : Way) (x : Ratio) → ((rate way x).num ≡ pos 0 → ⊥) → x.num ≡ pos 0 → ⊥
rate_apart Rise x never e = never e
rate_apart Fall x never e = never (ap neg_ℤ e)

missed_nonbasic : (wanted : Way) (r : Range) → is_basic (missed_status wanted r) ≡ false
missed_nonbasic Rise r = refl
missed_nonbasic Fall r = by_bool (has_width r) (λ b. rw b refl) (λ b. rw b refl)

end-number : (o : Option Ratio) (x by q : Ratio) → ((e : Ratio) → o ≡ Some e → IsNumber e) → IsNumber x → (by.num ≡ pos 0 → ⊥) → until_end o x by ≡ Some q → IsNumber q
end-number None x by q ends p never is = absurd (cc)
end-number (Some e) x by q ends p never is =
    let quotient-number : IsNumber (quotient (sum e (negative x)) by) = product-number (sum e (negative x)) (inverse by) (sum-number e (negative x) (ends e refl) p) (inverse-number by never) in
    let same : quotient (sum e (negative x)) by ≡ q = cc in
    subst IsNumber same quotient-number

by-number : (z : ℤ) (r : Range) (x by q : Ratio) → HasNumbers r → IsNumber x → (by.num ≡ pos 0 → ⊥) → until_by z r x by ≡ Some q → IsNumber q
by-number (pos zero) r x by q has p never is = absurd (cc)
by-number (pos (suc n)) r x by q has p never is = end-number r.ub x by q (λ e i. has_number r.ub e has.1 i) p never is
by-number (negsuc n) r x by q has p never is = end-number r.lb x by q (λ e i. has_number r.lb e has.0 i) p never is

across-number : (lo hi : Option Ratio) (q : Ratio) → ((e : Ratio) → lo ≡ Some e → IsNumber e) → ((e : Ratio) → hi ≡ Some e → IsNumber e) → across lo hi ≡ Some q → IsNumber q
across-number None hi q low high is = absurd (cc)
across-number (Some l) None q low high is = absurd (cc)
across-number (Some l) (Some h) q low high is =
    let same : sum h (negative l) ≡ q = cc in
    subst IsNumber same (sum-number h (negative l) (high h refl) (low l refl))

one-number : (basic own : Bool) (r : Range) (x by q : Ratio) → HasNumbers r → IsNumber x → limit_one basic own r x by ≡ Some q → IsNumber q
one-number true own r x by q has p is = by-number by.num r x by q has p (until_apart by.num r x by q is) is
one-number false true r x by q has p is = across-number r.lb r.ub q (λ e i. has_number r.lb e has.0 i) (λ e i. has_number r.ub e has.1 i) is
one-number false false r x by q has p is = absurd (cc)

-- ---- what an end is read off

-- the point x has the values of the basis ss, which fit
pub record IsReadOff (I : Instance) (zeroed : Bool) (ss : List Status) (x : List Ratio) : Type 0 where
  pub entries : Entries
  pub dictionary : HasDictionary I zeroed ss entries
  pub values : Values
  pub fit : ValuesFit I ss entries
  pub have : HasValues I ss entries values
  pub point : AreValues I values x

abbrev ReadOff : Instance → Bool → List Status → End → Type 0
ReadOff I zeroed ss (Clash k) = Unit {0}
ReadOff I zeroed ss (Empty ms) = Unit {0}
ReadOff I zeroed ss (Best b x ms) = IsReadOff I zeroed ss x
ReadOff I zeroed ss (Endless x d) = IsReadOff I zeroed ss x
ReadOff I zeroed ss TurnsOut = Unit {0}
ReadOff I zeroed ss (TooWide s) = Unit {0}
ReadOff I zeroed ss Stopped = Unit {0}

-- ---- a turn that is begun

-- from the basis and a clock on: an end, or a moment of which this holds after one turn more, within the limit
module _ (I : Instance) (zeroed : Bool) (at : List Status) (t : Terms) (Q : List Status → Type 0) where
  abbrev Leads : Clock → (Next → Type 0) → Type 0
  Leads c N = ((e : End) × (d : Clock) × N (Out e d) × ReadOff I zeroed at e) ⊎ ((m : Moment) × N (To m) × Q m.statuses × (m.clock.turns ≡ c.turns + 1) × (c.turns < t.turns))

  leads_on : (c : Clock) (N M : Next → Type 0) → ((x : Next) → N x → M x) → Leads c N → Leads c M
  leads_on c N M on (inl (e, d, p, r)) = inl (e, d, on (Out e d) p, r)
  leads_on c N M on (inr (m, p, q, s, l)) = inr (m, on (To m) p, q, s, l)

  module _ (ss : List Status) (holds : Q ss) where
    abbrev Passes : Clock → Type 0
    Passes c = ((e : End) × (d : Clock) × PassesTurn t c ss (Out e d) × ReadOff I zeroed at e) ⊎ ((m : Moment) × PassesTurn t c ss (To m) × Q m.statuses × (m.clock.turns ≡ c.turns))

    passes : (c : Clock) → Surely (Passes c)
    passes c = so (either (is_checked c.turns)) looks
      where
        stops : is_checked c.turns → (t.stop ≡ Some (c.looks + 1)) ⊎ (t.stop ≡ Some (c.looks + 1) → ⊥) → Passes c
        stops checked (inl s) = inl (Stopped, looked_once c, inr (inl (checked, s, refl)), tt)
        stops checked (inr n) = inr (record { statuses = ss; clock = looked_once c }, inr (inr (checked, n, refl)), holds, refl)

        looks : is_checked c.turns ⊎ (is_checked c.turns → ⊥) → Surely (Passes c)
        looks (inl checked) = so (either (t.stop ≡ Some (c.looks + 1))) (λ x. sure (stops checked x))
        looks (inr never) = sure (inr (record { statuses = ss; clock = c }, inl (never, refl), holds, refl))

    turn : (c : Clock) (F : Type 0) → Surely (Leads c (BeginsTurn t c F ss))
    turn c F = by_lt c.turns t.turns (λ l. so (either F) (fits l)) (λ l. sure (inl (TurnsOut, c, inl (l, refl), tt)))
      where
        done : c.turns < t.turns → F → Passes (turned c) → Leads c (BeginsTurn t c F ss)
        done l f (inl (e, d, p, r)) = inl (e, d, inr (inr (l, f, p)), r)
        done l f (inr (m, p, q, s)) = inr (m, inr (inr (l, f, p)), q, s, l)

        fits : c.turns < t.turns → F ⊎ (F → ⊥) → Surely (Leads c (BeginsTurn t c F ss))
        fits l (inl f) = so (passes (turned c)) (λ x. sure (done l f x))
        fits l (inr never) = sure (inl (TooWide At.Pivot, c, inr (inl (l, never, refl)), tt))

module _ (I : Instance) (good : IsInstance I) (zeroed : Bool) (t : Terms) (room : HasNoClash I) where
  abbrev A : Entries
  A = rows_with_goal zeroed I

  -- the basis has a dictionary
  abbrev HasOne : List Status → Type 0
  HasOne ss = (u : Entries) × HasDictionary I zeroed ss u

  -- ---- the first basis

  abbrev own_entry : ℕ → ℕ → Ratio
  own_entry b c = form (A (b - width I) c) (rows-number I good zeroed (b - width I) c)

  abbrev first_entries : Entries
  first_entries b c = cond (nat_lt b (width I)) none (cond (nat_lt b (columns I)) (cond (nat_lt c (width I)) (own_entry b c) none) none)

  first_are : AreEntries (columns I) (is_fresh (width I)) first_entries
  first_are = record {
    reduced = λ b c.
        pick IsReduced (nat_lt b (width I)) none _ none_reduced
        (pick IsReduced (nat_lt b (columns I)) (cond (nat_lt c (width I)) (own_entry b c) none) none
        (pick IsReduced (nat_lt c (width I)) (own_entry b c) none (let f = reduce (A (b - width I) c) (rows-number I good zeroed (b - width I) c) in f.reduced) none_reduced) none_reduced);
    past_row = λ b c h. by_bool (nat_lt b (width I)) (λ e. rw e refl) (λ e. rw (e, le-ltb b (columns I) h) refl);
    past_column = λ b c h.
        by_bool (nat_lt b (width I)) (λ e. rw e refl)
        (λ e. by_bool (nat_lt b (columns I)) (λ f. let low : width I ≤ c = omega arith in rw (e, f, le-ltb c (width I) low) refl) (λ f. rw (e, f) refl));
    unlisted = λ b c e. by_lt b (width I) (λ l. rw (lt-ltb b (width I) l) refl) (λ l. let x : true ≡ false = sym (rw (le-ltb b (width I) l) refl) ∙ e in absurd (cc));
    at_basic = λ b c e.
        by_lt c (width I) (λ l. let x : false ≡ true = sym (rw (lt-ltb c (width I) l) refl) ∙ e in absurd (cc))
        (λ l. by_bool (nat_lt b (width I)) (λ f. rw f refl) (λ f. by_bool (nat_lt b (columns I)) (λ g. rw (f, g, le-ltb c (width I) l) refl) (λ g. rw (f, g) refl)));
  }

  first_same : (i j : ℕ) → i < height I + 1 → j < width I → IsSame (first_entries (width I + i) j) (A i j)
  first_same i j h l =
      let past : width I ≤ width I + i = omega arith in
      let inside : width I + i < columns I = omega arith in
      let e : (width I + i) - width I ≡ i = omega arith in
      let f = reduce (A ((width I + i) - width I) j) (rows-number I good zeroed ((width I + i) - width I) j) in
      let same : IsSame f.form (A i j) = subst (λ k. IsSame f.form (A k j)) e f.same in
      rw (le-ltb (width I + i) (width I) past, lt-ltb (width I + i) (columns I) inside, lt-ltb j (width I) l) same

  abbrev first_status_of : ℕ → Status
  first_status_of c = cond (nat_lt c (width I)) (first_status (column_at I c).lb (column_at I c).ub) Basic

  first_basis : (ss : List Status) → IsTable Basic first_status_of (goal_column I) ss → IsFirstBasis I ss
  first_basis ss is = record {
    count = is.count;
    variables = λ j h. is.items j (omega arith) ∙ rw (lt-ltb j (width I) h) refl;
    rows = λ i h. let past : width I ≤ width I + i = omega arith in is.items (width I + i) h ∙ rw (le-ltb (width I + i) (width I) past) refl;
  }

  first_has : (ss : List Status) → IsFirstBasis I ss → HasOne ss
  first_has ss first = (
    first_entries,
    same_basis (width I) (height I + 1) A (is_fresh (width I)) (basic_in ss) first_entries alike (fresh_dictionary (width I) (height I + 1) A first_entries (rows-number I good zeroed) first_are first_same),
  )
    where
      alike : (c : ℕ) → c < width I + (height I + 1) → is_fresh (width I) c ≡ basic_in ss c
      alike c h =
          by_lt c (width I)
          (λ l. rw (lt-ltb c (width I) l) (sym (ap is_basic (first.variables c l) ∙ first_nonbasic (column_at I c).lb (column_at I c).ub)))
          (λ l.
          let e : width I + (c - width I) ≡ c = omega arith in
          by_lt c (goal_column I)
          (λ g.
          let low : width I + (c - width I) < goal_column I = omega arith in
          let on : basic_in ss c ≡ true = ap (basic_in ss) (sym e) ∙ ap is_basic (first.rows (c - width I) low) in
          rw (le-ltb c (width I) l) (sym on))
          (λ g.
          let last : c ≡ goal_column I = omega arith in
          let on : basic_in ss c ≡ true = ap (basic_in ss) last ∙ goal_is_basic I ss (fresh_placed I ss first) in
          rw (le-ltb c (width I) l) (sym on)))

  -- ---- a moment

  module _ (m : Moment) (placed : IsPlaced I m.statuses) (u : Entries) (dict : HasDictionary I zeroed m.statuses u) where
    abbrev ss : List Status
    ss = m.statuses

    u-number : (b c : ℕ) → IsNumber (u b c)
    u-number b c = let r = dict.entries.reduced b c in r.0

    resting-number : (c : ℕ) → IsNumber (resting I ss c)
    resting-number c = rest-number (column_at I c) (status_at ss c) (column-numbers I good c)

    inside : (c : ℕ) → c < goal_column I → c < length ss
    inside c h = let n = placed.count in omega arith

    -- a basis that differs by a pivot has a dictionary
    module _ (b n : ℕ) (s : Status) (b_in : b < goal_column I) (n_in : n < goal_column I) (basic : basic_in ss b ≡ true) (nonbasic : basic_in ss n ≡ false) (apart : (u b n).num ≡ pos 0 → ⊥) (leaves : is_basic s ≡ false) where
      abbrev after : Entries
      after a c =
          cond (nat_eq c n) none
          (cond (nat_eq a b) none (cond (nat_eq a n) (form (solved_at u b n c) (solved-number u u-number b n apart c)) (form (replaced_at u b n a c) (replaced-number u u-number b n apart a c))))

      two : b ≡ n → ⊥
      two e = let x : true ≡ false = sym basic ∙ ap (basic_in ss) e ∙ nonbasic in cc

      after_is : IsPivoted u b n after
      after_is = record {
        reduced = λ a c.
            pick IsReduced (nat_eq c n) none _ none_reduced
            (pick IsReduced (nat_eq a b) none _ none_reduced
            (pick IsReduced (nat_eq a n) (form (solved_at u b n c) (solved-number u u-number b n apart c)) (form (replaced_at u b n a c) (replaced-number u u-number b n apart a c))
            (let f = reduce (solved_at u b n c) (solved-number u u-number b n apart c) in f.reduced)
            (let f = reduce (replaced_at u b n a c) (replaced-number u u-number b n apart a c) in f.reduced)));
        leaving = λ c. by_bool (nat_eq c n) (λ e. rw e refl) (λ e. rw (e, eq-eqb b b refl) refl);
        entering = λ a. rw (eq-eqb n n refl) refl;
        solved = λ c d.
            let f = reduce (solved_at u b n c) (solved-number u u-number b n apart c) in
            rw (ne_eqb c n d, ne_eqb n b (λ e. two (sym e)), eq-eqb n n refl) f.same;
        replaced = λ a c d e f.
            let r = reduce (replaced_at u b n a c) (replaced-number u u-number b n apart a c) in
            rw (ne_eqb c n f, ne_eqb a b d, ne_eqb a n e) r.same;
      }

      swapped : (c : ℕ) → exchanged (basic_in ss) b n c ≡ basic_in (pivoted ss b n s) c
      swapped c =
          by_eq c n
          (λ e. exchanged_own (basic_in ss) b n c e ∙ sym (ap (basic_in (pivoted ss b n s)) e ∙ ap is_basic (pivoted_entering ss b n s (inside n n_in))))
          (λ d. by_eq c b
          (λ e. exchanged_left (basic_in ss) b n c d e ∙ sym (ap (basic_in (pivoted ss b n s)) e ∙ ap is_basic (pivoted_leaving ss b n s (inside b b_in) two) ∙ leaves))
          (λ f. exchanged_other (basic_in ss) b n c d f ∙ sym (ap is_basic (pivoted_other ss b n c s f d))))

      pivot_has : HasOne (pivoted ss b n s)
      pivot_has = (
        after,
        same_basis (width I) (height I + 1) A (exchanged (basic_in ss) b n) (basic_in (pivoted ss b n s)) after (λ c h. swapped c)
            (pivoted_dictionary (width I) (height I + 1) A (basic_in ss) u after b n (omega arith) (omega arith) basic nonbasic apart after_is dict),
      )

    flip_has : (n : ℕ) (way : Way) → n < goal_column I → basic_in ss n ≡ false → HasOne (flipped I ss n way)
    flip_has n way n_in nonbasic = (u, same_basis (width I) (height I + 1) A (basic_in ss) (basic_in (flipped I ss n way)) u (λ c h. alike c) dict)
      where
        alike : (c : ℕ) → basic_in ss c ≡ basic_in (flipped I ss n way) c
        alike c =
            by_eq c n
            (λ e.
            let off : basic_in (flipped I ss n way) c ≡ false = ap (basic_in (flipped I ss n way)) e ∙ ap is_basic (status_set_same ss n (reached_status way (column_at I n)) (inside n n_in)) ∙ left_nonbasic way (column_at I n) in
            ap (basic_in ss) e ∙ nonbasic ∙ sym off)
            (λ d. sym (ap is_basic (status_set_other ss n c (reached_status way (column_at I n)) d)))

    -- ---- its values

    abbrev value_of : ℕ → Ratio
    value_of c = cond (basic_in ss c) (form (basic_value I ss u c) (value_by-number (columns I) (u c) (resting I ss) (u-number c) resting-number)) (form (resting I ss c) (resting-number c))

    abbrev the_values : Values
    the_values c = cond (nat_lt c (goal_column I)) (value_of c) none

    values_are : HasValues I ss u the_values
    values_are = record {
      reduced = λ c.
          pick IsReduced (nat_lt c (goal_column I)) (value_of c) none
          (pick IsReduced (basic_in ss c) (form (basic_value I ss u c) (value_by-number (columns I) (u c) (resting I ss) (u-number c) resting-number)) (form (resting I ss c) (resting-number c))
          (let f = reduce (basic_value I ss u c) (value_by-number (columns I) (u c) (resting I ss) (u-number c) resting-number) in f.reduced)
          (let f = reduce (resting I ss c) (resting-number c) in f.reduced)) none_reduced;
      past = λ c h. rw (le-ltb c (goal_column I) h) refl;
      nonbasic = λ c h e. let f = reduce (resting I ss c) (resting-number c) in rw (lt-ltb c (goal_column I) h, e) f.same;
      basic = λ c h e. let f = reduce (basic_value I ss u c) (value_by-number (columns I) (u c) (resting I ss) (u-number c) resting-number) in rw (lt-ltb c (goal_column I) h, e) f.same;
    }

    module _ (w : Values) (values : HasValues I ss u w) (fit : ValuesFit I ss u) where
      w-number : (c : ℕ) → IsNumber (w c)
      w-number c = let r = values.reduced c in r.0

      list_of_values : (v : Values) → (x : List Ratio) × AreValues I v x
      list_of_values v = let (x, is) = table none v (width I) in (x, record { count = is.count; values = is.items })

      off_basis : (x : List Ratio) → AreValues I w x → IsReadOff I zeroed ss x
      off_basis x is = record { entries = u; dictionary = dict; values = w; fit = fit; have = values; point = is }

      -- ---- the first phase

      repairs : (b : ℕ) (wanted : Way) → IsLeastOut I ss u w b wanted → Surely (Leads I zeroed m.statuses t HasOne m.clock (Repairs I zeroed t m u w b wanted))
      repairs b wanted out = so (first_or_none (λ k. (way : Way) × Helps I ss u w b wanted k way) (goal_column I)) by
        where
          by : FirstOrNone (λ k. (way : Way) × Helps I ss u w b wanted k way) (goal_column I) → Surely (Leads I zeroed m.statuses t HasOne m.clock (Repairs I zeroed t m u w b wanted))
          by (inr never) = sure (inl (Empty (multipliers_of I u b wanted), m.clock, inl ((λ k h v x. never k h (v, x)), refl), tt))
          by (inl (n, f)) =
              let (way, helps) = f.is in
              let to : Status = missed_status wanted (column_at I b) in
              let has : HasOne (pivoted ss b n to) = pivot_has b n to out.inside f.inside out.out.basic helps.nonbasic (moves_apart wanted way (u b n) helps.moves) (missed_nonbasic wanted (column_at I b)) in
              let help : IsFirstHelp I ss u w b wanted n way = record { inside = f.inside; helps = helps; before = λ k h v x. f.before k h (v, x) } in
              so (turn I zeroed m.statuses t HasOne (pivoted ss b n to) has m.clock (PivotFits u b n))
              (λ x. sure (leads_on I zeroed m.statuses t HasOne m.clock (BeginsTurn t m.clock (PivotFits u b n) (pivoted ss b n to)) (Repairs I zeroed t m u w b wanted) (λ y p. inr (n, way, help, p)) x))

      -- ---- the second phase

      limit-number : (n : ℕ) (way : Way) (k : ℕ) (q : Ratio) → limit_at I ss u w n way k ≡ Some q → IsNumber q
      limit-number n way k q is = one-number (basic_in ss k) (nat_eq k n) (column_at I k) (w k) (rate way (u k n)) q (column-numbers I good k) (w-number k) is

      module _ (n : ℕ) (way : Way) (help : IsFirstHelp I ss u w (goal_column I) Fall n way) where
        abbrev MovesOn : Type 0
        MovesOn = Leads I zeroed m.statuses t HasOne m.clock (MovesColumn I zeroed t m u w n way)

        flips : LimitsFit I ss u w n way → IsFirstLimit I ss u w n way n → Surely MovesOn
        flips fits first =
            so (turn I zeroed m.statuses t HasOne (flipped I ss n way) (flip_has n way help.inside help.helps.nonbasic) m.clock (Unit {0}))
            (λ x. sure (leads_on I zeroed m.statuses t HasOne m.clock (BeginsTurn t m.clock (Unit {0}) (flipped I ss n way)) (MovesColumn I zeroed t m u w n way) (λ y p. inr (inr (inl (fits, first, p)))) x))

        swaps : LimitsFit I ss u w n way → (b : ℕ) → IsFirstLimit I ss u w n way b → (b ≡ n → ⊥) → Surely MovesOn
        swaps fits b first d =
            let to : Status = left_status I u b n way in
            let on : basic_in ss b ≡ true = leaving_basic I ss u w n way b first.limit first.is d in
            let apart : (u b n).num ≡ pos 0 → ⊥ = rate_apart way (u b n) (until_apart (rate way (u b n)).num (column_at I b) (w b) (rate way (u b n)) first.limit (leaving_limit I ss u w n way b first.limit first.is on)) in
            let has : HasOne (pivoted ss b n to) = pivot_has b n to first.inside help.inside on help.helps.nonbasic apart (left_nonbasic (way_of (rate way (u b n)).num) (column_at I b)) in
            so (turn I zeroed m.statuses t HasOne (pivoted ss b n to) has m.clock (PivotFits u b n))
            (λ x. sure (leads_on I zeroed m.statuses t HasOne m.clock (BeginsTurn t m.clock (PivotFits u b n) (pivoted ss b n to)) (MovesColumn I zeroed t m u w n way) (λ y p. inr (inr (inr (b, fits, first, d, p)))) x))

        moves : Surely MovesOn
        moves = so (either (LimitsFit I ss u w n way)) by
          where
            limits : LimitsFit I ss u w n way → ((c : ℕ) × IsFirstLimit I ss u w n way c) ⊎ ((k : ℕ) → k < goal_column I → limit_at I ss u w n way k ≡ None) → Surely MovesOn
            limits fits (inr never) =
                let (x, x_is) = list_of_values w in
                let (d, d_is) = list_of_values (movement ss u n way) in
                sure (inl (Endless x d, m.clock, inr (inl (x, d, fits, never, x_is, d_is, refl)), off_basis x x_is))
            limits fits (inl (b, first)) = by_eq b n (λ e. flips fits (subst (λ c. IsFirstLimit I ss u w n way c) e first)) (λ d. swaps fits b first d)

            by : LimitsFit I ss u w n way ⊎ (LimitsFit I ss u w n way → ⊥) → Surely MovesOn
            by (inl fits) = limits fits (least_or_none (limit_at I ss u w n way) (limit-number n way) (goal_column I))
            by (inr never) = sure (inl (TooWide At.Ratio, m.clock, inl (never, refl), tt))

      abbrev ImprovesOn : Type 0
      ImprovesOn = Leads I zeroed m.statuses t HasOne m.clock (Improves I zeroed t m u w)

      -- the best point, whose bound fits where it is asked
      best : ((k : ℕ) → k < goal_column I → (v : Way) → Helps I ss u w (goal_column I) Fall k v → ⊥) → (zeroed ≡ false → BoundFits I ss u) → (b : Ratio) → IsBoundAt zeroed I ss u b → ImprovesOn
      best never fits b bound =
          let (x, x_is) = list_of_values w in
          inl (Best b x (multipliers_of I u (goal_column I) Fall), m.clock, inr (inl (b, x, never, fits, bound, x_is, refl)), off_basis x x_is)

      ends_best : ((k : ℕ) → k < goal_column I → (v : Way) → Helps I ss u w (goal_column I) Fall k v → ⊥) → Surely ImprovesOn
      ends_best never = by_bool zeroed
          (λ on. sure (best never (λ off. absurd (cc)) none (subst (λ z. IsBoundAt z I ss u none) (sym on) refl)))
          (λ off. so (either (BoundFits I ss u)) (λ x. by off x))
        where
          by : zeroed ≡ false → BoundFits I ss u ⊎ (BoundFits I ss u → ⊥) → Surely ImprovesOn
          by off (inr not) = sure (inl (TooWide At.Point, m.clock, inl (never, off, not, refl), tt))
          by off (inl fits) =
              let bound-number : IsNumber (bound_sum I ss u) = total-number (minimising I I.goal.constant) (columns I) (λ c. product (u (goal_column I) c) (resting I ss c)) (minimising-number I I.goal.constant good.constant) (λ c. product-number (u (goal_column I) c) (resting I ss c) (u-number (goal_column I) c) (resting-number c)) in
              let f = reduce (bound_sum I ss u) bound-number in
              sure (best never (λ z. fits) f.form (subst (λ z. IsBoundAt z I ss u f.form) (sym off) (f.reduced, f.same)))

      improves : Surely ImprovesOn
      improves = so (first_or_none (λ k. (way : Way) × Helps I ss u w (goal_column I) Fall k way) (goal_column I)) by
        where
          by : FirstOrNone (λ k. (way : Way) × Helps I ss u w (goal_column I) Fall k way) (goal_column I) → Surely ImprovesOn
          by (inr never) = ends_best (λ k h v x. never k h (v, x))
          by (inl (n, f)) =
              let (way, helps) = f.is in
              let help : IsFirstHelp I ss u w (goal_column I) Fall n way = record { inside = f.inside; helps = helps; before = λ k h v x. f.before k h (v, x) } in
              so (moves n way help) (λ x. sure (leads_on I zeroed m.statuses t HasOne m.clock (MovesColumn I zeroed t m u w n way) (Improves I zeroed t m u w) (λ y p. inr (inr (n, way, help, p))) x))

      -- ---- both

      chooses : Surely (Leads I zeroed m.statuses t HasOne m.clock (Chooses I zeroed t m u w))
      chooses = so (first_or_none (λ k. (way : Way) × IsOut I ss u w k way) (goal_column I)) by
        where
          by : FirstOrNone (λ k. (way : Way) × IsOut I ss u w k way) (goal_column I) → Surely (Leads I zeroed m.statuses t HasOne m.clock (Chooses I zeroed t m u w))
          by (inl (b, f)) =
              let (wanted, is) = f.is in
              let out : IsLeastOut I ss u w b wanted = record { inside = f.inside; out = is; before = λ k h v x. f.before k h (v, x) } in
              so (repairs b wanted out) (λ x. sure (leads_on I zeroed m.statuses t HasOne m.clock (Repairs I zeroed t m u w b wanted) (Chooses I zeroed t m u w) (λ y p. inl (b, wanted, out, p)) x))
          by (inr never) =
              so improves (λ x. sure (leads_on I zeroed m.statuses t HasOne m.clock (Improves I zeroed t m u w) (Chooses I zeroed t m u w) (λ y p. inr ((λ k h v z. never k h (v, z)), p)) x))

    next : Surely (Leads I zeroed m.statuses t HasOne m.clock (IsNext I zeroed t m))
    next = so (either (ValuesFit I ss u)) by
      where
        by : ValuesFit I ss u ⊎ (ValuesFit I ss u → ⊥) → Surely (Leads I zeroed m.statuses t HasOne m.clock (IsNext I zeroed t m))
        by (inr never) = sure (inl (TooWide At.Values, m.clock, (u, dict, inl (never, refl)), tt))
        by (inl fits) =
            so (chooses the_values values_are fits)
            (λ x. sure (leads_on I zeroed m.statuses t HasOne m.clock (Chooses I zeroed t m u the_values) (IsNext I zeroed t m) (λ y p. (u, dict, inr (the_values, fits, values_are, p))) x))

  -- ---- the run

  abbrev Ends : Clock → Type 0
  Ends c = (e : End) × (d : Clock) × (run : IsRun I zeroed t c e d) × ReadOff I zeroed run.last.statuses e

  led : (c : Clock) (m : Moment) → ComesInRun I zeroed t c m → ((k : Moment) → IsNext I zeroed t m (To k) → HasOne k.statuses → k.clock.turns ≡ m.clock.turns + 1 → m.clock.turns < t.turns → Surely (Ends c))
      → Leads I zeroed m.statuses t HasOne m.clock (IsNext I zeroed t m) → Surely (Ends c)
  led c m comes on (inl (e, d, p, r)) = sure (e, d, record { room = room; last = m; comes = comes; ends = p }, r)
  led c m comes on (inr (k, p, one, same, l)) = on k p one same l

  ends : (n : ℕ) (c : Clock) (m : Moment) → ComesInRun I zeroed t c m → HasOne m.statuses → t.turns ≤ m.clock.turns + n → Surely (Ends c)
  ends zero c m comes has enough = so (next m (comes_placed comes) has.0 has.1) (led c m comes (λ k p one same l. absurd (omega arith)))
  ends (suc n) c m comes has enough = so (next m (comes_placed comes) has.0 has.1) (led c m comes (λ k p one same l. ends n c k (goes_on comes p) one (omega arith)))

  run_ends : (c : Clock) → Surely (Ends c)
  run_ends c =
      let (ss, is) = table Basic first_status_of (goal_column I) in
      let first : IsFirstBasis I ss = first_basis ss is in
      ends t.turns c (record { statuses = ss; clock = c }) (begins first) (first_has ss first) (omega arith)

-- where the run ends with a point, this is read off its last basis
abbrev pub ReadsBasis : Instance → Bool → Terms → Clock → End → Clock → Type 0
ReadsBasis I zeroed t c (Clash k) d = Unit {0}
ReadsBasis I zeroed t c (Empty ms) d = Unit {0}
ReadsBasis I zeroed t c (Best b x ms) d = (ss : List Status) × EndsAtBasis I zeroed t c (Best b x ms) d ss × IsPlaced I ss × IsReadOff I zeroed ss x
ReadsBasis I zeroed t c (Endless x v) d = (ss : List Status) × EndsAtBasis I zeroed t c (Endless x v) d ss × IsPlaced I ss × IsReadOff I zeroed ss x
ReadsBasis I zeroed t c TurnsOut d = Unit {0}
ReadsBasis I zeroed t c (TooWide s) d = Unit {0}
ReadsBasis I zeroed t c Stopped d = Unit {0}

reads : (I : Instance) (zeroed : Bool) (t : Terms) (c : Clock) (e : End) (d : Clock) (run : IsRun I zeroed t c e d) → ReadOff I zeroed run.last.statuses e → ReadsBasis I zeroed t c e d
reads I zeroed t c (Clash k) d run r = tt
reads I zeroed t c (Empty ms) d run r = tt
reads I zeroed t c (Best b x ms) d run r = (run.last.statuses, record { run = run; basis = refl }, comes_placed run.comes, r)
reads I zeroed t c (Endless x v) d run r = (run.last.statuses, record { run = run; basis = refl }, comes_placed run.comes, r)
reads I zeroed t c TurnsOut d run r = tt
reads I zeroed t c (TooWide s) d run r = tt
reads I zeroed t c Stopped d run r = tt

-- a run has an end
pub runs_end : (I : Instance) (zeroed : Bool) (t : Terms) (c : Clock) → IsInstance I → Surely ((e : End) × (d : Clock) × Run I zeroed t c e d × ReadsBasis I zeroed t c e d)
runs_end I zeroed t c good = so (first_or_none (λ k. IsEmpty (column_at I k)) (goal_column I)) by
  where
    by : FirstOrNone (λ k. IsEmpty (column_at I k)) (goal_column I) → Surely ((e : End) × (d : Clock) × Run I zeroed t c e d × ReadsBasis I zeroed t c e d)
    by (inl (k, f)) = sure (Clash k, c, inl (k, record { inside = f.inside; empty = f.is; before = f.before }, refl, refl), tt)
    by (inr never) = so (run_ends I good zeroed t never c) (λ x. let (e, d, run, r) = x in sure (e, d, inr run, reads I zeroed t c e d run r))
