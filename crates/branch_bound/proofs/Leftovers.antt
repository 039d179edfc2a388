-- What is left of the entries of an equation, column by column.
use Rattle.std.proofs.Common.{◌≡◌, ◌⊎◌, ℕ, ◌+◌, ◌<◌, inl, inr, pos, Bool, true, false, cond, nat_eq, List, [], ◌++◌, arith, refl, sym, ◌∙◌, ap, ap₂, subst, add-one}
use Rattle.std.proofs.lemmas.Bool.{eq-eqb, ne_eqb}
use Rattle.rational.specs.Ratio.{Ratio}
use Rattle.evidence.specs.Sums.{none}
use Rattle.evidence.specs.Instance.{Instance}
use Rattle.evidence.specs.Cases.{Multiplier}
use Rattle.evidence.proofs.Columns.{by_lt}
use Rattle.bases.specs.Dictionary.{Entries}
use Rattle.bases.specs.Program.{goal_column}
use Rattle.simplex_rules.specs.declared.columns.Status.{Status}
use Rattle.simplex_rules.specs.declared.columns.Status.TheVariants.{Basic, Lower, Upper, Zero}
use Rattle.simplex_rules.specs.Statuses.{status_at}
use Rattle.simplex_rules.specs.Reports.{collected, one_of}
use Rattle.simplex.proofs.ValueLists.{collected_alike}
use Rattle.search_rules.specs.Cuts.{IsLeftOver, LeftFits, AreLeftWithin, NoneIsLeftAtZero, AreCutMultipliers}

-- of the first n entries of an equation x: what is left of them, in multipliers; and whether something is left at a column that stands at 0
pub record AreLeft (ss : List Status) (x : ℕ → Ratio) (n : ℕ) (ms : List Multiplier) (at_zero : Bool) : Type 0 where
  pub left : ℕ → Ratio
  pub are : (c : ℕ) → c < n → IsLeftOver (status_at ss c) (x c) (left c)
  pub fits : (c : ℕ) → c < n → LeftFits (status_at ss c) (x c)
  pub is : ms ≡ collected left n
  pub clear : at_zero ≡ false → (c : ℕ) → c < n → status_at ss c ≡ Zero → (x c).num ≡ pos 0
  pub found : at_zero ≡ true → (c : ℕ) × (c < n) × (status_at ss c ≡ Zero) × ((x c).num ≡ pos 0 → ⊥)

pub left_none : (ss : List Status) (x : ℕ → Ratio) → AreLeft ss x 0 [] false
left_none ss x = record {
  left = λ c. none;
  are = λ c h. absurd (omega arith);
  fits = λ c h. absurd (omega arith);
  is = refl;
  clear = λ e c h. absurd (omega arith);
  found = λ e. absurd (cc);
}

-- at 0 all of the entry is left
whole_left : (s : Status) (x r : Ratio) → s ≡ Zero → IsLeftOver s x r → r ≡ x
whole_left Basic x r e h = absurd (cc)
whole_left Lower x r e h = absurd (cc)
whole_left Upper x r e h = absurd (cc)
whole_left Zero x r e h = h

module _ (ss : List Status) (x : ℕ → Ratio) (n : ℕ) (ms : List Multiplier) (old : Bool) (are : AreLeft ss x n ms old) where
  -- one column more
  module _ (v : Ratio) (new : Bool) (is : IsLeftOver (status_at ss n) (x n) v) (fits : LeftFits (status_at ss n) (x n)) (yes : new ≡ true → (old ≡ true) ⊎ ((status_at ss n ≡ Zero) × (v.num ≡ pos 0 → ⊥))) (no : new ≡ false → (old ≡ false) × (status_at ss n ≡ Zero → v.num ≡ pos 0)) where
    abbrev more : ℕ → Ratio
    more c = cond (nat_eq c n) v (are.left c)

    own : (c : ℕ) → n ≡ c → more c ≡ v
    own c e = ap (λ (b : Bool). cond b v (are.left c)) (eq-eqb c n (sym e))

    other : (c : ℕ) → c < n → more c ≡ are.left c
    other c h = ap (λ (b : Bool). cond b v (are.left c)) (ne_eqb c n (λ e. omega arith))

    pub left_more : AreLeft ss x (n + 1) (ms ++ one_of n v.num v) new
    left_more = record {
      left = more;
      are = λ c h.
          by_lt c n
          (λ l. subst (IsLeftOver (status_at ss c) (x c)) (sym (other c l)) (are.are c l))
          (λ l. let e : n ≡ c = omega arith in subst (IsLeftOver (status_at ss c) (x c)) (sym (own c e)) (subst (λ i. IsLeftOver (status_at ss i) (x i) v) e is));
      fits = λ c h. by_lt c n (are.fits c) (λ l. let e : n ≡ c = omega arith in subst (λ i. LeftFits (status_at ss i) (x i)) e fits);
      is =
          ap₂ (λ (ns : List Multiplier) (w : Ratio). ns ++ one_of n w.num w) (are.is ∙ sym (collected_alike n more are.left other)) (sym (own n refl))
          ∙ ap (collected more) (sym (add-one n));
      clear = λ e c h at.
          let k = no e in
          by_lt c n
          (λ l. are.clear k.0 c l at)
          (λ l.
          let i : n ≡ c = omega arith in
          subst (λ i. status_at ss i ≡ Zero → (x i).num ≡ pos 0) i (λ z. ap (λ (r : Ratio). r.num) (sym (whole_left (status_at ss n) (x n) v z is)) ∙ k.1 z) at);
      found = λ e. by_case (yes e);
    }
      where
        by_case : (old ≡ true) ⊎ ((status_at ss n ≡ Zero) × (v.num ≡ pos 0 → ⊥)) → (c : ℕ) × (c < n + 1) × (status_at ss c ≡ Zero) × ((x c).num ≡ pos 0 → ⊥)
        by_case (inl e) = let (c, h, z, f) = are.found e in (c, omega arith, z, f)
        by_case (inr (z, f)) = (n, omega arith, z, λ e. f (ap (λ (r : Ratio). r.num) (whole_left (status_at ss n) (x n) v z is) ∙ e))

-- of all entries of variable j's equation
module _ (I : Instance) (ss : List Status) (u : Entries) (j : ℕ) (ms : List Multiplier) (at_zero : Bool) (are : AreLeft ss (u j) (goal_column I) ms at_zero) where
  pub all_within : AreLeftWithin I ss u j
  all_within = are.fits

  pub some_at_zero : at_zero ≡ true → NoneIsLeftAtZero I ss u j → ⊥
  some_at_zero e none_left = let (c, h, z, f) = are.found e in f (none_left c h z)

  pub none_at_zero : at_zero ≡ false → NoneIsLeftAtZero I ss u j
  none_at_zero e = are.clear e

  pub cut_multipliers : AreCutMultipliers I ss u j ms
  cut_multipliers = record { left = are.left; are = are.are; is = are.is }
