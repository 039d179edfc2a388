-- What the first limit says of its column.
use Rattle.std.proofs.Common.{◌≡◌, ℕ, pos, neg_ℤ, true, Option, None, Some, MatchOption, List, refl, sym, ◌∙◌, ap, subst}
use Rattle.std.proofs.lemmas.Bool.{ne_eqb}
use Rattle.rational.specs.Ratio.{Ratio}
use Rattle.evidence.specs.Instance.{Instance, column_at}
use Rattle.bases.specs.Dictionary.{Entries, Values}
use Rattle.simplex_rules.specs.declared.columns.Status.{Status}
use Rattle.simplex_rules.specs.declared.columns.Way.{Way}
use Rattle.simplex_rules.specs.declared.columns.Way.TheVariants.{Rise, Fall}
use Rattle.simplex.specs.declared.limits.Limit.{Limit}
use Rattle.simplex_rules.specs.Statuses.{basic_in}
use Rattle.simplex_rules.specs.Turns.{rate, until_by, limit_at, NoLimit, IsFirstLimit}
use Rattle.evidence.proofs.Columns.{by_bool}

module _ (I : Instance) (ss : List Status) (u : Entries) (w : Values) (n : ℕ) (way : Way) where
  pub limit_told : (o : Option Limit) (l : Limit) → o ≡ Some l → MatchOption o (NoLimit I ss u w n way) (λ l. IsFirstLimit I ss u w n way l.col) → IsFirstLimit I ss u w n way l.col
  limit_told None l e h = absurd (cc)
  limit_told (Some k) l e h = subst (λ (z : Limit). IsFirstLimit I ss u w n way z.col) (let f : k ≡ l = cc in f) h

  pub limit_basic : (c : ℕ) → IsFirstLimit I ss u w n way c → (c ≡ n → ⊥) → basic_in ss c ≡ true
  limit_basic c p d =
      by_bool (basic_in ss c) (λ b. b)
      (λ b. let e : limit_at I ss u w n way c ≡ None = rw (b, ne_eqb c n d) refl in let f : None ≡ Some p.limit = sym e ∙ p.is in absurd (cc))

  pub limit_nonzero : (c : ℕ) → IsFirstLimit I ss u w n way c → (c ≡ n → ⊥) → (u c n).num ≡ pos 0 → ⊥
  limit_nonzero c p d z =
      let b = limit_basic c p d in
      let r : (rate way (u c n)).num ≡ pos 0 = still way (u c n) z in
      let e : limit_at I ss u w n way c ≡ None = rw b (subst (λ k. until_by k (column_at I c) (w c) (rate way (u c n)) ≡ None) (sym r) refl) in
      let f : None ≡ Some p.limit = sym e ∙ p.is in
      cc
    where
      still : (v : Way) (x : Ratio) → x.num ≡ pos 0 → (rate v x).num ≡ pos 0
      still Rise x e = e
      still Fall x e = ap neg_ℤ e
