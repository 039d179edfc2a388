-- What can't fail to be, without deciding which of two facts holds; the first number of which something holds; and the least of finitely many limits.
use Rattle.std.proofs.Common.{◌≡◌, ◌⊎◌, inl, inr, ℕ, zero, suc, ◌<◌, Option, None, Some, List, [], ◌∷◌, ◌++◌, length, get_or, refl, sym, ◌∙◌, ap, subst, arith, length-append}
use Rattle.std.proofs.lemmas.Int.{ints}
use Rattle.std.proofs.lemmas.List.{get_or_push, get_or_append_left}
use Rattle.rational.specs.Ratio.{Ratio, IsNumber, IsBelow, IsAtMost}
use Rattle.rational.proofs.Forms.{IsBelow-trans, IsBelow-alike_above}
use Rattle.evidence.proofs.Columns.{by_lt, by_eq}
use Rattle.simplex_rules.specs.Turns.{IsFirstLeast}
use Rattle.simplex_rules.proofs.FastRules.{by_order}

-- it isn't so that it doesn't hold
abbrev pub Surely : Type 0 → Type 0
Surely P = (P → ⊥) → ⊥

pub sure : {P : Type 0} → P → Surely P
sure {P} p = λ never. never p

pub so : {P Q : Type 0} → Surely P → (P → Surely Q) → Surely Q
so {P} {Q} p f = λ never. p (λ x. f x never)

pub either : (P : Type 0) → Surely (P ⊎ (P → ⊥))
either P = λ never. never (inr (λ p. never (inl p)))

-- k is the first number below n of which it holds
pub record IsFirst (P : ℕ → Type 0) (n k : ℕ) : Type 0 where
  pub inside : k < n
  pub is : P k
  pub before : (i : ℕ) → i < k → P i → ⊥

abbrev pub FirstOrNone : (ℕ → Type 0) → ℕ → Type 0
FirstOrNone P n = ((k : ℕ) × IsFirst P n k) ⊎ ((k : ℕ) → k < n → P k → ⊥)

pub first_or_none : (P : ℕ → Type 0) (n : ℕ) → Surely (FirstOrNone P n)
first_or_none P zero = sure (inr (λ k h p. absurd (omega arith)))
first_or_none P (suc n) = so (first_or_none P n) grown
  where
    here : ((k : ℕ) → k < n → P k → ⊥) → P n ⊎ (P n → ⊥) → FirstOrNone P (suc n)
    here none (inl p) = inl (n, record { inside = omega arith; is = p; before = none })
    here none (inr never) = inr (λ k h p. by_eq k n (λ e. never (subst P e p)) (λ d. none k (omega arith) p))

    grown : FirstOrNone P n → Surely (FirstOrNone P (suc n))
    grown (inl (k, f)) = let low = f.inside in sure (inl (k, record { inside = omega arith; is = f.is; before = f.before }))
    grown (inr none) = so (either (P n)) (λ x. sure (here none x))

-- it holds of all numbers below n, or not of a first one
abbrev pub AllOrFirst : (ℕ → Type 0) → ℕ → Type 0
AllOrFirst P n = ((k : ℕ) → k < n → P k) ⊎ ((k : ℕ) × (k < n) × (P k → ⊥) × ((i : ℕ) → i < k → P i))

pub all_or_first : (P : ℕ → Type 0) (n : ℕ) → Surely (AllOrFirst P n)
all_or_first P zero = sure (inl (λ k h. absurd (omega arith)))
all_or_first P (suc n) = so (all_or_first P n) grown
  where
    here : ((k : ℕ) → k < n → P k) → P n ⊎ (P n → ⊥) → AllOrFirst P (suc n)
    here all (inl p) = inl (λ k h. by_eq k n (λ e. subst P (sym e) p) (λ d. all k (omega arith)))
    here all (inr not) = inr (n, omega arith, not, all)

    grown : AllOrFirst P n → Surely (AllOrFirst P (suc n))
    grown (inl all) = so (either (P n)) (λ x. sure (here all x))
    grown (inr (k, h, not, below)) = sure (inr (k, omega arith, not, below))

-- a list of the values of a function
pub record IsTable {X : Type 0} (d : X) (f : ℕ → X) (n : ℕ) (xs : List X) : Type 0 where
  pub count : length xs ≡ n
  pub items : (k : ℕ) → k < n → get_or xs k d ≡ f k

pub table : {X : Type 0} (d : X) (f : ℕ → X) (n : ℕ) → (xs : List X) × IsTable d f n xs
table d f zero = ([], record { count = refl; items = λ k h. absurd (omega arith) })
table d f (suc n) =
    let (xs, t) = table d f n in
    let count = t.count in
    let size = length-append xs (f n ∷ []) in (
      xs ++ f n ∷ [],
      record {
        count = omega arith;
        items = λ k h. by_eq k n (λ e. get_or_push xs (f n) d k (count ∙ sym e) ∙ ap f (sym e)) (λ a. get_or_append_left xs (f n ∷ []) d k (omega arith) ∙ t.items k (omega arith));
      },
    )

-- of finitely many limits the first least one, or there is none
abbrev LeastOrNone : (ℕ → Option Ratio) → ℕ → Type 0
LeastOrNone f n = ((c : ℕ) × IsFirstLeast f n c) ⊎ ((k : ℕ) → k < n → f k ≡ None)

module _ (f : ℕ → Option Ratio) (numbers : (k : ℕ) (q : Ratio) → f k ≡ Some q → IsNumber q) where
  one_limit : (k : ℕ) (p q : Ratio) → f k ≡ Some p → f k ≡ Some q → p ≡ q
  one_limit k p q a b = cc

  kept : (n c : ℕ) (q : Ratio) → f n ≡ Some q → (l : IsFirstLeast f n c) → IsAtMost l.limit q → LeastOrNone f (suc n)
  kept n c q e l most =
      let low = l.inside in
      inl (
        c,
        record {
          inside = omega arith;
          limit = l.limit;
          is = l.is;
          before = l.before;
          after = λ k h g p at. by_eq k n (λ i. subst (λ r. IsAtMost l.limit r) (one_limit n q p e (sym (ap f i) ∙ at)) most) (λ d. l.after k h (omega arith) p at);
        },
      )

  lower : (n c : ℕ) (x : IsFirstLeast f n c) (q : Ratio) → f n ≡ Some q → IsBelow q x.limit → (k : ℕ) → k < n → (p : Ratio) → f k ≡ Some p → IsBelow q p
  lower n c x q e low k h p at =
      by_eq k c
      (λ i. subst (λ r. IsBelow q r) (one_limit c x.limit p x.is (sym (ap f i) ∙ at)) low)
      (λ d. by_lt k c
      (λ l. IsBelow-trans q x.limit p (numbers n q e) (numbers k p at) low (x.before k l p at))
      (λ l.
      let most : IsAtMost x.limit p = x.after k (omega arith) h p at in
      by_order x.limit p
      (λ b. IsBelow-trans q x.limit p (numbers n q e) (numbers k p at) low b)
      (λ s. IsBelow-alike_above q x.limit p (numbers k p at) (sym s) low)
      (λ b. absurd (omega (arith, ints)))))

  pub least_or_none : (n : ℕ) → LeastOrNone f n
  least_or_none zero = inr (λ k h. absurd (omega arith))
  least_or_none (suc n) = grown (least_or_none n) (f n) refl
    where
      grown : LeastOrNone f n → (o : Option Ratio) → f n ≡ o → LeastOrNone f (suc n)
      grown (inr none) None e = inr (λ k h. by_eq k n (λ i. ap f i ∙ e) (λ d. none k (omega arith)))
      grown (inr none) (Some q) e = inl (
        n,
        record {
          inside = omega arith;
          limit = q;
          is = e;
          before = λ k h p at. let never = none k h in absurd (cc);
          after = λ k h g p at. absurd (omega arith);
        },
      )
      grown (inl (c, x)) None e =
          let low = x.inside in
          inl (
            c,
            record {
              inside = omega arith;
              limit = x.limit;
              is = x.is;
              before = x.before;
              after = λ k h g p at. by_eq k n (λ i. let same = ap f i in absurd (cc)) (λ d. x.after k h (omega arith) p at);
            },
          )
      grown (inl (c, x)) (Some q) e =
          by_order x.limit q
          (λ b. kept n c q e x (omega (arith, ints)))
          (λ s. kept n c q e x (omega (arith, ints)))
          (λ b. inl (
            n,
            record {
              inside = omega arith;
              limit = q;
              is = e;
              before = λ k h p at. lower n c x q e b k h p at;
              after = λ k h g p at. absurd (omega arith);
            },
          ))
