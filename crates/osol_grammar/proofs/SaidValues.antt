-- First values: a start tag says one at most, those that are said may be written, and those that are written are read.
use Rattle.std.proofs.Common.{◌≡◌, ◌≢◌, ◌⊎◌, ◌∙◌, inl, inr, ℕ, zero, suc, ◌-◌, ◌<◌, ◌≤◌, IsTrue, false, Option, None, Some, List, [], ◌∷◌, ◌++◌, length, get_or, set, refl, ap, sym, subst, arith}
use Rattle.std.specs.Prelude.{codes}
use Rattle.std.specs.Option.{is_some}
use Rattle.std.proofs.lemmas.Bool.{cases_eq}
use Rattle.std.proofs.lemmas.List.{get_or_past}
use Rattle.fraction.specs.declared.frac.Frac.{Frac}
use Rattle.tree_grammar.specs.Elements.{Attribute}
use Rattle.decimal_text.specs.Count.{IsCount}
use Rattle.decimal_text.proofs.OneNumber.{count_once}
use Rattle.document_tags.specs.Elements.{value_of}
use Rattle.document_tags.proofs.SomeAnd.{some_once}
use Rattle.osol_grammar.specs.FirstValues.{most_variables, SaysIndex, SaysValue, IsSaid, with_value, HasFirst, more_first}
use Rattle.osol_grammar.specs.Times.{IsAmount}
use Rattle.osol_grammar.specs.Back.{AreFirstValues, AreFirstOrNone}
use Rattle.osol_grammar.proofs.SaidTimes.{amount_once}

-- ---- one of each

pub index_once : (as' : List Attribute) (n m : ℕ) → SaysIndex as' n → SaysIndex as' m → n ≡ m
index_once as' n m a b = some_once IsCount count_once (value_of (codes "idx") as') n m a.0 b.0

pub value_once : (as' : List Attribute) (x y : Frac) → SaysValue as' x → SaysValue as' y → x ≡ y
value_once as' x y a b = some_once IsAmount amount_once (value_of (codes "value") as') x y a b

-- ---- the list with one more

pub value_same : (vs : List (Option Frac)) (n : ℕ) (x : Frac) → get_or (with_value vs n x) n None ≡ Some x
value_same [] zero x = refl
value_same (v ∷ vs) zero x = refl
value_same [] (suc n) x = value_same [] n x
value_same (v ∷ vs) (suc n) x = value_same vs n x

value_other : (vs : List (Option Frac)) (n k : ℕ) (x : Frac) → (k ≡ n → ⊥) → get_or (with_value vs n x) k None ≡ get_or vs k None
value_other [] zero zero x other = absurd (other refl)
value_other [] zero (suc k) x other = refl
value_other (v ∷ vs) zero zero x other = absurd (other refl)
value_other (v ∷ vs) zero (suc k) x other = refl
value_other [] (suc n) zero x other = refl
value_other [] (suc n) (suc k) x other = value_other [] n k x (λ e. other (omega (arith, e))) ∙ get_or_past [] k None (omega arith) ∙ sym (get_or_past [] (suc k) None (omega arith))
value_other (v ∷ vs) (suc n) zero x other = refl
value_other (v ∷ vs) (suc n) (suc k) x other = value_other vs n k x (λ e. other (omega (arith, e)))

-- it ends where it did, or with the one more
value_long : (vs : List (Option Frac)) (n : ℕ) (x : Frac) → ((n < length vs) × (length (with_value vs n x) ≡ length vs)) ⊎ ((length vs ≤ n) × (length (with_value vs n x) ≡ suc n))
value_long [] zero x = inr (omega arith, refl)
value_long (v ∷ vs) zero x = inl (omega arith, refl)
value_long [] (suc n) x = by (value_long [] n x)
  where
    by : ((n < 0) × (length (with_value [] n x) ≡ 0)) ⊎ ((0 ≤ n) × (length (with_value [] n x) ≡ suc n)) → ((suc n < 0) × (suc (length (with_value [] n x)) ≡ 0)) ⊎ ((0 ≤ suc n) × (suc (length (with_value [] n x)) ≡ suc (suc n)))
    by (inl (low, e)) = absurd (omega arith)
    by (inr (low, e)) = inr (omega arith, ap (λ (i : ℕ). suc i) e)
value_long (v ∷ vs) (suc n) x = by (value_long vs n x)
  where
    by : ((n < length vs) × (length (with_value vs n x) ≡ length vs)) ⊎ ((length vs ≤ n) × (length (with_value vs n x) ≡ suc n)) → ((suc n < suc (length vs)) × (suc (length (with_value vs n x)) ≡ suc (length vs))) ⊎ ((suc (length vs) ≤ suc n) × (suc (length (with_value vs n x)) ≡ suc (suc n)))
    by (inl (low, e)) = inl (omega arith, ap (λ (i : ℕ). suc i) e)
    by (inr (low, e)) = inr (omega arith, ap (λ (i : ℕ). suc i) e)

-- what is so of the last index stays so
value_said : (vs : List (Option Frac)) (n k : ℕ) (x : Frac) → (k ≡ n) ⊎ (IsSaid vs k × (k ≡ n → ⊥)) → IsSaid (with_value vs n x) k
value_said vs n k x (inl e) = subst (λ (i : ℕ). IsSaid (with_value vs n x) i) (sym e) (subst (λ (o : Option Frac). IsTrue (is_some o)) (sym (value_same vs n x)) refl)
value_said vs n k x (inr (said, other)) = subst (λ (o : Option Frac). IsTrue (is_some o)) (sym (value_other vs n k x other)) said

never_empty : (vs : List (Option Frac)) (n : ℕ) (x : Frac) → with_value vs n x ≢ []
never_empty vs n x e = let at = sym (value_same vs n x) ∙ ap (λ (l : List (Option Frac)). get_or l n None) e ∙ get_or_past [] n None (omega arith) in cc

more_values : (vs : List (Option Frac)) (n : ℕ) (x : Frac) → n < most_variables → (vs ≡ []) ⊎ AreFirstValues vs → AreFirstValues (with_value vs n x)
more_values vs n x low before = by (value_long vs n x) before
  where
    ends : (k : ℕ) → length (with_value vs n x) ≡ suc k → (k ≡ n) ⊎ (IsSaid vs k × (k ≡ n → ⊥)) → length (with_value vs n x) ≤ most_variables → AreFirstValues (with_value vs n x)
    ends k e last few = record {
      some = never_empty vs n x;
      few = few;
      last = let at : length (with_value vs n x) - 1 ≡ k = omega (arith, e) in subst (λ (i : ℕ). IsSaid (with_value vs n x) i) (sym at) (value_said vs n k x last);
    }

    same_or_not : (k : ℕ) → IsSaid vs k → (k ≡ n) ⊎ (IsSaid vs k × (k ≡ n → ⊥))
    same_or_not k said = elim (cases_eq k n) [ inl e ↦ inl e | inr other ↦ inr (said, other) ]

    by : ((n < length vs) × (length (with_value vs n x) ≡ length vs)) ⊎ ((length vs ≤ n) × (length (with_value vs n x) ≡ suc n)) → (vs ≡ []) ⊎ AreFirstValues vs → AreFirstValues (with_value vs n x)
    by (inr (past, e)) b = ends n e (inl refl) (omega (arith, e, low))
    by (inl (inside, e)) (inl none) = absurd (let z = ap length none in omega (arith, z, inside))
    by (inl (inside, e)) (inr are) = let few = are.few in ends (length vs - 1) (omega (arith, e, inside)) (same_or_not (length vs - 1) are.last) (omega (arith, e, few))

pub first_back : (first : Option (List (Option Frac))) (n : ℕ) (x : Frac) → n < most_variables → AreFirstOrNone first → AreFirstOrNone (more_first first n x)
first_back None n x low before = more_values [] n x low (inl refl)
first_back (Some vs) n x low before = more_values vs n x low (inr before)

-- ---- what is read of a written list, from one index on

-- the values up to the last that is said, if any
abbrev cons_cut : Option Frac → Option (List (Option Frac)) → Option (List (Option Frac))
cons_cut None None = None
cons_cut (Some x) None = Some (Some x ∷ [])
cons_cut v (Some vs) = Some (v ∷ vs)

abbrev pub cut_values : List (Option Frac) → Option (List (Option Frac))
cut_values [] = None
cut_values (v ∷ vs) = cons_cut v (cut_values vs)

-- one more behind them
pub cut_more : (us : List (Option Frac)) (x : Frac) → more_first (cut_values us) (length us) x ≡ Some (us ++ Some x ∷ [])
cut_more [] x = refl
cut_more (u ∷ us) x = by u (cut_values us) (cut_more us x)
  where
    inside : (a b : List (Option Frac)) → Some a ≡ Some b → a ≡ b
    inside a b e = cc

    by : (u : Option Frac) (cut : Option (List (Option Frac))) → more_first cut (length us) x ≡ Some (us ++ Some x ∷ []) → more_first (cons_cut u cut) (suc (length us)) x ≡ Some (u ∷ (us ++ Some x ∷ []))
    by None None e = ap (λ (l : List (Option Frac)). Some (None ∷ l)) (inside _ _ e)
    by (Some y) None e = ap (λ (l : List (Option Frac)). Some (Some y ∷ l)) (inside _ _ e)
    by None (Some ws) e = ap (λ (l : List (Option Frac)). Some (None ∷ l)) (inside _ _ e)
    by (Some y) (Some ws) e = ap (λ (l : List (Option Frac)). Some (Some y ∷ l)) (inside _ _ e)

pub cut_some : (us : List (Option Frac)) (x : Frac) → cut_values (us ++ Some x ∷ []) ≡ Some (us ++ Some x ∷ [])
cut_some [] x = refl
cut_some (None ∷ us) x = ap (cons_cut None) (cut_some us x)
cut_some (Some y ∷ us) x = ap (cons_cut (Some y)) (cut_some us x)

pub cut_none : (us : List (Option Frac)) → cut_values (us ++ None ∷ []) ≡ cut_values us
cut_none [] = refl
cut_none (u ∷ us) = ap (cons_cut u) (cut_none us)

-- no value is said behind them
cut_short : (us ws : List (Option Frac)) → cut_values us ≡ Some ws → length ws ≤ length us
cut_short [] ws e = absurd (cc)
cut_short (u ∷ us) ws e = by (λ vs is. cut_short us vs is) u (cut_values us) refl e
  where
    inside : (a b : List (Option Frac)) → Some a ≡ Some b → a ≡ b
    inside a b e = cc

    by : ((vs : List (Option Frac)) → cut_values us ≡ Some vs → length vs ≤ length us) → (u : Option Frac) (cut : Option (List (Option Frac))) → cut_values us ≡ cut → cons_cut u cut ≡ Some ws → length ws ≤ suc (length us)
    by below None None is e = absurd (cc)
    by below (Some y) None is e = let n = ap length (inside (Some y ∷ []) ws e) in omega (arith, n)
    by below None (Some vs) is e = let n = ap length (inside (None ∷ vs) ws e) in let low = below vs is in omega (arith, n, low)
    by below (Some y) (Some vs) is e = let n = ap length (inside (Some y ∷ vs) ws e) in let low = below vs is in omega (arith, n, low)

pub not_yet : (us : List (Option Frac)) → HasFirst (cut_values us) (length us) → ⊥
not_yet us has = by (cut_values us) refl has
  where
    by : (cut : Option (List (Option Frac))) → cut_values us ≡ cut → HasFirst cut (length us) → ⊥
    by None is has = has
    by (Some ws) is has = let past = get_or_past ws (length us) None (cut_short us ws is) in let no : IsTrue false = subst (λ (o : Option Frac). IsTrue (is_some o)) past has in cc

last_index : (vs : List (Option Frac)) → suc (suc (length vs)) - 1 ≡ suc (suc (length vs) - 1)
last_index vs = omega arith

-- where the last one is said they are all
pub cut_all : (vs : List (Option Frac)) → vs ≢ [] → IsSaid vs (length vs - 1) → cut_values vs ≡ Some vs
cut_all [] some last = absurd (some refl)
cut_all (None ∷ []) some last = let no : IsTrue false = last in absurd (cc)
cut_all (Some x ∷ []) some last = refl
cut_all (None ∷ w ∷ vs) some last = ap (cons_cut None) (cut_all (w ∷ vs) (λ e. cc) (subst (λ (i : ℕ). IsSaid (None ∷ w ∷ vs) i) (last_index vs) last))
cut_all (Some x ∷ w ∷ vs) some last = ap (cons_cut (Some x)) (cut_all (w ∷ vs) (λ e. cc) (subst (λ (i : ℕ). IsSaid (Some x ∷ w ∷ vs) i) (last_index vs) last))

-- ---- the list in memory: variables without a value may stand behind those that have one
pub padded : (vs : List (Option Frac)) (n : ℕ) (x : Frac) → length vs ≤ n → with_value (vs ++ None ∷ []) n x ≡ with_value vs n x
padded [] zero x low = refl
padded [] (suc n) x low = refl
padded (v ∷ vs) zero x low = absurd (omega (arith, low))
padded (v ∷ vs) (suc n) x low = ap (λ (l : List (Option Frac)). v ∷ l) (padded vs n x (omega (arith, low)))

pub set_value : (vs : List (Option Frac)) (n : ℕ) (x : Frac) → n < length vs → set vs n (Some x) ≡ with_value vs n x
set_value [] n x low = absurd (omega (arith, low))
set_value (v ∷ vs) zero x low = refl
set_value (v ∷ vs) (suc n) x low = ap (λ (l : List (Option Frac)). v ∷ l) (set_value vs n x (omega (arith, low)))
