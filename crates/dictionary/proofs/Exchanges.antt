-- Two columns change places: the one at x below n, and the one at y from n on.
use Rattle.std.proofs.Common.{◌≡◌, ℕ, ◌<◌, ◌≤◌, true, false, cond, nat_eq, nat_lt, arith, refl, sym, ◌∙◌, ap, subst}
use Rattle.std.proofs.lemmas.Bool.{lt-ltb, le-ltb, eq-eqb, ne_eqb}
use Rattle.rational.specs.Ratio.{Ratio, sum, product, negative, inverse, quotient, IsNumber, IsSame}
use Rattle.rational.specs.Width.{IsReduced}
use Rattle.evidence.specs.Sums.{none}
use Rattle.evidence.proofs.Numbers.{◌≈◌, ◌⊙◌, product-none, times_none, none-sum, negative-product}
use Rattle.evidence.proofs.Inverses.{inverse-number}
use Rattle.bases.proofs.Lists.{reduced_none}
use Rattle.evidence.proofs.Columns.{by_eq, by_lt}
use Rattle.bases.specs.Pivot.{exchanged}
use Rattle.bases.proofs.Pivots.{exchanged_own, exchanged_left, exchanged_other}
use Rattle.dictionary.specs.Rows.{IsOverPlaces, HasNumber, IsSolvedFor, IsReplacedBy}
use Rattle.dictionary.specs.Basis.{ArePlaces, ChangePlaces, basic_by}

changed_inside : (k x y : ℕ) (f g : ℕ → ℕ) → x < k → y < k → ChangePlaces x y f g → ((j : ℕ) → j < k → f j < k) → (j : ℕ) → j < k → g j < k
changed_inside k x y f g hx hy s inside j h =
    by_eq j x (λ e. subst (λ i. i < k) (sym (ap g e ∙ s.first)) (inside y hy))
    (λ d. by_eq j y (λ e. subst (λ i. i < k) (sym (ap g e ∙ s.second)) (inside x hx)) (λ e. subst (λ i. i < k) (sym (s.other j d e)) (inside j h)))

-- the inverse of the one is changed at the values
changed_inverse : (k x y : ℕ) (f f' g g' : ℕ → ℕ) → x < k → y < k → ChangePlaces x y f f' → ChangePlaces (f x) (f y) g g' → ((j : ℕ) → j < k → g (f j) ≡ j) → (j : ℕ) → j < k → g' (f' j) ≡ j
changed_inverse k x y f f' g g' hx hy s t back j h =
    by_eq j x (λ e. ap (λ i. g' (f' i)) e ∙ ap g' s.first ∙ t.second ∙ back x hx ∙ sym e)
    (λ d. by_eq j y (λ e. ap (λ i. g' (f' i)) e ∙ ap g' s.second ∙ t.first ∙ back y hy ∙ sym e)
    (λ e. ap g' (s.other j d e) ∙ t.other (f j) (λ i. d (sym (back j h) ∙ ap g i ∙ back x hx)) (λ i. e (sym (back j h) ∙ ap g i ∙ back y hy)) ∙ back j h))

pub one_place : (k : ℕ) (at place : ℕ → ℕ) → ArePlaces k at place → (i j : ℕ) → i < k → j < k → at i ≡ at j → i ≡ j
one_place k at place p i j a b e = sym (p.place_at i a) ∙ ap place e ∙ p.place_at j b

pub one_column : (k : ℕ) (at place : ℕ → ℕ) → ArePlaces k at place → (c d : ℕ) → c < k → d < k → place c ≡ place d → c ≡ d
one_column k at place p c d a b e = sym (p.at_place c a) ∙ ap at e ∙ p.at_place d b

pub basic_below : (n : ℕ) (place : ℕ → ℕ) (c : ℕ) → place c < n → basic_by n place c ≡ false
basic_below n place c h = rw (lt-ltb (place c) n h) refl

pub basic_from : (n : ℕ) (place : ℕ → ℕ) (c : ℕ) → n ≤ place c → basic_by n place c ≡ true
basic_from n place c h = rw (le-ltb (place c) n h) refl

pub place_basic : (n : ℕ) (place : ℕ → ℕ) (c : ℕ) → basic_by n place c ≡ true → n ≤ place c
place_basic n place c h = by_lt (place c) n (λ l. let e : false ≡ true = sym (basic_below n place c l) ∙ h in absurd (cc)) (λ l. l)

pub place_nonbasic : (n : ℕ) (place : ℕ → ℕ) (c : ℕ) → basic_by n place c ≡ false → place c < n
place_nonbasic n place c h = by_lt (place c) n (λ l. l) (λ l. let e : true ≡ false = sym (basic_from n place c l) ∙ h in absurd (cc))

-- a number that is said to be 0
pub made_none : (y z : Ratio) → IsReduced y → IsSame y z → z ≈ none → y ≡ none
made_none y z r is near =
    let k : y ≈ z = record { left = r.0; right = near.left; is = is } in
    let l = k ⊙ near in
    reduced_none y r l.is

pub zero_solved : (y : Ratio) → IsNumber (inverse y) → negative (quotient none y) ≈ none
zero_solved y p = subst (λ (z : Ratio). z ≈ none) (negative-product none (inverse y)) (product-none (inverse y) p)

-- b is at a place from n on, e at one below, and they change places
pub record AreExchanged (n k : ℕ) (at place to new : ℕ → ℕ) (b e : ℕ) : Type 0 where
  pub places : ArePlaces k at place
  pub within : n ≤ k
  pub b_in : b < k
  pub e_in : e < k
  pub b_from : n ≤ place b
  pub e_below : place e < n
  pub moved : ChangePlaces (place b) (place e) at to
  pub placed : ChangePlaces b e place new

abbrev pub with_changed : ℕ → ℕ → (ℕ → ℕ) → ℕ → ℕ
with_changed x y f j = cond (nat_eq j x) (f y) (cond (nat_eq j y) (f x) (f j))

changed : (x y : ℕ) (f : ℕ → ℕ) → (x ≡ y → ⊥) → ChangePlaces x y f (with_changed x y f)
changed x y f d = record {
  first = rw (eq-eqb x x refl) refl;
  second = rw (ne_eqb y x (λ e. d (sym e)), eq-eqb y y refl) refl;
  other = λ j a b. rw (ne_eqb j x a, ne_eqb j y b) refl;
}

-- the columns' places with b and e exchanged
pub exchange_of : (n k : ℕ) (at place : ℕ → ℕ) (b e : ℕ) → ArePlaces k at place → n ≤ k → b < k → e < k → n ≤ place b → place e < n → AreExchanged n k at place (with_changed (place b) (place e) at) (with_changed b e place) b e
exchange_of n k at place b e places within b_in e_in b_from e_below = record {
  places = places;
  within = within;
  b_in = b_in;
  e_in = e_in;
  b_from = b_from;
  e_below = e_below;
  moved = changed (place b) (place e) at (λ h. omega arith);
  placed = changed b e place (λ h. let g : place b ≡ place e = subst (λ j. place b ≡ place j) h refl in omega arith);
}

module _ (n k : ℕ) (at place to new : ℕ → ℕ) (b e : ℕ) (x : AreExchanged n k at place to new b e) where
  pub apart : b ≡ e → ⊥
  apart h = let f = x.b_from in let g = x.e_below in let i = ap place h in omega arith

  b_place : place b < k
  b_place = let p = x.places in p.stands b x.b_in

  e_place : place e < k
  e_place = let p = x.places in p.stands e x.e_in

  to_b : to (place e) ≡ b
  to_b = let m = x.moved in let p = x.places in m.second ∙ p.at_place b x.b_in

  to_e : to (place b) ≡ e
  to_e = let m = x.moved in let p = x.places in m.first ∙ p.at_place e x.e_in

  pub new_e : new e ≡ place b
  new_e = let p = x.placed in p.second

  pub new_b : new b ≡ place e
  new_b = let p = x.placed in p.first

  pub new_other : (c : ℕ) → (c ≡ b → ⊥) → (c ≡ e → ⊥) → new c ≡ place c
  new_other = let p = x.placed in p.other

  pub places_after : ArePlaces k to new
  places_after =
      let p = x.places in
      let placed : ChangePlaces (at (place b)) (at (place e)) place new = subst (λ j. ChangePlaces j (at (place e)) place new) (sym (p.at_place b x.b_in)) (subst (λ j. ChangePlaces b j place new) (sym (p.at_place e x.e_in)) x.placed) in
      record {
        inside = changed_inside k (place b) (place e) at to b_place e_place x.moved p.inside;
        stands = changed_inside k b e place new x.b_in x.e_in x.placed p.stands;
        place_at = changed_inverse k (place b) (place e) at to place new b_place e_place x.moved placed p.place_at;
        at_place = changed_inverse k b e place new at to x.b_in x.e_in x.placed x.moved p.at_place;
      }

  pub basic_after : (c : ℕ) → basic_by n new c ≡ exchanged (basic_by n place) b e c
  basic_after c =
      by_eq c e
      (λ h. ap (λ j. basic_by n new j) h ∙ basic_from n new e (let f = new_e in let g = x.b_from in omega arith) ∙ sym (exchanged_own (basic_by n place) b e c h))
      (λ d. by_eq c b
      (λ h. ap (λ j. basic_by n new j) h ∙ basic_below n new b (let f = new_b in let g = x.e_below in omega arith) ∙ sym (exchanged_left (basic_by n place) b e c d h))
      (λ h. ap (λ j. cond (nat_lt j n) false true) (new_other c h d) ∙ sym (exchanged_other (basic_by n place) b e c d h)))

  -- a row with numbers at the first n places alone: solved, and then put into others, it leaves them so
  module _ (row : ℕ → Ratio) (out : ℕ → Ratio) (reduced : (c : ℕ) → IsReduced (out c)) (over : IsOverPlaces n place row) where
    not_b : (c : ℕ) → n ≤ new c → c ≡ b → ⊥
    not_b c h i = let l = ap new i in let f = new_b in let g = x.e_below in omega arith

    was_none : (c : ℕ) → n ≤ new c → (c ≡ e → ⊥) → row c ≡ none
    was_none c h d = over c (let f = new_other c (not_b c h) d in omega arith)

    pub solved_over : HasNumber row e → IsSolvedFor row b e out → IsOverPlaces n new out
    solved_over stands s c h = by_eq c e (λ i. ap out i ∙ s.gone)
        (λ d. made_none (out c) (negative (quotient none (row e))) (reduced c) (subst (λ (v : Ratio). IsSame (out c) (negative (quotient v (row e)))) (was_none c h d) (s.others c d (not_b c h))) (zero_solved (row e) (inverse-number (row e) stands)))

    pub replaced_over : (by : ℕ → Ratio) → IsNumber (row e) → IsOverPlaces n new by → IsReplacedBy row by e out → IsOverPlaces n new out
    replaced_over by number after s c h = by_eq c e (λ i. ap out i ∙ s.gone)
        (λ d. made_none (out c) (sum none (product (row e) none)) (reduced c)
        (subst (λ (v : Ratio). IsSame (out c) (sum none (product (row e) v))) (after c h) (subst (λ (v : Ratio). IsSame (out c) (sum v (product (row e) (by c)))) (was_none c h d) (s.others c d)))
        (subst (λ (v : Ratio). v ≈ none) (sym (none-sum (product (row e) none))) (times_none (row e) number)))
