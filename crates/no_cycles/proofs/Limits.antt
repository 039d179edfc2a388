-- What a limit says: how far it is, and where the column then stands that sets it.
use Rattle.std.proofs.Common.{◌≡◌, zero, suc, ℤ, pos, negsuc, ◌<ℤ◌, ◌≤ℤ◌, true, false, Option, None, Some, IfSome, refl, sym, ◌∙◌, ap, subst, arith}
use Rattle.std.proofs.lemmas.Int.{ints}
use Rattle.rational.specs.Ratio.{Ratio, whole, sum, product, negative, inverse, quotient, IsNumber, IsBelow, IsAtMost}
use Rattle.rational.proofs.Integers.{neg-times}
use Rattle.evidence.specs.Instance.{Range, HasNumbers}
use Rattle.evidence.specs.Cases.{IsEmpty, or_none}
use Rattle.evidence.specs.Point.{IsBetween}
use Rattle.evidence.proofs.Numbers.{◌≈◌, ≈-refl, ≈-from, ≈-sym, ◌⊙◌, ◌▹◌, sum-≈, sum-number, product-number, product-one, product_swap, sum_assoc, sum_swap, sum-none, none-sum, negative-sum, negative-product}
use Rattle.evidence.proofs.Columns.{by_bool}
use Rattle.evidence.proofs.Inverses.{inverse-number, sum-negative, negative-negative}
use Rattle.simplex_rules.specs.declared.columns.Status.{Status}
use Rattle.simplex_rules.specs.declared.columns.Status.TheVariants.{Basic, Lower, Upper, Zero}
use Rattle.simplex_rules.specs.declared.columns.Way.{Way}
use Rattle.simplex_rules.specs.declared.columns.Way.TheVariants.{Rise, Fall}
use Rattle.simplex_rules.specs.Statuses.{rest_at, has_width, upper_status, HasPlace}
use Rattle.simplex_rules.specs.Turns.{Can, until_by, across, reached_status, way_of}
use Rattle.simplex_rules.specs.Reports.{step_of}
use Rattle.simplex_rules.proofs.Facts.{or_is}
use Rattle.no_cycles.proofs.Signs.{quotient_up, quotient_down, reach, no_room, below_yes}
use Rattle.no_cycles.proofs.Ways.{until_is}

pub if_is : (o : Option Ratio) (P : Ratio → Type 0) (e : Ratio) → IfSome o P → o ≡ Some e → P e
if_is None P e p h = absurd (cc)
if_is (Some x) P e p h = subst P (let z : x ≡ e = cc in z) p

-- at the upper end, whether it has room or not
pub upper_rest : (r : Range) (e : Ratio) → HasNumbers r → (IsEmpty r → ⊥) → r.ub ≡ Some e → IsNumber e → e ≈ rest_at r (upper_status r)
upper_rest r e hn room f p =
    by_bool (has_width r)
    (λ b. rw b (≈-sym (≈-from (subst IsNumber (sym (or_is r.ub e f)) p) (or_is r.ub e f))))
    (λ b. rw b (lower r.lb refl b))
  where
    lower : (lo : Option Ratio) → r.lb ≡ lo → has_width r ≡ false → e ≈ or_none r.lb
    lower None g b = let z : has_width r ≡ true = rw g refl in absurd (cc)
    lower (Some l) g b =
        let k = no_room r.lb r.ub hn.0 hn.1 (λ a c x y z. room (a, c, x, y, z)) l g b in
        let same : e ≡ k.0 = let z = k.1 in cc in
        ≈-from p same ⊙ k.2 ▹ sym (or_is r.lb l g)

-- a limit that a basic column sets
pub record IsLimit (x by q end : Ratio) : Type 0 where
  pub number : IsNumber q
  pub not_below : pos 0 ≤ℤ q.num
  pub ends : sum x (product q by) ≈ end

at_most_gap : (e x : Ratio) → IsAtMost x e → pos 0 ≤ℤ (sum e (negative x)).num
at_most_gap e x h = let f = neg-times x.num (pos e.den) in omega (arith, ints)

at_least_gap : (e x : Ratio) → IsAtMost e x → (sum e (negative x)).num ≤ℤ pos 0
at_least_gap e x h = let f = neg-times x.num (pos e.den) in omega (arith, ints)

pub basic_limit : (r : Range) (x by q : Ratio) → HasNumbers r → (IsEmpty r → ⊥) → IsNumber x → IsNumber by → IsBetween r x → until_by by.num r x by ≡ Some q → IsLimit x by q (rest_at r (reached_status (way_of by.num) r))
basic_limit r x by q hn room px pb between h = by_sign by.num refl h
  where
    far : (e : Ratio) → IsNumber e → (by.num ≡ pos 0 → ⊥) → quotient (sum e (negative x)) by ≡ q → pos 0 ≤ℤ (quotient (sum e (negative x)) by).num → IsLimit x by q e
    far e p nz f up = record {
      number = subst IsNumber f (product-number (sum e (negative x)) (inverse by) (sum-number e (negative x) p px) (inverse-number by nz));
      not_below = subst (λ (z : Ratio). pos 0 ≤ℤ z.num) f up;
      ends = subst (λ z. sum x (product z by) ≈ e) f (reach e x by p px pb nz);
    }

    on : (a b : Ratio) → IsLimit x by q a → a ≈ b → IsLimit x by q b
    on a b l f = record { number = l.number; not_below = l.not_below; ends = l.ends ⊙ f }

    by_sign : (z : ℤ) → by.num ≡ z → until_by z r x by ≡ Some q → IsLimit x by q (rest_at r (reached_status (way_of z) r))
    by_sign (pos zero) f h = absurd (cc)
    by_sign (pos (suc k)) f h =
        let u = until_is r.ub x by q hn.1 h in
        on u.0 (rest_at r (upper_status r))
        (far u.0 u.2 (λ z. omega (arith, ints)) u.3 (quotient_up (sum u.0 (negative x)) by (at_most_gap u.0 x (if_is r.ub (λ l. IsAtMost x l) u.0 between.high u.1)) (omega (arith, ints))))
        (upper_rest r u.0 hn room u.1 u.2)
    by_sign (negsuc k) f h =
        let u = until_is r.lb x by q hn.0 h in
        on u.0 (rest_at r Lower)
        (far u.0 u.2 (λ z. omega (arith, ints)) u.3 (quotient_down (sum u.0 (negative x)) by (at_least_gap u.0 x (if_is r.lb (λ l. IsAtMost l x) u.0 between.low u.1)) (omega (arith, ints))))
        (≈-sym (≈-from (subst IsNumber (sym (or_is r.lb u.0 u.1)) u.2) (or_is r.lb u.0 u.1)))

-- the limit of the moving column itself is above 0
across_is : (lo hi : Option Ratio) (q : Ratio) → IfSome lo IsNumber → IfSome hi IsNumber → across lo hi ≡ Some q → (l h : Ratio) × (lo ≡ Some l) × (hi ≡ Some h) × IsNumber l × IsNumber h × (sum h (negative l) ≡ q)
across_is None hi q a b e = absurd (cc)
across_is (Some l) None q a b e = absurd (cc)
across_is (Some l) (Some h) q a b e = (l, h, refl, refl, a, b, (let z : sum h (negative l) ≡ q = cc in z))

apart_gap : (l h : Ratio) → IsBelow l h → pos 0 <ℤ (sum h (negative l)).num
apart_gap l h b = let f = neg-times l.num (pos h.den) in omega (arith, ints)

room_gap : (lo hi : Option Ratio) (l h : Ratio) → has_width (record { lb = lo; ub = hi }) ≡ true → lo ≡ Some l → hi ≡ Some h → IsBelow l h
room_gap None hi l h e p q = absurd (cc)
room_gap (Some k) None l h e p q = absurd (cc)
room_gap (Some k) (Some g) l h e p q =
    let kl : k ≡ l = cc in
    let gh : g ≡ h = cc in
    subst (λ z. IsBelow l z) gh (subst (λ z. IsBelow z g) kl (below_yes k g e))

pub gap_up : (l h : Ratio) → IsNumber l → IsNumber h → sum l (product (sum h (negative l)) (whole (pos 1))) ≈ h
gap_up l h pl ph =
    ≈-from (sum-number l (product (sum h (negative l)) (whole (pos 1))) pl (product-number (sum h (negative l)) (whole (pos 1)) (sum-number h (negative l) ph pl) (omega arith)))
    (ap (sum l) (product_swap (sum h (negative l)) (whole (pos 1)) ∙ product-one (sum h (negative l))) ∙ sum_swap l (sum h (negative l)) ∙ sum_assoc h (negative l) l)
    ⊙ sum-≈ (≈-refl ph) (≈-from (sum-number (negative l) l pl pl) (sum_swap (negative l) l) ⊙ sum-negative l pl)
    ▹ sum-none h

pub gap_down : (l h : Ratio) → IsNumber l → IsNumber h → sum h (product (sum h (negative l)) (whole (negsuc 0))) ≈ l
gap_down l h pl ph =
    let q : Ratio = sum h (negative l) in
    let turned : product (sum h (negative l)) (whole (negsuc 0)) ≡ sum (negative h) l =
    product_swap (sum h (negative l)) (whole (negsuc 0)) ∙ negative-product (whole (pos 1)) (sum h (negative l)) ∙ ap negative (product-one (sum h (negative l))) ∙ sym (negative-sum h (negative l)) ∙ ap (sum (negative h)) (negative-negative l) in
    ≈-from (sum-number h (product (sum h (negative l)) (whole (negsuc 0))) ph (product-number (sum h (negative l)) (whole (negsuc 0)) (sum-number h (negative l) ph pl) (omega arith)))
    (ap (sum h) turned ∙ sym (sum_assoc h (negative h) l))
    ⊙ sum-≈ (sum-negative h ph) (≈-refl pl)
    ▹ none-sum l

pub record IsAcross (x by q end : Ratio) : Type 0 where
  pub limit : IsLimit x by q end
  pub above : pos 0 <ℤ q.num

pub own_limit : (w : Way) (r : Range) (s : Status) (q : Ratio) → HasNumbers r → HasPlace r s → Can w r s → across r.lb r.ub ≡ Some q → IsAcross (rest_at r s) (step_of w) q (rest_at r (reached_status w r))
own_limit w r s q hn place can e = by w s place can (across_is r.lb r.ub q hn.0 hn.1 e)
  where
    gap : (l h : Ratio) → IsNumber l → IsNumber h → sum h (negative l) ≡ q → IsNumber q
    gap l h pl ph f = subst IsNumber f (sum-number h (negative l) ph pl)

    by : (w : Way) (s : Status) → HasPlace r s → Can w r s → ((l h : Ratio) × (r.lb ≡ Some l) × (r.ub ≡ Some h) × IsNumber l × IsNumber h × (sum h (negative l) ≡ q)) → IsAcross (rest_at r s) (step_of w) q (rest_at r (reached_status w r))
    by Rise Basic place can x = absurd can
    by Rise Lower place can (l, h, f, g, pl, ph, k) =
        let up : pos 0 <ℤ q.num = subst (λ (z : Ratio). pos 0 <ℤ z.num) k (apart_gap l h (room_gap r.lb r.ub l h can f g)) in
        record {
          limit = record {
            number = gap l h pl ph k;
            not_below = omega (arith, ints);
            ends = let b : has_width r ≡ true = can in rw (b, or_is r.lb l f, or_is r.ub h g) (subst (λ z. sum l (product z (whole (pos 1))) ≈ h) k (gap_up l h pl ph));
          };
          above = up;
        }
    by Rise Upper place can x = absurd can
    by Rise Zero place can (l, h, f, g, pl, ph, k) = let z = place.0 in absurd (cc)
    by Fall Basic place can x = absurd can
    by Fall Lower place can x = absurd can
    by Fall Upper place can (l, h, f, g, pl, ph, k) =
        let up : pos 0 <ℤ q.num = subst (λ (z : Ratio). pos 0 <ℤ z.num) k (apart_gap l h (room_gap r.lb r.ub l h place.1 f g)) in
        record {
          limit = record {
            number = gap l h pl ph k;
            not_below = omega (arith, ints);
            ends = rw (or_is r.lb l f, or_is r.ub h g) (subst (λ z. sum h (product z (whole (negsuc 0))) ≈ l) k (gap_down l h pl ph));
          };
          above = up;
        }
    by Fall Zero place can (l, h, f, g, pl, ph, k) = let z = place.0 in absurd (cc)
