-- Which values stay known through a turn.
use Rattle.std.proofs.Common.{◌≡◌, ℕ, ◌+◌, ◌<◌, ◌≤◌, pos, Bool, true, false, cond, nat_eq, List, length, length-set, refl, sym, ◌∙◌, ap, subst, arith}
use Rattle.std.specs.Prelude.{slice_set}
use Rattle.std.proofs.lemmas.Bool.{eq-eqb, ne_eqb}
use Rattle.std.proofs.lemmas.List.{get_or-set_same, get_or-set_other}
use Rattle.rational.specs.Ratio.{Ratio, sum, product, IsNumber, IsSame}
use Rattle.rational.specs.Width.{IsReduced}
use Rattle.rational.proofs.ReducedForms.{same_reduced}
use Rattle.fraction.specs.Frac.{ratio}
use Rattle.fraction.specs.declared.frac.Frac.{Frac}
use Rattle.evidence.specs.Sums.{none}
use Rattle.evidence.specs.Width.{TermFits}
use Rattle.evidence.specs.Instance.{Range}
use Rattle.evidence.proofs.Columns.{by_eq, by_lt, by_bool, none-number}
use Rattle.evidence.proofs.Numbers.{◌≈◌, ≈-refl, ≈-from, ≈-sym, ◌⊙◌, sum-≈, sum-none, sum-number, product-number}
use Rattle.evidence.proofs.Totals.{total-≈, total-same}
use Rattle.evidence.proofs.Fits.{term_same, stated_same}
use Rattle.bases.specs.Dictionary.{Values, value_by}
use Rattle.bases.specs.Pivot.{ValueFits, IsPivoted, solved_at}
use Rattle.bases.proofs.Lists.{reduced_none}
use Rattle.bases.proofs.Pivots.{solved-number}
use Rattle.simplex_rules.specs.declared.columns.Status.{Status}
use Rattle.simplex_rules.specs.declared.columns.Status.TheVariants.{Basic}
use Rattle.simplex_rules.specs.Statuses.{is_basic, status_at, basic_in, rest_at}
use Rattle.simplex_rules.proofs.Facts.{zero_number, zero_times, rest-number}
use Rattle.dictionary.specs.declared.dict.Dict.{Dict}
use Rattle.dictionary.specs.declared.places.Places.{Places}
use Rattle.dictionary.specs.Dict.{width_of, height_of, columns_of, basic_of, entry_of, place_values, Rest}
use Rattle.marks.specs.declared.marks.Marks.{Marks}
use Rattle.marks.specs.Marks.{is_marked, size_of}
use Rattle.simplex.specs.declared.choosing.Swap.{Swap}
use Rattle.simplex.specs.declared.choosing.Flip.{Flip}
use Rattle.simplex.specs.declared.ends.Ends.{Ends}
use Rattle.simplex.specs.Cuts.{ranges_in}
use Rattle.simplex.specs.Tables.{AreHeld, values_in}
use Rattle.simplex.specs.Choices.{IsSwap, IsSwapped}
use Rattle.simplex.specs.Values.{IsColumnValue, AreResting, AreKnown, IsForgotten}
use Rattle.simplex.proofs.Slots.{value_reduced, value_set, value_other}
use Rattle.simplex.proofs.Values.{ranges-numbers}

-- values that are equal but at m, where the row has 0
module _ (row x y : ℕ → Ratio) (m : ℕ) (pr : (c : ℕ) → IsNumber (row c)) (px : (c : ℕ) → IsNumber (x c)) (py : (c : ℕ) → IsNumber (y c)) (zero : (row m).num ≡ pos 0) (same : (c : ℕ) → (c ≡ m → ⊥) → x c ≡ y c) where
  zero_there : (c : ℕ) → c ≡ m → (row c).num ≡ pos 0
  zero_there c e = ap (λ j. (row j).num) e ∙ zero

  terms_alike : (c : ℕ) → product (row c) (x c) ≈ product (row c) (y c)
  terms_alike c = by_eq c m
      (λ e. zero_times (row c) (x c) (pr c) (px c) (zero_there c e) ⊙ ≈-sym (zero_times (row c) (y c) (pr c) (py c) (zero_there c e)))
      (λ d. ≈-from (product-number (row c) (x c) (pr c) (px c)) (ap (product (row c)) (same c d)))

  pub sums_alike : (n : ℕ) → value_by n row x ≈ value_by n row y
  sums_alike n = total-≈ n (λ c. product (row c) (x c)) (λ c. product (row c) (y c)) (≈-refl none-number) (λ c h. terms_alike c)

  pub fits_alike : (n : ℕ) → ValueFits n row x → ValueFits n row y
  fits_alike n f = record {
    steps = λ j h. by_eq j m
        (λ e. record { term = λ a b. absurd (a (zero_there j e)); sum = λ a b. absurd (a (zero_there j e)) })
        (λ d.
        subst (λ v. TermFits (value_by j row y) (row j) v) (same j d)
        (term_same (value_by j row x) (value_by j row y) (row j) (x j) (sums_alike j) (product-number (row j) (x j) (pr j) (px j)) (f.steps j h)));
  }

-- the value of a column whose equation stays, and has 0 at m
pub column_kept : {L : _} {G : _} (d e : Dict L G) (c m : ℕ) (b : Bool) (v : Ratio) (x y : Values) → columns_of e ≡ columns_of d → ((j : ℕ) → IsNumber (entry_of d c j)) → (b ≡ true → ((entry_of d c m).num ≡ pos 0) × ((j : ℕ) → entry_of d c j ≡ entry_of e c j)) → IsNumber v → ((j : ℕ) → IsNumber (x j)) → ((j : ℕ) → IsNumber (y j)) → ((j : ℕ) → (j ≡ m → ⊥) → x j ≡ y j) → (c ≡ m → ⊥) → IsColumnValue d x b c v → IsColumnValue e y b c v
column_kept d e c m b v x y size numbers stays pv px py same apart is = record {
  sum = λ t.
      let s = stays t in
      let k : v ≈ value_by (columns_of d) (entry_of d c) x = record { left = pv; right = (sums_alike (entry_of d c) x x m numbers px px s.0 (λ j n. refl) (columns_of d)).left; is = is.sum t } in
      let l = k ⊙ sums_alike (entry_of d c) x y m numbers px py s.0 same (columns_of d) in
      let g : value_by (columns_of d) (entry_of d c) y ≡ value_by (columns_of e) (entry_of e c) y =
      total-same none (columns_of d) (λ j. product (entry_of d c j) (y j)) (λ j. product (entry_of e c j) (y j)) (λ j. ap (λ (z : Ratio). product z (y j)) (s.1 j)) ∙ ap (λ n. value_by n (entry_of e c) y) (sym size) in
      subst (λ (z : Ratio). IsSame v z) g l.is;
  fits = λ t.
      let s = stays t in
      subst (λ n. ValueFits n (entry_of e c) y) (sym size) (stated_same none (columns_of d) (entry_of d c) (entry_of e c) y s.1 (fits_alike (entry_of d c) x y m numbers px py s.0 same (columns_of d) (is.fits t)));
  rests = λ f. is.rests f ∙ same c apart;
}

not_true : (b : Bool) → (b ≡ true → ⊥) → b ≡ false
not_true b n = by_bool b (λ e. absurd (n e)) (λ e. e)

-- what is known of a column that doesn't move with m
pub record Stays {L : _} {G : _} (d e : Dict L G) (ss zs : List Status) (m : ℕ) (ks : Marks) (c : ℕ) : Type 0 where
  pub known : is_marked ks c ≡ false
  pub apart : c ≡ m → ⊥
  pub basic : basic_in zs c ≡ basic_in ss c
  pub equation : basic_in ss c ≡ true → ((entry_of d c m).num ≡ pos 0) × ((j : ℕ) → entry_of d c j ≡ entry_of e c j)

pub known_kept : {L : _} {G : _} (d e : Dict L G) (p q : Places) (ss zs : List Status) (m : ℕ) (vs : List Frac) (ks ls : Marks) → columns_of e ≡ columns_of d → ((b c : ℕ) → IsNumber (entry_of d b c)) → IsNumber (place_values p m) → length zs ≡ length ss → ((c : ℕ) → c < length ss → is_marked ls c ≡ false → Stays d e ss zs m ks c) → ((c : ℕ) → c < width_of d + height_of d → basic_of d c ≡ false → (c ≡ m → ⊥) → (w : Values) → Rest e q w → w c ≡ place_values p c) → ((c : ℕ) → length ss ≤ c → is_marked ks c ≡ false → is_marked ls c ≡ false) → length ss ≤ size_of ls → AreKnown d p ss vs ks → AreKnown e q zs vs ls
known_kept d e p q ss zs m vs ks ls size numbers place long stays rests past room k = record {
  are = λ w r c h t.
      let l : c < length ss = omega arith in
      let a = stays c l t in
      let x : Values = λ j. cond (nat_eq j m) (place_values p m) (w j) in
      let here : (j : ℕ) → j ≡ m → x j ≡ place_values p m = λ j f. ap (λ b. cond b (place_values p m) (w j)) (eq-eqb j m f) in
      let other : (j : ℕ) → (j ≡ m → ⊥) → x j ≡ w j = λ j n. ap (λ b. cond b (place_values p m) (w j)) (ne_eqb j m n) in
      let number : (j : ℕ) → IsNumber (x j) = λ j. by_eq j m (λ f. subst IsNumber (sym (here j f)) place) (λ n. subst IsNumber (sym (other j n)) (r.numbers j)) in
      let rest : Rest d p x = record {
        numbers = number;
        values = λ j i f. by_eq j m (λ g. here j g ∙ ap (place_values p) (sym g)) (λ n. other j n ∙ rests j i f n w r);
      } in
      let v = value_reduced vs c in
      subst (λ b. IsColumnValue e w b c (values_in vs c)) (sym a.basic)
      (column_kept d e c m (basic_in ss c) (values_in vs c) x w size (numbers c) a.equation v.0 number r.numbers other a.apart (k.are x rest c l a.known));
  inside = λ c t. by_lt c (length zs) (λ h. h)
      (λ h.
      let n : is_marked ks c ≡ false = not_true (is_marked ks c) (λ i. let l = k.inside c i in omega arith) in
      let f : false ≡ true = sym (past c (omega arith) n) ∙ t in
      absurd (cc));
  room = omega arith;
}

-- the number at a column's place
pub resting_number : (es : List Ends) (ss : List Status) (old : Values) (m : ℕ) → AreResting (ranges_in es) ss old → m < length ss → IsNumber (old m)
resting_number es ss old m rest h = subst IsNumber (sym (rest m h)) (rest-number (ranges_in es m) (status_at ss m) (ranges-numbers es m))

-- nothing is known
pub none_known : {L : _} {G : _} (d : Dict L G) (p : Places) (ss : List Status) (vs : List Frac) (ks : Marks) → ((c : ℕ) → c < length ss → is_marked ks c ≡ true) → ((c : ℕ) → length ss ≤ c → is_marked ks c ≡ false) → length ss ≤ size_of ks → AreKnown d p ss vs ks
none_known d p ss vs ks all past room = record {
  are = λ w r c h t. let f : true ≡ false = sym (all c h) ∙ t in absurd (cc);
  inside = λ c t. by_lt c (length ss) (λ h. h) (λ h. let f : false ≡ true = sym (past c h) ∙ t in absurd (cc));
  room = room;
}

-- one value more is known
pub known_set : {L : _} {G : _} (d : Dict L G) (p : Places) (ss : List Status) (vs : List Frac) (ks ls : Marks) (c : ℕ) (v : Frac) → c < length vs → ((w : Values) → Rest d p w → IsColumnValue d w (basic_in ss c) c (ratio v)) → is_marked ls c ≡ false → ((j : ℕ) → (j ≡ c → ⊥) → is_marked ls j ≡ is_marked ks j) → size_of ls ≡ size_of ks → AreKnown d p ss vs ks → AreKnown d p ss (slice_set vs c v) ls
known_set d p ss vs ks ls c v h is own others size k = record {
  are = λ w r j l t. by_eq j c
      (λ e.
      subst (λ i. IsColumnValue d w (basic_in ss i) i (values_in (slice_set vs c v) i)) (sym e)
      (subst (λ (x : Ratio). IsColumnValue d w (basic_in ss c) c x) (sym (value_set vs c v h)) (is w r)))
      (λ n. subst (λ (x : Ratio). IsColumnValue d w (basic_in ss j) j x) (sym (value_other vs c j v n)) (k.are w r j l (sym (others j n) ∙ t)));
  inside = λ j t. by_eq j c (λ e. let f : false ≡ true = sym own ∙ ap (is_marked ls) (sym e) ∙ t in absurd (cc)) (λ n. k.inside j (sym (others j n) ∙ t));
  room = let l = k.room in omega arith;
}

-- one place more
pub resting_set : (ranges : ℕ → Range) (ss : List Status) (old new : Values) (col : ℕ) (status : Status) → AreResting ranges ss old → col < length ss → new col ≡ rest_at (ranges col) status → ((c : ℕ) → (c ≡ col → ⊥) → new c ≡ old c) → AreResting ranges (slice_set ss col status) new
resting_set ranges ss old new col status rest inside own others = λ c h.
    let l : c < length ss = omega (arith, length-set ss col status) in
    by_eq c col
    (λ e. subst (λ j. new j ≡ rest_at (ranges j) (status_at (slice_set ss col status) j)) (sym e) (own ∙ ap (rest_at (ranges col)) (sym (get_or-set_same ss col status Basic inside))))
    (λ n. others c n ∙ rest c l ∙ ap (rest_at (ranges c)) (sym (get_or-set_other ss col c status Basic n)))

-- an equation that has 0 at the entering column stays
pub equation_stays : {L : _} {G : _} (d e : Dict L G) (b m a : ℕ) → ((x y : ℕ) → IsReduced (entry_of d x y)) → ((entry_of d b m).num ≡ pos 0 → ⊥) → IsPivoted (entry_of d) b m (entry_of e) → (a ≡ b → ⊥) → (a ≡ m → ⊥) → (entry_of d a m).num ≡ pos 0 → (j : ℕ) → entry_of d a j ≡ entry_of e a j
equation_stays d e b m a reduced nonzero made ab am gone j =
    let number : (x y : ℕ) → IsNumber (entry_of d x y) = λ x y. let r = reduced x y in r.0 in
    let z : entry_of d a m ≡ none = reduced_none (entry_of d a m) (reduced a m) (zero_number (entry_of d a m) (number a m) gone).is in
    by_eq j m
    (λ h. ap (entry_of d a) h ∙ z ∙ sym (ap (entry_of e a) h ∙ made.entering a))
    (λ n.
    let s = solved_at (entry_of d) b m j in
    let ps = solved-number (entry_of d) number b m nonzero j in
    let near : sum (entry_of d a j) (product (entry_of d a m) s) ≈ entry_of d a j =
    sum-≈ (≈-refl (number a j)) (zero_times (entry_of d a m) s (number a m) ps gone) ⊙ ≈-from (sum-number (entry_of d a j) none (number a j) none-number) (sum-none (entry_of d a j)) in
    let r = made.reduced a j in
    let same : entry_of e a j ≈ sum (entry_of d a j) (product (entry_of d a m) s) = record { left = r.0; right = near.left; is = made.replaced a j ab am n } in
    let l = same ⊙ near in
    sym (same_reduced (entry_of e a j) (entry_of d a j) (made.reduced a j) (reduced a j) l.is))

module _ {L : _} {G : _} (d : Dict L G) (ss : List Status) (h : AreHeld d ss) (old new : Marks) (m : ℕ) (f : IsForgotten (entry_of d) ss m old new) where
  reduced : (x y : ℕ) → IsReduced (entry_of d x y)
  reduced x y = let k = h.holds.is.entries in k.reduced x y

  number : (x y : ℕ) → IsNumber (entry_of d x y)
  number x y = let r = reduced x y in r.0

  module _ (e : Dict L G) (zs : List Status) (s : Swap) (is : IsSwap ss (entry_of d) s) (w : IsSwapped d e ss zs s) (at : m ≡ s.nonbasic) (p q : Places) (place : IsNumber (place_values p m)) (moved : (c : ℕ) → (c ≡ s.basic → ⊥) → (c ≡ s.nonbasic → ⊥) → place_values q c ≡ place_values p c) where
    pub swap_known : (vs : List Frac) (last : Marks) → is_marked last s.basic ≡ true → ((c : ℕ) → (c ≡ s.basic → ⊥) → is_marked last c ≡ is_marked new c) → length ss ≤ size_of last → AreKnown d p ss vs old → AreKnown e q zs vs last
    swap_known vs last own others room = known_kept d e p q ss zs m vs old last size number place long stays rests past room
      where
        past : (c : ℕ) → length ss ≤ c → is_marked old c ≡ false → is_marked last c ≡ false
        past c l t = others c (λ g. let i = is.basic_inside in omega arith) ∙ f.inside c l t

        size : columns_of e ≡ columns_of d
        size = let z = w.size in let x = z.width in let y = z.height in omega arith

        long : length zs ≡ length ss
        long = ap length w.statuses ∙ length-set (slice_set ss s.basic s.status) s.nonbasic Basic ∙ length-set ss s.basic s.status

        status_stays : (c : ℕ) → (c ≡ s.basic → ⊥) → (c ≡ s.nonbasic → ⊥) → basic_in zs c ≡ basic_in ss c
        status_stays c nb nm = ap (λ (z : List Status). is_basic (status_at z c)) w.statuses ∙ ap is_basic (get_or-set_other (slice_set ss s.basic s.status) s.nonbasic c Basic Basic nm ∙ get_or-set_other ss s.basic c s.status Basic nb)

        stays : (c : ℕ) → c < length ss → is_marked last c ≡ false → Stays d e ss zs m old c
        stays c l t =
            let nb : c ≡ s.basic → ⊥ = λ g. let x : true ≡ false = sym own ∙ ap (is_marked last) (sym g) ∙ t in cc in
            let k : is_marked new c ≡ false = sym (others c nb) ∙ t in
            let nm : c ≡ m → ⊥ = λ g. let x : true ≡ false = sym f.own ∙ ap (is_marked new) (sym g) ∙ k in cc in
            record {
              known = f.less c k;
              apart = nm;
              basic = status_stays c nb (λ g. nm (g ∙ sym at));
              equation = λ b.
                  let z = f.apart c l b k in
                  (z, equation_stays d e s.basic m c reduced (subst (λ j. (entry_of d s.basic j).num ≡ pos 0 → ⊥) (sym at) is.nonzero) (subst (λ j. IsPivoted (entry_of d) s.basic j (entry_of e)) (sym at) w.entries) nb nm z);
            }

        rests : (c : ℕ) → c < width_of d + height_of d → basic_of d c ≡ false → (c ≡ m → ⊥) → (v : Values) → Rest e q v → v c ≡ place_values p c
        rests c l t n v r =
            let x = h.statuses in
            let i : c < length ss = let a = x.count in omega arith in
            let nb : c ≡ s.basic → ⊥ = λ g. let k : true ≡ false = sym is.basic ∙ ap (basic_in ss) (sym g) ∙ x.basic c (omega arith) ∙ t in cc in
            let nm : c ≡ s.nonbasic → ⊥ = λ g. n (g ∙ sym at) in
            let y = w.basic in
            let z = w.size in
            let a = z.width in
            let b = z.height in
            r.values c (omega arith) (sym (y.basic c (omega arith)) ∙ status_stays c nb nm ∙ x.basic c (omega arith) ∙ t) ∙ moved c nb nm

  module _ (x : Flip) (at : m ≡ x.col) (p q : Places) (place : IsNumber (place_values p m)) (moved : (c : ℕ) → (c ≡ x.col → ⊥) → place_values q c ≡ place_values p c) where
    pub flip_known : (vs : List Frac) → length ss ≤ size_of new → AreKnown d p ss vs old → AreKnown d q (slice_set ss x.col x.status) vs new
    flip_known vs room = known_kept d d p q ss (slice_set ss x.col x.status) m vs old new refl number place (length-set ss x.col x.status) stays rests f.inside room
      where
        stays : (c : ℕ) → c < length ss → is_marked new c ≡ false → Stays d d ss (slice_set ss x.col x.status) m old c
        stays c l t =
            let nm : c ≡ m → ⊥ = λ g. let y : true ≡ false = sym f.own ∙ ap (is_marked new) (sym g) ∙ t in cc in
            record {
              known = f.less c t;
              apart = nm;
              basic = ap is_basic (get_or-set_other ss x.col c x.status Basic (λ g. nm (g ∙ sym at)));
              equation = λ b. (f.apart c l b t, (λ j. refl));
            }

        rests : (c : ℕ) → c < width_of d + height_of d → basic_of d c ≡ false → (c ≡ m → ⊥) → (v : Values) → Rest d q v → v c ≡ place_values p c
        rests c l t n v r = r.values c l t ∙ moved c (λ g. n (g ∙ sym at))
