-- Entries and the sums at their places: one entry more, and the entries of one place alone.
use Rattle.osil_grammar.proofs.Words.{◌≡◌, ℕ, pos, arith, ints, Frac, IsBefore, IsSame, Bool, true, false, nat_eq, cond, List, [], ◌∷◌, ◌++◌, refl, sym, ◌∙◌, ap, subst, ⊎_elim, inl, inr, ◌&&◌, ◌⊎◌, All, filter, cases_Bool, and_from, and_parts, eq-eqb, eqb-true, All-head, All-tail, Ratio, sum, IsNumber, SumFits, sum-number, ratio, Entry, entry, entries, place_sum, HasWidePlace}
use Rattle.evidence.specs.Sums as evidence
use Rattle.evidence.specs.Instance as Of

abbrev pub is_at : ℕ → ℕ → Of.Entry → Bool
is_at i j e = nat_eq e.row i && nat_eq e.variable j

-- an entry at another place changes nothing, and the one entry of a place is what stands there
pub entry_at-push_other : (es : List Of.Entry) (x : Of.Entry) (i j : ℕ) → is_at i j x ≡ false → Of.entry_at (es ++ x ∷ []) i j ≡ Of.entry_at es i j
entry_at-push_other [] x i j off = ap (λ b. cond b x.value evidence.none) off
entry_at-push_other (e ∷ es) x i j off = ap (λ v. cond (is_at i j e) e.value v) (entry_at-push_other es x i j off)

pub entry_at-push_here : (es : List Of.Entry) (x : Of.Entry) (i j : ℕ) → All (λ e. is_at i j e ≡ false) es → is_at i j x ≡ true → Of.entry_at (es ++ x ∷ []) i j ≡ x.value
entry_at-push_here [] x i j none on = ap (λ b. cond b x.value evidence.none) on
entry_at-push_here (e ∷ es) x i j none on =
    ap (λ b. cond b e.value (Of.entry_at (es ++ x ∷ []) i j)) (All-head (λ e. is_at i j e ≡ false) e es none) ∙ entry_at-push_here es x i j (All-tail (λ e. is_at i j e ≡ false) e es none) on

pub entry_at-nowhere : (es : List Of.Entry) (i j : ℕ) → All (λ e. is_at i j e ≡ false) es → Of.entry_at es i j ≡ evidence.none
entry_at-nowhere [] i j none = refl
entry_at-nowhere (e ∷ es) i j none =
    ap (λ b. cond b e.value (Of.entry_at es i j)) (All-head (λ e. is_at i j e ≡ false) e es none) ∙ entry_at-nowhere es i j (All-tail (λ e. is_at i j e ≡ false) e es none)

-- the sum at a place with one entry more
pub chosen : (b c : Bool) (x y z w v : Ratio) → x ≡ cond c (sum z v) z → y ≡ cond c (sum w v) w → cond b x y ≡ cond c (sum (cond b z w) v) (cond b z w)
chosen true c x y z w v p q = p
chosen false c x y z w v p q = q

pub place_sum-push : (start : Ratio) (es : List Of.Entry) (x : Of.Entry) (i j : ℕ) → place_sum start (es ++ x ∷ []) i j ≡ cond (is_at i j x) (sum (place_sum start es i j) x.value) (place_sum start es i j)
place_sum-push start [] x i j = refl
place_sum-push start (e ∷ es) x i j =
    chosen (is_at i j e) (is_at i j x) (place_sum (sum start e.value) (es ++ x ∷ []) i j) (place_sum start (es ++ x ∷ []) i j) (place_sum (sum start e.value) es i j) (place_sum start es i j) x.value (place_sum-push (sum start e.value) es x i j) (place_sum-push start es x i j)

-- sums of fractions are numbers
pub number_either : (b : Bool) (x y : Ratio) → IsNumber x → IsNumber y → IsNumber (cond b x y)
number_either true x y p q = p
number_either false x y p q = q

pub place_sum-number : (start : Ratio) (es : List Entry) (i j : ℕ) → IsNumber start → IsNumber (place_sum start (entries es) i j)
place_sum-number start [] i j n = n
place_sum-number start (e ∷ es) i j n =
    number_either (is_at i j (entry e)) (place_sum (sum start (ratio e.value)) (entries es) i j) (place_sum start (entries es) i j) (place_sum-number (sum start (ratio e.value)) es i j (sum-number start (ratio e.value) n e.value.above)) (place_sum-number start es i j n)

-- some sum at this place, taken from a start on, doesn't fit
abbrev WideOr : Bool → Ratio → Ratio → Type 0 → Type 0 → Type 0
WideOr true start value here past = (SumFits start value → ⊥) ⊎ here
WideOr false start value here past = past

abbrev pub IsWideFrom : Ratio → List Of.Entry → ℕ → ℕ → Type 0
IsWideFrom start [] i j = ⊥
IsWideFrom start (e ∷ more) i j = WideOr (is_at i j e) start e.value (IsWideFrom (sum start e.value) more i j) (IsWideFrom start more i j)

-- it is so with one entry more only where it was so before, or where this one's sum doesn't fit
wide_step : (b : Bool) (start value : Ratio) (A B C D : Type 0) (W : Ratio → Type 0) (x y : Ratio) → (A → C ⊎ W x) → (B → D ⊎ W y) → WideOr b start value A B → WideOr b start value C D ⊎ W (cond b x y)
wide_step true start value A B C D W x y p q h = ⊎_elim (λ w. inl (inl w)) (λ a. ⊎_elim (λ c. inl (inr c)) (λ w. inr w) (p a)) h
wide_step false start value A B C D W x y p q h = q h

last_wide : (b : Bool) (start value : Ratio) → WideOr b start value ⊥ ⊥ → ⊥ ⊎ ((b ≡ true) × (SumFits start value → ⊥))
last_wide true start value h = ⊎_elim (λ w. inr (refl, w)) (λ e. absurd e) h
last_wide false start value h = absurd h

pub wide_push : (start : Ratio) (es : List Of.Entry) (x : Of.Entry) (i j : ℕ) → IsWideFrom start (es ++ x ∷ []) i j → IsWideFrom start es i j ⊎ ((is_at i j x ≡ true) × (SumFits (place_sum start es i j) x.value → ⊥))
wide_push start [] x i j h = last_wide (is_at i j x) start x.value h
wide_push start (e ∷ es) x i j h =
    wide_step (is_at i j e) start e.value (IsWideFrom (sum start e.value) (es ++ x ∷ []) i j) (IsWideFrom start (es ++ x ∷ []) i j) (IsWideFrom (sum start e.value) es i j) (IsWideFrom start es i j) (λ s. (is_at i j x ≡ true) × (SumFits s x.value → ⊥)) (place_sum (sum start e.value) es i j) (place_sum start es i j) (wide_push (sum start e.value) es x i j) (wide_push start es x i j) h

-- where a sum doesn't fit at an entry, it is so at its place, and the other way round
wide_in : (b : Bool) (start value x y : Ratio) (A B : Type 0) (W : Ratio → Type 0) → (W x → A) → (W y → B) → W (cond b x y) → WideOr b start value A B
wide_in true start value x y A B W p q w = inr (p w)
wide_in false start value x y A B W p q w = q w

wide_here : (b : Bool) (start value : Ratio) (A B : Type 0) → b ≡ true → (SumFits start value → ⊥) → WideOr b start value A B
wide_here b start value A B on wide = subst (λ c. WideOr c start value A B) (sym on) (inl wide)

pub wide_at : (start : Ratio) (before : List Of.Entry) (x : Of.Entry) (after : List Of.Entry) (i j : ℕ) → is_at i j x ≡ true → (SumFits (place_sum start before i j) x.value → ⊥) → IsWideFrom start (before ++ x ∷ after) i j
wide_at start [] x after i j on wide = wide_here (is_at i j x) start x.value (IsWideFrom (sum start x.value) after i j) (IsWideFrom start after i j) on wide
wide_at start (e ∷ before) x after i j on wide =
    wide_in (is_at i j e) start e.value (place_sum (sum start e.value) before i j) (place_sum start before i j) (IsWideFrom (sum start e.value) (before ++ x ∷ after) i j) (IsWideFrom start (before ++ x ∷ after) i j) (λ s. SumFits s x.value → ⊥) (wide_at (sum start e.value) before x after i j on) (wide_at start before x after i j on) wide

pub record IsWideAt (start : Ratio) (l : List Of.Entry) (i j : ℕ) : Type 0 where
  pub before : List Of.Entry
  pub entry : Of.Entry
  pub after : List Of.Entry
  pub split : l ≡ before ++ entry ∷ after
  pub here : is_at i j entry ≡ true
  pub wide : SumFits (place_sum start before i j) entry.value → ⊥

wide_behind : (start : Ratio) (e : Of.Entry) (l : List Of.Entry) (i j : ℕ) (next : Ratio) → ((before : List Of.Entry) → place_sum start (e ∷ before) i j ≡ place_sum next before i j) → IsWideAt next l i j → IsWideAt start (e ∷ l) i j
wide_behind start e l i j next same w = record {
  before = e ∷ w.before;
  entry = w.entry;
  after = w.after;
  split = ap (λ l. e ∷ l) w.split;
  here = w.here;
  wide = λ fits. w.wide (subst (λ s. SumFits s w.entry.value) (same w.before) fits);
}

pub wide_split : (start : Ratio) (l : List Of.Entry) (i j : ℕ) → IsWideFrom start l i j → IsWideAt start l i j
wide_split start [] i j h = absurd h
wide_split start (e ∷ l) i j h =
    let A : Type 0 = IsWideFrom (sum start e.value) l i j in
    let B : Type 0 = IsWideFrom start l i j in
    ⊎_elim
    (λ on. ⊎_elim
    (λ w. record { before = []; entry = e; after = l; split = refl; here = on; wide = w })
    (λ more. wide_behind start e l i j (sum start e.value) (λ before. ap (λ b. cond b (place_sum (sum start e.value) before i j) (place_sum start before i j)) on) (wide_split (sum start e.value) l i j more))
    (subst (λ b. WideOr b start e.value A B) on h))
    (λ off. wide_behind start e l i j start (λ before. ap (λ b. cond b (place_sum (sum start e.value) before i j) (place_sum start before i j)) off) (wide_split start l i j (subst (λ b. WideOr b start e.value A B) off h)))
    (cases_Bool (is_at i j e))

pub is_at-own : (e : Of.Entry) → is_at e.row e.variable e ≡ true
is_at-own e = and_from (nat_eq e.row e.row) (nat_eq e.variable e.variable) (eq-eqb e.row e.row refl) (eq-eqb e.variable e.variable refl)

pub is_at-same : (i j : ℕ) (e : Of.Entry) → is_at i j e ≡ true → (e.row ≡ i) × (e.variable ≡ j)
is_at-same i j e on =
    let parts = and_parts (nat_eq e.row i) (nat_eq e.variable j) on in
    (eqb-true e.row i parts.0, eqb-true e.variable j parts.1)

-- what stands at a place stands at no other
at_one_place : (i j : ℕ) (a b : Entry) → (a.row ≡ b.row → a.col ≡ b.col → ⊥) → is_at i j (entry a) ≡ true → is_at i j (entry b) ≡ false
at_one_place i j a b other on =
    ⊎_elim
    (λ at. let p = is_at-same i j (entry a) on in let q = is_at-same i j (entry b) at in absurd (other (p.0 ∙ sym q.0) (p.1 ∙ sym q.1)))
    (λ off. off)
    (cases_Bool (is_at i j (entry b)))

-- an entry that rises above another stands elsewhere
pub apart_places : (a b : Entry) → IsBefore a b → a.row ≡ b.row → a.col ≡ b.col → ⊥
apart_places a b h row col = ⊎_elim (λ l. omega (arith, l, row)) (λ p. let l = p.1 in omega (arith, l, col)) h

pub behind : (i j : ℕ) (a b : Entry) → is_at i j (entry a) ≡ true → IsBefore a b → is_at i j (entry b) ≡ false
behind i j a b on h = at_one_place i j a b (apart_places a b h) on

pub apart : (a b : Entry) → IsBefore a b → is_at b.row b.col (entry a) ≡ false
apart a b h = at_one_place b.row b.col b a (λ row col. apart_places a b h (sym row) (sym col)) (is_at-own (entry b))

-- a fraction of 0
pub zero_of : (x : Frac) → IsSame (ratio x) evidence.none → x.numer ≡ pos 0
zero_of x same = omega (arith, ints, same)

pub wide_from_place : (l : List Of.Entry) → (w : HasWidePlace l) → IsWideFrom evidence.none l w.entry.row w.entry.variable
wide_from_place l w = subst (λ l. IsWideFrom evidence.none l w.entry.row w.entry.variable) (sym w.split) (wide_at evidence.none w.before w.entry w.after w.entry.row w.entry.variable (is_at-own w.entry) w.wide)

pub place_from_wide : (l : List Of.Entry) (i j : ℕ) → IsWideFrom evidence.none l i j → HasWidePlace l
place_from_wide l i j h =
    let w = wide_split evidence.none l i j h in
    let same = is_at-same i j w.entry w.here in
    record { before = w.before; entry = w.entry; after = w.after; split = w.split; wide = λ fits. w.wide (subst (λ k. SumFits (place_sum evidence.none w.before i k) w.entry.value) same.1 (subst (λ k. SumFits (place_sum evidence.none w.before k w.entry.variable) w.entry.value) same.0 fits)) }

-- the entries of one place alone have its sum
module _ (test : Entry → Bool) (i j : ℕ) (tells : (e : Entry) → test e ≡ is_at i j (entry e)) where
  pub place_sum-filter : (start : Ratio) (es : List Entry) → place_sum start (entries (filter test es)) i j ≡ place_sum start (entries es) i j
  place_sum-filter start [] = refl
  place_sum-filter start (e ∷ es) =
      let kept : List Entry = filter test es in
      let next : Ratio = sum start (ratio e.value) in
      ⊎_elim
      (λ on. let here : is_at i j (entry e) ≡ true = sym (tells e) ∙ on in
      ap (λ b. place_sum start (entries (cond b (e ∷ kept) kept)) i j) on
      ∙ ap (λ b. cond b (place_sum next (entries kept) i j) (place_sum start (entries kept) i j)) here
      ∙ place_sum-filter next es
      ∙ sym (ap (λ b. cond b (place_sum next (entries es) i j) (place_sum start (entries es) i j)) here))
      (λ off. let here : is_at i j (entry e) ≡ false = sym (tells e) ∙ off in
      ap (λ b. place_sum start (entries (cond b (e ∷ kept) kept)) i j) off
      ∙ place_sum-filter start es
      ∙ sym (ap (λ b. cond b (place_sum next (entries es) i j) (place_sum start (entries es) i j)) here))
      (cases_Bool (test e))

  pub wide_filter : (start : Ratio) (es : List Entry) → IsWideFrom start (entries (filter test es)) i j ≡ IsWideFrom start (entries es) i j
  wide_filter start [] = refl
  wide_filter start (e ∷ es) =
      let kept : List Entry = filter test es in
      let next : Ratio = sum start (ratio e.value) in
      ⊎_elim
      (λ on. let here : is_at i j (entry e) ≡ true = sym (tells e) ∙ on in
      ap (λ b. IsWideFrom start (entries (cond b (e ∷ kept) kept)) i j) on
      ∙ ap (λ b. WideOr b start (ratio e.value) (IsWideFrom next (entries kept) i j) (IsWideFrom start (entries kept) i j)) here
      ∙ ap (λ W. (SumFits start (ratio e.value) → ⊥) ⊎ W) (wide_filter next es)
      ∙ sym (ap (λ b. WideOr b start (ratio e.value) (IsWideFrom next (entries es) i j) (IsWideFrom start (entries es) i j)) here))
      (λ off. let here : is_at i j (entry e) ≡ false = sym (tells e) ∙ off in
      ap (λ b. IsWideFrom start (entries (cond b (e ∷ kept) kept)) i j) off
      ∙ wide_filter start es
      ∙ sym (ap (λ b. WideOr b start (ratio e.value) (IsWideFrom next (entries es) i j) (IsWideFrom start (entries es) i j)) here))
      (cases_Bool (test e))
