-- Entries that are the sums of what is stored: each stands at a place of something stored, and they are no more than that.
use Rattle.osil_grammar.proofs.Words.{◌≡◌, ◌∙◌, ℕ, suc, ◌+◌, ◌<◌, ◌≤◌, ◌⊎◌, inl, inr, Bool, true, false, cond, ℤ, List, [], ◌∷◌, length, get_or, replicate, refl, ap, sym, subst, arith, unsigned_abs, ◌-ℤ◌, All, cases_Bool, All-nil, All-cons, All-head, All-tail, All-append, All-replicate, Ratio, IsSame, sum, ratio, Entry, IsInside, entry, entries, lines_from, placed, placed_all, place_sum, AreEntriesOf, AreWithin}
use Rattle.evidence.specs.Sums as evidence
use Rattle.evidence.specs.Instance as Of
use Rattle.osil_grammar.proofs.RowEntries.{Rises, rises}
use Rattle.osil_grammar.proofs.Places.{is_at, is_at-own, is_at-same, apart, apart_places, zero_of}

-- something is stored at this place
abbrev Stands : ℕ → ℕ → List Of.Entry → Type 0
Stands i j [] = ⊥
Stands i j (p ∷ l) = (is_at i j p ≡ true) ⊎ Stands i j l

-- else its sum is what it begins with
sum_stands : (l : List Of.Entry) (s : Ratio) (i j : ℕ) → (place_sum s l i j ≡ s) ⊎ Stands i j l
sum_stands [] s i j = inl refl
sum_stands (p ∷ l) s i j =
    elim (cases_Bool (is_at i j p)) [
      | inl on ↦ inr (inl on)
      | inr off ↦ elim (sum_stands l s i j) [
        | inl same ↦ inl (ap (λ (b : Bool). cond b (place_sum (sum s p.value) l i j) (place_sum s l i j)) off ∙ same)
        | inr there ↦ inr (inr there)
      ]
    ]

-- so what stands at an entry's place is its own value
own_values : (es : List Entry) → Rises es → All (λ x. Of.entry_at (entries es) x.row x.col ≡ ratio x.value) es
own_values [] up = All-nil (λ (x : Entry). Of.entry_at (entries []) x.row x.col ≡ ratio x.value)
own_values (e ∷ es) up =
    All-cons (λ (x : Entry). Of.entry_at (entries (e ∷ es)) x.row x.col ≡ ratio x.value) e es
    (ap (λ (b : Bool). cond b (ratio e.value) (Of.entry_at (entries es) e.row e.col)) (is_at-own (entry e)))
    (λ k d h.
    let x : Entry = get_or es k d in
    ap (λ (b : Bool). cond b (ratio e.value) (Of.entry_at (entries es) x.row x.col)) (apart e x (up.0 k d h)) ∙ own_values es up.1 k d h)

all_stand : (l : List Of.Entry) (es : List Entry) → AreEntriesOf l es → All (λ e. Stands e.row e.col l) es
all_stand l es are k d h =
    let e : Entry = get_or es k d in
    let same : IsSame (ratio e.value) (place_sum evidence.none l e.row e.col) = subst (λ (y : Ratio). IsSame y (place_sum evidence.none l e.row e.col)) (own_values es (rises es are.ascending) k d h) (are.sums e.row e.col) in
    elim (sum_stands l evidence.none e.row e.col) [
      | inl nothing ↦ absurd (are.nonzero k d h (zero_of e.value (subst (λ (y : Ratio). IsSame (ratio e.value) y) nothing same)))
      | inr there ↦ there
    ]

-- what is stored elsewhere
without : ℕ → ℕ → List Of.Entry → List Of.Entry
without i j [] = []
without i j (p ∷ l) = cond (is_at i j p) (without i j l) (p ∷ without i j l)

one_more_most : (b : Bool) (p : Of.Entry) (l : List Of.Entry) → length (cond b l (p ∷ l)) ≤ suc (length l)
one_more_most true p l = omega arith
one_more_most false p l = omega arith

fewer_or_same : (i j : ℕ) (l : List Of.Entry) → length (without i j l) ≤ length l
unfolding without
fewer_or_same i j [] = omega arith
fewer_or_same i j (p ∷ l) = let one = one_more_most (is_at i j p) p (without i j l) in let rest = fewer_or_same i j l in omega (arith, one, rest)

fewer : (i j : ℕ) (l : List Of.Entry) → Stands i j l → suc (length (without i j l)) ≤ length l
unfolding without
fewer i j [] h = absurd h
fewer i j (p ∷ l) (inl on) =
    let rest = fewer_or_same i j l in
    let here : length (cond (is_at i j p) (without i j l) (p ∷ without i j l)) ≡ length (without i j l) = ap (λ (b : Bool). length (cond b (without i j l) (p ∷ without i j l))) on in
    omega (arith, here, rest)
fewer i j (p ∷ l) (inr later) = let one = one_more_most (is_at i j p) p (without i j l) in let rest = fewer i j l later in omega (arith, one, rest)

module _ (i j x y : ℕ) (other : i ≡ x → j ≡ y → ⊥) where
  kept_one : (b : Bool) (p : Of.Entry) (l : List Of.Entry) → is_at i j p ≡ b → (is_at x y p ≡ true) ⊎ Stands x y l → Stands x y (cond b l (p ∷ l))
  kept_one true p l on (inl at) = let here = is_at-same i j p on in let there = is_at-same x y p at in absurd (other (sym here.0 ∙ there.0) (sym here.1 ∙ there.1))
  kept_one true p l on (inr later) = later
  kept_one false p l off h = h

  still_stands : (l : List Of.Entry) → Stands x y l → Stands x y (without i j l)
  unfolding without
  still_stands [] h = h
  still_stands (p ∷ l) (inl at) = kept_one (is_at i j p) p (without i j l) refl (inl at)
  still_stands (p ∷ l) (inr later) = kept_one (is_at i j p) p (without i j l) refl (inr (still_stands l later))

no_more : (es : List Entry) (l : List Of.Entry) → Rises es → All (λ e. Stands e.row e.col l) es → length es ≤ length l
no_more [] l up all = omega arith
no_more (e ∷ es) l up all =
    let short = fewer e.row e.col l (All-head (λ (x : Entry). Stands x.row x.col l) e es all) in
    let rest = no_more es (without e.row e.col l) up.1 (λ k d h. let x : Entry = get_or es k d in still_stands e.row e.col x.row x.col (apart_places e x (up.0 k d h)) l (All-tail (λ (z : Entry). Stands z.row z.col l) e es all k d h)) in
    omega (arith, short, rest)

-- places in a matrix of so many rows and columns
abbrev IsPlaced : ℕ → ℕ → Of.Entry → Type 0
IsPlaced rows cols p = (p.row < rows) × (p.variable < cols)

stands_inside : (rows cols : ℕ) (e : Entry) (l : List Of.Entry) → All (IsPlaced rows cols) l → Stands e.row e.col l → (e.row < rows) × (e.col < cols)
stands_inside rows cols e [] all h = absurd h
stands_inside rows cols e (p ∷ l) all (inl at) =
    let same = is_at-same e.row e.col p at in
    let here = All-head (IsPlaced rows cols) p l all in
    (subst (λ (k : ℕ). k < rows) same.0 here.0, subst (λ (k : ℕ). k < cols) same.1 here.1)
stands_inside rows cols e (p ∷ l) all (inr later) = stands_inside rows cols e l (All-tail (IsPlaced rows cols) p l all) later

one_placed : (b : Bool) (line index rows cols : ℕ) (value : Ratio) → line < cond b cols rows → index < cond b rows cols → IsPlaced rows cols (placed b line index value)
one_placed true line index rows cols value at by = (by, at)
one_placed false line index rows cols value at by = (at, by)

all_placed : (b : Bool) (rows cols : ℕ) (lines : List ℕ) (indices : List ℤ) (values : List Ratio) → All (λ k. k < cond b cols rows) lines → All (λ z. unsigned_abs z < cond b rows cols) indices → All (IsPlaced rows cols) (placed_all b lines indices values)
all_placed b rows cols (l ∷ lines) (n ∷ indices) (v ∷ values) at by =
    All-cons (IsPlaced rows cols) (placed b l (unsigned_abs n) v) (placed_all b lines indices values)
    (one_placed b l (unsigned_abs n) rows cols v (All-head (λ (k : ℕ). k < cond b cols rows) l lines at) (All-head (λ (z : ℤ). unsigned_abs z < cond b rows cols) n indices by))
    (all_placed b rows cols lines indices values (All-tail (λ (k : ℕ). k < cond b cols rows) l lines at) (All-tail (λ (z : ℤ). unsigned_abs z < cond b rows cols) n indices by))
all_placed b rows cols lines indices values at by = All-nil (IsPlaced rows cols)

few_placed : (b : Bool) (lines : List ℕ) (indices : List ℤ) (values : List Ratio) → length (placed_all b lines indices values) ≤ length values
few_placed b (l ∷ lines) (n ∷ indices) (v ∷ values) = let rest = few_placed b lines indices values in omega (arith, rest)
few_placed b lines indices values = omega arith

lines_below : (starts : List ℤ) (j n : ℕ) → j + length starts ≤ n + 1 → All (λ k. k < n) (lines_from j starts)
lines_below (a ∷ b ∷ more) j n h =
    All-append (λ (k : ℕ). k < n) (replicate (unsigned_abs (b -ℤ a)) j) (lines_from (j + 1) (b ∷ more)) (All-replicate (λ (k : ℕ). k < n) (unsigned_abs (b -ℤ a)) j (omega (arith, h))) (lines_below (b ∷ more) (j + 1) n (omega (arith, h)))
lines_below starts j n h = All-nil (λ (k : ℕ). k < n)

pub are_within : (b : Bool) (rows cols : ℕ) (starts indices : List ℤ) (values : List Ratio) (es : List Entry) → length starts ≤ cond b cols rows + 1 → All (λ z. unsigned_abs z < cond b rows cols) indices → length values ≤ 100000 → AreEntriesOf (placed_all b (lines_from 0 starts) indices values) es → AreWithin rows cols es
are_within b rows cols starts indices values es lines by few are =
    let l : List Of.Entry = placed_all b (lines_from 0 starts) indices values in
    let stand = all_stand l es are in
    let places : All (IsPlaced rows cols) l = all_placed b rows cols (lines_from 0 starts) indices values (lines_below starts 0 (cond b cols rows) (omega (arith, lines))) by in
    record {
      few = omega (arith, no_more es l (rises es are.ascending) stand, few_placed b (lines_from 0 starts) indices values, few);
      ascending = are.ascending;
      inside = λ k d h. let at = stands_inside rows cols (get_or es k d) l places (stand k d h) in record { row = at.0; col = at.1; nonzero = are.nonzero k d h };
    }

pub nothing_within : (rows cols : ℕ) (es : List Entry) → es ≡ [] → AreWithin rows cols es
nothing_within rows cols es none = subst (AreWithin rows cols) (sym none) (record { few = omega arith; ascending = λ k d h. absurd (omega (arith, h)); inside = All-nil (IsInside rows cols) })
