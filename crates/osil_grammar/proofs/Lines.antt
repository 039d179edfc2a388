-- The stored values line by line.
use Rattle.osil_grammar.proofs.Words.{◌≡◌, ℕ, zero, suc, ◌+◌, ◌-◌, ◌<◌, ◌≤◌, Bool, ℤ, pos, List, [], ◌∷◌, ◌++◌, length, get_or, take, drop, replicate, arith, refl, sym, ◌∙◌, ap, ap₂, subst, unsigned_abs, ◌-ℤ◌, ◌≤ℤ◌, ints, append_assoc, take_more, drop_more, drop_all, drop-drop, length-take-le, length-drop, length-map, take-map, drop-map, get_or-map, Ratio, ratio, ratios, Frac, IsDivision, lines_from, placed, placed_all, wholes, line_entries, AreStored}
use Rattle.evidence.specs.Instance as Of
use Rattle.osil_grammar.specs.declared.entries.Lists.{Lists}

-- the first values are all on one line, and the others come behind them
pub placed_front : (by_columns : Bool) (n j : ℕ) (lines : List ℕ) (indices : List ℤ) (values : List Ratio) → n ≤ length indices → n ≤ length values → placed_all by_columns (replicate n j ++ lines) indices values ≡ placed_all by_columns (replicate n j) (take n indices) (take n values) ++ placed_all by_columns lines (drop n indices) (drop n values)
placed_front by_columns zero j lines indices values p q = refl
placed_front by_columns (suc n) j lines [] values p q = absurd (omega arith)
placed_front by_columns (suc n) j lines (i ∷ indices) [] p q = absurd (omega arith)
placed_front by_columns (suc n) j lines (i ∷ indices) (v ∷ values) p q =
    ap (λ l. placed by_columns j (unsigned_abs i) v ∷ l) (placed_front by_columns n j lines indices values (omega arith) (omega arith))

-- what is stored from line j on
abbrev pub lines_on : Bool → ℕ → List ℕ → List ℕ → List Frac → List Of.Entry
lines_on by_columns j starts indices values = placed_all by_columns (lines_from j (wholes (drop j starts))) (wholes (drop (get_or starts j 0) indices)) (ratios (drop (get_or starts j 0) values))

-- one line more
abbrev pub line_at : Bool → ℕ → List ℕ → List ℕ → List Frac → List Of.Entry
line_at by_columns j starts indices values =
    line_entries by_columns j (take (get_or starts (j + 1) 0 - get_or starts j 0) (drop (get_or starts j 0) indices)) (take (get_or starts (j + 1) 0 - get_or starts j 0) (drop (get_or starts j 0) values))

two_lines : (j : ℕ) (a b : ℕ) (more : List ℕ) → a ≤ b → lines_from j (wholes (a ∷ b ∷ more)) ≡ replicate (b - a) j ++ lines_from (j + 1) (wholes (b ∷ more))
two_lines j a b more h = let e : unsigned_abs (pos b -ℤ pos a) ≡ b - a = omega (arith, ints) in ap (λ n. replicate n j ++ lines_from (j + 1) (wholes (b ∷ more))) e

pub next_line : (by_columns : Bool) (j : ℕ) (starts indices : List ℕ) (values : List Frac) → j + 1 < length starts → get_or starts j 0 ≤ get_or starts (j + 1) 0 → get_or starts (j + 1) 0 ≤ length indices → get_or starts (j + 1) 0 ≤ length values → lines_on by_columns j starts indices values ≡ line_at by_columns j starts indices values ++ lines_on by_columns (j + 1) starts indices values
next_line by_columns j starts indices values inside rise few_indices few_values =
    let a : ℕ = get_or starts j 0 in
    let b : ℕ = get_or starts (j + 1) 0 in
    let n : ℕ = b - a in
    let fronts : drop j starts ≡ a ∷ b ∷ drop (j + 1 + 1) starts = drop_more starts j 0 (omega arith) ∙ ap (λ l. a ∷ l) (drop_more starts (j + 1) 0 inside) in
    let lines : lines_from j (wholes (drop j starts)) ≡ replicate n j ++ lines_from (j + 1) (wholes (drop (j + 1) starts)) =
    ap (λ l. lines_from j (wholes l)) fronts ∙ two_lines j a b (drop (j + 1 + 1) starts) rise ∙ ap (λ l. replicate n j ++ lines_from (j + 1) (wholes l)) (sym (drop_more starts (j + 1) 0 inside)) in
    let is : List ℕ = drop a indices in
    let vs : List Frac = drop a values in
    let many_is : n ≤ length is = omega (arith, length-drop a indices) in
    let many_vs : n ≤ length vs = omega (arith, length-drop a values) in
    let ahead : a + n ≡ b = omega arith in
    let is_on : drop n is ≡ drop b indices = drop-drop n a indices ∙ ap (λ k. drop k indices) ahead in
    let vs_on : drop n vs ≡ drop b values = drop-drop n a values ∙ ap (λ k. drop k values) ahead in
    let front : placed_all by_columns (replicate n j ++ lines_from (j + 1) (wholes (drop (j + 1) starts))) (wholes is) (ratios vs) ≡ placed_all by_columns (replicate n j) (take n (wholes is)) (take n (ratios vs)) ++ placed_all by_columns (lines_from (j + 1) (wholes (drop (j + 1) starts))) (drop n (wholes is)) (drop n (ratios vs)) =
    placed_front by_columns n j (lines_from (j + 1) (wholes (drop (j + 1) starts))) (wholes is) (ratios vs) (omega (arith, length-map is pos)) (omega (arith, length-map vs ratio)) in
    let here : placed_all by_columns (replicate n j) (take n (wholes is)) (take n (ratios vs)) ≡ line_at by_columns j starts indices values =
    ap₂ (λ xs ys. placed_all by_columns (replicate n j) xs ys) (take-map pos n is) (take-map ratio n vs)
    ∙ ap (λ k. placed_all by_columns (replicate k j) (wholes (take n is)) (ratios (take n vs))) (sym (length-take-le n vs many_vs)) in
    let past : placed_all by_columns (lines_from (j + 1) (wholes (drop (j + 1) starts))) (drop n (wholes is)) (drop n (ratios vs)) ≡ lines_on by_columns (j + 1) starts indices values =
    ap₂ (λ xs ys. placed_all by_columns (lines_from (j + 1) (wholes (drop (j + 1) starts))) xs ys) (drop-map pos n is ∙ ap wholes is_on) (drop-map ratio n vs ∙ ap ratios vs_on) in
    ap (λ l. placed_all by_columns l (wholes is) (ratios vs)) lines ∙ front ∙ ap₂ (λ xs ys. xs ++ ys) here past

-- none is left behind the last start
pub last_line : (by_columns : Bool) (j : ℕ) (starts indices : List ℕ) (values : List Frac) → j + 1 ≡ length starts → lines_on by_columns j starts indices values ≡ []
last_line by_columns j starts indices values end =
    ap (λ l. placed_all by_columns (lines_from j (wholes l)) (wholes (drop (get_or starts j 0) indices)) (ratios (drop (get_or starts j 0) values)))
    (drop_more starts j 0 (omega arith) ∙ ap (λ l. get_or starts j 0 ∷ l) (drop_all (j + 1) starts (omega arith)))

-- the starts of a division as numbers from 0 on
pub record Divides (starts : List ℕ) (lines values : ℕ) : Type 0 where
  pub first : get_or starts 0 0 ≡ 0
  pub rising : (k : ℕ) → k + 1 < length starts → get_or starts k 0 ≤ get_or starts (k + 1) 0
  pub last : get_or starts lines 0 ≡ values
  pub one_more : length starts ≡ lines + 1

whole_at : (starts : List ℕ) (k : ℕ) (z : ℤ) → k < length starts → get_or (wholes starts) k z ≡ pos (get_or starts k 0)
whole_at starts k z h = get_or-map pos starts k 0 z h

pub divides : (starts : List ℕ) (lines values : ℕ) → IsDivision (wholes starts) lines values → Divides starts lines values
divides starts lines values d =
    let count : length (wholes starts) ≡ length starts = length-map starts pos in
    let many : length starts ≡ lines + 1 = sym count ∙ d.one_more in
    let first : pos (get_or starts 0 0) ≡ pos 0 = sym (whole_at starts 0 (pos 1) (omega arith)) ∙ d.first in
    let at_end : length (wholes starts) - 1 ≡ lines = omega (arith, d.one_more) in
    let last : pos (get_or starts lines 0) ≡ pos values = sym (whole_at starts lines (pos 0) (omega arith)) ∙ ap (λ k. get_or (wholes starts) k (pos 0)) (sym at_end) ∙ d.last in
    record {
      first = cc;
      rising = λ k h. let up = subst (λ z. z ≤ℤ get_or (wholes starts) (k + 1) (pos 0)) (whole_at starts k (pos 0) (omega arith)) (d.rising k (omega arith)) in let both : pos (get_or starts k 0) ≤ℤ pos (get_or starts (k + 1) 0) = subst (λ z. pos (get_or starts k 0) ≤ℤ z) (whole_at starts (k + 1) (pos 0) h) up in omega (arith, ints);
      last = cc;
      one_more = many;
    }

pub division : (starts : List ℕ) (lines values : ℕ) → Divides starts lines values → IsDivision (wholes starts) lines values
division starts lines values d =
    let count : length (wholes starts) ≡ length starts = length-map starts pos in
    let at_end : length (wholes starts) - 1 ≡ lines = omega (arith, d.one_more) in
    record {
      first = whole_at starts 0 (pos 1) (omega (arith, d.one_more)) ∙ ap pos d.first;
      rising = λ k h.
          let up = d.rising k (omega arith) in
          subst (λ z. z ≤ℤ get_or (wholes starts) (k + 1) (pos 0)) (sym (whole_at starts k (pos 0) (omega arith))) (subst (λ z. pos (get_or starts k 0) ≤ℤ z) (sym (whole_at starts (k + 1) (pos 0) (omega arith))) (let both : pos (get_or starts k 0) ≤ℤ pos (get_or starts (k + 1) 0) = omega (arith, ints) in both));
      last = ap (λ k. get_or (wholes starts) k (pos 0)) at_end ∙ whole_at starts lines (pos 0) (omega (arith, d.one_more)) ∙ ap pos d.last;
      one_more = count ∙ d.one_more;
    }

-- a start is at most the number of values
pub start_within : (starts : List ℕ) (lines values : ℕ) → Divides starts lines values → (n k : ℕ) → k + n ≡ lines → get_or starts k 0 ≤ values
start_within starts lines values d zero k e = let same : k ≡ lines = omega arith in let at_k : get_or starts k 0 ≡ get_or starts lines 0 = ap (λ i. get_or starts i 0) same in omega (arith, d.last)
start_within starts lines values d (suc n) k e =
    let up = d.rising k (omega (arith, d.one_more)) in
    let on = start_within starts lines values d n (k + 1) (omega arith) in
    omega arith

-- one value more on a line
pub line_push : (by_columns : Bool) (j : ℕ) (indices : List ℕ) (values : List Frac) (i : ℕ) (v : Frac) → length indices ≡ length values → line_entries by_columns j (indices ++ i ∷ []) (values ++ v ∷ []) ≡ line_entries by_columns j indices values ++ placed by_columns j i (ratio v) ∷ []
line_push by_columns j [] [] i v e = refl
line_push by_columns j [] (w ∷ values) i v e = absurd (omega arith)
line_push by_columns j (h ∷ indices) [] i v e = absurd (omega arith)
line_push by_columns j (h ∷ indices) (w ∷ values) i v e = ap (λ l. placed by_columns j h (ratio w) ∷ l) (line_push by_columns j indices values i v (omega arith))

pub line_more : (by_columns : Bool) (j : ℕ) (indices : List ℕ) (values : List Frac) (k i : ℕ) (v : Frac) → length indices ≡ length values → k < length values → i ≡ get_or indices k 0 → v ≡ get_or values k v → line_entries by_columns j (take (k + 1) indices) (take (k + 1) values) ≡ line_entries by_columns j (take k indices) (take k values) ++ placed by_columns j i (ratio v) ∷ []
line_more by_columns j indices values k i v many inside is vs =
    ap₂ (λ xs ys. line_entries by_columns j xs ys) (take_more indices k 0 (omega arith) ∙ ap (λ x. take k indices ++ x ∷ []) (sym is)) (take_more values k v inside ∙ ap (λ x. take k values ++ x ∷ []) (sym vs))
    ∙ line_push by_columns j (take k indices) (take k values) i v (length-take-le k indices (omega arith) ∙ sym (length-take-le k values (omega arith)))

-- the line that ends at this start, among lists that are stored
pub record IsLine (s : List ℕ) (line indices values : ℕ) : Type 0 where
  pub rise : get_or s (line - 1) 0 ≤ get_or s line 0
  pub in_indices : get_or s line 0 ≤ indices
  pub in_values : get_or s line 0 ≤ values

pub is_line : (l : Lists) (lines : ℕ) → AreStored l lines → (s : List ℕ) → s ≡ l.starts.items → (line : ℕ) → 1 ≤ line → line < length s → IsLine s line (length l.indices.items) (length l.values.items)
is_line l lines stored s same line some inside =
    let d : Divides s lines (length l.values.items) = subst (λ s. Divides s lines (length l.values.items)) (sym same) (divides l.starts.items lines (length l.values.items) stored.divided) in
    let many = d.one_more in
    let back : line - 1 + 1 ≡ line = omega arith in
    let up : get_or s (line - 1) 0 ≤ get_or s (line - 1 + 1) 0 = d.rising (line - 1) (omega arith) in
    let in_values : get_or s line 0 ≤ length l.values.items = start_within s lines (length l.values.items) d (lines - line) line (omega arith) in
    record { rise = subst (λ k. get_or s (line - 1) 0 ≤ get_or s k 0) back up; in_indices = omega (arith, stored.as_many); in_values = in_values }

-- one line more in a list of entries
pub more_lines : (by_columns : Bool) (line : ℕ) (s starts is indices : List ℕ) (vs values : List Frac) (out new all : List Of.Entry) → s ≡ starts → is ≡ indices → vs ≡ values → 1 ≤ line → line < length s → IsLine s line (length indices) (length values) → new ≡ out ++ line_entries by_columns (line - 1) (take (get_or s line 0 - get_or s (line - 1) 0) (drop (get_or s (line - 1) 0) is)) (take (get_or s line 0 - get_or s (line - 1) 0) (drop (get_or s (line - 1) 0) vs)) → out ++ lines_on by_columns (line - 1) starts indices values ≡ all → new ++ lines_on by_columns (line + 1 - 1) starts indices values ≡ all
more_lines by_columns line s starts is indices vs values out new all same_s same_is same_vs some inside at added so_far =
    let j : ℕ = line - 1 in
    let back : j + 1 ≡ line = omega arith in
    let on : line + 1 - 1 ≡ j + 1 = omega arith in
    let here : line_entries by_columns j (take (get_or s line 0 - get_or s j 0) (drop (get_or s j 0) is)) (take (get_or s line 0 - get_or s j 0) (drop (get_or s j 0) vs)) ≡ line_at by_columns j starts indices values =
    ap (λ k. line_entries by_columns j (take (get_or s k 0 - get_or s j 0) (drop (get_or s j 0) is)) (take (get_or s k 0 - get_or s j 0) (drop (get_or s j 0) vs))) (sym back)
    ∙ ap (λ l. line_entries by_columns j (take (get_or l (j + 1) 0 - get_or l j 0) (drop (get_or l j 0) is)) (take (get_or l (j + 1) 0 - get_or l j 0) (drop (get_or l j 0) vs))) same_s
    ∙ ap₂ (λ xs ys. line_entries by_columns j (take (get_or starts (j + 1) 0 - get_or starts j 0) (drop (get_or starts j 0) xs)) (take (get_or starts (j + 1) 0 - get_or starts j 0) (drop (get_or starts j 0) ys))) same_is same_vs in
    let facts : IsLine starts (j + 1) (length indices) (length values) = subst (λ l. IsLine l (j + 1) (length indices) (length values)) same_s (subst (λ k. IsLine s k (length indices) (length values)) (sym back) at) in
    let rise : get_or starts j 0 ≤ get_or starts (j + 1) 0 = let same : j + 1 - 1 ≡ j = omega arith in subst (λ k. get_or starts k 0 ≤ get_or starts (j + 1) 0) same facts.rise in
    let step = next_line by_columns j starts indices values (subst (λ l. j + 1 < length l) same_s (omega arith)) rise facts.in_indices facts.in_values in
    ap (λ k. new ++ lines_on by_columns k starts indices values) on
    ∙ ap (λ l. l ++ lines_on by_columns (j + 1) starts indices values) (added ∙ ap (λ l. out ++ l) here)
    ∙ append_assoc out (line_at by_columns j starts indices values) (lines_on by_columns (j + 1) starts indices values)
    ∙ ap (λ l. out ++ l) (sym step) ∙ so_far
