-- What an instance's variables, rows and goal are written as is read as these, mark by mark.
use Rattle.osil_grammar.proofs.Words.{◌≡◌, ◌∙◌, ℕ, zero, suc, ◌+◌, ◌/◌, ◌<◌, ◌≤◌, inl, inr, true, ℤ, pos, ◌+ℤ◌, List, [], ◌∷◌, ◌++◌, map, length, get_or, set, refl, ap, sym, subst, arith, Some, None, unsigned_abs, codes, All, div-one, ints, append-nil, append_assoc, length-append, All-head, All-tail, Attribute, Event, Nodes, nodes_events, local_nodes, with_attribute, Mark, Start, Char, Finish, spread, Ratio, IsSame, sum, negative, left_term, right_term, AreFourWithin, SumFits, whole-reduced, sum-none, none-sum, ratio, ratios, Frac, End, NegInf, At, Inf, same_fraction, IsDecimal, SaysEnd, count_once, count_fits, only_inf, only_neg_inf, Var, Row, Sense, Min, Max, AreEnds, IsVar, Parts, TakesMark, AreTaken, Place, IsLess, IsSense, nought, SaysRow, State, into, keeps_text, IsNear, osil, instance_of, HasDecimal, EndHasText, WritesVar, WriteVars, WriteRows, WriteCosts, CountsCosts, var_attributes, sense_text}
use Rattle.std.specs.Fmt.{decimal as digits}
use Rattle.rational.specs.Width.{most}
use Rattle.rational.proofs.CommonDivisors.{one_divides}
use Rattle.evidence.specs.Sums as evidence
use Rattle.fraction.proofs.Sums.{sum_fits}
use Rattle.tag_tests.proofs.Characters.{chars_kept}
use Rattle.tag_tests.proofs.Forms.{taken_both}
use Rattle.osil_grammar.specs.declared.elements.Place.TheVariants as places
use Rattle.osil_grammar.specs.declared.elements.Part.TheVariants as parts
use Rattle.osil_grammar.proofs.EntrySums.{none_fits}
use Rattle.osil_grammar.proofs.EndTagTests.{cost_added}
use Rattle.osil_grammar.proofs.RoundTrips.{plain_decimal, end_bound, count_read}
use Rattle.osil_grammar.proofs.StartTagTests.{no_great_end}
use Rattle.osil_grammar.proofs.VarTags.{var_comes_back}
use Rattle.osil_grammar.proofs.TagNumbers.{bound_read}
use Rattle.osil_grammar.proofs.Zeros.{same_zero}

-- these marks are taken, and lead from this state to one that has said this instance
abbrev pub Reads : State → List Mark → Parts → Type 0
Reads s ms p = (z : State) × AreTaken osil s ms z × (p ≡ instance_of z)

pub read_one : (s m : State) (t : Mark) (ms : List Mark) (p : Parts) → TakesMark osil s t m → Reads m ms p → Reads s (t ∷ ms) p
read_one s m t ms p takes (z, taken, is) = (z, (m, takes, taken), is)

-- characters that are kept
pub read_text : (place : Place) → keeps_text place ≡ true → (s : State) (t before : List ℕ) (ms : List Mark) (p : Parts) → Reads (record s { place = place; text = before ++ t }) ms p → Reads (record s { place = place; text = before }) (map Char t ++ ms) p
read_text place on s t before ms p (z, taken, is) =
    let with : List ℕ → State = λ text. record s { place = place; text = text } in
    (z, taken_both osil (with before) (with (before ++ t)) z (map Char t) ms (chars_kept osil with (keeps_text place) (λ x c. (tt, refl)) before t (before ++ t) on refl) taken, is)

-- VARIABLES
abbrev pub in_vars : State → ℕ → List Var → State
in_vars s n vs = record s { place = places.Part parts.Variables; count = n; vars = vs }

abbrev one_var : State → ℕ → List Var → Var → State
one_var s n before v = record (into (in_vars s n before) places.Var) { vars = before ++ v ∷ [] }

module _ (s : State) (n : ℕ) (before : List Var) (v : Var) (more nodes : Nodes) (is : WritesVar v more nodes) (has : EndHasText v.lb × EndHasText v.ub) (ends : IsVar v) (few : length before + 1 ≤ 1000) where
  var_taken : TakesMark osil (in_vars s n before) (Start (codes "var") (var_attributes v is.lb is.ub)) (one_var s n before v)
  var_taken = let back = var_comes_back (in_vars s n before) v more nodes is has ends few in (back.0, (v, 1, back.1, refl, refl))

  pub read_var : (ms : List Mark) (p : Parts) → Reads (in_vars s (n + 1) (before ++ v ∷ [])) ms p → Reads (in_vars s n before) (Start (codes "var") (var_attributes v is.lb is.ub) ∷ Finish (codes "var") ∷ ms) p
  read_var ms p behind =
      read_one (in_vars s n before) (one_var s n before v) (Start (codes "var") (var_attributes v is.lb is.ub)) (Finish (codes "var") ∷ ms) p var_taken
      (read_one (one_var s n before v) (in_vars s (n + 1) (before ++ v ∷ [])) (Finish (codes "var")) ms p (tt, refl) behind)

pub read_vars : (s : State) (k : List Event) (p : Parts) (vs : List Var) (nodes : Nodes) → All (λ v. EndHasText v.lb × EndHasText v.ub) vs → All IsVar vs → WriteVars vs nodes → (n : ℕ) (before : List Var) → length before + length vs ≤ 1000 → ((m : ℕ) → Reads (in_vars s m (before ++ vs)) (spread k) p) → Reads (in_vars s n before) (spread (nodes_events (local_nodes nodes) k)) p
read_vars s k p [] nodes has ends is n before few behind =
    subst (λ (l : Nodes). Reads (in_vars s n before) (spread (nodes_events (local_nodes l) k)) p) (sym is) (subst (λ (l : List Var). Reads (in_vars s n l) (spread k) p) (append-nil before) (behind n))
read_vars s k p (v ∷ vs) nodes has ends (more, rest, is) n before few behind =
    let here = All-head (λ (x : Var). EndHasText x.lb × EndHasText x.ub) v vs has in
    let longer = length-append before (v ∷ []) in
    let next = read_vars s k p vs more (All-tail (λ (x : Var). EndHasText x.lb × EndHasText x.ub) v vs has) (All-tail IsVar v vs ends) rest (n + 1) (before ++ v ∷ []) (omega (arith, few, longer)) (λ m. subst (λ (l : List Var). Reads (in_vars s m l) (spread k) p) (sym (append_assoc before (v ∷ []) vs)) (behind m)) in
    subst (λ (l : Nodes). Reads (in_vars s n before) (spread (nodes_events (local_nodes l) k)) p) (sym is.says)
    (read_var s n before v more nodes is here (All-head IsVar v vs ends) (omega (arith, few)) (spread (nodes_events (local_nodes more) k)) p next)

-- ROWS, whose constant is 0
abbrev no_constant : Ratio
no_constant = negative evidence.none

parts_fit : (x : Ratio) → unsigned_abs x.num ≤ most → x.den ≤ most → AreFourWithin x no_constant 1 1
parts_fit x num den =
    let whole : x.den / 1 ≡ x.den = div-one x.den in
    let left : left_term x no_constant 1 ≡ x.num = omega (arith, ints) in
    let right : right_term x no_constant 1 ≡ pos 0 = omega (arith, ints) in
    let total : left_term x no_constant 1 +ℤ right_term x no_constant 1 ≡ x.num = omega (arith, ints) in
    record {
      left = subst (λ (z : ℤ). unsigned_abs z ≤ most) (sym left) num;
      right = subst (λ (z : ℤ). unsigned_abs z ≤ most) (sym right) (omega arith);
      total = subst (λ (z : ℤ). unsigned_abs z ≤ most) (sym total) num;
      below = omega (arith, whole, den);
    }

fits_none : (f : Frac) → SumFits (ratio f) no_constant
fits_none f =
    sum_fits (ratio f) no_constant 1 1 (f.above, f.reduced) (whole-reduced (pos 0))
    (one_divides f.denom, one_divides 1, λ d p q. q)
    (one_divides (unsigned_abs (left_term (ratio f) no_constant 1 +ℤ right_term (ratio f) no_constant 1)), one_divides 1, λ d p q. q)
    (parts_fit (ratio f) f.numer_within f.denom_within)

all_near : (x : End) → IsNear x nought
all_near (At f) = fits_none f
all_near x = tt

less_nought : (end : End) → IsLess end nought end
less_nought (At x) = subst (λ (y : Ratio). IsSame (ratio x) y) (sym (sum-none (ratio x))) refl
less_nought end = refl

abbrev pub in_rows : State → ℕ → List Row → State
in_rows s n rs = record s { place = places.Part parts.Constraints; count = n; rows = rs }

abbrev row_attributes : List ℕ → List ℕ → List Attribute
row_attributes lb ub = with_attribute (codes "lb") lb (with_attribute (codes "ub") ub [])

abbrev one_row : State → ℕ → List Row → Row → State
one_row s n before r = record (into (in_rows s n before) places.Con) { rows = before ++ r ∷ [] }

module _ (s : State) (n : ℕ) (before : List Row) (r : Row) (lb ub : List ℕ) (low : SaysEnd lb r.lb) (high : SaysEnd ub r.ub) (ends : AreEnds r.lb r.ub) (few : length before + 1 ≤ 1000) where
  row_taken : TakesMark osil (in_rows s n before) (Start (codes "con") (row_attributes lb ub)) (one_row s n before r)
  row_taken =
      let l = bound_read lb r.lb low in
      let h = bound_read ub r.ub high in
      let as' : List Attribute = row_attributes lb ub in
      let says : SaysRow as' r = record { lb = r.lb; ub = r.ub; constant = nought; low = low; high = high; has_constant = refl; less_low = less_nought r.lb; less_high = less_nought r.ub } in
      let near_low = no_great_end as' (codes "lb") (λ (x : End). x ≡ NegInf) r.lb nought low refl (all_near r.lb) in
      let near_high = no_great_end as' (codes "ub") (λ (x : End). x ≡ Inf) r.ub nought high refl (all_near r.ub) in (
        (λ b. b l.0, (λ b. b h.0, (λ b. b, (λ b. b, (λ w. l.1 w, (λ w. h.1 w, (λ w. w, (λ w. w, (near_low, (near_high, (λ i. ends.0 (only_inf lb r.lb low i), (λ i. ends.1 (only_neg_inf ub r.ub high i), (λ m. let one = m.1 in let many = m.2 in omega (arith, one, many, few), tt))))))))))))),
        (r, 1, says, refl, refl),
      )

  pub read_row : (ms : List Mark) (p : Parts) → Reads (in_rows s (n + 1) (before ++ r ∷ [])) ms p → Reads (in_rows s n before) (Start (codes "con") (row_attributes lb ub) ∷ Finish (codes "con") ∷ ms) p
  read_row ms p behind =
      read_one (in_rows s n before) (one_row s n before r) (Start (codes "con") (row_attributes lb ub)) (Finish (codes "con") ∷ ms) p row_taken
      (read_one (one_row s n before r) (in_rows s (n + 1) (before ++ r ∷ [])) (Finish (codes "con")) ms p (tt, refl) behind)

pub read_rows : (s : State) (k : List Event) (p : Parts) (rs : List Row) (nodes : Nodes) → All (λ r. EndHasText r.lb × EndHasText r.ub) rs → All (λ r. AreEnds r.lb r.ub) rs → WriteRows rs nodes → (n : ℕ) (before : List Row) → length before + length rs ≤ 1000 → ((m : ℕ) → Reads (in_rows s m (before ++ rs)) (spread k) p) → Reads (in_rows s n before) (spread (nodes_events (local_nodes nodes) k)) p
read_rows s k p [] nodes has ends is n before few behind =
    subst (λ (l : Nodes). Reads (in_rows s n before) (spread (nodes_events (local_nodes l) k)) p) (sym is) (subst (λ (l : List Row). Reads (in_rows s n l) (spread k) p) (append-nil before) (behind n))
read_rows s k p (r ∷ rs) nodes has ends (lb, ub, more, low, high, rest, is) n before few behind =
    let here = All-head (λ (x : Row). EndHasText x.lb × EndHasText x.ub) r rs has in
    let longer = length-append before (r ∷ []) in
    let next = read_rows s k p rs more (All-tail (λ (x : Row). EndHasText x.lb × EndHasText x.ub) r rs has) (All-tail (λ (x : Row). AreEnds x.lb x.ub) r rs ends) rest (n + 1) (before ++ r ∷ []) (omega (arith, few, longer)) (λ m. subst (λ (l : List Row). Reads (in_rows s m l) (spread k) p) (sym (append_assoc before (r ∷ []) rs)) (behind m)) in
    subst (λ (l : Nodes). Reads (in_rows s n before) (spread (nodes_events (local_nodes l) k)) p) (sym is)
    (read_row s n before r lb ub (end_bound r.lb lb here.0 low) (end_bound r.ub ub here.1 high) (All-head (λ (x : Row). AreEnds x.lb x.ub) r rs ends) (omega (arith, few)) (spread (nodes_events (local_nodes more) k)) p next)

-- COSTS: those read, and 0 for the variables behind them
abbrev pub zeros : List Frac → List Frac
zeros cs = map (λ (c : Frac). nought) cs

cost_at : (done more : List Frac) (j : ℕ) → length done ≡ j → get_or (ratios (done ++ nought ∷ more)) j evidence.none ≡ evidence.none
cost_at [] more zero size = refl
cost_at [] more (suc j) size = absurd (omega (arith, size))
cost_at (c ∷ done) more zero size = absurd (omega (arith, size))
cost_at (c ∷ done) more (suc j) size = cost_at done more j (omega (arith, size))

cost_set : (done more : List Frac) (x c : Frac) (j : ℕ) → length done ≡ j → set (done ++ x ∷ more) j c ≡ done ++ c ∷ more
cost_set [] more x c zero size = refl
cost_set [] more x c (suc j) size = absurd (omega (arith, size))
cost_set (d ∷ done) more x c zero size = absurd (omega (arith, size))
cost_set (d ∷ done) more x c (suc j) size = ap (λ (l : List Frac). d ∷ l) (cost_set done more x c j (omega (arith, size)))

pub no_cost : (c : Frac) → c.numer ≡ pos 0 → c ≡ nought
no_cost c is = same_fraction c nought (same_zero c.numer c.denom is)

abbrev pub in_obj : State → (n m i : ℕ) → (text : List ℕ) → List Frac → State
in_obj s n m i text costs = record s { place = places.Obj; count = n; coefs = m; variable = i; text = text; costs = costs }

abbrev coef_attributes : ℕ → List Attribute
coef_attributes j = with_attribute (codes "idx") (digits j) []

module _ (s : State) (n m i j : ℕ) (old text : List ℕ) (done more : List Frac) (c : Frac) (size : length done ≡ j) (less : j < length s.vars) (small : j ≤ 100000) (reads : IsDecimal text (ratio c)) where
  abbrev begun : List ℕ → State
  begun t = record (into (in_obj s n m i old (done ++ nought ∷ more)) places.Coef) { coefs = m + 1; variable = j; text = t }

  coef_taken : TakesMark osil (in_obj s n m i old (done ++ nought ∷ more)) (Start (codes "coef") (coef_attributes j)) (begun [])
  coef_taken =
      let is = count_read j small in (
        (λ none. let clash : Some (digits j) ≡ None = none in absurd (cc), (λ h. h, (λ h. h, (λ b. b (j, is.0), (λ w. count_fits (digits j) j is w, (λ h. let same = count_once (digits j) h.0 j h.1 is in let out = h.2 in omega (arith, same, out, less), tt)))))),
        (j, is, refl),
      )

  cost_taken : TakesMark osil (begun text) (Finish (codes "coef")) (in_obj s (n + 1) (m + 1) j text (done ++ c ∷ more))
  cost_taken =
      let at = cost_at done more j size in
      cost_added (begun text) c c (done ++ c ∷ more) reads (sym (cost_set done more nought c j size))
      (subst (λ (x : Ratio). IsSame (ratio c) (sum x (ratio c))) (sym at) (subst (λ (x : Ratio). IsSame (ratio c) x) (sym (none-sum (ratio c))) refl))
      (subst (λ (x : Ratio). SumFits x (ratio c)) (sym at) (none_fits c)) (codes "coef")

  pub read_cost : (ms : List Mark) (p : Parts) → Reads (in_obj s (n + 1) (m + 1) j text (done ++ c ∷ more)) ms p → Reads (in_obj s n m i old (done ++ nought ∷ more)) (Start (codes "coef") (coef_attributes j) ∷ (map Char text ++ Finish (codes "coef") ∷ ms)) p
  read_cost ms p behind =
      let last : List Mark = Finish (codes "coef") ∷ ms in
      read_one (in_obj s n m i old (done ++ nought ∷ more)) (begun []) (Start (codes "coef") (coef_attributes j)) (map Char text ++ last) p coef_taken
      (read_text places.Coef refl (begun []) text [] last p (read_one (begun text) (in_obj s (n + 1) (m + 1) j text (done ++ c ∷ more)) (Finish (codes "coef")) ms p cost_taken behind))

-- one cost more is done
done_more : (done cs : List Frac) (c : Frac) → (done ++ c ∷ []) ++ cs ≡ done ++ c ∷ cs
done_more done cs c = append_assoc done (c ∷ []) cs

pub read_costs : (s : State) (k : List Event) (p : Parts) (cs : List Frac) (nodes : Nodes) (count j : ℕ) → All HasDecimal cs → WriteCosts j cs nodes → CountsCosts cs count → j + length cs ≤ length s.vars → length s.vars ≤ 1000 → (n m i : ℕ) (old : List ℕ) (done : List Frac) → length done ≡ j → ((n i : ℕ) (old : List ℕ) → Reads (in_obj s n (m + count) i old (done ++ cs)) (spread k) p) → Reads (in_obj s n m i old (done ++ zeros cs)) (spread (nodes_events (local_nodes nodes) k)) p
read_costs s k p [] nodes count j has is counts fit few n m i old done size behind =
    let same : m + count ≡ m = omega (arith, counts) in
    subst (λ (l : Nodes). Reads (in_obj s n m i old (done ++ [])) (spread (nodes_events (local_nodes l) k)) p) (sym is) (subst (λ (x : ℕ). Reads (in_obj s n x i old (done ++ [])) (spread k) p) same (behind n i old))
read_costs s k p (c ∷ cs) nodes count j has (inl is) (inr counts) fit few n m i old done size behind = absurd (counts.0 is.0)
read_costs s k p (c ∷ cs) nodes count j has (inr is) (inl counts) fit few n m i old done size behind = absurd (is.0 counts.0)
read_costs s k p (c ∷ cs) nodes count j has (inl is) (inl counts) fit few n m i old done size behind =
    let longer = length-append done (nought ∷ []) in
    let here : (done ++ nought ∷ []) ++ cs ≡ done ++ c ∷ cs = done_more done cs nought ∙ ap (λ (x : Frac). done ++ x ∷ cs) (sym (no_cost c is.0)) in
    let next = read_costs s k p cs nodes count (j + 1) (All-tail HasDecimal c cs has) is.1 counts.1 (omega (arith, fit)) few n m i old (done ++ nought ∷ []) (omega (arith, size, longer)) (λ n i old. subst (λ (l : List Frac). Reads (in_obj s n (m + count) i old l) (spread k) p) (sym here) (behind n i old)) in
    subst (λ (l : List Frac). Reads (in_obj s n m i old l) (spread (nodes_events (local_nodes nodes) k)) p) (done_more done (zeros cs) nought) next
read_costs s k p (c ∷ cs) nodes count j has (inr (some, text, more, plain, rest, is)) (inr (other, one_less, counts, one)) fit few n m i old done size behind =
    let longer = length-append done (c ∷ []) in
    let up : m + 1 + one_less ≡ m + count = omega (arith, one) in
    let next = read_costs s k p cs more one_less (j + 1) (All-tail HasDecimal c cs has) rest counts (omega (arith, fit)) few (n + 1) (m + 1) j text (done ++ c ∷ []) (omega (arith, size, longer))
    (λ n i old. subst (λ (l : List Frac). Reads (in_obj s n (m + 1 + one_less) i old l) (spread k) p) (sym (done_more done cs c)) (subst (λ (x : ℕ). Reads (in_obj s n x i old (done ++ c ∷ cs)) (spread k) p) (sym up) (behind n i old))) in
    subst (λ (l : Nodes). Reads (in_obj s n m i old (done ++ nought ∷ zeros cs)) (spread (nodes_events (local_nodes l) k)) p) (sym is)
    (read_cost s n m i j old text done (zeros cs) c size (omega (arith, fit)) (omega (arith, fit, few)) (plain_decimal c text plain (All-head HasDecimal c cs has)) (spread (nodes_events (local_nodes more) k)) p
    (subst (λ (l : List Frac). Reads (in_obj s (n + 1) (m + 1) j text l) (spread (nodes_events (local_nodes more) k)) p) (done_more done (zeros cs) c) next))

pub sense_said : (x : Sense) → IsSense (sense_text x) x
sense_said Min = refl
sense_said Max = refl
