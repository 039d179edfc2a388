-- What start tags and texts say is one thing, so a mark that is taken leaves one state.
use Rattle.osil_grammar.proofs.Words.{◌≡◌, ◌∙◌, ◌+◌, ℕ, zero, suc, inl, inr, ℤ, pos, cond, List, [], ◌∷◌, ◌++◌, map, length, get_or, set, replicate, refl, ap, sym, subst, arith, lit<, ◌||◌, Option, bytes_eq, codes, Attribute, Mark, Char, Ratio, IsNumber, IsSame, sum, negative, sum-number, Frac, End, NegInf, At, Inf, Entry, ratio, ratios, SaysEnd, IsCount, IsWholeText, IsDecimal, count_once, whole_once, value_of, Row, Sense, Min, Max, LeavesOne, Listing, Place, whole_run, ratio_run, AreSame, IsLess, IsSense, nought, SaysStep, SaysWholeStep, SaysRow, SaysSense, State, Kind, begins, text, ends, kind, attributes, count_name, part_row, into, out_of, is_variables, SaysRun, Begins, PassesOn, AddsWholes, AddsRun, AddsCost, Ends, Leaves, osil}
use Rattle.evidence.specs.Sums as evidence
use Rattle.document_tags.proofs.SomeAnd.{some_once}
use Rattle.instance.specs.declared.parts.Var.{Var as Variable}
use Rattle.osil_grammar.specs.declared.elements.Part.TheVariants as parts
use Rattle.osil_grammar.specs.declared.elements.Listing.TheVariants as listings
use Rattle.osil_grammar.specs.declared.elements.Place.TheVariants as places
use Rattle.osil_grammar.specs.declared.elements.Led.TheVariants as led
use Rattle.osil_grammar.proofs.TagNumbers.{decimal_once, frac_once, bound_once, end_at_once}
use Rattle.osil_grammar.proofs.StartTagTests.{said_once, times_once, count_said_once, constant_once}
use Rattle.osil_grammar.proofs.VarTags.{var_once}
use Rattle.osil_grammar.proofs.OneEntries.{matrix_once}

-- a row
same_row : (r s : Row) → r.lb ≡ s.lb → r.ub ≡ s.ub → r ≡ s
same_row r s a b =
    let low : r ≡ record { lb = s.lb; ub = r.ub } = ap (λ (x : End). record { lb = x; ub = r.ub }) a in
    low ∙ ap (λ (x : End). record { lb = s.lb; ub = x }) b

less_once : (end : End) (c : Frac) (x y : End) → IsLess end c x → IsLess end c y → x ≡ y
less_once NegInf c x y a b = a ∙ sym b
less_once (At f) c x y a b = end_at_once (sum (ratio f) (negative (ratio c))) (sum-number (ratio f) (negative (ratio c)) f.above c.above) x y a b
less_once Inf c x y a b = a ∙ sym b

less_same : (end other : End) (c d : Frac) (x y : End) → end ≡ other → c ≡ d → IsLess end c x → IsLess other d y → x ≡ y
less_same end other c d x y p q a b = less_once other d x y (subst (λ (z : Frac). IsLess other z x) q (subst (λ (z : End). IsLess z c x) p a)) b

row_once : (as' : List Attribute) (r s : Row) → SaysRow as' r → SaysRow as' s → r ≡ s
row_once as' r s a b =
    let low = said_once as' (codes "lb") NegInf SaysEnd bound_once a.lb b.lb a.low b.low in
    let high = said_once as' (codes "ub") Inf SaysEnd bound_once a.ub b.ub a.high b.high in
    let constant = constant_once as' a.constant b.constant a.has_constant b.has_constant in
    same_row r s (less_same a.lb b.lb a.constant b.constant r.lb s.lb low constant a.less_low b.less_low) (less_same a.ub b.ub a.constant b.constant r.ub s.ub high constant a.less_high b.less_high)

-- an objective
abbrev sense_read : List ℕ → Sense
sense_read t = cond (bytes_eq t (codes "min")) Min Max

sense_is : (t : List ℕ) (x : Sense) → IsSense t x → sense_read t ≡ x
sense_is t Min a = ap sense_read a
sense_is t Max a = ap sense_read a

sense_once : (t : List ℕ) (x y : Sense) → IsSense t x → IsSense t y → x ≡ y
sense_once t x y a b = sym (sense_is t x a) ∙ sense_is t y b

sense_said_once : (as' : List Attribute) (x y : Sense) → SaysSense as' x → SaysSense as' y → x ≡ y
sense_said_once as' x y a b = said_once as' (codes "maxOrMin") Min IsSense sense_once x y a b

step_once : (as' : List Attribute) (x y : Frac) → SaysStep as' x → SaysStep as' y → x ≡ y
step_once as' x y a b = said_once as' (codes "incr") nought (λ t z. IsDecimal t (ratio z)) decimal_once x y a b

whole_step_once : (as' : List Attribute) (x y : ℤ) → SaysWholeStep as' x → SaysWholeStep as' y → x ≡ y
whole_step_once as' x y a b = said_once as' (codes "incr") (pos 0) IsWholeText whole_once x y a b

-- two states that differ in what is one thing
run_once : (l : Listing) (as' : List Attribute) (s a b : State) → SaysRun l as' s a → SaysRun l as' s b → a ≡ b
run_once listings.Values as' s a b (m, d, t, u, e) (n, c, v, w, f) =
    e ∙ ap (λ (k : ℕ). let z : State = record s { times = k; step = d; text = [] } in z) (times_once as' m n t v) ∙ ap (λ (x : Frac). let z : State = record s { times = n; step = x; text = [] } in z) (step_once as' d c u w) ∙ sym f
run_once l as' s a b (m, d, t, u, e) (n, c, v, w, f) =
    e ∙ ap (λ (k : ℕ). let z : State = record s { times = k; whole_step = d; text = [] } in z) (times_once as' m n t v) ∙ ap (λ (x : ℤ). let z : State = record s { times = n; whole_step = x; text = [] } in z) (whole_step_once as' d c u w) ∙ sym f

-- a cost of 0 for each variable
abbrev none_each : State → List Frac
none_each s = replicate (length s.vars) nought

begins_once : (s : State) (m : Mark) (p : Place) (a b : State) → Begins s m p a → Begins s m p b → a ≡ b
begins_once s m (places.Part part) a b (d, x, e) (c, y, f) =
    e ∙ ap (λ (k : Option ℕ). let z : State = record (into s (places.Part part)) { part_at = s.count + 1; part = part_row part; has_variables = is_variables part || s.has_variables; declared = k } in z) (count_said_once (attributes m) (count_name part) d c x y) ∙ sym f
begins_once s m places.Var a b (v, i, x, t, e) (w, j, y, u, f) =
    e ∙ ap (λ (k : Variable). let z : State = record (into s places.Var) { vars = s.vars ++ replicate i k } in z) (var_once (attributes m) v w x y)
    ∙ ap (λ (k : ℕ). let z : State = record (into s places.Var) { vars = s.vars ++ replicate k w } in z) (times_once (attributes m) i j t u) ∙ sym f
begins_once s m places.Con a b (r, i, x, t, e) (q, j, y, u, f) =
    e ∙ ap (λ (k : Row). let z : State = record (into s places.Con) { rows = s.rows ++ replicate i k } in z) (row_once (attributes m) r q x y)
    ∙ ap (λ (k : ℕ). let z : State = record (into s places.Con) { rows = s.rows ++ replicate k q } in z) (times_once (attributes m) i j t u) ∙ sym f
begins_once s m places.Obj a b (g, c, d, i, x, k, l, t, e) (h, o, n, j, y, q, r, u, f) =
    e ∙ ap (λ (w : Sense). let z : State = record (into s places.Obj) { obj_at = s.count + 1; times = i; coefs = 0; declared_coefs = d; sense = w; constant = c; costs = none_each s } in z) (sense_said_once (attributes m) g h x y)
    ∙ ap (λ (w : Frac). let z : State = record (into s places.Obj) { obj_at = s.count + 1; times = i; coefs = 0; declared_coefs = d; sense = h; constant = w; costs = none_each s } in z) (constant_once (attributes m) c o k q)
    ∙ ap (λ (w : Option ℕ). let z : State = record (into s places.Obj) { obj_at = s.count + 1; times = i; coefs = 0; declared_coefs = w; sense = h; constant = o; costs = none_each s } in z) (count_said_once (attributes m) (codes "numberOfObjCoef") d n l r)
    ∙ ap (λ (w : ℕ). let z : State = record (into s places.Obj) { obj_at = s.count + 1; times = w; coefs = 0; declared_coefs = n; sense = h; constant = o; costs = none_each s } in z) (times_once (attributes m) i j t u) ∙ sym f
begins_once s m places.Coef a b (i, x, e) (j, y, f) =
    e ∙ ap (λ (k : ℕ). let z : State = record (into s places.Coef) { coefs = s.coefs + 1; variable = k; text = [] } in z) (some_once IsCount count_once (value_of (codes "idx") (attributes m)) i j x y) ∙ sym f
begins_once s m (places.El l) a b e f = run_once l (attributes m) (into s (places.El l)) a b e f
begins_once s m p a b e f = e ∙ sym f

passes_once : (s a b : State) → PassesOn s a → PassesOn s b → a ≡ b
passes_once s a b (inl e) (inl f) = e.1 ∙ sym f.1
passes_once s a b (inr e) (inr f) = e.1 ∙ sym f.1
passes_once s a b (inl e) (inr f) = absurd (let x = e.0 in let y = f.0 in omega arith)
passes_once s a b (inr e) (inl f) = absurd (let x = e.0 in let y = f.0 in omega arith)

wholes_once : (ns ms : List ℕ) → map pos ns ≡ map pos ms → ns ≡ ms
wholes_once [] [] e = refl
wholes_once [] (m ∷ ms) e = absurd (cc)
wholes_once (n ∷ ns) [] e = absurd (cc)
wholes_once (n ∷ ns) (m ∷ ms) e =
    let first : n ≡ m = cc in let rest : map pos ns ≡ map pos ms = cc in
    ap (λ (k : ℕ). k ∷ ns) first ∙ ap (λ (l : List ℕ). m ∷ l) (wholes_once ns ms rest)

adds_once : (old : List ℕ) (s : State) (ns ms : List ℕ) → AddsWholes old s ns → AddsWholes old s ms → ns ≡ ms
adds_once old s ns ms (x, r, e) (y, q, f) = wholes_once ns ms (e ∙ ap (λ (z : ℤ). map pos old ++ whole_run z s.whole_step s.times) (whole_once s.text x y r q) ∙ sym f)

abbrev AreNumbers : List Ratio → Type 0
AreNumbers [] = Unit {0}
AreNumbers (r ∷ rs) = IsNumber r × AreNumbers rs

same_once : (xs ys : List Frac) (rs : List Ratio) → AreNumbers rs → AreSame (ratios xs) rs → AreSame (ratios ys) rs → xs ≡ ys
same_once [] [] rs n a b = refl
same_once [] (y ∷ ys) [] n a b = absurd b
same_once [] ys (r ∷ rs) n a b = absurd a
same_once (x ∷ xs) ys [] n a b = absurd a
same_once (x ∷ xs) [] (r ∷ rs) n a b = absurd b
same_once (x ∷ xs) (y ∷ ys) (r ∷ rs) n a b = ap (λ (z : Frac). z ∷ xs) (frac_once x y r n.0 a.0 b.0) ∙ ap (λ (l : List Frac). y ∷ l) (same_once xs ys rs n.1 a.1 b.1)

run_numbers : (first step : Ratio) (m : ℕ) → IsNumber first → IsNumber step → AreNumbers (ratio_run first step m)
run_numbers first step zero p q = tt
run_numbers first step (suc m) p q = (p, run_numbers (sum first step) step m (sum-number first step p q) q)

adds_run_once : (l : Listing) (s a b : State) → AddsRun l s a → AddsRun l s b → a ≡ b
adds_run_once listings.Starts s a b (ns, x, e) (ms, y, f) = e ∙ ap (λ (k : List ℕ). let z : State = record s { starts = k } in z) (adds_once s.starts s ns ms x y) ∙ sym f
adds_run_once listings.RowIndices s a b (ns, x, e) (ms, y, f) = e ∙ ap (λ (k : List ℕ). let z : State = record s { indices = k } in z) (adds_once s.indices s ns ms x y) ∙ sym f
adds_run_once listings.ColumnIndices s a b (ns, x, e) (ms, y, f) = e ∙ ap (λ (k : List ℕ). let z : State = record s { indices = k } in z) (adds_once s.indices s ns ms x y) ∙ sym f
adds_run_once listings.Values s a b (x, xs, r, i, e) (y, ys, q, j, f) =
    let one = decimal_once s.text x y r q in
    let moved = subst (λ (w : Frac). AreSame (ratios xs) (ratio_run (ratio w) (ratio s.step) s.times)) one i in
    e ∙ ap (λ (k : List Frac). let z : State = record s { values = s.values ++ k } in z) (same_once xs ys (ratio_run (ratio y) (ratio s.step) s.times) (run_numbers (ratio y) (ratio s.step) s.times y.above s.step.above) moved j) ∙ sym f

cost_number : (cs : List Frac) (j : ℕ) → IsNumber (get_or (ratios cs) j evidence.none)
cost_number [] j = lit< tt
cost_number (c ∷ cs) zero = c.above
cost_number (c ∷ cs) (suc j) = cost_number cs j

cost_once : (s a b : State) → AddsCost s a → AddsCost s b → a ≡ b
cost_once s a b (x, y, r, i, e) (w, v, q, j, f) =
    let old = get_or (ratios s.costs) s.variable evidence.none in
    let moved = subst (λ (u : Frac). IsSame (ratio y) (sum old (ratio u))) (decimal_once s.text x w r q) i in
    e ∙ ap (λ (k : Frac). let z : State = record s { costs = set s.costs s.variable k } in z) (frac_once y v (sum old (ratio w)) (sum-number old (ratio w) (cost_number s.costs s.variable) w.above) moved j) ∙ sym f

ends_once : (s : State) (p : Place) (a b : State) → Ends s p a → Ends s p b → a ≡ b
ends_once s places.Passed a b e f = passes_once s a b e f
ends_once s (places.Part parts.Coefficients) a b (es, x, e) (fs, y, f) = e ∙ ap (λ (k : List Entry). let z : State = record (out_of s (places.Part parts.Coefficients)) { starts = []; indices = []; values = []; entries = k } in z) (matrix_once (out_of s (places.Part parts.Coefficients)) es fs x y) ∙ sym f
ends_once s places.Coef a b e f = cost_once (out_of s places.Coef) a b e f
ends_once s (places.El l) a b e f = adds_run_once l (out_of s (places.El l)) a b e f
ends_once s p a b e f = e ∙ sym f

leaves_once : (s : State) (m : Mark) (k : Kind) (a b : State) → Leaves s m k a → Leaves s m k b → a ≡ b
leaves_once s m (begins (led.To p)) a b h g = begins_once s m p a b h g
leaves_once s m (begins l) a b h g = absurd h
leaves_once s (Char c) text a b h g = h ∙ sym g
leaves_once s m text a b h g = absurd h
leaves_once s m (ends p) a b h g = ends_once s p a b h g

pub leaves_one : LeavesOne osil
leaves_one s m a b p q = leaves_once s m (kind s m) a b p.1 q.1
