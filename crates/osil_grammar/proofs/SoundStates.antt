-- A mark that is taken in a sound state leaves a sound state.
use Rattle.osil_grammar.proofs.Words.{◌≡◌, ◌∙◌, ◌+◌, ◌-◌, ◌<◌, ◌≤◌, ℕ, inl, inr, ℤ, pos, negsuc, Bool, true, false, cond, List, [], ◌++◌, map, length, replicate, refl, ap, sym, subst, arith, length-append, Option, None, Some, MatchOption, IsSomeAnd, unsigned_abs, ◌+ℤ◌, ◌*ℤ◌, codes, All, cases_lt, cases_eq, ints, length-replicate, length-map, All-nil, All-append, All-replicate, All-weaker, All-map, Attribute, Mark, Start, Char, Finish, Frac, ratio, ratios, End, NegInf, At, Inf, Entry, IsCount, IsWholeText, Row, AreEnds, IsVar, IsInside, value_of, AllPass, TakesMark, Listing, Place, Led, IsLess, IsTimes, SaysTimes, State, start, begins, ends, tests, leads, Fails, AreTooMany, IsDivided, IsIndexBelow, IsOutOfRange, lines, list_length, most, Begins, Ends, Leaves, AddsWholes, IsMatrixOf, heard, keeps_text, osil, AreItems, AreWithin, IsSoundSoFar, IsSoundAt, IsSoundIn, IsSound}
use Rattle.instance.specs.declared.parts.Var.{Var as Variable}
use Rattle.osil_grammar.specs.declared.elements.Part.TheVariants as parts
use Rattle.osil_grammar.specs.declared.elements.Listing.TheVariants as listings
use Rattle.osil_grammar.specs.declared.elements.Place.TheVariants as places
use Rattle.osil_grammar.specs.declared.elements.Led.TheVariants as led
use Rattle.osil_grammar.proofs.EntryBounds.{are_within, nothing_within}
use Rattle.osil_grammar.proofs.RatioRuns.{ratio_length}
use Rattle.osil_grammar.proofs.RunSteps.{whole_length}
use Rattle.osil_grammar.proofs.StartTagTests.{not_end, said_ends}
use Rattle.osil_grammar.proofs.VarTags.{var_fits}
use Rattle.osil_grammar.proofs.WholesBelow.{wholes_below}

-- what no test refused
pub not_more : (m n : ℕ) → (m < n → ⊥) → n ≤ m
not_more m n not_so = elim (cases_lt m n) [ inl many ↦ absurd (not_so many) | inr few ↦ few ]

-- with as many variables and rows, or more
one_below : (b : Bool) (r q v w n : ℕ) → r ≤ q → v ≤ w → n < cond b r v → n < cond b q w
one_below true r q v w n rows vars h = omega (arith, rows, h)
one_below false r q v w n rows vars h = omega (arith, vars, h)

below_more : (b : Bool) (r q v w : ℕ) → r ≤ q → v ≤ w → (ns : List ℕ) → All (λ n. n < cond b r v) ns → All (λ n. n < cond b q w) ns
below_more b r q v w rows vars ns h = All-weaker (λ (n : ℕ). n < cond b r v) (λ (n : ℕ). n < cond b q w) (λ n k. one_below b r q v w n rows vars k) ns h

inside_more : (r q v w : ℕ) (e : Entry) → r ≤ q → v ≤ w → IsInside r v e → IsInside q w e
inside_more r q v w e rows vars h = let x = h.row in let y = h.col in record { row = omega (arith, x, rows); col = omega (arith, y, vars); nonzero = h.nonzero }

within_more : (r q v w : ℕ) → r ≤ q → v ≤ w → (es : List Entry) → AreWithin r v es → AreWithin q w es
within_more r q v w rows vars es h = record { few = h.few; ascending = h.ascending; inside = All-weaker (IsInside r v) (IsInside q w) (λ e k. inside_more r q v w e rows vars k) es h.inside }

pub replicated : {X : Type 0} (xs : List X) (n : ℕ) (x : X) → length (xs ++ replicate n x) ≡ length xs + n
replicated xs n x = length-append xs (replicate n x) ∙ ap (λ (m : ℕ). length xs + m) (length-replicate n x)

more_vars : (vars : List Variable) (rows : List Row) (n : ℕ) (v : Variable) → AreItems vars rows → length vars + n ≤ 1000 → IsVar v → AreItems (vars ++ replicate n v) rows
more_vars vars rows n v k few both = record {
  few_vars = let long = replicated vars n v in omega (arith, long, few);
  few_rows = k.few_rows;
  var_ends = All-append IsVar vars (replicate n v) k.var_ends (All-replicate IsVar n v both);
  row_ends = k.row_ends;
}

more_rows : (vars : List Variable) (rows : List Row) (n : ℕ) (r : Row) → AreItems vars rows → length rows + n ≤ 1000 → AreEnds r.lb r.ub → AreItems vars (rows ++ replicate n r)
more_rows vars rows n r k few both = record {
  few_vars = k.few_vars;
  few_rows = let long = replicated rows n r in omega (arith, long, few);
  var_ends = k.var_ends;
  row_ends = All-append (λ (w : Row). AreEnds w.lb w.ub) rows (replicate n r) k.row_ends (All-replicate (λ (w : Row). AreEnds w.lb w.ub) n r both);
}

-- the ends of a row
less_end : (y : End) → ((f : Frac) → At f ≡ y → ⊥) → (end : End) (c : Frac) (x : End) → IsLess end c x → (end ≡ y → ⊥) → x ≡ y → ⊥
less_end y never (At f) c x is other = not_end y never x _ is
less_end y never end c x is other = λ e. other (sym is ∙ e)

-- for how many an element stands
some_times : (o : Option (List ℕ)) (m : ℕ) → MatchOption o (m ≡ 1) (λ t. IsTimes t m) → 0 < m
some_times None m h = omega (arith, h)
some_times (Some t) m h = h.1

el_room : (s : State) (as' : List Attribute) (l : Listing) (m : ℕ) → SaysTimes as' m → (AreTooMany s as' (places.El l) → ⊥) → (0 < m) × (list_length s l + m ≤ most (places.El l))
el_room s as' l m says not_so = (some_times (value_of (codes "mult") as') m says, not_more (most (places.El l)) (list_length s l + m) (λ many. not_so (m, says, many)))

-- the variable of a `coef`
index_inside : (o : Option (List ℕ)) (n j : ℕ) → IsSomeAnd o (λ t. IsCount t j) → (IsSomeAnd o (λ t. (i : ℕ) × IsCount t i × (n ≤ i)) → ⊥) → j < n
index_inside None n j says not_so = absurd says
index_inside (Some t) n j says not_so = elim (cases_lt j n) [ inl inside ↦ inside | inr out ↦ absurd (not_so (j, says, out)) ]

-- START TAGS
begin_sound : (s : State) (name : List ℕ) (as' : List Attribute) (p : Place) (z : State) → IsSound s → AllPass (Fails s (Start name as')) (tests (begins (led.To p))) → Begins s (Start name as') p z → IsSound z
begin_sound s name as' (places.Part part) z k pass (d, says, is) = subst IsSound (sym is) (k.0, tt)
begin_sound s name as' places.Var z k pass (v, n, says, times, is) =
    let fit = var_fits s name as' v pass says in
    let few : length s.vars + n ≤ 1000 = not_more 1000 (length s.vars + n) (λ many. fit.1 (n, times, many)) in
    let more : length s.vars ≤ length (s.vars ++ replicate n v) = let long = replicated s.vars n v in omega (arith, long) in
    let items = k.0.0 in
    subst IsSound (sym is) (
      (
        more_vars s.vars s.rows n v items few fit.0,
        k.0.1,
        k.0.2,
        below_more s.by_columns (length s.rows) (length s.rows) (length s.vars) (length (s.vars ++ replicate n v)) (omega arith) more s.indices k.0.3,
        k.0.4,
        within_more (length s.rows) (length s.rows) (length s.vars) (length (s.vars ++ replicate n v)) (omega arith) more s.entries k.0.5,
      ),
      tt,
    )
begin_sound s name as' places.Con z k pass (r, n, says, times, is) =
    let others = pass.1.1.1.1.1.1.1.1.1.1 in
    let few : length s.rows + n ≤ 1000 = not_more 1000 (length s.rows + n) (λ many. others.1.1.0 (n, times, many)) in
    let both = said_ends as' (λ x. x ≡ NegInf) (λ x. x ≡ Inf) (λ e. absurd (cc)) (λ e. absurd (cc)) says.lb says.ub says.low says.high others.0 others.1.0 in
    let more : length s.rows ≤ length (s.rows ++ replicate n r) = let long = replicated s.rows n r in omega (arith, long) in
    let items = k.0.0 in
    subst IsSound (sym is) (
      (
        more_rows s.vars s.rows n r items few (less_end Inf (λ f e. absurd (cc)) says.lb says.constant r.lb says.less_low both.0, less_end NegInf (λ f e. absurd (cc)) says.ub says.constant r.ub says.less_high both.1),
        k.0.1,
        k.0.2,
        below_more s.by_columns (length s.rows) (length (s.rows ++ replicate n r)) (length s.vars) (length s.vars) more (omega arith) s.indices k.0.3,
        k.0.4,
        within_more (length s.rows) (length (s.rows ++ replicate n r)) (length s.vars) (length s.vars) more (omega arith) s.entries k.0.5,
      ),
      tt,
    )
begin_sound s name as' places.Obj z k pass (g, x, d, n, a, b, c, e, is) = subst IsSound (sym is) (k.0, tt)
begin_sound s name as' places.Coef z k pass (j, says, is) = subst IsSound (sym is) (k.0, index_inside (value_of (codes "idx") as') (length s.vars) j says pass.1.1.1.1.1.0)
begin_sound s name as' (places.Listed listings.Starts) z k pass is = subst IsSound (sym is) ((k.0.0, omega arith, k.0.2, k.0.3, k.0.4, k.0.5), tt)
begin_sound s name as' (places.Listed listings.RowIndices) z k pass is = subst IsSound (sym is) ((k.0.0, k.0.1, omega arith, All-nil (λ (n : ℕ). n < length s.rows), k.0.4, k.0.5), tt)
begin_sound s name as' (places.Listed listings.ColumnIndices) z k pass is = subst IsSound (sym is) ((k.0.0, k.0.1, omega arith, All-nil (λ (n : ℕ). n < length s.vars), k.0.4, k.0.5), tt)
begin_sound s name as' (places.Listed listings.Values) z k pass is = subst IsSound (sym is) ((k.0.0, k.0.1, k.0.2, k.0.3, omega arith, k.0.5), tt)
begin_sound s name as' (places.El listings.Values) z k pass (m, d, times, step, is) = subst IsSound (sym is) (k.0, el_room s as' listings.Values m times pass.1.1.1.1.0)
begin_sound s name as' (places.El l) z k pass (m, d, times, step, is) = subst IsSound (sym is) (k.0, el_room s as' l m times pass.1.1.1.1.0)
begin_sound s name as' p z k pass is = subst IsSound (sym is) (k.0, tt)

start_sound : (l : Led) (s : State) (name : List ℕ) (as' : List Attribute) (z : State) → IsSound s → AllPass (Fails s (Start name as')) (tests (begins l)) × Leaves s (Start name as') (begins l) z → IsSound z
start_sound (led.To p) s name as' z k h = begin_sound s name as' p z k h.0 h.1
start_sound l s name as' z k h = absurd h.1

-- CHARACTERS
text_sound : (p : Place) (s : State) (text : List ℕ) → IsSoundAt p s → IsSoundAt p (record s { text = text })
text_sound (places.El listings.Starts) s text h = h
text_sound p s text h = h

-- END TAGS
in_range : (z : ℤ) (n : ℕ) → ((IsIndexBelow z n → ⊥) → ⊥) → IsIndexBelow z n
in_range (pos k) n h = elim (cases_lt k n) [ inl below ↦ (omega (arith, ints), omega (arith, ints, below)) | inr above ↦ absurd (h (λ r. let high = r.1 in omega (arith, ints, above))) ]
in_range (negsuc k) n h = absurd (h (λ r. let low = r.0 in omega (arith, ints)))

all_in_range : (text : List ℕ) (first step : ℤ) (m n : ℕ) → IsWholeText text first → (IsOutOfRange text step m n → ⊥) → (k : ℕ) → k < m → IsIndexBelow (first +ℤ pos k *ℤ step) n
all_in_range text first step m n reads not_so k inside = in_range (first +ℤ pos k *ℤ step) n (λ out. not_so (record { first = first; begins = reads; k = k; inside = inside; out = out }))

with_indices : (s : State) (new : List ℕ) → AddsWholes s.indices s new → IsSoundSoFar s → length s.indices + s.times ≤ 100000 → (IsOutOfRange s.text s.whole_step s.times (cond s.by_columns (length s.rows) (length s.vars)) → ⊥) → IsSoundSoFar (record s { indices = new })
with_indices s new adds k room not_so =
    let limit : ℕ = cond s.by_columns (length s.rows) (length s.vars) in
    let long = whole_length s.indices new adds.0 s.whole_step s.times adds.2 in
    let below = wholes_below new s.indices adds.0 s.whole_step s.times limit adds.2 (all_in_range s.text adds.0 s.whole_step s.times limit adds.1 not_so) k.3 in
    (k.0, k.1, omega (arith, long, room), below, k.4, k.5)

one_more_start : (s : State) → ((IsDivided s → ⊥) → ⊥) → length (map pos s.starts) ≡ lines s + 1
one_more_start s h = elim (cases_eq (length (map pos s.starts)) (lines s + 1)) [ inl same ↦ same | inr other ↦ absurd (h (λ d. other d.one_more)) ]

some_lists : (n : ℕ) → (n ≡ 0 → ⊥) → 0 < n
some_lists n h = elim (cases_lt 0 n) [ inl some ↦ some | inr none ↦ absurd (h (omega (arith, none))) ]

matrix_within : (s : State) (es : List Entry) → IsSoundSoFar s → ((0 < s.lists) × (IsDivided s → ⊥) → ⊥) → IsMatrixOf s es → AreWithin (length s.rows) (length s.vars) es
matrix_within s es k divided (inl none) = nothing_within (length s.rows) (length s.vars) es none.1
matrix_within s es k divided (inr some) =
    let one = one_more_start s (λ not_so. divided (some_lists s.lists some.0, not_so)) in
    are_within s.by_columns (length s.rows) (length s.vars) (map pos s.starts) (map pos s.indices) (ratios s.values) es (omega (arith, one)) (All-map (λ (z : ℤ). unsigned_abs z < cond s.by_columns (length s.rows) (length s.vars)) pos s.indices k.3) (let size = length-map s.values ratio in let few = k.4 in omega (arith, size, few)) some.1

end_sound : (s : State) (name : List ℕ) (p : Place) (z : State) → s.place ≡ p → IsSoundIn p s → AllPass (Fails s (Finish name)) (tests (ends p)) → Ends s p z → IsSound z
end_sound s name places.Passed z at k pass (inl h) = subst IsSound (sym h.1) (k.0, subst (λ (q : Place). IsSoundAt q (record s { depth = s.depth - 1 })) (sym at) tt)
end_sound s name places.Passed z at k pass (inr h) = subst IsSound (sym h.1) (k.0, tt)
end_sound s name (places.Part parts.Coefficients) z at k pass (es, matrix, is) = subst IsSound (sym is) ((k.0.0, omega arith, omega arith, All-nil (λ (n : ℕ). n < cond s.by_columns (length s.rows) (length s.vars)), omega arith, matrix_within s es k.0 pass.1.1.1.1.0 matrix), tt)
end_sound s name places.Coef z at k pass (x, y, reads, same, is) = subst IsSound (sym is) (k.0, tt)
end_sound s name (places.El listings.Starts) z at k pass (new, adds, is) =
    let long = whole_length s.starts new adds.0 s.whole_step s.times adds.2 in let room = k.1.1 in
    subst IsSound (sym is) ((k.0.0, omega (arith, long, room), k.0.2, k.0.3, k.0.4, k.0.5), tt)
end_sound s name (places.El listings.Values) z at k pass (first, added, reads, same, is) =
    let long = ratio_length s.values (s.values ++ added) added first s.step s.times refl same in let room = k.1.1 in
    subst IsSound (sym is) ((k.0.0, k.0.1, k.0.2, k.0.3, omega (arith, long, room), k.0.5), tt)
end_sound s name (places.El listings.RowIndices) z at k pass (new, adds, is) = subst IsSound (sym is) (with_indices s new adds k.0 k.1.1 pass.1.1.0, tt)
end_sound s name (places.El listings.ColumnIndices) z at k pass (new, adds, is) = subst IsSound (sym is) (with_indices s new adds k.0 k.1.1 pass.1.1.0, tt)
end_sound s name p z at k pass is = subst IsSound (sym is) (k.0, tt)

-- no mark, one mark, marks one after another
pub sound_start : IsSound start
sound_start = (
  (
    record { few_vars = omega arith; few_rows = omega arith; var_ends = All-nil IsVar; row_ends = All-nil (λ (r : Row). AreEnds r.lb r.ub) },
    omega arith,
    omega arith,
    All-nil (λ (n : ℕ). n < 0),
    omega arith,
    nothing_within 0 0 [] refl,
  ),
  tt,
)

pub sound_kept : (s z : State) (m : Mark) → IsSound s → TakesMark osil s m z → IsSound z
sound_kept s z (Start name as') k h = start_sound (leads s.place name) s name as' z k h
sound_kept s z (Char c) k h = subst IsSound (sym h.1) (k.0, text_sound s.place s (heard (keeps_text s.place) s.text c) k.1)
sound_kept s z (Finish name) k h = end_sound s name s.place z refl k h.0 h.1
