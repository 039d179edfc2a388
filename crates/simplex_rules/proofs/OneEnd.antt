-- A run has one end.
use Rattle.std.proofs.Common.{◌≡◌, ℕ, ◌+◌, ◌-◌, ◌<◌, ◌⊎◌, inl, inr, pos, neg_ℤ, ◌<ℤ◌, Bool, true, false, None, Some, List, refl, sym, ◌∙◌, ap, subst, arith}
use Rattle.std.proofs.Math.Path.{fun_ext}
use Rattle.std.proofs.lemmas.List.{ext_get_or}
use Rattle.std.proofs.lemmas.Int.{ints}
use Rattle.rational.specs.Ratio.{Ratio, IsNumber, IsSame, IsBelow}
use Rattle.rational.specs.Width.{IsReduced}
use Rattle.rational.proofs.ReducedForms.{same_reduced}
use Rattle.rational.proofs.Scaling.{IsSame-trans}
use Rattle.evidence.specs.Sums.{none}
use Rattle.evidence.specs.Instance.{Range, Instance, IsInstance, HasNumbers, width, height, column_at}
use Rattle.evidence.specs.Cases.{IsEmpty}
use Rattle.evidence.proofs.Numbers.{◌≲◌, ◌⋖◌, ⋖-≲}
use Rattle.evidence.proofs.Columns.{by_lt, by_bool, column-numbers}
use Rattle.certificate.specs.declared.causes.Step.TheVariants as At
use Rattle.bases.specs.Dictionary.{Entries, Values}
use Rattle.bases.specs.Program.{goal_column, columns, rows_with_goal}
use Rattle.bases.specs.Pivot.{PivotFits}
use Rattle.simplex_rules.specs.declared.columns.Status.{Status}
use Rattle.simplex_rules.specs.declared.columns.Status.TheVariants.{Basic}
use Rattle.simplex_rules.specs.declared.columns.Way.{Way}
use Rattle.simplex_rules.specs.declared.columns.Way.TheVariants.{Rise, Fall}
use Rattle.simplex_rules.specs.Statuses.{status_at, basic_in, resting, basic_value, IsFirstBasis, HasDictionary, HasValues, IsPlaced}
use Rattle.simplex_rules.specs.Turns.{rate, MovesIn, Misses, IsLeastOut, IsFirstHelp, IsFirstLimit, NoLimit, pivoted, missed_status, left_status}
use Rattle.simplex_rules.specs.Widths.{ValuesFit}
use Rattle.simplex_rules.specs.Ends.{Terms, Clock, End, Clash, TooWide}
use Rattle.simplex_rules.specs.Reports.{AreValues, movement, IsBoundAt, bound_sum}
use Rattle.simplex_rules.specs.Runs.{HasNoClash, Moment, Next, To, Out, PassesTurn, BeginsTurn, MovesColumn, Repairs, Improves, Chooses, IsNext, ComesInRun, begins, goes_on, IsRun, Run, EndsAtBasis}
use Rattle.bases.proofs.Lists as Lists
use Rattle.bases.proofs.Lists.{value_by-number}
use Rattle.simplex_rules.proofs.Facts.{has_number}
use Rattle.simplex_rules.proofs.Soundness.{rest_number, u_number, bound_number}
use Rattle.simplex_rules.proofs.Moments.{comes_placed, fresh_placed, next_placed}

pub one_reduced : (x y z : Ratio) → IsNumber z → IsReduced x → IsReduced y → IsSame x z → IsSame y z → x ≡ y
one_reduced x y z p r s e f = same_reduced x y r s (IsSame-trans x z y p e (sym f))

-- one dictionary, and one value of each column
module _ (I : Instance) (good : IsInstance I) (zeroed : Bool) (ss : List Status) (placed : IsPlaced I ss) (room : HasNoClash I) where
  pub one_dictionary : (u v : Entries) → HasDictionary I zeroed ss u → HasDictionary I zeroed ss v → u ≡ v
  one_dictionary u v d e = fun_ext (λ b. fun_ext (λ c. Lists.one_dictionary (width I) (height I + 1) (rows_with_goal zeroed I) (basic_in ss) u v d e b c))

  pub one_values : (u : Entries) (v w : Values) → HasDictionary I zeroed ss u → HasValues I ss u v → HasValues I ss u w → v ≡ w
  one_values u v w d p q = fun_ext each
    where
      each : (c : ℕ) → v c ≡ w c
      each c =
          by_lt c (goal_column I)
          (λ h. by_bool (basic_in ss c)
          (λ k. one_reduced (v c) (w c) (basic_value I ss u c) (value_by-number (columns I) (u c) (resting I ss) (u_number I good zeroed ss u d placed room c) (rest_number I good zeroed ss u d placed room)) (p.reduced c) (q.reduced c) (p.basic c h k) (q.basic c h k))
          (λ k. one_reduced (v c) (w c) (resting I ss c) (rest_number I good zeroed ss u d placed room c) (p.reduced c) (q.reduced c) (p.nonbasic c h k) (q.nonbasic c h k)))
          (λ h. p.past c h ∙ sym (q.past c h))

pub one_point : (I : Instance) (w : Values) (x y : List Ratio) → AreValues I w x → AreValues I w y → x ≡ y
one_point I w x y p q =
    ext_get_or none x y (p.count ∙ sym q.count) (λ j h. let k : j < width I = let n = p.count in omega arith in p.values j k ∙ sym (q.values j k))

pub one_fresh : (I : Instance) (ss ts : List Status) → IsFirstBasis I ss → IsFirstBasis I ts → ss ≡ ts
one_fresh I ss ts f g =
    ext_get_or Basic ss ts (f.count ∙ sym g.count)
    (λ c h. let n = f.count in by_lt c (width I)
    (λ l. f.variables c l ∙ sym (g.variables c l))
    (λ l.
    let e : width I + (c - width I) ≡ c = omega arith in
    let k : width I + (c - width I) < goal_column I = omega arith in
    ap (status_at ss) (sym e) ∙ f.rows (c - width I) k ∙ sym (g.rows (c - width I) k) ∙ ap (status_at ts) e))

-- the column that is out, with its way
crossed : (r : Range) (x : Ratio) → HasNumbers r → IsNumber x → (IsEmpty r → ⊥) → (l h : Ratio) → r.lb ≡ Some l → r.ub ≡ Some h → IsBelow x l → IsBelow h x → ⊥
crossed r x hn p room l h e f a b =
    let nl = has_number r.lb l hn.0 e in
    let nh = has_number r.ub h hn.1 f in
    let first : h ⋖ x = record { left = nh; right = p; is = b } in
    let second : x ≲ l = record { left = p; right = nl; is = omega (arith, ints) } in
    let all = ⋖-≲ first second in
    room (l, h, e, f, all.is)

pub misses_once : (r : Range) (x : Ratio) → HasNumbers r → IsNumber x → (IsEmpty r → ⊥) → (v w : Way) → Misses v r x → Misses w r x → v ≡ w
misses_once r x hn p room Rise Rise a b = refl
misses_once r x hn p room Fall Fall a b = refl
misses_once r x hn p room Rise Fall (l, e, a) (h, f, b) = absurd (crossed r x hn p room l h e f a b)
misses_once r x hn p room Fall Rise (h, f, b) (l, e, a) = absurd (crossed r x hn p room l h e f a b)

pub moves_once : (wanted : Way) (x : Ratio) (v w : Way) → MovesIn wanted (rate v x) → MovesIn wanted (rate w x) → v ≡ w
moves_once wanted x Rise Rise a b = refl
moves_once wanted x Fall Fall a b = refl
moves_once Rise x Rise Fall a b = let k : pos 0 <ℤ neg_ℤ x.num = b in absurd (omega (arith, ints))
moves_once Fall x Rise Fall a b = let k : neg_ℤ x.num <ℤ pos 0 = b in absurd (omega (arith, ints))
moves_once Rise x Fall Rise a b = let k : pos 0 <ℤ neg_ℤ x.num = a in absurd (omega (arith, ints))
moves_once Fall x Fall Rise a b = let k : neg_ℤ x.num <ℤ pos 0 = a in absurd (omega (arith, ints))

passes_once : (t : Terms) (c : Clock) (ss : List Status) (a b : Next) → PassesTurn t c ss a → PassesTurn t c ss b → a ≡ b
passes_once t c ss a b (inl (e, f)) (inl (g, h)) = f ∙ sym h
passes_once t c ss a b (inl (e, f)) (inr (inl (g, h, i))) = absurd (e g)
passes_once t c ss a b (inl (e, f)) (inr (inr (g, h, i))) = absurd (e g)
passes_once t c ss a b (inr (inl (g, h, i))) (inl (e, f)) = absurd (e g)
passes_once t c ss a b (inr (inl (g, h, i))) (inr (inl (j, k, l))) = i ∙ sym l
passes_once t c ss a b (inr (inl (g, h, i))) (inr (inr (j, k, l))) = absurd (k h)
passes_once t c ss a b (inr (inr (g, h, i))) (inl (e, f)) = absurd (e g)
passes_once t c ss a b (inr (inr (g, h, i))) (inr (inl (j, k, l))) = absurd (h k)
passes_once t c ss a b (inr (inr (g, h, i))) (inr (inr (j, k, l))) = i ∙ sym l

turns_once : (t : Terms) (c : Clock) (F : Type 0) (ss : List Status) (a b : Next) → BeginsTurn t c F ss a → BeginsTurn t c F ss b → a ≡ b
turns_once t c F ss a b (inl (e, f)) (inl (g, h)) = f ∙ sym h
turns_once t c F ss a b (inl (e, f)) (inr (inl (g, h, i))) = absurd (omega arith)
turns_once t c F ss a b (inl (e, f)) (inr (inr (g, h, i))) = absurd (omega arith)
turns_once t c F ss a b (inr (inl (g, h, i))) (inl (e, f)) = absurd (omega arith)
turns_once t c F ss a b (inr (inl (g, h, i))) (inr (inl (j, k, l))) = i ∙ sym l
turns_once t c F ss a b (inr (inl (g, h, i))) (inr (inr (j, k, l))) = absurd (h k)
turns_once t c F ss a b (inr (inr (g, h, i))) (inl (e, f)) = absurd (omega arith)
turns_once t c F ss a b (inr (inr (g, h, i))) (inr (inl (j, k, l))) = absurd (k h)
turns_once t c F ss a b (inr (inr (g, h, i))) (inr (inr (j, k, l))) = passes_once t _ ss a b i l

module _ (I : Instance) (good : IsInstance I) (zeroed : Bool) (t : Terms) (m : Moment) (placed : IsPlaced I m.statuses) (room : HasNoClash I) (u : Entries) (dict : HasDictionary I zeroed m.statuses u) (w : Values) (values : HasValues I m.statuses u w) where
  abbrev ss : List Status
  ss = m.statuses

  abbrev goal : ℕ
  goal = goal_column I

  one_help : (g : ℕ) (wanted : Way) (c d : ℕ) (v x : Way) → IsFirstHelp I ss u w g wanted c v → IsFirstHelp I ss u w g wanted d x → c ≡ d
  one_help g wanted c d v x p q = by_lt c d (λ h. absurd (q.before c h v p.helps)) (λ h. by_lt d c (λ k. absurd (p.before d k x q.helps)) (λ k. omega arith))

  one_way : (g : ℕ) (wanted : Way) (c : ℕ) (v x : Way) → IsFirstHelp I ss u w g wanted c v → IsFirstHelp I ss u w g wanted c x → v ≡ x
  one_way g wanted c v x p q = moves_once wanted (u g c) v x p.helps.moves q.helps.moves

  one_out : (b c : ℕ) (v x : Way) → IsLeastOut I ss u w b v → IsLeastOut I ss u w c x → b ≡ c
  one_out b c v x p q = by_lt b c (λ h. absurd (q.before b h v p.out)) (λ h. by_lt c b (λ k. absurd (p.before c k x q.out)) (λ k. omega arith))

  one_wanted : (b : ℕ) (v x : Way) → IsLeastOut I ss u w b v → IsLeastOut I ss u w b x → v ≡ x
  one_wanted b v x p q = misses_once (column_at I b) (w b) (column-numbers I good b) (let r = values.reduced b in r.0) (room b p.inside) v x p.out.misses q.out.misses

  one_limit : (n : ℕ) (way : Way) (b c : ℕ) → IsFirstLimit I ss u w n way b → IsFirstLimit I ss u w n way c → b ≡ c
  one_limit n way b c p q =
      by_lt b c
      (λ h. let x = p.after c h q.inside q.limit q.is in let y = q.before b h p.limit p.is in absurd (omega (arith, ints)))
      (λ h. by_lt c b
      (λ k. let x = q.after b k p.inside p.limit p.is in let y = p.before c k q.limit q.is in absurd (omega (arith, ints)))
      (λ k. omega arith))

  limited : (n : ℕ) (way : Way) (b : ℕ) → NoLimit I ss u w n way → IsFirstLimit I ss u w n way b → ⊥
  limited n way b f p = let e = f b p.inside in let g = p.is in let h : None ≡ Some p.limit = sym e ∙ g in cc

  limits_once : (n : ℕ) (way : Way) (a b : Next) → MovesColumn I zeroed t m u w n way a → MovesColumn I zeroed t m u w n way b → a ≡ b
  limits_once n way a b (inl (f, e)) (inl (g, h)) = e ∙ sym h
  limits_once n way a b (inl (f, e)) (inr (inl (x, d, g, i, p, q, h))) = absurd (f g)
  limits_once n way a b (inl (f, e)) (inr (inr (inl (g, l, h)))) = absurd (f g)
  limits_once n way a b (inl (f, e)) (inr (inr (inr (k, g, l, i, h)))) = absurd (f g)
  limits_once n way a b (inr (inl (x, d, g, i, p, q, h))) (inl (f, e)) = absurd (f g)
  limits_once n way a b (inr (inl (x, d, g, i, p, q, h))) (inr (inl (y, e, k, l, r, s, j))) =
      let ex : x ≡ y = one_point I w x y p r in
      let ed : d ≡ e = one_point I (movement ss u n way) d e q s in cc
  limits_once n way a b (inr (inl (x, d, g, i, p, q, h))) (inr (inr (inl (k, l, j)))) = absurd (limited n way n i l)
  limits_once n way a b (inr (inl (x, d, g, i, p, q, h))) (inr (inr (inr (c, k, l, j, e)))) = absurd (limited n way c i l)
  limits_once n way a b (inr (inr (inl (g, l, h)))) (inl (f, e)) = absurd (f g)
  limits_once n way a b (inr (inr (inl (k, l, j)))) (inr (inl (x, d, g, i, p, q, h))) = absurd (limited n way n i l)
  limits_once n way a b (inr (inr (inl (g, l, h)))) (inr (inr (inl (i, j, k)))) = turns_once t m.clock _ _ a b h k
  limits_once n way a b (inr (inr (inl (g, l, h)))) (inr (inr (inr (c, i, j, d, k)))) = absurd (d (sym (one_limit n way n c l j)))
  limits_once n way a b (inr (inr (inr (k, g, l, i, h)))) (inl (f, e)) = absurd (f g)
  limits_once n way a b (inr (inr (inr (c, k, l, j, e)))) (inr (inl (x, d, g, i, p, q, h))) = absurd (limited n way c i l)
  limits_once n way a b (inr (inr (inr (c, i, j, d, k)))) (inr (inr (inl (g, l, h)))) = absurd (d (one_limit n way c n j l))
  limits_once n way a b (inr (inr (inr (c, i, j, d, k)))) (inr (inr (inr (e, f, g, h, l)))) =
      let q : c ≡ e = one_limit n way c e j g in
      turns_once t m.clock _ _ a b (subst (λ z. BeginsTurn t m.clock (PivotFits u z n) (pivoted ss z n (left_status I u z n way)) a) q k) l

  repairs_once : (g : ℕ) (wanted : Way) (a b : Next) → Repairs I zeroed t m u w g wanted a → Repairs I zeroed t m u w g wanted b → a ≡ b
  repairs_once g wanted a b (inl (f, e)) (inl (h, i)) = e ∙ sym i
  repairs_once g wanted a b (inl (f, e)) (inr (c, v, h, i)) = absurd (f c h.inside v h.helps)
  repairs_once g wanted a b (inr (c, v, h, i)) (inl (f, e)) = absurd (f c h.inside v h.helps)
  repairs_once g wanted a b (inr (c, v, h, i)) (inr (d, x, k, l)) =
      let q : c ≡ d = one_help g wanted c d v x h k in
      turns_once t m.clock _ _ a b (subst (λ z. BeginsTurn t m.clock (PivotFits u g z) (pivoted ss g z (missed_status wanted (column_at I g))) a) q i) l

  one_bound : (z : Bool) (x y : Ratio) → IsBoundAt z I ss u x → IsBoundAt z I ss u y → x ≡ y
  one_bound true x y p q = p ∙ sym q
  one_bound false x y p q = one_reduced x y (bound_sum I ss u) (bound_number I good zeroed ss u dict placed room) p.0 q.0 p.1 q.1

  improves_once : (a b : Next) → Improves I zeroed t m u w a → Improves I zeroed t m u w b → a ≡ b
  improves_once a b (inl (f, z, g, e)) (inl (h, y, i, j)) = e ∙ sym j
  improves_once a b (inl (f, z, g, e)) (inr (inl (c, x, h, i, p, q, j))) = absurd (g (i z))
  improves_once a b (inl (f, z, g, e)) (inr (inr (c, v, h, i))) = absurd (f c h.inside v h.helps)
  improves_once a b (inr (inl (c, x, h, i, p, q, j))) (inl (f, z, g, e)) = absurd (g (i z))
  improves_once a b (inr (inl (c, x, h, i, p, q, j))) (inr (inl (d, y, k, l, r, s, e))) =
      let ec : c ≡ d = one_bound zeroed c d p r in
      let ex : x ≡ y = one_point I w x y q s in cc
  improves_once a b (inr (inl (c, x, f, i, p, q, j))) (inr (inr (d, v, h, k))) = absurd (f d h.inside v h.helps)
  improves_once a b (inr (inr (c, v, h, i))) (inl (f, z, g, e)) = absurd (f c h.inside v h.helps)
  improves_once a b (inr (inr (d, v, h, k))) (inr (inl (c, x, f, i, p, q, j))) = absurd (f d h.inside v h.helps)
  improves_once a b (inr (inr (c, v, h, i))) (inr (inr (d, x, k, l))) =
      let q : c ≡ d = one_help goal Fall c d v x h k in
      let h' : IsFirstHelp I ss u w goal Fall d v = subst (λ z. IsFirstHelp I ss u w goal Fall z v) q h in
      let r : v ≡ x = one_way goal Fall d v x h' k in
      let i' : MovesColumn I zeroed t m u w d v a = subst (λ z. MovesColumn I zeroed t m u w z v a) q i in
      limits_once d x a b (subst (λ z. MovesColumn I zeroed t m u w d z a) r i') l

  steps_once : (a b : Next) → Chooses I zeroed t m u w a → Chooses I zeroed t m u w b → a ≡ b
  steps_once a b (inl (c, v, p, e)) (inl (d, x, q, f)) =
      let k : c ≡ d = one_out c d v x p q in
      let p' : IsLeastOut I ss u w d v = subst (λ z. IsLeastOut I ss u w z v) k p in
      let r : v ≡ x = one_wanted d v x p' q in
      let e' : Repairs I zeroed t m u w d v a = subst (λ z. Repairs I zeroed t m u w z v a) k e in
      repairs_once d x a b (subst (λ z. Repairs I zeroed t m u w d z a) r e') f
  steps_once a b (inl (c, v, p, e)) (inr (f, g)) = absurd (f c p.inside v p.out)
  steps_once a b (inr (f, g)) (inl (c, v, p, e)) = absurd (f c p.inside v p.out)
  steps_once a b (inr (f, g)) (inr (h, i)) = improves_once a b g i

-- each moment has one next
pub next_once : (I : Instance) → IsInstance I → (zeroed : Bool) (t : Terms) (m : Moment) → IsPlaced I m.statuses → HasNoClash I → (a b : Next) → IsNext I zeroed t m a → IsNext I zeroed t m b → a ≡ b
next_once I good zeroed t m placed room a b (u, d, x) (v, e, y) =
    same (subst (λ z. ((ValuesFit I m.statuses z → ⊥) × (a ≡ Out (TooWide At.Values) m.clock)) ⊎ ((w : Values) × ValuesFit I m.statuses z × HasValues I m.statuses z w × Chooses I zeroed t m z w a)) (one_dictionary I good zeroed m.statuses placed room u v d e) x) y
  where
    same : ((ValuesFit I m.statuses v → ⊥) × (a ≡ Out (TooWide At.Values) m.clock)) ⊎ ((w : Values) × ValuesFit I m.statuses v × HasValues I m.statuses v w × Chooses I zeroed t m v w a) → ((ValuesFit I m.statuses v → ⊥) × (b ≡ Out (TooWide At.Values) m.clock)) ⊎ ((w : Values) × ValuesFit I m.statuses v × HasValues I m.statuses v w × Chooses I zeroed t m v w b) → a ≡ b
    same (inl (f, g)) (inl (h, i)) = g ∙ sym i
    same (inl (f, g)) (inr (w, h, i, j)) = absurd (f h)
    same (inr (w, h, i, j)) (inl (f, g)) = absurd (f h)
    same (inr (w, h, i, j)) (inr (x, k, l, n)) =
        let q : w ≡ x = one_values I good zeroed m.statuses placed room v w x e i l in
        steps_once I good zeroed t m placed room v e x l a b (subst (λ z. Chooses I zeroed t m v z a) q j) n

module _ (I : Instance) (good : IsInstance I) (room : HasNoClash I) (zeroed : Bool) (t : Terms) where
  -- the moments from one on, to the end at a basis
  data Halts : Moment → End → Clock → List Status → Type 0 where
    now : {m : Moment} {e : End} {d : Clock} → IsNext I zeroed t m (Out e d) → Halts m e d m.statuses
    later : {m n : Moment} {e : End} {d : Clock} {ss : List Status} → IsNext I zeroed t m (To n) → Halts n e d ss → Halts m e d ss

  record Begun (c : Clock) (e : End) (d : Clock) (ss : List Status) : Type 0 where
    statuses : List Status
    fresh : IsFirstBasis I statuses
    halts : Halts (record { statuses = statuses; clock = c }) e d ss

  from_first : (c : Clock) (m : Moment) (e : End) (d : Clock) (ss : List Status) → ComesInRun I zeroed t c m → Halts m e d ss → Begun c e d ss
  from_first c m e d us (begins {ss = first} f) h = record { statuses = first; fresh = f; halts = h }
  from_first c m e d us (goes_on {m = before} k next) h = from_first c before e d us k (later next h)

  halts_once : (m : Moment) (e : End) (d : Clock) (ss : List Status) → IsPlaced I m.statuses → Halts m e d ss → (n : Moment) (f : End) (b : Clock) (ts : List Status) → n ≡ m → Halts n f b ts → (e ≡ f) × (d ≡ b) × (ss ≡ ts)
  halts_once m e d ss placed (now a) n f b ts q (now x) = let r = next_once I good zeroed t m placed room (Out e d) (Out f b) a (subst (λ k. IsNext I zeroed t k (Out f b)) q x) in (cc, cc, ap (λ k. k.statuses) (sym q))
  halts_once m e d ss placed (now a) n f b ts q (later {n = k} x h) = let r = next_once I good zeroed t m placed room (Out e d) (To k) a (subst (λ i. IsNext I zeroed t i (To k)) q x) in absurd (cc)
  halts_once m e d ss placed (later {n = k} a h) n f b ts q (now x) = let r = next_once I good zeroed t m placed room (To k) (Out f b) a (subst (λ i. IsNext I zeroed t i (Out f b)) q x) in absurd (cc)
  halts_once m e d ss placed (later {n = k} a h) n f b ts q (later {n = l} x i) =
      let r = next_once I good zeroed t m placed room (To k) (To l) a (subst (λ i. IsNext I zeroed t i (To l)) q x) in
      let s : l ≡ k = cc in
      halts_once k e d ss (next_placed I zeroed t m k placed a) h l f b ts s i

  runs_once : (c : Clock) (e f : End) (d b : Clock) (p : IsRun I zeroed t c e d) (q : IsRun I zeroed t c f b) → (e ≡ f) × (d ≡ b) × (p.last.statuses ≡ q.last.statuses)
  runs_once c e f d b p q =
      let x = from_first c p.last e d p.last.statuses p.comes (now p.ends) in
      let y = from_first c q.last f b q.last.statuses q.comes (now q.ends) in
      let s : y.statuses ≡ x.statuses = one_fresh I y.statuses x.statuses y.fresh x.fresh in
      halts_once (record { statuses = x.statuses; clock = c }) e d p.last.statuses (fresh_placed I x.statuses x.fresh) x.halts (record { statuses = y.statuses; clock = c }) f b q.last.statuses (ap (λ z. record { statuses = z; clock = c }) s) y.halts

pub run_once : (I : Instance) (zeroed : Bool) (t : Terms) (c : Clock) (e f : End) (d b : Clock) → IsInstance I → Run I zeroed t c e d → Run I zeroed t c f b → (e ≡ f) × (d ≡ b)
run_once I zeroed t c e f d b good (inl (k, p, g, h)) (inl (l, q, i, j)) =
    let s : k ≡ l = by_lt k l (λ x. absurd (q.before k x p.empty)) (λ x. by_lt l k (λ y. absurd (p.before l y q.empty)) (λ y. omega arith)) in
    (g ∙ ap Clash s ∙ sym i, h ∙ sym j)
run_once I zeroed t c e f d b good (inl (k, p, g, h)) (inr r) = absurd (r.room k p.inside p.empty)
run_once I zeroed t c e f d b good (inr r) (inl (k, p, g, h)) = absurd (r.room k p.inside p.empty)
run_once I zeroed t c e f d b good (inr p) (inr q) = let r = runs_once I good p.room zeroed t c e f d b p q in (r.0, r.1)

-- and one last basis
pub basis_once : (I : Instance) (zeroed : Bool) (t : Terms) (c : Clock) (e f : End) (d b : Clock) (ss ts : List Status) → IsInstance I → EndsAtBasis I zeroed t c e d ss → EndsAtBasis I zeroed t c f b ts → ss ≡ ts
basis_once I zeroed t c e f d b us ts good p q = let r = runs_once I good p.run.room zeroed t c e f d b p.run q.run in sym p.basis ∙ r.2 ∙ q.basis

pub comes_once : (I : Instance) (zeroed : Bool) (t : Terms) (c : Clock) (m : Moment) (a b : Next) → IsInstance I → HasNoClash I → ComesInRun I zeroed t c m → IsNext I zeroed t m a → IsNext I zeroed t m b → a ≡ b
comes_once I zeroed t c m a b good room k = next_once I good zeroed t m (comes_placed k) room a b
