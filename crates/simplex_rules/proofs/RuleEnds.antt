-- A run by legal rules none of whose choices has two answers has one end.
use Rattle.std.proofs.Common.{◌≡◌, ℕ, inl, inr, Bool, true, false, Option, None, Some, List, sym, ◌∙◌, ap, subst, arith}
use Rattle.rational.specs.Ratio.{Ratio}
use Rattle.evidence.specs.Instance.{Instance, IsInstance, column_at}
use Rattle.evidence.proofs.Columns.{by_lt, column-numbers}
use Rattle.bases.specs.Dictionary.{Entries, Values}
use Rattle.bases.specs.Program.{goal_column}
use Rattle.simplex_rules.specs.declared.columns.Status.{Status}
use Rattle.simplex_rules.specs.declared.columns.Way.{Way}
use Rattle.simplex_rules.specs.declared.columns.Way.TheVariants.{Fall}
use Rattle.simplex_rules.specs.Statuses.{HasDictionary, HasValues, IsPlaced}
use Rattle.simplex_rules.specs.Turns.{NoLimit, pivoted, missed_status, left_status}
use Rattle.simplex_rules.specs.Widths.{ValuesFit}
use Rattle.simplex_rules.specs.Ends.{Terms, Clock, Clash}
use Rattle.simplex_rules.specs.Reports.{IsBoundAt, bound_sum, movement, multipliers_of}
use Rattle.simplex_rules.specs.Runs.{HasNoClash}
use Rattle.simplex_rules.specs.Rules.{View, Given, Swap, Rules, IsSeen, AreLegalRules, AreSingleRules}
use Rattle.simplex_rules.specs.RuleRuns.{handed_on, Finish, Ends, Passed, MomentBy, NextBy, To, Out, PassesTurnBy, BeginsTurnBy, view, MovesBy, RepairsBy, EntersBy, OutBy, ImprovesBy, ChoosesBy, WeighsBy, GoesByValues, IsNextBy, ComesBy, begins, goes_on, IsRunBy, RunBy}
use Rattle.simplex_rules.proofs.Soundness.{bound_number}
use Rattle.simplex_rules.proofs.OneEnd.{one_reduced, one_dictionary, one_values, one_point, misses_once, moves_once}
use Rattle.simplex_rules.proofs.RuleMoments.{seen, next_placed}

module _ (N : Type 0) where
  passes_once : (t : Terms) (c : Clock) (ss : List Status) (k : N) (a b : NextBy N) → PassesTurnBy t c ss k a → PassesTurnBy t c ss k b → a ≡ b
  passes_once t c ss k a b (inl (e, f)) (inl (g, h)) = f ∙ sym h
  passes_once t c ss k a b (inl (e, f)) (inr (inl (g, h, i))) = absurd (e g)
  passes_once t c ss k a b (inl (e, f)) (inr (inr (g, h, i))) = absurd (e g)
  passes_once t c ss k a b (inr (inl (g, h, i))) (inl (e, f)) = absurd (e g)
  passes_once t c ss k a b (inr (inl (g, h, i))) (inr (inl (j, o, l))) = i ∙ sym l
  passes_once t c ss k a b (inr (inl (g, h, i))) (inr (inr (j, o, l))) = absurd (o h)
  passes_once t c ss k a b (inr (inr (g, h, i))) (inl (e, f)) = absurd (e g)
  passes_once t c ss k a b (inr (inr (g, h, i))) (inr (inl (j, o, l))) = absurd (h o)
  passes_once t c ss k a b (inr (inr (g, h, i))) (inr (inr (j, o, l))) = i ∙ sym l

  turns_once : (t : Terms) (c : Clock) (F : Type 0) (ss : List Status) (k l : N) (a b : NextBy N) → k ≡ l → BeginsTurnBy t c F ss k a → BeginsTurnBy t c F ss l b → a ≡ b
  turns_once t c F ss k l a b same p q = by (subst (λ z. BeginsTurnBy t c F ss z a) same p) q
    where
      by : BeginsTurnBy t c F ss l a → BeginsTurnBy t c F ss l b → a ≡ b
      by (inl (e, f)) (inl (g, h)) = f ∙ sym h
      by (inl (e, f)) (inr (inl (g, h, i))) = absurd (omega arith)
      by (inl (e, f)) (inr (inr (g, h, i))) = absurd (omega arith)
      by (inr (inl (g, h, i))) (inl (e, f)) = absurd (omega arith)
      by (inr (inl (g, h, i))) (inr (inl (j, o, n))) = i ∙ sym n
      by (inr (inl (g, h, i))) (inr (inr (j, o, n))) = absurd (h o)
      by (inr (inr (g, h, i))) (inl (e, f)) = absurd (omega arith)
      by (inr (inr (g, h, i))) (inr (inl (j, o, n))) = absurd (o h)
      by (inr (inr (g, h, i))) (inr (inr (j, o, n))) = passes_once t _ ss l a b i n

module _ (R : Rules) (legal : AreLegalRules R) (single : AreSingleRules R) (I : Instance) (good : IsInstance I) (room : HasNoClash I) (zeroed : Bool) (t : Terms) (m : MomentBy R.Note) (placed : IsPlaced I m.statuses) (u : Entries) (dict : HasDictionary I zeroed m.statuses u) (w : Values) (fit : ValuesFit I m.statuses u) (values : HasValues I m.statuses u w) where
  abbrev ss : List Status
  ss = m.statuses

  abbrev goal : ℕ
  goal = goal_column I

  abbrev V : View R.Note
  V = view R I zeroed t m u w

  abbrev sees : IsSeen V
  sees = seen R I zeroed t m u w good room placed dict fit values

  -- where none stops it, none does
  limited : (n : ℕ) (way : Way) (b : ℕ) → NoLimit I ss u w n way → R.Stops V n way b → ⊥
  limited n way b f p = let s = legal.stops V n way b sees p in let e = f b s.0 in let g = s.1.1 in let h : None ≡ Some s.1.0 = sym e ∙ g in cc

  one_bound : (z : Bool) (x y : Ratio) → IsBoundAt z I ss u x → IsBoundAt z I ss u y → x ≡ y
  one_bound true x y p q = p ∙ sym q
  one_bound false x y p q = one_reduced x y (bound_sum I ss u) (bound_number I good zeroed ss u dict placed room) p.0 q.0 p.1 q.1

  moves_by_once : (n : ℕ) (way : Way) (a b : NextBy R.Note) → MovesBy R I zeroed t m u w n way a → MovesBy R I zeroed t m u w n way b → a ≡ b
  moves_by_once n way a b (inl (f, e)) (inl (g, h)) = e ∙ sym h
  moves_by_once n way a b (inl (f, e)) (inr (inl (x, d, g, i, p, q, h))) = absurd (f g)
  moves_by_once n way a b (inl (f, e)) (inr (inr (inl (k, g, l, o, h)))) = absurd (f g)
  moves_by_once n way a b (inl (f, e)) (inr (inr (inr (c, k, g, l, i, o, h)))) = absurd (f g)
  moves_by_once n way a b (inr (inl (x, d, g, i, p, q, h))) (inl (f, e)) = absurd (f g)
  moves_by_once n way a b (inr (inl (x, d, g, i, p, q, h))) (inr (inl (y, e, k, l, r, s, j))) =
      let ex : x ≡ y = one_point I w x y p r in
      let ed : d ≡ e = one_point I (movement ss u n way) d e q s in cc
  moves_by_once n way a b (inr (inl (x, d, g, i, p, q, h))) (inr (inr (inl (k, f, l, o, j)))) = absurd (limited n way n i l)
  moves_by_once n way a b (inr (inl (x, d, g, i, p, q, h))) (inr (inr (inr (c, k, f, l, j, o, e)))) = absurd (limited n way c i l)
  moves_by_once n way a b (inr (inr (inl (k, g, l, o, h)))) (inl (f, e)) = absurd (f g)
  moves_by_once n way a b (inr (inr (inl (k, f, l, o, j)))) (inr (inl (x, d, g, i, p, q, h))) = absurd (limited n way n i l)
  moves_by_once n way a b (inr (inr (inl (k, g, l, o, h)))) (inr (inr (inl (r, i, j, p, q)))) = turns_once R.Note t m.clock _ _ k r a b (single.notes V _ k r sees o p) h q
  moves_by_once n way a b (inr (inr (inl (k, g, l, o, h)))) (inr (inr (inr (c, r, i, j, d, p, q)))) = absurd (d (sym (single.stops V n way n c sees l j)))
  moves_by_once n way a b (inr (inr (inr (c, k, g, l, i, o, h)))) (inl (f, e)) = absurd (f g)
  moves_by_once n way a b (inr (inr (inr (c, k, f, l, j, o, e)))) (inr (inl (x, d, g, i, p, q, h))) = absurd (limited n way c i l)
  moves_by_once n way a b (inr (inr (inr (c, k, i, j, d, o, h)))) (inr (inr (inl (r, g, l, p, q)))) = absurd (d (single.stops V n way c n sees j l))
  moves_by_once n way a b (inr (inr (inr (c, k, i, j, d, o, h)))) (inr (inr (inr (e, r, f, g, l, p, q)))) =
      let s : c ≡ e = single.stops V n way c e sees j g in
      let o' : R.Notes V (Swap e n (left_status I u e n way)) k = subst (λ z. R.Notes V (Swap z n (left_status I u z n way)) k) s o in
      turns_once R.Note t m.clock _ _ k r a b (single.notes V _ k r sees o' p) (subst (λ z. BeginsTurnBy t m.clock (R.SwapFits V z n) (pivoted ss z n (left_status I u z n way)) k a) s h) q

  repairs_once : (g : ℕ) (wanted : Way) (a b : NextBy R.Note) → RepairsBy R I zeroed t m u w g wanted a → RepairsBy R I zeroed t m u w g wanted b → a ≡ b
  repairs_once g wanted a b (inl (f, e)) (inl (h, i)) = e ∙ sym i
  repairs_once g wanted a b (inl (f, e)) (inr (c, v, k, h, o, i)) = let l = legal.enters V g wanted c v sees h in absurd (f c l.0 v l.1)
  repairs_once g wanted a b (inr (c, v, k, h, o, i)) (inl (f, e)) = let l = legal.enters V g wanted c v sees h in absurd (f c l.0 v l.1)
  repairs_once g wanted a b (inr (c, v, k, h, o, i)) (inr (d, x, r, j, p, l)) =
      let q : c ≡ d = single.enters V g wanted c d v x sees h j in
      let o' : R.Notes V (Swap g d (missed_status wanted (column_at I g))) k = subst (λ z. R.Notes V (Swap g z (missed_status wanted (column_at I g))) k) q o in
      turns_once R.Note t m.clock _ _ k r a b (single.notes V _ k r sees o' p) (subst (λ z. BeginsTurnBy t m.clock (R.SwapFits V g z) (pivoted ss g z (missed_status wanted (column_at I g))) k a) q i) l

  enters_once : (g : ℕ) (wanted : Way) (a b : NextBy R.Note) → EntersBy R I zeroed t m u w g wanted a → EntersBy R I zeroed t m u w g wanted b → a ≡ b
  enters_once g wanted a b (inl (f, e)) (inl (h, i)) = e ∙ sym i
  enters_once g wanted a b (inl (f, e)) (inr (h, i)) = absurd (f h)
  enters_once g wanted a b (inr (h, i)) (inl (f, e)) = absurd (f h)
  enters_once g wanted a b (inr (h, i)) (inr (j, k)) = repairs_once g wanted a b i k

  out_once : (g : ℕ) (wanted : Way) (a b : NextBy R.Note) → OutBy R I zeroed t m u w g wanted a → OutBy R I zeroed t m u w g wanted b → a ≡ b
  out_once g wanted a b (inl (c, p, e)) (inl (d, q, f)) =
      let s : c ≡ d = one_bound false c d p.bound q.bound in
      e ∙ ap (λ z. Out (Passed z (multipliers_of I u goal Fall)) m.clock) s ∙ sym f
  out_once g wanted a b (inl (c, p, e)) (inr (not, q)) = absurd (not c p)
  out_once g wanted a b (inr (not, p)) (inl (d, q, f)) = absurd (not d q)
  out_once g wanted a b (inr (not, p)) (inr (nor, q)) = enters_once g wanted a b p q

  improves_once : (a b : NextBy R.Note) → ImprovesBy R I zeroed t m u w a → ImprovesBy R I zeroed t m u w b → a ≡ b
  improves_once a b (inl (f, z, g, e)) (inl (h, y, i, j)) = e ∙ sym j
  improves_once a b (inl (f, z, g, e)) (inr (inl (c, x, h, i, p, q, j))) = absurd (g (i z))
  improves_once a b (inl (f, z, g, e)) (inr (inr (c, v, h, i))) = let l = legal.improves V c v sees h in absurd (f c l.0 v l.1)
  improves_once a b (inr (inl (c, x, h, i, p, q, j))) (inl (f, z, g, e)) = absurd (g (i z))
  improves_once a b (inr (inl (c, x, h, i, p, q, j))) (inr (inl (d, y, k, l, r, s, e))) =
      let ec : c ≡ d = one_bound zeroed c d p r in
      let ex : x ≡ y = one_point I w x y q s in cc
  improves_once a b (inr (inl (c, x, f, i, p, q, j))) (inr (inr (d, v, h, k))) = let l = legal.improves V d v sees h in absurd (f d l.0 v l.1)
  improves_once a b (inr (inr (c, v, h, i))) (inl (f, z, g, e)) = let l = legal.improves V c v sees h in absurd (f c l.0 v l.1)
  improves_once a b (inr (inr (d, v, h, k))) (inr (inl (c, x, f, i, p, q, j))) = let l = legal.improves V d v sees h in absurd (f d l.0 v l.1)
  improves_once a b (inr (inr (c, v, h, i))) (inr (inr (d, x, k, l))) =
      let q : c ≡ d = single.improves V c d v x sees h k in
      let h' : R.Improves V d v = subst (λ z. R.Improves V z v) q h in
      let y = legal.improves V d v sees h' in
      let z = legal.improves V d x sees k in
      let r : v ≡ x = moves_once Fall (u goal d) v x (let o = y.1 in o.moves) (let o = z.1 in o.moves) in
      let i' : MovesBy R I zeroed t m u w d v a = subst (λ z. MovesBy R I zeroed t m u w z v a) q i in
      moves_by_once d x a b (subst (λ z. MovesBy R I zeroed t m u w d z a) r i') l

  steps_once : (a b : NextBy R.Note) → ChoosesBy R I zeroed t m u w a → ChoosesBy R I zeroed t m u w b → a ≡ b
  steps_once a b (inl (c, v, p, e)) (inl (d, x, q, f)) =
      let k : c ≡ d = single.leaves V c d v x sees p q in
      let p' : R.Leaves V d v = subst (λ z. R.Leaves V z v) k p in
      let y = legal.leaves V d v sees p' in
      let z = legal.leaves V d x sees q in
      let r : v ≡ x = misses_once (column_at I d) (w d) (column-numbers I good d) (let n = values.reduced d in n.0) (room d y.0) v x (let o = y.1 in o.misses) (let o = z.1 in o.misses) in
      let e' : OutBy R I zeroed t m u w d v a = subst (λ z. OutBy R I zeroed t m u w z v a) k e in
      out_once d x a b (subst (λ z. OutBy R I zeroed t m u w d z a) r e') f
  steps_once a b (inl (c, v, p, e)) (inr (f, g)) = let l = legal.leaves V c v sees p in absurd (f c l.0 v l.1)
  steps_once a b (inr (f, g)) (inl (c, v, p, e)) = let l = legal.leaves V c v sees p in absurd (f c l.0 v l.1)
  steps_once a b (inr (f, g)) (inr (h, i)) = improves_once a b g i

  weighs_once : (a b : NextBy R.Note) → WeighsBy R I zeroed t m u w a → WeighsBy R I zeroed t m u w b → a ≡ b
  weighs_once a b (inl (f, e)) (inl (g, h)) = e ∙ sym h
  weighs_once a b (inl (f, e)) (inr (g, h)) = absurd (f g)
  weighs_once a b (inr (g, h)) (inl (f, e)) = absurd (f g)
  weighs_once a b (inr (f, e)) (inr (g, h)) = steps_once a b e h

module _ (R : Rules) (legal : AreLegalRules R) (single : AreSingleRules R) (I : Instance) (good : IsInstance I) (room : HasNoClash I) (zeroed : Bool) (t : Terms) where
  -- each moment has one next
  pub next_once : (m : MomentBy R.Note) → IsPlaced I m.statuses → (a b : NextBy R.Note) → IsNextBy R I zeroed t m a → IsNextBy R I zeroed t m b → a ≡ b
  next_once m placed a b (u, d, x) (v, e, y) =
      same (subst (λ z. GoesByValues R I zeroed t m z a) (one_dictionary I good zeroed m.statuses placed room u v d e) x) y
    where
      same : GoesByValues R I zeroed t m v a → GoesByValues R I zeroed t m v b → a ≡ b
      same (inl (f, g)) (inl (h, i)) = g ∙ sym i
      same (inl (f, g)) (inr (w, h, i, j)) = absurd (f h)
      same (inr (w, h, i, j)) (inl (f, g)) = absurd (f h)
      same (inr (w, h, i, j)) (inr (x, k, l, n)) =
          let q : w ≡ x = one_values I good zeroed m.statuses placed room v w x e i l in
          weighs_once R legal single I good room zeroed t m placed v e x k l a b (subst (λ z. WeighsBy R I zeroed t m v z a) q j) n

  -- the moments from one on, to the end, and what is handed on there
  data Halts : MomentBy R.Note → Finish → Clock → Given → Type 0 where
    now : {m : MomentBy R.Note} {e : Finish} {d : Clock} → IsNextBy R I zeroed t m (Out e d) → Halts m e d (handed_on m.statuses)
    later : {m n : MomentBy R.Note} {e : Finish} {d : Clock} {h : Given} → IsNextBy R I zeroed t m (To n) → Halts n e d h → Halts m e d h

  record Begun (g : Given) (best : Option Ratio) (c : Clock) (e : Finish) (d : Clock) (h : Given) : Type 0 where
    statuses : List Status
    note : R.Note
    fresh : R.Begins g best I zeroed statuses note
    halts : Halts (record { statuses = statuses; note = note; clock = c }) e d h

  from_first : (g : Given) (best : Option Ratio) (c : Clock) (m : MomentBy R.Note) (e : Finish) (d : Clock) (h : Given) → ComesBy R I zeroed t g best c m → Halts m e d h → Begun g best c e d h
  from_first g best c m e d us (begins {ss = first} {k} f) h = record { statuses = first; note = k; fresh = f; halts = h }
  from_first g best c m e d us (goes_on {m = before} k next) h = from_first g best c before e d us k (later next h)

  halts_once : (m : MomentBy R.Note) (e : Finish) (d : Clock) (h : Given) → IsPlaced I m.statuses → Halts m e d h → (n : MomentBy R.Note) (f : Finish) (b : Clock) (j : Given) → n ≡ m → Halts n f b j → (e ≡ f) × (d ≡ b) × (h ≡ j)
  halts_once m e d ss placed (now a) n f b ts q (now x) = let r = next_once m placed (Out e d) (Out f b) a (subst (λ k. IsNextBy R I zeroed t k (Out f b)) q x) in (cc, cc, ap (λ k. handed_on k.statuses) (sym q))
  halts_once m e d ss placed (now a) n f b ts q (later {n = k} x h) = let r = next_once m placed (Out e d) (To k) a (subst (λ i. IsNextBy R I zeroed t i (To k)) q x) in absurd (cc)
  halts_once m e d ss placed (later {n = k} a h) n f b ts q (now x) = let r = next_once m placed (To k) (Out f b) a (subst (λ i. IsNextBy R I zeroed t i (Out f b)) q x) in absurd (cc)
  halts_once m e d ss placed (later {n = k} a h) n f b ts q (later {n = l} x i) =
      let r = next_once m placed (To k) (To l) a (subst (λ i. IsNextBy R I zeroed t i (To l)) q x) in
      let s : l ≡ k = cc in
      halts_once k e d ss (next_placed R legal I good room zeroed t m k placed a) h l f b ts s i

  pub runs_once : (g : Given) (best : Option Ratio) (c : Clock) (e f : Finish) (d b : Clock) (p : IsRunBy R I zeroed t g best c e d) (q : IsRunBy R I zeroed t g best c f b) → (e ≡ f) × (d ≡ b) × (handed_on p.last.statuses ≡ handed_on q.last.statuses)
  runs_once g best c e f d b p q =
      let x = from_first g best c p.last e d (handed_on p.last.statuses) p.comes (now p.ends) in
      let y = from_first g best c q.last f b (handed_on q.last.statuses) q.comes (now q.ends) in
      let s = single.begins g best I zeroed y.statuses x.statuses y.note x.note good room y.fresh x.fresh in
      let r : record_of y.statuses y.note c ≡ record_of x.statuses x.note c = ap (λ z. record_of z y.note c) s.0 ∙ ap (λ z. record_of x.statuses z c) s.1 in
      halts_once (record_of x.statuses x.note c) e d (handed_on p.last.statuses) (legal.begins g best I zeroed x.statuses x.note good room x.fresh) x.halts (record_of y.statuses y.note c) f b (handed_on q.last.statuses) r y.halts
    where
      record_of : List Status → R.Note → Clock → MomentBy R.Note
      record_of ss k c = record { statuses = ss; note = k; clock = c }

pub run_once : (R : Rules) (I : Instance) (zeroed : Bool) (t : Terms) (g : Given) (best : Option Ratio) (c : Clock) (e f : Finish) (d b : Clock) (h j : Given) → AreLegalRules R → AreSingleRules R → IsInstance I → RunBy R I zeroed t g best c e d h → RunBy R I zeroed t g best c f b j → (e ≡ f) × (d ≡ b) × (h ≡ j)
run_once R I zeroed t given best c e f d b hand other legal single good (inl (k, p, g, h, i)) (inl (l, q, j, o, n)) =
    let s : k ≡ l = by_lt k l (λ x. absurd (q.before k x p.empty)) (λ x. by_lt l k (λ y. absurd (p.before l y q.empty)) (λ y. omega arith)) in
    (g ∙ ap (λ k. Ends (Clash k)) s ∙ sym j, h ∙ sym o, i ∙ sym n)
run_once R I zeroed t given best c e f d b hand other legal single good (inl (k, p, g, h, i)) (inr (r, n)) = absurd (r.room k p.inside p.empty)
run_once R I zeroed t given best c e f d b hand other legal single good (inr (r, n)) (inl (k, p, g, h, i)) = absurd (r.room k p.inside p.empty)
run_once R I zeroed t given best c e f d b hand other legal single good (inr (p, i)) (inr (q, n)) =
    let r = runs_once R legal single I good p.room zeroed t given best c e f d b p q in (r.0, r.1, i ∙ r.2 ∙ sym n)
