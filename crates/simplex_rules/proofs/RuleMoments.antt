-- At each moment of a run by legal rules each column has its place, and the ends of the run are true.
use Rattle.std.proofs.Common.{◌≡◌, ℕ, ◌<◌, inl, inr, Bool, false, Option, None, Some, List, refl, sym, subst}
use Rattle.std.specs.Prelude.{slice_set}
use Rattle.std.proofs.lemmas.Bool.{eq-eqb, ne_eqb}
use Rattle.rational.specs.Ratio.{Ratio, IsNumber}
use Rattle.evidence.specs.Instance.{Range, Instance, IsInstance, HasNumbers, column_at}
use Rattle.evidence.proofs.Columns.{by_bool, column-numbers}
use Rattle.certificate.specs.declared.causes.Step.TheVariants as At
use Rattle.bases.specs.Dictionary.{Entries, Values}
use Rattle.bases.specs.Program.{goal_column}
use Rattle.simplex_rules.specs.declared.columns.Status.{Status}
use Rattle.simplex_rules.specs.declared.columns.Status.TheVariants.{Basic}
use Rattle.simplex_rules.specs.declared.columns.Way.{Way}
use Rattle.simplex_rules.specs.declared.columns.Way.TheVariants.{Rise, Fall}
use Rattle.simplex_rules.specs.Statuses.{status_at, basic_in, HasDictionary, HasValues, HasPlace, IsPlaced}
use Rattle.simplex_rules.specs.Turns.{rate, MovesIn, Can, missed_status, reached_status, left_status, NoneOut, Helps, NoneHelps, until_by, across}
use Rattle.simplex_rules.specs.Widths.{ValuesFit}
use Rattle.simplex_rules.specs.Ends.{Terms, Clock, Empty, Best, Endless, TurnsOut, TooWide, Stopped}
use Rattle.simplex_rules.specs.Reports.{IsBoundAt, multipliers_of}
use Rattle.simplex_rules.specs.Runs.{HasNoClash}
use Rattle.simplex_rules.specs.Rules.{View, Given, Rules, IsSeen, AreLegalRules}
use Rattle.simplex_rules.specs.RuleRuns.{Finish, Ends, Passed, ShownBy, MomentBy, To, Out, PassesTurnBy, BeginsTurnBy, view, MovesBy, ChoosesBy, WeighsBy, IsNextBy, ComesBy, begins, goes_on, RunBy}
use Rattle.simplex_rules.proofs.Facts.{has_number}
use Rattle.simplex_rules.proofs.Soundness.{end_missed, farkas, basic_is, relaxed, best, bounds, direction, not_zeroed}
use Rattle.simplex_rules.proofs.Moments.{placed_set, missed_place, reached_place, flipped_place, misses_end}

module _ (N : Type 0) where
  passes_on : (P : List Status → Type 0) (t : Terms) (c : Clock) (ss : List Status) (k : N) (n : MomentBy N) → P ss → PassesTurnBy t c ss k (To n) → P n.statuses
  passes_on P t c ss k n p (inl (a, e)) = subst P (let f : ss ≡ n.statuses = cc in f) p
  passes_on P t c ss k n p (inr (inl (a, b, e))) = absurd (cc)
  passes_on P t c ss k n p (inr (inr (a, b, e))) = subst P (let f : ss ≡ n.statuses = cc in f) p

  turns_on : (P : List Status → Type 0) (t : Terms) (c : Clock) (F : Type 0) (ss : List Status) (k : N) (n : MomentBy N) → P ss → BeginsTurnBy t c F ss k (To n) → P n.statuses
  turns_on P t c F ss k n p (inl (a, e)) = absurd (cc)
  turns_on P t c F ss k n p (inr (inl (a, b, e))) = absurd (cc)
  turns_on P t c F ss k n p (inr (inr (a, b, e))) = passes_on P t _ ss k n p e

-- what a run by legal rules sees at a placed moment
pub seen : (R : Rules) (I : Instance) (zeroed : Bool) (t : Terms) (m : MomentBy R.Note) (u : Entries) (w : Values) → IsInstance I → HasNoClash I → IsPlaced I m.statuses → HasDictionary I zeroed m.statuses u → ValuesFit I m.statuses u → HasValues I m.statuses u w → IsSeen (view R I zeroed t m u w)
seen R I zeroed t m u w good room placed d f v = record { good = good; room = room; placed = placed; dictionary = d; fit = f; columns = v }

module _ (R : Rules) (legal : AreLegalRules R) (I : Instance) (good : IsInstance I) (room : HasNoClash I) (zeroed : Bool) (t : Terms) (m : MomentBy R.Note) (u : Entries) (w : Values) (placed : IsPlaced I m.statuses) (dict : HasDictionary I zeroed m.statuses u) (fit : ValuesFit I m.statuses u) (values : HasValues I m.statuses u w) where
  abbrev V : View R.Note
  V = view R I zeroed t m u w

  abbrev sees : IsSeen V
  sees = seen R I zeroed t m u w good room placed dict fit values

  abbrev after : MomentBy R.Note → Type 0
  after n = IsPlaced I n.statuses

  moves_placed : (c : ℕ) (way : Way) (n : MomentBy R.Note) → Helps I m.statuses u w (goal_column I) Fall c way → MovesBy R I zeroed t m u w c way (To n) → after n
  moves_placed c way n h (inl (a, e)) = absurd (cc)
  moves_placed c way n h (inr (inl (x, d, f, g, p, q, e))) = absurd (cc)
  moves_placed c way n h (inr (inr (inl (k, f, l, o, e)))) =
      let s = legal.stops V c way c sees l in
      let a = s.1.1 in
      let b = h.nonbasic in
      let r : c ≡ c = refl in
      let o : across (column_at I c).lb (column_at I c).ub ≡ Some s.1.0 = rw (b, eq-eqb c c r) at a in
      turns_on R.Note (IsPlaced I) t m.clock _ _ _ n (placed_set I m.statuses c (reached_status way (column_at I c)) placed (flipped_place way (column_at I c) s.1.0 o)) e
  moves_placed c way n h (inr (inr (inr (b, k, f, l, d, o, e)))) =
      let s = legal.stops V c way b sees l in
      let o : HasPlace (column_at I b) (left_status I u b c way) =
      by_bool (basic_in m.statuses b)
      (λ i. let a = s.1.1 in let k : until_by (rate way (u b c)).num (column_at I b) (w b) (rate way (u b c)) ≡ Some s.1.0 = rw i at a in reached_place (rate way (u b c)).num (column_at I b) (w b) (rate way (u b c)) s.1.0 k)
      (λ i. let a = s.1.1 in let k : None ≡ Some s.1.0 = rw (i, ne_eqb b c d) at a in absurd (cc)) in
      turns_on R.Note (IsPlaced I) t m.clock _ _ _ n (placed_set I (slice_set m.statuses b (left_status I u b c way)) c Basic (placed_set I m.statuses b (left_status I u b c way) placed o) tt) e

  steps_placed : (n : MomentBy R.Note) → ChoosesBy R I zeroed t m u w (To n) → after n
  steps_placed n (inl (b, wanted, out, inl (c, p, e))) = absurd (cc)
  steps_placed n (inl (b, wanted, out, inr (not, inl (wide, e)))) = absurd (cc)
  steps_placed n (inl (b, wanted, out, inr (not, inr (fits, inl (off, e))))) = absurd (cc)
  steps_placed n (inl (b, wanted, out, inr (not, inr (fits, inr (c, way, k, help, o, e))))) =
      let l = legal.leaves V b wanted sees out in
      turns_on R.Note (IsPlaced I) t m.clock _ _ _ n (placed_set I (slice_set m.statuses b (missed_status wanted (column_at I b))) c Basic (placed_set I m.statuses b (missed_status wanted (column_at I b)) placed (missed_place wanted (column_at I b) (w b) (let x = l.1 in x.misses))) tt) e
  steps_placed n (inr (none_out, inl (off, z, f, e))) = absurd (cc)
  steps_placed n (inr (none_out, inr (inl (b, x, off, f, p, q, e)))) = absurd (cc)
  steps_placed n (inr (none_out, inr (inr (c, way, help, e)))) = let h = legal.improves V c way sees help in moves_placed c way n h.1 e

  weighs_placed : (n : MomentBy R.Note) → WeighsBy R I zeroed t m u w (To n) → after n
  weighs_placed n (inl (wide, e)) = absurd (cc)
  weighs_placed n (inr (fits, s)) = steps_placed n s

  abbrev IsTrueOf : Finish → Type 0
  IsTrueOf e = ShownBy zeroed I e

  passes_true : (c : Clock) (ss : List Status) (k : R.Note) (e : Finish) (d : Clock) → PassesTurnBy t c ss k (Out e d) → IsTrueOf e
  passes_true c ss k e d (inl (a, f)) = absurd (cc)
  passes_true c ss k e d (inr (inl (a, b, f))) = subst IsTrueOf (let g : Ends Stopped ≡ e = cc in g) tt
  passes_true c ss k e d (inr (inr (a, b, f))) = absurd (cc)

  turns_true : (c : Clock) (F : Type 0) (ss : List Status) (k : R.Note) (e : Finish) (d : Clock) → BeginsTurnBy t c F ss k (Out e d) → IsTrueOf e
  turns_true c F ss k e d (inl (a, f)) = subst IsTrueOf (let g : Ends TurnsOut ≡ e = cc in g) tt
  turns_true c F ss k e d (inr (inl (a, b, f))) = subst IsTrueOf (let g : Ends (TooWide At.Pivot) ≡ e = cc in g) tt
  turns_true c F ss k e d (inr (inr (a, b, f))) = passes_true _ ss k e d f

  off_helps : (g : ℕ) (wanted : Way) → NoneHelps I m.statuses u w g wanted → (k : ℕ) → k < goal_column I → (v : Way) → basic_in m.statuses k ≡ false → Can v (column_at I k) (status_at m.statuses k) → MovesIn wanted (rate v (u g k)) → ⊥
  off_helps g wanted off k h v b c x = off k h v (record { nonbasic = b; can = c; moves = x })

  moves_true : (c : ℕ) (way : Way) (e : Finish) (d : Clock) → NoneOut I m.statuses u w → c < goal_column I → Helps I m.statuses u w (goal_column I) Fall c way → MovesBy R I zeroed t m u w c way (Out e d) → IsTrueOf e
  moves_true c way e d none_out i h (inl (a, f)) = subst IsTrueOf (let g : Ends (TooWide At.Ratio) ≡ e = cc in g) tt
  moves_true c way e d none_out i h (inr (inl (x, v, f, free, p, q, g))) =
      subst IsTrueOf (let k : Ends (Endless x v) ≡ e = cc in k) (
        not_zeroed I good zeroed m.statuses u dict placed room c way w i h free v q,
        relaxed I good zeroed m.statuses u dict placed room w values x p none_out,
        direction I good zeroed m.statuses u dict placed room c way w i h free v q,
      )
  moves_true c way e d none_out i h (inr (inr (inl (k, f, l, o, g)))) = turns_true m.clock _ _ k e d g
  moves_true c way e d none_out i h (inr (inr (inr (b, k, f, l, n, o, g)))) = turns_true m.clock _ _ k e d g

  steps_true : (e : Finish) (d : Clock) → ChoosesBy R I zeroed t m u w (Out e d) → IsTrueOf e
  steps_true e d (inl (b, wanted, out, inl (c, p, f))) =
      subst IsTrueOf (let g : Passed c (multipliers_of I u (goal_column I) Fall) ≡ e = cc in g)
      (let q = bounds I good zeroed m.statuses u dict placed room (off_helps (goal_column I) Fall p.none_helps) p.own c p.bound.0 p.bound.1 in (p.own, q.0, q.1))
  steps_true e d (inl (b, wanted, out, inr (not, inl (wide, f)))) = subst IsTrueOf (let g : Ends (TooWide At.Ratio) ≡ e = cc in g) tt
  steps_true e d (inl (b, wanted, out, inr (not, inr (fits, inl (off, f))))) =
      let l = legal.leaves V b wanted sees out in
      let o = l.1 in
      let k = misses_end wanted (column_at I b) (w b) o.misses in
      let hn = column-numbers I good b in
      subst IsTrueOf (let g : Ends (Empty (multipliers_of I u b wanted)) ≡ e = cc in g)
      (farkas I good zeroed m.statuses u dict placed room b wanted k.0 (w b) l.0 o.basic k.1 (missed_number wanted (column_at I b) k.0 hn k.1) k.2 (basic_is I good zeroed m.statuses u dict placed room w values b l.0 o.basic) (off_helps b wanted off))
    where
      missed_number : (w : Way) (r : Range) (e : Ratio) → HasNumbers r → end_missed w r ≡ Some e → IsNumber e
      missed_number Rise r e h p = has_number r.lb e h.0 p
      missed_number Fall r e h p = has_number r.ub e h.1 p
  steps_true e d (inl (b, wanted, out, inr (not, inr (fits, inr (c, way, k, help, o, f))))) = turns_true m.clock _ _ k e d f
  steps_true e d (inr (none_out, inl (off, z, f, g))) = subst IsTrueOf (let k : Ends (TooWide At.Point) ≡ e = cc in k) tt
  steps_true e d (inr (none_out, inr (inl (b, x, off, f, p, q, g)))) =
      subst IsTrueOf (let k : Ends (Best b x (multipliers_of I u (goal_column I) Fall)) ≡ e = cc in k) (
        relaxed I good zeroed m.statuses u dict placed room w values x q none_out,
        λ z. let r = subst (λ y. IsBoundAt y I m.statuses u b) z p in
            best I good zeroed m.statuses u dict placed room w values x q z none_out (off_helps (goal_column I) Fall off) b r.0 r.1,
      )
  steps_true e d (inr (none_out, inr (inr (c, way, help, f)))) = let h = legal.improves V c way sees help in moves_true c way e d none_out h.0 h.1 f

  weighs_true : (e : Finish) (d : Clock) → WeighsBy R I zeroed t m u w (Out e d) → IsTrueOf e
  weighs_true e d (inl (wide, f)) = subst IsTrueOf (let g : Ends (TooWide At.Values) ≡ e = cc in g) tt
  weighs_true e d (inr (fits, s)) = steps_true e d s

module _ (R : Rules) (legal : AreLegalRules R) (I : Instance) (good : IsInstance I) (room : HasNoClash I) (zeroed : Bool) (t : Terms) where
  pub next_placed : (m n : MomentBy R.Note) → IsPlaced I m.statuses → IsNextBy R I zeroed t m (To n) → IsPlaced I n.statuses
  next_placed m n p (u, d, inl (f, e)) = absurd (cc)
  next_placed m n p (u, d, inr (w, f, v, s)) = weighs_placed R legal I good room zeroed t m u w p d f v n s

  pub comes_placed : {g : Given} {best : Option Ratio} {c : Clock} {m : MomentBy R.Note} → ComesBy R I zeroed t g best c m → IsPlaced I m.statuses
  comes_placed {g} {best} {c} (begins {ss} {k} f) = legal.begins g best I zeroed ss k good room f
  comes_placed {g} {best} {c} (goes_on {m} {n} before next) = next_placed m n (comes_placed before) next

  next_true : (m : MomentBy R.Note) (e : Finish) (d : Clock) → IsPlaced I m.statuses → IsNextBy R I zeroed t m (Out e d) → ShownBy zeroed I e
  next_true m e d p (u, dict, inl (f, g)) = subst (ShownBy zeroed I) (let k : Ends (TooWide At.Values) ≡ e = cc in k) tt
  next_true m e d p (u, dict, inr (w, f, v, s)) = weighs_true R legal I good room zeroed t m u w p dict f v e d s

pub run_true : (R : Rules) (I : Instance) (zeroed : Bool) (t : Terms) (g : Given) (best : Option Ratio) (c : Clock) (e : Finish) (d : Clock) (h : Given) → AreLegalRules R → IsInstance I → RunBy R I zeroed t g best c e d h → ShownBy zeroed I e
run_true R I zeroed t given best c e d hand legal good (inl (k, f, g, h, i)) = subst (ShownBy zeroed I) (sym g) (f.inside, f.empty)
run_true R I zeroed t given best c e d hand legal good (inr (r, i)) = next_true R legal I good r.room zeroed t r.last e d (comes_placed R legal I good r.room zeroed t r.comes) r.ends
