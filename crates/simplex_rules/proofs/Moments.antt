-- At each moment of a run each column has its place, and the ends of a run are true.
use Rattle.std.proofs.Common.{◌≡◌, ℕ, zero, suc, ◌+◌, ◌<◌, inl, inr, ℤ, pos, negsuc, Bool, false, Option, None, Some, IsSome, List, length, refl, sym, ◌∙◌, ap, subst, arith, length-set}
use Rattle.std.specs.Prelude.{slice_set, ◌-◌}
use Rattle.std.proofs.lemmas.Bool.{eq-eqb, ne_eqb}
use Rattle.std.proofs.lemmas.List.{get_or-set_same, get_or-set_other}
use Rattle.rational.specs.Ratio.{Ratio, IsNumber}
use Rattle.evidence.specs.Instance.{Range, Instance, IsInstance, HasNumbers, width, column_at}
use Rattle.evidence.proofs.Columns.{by_lt, by_eq, by_bool, column-numbers}
use Rattle.certificate.specs.declared.causes.Step.TheVariants as At
use Rattle.bases.specs.Dictionary.{Entries, Values}
use Rattle.bases.specs.Program.{goal_column}
use Rattle.simplex_rules.specs.declared.columns.Status.{Status}
use Rattle.simplex_rules.specs.declared.columns.Status.TheVariants.{Basic}
use Rattle.simplex_rules.specs.declared.columns.Way.{Way}
use Rattle.simplex_rules.specs.declared.columns.Way.TheVariants.{Rise, Fall}
use Rattle.simplex_rules.specs.Statuses.{status_at, basic_in, has_width, less, first_status, upper_status, IsFirstBasis, HasDictionary, HasValues, HasPlace, IsPlaced}
use Rattle.simplex_rules.specs.Turns.{rate, MovesIn, Can, Misses, missed_status, reached_status, NoneOut, IsFirstHelp, NoneHelps, until_by, until_end, across, way_of, left_status}
use Rattle.simplex_rules.specs.Ends.{Terms, Clock, End, Empty, Best, Endless, TurnsOut, TooWide, Stopped, Shown}
use Rattle.simplex_rules.specs.Reports.{IsBoundAt, multipliers_of}
use Rattle.simplex_rules.specs.Runs.{HasNoClash, Moment, To, Out, PassesTurn, BeginsTurn, MovesColumn, Chooses, IsNext, ComesInRun, begins, goes_on, Run}
use Rattle.simplex_rules.proofs.Facts.{some_is, has_number}
use Rattle.simplex_rules.proofs.Soundness.{end_missed, IsMissed, farkas, basic_is, relaxed, best, direction, not_zeroed}

-- the first places
first_place : (lo hi : Option Ratio) (r : Range) → r.lb ≡ lo → r.ub ≡ hi → HasPlace r (first_status lo hi)
first_place (Some l) hi r e f = some_is e
first_place None (Some h) r e f = (some_is f, rw e refl)
first_place None None r e f = (e, f)

pub fresh_placed : (I : Instance) (ss : List Status) → IsFirstBasis I ss → IsPlaced I ss
fresh_placed I ss f = record {
  count = f.count;
  places = λ c h.
      by_lt c (width I)
      (λ l. let r = column_at I c in subst (λ s. HasPlace (column_at I c) s) (sym (f.variables c l)) (first_place (column_at I c).lb (column_at I c).ub (column_at I c) refl refl))
      (λ l.
      let i = c - width I in
      let e : width I + (c - width I) ≡ c = omega arith in
      let k : width I + (c - width I) < goal_column I = omega arith in
      let s : status_at ss c ≡ Basic = ap (status_at ss) (sym e) ∙ f.rows (c - width I) k in
      subst (λ s. HasPlace (column_at I c) s) (sym s) tt);
}

pub placed_set : (I : Instance) (ss : List Status) (b : ℕ) (s : Status) → IsPlaced I ss → HasPlace (column_at I b) s → IsPlaced I (slice_set ss b s)
placed_set I ss b s p h = record {
  count = length-set ss b s ∙ p.count;
  places = λ c l.
      by_eq c b
      (λ e.
      let k : b < length ss = let n = p.count in omega arith in
      let f : status_at (slice_set ss b s) c ≡ s = ap (status_at (slice_set ss b s)) e ∙ get_or-set_same ss b s Basic k in
      subst (λ t. HasPlace (column_at I c) t) (sym f) (subst (λ i. HasPlace (column_at I i) s) (sym e) h))
      (λ d.
      let f : status_at (slice_set ss b s) c ≡ status_at ss c = get_or-set_other ss b c s Basic d in
      subst (λ t. HasPlace (column_at I c) t) (sym f) (p.places c l));
}

-- the upper end, or the lower one where they don't differ
upper_place : (r : Range) → IsSome r.ub → HasPlace r (upper_status r)
upper_place r s =
    by_bool (has_width r)
    (λ e. rw e (s, e))
    (λ e. rw e (low_some r.lb r.ub e))
  where
    low_some : (lo hi : Option Ratio) → less lo hi ≡ false → IsSome lo
    low_some None hi e = absurd (cc)
    low_some (Some l) hi e = refl

pub missed_place : (w : Way) (r : Range) (x : Ratio) → Misses w r x → HasPlace r (missed_status w r)
missed_place Rise r x (l, e, h) = some_is e
missed_place Fall r x (l, e, h) = upper_place r (some_is e)

until_some : (o : Option Ratio) (x by q : Ratio) → until_end o x by ≡ Some q → IsSome o
until_some None x by q e = absurd (cc)
until_some (Some l) x by q e = refl

pub reached_place : (z : ℤ) (r : Range) (x by q : Ratio) → until_by z r x by ≡ Some q → HasPlace r (reached_status (way_of z) r)
reached_place (pos zero) r x by q e = absurd (cc)
reached_place (pos (suc n)) r x by q e = upper_place r (until_some r.ub x by q e)
reached_place (negsuc n) r x by q e = until_some r.lb x by q e

across_some : (lo hi : Option Ratio) (q : Ratio) → across lo hi ≡ Some q → IsSome lo × IsSome hi
across_some None hi q e = absurd (cc)
across_some (Some l) None q e = absurd (cc)
across_some (Some l) (Some h) q e = (refl, refl)

pub flipped_place : (w : Way) (r : Range) (q : Ratio) → across r.lb r.ub ≡ Some q → HasPlace r (reached_status w r)
flipped_place Rise r q e = let p = across_some r.lb r.ub q e in upper_place r p.1
flipped_place Fall r q e = let p = across_some r.lb r.ub q e in p.0

passes_on : (P : List Status → Type 0) (t : Terms) (c : Clock) (ss : List Status) (n : Moment) → P ss → PassesTurn t c ss (To n) → P n.statuses
passes_on P t c ss n p (inl (a, e)) = subst P (let f : ss ≡ n.statuses = cc in f) p
passes_on P t c ss n p (inr (inl (a, b, e))) = absurd (cc)
passes_on P t c ss n p (inr (inr (a, b, e))) = subst P (let f : ss ≡ n.statuses = cc in f) p

turns_on : (P : List Status → Type 0) (t : Terms) (c : Clock) (F : Type 0) (ss : List Status) (n : Moment) → P ss → BeginsTurn t c F ss (To n) → P n.statuses
turns_on P t c F ss n p (inl (a, e)) = absurd (cc)
turns_on P t c F ss n p (inr (inl (a, b, e))) = absurd (cc)
turns_on P t c F ss n p (inr (inr (a, b, e))) = passes_on P t _ ss n p e

module _ (I : Instance) (zeroed : Bool) (t : Terms) (m : Moment) (u : Entries) (w : Values) (placed : IsPlaced I m.statuses) where
  abbrev after : Moment → Type 0
  after n = IsPlaced I n.statuses

  limits_placed : (c : ℕ) (way : Way) (n : Moment) → IsFirstHelp I m.statuses u w (goal_column I) Fall c way → MovesColumn I zeroed t m u w c way (To n) → after n
  limits_placed c way n h (inl (a, e)) = absurd (cc)
  limits_placed c way n h (inr (inl (x, d, f, g, p, q, e))) = absurd (cc)
  limits_placed c way n h (inr (inr (inl (f, l, e)))) =
      let a = l.is in
      let b = h.helps.nonbasic in
      let k : c ≡ c = refl in
      let o : across (column_at I c).lb (column_at I c).ub ≡ Some l.limit = rw (b, eq-eqb c c k) at a in
      turns_on (IsPlaced I) t m.clock _ _ n (placed_set I m.statuses c (reached_status way (column_at I c)) placed (flipped_place way (column_at I c) l.limit o)) e
  limits_placed c way n h (inr (inr (inr (b, f, l, d, e)))) =
      let s = left_status I u b c way in
      let o : HasPlace (column_at I b) (left_status I u b c way) =
      by_bool (basic_in m.statuses b)
      (λ i. let a = l.is in let k : until_by (rate way (u b c)).num (column_at I b) (w b) (rate way (u b c)) ≡ Some l.limit = rw i at a in reached_place (rate way (u b c)).num (column_at I b) (w b) (rate way (u b c)) l.limit k)
      (λ i. let a = l.is in let k : None ≡ Some l.limit = rw (i, ne_eqb b c d) at a in absurd (cc)) in
      turns_on (IsPlaced I) t m.clock _ _ n (placed_set I (slice_set m.statuses b (left_status I u b c way)) c Basic (placed_set I m.statuses b (left_status I u b c way) placed o) tt) e

  steps_placed : (n : Moment) → Chooses I zeroed t m u w (To n) → after n
  steps_placed n (inl (b, wanted, out, inl (off, e))) = absurd (cc)
  steps_placed n (inl (b, wanted, out, inr (c, way, help, e))) =
      let s = missed_status wanted (column_at I b) in
      turns_on (IsPlaced I) t m.clock _ _ n (placed_set I (slice_set m.statuses b (missed_status wanted (column_at I b))) c Basic (placed_set I m.statuses b (missed_status wanted (column_at I b)) placed (missed_place wanted (column_at I b) (w b) out.out.misses)) tt) e
  steps_placed n (inr (none_out, inl (off, z, f, e))) = absurd (cc)
  steps_placed n (inr (none_out, inr (inl (b, x, off, f, p, q, e)))) = absurd (cc)
  steps_placed n (inr (none_out, inr (inr (c, way, help, e)))) = limits_placed c way n help e

pub next_placed : (I : Instance) (zeroed : Bool) (t : Terms) (m n : Moment) → IsPlaced I m.statuses → IsNext I zeroed t m (To n) → IsPlaced I n.statuses
next_placed I zeroed t m n p (u, d, inl (f, e)) = absurd (cc)
next_placed I zeroed t m n p (u, d, inr (w, f, v, s)) = steps_placed I zeroed t m u w p n s

pub comes_placed : {I : Instance} {zeroed : Bool} {t : Terms} {c : Clock} {m : Moment} → ComesInRun I zeroed t c m → IsPlaced I m.statuses
comes_placed {I} {zeroed} {t} {c} (begins {ss} f) = fresh_placed I ss f
comes_placed {I} {zeroed} {t} {c} (goes_on {m} {n} before next) = next_placed I zeroed t m n (comes_placed before) next

-- the end of a run is true
pub misses_end : (w : Way) (r : Range) (x : Ratio) → Misses w r x → (e : Ratio) × (end_missed w r ≡ Some e) × IsMissed w e x
misses_end Rise r x h = h
misses_end Fall r x h = h

module _ (I : Instance) (good : IsInstance I) (zeroed : Bool) (t : Terms) (m : Moment) (u : Entries) (w : Values) (dict : HasDictionary I zeroed m.statuses u) (values : HasValues I m.statuses u w) (placed : IsPlaced I m.statuses) (room : HasNoClash I) where
  abbrev IsTrueOf : End → Type 0
  IsTrueOf e = Shown zeroed I e

  passes_true : (c : Clock) (ss : List Status) (e : End) (d : Clock) → PassesTurn t c ss (Out e d) → IsTrueOf e
  passes_true c ss e d (inl (a, f)) = absurd (cc)
  passes_true c ss e d (inr (inl (a, b, f))) = subst IsTrueOf (let g : Stopped ≡ e = cc in g) tt
  passes_true c ss e d (inr (inr (a, b, f))) = absurd (cc)

  turns_true : (c : Clock) (F : Type 0) (ss : List Status) (e : End) (d : Clock) → BeginsTurn t c F ss (Out e d) → IsTrueOf e
  turns_true c F ss e d (inl (a, f)) = subst IsTrueOf (let g : TurnsOut ≡ e = cc in g) tt
  turns_true c F ss e d (inr (inl (a, b, f))) = subst IsTrueOf (let g : TooWide At.Pivot ≡ e = cc in g) tt
  turns_true c F ss e d (inr (inr (a, b, f))) = passes_true _ ss e d f

  off_helps : (g : ℕ) (wanted : Way) → NoneHelps I m.statuses u w g wanted → (k : ℕ) → k < goal_column I → (v : Way) → basic_in m.statuses k ≡ false → Can v (column_at I k) (status_at m.statuses k) → MovesIn wanted (rate v (u g k)) → ⊥
  off_helps g wanted off k h v b c x = off k h v (record { nonbasic = b; can = c; moves = x })

  limits_true : (c : ℕ) (way : Way) (e : End) (d : Clock) → NoneOut I m.statuses u w → IsFirstHelp I m.statuses u w (goal_column I) Fall c way → MovesColumn I zeroed t m u w c way (Out e d) → IsTrueOf e
  limits_true c way e d none_out h (inl (a, f)) = subst IsTrueOf (let g : TooWide At.Ratio ≡ e = cc in g) tt
  limits_true c way e d none_out h (inr (inl (x, v, f, free, p, q, g))) =
      subst IsTrueOf (let k : Endless x v ≡ e = cc in k) (
        not_zeroed I good zeroed m.statuses u dict placed room c way w h.inside h.helps free v q,
        relaxed I good zeroed m.statuses u dict placed room w values x p none_out,
        direction I good zeroed m.statuses u dict placed room c way w h.inside h.helps free v q,
      )
  limits_true c way e d none_out h (inr (inr (inl (f, l, g)))) = turns_true m.clock _ _ e d g
  limits_true c way e d none_out h (inr (inr (inr (b, f, l, k, g)))) = turns_true m.clock _ _ e d g

  steps_true : (e : End) (d : Clock) → Chooses I zeroed t m u w (Out e d) → IsTrueOf e
  steps_true e d (inl (b, wanted, out, inl (off, f))) =
      let k = misses_end wanted (column_at I b) (w b) out.out.misses in
      let hn = column-numbers I good b in
      subst IsTrueOf (let g : Empty (multipliers_of I u b wanted) ≡ e = cc in g)
      (farkas I good zeroed m.statuses u dict placed room b wanted k.0 (w b) out.inside out.out.basic k.1 (missed_number wanted (column_at I b) k.0 hn k.1) k.2 (basic_is I good zeroed m.statuses u dict placed room w values b out.inside out.out.basic) (off_helps b wanted off))
    where
      missed_number : (w : Way) (r : Range) (e : Ratio) → HasNumbers r → end_missed w r ≡ Some e → IsNumber e
      missed_number Rise r e h p = has_number r.lb e h.0 p
      missed_number Fall r e h p = has_number r.ub e h.1 p
  steps_true e d (inl (b, wanted, out, inr (c, way, help, f))) = turns_true m.clock _ _ e d f
  steps_true e d (inr (none_out, inl (off, z, f, g))) = subst IsTrueOf (let k : TooWide At.Point ≡ e = cc in k) tt
  steps_true e d (inr (none_out, inr (inl (b, x, off, f, p, q, g)))) =
      subst IsTrueOf (let k : Best b x (multipliers_of I u (goal_column I) Fall) ≡ e = cc in k) (
        relaxed I good zeroed m.statuses u dict placed room w values x q none_out,
        λ z. let r = subst (λ y. IsBoundAt y I m.statuses u b) z p in
            best I good zeroed m.statuses u dict placed room w values x q z none_out (off_helps (goal_column I) Fall off) b r.0 r.1,
      )
  steps_true e d (inr (none_out, inr (inr (c, way, help, f)))) = limits_true c way e d none_out help f

next_true : (I : Instance) (good : IsInstance I) (zeroed : Bool) (t : Terms) (m : Moment) (e : End) (d : Clock) → IsPlaced I m.statuses → HasNoClash I → IsNext I zeroed t m (Out e d) → Shown zeroed I e
next_true I good zeroed t m e d p room (u, dict, inl (f, g)) = subst (Shown zeroed I) (let k : TooWide At.Values ≡ e = cc in k) tt
next_true I good zeroed t m e d p room (u, dict, inr (w, f, v, s)) = steps_true I good zeroed t m u w dict v p room e d s

pub run_true : (I : Instance) (zeroed : Bool) (t : Terms) (c : Clock) (e : End) (d : Clock) → IsInstance I → Run I zeroed t c e d → Shown zeroed I e
run_true I zeroed t c e d good (inl (k, f, g, h)) = subst (Shown zeroed I) (sym g) (f.inside, f.empty)
run_true I zeroed t c e d good (inr r) = next_true I good zeroed t r.last e d (comes_placed r.comes) r.room r.ends
