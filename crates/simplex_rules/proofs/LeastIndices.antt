-- The runs by the rules of least indices are the runs.
use Rattle.std.proofs.Common.{◌≡◌, ℕ, inl, inr, Bool, Option, Some, List, refl, sym, ap, subst, arith}
use Rattle.std.proofs.lemmas.Int.{ints}
use Rattle.rational.specs.Ratio.{Ratio}
use Rattle.evidence.specs.Instance.{Instance}
use Rattle.evidence.proofs.Columns.{by_lt}
use Rattle.bases.specs.Dictionary.{Entries, Values}
use Rattle.simplex_rules.specs.declared.columns.Status.{Status}
use Rattle.simplex_rules.specs.declared.columns.Way.{Way}
use Rattle.simplex_rules.specs.Turns.{IsLeastOut, IsFirstHelp, IsFirstLeast}
use Rattle.simplex_rules.specs.Ends.{Terms, Clock, End, Clash}
use Rattle.simplex_rules.specs.Runs as Runs
use Rattle.simplex_rules.specs.Runs.{Moment, Next, PassesTurn, BeginsTurn, MovesColumn, Repairs, Improves, Chooses, IsNext, ComesInRun, Run, EndsAtBasis}
use Rattle.simplex_rules.specs.Rules.{Given, AreLegalRules, AreSingleRules, bland}
use Rattle.simplex_rules.specs.RuleRuns.{handed_on, Finish, Ends, MomentBy, NextBy, To, Out, PassesTurnBy, BeginsTurnBy, MovesBy, RepairsBy, ImprovesBy, ChoosesBy, WeighsBy, IsNextBy, ComesBy, begins, goes_on, RunBy}
use Rattle.simplex_rules.proofs.Moments.{fresh_placed}
use Rattle.simplex_rules.proofs.OneEnd.{one_fresh}

pub one_out : (I : Instance) (ss : List Status) (u : Entries) (w : Values) (b c : ℕ) (v x : Way) → IsLeastOut I ss u w b v → IsLeastOut I ss u w c x → b ≡ c
one_out I ss u w b c v x p q = by_lt b c (λ h. absurd (q.before b h v p.out)) (λ h. by_lt c b (λ k. absurd (p.before c k x q.out)) (λ k. omega arith))

pub one_help : (I : Instance) (ss : List Status) (u : Entries) (w : Values) (g : ℕ) (wanted : Way) (c d : ℕ) (v x : Way) → IsFirstHelp I ss u w g wanted c v → IsFirstHelp I ss u w g wanted d x → c ≡ d
one_help I ss u w g wanted c d v x p q = by_lt c d (λ h. absurd (q.before c h v p.helps)) (λ h. by_lt d c (λ k. absurd (p.before d k x q.helps)) (λ k. omega arith))

pub one_least : (f : ℕ → Option Ratio) (n b c : ℕ) → IsFirstLeast f n b → IsFirstLeast f n c → b ≡ c
one_least f n b c p q =
    by_lt b c
    (λ h. let x = p.after c h q.inside q.limit q.is in let y = q.before b h p.limit p.is in absurd (omega (arith, ints)))
    (λ h. by_lt c b
    (λ k. let x = q.after b k p.inside p.limit p.is in let y = p.before c k q.limit q.is in absurd (omega (arith, ints)))
    (λ k. omega arith))

pub legal : AreLegalRules bland
legal = record {
  begins = λ g best I zeroed ss k good room f. fresh_placed I ss f;
  leaves = λ v b wanted sees p. (p.inside, p.out);
  enters = λ v b wanted n way sees p. (p.inside, p.helps);
  improves = λ v n way sees p. (p.inside, p.helps);
  stops = λ v n way b sees p. (p.inside, (p.limit, p.is));
}

pub single : AreSingleRules bland
single = record {
  begins = λ g best I zeroed ss ts k l good room p q. (one_fresh I ss ts p q, refl);
  leaves = λ v b c x y sees p q. one_out v.program v.statuses v.entries v.values b c x y p q;
  enters = λ v b wanted n o x y sees p q. one_help v.program v.statuses v.entries v.values b wanted n o x y p q;
  improves = λ v n o x y sees p q. one_help v.program v.statuses v.entries v.values _ _ n o x y p q;
  stops = λ v n way b c sees p q. one_least _ _ b c p q;
  notes = λ v turn k l sees p q. refl;
}

-- a moment with no note
abbrev pub stand : Moment → MomentBy (Unit {0})
stand m = record { statuses = m.statuses; note = tt; clock = m.clock }

abbrev pub moment : MomentBy (Unit {0}) → Moment
moment m = record { statuses = m.statuses; clock = m.clock }

abbrev pub next_of : Next → NextBy (Unit {0})
next_of (Runs.To m) = To (stand m)
next_of (Runs.Out e d) = Out (Ends e) d

-- what comes next in the one, of what does in the other
abbrev Is : NextBy (Unit {0}) → Next → Type 0
Is a b = a ≡ next_of b

passes_on : (t : Terms) (c : Clock) (ss : List Status) (a : Next) → PassesTurn t c ss a → PassesTurnBy {N = Unit {0}} t c ss tt (next_of a)
passes_on t c ss a (inl (e, f)) = inl (e, ap next_of f)
passes_on t c ss a (inr (inl (e, s, f))) = inr (inl (e, s, ap next_of f))
passes_on t c ss a (inr (inr (e, s, f))) = inr (inr (e, s, ap next_of f))

turns_on : (t : Terms) (c : Clock) (F : Type 0) (ss : List Status) (a : Next) → BeginsTurn t c F ss a → BeginsTurnBy {N = Unit {0}} t c F ss tt (next_of a)
turns_on t c F ss a (inl (e, f)) = inl (e, ap next_of f)
turns_on t c F ss a (inr (inl (e, s, f))) = inr (inl (e, s, ap next_of f))
turns_on t c F ss a (inr (inr (e, s, f))) = inr (inr (e, s, passes_on t _ ss a f))

passes_back : (t : Terms) (c : Clock) (ss : List Status) (k : Unit {0}) (b : NextBy (Unit {0})) → PassesTurnBy t c ss k b → (a : Next) × Is b a × PassesTurn t c ss a
passes_back t c ss k b (inl (e, f)) = (Runs.To (record { statuses = ss; clock = c }), f, inl (e, refl))
passes_back t c ss k b (inr (inl (e, s, f))) = (_, f, inr (inl (e, s, refl)))
passes_back t c ss k b (inr (inr (e, s, f))) = (Runs.To (record { statuses = ss; clock = Runs.looked_once c }), f, inr (inr (e, s, refl)))

turns_back : (t : Terms) (c : Clock) (F : Type 0) (ss : List Status) (k : Unit {0}) (b : NextBy (Unit {0})) → BeginsTurnBy t c F ss k b → (a : Next) × Is b a × BeginsTurn t c F ss a
turns_back t c F ss k b (inl (e, f)) = (_, f, inl (e, refl))
turns_back t c F ss k b (inr (inl (e, s, f))) = (_, f, inr (inl (e, s, refl)))
turns_back t c F ss k b (inr (inr (e, s, f))) = let r = passes_back t _ ss k b f in (r.0, r.1, inr (inr (e, s, r.2)))

module _ (I : Instance) (zeroed : Bool) (t : Terms) (m : Moment) (u : Entries) (w : Values) where
  abbrev N : Type 0
  N = NextBy (Unit {0})

  moves_on : (n : ℕ) (way : Way) (a : Next) → MovesColumn I zeroed t m u w n way a → MovesBy bland I zeroed t (stand m) u w n way (next_of a)
  moves_on n way a (inl (f, e)) = inl (f, ap next_of e)
  moves_on n way a (inr (inl (x, d, f, g, p, q, e))) = inr (inl (x, d, f, g, p, q, ap next_of e))
  moves_on n way a (inr (inr (inl (f, l, e)))) = inr (inr (inl (tt, f, l, tt, turns_on t m.clock _ _ a e)))
  moves_on n way a (inr (inr (inr (b, f, l, d, e)))) = inr (inr (inr (b, tt, f, l, d, tt, turns_on t m.clock _ _ a e)))

  repairs_on : (b : ℕ) (wanted : Way) (a : Next) → Repairs I zeroed t m u w b wanted a → RepairsBy bland I zeroed t (stand m) u w b wanted (next_of a)
  repairs_on b wanted a (inl (f, e)) = inl (f, ap next_of e)
  repairs_on b wanted a (inr (n, way, h, e)) = inr (n, way, tt, h, tt, turns_on t m.clock _ _ a e)

  improves_on : (a : Next) → Improves I zeroed t m u w a → ImprovesBy bland I zeroed t (stand m) u w (next_of a)
  improves_on a (inl (f, z, g, e)) = inl (f, z, g, ap next_of e)
  improves_on a (inr (inl (b, x, f, g, p, q, e))) = inr (inl (b, x, f, g, p, q, ap next_of e))
  improves_on a (inr (inr (n, way, h, e))) = inr (inr (n, way, h, moves_on n way a e))

  chooses_on : (a : Next) → Chooses I zeroed t m u w a → ChoosesBy bland I zeroed t (stand m) u w (next_of a)
  chooses_on a (inl (b, wanted, out, r)) = inl (b, wanted, out, inr (λ c p. p.passes, inr (tt, repairs_on b wanted a r)))
  chooses_on a (inr (none, i)) = inr (none, improves_on a i)

  weighs_on : (a : Next) → Chooses I zeroed t m u w a → WeighsBy bland I zeroed t (stand m) u w (next_of a)
  weighs_on a c = inr (tt, chooses_on a c)

  moves_back : (n : ℕ) (way : Way) (b : N) → MovesBy bland I zeroed t (stand m) u w n way b → (a : Next) × Is b a × MovesColumn I zeroed t m u w n way a
  moves_back n way b (inl (f, e)) = (_, e, inl (f, refl))
  moves_back n way b (inr (inl (x, d, f, g, p, q, e))) = (_, e, inr (inl (x, d, f, g, p, q, refl)))
  moves_back n way b (inr (inr (inl (k, f, l, o, e)))) = let r = turns_back t m.clock _ _ k b e in (r.0, r.1, inr (inr (inl (f, l, r.2))))
  moves_back n way b (inr (inr (inr (c, k, f, l, d, o, e)))) = let r = turns_back t m.clock _ _ k b e in (r.0, r.1, inr (inr (inr (c, f, l, d, r.2))))

  repairs_back : (g : ℕ) (wanted : Way) (b : N) → RepairsBy bland I zeroed t (stand m) u w g wanted b → (a : Next) × Is b a × Repairs I zeroed t m u w g wanted a
  repairs_back g wanted b (inl (f, e)) = (_, e, inl (f, refl))
  repairs_back g wanted b (inr (n, way, k, h, o, e)) = let r = turns_back t m.clock _ _ k b e in (r.0, r.1, inr (n, way, h, r.2))

  improves_back : (b : N) → ImprovesBy bland I zeroed t (stand m) u w b → (a : Next) × Is b a × Improves I zeroed t m u w a
  improves_back b (inl (f, z, g, e)) = (_, e, inl (f, z, g, refl))
  improves_back b (inr (inl (c, x, f, g, p, q, e))) = (_, e, inr (inl (c, x, f, g, p, q, refl)))
  improves_back b (inr (inr (n, way, h, e))) = let r = moves_back n way b e in (r.0, r.1, inr (inr (n, way, h, r.2)))

  chooses_back : (b : N) → ChoosesBy bland I zeroed t (stand m) u w b → (a : Next) × Is b a × Chooses I zeroed t m u w a
  chooses_back b (inl (c, wanted, out, inl (d, p, e))) = absurd p.passes
  chooses_back b (inl (c, wanted, out, inr (not, inl (wide, e)))) = absurd (wide tt)
  chooses_back b (inl (c, wanted, out, inr (not, inr (fits, o)))) = let r = repairs_back c wanted b o in (r.0, r.1, inl (c, wanted, out, r.2))
  chooses_back b (inr (none, i)) = let r = improves_back b i in (r.0, r.1, inr (none, r.2))

  weighs_back : (b : N) → WeighsBy bland I zeroed t (stand m) u w b → (a : Next) × Is b a × Chooses I zeroed t m u w a
  weighs_back b (inl (wide, e)) = absurd (wide tt)
  weighs_back b (inr (fits, c)) = chooses_back b c

module _ (I : Instance) (zeroed : Bool) (t : Terms) where
  next_on : (m : Moment) (a : Next) → IsNext I zeroed t m a → IsNextBy bland I zeroed t (stand m) (next_of a)
  next_on m a (u, d, inl (f, e)) = (u, d, inl (f, ap next_of e))
  next_on m a (u, d, inr (w, f, v, c)) = (u, d, inr (w, f, v, weighs_on I zeroed t m u w a c))

  next_back : (m : Moment) (b : NextBy (Unit {0})) → IsNextBy bland I zeroed t (stand m) b → (a : Next) × Is b a × IsNext I zeroed t m a
  next_back m b (u, d, inl (f, e)) = (_, e, (u, d, inl (f, refl)))
  next_back m b (u, d, inr (w, f, v, c)) = let r = weighs_back I zeroed t m u w b c in (r.0, r.1, (u, d, inr (w, f, v, r.2)))

  comes_on : {g : Given} {best : Option Ratio} {c : Clock} {m : Moment} → ComesInRun I zeroed t c m → ComesBy bland I zeroed t g best c (stand m)
  comes_on {g} {best} {c} (Runs.begins {ss} f) = begins {ss = ss} {k = tt} f
  comes_on {g} {best} {c} (Runs.goes_on {m} {n} before next) = goes_on {m = stand m} {n = stand n} (comes_on before) (next_on m (Runs.To n) next)

  comes_back : {g : Given} {best : Option Ratio} {c : Clock} {m : MomentBy (Unit {0})} → ComesBy bland I zeroed t g best c m → ComesInRun I zeroed t c (moment m)
  comes_back {g} {best} {c} (begins {ss} {k} f) = Runs.begins {ss = ss} f
  comes_back {g} {best} {c} (goes_on {m} {n} before next) =
      let r = next_back (moment m) (To n) next in
      on (comes_back before) r.0 r.1 r.2
    where
      on : ComesInRun I zeroed t c (moment m) → (a : Next) → Is (To n) a → IsNext I zeroed t (moment m) a → ComesInRun I zeroed t c (moment n)
      on b (Runs.To k) e x = let q : stand k ≡ n = cc in subst (λ z. ComesInRun I zeroed t c (moment z)) q (Runs.goes_on {m = moment m} {n = k} b x)
      on b (Runs.Out f d) e x = absurd (cc)

pub run_on : (I : Instance) (zeroed : Bool) (t : Terms) (g : Given) (best : Option Ratio) (c : Clock) (e : End) (d : Clock) → Run I zeroed t c e d → (h : Given) × RunBy bland I zeroed t g best c (Ends e) d h
run_on I zeroed t given best c e d (inl (k, f, g, h)) = (given, inl (k, f, ap Ends g, h, refl))
run_on I zeroed t given best c e d (inr r) = (handed_on r.last.statuses, inr (record { room = r.room; last = stand r.last; comes = comes_on I zeroed t r.comes; ends = next_on I zeroed t r.last (Runs.Out e d) r.ends }, refl))

pub run_back : (I : Instance) (zeroed : Bool) (t : Terms) (g h : Given) (best : Option Ratio) (c : Clock) (f : Finish) (d : Clock) → RunBy bland I zeroed t g best c f d h → (e : End) × (f ≡ Ends e) × Run I zeroed t c e d
run_back I zeroed t g h best c f d (inl (k, p, q, r, s)) = (Clash k, q, inl (k, p, refl, r))
run_back I zeroed t g h best c f d (inr (r, s)) =
    let x = next_back I zeroed t (moment r.last) (Out f d) r.ends in
    by x.0 x.1 x.2
  where
    by : (a : Next) → Is (Out f d) a → IsNext I zeroed t (moment r.last) a → (e : End) × (f ≡ Ends e) × Run I zeroed t c e d
    by (Runs.To k) q x = absurd (cc)
    by (Runs.Out e b) q x =
        let p : f ≡ Ends e = cc in
        let y : b ≡ d = cc in
        (e, p, inr (record { room = r.room; last = moment r.last; comes = comes_back I zeroed t r.comes; ends = subst (λ b. IsNext I zeroed t (moment r.last) (Runs.Out e b)) y x }))

-- and the basis with which it ended is handed on
pub basis_on : (I : Instance) (zeroed : Bool) (t : Terms) (g : Given) (best : Option Ratio) (c : Clock) (e : End) (d : Clock) (ss : List Status) → EndsAtBasis I zeroed t c e d ss → RunBy bland I zeroed t g best c (Ends e) d (Some ss)
basis_on I zeroed t given best c e d ss r = inr (record { room = r.run.room; last = stand r.run.last; comes = comes_on I zeroed t r.run.comes; ends = next_on I zeroed t r.run.last (Runs.Out e d) r.run.ends }, ap Some (sym r.basis))

pub basis_back : (I : Instance) (zeroed : Bool) (t : Terms) (g : Given) (best : Option Ratio) (c : Clock) (e : End) (d : Clock) (ss : List Status) → ((k : ℕ) → e ≡ Clash k → ⊥) → RunBy bland I zeroed t g best c (Ends e) d (Some ss) → EndsAtBasis I zeroed t c e d ss
basis_back I zeroed t g best c e d ss never (inl (k, p, q, r, s)) = absurd (never k (let f : e ≡ Clash k = cc in f))
basis_back I zeroed t g best c e d ss never (inr (r, s)) =
    let x = next_back I zeroed t (moment r.last) (Out (Ends e) d) r.ends in
    by x.0 x.1 x.2
  where
    by : (a : Next) → Is (Out (Ends e) d) a → IsNext I zeroed t (moment r.last) a → EndsAtBasis I zeroed t c e d ss
    by (Runs.To k) q x = absurd (cc)
    by (Runs.Out f b) q x =
        let p : f ≡ e = cc in
        let y : b ≡ d = cc in
        let x' : IsNext I zeroed t (moment r.last) (Runs.Out e b) = subst (λ f. IsNext I zeroed t (moment r.last) (Runs.Out f b)) p x in
        record { run = record { room = r.room; last = moment r.last; comes = comes_back I zeroed t r.comes; ends = subst (λ b. IsNext I zeroed t (moment r.last) (Runs.Out e b)) y x' }; basis = let z : r.last.statuses ≡ ss = cc in z }
