-- A run that comes to an end is a run with that end.
use Rattle.std.proofs.Common.{◌≡◌, ℕ, ◌+◌, ◌^◌, ◌≤◌, Bool, true, false, Option, None, Some, IfSome, List, inr, ◌∙◌, ap, ap₂, subst}
use Rattle.fraction.specs.declared.frac.Frac.{Frac}
use Rattle.rational.specs.Ratio.{Ratio}
use Rattle.evidence.specs.Instance.{Instance, IsInstance, width, height}
use Rattle.evidence.specs.Cases.{Multiplier}
use Rattle.simplex_rules.specs.Ends.{Terms, Clock, End}
use Rattle.simplex_rules.specs.declared.columns.Status.{Status}
use Rattle.simplex_rules.specs.Runs.{Out, IsNext, HasNoClash, IsRun, Run, EndsAtBasis}
use Rattle.simplex_rules.specs.Reports.{collected}
use Rattle.no_cycles.specs.Phase.{BeginsSettled}
use Rattle.no_cycles.proofs.SecondPhase.{never_out}
use Rattle.simplex.specs.declared.answer.LpEnd.{LpEnd}
use Rattle.simplex.specs.declared.answer.LpEnd.TheVariants as Has
use Rattle.simplex.specs.Tables.{values_in}
use Rattle.simplex.specs.Answers.{listed, ended}
use Rattle.simplex.specs.declared.finish.Finish.{Finish}
use Rattle.simplex.specs.declared.finish.Finish.TheVariants as Finishes
use Rattle.simplex.specs.Finishes.{is_best, KeepsBasis, KeepsAt, ComesTo}

-- what holds anyway is kept, and what a turn ends early at is no end that is read off the basis
pub keeps : (f : Finish) (P : Type 0) → P → KeepsBasis f P
keeps (Finishes.Empty m) P p = p
keeps (Finishes.Best b) P p = p
keeps (Finishes.Endless m) P p = p
keeps Finishes.TurnLimit P p = tt
keeps (Finishes.Wide s) P p = tt
keeps Finishes.Stopped P p = tt

pub keeps_at : (r : Option Finish) (P : Type 0) → P → KeepsAt r P
keeps_at None P p = p
keeps_at (Some f) P p = keeps f P p

early_kept : (f : Finish) (P : Type 0) → KeepsBasis f ⊥ → KeepsBasis f P
early_kept (Finishes.Empty m) P e = absurd e
early_kept (Finishes.Best b) P e = absurd e
early_kept (Finishes.Endless m) P e = absurd e
early_kept Finishes.TurnLimit P e = tt
early_kept (Finishes.Wide s) P e = tt
early_kept Finishes.Stopped P e = tt

pub early_keeps : (r : Option Finish) (P : Type 0) → IfSome r (λ f. KeepsBasis f ⊥) → IfSome r (λ f. KeepsBasis f P)
early_keeps None P e = tt
early_keeps (Some f) P e = early_kept f P e

-- at a best point it holds
pub best_kept : (f : Finish) (P : Type 0) → is_best f ≡ true → KeepsBasis f P → P
best_kept (Finishes.Empty m) P e h = let x : false ≡ true = e in absurd (cc)
best_kept (Finishes.Best b) P e h = h
best_kept (Finishes.Endless m) P e h = let x : false ≡ true = e in absurd (cc)
best_kept Finishes.TurnLimit P e h = let x : false ≡ true = e in absurd (cc)
best_kept (Finishes.Wide s) P e h = let x : false ≡ true = e in absurd (cc)
best_kept Finishes.Stopped P e h = let x : false ≡ true = e in absurd (cc)

-- with the moment's statuses, where the end is read off them
module _ (I : Instance) (z : Bool) (t : Terms) (c d d' : Clock) (e e' : End) (f : Finish) (ss : List Status) (room : HasNoClash I) (r : ComesTo I z t c e d f ss) (p : e ≡ e') (q : d ≡ d') where
  abbrev finished : IsRun I z t c e' d'
  finished = record {
    room = room;
    last = r.last;
    comes = r.comes;
    ends = subst (λ (k : Clock). IsNext I z t r.last (Out e' k)) q (subst (λ (k : End). IsNext I z t r.last (Out k d)) p r.ends);
  }

  pub finish_run : Run I z t c e' d'
  finish_run = inr finished

  pub finish_basis : is_best f ≡ true → EndsAtBasis I z t c e' d' ss
  finish_basis best = record { run = finished; basis = best_kept f (r.last.statuses ≡ ss) best r.basis }

-- an end that is told otherwise, with statuses that are stored otherwise
pub basis_same : (I : Instance) (z : Bool) (t : Terms) (c d : Clock) (e e' : End) (ss zs : List Status) → e ≡ e' → ss ≡ zs → EndsAtBasis I z t c e d ss → EndsAtBasis I z t c e' d zs
basis_same I z t c d e e' ss zs p q r = subst (λ (k : End). EndsAtBasis I z t c k d zs) p (subst (λ (l : List Status). EndsAtBasis I z t c e d l) q r)

-- the same numbers tell the same end
pub ended_same : (r : LpEnd) (n n' m m' : ℕ) (xs xs' ys ys' zs zs' : List Frac) → n ≡ n' → m ≡ m' → xs ≡ xs' → ys ≡ ys' → zs ≡ zs' → ended r (listed n (values_in xs)) (collected (values_in ys) (n + m)) (listed n (values_in zs)) ≡ ended r (listed n' (values_in xs')) (collected (values_in ys') (n' + m')) (listed n' (values_in zs'))
ended_same r n n' m m' xs xs' ys ys' zs zs' e f g h k =
    ap₂ (λ (a b : ℕ). ended r (listed a (values_in xs)) (collected (values_in ys) (a + b)) (listed a (values_in zs))) e f
    ∙ ap₂ (λ (a b : List Frac). ended r (listed n' (values_in a)) (collected (values_in b) (n' + m')) (listed n' (values_in zs))) g h
    ∙ ap (λ (a : List Frac). ended r (listed n' (values_in xs')) (collected (values_in ys') (n' + m')) (listed n' (values_in a))) k

-- an answer of a run with turns enough isn't that there are no more
pub never_limited : (I : Instance) (z : Bool) (t : Terms) (c d : Clock) (r : LpEnd) (x : List Ratio) (ms : List Multiplier) (y : List Ratio) → IsInstance I → BeginsSettled I z → c.turns + 4 ^ (width I + height I) ≤ t.turns → Run I z t c (ended r x ms y) d → r ≡ Has.TurnLimit → ⊥
never_limited I z t c d r x ms y good settled enough run out = never_out I z t c d good (λ room. settled) enough (subst (λ (r : LpEnd). Run I z t c (ended r x ms y) d) out run)
