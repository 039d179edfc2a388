-- Where a search begins.
use Rattle.std.proofs.Common.{◌≡◌, ◌<◌, ℕ, None, Option, IfSome, List, [], ◌∷◌, length, arith, refl, sym, ◌∙◌, ap, ap₂, subst}
use Rattle.certificate.specs.declared.nodes.Cert.{Cert}
use Rattle.certificate.specs.declared.nodes.Round.{Round}
use Rattle.instance.specs.Parts.{Parts}
use Rattle.instance.specs.Program.{program, problem}
use Rattle.instance.proofs.Numbers.{program-instance}
use Rattle.cert_checker.specs.Programs.{with_rows}
use Rattle.rational.specs.Ratio.{Ratio}
use Rattle.simplex_rules.specs.Ends.{Terms}
use Rattle.simplex.specs.declared.cuts.Added.{Added}
use Rattle.simplex.specs.declared.answer.Turns.{Turns}
use Rattle.simplex.specs.Cuts.{Cutting}
use Rattle.search_rules.specs.Search.{begun_at}
use Rattle.search_rules.specs.Beginnings.{IsFirstBest, first_with}
use Rattle.search_rules.specs.Asked.{Asked, asked_first}
use Rattle.branch_bound.specs.Bounds.{CarriesNone}
use Rattle.branch_bound.specs.declared.found.Found as Best
use Rattle.branch_bound.specs.declared.level.Level.{Level}
use Rattle.branch_bound.specs.declared.relaxation.Relaxation.{Relaxation}
use Rattle.branch_bound.specs.declared.limits.Limits.{Limits}
use Rattle.branch_bound.specs.declared.state.SearchState.{SearchState}
use Rattle.branch_bound.specs.declared.walk.Walk.{Walk}
use Rattle.branch_bound.specs.Walks.{best}
use Rattle.branch_bound.specs.Levels.{level, moment, IsGiven, IsAtLevel}
use Rattle.branch_bound.specs.Trials.{IsFreshWalk}
use Rattle.branch_bound.specs.Cases.{HasSize, SuitsLevel, HaveValues, StandsIn, clock_at}
use Rattle.branch_bound.specs.States.{IsUnderWay, IsBegun}
use Rattle.branch_bound.proofs.GivenRows.{given_first}
use Rattle.branch_bound.proofs.NextGoal.{fresh_moment, kept_fresh}

-- no row beside the instance's, and the first goal
given_begun : (p : Parts) (k : Cutting) → k.rows ≡ [] → k.goal ≡ 0 → IsGiven p k (program p)
given_begun p k none zero = subst (λ (h : Cutting). IsGiven p h (program p)) (ap₂ (λ (rs : List Added) (g : ℕ). let h : Cutting = record { ends = k.ends; rows = rs; goal = g } in h) (sym none) (sym zero)) (given_first p k.ends)

-- the first level, and what a search has at hand then
abbrev pub begun_level : List Cert → List Round → Level
begun_level ks rs = record { goal = 0; certs = ks; rounds = rs; before = 0 }

module _ {M : _} {G : _} (p : Parts) (r : Relaxation M G) (ks : List Cert) (rs : List Round) (certs : ks ≡ []) (rounds : rs ≡ []) (beside : r.ends.rows ≡ []) (zero : r.ends.goal ≡ 0) (rows : r.rows.items ≡ []) where
  is_rows : program p ≡ with_rows (program p) r.rows.items
  is_rows = ap (with_rows (program p)) (sym rows)

  pub begun_suits : HasSize p r → SuitsLevel p r (begun_level ks rs)
  begun_suits size = record {
    size = size;
    goal = let g = size.suits.goal in omega arith;
    one = λ e. (subst (IsGiven p r.ends) is_rows (given_begun p r.ends beside zero), ap length rows ∙ sym (ap length beside));
  }

  begun_at_level : IsAtLevel p r (begun_level ks rs) (program p) (program p)
  begun_at_level = record {
    good = program-instance p;
    given = given_begun p r.ends beside zero;
    goal = zero;
    level_goal = refl;
    shown = ap (λ (cs : List Cert). length cs) certs;
    counted = λ n. rw certs (omega arith);
    several = λ h. refl;
    first = λ e. is_rows;
  }

  module _ (t : Terms) (w : Walk) (fresh : IsFreshWalk p w) (no_ray : w.ray ≡ None) (turns : r.turns.done ≡ 0) where
    is_first : first_with (problem p) (best w.best) ≡ moment p (program p) (program p) (begun_level ks rs) w (clock_at r 0)
    is_first = sym (
        fresh_moment p (program p) (begun_level ks rs) w (clock_at r 0) fresh no_ray refl rounds
        ∙ ap₂ (λ (cs : List Cert) (n : ℕ). begun_at (level p (program p) (begun_level cs rs)) (record { turns = n; looks = 0 }) (best w.best)) certs turns
        )

    pub begun_stands : (a : Asked) → CarriesNone w → ((gs : Option (List (Option Ratio))) × IsFirstBest (problem p) gs (best w.best)) → StandsIn p t a (best w.best) r (begun_level ks rs) w (clock_at r 0)
    begun_stands a none is = record {
      first = is;
      at = first_with (problem p) (best w.best);
      carried = None ∷ [];
      numbers = None ∷ [];
      comes = asked_first;
      stands = record { program = program p; cut = program p; at = begun_at_level; is = is_first };
      kept = kept_fresh p w fresh none;
    }

-- of the state before the first step, with this best point, if any
module _ {M : _} {G : _} (p : Parts) (l : Limits) (s : SearchState M G) (begun : IsBegun p l s) (b : Option Best.Found) where
  abbrev walk : Walk
  walk = record (s.walk) { best = b }

  fresh : IsFreshWalk p walk
  fresh = let f = begun.fresh in record { nodes = f.nodes; uncut = f.uncut; next = f.next }

  pub begun_state : HaveValues p b → IsUnderWay p l (record s { walk = walk })
  begun_state values = record {
    suits = subst (SuitsLevel p s.relaxation) (sym begun.level) (begun_suits p s.relaxation [] [] refl refl begun.beside begun.goal begun.rows begun.size);
    most = ap (λ (t : Turns). t.most) begun.turns;
    walk = let w = begun.walk in record { width = w.width; room = w.room; above = w.above; ray = w.ray };
    fresh = λ e. fresh;
    within = let n = ap length begun.fresh.nodes in let v = ap (λ (v : Level). v.before) begun.level in omega arith;
    values = values;
    keeps = begun.keeps;
    carried = λ keeps. let h = begun.carried keeps in subst (λ (o : Option ℕ). IfSome o (λ d. d < length s.walk.carried.items)) (sym begun.fresh.next) h.0;
  }

  pub begun_comes : (t : Terms) (a : Asked) → ((gs : Option (List (Option Ratio))) × IsFirstBest (problem p) gs (best b)) → StandsIn p t a (best b) s.relaxation s.level walk (clock_at s.relaxation 0)
  begun_comes t a is =
      subst (λ (v : Level). StandsIn p t a (best b) s.relaxation v walk (clock_at s.relaxation 0)) (sym begun.level)
      (begun_stands p s.relaxation [] [] refl refl begun.beside begun.goal begun.rows t walk fresh begun.ray (ap (λ (t : Turns). t.done) begun.turns) a begun.carried is)
