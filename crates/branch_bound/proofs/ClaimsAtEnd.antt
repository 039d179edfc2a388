-- What is claimed where a search ends.
use Rattle.std.proofs.Common.{◌≡◌, ◌⊎◌, inl, inr, ℕ, Bool, true, false, Option, None, Some, List, [], ◌∷◌, refl, sym, ◌∙◌, ap, subst}
use Rattle.std.proofs.lemmas.Bool.{false≢true}
use Rattle.rational.specs.Ratio.{Ratio}
use Rattle.evidence.specs.Instance.{Goal, Problem}
use Rattle.evidence.specs.ProvedBounds.{ProvedBound}
use Rattle.evidence.specs.Rounds.{Certificate}
use Rattle.certificate.specs.declared.causes.Cause.{Cause}
use Rattle.certificate.specs.declared.causes.Cause.TheVariants.{TurnLimit, Memory}
use Rattle.certificate.specs.declared.claims.Claim.{Claim}
use Rattle.simplex_rules.specs.Ends.{Terms, Clock}
use Rattle.simplex_rules.specs.Looks.{AgreesWith, looks_after, stop_after}
use Rattle.simplex_rules.proofs.Looks.{agrees}
use Rattle.search_rules.specs.Search.{Found, SearchMoment, Outcome, Optimal, Infeasible, Unbounded, BestSoFar, Unsure, Out, ClosesLevel, shown_at, early, IsSearchAnswer}
use Rattle.search_rules.specs.Beginnings.{IsAnswerFrom}
use Rattle.search_rules.specs.Bounds.{Carried, claimed}
use Rattle.search_rules.specs.Asked.{Asked, nothing, FindsAsked, ComesAsked, IsAskedAnswer, gave_up}
use Rattle.search_rules.proofs.FirstPoints.{plain_answer}
use Rattle.no_cycles.specs.Searches.{is_turn_limit, is_out_of_turns}
use Rattle.no_cycles.proofs.OneCaseSearches.{early_is}
use Rattle.branch_bound.specs.Claims.{ClaimTells, ClaimTellsWith, TellsStop, cause_of, is_kill, is_killed}
use Rattle.branch_bound.specs.Cases.{closed_by}
use Rattle.branch_bound.proofs.CaseSteps.{answered, level_ends}

closed_goes : (cs : List Certificate) (c : Certificate) (b : Option Found) → is_killed (closed_by cs c b) ≡ false
closed_goes cs c None = refl
closed_goes cs c (Some f) = refl

closes : (P : Problem) (t : Terms) (m : SearchMoment) (b : Option Found) (gs : List Goal) → (b ≡ None) ⊎ (gs ≡ []) → ClosesLevel P t m b gs (Out (closed_by m.level.shown (shown_at m) b) m.clock)
closes P t m None gs last = refl
closes P t m (Some f) [] last = refl
closes P t m (Some f) (g ∷ gs) (inl e) = absurd (cc)
closes P t m (Some f) (g ∷ gs) (inr e) = absurd (cc)

-- and no bound is found there
nothing_found : (P : Problem) (m : SearchMoment) (ls : List Carried) (cs : List Certificate) (c : Certificate) (b : Option Found) → FindsAsked P true m ls (closed_by cs c b) None
nothing_found P m ls cs c None = refl
nothing_found P m ls cs c (Some f) = refl

-- where no case is left and no goal is asked after that of the level, or no point was found; or memory is wanting then
pub told_closed : (claim : Claim) (cs : List Certificate) (c : Certificate) (b : Option Found) → ClaimTells claim (closed_by cs c b) ⊎ ClaimTells claim (early b Memory)
    → (o : Outcome) × ClaimTells claim o × (is_killed o ≡ false) × ((P : Problem) (t : Terms) (a : Asked) (start : Option Found) (m : SearchMoment) (ls : List Carried) (ys : List (Option Ratio)) → m.level.shown ≡ cs → shown_at m ≡ c → m.best ≡ b → m.waiting ≡ [] → (b ≡ None) ⊎ (m.level.later ≡ []) → ComesAsked P t a start m ls ys → IsAskedAnswer P t a start o None m.clock)
told_closed claim cs c b (inl tells) = (
  closed_by cs c b,
  tells,
  closed_goes cs c b,
  λ P t a start m ls ys shown own best none last comes.
      let goes : ClosesLevel P t m m.best m.level.later (Out (closed_by cs c b) m.clock) =
      subst (λ (a : Option Found). ClosesLevel P t m a m.level.later (Out (closed_by cs c b) m.clock)) (sym best)
      (subst (λ (d : Certificate). ClosesLevel P t m b m.level.later (Out (closed_by cs d b) m.clock)) own
      (subst (λ (ks : List Certificate). ClosesLevel P t m b m.level.later (Out (closed_by ks (shown_at m) b) m.clock)) shown (closes P t m b m.level.later last))) in
      answered P t a start m ls ys comes (closed_by cs c b) m.clock (nothing_found P m ls cs c b) (level_ends P t a start m ls ys comes none (closed_by cs c b) m.clock (inl (none, goes))),
)
told_closed claim cs c b (inr tells) = (early b Memory, tells, early_is is_kill b Memory, λ P t a start m ls ys shown own best none last comes. subst (λ (q : Option Found). IsAskedAnswer P t a start (early q Memory) None m.clock) best (gave_up comes))

turns_out : (c : Cause) (n : ℕ) → is_turn_limit c ≡ false → Some c ≡ Some (TurnLimit n) → ⊥
turns_out c n within e =
    let is : c ≡ TurnLimit n = cc in
    let t : true ≡ false = subst (λ (c : Cause). is_turn_limit c ≡ false) is within in
    cc

-- the limit of turns is the cause of no other outcome
pub no_turn_limit : (o : Outcome) (n : ℕ) → is_out_of_turns o ≡ false → cause_of o ≡ Some (TurnLimit n) → ⊥
no_turn_limit (Optimal x vs cs) n within e = cc
no_turn_limit (Infeasible c) n within e = cc
no_turn_limit (Unbounded x vs cs r) n within e = cc
no_turn_limit (BestSoFar x vs c) n within e = turns_out c n within e
no_turn_limit (Unsure c) n within e = turns_out c n within e

-- of a search of which nothing more is asked no bound is told, and a look stopped it where its cause says so
module _ (P : Problem) (of : Option ℕ → Terms) (claim : Claim) (done n : ℕ) (killed : Bool) (o : Outcome) (b : Option ProvedBound) where
  abbrev clock : Bool → Clock
  clock k = record { turns = done; looks = looks_after 0 n k }

  stopped_is : TellsStop false killed o → killed ≡ is_killed o
  stopped_is (inl e) = e
  stopped_is (inr (asks, stopped, cause)) = absurd (false≢true asks)

  pub told_plainly : ((P : Problem) (t : Terms) (start : Option Found) (o : Outcome) (b : Option ProvedBound) (c : Clock) → IsAskedAnswer P t nothing start o b c → IsAnswerFrom P t start o c × (b ≡ None))
      → ClaimTellsWith claim o b → TellsStop false killed o → ((stop : Option ℕ) → AgreesWith stop 0 n killed → IsAskedAnswer P (of stop) nothing None o b (clock killed))
      → ClaimTells claim o × (killed ≡ is_killed o) × ((stop : Option ℕ) → AgreesWith stop 0 n (is_killed o) → IsSearchAnswer P (of stop) o (clock (is_killed o)))
  told_plainly law tells stopped answer =
      let same = stopped_is stopped in
      let found = law P (of (stop_after n killed)) None o b (clock killed) (answer (stop_after n killed) (agrees n killed)) in (
        record { says = tells.says ∙ ap (claimed o) found.1; cause = tells.cause },
        same,
        subst (λ (k : Bool). (stop : Option ℕ) → AgreesWith stop 0 n k → IsSearchAnswer P (of stop) o (clock k)) same
            (λ stop h. let plain = law P (of stop) None o b (clock killed) (answer stop h) in plain_answer P (of stop) o (clock killed) plain.0),
      )
