-- One more row: what is to show after it, of a program with it, shows what was to show before.
use Rattle.std.proofs.Common.{◌≡◌, ℕ, ◌+◌, ◌<◌, ◌≤◌, ℤ, inl, inr, Option, Some, Ok, Err, IfOk, List, [], ◌∷◌, ◌++◌, length, take, drop, get_or, slice_index_or, slice_set, map, add-one, arith, refl, sym, ◌∙◌, ap, subst}
use Rattle.std.proofs.Math.Seq.{drop-cons, take-suc}
use Rattle.std.proofs.lemmas.List.{get_or-map, length-map, take_more_set}
use Rattle.std.proofs.lemmas.List.Elements.{All-set}
use Rattle.rational.specs.Ratio.{Ratio, IsSame, sum, negative}
use Rattle.rational.specs.Width.{SumFits}
use Rattle.fraction.specs.Frac.{ratio}
use Rattle.fraction.specs.declared.frac.Frac.{Frac}
use Rattle.fraction.specs.declared.frac.Wide.{Wide as Unfit}
use Rattle.std.specs.declared.result.Result.{Result}
use Rattle.evidence.specs.Instance.{Goal, Instance, no_goal, width, cost_at, minimising}
use Rattle.evidence.specs.Width.{ProvesWithin, RayFits}
use Rattle.evidence.specs.Point.{IsRay}
use Rattle.evidence.specs.AddedRows.{with_row}
use Rattle.evidence.specs.Rounds.{Certificate, Round, IsRound, RoundFits, CertificateShows, ShowsAfter, derive}
use Rattle.evidence.specs.Levels.{IsReachedEnd, next_level, AreBest, AreEndless}
use Rattle.instance.specs.Parts.{Parts}
use Rattle.instance.specs.Program.{variable, row, goals, program}
use Rattle.cert_checker.specs.declared.at_hand.Added.{Added}
use Rattle.cert_checker.specs.declared.refused.Refused.{Refused}
use Rattle.cert_checker.specs.declared.refused.Refused.TheVariants.{Level}
use Rattle.cert_checker.specs.declared.refused.Unshown.TheVariants.{Wide}
use Rattle.cert_checker.specs.Programs.{coefficient, with_rows, AreWide}
use Rattle.cert_checker.specs.Reached.{at_level, TreeIsRefused}
use Rattle.cert_checker.specs.RoundRefusals.{RoundsRefuse, IsAfterRounds, LeadsThroughRounds}
use Rattle.cert_checker.specs.LevelRefusals.{Ending, Best, Endless, AreShown, EndIsWide, EndRefuses, LevelRefuses, LevelsRefuse, LeadsUp}
use Rattle.cert_checker.specs.Trees.{TreeRefuses}
use Rattle.cert_checker.proofs.HandRows.{rows_more, row_same, rows_width, level_zero}
use Rattle.cert_checker.proofs.Refusals.{shows_from}

-- the head of a list's rest
pub drop_at : {X : Type 0} (xs : List X) (i : ℕ) (d : X) → i < length xs → drop i xs ≡ get_or xs i d ∷ drop (i + 1) xs
drop_at xs i d h = drop-cons xs i d h ∙ ap (λ k. get_or xs i d ∷ drop k xs) (sym (add-one i))

pub take_at : {X : Type 0} (xs : List X) (i : ℕ) (d : X) → i < length xs → take (i + 1) xs ≡ take i xs ++ get_or xs i d ∷ []
take_at xs i d h = ap (λ k. take k xs) (add-one i) ∙ take-suc xs i d h

pub drop_map : {X Y : Type 0} (f : X → Y) (xs : List X) (i : ℕ) (x : X) → i < length xs → x ≡ slice_index_or xs i x → drop i (map f xs) ≡ f x ∷ drop (i + 1) (map f xs)
drop_map f xs i x h is =
    let long = length-map xs f in
    drop_at (map f xs) i (f x) (omega arith) ∙ ap (λ y. y ∷ drop (i + 1) (map f xs)) (get_or-map f xs i x (f x) h ∙ sym (ap f is))

-- the rows in use, with one more
pub rows_with : (I : Instance) (rs : List Added) (k : ℕ) (a : Added) (f : ℕ → Ratio) → k < length rs → ((j : ℕ) → j < width I → coefficient a j ≡ f j) → with_rows I (take (k + 1) (slice_set rs k a)) ≡ with_row (with_rows I (take k rs)) (row a.ends) f
rows_with I rs k a f h e =
    ap (with_rows I) (take_more_set rs k a h) ∙ rows_more I (take k rs) a
    ∙ row_same (with_rows I (take k rs)) (row a.ends) (coefficient a) f (λ j g. e j (let w = rows_width I (take k rs) in omega arith))

pub wide_with : (rs : List Added) (k : ℕ) (a : Added) (m : ℕ) → m ≤ length a.coefficients.items → AreWide m rs → AreWide m (slice_set rs k a)
wide_with rs k a m g w = All-set (λ (b : Added). m ≤ length b.coefficients.items) rs k a g w

-- a round
pub round_on : (I : Instance) (rounds : List Round) (n : ℕ) (J : Instance) (w : Round) (rest : List Round) (m : ℕ) (K : Instance) (cs : List ℤ) (k : ℤ) → IsRound J w cs k → RoundFits J w cs → K ≡ derive J cs k → LeadsThroughRounds I rounds n J (w ∷ rest) m → LeadsThroughRounds I rounds n K rest (m + 1)
round_on I rounds n J w rest m K cs k cut fits e f = record {
  after = λ L a. f.after L (cs, k, cut, fits, subst (λ K. IsAfterRounds K rest L) e a);
  refused = λ r q. f.refused r (inr (cs, k, cut, fits, subst (λ K. RoundsRefuse K rest (m + 1) r) e q));
}

-- a level
pub level_on : (end : Ending) (I : Instance) (gs : List Goal) (vs : List Ratio) (cs : List Certificate) (n : ℕ) (J : Instance) (g : Goal) (hs : List Goal) (v : Ratio) (ws : List Ratio) (c : Certificate) (ds : List Certificate) (m : ℕ) (K : Instance) (e : Ratio) →
    CertificateShows J c (Some (minimising J v)) → IsReachedEnd J v e → K ≡ next_level J e g → LeadsUp end I gs vs cs n J (g ∷ hs) (v ∷ ws) (c ∷ ds) m → LeadsUp end I gs vs cs n K hs ws ds (m + 1)
level_on Best I gs vs cs n J g hs v ws c ds m K e s reached is f = record {
  shown = λ t. f.shown (s, e, reached, subst (λ K. AreShown Best K hs ws ds) is t);
  refused = λ r q. f.refused r (inr (inr (s, e, reached, subst (λ K. LevelsRefuse Best K hs ws ds (m + 1) r) is q)));
}
level_on (Endless x d) I gs vs cs n J g hs v ws c ds m K e s reached is f = record {
  shown = λ t. f.shown (s, e, reached, subst (λ K. AreShown (Endless x d) K hs ws ds) is t);
  refused = λ r q. f.refused r (inr (inr (s, e, reached, subst (λ K. LevelsRefuse (Endless x d) K hs ws ds (m + 1) r) is q)));
}

-- the next level's program has the goal's row
pub level_with : (p : Parts) (rs : List Added) (k : ℕ) (a : Added) (e : Ratio) → k < length rs → row a.ends ≡ record { lb = Some e; ub = Some e } → ((j : ℕ) → j < length p.vars → coefficient a j ≡ minimising (at_level p (take k rs) k) (cost_at (at_level p (take k rs) k) j)) → at_level p (take (k + 1) (slice_set rs k a)) (k + 1) ≡ next_level (at_level p (take k rs) k) e (get_or (goals p.goals) (k + 1) no_goal)
level_with p rs k a e h ends same =
    let J : Instance = at_level p (take k rs) k in
    let f : ℕ → Ratio = λ j. minimising J (cost_at J j) in
    let n = length-map p.vars variable in
    ap (λ L. let K : Instance = record L { goal = get_or (goals p.goals) (k + 1) no_goal } in K)
    (rows_with (program p) rs k a f h (λ j g. same j (omega arith)) ∙ ap (λ r. with_row (with_rows (program p) (take k rs)) r f) ends)

-- a certificate without rounds
pub no_rounds_shows : (J : Instance) (c : Certificate) (z : Option Ratio) → c.rounds ≡ [] → ProvesWithin J c.nodes z → CertificateShows J c z
no_rounds_shows J c z e s = subst (λ l. ShowsAfter J l c.nodes z) (sym e) s

pub no_rounds_refused : (J : Instance) (c : Certificate) (z : Option Ratio) (level : ℕ) (r : Refused) → c.rounds ≡ [] → TreeIsRefused J c.nodes z level r → LevelRefuses J c z level r
no_rounds_refused J c z level r e (why, q, is) = (J, why, subst (λ l. IsAfterRounds J l J) (sym e) refl, q, is)

-- the last level of a best point
module _ (I : Instance) (gs : List Goal) (vs : List Ratio) (cs : List Certificate) (J : Instance) (hs : List Goal) (ws : List Ratio) (ds : List Certificate) (m : ℕ) (v : Ratio) (c : Certificate) (eh : hs ≡ []) (ew : ws ≡ v ∷ []) (ed : ds ≡ c ∷ []) (alone : c.rounds ≡ []) (leads : LeadsUp Best I gs vs cs 1 J hs ws ds m) where
  pub best_shown : ProvesWithin J c.nodes (Some (minimising J v)) → AreBest I gs vs cs
  best_shown s =
      leads.shown (subst (λ l. AreBest J l ws ds) (sym eh) (subst (λ l. AreBest J [] l ds) (sym ew) (subst (λ l. AreBest J [] (v ∷ []) l) (sym ed) (no_rounds_shows J c (Some (minimising J v)) alone s))))

  pub best_refused : (r : Refused) → TreeIsRefused J c.nodes (Some (minimising J v)) m r → LevelsRefuse Best I gs vs cs 1 r
  best_refused r q =
      leads.refused r (subst (λ l. LevelsRefuse Best J l ws ds m r) (sym eh) (subst (λ l. LevelsRefuse Best J [] l ds m r) (sym ew) (subst (λ l. LevelsRefuse Best J [] (v ∷ []) l m r) (sym ed)
      (no_rounds_refused J c (Some (minimising J v)) m r alone q))))

-- the level after the last certificate
module _ (I : Instance) (gs : List Goal) (vs : List Ratio) (cs : List Certificate) (x d : List Ratio) (J : Instance) (hs : List Goal) (ws : List Ratio) (ds : List Certificate) (m : ℕ) (ed : ds ≡ []) (leads : LeadsUp (Endless x d) I gs vs cs 1 J hs ws ds m) where
  pub endless_shown : IsRay J x d → RayFits J d → AreEndless I gs vs cs x d
  endless_shown ray fits = leads.shown (subst (λ l. AreEndless J hs ws l x d) (sym ed) (ray, fits))

  pub endless_refused : (r : Refused) → EndRefuses (Endless x d) J m r → LevelsRefuse (Endless x d) I gs vs cs 1 r
  endless_refused r q = leads.refused r (subst (λ l. LevelsRefuse (Endless x d) J hs ws l m r) (sym ed) q)

-- a level of the climb, that is refused or whose value's end doesn't fit
module _ (end : Ending) (I : Instance) (gs : List Goal) (vs : List Ratio) (cs : List Certificate) (J : Instance) (g : Goal) (hs : List Goal) (v : Ratio) (ws : List Ratio) (c : Certificate) (ds : List Certificate) (m : ℕ) (alone : c.rounds ≡ []) (leads : LeadsUp end I gs vs cs 1 J (g ∷ hs) (v ∷ ws) (c ∷ ds) m) where
  pub level_refused : (r : Refused) → TreeIsRefused J c.nodes (Some (minimising J v)) m r → LevelsRefuse end I gs vs cs 1 r
  level_refused r q = leads.refused r (inl (no_rounds_refused J c (Some (minimising J v)) m r alone q))

  pub level_wide : (n : ℕ) → n ≡ m + 1 → ProvesWithin J c.nodes (Some (minimising J v)) → EndIsWide J v → LevelsRefuse end I gs vs cs 1 (Level n (Wide 0))
  level_wide n e s w = leads.refused (Level n (Wide 0)) (inr (inl (no_rounds_shows J c (Some (minimising J v)) alone s, w, ap (λ k. Level k (Wide 0)) e)))

-- with one goal, the program after the rounds
module _ (p : Parts) (c : Certificate) (rs : List Added) (z : Option Ratio) (after : IsAfterRounds (program p) c.rounds (with_rows (program p) rs)) where
  pub after_shown : ProvesWithin (at_level p rs 0) c.nodes z → CertificateShows (program p) c z
  after_shown s = shows_from c.rounds (program p) (with_rows (program p) rs) c.nodes z after (subst (λ J. ProvesWithin J c.nodes z) (level_zero p rs) s)

  pub after_refused : (r : Refused) → TreeIsRefused (at_level p rs 0) c.nodes z 1 r → LevelRefuses (program p) c z 1 r
  after_refused r (why, q, e) = (with_rows (program p) rs, why, after, subst (λ J. TreeRefuses (J ∷ []) c.nodes z 1 why) (level_zero p rs) q, e)

-- the end of the next level's row
module _ (J : Instance) (v : Ratio) (t k : Frac) (et : ratio t ≡ minimising J v) (ek : ratio k ≡ minimising J J.goal.constant) where
  pub reached_end : (r : Result Frac Unfit) → IfOk r (λ e. IsSame (ratio e) (sum (ratio t) (negative (ratio k)))) → IfOk r (λ _. SumFits (ratio t) (negative (ratio k))) → IfOk r (λ e. IsReachedEnd J v (ratio e))
  reached_end (Ok e) is fits = record {
    fits = subst (λ a. SumFits a (negative (minimising J J.goal.constant))) et (subst (λ b. SumFits (ratio t) (negative b)) ek fits);
    reduced = (e.above, e.reduced);
    same = subst (λ a. IsSame (ratio e) (sum a (negative (minimising J J.goal.constant)))) et (subst (λ b. IsSame (ratio e) (sum (ratio t) (negative b))) ek is);
  }
  reached_end (Err w) is fits = tt
