-- One step from level to level, as the code makes it.
use Rattle.std.proofs.Common.{◌≡◌, ℕ, ◌+◌, ◌<◌, ℤ, inl, Option, None, Some, List, [], ◌∷◌, length, take, drop, get_or, slice_index_or, slice_set, arith, refl, sym, ◌∙◌, ap, subst}
use Rattle.std.specs.List.{All}
use Rattle.std.proofs.lemmas.List.{length-map}
use Rattle.rational.specs.Ratio.{Ratio, whole}
use Rattle.fraction.specs.Frac.{ratio, ratios}
use Rattle.fraction.specs.declared.frac.Frac.{Frac}
use Rattle.evidence.specs.Instance.{Goal, Instance, no_goal, cost_at, minimising}
use Rattle.evidence.specs.Width.{ProvesWithin}
use Rattle.evidence.specs.OneDenominator.{number_at}
use Rattle.evidence.specs.AddedRows.{with_row}
use Rattle.evidence.specs.Rounds.{Certificate}
use Rattle.evidence.specs.Levels.{IsReachedEnd}
use Rattle.instance.specs.Parts.{Parts}
use Rattle.instance.specs.Program.{variable, row, goal, goals, program}
use Rattle.certificate.specs.Meanings as Means
use Rattle.certificate.specs.declared.nodes.Round.{Round}
use Rattle.certificate.specs.declared.nodes.Cert.{Cert}
use Rattle.cert_checker.specs.declared.at_hand.Added.{Added}
use Rattle.cert_checker.specs.declared.refused.Refused.{Refused}
use Rattle.cert_checker.specs.declared.refused.Refused.TheVariants.{Level}
use Rattle.cert_checker.specs.declared.refused.Unshown.TheVariants.{Wide}
use Rattle.cert_checker.specs.Programs.{coefficient, with_rows, numerators, GivesRow}
use Rattle.cert_checker.specs.RoundRefusals.{AnyRoundRefuses, RoundsRefuse, IsAfterRounds, LeadsThroughRounds}
use Rattle.cert_checker.specs.Reached.{at_level, TreeIsRefused}
use Rattle.cert_checker.specs.LevelRefusals.{Ending, EndIsWide, LevelsRefuse, LeadsUp}
use Rattle.cert_checker.proofs.AddedLeads.{drop_at, drop_map, rows_with, round_on, level_on, level_with, level_refused, level_wide, no_rounds_shows}
use Rattle.cert_checker.proofs.Walks.{drop_all}

module _ (p : Parts) (values : List Frac) (certs : List Cert) (rs : List Added) (k : ℕ) (cert : Cert) (value : Frac)
    (hc : k < length certs) (ic : cert ≡ slice_index_or certs k cert) (hv : k < length values) (iv : value ≡ slice_index_or values k value) (hg : k + 1 < length p.goals) (free : All (λ (c : Cert). c.rounds ≡ []) certs) where
  abbrev here : Instance
  here = at_level p (take k rs) k

  abbrev next_goal : Goal
  next_goal = get_or (goals p.goals) (k + 1) no_goal

  abbrev Leads : Ending → Instance → List Goal → List Ratio → List Certificate → ℕ → Type 0
  Leads end J gs vs cs n = LeadsUp end (program p) (drop 1 (goals p.goals)) (ratios values) (Means.certificates certs) 1 J gs vs cs n

  without : (Means.certificate cert).rounds ≡ []
  without = ap Means.rounds (ap (λ (c : Cert). c.rounds) ic ∙ free k cert hc)

  module _ (end : Ending) (leads : Leads end here (drop (k + 1) (goals p.goals)) (drop k (ratios values)) (drop k (Means.certificates certs)) (k + 1)) where
    at_head : Leads end here (next_goal ∷ drop (k + 1 + 1) (goals p.goals)) (ratio value ∷ drop (k + 1) (ratios values)) (Means.certificate cert ∷ drop (k + 1) (Means.certificates certs)) (k + 1)
    at_head =
        let n = length-map p.goals goal in
        subst (λ gs. Leads end here gs (ratio value ∷ drop (k + 1) (ratios values)) (Means.certificate cert ∷ drop (k + 1) (Means.certificates certs)) (k + 1)) (drop_at (goals p.goals) (k + 1) no_goal (omega arith))
        (subst (λ vs. Leads end here (drop (k + 1) (goals p.goals)) vs (Means.certificate cert ∷ drop (k + 1) (Means.certificates certs)) (k + 1)) (drop_map ratio values k value hv iv)
        (subst (λ cs. Leads end here (drop (k + 1) (goals p.goals)) (drop k (ratios values)) cs (k + 1)) (drop_map Means.certificate certs k cert hc ic) leads))

    pub climb_refused : (r : Refused) → TreeIsRefused here (Means.nodes cert.nodes) (Some (minimising here (ratio value))) (k + 1) r → LevelsRefuse end (program p) (drop 1 (goals p.goals)) (ratios values) (Means.certificates certs) 1 r
    climb_refused r q =
        level_refused end (program p) (drop 1 (goals p.goals)) (ratios values) (Means.certificates certs) here next_goal (drop (k + 1 + 1) (goals p.goals)) (ratio value) (drop (k + 1) (ratios values)) (Means.certificate cert) (drop (k + 1) (Means.certificates certs)) (k + 1) without at_head r q

    pub climb_wide : ProvesWithin here (Means.nodes cert.nodes) (Some (minimising here (ratio value))) → EndIsWide here (ratio value) → LevelsRefuse end (program p) (drop 1 (goals p.goals)) (ratios values) (Means.certificates certs) 1 (Level (k + 2) (Wide 0))
    climb_wide s w =
        level_wide end (program p) (drop 1 (goals p.goals)) (ratios values) (Means.certificates certs) here next_goal (drop (k + 1 + 1) (goals p.goals)) (ratio value) (drop (k + 1) (ratios values)) (Means.certificate cert) (drop (k + 1) (Means.certificates certs)) (k + 1) without at_head (k + 2) (omega arith) s w

    pub climb_next : (a : Added) (e : Ratio) → k < length rs → ProvesWithin here (Means.nodes cert.nodes) (Some (minimising here (ratio value))) → IsReachedEnd here (ratio value) e → row a.ends ≡ record { lb = Some e; ub = Some e } → ((j : ℕ) → j < length p.vars → coefficient a j ≡ minimising here (cost_at here j)) →
        Leads end (at_level p (take (k + 1) (slice_set rs k a)) (k + 1)) (drop (k + 1 + 1) (goals p.goals)) (drop (k + 1) (ratios values)) (drop (k + 1) (Means.certificates certs)) (k + 1 + 1)
    climb_next a e h s reached ends same =
        level_on end (program p) (drop 1 (goals p.goals)) (ratios values) (Means.certificates certs) 1 here next_goal (drop (k + 1 + 1) (goals p.goals)) (ratio value) (drop (k + 1) (ratios values)) (Means.certificate cert) (drop (k + 1) (Means.certificates certs)) (k + 1)
        (at_level p (take (k + 1) (slice_set rs k a)) (k + 1)) e (no_rounds_shows here (Means.certificate cert) (Some (minimising here (ratio value))) without s) reached (level_with p rs k a e h ends same) at_head

-- at the first level
pub leads_first : (p : Parts) (values : List Frac) (certs : List Cert) (rs : List Added) (end : Ending) → LeadsUp end (program p) (drop 1 (goals p.goals)) (ratios values) (Means.certificates certs) 1 (at_level p (take 0 rs) 0) (drop (0 + 1) (goals p.goals)) (drop 0 (ratios values)) (drop 0 (Means.certificates certs)) (0 + 1)
leads_first p values certs rs end = record { shown = λ s. s; refused = λ r q. q }

-- one round, as the code makes it
module _ (p : Parts) (rounds : List Round) (rs : List Added) (k : ℕ) (w : Round) (h : k < length rounds) (is : w ≡ slice_index_or rounds k w)
    (leads : LeadsThroughRounds (program p) (Means.rounds rounds) 1 (with_rows (program p) (take k rs)) (drop k (Means.rounds rounds)) (k + 1)) where
  at_round : LeadsThroughRounds (program p) (Means.rounds rounds) 1 (with_rows (program p) (take k rs)) (Means.round w ∷ drop (k + 1) (Means.rounds rounds)) (k + 1)
  at_round = subst (λ l. LeadsThroughRounds (program p) (Means.rounds rounds) 1 (with_rows (program p) (take k rs)) l (k + 1)) (drop_map Means.round rounds k w h is) leads

  pub round_refused : (r : Refused) → AnyRoundRefuses (with_rows (program p) (take k rs)) (Means.round w) (k + 1) r → RoundsRefuse (program p) (Means.rounds rounds) 1 r
  round_refused r q = (at_round).refused r (inl q)

  pub round_next : (slots : List (Option Frac)) (low : ℤ) (a : Added) → k < length rs → GivesRow (with_rows (program p) (take k rs)) (Means.round w) slots low → row a.ends ≡ record { lb = Some (whole low); ub = None } → ((j : ℕ) → j < length p.vars → coefficient a j ≡ whole (number_at (numerators slots) j)) →
      LeadsThroughRounds (program p) (Means.rounds rounds) 1 (with_rows (program p) (take (k + 1) (slice_set rs k a))) (drop (k + 1) (Means.rounds rounds)) (k + 1 + 1)
  round_next slots low a g made ends same =
      let J : Instance = with_rows (program p) (take k rs) in
      let f : ℕ → Ratio = λ j. whole (number_at (numerators slots) j) in
      let n = length-map p.vars variable in
      round_on (program p) (Means.rounds rounds) 1 J (Means.round w) (drop (k + 1) (Means.rounds rounds)) (k + 1) (with_rows (program p) (take (k + 1) (slice_set rs k a))) (numerators slots) low made.cut made.fits
      (rows_with (program p) rs k a f g (λ j l. same j (omega arith)) ∙ ap (λ r. with_row J r f) ends) at_round

pub rounds_first : (p : Parts) (rounds : List Round) (rs : List Added) → LeadsThroughRounds (program p) (Means.rounds rounds) 1 (with_rows (program p) (take 0 rs)) (drop 0 (Means.rounds rounds)) (0 + 1)
rounds_first p rounds rs = record { after = λ K a. a; refused = λ r q. q }

pub rounds_last : (p : Parts) (rounds : List Round) (rs : List Added) (k : ℕ) → k ≡ length rounds → LeadsThroughRounds (program p) (Means.rounds rounds) 1 (with_rows (program p) (take k rs)) (drop k (Means.rounds rounds)) (k + 1) → IsAfterRounds (program p) (Means.rounds rounds) (with_rows (program p) (take (length rounds) rs))
rounds_last p rounds rs k e leads =
    let n = length-map rounds Means.round in
    let J : Instance = with_rows (program p) (take k rs) in
    let end : drop k (Means.rounds rounds) ≡ [] = drop_all (Means.rounds rounds) k (omega arith) in
    subst (λ m. IsAfterRounds (program p) (Means.rounds rounds) (with_rows (program p) (take m rs))) e (leads.after J (subst (λ l. IsAfterRounds J l J) (sym end) refl))
