-- What the checks of a claim's certificates, one after the other, say of all of them.
use Rattle.std.proofs.Common.{◌≡◌, ℕ, zero, suc, Bool, false, ◌==◌, ◌+◌, ◌<◌, Ok, Err, OnOk, inl, inr, Some, List, [], ◌∷◌, length, take, drop, slice_index_or, map, arith, refl, sym, ◌∙◌, ap, subst, length-drop}
use Rattle.std.specs.List.{All}
use Rattle.std.specs.declared.result.Result.{Result}
use Rattle.std.proofs.lemmas.List.{length-map}
use Rattle.std.proofs.lemmas.List.Elements.{All-nil, All-head}
use Rattle.rational.specs.Ratio.{Ratio}
use Rattle.fraction.specs.Frac.{ratio, ratios}
use Rattle.fraction.specs.declared.frac.Frac.{Frac}
use Rattle.evidence.specs.Instance as Of
use Rattle.evidence.specs.Instance.{minimising}
use Rattle.evidence.specs.Width.{ProvesWithin}
use Rattle.evidence.specs.Rounds.{Certificate}
use Rattle.evidence.specs.Levels.{AreBest, RoundsAreOfOneGoal}
use Rattle.instance.specs.Parts.{Parts, IsValid}
use Rattle.instance.specs.Program.{goal, goals, problem, program}
use Rattle.certificate.specs.Meanings as Means
use Rattle.certificate.specs.declared.nodes.Cert.{Cert}
use Rattle.cert_checker.specs.declared.at_hand.Added.{Added}
use Rattle.cert_checker.specs.declared.refused.Refused.{Refused}
use Rattle.cert_checker.specs.declared.refused.Refused.TheVariants.{Round}
use Rattle.cert_checker.specs.Programs.{with_rows}
use Rattle.cert_checker.specs.RoundRefusals.{IsAfterRounds}
use Rattle.cert_checker.specs.Reached.{at_level, TreeIsRefused, AreRoundRows, HoldsRounds}
use Rattle.cert_checker.specs.LevelRefusals.{LeadsUp, Ending, Best, Endless, AreEnough, LevelsRefuse, ClaimRoundsRefuse, ClaimRoundsHold, CertificatesRefuse}
use Rattle.cert_checker.proofs.AddedLeads.{drop_map, best_shown, best_refused, after_shown, after_refused}
use Rattle.cert_checker.proofs.EachCert.{alone_to, alone_from}
use Rattle.cert_checker.proofs.Values.{goals_count}
use Rattle.cert_checker.proofs.Walks.{drop_all}

-- both facts of an answer
pub both_ok : {T E A B C : Type 0} (r : Result T E) → (A → B → C) → OnOk r A → OnOk r B → OnOk r C
both_ok (Ok x) f a b = f a b
both_ok (Err e) f a b = a

-- the last element is the rest
pub last_alone : {X Y : Type 0} (f : X → Y) (xs : List X) (i : ℕ) (x : X) → i + 1 ≡ length xs → x ≡ slice_index_or xs i x → drop i (map f xs) ≡ f x ∷ []
last_alone f xs i x e is =
    let long = length-map xs f in
    drop_map f xs i x (omega arith) is ∙ ap (λ l. f x ∷ l) (drop_all (map f xs) (i + 1) (omega arith))

-- a test of being empty
pub not_none : (n : ℕ) (b : Bool) → b ≡ (n == 0) → b ≡ false → 0 < n
not_none zero b e f = absurd (cc)
not_none (suc n) b e f = omega arith

-- rounds that hold, in the words of refusals
pub rounds_hold : (P : Of.Problem) (cs : List Certificate) (rs : List Added) (n : ℕ) → HoldsRounds P cs rs n → ClaimRoundsHold P cs
rounds_hold P [] rs n h = tt
rounds_hold P (c ∷ cs) rs n h = (h.alone, with_rows P.program (take n rs), h.after)

module _ (p : Parts) where
  -- there are later goals exactly where there is more than one
  pub later_none : length p.goals ≡ 1 → drop 1 (goals p.goals) ≡ []
  later_none e = drop_all (goals p.goals) 1 (sym (length-map p.goals goal ∙ e))

  later_some : 1 < length p.goals → drop 1 (goals p.goals) ≡ [] → ⊥
  later_some h e =
      let n = length-map p.goals goal in
      let m = length-drop 1 (goals p.goals) in
      let z = ap length e in
      omega arith

  -- several goals: no certificate has a round
  pub alone_held : (certs : List Cert) (rs : List Added) → All (λ (c : Cert). c.rounds ≡ []) certs → HoldsRounds (problem p) (Means.certificates certs) rs 0
  alone_held [] rs f = refl
  alone_held (c ∷ cs) rs f =
      let empty : Means.rounds c.rounds ≡ [] = ap Means.rounds (All-head (λ (d : Cert). d.rounds ≡ []) c cs f) in
      record {
        alone = inr (alone_to (c ∷ cs) f);
        count = sym (ap length empty);
        inside = omega arith;
        after = subst (λ l. IsAfterRounds (program p) l (program p)) (sym empty) refl;
      }

  pub not_alone : (certs : List Cert) → 0 < length certs → 1 < length p.goals → (All (λ (c : Cert). c.rounds ≡ []) certs → ⊥) → ClaimRoundsRefuse (problem p) (Means.certificates certs) (Round 1 0)
  not_alone [] h more some = absurd (omega arith)
  not_alone (c ∷ cs) h more some = inr (λ one. several one, refl)
    where
      several : RoundsAreOfOneGoal (problem p) (Means.certificates (c ∷ cs)) → ⊥
      several (inl none) = later_some more none
      several (inr f) = some (alone_from (c ∷ cs) f)

  pub all_alone : (certs : List Cert) (rs : List Added) (n : ℕ) → (0 < length certs → 1 < length p.goals) → HoldsRounds (problem p) (Means.certificates certs) rs n → All (λ (c : Cert). c.rounds ≡ []) certs
  all_alone [] rs n more h = All-nil (λ (c : Cert). c.rounds ≡ [])
  all_alone (c ∷ cs) rs n more h = by_goal h.alone
    where
      by_goal : RoundsAreOfOneGoal (problem p) (Means.certificates (c ∷ cs)) → All (λ (d : Cert). d.rounds ≡ []) (c ∷ cs)
      by_goal (inl none) = absurd (later_some (more (omega arith)) none)
      by_goal (inr f) = alone_from (c ∷ cs) f

  -- one goal, one certificate: the program with the rows of its rounds is that of the only level
  module _ (values : List Frac) (certs : List Cert) (rs : List Added) (n : ℕ) (cert : Cert) (value : Frac)
      (one : length p.goals ≡ 1) (only : length certs ≡ 1) (ic : cert ≡ slice_index_or certs 0 cert) (count : length values ≡ 1) (iv : value ≡ slice_index_or values 0 value)
      (holds : HoldsRounds (problem p) (Means.certificates certs) rs n) where
    only_cert : Means.certificates certs ≡ Means.certificate cert ∷ []
    only_cert = last_alone Means.certificate certs 0 cert (sym only) ic

    only_value : ratios values ≡ ratio value ∷ []
    only_value = last_alone ratio values 0 value (sym count) iv

    rows : AreRoundRows (problem p) (Means.certificate cert) [] n rs
    rows = subst (λ cs. HoldsRounds (problem p) cs rs n) only_cert holds

    pub one_shown : ProvesWithin (at_level p (take n rs) 0) (Means.nodes cert.nodes) (Some (minimising (at_level p (take n rs) 0) (ratio value))) → AreBest (program p) (drop 1 (goals p.goals)) (ratios values) (Means.certificates certs)
    one_shown s =
        subst (λ gs. AreBest (program p) gs (ratios values) (Means.certificates certs)) (sym (later_none one))
        (subst (λ vs. AreBest (program p) [] vs (Means.certificates certs)) (sym only_value)
        (subst (λ cs. AreBest (program p) [] (ratio value ∷ []) cs) (sym only_cert)
        (after_shown p (Means.certificate cert) (take n rs) (Some (minimising (program p) (ratio value))) (rows).after s)))

    pub one_refused : (r : Refused) → TreeIsRefused (at_level p (take n rs) 0) (Means.nodes cert.nodes) (Some (minimising (at_level p (take n rs) 0) (ratio value))) 1 r → LevelsRefuse Best (program p) (drop 1 (goals p.goals)) (ratios values) (Means.certificates certs) 1 r
    one_refused r q =
        subst (λ gs. LevelsRefuse Best (program p) gs (ratios values) (Means.certificates certs) 1 r) (sym (later_none one))
        (subst (λ vs. LevelsRefuse Best (program p) [] vs (Means.certificates certs) 1 r) (sym only_value)
        (subst (λ cs. LevelsRefuse Best (program p) [] (ratio value ∷ []) cs 1 r) (sym only_cert)
        (after_refused p (Means.certificate cert) (take n rs) (Some (minimising (program p) (ratio value))) (rows).after r q)))

  -- several goals: the last level's certificate, over the rows of the goals before it
  module _ (values : List Frac) (certs : List Cert) (rs : List Added) (last : ℕ) (cert : Cert) (value : Frac)
      (is_last : last + 1 ≡ length p.goals) (counted : length certs ≡ length p.goals) (ic : cert ≡ slice_index_or certs last cert) (valued : length values ≡ length p.goals) (iv : value ≡ slice_index_or values last value)
      (free : All (λ (c : Cert). c.rounds ≡ []) certs)
      (leads : LeadsUp Best (program p) (drop 1 (goals p.goals)) (ratios values) (Means.certificates certs) 1 (at_level p rs last) (drop (last + 1) (goals p.goals)) (drop last (ratios values)) (drop last (Means.certificates certs)) (last + 1)) where
    none_after : drop (last + 1) (goals p.goals) ≡ []
    none_after = drop_all (goals p.goals) (last + 1) (is_last ∙ sym (length-map p.goals goal))

    without : (Means.certificate cert).rounds ≡ []
    without = ap Means.rounds (ap (λ (c : Cert). c.rounds) ic ∙ free last cert (omega arith))

    pub last_shown : ProvesWithin (at_level p rs last) (Means.nodes cert.nodes) (Some (minimising (at_level p rs last) (ratio value))) → AreBest (program p) (drop 1 (goals p.goals)) (ratios values) (Means.certificates certs)
    last_shown =
        best_shown (program p) (drop 1 (goals p.goals)) (ratios values) (Means.certificates certs) (at_level p rs last) (drop (last + 1) (goals p.goals)) (drop last (ratios values)) (drop last (Means.certificates certs)) (last + 1) (ratio value) (Means.certificate cert)
        none_after (last_alone ratio values last value (omega arith) iv) (last_alone Means.certificate certs last cert (omega arith) ic) without leads

    pub last_refused : (r : Refused) → TreeIsRefused (at_level p rs last) (Means.nodes cert.nodes) (Some (minimising (at_level p rs last) (ratio value))) (last + 1) r → LevelsRefuse Best (program p) (drop 1 (goals p.goals)) (ratios values) (Means.certificates certs) 1 r
    last_refused =
        best_refused (program p) (drop 1 (goals p.goals)) (ratios values) (Means.certificates certs) (at_level p rs last) (drop (last + 1) (goals p.goals)) (drop last (ratios values)) (drop last (Means.certificates certs)) (last + 1) (ratio value) (Means.certificate cert)
        none_after (last_alone ratio values last value (omega arith) iv) (last_alone Means.certificate certs last cert (omega arith) ic) without leads

  -- how many certificates there are
  module _ (valid : IsValid p) (certs : List Cert) where
    pub best_enough : length certs ≡ length p.goals → AreEnough Best (problem p) (Means.certificates certs)
    best_enough e = length-map certs Means.certificate ∙ e ∙ sym (goals_count p valid)

    pub endless_enough : (x d : List Ratio) → length certs < length p.goals → AreEnough (Endless x d) (problem p) (Means.certificates certs)
    endless_enough x d h = let n = length-map certs Means.certificate in let g = goals_count p valid in omega arith

  -- what the certificates are refused for, after their rounds
  module _ (end : Ending) (values : List Frac) (certs : List Cert) (rs : List Added) (n : ℕ) (holds : HoldsRounds (problem p) (Means.certificates certs) rs n) where
    pub levels_refused : AreEnough end (problem p) (Means.certificates certs) → (r : Refused) → LevelsRefuse end (program p) (drop 1 (goals p.goals)) (ratios values) (Means.certificates certs) 1 r → CertificatesRefuse end (problem p) (ratios values) (Means.certificates certs) r
    levels_refused enough r q = inr (inr (rounds_hold (problem p) (Means.certificates certs) rs n holds, enough, q))
