-- What comes of trying a cut at a basis: there is always something.
use Rattle.std.proofs.Common.{◌≡◌, ◌⊎◌, inl, inr, ℕ, ◌<◌, ℤ, pos, Bool, true, false, IsTrue, List, refl, sym, ◌∙◌, subst}
use Rattle.rational.specs.Ratio.{Ratio, whole, sum, negative, IsNumber, IsSame}
use Rattle.rational.proofs.ReducedForms.{reduce}
use Rattle.evidence.specs.Sums.{none, IsWhole}
use Rattle.evidence.specs.Instance.{Instance, IsInstance, width, variable_at}
use Rattle.evidence.specs.Point.{value_at}
use Rattle.evidence.specs.Cases.{Multiplier, AreLegal, form, low_sum}
use Rattle.evidence.specs.Width.{FormFits, LowFits}
use Rattle.evidence.proofs.Columns.{by_bool}
use Rattle.evidence.proofs.Numbers.{sum-number}
use Rattle.evidence.proofs.UniqueRows.{low-number}
use Rattle.evidence.proofs.WholeSums.{whole-number}
use Rattle.bases.specs.Dictionary.{Entries}
use Rattle.bases.specs.Program.{goal_column}
use Rattle.simplex_rules.specs.declared.columns.Status.{Status}
use Rattle.simplex_rules.specs.declared.columns.Status.TheVariants.{Basic, Lower, Upper, Zero}
use Rattle.simplex_rules.specs.Reports.{collected}
use Rattle.simplex_rules.specs.Statuses.{status_at, basic_in, HasDictionary, IsPlaced}
use Rattle.search_rules.specs.Branching.{IsWholeBelow}
use Rattle.search_rules.specs.Cuts.{IsFractional, IsLeftOver, IsCutFormBy, IsCutForm, AreLeftWithin, NoneIsLeftAtZero, AreCutMultipliers, Trial, NoCut, WideCut, Cut, MakesCut, TriesMultipliers, TriesEquation, TriesBasis}
use Rattle.no_cycles.proofs.Choices.{chosen}
use Rattle.no_cycles.proofs.CutMultipliers.{legal}
use Rattle.no_cycles.proofs.Doubts.{Surely, sure, so, either, AllOrFirst, all_or_first, table}
use Rattle.no_cycles.proofs.Sizes.{floor_of, ceiling_of}

-- what is left of an entry
left_over : (s : Status) (x : Ratio) → IsNumber x → (r : Ratio) × IsLeftOver s x r
left_over Basic x p = (none, refl)
left_over Zero x p = (x, refl)
left_over Lower x p =
    let (k, floor) = floor_of x p in
    let r = reduce (sum x (negative (whole k))) (sum-number x (negative (whole k)) p (whole-number k)) in
    (r.form, (k, floor, record { reduced = r.reduced; same = r.same }))
left_over Upper x p =
    let (k, ceiling) = ceiling_of x p in
    let r = reduce (sum x (negative (whole k))) (sum-number x (negative (whole k)) p (whole-number k)) in
    (r.form, (k, ceiling, record { reduced = r.reduced; same = r.same }))

-- the coefficient of a cut at a variable
abbrev IsCoefficient : Bool → Ratio → ℤ → Type 0
IsCoefficient b x n = IsSame x (whole n) × ((IsTrue b → ⊥) → n ≡ pos 0)

coefficient : (b : Bool) (x : Ratio) → IsCutFormBy b x → (n : ℤ) × IsCoefficient b x n
coefficient true x w = (w.number, (w.same, λ not. absurd (not refl)))
coefficient false x same = (pos 0, (same, λ not. refl))

module _ (I : Instance) (good : IsInstance I) where
  -- of multipliers
  module _ (ms : List Multiplier) (are_legal : AreLegal I ms) where
    abbrev Part : ℕ → Type 0
    Part j = FormFits I ms j × IsCutForm I ms j

    makes : ((j : ℕ) → j < width I → Part j) → LowFits I none ms → (IsWhole (low_sum I none ms) → ⊥) → (cs : List ℤ) × (k : ℤ) × MakesCut I ms cs k
    makes all low part =
        let (f, are) = chosen (λ j n. IsCoefficient (variable_at I j).whole (form I ms j) n) (pos 0) (width I) (λ j h. let a = all j h in coefficient (variable_at I j).whole (form I ms j) a.1) in
        let (cs, is) = table (pos 0) f (width I) in
        let (k, ceiling) = ceiling_of (low_sum I none ms) (low-number I good ms are_legal) in (
          cs,
          k,
          record {
            cut = record {
              legal = are_legal;
              count = is.count;
              forms = λ j h. let a = are j h in subst (λ n. IsSame (form I ms j) (whole n)) (sym (is.items j h)) a.0;
              others = λ j h not. let a = are j h in is.items j h ∙ a.1 not;
              rounded = ceiling;
            };
            fits = record { forms = λ j h. let a = all j h in a.0; low = low };
            rounds = part;
          },
        )

    multipliers : Surely ((trial : Trial) × TriesMultipliers I ms trial)
    multipliers = so (all_or_first Part (width I)) by
      where
        rounds : ((j : ℕ) → j < width I → Part j) → LowFits I none ms → IsWhole (low_sum I none ms) ⊎ (IsWhole (low_sum I none ms) → ⊥) → (trial : Trial) × TriesMultipliers I ms trial
        rounds all low (inl w) = (NoCut, inl (inr (all, low, w), refl))
        rounds all low (inr part) = let (cs, k, cut) = makes all low part in (Cut ms cs k, inr (inr (cs, k, cut, refl)))

        ends : ((j : ℕ) → j < width I → Part j) → LowFits I none ms ⊎ (LowFits I none ms → ⊥) → Surely ((trial : Trial) × TriesMultipliers I ms trial)
        ends all (inr not) = sure (WideCut, inr (inl (inr (all, not), refl)))
        ends all (inl low) = so (either (IsWhole (low_sum I none ms))) (λ w. sure (rounds all low w))

        forms : (j : ℕ) → j < width I → (Part j → ⊥) → ((i : ℕ) → i < j → Part i) → FormFits I ms j ⊎ (FormFits I ms j → ⊥) → (trial : Trial) × TriesMultipliers I ms trial
        forms j h not below (inr wide) = (WideCut, inr (inl (inl (j, h, below, wide), refl)))
        forms j h not below (inl fits) = (NoCut, inl (inl (j, h, below, fits, λ c. not (fits, c)), refl))

        by : AllOrFirst Part (width I) → Surely ((trial : Trial) × TriesMultipliers I ms trial)
        by (inl all) = so (either (LowFits I none ms)) (ends all)
        by (inr (j, h, not, below)) = so (either (FormFits I ms j)) (λ f. sure (forms j h not below f))

  -- of a basis
  module _ (ss : List Status) (placed : IsPlaced I ss) (u : Entries) (dict : HasDictionary I false ss u) where
    left : (j : ℕ) → (ms : List Multiplier) × AreCutMultipliers I ss u j ms
    left j =
        let of : (c : ℕ) → (r : Ratio) × IsLeftOver (status_at ss c) (u j c) r = λ c. left_over (status_at ss c) (u j c) (let r = dict.entries.reduced j c in r.0) in
        let f : ℕ → Ratio = λ c. (of c).0 in
        (collected f (goal_column I), record { left = f; are = λ c h. (of c).1; is = refl })

    equation : (j : ℕ) → Surely ((trial : Trial) × TriesEquation I ss u j trial)
    equation j = so (either (AreLeftWithin I ss u j)) by
      where
        zeros : AreLeftWithin I ss u j → NoneIsLeftAtZero I ss u j ⊎ (NoneIsLeftAtZero I ss u j → ⊥) → Surely ((trial : Trial) × TriesEquation I ss u j trial)
        zeros fits (inr some) = sure (NoCut, inr (inl (fits, some, refl)))
        zeros fits (inl clear) =
            let (ms, are) = left j in
            so (multipliers ms (legal I ss u j ms placed dict clear are)) (λ x. sure (x.0, inr (inr (ms, fits, clear, are, x.1))))

        by : AreLeftWithin I ss u j ⊎ (AreLeftWithin I ss u j → ⊥) → Surely ((trial : Trial) × TriesEquation I ss u j trial)
        by (inr wide) = sure (WideCut, inl (wide, refl))
        by (inl fits) = so (either (NoneIsLeftAtZero I ss u j)) (zeros fits)

    pub tried : (x : List Ratio) → Surely ((trial : Trial) × TriesBasis I x ss trial)
    tried x = so (all_or_first (λ j. IsTrue (variable_at I j).whole → IsWhole (value_at x j)) (width I)) by
      where
        whole_one : (j : ℕ) → ((IsTrue (variable_at I j).whole → IsWhole (value_at x j)) → ⊥) → IsTrue (variable_at I j).whole
        whole_one j not = by_bool (variable_at I j).whole (λ e. e) (λ e. absurd (not (λ t. let no_whole : true ≡ false = sym t ∙ e in absurd (cc))))

        first : (j : ℕ) → j < width I → ((IsTrue (variable_at I j).whole → IsWhole (value_at x j)) → ⊥) → IsWholeBelow I x j → IsFractional I x j
        first j h not below = record { inside = h; whole = whole_one j not; below = below; other = λ w. not (λ t. w) }

        by : AllOrFirst (λ j. IsTrue (variable_at I j).whole → IsWhole (value_at x j)) (width I) → Surely ((trial : Trial) × TriesBasis I x ss trial)
        by (inl all) = sure (NoCut, inl (all, refl))
        by (inr (j, h, not, below)) =
            by_bool (basic_in ss j)
            (λ on. so (equation j) (λ e. sure (e.0, inr (inr (j, u, first j h not below, on, dict, e.1)))))
            (λ off. sure (NoCut, inr (inl (j, first j h not below, off, refl))))
