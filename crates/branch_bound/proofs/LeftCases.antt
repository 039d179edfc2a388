-- What a walk keeps for the cases that come in place of one is what the rules leave to them.
use Rattle.std.proofs.Common.{◌≡◌, ℕ, zero, suc, Bool, true, false, cond, Option, None, Some, List, [], ◌∷◌, ◌++◌, map, length, arith, refl, sym, ◌∙◌, ap, ap₂}
use Rattle.std.specs.List.{All}
use Rattle.std.proofs.lemmas.List.{map-append}
use Rattle.std.proofs.lemmas.List.Elements.{All-head, All-tail}
use Rattle.std.proofs.Math.ListN.{length-append}
use Rattle.rational.specs.Ratio.{Ratio}
use Rattle.evidence.specs.Instance.{Instance}
use Rattle.case_tree.specs.declared.cuts.Cut.{Cut}
use Rattle.case_tree.specs.declared.path.Branch.{Branch}
use Rattle.case_tree.specs.Cuts.{pending, pending_places, branch_at}
use Rattle.simplex_rules.specs.Ends.{End}
use Rattle.search_rules.specs.Branching.{Case}
use Rattle.search_rules.specs.Bounds as Rules
use Rattle.search_rules.specs.Gaps.{number_after}
use Rattle.branch_bound.specs.declared.carried.Carried.{Carried}
use Rattle.branch_bound.specs.declared.walk.Walk.{Walk}
use Rattle.branch_bound.specs.declared.walk.RayAt.{RayAt}
use Rattle.branch_bound.specs.Walks.{second_cases, rest, waiting, waiting_by}
use Rattle.branch_bound.specs.Bounds as Kept
use Rattle.branch_bound.specs.Bounds.{carried_at, multipliers_of, number_of, kept_after, kept_at, kept_next, LeavesBy, CarriesNoneAlong}

-- one for each second case that is still to come
kept_count : (ks : List (Option Carried)) (es : List ℕ) → length (kept_after ks es) ≡ length es
kept_count ks [] = refl
kept_count ks (e ∷ es) = ap suc (kept_count ks es)

seconds_count : (I : Instance) (bs : List Branch) (r : Option RayAt) (d : ℕ) (cs : List Cut) → length (second_cases bs r (pending I cs bs d) (pending_places bs d)) ≡ length (pending_places bs d)
seconds_count I bs r zero cs = refl
seconds_count I bs r (suc d) cs = by (branch_at bs d).is_second _ _ (seconds_count I bs r d _)
  where
    by : (b : Bool) (K : Instance) (Js : List Instance) → length (second_cases bs r Js (pending_places bs d)) ≡ length (pending_places bs d) → length (second_cases bs r (cond b Js (K ∷ Js)) (cond b (pending_places bs d) (d ∷ pending_places bs d))) ≡ length (cond b (pending_places bs d) (d ∷ pending_places bs d))
    by true K Js below = below
    by false K Js below = ap suc below

-- and for the case at hand
waiting_count : (I : Instance) (cs : List Cut) (bs : List Branch) (r : Option RayAt) (ks : List (Option Carried)) (o : Option ℕ) → length (waiting_by I cs bs r o) ≡ length (kept_next ks bs o)
waiting_count I cs bs r ks None = refl
waiting_count I cs bs r ks (Some d) = ap suc (seconds_count I bs r d cs ∙ sym (kept_count ks (pending_places bs d)))

-- each new case has what is left
module _ {B : Type 0} (f : Option Carried → B) (z : B) where
  left_map : (new : List (Option Carried)) (Cs : List Case) → length new ≡ length Cs → All (λ (k : Option Carried). f k ≡ z) new → map (λ (C : Case). z) Cs ≡ map f new
  left_map [] [] e all = refl
  left_map [] (C ∷ Cs) e all = absurd (omega arith)
  left_map (k ∷ new) [] e all = absurd (omega arith)
  left_map (k ∷ new) (C ∷ Cs) e all =
      ap₂ (λ (x : B) (xs : List B). x ∷ xs) (sym (All-head (λ (k : Option Carried). f k ≡ z) k new all))
      (left_map new Cs (omega arith) (All-tail (λ (k : Option Carried). f k ≡ z) k new all))

left_kept : {B : Type 0} (f : Option Carried → B) (after : B → B) (k : Option Carried) (new old kept : List (Option Carried)) (Cs : List Case) (y : B) (ys : List B) → y ≡ f k → ys ≡ map f old → length new ≡ length Cs → All (λ (n : Option Carried). f n ≡ after (f k)) new → kept ≡ new ++ old → map (λ (C : Case). after y) Cs ++ ys ≡ map f kept
left_kept f after k new old kept Cs y ys here rest count all is =
    ap₂ (λ z zs. map (λ (C : Case). after z) Cs ++ zs) here rest
    ∙ ap (λ zs. zs ++ map f old) (left_map f (after (f k)) new Cs count all)
    ∙ sym (map-append f new old) ∙ ap (map f) (sym is)

-- from the case at hand, with d branches above, by this end of its run
module _ (w x : Walk) (d : ℕ) (r : Option (List Ratio)) (e : End) (next : w.next ≡ Some d) (leaves : LeavesBy w x d r e) where
  abbrev old : List (Option Carried)
  old = kept_after w.carried.items (pending_places w.branches.items d)

  pub kept_before : x.keeps ≡ true → w.keeps ≡ true
  kept_before keeps = let l = leaves.2 in sym l.0 ∙ keeps

  module _ (I D : Instance) (Cs : List Case) (is : waiting I x x.next ≡ Cs ++ rest D w d) (keeps : w.keeps ≡ true) where
    kept_is : Kept.kept_by x x.next ≡ leaves.0 ++ old
    kept_is = let l = leaves.2 in l.1 keeps

    count : length leaves.0 ≡ length Cs
    count =
        let a = ap (λ (l : List (Option Carried)). length l) kept_is ∙ length-append leaves.0 old in
        let b = waiting_count I x.cuts.items x.branches.items x.ray x.carried.items x.next in
        let c = ap (λ (l : List Case). length l) is ∙ length-append Cs (rest D w d) in
        let f = seconds_count D w.branches.items w.ray d w.cuts.items in
        let g = kept_count w.carried.items (pending_places w.branches.items d) in
        omega arith

    module _ (none : CarriesNoneAlong w d r e) where
      pub carried_after_it : (k : Rules.Carried) (ks : List Rules.Carried) → k ≡ multipliers_of (carried_at w.carried.items d) → ks ≡ map multipliers_of old → map (λ (C : Case). Rules.carried_after r e k) Cs ++ ks ≡ Kept.carried x
      carried_after_it k ks here rest = left_kept multipliers_of (Rules.carried_after r e) (carried_at w.carried.items d) leaves.0 old (Kept.kept_by x x.next) Cs k ks here rest count (λ i y h. let q = leaves.1 none i y h in q.0) kept_is

      pub numbers_after_it : (y : Option Ratio) (ys : List (Option Ratio)) → y ≡ number_of (carried_at w.carried.items d) → ys ≡ map number_of old → map (λ (C : Case). number_after r e y) Cs ++ ys ≡ Kept.numbers x
      numbers_after_it y ys here rest = left_kept number_of (number_after r e) (carried_at w.carried.items d) leaves.0 old (Kept.kept_by x x.next) Cs y ys here rest count (λ i y h. let q = leaves.1 none i y h in q.1) kept_is
