-- What a walk keeps for the cases that are open, and what a search is asked for, as the rules of a search say it.
use Rattle.std.specs.Prelude.{◌≡◌, ℕ, ◌+◌, ◌<◌, Bool, true, ◌||◌, ◌⊎◌, Option, None, Some, IfSome, List, [], ◌∷◌, ◌++◌, length, map, get_or}
use Rattle.std.specs.List.{All}
use Rattle.std.specs.Option.{is_some}
use Rattle.rational.specs.Ratio.{Ratio, sum, negative, IsSame}
use Rattle.rational.specs.Width.{SumFits}
use Rattle.fraction.specs.Frac.{ratio}
use Rattle.fraction.specs.declared.frac.Frac.{Frac}
use Rattle.fraction.specs.Frac.{ratios}
use Rattle.evidence.specs.Instance.{Instance, minimising}
use Rattle.evidence.specs.Point.{value_at}
use Rattle.evidence.specs.Cases.{Multiplier, BoundBy, AreLegal}
use Rattle.evidence.specs.Width.{LowFits}
use Rattle.instance.specs.Parts.{Parts}
use Rattle.instance.specs.Program.{program, problem}
use Rattle.certificate.specs.declared.lists.Mult.{Mult}
use Rattle.certificate.specs.declared.claims.ProvedBound.{ProvedBound}
use Rattle.case_tree.specs.declared.cuts.Cut.{Cut}
use Rattle.case_tree.specs.declared.path.Branch.{Branch}
use Rattle.cert_checker.specs.declared.at_hand.Added.{Added}
use Rattle.cert_checker.specs.Programs.{with_rows}
use Rattle.simplex_rules.specs.Ends.{Clock, End, Endless}
use Rattle.certificate.specs.Meanings as Means
use Rattle.case_tree.specs.Cuts.{cut, pending_places}
use Rattle.search_rules.specs.Branching.{Case}
use Rattle.search_rules.specs.Bounds as Rules
use Rattle.search_rules.specs.Gaps as gaps
use Rattle.search_rules.specs.Bounds.{IsLeast}
use Rattle.search_rules.specs.Asked.{Asked, OpenSumsFit, FindsBound}
use Rattle.branch_bound.specs.declared.carried.Carried.{Carried}
use Rattle.branch_bound.specs.declared.gap.Gap.{Gap}
use Rattle.branch_bound.specs.declared.gap.Gap.TheVariants.{Number, Percent}
use Rattle.branch_bound.specs.declared.limits.Limits.{Limits}
use Rattle.branch_bound.specs.declared.found.Found as Best
use Rattle.branch_bound.specs.declared.level.Level.{Level}
use Rattle.branch_bound.specs.declared.walk.Walk.{Walk}
use Rattle.branch_bound.specs.Walks.{waiting, rest, IsWalk}
use Rattle.branch_bound.specs.Levels.{moment}

-- the list has this at a depth
abbrev pub HoldsAt : List (Option Carried) → ℕ → Option Carried → Type 0
HoldsAt ks d k = (d < length ks) × (get_or ks d None ≡ k)

abbrev pub carried_at : List (Option Carried) → ℕ → Option Carried
carried_at ks d = get_or ks d None

-- what is carried, as the rules have it: the multipliers, and the number that they were found with
abbrev pub multipliers_of : Option Carried → Rules.Carried
multipliers_of None = None
multipliers_of (Some k) = Some (Means.multipliers k.mults)

abbrev pub number_of : Option Carried → Option Ratio
number_of None = None
number_of (Some k) = Some (ratio k.bound)

-- that of the case at hand with d branches above, and then of the second cases of the branches that are still to come, each a branch below its own
abbrev pub kept_after : List (Option Carried) → List ℕ → List (Option Carried)
kept_after ks [] = []
kept_after ks (e ∷ es) = carried_at ks (e + 1) ∷ kept_after ks es

abbrev pub kept_at : List (Option Carried) → List Branch → ℕ → List (Option Carried)
kept_at ks bs d = carried_at ks d ∷ kept_after ks (pending_places bs d)

abbrev pub kept_next : List (Option Carried) → List Branch → Option ℕ → List (Option Carried)
kept_next ks bs None = []
kept_next ks bs (Some d) = kept_at ks bs d

abbrev pub kept_by : Walk → Option ℕ → List (Option Carried)
kept_by w o = kept_next w.carried.items w.branches.items o

-- what a run with this value leaves with these multipliers: nothing where it has none
abbrev pub left_by : Option Frac → List Mult → Option Carried
left_by None ms = None
left_by (Some b) ms = Some (record { bound = b; mults = ms })

-- of a walk's open cases
abbrev pub carried : Walk → List Rules.Carried
carried w = map multipliers_of (kept_by w w.next)

abbrev pub numbers : Walk → List (Option Ratio)
numbers w = map number_of (kept_by w w.next)

-- from a case with d branches above the walk went on to one where these are carried by the cases that came in its place, and the others carry what they did
abbrev pub Leaves : Walk → Walk → ℕ → List (Option Carried) → Type 0
Leaves w x d new = (x.keeps ≡ w.keeps) × (w.keeps ≡ true → kept_by x x.next ≡ new ++ kept_after w.carried.items (pending_places w.branches.items d))

-- each of them what this end of the case's run leaves of what it carried
abbrev pub IsLeft : Option (List Ratio) → End → Option Carried → Option Carried → Type 0
IsLeft r e k y = (multipliers_of y ≡ Rules.carried_after r e (multipliers_of k)) × (number_of y ≡ gaps.number_after r e (number_of k))

-- nothing is carried below a ray, nor by a case whose run ends along a direction
abbrev pub CarriesNoneAlong : Walk → ℕ → Option (List Ratio) → End → Type 0
CarriesNoneAlong w d (Some r) e = carried_at w.carried.items d ≡ None
CarriesNoneAlong w d None (Endless x z) = carried_at w.carried.items d ≡ None
CarriesNoneAlong w d None e = Unit {0}

-- what new cases carry is left by this end of the run
abbrev pub LeavesBy : Walk → Walk → ℕ → Option (List Ratio) → End → Type 0
LeavesBy w x d r e = (new : List (Option Carried)) × (CarriesNoneAlong w d r e → All (IsLeft r e (carried_at w.carried.items d)) new) × Leaves w x d new

-- where it is kept, there is a place for the case at hand and for each that comes of a branch above
abbrev pub HasCarried : Walk → Type 0
HasCarried w = w.keeps ≡ true → IfSome w.next (λ d. d < length w.carried.items)

-- its one case carries nothing
abbrev pub CarriesNone : Walk → Type 0
CarriesNone w = w.keeps ≡ true → HoldsAt w.carried.items 0 None

-- a bound or a gap is asked for
abbrev pub keeps_carried : Limits → Bool
keeps_carried l = l.bound || is_some l.gap

abbrev pub gap_of : Gap → gaps.Gap
gap_of (Number x) = gaps.Number (ratio x)
gap_of (Percent x) = gaps.Percent (ratio x)

abbrev pub gap_or_none : Option Gap → Option gaps.Gap
gap_or_none None = None
gap_or_none (Some g) = Some (gap_of g)

-- the least number at which a best point of this value is near: its number, turned so that less is better, less what is allowed, which fits
abbrev pub IsThreshold : gaps.Gap → Ratio → Ratio → Ratio → Type 0
IsThreshold g value less n = (a : Ratio) × gaps.IsAllowed g value a × SumFits less (negative a) × IsSame n (sum less (negative a))

-- what is asked of a search with these limits
abbrev pub asked : Limits → Asked
asked l = record { bound = l.bound; gap = gap_or_none l.gap }

-- the program whose rows are those of the cuts, as the case at hand has it
abbrev pub case_program : Parts → List Added → List Cut → Instance
case_program p rows cs = cut (with_rows (program p) rows) cs

abbrev pub start_of : Instance → Ratio
start_of I = minimising I I.goal.constant

-- what each open case carries may be multipliers of it
abbrev pub AllBound : List Case → List Rules.Carried → Type 0
AllBound [] ks = Unit {0}
AllBound (C ∷ Cs) [] = Unit {0}
AllBound (C ∷ Cs) (k ∷ ks) = IfSome k (λ ms. AreLegal C.program ms) × AllBound Cs ks

-- the case at hand was closed, and the walk, through cases of n variables, went on to the next one
pub record HasClosed (n : ℕ) (w x : Walk) (d : ℕ) : Type 0 where
  pub walk : IsWalk n x
  pub carried : HasCarried x
  pub leaves : Leaves w x d []
  pub cases : (I : Instance) → waiting I x x.next ≡ rest I w d

-- the case at hand is closed by what it carries, and this number is what that shows; or it carries nothing, or the number doesn't fit
abbrev pub ClosesCase : Parts → List Added → Walk → Walk → ℕ → Option Frac → Type 0
ClosesCase p rows w x d None = (k : Carried) → carried_at w.carried.items d ≡ Some k → LowFits (case_program p rows w.cuts.items) (start_of (case_program p rows w.cuts.items)) (Means.multipliers k.mults) → ⊥
ClosesCase p rows w x d (Some z) =
    let I = case_program p rows w.cuts.items in
    (k : Carried) × (carried_at w.carried.items d ≡ Some k) × LowFits I (start_of I) (Means.multipliers k.mults) × IsSame (ratio z) (Rules.shown_by I (Means.multipliers k.mults)) × (Means.nodes x.nodes ≡ Means.nodes w.nodes ++ BoundBy (Means.multipliers k.mults) ∷ [])

-- with the number before, if any
abbrev pub numbers_before : Option Frac → List Ratio → List Ratio
numbers_before None xs = xs
numbers_before (Some z) xs = ratio z ∷ xs

-- all open cases are closed so, and this is the least of their numbers and of that of the best point, if any; or one can't be
abbrev pub ClosesAll : Parts → List Added → Walk → Walk → Option Frac → Option Frac → Type 0
ClosesAll p rows w x before None =
    (mss : List (List Multiplier)) → carried w ≡ map (λ ms. Some ms) mss → (before ≡ None) × (w.next ≡ None) ⊎ (OpenSumsFit (waiting (with_rows (program p) rows) w w.next) mss → ⊥)
ClosesAll p rows w x before (Some z) =
    (mss : List (List Multiplier)) × (carried w ≡ map (λ ms. Some ms) mss) × IsLeast (numbers_before before (Rules.open_numbers (waiting (with_rows (program p) rows) w w.next) mss)) (ratio z) × (Means.nodes x.nodes ≡ Means.nodes w.nodes ++ Rules.closing_leaves mss) × OpenSumsFit (waiting (with_rows (program p) rows) w w.next) mss

-- the best point's number of the first goal, turned so that less is better
abbrev pub IsBestNumber : Parts → Option Best.Found → Option Ratio → Type 0
IsBestNumber p None z = z ≡ None
IsBestNumber p (Some f) z = z ≡ Some (minimising (program p) (value_at (ratios f.values) 0))

-- where the code stands, with this best point, the search finds this bound
abbrev pub FindsBoundAt : Parts → Level → Walk → List Added → Option Best.Found → Option ProvedBound → Type 0
FindsBoundAt p v w rows f b =
    (L : Instance) (c : Clock) → v.goal ≡ 0 → L.goal ≡ (program p).goal → FindsBound (problem p) (moment p L (with_rows (program p) rows) v (record w { best = f }) c) (carried w) (Means.bound b)

-- on a later level: the value that the first level reached, by its certificate
abbrev pub ReachesBound : Level → Option Best.Found → Option ProvedBound → Type 0
ReachesBound v None b = b ≡ None
ReachesBound v (Some f) None = ⊥
ReachesBound v (Some f) (Some b) = (b.number ≡ get_or f.values 0 b.number) × (b.cert ≡ get_or v.certs 0 b.cert)
