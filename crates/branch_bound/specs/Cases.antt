-- What the code makes of a case, as the rules of a search say it.
use Rattle.std.specs.Prelude.{◌≡◌, ◌⊎◌, ℕ, ◌+◌, ◌^◌, ◌<◌, ◌≤◌, Bool, true, false, Option, None, Some, Result, Ok, Err, List, [], ◌∷◌, ◌++◌, length}
use Rattle.rational.specs.Ratio.{Ratio}
use Rattle.fraction.specs.Frac.{ratios}
use Rattle.evidence.specs.Instance.{Instance}
use Rattle.evidence.specs.Cases.{Multiplier}
use Rattle.evidence.specs.Rounds.{Certificate}
use Rattle.instance.specs.Parts.{Parts}
use Rattle.instance.specs.Program.{program, problem}
use Rattle.cert_checker.specs.Programs.{with_rows}
use Rattle.certificate.specs.Meanings as Means
use Rattle.certificate.specs.declared.causes.Cause.TheVariants.{Memory}
use Rattle.simplex_rules.specs.Ends.{Terms, Clock, End}
use Rattle.simplex_rules.specs.Looks.{AgreesWith, looks_after}
use Rattle.simplex.specs.Cuts.{Suits}
use Rattle.simplex.specs.Memory.{width_in, height_in}
use Rattle.search_rules.specs.Search as Rules
use Rattle.search_rules.specs.Search.{Found, SearchMoment, Outcome, NextOfSearch, Optimal, Infeasible, TakesPoint, MeetsPoint, GoesFrom, ImprovesBest, early}
use Rattle.search_rules.specs.Beginnings.{IsFirstBest}
use Rattle.branch_bound.specs.declared.found.Found as Best
use Rattle.branch_bound.specs.declared.ended.Ended.{Ended}
use Rattle.branch_bound.specs.declared.ended.Ended.TheVariants.{Unbounded, Early}
use Rattle.branch_bound.specs.declared.level.Level.{Level}
use Rattle.branch_bound.specs.declared.relaxation.Relaxation.{Relaxation}
use Rattle.branch_bound.specs.declared.limits.Limits.{Limits}
use Rattle.branch_bound.specs.declared.walk.Walk.{Walk}
use Rattle.branch_bound.specs.Claims.{is_kill}
use Rattle.branch_bound.specs.Walks.{best, case, rest, IsWalk, IsAt}
use Rattle.branch_bound.specs.Levels.{moment, IsGiven, IsAtLevel}
use Rattle.branch_bound.specs.Trials.{IsFreshWalk}
use Rattle.branch_bound.specs.declared.walk.RayAt.{RayAt}
use Rattle.branch_bound.specs.Bounds as Kept
use Rattle.search_rules.specs.Bounds as Carries
use Rattle.search_rules.specs.Asked.{Asked, ComesAsked, EndsAsked, IsAskedAnswer}

abbrev pub terms : Limits → Option ℕ → Terms
terms l stop = record { nodes = l.nodes; turns = l.turns; rounds = l.rounds; stop = stop }

-- how the search ended, where these certificates showed the levels before
abbrev pub outcome_of : List Certificate → Ended → Outcome
outcome_of cs (Unbounded f r) = Rules.Unbounded (ratios f.point) (ratios f.values) cs (ratios r)
outcome_of cs (Early b c) = early (best b) c

-- and where all cases are closed of the last level, or of any without a point: this certificate shows that level
abbrev pub closed_by : List Certificate → Certificate → Option Found → Outcome
closed_by cs c None = Infeasible c
closed_by cs c (Some f) = Optimal f.point f.values (cs ++ c ∷ [])

-- a look ended it
abbrev pub was_killed : Ended → Bool
was_killed (Unbounded f r) = false
was_killed (Early b c) = is_kill c

-- the memory has the size of the instance with the rows beside its own, and runs are given what suits it
pub record HasSize {L : _} {G : _} (p : Parts) (r : Relaxation L G) : Type 0 where
  pub width : width_in r.work ≡ length p.vars
  pub height : height_in r.work ≡ length p.rows + length r.ends.rows
  pub few : length p.vars + (length p.rows + length r.ends.rows) < 2 ^ 32
  pub suits : Suits p r.ends
  pub slots : length r.slots.items ≡ length p.vars

-- its goal is one of the instance's; of one goal the rows of the cuts are those beside the instance's
pub record SuitsLevel {L : _} {G : _} (p : Parts) (r : Relaxation L G) (v : Level) : Type 0 where
  pub size : HasSize p r
  pub goal : v.goal < length p.goals
  pub one : length p.goals ≡ 1 → IsGiven p r.ends (with_rows (program p) r.rows.items) × (length r.rows.items ≡ length r.ends.rows)

-- no more nodes stand than the limit, on all levels
abbrev pub AreNodesWithin : Limits → Level → Walk → Type 0
AreNodesWithin l v w = v.before + length w.nodes ≤ l.nodes

-- the best point has a value for each goal
abbrev pub HaveValues : Parts → Option Best.Found → Type 0
HaveValues p best = (f : Best.Found) → best ≡ Some f → length f.values ≡ length p.goals

-- before a level's first node the walk is at the first case
abbrev pub StartsFresh : Parts → Walk → Type 0
StartsFresh p w = w.nodes ≡ [] → IsFreshWalk p w

-- and the walk is at a case whose node may be begun
pub record IsWalkReady {L : _} {G : _} (p : Parts) (l : Limits) (r : Relaxation L G) (v : Level) (w : Walk) (d : ℕ) : Type 0 where
  pub suits : SuitsLevel p r v
  pub at : IsAt (length p.vars) w d
  pub within : v.before + length w.nodes < l.nodes
  pub fresh : StartsFresh p w

abbrev pub clock_at : {L : _} {G : _} → Relaxation L G → ℕ → Clock
clock_at r looks = record { turns = r.turns.done; looks = looks }

-- the search is given up for want of memory, with the walk's best point
abbrev pub EndsForMemory : Walk → Ended → Type 0
EndsForMemory w ended = (cs : List Certificate) → outcome_of cs ended ≡ early (best w.best) Memory

-- or else this holds
abbrev pub OrMemory : Walk → Ended → Type 0 → Type 0
OrMemory w ended P = EndsForMemory w ended ⊎ P

-- it is so, with that point itself
abbrev pub IsForMemory : Walk → Ended → Type 0
IsForMemory w ended = ended ≡ Early w.best Memory

-- a walk that is given up stays as it was but for its best point, which is told, and for its ray; unless memory was wanting
abbrev pub StaysIn : Walk → Walk → Ended → Type 0
StaysIn w x (Unbounded f z) = Unit {0}
StaysIn w x (Early b k) = (b ≡ w.best) × ((k ≡ Memory) ⊎ (record x { best = w.best; ray = w.ray } ≡ w))

-- and so do the level and what runs are given
abbrev pub StaysAt : {L : _} {G : _} → Relaxation L G → Level → Walk → Relaxation L G → Level → Walk → Ended → Type 0
StaysAt r v w s u x (Unbounded f z) = Unit {0}
StaysAt r v w s u x (Early b k) = (b ≡ w.best) × ((k ≡ Memory) ⊎ ((record x { best = w.best; ray = w.ray } ≡ w) × (u ≡ v) × (s.ends ≡ r.ends) × (s.rows.items ≡ r.rows.items)))

-- from this point of the case at hand on, where the level has program L and the cases come of D
abbrev pub MeetsAt : Parts → Instance → Instance → Level → Walk → ℕ → Terms → Clock → List Ratio → List Multiplier → NextOfSearch → Type 0
MeetsAt p L D v w d t c x ms next = MeetsPoint (problem p) t (case D w d) (rest D w d) (moment p L D v w c) x ms next

-- the same where the point's values are as they must be
abbrev pub TakesAt : Parts → Instance → Instance → Level → Walk → ℕ → Terms → Clock → List Ratio → List Multiplier → NextOfSearch → Type 0
TakesAt p L D v w d t c x ms next = TakesPoint (problem p) t (case D w d) (rest D w d) (moment p L D v w c) x ms next

-- the same where its bound is better than the best value, and one more cut may be derived
abbrev pub ImprovesAt : Parts → Instance → Instance → Level → Walk → ℕ → Terms → Clock → Clock → Ratio → List Ratio → List Multiplier → NextOfSearch → Type 0
ImprovesAt p L D v w d t before c b x ms next = ImprovesBest (problem p) t (case D w d) (rest D w d) (moment p L D v w c) before b x ms next

-- from this end of its run on, which began with the clock before
abbrev pub GoesAt : Parts → Instance → Instance → Level → Walk → ℕ → Terms → Clock → Clock → End → NextOfSearch → Type 0
GoesAt p L D v w d t before c e next = GoesFrom (problem p) t (case D w d) (rest D w d) (moment p L D v w c) before e next

-- the code stands at this moment of a search
pub record IsMoment {L : _} {G : _} (p : Parts) (r : Relaxation L G) (v : Level) (w : Walk) (c : Clock) (m : SearchMoment) : Type 0 where
  pub program : Instance
  pub cut : Instance
  pub at : IsAtLevel p r v program cut
  pub is : m ≡ moment p program cut v w c

abbrev pub is_killed_by : Result (Unit {0}) Ended → Bool
is_killed_by (Ok x) = false
is_killed_by (Err ended) = was_killed ended

-- the moments of a search from a first point on have come to one at which the code stands, and what its open cases carry is kept, where it is asked for
pub record StandsIn {L : _} {G : _} (p : Parts) (t : Terms) (a : Asked) (start : Option Found) (r : Relaxation L G) (v : Level) (w : Walk) (c : Clock) : Type 0 where
  pub first : (gs : Option (List (Option Ratio))) × IsFirstBest (problem p) gs start
  pub at : SearchMoment
  pub carried : List Carries.Carried
  pub numbers : List (Option Ratio)
  pub comes : ComesAsked (problem p) t a start at carried numbers
  pub stands : IsMoment p r v w c at
  pub kept : w.keeps ≡ true → (carried ≡ Kept.carried w) × (numbers ≡ Kept.numbers w)

-- the walk's open cases may be closed, where a bound is asked for
pub record MayClose (p : Parts) (a : Asked) (w : Walk) : Type 0 where
  pub walk : IsWalk (length p.vars) w
  pub keeps : a.bound ≡ true → w.keeps ≡ true
  pub carried : Kept.HasCarried w
  pub values : HaveValues p w.best

-- the walk is that of the search's last moment, but for the best point, which was given up, and for the ray: where there is one its case carries nothing
pub record EndsIn {L : _} {G : _} (p : Parts) (t : Terms) (a : Asked) (start : Option Found) (r : Relaxation L G) (v : Level) (w : Walk) (o : Outcome) (best : Option Best.Found) (c : Clock) : Type 0 where
  pub before : Clock
  pub old_ray : Option RayAt
  pub last : StandsIn p t a start r v (record w { best = best; ray = old_ray }) before
  pub ready : MayClose p a (record w { best = best; ray = old_ray })
  pub ends : EndsAsked (problem p) t a last.at last.numbers o c

-- how a search that ended so may be answered: for want of memory, with the best point of some moment; or as its last moment ends it
abbrev pub AnswersSo : {L : _} {G : _} → Parts → Terms → Asked → Option Found → Relaxation L G → Level → Walk → Ended → Clock → Type 0
AnswersSo p t a start r v w (Unbounded f z) c = IsAskedAnswer (problem p) t a start (outcome_of (Means.certificates v.certs) (Unbounded f z)) None c
AnswersSo p t a start r v w (Early b k) c = (k ≡ Memory) × IsAskedAnswer (problem p) t a start (early (best b) Memory) None c ⊎ EndsIn p t a start r v w (early (best b) k) b c

-- what comes then of the search: one more such moment, or an answer
abbrev pub ComesThrough : {L : _} {G : _} → Parts → Terms → Asked → Option Found → Relaxation L G → Level → Walk → Clock → Result (Unit {0}) Ended → Type 0
ComesThrough p t a start r v w c (Ok x) = StandsIn p t a start r v w c
ComesThrough p t a start r v w c (Err ended) = AnswersSo p t a start r v w ended c

-- after looks of which n went on, and one more may have stopped, the code went from one of them on so
abbrev pub CarriesOn : {L : _} {G : _} → Parts → Limits → Relaxation L G → Level → Walk → Relaxation L G → Level → Walk → ℕ → Bool → Result (Unit {0}) Ended → Type 0
CarriesOn p l r v w s u x n killed result =
    (start : Option Found) (looks : ℕ) (stop : Option ℕ) → let a = Kept.asked l in StandsIn p (terms l stop) a start r v w (clock_at r looks) → AgreesWith stop looks n killed → ComesThrough p (terms l stop) a start s u x (clock_at s (looks_after looks n killed)) result

-- one node more stands, or one cut more where there were fewer than the most
pub record GoesFurther (l : Limits) (v u : Level) (w x : Walk) : Type 0 where
  pub level : (u.goal ≡ v.goal) × (u.before ≡ v.before)
  pub within : v.before + length w.nodes < l.nodes
  pub one : ((length x.nodes ≡ length w.nodes + 1) × (length u.rounds ≡ length v.rounds))
      ⊎ ((length x.nodes ≡ length w.nodes) × (length u.rounds ≡ length v.rounds + 1) × (length v.rounds < l.rounds))

-- the code went on so: what it has suits each other as before
pub record HasGoneOn {L : _} {G : _} (p : Parts) (l : Limits) (v : Level) (w : Walk) (s : Relaxation L G) (u : Level) (x : Walk) : Type 0 where
  pub suits : SuitsLevel p s u
  pub walk : IsWalk (length p.vars) x
  pub fresh : StartsFresh p x
  pub values : HaveValues p x.best
  pub further : GoesFurther l v u w x
