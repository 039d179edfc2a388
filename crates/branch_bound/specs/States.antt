-- The state of a search: what holds of it between two steps, and what a step changes.
use Rattle.std.specs.Prelude.{◌≡◌, ℕ, Bool, None, Result, List, [], length}
use Rattle.instance.specs.Parts.{Parts}
use Rattle.simplex_rules.specs.Looks.{answers}
use Rattle.branch_bound.specs.declared.ended.Ended.{Ended}
use Rattle.branch_bound.specs.declared.limits.Limits.{Limits}
use Rattle.branch_bound.specs.declared.state.SearchState.{SearchState}
use Rattle.branch_bound.specs.Walks.{IsWalk}
use Rattle.branch_bound.specs.Bounds.{keeps_carried, HasCarried, CarriesNone}
use Rattle.branch_bound.specs.Trials.{IsFreshWalk}
use Rattle.branch_bound.specs.Cases.{HasSize, SuitsLevel, AreNodesWithin, StartsFresh, HaveValues, CarriesOn, is_killed_by}

-- memory and level suit each other; the walk is at a case, the first one where no node stands, or past the last; at most as many nodes stand as the limit; the best point has a value for each goal; and what open cases carry is kept where it is asked for
pub record IsUnderWay {L : _} {G : _} (p : Parts) (l : Limits) (s : SearchState L G) : Type 0 where
  pub suits : SuitsLevel p s.relaxation s.level
  pub most : s.relaxation.turns.most ≡ l.turns
  pub walk : IsWalk (length p.vars) s.walk
  pub fresh : StartsFresh p s.walk
  pub within : AreNodesWithin l s.level s.walk
  pub values : HaveValues p s.walk.best
  pub keeps : s.walk.keeps ≡ keeps_carried l
  pub carried : HasCarried s.walk

-- before its first step, without a best point: at the first goal, whose one case is the instance itself, without a row beside the instance's
pub record IsBegun {L : _} {G : _} (p : Parts) (l : Limits) (s : SearchState L G) : Type 0 where
  pub size : HasSize p s.relaxation
  pub beside : s.relaxation.ends.rows ≡ []
  pub goal : s.relaxation.ends.goal ≡ 0
  pub rows : s.relaxation.rows.items ≡ []
  pub turns : s.relaxation.turns ≡ record { done = 0; most = l.turns }
  pub level : s.level ≡ record { goal = 0; certs = []; rounds = []; before = 0 }
  pub walk : IsWalk (length p.vars) s.walk
  pub fresh : IsFreshWalk p s.walk
  pub best : s.walk.best ≡ None
  pub ray : s.walk.ray ≡ None
  pub keeps : s.walk.keeps ≡ keeps_carried l
  pub carried : CarriesNone s.walk

-- from state s to u: looks came, of which so many went on and one more may have stopped; and wherever the moments of a search stood at s, they stand at u after these looks, or the search may be answered so
pub record Changes {L : _} {G : _} (p : Parts) (l : Limits) (Came : List Bool → Type 0) (s u : SearchState L G) (result : Result (Unit {0}) Ended) : Type 0 where
  pub looks : ℕ
  pub killed : Bool
  pub is : is_killed_by result ≡ killed
  pub came : Came (answers looks killed)
  pub carries : CarriesOn p l s.relaxation s.level s.walk u.relaxation u.level u.walk looks killed result
