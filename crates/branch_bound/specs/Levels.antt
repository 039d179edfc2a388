-- The level of a search that the code is at.
use Rattle.std.specs.Prelude.{◌≡◌, ℕ, ◌+◌, ◌<◌, List, length, map, get_or, drop}
use Rattle.evidence.specs.Instance.{Instance, IsInstance, no_goal}
use Rattle.certificate.specs.Meanings as Means
use Rattle.instance.specs.Parts.{Parts}
use Rattle.instance.specs.Program.{goals, program}
use Rattle.case_tree.specs.declared.cuts.Cut.{Cut}
use Rattle.case_tree.specs.Cuts.{cut}
use Rattle.simplex_rules.specs.Ends.{Clock}
use Rattle.simplex.specs.declared.ends.Ends.{Ends}
use Rattle.simplex.specs.Cuts.{Cutting, IsCutBy}
use Rattle.search_rules.specs.Search as Rules
use Rattle.search_rules.specs.Search.{SearchMoment, nodes_with}
use Rattle.cert_checker.specs.Programs.{with_rows}
use Rattle.branch_bound.specs.declared.level.Level.{Level}
use Rattle.branch_bound.specs.declared.relaxation.Relaxation.{Relaxation}
use Rattle.branch_bound.specs.declared.walk.Walk.{Walk}
use Rattle.branch_bound.specs.Walks.{best, waiting}

-- the ends of a variable as the case at hand has it
abbrev pub ends_in : Cut → Ends
ends_in c = record { lb = c.lb; ub = c.ub }

-- the level's goal is this one, and as many goals were asked before
pub record AsksGoal (p : Parts) (k : ℕ) (l : Rules.Level) : Type 0 where
  pub goal : l.program.goal ≡ get_or (goals p.goals) k no_goal
  pub before : length l.shown ≡ k

-- the level of program L
abbrev pub level : Parts → Instance → Level → Rules.Level
level p L l = record { program = L; later = drop (l.goal + 1) (goals p.goals); shown = Means.certificates l.certs }

-- the moment of a search whose level has the program L, and whose cases come of the program D, with a row for each cut so far
abbrev pub moment : Parts → Instance → Instance → Level → Walk → Clock → SearchMoment
moment p L D l w c = record { level = level p L l; rounds = Means.rounds l.rounds; waiting = waiting D w w.next; nodes = Means.nodes w.nodes; clock = c; best = best w.best }

-- D is the program that runs are given: an instance's, with these rows past its own and this goal, whatever the ends of its variables
pub record IsGiven (p : Parts) (k : Cutting) (D : Instance) : Type 0 where
  pub cut : (cs : List Cut) → length cs ≡ length p.vars → IsCutBy p (record k { ends = map ends_in cs }) (cut D cs)
  pub variables : D.variables ≡ (program p).variables

-- and L is that of the level: with the rows of the goals before, each of which has a certificate, and without those of cuts, which instances of several goals don't have; at the first goal D is the program that cuts are checked by
pub record IsAtLevel {M : _} {G : _} (p : Parts) (r : Relaxation M G) (l : Level) (L D : Instance) : Type 0 where
  pub good : IsInstance D
  pub given : IsGiven p r.ends D
  pub goal : r.ends.goal ≡ l.goal
  pub level_goal : L.goal ≡ D.goal
  pub shown : length l.certs ≡ l.goal
  pub counted : (n : ℕ) → nodes_with (Means.certificates l.certs) n ≡ l.before + n
  pub several : 1 < length p.goals → D ≡ L
  pub first : l.goal ≡ 0 → D ≡ with_rows (program p) r.rows.items
