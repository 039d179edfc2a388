-- The point that a job's search begins with, and the job's message about it.
use Rattle.std.specs.Prelude.{◌≡◌, ℕ, Option, None, Some, option_map, List, ◌++◌, map, codes}
use Rattle.fraction.specs.declared.frac.Frac.{Frac}
use Rattle.evidence.specs.Instance.{Problem}
use Rattle.instance.specs.Parts.{Parts}
use Rattle.search_rules.specs.Search.{Found}
use Rattle.search_rules.specs.Beginnings.{IsFirstBest}
use Rattle.branch_bound.specs.Beginnings.{given_ratio}
use Rattle.osol_grammar.specs.declared.options.Options.{Options}
use Rattle.solve_run.specs.Handing.{HandsInNone}

-- the search of a job with these options begins with this best point, or with none: that of the values that they say, where it is one
abbrev pub IsFirstOf : Problem → Options → Option Found → Type 0
IsFirstOf P o start = IsFirstBest P (option_map (map given_ratio) o.first) start

-- what is said of values that are no such point
abbrev pub first_words : List ℕ
first_words = codes "initialVariableValues passed over: no feasible point"

abbrev pub first_note : Option (List (Option Frac)) → Option Found → Option (List ℕ)
first_note None start = None
first_note (Some vs) None = Some first_words
first_note (Some vs) (Some f) = None

-- two messages, the second behind the first
abbrev pub both_notes : Option (List ℕ) → Option (List ℕ) → Option (List ℕ)
both_notes None second = second
both_notes (Some first) None = Some first
both_notes (Some first) (Some second) = Some ((first ++ codes "; ") ++ second)

-- the message of a job whose search begins with this point, or with none: what is said of a result that is handed in, and of first values
pub record IsNoteFrom (beside : Option (List ℕ)) (osol : List ℕ) (o : Options) (p : Parts) (start : Option Found) (note : Option (List ℕ)) : Type 0 where
  pub handed : Option (List ℕ)
  pub none_handed : HandsInNone beside osol p handed
  pub is : note ≡ both_notes handed (first_note o.first start)
