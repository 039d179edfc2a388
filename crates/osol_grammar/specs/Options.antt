-- What options are, and which attributes say one (Optimization Services option language).
use Rattle.std.specs.Prelude.{◌≡◌, ◌⊎◌, ℕ, ◌≤◌, Option, None, Some, IfSome, IsSomeAnd, List, codes}
use Rattle.tree_grammar.specs.Elements.{Attribute}
use Rattle.document_tags.specs.Elements.{value_of}
use Rattle.fraction.specs.declared.frac.Frac.{Frac}
use Rattle.decimal_text.specs.Count.{IsCount}
use Rattle.osol_grammar.specs.declared.gaps.Gap.{Gap}
use Rattle.osol_grammar.specs.declared.limit.Limit.{Limit}
use Rattle.osol_grammar.specs.declared.limit.Limit.TheVariants.{Nodes, Turns, Rounds, Names, Form, Bound}
use Rattle.osol_grammar.specs.declared.options.Options.{Options}
use Rattle.osol_grammar.specs.Limits.{limit_row, IsFormWord}
use Rattle.osol_grammar.specs.FirstValues.{more_first}
use Rattle.osol_grammar.specs.Gaps.{SaysGap}

-- the options of a job's name, of seconds, of first values, of a gap, and of an amount for each limit
abbrev pub made : Option (List ℕ) → Option Frac → Option (List (Option Frac)) → Option Gap → (Limit → ℕ) → Options
made job seconds first gap amounts = record { job = job; seconds = seconds; first = first; gap = gap; nodes = amounts Nodes; turns = amounts Turns; rounds = amounts Rounds; names = amounts Names; form = amounts Form; bound = amounts Bound }

-- what options say of a limit, and the options that say another amount of it
abbrev pub amount : Options → Limit → ℕ
amount o Nodes = o.nodes
amount o Turns = o.turns
amount o Rounds = o.rounds
amount o Names = o.names
amount o Form = o.form
amount o Bound = o.bound

abbrev pub with_amount : Options → Limit → ℕ → Options
with_amount o Nodes n = record o { nodes = n }
with_amount o Turns n = record o { turns = n }
with_amount o Rounds n = record o { rounds = n }
with_amount o Names n = record o { names = n }
with_amount o Form n = record o { form = n }
with_amount o Bound n = record o { bound = n }

-- no options: no job's name, no time, no first values, no gap, and each limit by default
abbrev pub no_options : Options
no_options = made None None None None (λ l. (limit_row l).default)

-- the options with one more first value
abbrev pub with_first : Options → ℕ → Frac → Options
with_first o n x = record o { first = more_first o.first n x }

-- the attributes of an option of this name, which is meant for each solver or for this one
pub record IsNamed (name : List ℕ) (as' : List Attribute) : Type 0 where
  pub named : value_of (codes "name") as' ≡ Some name
  pub meant : IfSome (value_of (codes "solver") as') (λ s. s ≡ codes "os_cert")

-- of this limit, by its name
abbrev pub IsOption : Limit → List Attribute → Type 0
IsOption l as' = IsNamed (limit_row l).name as'

-- of the gap
abbrev pub IsGapOption : List Attribute → Type 0
IsGapOption as' = IsNamed (codes "gap") as'

-- the text says an amount of the limit: of the form by a word, of the others by a count
abbrev pub IsAmountText : Limit → List ℕ → ℕ → Type 0
IsAmountText Form text n = IsFormWord text n
IsAmountText l text n = IsCount text n

-- its value says this amount, which is one that the limit may have
abbrev pub SaysAmount : Limit → List Attribute → ℕ → Type 0
SaysAmount l as' n = IsSomeAnd (value_of (codes "value") as') (λ text. IsAmountText l text n) × ((limit_row l).least ≤ n) × (n ≤ (limit_row l).most)

-- an option says the amount of its limit, or the gap, and one of neither says nothing
abbrev pub SaysOption : List Attribute → Options → Options → Type 0
SaysOption as' o p =
    ((l : Limit) × (n : ℕ) × IsOption l as' × SaysAmount l as' n × (p ≡ with_amount o l n))
    ⊎ ((g : Gap) × IsGapOption as' × SaysGap as' g × (p ≡ record o { gap = Some g }))
    ⊎ (((l : Limit) → IsOption l as' → ⊥) × (IsGapOption as' → ⊥) × (p ≡ o))
