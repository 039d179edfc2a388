-- How much may be done for a job, and how its result is told: the limits that options set, one row for each, with the name of its option, the least and the greatest amount, the amount where no option says one, and whether its option is also written where it has that amount. The names and amounts are the project's own.
use Rattle.std.specs.Prelude.{◌≡◌, ℕ, zero, suc, Bool, true, false, List, [], ◌∷◌, codes}
use Rattle.std.specs.Fmt.{decimal}
use Rattle.osol_grammar.specs.declared.limit.Limit.{Limit}
use Rattle.osol_grammar.specs.declared.limit.Limit.TheVariants.{Nodes, Turns, Rounds, Names, Form, Bound}

pub record LimitRow : Type 0 where
  pub name : List ℕ
  pub least : ℕ
  pub most : ℕ
  pub default : ℕ
  pub always : Bool

-- all limits, in the order in which their options are written
abbrev pub all : List Limit
all = Nodes ∷ Turns ∷ Rounds ∷ Names ∷ Form ∷ Bound ∷ []

-- the most rows that rounds add
abbrev pub most_rounds : ℕ
most_rounds = 100

-- nodes of the tree of cases, turns of the simplex method, rows that rounds add, whether a result's values are told with names: 1, or 0, how its certificate is told: whole, 0, or with multipliers of rows alone, 1, and whether a search that is given up has a bound: 1, or 0
abbrev pub limit_row : Limit → LimitRow
limit_row Nodes = record { name = codes "nodeLimit"; least = 1; most = 1000000; default = 10000; always = true }
limit_row Turns = record { name = codes "pivotLimit"; least = 1; most = 100000000; default = 1000000; always = true }
limit_row Rounds = record { name = codes "rounds"; least = 0; most = most_rounds; default = 0; always = false }
limit_row Names = record { name = codes "names"; least = 0; most = 1; default = 0; always = false }
limit_row Form = record { name = codes "form"; least = 0; most = 1; default = 0; always = false }
limit_row Bound = record { name = codes "bound"; least = 0; most = 1; default = 0; always = false }

-- the words that say a form
abbrev pub IsFormWord : List ℕ → ℕ → Type 0
IsFormWord text zero = text ≡ codes "whole"
IsFormWord text (suc zero) = text ≡ codes "rows"
IsFormWord text (suc (suc n)) = ⊥

abbrev pub form_word : ℕ → List ℕ
form_word zero = codes "whole"
form_word (suc n) = codes "rows"

-- the text that an amount is written as
abbrev pub amount_text : Limit → ℕ → List ℕ
amount_text Form n = form_word n
amount_text l n = decimal n
