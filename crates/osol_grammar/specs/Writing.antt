-- The document that options are written as (Optimization Services option language), and its text.
use Rattle.std.specs.Prelude.{ℕ, ◌+◌, Bool, filter, not, ◌==◌, ◌||◌, Option, None, Some, List, [], ◌∷◌, codes}
use Rattle.tree_grammar.specs.Elements as tree
use Rattle.tree_grammar.specs.Elements.{none, element, Element}
use Rattle.tree_grammar.specs.WrittenText.{written}
use Rattle.std.specs.Fmt.{decimal}
use Rattle.fraction.specs.Frac.{ratio}
use Rattle.fraction.specs.declared.frac.Frac.{Frac}
use Rattle.decimal_text.specs.Exact.{ratio_text}
use Rattle.document_tags.specs.Writing.{with_attribute, leaf, group, rooted}
use Rattle.osol_grammar.specs.declared.gaps.Gap.{Gap}
use Rattle.osol_grammar.specs.declared.limit.Limit.{Limit}
use Rattle.osol_grammar.specs.declared.options.Options.{Options}
use Rattle.osol_grammar.specs.Limits.{all, limit_row, amount_text}
use Rattle.osol_grammar.specs.Options.{amount}
use Rattle.osol_grammar.specs.Gaps.{gap_text}

-- the job's name, if there is one, and then more
abbrev pub job_nodes : Option (List ℕ) → tree.Nodes → tree.Nodes
job_nodes None more = more
job_nodes (Some job) more = group (codes "general") (leaf (codes "jobID") job none) more

-- the time, if there is one, in seconds, and then more
abbrev pub time_nodes : Option Frac → tree.Nodes → tree.Nodes
time_nodes None more = more
time_nodes (Some s) more = group (codes "job") (leaf (codes "maxTime") (ratio_text (ratio s)) none) more

-- the first value of variable n, if there is one, and then more; those of the variables from n on; and the list of all, if there is one, and then more
abbrev pub value_nodes : ℕ → Option Frac → tree.Nodes → tree.Nodes
value_nodes n None more = more
value_nodes n (Some x) more = element (codes "var") (with_attribute (codes "idx") (decimal n) (with_attribute (codes "value") (ratio_text (ratio x)) [])) none more

abbrev pub values_nodes : ℕ → List (Option Frac) → tree.Nodes
values_nodes n [] = none
values_nodes n (v ∷ vs) = value_nodes n v (values_nodes (n + 1) vs)

abbrev pub first_nodes : Option (List (Option Frac)) → tree.Nodes → tree.Nodes
first_nodes None more = more
first_nodes (Some vs) more = group (codes "variables") (group (codes "initialVariableValues") (values_nodes 0 vs) none) more

-- the option of a limit is written always, or where the amount isn't the one that the limit has without it
abbrev pub is_told : Options → Limit → Bool
is_told o l = (limit_row l).always || not (amount o l == (limit_row l).default)

-- an option of this name with this value, and then more; that of a limit; and that of the gap, if there is one
abbrev pub option_node : (name value : List ℕ) → tree.Nodes → tree.Nodes
option_node name value more = element (codes "solverOption") (with_attribute (codes "name") name (with_attribute (codes "value") value (with_attribute (codes "solver") (codes "os_cert") []))) none more

abbrev pub limit_node : Options → Limit → tree.Nodes → tree.Nodes
limit_node o l more = option_node (limit_row l).name (amount_text l (amount o l)) more

abbrev pub gap_nodes : Option Gap → tree.Nodes → tree.Nodes
gap_nodes None more = more
gap_nodes (Some g) more = option_node (codes "gap") (gap_text g) more

-- the options of these limits, and then more
abbrev pub option_nodes : Options → List Limit → tree.Nodes → tree.Nodes
option_nodes o [] more = more
option_nodes o (l ∷ ls) more = limit_node o l (option_nodes o ls more)

-- the option of each limit that is told
abbrev pub told_limits : Options → List Limit
told_limits o = filter (is_told o) all

abbrev pub limit_nodes : Options → tree.Nodes → tree.Nodes
limit_nodes o more = option_nodes o (told_limits o) more

abbrev pub options_nodes : Options → tree.Nodes
options_nodes o = job_nodes o.job (time_nodes o.seconds (group (codes "optimization") (first_nodes o.first (group (codes "solverOptions") (limit_nodes o (gap_nodes o.gap none)) none)) none))

-- the root that options are written as
abbrev pub options_element : Options → Element
options_element o = rooted (codes "osol") (options_nodes o)

-- the text of options
abbrev pub options_text : Options → List ℕ
options_text o = written (options_element o)
