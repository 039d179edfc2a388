-- The text that an instance is written as: an OSiL document with all its defaults said, rows stored one after another, and no runs.
use Rattle.std.specs.Prelude.{◌≡◌, ◌⊎◌, ℕ, zero, suc, ◌+◌, ◌<◌, pos, cond, nat_lt, List, [], ◌∷◌, map, length, codes}
use Rattle.std.specs.List.{All}
use Rattle.std.specs.Fmt.{decimal}
use Rattle.tree_grammar.specs.Elements.{Attribute, Nodes, none, element, chars, Element}
use Rattle.tree_grammar.specs.WrittenText.{written}
use Rattle.document_tags.specs.Texts.{document_limit}
use Rattle.document_tags.specs.Writing.{with_attribute, counted_element}
use Rattle.fraction.specs.Frac.{ratio}
use Rattle.fraction.specs.declared.frac.Frac.{Frac}
use Rattle.fraction.specs.declared.ends.End.{End}
use Rattle.fraction.specs.declared.ends.End.TheVariants.{NegInf, At, Inf}
use Rattle.fraction.specs.declared.ends.Entry.{Entry}
use Rattle.decimal_text.specs.Decimal.{IsDecimal}
use Rattle.decimal_text.specs.Plain.{PlainText}
use Rattle.instance.specs.declared.parts.Var.{Var}
use Rattle.instance.specs.declared.parts.Row.{Row}
use Rattle.instance.specs.declared.parts.Goal.{Goal}
use Rattle.instance.specs.declared.parts.Sense.{Sense}
use Rattle.instance.specs.declared.parts.Sense.TheVariants.{Min, Max}
use Rattle.instance.specs.Parts.{Parts}
use Rattle.osil_grammar.specs.Saying.{IsEndText}
use Rattle.osil_grammar.specs.VarTags.{WritesVar}

-- some decimal has the value
abbrev pub HasDecimal : Frac → Type 0
HasDecimal x = (text : List ℕ) × IsDecimal text (ratio x)

abbrev pub EndHasText : End → Type 0
EndHasText NegInf = Unit {0}
EndHasText (At x) = HasDecimal x
EndHasText Inf = Unit {0}

-- an element that holds this text, and then more; the text isn't empty
abbrev pub holding_text : (name : List ℕ) → List Attribute → (text : List ℕ) → Nodes → Nodes
holding_text name attributes text more = element name attributes (chars text none) more

-- the nodes that these variables are written as
abbrev pub WriteVars : List Var → Nodes → Type 0
WriteVars [] nodes = nodes ≡ none
WriteVars (v ∷ vs) nodes = (more : Nodes) × WriteVars vs more × WritesVar v more nodes

-- the same of rows
abbrev pub WriteRows : List Row → Nodes → Type 0
WriteRows [] nodes = nodes ≡ none
WriteRows (r ∷ rs) nodes = (lb : List ℕ) × (ub : List ℕ) × (more : Nodes) × IsEndText r.lb lb × IsEndText r.ub ub × WriteRows rs more
    × (nodes ≡ element (codes "con") (with_attribute (codes "lb") lb (with_attribute (codes "ub") ub [])) none more)

-- the costs that aren't 0, from variable j on
abbrev pub WriteCosts : ℕ → List Frac → Nodes → Type 0
WriteCosts j [] nodes = nodes ≡ none
WriteCosts j (c ∷ cs) nodes = ((c.numer ≡ pos 0) × WriteCosts (j + 1) cs nodes)
    ⊎ ((c.numer ≡ pos 0 → ⊥) × (text : List ℕ) × (more : Nodes) × PlainText text (ratio c) × WriteCosts (j + 1) cs more × (nodes ≡ holding_text (codes "coef") (with_attribute (codes "idx") (decimal j) []) text more))

-- how many costs aren't 0
abbrev pub CountsCosts : List Frac → ℕ → Type 0
CountsCosts [] n = n ≡ 0
CountsCosts (c ∷ cs) n = ((c.numer ≡ pos 0) × CountsCosts cs n) ⊎ ((c.numer ≡ pos 0 → ⊥) × (m : ℕ) × CountsCosts cs m × (n ≡ m + 1))

abbrev pub sense_text : Sense → List ℕ
sense_text Min = codes "min"
sense_text Max = codes "max"

-- a goal, and then more
pub record WritesGoal (g : Goal) (more nodes : Nodes) : Type 0 where
  pub constant : List ℕ
  pub is_constant : PlainText constant (ratio g.constant)
  pub count : ℕ
  pub counts : CountsCosts g.costs count
  pub costs : Nodes
  pub are_costs : WriteCosts 0 g.costs costs
  pub says : nodes ≡ element (codes "obj") (with_attribute (codes "maxOrMin") (sense_text g.sense) (with_attribute (codes "constant") constant (with_attribute (codes "numberOfObjCoef") (decimal count) []))) costs more

-- one `obj` for each goal, in order
abbrev pub WriteGoals : List Goal → Nodes → Type 0
WriteGoals [] nodes = nodes ≡ none
WriteGoals (g ∷ gs) nodes = (more : Nodes) × WriteGoals gs more × WritesGoal g more nodes

-- one `el` for each count
abbrev pub counts_nodes : List ℕ → Nodes
counts_nodes [] = none
counts_nodes (n ∷ ns) = holding_text (codes "el") [] (decimal n) (counts_nodes ns)

-- how many entries stand before row i
abbrev pub entries_below : ℕ → List Entry → ℕ
entries_below i [] = 0
entries_below i (e ∷ es) = cond (nat_lt e.row i) (entries_below i es + 1) (entries_below i es)

-- the starts of the rows from i on, n of them, and their end
abbrev pub row_starts : List Entry → ℕ → ℕ → List ℕ
row_starts es i zero = entries_below i es ∷ []
row_starts es i (suc n) = entries_below i es ∷ row_starts es (i + 1) n

-- one `el` for each value
abbrev pub WriteValues : List Entry → Nodes → Type 0
WriteValues [] nodes = nodes ≡ none
WriteValues (e ∷ es) nodes = (text : List ℕ) × (more : Nodes) × PlainText text (ratio e.value) × WriteValues es more × (nodes ≡ holding_text (codes "el") [] text more)

-- the three lists, or nothing where there are no entries
abbrev pub WriteLists : ℕ → List Entry → Nodes → Type 0
WriteLists m [] nodes = nodes ≡ none
WriteLists m (e ∷ es) nodes = (values : Nodes) × WriteValues (e ∷ es) values
    × (nodes ≡ element (codes "start") [] (counts_nodes (row_starts (e ∷ es) 0 m)) (element (codes "colIdx") [] (counts_nodes (map (λ x. x.col) (e ∷ es))) (element (codes "value") [] values none)))

-- the root that an instance is written as
pub record WritesInstance (p : Parts) (root : Element) : Type 0 where
  pub vars : Nodes
  pub are_vars : WriteVars p.vars vars
  pub goals : Nodes
  pub are_goals : WriteGoals p.goals goals
  pub rows : Nodes
  pub are_rows : WriteRows p.rows rows
  pub lists : Nodes
  pub are_lists : WriteLists (length p.rows) p.entries lists
  pub says : root ≡ record {
    name = codes "osil";
    attributes = with_attribute (codes "xmlns") (codes "os.optimizationservices.org") [];
    children = element (codes "instanceHeader") [] none (element (codes "instanceData") [] (
        counted_element (codes "variables") (codes "numberOfVariables") (length p.vars) vars (
        counted_element (codes "objectives") (codes "numberOfObjectives") (length p.goals) goals (
        counted_element (codes "constraints") (codes "numberOfConstraints") (length p.rows) rows (
        counted_element (codes "linearConstraintCoefficients") (codes "numberOfValues") (length p.entries) lists none)))) none);
  }

-- the instance's text
pub record IsWrittenText (p : Parts) (text : List ℕ) : Type 0 where
  pub root : Element
  pub writes : WritesInstance p root
  pub says : text ≡ written root

-- each number of a goal has a decimal
abbrev pub GoalHasDecimals : Goal → Type 0
GoalHasDecimals g = HasDecimal g.constant × All HasDecimal g.costs

-- each number of the instance has a decimal
pub record HasDecimals (p : Parts) : Type 0 where
  pub vars : All (λ v. EndHasText v.lb × EndHasText v.ub) p.vars
  pub rows : All (λ r. EndHasText r.lb × EndHasText r.ub) p.rows
  pub entries : All (λ e. HasDecimal e.value) p.entries
  pub goals : All GoalHasDecimals p.goals

-- the text is longer than a document may be
abbrev pub IsTooLong : Parts → Type 0
IsTooLong p = (text : List ℕ) × IsWrittenText p text × (document_limit < length text)
