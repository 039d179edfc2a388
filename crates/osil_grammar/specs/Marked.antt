-- OSiL documents by their marks: the form, which roots are accepted and what they stand for, and which are refused.
use Rattle.std.specs.Prelude.{◌≡◌, ℕ, List, [], ◌∷◌, length, replicate}
use Rattle.tree_grammar.specs.Elements.{Element}
use Rattle.doc_tree.specs.Marks.{Mark}
use Rattle.tag_tests.specs.Forms.{Form, AreTaken, AreRefused}
pub use Rattle.tag_tests.specs.Readers.{marks}
use Rattle.instance.specs.declared.parts.Goal.{Goal}
use Rattle.instance.specs.declared.parts.Sense.TheVariants.{Min}
use Rattle.instance.specs.Parts.{Parts}
use Rattle.osil_grammar.specs.Refusals.{Refusal}
use Rattle.osil_grammar.specs.Grammars.{nought}
use Rattle.osil_grammar.specs.ParseState.{State, start}
use Rattle.osil_grammar.specs.Table.{Test, ToldRefusal, kind, tests, told}
use Rattle.osil_grammar.specs.Failing.{Fails}
use Rattle.osil_grammar.specs.Leaving.{Leaves}

abbrev pub osil : Form State Mark Test ToldRefusal
osil = record { tests = λ s m. tests (kind s m); Fails = Fails; told = told; Becomes = λ s m z. Leaves s m (kind s m) z }

-- the goals, in order; without an `obj` the one goal is to minimise 0
abbrev pub goals_said : List Goal → ℕ → List Goal
goals_said [] n = record { sense = Min; constant = nought; costs = replicate n nought } ∷ []
goals_said (g ∷ gs) n = g ∷ gs

-- what the marks have said is this instance
abbrev pub instance_of : State → Parts
instance_of s = record { vars = s.vars; rows = s.rows; entries = s.entries; goals = goals_said s.goals (length s.vars) }

-- all are taken, and this instance is said
abbrev pub StandsFor : Element → Parts → Type 0
StandsFor root p = (z : State) × AreTaken osil start (marks root) z × (p ≡ instance_of z)

-- the first that isn't taken refuses so
abbrev pub IsRefusedSo : Element → ToldRefusal → Type 0
IsRefusedSo root r = AreRefused osil start (marks root) r

-- nothing is refused; or the first that isn't taken is refused at the element with this ordinal
abbrev pub IsAccepted : Element → Type 0
IsAccepted root = (z : State) × AreTaken osil start (marks root) z

abbrev pub IsRefused : Element → Refusal → ℕ → Type 0
IsRefused root r n = IsRefusedSo root (record { refusal = r; at = n })
